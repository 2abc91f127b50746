use Rattle.std.proofs.Common.{Option, Some, None, List, ◌∙◌, ap, set}
use Rattle.hat_layer.specs.declared.translation.Translation.{Translation}
use Rattle.std.proofs.lemmas.List.{set-set}
use Rattle.hat_layer.proofs.hat.replace.Goals as goal

pub returns-in-Some-clause-places : goal.returns-in-Some-clause-places
returns-in-Some-clause-places c =
    c.put-in-Some.ensures.places ∙ ap (λ (p : List (Option Translation)). set p c.args.place (Some c.args.new)) c.take.ensures.places
    ∙ set-set c.args.table.now.places c.args.place None (Some c.args.new)
