use Rattle.std.proofs.Common.{List, Option, Some, None, ◌∙◌, ap, set}
use Rattle.std.proofs.lemmas.List.{set-set}
use Rattle.page_hash.specs.Names.{find}
use Rattle.page_hash.specs.declared.PageName.{PageName}
use Rattle.page_store.proofs.FrameLemmas.{absent-emptied}
use Rattle.page_store.proofs.frames.rename.Goals as goal

pub enter-requires-clause-absent : goal.enter-requires-clause-absent
enter-requires-clause-absent c =
    ap (λ (names : List (Option PageName)). find names c.args.name) c.forget.ensures.new
    ∙ absent-emptied c.args.names.now c.args.frame c.args.name c.requires.within c.requires.absent

pub returns-clause-new : goal.returns-clause-new
returns-clause-new c =
    c.enter.ensures.new
    ∙ ap (λ (names : List (Option PageName)). set names c.args.frame (Some c.args.name)) c.forget.ensures.new
    ∙ set-set c.args.names.now c.args.frame None (Some c.args.name)
