use Rattle.std.proofs.Common.{List, ◌∙◌, ap, set}
use Rattle.std.proofs.lemmas.List.{map-set}
use Rattle.page_store.specs.Bays.{BaySeen, bay_seen, missing}
use Rattle.page_store.specs.declared.bays.Bay.TheVariants.{Missing}
use Rattle.page_store.proofs.bays.Bays.remove.Goals as goal

pub returns-clause-new : goal.returns-clause-new
returns-clause-new g c = rw c.replace.ensures.after (map-set (bay_seen g.D.Disk.seen) c.self.inside.bays.items c.args.number Missing ∙ ap
    (λ (l : List BaySeen). set l c.args.number missing) c.self.view_is)
