use Rattle.std.proofs.Common.{List, ◌∙◌, ap, set}
use Rattle.std.proofs.lemmas.List.{map-set}
use Rattle.page_store.specs.Bays.{BaySeen, bay_seen, out}
use Rattle.page_store.specs.declared.bays.Bay.TheVariants.{Out}
use Rattle.page_store.proofs.bays.Bays.take.Goals as goal

pub returns-clause-new : goal.returns-clause-new
returns-clause-new g c = rw c.replace.ensures.after (map-set (bay_seen g.D.Disk.seen) c.self.inside.bays.items c.args.number (Out c.args.seat) ∙ ap
    (λ (l : List BaySeen). set l c.args.number (out c.args.seat)) c.self.view_is)
