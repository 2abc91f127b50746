use Rattle.std.proofs.Common.{List, ◌∙◌, ap, set}
use Rattle.std.proofs.lemmas.List.{map-set}
use Rattle.page_store.specs.Bays.{BaySeen, bay_seen, home}
use Rattle.page_store.specs.declared.bays.Bay.TheVariants.{Home}
use Rattle.page_store.proofs.bays.Bays.put.Goals as goal

pub returns : goal.returns
returns g c = map-set (bay_seen g.D.Disk.seen) c.self.inside.bays.items c.args.number (Home c.args.disk)
    ∙ ap (λ (l : List BaySeen). set l c.args.number (home (g.D.Disk.seen c.args.disk))) c.self.view_is
