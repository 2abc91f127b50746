use Rattle.std.proofs.Common.{Option, ℕ, sym, subst}
use Rattle.seg_ops.specs.Rooms.{ChoosesBeside}
use Rattle.seg_ops.proofs.Besides.{chosen-any}
use Rattle.seg_ops.proofs.rooms.victim_but.Goals as goal

pub returns-in-Some-clause-chooses : goal.returns-in-Some-clause-chooses
returns-in-Some-clause-chooses g c = subst (λ (b : Option ℕ). ChoosesBeside c.args.store.now b c.victim_beside.result) (sym c.in-Some.is) c.victim_beside.ensures.chooses

pub returns-in-None-clause-chooses : goal.returns-in-None-clause-chooses
returns-in-None-clause-chooses g c = subst (λ (b : Option ℕ). ChoosesBeside c.args.store.now b c.victim.result) (sym c.in-None.is) (chosen-any c.args.store.now c.victim.result c.victim.ensures)
