use Rattle.std.proofs.Common.{subst, sym}
use Rattle.flat_model.specs.Flat.{IsFlat}
use Rattle.flat_model.proofs.Opened.{IsFlat-opening}
use Rattle.flat_state.proofs.flat_state.FlatState.new.Goals as goal

pub invariant_of-result : goal.invariant_of-result
invariant_of-result c = subst IsFlat (sym c.new.ensures) (IsFlat-opening c.args.slots)
