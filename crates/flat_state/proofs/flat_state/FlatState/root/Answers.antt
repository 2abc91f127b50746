use Rattle.flat_state.proofs.Added.{either_flat, IsFlat-with_root}
use Rattle.flat_state.proofs.flat_state.FlatState.root.Goals as goal

pub invariant_of-self : goal.invariant_of-self
invariant_of-self c = either_flat c.self.inside.parts _ c.root.new.self c.root.result c.self.invariant (IsFlat-with_root c.self.inside.parts c.args.process c.self.invariant) c.root.ensures.ok c.root.ensures.err
