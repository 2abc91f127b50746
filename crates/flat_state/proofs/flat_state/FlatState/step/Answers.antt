use Rattle.flat_state.proofs.Steps.{step_flat}
use Rattle.flat_state.proofs.flat_state.FlatState.step.Goals as goal

pub invariant_of-self : goal.invariant_of-self
invariant_of-self c =
    step_flat c.self.inside.parts c.step.new.self c.args.entry.now c.step.result c.self.invariant c.requires.form c.step.ensures.exact c.step.ensures.next c.step.ensures.stays c.step.ensures.err
