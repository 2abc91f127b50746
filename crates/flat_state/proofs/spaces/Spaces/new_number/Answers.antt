use Rattle.std.proofs.Common.{◌∙◌, sym}
use Rattle.flat_state.proofs.Slots.{new_number_is}
use Rattle.flat_state.proofs.spaces.Spaces.new_number.Goals as goal

pub returns-then-not-names_zero : goal.returns-then-not-names_zero
returns-then-not-names_zero c = new_number_is c.args.self.now c.loop-number.number (sym c.names_zero.ensures ∙ c.if-not-names_zero.true) c.loop-number.invariant
