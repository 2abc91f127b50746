use Rattle.std.proofs.Common.{◌∙◌, length, arith, ap, true}
use Rattle.std.proofs.lemmas.List.{with_items_is}
use Rattle.swap_slots.proofs.SlotLemmas.{least_first, least_none, written}
use Rattle.swap_slots.proofs.SwapSlots.alloc.Goals as goal

pub returns-in_err-slot-clause-least : goal.returns-in_err-slot-clause-least
returns-in_err-slot-clause-least c =
    c.from_residual.ensures
    ∙ least_none c.deref.result.now c.self.inside.words.items c.self.inside.slots c.args.self.now c.deref.ensures.value c.self.view_is
    (λ k lt. c.in_err-slot.ensures.none k (omega (arith, c.self.invariant.enough, ap length c.deref.ensures.value)))

pub returns-then-slot-self-clause-least : goal.returns-then-slot-self-clause-least
returns-then-slot-self-clause-least c =
    least_none c.deref.result.now c.self.inside.words.items c.self.inside.slots c.args.self.now c.deref.ensures.value c.self.view_is
    (λ k lt. c.in_ok-slot.ensures.first k (omega arith))

pub returns-clause-least : goal.returns-clause-least
returns-clause-least c =
    least_first c.deref.result.now c.self.inside.words.items c.self.inside.slots c.in_ok-slot.slot c.args.self.now c.deref.ensures.value c.self.view_is
    c.if-slot-self.false c.in_ok-slot.ensures.clear c.in_ok-slot.ensures.first

pub returns-clause-taken : goal.returns-clause-taken
returns-clause-taken c =
    written c.as_mut_slice.result.now c.self.inside.words.items c.take.new.words _ c.self.inside.slots c.in_ok-slot.slot true c.args.self.now
    (with_items_is c.self.inside.words c.take.new.words (c.take.ensures.marks.lengths ∙ c.as_mut_slice.ensures.len))
    c.as_mut_slice.ensures.value c.self.view_is c.take.ensures.marks c.if-slot-self.false
