use Rattle.std.proofs.Common.{◌∙◌, length, arith, ap, false}
use Rattle.std.proofs.lemmas.List.{with_items_is}
use Rattle.swap_slots.proofs.SlotLemmas.{used_within, written}
use Rattle.swap_slots.proofs.SwapSlots.free.Goals as goal

pub give-requires-clause-within : goal.give-requires-clause-within
give-requires-clause-within c =
    omega (arith, used_within c.self.inside.words.items c.self.inside.slots c.args.slot c.args.self.now c.self.view_is c.requires, ap length c.as_mut_slice.ensures.value, c.self.invariant.enough)

pub returns : goal.returns
returns c =
    written c.as_mut_slice.result.now c.self.inside.words.items c.give.new.words _ c.self.inside.slots c.args.slot false c.args.self.now
    (with_items_is c.self.inside.words c.give.new.words (c.give.ensures.marks.lengths ∙ c.as_mut_slice.ensures.len))
    c.as_mut_slice.ensures.value c.self.view_is c.give.ensures.marks
    (used_within c.self.inside.words.items c.self.inside.slots c.args.slot c.args.self.now c.self.view_is c.requires)
