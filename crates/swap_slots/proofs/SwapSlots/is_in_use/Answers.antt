use Rattle.std.proofs.Common.{◌∙◌, length, arith, ap}
use Rattle.swap_slots.proofs.SlotLemmas.{slot_within, used_flag}
use Rattle.swap_slots.proofs.SwapSlots.is_in_use.Goals as goal

pub is_set-requires : goal.is_set-requires
is_set-requires c =
    omega (arith, slot_within c.self.inside.words.items c.self.inside.slots c.args.slot c.args.self.now c.self.view_is c.requires, ap length c.deref.ensures.value, c.self.invariant.enough)

pub returns : goal.returns
returns c =
    c.is_set.ensures ∙ used_flag c.deref.result.now c.self.inside.words.items c.self.inside.slots c.args.slot c.args.self.now c.deref.ensures.value c.self.view_is
    (slot_within c.self.inside.words.items c.self.inside.slots c.args.slot c.args.self.now c.self.view_is c.requires)
