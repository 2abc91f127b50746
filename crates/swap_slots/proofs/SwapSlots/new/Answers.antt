use Rattle.std.proofs.Common.{◌∙◌, ap, List, ℕ}
use Rattle.swap_slots.specs.Bits.{flags}
use Rattle.swap_slots.proofs.BitLemmas.{flags_zero}
use Rattle.swap_slots.proofs.SwapSlots.new.Goals as goal

pub returns : goal.returns
returns c =
    ap (λ (words : List ℕ). flags words c.args.slots) (c.in_ok-words.ensures.items_if_clones_equal (λ y same. same))
    ∙ flags_zero c.div_ceil-count.result c.args.slots
