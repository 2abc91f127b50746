use Rattle.std.proofs.Common.{ℕ, ◌≡◌, ◌<◌, ◌≤◌, ◌*◌, ◌∙◌, ap, sym, arith, nat_eq, replicate}
use Rattle.std.specs.Int.{bit_at}
use Rattle.std.proofs.lemmas.Nat.Bits.{bit_at_ones, bit_at-zero}
use Rattle.disk_mirror.proofs.BitLemmas.{word_bits-same}
use Rattle.disk_mirror.proofs.bits.BitMap.filled.Goals as goal
use Rattle.disk_mirror.proofs.bits.BitMap.filled.Goals.{then-bit, else-bit}

pub returns : goal.returns
returns c =
    let words : c.in_ok-words.words.items ≡ replicate c.div_ceil.result c.if-bit.word = c.in_ok-words.ensures.items_if_clones_equal (λ y same. same) in
    let enough : c.args.count ≤ 64 * c.div_ceil.result = omega (arith, c.div_ceil.ensures) in
    let each : (i : ℕ) → i < 64 → nat_eq (bit_at c.if-bit.word i) 1 ≡ c.args.bit =
    λ i small.
    elim c.if-bit.branch [
      | then-bit w ↦ ap (λ k. nat_eq (bit_at k i) 1) w.word-is ∙ ap (λ b. nat_eq b 1) (bit_at_ones 64 i small) ∙ sym w.if-bit.true
      | else-bit w ↦ ap (λ k. nat_eq (bit_at k i) 1) w.word-is ∙ ap (λ b. nat_eq b 1) (bit_at-zero i) ∙ sym w.if-bit.false
    ] in
    word_bits-same c.in_ok-words.words.items c.div_ceil.result c.args.count c.if-bit.word c.args.bit words enough each
