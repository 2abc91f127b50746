use Rattle.std.proofs.Common.{ℕ, ◌≡◌, ◌≢◌, ◌<◌, ◌/◌, ◌%◌, ◌∙◌, ap, sym, length, arith, w64, nat_eq, get_or, set}
use Rattle.std.specs.Int.{bit_at}
use Rattle.std.proofs.lemmas.List.{get_or_default}
use Rattle.std.proofs.lemmas.Nat.Bits.{bit_at_set_same, bit_at_set_other, bit_at_clear_same, bit_at_clear_other}
use Rattle.disk_mirror.proofs.BitLemmas.{length-word_bits, word_bits-set}
use Rattle.disk_mirror.proofs.bits.BitMap.set.Goals as goal
use Rattle.disk_mirror.proofs.bits.BitMap.set.Goals.{then-bit, else-bit}

pub index_mut-word-requires : goal.index_mut-word-requires
index_mut-word-requires c =
    let all = c.self.inside.words.items in
    let inside : c.args.place < c.self.inside.count = omega (arith, c.requires, ap length c.self.view_is, length-word_bits all c.self.inside.count) in
    omega (arith, inside, c.self.invariant)

pub returns : goal.returns
returns c =
    let all = c.self.inside.words.items in
    let place = c.args.place in
    let word = c.if-bit.word in
    let inside : place < c.self.inside.count = omega (arith, c.requires, ap length c.self.view_is, length-word_bits all c.self.inside.count) in
    let there : place / 64 < length all = omega (arith, inside, c.self.invariant) in
    let old : c.index_mut-word.result.now ≡ get_or all (place / 64) 0 = c.index_mut-word.ensures.value ∙ get_or_default all (place / 64) c.index_mut-word.result.now 0 there in
    let low : place % 64 < 64 = omega arith in
    let has : nat_eq (bit_at word (place % 64)) 1 ≡ c.args.bit =
    elim c.if-bit.branch [
      | then-bit w ↦ ap (λ k. nat_eq (bit_at k (place % 64)) 1) w.word-is ∙ ap (λ b. nat_eq b 1) (bit_at_set_same w64 c.index_mut-word.result.now (place % 64) low) ∙ sym w.if-bit.true
      | else-bit w ↦ ap (λ k. nat_eq (bit_at k (place % 64)) 1) w.word-is ∙ ap (λ b. nat_eq b 1) (bit_at_clear_same w64 c.index_mut-word.result.now (place % 64) low) ∙ sym w.if-bit.false
    ] in
    let keeps : (i : ℕ) → i < 64 → i ≢ place % 64 → bit_at word i ≡ bit_at (get_or all (place / 64) 0) i =
    λ i small apart.
    elim c.if-bit.branch [
      | then-bit w ↦ ap (λ k. bit_at k i) w.word-is ∙ bit_at_set_other w64 c.index_mut-word.result.now (place % 64) low i apart ∙ ap (λ k. bit_at k i) old
      | else-bit w ↦ ap (λ k. bit_at k i) w.word-is ∙ bit_at_clear_other w64 c.index_mut-word.result.now (place % 64) low i small apart ∙ ap (λ k. bit_at k i) old
    ] in
    word_bits-set all c.self.inside.count place word c.args.bit inside (omega (arith, c.self.invariant)) has keeps ∙ ap (λ bits. set bits place c.args.bit) c.self.view_is
