-- Which block of which disk a block of two disks as one is.
use Rattle.std.proofs.Common.{◌≡◌, ◌∙◌, ℕ, ◌+◌, ◌*◌, ◌<◌, ◌/◌, ◌%◌, ap, sym, subst, arith, inl, inr, true, false, List, [], length, get_or, Option, Some}
use Rattle.std.specs.Prelude.{◌⊎◌, Bool, IsTrue, IsFalse}
use Rattle.std.proofs.lemmas.Option.{same_Some}
use Rattle.disk_stripe.specs.block_device.DiskSeen.{DiskSeen}
use Rattle.disk_stripe.specs.StripeBlocks.{get_or-stripe_blocks, stripe_block-even, stripe_block-odd}
use Rattle.disk_stripe.specs.StripeSeen.{stripe_block, stripe_blocks, stripe_seen}
use Rattle.disk_stripe.specs.block_device.Joins.{content_of_both}
use Rattle.disk_mirror.specs.MirrorBlocks.{get_or-mirror_blocks, mirror_block-fresh, mirror_block-stale, true_or_false}
use Rattle.disk_mirror.specs.MirrorSeen.{is_fresh, mirror_blocks, mirror_disk}
use Rattle.joined_disk.specs.JoinedSeen.{IsBoth, IsMirrorOf}
use Rattle.joined_disk.specs.JoinedLaws.{AreInTurn, IsOnEither, MirrorsBlocks, StripesBlocks, TellBlocks}

-- what two disks that tell have as one
made-so : (make : List (List ℕ) → List (List ℕ) → List (List ℕ)) (a b disk : DiskSeen) (t : TellBlocks a b disk) → disk.content ≡ content_of_both make a.content b.content → t.blocks ≡ make t.first t.second
made-so make a b disk t is =
    same_Some t.blocks (make t.first t.second)
    (sym t.of_disk ∙ is ∙ ap (λ (o : Option (List (List ℕ))). content_of_both make o b.content) t.of_a ∙ ap (content_of_both make (Some t.first)) t.of_b)

module _ (a b disk : DiskSeen) (t : TellBlocks a b disk) (m : IsMirrorOf a b disk) (n : ℕ) (low : n < disk.size) where
  within : n < length m.fresh_a
  within = let size = ap (λ (d : DiskSeen). d.size) m.seen in let marks = m.marks_a in omega (arith, low, size, marks)

  is-block : get_or t.blocks n [] ≡ get_or (mirror_blocks m.fresh_a t.first t.second) n []
  is-block = ap (λ (bs : List (List ℕ)). get_or bs n []) (made-so (mirror_blocks m.fresh_a) a b disk t (ap (λ (d : DiskSeen). d.content) m.seen))

  on-first : is_fresh m.fresh_a n ≡ true → get_or t.blocks n [] ≡ get_or t.first n []
  on-first fresh = is-block ∙ get_or-mirror_blocks m.fresh_a t.first t.second n within ∙ mirror_block-fresh m.fresh_a t.first t.second n fresh

  on-second : is_fresh m.fresh_a n ≡ false → get_or t.blocks n [] ≡ get_or t.second n []
  on-second stale = is-block ∙ get_or-mirror_blocks m.fresh_a t.first t.second n within ∙ mirror_block-stale m.fresh_a t.first t.second n stale

  on-either : IsOnEither t.first t.second t.blocks n
  on-either = elim (true_or_false (is_fresh m.fresh_a n)) [ inl fresh ↦ inl (on-first fresh) | inr stale ↦ inr (on-second stale) ]

  second-too : IsTrue (is_fresh m.fresh_b n) → get_or t.blocks n [] ≡ get_or t.second n []
  second-too also = elim (true_or_false (is_fresh m.fresh_a n)) [
    | inl fresh ↦ on-first fresh ∙ m.same t.first t.of_a t.second t.of_b n fresh also
    | inr stale ↦ on-second stale
  ]

pub mirrors : (a b disk : DiskSeen) (t : TellBlocks a b disk) → IsTrue disk.kind.mirror → MirrorsBlocks a b disk t
mirrors a b disk t is =
    let m : IsMirrorOf a b disk = subst (λ (mirror : Bool). IsBoth mirror a b disk) is t.seen.1 in
    record {
      size = ap (λ (d : DiskSeen). d.size) m.seen;
      either = on-either a b disk t m;
      fresh_a = λ other. on-first a b disk t other;
      fresh_b = λ other. second-too a b disk t other;
    }

pub stripes : (a b disk : DiskSeen) (t : TellBlocks a b disk) → IsFalse disk.kind.mirror → StripesBlocks a b disk t
stripes a b disk t is = record { size = ap (λ (d : DiskSeen). d.size) seen; turns = turns }
  where
    seen : disk ≡ stripe_seen a b
    seen = subst (λ (mirror : Bool). IsBoth mirror a b disk) is t.seen.1

    block : (k : ℕ) → k < a.size + b.size → get_or t.blocks k [] ≡ stripe_block t.first t.second k
    block k low =
        let one = t.long_a in let two = t.long_b in
        ap (λ (bs : List (List ℕ)). get_or bs k []) (made-so stripe_blocks a b disk t (ap (λ (d : DiskSeen). d.content) seen))
        ∙ get_or-stripe_blocks t.first t.second k (omega (arith, low, one, two))

    turns : (n : ℕ) → n < a.size → AreInTurn t.first t.second t.blocks n
    turns n low =
        let equal = t.seen.0 in
        let half : (2 * n) / 2 ≡ n = omega arith in
        let behind : (2 * n + 1) / 2 ≡ n = omega arith in (
          block (2 * n) (omega (arith, low, equal)) ∙ stripe_block-even t.first t.second (2 * n) (omega arith) ∙ ap (λ (k : ℕ). get_or t.first k []) half,
          block (2 * n + 1) (omega (arith, low, equal)) ∙ stripe_block-odd t.first t.second (2 * n + 1) (omega arith) ∙ ap (λ (k : ℕ). get_or t.second k []) behind,
        )
