-- Laws of a mirror's blocks, which the mirror's own law cites; inside the crate.
use Rattle.std.proofs.Common.{ℕ, ◌≡◌, ◌<◌, ◌∙◌, ap, sym, subst, refl, arith, Bool, true, false, inl, inr, List, [], length, get_or, Option, Some, None}
use Rattle.std.specs.Prelude.{◌⊎◌, if◌then◌else◌}
use Rattle.std.proofs.lemmas.List.FromFn.{get_or-map-range_with_len, length-map-range_with_len}
use Rattle.block_device.specs.DiskSeen.{IsBlock, AreBlocks, HasBlocks}
use Rattle.block_device.specs.Joins.{content_of_both}
use Rattle.disk_mirror.specs.MirrorSeen.{is_fresh, mirror_block, mirror_blocks}

-- A truth value is true or false.
pub true_or_false : (b : Bool) → (b ≡ true) ⊎ (b ≡ false)
true_or_false true = inl refl
true_or_false false = inr refl

-- A block that is fresh on the first disk is the first disk's.
pub mirror_block-fresh : (fresh_a : List Bool) (first second : List (List ℕ)) (n : ℕ) → is_fresh fresh_a n ≡ true → mirror_block fresh_a first second n ≡ get_or first n []
mirror_block-fresh fresh_a first second n fresh = ap (λ (b : Bool). get_or (if b then first else second) n []) fresh

-- A block that isn't fresh on the first disk is the second disk's.
pub mirror_block-stale : (fresh_a : List Bool) (first second : List (List ℕ)) (n : ℕ) → is_fresh fresh_a n ≡ false → mirror_block fresh_a first second n ≡ get_or second n []
mirror_block-stale fresh_a first second n stale = ap (λ (b : Bool). get_or (if b then first else second) n []) stale

-- A mirror has as many blocks as marks of its first disk.
pub length-mirror_blocks : (fresh_a : List Bool) (first second : List (List ℕ)) → length (mirror_blocks fresh_a first second) ≡ length fresh_a
length-mirror_blocks fresh_a first second = length-map-range_with_len (mirror_block fresh_a first second) 0 (length fresh_a)

-- Among the blocks of a mirror each one stands at its number.
pub get_or-mirror_blocks : (fresh_a : List Bool) (first second : List (List ℕ)) (n : ℕ) → n < length fresh_a → get_or (mirror_blocks fresh_a first second) n [] ≡ mirror_block fresh_a first second n
get_or-mirror_blocks fresh_a first second n inside = get_or-map-range_with_len (mirror_block fresh_a first second) 0 (length fresh_a) n n [] inside (omega arith)

-- All blocks of a mirror with a mark for each block are whole, where those of both its disks are.
mirror_blocks-AreBlocks : (fresh_a : List Bool) (first second : List (List ℕ)) → length fresh_a ≡ length first → length fresh_a ≡ length second → AreBlocks first → AreBlocks second → AreBlocks (mirror_blocks fresh_a first second)
mirror_blocks-AreBlocks fresh_a first second long_a long_b one other n inside =
    let within : n < length fresh_a = omega (arith, inside, length-mirror_blocks fresh_a first second) in
    let in_first : n < length first = omega (arith, within, long_a) in
    let in_second : n < length second = omega (arith, within, long_b) in
    subst IsBlock (sym (get_or-mirror_blocks fresh_a first second n within))
    (elim (true_or_false (is_fresh fresh_a n)) [
      | inl fresh ↦ subst IsBlock (sym (mirror_block-fresh fresh_a first second n fresh)) (one n in_first)
      | inr stale ↦ subst IsBlock (sym (mirror_block-stale fresh_a first second n stale)) (other n in_second)
    ])

-- The content of a mirror is blocks of 4096 bytes.
pub mirror_has_blocks : (fresh_a : List Bool) (first second : Option (List (List ℕ))) (size other : ℕ) → HasBlocks first size → HasBlocks second other → size ≡ other → length fresh_a ≡ size → HasBlocks (content_of_both (mirror_blocks fresh_a) first second) size
mirror_has_blocks fresh_a None second size other a b equal marks = tt
mirror_has_blocks fresh_a (Some xs) None size other a b equal marks = tt
mirror_has_blocks fresh_a (Some xs) (Some ys) size other a b equal marks =
    (length-mirror_blocks fresh_a xs ys ∙ marks, mirror_blocks-AreBlocks fresh_a xs ys (marks ∙ sym a.0) (marks ∙ equal ∙ sym b.0) a.1 b.1)
