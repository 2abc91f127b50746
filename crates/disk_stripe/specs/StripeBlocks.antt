-- Laws of a stripe's blocks, which the stripe's own law cites; inside the crate.
use Rattle.std.proofs.Common.{ℕ, ◌≡◌, ◌+◌, ◌<◌, ◌/◌, ◌%◌, ap, sym, subst, inl, inr, arith, nat_eq, List, [], length, get_or, Option, Some, None}
use Rattle.std.specs.Prelude.{◌⊎◌, if◌then◌else◌}
use Rattle.std.proofs.lemmas.Bool.{cases_eq}
use Rattle.std.proofs.lemmas.List.FromFn.{get_or-map-range_with_len, length-map-range_with_len}
use Rattle.block_device.specs.DiskSeen.{IsBlock, AreBlocks, HasBlocks}
use Rattle.block_device.specs.Joins.{content_of_both}
use Rattle.disk_stripe.specs.StripeSeen.{stripe_block, stripe_blocks}

-- A number is even or odd.
pub parity : (n : ℕ) → (n % 2 ≡ 0) ⊎ (n % 2 ≡ 1)
parity n =
    elim (cases_eq (n % 2) 0) [
      | inl even ↦ inl even
      | inr odd ↦ inr (omega (arith, odd))
    ]

-- A block of even number is the first disk's block of half the number.
pub stripe_block-even : (first second : List (List ℕ)) (n : ℕ) → n % 2 ≡ 0 → stripe_block first second n ≡ get_or first (n / 2) []
stripe_block-even first second n even = ap (λ k. get_or (if nat_eq k 0 then first else second) (n / 2) []) even

-- A block of odd number is the second disk's block of half the number.
pub stripe_block-odd : (first second : List (List ℕ)) (n : ℕ) → n % 2 ≡ 1 → stripe_block first second n ≡ get_or second (n / 2) []
stripe_block-odd first second n odd = ap (λ k. get_or (if nat_eq k 0 then first else second) (n / 2) []) odd

-- A stripe has as many blocks as its two disks together.
pub length-stripe_blocks : (first second : List (List ℕ)) → length (stripe_blocks first second) ≡ length first + length second
length-stripe_blocks first second = length-map-range_with_len (stripe_block first second) 0 (length first + length second)

-- Among the blocks of a stripe each one stands at its number.
pub get_or-stripe_blocks : (first second : List (List ℕ)) (n : ℕ) → n < length first + length second → get_or (stripe_blocks first second) n [] ≡ stripe_block first second n
get_or-stripe_blocks first second n inside = get_or-map-range_with_len (stripe_block first second) 0 (length first + length second) n n [] inside (omega arith)

-- Each block of a stripe over disks of as many blocks is one of theirs.
stripe_block-IsBlock : (first second : List (List ℕ)) (n : ℕ) → length first ≡ length second → AreBlocks first → AreBlocks second → n < length first + length second → IsBlock (stripe_block first second n)
stripe_block-IsBlock first second n equal one other inside =
    elim (parity n) [
      | inl even ↦ subst IsBlock (sym (stripe_block-even first second n even)) (one (n / 2) (omega (arith, even, equal, inside)))
      | inr odd ↦ subst IsBlock (sym (stripe_block-odd first second n odd)) (other (n / 2) (omega (arith, odd, equal, inside)))
    ]

-- All blocks of a stripe over disks of as many blocks are whole, where those of both disks are.
pub stripe_blocks-AreBlocks : (first second : List (List ℕ)) → length first ≡ length second → AreBlocks first → AreBlocks second → AreBlocks (stripe_blocks first second)
stripe_blocks-AreBlocks first second equal one other n inside =
    let within : n < length first + length second = omega (arith, inside, length-stripe_blocks first second) in
    subst IsBlock (sym (get_or-stripe_blocks first second n within)) (stripe_block-IsBlock first second n equal one other within)

-- The content of a stripe is blocks of 4096 bytes.
pub stripe_has_blocks : (first second : Option (List (List ℕ))) (size other : ℕ) → HasBlocks first size → HasBlocks second other → size ≡ other → HasBlocks (content_of_both stripe_blocks first second) (size + other)
stripe_has_blocks None second size other a b equal = tt
stripe_has_blocks (Some xs) None size other a b equal = tt
stripe_has_blocks (Some xs) (Some ys) size other a b equal =
    (omega (arith, length-stripe_blocks xs ys, a.0, b.0), stripe_blocks-AreBlocks xs ys (omega (arith, a.0, b.0, equal)) a.1 b.1)
