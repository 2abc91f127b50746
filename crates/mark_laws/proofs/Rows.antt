-- Blocks of disks, one of which is written.
use Rattle.std.proofs.Common.{◌≡◌, ℕ, List, [], Option, Some, None, refl, sym, subst}
use Rattle.std.specs.Prelude.{slice_index_or, is_some, IfSome}
use Rattle.page_store.specs.Bays.{block_of}

-- what is said of a told block, of a content that tells alike and has the block
pub told-alike : (P : List ℕ → Type 0) (block : ℕ) (c d : Option (List (List ℕ))) → is_some d ≡ is_some c → block_of d block ≡ block_of c block
    → IfSome c (λ blocks. P (slice_index_or blocks block [])) → IfSome d (λ blocks. P (slice_index_or blocks block []))
told-alike P block None None same bytes is = tt
told-alike P block None (Some d) same bytes is = absurd (cc)
told-alike P block (Some c) None same bytes is = tt
told-alike P block (Some c) (Some d) same bytes is = subst P (sym bytes) is

-- what holds of each told block holds of this
pub told-all : (P : List ℕ → Type 0) (block : ℕ) (c : Option (List (List ℕ))) → ((blocks : List (List ℕ)) → c ≡ Some blocks → P (slice_index_or blocks block [])) → IfSome c (λ blocks. P (slice_index_or blocks block []))
told-all P block None each = tt
told-all P block (Some blocks) each = each blocks refl
