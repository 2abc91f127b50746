-- Disks that begin blank.
use Rattle.std.proofs.Common.{ℕ, zero, suc, ◌+◌, ◌-◌, ◌≡◌, ◌≢◌, ◌<◌, ◌≤◌, List, [], ◌∷◌, ◌++◌, length, length-append, map, set, get_or, get_or-set_same, replicate, Option, Some, None, refl, ap, sym, ◌∙◌, ◌⊎◌, inl, inr, subst, arith}
use Rattle.std.proofs.lemmas.List.{length-map, length-replicate, map-append, append_assoc, set-append_left, length-set, get_or-replicate, get_or-set_other, replicate-append-replicate, replicate_more, set-get_or}
use Rattle.std.proofs.lemmas.Bool.Decides.{eqb_tells}
use Rattle.disk_file.specs.block_device.MemSeen.{blank_blocks}
use Rattle.disk_file.specs.block_device.declared.block.Block.{Block}
use Rattle.sunvm.specs.BlankDisks.{blank_content, written_at, block_shown}
use Rattle.sunvm.specs.BlankPlaces.{AreBlockPlaces, written_of}

-- MORE BLOCKS THAT WEREN'T WRITTEN: each block has the place that it had.
pub same-place : (places : List (Option ℕ)) (more i : ℕ) → get_or (places ++ replicate more None) i None ≡ get_or places i None
same-place [] zero i = refl
same-place [] (suc more) zero = refl
same-place [] (suc more) (suc i) = same-place [] more i
same-place (o ∷ places) more zero = refl
same-place (o ∷ places) more (suc i) = same-place places more i

same-count : (places : List (Option ℕ)) (more : ℕ) → written_of (places ++ replicate more None) ≡ written_of places
same-count [] zero = refl
same-count [] (suc more) = same-count [] more
same-count (None ∷ places) more = same-count places more
same-count (Some place ∷ places) more = ap (λ (n : ℕ). n + 1) (same-count places more)

pub placed-none : AreBlockPlaces [] 0
placed-none = record { within = λ i place is. absurd (let z : None ≡ Some place = is in cc); apart = λ i j place is too. absurd (let z : None ≡ Some place = is in cc); counted = refl }

pub placed-more : (places : List (Option ℕ)) (count more : ℕ) → AreBlockPlaces places count → AreBlockPlaces (places ++ replicate more None) count
placed-more places count more p = record {
  within = λ i place is. p.within i place (sym (same-place places more i) ∙ is);
  apart = λ i j place is too. p.apart i j place (sym (same-place places more i) ∙ is) (sym (same-place places more j) ∙ too);
  counted = same-count places more ∙ p.counted;
}

-- One more.
pub one-more-none : (places : List (Option ℕ)) (count : ℕ) → length places ≤ count → (places ++ replicate (count - length places) None) ++ None ∷ [] ≡ places ++ replicate (count + 1 - length places) None
one-more-none places count le =
    append_assoc places (replicate (count - length places) None) (None ∷ [])
    ∙ ap (λ (l : List (Option ℕ)). places ++ l) (replicate_more (count - length places) None ∙ ap (λ (n : ℕ). replicate n None) (omega (arith, le)))

-- the bytes of blocks that weren't written are zeros
blank-of-none : (written : List Block) (more : ℕ) → map (block_shown written) (replicate more None) ≡ blank_blocks more
blank-of-none written zero = refl
blank-of-none written (suc more) = ap (λ (l : List (List ℕ)). replicate 4096 0 ∷ l) (blank-of-none written more)

pub content-more : (places : List (Option ℕ)) (written : List Block) (size more : ℕ) → length places + more ≤ size → blank_content (places ++ replicate more None) written size ≡ blank_content places written size
content-more places written size more fits =
    let n : ℕ = size - (length places + more) in
    let counted : length (places ++ replicate more None) ≡ length places + more = length-append places (replicate more None) ∙ ap (λ (k : ℕ). length places + k) (length-replicate more None) in
    let all : more + n ≡ size - length places = omega (arith, fits) in
    ap (λ (k : ℕ). map (block_shown written) (places ++ replicate more None) ++ blank_blocks (size - k)) counted
    ∙ ap (λ (l : List (List ℕ)). l ++ blank_blocks n) (map-append (block_shown written) places (replicate more None) ∙ ap (λ (l : List (List ℕ)). map (block_shown written) places ++ l) (blank-of-none written more))
    ∙ append_assoc (map (block_shown written) places) (blank_blocks more) (blank_blocks n)
    ∙ ap (λ (l : List (List ℕ)). map (block_shown written) places ++ l) (replicate-append-replicate more n (replicate 4096 0) ∙ ap blank_blocks all)

-- A BLOCK IS WRITTEN FIRST, in a place behind the others.
none-less : (places : List (Option ℕ)) (i : ℕ) → i < length places → get_or places i None ≡ None → written_of places < length places
none-less [] i inside none = absurd (omega (arith, inside))
none-less (None ∷ places) zero inside none = let le = all-at-most places in omega (arith, le)
  where
    all-at-most : (ps : List (Option ℕ)) → written_of ps ≤ length ps
    all-at-most [] = omega arith
    all-at-most (None ∷ ps) = let le = all-at-most ps in omega (arith, le)
    all-at-most (Some place ∷ ps) = let le = all-at-most ps in omega (arith, le)
none-less (Some place ∷ places) zero inside none = absurd (let z : Some place ≡ None = none in cc)
none-less (None ∷ places) (suc i) inside none = let le = none-less places i (omega (arith, inside)) none in omega (arith, le)
none-less (Some place ∷ places) (suc i) inside none = let le = none-less places i (omega (arith, inside)) none in omega (arith, le)

one-more : (places : List (Option ℕ)) (i place : ℕ) → i < length places → get_or places i None ≡ None → written_of (set places i (Some place)) ≡ written_of places + 1
one-more [] i place inside none = absurd (omega (arith, inside))
one-more (None ∷ places) zero place inside none = refl
one-more (Some other ∷ places) zero place inside none = absurd (let z : Some other ≡ None = none in cc)
one-more (None ∷ places) (suc i) place inside none = one-more places i place (omega (arith, inside)) none
one-more (Some other ∷ places) (suc i) place inside none = ap (λ (n : ℕ). n + 1) (one-more places i place (omega (arith, inside)) none)

-- the places but for one
case_at : (places : List (Option ℕ)) (i k place j : ℕ) → i < length places → get_or (set places i (Some k)) j None ≡ Some place → ((j ≡ i) × (place ≡ k)) ⊎ ((j ≢ i) × (get_or places j None ≡ Some place))
case_at places i k place j inside is = elim (eqb_tells j i) [
  | inl same ↦ inl (same.1, (let z : Some place ≡ Some k = sym is ∙ ap (λ (n : ℕ). get_or (set places i (Some k)) n None) same.1 ∙ get_or-set_same places i (Some k) None inside in cc))
  | inr apart ↦ inr (apart.1, sym (get_or-set_other places i j (Some k) None apart.1) ∙ is)
]

pub placed-first : (places : List (Option ℕ)) (count i : ℕ) → i < length places → get_or places i None ≡ None → AreBlockPlaces places count → AreBlockPlaces (set places i (Some count)) (count + 1)
placed-first places count i inside none p = record {
  within = λ j place is. elim (case_at places i count place j inside is) [
    | inl here ↦ let e = here.1 in omega (arith, e)
    | inr there ↦ let lt = p.within j place there.1 in omega (arith, lt)
  ];
  apart = λ j k place is too. elim (case_at places i count place j inside is) [
    | inl here ↦ elim (case_at places i count place k inside too) [
      | inl also ↦ here.0 ∙ sym also.0
      | inr there ↦ let lt = p.within k place there.1 in let e = here.1 in absurd (omega (arith, lt, e))
    ]
    | inr there ↦ elim (case_at places i count place k inside too) [
      | inl here ↦ let lt = p.within j place there.1 in let e = here.1 in absurd (omega (arith, lt, e))
      | inr also ↦ p.apart j k place there.1 also.1
    ]
  ];
  counted = one-more places i count inside none ∙ ap (λ (n : ℕ). n + 1) p.counted;
}

-- bytes of places of another list
same-bytes : (f g : Option ℕ → List ℕ) (places : List (Option ℕ)) → ((j : ℕ) → j < length places → g (get_or places j None) ≡ f (get_or places j None)) → map g places ≡ map f places
same-bytes f g [] same = refl
same-bytes f g (o ∷ places) same =
    ap (λ (b : List ℕ). b ∷ map g places) (same 0 (omega arith)) ∙ ap (λ (l : List (List ℕ)). f o ∷ l) (same-bytes f g places (λ j lt. same (suc j) (omega (arith, lt))))

bytes-but : (f g : Option ℕ → List ℕ) (places : List (Option ℕ)) (i : ℕ) (o : Option ℕ) → i < length places → ((j : ℕ) → j < length places → j ≢ i → g (get_or places j None) ≡ f (get_or places j None)) → map g (set places i o) ≡ set (map f places) i (g o)
bytes-but f g [] i o inside same = absurd (omega (arith, inside))
bytes-but f g (p ∷ places) zero o inside same = ap (λ (l : List (List ℕ)). g o ∷ l) (same-bytes f g places (λ j lt. same (suc j) (omega (arith, lt)) (λ e. omega (arith, e))))
bytes-but f g (p ∷ places) (suc i) o inside same =
    ap (λ (b : List ℕ). b ∷ map g (set places i o)) (same 0 (omega arith) (λ e. omega (arith, e)))
    ∙ ap (λ (l : List (List ℕ)). f p ∷ l) (bytes-but f g places i o (omega (arith, inside)) (λ j lt ne. same (suc j) (omega (arith, lt)) (λ e. ne (omega (arith, e)))))

bytes-before : (written : List Block) (b : Block) (place : ℕ) → place < length written → written_at (written ++ b ∷ []) place ≡ written_at written place
bytes-before [] b place lt = absurd (omega (arith, lt))
bytes-before (w ∷ written) b zero lt = refl
bytes-before (w ∷ written) b (suc place) lt = bytes-before written b place (omega (arith, lt))

bytes-last : (written : List Block) (b : Block) → written_at (written ++ b ∷ []) (length written) ≡ b.bytes
bytes-last [] b = refl
bytes-last (w ∷ written) b = bytes-last written b

bytes-kept : (written : List Block) (b : Block) (o : Option ℕ) → ((place : ℕ) → o ≡ Some place → place < length written) → block_shown (written ++ b ∷ []) o ≡ block_shown written o
bytes-kept written b None within = refl
bytes-kept written b (Some place) within = bytes-before written b place (within place refl)

-- a block in front of blank ones
set-in-front : (places : List (Option ℕ)) (blocks : List (List ℕ)) (size i : ℕ) (bytes : List ℕ) → i < length blocks → set blocks i bytes ++ blank_blocks (size - length places) ≡ set (blocks ++ blank_blocks (size - length places)) i bytes
set-in-front places blocks size i bytes inside = sym (set-append_left blocks (blank_blocks (size - length places)) i bytes inside)

pub content-first : (places : List (Option ℕ)) (written : List Block) (size i : ℕ) (b : Block) → i < length places → AreBlockPlaces places (length written)
    → blank_content (set places i (Some (length written))) (written ++ b ∷ []) size ≡ set (blank_content places written size) i b.bytes
content-first places written size i b inside p =
    let new : List Block = written ++ b ∷ [] in
    let own : List (Option ℕ) = set places i (Some (length written)) in
    ap (λ (n : ℕ). map (block_shown new) own ++ blank_blocks (size - n)) (length-set places i (Some (length written)))
    ∙ ap (λ (l : List (List ℕ)). l ++ blank_blocks (size - length places))
    (bytes-but (block_shown written) (block_shown new) places i (Some (length written)) inside (λ j lt ne. bytes-kept written b (get_or places j None) (λ place is. p.within j place is))
    ∙ ap (set (map (block_shown written) places) i) (bytes-last written b))
    ∙ set-in-front places (map (block_shown written) places) size i b.bytes (let l = length-map places (block_shown written) in omega (arith, l, inside))

-- What the disk is then.
module _ (places : List (Option ℕ)) (written : List Block) (size i : ℕ) (inside : i < size) (few : length places ≤ size) (none : get_or places i None ≡ None) (p : AreBlockPlaces places (length written)) where
  abbrev all : List (Option ℕ)
  all = places ++ replicate (i + 1 - length places) None

  long : length all ≡ length places + (i + 1 - length places)
  long = length-append places (replicate (i + 1 - length places) None) ∙ ap (λ (k : ℕ). length places + k) (length-replicate (i + 1 - length places) None)

  within-all : i < length all
  within-all = let l = long in omega (arith, l)

  none-there : get_or all i None ≡ None
  none-there = same-place places (i + 1 - length places) i ∙ none

  pub room : length written < size
  room =
      let less = none-less all i within-all none-there in
      let same = same-count places (i + 1 - length places) in
      let counted = p.counted in
      let l = long in
      omega (arith, less, same, counted, l, inside, few)

  pub few-new : length (set all i (Some (length written))) ≤ size
  few-new = let l = long in let same = length-set all i (Some (length written)) in omega (arith, l, same, inside, few)

  pub placed-new : AreBlockPlaces (set all i (Some (length written))) (length written + 1)
  placed-new = placed-first all (length written) i within-all none-there (placed-more places (length written) (i + 1 - length places) p)

  pub content-new : (b : Block) → blank_content (set all i (Some (length written))) (written ++ b ∷ []) size ≡ set (blank_content places written size) i b.bytes
  content-new b =
      content-first all written size i b within-all (placed-more places (length written) (i + 1 - length places) p)
      ∙ ap (λ (l : List (List ℕ)). set l i b.bytes) (content-more places written size (i + 1 - length places) (omega (arith, inside, few)))

-- A BLOCK IS WRITTEN AGAIN.
bytes-own : (written : List Block) (b : Block) (place : ℕ) → place < length written → written_at (set written place b) place ≡ b.bytes
bytes-own [] b place lt = absurd (omega (arith, lt))
bytes-own (w ∷ written) b zero lt = refl
bytes-own (w ∷ written) b (suc place) lt = bytes-own written b place (omega (arith, lt))

bytes-else : (written : List Block) (b : Block) (place other : ℕ) → other ≢ place → written_at (set written place b) other ≡ written_at written other
bytes-else [] b place other ne = refl
bytes-else (w ∷ written) b zero zero ne = absurd (ne refl)
bytes-else (w ∷ written) b zero (suc other) ne = refl
bytes-else (w ∷ written) b (suc place) zero ne = refl
bytes-else (w ∷ written) b (suc place) (suc other) ne = bytes-else written b place other (λ e. ne (ap (λ (n : ℕ). suc n) e))

bytes-elsewhere : (written : List Block) (b : Block) (place : ℕ) (o : Option ℕ) → o ≢ Some place → block_shown (set written place b) o ≡ block_shown written o
bytes-elsewhere written b place None ne = refl
bytes-elsewhere written b place (Some other) ne = bytes-else written b place other (λ e. ne (ap (λ (n : ℕ). Some n) e))

some-inside : (places : List (Option ℕ)) (i place : ℕ) → get_or places i None ≡ Some place → i < length places
some-inside [] i place is = absurd (let z : None ≡ Some place = is in cc)
some-inside (o ∷ places) zero place is = omega arith
some-inside (o ∷ places) (suc i) place is = let lt = some-inside places i place is in omega (arith, lt)

set-own : (places : List (Option ℕ)) (i place : ℕ) → get_or places i None ≡ Some place → set places i (Some place) ≡ places
set-own places i place is = ap (set places i) (sym is) ∙ set-get_or places i None

pub content-again : (places : List (Option ℕ)) (written : List Block) (size i place : ℕ) (b : Block) → get_or places i None ≡ Some place → AreBlockPlaces places (length written)
    → blank_content places (set written place b) size ≡ set (blank_content places written size) i b.bytes
content-again places written size i place b is p =
    let new : List Block = set written place b in
    let inside : i < length places = some-inside places i place is in
    ap (λ (l : List (List ℕ)). l ++ blank_blocks (size - length places))
    (ap (map (block_shown new)) (sym (set-own places i place is))
    ∙ bytes-but (block_shown written) (block_shown new) places i (Some place) inside (λ j lt ne. bytes-elsewhere written b place (get_or places j None) (λ e. ne (p.apart j i place e is)))
    ∙ ap (set (map (block_shown written) places) i) (bytes-own written b place (p.within i place is)))
    ∙ set-in-front places (map (block_shown written) places) size i b.bytes (let l = length-map places (block_shown written) in omega (arith, l, inside))

-- WHAT IS READ: the block of its place, or zeros.
pub bytes-or : (written : List Block) (place : ℕ) (other : Block) → place < length written → written_at written place ≡ (get_or written place other).bytes
bytes-or [] place other lt = absurd (omega (arith, lt))
bytes-or (w ∷ written) zero other lt = refl
bytes-or (w ∷ written) (suc place) other lt = bytes-or written place other (omega (arith, lt))

in-blank : (places : List (Option ℕ)) (written : List Block) (blank i : ℕ) → i < length places + blank → get_or (map (block_shown written) places ++ blank_blocks blank) i [] ≡ block_shown written (get_or places i None)
in-blank [] written blank i inside = get_or-replicate blank i (replicate 4096 0) [] (omega (arith, inside))
in-blank (o ∷ places) written blank zero inside = refl
in-blank (o ∷ places) written blank (suc i) inside = in-blank places written blank i (omega (arith, inside))

in-content : (places : List (Option ℕ)) (written : List Block) (size i : ℕ) → i < size → length places ≤ size → get_or (blank_content places written size) i [] ≡ block_shown written (get_or places i None)
in-content places written size i inside few = in-blank places written (size - length places) i (omega (arith, inside, few))

pub blank-read : (places : List (Option ℕ)) (written : List Block) (size i : ℕ) → i < size → length places ≤ size → get_or places i None ≡ None → get_or (blank_content places written size) i [] ≡ replicate 4096 0
blank-read places written size i inside few none = in-content places written size i inside few ∙ ap (block_shown written) none

pub written-read : (places : List (Option ℕ)) (written : List Block) (size i place : ℕ) → i < size → length places ≤ size → get_or places i None ≡ Some place → get_or (blank_content places written size) i [] ≡ written_at written place
written-read places written size i place inside few is = in-content places written size i inside few ∙ ap (block_shown written) is
