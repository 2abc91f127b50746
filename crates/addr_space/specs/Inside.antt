-- How the spans and the pieces are kept: two lists of one length, by rising page. Inside: no public clause cites this.
use Rattle.std.specs.Prelude.{◌≡◌, ◌≢◌, ℕ, ◌+◌, ◌<◌, ◌≤◌, ◌&&◌, nat_lt, nat_le, Bool, true, false, List, [], ◌∷◌, Option, Some, None, length, slice_index_or, zero, suc, if◌then◌else◌}
use Rattle.addr_space.specs.declared.ranges.Span.{Span}
use Rattle.addr_space.specs.Space.{Part, part, page_total, IsInOrder}

-- each span with its piece
abbrev pub span_parts : {T : Type 0} → List Span → List T → List (Part T)
span_parts [] xs = []
span_parts (s ∷ ss) [] = []
span_parts (s ∷ ss) (x ∷ xs) = part s.first s.pages x ∷ span_parts ss xs

-- how many spans at the front begin below the bound
abbrev pub count_below : ℕ → List Span → ℕ
count_below bound [] = 0
count_below bound (s ∷ ss) = if nat_lt s.first bound then suc (count_below bound ss) else 0

-- there is a piece for each span, and the parts that they make lie in order from page 1 on
pub record IsSoundRanges {T : Type 0} (spans : List Span) (pieces : List T) : Type 0 where
  pub lengths : length spans ≡ length pieces
  pub ordered : IsInOrder 1 (span_parts spans pieces)

-- the total is that of the pieces' pages
pub record IsCountedRanges {T : Type 0} (spans : List Span) (pieces : List T) (total : ℕ) : Type 0 where
  pub sound : IsSoundRanges spans pieces
  pub counted : total ≡ page_total (span_parts spans pieces)

-- the span has the page
abbrev pub covers : Span → ℕ → Bool
covers s page = nat_le s.first page && nat_lt page (s.first + s.pages)

-- the span at the place is the first that has the page
abbrev pub IsHolder : ℕ → List Span → ℕ → Type 0
IsHolder page [] i = ⊥
IsHolder page (s ∷ ss) zero = covers s page ≡ true
IsHolder page (s ∷ ss) (suc i) = (covers s page ≡ false) × IsHolder page ss i

-- no span has the page
abbrev pub NoneHolds : ℕ → List Span → Type 0
NoneHolds page [] = Unit {0}
NoneHolds page (s ∷ ss) = (covers s page ≡ false) × NoneHolds page ss

-- the place of the first span that has the page, or none where no span has it
abbrev pub FindsHolder : List Span → ℕ → Option ℕ → Type 0
FindsHolder ss page None = NoneHolds page ss
FindsHolder ss page (Some i) = IsHolder page ss i × (i < length ss)

-- the span that begins with the page: the first that isn't below it, if that one begins there
abbrev pub FindsFirst : List Span → ℕ → Option ℕ → Type 0
FindsFirst ss page None = (d : Span) → count_below page ss < length ss → (slice_index_or ss (count_below page ss) d).first ≢ page
FindsFirst ss page (Some i) = (i ≡ count_below page ss) × (i < length ss) × ((s : Span) → s ≡ slice_index_or ss i s → s.first ≡ page)

-- the spans lie one behind the other
abbrev pub SpansRise : ℕ → List Span → Type 0
SpansRise low [] = Unit {0}
SpansRise low (s ∷ ss) = (low ≤ s.first) × (0 < s.pages) × (s.first + s.pages ≤ 0x80000) × SpansRise (s.first + s.pages) ss

-- the first room for so many pages at or behind `low`
abbrev pub gap_in_spans : ℕ → ℕ → List Span → Option ℕ
gap_in_spans low pages [] = if nat_lt low 0x80000 && nat_le (low + pages) 0x80000 then Some low else None
gap_in_spans low pages (s ∷ ss) = if nat_le (low + pages) s.first then Some low else gap_in_spans (s.first + s.pages) pages ss
