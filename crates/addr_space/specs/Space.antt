-- What a contract sees of an address space: its pieces by rising page, and the room that is kept for more. Public clauses cite this.
use Rattle.std.specs.Prelude.{◌≡◌, ℕ, ◌+◌, ◌-◌, ◌<◌, ◌≤◌, ◌==◌, ◌&&◌, nat_lt, nat_le, Bool, List, [], ◌∷◌, Option, Some, None, IsSome, if◌then◌else◌, find, option_map, sum_by, refl}
use Rattle.std.specs.Coded.{Coded, code_by, coded×, coded_ℕ, coded_list}

-- a piece with its first page and its number of pages
pub record Part (T : Type 0) : Type 0 where
  pub first : ℕ
  pub pages : ℕ
  pub piece : T

-- the pieces in the order of their pages, and how many more may go in without memory
pub record RangesSeen (T : Type 0) : Type 0 where
  pub parts : List (Part T)
  pub spare : ℕ

-- a part as data: its first page, its number of pages and its piece
abbrev pub part_code : {T : Type 0} → Coded T → Coded (Part T)
part_code {T} code =
    code_by (ℕ × (ℕ × T)) (coded× coded_ℕ (coded× coded_ℕ code)) (λ p. (p.first, (p.pages, p.piece))) (λ t. record { first = t.0; pages = t.1.0; piece = t.1.1 }) (λ _. refl)

-- what is seen of a space as data: its parts, and the room that is kept for more
abbrev pub space_code : {T : Type 0} → Coded T → Coded (RangesSeen T)
space_code {T} code =
    code_by (List (Part T) × ℕ) (coded× (coded_list (part_code code)) coded_ℕ) (λ s. (s.parts, s.spare)) (λ t. record { parts = t.0; spare = t.1 }) (λ _. refl)

module _ {T : Type 0} where
  -- the part with this first page, this number of pages and this piece
  abbrev pub part : ℕ → ℕ → T → Part T
  part first pages piece = record { first = first; pages = pages; piece = piece }

  -- the page behind the last one of a part
  abbrev pub end_of_part : Part T → ℕ
  end_of_part p = p.first + p.pages

  -- the part has the page
  abbrev pub has : Part T → ℕ → Bool
  has p page = nat_le p.first page && nat_lt page (p.first + p.pages)

  -- the part that has the page
  abbrev pub part_at : List (Part T) → ℕ → Option (Part T)
  part_at parts page = find (λ p. has p page) parts

  -- the map from pages: the piece that has the page, and the page's place in it
  abbrev pub piece_at : List (Part T) → ℕ → Option (T × ℕ)
  piece_at parts page = option_map (λ p. (p.piece, page - p.first)) (part_at parts page)

  -- the part that begins with the page
  abbrev pub begins : List (Part T) → ℕ → Option (Part T)
  begins parts page = find (λ p. p.first == page) parts

  -- the first page of the first part that isn't below the page
  abbrev pub next_first : List (Part T) → ℕ → Option ℕ
  next_first parts page = option_map (λ p. p.first) (find (λ p. nat_le page p.first) parts)

  -- how many pages the parts have
  abbrev pub page_total : List (Part T) → ℕ
  page_total parts = sum_by (λ p. p.pages) parts

  -- a part has a page, lies at or behind `low`, and ends below page 0x80000
  pub record LiesFrom (low : ℕ) (p : Part T) : Type 0 where
    pub behind : low ≤ p.first
    pub some : 0 < p.pages
    pub within : p.first + p.pages ≤ 0x80000

  -- the parts lie at or behind `low`, one behind the other
  abbrev pub IsInOrder : ℕ → List (Part T) → Type 0
  IsInOrder low [] = Unit {0}
  IsInOrder low (p ∷ ps) = LiesFrom low p × IsInOrder (p.first + p.pages) ps

  -- the parts with one more, behind those that begin below it
  abbrev pub with_new_part : Part T → List (Part T) → List (Part T)
  with_new_part new [] = new ∷ []
  with_new_part new (p ∷ ps) = if nat_lt p.first new.first then p ∷ with_new_part new ps else new ∷ p ∷ ps

  -- what a part keeps below the page
  abbrev pub lower_part : ℕ → Part T → Part T
  lower_part page p = part p.first (page - p.first) p.piece

  -- what the upper piece has of a part, from the page on
  abbrev pub upper_part : ℕ → T → Part T → Part T
  upper_part page upper p = part page (p.first + p.pages - page) upper

  -- the part that has the page is cut in two before it
  abbrev pub cut_at : ℕ → T → List (Part T) → List (Part T)
  cut_at page upper [] = []
  cut_at page upper (p ∷ ps) = if has p page then lower_part page p ∷ upper_part page upper p ∷ ps else p ∷ cut_at page upper ps

  -- the parts without the one that begins with the page
  abbrev pub without_part : ℕ → List (Part T) → List (Part T)
  without_part page [] = []
  without_part page (p ∷ ps) = if p.first == page then ps else p ∷ without_part page ps

  -- the part that has the page has another piece
  abbrev pub with_new_piece : ℕ → T → List (Part T) → List (Part T)
  with_new_piece page piece [] = []
  with_new_piece page piece (p ∷ ps) = if has p page then part p.first p.pages piece ∷ ps else p ∷ with_new_piece page piece ps

  -- so many pages from `first` on are free, and lie from page 1 to page 0x7ffff
  pub record IsGap (parts : List (Part T)) (pages first : ℕ) : Type 0 where
    pub low : 1 ≤ first
    pub high : first < 0x80000
    pub within : first + pages ≤ 0x80000
    pub free : (q : ℕ) → first ≤ q → q < first + pages → part_at parts q ≡ None

  -- what `gap` answers: the least gap, and none where there is none
  abbrev pub FindsGap : List (Part T) → ℕ → Option ℕ → Type 0
  FindsGap parts pages None = (first : ℕ) → ¬ IsGap parts pages first
  FindsGap parts pages (Some first) = IsGap parts pages first × ((other : ℕ) → IsGap parts pages other → first ≤ other)

  -- what `next` answers: a part begins there, not below the page, and no part begins between
  abbrev pub FindsNext : List (Part T) → ℕ → Option ℕ → Type 0
  FindsNext parts page None = (first : ℕ) → page ≤ first → begins parts first ≡ None
  FindsNext parts page (Some next) = (page ≤ next) × IsSome (begins parts next) × ((first : ℕ) → page ≤ first → first < next → begins parts first ≡ None)

  -- what `last` answers: a part begins there, below the page, and no part begins between
  abbrev pub FindsLast : List (Part T) → ℕ → Option ℕ → Type 0
  FindsLast parts page None = (first : ℕ) → first < page → begins parts first ≡ None
  FindsLast parts page (Some last) = (last < page) × IsSome (begins parts last) × ((first : ℕ) → last < first → first < page → begins parts first ≡ None)
