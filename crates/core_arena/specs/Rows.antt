-- Pages that lie in a row. Inside: no public clause cites this.
use Rattle.std.specs.Prelude.{◌≡◌, ℕ, List, [], ◌∷◌, ◌++◌, Option, Some, None, length}
use denote.RawPtr.{Ptr, ◌+ₚ◌}
use Rattle.core_arena.specs.declared.region.Stretch.{Stretch}

-- a page that is there is whole and lies at p
abbrev pub IsPageAt : Ptr → Option Stretch → Type 0
IsPageAt p None = Unit {0}
IsPageAt p (Some page) = (page.at ≡ p) × (length page.bytes ≡ 4096)

-- the pages that are there lie at their places, the first at p
abbrev pub AreInPlace : Ptr → List (Option Stretch) → Type 0
AreInPlace p [] = Unit {0}
AreInPlace p (page ∷ more) = IsPageAt p page × AreInPlace (p +ₚ 4096) more

-- the pages are all there, and lie in a row from p on
abbrev pub InRow : Ptr → List (Option Stretch) → Type 0
InRow p [] = Unit {0}
InRow p (None ∷ more) = ⊥
InRow p (Some page ∷ more) = (page.at ≡ p) × (length page.bytes ≡ 4096) × InRow (p +ₚ 4096) more

-- the bytes of the pages that are there
abbrev pub row_bytes : List (Option Stretch) → List ℕ
row_bytes [] = []
row_bytes (None ∷ more) = row_bytes more
row_bytes (Some page ∷ more) = page.bytes ++ row_bytes more
