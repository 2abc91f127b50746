-- Ranges of pages in a space, and the lowest gap. Public clauses cite this.
use Rattle.std.specs.Prelude.{ℕ, zero, suc, ◌+◌, Bool, true, not, ◌&&◌, List, [], ◌∷◌, map, Option, Some, None, nat_le, nat_lt, if◌then◌else◌}
use Rattle.std.specs.FinMap as finite
pub use Rattle.vm_types.specs.Pages.{end_page}
use Rattle.vm_types.specs.declared.prot.Prot.{Prot}
use Rattle.flat_model.specs.Flat.{Cell, Space}

-- The page is one of the n pages from the first.
abbrev pub is_in_range : ℕ → ℕ → ℕ → Bool
is_in_range first n q = nat_le first q && nat_lt q (first + n)

-- Each of the n pages from the first passes the test.
abbrev pub all_pages : (ℕ → Bool) → ℕ → ℕ → Bool
all_pages test first zero = true
all_pages test first (suc n) = all_pages test first n && test (first + n)

-- The space without the cells of n pages from the first.
abbrev pub without_range : Space → ℕ → ℕ → Space
without_range space first n = finite.retain_keys space (λ q. not (is_in_range first n q))

-- The space with n new cells from the first page on, the i-th being cell i.
abbrev pub with_cells : Space → ℕ → ℕ → (ℕ → Cell) → Space
with_cells space first zero cell = space
with_cells space first (suc n) cell = finite.insert (with_cells space first n cell) (first + n) (cell n)

-- The cell with a protection, if its page is one of the n from the first.
abbrev pub with_prot : ℕ → ℕ → Prot → ℕ → Cell → Cell
with_prot first n prot q c = if is_in_range first n q then record c { prot = prot } else c

-- The space whose cells at n pages from the first have this protection.
abbrev pub with_prots : Space → ℕ → ℕ → Prot → Space
with_prots space first n prot = finite.from_entries (map (λ e. (e.0, with_prot first n prot e.0 e.1)) (finite.entries space))

-- The lowest page from a on at which n pages are free before the end, over cells in the order of their pages.
abbrev pub lowest_gap_from : ℕ → ℕ → List (ℕ × Cell) → Option ℕ
lowest_gap_from a n [] = if nat_le (a + n) end_page then Some a else None
lowest_gap_from a n (e ∷ es) = if nat_le (a + n) e.0 then Some a else lowest_gap_from (e.0 + 1) n es

-- The lowest gap of a space that has room for n pages.
abbrev pub lowest_gap : Space → ℕ → Option ℕ
lowest_gap space n = lowest_gap_from 1 n (finite.entries space)
