-- Laws of ranges and gaps in a space. Public clauses cite this.
use Rattle.std.specs.Prelude.{ℕ, ◌≡◌, ◌+◌, ◌-◌, ◌<◌, ◌≤◌, Some, None, if◌then◌else◌}
use Rattle.std.specs.FinMap as map
use Rattle.vm_types.specs.Pages.{IsUserPage}
use Rattle.flat_model.specs.Flat.{Cell, Space}
use Rattle.flat_model.specs.Space.{end_page, is_in_range, without_range, with_cells, lowest_gap}

-- The space has cells in the user addresses alone.
abbrev pub IsUser : Space → Type 0
IsUser s = (q : ℕ) (c : Cell) → map.get s q ≡ Some c → IsUserPage q

-- No page of the range has a cell.
abbrev pub IsFree : Space → ℕ → ℕ → Type 0
IsFree s first n = (q : ℕ) → first ≤ q → q < first + n → map.get s q ≡ None

-- The lowest gap is free and fits, no lower one is free, and where there is none no range that fits is free.
pub record LowestGap : Type 0 where
  pub fits : (s : Space) (n b : ℕ) → IsUser s → lowest_gap s n ≡ Some b → (1 ≤ b) × (b + n ≤ end_page)
  pub free : (s : Space) (n b : ℕ) → IsUser s → lowest_gap s n ≡ Some b → IsFree s b n
  pub least : (s : Space) (n b c : ℕ) → IsUser s → lowest_gap s n ≡ Some b → 1 ≤ c → c < b → IsFree s c n → ⊥
  pub none : (s : Space) (n c : ℕ) → IsUser s → lowest_gap s n ≡ None → 1 ≤ c → c + n ≤ end_page → IsFree s c n → ⊥

-- New cells stand at the pages of their range, and each other page has the cell that it had; a range that is taken out has no cells, and each other page the cell that it had; and to take new cells out again is to take their range out.
pub record RangesOfCells : Type 0 where
  pub put_in : (s : Space) (first n : ℕ) (cell : ℕ → Cell) (q : ℕ) → map.get (with_cells s first n cell) q ≡ (if is_in_range first n q then Some (cell (q - first)) else map.get s q)
  pub taken_out : (s : Space) (first n q : ℕ) → map.get (without_range s first n) q ≡ (if is_in_range first n q then None else map.get s q)
  pub put_and_taken : (s : Space) (first n : ℕ) (cell : ℕ → Cell) → without_range (with_cells s first n cell) first n ≡ without_range s first n
