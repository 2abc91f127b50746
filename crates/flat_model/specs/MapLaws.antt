-- What a Map leaves, and an Unmap of the same range after it. Public clauses cite this.
use Rattle.std.specs.Prelude.{ℕ, ◌≡◌, ◌-◌, ◌≤◌, Some, Ok, if◌then◌else◌}
use Rattle.vm_types.specs.declared.call.Place.TheVariants.{At, Any}
use Rattle.flat_model.specs.Words.{page, pages_in}
use Rattle.flat_model.specs.Flat.{Flat, space_of, cell_at, reserved}
use Rattle.flat_model.specs.Space.{is_in_range, without_range, lowest_gap}
use Rattle.flat_model.specs.Mapping.{Request, cells_of, without_replaced, new_cell, map_result, without_pages}

-- A Map that isn't refused begins where it was asked to, or else at the lowest gap; then each page of its range has the new cell, each other page the cell that it had, and no other process's space changed; no more is reserved than there are slots; and an Unmap of the range leaves the space without it.
pub record MapsRange (F : Flat) (p : ℕ) (r : Request) (first : ℕ) (G : Flat) : Type 0 where
  pub at_place : (a : ℕ) → r.place ≡ At a → first ≡ page a
  pub lowest : r.place ≡ Any → lowest_gap (cells_of F p) (pages_in r.len) ≡ Some first
  pub cells : (q : ℕ) → cell_at G p q ≡ (if is_in_range first (pages_in r.len) q then Some (new_cell F (without_replaced F p r.place (pages_in r.len)) r (q - first)) else cell_at F p q)
  pub others : (x : ℕ) → (x ≡ p → ⊥) → space_of G x ≡ space_of F x
  pub backed : reserved G ≤ F.slots
  pub unmapped_again : cells_of (without_pages G p first (pages_in r.len)) p ≡ without_range (cells_of F p) first (pages_in r.len)

-- The law of maps: each Map that isn't refused leaves what MapsRange says.
pub record MapThenUnmap : Type 0 where
  pub maps : (F : Flat) (p : ℕ) (r : Request) (first : ℕ) (G : Flat) → map_result F p r ≡ Ok (first, G) → MapsRange F p r first G
