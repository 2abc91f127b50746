-- Names and rows of a frame that is taken.
use Rattle.std.proofs.Common.{◌≡◌, ℕ, zero, suc, ◌<◌, Bool, false, inl, inr, List, [], ◌∷◌, Option, Some, None, refl, sym, ◌∙◌, ap, subst, length, set}
use Rattle.std.proofs.lemmas.Bool.{cases_eq}
use Rattle.std.proofs.lemmas.List.{get_or-set_same, get_or-set_other}
use Rattle.page_hash.specs.Names.{find, name_at}
use Rattle.page_hash.specs.declared.PageName.{PageName}
use Rattle.page_hash.proofs.NameLaws.{find-absent, find-none}
use Rattle.page_lock.specs.Rows.{row_at, clear_row, with_bits}
use Rattle.page_lock.specs.declared.Row.{Row}
use Rattle.page_store.specs.Steps.{landed_row}

-- a name that no frame holds is held by none once a frame was emptied
pub absent-emptied : (names : List (Option PageName)) (frame : ℕ) (n : PageName) → frame < length names → find names n ≡ None → find (set names frame None) n ≡ None
absent-emptied names frame n lt absent = find-absent (set names frame None) n (λ k h. elim (cases_eq k frame) [
  | inl q ↦
      let a : name_at (set names frame None) frame ≡ Some n = subst (λ (j : ℕ). name_at (set names frame None) j ≡ Some n) q h in
      let z : None ≡ Some n = sym (get_or-set_same names frame None None lt) ∙ a in
      cc
  | inr ne ↦ find-none names n k absent (sym (get_or-set_other names frame k None None ne) ∙ h)
])

twice : (xs : List Row) (k : ℕ) (x y : Row) → set (set xs k x) k y ≡ set xs k y
twice [] k x y = refl
twice (z ∷ zs) zero x y = refl
twice (z ∷ zs) (suc k) x y = ap (λ (l : List Row). z ∷ l) (twice zs k x y)

-- a row whose lock is given back, and whose modified bit is set, keeps its other fields
pub row-landed : (old mid new : List Row) (k : ℕ) (referenced dirty : Bool) → k < length old → mid ≡ set old k (record (row_at old k) { holder = None; gone = false })
    → referenced ≡ (row_at mid k).referenced → new ≡ set mid k (with_bits (row_at mid k) referenced dirty)
    → new ≡ set old k (landed_row (row_at old k) dirty)
row-landed old mid new k referenced dirty lt m r n =
    let row : row_at mid k ≡ record (row_at old k) { holder = None; gone = false } = ap (λ (l : List Row). row_at l k) m
    ∙ get_or-set_same old k (record (row_at old k) { holder = None; gone = false }) clear_row lt in
    n
    ∙ ap (λ (x : Row). set mid k (with_bits x referenced dirty)) row
    ∙ ap (λ (b : Bool). set mid k (with_bits (record (row_at old k) { holder = None; gone = false }) b dirty)) (r ∙ ap (λ (x : Row). x.referenced) row)
    ∙ ap (λ (l : List Row). set l k (landed_row (row_at old k) dirty)) m
    ∙ twice old k (record (row_at old k) { holder = None; gone = false }) (landed_row (row_at old k) dirty)
