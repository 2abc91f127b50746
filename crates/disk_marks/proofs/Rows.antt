-- Rows of marks and pushes, one of which changes.
use Rattle.std.proofs.Common.{◌≡◌, ◌≢◌, ℕ, zero, suc, ◌<◌, List, [], ◌∷◌, length, Option, Some, None, refl, sym, ap, ◌∙◌, inl, inr, subst, arith}
use Rattle.std.specs.Prelude.{slice_index_or, slice_set}
use Rattle.std.proofs.lemmas.Bool.{cases_eq}
use Rattle.std.proofs.lemmas.List.{get_or-set_same, get_or-set_other, length-set}
use Rattle.disk_marks.specs.declared.marks.MarkRow.{MarkRow}
use Rattle.disk_marks.specs.declared.marks.Pushing.{Pushing}
use Rattle.disk_marks.specs.Marks.{MarksSeen, HasRow, unused_row, mark_row, push_of, with_mark_row, with_push}

-- the row that was changed, and every other
pub row-same : (m : MarksSeen) (disk block : ℕ) (row : MarkRow) → HasRow m disk block → mark_row (with_mark_row m disk block row) disk block ≡ row
row-same m disk block row has =
    ap (λ (rows : List MarkRow). slice_index_or rows block unused_row) (get_or-set_same m.rows disk (slice_set (slice_index_or m.rows disk []) block row) [] has.0)
    ∙ get_or-set_same (slice_index_or m.rows disk []) block row unused_row has.1

pub row-other : (m : MarksSeen) (disk block d b : ℕ) (row : MarkRow) → HasRow m disk block → ((d ≡ disk) → (b ≡ block) → ⊥) → mark_row (with_mark_row m disk block row) d b ≡ mark_row m d b
row-other m disk block d b row has far = elim (cases_eq d disk) [
  | inl e ↦
      ap (λ (k : ℕ). slice_index_or (slice_index_or (slice_set m.rows disk (slice_set (slice_index_or m.rows disk []) block row)) k []) b unused_row) e
      ∙ ap (λ (rows : List MarkRow). slice_index_or rows b unused_row) (get_or-set_same m.rows disk (slice_set (slice_index_or m.rows disk []) block row) [] has.0)
      ∙ get_or-set_other (slice_index_or m.rows disk []) block b row unused_row (λ same. far e same)
      ∙ sym (ap (λ (k : ℕ). slice_index_or (slice_index_or m.rows k []) b unused_row) e)
  | inr ne ↦ ap (λ (rows : List MarkRow). slice_index_or rows b unused_row) (get_or-set_other m.rows disk d (slice_set (slice_index_or m.rows disk []) block row) [] ne)
]

-- each block that had a row has one
pub row-there : (m : MarksSeen) (disk block d b : ℕ) (row : MarkRow) → HasRow m d b → HasRow (with_mark_row m disk block row) d b
row-there m disk block d b row has = (
  let n : length (slice_set m.rows disk (slice_set (slice_index_or m.rows disk []) block row)) ≡ length m.rows = length-set m.rows disk (slice_set (slice_index_or m.rows disk []) block row) in let lt = has.0 in omega (arith, n, lt),
  elim (cases_eq d disk) [
    | inl e ↦
        let same : slice_index_or (slice_set m.rows disk (slice_set (slice_index_or m.rows disk []) block row)) d [] ≡ slice_set (slice_index_or m.rows disk []) block row =
        ap (λ (k : ℕ). slice_index_or (slice_set m.rows disk (slice_set (slice_index_or m.rows disk []) block row)) k []) e
        ∙ get_or-set_same m.rows disk (slice_set (slice_index_or m.rows disk []) block row) [] (subst (λ (k : ℕ). k < length m.rows) e has.0) in
        subst (λ (rows : List MarkRow). b < length rows) (sym same)
        (let n : length (slice_set (slice_index_or m.rows disk []) block row) ≡ length (slice_index_or m.rows disk []) = length-set (slice_index_or m.rows disk []) block row in
        let lt : b < length (slice_index_or m.rows disk []) = subst (λ (k : ℕ). b < length (slice_index_or m.rows k [])) e has.1 in omega (arith, n, lt))
    | inr ne ↦ subst (λ (rows : List MarkRow). b < length rows) (sym (get_or-set_other m.rows disk d (slice_set (slice_index_or m.rows disk []) block row) [] ne)) has.1
  ],
)

-- the push of the seat that changed, and that of every other
pub push-same : (m : MarksSeen) (seat : ℕ) (push : Option Pushing) → seat < length m.pushes → push_of (with_push m seat push) seat ≡ push
push-same m seat push lt = get_or-set_same m.pushes seat push None lt

pub push-other : (m : MarksSeen) (seat k : ℕ) (push : Option Pushing) → k ≢ seat → push_of (with_push m seat push) k ≡ push_of m k
push-other m seat k push ne = get_or-set_other m.pushes seat k push None ne

-- a push that is there once one seat's was dropped was there before
set-none : (ps : List (Option Pushing)) (seat : ℕ) → slice_index_or (slice_set ps seat None) seat None ≡ None
set-none [] seat = refl
set-none (p ∷ ps) zero = refl
set-none (p ∷ ps) (suc seat) = set-none ps seat

pub push-left : (m : MarksSeen) (seat k : ℕ) (push : Pushing) → push_of (with_push m seat None) k ≡ Some push → (k ≢ seat) × (push_of m k ≡ Some push)
push-left m seat k push is = elim (cases_eq k seat) [
  | inl e ↦ absurd (let z : ◌≡◌ {A = Option Pushing} None (Some push) = sym (set-none m.pushes seat) ∙ ap (λ (j : ℕ). slice_index_or (slice_set m.pushes seat None) j None) (sym e) ∙ is in cc)
  | inr ne ↦ (ne, sym (push-other m seat k None ne) ∙ is)
]
