-- A row that changes where a page has its place.
use Rattle.std.proofs.Common.{◌≡◌, ◌≢◌, ℕ, List, Some, sym, ap, ◌∙◌, inl, inr, subst}
use Rattle.std.proofs.lemmas.Option.{same_Some}
use Rattle.flat_model.specs.Flat.{Flat}
use Rattle.page_store.specs.page_hash.declared.PageName.{PageName}
use Rattle.disk_marks.specs.declared.marks.MarkRow.{MarkRow}
use Rattle.disk_marks.specs.Marks.{MarksSeen, HasRow, mark_row, with_mark_row}
use Rattle.mark_laws.specs.Pages.{disk_place, HavePlacesApart}
use Rattle.mark_laws.specs.MarksFit.{DiskContents, OfBlock}
use Rattle.disk_marks.proofs.Rows.{row-same, row-other}
use Rattle.page_store.proofs.TransferLemmas.{is-or-not}

module _ (F : Flat) (apart : HavePlacesApart F) (m : MarksSeen) (name : PageName) (disk block : ℕ) (at : disk_place F name ≡ Some (disk, block)) (has : HasRow m disk block) (row : MarkRow) where
  pub at-place : (n : PageName) (d c : ℕ) → disk_place F n ≡ Some (d, c) → n ≡ name → (d ≡ disk) × (c ≡ block)
  at-place n d c a e =
      let same : ◌≡◌ {A = ℕ × ℕ} (d, c) (disk, block) = same_Some (d, c) (disk, block) (sym a ∙ ap (disk_place F) e ∙ at) in
      (ap (λ (p : ℕ × ℕ). p.0) same, ap (λ (p : ℕ × ℕ). p.1) same)

  row-now : (n : PageName) (d c : ℕ) → disk_place F n ≡ Some (d, c) → n ≡ name → mark_row (with_mark_row m disk block row) d c ≡ row
  row-now n d c a e =
      let here = at-place n d c a e in
      ap (λ (y : ℕ). mark_row (with_mark_row m disk block row) y c) here.0 ∙ ap (mark_row (with_mark_row m disk block row) disk) here.1 ∙ row-same m disk block row has

  row-kept : (n : PageName) (d c : ℕ) → disk_place F n ≡ Some (d, c) → n ≢ name → mark_row (with_mark_row m disk block row) d c ≡ mark_row m d c
  row-kept n d c a ne = row-other m disk block d c row has (λ x y. ne (apart n name d c a (at ∙ (λ i. Some (sym x i, sym y i)))))

  -- what holds of the new row of this page, and of the old rows of all others
  pub by-name : (P : MarkRow → Type 0) (n : PageName) (d c : ℕ) → disk_place F n ≡ Some (d, c) → (n ≡ name → P row) → (n ≢ name → P (mark_row m d c)) → P (mark_row (with_mark_row m disk block row) d c)
  by-name P n d c a now was = elim (is-or-not n name) [
    | inl e ↦ subst P (sym (row-now n d c a e)) (now e)
    | inr ne ↦ subst P (sym (row-kept n d c a ne)) (was ne)
  ]

  -- what holds of this page's block holds of it by any name of it
  pub block-here : (contents : DiskContents) (P : PageName → List ℕ → Type 0) (n : PageName) (d c : ℕ) → disk_place F n ≡ Some (d, c) → n ≡ name → OfBlock contents disk block (P name) → OfBlock contents d c (P n)
  block-here contents P n d c a e is =
      let here = at-place n d c a e in
      subst (λ (y : PageName). OfBlock contents d c (P y)) (sym e)
      (subst (λ (y : ℕ). OfBlock contents y c (P name)) (sym here.0)
      (subst (λ (y : ℕ). OfBlock contents disk y (P name)) (sym here.1) is))
