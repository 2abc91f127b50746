-- The rows and the pushes of a file that is cut.
use Rattle.std.proofs.Common.{◌≡◌, ◌≢◌, ℕ, zero, suc, ◌<◌, ◌≤◌, false, List, [], ◌∷◌, map, Option, Some, None, refl, sym, ap, subst, ◌∙◌, ◌⊎◌, inl, inr, arith}
use Rattle.std.specs.Prelude.{slice_get, slice_index_or, slice_set}
use Rattle.disk_marks.specs.declared.marks.Mark.TheVariants.{Blank}
use Rattle.disk_marks.specs.declared.marks.MarkRow.{MarkRow}
use Rattle.disk_marks.specs.declared.marks.Pushing.{Pushing}
use Rattle.disk_marks.specs.Marks.{MarksSeen, HasRow, unused_row, mark_row, push_of, with_mark_row}
use Rattle.disk_marks.specs.Changes.{marks_taken, marks_unpushed, push_cut}
use Rattle.disk_marks.proofs.Rows.{row-same, row-other, row-there}
use Rattle.mark_laws.specs.Cuts.{rows_cut, marks_cut}

-- the row of a page that is taken away, and that of one that stays
abbrev pub row_taken : ℕ → MarkRow
row_taken j = record { mark = Blank j; pushed = false }

abbrev pub row_unpushed : MarkRow → MarkRow
row_unpushed row = record row { pushed = false }

-- a row that is set, or one as it was
set-either : {A : Type 0} (xs : List A) (i k : ℕ) (x d : A) → ((k ≡ i) × (slice_index_or (slice_set xs i x) k d ≡ x)) ⊎ (slice_index_or (slice_set xs i x) k d ≡ slice_index_or xs k d)
set-either [] i k x d = inr refl
set-either (y ∷ xs) zero zero x d = inl (refl, refl)
set-either (y ∷ xs) zero (suc k) x d = inr refl
set-either (y ∷ xs) (suc i) zero x d = inr refl
set-either (y ∷ xs) (suc i) (suc k) x d = elim (set-either xs i k x d) [ inl e ↦ inl (ap suc e.0, e.1) | inr same ↦ inr same ]

pub row-either : (m : MarksSeen) (disk block d b : ℕ) (row : MarkRow)
    → ((d ≡ disk) × (mark_row (with_mark_row m disk block row) d b ≡ row)) ⊎ (mark_row (with_mark_row m disk block row) d b ≡ mark_row m d b)
row-either m disk block d b row = elim (set-either m.rows disk d (slice_set (slice_index_or m.rows disk []) block row) []) [
  | inl e ↦ elim (set-either (slice_index_or m.rows disk []) block b row unused_row) [
    | inl f ↦ inl (e.0, ap (λ (rows : List MarkRow). slice_index_or rows b unused_row) e.1 ∙ f.1)
    | inr same ↦ inr (ap (λ (rows : List MarkRow). slice_index_or rows b unused_row) e.1 ∙ same ∙ ap (λ (k : ℕ). slice_index_or (slice_index_or m.rows k []) b unused_row) (sym e.0))
  ]
  | inr same ↦ inr (ap (λ (rows : List MarkRow). slice_index_or rows b unused_row) same)
]

-- the blocks have rows, and each stands once
pub record AreRows (disk : ℕ) (blocks : List ℕ) (m : MarksSeen) : Type 0 where
  pub rows : (i b : ℕ) → slice_get blocks i ≡ Some b → HasRow m disk b
  pub once : (i k b : ℕ) → slice_get blocks i ≡ Some b → slice_get blocks k ≡ Some b → i ≡ k

rest-rows : (disk x : ℕ) (xs : List ℕ) (row : MarkRow) (m : MarksSeen) → AreRows disk (x ∷ xs) m → AreRows disk xs (with_mark_row m disk x row)
rest-rows disk x xs row m are = record {
  rows = λ i b at. row-there m disk x disk b row (are.rows (suc i) b at);
  once = λ i k b a c. let e = are.once (suc i) (suc k) b a c in omega (arith, e);
}

-- every block that had a row has one
pub cut-there : (disk pages j : ℕ) (blocks : List ℕ) (m : MarksSeen) (d b : ℕ) → HasRow m d b → HasRow (rows_cut disk pages j blocks m) d b
cut-there disk pages j [] m d b has = has
cut-there disk zero j (x ∷ xs) m d b has = cut-there disk zero j xs (marks_taken m disk x j) d b (row-there m disk x d b (row_taken j) has)
cut-there disk (suc pages) j (x ∷ xs) m d b has = cut-there disk pages j xs (marks_unpushed m disk x) d b (row-there m disk x d b (row_unpushed (mark_row m disk x)) has)

-- the row of another block stays
pub cut-other : (disk pages j : ℕ) (blocks : List ℕ) (m : MarksSeen) (d b : ℕ) → AreRows disk blocks m → ((i : ℕ) → d ≡ disk → slice_get blocks i ≢ Some b)
    → mark_row (rows_cut disk pages j blocks m) d b ≡ mark_row m d b
cut-other disk pages j [] m d b are other = refl
cut-other disk zero j (x ∷ xs) m d b are other =
    cut-other disk zero j xs (marks_taken m disk x j) d b (rest-rows disk x xs (row_taken j) m are) (λ i. other (suc i))
    ∙ row-other m disk x d b (row_taken j) (are.rows 0 x refl) (λ same e. other 0 same (ap Some (sym e)))
cut-other disk (suc pages) j (x ∷ xs) m d b are other =
    cut-other disk pages j xs (marks_unpushed m disk x) d b (rest-rows disk x xs (row_unpushed (mark_row m disk x)) m are) (λ i. other (suc i))
    ∙ row-other m disk x d b (row_unpushed (mark_row m disk x)) (are.rows 0 x refl) (λ same e. other 0 same (ap Some (sym e)))

-- the rows of the blocks
here : (x b : ℕ) → ◌≡◌ {A = Option ℕ} (Some x) (Some b) → b ≡ x
here x b e = cc

apart : (disk x : ℕ) (xs : List ℕ) (m : MarksSeen) (i b : ℕ) → AreRows disk (x ∷ xs) m → slice_get xs i ≡ Some b → b ≢ x
apart disk x xs m i b are at e = let z : suc i ≡ 0 = are.once (suc i) 0 b at (ap Some (sym e)) in absurd (omega (arith, z))

pub cut-taken : (disk pages j : ℕ) (blocks : List ℕ) (m : MarksSeen) (i b : ℕ) → AreRows disk blocks m → slice_get blocks i ≡ Some b → pages ≤ i
    → mark_row (rows_cut disk pages j blocks m) disk b ≡ row_taken j
cut-taken disk pages j [] m i b are at le = absurd (let z : ◌≡◌ {A = Option ℕ} None (Some b) = at in cc)
cut-taken disk zero j (x ∷ xs) m zero b are at le =
    ap (mark_row (rows_cut disk zero j xs (marks_taken m disk x j)) disk) (here x b at)
    ∙ cut-other disk zero j xs (marks_taken m disk x j) disk x (rest-rows disk x xs (row_taken j) m are) (λ i _ again. apart disk x xs m i x are again refl)
    ∙ row-same m disk x (row_taken j) (are.rows 0 x refl)
cut-taken disk zero j (x ∷ xs) m (suc i) b are at le = cut-taken disk zero j xs (marks_taken m disk x j) i b (rest-rows disk x xs (row_taken j) m are) at (omega arith)
cut-taken disk (suc pages) j (x ∷ xs) m zero b are at le = absurd (omega (arith, le))
cut-taken disk (suc pages) j (x ∷ xs) m (suc i) b are at le =
    cut-taken disk pages j xs (marks_unpushed m disk x) i b (rest-rows disk x xs (row_unpushed (mark_row m disk x)) m are) at (omega (arith, le))

pub cut-kept : (disk pages j : ℕ) (blocks : List ℕ) (m : MarksSeen) (i b : ℕ) → AreRows disk blocks m → slice_get blocks i ≡ Some b → i < pages
    → mark_row (rows_cut disk pages j blocks m) disk b ≡ row_unpushed (mark_row m disk b)
cut-kept disk pages j [] m i b are at lt = absurd (let z : ◌≡◌ {A = Option ℕ} None (Some b) = at in cc)
cut-kept disk zero j (x ∷ xs) m i b are at lt = absurd (omega (arith, lt))
cut-kept disk (suc pages) j (x ∷ xs) m zero b are at lt =
    subst (λ (c : ℕ). mark_row (rows_cut disk pages j xs (marks_unpushed m disk x)) disk c ≡ row_unpushed (mark_row m disk c)) (sym (here x b at))
    (cut-other disk pages j xs (marks_unpushed m disk x) disk x (rest-rows disk x xs (row_unpushed (mark_row m disk x)) m are) (λ i _ again. apart disk x xs m i x are again refl)
    ∙ row-same m disk x (row_unpushed (mark_row m disk x)) (are.rows 0 x refl))
cut-kept disk (suc pages) j (x ∷ xs) m (suc i) b are at lt =
    cut-kept disk pages j xs (marks_unpushed m disk x) i b (rest-rows disk x xs (row_unpushed (mark_row m disk x)) m are) at (omega (arith, lt))
    ∙ ap row_unpushed (row-other m disk x disk b (row_unpushed (mark_row m disk x)) (are.rows 0 x refl) (λ _ e. apart disk x xs m i b are at e))

-- the pushes stay with the rows, and are cut by themselves
pub cut-pushes : (disk pages j : ℕ) (blocks : List ℕ) (m : MarksSeen) → (rows_cut disk pages j blocks m).pushes ≡ m.pushes
cut-pushes disk pages j [] m = refl
cut-pushes disk zero j (x ∷ xs) m = cut-pushes disk zero j xs (marks_taken m disk x j)
cut-pushes disk (suc pages) j (x ∷ xs) m = cut-pushes disk pages j xs (marks_unpushed m disk x)

pub push-map : (g : Option Pushing → Option Pushing) → g None ≡ None → (ps : List (Option Pushing)) (seat : ℕ) → slice_index_or (map g ps) seat None ≡ g (slice_index_or ps seat None)
push-map g none [] seat = sym none
push-map g none (p ∷ ps) zero = refl
push-map g none (p ∷ ps) (suc seat) = push-map g none ps seat

pub cut-push : (m : MarksSeen) (f disk pages j : ℕ) (blocks : List ℕ) (seat : ℕ) → push_of (marks_cut m f disk pages j blocks) seat ≡ push_cut f pages (push_of m seat)
cut-push m f disk pages j blocks seat =
    ap (λ (ps : List (Option Pushing)). slice_index_or (map (push_cut f pages) ps) seat None) (cut-pushes disk pages j blocks m) ∙ push-map (push_cut f pages) refl m.pushes seat
