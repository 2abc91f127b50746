-- Rows of a file that is cut, page by page.
use Rattle.std.proofs.Common.{◌≡◌, ℕ, zero, suc, ◌<◌, ◌≤◌, List, [], ◌∷◌, ◌++◌, length, take, refl, ap, ◌∙◌, subst, arith}
use Rattle.disk_marks.specs.Marks.{MarksSeen}
use Rattle.disk_marks.specs.Changes.{marks_taken, marks_unpushed}
use Rattle.mark_laws.specs.Cuts.{rows_cut}

-- one page more, which stays, or is taken away
pub cut-more-kept : (disk pages j b : ℕ) (xs : List ℕ) (m : MarksSeen) → length xs < pages → rows_cut disk pages j (xs ++ b ∷ []) m ≡ marks_unpushed (rows_cut disk pages j xs m) disk b
cut-more-kept disk zero j b xs m lt = absurd (omega (arith, lt))
cut-more-kept disk (suc pages) j b [] m lt = refl
cut-more-kept disk (suc pages) j b (x ∷ xs) m lt = cut-more-kept disk pages j b xs (marks_unpushed m disk x) (omega (arith, lt))

pub cut-more-taken : (disk pages j b : ℕ) (xs : List ℕ) (m : MarksSeen) → pages ≤ length xs → rows_cut disk pages j (xs ++ b ∷ []) m ≡ marks_taken (rows_cut disk pages j xs m) disk b j
cut-more-taken disk zero j b [] m le = refl
cut-more-taken disk zero j b (x ∷ xs) m le = cut-more-taken disk zero j b xs (marks_taken m disk x j) (omega arith)
cut-more-taken disk (suc pages) j b [] m le = absurd (omega (arith, le))
cut-more-taken disk (suc pages) j b (x ∷ xs) m le = cut-more-taken disk pages j b xs (marks_unpushed m disk x) (omega (arith, le))
