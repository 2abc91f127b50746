-- The failures that marks name.
use Rattle.std.proofs.Common.{◌≡◌, ◌≢◌, ℕ, zero, suc, List, [], ◌∷◌, ◌<◌, ◌≤◌, ◌-◌, ◌^◌, Option, Some, None, sym, ap, ◌∙◌, ◌⊎◌, inl, inr, subst, arith}
use Rattle.std.proofs.lemmas.Bool.{cases_eq}
use Rattle.flat_model.specs.Counted.{top_count}
use Rattle.page_store.specs.block_device.Counts.{HasRisen}
use Rattle.disk_marks.specs.declared.marks.Mark.TheVariants.{Held, Blank, Unsure}
use Rattle.disk_marks.specs.declared.marks.MarkRow.{MarkRow}
use Rattle.disk_marks.specs.declared.marks.Pushing.{Pushing}
use Rattle.disk_marks.specs.Marks.{MarksSeen, mark_row, push_of, with_mark_row}
use Rattle.disk_marks.specs.Changes.{row_written, row_spoiled, row_raised, marks_taken, marks_unpushed}
use Rattle.mark_laws.specs.MarksFit.{FailureFits, FailuresFit}
use Rattle.mark_laws.specs.Cuts.{rows_cut}
use Rattle.mark_laws.specs.FailureLaws.{CountOn, FailuresLaw}
use Rattle.mark_laws.proofs.Cutting.{row_taken, row_unpushed, row-either}
use Rattle.mark_laws.proofs.Words.{unsure-inj}

-- no count fell
kept : (old new : ℕ → Option ℕ) (m : MarksSeen) → CountOn old new → FailuresFit old m → FailuresFit new m
kept old new m on fits disk block j before after is =
    let f = fits disk block j before after is in
    let more = on disk f.count f.counted in
    let enough = f.enough in
    let le = more.2 in
    record { risen = f.risen; count = more.0; counted = more.1; enough = omega (arith, enough, le) }

-- one row changed: what a failure says holds where the new row says it, and the others were there before
with-row : (faults : ℕ → Option ℕ) (m : MarksSeen) (disk block : ℕ) (row : MarkRow) → FailuresFit faults m
    → ((j before after : ℕ) → row.mark ≡ Unsure j before after → FailureFits faults disk before after) → FailuresFit faults (with_mark_row m disk block row)
with-row faults m disk block row fits new d b j before after is = elim (row-either m disk block d b row) [
  | inl e ↦ subst (λ (k : ℕ). FailureFits faults k before after) (sym e.0) (new j before after (sym (ap (λ (r : MarkRow). r.mark) e.1) ∙ is))
  | inr same ↦ fits d b j before after (sym (ap (λ (r : MarkRow). r.mark) same) ∙ is)
]

written : (faults : ℕ → Option ℕ) (m : MarksSeen) (seat disk block : ℕ) → FailuresFit faults m
    → FailuresFit faults (with_mark_row m disk block (row_written (push_of m seat) (mark_row m disk block)))
written faults m seat disk block fits = by_push (push_of m seat)
  where
    by_push : (p : Option Pushing) → FailuresFit faults (with_mark_row m disk block (row_written p (mark_row m disk block)))
    by_push None = with-row faults m disk block (mark_row m disk block) fits (λ j before after is. fits disk block j before after is)
    by_push (Some push) = with-row faults m disk block (record { mark = Held push.from; pushed = push.whole }) fits
        (λ j before after is. absurd (let z : Held push.from ≡ Unsure j before after = is in cc))

raised : (faults : ℕ → Option ℕ) (m : MarksSeen) (disk block i : ℕ) → FailuresFit faults m
    → FailuresFit faults (with_mark_row m disk block (row_raised i (mark_row m disk block)))
raised faults m disk block i fits = with-row faults m disk block (row_raised i (mark_row m disk block)) fits
    (λ j before after is. absurd (let z : Held i ≡ Unsure j before after = is in cc))

taken : (faults : ℕ → Option ℕ) (m : MarksSeen) (disk block i : ℕ) → FailuresFit faults m → FailuresFit faults (marks_taken m disk block i)
taken faults m disk block i fits = with-row faults m disk block (row_taken i) fits
    (λ j before after is. absurd (let z : Blank i ≡ Unsure j before after = is in cc))

-- a count that rose by a failure: it is higher, or at the end of counts
rise : (a b : ℕ) → HasRisen a b → a ≤ b → b ≤ top_count → (a < b) ⊎ ((a ≡ top_count) × (b ≡ top_count))
rise a b risen later most = elim (cases_eq a top_count) [
  | inl top ↦ inr (top, omega (arith, most, later, top))
  | inr ne ↦ inl (lower a b risen later most ne)
]
  where
    lower : (a b : ℕ) → HasRisen a b → a ≤ b → b ≤ top_count → a ≢ top_count → a < b
    lower a b risen later most ne = elim (cases_eq a b) [
      | inl same ↦ absurd (ne (let z : a ≡ 2 ^ 64 - 1 = omega (arith, risen, most, same) in z))
      | inr far ↦ omega (arith, later, far)
    ]

spoiled : (faults : ℕ → Option ℕ) (m : MarksSeen) (disk block i before after : ℕ) → FailuresFit faults m
    → HasRisen before after → before ≤ after → after ≤ top_count → faults disk ≡ Some after
    → FailuresFit faults (with_mark_row m disk block (row_spoiled i before after))
spoiled faults m disk block i before after fits risen later most counted = with-row faults m disk block (row_spoiled i before after) fits
    (λ j x y is. let same = unsure-inj i before after j x y is in
    subst (λ (a : ℕ). FailureFits faults disk a y) same.1 (subst (λ (b : ℕ). FailureFits faults disk before b) same.2 (record {
      risen = rise before after risen later most;
      count = after;
      counted = counted;
      enough = omega arith;
    })))

-- A FILE IS CUT: its rows name no other failures
cut : (faults : ℕ → Option ℕ) (disk pages j : ℕ) (blocks : List ℕ) (m : MarksSeen) → FailuresFit faults m → FailuresFit faults (rows_cut disk pages j blocks m)
cut faults disk pages j [] m fits = fits
cut faults disk zero j (x ∷ xs) m fits = cut faults disk zero j xs (marks_taken m disk x j) (taken faults m disk x j fits)
cut faults disk (suc pages) j (x ∷ xs) m fits = cut faults disk pages j xs (marks_unpushed m disk x)
    (with-row faults m disk x (row_unpushed (mark_row m disk x)) fits (λ i before after is. fits disk x i before after is))

pub failures_rule : FailuresLaw
failures_rule = record {
  keep = kept;
  begins = λ faults m seat file page from fits. fits;
  written = λ faults m seat disk block fits. written faults m seat disk block fits;
  raised = λ faults m disk block j fits. raised faults m disk block j fits;
  emptied = λ faults m disk block file page j fits. taken faults m disk block j fits;
  cut = λ faults m f disk pages j blocks fits. cut faults disk pages j blocks m fits;
  spoiled = λ faults m seat disk block j before after fits risen later most counted. spoiled faults m disk block j before after fits risen later most counted;
}
