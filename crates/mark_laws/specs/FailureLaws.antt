-- The failures that marks name. Public clauses cite this.
use Rattle.std.specs.Prelude.{◌≡◌, ◌≤◌, ℕ, List, Option, Some}
use Rattle.flat_model.specs.Counted.{top_count}
use Rattle.page_store.specs.block_device.Counts.{HasRisen}
use Rattle.disk_marks.specs.Marks.{MarksSeen}
use Rattle.disk_marks.specs.Changes.{marks_begun, marks_written, marks_spoiled, marks_raised, marks_emptied}
use Rattle.mark_laws.specs.Cuts.{marks_cut}
use Rattle.mark_laws.specs.MarksFit.{FailuresFit}

-- No count fell: each disk is there as before, and counted as much at least.
abbrev pub CountOn : (ℕ → Option ℕ) → (ℕ → Option ℕ) → Type 0
CountOn old new = (disk count : ℕ) → old disk ≡ Some count → (more : ℕ) × (new disk ≡ Some more) × (count ≤ more)

-- THE FAILURES STAY TRUE while no count falls, as a push begins or ends well, as a mark rises and as a file is cut; and a push that failed names its own.
pub record FailuresLaw : Type 0 where
  pub keep : (old new : ℕ → Option ℕ) (m : MarksSeen) → CountOn old new → FailuresFit old m → FailuresFit new m
  pub begins : (faults : ℕ → Option ℕ) (m : MarksSeen) (seat file page from : ℕ) → FailuresFit faults m → FailuresFit faults (marks_begun m seat file page from)
  pub written : (faults : ℕ → Option ℕ) (m : MarksSeen) (seat disk block : ℕ) → FailuresFit faults m
      → FailuresFit faults (marks_written m seat disk block)
  pub raised : (faults : ℕ → Option ℕ) (m : MarksSeen) (disk block j : ℕ) → FailuresFit faults m
      → FailuresFit faults (marks_raised m disk block j)
  pub emptied : (faults : ℕ → Option ℕ) (m : MarksSeen) (disk block file page j : ℕ) → FailuresFit faults m
      → FailuresFit faults (marks_emptied m disk block file page j)
  pub cut : (faults : ℕ → Option ℕ) (m : MarksSeen) (f disk pages j : ℕ) (blocks : List ℕ) → FailuresFit faults m
      → FailuresFit faults (marks_cut m f disk pages j blocks)
  pub spoiled : (faults : ℕ → Option ℕ) (m : MarksSeen) (seat disk block j before after : ℕ) → FailuresFit faults m
      → HasRisen before after → before ≤ after → after ≤ top_count → faults disk ≡ Some after
      → FailuresFit faults (marks_spoiled m seat disk block j before after)
