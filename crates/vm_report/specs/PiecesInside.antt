-- How the sections that are still to come are kept. Inside: no public clause cites this.
use Rattle.std.specs.Prelude.{ℕ, zero, suc, ◌≡◌, ◌<◌, ◌≤◌, ◌+◌, ◌-◌, ◌^◌, ◌++◌, Bool, false, All, List, [], length, map, drop, slice_index_or}
use Rattle.std.specs.List.{list_any}
use Rattle.std.specs.Borrow.{Bor}
use Rattle.vm_script.specs.vm_types.WellFormed.{IsWellFormed}
use Rattle.vm_script.specs.vm_types.declared.call.Entry.{Entry}
use Rattle.vm_script.specs.flat_model.Told.{entries_of}
use Rattle.vm_script.specs.declared.plan.PlanLine.{PlanLine}
use Rattle.vm_script.specs.PlanSeen.{PlanSeen}
use Rattle.vm_script.specs.Told.{is_birth, own_lines}
use Rattle.vm_report.specs.Pieces.{TextLeft}
use Rattle.vm_report.specs.Report.{lines_text, sections_from}
use Rattle.vm_report.specs.Runs.{AreWithin, entries_left, runs_seen}
use Rattle.vm_report.specs.declared.cursors.Cursor.{Cursor}
use Rattle.vm_report.specs.declared.runs.Run.{Run}

-- What the lines of a block print from a line on, over the entries that are left.
abbrev pub text_from : List PlanLine → ℕ → List Entry → List ℕ
text_from ls line left = lines_text (drop line ls) left

-- The same over borrowed lines.
abbrev pub lines_left : List (Bor PlanLine) → ℕ → List Entry → List ℕ
lines_left ls line left = text_from (map (λ l. l.now) ls) line left

-- A later place in a process's entries: what is left there is the end of what was left, and where its run has no more, none has.
pub record IsLeftOf (H : List Entry) (rs : List Run) (from to : Cursor) : Type 0 where
  pub passed : (n : ℕ) × (entries_left H rs to ≡ drop n (entries_left H rs from))
  pub whole : to.front ≡ [] → entries_left H rs to ≡ []

-- What is left of the entries of process p.
abbrev pub left_of : List Entry → List (List Run) → ℕ → Cursor → List Entry
left_of H entries p place = entries_left H (slice_index_or entries p []) place

-- How many pieces the sections of so many processes from number p on are at most: a heading, and a piece for each line.
abbrev pub pieces_from : PlanSeen → ℕ → ℕ → ℕ
pieces_from plan zero p = 0
pieces_from plan (suc n) p = suc (length (own_lines plan p) + pieces_from plan n (p + 1))

-- What is still to come once the heading of process p and so many of its lines were passed.
abbrev pub sections_left : PlanSeen → List Entry → ℕ → ℕ → List Entry → TextLeft
sections_left plan H p line left = record {
  text = text_from (own_lines plan p) line left ++ sections_from plan H (length plan.parents - p) (p + 1);
  pieces = (length (own_lines plan p) - line) + pieces_from plan (length plan.parents - p) (p + 1);
}

-- Births, lines and entries by process.
pub record AreSorted (plan : PlanSeen) (H : List Entry) (births : List Bool) (lines : List (List PlanLine)) (entries : List (List Run)) : Type 0 where
  pub few : length H < 2 ^ 32
  pub few_blocks : length plan.parents < 2 ^ 31
  pub well_formed : All (λ e. IsWellFormed e.call) H
  pub births_count : length births ≡ length plan.parents + 1
  pub lines_count : length lines ≡ length plan.parents + 1
  pub entries_count : length entries ≡ length plan.parents + 1
  pub births_of : (p : ℕ) → p < length plan.parents + 1 → slice_index_or births p false ≡ list_any (is_birth p) H
  pub lines_of : (p : ℕ) → p < length plan.parents + 1 → slice_index_or lines p [] ≡ own_lines plan p
  pub entries_of : (p : ℕ) → p < length plan.parents + 1 → slice_index_or (map (runs_seen H) entries) p [] ≡ entries_of H p
  pub within : All (AreWithin (length H)) entries

-- A place in them.
pub record IsSectionPlace (plan : PlanSeen) (H : List Entry) (entries : List (List Run)) (p line : ℕ) (place : Cursor) : Type 0 where
  pub known : p ≤ length plan.parents
  pub line_within : line ≤ length (own_lines plan p)
  pub few : length (left_of H entries p place) < 2 ^ 32
  pub well_formed : All (λ e. IsWellFormed e.call) (left_of H entries p place)
  pub whole : place.front ≡ [] → left_of H entries p place ≡ []
