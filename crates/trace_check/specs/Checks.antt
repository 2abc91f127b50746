-- What a text stands for, and what the check of it answers. Public clauses cite this.
use Rattle.std.specs.Prelude.{ℕ, ◌≡◌, List, length, map, Result, Ok, Err}
use Rattle.std.specs.FinMap as finite
use Rattle.flat_model.specs.vm_types.declared.call.Entry.{Entry}
use Rattle.flat_model.specs.Flat.{File, Flat}
use Rattle.flat_model.specs.Opening.{flat_at_opening}
use Rattle.flat_model.specs.Parts.{file_at_opening}
use Rattle.flat_state.specs.Cells.{extents_of}
use Rattle.trace_text.specs.Traces.{TracedFile, Trace, trace_text}
use Rattle.trace_text.specs.TraceForm.{IsTrace}
use Rattle.trace_text.specs.BadLines.{IsFirstBadLine}
use Rattle.trace_check.specs.declared.verdict.Verdict.{Verdict}
use Rattle.trace_check.specs.declared.verdict.TraceFault.{TraceFault}
use Rattle.trace_check.specs.Verdicts.{IsVerdict}

-- A traced file as it is opened.
abbrev pub file_of_trace : TracedFile → File
file_of_trace file = file_at_opening (length file.bytes) file.disk (extents_of file.extents) file.writable file.bytes

-- Flat memory as a trace's opening part tells it: zero tails, no zero objects, and an empty space for each top process.
abbrev pub flat_of_trace : Trace → Flat
flat_of_trace t = flat_at_opening t.slots (finite.from_entries t.disks) (map file_of_trace t.files) t.roots

-- The text stands for this flat memory and this history.
pub record IsTextFor (text : List ℕ) (F : Flat) (H : List Entry) : Type 0 where
  pub trace : Trace
  pub is : IsTrace trace
  pub print : text ≡ trace_text trace
  pub flat : F ≡ flat_of_trace trace
  pub history : H ≡ trace.history

-- A text that stands for flat memory and a history gets their verdict, every other text its first bad line.
abbrev pub IsChecked : List ℕ → Result Verdict TraceFault → Type 0
IsChecked text (Ok v) = (F : Flat) × (H : List Entry) × IsTextFor text F H × IsVerdict F H v
IsChecked text (Err fault) = IsFirstBadLine text fault.line
