-- How a text is read line by line, and which line is its first bad one. Public clauses cite this.
use Rattle.std.specs.Prelude.{ℕ, suc, ◌≡◌, ◌≤◌, ◌+◌, List, [], ◌∷◌, ◌++◌, length, Some}
use Rattle.vm_report.specs.vm_types.declared.call.Entry.{Entry}
use Rattle.vm_report.specs.Trace.{entry_text}
use Rattle.trace_text.specs.EntryForm.{IsTracedEntry}
use Rattle.trace_text.specs.Traces.{Trace, trace_text}
use Rattle.trace_text.specs.TraceForm.{IsTrace}
use Rattle.trace_text.specs.TraceLines.{TraceLine, trace_line_text, IsTraceLine, fed_lines}
use Rattle.trace_text.specs.LineOrder.{LinePlace, AtOpening, AtEntries, place_after, NoneThere}
use Rattle.trace_text.specs.BadLines.{IsFirstBadLine}
use Rattle.trace_text.specs.LinesRead.{untold, tell, HasRead}

-- Nothing is read at first. A line that may come next is one line more, and tells one thing more. Where no line with the next line's text may
-- come, or no line is left though more has to follow, that is the first bad line; so it is where no entry's line follows and one has to, and
-- where a line stands behind the last entry. What is read to its end is a trace's text.
pub record ReadsLines : Type 0 where
  pub none : (text : List ℕ) → HasRead text text untold AtOpening 0
  pub more : (text left rest : List ℕ) (t : Trace) (s u : LinePlace) (n : ℕ) (l : TraceLine) → HasRead text left t s n → IsTraceLine l → place_after s l ≡ Some u → left ≡ trace_line_text l ++ rest → HasRead text rest (tell t l) u (n + 1)
  pub bad : (text left rest line : List ℕ) (t : Trace) (s : LinePlace) (n : ℕ) → HasRead text left t s n → ¬ (s ≡ AtEntries 0) → (1 ≤ length left → fed_lines left ≡ line ∷ fed_lines rest) → NoneThere s line → IsFirstBadLine text (n + 1)
  pub no_entry : (text left : List ℕ) (t : Trace) (m n : ℕ) → HasRead text left t (AtEntries (suc m)) n → ((e : Entry) (rest : List ℕ) → IsTracedEntry e → ¬ (left ≡ entry_text e ++ rest)) → IsFirstBadLine text (n + 1)
  pub too_long : (text left : List ℕ) (t : Trace) (n : ℕ) → HasRead text left t (AtEntries 0) n → 1 ≤ length left → IsFirstBadLine text (n + 1)
  pub whole : (text : List ℕ) (t : Trace) (n : ℕ) → HasRead text [] t (AtEntries 0) n → IsTrace t × (text ≡ trace_text t)
