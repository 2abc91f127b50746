-- The first bad line of a text that is no trace's. Public clauses cite this.
use Rattle.std.specs.Prelude.{ℕ, ◌≡◌, ◌<◌, ◌+◌, ◌⊎◌, List, ◌++◌, length, take}
use Rattle.trace_text.specs.TraceLines.{fed_lines}
use Rattle.trace_text.specs.Traces.{Trace, trace_text}
use Rattle.trace_text.specs.TraceForm.{IsTrace}

-- The text is the text of a trace that keeps the form of traces.
abbrev pub IsTextOfTrace : List ℕ → Type 0
IsTextOfTrace text = (t : Trace) × IsTrace t × (text ≡ trace_text t)

-- Some trace's text has these lines first.
abbrev pub BeginTrace : List (List ℕ) → Type 0
BeginTrace ls = (t : Trace) × IsTrace t × (more : List (List ℕ)) × (fed_lines (trace_text t) ≡ ls ++ more)

-- The first k lines of a text begin a trace, and the next one can't stand behind them, or there is none though more has to follow.
pub record IsBadBehind (text : List ℕ) (k : ℕ) : Type 0 where
  pub good : BeginTrace (take k (fed_lines text))
  pub bad : ((k < length (fed_lines text)) × ¬ BeginTrace (take (k + 1) (fed_lines text))) ⊎ ((k ≡ length (fed_lines text)) × ¬ IsTextOfTrace text)

-- The line, counted from 1, is the first one that no trace's text with the same lines before it has there, or the last one plus one where more
-- had to follow.
abbrev pub IsFirstBadLine : List ℕ → ℕ → Type 0
IsFirstBadLine text line = (k : ℕ) × (line ≡ k + 1) × IsBadBehind text k
