-- A line that may come next was taken. Inside: no public clause cites this.
use Rattle.std.specs.Prelude.{ℕ, ◌≡◌, List, Option, Some, None}
use Rattle.trace_text.specs.declared.so_far.OpeningSoFar.{OpeningSoFar}
use Rattle.trace_text.specs.TraceLines.{TraceLine, trace_line_text, IsTraceLine}
use Rattle.trace_text.specs.LineOrder.{LinePlace, AtEntries, place_after}
use Rattle.trace_text.specs.LinesRead.{tell}
use Rattle.trace_text.specs.OpeningSeen.{place_seen, trace_seen}

-- How many entries are still to come, where entries may stand.
abbrev pub entries_at : LinePlace → Option ℕ
entries_at (AtEntries n) = Some n
entries_at s = None

-- The line is one that may come behind what was kept, and what is kept after it tells this line
-- more.
pub record TakesLine (line : List ℕ) (old new : OpeningSoFar) : Type 0 where
  pub told : TraceLine
  pub may : IsTraceLine told
  pub text : line ≡ trace_line_text told
  pub place : place_after (place_seen old) told ≡ Some (place_seen new)
  pub trace : trace_seen new ≡ tell (trace_seen old) told
