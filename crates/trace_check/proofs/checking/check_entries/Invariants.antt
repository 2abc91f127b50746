use Rattle.std.proofs.Common.{◌≡◌, ◌≤◌, ◌<◌, ◌+◌, ◌^◌, ℕ, List, [], length}
use Rattle.trace_text.specs.Traces.{Trace}
use Rattle.trace_text.specs.LineOrder.{AtEntries}
use Rattle.trace_text.specs.LinesRead.{HasRead}
use Rattle.trace_check.specs.Judging.{HasJudged}
use Rattle.trace_check.specs.Checks.{flat_of_trace}
use Rattle.trace_check.proofs.Checked.{Checking}
use Rattle.trace_check.proofs.checking.check_entries.Given as goal

abbrev pub invariant-loop-to_come : goal.invariant-loop-to_come
invariant-loop-to_come l = record {
  room : l.line + length l.left + 1 < 2 ^ 32;
  count : l.judge.count ≤ l.line;
  checks : (text : List ℕ) (t : Trace) → HasRead text l.fn.unread t (AtEntries l.fn.entries) l.fn.lines → t.history ≡ []
      → HasJudged (flat_of_trace t) [] l.fn.judge → Checking text l.left t l.to_come l.line l.judge;
}

abbrev pub decreases-loop-to_come : goal.decreases-loop-to_come
decreases-loop-to_come l = l.to_come
