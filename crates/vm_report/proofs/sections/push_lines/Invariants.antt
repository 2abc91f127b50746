use Rattle.std.proofs.Common.{◌≡◌, ◌≤◌, ◌<◌, ◌-◌, ◌^◌, ◌++◌, [], length, map}
use Rattle.std.specs.Prelude.{All}
use Rattle.vm_script.specs.vm_types.WellFormed.{IsWellFormed}
use Rattle.vm_report.specs.Report.{lines_text}
use Rattle.vm_report.specs.PiecesInside.{lines_left}
use Rattle.vm_report.specs.Runs.{entries_left, runs_seen}
use Rattle.vm_report.proofs.sections.push_lines.Given as goal

abbrev pub invariant-loop-line : goal.invariant-loop-line
invariant-loop-line l = record {
  so_far : l.out.items ++ lines_left l.lines l.line (entries_left l.history l.runs l.place) ≡ l.initial.out.items ++ lines_text (map (λ x. x.now) l.lines) (runs_seen l.history l.runs);
  within : l.line ≤ length l.lines;
  few : length (entries_left l.history l.runs l.place) < 2 ^ 32;
  well_formed : All (λ e. IsWellFormed e.call) (entries_left l.history l.runs l.place);
  whole : l.place.front ≡ [] → entries_left l.history l.runs l.place ≡ [];
}

abbrev pub decreases-loop-line : goal.decreases-loop-line
decreases-loop-line l = length l.lines - l.line
