use Rattle.std.proofs.Common.{◌≡◌, map, take}
use Rattle.trace_text.specs.OpeningSeen.{traced_file_seen}
use Rattle.trace_check.specs.Checks.{file_of_trace}
use Rattle.trace_check.specs.Opened.{with_more_files}
use Rattle.trace_check.proofs.opened.add_files.Given as goal

abbrev pub invariant-loop-file : goal.invariant-loop-file
invariant-loop-file l = l.flat ≡ with_more_files l.fn.flat (map file_of_trace (map traced_file_seen (take l.file-index l.files)))
