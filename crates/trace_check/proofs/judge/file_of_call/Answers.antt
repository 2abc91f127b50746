use Rattle.std.proofs.Common.{◌∙◌}
use Rattle.trace_check.proofs.Judged.{file_of_part}
use Rattle.trace_check.proofs.judge.file_of_call.Goals as goal

pub returns-in_default : goal.returns-in_default
returns-in_default c = c.part_file.ensures ∙ file_of_part c.args.call.now c.in_default.not-Truncate
