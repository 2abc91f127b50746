use Rattle.std.proofs.Common.{◌∙◌, ap}
use Rattle.volume_files.specs.Numbers.{disk_numbers}
use Rattle.run_outcome.proofs.members.take_rooms.Goals as goal

pub returns-clause-numbers : goal.returns-clause-numbers
returns-clause-numbers g c = c.in_ok-disk_numbers.ensures ∙ ap disk_numbers c.setup.ensures
