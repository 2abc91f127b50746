use Rattle.std.proofs.Common.{◌∙◌}
use Rattle.vm_script.proofs.GivenDisks.{lack_same}
use Rattle.vm_script.proofs.rules.lacks_a_disk.Goals as goal

pub returns : goal.returns
returns c = c.lack_disks.ensures ∙ lack_same c.args.setup.now c.given_disks-given.result c.given_disks-given.ensures c.requires
