use Rattle.std.proofs.Common.{◌≡◌, Some}
use Rattle.volume_files.specs.Mounting.{volumes_seen}
use Rattle.volume_files.specs.Opened.{volume_numbered}
use Rattle.volume_disks.specs.Singles.{single_seen}
use Rattle.volume_files.proofs.JoinedNumbers.{has_two_numbers}
use Rattle.volume_files.proofs.MountStops.{number_halts}
use Rattle.volume_files.proofs.mounting.mount_numbered.Goals as goal

pub mount-requires-clause-numbers : goal.mount-requires-clause-numbers
mount-requires-clause-numbers g c = λ κs lives.
    let is : volume_numbered c.args.setup.now c.args.number ≡ Some c.in-Ok-Some.volume = cc (c.in-Ok-Some.ensures, c.in-Ok-Some.field-0-is) in
    has_two_numbers c.args.setup.now c.args.number c.in-Ok-Some.volume is

pub returns-in-Ok-Some-clause-err : goal.returns-in-Ok-Some-clause-err
returns-in-Ok-Some-clause-err g c =
    let is : volume_numbered c.args.setup.now c.args.number ≡ Some c.in-Ok-Some.volume = cc (c.in-Ok-Some.ensures, c.in-Ok-Some.field-0-is) in
    number_halts c.mount.result c.args.setup.now c.args.number (g.R.Rack.seen c.args.rack.now).holds c.in-Ok-Some.volume (g.R.Rack.seen c.args.rack.now).faults (g.R.Rack.seen c.mount.new.rack).faults
    (volumes_seen (single_seen g.R.D.Disk.seen) c.args.disks.now.items) (volumes_seen (single_seen g.R.D.Disk.seen) c.mount.new.disks.items) is c.mount.ensures.err

pub returns-in-Ok-Some-clause-others : goal.returns-in-Ok-Some-clause-others
returns-in-Ok-Some-clause-others g c = λ s other.
    let is : volume_numbered c.args.setup.now c.args.number ≡ Some c.in-Ok-Some.volume = cc (c.in-Ok-Some.ensures, c.in-Ok-Some.field-0-is) in
    let apart = other c.in-Ok-Some.volume is in
    c.mount.ensures.others s apart.0 apart.1
