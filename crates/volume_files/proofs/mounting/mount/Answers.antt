use Rattle.std.proofs.Common.{◌∙◌, ap, refl}
use Rattle.std.specs.Prelude.{Err}
use Rattle.block_device.specs.DiskSeen.{DiskKind}
use Rattle.joined_disk.specs.JoinedSeen.{joined_seen}
use Rattle.volume_disks.specs.Volumes.{spec_count}
use Rattle.volume_format.specs.Table.{TableSeen}
use Rattle.stored_files.specs.Written.{numbered_seen}
use Rattle.volume_files.specs.Mounting.{volumes_seen}
use Rattle.volume_disks.specs.Singles.{single_seen}
use Rattle.volume_files.proofs.DiskCounts.{members-attached}
use Rattle.volume_files.proofs.MountVolume.{halts_unread, members_back, mounts_one, none_back, pushed_as, volume_halts, volume_still}
use Rattle.volume_files.proofs.Unfailing.{none-pushed, none-told, rack-anyway, said-anyway, unless-halted}
use Rattle.volume_files.proofs.VolumeSeen.{volume_attached, volume_members, volume_unfailed}
use Rattle.volume_files.proofs.mounting.mount.Goals as goal

-- ---- the volume wasn't attached

pub returns-in-Err-clause-err : goal.returns-in-Err-clause-err
returns-in-Err-clause-err g c =
    let seen = single_seen g.R.D.Disk.seen in
    volume_halts seen c.whole_law.ensures (g.R.Rack.seen c.args.rack.now) (g.R.Rack.seen c.attach_volume.new.rack) (volumes_seen seen c.args.disks.now.items) c.args.volume.now c.in-Err.back
    (volumes_seen seen c.put_alone.new.disks.items) (volumes_seen seen c.put_alone-in-Err.new.disks.items) c.unmounted.result c.in-Err.ensures.err c.put_alone.ensures.items c.put_alone-in-Err.ensures.items c.unmounted.ensures

pub returns-in-Err-clause-steady : goal.returns-in-Err-clause-steady
returns-in-Err-clause-steady g c =
    volume_still (single_seen g.R.D.Disk.seen) (g.R.Rack.seen c.args.rack.now) (g.R.Rack.seen c.attach_volume.new.rack) c.args.volume.now c.in-Err.back c.unmounted.result c.in-Err.ensures.err c.unmounted.ensures

pub returns-in-Err-clause-uncounted : goal.returns-in-Err-clause-uncounted
returns-in-Err-clause-uncounted g c =
    let seen = single_seen g.R.D.Disk.seen in
    said-anyway {T = Unit {0}} (Err c.unmounted.result) (none_back seen (g.R.Rack.seen c.args.rack.now) (g.R.Rack.seen c.attach_volume.new.rack) c.args.volume.now c.in-Err.back (volumes_seen seen c.args.disks.now.items)
    (volumes_seen seen c.put_alone.new.disks.items) (volumes_seen seen c.put_alone-in-Err.new.disks.items) c.in-Err.ensures.err c.put_alone.ensures.items c.put_alone-in-Err.ensures.items)

pub returns-in-Err-clause-count : goal.returns-in-Err-clause-count
returns-in-Err-clause-count g c =
    let seen = single_seen g.R.D.Disk.seen in
    members_back seen (g.R.Rack.seen c.args.rack.now) (g.R.Rack.seen c.attach_volume.new.rack) c.args.volume.now c.in-Err.back (volumes_seen seen c.args.disks.now.items)
    (volumes_seen seen c.put_alone.new.disks.items) (volumes_seen seen c.put_alone-in-Err.new.disks.items) c.in-Err.ensures.err c.put_alone.ensures.items c.put_alone-in-Err.ensures.items c.in-Err.ensures.back

-- ---- it was, and its table was read

pub returns-in-Ok-read-clause-ok : goal.returns-in-Ok-read-clause-ok
returns-in-Ok-read-clause-ok g c =
    let seen = single_seen g.R.D.Disk.seen in
    let holds = (g.R.Rack.seen c.args.rack.now).holds in
    let volume = c.in-Ok.ensures.ok in
    let read = c.read_table-read.new.disk in
    mounts_one holds c.args.volume.now (volumes_seen seen c.args.disks.now.items) (volumes_seen seen c.push_reserved.new.self.items) (joined_seen seen c.in-Ok.disk.disk) (numbered_seen (joined_seen seen) read)
    (volume_attached seen c.whole_law.ensures holds c.args.volume.now c.in-Ok.disk volume) c.read_table-read.ensures.reads (c.read_table-read.ensures.number ∙ volume.number)
    (pushed_as (numbered_seen (joined_seen seen)) c.args.disks.now.items c.push_reserved.new.self.items read (numbered_seen (joined_seen seen) read) c.push_reserved.ensures.items refl)
    c.in-Ok-read.table c.args.tables.now.items c.push_reserved-in-Ok-read.new.self.items c.in-Ok-read.ensures.ok c.push_reserved-in-Ok-read.ensures.items

pub returns-in-Ok-read-clause-uncounted : goal.returns-in-Ok-read-clause-uncounted
returns-in-Ok-read-clause-uncounted g c = λ none.
    let seen = single_seen g.R.D.Disk.seen in
    none-pushed (numbered_seen (joined_seen seen)) c.args.disks.now.items c.push_reserved.new.self.items c.read_table-read.new.disk c.push_reserved.ensures.items
    (c.in-Ok-read.ensures.failures ∙ none-told (joined_seen seen c.in-Ok.disk.disk) (volume_unfailed seen (g.R.Rack.seen c.args.rack.now).holds c.args.volume.now c.in-Ok.disk c.in-Ok.ensures.ok)) none

pub returns-in-Ok-read-clause-count : goal.returns-in-Ok-read-clause-count
returns-in-Ok-read-clause-count g c =
    let seen = single_seen g.R.D.Disk.seen in
    members-attached (joined_seen seen) c.args.disks.now.items c.push_reserved.new.self.items c.read_table-read.new.disk (spec_count c.args.volume.now) (g.R.Rack.seen c.args.rack.now).attached
    (g.R.Rack.seen c.attach_volume.new.rack).attached c.push_reserved.ensures.items
    (ap (λ (k : DiskKind). k.members) c.read_table-read.ensures.reads.kind ∙ volume_members seen (g.R.Rack.seen c.args.rack.now).holds c.args.volume.now c.in-Ok.disk c.in-Ok.ensures.ok) c.in-Ok.ensures.counted

-- ---- it was, and its table wasn't read

pub returns-in-Err-read-clause-err : goal.returns-in-Err-read-clause-err
returns-in-Err-read-clause-err g c =
    let seen = single_seen g.R.D.Disk.seen in
    let holds = (g.R.Rack.seen c.args.rack.now).holds in
    let volume = c.in-Ok.ensures.ok in
    let read = c.read_table-read.new.disk in
    halts_unread holds c.args.volume.now (volumes_seen seen c.args.disks.now.items) (volumes_seen seen c.push_reserved.new.self.items) (joined_seen seen c.in-Ok.disk.disk) (numbered_seen (joined_seen seen) read)
    (volume_attached seen c.whole_law.ensures holds c.args.volume.now c.in-Ok.disk volume) c.read_table-read.ensures.reads (c.read_table-read.ensures.number ∙ volume.number)
    (pushed_as (numbered_seen (joined_seen seen)) c.args.disks.now.items c.push_reserved.new.self.items read (numbered_seen (joined_seen seen) read) c.push_reserved.ensures.items refl)
    c.in-Ok.disk.number (g.R.Rack.seen c.args.rack.now).faults (g.R.Rack.seen c.attach_volume.new.rack).faults c.in-Err-read.how c.read_table-read.ensures.number c.in-Err-read.ensures.err

-- the rack wasn't called behind it
pub returns-in-Err-read-clause-steady : goal.returns-in-Err-read-clause-steady
returns-in-Err-read-clause-steady g c = rack-anyway c.in-Err-read.how c.in-Ok.ensures.steady

pub returns-in-Err-read-clause-uncounted : goal.returns-in-Err-read-clause-uncounted
returns-in-Err-read-clause-uncounted g c =
    let seen = single_seen g.R.D.Disk.seen in
    unless-halted TableSeen (Unit {0}) c.in-Err-read.how (λ same none. none-pushed (numbered_seen (joined_seen seen)) c.args.disks.now.items c.push_reserved.new.self.items c.read_table-read.new.disk
    c.push_reserved.ensures.items
    (same ∙ none-told (joined_seen seen c.in-Ok.disk.disk) (volume_unfailed seen (g.R.Rack.seen c.args.rack.now).holds c.args.volume.now c.in-Ok.disk c.in-Ok.ensures.ok)) none) c.in-Err-read.ensures.failures

pub returns-in-Err-read-clause-count : goal.returns-in-Err-read-clause-count
returns-in-Err-read-clause-count g c =
    let seen = single_seen g.R.D.Disk.seen in
    members-attached (joined_seen seen) c.args.disks.now.items c.push_reserved.new.self.items c.read_table-read.new.disk (spec_count c.args.volume.now) (g.R.Rack.seen c.args.rack.now).attached
    (g.R.Rack.seen c.attach_volume.new.rack).attached c.push_reserved.ensures.items
    (ap (λ (k : DiskKind). k.members) c.read_table-read.ensures.reads.kind ∙ volume_members seen (g.R.Rack.seen c.args.rack.now).holds c.args.volume.now c.in-Ok.disk c.in-Ok.ensures.ok) c.in-Ok.ensures.counted
