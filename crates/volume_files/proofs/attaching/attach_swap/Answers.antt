use Rattle.std.proofs.Common.{◌<◌, ◌∙◌, Some, None, ap, arith, false, subst, sym}
use Rattle.block_device.specs.DiskSeen.{DiskSeen}
use Rattle.block_device.specs.RackSeen.{IsAttached}
use Rattle.block_device.specs.declared.rack.Spec.TheVariants as spec
use Rattle.volume_files.specs.Handed.{IsSwapFor}
use Rattle.volume_disks.specs.Singles.{single_seen}
use Rattle.volume_files.proofs.VolumeSeen.{one_seen}
use Rattle.volume_files.proofs.attaching.attach_swap.Goals as goal

pub returns-in-Ok-clause-ok : goal.returns-in-Ok-clause-ok
returns-in-Ok-clause-ok g c =
    let same = one_seen (single_seen g.R.D.Disk.seen) c.in-Ok.disk.disk false c.alone.result.disk c.alone.ensures.stands in
    let some : 0 < c.args.slots = omega arith in
    subst (λ (x : DiskSeen). IsSwapFor c.args.slots (Some x)) (sym same) (some, c.in-Ok.ensures.attached.1.0, c.in-Ok.ensures.single)

pub returns-in-Ok-clause-blank : goal.returns-in-Ok-clause-blank
returns-in-Ok-clause-blank g c =
    let same = one_seen (single_seen g.R.D.Disk.seen) c.in-Ok.disk.disk false c.alone.result.disk c.alone.ensures.stands in
    subst (λ (x : DiskSeen). IsAttached (spec.Blank 8 c.args.slots) None x) (sym same) c.in-Ok.ensures.attached.1

pub returns-in-Ok-clause-counted : goal.returns-in-Ok-clause-counted
returns-in-Ok-clause-counted g c =
    let same = one_seen (single_seen g.R.D.Disk.seen) c.in-Ok.disk.disk false c.alone.result.disk c.alone.ensures.stands in
    let one = ap (λ (x : DiskSeen). x.kind.members) same ∙ c.in-Ok.ensures.single in
    omega (arith, one, c.in-Ok.ensures.counted)

pub returns-in-Ok-clause-unfailed : goal.returns-in-Ok-clause-unfailed
returns-in-Ok-clause-unfailed g c =
    ap (λ (x : DiskSeen). x.faults) (one_seen (single_seen g.R.D.Disk.seen) c.in-Ok.disk.disk false c.alone.result.disk c.alone.ensures.stands) ∙ c.in-Ok.ensures.unfailed
