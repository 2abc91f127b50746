use Rattle.trace_check.proofs.Openings.{disks_none, disks_step, next_disk_new, disks_all}
use Rattle.std.proofs.Common.{length, arith}
use Rattle.trace_check.proofs.opened.add_disks.Goals as goal

pub loop-left-init : goal.loop-left-init
loop-left-init c = disks_none c.args.disks.now c.args.flat.now c.requires.none

pub disk-requires : goal.disk-requires
disk-requires c = record {
  new = next_disk_new c.args.disks.now c.loop-left.left.now c.args.flat.now c.loop-left.flat c.in-len1-up.len_at_least c.requires.rising c.loop-left.invariant;
}

pub loop-left-preserved : goal.loop-left-preserved
loop-left-preserved c =
    disks_step c.args.disks.now c.loop-left.left.now c.args.flat.now c.loop-left.flat c.disk.new.self c.in-len1-up.len_at_least c.loop-left.invariant c.in_ok-disk.ensures.ok

pub returns : goal.returns
returns c = disks_all c.args.disks.now c.loop-left.left.now c.args.flat.now c.loop-left.flat (omega (arith, c.in_default.len_below)) c.loop-left.invariant
