use Rattle.std.specs.Prelude.{◌<◌, length, slice_index_or}
use Rattle.std.proofs.Common.{◌∙◌, arith}
use Rattle.std.proofs.lemmas.List.{get_or_default}
use Rattle.std.proofs.lemmas.Result.{err_from_is_err_and}
use Rattle.stored_files.specs.Written.{numbered_seen}
use Rattle.volume_files.specs.Handed.{SparesBlock}
use Rattle.stored_files.proofs.Uncut.{counts-set}
use Rattle.volume_files.proofs.SparedBlocks.{keep-done, keep-set}
use Rattle.volume_files.proofs.WriteLemmas.{fault-set, FileOn, file_on-step, remain-set}
use Rattle.volume_files.proofs.pages.write_file.Goals as goal

pub returns-in_err-write_on-clause-fault : goal.returns-in_err-write_on-clause-fault
returns-in_err-write_on-clause-fault g c =
    let below : c.loop-i.i < length c.loop-i.disks = omega (arith, c.loop-i-test.true, c.loop-i.invariant.stay.count) in
    let p = err_from_is_err_and c.from_residual.result c.from_residual.ensures.1 in
    rw (p.1, p.2) (fault-set g.D.Disk.seen c.loop-i.disks c.loop-i.i c.write_on.new.disk c.in_err-write_on.field-0.0 below c.in_err-write_on.ensures.fault)

pub returns-in_err-write_on-clause-stay : goal.returns-in_err-write_on-clause-stay
returns-in_err-write_on-clause-stay g c =
    let below : c.loop-i.i < length c.loop-i.disks = omega (arith, c.loop-i-test.true, c.loop-i.invariant.stay.count) in
    let x = slice_index_or c.loop-i.disks c.loop-i.i c.index-disks-i.result in
    remain-set g.D.Disk.seen c.args.disks.now c.loop-i.disks c.loop-i.i x c.write_on.new.disk c.loop-i.invariant.stay below
    (get_or_default c.loop-i.disks c.loop-i.i c.index-disks-i.result x below) c.in_err-write_on.ensures.stays

pub loop-i-preserved : goal.loop-i-preserved
loop-i-preserved g c =
    let below : c.loop-i.i < length c.loop-i.disks = omega (arith, c.loop-i-test.true, c.loop-i.invariant.stay.count) in
    let on : FileOn g.D.Disk.seen c.args.info.now c.args.bytes.now c.args.disks.now c.loop-i.disks c.loop-i.i =
    record { stay = c.loop-i.invariant.stay; done = c.loop-i.invariant.done; rest = c.loop-i.invariant.rest } in
    let x = slice_index_or c.loop-i.disks c.loop-i.i c.index-disks-i.result in
    let next = file_on-step g.D.Disk.seen c.args.info.now c.args.bytes.now c.args.disks.now c.loop-i.disks c.loop-i.i x c.write_on.new.disk on below
    (get_or_default c.loop-i.disks c.loop-i.i c.index-disks-i.result x below)
    c.in_ok-write_on.ensures.stays c.in_ok-write_on.ensures.ok in
    record {
      stay = next.stay;
      done = next.done;
      rest = next.rest;
      failures = counts-set (numbered_seen g.D.Disk.seen) c.loop-i.disks c.loop-i.i c.index-disks-i.result c.write_on.new.disk (c.in_ok-write_on.ensures.failures) ∙ c.loop-i.invariant.failures;
    }

pub returns-in_err-write_on-clause-keep : goal.returns-in_err-write_on-clause-keep
returns-in_err-write_on-clause-keep g c =
    let below : c.loop-i.i < length c.loop-i.disks = omega (arith, c.loop-i-test.true, c.loop-i.invariant.stay.count) in
    let x = slice_index_or c.loop-i.disks c.loop-i.i c.index-disks-i.result in
    keep-set g.D.Disk.seen (SparesBlock c.args.info.now c.args.bytes.now) c.args.disks.now c.loop-i.disks c.loop-i.i x c.write_on.new.disk c.loop-i.invariant.stay
    (keep-done g.D.Disk.seen c.args.disks.now c.loop-i.disks c.args.info.now c.args.bytes.now c.loop-i.i c.loop-i.invariant.done c.loop-i.invariant.rest) below
    (get_or_default c.loop-i.disks c.loop-i.i c.index-disks-i.result x below) c.in_err-write_on.ensures.keeps

pub returns-clause-keep : goal.returns-clause-keep
returns-clause-keep g c =
    keep-done g.D.Disk.seen c.args.disks.now c.loop-i.disks c.args.info.now c.args.bytes.now c.loop-i.i c.loop-i.invariant.done c.loop-i.invariant.rest
