use Rattle.std.proofs.Common.{rules, ◌≡◌, ℕ, List, ◌<◌, ◌⊎◌, inl, inr, arith, replicate, subst}
use Rattle.std.specs.Prelude.{OnOk}
use Rattle.std.proofs.lemmas.List.{length-replicate}
use Rattle.block_device.specs.DiskSeen.{Shows}
use Rattle.volume_files.proofs.MountDisks.{bad-size, says_read, size-bad, size-told}
use Rattle.volume_files.proofs.mounting.read_table.Goals as goal
use Rattle.volume_files.proofs.mounting.read_table.Goals.{then-blocks-lt2-via-then-blocks-lt2, then-blocks-lt2-via-else-blocks-lt2+then-blocks-gt16384}

pub returns-in-Ok-clause-ok : goal.returns-in-Ok-clause-ok
returns-in-Ok-clause-ok g c =
    let old = g.D.Disk.seen c.args.disk.now.disk in
    let r = c.read.ensures.reads in
    says_read old (g.D.Disk.seen c.read.new.self.disk) c.read.new.into c.blocks-blocks.result (g.met.D.Disk.has_blocks c.args.disk.now.disk)
    (record { content = r.content; size = r.size; kind = r.kind; faults = r.cause.later }) c.blocks-blocks.ensures
    (subst (λ x. OnOk x (Shows old.content 0 c.read.new.into)) c.in-Ok.is r.gives) c.if-blocks-lt2.false c.if-blocks-gt16384.false c.table_in_block.result c.table_in_block.ensures.ok

pub returns-then-blocks-lt2-clause-err : goal.returns-then-blocks-lt2-clause-err
returns-then-blocks-lt2-clause-err g c =
    let d = c.args.disk.now.disk in
    let size = (g.D.Disk.seen d).size in
    let out : (size < 2) ⊎ (16384 < size) = elim c.then-blocks-lt2.branch [
      | then-blocks-lt2-via-then-blocks-lt2 w ↦ inl (omega (arith, w.if-blocks-lt2.true, c.blocks-blocks.ensures))
      | then-blocks-lt2-via-else-blocks-lt2+then-blocks-gt16384 w ↦ inr (omega (arith, w.if-blocks-gt16384.true, c.blocks-blocks.ensures))
    ] in
    let bad = bad-size size out in
    let zeros : List ℕ = replicate 4096 0 in
    (c.number-number.ensures, size-told (g.D.Disk.seen d).content size (g.met.D.Disk.has_blocks d) bad, (zeros, length-replicate {A = ℕ} 4096 0, size-bad zeros size bad))

-- its size was tested before
pub returns-in-Err-clause-err : goal.returns-in-Err-clause-err
returns-in-Err-clause-err g c =
    let size : (g.D.Disk.seen c.read.new.self.disk).size ≡ (g.D.Disk.seen c.args.disk.now.disk).size = c.read.ensures.reads.size in
    let one = c.blocks-blocks.ensures in (search rules, omega (arith, c.if-blocks-lt2.false, one, size), omega (arith, c.if-blocks-gt16384.false, one, size))
