use Rattle.std.specs.Prelude.{ℕ, ◌≡◌, ◌+◌, List, drop, map, Some, None}
use Rattle.std.proofs.Common.{◌∙◌, ap, arith, sym, subst}
use Rattle.block_device.specs.declared.numbered.NumberedDisk.{NumberedDisk}
use Rattle.std.proofs.lemmas.List.Elements.{All-head}
use Rattle.volume_format.specs.vnode_files.Files.{vnode_at}
use Rattle.volume_format.specs.vnode_files.declared.vnode.FileInfo.{FileInfo}
use Rattle.stored_files.specs.Written.{numbered_seen}
use Rattle.volume_files.specs.Handed.{SpareBlock, SparesBlock}
use Rattle.stored_files.specs.Uncut.{counts_of}
use Rattle.volume_files.specs.Opened.{OpenedFile}
use Rattle.volume_files.specs.Placing.{bytes_given, line_files}
use Rattle.volume_files.proofs.SparedBlocks.{keep-left, keep-then}
use Rattle.volume_files.proofs.WriteLemmas.{LinesOn, line-step, line_file-place, line_file-count, lines_on-file, lines_on-other}
use Rattle.volume_files.proofs.pages.write_lines.Goals as goal
use Rattle.volume_files.proofs.pages.write_lines.Goals.{in-Some+in_ok-write_file, in_default}

pub write_file-requires : goal.write_file-requires
write_file-requires g c =
    let on : LinesOn g.D.Disk.seen c.args.files.now c.args.first c.args.setup.now c.args.disks.now c.loop-line.disks c.loop-line.file c.loop-line.line-index =
    record { stay = c.loop-line.invariant.stay; count = c.loop-line.invariant.count; places = c.loop-line.invariant.places; rest = c.loop-line.invariant.rest; spare = c.loop-line.invariant.spare } in
    let gives : bytes_given c.line-item.result.act ≡ Some c.in-Some.bytes.now = cc (c.in-Some.ensures) in
    line_file-place g.D.Disk.seen c.args.files.now c.args.first c.args.setup.now c.args.disks.now c.loop-line.disks c.loop-line.file c.loop-line.line-index c.line-item.result
    c.in-Some.bytes.now c.info.result.now on c.loop-line-test.true c.line-item.is gives c.info.ensures.info

pub overflow_add-file : goal.overflow_add-file
overflow_add-file g c =
    let on : LinesOn g.D.Disk.seen c.args.files.now c.args.first c.args.setup.now c.args.disks.now c.loop-line.disks c.loop-line.file c.loop-line.line-index =
    record { stay = c.loop-line.invariant.stay; count = c.loop-line.invariant.count; places = c.loop-line.invariant.places; rest = c.loop-line.invariant.rest; spare = c.loop-line.invariant.spare } in
    let gives : bytes_given c.line-item.result.act ≡ Some c.in-Some.bytes.now = cc (c.in-Some.ensures) in
    let below = line_file-count g.D.Disk.seen c.args.files.now c.args.first c.args.setup.now c.args.disks.now c.loop-line.disks c.loop-line.file c.loop-line.line-index c.line-item.result
    c.in-Some.bytes.now on c.loop-line-test.true c.line-item.is gives in
    omega (arith, below, c.requires.few)

pub loop-line-preserved : goal.loop-line-preserved
loop-line-preserved g c =
    let seen = g.D.Disk.seen in
    let made = c.args.files.now in
    let i = c.loop-line.line-index in
    let k = c.loop-line.file in
    let on : LinesOn seen made c.args.first c.args.setup.now c.args.disks.now c.loop-line.disks k i =
    record { stay = c.loop-line.invariant.stay; count = c.loop-line.invariant.count; places = c.loop-line.invariant.places; rest = c.loop-line.invariant.rest; spare = c.loop-line.invariant.spare } in
    let next : LinesOn seen made c.args.first c.args.setup.now c.args.disks.now c.match-file_bytes.disks c.match-file_bytes.file (i + 1) = elim c.match-file_bytes.branch [
      | in-Some+in_ok-write_file w ↦
          let gives : bytes_given c.line-item.result.act ≡ Some w.in-Some.bytes.now = cc (w.in-Some.ensures) in
          subst (λ (ds : List (NumberedDisk _)). LinesOn seen made c.args.first c.args.setup.now c.args.disks.now ds c.match-file_bytes.file (i + 1)) (sym w.disks-is)
          (subst (λ (n : ℕ). LinesOn seen made c.args.first c.args.setup.now c.args.disks.now w.write_file.new.disks n (i + 1)) (sym w.file-is)
          (lines_on-file seen made c.args.first c.args.setup.now c.args.disks.now c.loop-line.disks w.write_file.new.disks k i c.line-item.result w.in-Some.bytes.now w.info.result.now
          on c.loop-line-test.true c.line-item.is gives w.info.ensures.info w.in_ok-write_file.ensures.stay w.in_ok-write_file.ensures.ok))
      | in_default w ↦
          let gives : bytes_given c.line-item.result.act ≡ None = cc (w.in_default.ensures) in
          subst (λ (ds : List (NumberedDisk _)). LinesOn seen made c.args.first c.args.setup.now c.args.disks.now ds c.match-file_bytes.file (i + 1)) (sym w.disks-is)
          (subst (λ (n : ℕ). LinesOn seen made c.args.first c.args.setup.now c.args.disks.now c.loop-line.disks n (i + 1)) (sym w.file-is)
          (lines_on-other seen made c.args.first c.args.setup.now c.args.disks.now c.loop-line.disks k i c.line-item.result on c.loop-line-test.true c.line-item.is gives))
    ] in
    let seen-of = numbered_seen seen in
    let same : counts_of (map seen-of c.match-file_bytes.disks) ≡ counts_of (map seen-of c.loop-line.disks) = elim c.match-file_bytes.branch [
      | in-Some+in_ok-write_file w ↦ ap (λ (ds : List (NumberedDisk _)). counts_of (map seen-of ds)) w.disks-is ∙ w.in_ok-write_file.ensures.failures
      | in_default w ↦ ap (λ (ds : List (NumberedDisk _)). counts_of (map seen-of ds)) w.disks-is
    ] in
    record {
      stay = next.stay;
      count = next.count;
      places = next.places;
      rest = next.rest;
      spare = next.spare;
      failures = same ∙ c.loop-line.invariant.failures;
    }

pub returns-in_err-write_file-clause-keep : goal.returns-in_err-write_file-clause-keep
returns-in_err-write_file-clause-keep g c =
    let seen = g.D.Disk.seen in
    let made = c.args.files.now in
    let i = c.loop-line.line-index in
    let k = c.loop-line.file in
    let all = line_files made c.args.first c.args.setup.now in
    let inv = c.loop-line.invariant in
    let gives : bytes_given c.line-item.result.act ≡ Some c.in-Some.bytes.now = cc (c.in-Some.ensures) in
    let step = line-step made k c.args.setup.now i c.line-item.result (Some c.in-Some.bytes.now) c.loop-line-test.true c.line-item.is gives in
    let f : OpenedFile = record { info = (vnode_at made k).info; bytes = c.in-Some.bytes.now } in
    let more = line_files made (k + 1) (drop (i + 1) c.args.setup.now) in
    keep-then seen (SpareBlock all) (SparesBlock c.info.result.now c.in-Some.bytes.now) c.args.disks.now c.loop-line.disks c.write_file.new.disks inv.stay
    (keep-left seen c.args.disks.now c.loop-line.disks (line_files made k (drop i c.args.setup.now)) all inv.stay inv.rest inv.spare) c.write_file.ensures.keep
    (λ number block free. subst (λ (x : FileInfo). SparesBlock x c.in-Some.bytes.now number block) (sym c.info.ensures.info)
    (All-head (λ (x : OpenedFile). SparesBlock x.info x.bytes number block) f more (subst (λ (fs : List OpenedFile). SpareBlock fs number block) step (inv.spare number block free))))

pub returns-clause-keep : goal.returns-clause-keep
returns-clause-keep g c =
    let made = c.args.files.now in
    let inv = c.loop-line.invariant in
    keep-left g.D.Disk.seen c.args.disks.now c.loop-line.disks (line_files made c.loop-line.file (drop c.loop-line.line-index c.args.setup.now))
    (line_files made c.args.first c.args.setup.now) inv.stay inv.rest inv.spare
