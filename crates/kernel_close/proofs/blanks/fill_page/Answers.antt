use Rattle.std.proofs.Common.{rules, ◌≡◌, ℕ, ◌<◌, Result, sym, ap, ◌∙◌, subst}
use Rattle.seg_ops.specs.block_device.declared.disk_fault.DiskFault.{DiskFault}
use Rattle.seg_ops.specs.page_store.Bays.{pairs_seen}
use Rattle.seg_ops.specs.vnode_files.declared.vnode.FileInfo.{FileInfo}
use Rattle.seg_ops.specs.vnode_files.Files.{FilesSeen}
use Rattle.seg_ops.specs.vnode_files.Layout.{disk_of_file, block_of_page}
use Rattle.seg_ops.specs.page_hash.declared.PageName.{PageName}
use Rattle.seg_ops.specs.vm_world.World.{file_name}
use Rattle.kernel_close.specs.Closing.{WritesZeros, WritesBlanks, FillsPages}
use Rattle.kernel_close.specs.Finish.{disk_at, IsLastFault}
use Rattle.kernel_close.proofs.Fills.{block-within, length-seen, whole-seen, zeros-written, zeros-failed, zeros-filled, page-filled, page-zeroed, err-then}
use Rattle.kernel_close.proofs.blanks.fill_page.Goals as goal
use Rattle.kernel_close.proofs.blanks.fill_page.Given.{Over}
use Rattle.kernel_close.proofs.blanks.fill_page.Goals.{After-write_zeros}

-- zeros were written there
written : (g : Over) (c : After-write_zeros g)
    → WritesZeros (pairs_seen g.D.Disk.seen c.args.disks.now) (pairs_seen g.D.Disk.seen c.write_zeros.new.disks) (disk_of_file c.args.files.now c.args.file) (block_of_page c.args.files.now c.args.file c.args.page) c.write_zeros.result
written g c =
    subst (λ (n : ℕ). WritesZeros (pairs_seen g.D.Disk.seen c.args.disks.now) (pairs_seen g.D.Disk.seen c.write_zeros.new.disks) n (block_of_page c.args.files.now c.args.file c.args.page) c.write_zeros.result) (ap (λ (i : FileInfo). i.disk) c.info.ensures.info)
    (subst (λ (b : ℕ). WritesZeros (pairs_seen g.D.Disk.seen c.args.disks.now) (pairs_seen g.D.Disk.seen c.write_zeros.new.disks) c.info.result.now.disk b c.write_zeros.result) c.block.ensures c.write_zeros.ensures.writes)

pub write_zeros-requires-clause-there : goal.write_zeros-requires-clause-there
write_zeros-requires-clause-there g c =
    let at = c.requires.disks.there c.args.file c.requires.page.file in
    (at.0, subst (λ (n : ℕ). at.0 < n) (length-seen g.D.Disk.seen c.args.disks.now) at.1, at.2 ∙ sym (ap (λ (i : FileInfo). i.disk) c.info.ensures.info))

pub write_zeros-requires-clause-block : goal.write_zeros-requires-clause-block
write_zeros-requires-clause-block g c = λ i lt on.
    subst (λ (b : ℕ). b < (disk_at (pairs_seen g.D.Disk.seen c.args.disks.now) i).1.size) (sym c.block.ensures)
    (block-within c.args.files.now (pairs_seen g.D.Disk.seen c.args.disks.now) i (file_name c.args.file c.args.page) c.requires.disks
    (subst (λ (n : ℕ). i < n) (sym (length-seen g.D.Disk.seen c.args.disks.now)) lt) c.requires.page (sym (on ∙ ap (λ (i : FileInfo). i.disk) c.info.ensures.info)))

pub returns-in_err-write_zeros-clause-writes : goal.returns-in_err-write_zeros-clause-writes
returns-in_err-write_zeros-clause-writes g c =
    let at = (goal.at.returns-in_err-write_zeros-clause-writes g c).After-write_zeros in
    zeros-written c.args.files.now (pairs_seen g.D.Disk.seen c.args.disks.now) (pairs_seen g.D.Disk.seen c.write_zeros.new.disks) c.args.file c.args.page c.write_zeros.result c.requires.disks c.requires.page (written g at)

pub returns-in_ok-write_zeros-clause-writes : goal.returns-in_ok-write_zeros-clause-writes
returns-in_ok-write_zeros-clause-writes g c =
    let at = (goal.at.returns-in_ok-write_zeros-clause-writes g c).After-write_zeros in
    subst (λ (G : FilesSeen). WritesBlanks c.args.files.now (pairs_seen g.D.Disk.seen c.args.disks.now) G (pairs_seen g.D.Disk.seen c.write_zeros.new.disks)) (sym c.set_blank.ensures.new)
    (zeros-filled c.args.files.now (pairs_seen g.D.Disk.seen c.args.disks.now) (pairs_seen g.D.Disk.seen c.write_zeros.new.disks) c.args.file c.args.page c.write_zeros.result c.requires.disks c.requires.page (written g at))

pub returns-in_ok-write_zeros-clause-fills : goal.returns-in_ok-write_zeros-clause-fills
returns-in_ok-write_zeros-clause-fills g c =
    let at = (goal.at.returns-in_ok-write_zeros-clause-fills g c).After-write_zeros in
    let w = written g at in
    let ok = subst (λ (r : Result (Unit {0}) DiskFault). WritesZeros (pairs_seen g.D.Disk.seen c.args.disks.now) (pairs_seen g.D.Disk.seen c.write_zeros.new.disks) (disk_of_file c.args.files.now c.args.file) (block_of_page c.args.files.now c.args.file c.args.page) r) c.in_ok-write_zeros.was w in
    subst (λ (G : FilesSeen). FillsPages c.args.files.now (pairs_seen g.D.Disk.seen c.args.disks.now) G (pairs_seen g.D.Disk.seen c.write_zeros.new.disks) (λ (n : PageName). n ≡ file_name c.args.file c.args.page)) (sym c.set_blank.ensures.new)
    (page-filled c.args.files.now (pairs_seen g.D.Disk.seen c.args.disks.now) (pairs_seen g.D.Disk.seen c.write_zeros.new.disks) c.args.file c.args.page c.requires.disks c.requires.page
    (whole-seen g.D.Disk.seen g.met.D.Disk.has_blocks c.args.disks.now) (sym c.blank.ensures ∙ c.if-blank.true) ok.at ok.within ok.on_disk ok.disk ok.new ok.writes.written)

pub returns-in_err-write_zeros-clause-fault : goal.returns-in_err-write_zeros-clause-fault
returns-in_err-write_zeros-clause-fault g c =
    let at = (goal.at.returns-in_err-write_zeros-clause-fault g c).After-write_zeros in
    err-then c.from_residual.result (λ (fault : DiskFault). (fault.disk ≡ c.info.result.now.disk) × IsLastFault (pairs_seen g.D.Disk.seen c.args.disks.now) (pairs_seen g.D.Disk.seen c.write_zeros.new.disks) fault) _
    (λ fault f. zeros-failed c.args.files.now (pairs_seen g.D.Disk.seen c.args.disks.now) (pairs_seen g.D.Disk.seen c.write_zeros.new.disks) c.args.file c.args.page c.write_zeros.result fault c.requires.disks c.requires.page
    (written g at) (f.0 ∙ ap (λ (i : FileInfo). i.disk) c.info.ensures.info) f.1)
    (search rules)

pub returns-in_ok-write_zeros-clause-goes : goal.returns-in_ok-write_zeros-clause-goes
returns-in_ok-write_zeros-clause-goes g c =
    let at = (goal.at.returns-in_ok-write_zeros-clause-goes g c).After-write_zeros in
    let w = written g at in
    let ok = subst (λ (r : Result (Unit {0}) DiskFault). WritesZeros (pairs_seen g.D.Disk.seen c.args.disks.now) (pairs_seen g.D.Disk.seen c.write_zeros.new.disks) (disk_of_file c.args.files.now c.args.file) (block_of_page c.args.files.now c.args.file c.args.page) r) c.in_ok-write_zeros.was w in
    page-zeroed c.args.files.now (pairs_seen g.D.Disk.seen c.args.disks.now) (pairs_seen g.D.Disk.seen c.write_zeros.new.disks) c.args.file c.args.page c.requires.disks c.requires.page
    (whole-seen g.D.Disk.seen g.met.D.Disk.has_blocks c.args.disks.now) (sym c.blank.ensures ∙ c.if-blank.true) ok.at ok.within ok.on_disk ok.disk ok.new ok.writes.written
