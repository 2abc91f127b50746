use Rattle.std.proofs.Common.{◌≡◌, ap, ◌∙◌, subst, arith}
use Rattle.vm_report.specs.vm_types.Pages.{bytes_before}
use Rattle.volume_format.specs.vnode_files.declared.vnode.FileInfo.{FileInfo}
use Rattle.block_device.specs.DiskSeen.{Shows}
use Rattle.stored_files.specs.Showing.{shown_info}
use Rattle.stored_files.proofs.FilePieces.{block_below, piece_read}
use Rattle.stored_files.proofs.page_lines.read_page.Goals as goal

pub read-requires-clause-block : goal.read-requires-clause-block
read-requires-clause-block g c =
    let below = block_below c.args.files.now c.args.file (g.P.PageDisk.numbered c.args.disk.now) c.args.page c.requires.lies c.requires.page in
    omega (arith, below, c.block.ensures)

pub returns-clause-piece : goal.returns-clause-piece
returns-clause-piece g c =
    let disk = g.P.PageDisk.numbered c.args.disk.now in
    let count : c.bytes_before.result ≡ bytes_before (shown_info c.args.files.now c.args.file).length c.args.page =
    c.bytes_before.ensures ∙ ap (λ (info : FileInfo). bytes_before info.length c.args.page) c.info.ensures.info in
    piece_read c.args.files.now c.args.file disk c.args.page c.bytes_before.result c.read.new.into c.requires.lies (g.met.P.PageDisk.has_blocks c.args.disk.now) c.requires.page (omega arith) count
    (subst (λ b. Shows disk.1.content b c.read.new.into) c.block.ensures c.in_ok-read.ensures.reads.gives)
