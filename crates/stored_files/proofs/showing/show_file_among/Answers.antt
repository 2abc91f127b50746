use Rattle.std.proofs.Common.{ℕ, ap, ◌∙◌, sym, map, get_or}
use Rattle.std.specs.Prelude.{Some}
use Rattle.block_device.specs.DiskSeen.{DiskSeen}
use Rattle.volume_format.specs.vnode_files.declared.vnode.FileInfo.{FileInfo}
use Rattle.stored_files.proofs.ShownFiles.{element_seen, lies_among, reads_at, shown_at, there_at}
use Rattle.stored_files.proofs.Uncut.{counts-set, unless-cut}
use Rattle.stored_files.proofs.showing.show_file_among.Goals as goal

pub place_of-place-requires : goal.place_of-place-requires
place_of-place-requires g c =
    there_at c.args.files.now (map g.P.PageDisk.numbered c.args.disks.now) c.args.file c.info.result.now.disk c.requires.disks c.requires.there (ap (λ (x : FileInfo). x.disk) c.info.ensures.info)

pub show_file-requires : goal.show_file-requires
show_file-requires g c =
    let f = g.P.PageDisk.numbered in
    let at = c.place_of-place.ensures.there in
    let same = element_seen f c.args.disks.now c.place_of-place.result c.index-disks-place.result (c.info.result.now.disk, at.0) at.1 in
    lies_among c.args.files.now c.args.file c.place_of-place.result (map f c.args.disks.now) (f (get_or c.args.disks.now c.place_of-place.result c.index-disks-place.result))
    c.requires.lie c.requires.there c.requires.disks (at.1 ∙ ap (λ (e : ℕ × DiskSeen). Some e) (sym same)) (ap (λ (e : ℕ × DiskSeen). e.0) same ∙ ap (λ (x : FileInfo). x.disk) c.info.ensures.info)

pub returns-clause-shown : goal.returns-clause-shown
returns-clause-shown g c =
    let at = c.place_of-place.ensures.there in
    shown_at g.P.PageDisk.numbered c.args.disks.now c.place_of-place.result c.index-disks-place.result c.show_file.new.disk c.info.result.now.disk at.0 at.1 c.show_file.ensures.looks
    c.args.heading c.args.files.now c.args.file (g.K.Sink.seen c.args.out.now) (g.K.Sink.seen c.show_file.new.out) c.requires.disks (ap (λ (x : FileInfo). x.disk) c.info.ensures.info)
    g.P.PageDisk.counts c.show_file.result c.show_file.ensures.shown

pub returns-clause-disks : goal.returns-clause-disks
returns-clause-disks g c =
    let at = c.place_of-place.ensures.there in
    reads_at g.P.PageDisk.numbered c.args.disks.now c.place_of-place.result c.index-disks-place.result c.show_file.new.disk c.info.result.now.disk at.0 at.1 c.show_file.ensures.looks

pub returns-clause-failures : goal.returns-clause-failures
returns-clause-failures g c =
    unless-cut c.show_file.result (counts-set g.P.PageDisk.numbered c.args.disks.now c.place_of-place.result c.index-disks-place.result c.show_file.new.disk) c.show_file.ensures.failures
