use Rattle.std.proofs.Common.{◌≡◌, ◌+◌, ℕ, sym, ap, ◌∙◌, subst}
use Rattle.std.specs.Prelude.{min}
use Rattle.fault_entry.specs.vnode_files.Files.{vnode_at}
use Rattle.fault_entry.specs.vm_types.Pages.{pages_in}
use Rattle.fault_entry.specs.vm_world.World.{world_seen}
use Rattle.fault_entry.proofs.seg_vn.SharedFiles.{file-below}
use Rattle.vm_core.specs.Raises.{IsPageFrom, Raises}
use Rattle.vm_core.proofs.Rising.{no-places, places-raised}
use Rattle.vm_core.proofs.raises.raise_places.Goals as goal

pub returns-in_default : goal.returns-in_default
returns-in_default g c =
    let f = c.requires.fits in
    no-places (world_seen c.args.world.now) f.1.0 f.1.1 f.1.2 f.0 c.args.segment.now f.1.3 f.1.4 (sym c.in_default.ensures) c.args.from c.args.to c.args.entries c.args.marks.now

pub info-requires : goal.info-requires
info-requires g c = let f = c.requires.fits in file-below (world_seen c.args.world.now) f.1.0 f.1.1 f.1.2 f.0 c.args.segment.now f.1.3 f.1.4 c.in-Some.file (sym c.in-Some.ensures)

pub raise_pages-requires-clause-file : goal.raise_pages-requires-clause-file
raise_pages-requires-clause-file g c = let f = c.requires.fits in file-below (world_seen c.args.world.now) f.1.0 f.1.1 f.1.2 f.0 c.args.segment.now f.1.3 f.1.4 c.in-Some.file (sym c.in-Some.ensures)

pub returns : goal.returns
returns g c =
    let f = c.requires.fits in
    let w = world_seen c.args.world.now in
    let s = c.args.segment.now in
    let length = c.pages_in.ensures.pages ∙ ap (λ v. pages_in v.length) c.info.ensures.info in
    let last : c.min-end.result ≡ min (pages_in (vnode_at c.args.world.now.files c.in-Some.file).info.length) (c.args.segment.now.index + c.args.to) =
    c.min-end.ensures ∙ ap (λ (n : ℕ). min n (c.index-index.result + c.args.to)) length
    ∙ ap (λ (n : ℕ). min (pages_in (vnode_at c.args.world.now.files c.in-Some.file).info.length) (n + c.args.to)) c.index-index.ensures.index in
    places-raised w f.1.0 f.1.1 f.1.2 f.0 s f.1.3 f.1.4 c.in-Some.file (sym c.in-Some.ensures) c.args.from c.args.to c.min-end.result c.args.entries c.args.marks.now c.raise_pages.new.marks last
    (subst (λ (n : ℕ). Raises (world_seen c.args.world.now) (IsPageFrom c.in-Some.file (n + c.args.from) c.min-end.result) c.args.entries c.args.marks.now c.raise_pages.new.marks) c.index-index.ensures.index c.raise_pages.ensures)
