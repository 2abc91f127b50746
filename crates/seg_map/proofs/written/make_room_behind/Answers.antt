use Rattle.std.proofs.Common.{◌≡◌, ℕ, sym, ap, ◌∙◌, subst}
use Rattle.seg_ops.specs.page_store.Seen.{IsListedFrame, residence}
use Rattle.seg_ops.specs.page_store.declared.residence.Residence.TheVariants.{Home}
use Rattle.seg_ops.specs.vnode_files.declared.vnode.FileInfo.{FileInfo}
use Rattle.seg_ops.specs.flat_model.Words.{page}
use Rattle.seg_ops.specs.vm_world.World.{file_name}
use Rattle.seg_map.proofs.written.make_room_behind.Goals as goal

-- the page that is looked for is the file's last one
pub returns-in-Home-clause-unlisted : goal.returns-in-Home-clause-unlisted
returns-in-Home-clause-unlisted g c = λ frame home listed.
    let e = ap (λ (i : FileInfo). i.length) c.info.ensures.info in
    let z : Home frame ≡ Home c.in-Home.frame = sym home ∙ ap (λ (l : ℕ). residence c.args.world.now.store (file_name c.args.file (page l))) (sym e) ∙ sym c.in-Home.ensures.residence in
    let same : frame ≡ c.in-Home.frame = cc in
    subst (IsListedFrame c.args.world.now.store) (sym same) (c.make_room_beside.ensures.unlisted (subst (IsListedFrame c.make_room_beside.new.world.store) same listed))

pub returns-in_default-clause-unlisted : goal.returns-in_default-clause-unlisted
returns-in_default-clause-unlisted g c = λ frame home listed.
    let e = ap (λ (i : FileInfo). i.length) c.info.ensures.info in
    absurd (c.in_default.not-Home frame (c.resident.ensures.residence ∙ ap (λ (l : ℕ). residence c.args.world.now.store (file_name c.args.file (page l))) e ∙ home))

pub make_room-requires : goal.make_room-requires
make_room-requires g c = let h = c.requires.home 0 in record { home = (h.0, h.2); fits = c.requires.fits; noted = c.requires.noted }
