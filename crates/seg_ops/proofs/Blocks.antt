-- THE BLOCK OF A PAGE that exists: its place, and that the block is one of its disk's.
use Rattle.std.proofs.Common.{◌≡◌, ◌≢◌, ℕ, ◌<◌, Bool, true, false, cond, Option, Some, None, refl, sym, ap, ◌∙◌, arith}
use Rattle.std.specs.Prelude.{IsTrue, IsSome, not, unwrap_or, slice_index_or}
use Rattle.std.specs.FinMap as finite
use Rattle.page_store.specs.block_device.DiskSeen.{DiskSeen}
use Rattle.page_store.specs.page_hash.declared.PageName.{PageName}
use Rattle.page_store.specs.Bays.{bay_at, home}
use Rattle.page_store.specs.Layout.{page_place}
use Rattle.page_store.specs.declared.place.Place.{Place}
use Rattle.vm_world.specs.vnode_files.Files.{vnode_at, block_count}
use Rattle.vm_world.specs.vnode_files.Vnode.{block_at, is_blank}
use Rattle.vm_world.specs.FramesFit.{FilesFit}
use Rattle.vm_world.specs.MemoryFits.{MemoryFits}
use Rattle.vm_world.specs.Segments.{Spaces}
use Rattle.vm_world.specs.World.{World, file_blocks, world_table, slot_name, page_exists}
use Rattle.vm_world.proofs.PageNames.{file-place, slot-place, keeps-page, not-slot}
use Rattle.seg_ops.proofs.Pushed.{slot-within, file-within}
use Rattle.seg_ops.proofs.StillSteps.{memory_of}

pub slot-lives : (w : World) (name : PageName) → FilesFit w.files → IsTrue (page_exists w.files w.anon name) → name.object ≡ 64
    → ◌≡◌ {A = Place} (record { disk = 8; block = name.page; valid = 4096; blank = not (slice_index_or w.anon.swapped name.page false) }) (world_table w name)
slot-lives w name f exists slot =
    let same : name ≡ slot_name name.page = λ i. record { object = slot i; page = name.page } in
    sym (ap (world_table w) same ∙ slot-place w.files w.anon name.page f (slot-within w name f exists slot))

pub slot-block : (w : World) (spaces : Spaces) (name : PageName) (d : DiskSeen) → MemoryFits (memory_of w spaces) → IsTrue (page_exists w.files w.anon name) → name.object ≡ 64 → bay_at w.store.bays 8 ≡ home d → name.page < d.size
slot-block w spaces name d f exists slot is =
    let few = (f.disks.sizes 8 d is).swap refl in
    let within = slot-within w name f.files exists slot in
    omega (arith, few, within)

pub file-lives : (w : World) (name : PageName) → FilesFit w.files → IsTrue (page_exists w.files w.anon name) → name.object ≢ 64
    → page_place (file_blocks (vnode_at w.files name.object)) name.page (is_blank (vnode_at w.files name.object) name.page) (block_at (vnode_at w.files name.object).info.extents name.page) ≡ world_table w name
file-lives w name f exists file =
    let v = vnode_at w.files name.object in
    let within = file-within w name f exists file in
    sym (file-place w.files w.anon name.object name.page within.0 within.1
    ∙ ap (λ (b : Bool). page_place (file_blocks v) name.page (cond b (not (slice_index_or w.anon.swapped name.page false)) (is_blank v name.page)) (block_at v.info.extents name.page)) (not-slot name.object file))

pub file-block : (w : World) (spaces : Spaces) (name : PageName) (d : DiskSeen) → MemoryFits (memory_of w spaces) → IsTrue (page_exists w.files w.anon name) → name.object ≢ 64 → bay_at w.store.bays (vnode_at w.files name.object).info.disk ≡ home d
    → block_at (vnode_at w.files name.object).info.extents name.page < d.size
file-block w spaces name d f exists file is =
    let v = vnode_at w.files name.object in
    let within = file-within w name f.files exists file in
    let high = f.files.high name _ _ (keeps-page w.files name.object name.page within.0 within.1) in
    by_blocks (finite.get w.files.disks v.info.disk) refl (f.files.set name.object within.0) high
  where
    by_blocks : (o : Option ℕ) → finite.get w.files.disks (vnode_at w.files name.object).info.disk ≡ o → IsSome o → block_at (vnode_at w.files name.object).info.extents name.page < block_count w.files.disks (vnode_at w.files name.object).info.disk
        → block_at (vnode_at w.files name.object).info.extents name.page < d.size
    by_blocks None e some high = absurd (let z : false ≡ true = some in cc)
    by_blocks (Some blocks) e some high =
        let count : block_count w.files.disks (vnode_at w.files name.object).info.disk ≡ blocks = ap (λ (o : Option ℕ). unwrap_or o 0) e in
        let size = (f.disks.sizes (vnode_at w.files name.object).info.disk d is).file blocks e in
        omega (arith, count, size, high)
