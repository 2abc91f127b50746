-- A PAGE BEHIND A FILE'S LAST ONE: room is made for it, the next frame is freed, the file gets longer, and the page is filled there.
use Rattle.std.proofs.Common.{◌≡◌, ◌≢◌, ◌+◌, ◌<◌, ◌≤◌, ℕ, List, length, Option, None, Some, Bool, cond, sym, ap, ◌∙◌, subst, arith}
use Rattle.std.proofs.lemmas.Bool.{le-ltb}
use Rattle.std.specs.Prelude.{IsSome, IfSome, nat_lt}
use Rattle.seg_ops.specs.anon_slots.Slots.{count_at, is_used}
use Rattle.seg_ops.specs.page_hash.declared.PageName.{PageName}
use Rattle.seg_ops.specs.page_store.Laws.{SameResidence}
use Rattle.seg_ops.specs.page_store.Seen.{IsListedFrame, residence}
use Rattle.seg_ops.specs.page_store.Steps.{next_frame, next_name, name_in}
use Rattle.seg_ops.specs.page_store.declared.residence.Residence.TheVariants.{Home, Absent}
use Rattle.seg_ops.specs.vnode_files.declared.extent.Extent.{Extent}
use Rattle.seg_ops.specs.vnode_files.Files.{FilesSeen, vnode_at, growth_of}
use Rattle.seg_ops.proofs.vnode_files.GrowLemmas.{some_of}
use Rattle.seg_ops.specs.flat_model.Words.{page, pages_in}
use Rattle.seg_ops.specs.vm_world.FileCalls.{room_refusal}
use Rattle.seg_ops.specs.vm_world.MemoryFits.{MemoryFits}
use Rattle.seg_ops.specs.vm_world.Segments.{Spaces}
use Rattle.seg_ops.specs.vm_world.World.{World, file_name}
use Rattle.seg_ops.proofs.vm_world.PageNames.{file-apart, not-slot}
use Rattle.seg_ops.specs.Rooms.{KeepsAbsent, KeepsUnlisted, ListsNoMore, SameLists}
use Rattle.seg_ops.proofs.RoomMade.{same-next}
use Rattle.seg_ops.proofs.StillSteps.{memory_of}
use Rattle.seg_ops.proofs.vm_world.FileCalls.{file_calls_law}
use Rattle.seg_map.specs.Ends.{SetsEnd}
use Rattle.seg_map.specs.Longer.{IsLastReady}
use Rattle.seg_map.proofs.WriteParts.{absent-past, last-later}

-- the page isn't there yet
pub absent-old : (w : World) (spaces : Spaces) (f i end : ℕ) → MemoryFits (memory_of w spaces) → room_refusal w.files f end ≡ None → pages_in (vnode_at w.files f).info.length ≤ i → residence w.store (file_name f i) ≡ Absent
absent-old w spaces f i end fits served past =
    let far = file-apart w.files f fits.files (file_calls_law.room w.files f end served).there in
    absent-past w spaces (file_name f i) fits
    (ap (λ (b : Bool). cond b (is_used (count_at w.anon i)) (nat_lt i (pages_in (vnode_at w.files f).info.length))) (not-slot f far) ∙ le-ltb i (pages_in (vnode_at w.files f).info.length) past)

-- the old last page stays ready as room is made and the next frame is freed
pub last-freed : (old room freed : World) (f end : ℕ) (spaces : Spaces) → MemoryFits (memory_of room spaces) → MemoryFits (memory_of freed spaces) → room.files ≡ old.files → room.anon ≡ old.anon → freed.files ≡ room.files → freed.anon ≡ room.anon
    → SameResidence old.store room.store
    → ((frame : ℕ) → residence old.store (file_name f (page (vnode_at old.files f).info.length)) ≡ Home frame → IsListedFrame room.store frame → IsListedFrame old.store frame)
    → KeepsUnlisted room.store freed.store → ListsNoMore room.store freed.store → KeepsAbsent room.store freed.store → IsLastReady old f end → IsLastReady freed f end
last-freed old room freed f end spaces room-fits freed-fits files anon files' anon' stay unlisted homes lists absent ready =
    last-later room freed f end spaces freed-fits files' anon' (λ n frame gap home free. (homes n frame home free, (λ l. free (lists frame l)))) absent
    (last-later old room f end spaces room-fits files anon (λ n frame gap home free. (stay n ∙ home, (λ l. free (unlisted frame (ap (residence old.store) (sym gap.last) ∙ home) l)))) (λ n none. stay n ∙ none) ready)

-- The file is longer: its new page is nowhere, and the frame that is taken next holds no page.
pub record IsLonger (room freed long : World) (f offset end : ℕ) : Type 0 where
  pub extents : List Extent
  pub grown : growth_of freed.files f (pages_in end) ≡ Some extents
  pub sets : SetsEnd freed.files long.files f end extents
  pub far : f ≢ 64
  pub there : f < length long.files.files
  pub absent : residence long.store (file_name f (page offset)) ≡ Absent
  pub next : next_frame long.store ≡ next_frame room.store
  pub free : next_name long.store ≡ None
  pub below : page offset < pages_in end

pub grows-there : (old freed : FilesSeen) (f end : ℕ) → freed ≡ old → room_refusal old f end ≡ None → (extents : List Extent) × (growth_of freed f (pages_in end) ≡ Some extents)
grows-there old freed f end files served = some_of (growth_of freed f (pages_in end)) (subst (λ (s : FilesSeen). IsSome (growth_of s f (pages_in end))) (sym files) (file_calls_law.room old f end served).room)

pub longer-is : (old room freed long : World) (spaces : Spaces) (f offset end n : ℕ) → MemoryFits (memory_of old spaces) → room_refusal old.files f end ≡ None → pages_in (vnode_at old.files f).info.length ≤ page offset → end ≡ offset + n → 1 ≤ n
    → freed.files ≡ old.files → SameResidence old.store room.store → KeepsAbsent room.store freed.store → SameResidence freed.store long.store → SameLists freed.store long.store → long.store.names ≡ freed.store.names
    → next_frame freed.store ≡ next_frame room.store → next_name freed.store ≡ None → ((extents : List Extent) → growth_of freed.files f (pages_in end) ≡ Some extents → SetsEnd freed.files long.files f end extents) → IsLonger room freed long f offset end
longer-is old room freed long spaces f offset end n fits served past is some files stay absent still lists names same free sets =
    let e = grows-there old.files freed.files f end files served in
    let k = sets e.0 e.1 in
    let name = file_name f (page offset) in
    let next = same-next freed.store long.store lists in
    record {
      extents = e.0;
      grown = e.1;
      sets = k;
      far = file-apart old.files f fits.files (file_calls_law.room old.files f end served).there;
      there = let count = k.count in let lt = k.there in omega (arith, count, lt);
      absent = still name ∙ absent name (stay name ∙ absent-old old spaces f (page offset) end fits served past);
      next = next ∙ same;
      free = ap (λ (ns : List (Option PageName)). name_in ns (next_frame long.store)) names ∙ ap (name_in freed.store.names) next ∙ free;
      below = omega (arith, is, some);
    }

-- the page is home then, in the frame that was taken
pub taken : (room long filled : World) (name : PageName) → next_frame long.store ≡ next_frame room.store → IsSome (next_frame room.store) → IfSome (next_frame long.store) (λ (frame : ℕ). residence filled.store name ≡ Home frame)
    → IfSome (next_frame long.store) (λ (frame : ℕ). ¬ IsListedFrame filled.store frame)
    → (frame : ℕ) × (next_frame room.store ≡ Some frame) × (residence filled.store name ≡ Home frame) × (¬ IsListedFrame filled.store frame)
taken room long filled name same some home free =
    let n = some_of (next_frame room.store) some in (
      n.0,
      n.1,
      subst (λ (o : Option ℕ). IfSome o (λ (frame : ℕ). residence filled.store name ≡ Home frame)) (same ∙ n.1) home,
      subst (λ (o : Option ℕ). IfSome o (λ (frame : ℕ). ¬ IsListedFrame filled.store frame)) (same ∙ n.1) free,
    )
