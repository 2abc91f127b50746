-- The disks that pages live on are there; and what may be answered to a call that wants a page home.
use Rattle.seg_ops.proofs.FillSteps.{some-of as some-blocks}
use Rattle.std.proofs.Common.{◌≡◌, ◌≢◌, ℕ, ◌<◌, true, false, List, length, Option, Some, None, refl, sym, ap, ◌∙◌, inl, inr, subst, arith}
use Rattle.std.specs.Prelude.{IsTrue, IsFalse, IsSome}
use Rattle.std.specs.FinMap as finite
use Rattle.page_store.specs.page_hash.declared.PageName.{PageName}
use Rattle.page_store.proofs.page_hash.NameLaws.{find-at}
use Rattle.page_store.specs.Bays.{bay_at, missing}
use Rattle.page_store.specs.Seen.{residence}
use Rattle.page_store.specs.Steps.{next_frame}
use Rattle.page_store.specs.Waits.{holder_of, holder_in}
use Rattle.page_store.specs.declared.place.Place.{Place}
use Rattle.page_store.specs.declared.plan.Plan.{Plan}
use Rattle.page_store.specs.declared.plan.Plan.TheVariants as plan
use Rattle.page_store.specs.declared.plan.Hold.TheVariants as hold
use Rattle.page_store.specs.declared.residence.Residence.TheVariants.{Home, Absent}
use Rattle.page_store.proofs.QueryLemmas.{home-is, absent-is}
use Rattle.vm_world.specs.vnode_files.Files.{vnode_at}
use Rattle.vm_world.specs.MemoryFits.{MemoryFits}
use Rattle.vm_world.specs.Segments.{Spaces}
use Rattle.vm_world.specs.Wants.{IsDirtyPage}
use Rattle.vm_world.specs.World.{World, world_table, slot_name, is_unpushed, page_exists}
use Rattle.vm_world.proofs.PageNames.{page-cases, file-place, slot-place}
use Rattle.vm_world.proofs.FrameRule.{exists-page}
use Rattle.vm_world.specs.declared.wants.Wants.{Wants}
use Rattle.vm_world.specs.declared.wants.Wants.TheVariants as wants
use Rattle.seg_ops.specs.Plans.{IsAsked, NeedsPlan, FetchesPage}
use Rattle.seg_ops.proofs.StillSteps.{memory_of}
use Rattle.seg_ops.proofs.Evictions.{unlocked}

-- WHERE A PAGE LIVES, by the test of its name
pub record LivesOn (w : World) (name : PageName) : Type 0 where
  pub swap : name.object ≡ 64 → (world_table w name).disk ≡ 8
  pub file : name.object ≢ 64 → (name.object < length w.files.files) × ((world_table w name).disk ≡ (vnode_at w.files name.object).info.disk)
  pub there : bay_at w.store.bays (world_table w name).disk ≢ missing

pub lives-on : (w : World) (spaces : Spaces) (name : PageName) → MemoryFits (memory_of w spaces) → IsTrue (page_exists w.files w.anon name) → LivesOn w name
lives-on w spaces name f exists = elim (page-cases w.files w.anon name (exists-page w name f.files exists)) [
  | inl s ↦
      let same : name ≡ slot_name name.page = λ i. record { object = s.0 i; page = name.page } in
      let disk : (world_table w name).disk ≡ 8 = ap (λ (n : PageName). (world_table w n).disk) same ∙ ap (λ (p : Place). p.disk) (slot-place w.files w.anon name.page f.files s.1) in
      let low = s.1 in
      record {
        swap = λ e. disk;
        file = λ ne. absurd (ne s.0);
        there = λ e. f.disks.swap (omega (arith, low)) (sym (ap (bay_at w.store.bays) disk) ∙ e);
      }
  | inr x ↦
      let disk : (world_table w name).disk ≡ (vnode_at w.files name.object).info.disk = ap (λ (p : Place). p.disk) (file-place w.files w.anon name.object name.page x.1 x.2) in
      let set = some-blocks (finite.get w.files.disks (vnode_at w.files name.object).info.disk) (f.files.set name.object x.1) in
      record {
        swap = λ e. absurd (x.0 e);
        file = λ ne. (x.1, disk);
        there = λ e. f.disks.there (vnode_at w.files name.object).info.disk set.0 set.1 (sym (ap (bay_at w.store.bays) disk) ∙ e);
      }
]

-- nobody holds the lock of a page that is absent or home
pub absent-unlocked : (w : World) (spaces : Spaces) (name : PageName) → MemoryFits (memory_of w spaces) → residence w.store name ≡ Absent → holder_of w.store name ≡ None
absent-unlocked w spaces name f absent = ap (λ (o : Option ℕ). holder_in o w.store) (absent-is w.store name f.frames.sound absent)

pub home-unlocked : (w : World) (spaces : Spaces) (name : PageName) (frame : ℕ) → MemoryFits (memory_of w spaces) → residence w.store name ≡ Home frame → holder_of w.store name ≡ None
home-unlocked w spaces name frame f home =
    let at = home-is w.store name frame home in
    ap (λ (o : Option ℕ). holder_in o w.store) at.found ∙ unlocked w spaces frame f (subst (λ (b : Option (List ℕ)). IsSome b) (sym at.there) refl)

absent-free : (w : World) (spaces : Spaces) (name : PageName) (seat : ℕ) → MemoryFits (memory_of w spaces) → residence w.store name ≡ Absent → holder_of w.store name ≡ Some seat → ⊥
absent-free w spaces name seat f absent h = let z : None ≡ Some seat = sym (absent-unlocked w spaces name f absent) ∙ h in cc

pub home-free : (w : World) (spaces : Spaces) (name : PageName) (frame seat : ℕ) → MemoryFits (memory_of w spaces) → residence w.store name ≡ Home frame → holder_of w.store name ≡ Some seat → ⊥
home-free w spaces name frame seat f home h = let z : None ≡ Some seat = sym (home-unlocked w spaces name frame f home) ∙ h in cc

-- the page of a modified frame exists
pub dirty-exists : (w : World) (spaces : Spaces) (name : PageName) → MemoryFits (memory_of w spaces) → IsDirtyPage w name → IsTrue (page_exists w.files w.anon name)
dirty-exists w spaces name f d = f.frames.exist d.frame name (find-at w.store.names name d.frame (home-is w.store name d.frame d.home).found)

-- TO BE READ IN, where a frame can be had.
pub reads-page : (w : World) (spaces : Spaces) (name : PageName) (answer : Wants) → MemoryFits (memory_of w spaces) → residence w.store name ≡ Absent → IsTrue (page_exists w.files w.anon name) → IsFalse (is_unpushed w.files w.anon name)
    → IsSome (next_frame w.store) → IsAsked w (plan.Read name) answer → FetchesPage (memory_of w spaces) name answer
reads-page w spaces name (wants.Transfer p) f absent exists pushed room asked = subst (λ (q : Plan). NeedsPlan (memory_of w spaces) name q) (sym asked.0) (record {
  ready = asked.1;
  frame = λ read. room;
  may = λ of wants. (wants, record { exists = exists; absent = absent-is w.store name f.frames.sound absent; pushed = pushed });
})
reads-page w spaces name (wants.Seat (hold.Page seat)) f absent exists pushed room asked = absurd (absent-free w spaces name seat f absent asked)
reads-page w spaces name (wants.Seat (hold.Disk seat)) f absent exists pushed room asked = λ calls of wants.
    (plan.Read name, (wants, record { exists = exists; absent = absent-is w.store name f.frames.sound absent; pushed = pushed }), asked)
reads-page w spaces name (wants.Seat (hold.File seat)) f absent exists pushed room asked = absurd asked

-- A PUSH of a modified page, where no frame can be had.
pub pushes-page : (w : World) (spaces : Spaces) (name page : PageName) (answer : Wants) → MemoryFits (memory_of w spaces) → residence w.store name ≡ Absent → next_frame w.store ≡ None → IsDirtyPage w page
    → IsAsked w (plan.Push page) answer → FetchesPage (memory_of w spaces) name answer
pushes-page w spaces name page (wants.Transfer p) f absent none dirty asked = subst (λ (q : Plan). NeedsPlan (memory_of w spaces) name q) (sym asked.0) (record {
  ready = asked.1;
  frame = λ read. absurd (let z : true ≡ false = read in cc);
  may = λ of wants. (dirty, inr (inl (name, wants, absent-is w.store name f.frames.sound absent), none));
})
pushes-page w spaces name page (wants.Seat (hold.Page seat)) f absent none dirty asked = absurd (home-free w spaces page dirty.frame seat f dirty.home asked)
pushes-page w spaces name page (wants.Seat (hold.Disk seat)) f absent none dirty asked = λ calls of wants.
    (plan.Push page, (dirty, inr (inl (name, wants, absent-is w.store name f.frames.sound absent), none)), asked)
pushes-page w spaces name page (wants.Seat (hold.File seat)) f absent none dirty asked = absurd asked
