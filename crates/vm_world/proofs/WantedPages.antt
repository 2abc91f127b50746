-- The pages that a Sync wants clean exist, and may rise once they are clean.
use Rattle.std.proofs.Common.{◌≡◌, ◌≢◌, ℕ, ◌+◌, ◌||◌, Bool, true, cond, Option, Some, None, sym, ap, ◌∙◌, subst}
use Rattle.std.specs.Prelude.{is_some, nat_lt, option_map}
use Rattle.std.specs.Option.{option_or}
use Rattle.flat_model.specs.vm_types.Pages.{pages_in}
use Rattle.flat_model.specs.vm_types.declared.call.Call.{Call}
use Rattle.flat_model.specs.vm_types.declared.call.Call.TheVariants.{Sync}
use Rattle.flat_model.specs.vm_types.declared.call.Object.{Object}
use Rattle.flat_model.specs.vm_types.declared.call.Object.TheVariants as object
use Rattle.flat_model.specs.vnode_files.Files.{vnode_at}
use Rattle.page_store.specs.page_hash.declared.PageName.{PageName}
use Rattle.anon_slots.specs.Slots.{count_at, is_used}
use Rattle.vm_world.specs.FlatMemory.{Memory}
use Rattle.vm_world.specs.Segments.{object_name, own_slot}
use Rattle.vm_world.specs.StateMarks.{MayRise}
use Rattle.vm_world.specs.Wants.{IsCleanPage, WantsClean, object_has}
use Rattle.vm_world.specs.World.{World, slot_in, slot_name, file_name}
use Rattle.vm_world.proofs.FlatWhole.{some-inj}
use Rattle.vm_world.proofs.PageNames.{not-slot}

-- a slot's page is none of a file's
no-slot : (name : PageName) (slot : ℕ) → Some (slot_name slot) ≡ Some name → name.object ≢ 64 → ⊥
no-slot name slot is far = far (sym (ap (λ (n : PageName). n.object) (some-inj (slot_name slot) name is)))

-- the page of an object that has it there, where that is a file's
of-object : (w : World) (shown : Option ℕ) (index : ℕ) (o : Object) (name : PageName) → object_name w.maps shown index o ≡ Some name → name.object ≢ 64 → object_has w shown index o ≡ true
    → nat_lt name.page (pages_in (vnode_at w.files name.object).info.length) ≡ true
of-object w shown index (object.File f) name is far has =
    subst (λ (n : PageName). nat_lt n.page (pages_in (vnode_at w.files n.object).info.length) ≡ true) (some-inj (file_name f index) name is) has
of-object w shown index object.NewZero name is far has = absurd (let z : ◌≡◌ {A = Option PageName} None (Some name) = is in cc)
of-object w shown index (object.Zero z) name is far has = by_map shown is
  where
    by_slot : (o : Option ℕ) → option_map slot_name o ≡ Some name → nat_lt name.page (pages_in (vnode_at w.files name.object).info.length) ≡ true
    by_slot None e = absurd (let z : ◌≡◌ {A = Option PageName} None (Some name) = e in cc)
    by_slot (Some slot) e = absurd (no-slot name slot e far)

    by_map : (o : Option ℕ) → object_name w.maps o index (object.Zero z) ≡ Some name → nat_lt name.page (pages_in (vnode_at w.files name.object).info.length) ≡ true
    by_map None e = absurd (let z : ◌≡◌ {A = Option PageName} None (Some name) = e in cc)
    by_map (Some number) e = by_slot (slot_in w.maps number index) e

-- a page of a file that a place shows lies below its file's end
shown-below : (w : World) (own shown : Option ℕ) (index : ℕ) (o : Object) (name : PageName) → option_or (option_map slot_name own) (object_name w.maps shown index o) ≡ Some name → name.object ≢ 64
    → (is_some own || object_has w shown index o) ≡ true → nat_lt name.page (pages_in (vnode_at w.files name.object).info.length) ≡ true
shown-below w None shown index o name is far some = of-object w shown index o name is far some
shown-below w (Some slot) shown index o name is far some = absurd (no-slot name slot is far)

-- A PAGE THAT IS WANTED CLEAN, once it is, may rise.
pub wanted-rises : (m : Memory) (p : ℕ) (call : Call) (name : PageName) → WantsClean m p call name → IsCleanPage m.world name → MayRise m.world name
wanted-rises m p (Sync addr len) name wants clean =
    let x = wants.1 in
    let shows = wants.3 in
    let named = wants.5 in
    let far = wants.6 in
    record {
      far = far;
      exists =
          ap (λ (b : Bool). cond b (is_used (count_at m.world.anon name.page)) (nat_lt name.page (pages_in (vnode_at m.world.files name.object).info.length))) (not-slot name.object far)
          ∙ shown-below m.world (own_slot m.world.maps x) x.0.shown (x.0.index + x.1) x.0.object name named far shows.some;
      clean = clean;
    }
wanted-rises m p call name wants clean = absurd wants
