-- Which page of a file a place of a shared segment shows.
use Rattle.std.proofs.Common.{◌≡◌, ◌≢◌, ℕ, ◌+◌, ◌-◌, ◌<◌, ◌≤◌, Bool, true, false, cond, length, Option, Some, None, refl, sym, ap, ◌∙◌, subst, arith}
use Rattle.std.specs.Prelude.{◌||◌, IsTrue, is_some, nat_lt, min, option_and_then, option_map}
use Rattle.std.specs.Option.{option_or}
use Rattle.std.proofs.lemmas.Bool.{lt-ltb, ltb-true}
use Rattle.seg_ops.specs.vm_types.declared.call.Kind.{Kind}
use Rattle.seg_ops.specs.vm_types.declared.call.Kind.TheVariants.{Shared, Private}
use Rattle.seg_ops.specs.vm_types.declared.call.Object.{Object}
use Rattle.seg_ops.specs.vm_types.declared.call.Object.TheVariants as object
use Rattle.seg_ops.specs.page_hash.declared.PageName.{PageName}
use Rattle.seg_ops.specs.vnode_files.Files.{vnode_at}
use Rattle.seg_ops.specs.flat_model.Words.{pages_in}
use Rattle.seg_ops.specs.vm_world.MemoryFits.{MemoryFits}
use Rattle.seg_ops.specs.vm_world.Segments.{Spot, Spaces, spot_at, own_slot, object_name, shown_name}
use Rattle.seg_ops.specs.vm_world.Wants.{IsCleanPage, object_has, shows_page}
use Rattle.seg_ops.specs.vm_world.World.{World, file_name, slot_in, slot_name}
use Rattle.seg_ops.specs.vm_world.declared.segment.Segment.{Segment}
use Rattle.seg_ops.specs.vm_world.declared.wants.Wants.{Wants}
use Rattle.seg_ops.proofs.vm_world.FlatWhole.{some-inj}
use Rattle.seg_ops.proofs.vm_world.PageNames.{file-apart}
use Rattle.seg_ops.specs.CleanSteps.{CleansPage, CleansPages}
use Rattle.seg_ops.proofs.StillSteps.{memory_of}
use Rattle.seg_vn.specs.CleanPlaces.{CleansPlaces, SharesFilePage, object_file, shared_file}
use Rattle.seg_vn.proofs.FaultPlaces.{file-at, new-private, private-has, shared-own}

-- a segment that shares a file has no map of its own, and shows the file
pub record SharesFile (s : Segment) (f : ℕ) : Type 0 where
  pub own : s.own ≡ None
  pub object : s.object ≡ object.File f

pub shares : (s : Segment) (f : ℕ) → shared_file s ≡ Some f → SharesFile s f
shares s f is = by_own s.own refl
  where
    of-object : (o : Object) → s.object ≡ o → object_file o ≡ Some f → s.object ≡ object.File f
    of-object (object.File g) e same = e ∙ ap (λ (k : ℕ). object.File k) (some-inj g f same)
    of-object (object.Zero z) e same = absurd (let z : ◌≡◌ {A = Option ℕ} None (Some f) = same in cc)
    of-object object.NewZero e same = absurd (let z : ◌≡◌ {A = Option ℕ} None (Some f) = same in cc)

    by_own : (o : Option ℕ) → s.own ≡ o → SharesFile s f
    by_own (Some m) e = absurd (let z : ◌≡◌ {A = Option ℕ} None (Some f) = sym (ap (λ (o : Option ℕ). cond (is_some o) None (object_file s.object)) e) ∙ is in cc)
    by_own None e = record { own = e; object = of-object s.object refl (sym (ap (λ (o : Option ℕ). cond (is_some o) None (object_file s.object)) e) ∙ is) }

-- WHERE IT IS A PART OF A PROCESS
module _ (w : World) (spaces : Spaces) (p q at : ℕ) (s : Segment) (fits : MemoryFits (memory_of w spaces)) (here : spot_at spaces p q ≡ Some (s, at)) where
  -- one that shares no file shows no page of one
  pub shows-none : shared_file s ≡ None → (k : ℕ) (name : PageName) → SharesFilePage w (s, k) name → ⊥
  shows-none none k name shows = by_object s.object refl
    where
      own : s.own ≡ None
      own = shared-own w spaces p q (s, at) fits here shows.shared

      named : object_name w.maps s.shown (s.index + k) s.object ≡ Some name
      named = sym (ap (λ (o : Option ℕ). option_or (option_map slot_name (option_and_then (λ number. slot_in w.maps number k) o)) (object_name w.maps s.shown (s.index + k) s.object)) own) ∙ shows.is

      of-slot : (o : Option ℕ) → option_map slot_name o ≡ Some name → name.object ≡ 64
      of-slot None e = absurd (let z : ◌≡◌ {A = Option PageName} None (Some name) = e in cc)
      of-slot (Some slot) e = ap (λ (n : PageName). n.object) (sym (some-inj (slot_name slot) name e))

      of-map : (o : Option ℕ) → option_and_then (λ number. option_map slot_name (slot_in w.maps number (s.index + k))) o ≡ Some name → name.object ≡ 64
      of-map None e = absurd (let z : ◌≡◌ {A = Option PageName} None (Some name) = e in cc)
      of-map (Some number) e = of-slot (slot_in w.maps number (s.index + k)) e

      by_object : (o : Object) → s.object ≡ o → ⊥
      by_object (object.File f) e = let z : ◌≡◌ {A = Option ℕ} (Some f) None = sym (ap object_file e) ∙ sym (ap (λ (o : Option ℕ). cond (is_some o) None (object_file s.object)) own) ∙ none in cc
      by_object (object.Zero z) e = shows.file (of-map s.shown (sym (ap (object_name w.maps s.shown (s.index + k)) e) ∙ named))
      by_object object.NewZero e = let z : Shared ≡ Private = sym shows.shared ∙ new-private w spaces p q (s, at) fits here e in cc

  module _ (f : ℕ) (file : shared_file s ≡ Some f) where
    pub file-below : f < length w.files.files
    file-below = file-at w spaces p q (s, at) fits here f (shares s f file).object

    -- a place of it
    module _ (k : ℕ) where
      unslotted : own_slot w.maps (s, k) ≡ None
      unslotted = ap (option_and_then (λ number. slot_in w.maps number k)) (shares s f file).own

      named : shown_name w.maps (s, k) ≡ Some (file_name f (s.index + k))
      named = ap (λ (o : Option ℕ). option_or (option_map slot_name o) (object_name w.maps s.shown (s.index + k) s.object)) unslotted ∙ ap (object_name w.maps s.shown (s.index + k)) (shares s f file).object

      has : shows_page w (s, k) ≡ nat_lt (s.index + k) (pages_in (vnode_at w.files f).info.length)
      has = ap (λ (o : Option ℕ). is_some o || object_has w s.shown (s.index + k) s.object) unslotted ∙ ap (object_has w s.shown (s.index + k)) (shares s f file).object

      is-shared : (o : Kind) → s.kind ≡ o → s.kind ≡ Shared
      is-shared Shared e = e
      is-shared Private e = absurd (private-none e)
        where
          private-none : s.kind ≡ Private → ⊥
          private-none e = let m = private-has w spaces p q (s, at) fits here e in let z : ◌≡◌ {A = Option ℕ} None (Some m.0) = sym (shares s f file).own ∙ m.1 in cc

      -- IT SHOWS the file's page, and no other; where the file has it
      pub shows-file : s.index + k < pages_in (vnode_at w.files f).info.length → SharesFilePage w (s, k) (file_name f (s.index + k))
      shows-file below = record {
        shared = is-shared s.kind refl;
        some = has ∙ lt-ltb (s.index + k) (pages_in (vnode_at w.files f).info.length) below;
        is = named;
        file = file-apart w.files f fits.files file-below;
      }

      pub shown-file : (name : PageName) → SharesFilePage w (s, k) name → (name ≡ file_name f (s.index + k)) × (s.index + k < pages_in (vnode_at w.files f).info.length)
      shown-file name shows = (some-inj name (file_name f (s.index + k)) (sym shows.is ∙ named), ltb-true (s.index + k) (pages_in (vnode_at w.files f).info.length) (sym has ∙ shows.some))

    -- WHAT COMES FIRST of the file's pages, told of its places
    module _ (from to end : ℕ) (last : end ≡ min (pages_in (vnode_at w.files f).info.length) (s.index + to)) where
      pub places-cleaned : (page : ℕ) (want : Wants) → CleansPages (memory_of w spaces) f (s.index + from) end (Some (page, want)) → CleansPlaces (memory_of w spaces) s from to (Some (page - s.index, want))
      places-cleaned page want first =
          let low = first.0 in
          let high = first.1 in
          let k = page - s.index in
          let back : s.index + k ≡ page = omega (arith, low) in (
            omega (arith, low),
            omega (arith, low, high, last),
            record { name = file_name f (s.index + k); shows = shows-file k (omega (arith, back, high, last)); first = subst (λ (n : ℕ). CleansPage (memory_of w spaces) (file_name f n) (Some want)) (sym back) first.2 },
          )

      pub places-clean : CleansPages (memory_of w spaces) f (s.index + from) end None → CleansPlaces (memory_of w spaces) s from to None
      places-clean clean k name low high shows =
          let file = shown-file k name shows in
          let below = file.1 in
          subst (λ (n : PageName). IsCleanPage w n) (sym file.0) (clean (s.index + k) (omega (arith, low)) (omega (arith, high, below, last)))
