-- A place that isn't past the end shows a page in flat memory.
use Rattle.std.proofs.Common.{◌≡◌, ℕ, Bool, true, false, ◌+◌, Option, Some, None, refl, sym, ap, ◌∙◌, subst}
use Rattle.std.specs.Prelude.{IsSome, IsTrue, is_some, option_and_then, option_map, ◌||◌}
use Rattle.std.specs.Option.{option_or}
use Rattle.std.specs.FinSet as set
use Rattle.std.specs.Ordering.{nat_cmp}
use Rattle.seg_ops.specs.vm_types.declared.call.Object.{Object}
use Rattle.seg_ops.specs.vm_types.declared.call.Object.TheVariants as object
use Rattle.seg_ops.specs.page_hash.declared.PageName.{PageName}
use Rattle.seg_ops.specs.page_store.Notes.{Notes}
use Rattle.seg_ops.specs.flat_model.Flat.{Cell, Flat, shown}
use Rattle.seg_ops.specs.flat_model.Words.{Page, zero_page}
use Rattle.seg_ops.specs.vm_world.FlatMemory.{flat_memory, cell_of, own_without_slot}
use Rattle.seg_ops.specs.vm_world.MemoryFits.{MemoryFits}
use Rattle.seg_ops.specs.vm_world.Pages.{contents_of, page_value}
use Rattle.seg_ops.specs.vm_world.Segments.{Spot, Spaces, spot_at, own_slot, object_name, shown_name}
use Rattle.seg_ops.specs.vm_world.Wants.{shows_page, object_has}
use Rattle.seg_ops.specs.vm_world.World.{World, slot_name, slot_in}
use Rattle.seg_ops.proofs.StillSteps.{memory_of}
use Rattle.seg_vn.proofs.FaultPlaces.{new-private, own-none, private-has}
use Rattle.seg_vn.proofs.CopySteps.{object-zeros}
use Rattle.seg_vn.proofs.PlacesShown.{shown-page}

module _ (w : World) (spaces : Spaces) (p q : ℕ) (x : Spot) (fits : MemoryFits (memory_of w spaces)) (here : spot_at spaces p q ≡ Some x) (born : set.FinSet nat_cmp) (notes : Notes) (there : IsTrue (shows_page w x)) where
  abbrev F : Flat
  F = flat_memory (memory_of w spaces) born notes

  abbrev cell : Cell
  cell = cell_of (contents_of w notes).place x

  abbrev index : ℕ
  index = x.0.index + x.1

  -- new zero memory has a page of its own
  some-zero : (o : Option Page) → IsSome (option_or o (Some zero_page))
  some-zero None = refl
  some-zero (Some page) = refl

  own-some : (o : Option Page) (rest : Option Page) → IsSome o → IsSome (option_or o rest)
  own-some None rest is = absurd (let z : false ≡ true = is in cc)
  own-some (Some page) rest is = refl

  new-some : x.0.object ≡ object.NewZero → IsSome cell.own
  new-some is =
      let own = private-has w spaces p q x fits here (new-private w spaces p q x fits here is) in
      subst (λ (o : Option Page). IsSome o) (sym (ap (option_and_then (λ (number : ℕ). option_or ((contents_of w notes).place number x.1) (own_without_slot x.0.object))) own.1
      ∙ ap (λ (ob : Object). option_or ((contents_of w notes).place own.0 x.1) (own_without_slot ob)) is))
      (some-zero ((contents_of w notes).place own.0 x.1))

  bare-by : (o : Option ℕ) → option_or (option_map slot_name o) (object_name w.maps x.0.shown index x.0.object) ≡ None → o ≡ None
  bare-by None is = refl
  bare-by (Some s) is = absurd (let z : ◌≡◌ {A = Option PageName} (Some (slot_name s)) None = is in cc)

  zeros-some : own_slot w.maps x ≡ None → object_name w.maps x.0.shown index x.0.object ≡ None → IsTrue (object_has w x.0.shown index x.0.object) → IsSome (shown F cell)
  zeros-some bare none has = by_object x.0.object refl
    where
      shows : own_without_slot x.0.object ≡ None → IsSome (shown F cell)
      shows old = ap is_some (object-zeros w spaces p q x fits here born notes (own-none w spaces p q x fits here born notes bare old) old none has)

      by_object : (o : Object) → x.0.object ≡ o → IsSome (shown F cell)
      by_object (object.File f) is = shows (ap own_without_slot is)
      by_object (object.Zero z) is = shows (ap own_without_slot is)
      by_object object.NewZero is = own-some cell.own _ (new-some is)

  -- IT SHOWS A PAGE.
  pub shown-some : IsSome (shown F cell)
  shown-some = by_name (shown_name w.maps x) refl
    where
      by_name : (o : Option PageName) → shown_name w.maps x ≡ o → IsSome (shown F cell)
      by_name (Some name) is = ap is_some (shown-page w spaces p q x fits here born notes name is there)
      by_name None is =
          let bare = bare-by (own_slot w.maps x) is in
          let none = sym (ap (λ (o : Option ℕ). option_or (option_map slot_name o) (object_name w.maps x.0.shown index x.0.object)) bare) ∙ is in
          zeros-some bare none (sym (ap (λ (o : Option ℕ). is_some o || object_has w x.0.shown index x.0.object) bare) ∙ there)
