-- MANY PLACES ARE EMPTIED, one after another.
use Rattle.vm_world.proofs.anon_map.KeptLemmas.{there_within as there-within}
use Rattle.std.proofs.Common.{◌≡◌, ℕ, zero, suc, ◌+◌, ◌<◌, List, [], ◌∷◌, length, Option, Some, None, refl, sym, ap, ◌∙◌, subst, slice_set}
use Rattle.std.specs.Prelude.{option_map, option_and_then}
use Rattle.std.specs.Option.{option_or}
use Rattle.std.specs.Ordering.{nat_cmp}
use Rattle.std.specs.FinSet as set
use Rattle.std.proofs.lemmas.List.{length-set}
use Rattle.page_store.specs.Notes.{Notes}
use Rattle.vm_world.specs.anon_map.Maps.{Map, IsMapThere, places_of, with_places}
use Rattle.vm_world.specs.hat_layer.declared.translation.Translation.{Translation}
use Rattle.vm_world.specs.flat_model.Flat.{Flat, Cell}
use Rattle.vm_world.specs.flat_model.Shapes.{without_bytes}
use Rattle.vm_world.specs.flat_model.Words.{Page}
use Rattle.vm_world.specs.CallSteps.{ChangesMemory}
use Rattle.vm_world.specs.FlatMemory.{Memory, cell_of, own_without_slot, flat_memory}
use Rattle.vm_world.specs.MemoryFits.{MemoryFits}
use Rattle.vm_world.specs.Pages.{page_value, contents_of}
use Rattle.vm_world.specs.Segments.{Spot, Spaces}
use Rattle.vm_world.specs.World.{World, slot_in, slot_name}
use Rattle.vm_world.proofs.CallSteps.{call_rule}
use Rattle.vm_world.proofs.Maps.{cell-at}
use Rattle.seg_ops.specs.Empties.{OwnsPlaces, places_emptied}
use Rattle.seg_ops.specs.OwnPages.{without_own_page, without_own_pages}
use Rattle.seg_ops.specs.Slots.{OwnsAlone}
use Rattle.seg_ops.proofs.OwnPages.{cell-back, flat-unheld_all}
use Rattle.seg_ops.proofs.SlotOwners.{owner-private, places_law}
use Rattle.seg_ops.proofs.SlotPlaces.{places-after, places-twice, there-set}
use Rattle.seg_ops.proofs.SlotShapes.{unheld-respects}
use Rattle.seg_ops.proofs.SlotUnheld.{unheld-is}
use Rattle.seg_ops.proofs.StillSteps.{memory_of}

-- nothing changes
pub changes-none : (p : ℕ) (m : Memory) → MemoryFits m → ChangesMemory p m m (λ F. F)
changes-none p m f = record {
  machine = record { core = refl; frames = refl; slots = refl; disks = refl; modes = refl; bays = refl };
  others = λ q far. refl;
  memory = f;
  notes = λ notes nf. nf;
  tells = λ notes nf. ((λ tell. tell), (λ tell. tell));
  flat = λ born notes nf tell whole. refl;
  shaped = λ born notes. refl;
}

-- A PLACE THAT IS EMPTY already.
pub changes-empty : (p q : ℕ) (x : Spot) (w : World) (spaces : Spaces) (m i : ℕ) → MemoryFits (memory_of w spaces) → OwnsAlone spaces p q m i x → slot_in w.maps m i ≡ None
    → ChangesMemory p (memory_of w spaces) (memory_of w spaces) (λ F. without_own_page F p q)
changes-empty p q x w spaces m i f owns empty = record {
  machine = record { core = refl; frames = refl; slots = refl; disks = refl; modes = refl; bays = refl };
  others = λ q far. refl;
  memory = f;
  notes = λ notes nf. nf;
  tells = λ notes nf. ((λ tell. tell), (λ tell. tell));
  flat = λ born notes nf tell whole. same born notes;
  shaped = λ born notes. ap without_bytes (same born notes);
}
  where
    own : (notes : Notes) → (cell_of (contents_of w notes).place x).own ≡ own_without_slot x.0.object
    own notes =
        let held : ℕ → ℕ → Option Page = (contents_of w notes).place in
        ap (option_and_then (λ number. option_or (held number x.1) (own_without_slot x.0.object))) owns.own
        ∙ ap (λ (j : ℕ). option_or (held m j) (own_without_slot x.0.object)) owns.place
        ∙ ap (λ (o : Option ℕ). option_or (option_map (λ t. page_value w notes (slot_name t)) o) (own_without_slot x.0.object)) empty

    same : (born : set.FinSet nat_cmp) (notes : Notes) → flat_memory (memory_of w spaces) born notes ≡ without_own_page (flat_memory (memory_of w spaces) born notes) p q
    same born notes =
        let F : Flat = flat_memory (memory_of w spaces) born notes in
        let c : Cell = cell_of (contents_of w notes).place x in
        sym (unheld-is w spaces notes born p q x owns.here (owner-private (memory_of w spaces) p q m i x f owns)
        ∙ cell-back F p q (record c { own = own_without_slot x.0.object })
        (cell-at (contents_of w notes).place spaces p q ∙ ap (option_map (cell_of (contents_of w notes).place)) owns.here ∙ ap (λ (o : Option Page). Some (record c { own = o })) (own notes)))

-- the places of a range, one after another
pub length-emptied : (places : List (Option ℕ)) (from n : ℕ) → length (places_emptied places from n) ≡ length places
length-emptied places from zero = refl
length-emptied places from (suc n) = length-set (places_emptied places from n) (from + n) None ∙ length-emptied places from n

-- what the maps are then
module _ (maps cur : List (Option Map)) (m from k : ℕ) (there : IsMapThere maps m) (are : cur ≡ with_places maps m (places_emptied (places_of maps m) from k)) where
  pub there-still : IsMapThere cur m
  there-still = subst (λ (ps : List (Option Map)). IsMapThere ps m) (sym are) (there-set maps m m (places_emptied (places_of maps m) from k) (there-within maps m there) there)

  pub length-still : length (places_of cur m) ≡ length (places_of maps m)
  length-still = ap (λ (ps : List (Option Map)). length (places_of ps m)) are ∙ ap (λ (l : List (Option ℕ)). length l) (places-after maps m (places_emptied (places_of maps m) from k) (there-within maps m there)) ∙ length-emptied (places_of maps m) from k

  pub maps-more : (next : List (Option Map)) → next ≡ with_places cur m (slice_set (places_of cur m) (from + k) None) → next ≡ with_places maps m (places_emptied (places_of maps m) from (suc k))
  maps-more next is =
      let lt = there-within maps m there in
      let old : List (Option ℕ) = places_emptied (places_of maps m) from k in
      is ∙ ap (λ (ps : List (Option Map)). with_places ps m (slice_set (places_of ps m) (from + k) None)) are
      ∙ places-twice maps m old (slice_set (places_of (with_places maps m old) m) (from + k) None) lt
      ∙ ap (λ (l : List (Option ℕ)). with_places maps m (slice_set l (from + k) None)) (places-after maps m old lt)

-- the next place is the own place of its page alone
pub owns-next : (places : List (Option Translation)) (new : World) (spaces : Spaces) (p first m from n j : ℕ) → MemoryFits (memory_of new spaces) → (o : OwnsPlaces places spaces p first m from n) → j < n → OwnsAlone spaces p (first + j) m (from + j) (o.segment, from + j)
owns-next places new spaces p first m from n j f o lt = places_law.alone (memory_of new spaces) p (first + j) m (o.segment, from + j) f (o.here j lt) o.own

-- ONE CHANGE MORE.
pub changes-more : (p first j : ℕ) (u v w : Memory) → ChangesMemory p u v (λ F. without_own_pages F p first j) → ChangesMemory p v w (λ F. without_own_page F p (first + j))
    → ChangesMemory p u w (λ F. without_own_pages F p first (suc j))
changes-more p first j u v w a b = call_rule.joined p u v w (λ F. without_own_pages F p first j) (λ F. without_own_page F p (first + j)) (λ born notes nf tell flat. flat-unheld_all (flat_memory u born notes) p first j flat) (unheld-respects p (first + j)) a b
