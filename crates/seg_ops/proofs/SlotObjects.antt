-- A ZERO OBJECT IS EMPTIED, one place after another: it is zeros then, and the rest of flat memory stays.
use Rattle.std.proofs.Common.{◌≡◌, ◌≢◌, ℕ, zero, suc, ◌+◌, ◌<◌, ◌≤◌, List, length, map, Option, Some, None, refl, sym, ap, ◌∙◌, inl, inr, arith, get_or, slice_set, replicate, get_or-set_same}
use Rattle.std.specs.Prelude.{option_map, option_and_then, unwrap_or}
use Rattle.std.specs.Option.{option_or}
use Rattle.std.specs.Ordering.{nat_cmp}
use Rattle.std.specs.FinMap as finite
use Rattle.std.specs.FinSet as set
use Rattle.std.proofs.lemmas.Bool.{cases_eq, cases_lt}
use Rattle.std.proofs.lemmas.List.{ext_get_or, get_or-replicate, get_or-set_other, get_or_past, length-replicate}
use Rattle.vm_world.specs.addr_space.Space.{Part}
use Rattle.page_store.specs.page_hash.declared.PageName.{PageName}
use Rattle.vm_world.specs.anon_map.Maps.{Map, places_of}
use Rattle.vm_world.specs.vnode_files.Files.{FilesSeen}
use Rattle.vm_world.specs.vnode_files.Vnode.{VnodeSeen}
use Rattle.vm_world.specs.flat_model.Shapes.{without_bytes}
use Rattle.vm_world.specs.flat_model.Words.{Page, zero_page}
use Rattle.vm_world.specs.vm_types.declared.call.Object.{Object}
use Rattle.vm_world.specs.CallSteps.{KeepsMachine, ChangesMemory}
use Rattle.vm_world.specs.FlatMemory.{Shape, cell_of, own_without_slot, flat_shaped, flat_memory, map_with, shape_of, space_with, zero_maps, zero_pages}
use Rattle.vm_world.specs.MemoryFits.{MemoryFits}
use Rattle.vm_world.specs.Pages.{page_value, contents_by, file_contents, place_contents}
use Rattle.vm_world.specs.SegmentSteps.{with_zero_object}
use Rattle.vm_world.specs.Segments.{Spot, Spaces, spot_at}
use Rattle.vm_world.specs.State.{mode_of}
use Rattle.vm_world.specs.World.{World, slot_in, slot_name}
use Rattle.vm_world.specs.declared.segment.Segment.{Segment}
use Rattle.vm_world.proofs.Changes.{machine-then}
use Rattle.vm_world.proofs.ComingParts.{zeros-from}
use Rattle.vm_world.proofs.Maps.{map_with-same, map_with-but_one}
use Rattle.vm_world.proofs.Shapes.{zero-respects}
use Rattle.seg_ops.specs.Empties.{EmptiesPlace, EmptiesPlaces, IsUnloadedZero, places_emptied}
use Rattle.seg_ops.proofs.SlotCells.{cells-else, pages-same, spot-in}
use Rattle.seg_ops.proofs.SlotMemory.{lengths-set}
use Rattle.seg_ops.proofs.SlotOwners.{never-own}
use Rattle.seg_ops.proofs.SlotPlaces.{slot-here, slot-else}
use Rattle.seg_ops.proofs.SlotRanges.{length-emptied}
use Rattle.seg_ops.proofs.SlotShapes.{bare, bare-shape, no-bytes}
use Rattle.seg_ops.proofs.SlotUnheld.{places-left, files-left}
use Rattle.seg_ops.proofs.StillSteps.{memory_of}

same-machine : (w : World) → KeepsMachine w w
same-machine w = record { core = refl; frames = refl; slots = refl; disks = refl; modes = refl; bays = refl }

-- one place, which held a slot
pub one-emptied : (old new : World) (spaces : Spaces) (m i s : ℕ) → EmptiesPlace old new spaces m i s → EmptiesPlaces old new spaces m (λ j. j ≡ i)
one-emptied old new spaces m i s k = record {
  machine = record { core = k.core; frames = k.frames; slots = k.slot.slots; disks = ap (λ (fs : FilesSeen). fs.disks) k.files; modes = ap (λ (fs : FilesSeen). map mode_of fs.files) k.files; bays = k.bays };
  files = k.files;
  lengths = λ number j. lengths-set old.maps new.maps m i None k.slot.within k.slot.set j number;
  memory = k.memory;
  notes = k.notes;
  tells = k.tells;
  pages = λ notes f index nf tell j. files-left old new spaces m i s k notes nf tell j f index;
  none = λ j here. ap (slot_in new.maps m) here ∙ ap (λ (ps : List (Option Map)). slot_in ps m i) k.slot.set ∙ slot-here old.maps m i None k.slot.within;
  kept = λ number j apart. ap (λ (ps : List (Option Map)). slot_in ps number j) k.slot.set ∙ slot-else old.maps m i number j None k.slot.within (λ e. apart e.0 e.1);
  others = λ notes number j nf tell apart. (places-left old new spaces m i s k notes nf tell).others number j (λ e. apart e.0 e.1);
}

-- one that held none
pub none-emptied : (w : World) (spaces : Spaces) (m i : ℕ) → MemoryFits (memory_of w spaces) → slot_in w.maps m i ≡ None → EmptiesPlaces w w spaces m (λ j. j ≡ i)
none-emptied w spaces m i f empty = record {
  machine = same-machine w;
  files = refl;
  lengths = λ number. refl;
  memory = f;
  notes = λ notes nf. nf;
  tells = λ notes nf. ((λ tell. tell), (λ tell. tell));
  pages = λ notes f index nf tell. refl;
  none = λ j here. ap (slot_in w.maps m) here ∙ empty;
  kept = λ number j apart. refl;
  others = λ notes number j nf tell apart. refl;
}

-- none so far, and one more than so many
pub nothing-emptied : (w : World) (spaces : Spaces) (m : ℕ) → MemoryFits (memory_of w spaces) → EmptiesPlaces w w spaces m (λ i. i < 0)
nothing-emptied w spaces m f = record {
  machine = same-machine w;
  files = refl;
  lengths = λ number. refl;
  memory = f;
  notes = λ notes nf. nf;
  tells = λ notes nf. ((λ tell. tell), (λ tell. tell));
  pages = λ notes f index nf tell. refl;
  none = λ i lt. absurd (omega (arith, lt));
  kept = λ number i apart. refl;
  others = λ notes number i nf tell apart. refl;
}

pub more-emptied : (u v w : World) (spaces : Spaces) (m k : ℕ) → EmptiesPlaces u v spaces m (λ i. i < k) → EmptiesPlaces v w spaces m (λ i. i ≡ k) → EmptiesPlaces u w spaces m (λ i. i < k + 1)
more-emptied u v w spaces m k a b = record {
  machine = machine-then u v w a.machine b.machine;
  files = b.files ∙ a.files;
  lengths = λ number. b.lengths number ∙ a.lengths number;
  memory = b.memory;
  notes = λ notes nf. b.notes notes (a.notes notes nf);
  tells = λ notes nf. (
    (λ tell. (b.tells notes (a.notes notes nf)).0 ((a.tells notes nf).0 tell)),
    (λ tell. (a.tells notes nf).1 ((b.tells notes (a.notes notes nf)).1 tell)),
  );
  pages = λ notes f index nf tell. b.pages notes f index (a.notes notes nf) ((a.tells notes nf).0 tell) ∙ a.pages notes f index nf tell;
  none = λ i lt. elim (cases_eq i k) [ inl e ↦ b.none i e | inr ne ↦ b.kept m i (λ same e. ne e) ∙ a.none i (omega (arith, lt, ne)) ];
  kept = λ number i apart. b.kept number i (λ same e. apart same (omega (arith, e))) ∙ a.kept number i (λ same lt. apart same (omega (arith, lt)));
  others = λ notes number i nf tell apart.
      b.others notes number i (a.notes notes nf) ((a.tells notes nf).0 tell) (λ same e. apart same (omega (arith, e)))
      ∙ a.others notes number i nf tell (λ same lt. apart same (omega (arith, lt)));
}

-- A MAP THAT HOLDS NOTHING, a zero object's and no page's own: the object is zeros, and the rest stays.
module _ (s : Shape) (born : set.FinSet nat_cmp) (file : ℕ → ℕ → Page) (old new : ℕ → ℕ → Option Page) (z m : ℕ) (at : finite.get (zero_maps s.spaces) z ≡ Some m) (alone : (y : ℕ) → finite.get (zero_maps s.spaces) y ≡ Some m → y ≡ z)
    (never : (p q : ℕ) (x : Spot) → spot_at s.spaces p q ≡ Some x → x.0.own ≢ Some m) (none : (i : ℕ) → new m i ≡ None) (others : (number i : ℕ) → number ≢ m → new number i ≡ old number i) where
  own-same : (own : Option ℕ) (i : ℕ) (ob : Object) → own ≢ Some m → option_and_then (λ number. option_or (new number i) (own_without_slot ob)) own ≡ option_and_then (λ number. option_or (old number i) (own_without_slot ob)) own
  own-same None i ob ne = refl
  own-same (Some number) i ob ne = ap (λ (o : Option Page). option_or o (own_without_slot ob)) (others number i (λ e. ne (ap (λ (a : ℕ). Some a) e)))

  pub flat-emptied : flat_shaped s born (record { file = file; place = new }) ≡ with_zero_object (flat_shaped s born (record { file = file; place = old })) z (s.lengths m)
  flat-emptied =
      let cells : (p : ℕ) (parts : List (Part Segment)) → finite.get s.spaces p ≡ Some parts → space_with new parts ≡ space_with old parts =
      λ p parts is. cells-else old new parts (λ q y there. ap (λ (o : Option Page). record (cell_of old y) { own = o }) (own-same y.0.own y.1 y.0.object (never p q y (spot-in s.spaces p q parts is ∙ there)))) in
      let spaces = map_with-same (space_with old) (space_with new) s.spaces cells in
      let zeros = map_with-but_one (zero_pages old s.lengths) (zero_pages new s.lengths) (zero_maps s.spaces) z m at
      (λ y n is ne. pages-same (λ k. unwrap_or (old n k) zero_page) (λ k. unwrap_or (new n k) zero_page) 0 (s.lengths n) (λ k. ap (λ (o : Option Page). unwrap_or o zero_page) (others n k (λ e. ne (alone y (is ∙ ap (λ (a : ℕ). Some a) e))))))
      ∙ ap (finite.insert (map_with (zero_pages old s.lengths) (zero_maps s.spaces)) z) (zeros-from (λ k. unwrap_or (new m k) zero_page) 0 (s.lengths m) (λ k. ap (λ (o : Option Page). unwrap_or o zero_page) (none k))) in
      λ j. record (flat_shaped s born (record { file = file; place = old })) { spaces = spaces j; zeros = zeros j }

-- A CHANGE OF MEMORY, of any process.
module _ (p : ℕ) (old new : World) (spaces : Spaces) (z m n : ℕ) (f : MemoryFits (memory_of old spaces)) (shows : IsUnloadedZero old.hat.places spaces z m) (size : length (places_of old.maps m) ≡ n) (k : EmptiesPlaces old new spaces m (λ i. i < n)) where
  abbrev shape : Shape
  shape = shape_of (memory_of old spaces)

  same-shape : shape_of (memory_of new spaces) ≡ shape
  same-shape = λ j. record { slots = k.machine.slots j; disks = (k.files j).disks; files = map (λ (v : VnodeSeen). v.info) (k.files j).files; lengths = λ number. k.lengths number j; spaces = spaces }

  -- no place holds a slot
  none-held : (i : ℕ) → slot_in new.maps m i ≡ None
  none-held i = elim (cases_lt i n) [
    | inl lt ↦ k.none i lt
    | inr ge ↦ k.kept m i (λ at lt. omega (arith, ge, lt)) ∙ get_or_past (places_of old.maps m) i None (omega (arith, ge, size))
  ]

  -- what is left of flat memory, with whatever pages its files have
  flat-left : (born : set.FinSet nat_cmp) (file : ℕ → ℕ → Page) (before after : PageName → Page) → ((number i : ℕ) → number ≢ m → place_contents after new.maps number i ≡ place_contents before old.maps number i)
      → flat_shaped shape born (record { file = file; place = place_contents after new.maps }) ≡ with_zero_object (flat_shaped shape born (record { file = file; place = place_contents before old.maps })) z n
  flat-left born file before after others =
      flat-emptied shape born file (place_contents before old.maps) (place_contents after new.maps) z m shows.zero
      (λ y at. f.segments.apart y z m at shows.zero) (λ r q x there. never-own (memory_of old spaces) z m r q x f shows.zero there)
      (λ i. ap (option_map (λ t. after (slot_name t))) (none-held i)) others
      ∙ ap (with_zero_object (flat_shaped shape born (record { file = file; place = place_contents before old.maps })) z) size

  pub changes-emptied : ChangesMemory p (memory_of old spaces) (memory_of new spaces) (λ F. with_zero_object F z n)
  changes-emptied = record {
    machine = k.machine;
    others = λ r ne. refl;
    memory = k.memory;
    notes = k.notes;
    tells = k.tells;
    flat = λ born notes nf tell whole.
        let files : file_contents (page_value new notes) ≡ file_contents (page_value old notes) = λ j a index. k.pages notes a index nf tell j in
        ap (λ (h : Shape). flat_shaped h born (contents_by (page_value new notes) new.maps)) same-shape
        ∙ ap (λ (file : ℕ → ℕ → Page). flat_shaped shape born (record { file = file; place = place_contents (page_value new notes) new.maps })) files
        ∙ flat-left born (file_contents (page_value old notes)) (page_value old notes) (page_value new notes) (λ number i ne. k.others notes number i nf tell (λ at lt. ne at));
    shaped = λ born notes.
        bare-shape new spaces born notes
        ∙ ap (λ (h : Shape). without_bytes (flat_shaped h born (record { file = no-bytes; place = bare new.maps }))) same-shape
        ∙ ap without_bytes (flat-left born no-bytes (λ name. zero_page) (λ name. zero_page) (λ number i ne. ap (option_map (λ slot. zero_page)) (k.kept number i (λ at lt. ne at))))
        ∙ zero-respects z n (flat_shaped shape born (record { file = no-bytes; place = bare old.maps })) (flat_memory (memory_of old spaces) born notes) (sym (bare-shape old spaces born notes));
  }

-- all places of a map
pub all-emptied : (places : List (Option ℕ)) → places_emptied places 0 (length places) ≡ replicate (length places) None
all-emptied places =
    ext_get_or None (places_emptied places 0 (length places)) (replicate (length places) None) (length-emptied places 0 (length places) ∙ sym (length-replicate (length places) None))
    (λ i lt. let size = length-emptied places 0 (length places) in let below : i < length places = omega (arith, lt, size) in emptied-at places (length places) i (omega arith) below ∙ sym (get_or-replicate (length places) i None None below))
  where
    emptied-at : (places : List (Option ℕ)) (n i : ℕ) → n ≤ length places → i < n → get_or (places_emptied places 0 n) i None ≡ None
    emptied-at places zero i le lt = absurd (omega (arith, lt))
    emptied-at places (suc n) i le lt =
        let at : 0 + n ≡ n = omega arith in
        let size = length-emptied places 0 n in
        ap (λ (k : ℕ). get_or (slice_set (places_emptied places 0 n) k None) i None) at
        ∙ elim (cases_eq i n) [
          | inl e ↦ ap (λ (k : ℕ). get_or (slice_set (places_emptied places 0 n) n None) k None) e ∙ get_or-set_same (places_emptied places 0 n) n None None (omega (arith, size, le))
          | inr ne ↦ get_or-set_other (places_emptied places 0 n) n i None None ne ∙ emptied-at places n i (omega (arith, le)) (omega (arith, lt, ne))
        ]
