-- FLAT MEMORY once a place was emptied: the cell of its page has lost its own page, and all else stays.
use Rattle.std.proofs.Common.{◌≡◌, ℕ, ◌==◌, Bool, cond, List, [], map, Option, Some, None, refl, sym, ap, ◌∙◌, inl, inr}
use Rattle.std.specs.Prelude.{option_map}
use Rattle.std.specs.Option.{option_map_or}
use Rattle.std.specs.FinSet as set
use Rattle.std.specs.Ordering.{nat_cmp}
use Rattle.std.proofs.lemmas.Bool.Decides.{eqb_tells}
use Rattle.page_store.specs.page_hash.declared.PageName.{PageName}
use Rattle.page_store.specs.Notes.{Notes}
use Rattle.vm_world.specs.anon_map.Maps.{Map}
use Rattle.vm_world.specs.vm_types.declared.call.Kind.{Kind}
use Rattle.vm_world.specs.vm_types.declared.call.Kind.TheVariants.{Shared, Private}
use Rattle.vm_world.specs.vnode_files.Files.{FilesSeen}
use Rattle.vm_world.specs.vnode_files.Vnode.{VnodeSeen}
use Rattle.vm_world.specs.flat_model.Access.{with_cell}
use Rattle.vm_world.specs.flat_model.Flat.{Cell, Flat}
use Rattle.vm_world.specs.flat_model.Shapes.{without_bytes}
use Rattle.vm_world.specs.flat_model.Words.{Page}
use Rattle.vm_world.specs.CallSteps.{ChangesMemory}
use Rattle.vm_world.specs.FlatMemory.{Shape, cell_of, own_without_slot, flat_shaped, flat_memory, shape_of}
use Rattle.vm_world.specs.MemoryFits.{MemoryFits}
use Rattle.vm_world.specs.NotesFit.{NotesFit}
use Rattle.vm_world.specs.Pages.{page_value, contents_of, contents_by, file_contents, place_contents}
use Rattle.vm_world.specs.Segments.{Spot, Spaces, spot_at}
use Rattle.vm_world.specs.State.{mode_of}
use Rattle.vm_world.specs.World.{World, file_name, slot_name, slot_in, AllTell}
use Rattle.vm_world.proofs.Counts.{held-used}
use Rattle.vm_world.proofs.Maps.{cell-at}
use Rattle.seg_ops.specs.Empties.{EmptiesPlace}
use Rattle.seg_ops.specs.OwnPages.{own_at_empty_place, without_own_page}
use Rattle.seg_ops.specs.Slots.{OwnsAlone}
use Rattle.seg_ops.proofs.SlotCells.{PutsHeld, flat-owned}
use Rattle.seg_ops.proofs.SlotMemory.{lengths-set, lt-used}
use Rattle.seg_ops.proofs.SlotOwners.{owner-private}
use Rattle.seg_ops.proofs.SlotPlaces.{slot-here, slot-else}
use Rattle.seg_ops.proofs.SlotShapes.{bare-puts, owned-shape}
use Rattle.seg_ops.proofs.StillSteps.{memory_of}

-- the shape stays
shape-left : (old new : World) (spaces : Spaces) (m i s : ℕ) → EmptiesPlace old new spaces m i s → shape_of (memory_of new spaces) ≡ shape_of (memory_of old spaces)
shape-left old new spaces m i s k = λ j. record {
  slots = k.slot.slots j;
  disks = (k.files j).disks;
  files = map (λ (v : VnodeSeen). v.info) (k.files j).files;
  lengths = lengths-set old.maps new.maps m i None k.slot.within k.slot.set j;
  spaces = spaces;
}

module _ (old new : World) (spaces : Spaces) (m i s : ℕ) (k : EmptiesPlace old new spaces m i s) (notes : Notes) (nf : NotesFit old notes) (tell : AllTell old notes) where
  -- what the places hold
  pub places-left : PutsHeld (place_contents (page_value old notes) old.maps) (place_contents (page_value new notes) new.maps) m i None
  places-left = record {
    there = ap (λ (ps : List (Option Map)). place_contents (page_value new notes) ps m i) k.slot.set ∙ ap (option_map (λ t. page_value new notes (slot_name t))) (slot-here old.maps m i None k.slot.within);
    others = λ a b apart.
        let same = ap (λ (ps : List (Option Map)). slot_in ps a b) k.slot.set ∙ slot-else old.maps m i a b None k.slot.within apart in
        ap (option_map (λ t. page_value new notes (slot_name t))) same ∙ by_slot a b (slot_in old.maps a b) same;
  }
    where
      by_slot : (a b : ℕ) (o : Option ℕ) → slot_in new.maps a b ≡ o → option_map (λ t. page_value new notes (slot_name t)) o ≡ option_map (λ t. page_value old notes (slot_name t)) o
      by_slot a b None is = refl
      by_slot a b (Some t) is = ap (λ (p : Page). Some p) (k.pages notes (slot_name t) nf tell (λ e. lt-used _ (held-used new.anon new.maps a b t k.slot.counts is)))

  -- the files' pages stay
  pub files-left : file_contents (page_value new notes) ≡ file_contents (page_value old notes)
  files-left = λ j f index. one f index j
    where
      one : (f index : ℕ) → file_contents (page_value new notes) f index ≡ file_contents (page_value old notes) f index
      one f index = elim (eqb_tells f 64) [
        | inl y ↦ ap (λ (b : Bool). cond b [] (page_value new notes (file_name f index))) y.0 ∙ sym (ap (λ (b : Bool). cond b [] (page_value old notes (file_name f index))) y.0)
        | inr x ↦ ap (cond (f == 64) []) (k.pages notes (file_name f index) nf tell (λ e. absurd (x.1 (ap (λ (n : PageName). n.object) e))))
      ]

  flat-left : (born : set.FinSet nat_cmp) (p q : ℕ) (x : Spot) → OwnsAlone spaces p q m i x
      → flat_memory (memory_of new spaces) born notes ≡ with_cell (flat_memory (memory_of old spaces) born notes) p q (record (cell_of (contents_of old notes).place x) { own = own_without_slot x.0.object })
  flat-left born p q x owns =
      let shape : Shape = shape_of (memory_of old spaces) in
      ap (λ (h : Shape). flat_shaped h born (contents_by (page_value new notes) new.maps)) (shape-left old new spaces m i s k)
      ∙ ap (λ (file : ℕ → ℕ → Page). flat_shaped shape born (record { file = file; place = place_contents (page_value new notes) new.maps })) files-left
      ∙ flat-owned shape born (file_contents (page_value old notes)) (place_contents (page_value old notes) old.maps) (place_contents (page_value new notes) new.maps) p q m i x None places-left owns

-- the cell of a spot without its own page
pub unheld-is : (old : World) (spaces : Spaces) (notes : Notes) (born : set.FinSet nat_cmp) (p q : ℕ) (x : Spot) → spot_at spaces p q ≡ Some x → x.0.kind ≡ Private
    → without_own_page (flat_memory (memory_of old spaces) born notes) p q ≡ with_cell (flat_memory (memory_of old spaces) born notes) p q (record (cell_of (contents_of old notes).place x) { own = own_without_slot x.0.object })
unheld-is old spaces notes born p q x here private =
    let F : Flat = flat_memory (memory_of old spaces) born notes in
    let c : Cell = cell_of (contents_of old notes).place x in
    ap (λ (o : Option Cell). option_map_or (λ c. with_cell F p q (record c { own = own_at_empty_place c })) o F) (cell-at (contents_of old notes).place spaces p q ∙ ap (option_map (cell_of (contents_of old notes).place)) here)
    ∙ ap (λ (kind : Kind). with_cell F p q (record c { own = elim kind as (λ (a : Kind). Option Page) [ Private ↦ own_without_slot x.0.object | Shared ↦ None ] })) private

-- A CHANGE OF MEMORY, of the process whose page it is.
pub changes-left : (p q : ℕ) (x : Spot) (old new : World) (spaces : Spaces) (m i s : ℕ) → MemoryFits (memory_of old spaces) → EmptiesPlace old new spaces m i s → OwnsAlone spaces p q m i x
    → ChangesMemory p (memory_of old spaces) (memory_of new spaces) (λ F. without_own_page F p q)
changes-left p q x old new spaces m i s fits k owns = record {
  machine = record { core = k.core; frames = k.frames; slots = k.slot.slots; disks = ap (λ (fs : FilesSeen). fs.disks) k.files; modes = ap (λ (fs : FilesSeen). map mode_of fs.files) k.files; bays = k.bays };
  others = λ r ne. refl;
  memory = k.memory;
  notes = k.notes;
  tells = k.tells;
  flat = λ born notes nf tell whole. flat-left old new spaces m i s k notes nf tell born p q x owns ∙ sym (unheld-is old spaces notes born p q x owns.here (owner-private (memory_of old spaces) p q m i x fits owns));
  shaped = λ born notes.
      owned-shape old new spaces p q m i x None (record (cell_of (contents_of old notes).place x) { own = own_without_slot x.0.object }) born notes (shape-left old new spaces m i s k) (bare-puts old.maps new.maps m i None k.slot.within k.slot.set) owns (λ place. refl)
      ∙ ap without_bytes (sym (unheld-is old spaces notes born p q x owns.here (owner-private (memory_of old spaces) p q m i x fits owns)));
}
