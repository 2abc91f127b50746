-- THE SHAPE of flat memory as places of anon maps get slots and lose them, whatever disks tell.
use Rattle.std.proofs.Common.{◌≡◌, ℕ, zero, ◌+◌, ◌<◌, List, length, Option, Some, None, refl, sym, ap, ◌∙◌}
use Rattle.std.specs.Prelude.{Bool, option_map, slice_set}
use Rattle.std.specs.Option.{option_map_or, option_or}
use Rattle.std.specs.Ordering.{nat_cmp}
use Rattle.std.specs.FinSet as set
use Rattle.page_store.specs.Notes.{Notes}
use Rattle.vm_world.specs.anon_map.Maps.{Map, places_of, with_places}
use Rattle.vm_world.specs.flat_model.Access.{with_cell}
use Rattle.vm_world.specs.flat_model.Flat.{Cell, Flat, cell_at}
use Rattle.vm_world.specs.flat_model.Shapes.{RespectsShape, SameShape, blank_cell, without_bytes}
use Rattle.vm_world.specs.flat_model.Step.{tails_cleared}
use Rattle.vm_world.specs.flat_model.Words.{Page, zero_page}
use Rattle.vm_world.proofs.flat_model.Shapes.{cell-blank, cell-put, respects-by, twice}
use Rattle.vm_world.proofs.flat_model.ShapeSteps.{tails-same}
use Rattle.vm_world.specs.FlatMemory.{Shape, cell_of, flat_memory, flat_shaped, own_without_slot, shape_of}
use Rattle.vm_world.specs.Pages.{contents_of, page_value, place_contents}
use Rattle.vm_world.specs.Segments.{Spot, Spaces}
use Rattle.vm_world.specs.World.{World, slot_in}
use Rattle.vm_world.proofs.Shapes.{contents-alike, held-alike}
use Rattle.seg_ops.specs.OwnPages.{own_at_empty_place, without_own_page}
use Rattle.seg_ops.specs.Slots.{OwnsAlone, with_own_page}
use Rattle.seg_ops.proofs.SlotCells.{PutsHeld, flat-owned}
use Rattle.seg_ops.proofs.SlotPlaces.{slot-here, slot-else}
use Rattle.seg_ops.proofs.StillSteps.{memory_of}

-- what places hold, but for bytes
abbrev pub bare : List (Option Map) → ℕ → ℕ → Option Page
bare maps = place_contents (λ name. zero_page) maps

abbrev pub no-bytes : ℕ → ℕ → Page
no-bytes file index = zero_page

-- what a cell has as its own where its place holds this
abbrev pub own_left : Option ℕ → Spot → Option Page
own_left o x = option_or (option_map (λ slot. zero_page) o) (own_without_slot x.0.object)

-- flat memory has the shape that it has with these
pub bare-shape : (w : World) (spaces : Spaces) (born : set.FinSet nat_cmp) (notes : Notes) → SameShape (flat_memory (memory_of w spaces) born notes) (flat_shaped (shape_of (memory_of w spaces)) born (record { file = no-bytes; place = bare w.maps }))
bare-shape w spaces born notes = contents-alike (shape_of (memory_of w spaces)) born (contents_of w notes) (record { file = no-bytes; place = bare w.maps }) (λ number i. held-alike (page_value w notes) (λ name. zero_page) (slot_in w.maps number i))

-- a place is set
pub bare-puts : (old new : List (Option Map)) (m i : ℕ) (o : Option ℕ) → i < length (places_of old m) → new ≡ with_places old m (slice_set (places_of old m) i o) → PutsHeld (bare old) (bare new) m i (option_map (λ slot. zero_page) o)
bare-puts old new m i o within is = record {
  there = ap (λ (ps : List (Option Map)). bare ps m i) is ∙ ap (option_map (λ slot. zero_page)) (slot-here old m i o within);
  others = λ a b apart. ap (λ (ps : List (Option Map)). bare ps a b) is ∙ ap (option_map (λ slot. zero_page)) (slot-else old m i a b o within apart);
}

-- A PAGE OF ITS OWN: its cell has one then, or lost it
pub owned-shape : (old new : World) (spaces : Spaces) (p q m i : ℕ) (x : Spot) (o : Option ℕ) (c : Cell) (born : set.FinSet nat_cmp) (notes : Notes) → shape_of (memory_of new spaces) ≡ shape_of (memory_of old spaces)
    → PutsHeld (bare old.maps) (bare new.maps) m i (option_map (λ slot. zero_page) o) → OwnsAlone spaces p q m i x
    → ((place : ℕ → ℕ → Option Page) → blank_cell (record (cell_of place x) { own = own_left o x }) ≡ blank_cell c) → SameShape (flat_memory (memory_of new spaces) born notes) (with_cell (flat_memory (memory_of old spaces) born notes) p q c)
owned-shape old new spaces p q m i x o c born notes same puts owns cell =
    let shape : Shape = shape_of (memory_of old spaces) in
    bare-shape new spaces born notes
    ∙ ap (λ (h : Shape). without_bytes (flat_shaped h born (record { file = no-bytes; place = bare new.maps }))) same
    ∙ ap without_bytes (flat-owned shape born no-bytes (bare old.maps) (bare new.maps) p q m i x (option_map (λ slot. zero_page) o) puts owns)
    ∙ cell-put (flat_shaped shape born (record { file = no-bytes; place = bare old.maps })) (flat_memory (memory_of old spaces) born notes) p q (record (cell_of (bare old.maps) x) { own = own_left o x }) c
    (sym (bare-shape old spaces born notes)) (cell (bare old.maps))

-- WHAT RESPECTS SHAPES
pub unheld-respects : (p q : ℕ) → RespectsShape (λ F. without_own_page F p q)
unheld-respects p q = respects-by (λ F. without_own_page F p q) (λ F.
    ap (λ (o : Option Cell). without_bytes (option_map_or (λ c. with_cell (without_bytes F) p q (record c { own = own_at_empty_place c })) o (without_bytes F))) (cell-blank F p q) ∙ by_cell F (cell_at F p q))
  where
    by_cell : (F : Flat) (o : Option Cell) → SameShape (option_map_or (λ c. with_cell (without_bytes F) p q (record c { own = own_at_empty_place c })) (option_map blank_cell o) (without_bytes F)) (option_map_or (λ c. with_cell F p q (record c { own = own_at_empty_place c })) o F)
    by_cell F None = twice F
    by_cell F (Some c) = cell-put (without_bytes F) F p q (record (blank_cell c) { own = own_at_empty_place c }) (record c { own = own_at_empty_place c }) (twice F) refl

pub own-respects : (p q : ℕ) (bytes : Page) → RespectsShape (λ F. with_own_page F p q bytes)
own-respects p q bytes = respects-by (λ F. with_own_page F p q bytes) (λ F.
    ap (λ (o : Option Cell). without_bytes (option_map_or (λ c. with_cell (without_bytes F) p q (record c { own = Some bytes })) o (without_bytes F))) (cell-blank F p q) ∙ by_cell F (cell_at F p q))
  where
    by_cell : (F : Flat) (o : Option Cell) → SameShape (option_map_or (λ c. with_cell (without_bytes F) p q (record c { own = Some bytes })) (option_map blank_cell o) (without_bytes F)) (option_map_or (λ c. with_cell F p q (record c { own = Some bytes })) o F)
    by_cell F None = twice F
    by_cell F (Some c) = cell-put (without_bytes F) F p q (record (blank_cell c) { own = Some bytes }) (record c { own = Some bytes }) (twice F) refl

-- whatever bytes the page has
pub own-alike : (F : Flat) (p q : ℕ) (x y : Page) → SameShape (with_own_page F p q x) (with_own_page F p q y)
own-alike F p q x y = by_cell (cell_at F p q)
  where
    by_cell : (o : Option Cell) → SameShape (option_map_or (λ c. with_cell F p q (record c { own = Some x })) o F) (option_map_or (λ c. with_cell F p q (record c { own = Some y })) o F)
    by_cell None = refl
    by_cell (Some c) = cell-put F F p q (record c { own = Some x }) (record c { own = Some y }) refl refl

pub cleared-respects : (f : Flat → Flat) (lost : ℕ → Bool) → RespectsShape f → RespectsShape (λ F. tails_cleared (f F) lost)
cleared-respects f lost respects F G same = tails-same (f F) lost ∙ respects F G same ∙ sym (tails-same (f G) lost)
