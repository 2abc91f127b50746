-- The cells of a process, and which zero objects there are, told by the segments.
use Rattle.std.proofs.Common.{◌≡◌, ℕ, ◌<◌, true, false, length, Option, Some, None, refl, sym, ap, ◌∙◌, inl, inr, arith}
use Rattle.std.specs.Prelude.{option_map, is_some, IsSome}
use Rattle.std.specs.Ordering.{nat_cmp}
use Rattle.std.specs.FinMap as finite
use Rattle.std.specs.FinSet as set
use Rattle.std.proofs.lemmas.Bool.{cases_eq, cases_lt}
use Rattle.addr_space.specs.Pages.{pages_of_parts}
use Rattle.addr_space.proofs.Totals.{len-pages_of_parts}
use Rattle.anon_map.specs.Maps.{places_of}
use Rattle.page_store.specs.Notes.{Notes}
use Rattle.flat_model.specs.Flat.{Space, Flat, is_named}
use Rattle.flat_model.specs.Mapping.{new_number}
use Rattle.flat_model.proofs.Named.{new_number-new, new_number-least}
use Rattle.vm_world.specs.FlatMemory.{Memory, flat_memory, cell_of, zero_maps, zero_pages}
use Rattle.vm_world.specs.MemoryFits.{MemoryFits}
use Rattle.vm_world.specs.Pages.{contents_of}
use Rattle.vm_world.specs.SegmentSteps.{SegmentCells}
use Rattle.vm_world.proofs.Maps.{get-map_with, len-map_with}
use Rattle.vm_world.proofs.Reserves.{reserved-memory}
use Rattle.vm_world.proofs.ShownZeros.{named-is}
use Rattle.vm_world.proofs.SweptFlat.{cells-are}

is-named : (m : Memory) (born : set.FinSet nat_cmp) (notes : Notes) (z : ℕ) → MemoryFits m → is_named (flat_memory m born notes) z ≡ is_some (finite.get (zero_maps m.spaces) z)
is-named m born notes z fits = named-is m born (contents_of m.world notes) fits.segments z

pub some-mapped : {X Y : Type 0} (f : X → Y) (o : Option X) → is_some (option_map f o) ≡ is_some o
some-mapped f None = refl
some-mapped f (Some x) = refl

-- the number of a new zero object: the least that is none's
new-number : (m : Memory) (born : set.FinSet nat_cmp) (notes : Notes) (z : ℕ) → MemoryFits m → finite.get (zero_maps m.spaces) z ≡ None → ((y : ℕ) → y < z → IsSome (finite.get (zero_maps m.spaces) y)) → new_number (flat_memory m born notes) ≡ z
new-number m born notes z fits none least =
    let F : Flat = flat_memory m born notes in
    let free : is_named F (new_number F) ≡ false = new_number-new F in
    let here : is_named F z ≡ false = is-named m born notes z fits ∙ ap is_some none in
    elim (cases_lt (new_number F) z) [
      | inl lt ↦ absurd (let k : false ≡ true = sym free ∙ is-named m born notes (new_number F) fits ∙ least (new_number F) lt in cc)
      | inr le ↦ elim (cases_eq (new_number F) z) [
        | inl e ↦ e
        | inr ne ↦ absurd (let k : false ≡ true = sym here ∙ new_number-least F z (omega (arith, le, ne)) in cc)
      ]
    ]

pub segment_cells : SegmentCells
segment_cells = record {
  cells = λ m p parts born notes fits is. cells-are m p parts born notes is;
  count = λ m p parts born notes fits is. ap (λ (s : Space). finite.len s) (cells-are m p parts born notes is) ∙ len-map_with (cell_of (contents_of m.world notes).place) (pages_of_parts parts) ∙ len-pages_of_parts 1 parts (fits.segments.ordered p parts is);
  named = λ m born notes z fits. is-named m born notes z fits;
  there = λ m born notes z fits.
      ap is_some (get-map_with (zero_pages (contents_of m.world notes).place (λ number. length (places_of m.world.maps number))) (zero_maps m.spaces) z) ∙ some-mapped (zero_pages (contents_of m.world notes).place (λ number. length (places_of m.world.maps number))) (finite.get (zero_maps m.spaces) z);
  number = new-number;
  reserved = λ m born notes fits. reserved-memory m born notes fits;
}
