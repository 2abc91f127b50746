-- What flat memory reserves: what the segments reserve, whatever the pages hold.
use Rattle.std.proofs.Common.{◌≡◌, ℕ, zero, suc, ◌+◌, ◌<◌, ◌≤◌, Bool, true, false, cond, List, [], ◌∷◌, ◌++◌, length, map, Option, Some, None, refl, sym, ap, ◌∙◌, ◌⊎◌, inl, inr, arith}
use Rattle.std.specs.Prelude.{sum_by, flat_map, filter_map, option_map, option_and_then, unwrap_or, is_some, ◌||◌, ◌-◌}
use Rattle.std.specs.List.{list_any, cons_option}
use Rattle.std.specs.Ordering.{nat_cmp, is_eq}
use Rattle.std.specs.Cmp.{nat_cmp_total, unsigned_tied}
use Rattle.std.specs.FinMap as finite
use Rattle.std.specs.FinSet as set
use Rattle.std.proofs.lemmas.Bool.Decides.{eqb_tells}
use Rattle.std.proofs.lemmas.List.Sums.{sum_by-cons}
use Rattle.flat_model.specs.vm_types.declared.call.Kind.{Kind}
use Rattle.flat_model.specs.vm_types.declared.call.Kind.TheVariants.{Shared, Private}
use Rattle.flat_model.specs.vm_types.declared.call.Object.{Object}
use Rattle.flat_model.specs.vm_types.declared.call.Object.TheVariants as object
use Rattle.addr_space.specs.Space.{Part, IsInOrder, piece_at, part_at}
use Rattle.addr_space.specs.Pages.{with_pages, pages_of_parts}
use Rattle.addr_space.proofs.PageLaws.{get-with_pages, get-pages_of_parts}
use Rattle.addr_space.proofs.PartLemmas.{has-in, has-past, none-below}
use Rattle.anon_map.specs.Maps.{places_of}
use Rattle.page_store.specs.Notes.{Notes}
use Rattle.flat_model.specs.Words.{Page, zero_page}
use Rattle.flat_model.specs.Flat.{Flat, cell_at, is_named, slots_for, private_cells, without_unnamed, reserved}
use Rattle.flat_model.proofs.Entries.{Above, Above-entries, find_below, value_of_any}
use Rattle.flat_model.proofs.Named.{named_zeros-from_cell}
use Rattle.flat_model.proofs.Ranges.{get-retain_keys}
use Rattle.flat_model.proofs.Sums.{total, total-insert}
use Rattle.vm_world.specs.Pages.{Contents, contents_of}
use Rattle.vm_world.specs.Segments.{Segment, Spot, Spaces, spot_at, zero_map}
use Rattle.vm_world.specs.FlatMemory.{Memory, flat_shaped, flat_memory, shape_of, map_with, cell_of, space_with, zero_maps, zero_pages}
use Rattle.vm_world.specs.CountsFit.{reserved_pages, slots_for_part}
use Rattle.vm_world.specs.MemoryFits.{MemoryFits}
use Rattle.vm_world.specs.Laws.{ReservedLaw}
use Rattle.vm_world.proofs.FilePages.{length-pages_from}
use Rattle.vm_world.proofs.FlatWhole.{some-inj}
use Rattle.vm_world.proofs.Maps.{map_with-same, get-map_with, cell-at, above-changed}
use Rattle.vm_world.proofs.Spaces.{entries-empty}

-- SUMS over the values of finite maps
sum-mapped : {X Y : Type 0} (f : Y → ℕ) (g : X → Y) (es : List (ℕ × X)) → sum_by f (map (λ (e : ℕ × Y). e.1) (map (λ (e : ℕ × X). (e.0, g e.1)) es)) ≡ sum_by (λ x. f (g x)) (map (λ (e : ℕ × X). e.1) es)
sum-mapped f g [] = refl
sum-mapped {X} {Y} f g (e ∷ es) =
    sum_by-cons f (g e.1) (map (λ (e : ℕ × Y). e.1) (map (λ (e : ℕ × X). (e.0, g e.1)) es)) ∙ ap (λ (n : ℕ). f (g e.1) + n) (sum-mapped f g es)
    ∙ sym (sum_by-cons (λ x. f (g x)) e.1 (map (λ (e : ℕ × X). e.1) es))

pub total-empty : {X : Type 0} (f : X → ℕ) → total f (finite.empty {R = nat_cmp}) ≡ 0
total-empty {X} f = ap (λ (es : List (ℕ × X)). sum_by f (map (λ (e : ℕ × X). e.1) es)) entries-empty

total-above : {X : Type 0} (f : X → ℕ) (a : ℕ) (es : List (ℕ × X)) → Above a es → total f (finite.from_entries {R = nat_cmp} es) ≡ sum_by f (map (λ (e : ℕ × X). e.1) es)
total-above f a [] above = total-empty f
total-above {X} f a (e ∷ es) above =
    let low : e.0 < e.0 + 1 = omega arith in
    total-insert f (finite.from_entries es) e.0 e.1 (finite.get-from_entries nat_cmp_total es e.0 ∙ find_below e.0 (e.0 + 1) es low above.1)
    ∙ ap (λ (n : ℕ). f e.1 + n) (total-above f (e.0 + 1) es above.1) ∙ sym (sum_by-cons f e.1 (map (λ (e : ℕ × X). e.1) es))

pub total-map_with : {X Y : Type 0} (f : Y → ℕ) (g : X → Y) (m : finite.FinMap nat_cmp X) → total f (map_with g m) ≡ total (λ x. f (g x)) m
total-map_with {X} f g m = total-above f 0 (map (λ (e : ℕ × X). (e.0, g e.1)) (finite.entries m)) (above-changed g 0 (finite.entries m) (Above-entries m)) ∙ sum-mapped f g (finite.entries m)

-- functions that agree on the values there are
pub total-same : {X : Type 0} (f g : X → ℕ) (m : finite.FinMap nat_cmp X) → ((q : ℕ) (x : X) → finite.get m q ≡ Some x → g x ≡ f x) → total g m ≡ total f m
total-same f g m same = sym (total-map_with (λ (n : ℕ). n) g m) ∙ ap (total (λ (n : ℕ). n)) (map_with-same f g m same) ∙ total-map_with (λ (n : ℕ). n) f m

-- a map of whose keys each passes is kept whole
pub retain-all : {X : Type 0} (m : finite.FinMap nat_cmp X) (t : ℕ → Bool) → ((q : ℕ) (x : X) → finite.get m q ≡ Some x → t q ≡ true) → finite.retain_keys m t ≡ m
retain-all m t pass = finite.same_map nat_cmp_total finite.nat_cmp-IsAntisymmetric (finite.retain_keys m t) m (λ q. get-retain_keys m t q ∙ kept (t q) (finite.get m q) (pass q))
  where
    kept : {X : Type 0} (b : Bool) (o : Option X) → ((x : X) → o ≡ Some x → b ≡ true) → cond b o None ≡ o
    kept true o pass = refl
    kept false None pass = refl
    kept false (Some x) pass = absurd (let z : false ≡ true = pass x refl in cc)

-- PRIVATE CELLS: those of a part's pages
kind-more : (k : Kind) (n : ℕ) → (elim k as (λ x. ℕ) [ Private ↦ 1 | Shared ↦ 0 ]) + (elim k as (λ x. ℕ) [ Private ↦ n | Shared ↦ 0 ]) ≡ elim k as (λ x. ℕ) [ Private ↦ suc n | Shared ↦ 0 ]
kind-more Private n = omega arith
kind-more Shared n = refl

kind-none : (k : Kind) → (elim k as (λ x. ℕ) [ Private ↦ zero | Shared ↦ 0 ]) ≡ 0
kind-none Private = refl
kind-none Shared = refl

module _ (held : ℕ → ℕ → Option Page) where
  abbrev spot_slots : Spot → ℕ
  spot_slots x = slots_for (cell_of held x)

  total-pages : (m : finite.FinMap nat_cmp Spot) (p : Part Segment) (n : ℕ) → ((q : ℕ) → p.first ≤ q → q < p.first + n → finite.get m q ≡ None)
      → total spot_slots (with_pages m p n) ≡ (elim p.piece.kind as (λ x. ℕ) [ Private ↦ n | Shared ↦ 0 ]) + total spot_slots m
  total-pages m p zero free = let z = kind-none p.piece.kind in omega (arith, z)
  total-pages m p (suc n) free =
      let new : finite.get (with_pages m p n) (p.first + n) ≡ None =
      get-with_pages m p n (p.first + n) ∙ ap (λ (b : Bool). cond b (Some (p.piece, p.first + n - p.first)) (finite.get m (p.first + n))) (has-past (record { first = p.first; pages = n; piece = p.piece }) (p.first + n) (omega arith))
      ∙ free (p.first + n) (omega arith) (omega arith) in
      let one = total-insert spot_slots (with_pages m p n) (p.first + n) (p.piece, n) new in
      let rest = total-pages m p n (λ q low high. free q low (omega (arith, high))) in
      let more = kind-more p.piece.kind n in
      omega (arith, one, rest, more)

  total-parts : (low : ℕ) (ps : List (Part Segment)) → IsInOrder low ps → total spot_slots (pages_of_parts ps) ≡ sum_by slots_for_part ps
  total-parts low [] order = total-empty spot_slots
  total-parts low (p ∷ ps) order =
      total-pages (pages_of_parts ps) p p.pages (λ q from below. get-pages_of_parts ps q ∙ ap (option_map (λ (r : Part Segment). (r.piece, q - r.first))) (none-below (p.first + p.pages) ps q order.1 below))
      ∙ ap (λ (n : ℕ). slots_for_part p + n) (total-parts (p.first + p.pages) ps order.1) ∙ sym (sum_by-cons slots_for_part p ps)

  pub private-parts : (ps : List (Part Segment)) → IsInOrder 1 ps → private_cells (space_with held ps) ≡ sum_by slots_for_part ps
  private-parts ps order = total-map_with slots_for (cell_of held) (pages_of_parts ps) ∙ total-parts 1 ps order

-- ZERO OBJECTS: each that a segment shows is named by the cell of its first page
abbrev pub zeros_of : List (Part Segment) → List (ℕ × ℕ)
zeros_of parts = filter_map (λ (p : Part Segment). zero_map p.piece) parts

pub found-either : (z n : ℕ) (es fs : List (ℕ × ℕ)) → finite.find nat_cmp z (es ++ fs) ≡ Some n → (finite.find nat_cmp z es ≡ Some n) ⊎ (finite.find nat_cmp z fs ≡ Some n)
found-either z n [] fs is = inr is
found-either z n (e ∷ es) fs is = by_key (found-either z n es fs) (is_eq (nat_cmp z e.0)) is
  where
    by_key : (finite.find nat_cmp z (es ++ fs) ≡ Some n → (finite.find nat_cmp z es ≡ Some n) ⊎ (finite.find nat_cmp z fs ≡ Some n)) → (b : Bool) → cond b (Some e.1) (finite.find nat_cmp z (es ++ fs)) ≡ Some n → (cond b (Some e.1) (finite.find nat_cmp z es) ≡ Some n) ⊎ (finite.find nat_cmp z fs ≡ Some n)
    by_key rest true is = inl is
    by_key rest false is = rest is

abbrev shows_zero : ℕ → List (Part Segment) → Bool
shows_zero z parts = is_some (finite.find nat_cmp z (zeros_of parts))

some-space : (z n : ℕ) (vs : List (List (Part Segment))) → finite.find nat_cmp z (flat_map zeros_of vs) ≡ Some n → list_any (shows_zero z) vs ≡ true
some-space z n [] is = absurd (cc)
some-space z n (v ∷ vs) is = elim (found-either z n (zeros_of v) (flat_map zeros_of vs) is) [
  | inl here ↦ ap (λ (o : Option ℕ). is_some o || list_any (shows_zero z) vs) here
  | inr there ↦ or-right (shows_zero z v) (list_any (shows_zero z) vs) (some-space z n vs there)
]
  where
    or-right : (a b : Bool) → b ≡ true → (a || b) ≡ true
    or-right true b is = refl
    or-right false b is = is

-- A part that shows the zero object, at its first page.
record IsZeroPart (z low : ℕ) (parts : List (Part Segment)) : Type 0 where
  part : Part Segment
  behind : low ≤ part.first
  here : piece_at parts part.first ≡ Some (part.piece, 0)
  shows : part.piece.object ≡ object.Zero z

pub zero-object : (o : Object) (shown : Option ℕ) (y n : ℕ) → (elim o as (λ x. Option (ℕ × ℕ)) [ object.Zero x ↦ option_map (λ (number : ℕ). (x, number)) shown | object.File f ↦ None | object.NewZero ↦ None ]) ≡ Some (y, n) → o ≡ object.Zero y
zero-object (object.Zero x) (Some m) y n is = ap (λ (e : ℕ × ℕ). object.Zero e.0) (some-inj (x, m) (y, n) is)
zero-object (object.Zero x) None y n is = absurd (cc)
zero-object (object.File f) shown y n is = absurd (cc)
zero-object object.NewZero shown y n is = absurd (cc)

zero-part : (z low : ℕ) (ps : List (Part Segment)) → IsInOrder low ps → shows_zero z ps ≡ true → IsZeroPart z low ps
zero-part z low [] order is = absurd (let e : false ≡ true = is in cc)
zero-part z low (p ∷ ps) order is = by_map (λ later. zero-part z (p.first + p.pages) ps order.1 later) (zero_map p.piece) refl is
  where
    later : IsZeroPart z (p.first + p.pages) ps → IsZeroPart z low (p ∷ ps)
    later r =
        let behind = r.behind in
        let first = order.0.behind in
        record {
          part = r.part;
          behind = omega (arith, behind, first);
          here = ap (λ (b : Bool). option_map (λ (x : Part Segment). (x.piece, r.part.first - x.first)) (cond b (Some p) (part_at ps r.part.first))) (has-past p r.part.first behind) ∙ r.here;
          shows = r.shows;
        }

    first : (n : ℕ) → zero_map p.piece ≡ Some (z, n) → IsZeroPart z low (p ∷ ps)
    first n e =
        let some = order.0.some in
        let none : p.first - p.first ≡ 0 = omega arith in
        record {
          part = p;
          behind = order.0.behind;
          here = ap (λ (b : Bool). option_map (λ (x : Part Segment). (x.piece, p.first - x.first)) (cond b (Some p) (part_at ps p.first))) (has-in p p.first (omega arith) (omega (arith, some))) ∙ ap (λ (k : ℕ). Some (p.piece, k)) none;
          shows = zero-object p.piece.object p.piece.shown z n e;
        }

    by_map : (shows_zero z ps ≡ true → IsZeroPart z (p.first + p.pages) ps) → (o : Option (ℕ × ℕ)) → zero_map p.piece ≡ o → is_some (finite.find nat_cmp z (cons_option o (zeros_of ps))) ≡ true → IsZeroPart z low (p ∷ ps)
    by_map rest None e is = later (rest is)
    by_map rest (Some x) e is = elim (eqb_tells z x.0) [
      | inl y ↦ first x.1 (e ∙ ap (λ (k : ℕ). Some (k, x.1)) (sym y.1))
      | inr n ↦ later (rest (sym (ap (λ (b : Bool). is_some (cond b (Some x.1) (finite.find nat_cmp z (zeros_of ps)))) (unsigned_tied z x.0 ∙ n.0)) ∙ is))
    ]

-- The parts of each space lie in order.
abbrev pub AreOrdered : Spaces → Type 0
AreOrdered spaces = (p : ℕ) (parts : List (Part Segment)) → finite.get spaces p ≡ Some parts → IsInOrder 1 parts

module _ (m : Memory) (born : set.FinSet nat_cmp) (c : Contents) (ordered : AreOrdered m.spaces) where
  zero-named : (z n : ℕ) → finite.get (zero_maps m.spaces) z ≡ Some n → is_named (flat_shaped (shape_of m) born c) z ≡ true
  zero-named z n is =
      let entries = flat_map zeros_of (finite.values m.spaces) in
      let v = value_of_any (shows_zero z) m.spaces (some-space z n (finite.values m.spaces) (sym (finite.get-from_entries nat_cmp_total entries z) ∙ is)) in
      let r = zero-part z 1 v.1 (ordered v.0 v.1 v.2) v.3 in
      let spot : spot_at m.spaces v.0 r.part.first ≡ Some (r.part.piece, 0) = ap (option_and_then (λ (ps : List (Part Segment)). piece_at ps r.part.first)) v.2 ∙ r.here in
      let stands : cell_at (flat_shaped (shape_of m) born c) v.0 r.part.first ≡ Some (cell_of c.place (r.part.piece, 0)) = cell-at c.place m.spaces v.0 r.part.first ∙ ap (option_map (cell_of c.place)) spot in
      named_zeros-from_cell (flat_shaped (shape_of m) born c) v.0 r.part.first z (cell_of c.place (r.part.piece, 0)) stands
      (ap (λ (o : Object). elim o as (λ x. Option ℕ) [ object.Zero y ↦ Some y | object.File f ↦ None | object.NewZero ↦ None ]) r.shows)

  -- WHATEVER THE PAGES HOLD, the segments tell what is reserved.
  pub reserved-shaped : reserved (flat_shaped (shape_of m) born c) ≡ reserved_pages m.world.maps m.spaces
  reserved-shaped =
      let F : Flat = flat_shaped (shape_of m) born c in
      let cells : total private_cells F.spaces ≡ total (λ (parts : List (Part Segment)). sum_by slots_for_part parts) m.spaces =
      total-map_with private_cells (space_with c.place) m.spaces
      ∙ total-same (λ (parts : List (Part Segment)). sum_by slots_for_part parts) (λ (parts : List (Part Segment)). private_cells (space_with c.place parts)) m.spaces (λ p parts at. private-parts c.place parts (ordered p parts at)) in
      let kept : (without_unnamed F).zeros ≡ F.zeros = retain-all F.zeros (is_named F) (λ z pages at. shown z pages (finite.get (zero_maps m.spaces) z) refl (sym (get-map_with (zero_pages c.place (shape_of m).lengths) (zero_maps m.spaces) z) ∙ at)) in
      let lengths : (λ (number : ℕ). length (zero_pages c.place (shape_of m).lengths number)) ≡ (λ (number : ℕ). length (places_of m.world.maps number)) =
      λ i number. length-pages_from (λ place. unwrap_or (c.place number place) zero_page) 0 (length (places_of m.world.maps number)) i in
      let zeros : total length (without_unnamed F).zeros ≡ total (λ (number : ℕ). length (places_of m.world.maps number)) (zero_maps m.spaces) =
      ap (total length) kept ∙ total-map_with length (zero_pages c.place (shape_of m).lengths) (zero_maps m.spaces) ∙ ap (λ (f : ℕ → ℕ). total f (zero_maps m.spaces)) lengths in
      λ i. cells i + zeros i
    where
      shown : (z : ℕ) (pages : List Page) (o : Option ℕ) → finite.get (zero_maps m.spaces) z ≡ o → option_map (zero_pages c.place (shape_of m).lengths) o ≡ Some pages → is_named (flat_shaped (shape_of m) born c) z ≡ true
      shown z pages None e is = absurd (cc)
      shown z pages (Some n) e is = zero-named z n e

pub reserved-memory : (m : Memory) (born : set.FinSet nat_cmp) (notes : Notes) → MemoryFits m → reserved (flat_memory m born notes) ≡ m.world.anon.reserved
reserved-memory m born notes fit = reserved-shaped m born (contents_of m.world notes) fit.segments.ordered ∙ fit.segments.reserved

pub reserved_law : ReservedLaw
reserved_law = record {
  pages = reserved-shaped;
  slots = reserved-memory;
  room = λ m born notes fit. let same = reserved-memory m born notes fit in let few = fit.counts.sound.reserved in omega (arith, same, few);
}
