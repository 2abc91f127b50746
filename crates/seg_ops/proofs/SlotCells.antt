-- FLAT MEMORY WHERE ONE PLACE of an anon map holds another page.
use Rattle.std.proofs.Common.{◌≡◌, ◌≢◌, ℕ, List, Option, Some, None, refl, sym, ap, ◌∙◌, inl, inr, subst}
use Rattle.std.specs.Prelude.{option_map, option_and_then, unwrap_or}
use Rattle.std.specs.Option.{option_or}
use Rattle.std.specs.Ordering.{nat_cmp}
use Rattle.std.specs.Cmp.{nat_cmp_total}
use Rattle.std.specs.FinSet as set
use Rattle.std.specs.FinMap as finite
use Rattle.std.proofs.lemmas.Bool.{cases_eq}
use Rattle.vm_world.specs.addr_space.Space.{Part, piece_at}
use Rattle.vm_world.specs.flat_model.Access.{with_cell}
use Rattle.vm_world.specs.flat_model.Flat.{Cell, Space}
use Rattle.vm_world.specs.flat_model.Words.{Page, zero_page}
use Rattle.vm_world.proofs.flat_model.Ranges.{get-insert_here, get-insert_apart}
use Rattle.vm_world.specs.vm_types.declared.call.Object.{Object}
use Rattle.vm_world.specs.vm_types.declared.call.Object.TheVariants as object
use Rattle.vm_world.specs.declared.segment.Segment.{Segment}
use Rattle.vm_world.specs.FlatMemory.{Shape, own_without_slot, cell_of, space_with, map_with, pages_from, zero_maps, zero_pages, flat_shaped}
use Rattle.vm_world.specs.Segments.{Spot, Spaces, spot_at}
use Rattle.vm_world.proofs.Maps.{get-map_with, get-space_with, map_with-same, map_with-but_one, on_option as on-some}
use Rattle.seg_ops.specs.Slots.{OwnsAlone}

-- one place of a map holds a page or nothing, and each other place what it held
pub record PutsHeld (old new : ℕ → ℕ → Option Page) (m i : ℕ) (held : Option Page) : Type 0 where
  pub there : new m i ≡ held
  pub others : (a b : ℕ) → ((a ≡ m) × (b ≡ i) → ⊥) → new a b ≡ old a b

-- a cell elsewhere is as it was
own-else : (old new : ℕ → ℕ → Option Page) (m i : ℕ) (o : Option Page) (own : Option ℕ) (j : ℕ) (ob : Object) → PutsHeld old new m i o → (own ≡ Some m → j ≡ i → ⊥)
    → option_and_then (λ k. option_or (new k j) (own_without_slot ob)) own ≡ option_and_then (λ k. option_or (old k j) (own_without_slot ob)) own
own-else old new m i o None j ob puts apart = refl
own-else old new m i o (Some k) j ob puts apart = ap (λ (h : Option Page). option_or h (own_without_slot ob)) (puts.others k j (λ e. apart (ap (λ (a : ℕ). Some a) e.0) e.1))

pub cell-else : (old new : ℕ → ℕ → Option Page) (m i : ℕ) (o : Option Page) (y : Spot) → PutsHeld old new m i o → (y.0.own ≡ Some m → y.1 ≡ i → ⊥) → cell_of new y ≡ cell_of old y
cell-else old new m i o y puts apart = ap (λ (h : Option Page). record (cell_of old y) { own = h }) (own-else old new m i o y.0.own y.1 y.0.object puts apart)

-- the cell of the place itself
cell-here : (old new : ℕ → ℕ → Option Page) (m i : ℕ) (o : Option Page) (x : Spot) → PutsHeld old new m i o → x.0.own ≡ Some m → x.1 ≡ i → cell_of new x ≡ record (cell_of old x) { own = option_or o (own_without_slot x.0.object) }
cell-here old new m i o x puts own place = ap (λ (h : Option Page). record (cell_of old x) { own = h })
    (ap (λ (k : Option ℕ). option_and_then (λ k. option_or (new k x.1) (own_without_slot x.0.object)) k) own
    ∙ ap (λ (j : ℕ). option_or (new m j) (own_without_slot x.0.object)) place
    ∙ ap (λ (h : Option Page). option_or h (own_without_slot x.0.object)) puts.there)

pub pages-same : (old new : ℕ → Page) (k n : ℕ) → ((i : ℕ) → new i ≡ old i) → pages_from new k n ≡ pages_from old k n
pages-same old new k n same = let e : new ≡ old = λ j i. same i j in ap (λ (g : ℕ → Page). pages_from g k n) e

-- the zero objects, where their maps hold what they held
zeros-else : (old new : ℕ → ℕ → Option Page) (lengths : ℕ → ℕ) (spaces : Spaces) → ((z n k : ℕ) → finite.get (zero_maps spaces) z ≡ Some n → unwrap_or (new n k) zero_page ≡ unwrap_or (old n k) zero_page)
    → map_with (zero_pages new lengths) (zero_maps spaces) ≡ map_with (zero_pages old lengths) (zero_maps spaces)
zeros-else old new lengths spaces same = map_with-same (zero_pages old lengths) (zero_pages new lengths) (zero_maps spaces) (λ z n is. pages-same (λ k. unwrap_or (old n k) zero_page) (λ k. unwrap_or (new n k) zero_page) 0 (lengths n) (λ k. same z n k is))

-- the cells of a space whose pages are all elsewhere
pub cells-else : (old new : ℕ → ℕ → Option Page) (parts : List (Part Segment)) → ((q : ℕ) (y : Spot) → piece_at parts q ≡ Some y → cell_of new y ≡ cell_of old y) → space_with new parts ≡ space_with old parts
cells-else old new parts same = finite.same_map nat_cmp_total finite.nat_cmp-IsAntisymmetric _ _ (λ q. get-space_with new parts q ∙ on-some (cell_of old) (cell_of new) (piece_at parts q) (same q) ∙ sym (get-space_with old parts q))

-- the cells of a space of which one page is the place
cells-here : (old new : ℕ → ℕ → Option Page) (parts : List (Part Segment)) (q : ℕ) (x : Spot) (c : Cell) → piece_at parts q ≡ Some x → cell_of new x ≡ c → ((r : ℕ) (y : Spot) → piece_at parts r ≡ Some y → r ≢ q → cell_of new y ≡ cell_of old y)
    → space_with new parts ≡ finite.insert (space_with old parts) q c
cells-here old new parts q x c is cell same = finite.same_map nat_cmp_total finite.nat_cmp-IsAntisymmetric _ _ (λ r. elim (cases_eq r q) [
  | inl e ↦ subst (λ (j : ℕ). finite.get (space_with new parts) j ≡ finite.get (finite.insert (space_with old parts) q c) j) (sym e) (get-space_with new parts q ∙ ap (option_map (cell_of new)) is ∙ ap (λ (d : Cell). Some d) cell ∙ sym (get-insert_here (space_with old parts) q c))
  | inr ne ↦ get-space_with new parts r ∙ on-some (cell_of old) (cell_of new) (piece_at parts r) (λ y there. same r y there ne) ∙ sym (get-space_with old parts r) ∙ sym (get-insert_apart (space_with old parts) q c r ne)
])

pub spot-in : (spaces : Spaces) (p q : ℕ) (parts : List (Part Segment)) → finite.get spaces p ≡ Some parts → spot_at spaces p q ≡ piece_at parts q
spot-in spaces p q parts is = ap (option_and_then (λ (ps : List (Part Segment)). piece_at ps q)) is

-- WHAT A CELL'S OWN PLACE HOLDS: the cell has it as its own, and all else stays.
pub flat-owned : (s : Shape) (born : set.FinSet nat_cmp) (file : ℕ → ℕ → Page) (old new : ℕ → ℕ → Option Page) (p q m i : ℕ) (x : Spot) (o : Option Page) → PutsHeld old new m i o → OwnsAlone s.spaces p q m i x
    → flat_shaped s born (record { file = file; place = new }) ≡ with_cell (flat_shaped s born (record { file = file; place = old })) p q (record (cell_of old x) { own = option_or o (own_without_slot x.0.object) })
flat-owned s born file old new p q m i x o puts owns = by_space (finite.get s.spaces p) refl
  where
    by_space : (a : Option (List (Part Segment))) → finite.get s.spaces p ≡ a → flat_shaped s born (record { file = file; place = new }) ≡ with_cell (flat_shaped s born (record { file = file; place = old })) p q (record (cell_of old x) { own = option_or o (own_without_slot x.0.object) })
    by_space None is = absurd (let z : None ≡ Some x = sym (ap (option_and_then (λ (ps : List (Part Segment)). piece_at ps q)) is) ∙ owns.here in cc)
    by_space (Some parts) is =
        let c : Cell = record (cell_of old x) { own = option_or o (own_without_slot x.0.object) } in
        let here : piece_at parts q ≡ Some x = sym (spot-in s.spaces p q parts is) ∙ owns.here in
        let one : space_with new parts ≡ finite.insert (space_with old parts) q c =
        cells-here old new parts q x c here (cell-here old new m i o x puts owns.own owns.place) (λ r y there ne. cell-else old new m i o y puts (λ own place. ne (owns.alone p r y (spot-in s.spaces p r parts is ∙ there) own place).1)) in
        let spaces : map_with (space_with new) s.spaces ≡ finite.insert (map_with (space_with old) s.spaces) p (space_with new parts) =
        map_with-but_one (space_with old) (space_with new) s.spaces p parts is (λ r other there ne. cells-else old new other (λ k y is_y. cell-else old new m i o y puts (λ own place. ne (owns.alone r k y (spot-in s.spaces r k other there ∙ is_y) own place).0))) in
        let was : unwrap_or (finite.get (map_with (space_with old) s.spaces) p) finite.empty ≡ space_with old parts = ap (λ (o : Option Space). unwrap_or o finite.empty) (get-map_with (space_with old) s.spaces p ∙ ap (option_map (space_with old)) is) in
        let all = spaces ∙ ap (finite.insert (map_with (space_with old) s.spaces) p) (one ∙ ap (λ (b : Space). finite.insert b q c) (sym was)) in
        let zeros = zeros-else old new s.lengths s.spaces (λ z n k at_z. ap (λ (o : Option Page). unwrap_or o zero_page) (puts.others n k (λ e. owns.hidden z n at_z e.0))) in
        λ j. record (flat_shaped s born (record { file = file; place = old })) { spaces = all j; zeros = zeros j }

-- A PAGE OF ZEROS at an empty place: the cells whose own place it is have zeros already, and so do zero objects.
pub flat-zeros : (s : Shape) (born : set.FinSet nat_cmp) (file : ℕ → ℕ → Page) (old new : ℕ → ℕ → Option Page) (m i : ℕ) → PutsHeld old new m i (Some zero_page) → old m i ≡ None
    → ((p q : ℕ) (y : Spot) → spot_at s.spaces p q ≡ Some y → y.0.own ≡ Some m → y.1 ≡ i → y.0.object ≡ object.NewZero)
    → flat_shaped s born (record { file = file; place = new }) ≡ flat_shaped s born (record { file = file; place = old })
flat-zeros s born file old new m i puts empty new_zero =
    let cells : (p : ℕ) (parts : List (Part Segment)) → finite.get s.spaces p ≡ Some parts → space_with new parts ≡ space_with old parts =
    λ p parts is. cells-else old new parts (λ q y there. cell y (λ own place. new_zero p q y (spot-in s.spaces p q parts is ∙ there) own place)) in
    let spaces = map_with-same (space_with old) (space_with new) s.spaces cells in
    let zeros = zeros-else old new s.lengths s.spaces (λ z n k at_z. held n k) in
    λ j. record (flat_shaped s born (record { file = file; place = old })) { spaces = spaces j; zeros = zeros j }
  where
    held : (n k : ℕ) → unwrap_or (new n k) zero_page ≡ unwrap_or (old n k) zero_page
    held n k = elim (cases_eq n m) [
      | inr ne ↦ ap (λ (o : Option Page). unwrap_or o zero_page) (puts.others n k (λ e. ne e.0))
      | inl e ↦ elim (cases_eq k i) [
        | inr ne ↦ ap (λ (o : Option Page). unwrap_or o zero_page) (puts.others n k (λ d. ne d.1))
        | inl d ↦ ap (λ (o : Option Page). unwrap_or o zero_page) ((λ j. new (e j) (d j)) ∙ puts.there) ∙ sym (ap (λ (o : Option Page). unwrap_or o zero_page) ((λ j. old (e j) (d j)) ∙ empty))
      ]
    ]

    cell : (y : Spot) → (y.0.own ≡ Some m → y.1 ≡ i → y.0.object ≡ object.NewZero) → cell_of new y ≡ cell_of old y
    cell y is = ap (λ (o : Option Page). record (cell_of old y) { own = o }) (own y.0.own y.1 y.0.object is)
      where
        own : (o : Option ℕ) (j : ℕ) (ob : Object) → (o ≡ Some m → j ≡ i → ob ≡ object.NewZero) → option_and_then (λ k. option_or (new k j) (own_without_slot ob)) o ≡ option_and_then (λ k. option_or (old k j) (own_without_slot ob)) o
        own None j ob is = refl
        own (Some k) j ob is = elim (cases_eq k m) [
          | inr ne ↦ ap (λ (o : Option Page). option_or o (own_without_slot ob)) (puts.others k j (λ e. ne e.0))
          | inl e ↦ elim (cases_eq j i) [
            | inr ne ↦ ap (λ (o : Option Page). option_or o (own_without_slot ob)) (puts.others k j (λ d. ne d.1))
            | inl d ↦
                let without : own_without_slot ob ≡ Some zero_page = ap own_without_slot (is (ap (λ (a : ℕ). Some a) e) d) in
                ap (λ (o : Option Page). option_or o (own_without_slot ob)) ((λ a. new (e a) (d a)) ∙ puts.there) ∙ sym without ∙ sym (ap (λ (o : Option Page). option_or o (own_without_slot ob)) ((λ a. old (e a) (d a)) ∙ empty))
          ]
        ]
