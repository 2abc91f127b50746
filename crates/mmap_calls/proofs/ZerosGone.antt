-- What zero objects reserve in flat memory, and which of their pages go with a range.
use Rattle.std.proofs.Common.{◌≡◌, ◌≢◌, ◌⊎◌, ℕ, zero, suc, ◌+◌, ◌<◌, ◌≤◌, Bool, true, false, cond, not, List, [], length, Option, Some, None, refl, sym, ap, ◌∙◌, inl, inr, arith}
use Rattle.std.specs.Prelude.{option_map, is_some, nat_lt, ◌==◌, unwrap_or, slice_index_or}
use Rattle.std.specs.Ordering.{nat_cmp}
use Rattle.std.specs.Cmp.{nat_cmp_total}
use Rattle.std.specs.FinMap as finite
use Rattle.std.specs.FinSet as set
use Rattle.std.proofs.lemmas.Bool.{cases_eq, cases_lt, eq-eqb, ne_eqb, lt-ltb, le-ltb}
use Rattle.std.proofs.lemmas.List.{get_or_past}
use Rattle.seg_vn.specs.addr_space.Space.{Part}
use Rattle.seg_vn.specs.anon_map.Maps.{Map, holders_of, places_of}
use Rattle.seg_vn.specs.page_store.Notes.{Notes}
use Rattle.seg_vn.specs.vm_types.declared.call.Object.{Object}
use Rattle.seg_vn.specs.vm_types.declared.call.Object.TheVariants as object
use Rattle.seg_vn.specs.flat_model.Access.{with_space}
use Rattle.seg_vn.specs.flat_model.Flat.{Cell, Flat, cell_at, zero_of, is_named, without_unnamed}
use Rattle.seg_vn.specs.flat_model.Mapping.{cells_of, without_pages}
use Rattle.seg_vn.specs.flat_model.NamedLaws.{IsNamed}
use Rattle.seg_vn.specs.flat_model.ReserveLaws.{zero_pages_gone, zero_pages_back}
use Rattle.seg_vn.specs.flat_model.Space.{is_in_range, without_range}
use Rattle.seg_vn.specs.flat_model.Words.{Page, zero_page}
use Rattle.seg_vn.proofs.flat_model.Mappings.{get-cells_of}
use Rattle.seg_vn.proofs.flat_model.Named.{named_zeros-from_cell, named_zeros-to_cell}
use Rattle.seg_vn.proofs.flat_model.Ranges.{get-remove_here, get-remove_apart, get-retain_keys, get-without_range, insert_same}
use Rattle.seg_vn.proofs.flat_model.Reserve.{cell_at-here, cell_at-other}
use Rattle.seg_vn.proofs.flat_model.Sums.{total, total-remove, sum_to}
use Rattle.seg_vn.specs.vm_world.FlatMemory.{Memory, flat_memory, cell_of, zero_maps, zero_pages}
use Rattle.seg_vn.specs.vm_world.Pages.{contents_of}
use Rattle.seg_vn.specs.vm_world.Segments.{Spot, spot_at, zero_map}
use Rattle.seg_vn.specs.vm_world.declared.segment.Segment.{Segment}
use Rattle.seg_vn.proofs.vm_world.FilePages.{length-pages_from}
use Rattle.seg_vn.proofs.vm_world.Maps.{get-map_with, cell-at}
use Rattle.seg_vn.proofs.vm_world.Reserves.{total-empty, zero-object}
use Rattle.seg_vn.proofs.vm_world.SegmentCells.{segment_cells}
use Rattle.seg_vn.proofs.vm_world.ShownZeros.{IsShown, fits-shown, zero_map-of, zero-of-object}
use Rattle.seg_vn.proofs.seg_ops.SlotOwners.{object-fits}
use Rattle.seg_vn.specs.Clears.{SpaceFits}
use Rattle.mmap_calls.specs.GivenUp.{is_zero_object, pages_given, given_up}
use Rattle.mmap_calls.specs.RangeCounts.{shown_within}
use Rattle.mmap_calls.proofs.Holders.{IsShownOutside, outside-more, outside-none, zero-has-map}

-- SUMS OVER NUMBERS
pub sum_to-alike : (f g : ℕ → ℕ) (n : ℕ) → ((z : ℕ) → z < n → f z ≡ g z) → sum_to f n ≡ sum_to g n
sum_to-alike f g zero same = refl
sum_to-alike f g (suc n) same = let more = sum_to-alike f g n (λ z lt. same z (omega (arith, lt))) in let here = same n (omega arith) in omega (arith, more, here)

pub sum_to-within : (f g : ℕ → ℕ) (n : ℕ) → ((z : ℕ) → z < n → f z ≤ g z) → sum_to f n ≤ sum_to g n
sum_to-within f g zero le = omega arith
sum_to-within f g (suc n) le = let more = sum_to-within f g n (λ z lt. le z (omega (arith, lt))) in let here = le n (omega arith) in omega (arith, more, here)

pub sum_to-both : (f g : ℕ → ℕ) (n : ℕ) → sum_to (λ z. f z + g z) n ≡ sum_to f n + sum_to g n
sum_to-both f g zero = refl
sum_to-both f g (suc n) = let more = sum_to-both f g n in omega (arith, more)

-- the sum without one number's share
abbrev but_one : (ℕ → ℕ) → ℕ → ℕ → ℕ
but_one g y z = cond (y == z) 0 (g z)

sum_to-but : (g : ℕ → ℕ) (y n : ℕ) → sum_to g n ≡ sum_to (but_one g y) n + cond (nat_lt y n) (g y) 0
sum_to-but g y zero = let none = ap (λ (b : Bool). cond b (g y) 0) (le-ltb y 0 (omega arith)) in omega (arith, none)
sum_to-but g y (suc n) =
    let more = sum_to-but g y n in
    elim (cases_eq y n) [
      | inl same ↦
          let gone = ap (λ (b : Bool). cond b 0 (g n)) (eq-eqb y n same) in
          let new = ap (λ (b : Bool). cond b (g y) 0) (lt-ltb y (suc n) (omega (arith, same))) in
          let old = ap (λ (b : Bool). cond b (g y) 0) (le-ltb y n (omega (arith, same))) in
          let value = ap g same in
          omega (arith, more, gone, new, old, value)
      | inr apart ↦
          let here = ap (λ (b : Bool). cond b 0 (g n)) (ne_eqb y n apart) in
          let last : cond (nat_lt y (suc n)) (g y) 0 ≡ cond (nat_lt y n) (g y) 0 = ap (λ (b : Bool). cond b (g y) 0) (below (cases_lt y n) apart) in
          omega (arith, more, here, last)
    ]
  where
    below : (y < n) ⊎ (n ≤ y) → y ≢ n → nat_lt y (suc n) ≡ nat_lt y n
    below (inl lt) ne = lt-ltb y (suc n) (omega (arith, lt)) ∙ sym (lt-ltb y n lt)
    below (inr ge) ne = le-ltb y (suc n) (omega (arith, ge, ne)) ∙ sym (le-ltb y n ge)

-- the sum over a map's values, by its keys
abbrev pub at_key : {X : Type 0} → (X → ℕ) → Option X → ℕ
at_key f None = 0
at_key f (Some x) = f x

pub total-below : {X : Type 0} (f : X → ℕ) (m : finite.FinMap nat_cmp X) (n : ℕ) → ((z : ℕ) → n ≤ z → finite.get m z ≡ None) → total f m ≡ sum_to (λ z. at_key f (finite.get m z)) n
total-below {X} f m zero none = ap (total f) (finite.same_map nat_cmp_total finite.nat_cmp-IsAntisymmetric m finite.empty (λ q. none q (omega arith) ∙ sym (finite.get-empty nat_cmp q))) ∙ total-empty f
total-below {X} f m (suc n) none = by_key (λ m none. total-below f m n none) (finite.get m n) refl
  where
    by_key : ((m : finite.FinMap nat_cmp X) → ((z : ℕ) → n ≤ z → finite.get m z ≡ None) → total f m ≡ sum_to (λ z. at_key f (finite.get m z)) n) → (o : Option X) → finite.get m n ≡ o → total f m ≡ sum_to (λ z. at_key f (finite.get m z)) (suc n)
    by_key below None e =
        let more = below m (λ z le. elim (cases_eq z n) [ inl same ↦ ap (finite.get m) same ∙ e | inr apart ↦ none z (omega (arith, le, apart)) ]) in
        let here = ap (at_key f) e in
        omega (arith, more, here)
    by_key below (Some x) e =
        let out = total-remove f m n x (insert_same m n x e) in
        let more = below (finite.remove m n) (λ z le. elim (cases_eq z n) [ inl same ↦ ap (finite.get (finite.remove m n)) same ∙ get-remove_here m n | inr apart ↦ get-remove_apart m n z apart ∙ none z (omega (arith, le, apart)) ]) in
        let same = sum_to-alike (λ z. at_key f (finite.get (finite.remove m n) z)) (λ z. at_key f (finite.get m z)) n (λ z lt. ap (at_key f) (get-remove_apart m n z (λ e. omega (arith, lt, e)))) in
        let here = ap (at_key f) e in
        omega (arith, out, more, same, here)

none-kept : {X : Type 0} (a b : Bool) → cond {A = Option X} a (cond b None None) None ≡ None
none-kept true true = refl
none-kept true false = refl
none-kept false b = refl

pub no-share : (b : Bool) → cond {A = ℕ} b 0 0 ≡ 0
no-share true = refl
no-share false = refl

module _ (m : Memory) (born : set.FinSet nat_cmp) (notes : Notes) (p : ℕ) (parts : List (Part Segment)) (zeros : List (Option ℕ)) (fits : SpaceFits m.world zeros m.spaces p parts) (first n : ℕ) where
  abbrev F : Flat
  F = flat_memory m born notes

  abbrev place : ℕ → ℕ → Option Page
  place = (contents_of m.world notes).place

  -- the range is out, and zero objects that nothing names are
  abbrev W : Flat
  W = with_space F p (without_range (cells_of F p) first n)

  abbrev U : Flat
  U = without_pages F p first n

  pub listed : (z number : ℕ) → slice_index_or zeros z None ≡ Some number → finite.get (zero_maps m.spaces) z ≡ Some number
  listed z number is = fits.known z ∙ is

  -- WHICH ZERO OBJECTS ARE NAMED then: those that pages outside show
  outside-range : (b : Bool) (o : Option Cell) (c : Cell) → cond b None o ≡ Some c → (b ≡ false) × (o ≡ Some c)
  outside-range true o c is = absurd (let k : None ≡ Some c = is in cc)
  outside-range false o c is = (refl, is)

  spot-shows : (z number r q : ℕ) (c : Cell) → slice_index_or zeros z None ≡ Some number → cell_at F r q ≡ Some c → zero_of c ≡ Some z → (r ≡ p → is_in_range first n q ≡ false) → IsShownOutside m.spaces p first n z number
  spot-shows z number r q c is at names outside = by_spot (spot_at m.spaces r q) refl (sym (cell-at place m.spaces r q) ∙ at)
    where
      by_spot : (o : Option Spot) → spot_at m.spaces r q ≡ o → option_map (cell_of place) o ≡ Some c → IsShownOutside m.spaces p first n z number
      by_spot None e found = absurd (let k : None ≡ Some c = found in cc)
      by_spot (Some x) e found =
          let same : cell_of place x ≡ c = let k : Some (cell_of place x) ≡ Some c = found in cc in
          let o : x.0.object ≡ object.Zero z = zero-of-object x.0.object z (ap zero_of same ∙ names) in
          let k = zero-has-map m.world.maps (length m.world.files.files) x.0 x.0.object z o (object-fits m r q x fits.memory e) in
          let shows : zero_map x.0 ≡ Some (z, k.0) = zero_map-of x.0 z k.0 o k.1 in
          let s : IsShown m.spaces z k.0 = record { process = r; page = q; spot = x; here = e; shows = shows } in
          let there = fits-shown (length m.world.files.files) m.world.anon m.world.maps m.spaces fits.memory.segments z k.0 s in
          let number_is : k.0 ≡ number = let d : Some k.0 ≡ Some number = sym there ∙ listed z number is in cc in
          record { process = r; page = q; spot = x; here = e; shows = shows ∙ ap (λ (j : ℕ). Some (z, j)) number_is; outside = outside }

  pub named-outside : (z number : ℕ) → slice_index_or zeros z None ≡ Some number → is_named U z ≡ true → IsShownOutside m.spaces p first n z number
  named-outside z number is named =
      let c : IsNamed W z = named_zeros-to_cell W z named in
      elim (cases_eq c.process p) [
        | inl same ↦
            let at = sym (cell_at-here F p c.page (without_range (cells_of F p) first n)) ∙ ap (λ (r : ℕ). cell_at W r c.page) (sym same) ∙ c.stands in
            let out = outside-range (is_in_range first n c.page) (finite.get (cells_of F p) c.page) c.cell (sym (get-without_range (cells_of F p) first n c.page) ∙ at) in
            spot-shows z number p c.page c.cell is (get-cells_of F p c.page ∙ out.1) c.names (λ _. out.0)
        | inr apart ↦ spot-shows z number c.process c.page c.cell is (sym (cell_at-other F p c.process c.page (without_range (cells_of F p) first n) apart) ∙ c.stands) c.names (λ same. absurd (apart same))
      ]

  pub outside-named : (z number : ℕ) → IsShownOutside m.spaces p first n z number → is_named U z ≡ true
  outside-named z number s =
      let there : cell_at F s.process s.page ≡ Some (cell_of place s.spot) = cell-at place m.spaces s.process s.page ∙ ap (option_map (cell_of place)) s.here in
      let names : zero_of (cell_of place s.spot) ≡ Some z = ap (λ (o : Object). elim o as (λ x. Option ℕ) [ object.Zero y ↦ Some y | object.File f ↦ None | object.NewZero ↦ None ]) (zero-object s.spot.0.object s.spot.0.shown z number s.shows) in
      named_zeros-from_cell W s.process s.page z (cell_of place s.spot) (stays (cases_eq s.process p) there) names
    where
      stays : (s.process ≡ p) ⊎ (s.process ≢ p) → cell_at F s.process s.page ≡ Some (cell_of place s.spot) → cell_at W s.process s.page ≡ Some (cell_of place s.spot)
      stays (inr apart) there = cell_at-other F p s.process s.page (without_range (cells_of F p) first n) apart ∙ there
      stays (inl same) there =
          ap (λ (r : ℕ). cell_at W r s.page) same ∙ cell_at-here F p s.page (without_range (cells_of F p) first n) ∙ get-without_range (cells_of F p) first n s.page
          ∙ ap (λ (b : Bool). cond b None (finite.get (cells_of F p) s.page)) (s.outside same) ∙ sym (get-cells_of F p s.page) ∙ ap (λ (r : ℕ). cell_at F r s.page) (sym same) ∙ there

  -- and these have holders beside the parts in the range
  pub count-tells : (z number : ℕ) → slice_index_or zeros z None ≡ Some number → (shown_within parts first (first + n) z == holders_of m.world.maps number) ≡ not (is_named U z)
  count-tells z number is = by_name (is_named U z) refl
    where
      by_name : (b : Bool) → is_named U z ≡ b → (shown_within parts first (first + n) z == holders_of m.world.maps number) ≡ not b
      by_name true e =
          let less = outside-more m fits.memory p parts fits.here first n z number (listed z number is) (named-outside z number is e) in
          ne_eqb (shown_within parts first (first + n) z) (holders_of m.world.maps number) (λ same. omega (arith, less, same))
      by_name false e =
          eq-eqb (shown_within parts first (first + n) z) (holders_of m.world.maps number)
          (outside-none m fits.memory p parts fits.here first n z number (listed z number is) (λ s. let k : true ≡ false = sym (outside-named z number s) ∙ e in cc))

  -- THE PAGES OF THE ZERO OBJECTS, by number
  abbrev pub pages_at : ℕ → ℕ
  pages_at z = at_key (λ (number : ℕ). length (places_of m.world.maps number)) (slice_index_or zeros z None)

  abbrev gone_at : ℕ → ℕ
  gone_at z = cond (is_named U z) 0 (pages_at z)

  zeros-at : (z : ℕ) → finite.get F.zeros z ≡ option_map (zero_pages place (λ number. length (places_of m.world.maps number))) (slice_index_or zeros z None)
  zeros-at z = get-map_with (zero_pages place (λ number. length (places_of m.world.maps number))) (zero_maps m.spaces) z ∙ ap (option_map (zero_pages place (λ number. length (places_of m.world.maps number)))) (fits.known z)

  pages-long : (number : ℕ) → length (zero_pages place (λ number. length (places_of m.world.maps number)) number) ≡ length (places_of m.world.maps number)
  pages-long number = length-pages_from (λ k. unwrap_or (place number k) zero_page) 0 (length (places_of m.world.maps number))

  gone-all : zero_pages_gone F U ≡ sum_to gone_at (length zeros)
  gone-all =
      let M = finite.retain_keys (without_unnamed F).zeros (λ z. not (is_named U z)) in
      total-below length M (length zeros) (λ z past. at z ∙ ap (λ (o : Option ℕ). kept z o) (get_or_past zeros z None past) ∙ none-kept (not (is_named U z)) (is_named F z))
      ∙ sum_to-alike (λ z. at_key length (finite.get M z)) gone_at (length zeros) (λ z lt. ap (at_key length) (at z) ∙ by_map z (slice_index_or zeros z None) refl)
    where
      kept : ℕ → Option ℕ → Option (List Page)
      kept z o = cond (not (is_named U z)) (cond (is_named F z) (option_map (zero_pages place (λ number. length (places_of m.world.maps number))) o) None) None

      at : (z : ℕ) → finite.get (finite.retain_keys (without_unnamed F).zeros (λ z. not (is_named U z))) z ≡ cond (not (is_named U z)) (cond (is_named F z) (option_map (zero_pages place (λ number. length (places_of m.world.maps number))) (slice_index_or zeros z None)) None) None
      at z = get-retain_keys (without_unnamed F).zeros (λ z. not (is_named U z)) z ∙ ap (λ (o : Option (List Page)). cond (not (is_named U z)) o None) (get-retain_keys F.zeros (is_named F) z ∙ ap (λ (o : Option (List Page)). cond (is_named F z) o None) (zeros-at z))

      by_map : (z : ℕ) (o : Option ℕ) → slice_index_or zeros z None ≡ o
          → at_key length (cond (not (is_named U z)) (cond (is_named F z) (option_map (zero_pages place (λ number. length (places_of m.world.maps number))) o) None) None) ≡ cond (is_named U z) 0 (at_key (λ (number : ℕ). length (places_of m.world.maps number)) o)
      by_map z None e = ap (at_key length) (none-kept {X = List Page} (not (is_named U z)) (is_named F z)) ∙ sym (no-share (is_named U z))
      by_map z (Some number) e =
          ap (λ (b : Bool). at_key length (cond (not (is_named U z)) (cond b (Some (zero_pages place (λ number. length (places_of m.world.maps number)) number)) None) None)) (segment_cells.named m born notes z fits.memory ∙ ap (λ (o : Option ℕ). is_some o) (listed z number e))
          ∙ either (is_named U z) ∙ ap (λ (k : ℕ). cond (is_named U z) 0 k) (pages-long number)
        where
          either : (b : Bool) → at_key length (cond (not b) (Some (zero_pages place (λ number. length (places_of m.world.maps number)) number)) None) ≡ cond b 0 (length (zero_pages place (λ number. length (places_of m.world.maps number)) number))
          either true = refl
          either false = refl

  -- what is given up, number by number
  given-at : (o : Object) (z : ℕ) → pages_given m.world.maps o z (shown_within parts first (first + n) z) (slice_index_or zeros z None) ≡ cond (is_zero_object z o) 0 (gone_at z)
  given-at o z = by_map (slice_index_or zeros z None) refl
    where
      by_map : (x : Option ℕ) → slice_index_or zeros z None ≡ x → pages_given m.world.maps o z (shown_within parts first (first + n) z) x ≡ cond (is_zero_object z o) 0 (cond (is_named U z) 0 (at_key (λ (number : ℕ). length (places_of m.world.maps number)) x))
      by_map None e = sym (ap (λ (k : ℕ). cond (is_zero_object z o) 0 k) (no-share (is_named U z)) ∙ no-share (is_zero_object z o))
      by_map (Some number) e = ap (λ (b : Bool). cond (is_zero_object z o) 0 (cond b (length (places_of m.world.maps number)) 0)) (count-tells z number e) ∙ ap (λ (k : ℕ). cond (is_zero_object z o) 0 k) (either (is_named U z))
        where
          either : (b : Bool) → cond (not b) (length (places_of m.world.maps number)) 0 ≡ cond b 0 (length (places_of m.world.maps number))
          either true = refl
          either false = refl

  given-sum : (o : Object) (k : ℕ) → given_up m.world.maps zeros parts first (first + n) o k ≡ sum_to (λ z. cond (is_zero_object z o) 0 (gone_at z)) k
  given-sum o zero = refl
  given-sum o (suc k) = let more = given-sum o k in let here = given-at o k in omega (arith, more, here)

  -- WHAT GOES, but for what comes back, is what is given up
  pub gone-given : (o : Object) → ((z : ℕ) → o ≡ object.Zero z → is_some (slice_index_or zeros z None) ≡ true) → zero_pages_gone F U ≡ given_up m.world.maps zeros parts first (first + n) o (length zeros) + zero_pages_back F U o
  gone-given (object.File f) there = let all = gone-all in let sum = given-sum (object.File f) (length zeros) in omega (arith, all, sum)
  gone-given object.NewZero there = let all = gone-all in let sum = given-sum object.NewZero (length zeros) in omega (arith, all, sum)
  gone-given (object.Zero y) there = by_map (slice_index_or zeros y None) refl (there y refl)
    where
      by_map : (o : Option ℕ) → slice_index_or zeros y None ≡ o → is_some o ≡ true → zero_pages_gone F U ≡ given_up m.world.maps zeros parts first (first + n) (object.Zero y) (length zeros) + zero_pages_back F U (object.Zero y)
      by_map None e some = absurd (let k : false ≡ true = some in cc)
      by_map (Some number) e some =
          let all = gone-all in
          let sum = given-sum (object.Zero y) (length zeros) in
          let but = sum_to-but gone_at y (length zeros) in
          let within : y < length zeros = elim (cases_lt y (length zeros)) [ inl lt ↦ lt | inr past ↦ absurd (let k : None ≡ Some number = sym (get_or_past zeros y None past) ∙ e in cc) ] in
          let here = ap (λ (b : Bool). cond b (gone_at y) 0) (lt-ltb y (length zeros) within) in
          let back : zero_pages_back F U (object.Zero y) ≡ gone_at y =
          ap (λ (o : Option (List Page)). cond (is_named U y) 0 (length (unwrap_or o []))) (zeros-at y ∙ ap (option_map (zero_pages place (λ number. length (places_of m.world.maps number)))) e)
          ∙ ap (λ (k : ℕ). cond (is_named U y) 0 k) (pages-long number ∙ sym (ap (at_key (λ (number : ℕ). length (places_of m.world.maps number))) e)) in
          omega (arith, all, sum, but, here, back)

-- one number more, and more numbers give up no less
pub given-next : (maps : List (Option Map)) (zeros : List (Option ℕ)) (parts : List (Part Segment)) (first end : ℕ) (o : Object) (k : ℕ)
    → given_up maps zeros parts first end o (k + 1) ≡ given_up maps zeros parts first end o k + pages_given maps o k (shown_within parts first end k) (slice_index_or zeros k None)
given-next maps zeros parts first end o k = let e : k + 1 ≡ suc k = omega arith in ap (given_up maps zeros parts first end o) e

pub given-more : (maps : List (Option Map)) (zeros : List (Option ℕ)) (parts : List (Part Segment)) (first end : ℕ) (o : Object) (k n : ℕ) → k ≤ n → given_up maps zeros parts first end o k ≤ given_up maps zeros parts first end o n
given-more maps zeros parts first end o k zero le = let e : k ≡ 0 = omega arith in let same = ap (given_up maps zeros parts first end o) e in omega (arith, same)
given-more maps zeros parts first end o k (suc n) le = elim (cases_lt n k) [
  | inl lt ↦ let e : k ≡ suc n = omega arith in let same = ap (given_up maps zeros parts first end o) e in omega (arith, same)
  | inr ge ↦ let more = given-more maps zeros parts first end o k n ge in omega (arith, more)
]
