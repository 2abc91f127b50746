-- Where a Map isn't refused, there is room for its mapping once its range is cleared.
use Rattle.std.proofs.Common.{◌≡◌, ◌≢◌, ◌⊎◌, ℕ, zero, suc, ◌+◌, ◌-◌, ◌≤◌, Bool, true, false, cond, List, [], ◌∷◌, length, Option, Some, None, refl, sym, ap, ◌∙◌, inl, inr, arith}
use Rattle.std.specs.Prelude.{option_map, option_and_then, ◌==◌, slice_index_or, sum_by}
use Rattle.std.specs.Cmp.{nat_cmp_total}
use Rattle.std.specs.FinMap as finite
use Rattle.std.proofs.lemmas.Bool.{cases_eq, eq-eqb, leb-true, ne_eqb}
use Rattle.std.proofs.lemmas.List.{get_or_past}
use Rattle.seg_vn.specs.addr_space.Space.{Part, has, piece_at}
use Rattle.seg_vn.specs.anon_map.Maps.{IsMapThere, holders_of, places_of}
use Rattle.seg_vn.specs.vm_types.declared.call.Kind.{Kind}
use Rattle.seg_vn.specs.vm_types.declared.call.Kind.TheVariants.{Shared, Private}
use Rattle.seg_vn.specs.vm_types.declared.call.Object.{Object}
use Rattle.seg_vn.specs.vm_types.declared.call.Object.TheVariants as object
use Rattle.seg_vn.specs.flat_model.Flat.{slots_for}
use Rattle.seg_vn.specs.flat_model.Space.{is_in_range, without_range}
use Rattle.seg_vn.specs.flat_model.Words.{Page, page, pages_in}
use Rattle.seg_vn.proofs.flat_model.Ranges.{get-insert_here, get-insert_apart, get-without_range}
use Rattle.seg_vn.proofs.flat_model.Sums.{total, total-insert, sum_to}
use Rattle.seg_vn.specs.vm_world.CountsFit.{slots_for_part}
use Rattle.seg_vn.specs.vm_world.FlatMemory.{Memory, cell_of, map_with, space_with, zero_maps}
use Rattle.seg_vn.specs.vm_world.MemoryFits.{MemoryFits}
use Rattle.seg_vn.specs.vm_world.Segments.{Spot, Spaces, spot_at, zero_map}
use Rattle.seg_vn.specs.vm_world.World.{World}
use Rattle.seg_vn.specs.vm_world.declared.segment.Segment.{Segment}
use Rattle.seg_vn.proofs.vm_world.ComingParts.{zero-there}
use Rattle.seg_vn.proofs.vm_world.HeldObjects.{holding_part}
use Rattle.seg_vn.proofs.vm_world.Maps.{get-map_with, get-space_with}
use Rattle.seg_vn.proofs.vm_world.PartSums.{all_parts, sum-insert}
use Rattle.seg_vn.proofs.vm_world.Reserves.{private-parts, total-map_with}
use Rattle.seg_vn.proofs.vm_world.ShownZeros.{IsShown, fits-shown, shown-by}
use Rattle.seg_vn.specs.Clears.{SpaceFits}
use Rattle.seg_vn.proofs.ClearedSpaces.{cut-map}
use Rattle.mmap_calls.specs.declared.refusals.MapRequest.{MapRequest}
use Rattle.mmap_calls.specs.GivenUp.{is_zero_object, given_up, pages_given}
use Rattle.mmap_calls.specs.RangeCounts.{shown_within, slots_of_range}
use Rattle.mmap_calls.specs.Looks.{kind_and_object}
use Rattle.mmap_calls.specs.Refusals.{IsMapRefusal, slots_for_pages}
use Rattle.mmap_calls.proofs.Counted.{left-slots}
use Rattle.mmap_calls.proofs.Holders.{IsShownOutside, outside-more}
use Rattle.mmap_calls.proofs.MapResults.{passed}
use Rattle.mmap_calls.proofs.ZerosGone.{at_key, no-share, total-below, sum_to-both, sum_to-within}

abbrev pub Look : Type 0
Look = Kind × (Object × Option ℕ)

-- The spaces in which a range is cleared: those of memory, or with a holder of the zero object that is mapped.
pub record HoldsFor (m : Memory) (zeros : List (Option ℕ)) (o : Object) (p : ℕ) (parts : List (Part Segment)) (S : Spaces) : Type 0 where
  pub here : finite.get S p ≡ Some parts
  pub slots : all_parts slots_for_part S ≡ all_parts slots_for_part m.spaces
  pub others : (r q : ℕ) (x : Spot) (z number : ℕ) → r ≢ p → spot_at S r q ≡ Some x → zero_map x.0 ≡ Some (z, number)
      → (spot_at m.spaces r q ≡ Some x) ⊎ ((o ≡ object.Zero z) × (slice_index_or zeros z None ≡ Some number))

-- Memory once the range is cleared: no page of it has a cell, each other looks as it did, and the maps that are left are as long.
pub record IsCleared (m n : Memory) (zeros : List (Option ℕ)) (S : Spaces) (p : ℕ) (parts left : List (Part Segment)) (first pages : ℕ) : Type 0 where
  pub fits : MemoryFits n
  pub spaces : n.spaces ≡ finite.insert S p left
  pub looks : (q : ℕ) → option_map kind_and_object (piece_at left q) ≡ cond (is_in_range first pages q) None (option_map kind_and_object (piece_at parts q))
  pub lengths : (z number : ℕ) → slice_index_or zeros z None ≡ Some number → IsMapThere n.world.maps number → length (places_of n.world.maps number) ≡ length (places_of m.world.maps number)

-- memory itself, where nothing is held
pub holds-none : (m : Memory) (zeros : List (Option ℕ)) (o : Object) (p : ℕ) (parts : List (Part Segment)) → finite.get m.spaces p ≡ Some parts → HoldsFor m zeros o p parts m.spaces
holds-none m zeros o p parts here = record { here = here; slots = refl; others = λ r q x z number apart at shows. inl at }

-- memory with a holder
pub holds-object : (m : Memory) (zeros : List (Option ℕ)) (p g z number : ℕ) (parts : List (Part Segment)) → finite.get m.spaces p ≡ Some parts → finite.get m.spaces g ≡ None → slice_index_or zeros z None ≡ Some number
    → HoldsFor m zeros (object.Zero z) p parts (finite.insert m.spaces g (holding_part z number ∷ []))
holds-object m zeros p g z number parts here none listed = record {
  here = get-insert_apart m.spaces g (holding_part z number ∷ []) p apart ∙ here;
  slots = let more = total-insert (λ (ps : List (Part Segment)). sum_by slots_for_part ps) m.spaces g (holding_part z number ∷ []) none in let held : sum_by slots_for_part (holding_part z number ∷ []) ≡ 0 = refl in omega (arith, more, held);
  others = λ r q x y k ne at shows. elim (cases_eq r g) [
    | inl same ↦ inr (held q x y k (sym (ap (option_and_then (λ (ps : List (Part Segment)). piece_at ps q)) (ap (finite.get (finite.insert m.spaces g (holding_part z number ∷ []))) same ∙ get-insert_here m.spaces g (holding_part z number ∷ []))) ∙ at) shows)
    | inr other ↦ inl (sym (ap (option_and_then (λ (ps : List (Part Segment)). piece_at ps q)) (get-insert_apart m.spaces g (holding_part z number ∷ []) r other)) ∙ at)
  ];
}
  where
    apart : p ≢ g
    apart same = let k : Some parts ≡ None = sym here ∙ ap (finite.get m.spaces) same ∙ none in cc

    held : (q : ℕ) (x : Spot) (y k : ℕ) → piece_at (holding_part z number ∷ []) q ≡ Some x → zero_map x.0 ≡ Some (y, k) → (object.Zero z ≡ object.Zero y) × (slice_index_or zeros y None ≡ Some k)
    held q x y k at shows = by_has (has (holding_part z number) q) at
      where
        by_has : (b : Bool) → option_map {U = Spot} (λ (p : Part Segment). (p.piece, q - p.first)) (cond b (Some (holding_part z number)) None) ≡ Some x → (object.Zero z ≡ object.Zero y) × (slice_index_or zeros y None ≡ Some k)
        by_has false e = absurd (let d : None ≡ Some x = e in cc)
        by_has true e =
            let s : ((holding_part z number).piece, q - 1) ≡ x = let d : Some ((holding_part z number).piece, q - 1) ≡ Some x = e in cc in
            let both : Some (z, number) ≡ Some (y, k) = ap (λ (t : Spot). zero_map t.0) s ∙ shows in
            let pair : (z, number) ≡ (y, k) = cc in
            (ap (λ (t : ℕ × ℕ). object.Zero t.0) pair, ap (λ (j : ℕ). slice_index_or zeros j None) (sym (ap (λ (t : ℕ × ℕ). t.0) pair)) ∙ listed ∙ ap (λ (t : ℕ × ℕ). Some t.1) pair)

-- what a page reserves and shows, by its kind and object
abbrev slots_of : Look → ℕ
slots_of l = elim l.0 as (λ _. ℕ) [ Private ↦ 1 | Shared ↦ 0 ]

abbrev zero_seen : Look → Option (ℕ × ℕ)
zero_seen l = elim l.1.0 as (λ _. Option (ℕ × ℕ)) [ object.Zero z ↦ option_map (λ (number : ℕ). (z, number)) l.1.1 | object.File f ↦ None | object.NewZero ↦ None ]

looked-slots : (held : ℕ → ℕ → Option Page) (o : Option Spot) → option_map slots_for (option_map (cell_of held) o) ≡ option_map slots_of (option_map kind_and_object o)
looked-slots held None = refl
looked-slots held (Some x) = refl

module _ (m n : Memory) (zeros : List (Option ℕ)) (o : Object) (S : Spaces) (p : ℕ) (parts left : List (Part Segment)) (first pages : ℕ) (fits : SpaceFits m.world zeros m.spaces p parts) (holds : HoldsFor m zeros o p parts S) (cleared : IsCleared m n zeros S p parts left first pages) where
  left-here : finite.get n.spaces p ≡ Some left
  left-here = ap (λ (s : Spaces). finite.get s p) cleared.spaces ∙ get-insert_here S p left

  -- PRIVATE PAGES: those outside of the range
  private-left : all_parts slots_for_part n.spaces + slots_of_range parts first (first + pages) ≡ all_parts slots_for_part m.spaces
  private-left =
      let held : ℕ → ℕ → Option Page = λ number place. None in
      let put = sum-insert slots_for_part S p parts left holds.here in
      let all = ap (all_parts slots_for_part) cleared.spaces in
      let slots = holds.slots in
      let old = private-parts held parts (fits.memory.segments.ordered p parts fits.here) in
      let new = private-parts held left (cleared.fits.segments.ordered p left left-here) in
      let out = left-slots held parts (fits.memory.segments.ordered p parts fits.here) first pages in
      let same = sym (total-map_with (λ (k : ℕ). k) slots_for (space_with held left)) ∙ ap (total (λ (k : ℕ). k)) (alike held) ∙ total-map_with (λ (k : ℕ). k) slots_for (without_range (space_with held parts) first pages) in
      omega (arith, put, all, slots, old, new, out, same)
    where
      alike : (held : ℕ → ℕ → Option Page) → map_with slots_for (space_with held left) ≡ map_with slots_for (without_range (space_with held parts) first pages)
      alike held = finite.same_map nat_cmp_total finite.nat_cmp-IsAntisymmetric _ _ (λ q.
          get-map_with slots_for (space_with held left) q ∙ ap (option_map slots_for) (get-space_with held left q) ∙ looked-slots held (piece_at left q) ∙ ap (option_map slots_of) (cleared.looks q)
          ∙ cut-map slots_of (is_in_range first pages q) (option_map kind_and_object (piece_at parts q)) ∙ ap (λ (x : Option ℕ). cond (is_in_range first pages q) None x) (sym (looked-slots held (piece_at parts q)) ∙ ap (option_map slots_for) (sym (get-space_with held parts q)))
          ∙ sym (cut-map slots_for (is_in_range first pages q) (finite.get (space_with held parts) q)) ∙ ap (option_map slots_for) (sym (get-without_range (space_with held parts) first pages q)) ∙ sym (get-map_with slots_for (without_range (space_with held parts) first pages) q))

  -- ZERO OBJECTS: each that is left is the one that is mapped, or is shown outside of the range
  abbrev Stays : ℕ → ℕ → Type 0
  Stays z number = (slice_index_or zeros z None ≡ Some number) × ((o ≡ object.Zero z) ⊎ IsShownOutside m.spaces p first pages z number)

  listed : (z number : ℕ) → IsShownOutside m.spaces p first pages z number → slice_index_or zeros z None ≡ Some number
  listed z number s =
      sym (fits.known z) ∙ fits-shown (length m.world.files.files) m.world.anon m.world.maps m.spaces fits.memory.segments z number (record { process = s.process; page = s.page; spot = s.spot; here = s.here; shows = s.shows })

  some-look : (o : Option Spot) (b : Bool) (l : Look) → cond b None (option_map kind_and_object o) ≡ Some l → (x : Spot) × (o ≡ Some x) × (kind_and_object x ≡ l) × (b ≡ false)
  some-look None true l e = absurd (let k : None ≡ Some l = e in cc)
  some-look None false l e = absurd (let k : None ≡ Some l = e in cc)
  some-look (Some x) true l e = absurd (let k : None ≡ Some l = e in cc)
  some-look (Some x) false l e = (x, refl, (let k : Some (kind_and_object x) ≡ Some l = e in let d : kind_and_object x ≡ l = cc in d), refl)

  stays : (z number : ℕ) → IsShown n.spaces z number → Stays z number
  stays z number s = by_process (cases_eq s.process p)
    where
      at : spot_at (finite.insert S p left) s.process s.page ≡ Some s.spot
      at = ap (λ (t : Spaces). spot_at t s.process s.page) (sym cleared.spaces) ∙ s.here

      by_process : (s.process ≡ p) ⊎ (s.process ≢ p) → Stays z number
      by_process (inl same) =
          let in_left : piece_at left s.page ≡ Some s.spot = sym (ap (option_and_then (λ (ps : List (Part Segment)). piece_at ps s.page)) (ap (finite.get (finite.insert S p left)) same ∙ get-insert_here S p left)) ∙ at in
          let r = some-look (piece_at parts s.page) (is_in_range first pages s.page) (kind_and_object s.spot) (sym (cleared.looks s.page) ∙ ap (option_map kind_and_object) in_left) in
          let out : IsShownOutside m.spaces p first pages z number = record {
            process = p;
            page = s.page;
            spot = r.0;
            here = ap (option_and_then (λ (ps : List (Part Segment)). piece_at ps s.page)) fits.here ∙ r.1;
            shows = ap zero_seen r.2 ∙ s.shows;
            outside = λ _. r.3;
          } in
          (listed z number out, inr out)
      by_process (inr apart) =
          let in_S : spot_at S s.process s.page ≡ Some s.spot = sym (ap (option_and_then (λ (ps : List (Part Segment)). piece_at ps s.page)) (get-insert_apart S p left s.process apart)) ∙ at in
          elim (holds.others s.process s.page s.spot z number apart in_S s.shows) [
            | inl there ↦
                let out : IsShownOutside m.spaces p first pages z number = record { process = s.process; page = s.page; spot = s.spot; here = there; shows = s.shows; outside = λ same. absurd (apart same) } in
                (listed z number out, inr out)
            | inr held ↦ (held.1, inl held.0)
          ]

  abbrev long : World → ℕ → ℕ
  long w number = length (places_of w.maps number)

  -- what each number has then, and what it gives up, is what it had
  at-number : (z : ℕ) → at_key (long n.world) (finite.get (zero_maps n.spaces) z) + pages_given m.world.maps o z (shown_within parts first (first + pages) z) (slice_index_or zeros z None) ≤ at_key (long m.world) (slice_index_or zeros z None)
  at-number z = by_map (finite.get (zero_maps n.spaces) z) refl
    where
      given-few : (x : Option ℕ) → pages_given m.world.maps o z (shown_within parts first (first + pages) z) x ≤ at_key (long m.world) x
      given-few None = omega arith
      given-few (Some number) = either (is_zero_object z o) (shown_within parts first (first + pages) z == holders_of m.world.maps number)
        where
          either : (a b : Bool) → cond a 0 (cond b (long m.world number) 0) ≤ long m.world number
          either true b = omega arith
          either false true = omega arith
          either false false = omega arith

      none-given : (number : ℕ) → Stays z number → pages_given m.world.maps o z (shown_within parts first (first + pages) z) (Some number) ≡ 0
      none-given number (is, inl mapped) =
          ap (λ (b : Bool). cond b 0 (cond (shown_within parts first (first + pages) z == holders_of m.world.maps number) (long m.world number) 0)) (ap (is_zero_object z) mapped ∙ eq-eqb z z refl)
      none-given number (is, inr out) =
          let less = outside-more m fits.memory p parts fits.here first pages z number (fits.known z ∙ is) out in
          ap (λ (b : Bool). cond (is_zero_object z o) 0 (cond b (long m.world number) 0)) (ne_eqb (shown_within parts first (first + pages) z) (holders_of m.world.maps number) (λ same. omega (arith, less, same))) ∙ no-share (is_zero_object z o)

      by_map : (x : Option ℕ) → finite.get (zero_maps n.spaces) z ≡ x → at_key (long n.world) x + pages_given m.world.maps o z (shown_within parts first (first + pages) z) (slice_index_or zeros z None) ≤ at_key (long m.world) (slice_index_or zeros z None)
      by_map None e = let few = given-few (slice_index_or zeros z None) in omega (arith, few)
      by_map (Some number) e =
          let s = stays z number (shown-by n.spaces z number cleared.fits.segments.ordered e) in
          let same = cleared.lengths z number s.0 (zero-there n cleared.fits z number e) in
          let none = ap (pages_given m.world.maps o z (shown_within parts first (first + pages) z)) s.0 ∙ none-given number s in
          let old = ap (at_key (long m.world)) s.0 in
          omega (arith, same, none, old)

  past-none : (z : ℕ) → length zeros ≤ z → finite.get (zero_maps n.spaces) z ≡ None
  past-none z past = by_map (finite.get (zero_maps n.spaces) z) refl
    where
      by_map : (x : Option ℕ) → finite.get (zero_maps n.spaces) z ≡ x → finite.get (zero_maps n.spaces) z ≡ None
      by_map None e = e
      by_map (Some number) e = absurd (let k : None ≡ Some number = sym (get_or_past zeros z None past) ∙ (stays z number (shown-by n.spaces z number cleared.fits.segments.ordered e)).0 in cc)

  given-sum : (k : ℕ) → given_up m.world.maps zeros parts first (first + pages) o k ≡ sum_to (λ z. pages_given m.world.maps o z (shown_within parts first (first + pages) z) (slice_index_or zeros z None)) k
  given-sum zero = refl
  given-sum (suc k) = let more = given-sum k in omega (arith, more)

  zeros-left : total (long n.world) (zero_maps n.spaces) + given_up m.world.maps zeros parts first (first + pages) o (length zeros) ≤ total (long m.world) (zero_maps m.spaces)
  zeros-left =
      let kept = λ (z : ℕ). at_key (long n.world) (finite.get (zero_maps n.spaces) z) in
      let given = λ (z : ℕ). pages_given m.world.maps o z (shown_within parts first (first + pages) z) (slice_index_or zeros z None) in
      let new = total-below (long n.world) (zero_maps n.spaces) (length zeros) past-none in
      let old = total-below (long m.world) (zero_maps m.spaces) (length zeros) (λ z past. fits.known z ∙ get_or_past zeros z None past) in
      let sum = given-sum (length zeros) in
      let both = sum_to-both kept given (length zeros) in
      let within = sum_to-within (λ z. kept z + given z) (λ z. at_key (long m.world) (finite.get (zero_maps m.spaces) z)) (length zeros) (λ z lt. let le = at-number z in let same = ap (at_key (long m.world)) (fits.known z) in omega (arith, le, same)) in
      omega (arith, new, old, sum, both, within)

  -- WHAT IS RESERVED THEN is no more than what was, without what is given up
  pub reserved-left : n.world.anon.reserved + slots_of_range parts first (first + pages) + given_up m.world.maps zeros parts first (first + pages) o (length zeros) ≤ m.world.anon.reserved
  reserved-left =
      let private = private-left in
      let zero = zeros-left in
      let new = cleared.fits.segments.reserved in
      let old = fits.memory.segments.reserved in
      omega (arith, private, zero, new, old)

-- THE ROOM for the mapping of a Map that isn't refused
pub room-after : (m n : Memory) (zeros : List (Option ℕ)) (S : Spaces) (p : ℕ) (parts left : List (Part Segment)) (q : MapRequest) → SpaceFits m.world zeros m.spaces p parts → IsMapRefusal m p q None → HoldsFor m zeros q.object p parts S
    → IsCleared m n zeros S p parts left (page q.addr) (pages_in q.length) → n.world.anon.reserved + slots_for_pages q.kind q.object (pages_in q.length) ≤ length m.world.anon.counts
room-after m n zeros S p parts left q fits none holds cleared =
    let left = reserved-left m n zeros q.object S p parts left (page q.addr) (pages_in q.length) fits holds cleared in
    let room = leb-true _ _ (passed m p parts zeros fits q none).backed in
    omega (arith, left, room)
