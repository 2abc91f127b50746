-- THE COUNTS once a slot was made for an empty place.
use Rattle.std.proofs.Common.{◌≡◌, ◌≢◌, ℕ, ◌<◌, ◌-◌, List, length, Option, Some, None, refl, sym, ap, ◌∙◌, inl, inr, arith, slice_set, slice_index_or, get_or-set_same}
use Rattle.std.specs.Prelude.{sum_by, false, ◌==◌, position}
use Rattle.std.proofs.lemmas.Bool.{cases_eq}
use Rattle.std.proofs.lemmas.List.{get_or-set_other, length-set}
use Rattle.std.proofs.lemmas.List.Quantifiers.{position-Some}
use Rattle.std.proofs.lemmas.List.Sums.{sum_by-set}
use Rattle.vm_world.specs.anon_map.Maps.{Map, the_map, places_of, with_places}
use Rattle.vm_world.specs.anon_slots.Slots.{AnonSlotsSeen, count_at, IsSoundAnonSlots, with_count, with_new_slot}
use Rattle.vm_world.specs.World.{slot_in}
use Rattle.vm_world.specs.CountsFit.{places_in, times_held, CountsFit}
use Rattle.vm_world.proofs.Counts.{used-below}
use Rattle.vm_world.proofs.Counting.{adds, adds-own, adds-other, map-within, places-are, times-put}
use Rattle.seg_ops.specs.Slots.{MakesSlot}

-- the number of all places is as it was
pub places-put : (maps : List (Option Map)) (m i : ℕ) (o : Option ℕ) → i < length (places_of maps m) → sum_by (λ x. length (places_in x)) (with_places maps m (slice_set (places_of maps m) i o)) ≡ sum_by (λ x. length (places_in x)) maps
places-put maps m i o lt =
    let whole = sum_by-set (λ (x : Option Map). length (places_in x)) maps m (Some (record (the_map maps m) { places = slice_set (places_of maps m) i o })) None (map-within maps m i lt) in
    let size = length-set (places_of maps m) i o in
    let same : length (places_in (slice_index_or maps m None)) ≡ length (places_of maps m) = ap (λ (ps : List (Option ℕ)). length ps) (places-are maps m) in
    omega (arith, whole, size, same)

pub made-slot : (anon : AnonSlotsSeen) (maps : List (Option Map)) (m i s : ℕ) → CountsFit anon maps → count_at anon s ≡ 0 → s < length anon.counts → IsSoundAnonSlots (with_new_slot anon s) → i < length (places_of maps m) → slot_in maps m i ≡ None
    → MakesSlot anon (with_new_slot anon s) maps (with_places maps m (slice_set (places_of maps m) i (Some s))) m i s
made-slot anon maps m i s fit free there sound lt empty =
    let one : count_at (with_new_slot anon s) s ≡ 1 = get_or-set_same anon.counts s 1 0 there in
    let else_is : (t : ℕ) → t ≢ s → count_at (with_new_slot anon s) t ≡ count_at anon t = λ t ne. get_or-set_other anon.counts s t 1 0 ne in
    record {
      within = lt;
      set = refl;
      there = there;
      free = free;
      alone = one;
      used = λ t ne used. let e = else_is t ne in omega (arith, e, used);
      unused = λ t ne none. else_is t ne ∙ none;
      once = λ t ne is. else_is t ne ∙ is;
      slots = length-set anon.counts s 1;
      fresh = get_or-set_same anon.swapped s false false (let e = fit.sound.lengths in omega (arith, there, e));
      swapped = λ t ne. get_or-set_other anon.swapped s t false false ne;
      reserved = refl;
      counts = record {
        sound = sound;
        counts = λ t.
            let put = times-put t maps m i (Some s) lt in
            let none : adds t (slot_in maps m i) ≡ 0 = ap (adds t) empty in
            elim (cases_eq t s) [
              | inl e ↦
                  let own : adds t (Some s) ≡ 1 = ap (λ (j : ℕ). adds j (Some s)) e ∙ adds-own s in
                  let was : times_held maps t ≡ 0 = ap (times_held maps) e ∙ sym (fit.counts s) ∙ free in
                  let now : count_at (with_new_slot anon s) t ≡ 1 = ap (count_at (with_new_slot anon s)) e ∙ one in
                  omega (arith, put, none, own, was, now)
              | inr ne ↦
                  let own = adds-other t s (λ e. ne (sym e)) in
                  let was = fit.counts t in
                  let now = else_is t ne in
                  omega (arith, put, none, own, was, now)
            ];
        places = places-put maps m i (Some s) lt ∙ fit.places;
      };
    }

-- the slot that is made is one of those that there are
pub least-there : (counts : List ℕ) (s : ℕ) → position (λ (c : ℕ). c == 0) counts ≡ Some s → s < length counts
least-there counts s is = (position-Some (λ (c : ℕ). c == 0) counts s 0 is).0

-- a slot that is free once another is counted once less, which some place holds still, was free before
pub left-free : (anon : AnonSlotsSeen) (s t : ℕ) → 1 < count_at anon s → count_at (with_count anon s (count_at anon s - 1)) t ≡ 0 → count_at anon t ≡ 0
left-free anon s t many none = elim (cases_eq t s) [
  | inl e ↦
      let there : s < length anon.counts = used-below anon.counts s (omega (arith, many)) in
      let less : count_at (with_count anon s (count_at anon s - 1)) s ≡ count_at anon s - 1 = get_or-set_same anon.counts s (count_at anon s - 1) 0 there in
      let is : count_at (with_count anon s (count_at anon s - 1)) s ≡ 0 = ap (count_at (with_count anon s (count_at anon s - 1))) (sym e) ∙ none in
      absurd (let z : ⊥ = omega (arith, less, is, many) in z)
  | inr ne ↦ sym (get_or-set_other anon.counts s t (count_at anon s - 1) 0 ne) ∙ none
]
