-- A segment that is cut: when it may be, and what memory and flat memory are then.
use Rattle.seg_ops.proofs.vm_world.ShownZeros.{number-is}
use Rattle.std.proofs.Common.{◌≡◌, ◌≢◌, ℕ, ◌-◌, ◌+◌, ◌<◌, ◌≤◌, ◌^◌, Bool, true, false, cond, ◌++◌, List, [], length, Option, Some, None, refl, sym, ap, ◌∙◌, inl, inr, subst, arith}
use Rattle.std.specs.Prelude.{◌==◌, IsSome, option_map, replicate, unwrap_or}
use Rattle.std.specs.FinMap as finite
use Rattle.std.proofs.lemmas.Bool.{cases_Bool, cases_eq, eqb-true}
use Rattle.seg_ops.specs.addr_space.Space.{Part, cut_at, with_new_piece}
use Rattle.seg_ops.proofs.addr_space.PartLists.{all-found}
use Rattle.seg_ops.specs.anon_map.Maps.{Map, anon_map_at, IsMapThere, IsUnused, places_of, holders_of}
use Rattle.seg_ops.proofs.anon_map.MapLaws.{there_apart}
use Rattle.seg_ops.specs.vm_world.CountsFit.{SegmentFits, is_number}
use Rattle.seg_ops.specs.vm_world.FlatMemory.{Memory}
use Rattle.seg_ops.specs.vm_world.MapSteps.{maps_cut, maps_held}
use Rattle.seg_ops.specs.vm_world.SegmentSteps.{ChangesSegments, upper_pages, with_part_cut}
use Rattle.seg_ops.specs.vm_world.Segments.{Spaces}
use Rattle.seg_ops.specs.vm_world.SpaceSteps.{first_pages}
use Rattle.seg_ops.specs.vm_world.World.{World}
use Rattle.seg_ops.specs.vm_world.declared.segment.Segment.{Segment}
use Rattle.seg_ops.proofs.vm_world.CutParts.{mid-else, mid-holders}
use Rattle.seg_ops.proofs.vm_world.KeptMaps.{own-there, shown-there, same-there, same-places, same-holders}
use Rattle.seg_ops.proofs.vm_world.MapChanges.{cut-else, cut-lower, held-holders, held-places}
use Rattle.seg_ops.proofs.vm_world.MoreNumbers.{past-none}
use Rattle.seg_ops.proofs.vm_world.SegmentSteps.{segment_rule}
use Rattle.seg_ops.proofs.vm_world.Shapes.{same-respects}
use Rattle.seg_vn.specs.Cuts.{IsCutPart, MayBeCut}

-- A part that fits may be cut, where a holder more of the map that it shows can be counted
pub fit-may-be-cut : (files : ℕ) (maps : List (Option Map)) (x : Part Segment) → SegmentFits files maps x → ((n : ℕ) → x.piece.shown ≡ Some n → holders_of maps n < 2 ^ 32 - 1) → MayBeCut maps x.piece
fit-may-be-cut files maps x fit few = record {
  own = λ n is. (let o = own-there maps x.piece x.piece.kind n fit.own is in (o.0, o.2, o.1));
  shown = λ n is. ((shown-there files maps x.piece x.piece.object n fit.object is).0, few n is);
}

pub may-be-cut : (w : World) (spaces : Spaces) (p page before : ℕ) (s : Segment) → IsCutPart w spaces p page before s → ((n : ℕ) → s.shown ≡ Some n → holders_of w.maps n < 2 ^ 32 - 1) → MayBeCut w.maps s
may-be-cut w spaces p page before s c few =
    let fit = all-found (SegmentFits (length w.files.files) w.maps) c.parts page c.part (c.memory.segments.each p c.parts c.here) c.found in
    subst (MayBeCut w.maps) c.piece (fit-may-be-cut (length w.files.files) w.maps c.part fit (λ n is. few n (sym (ap (λ (t : Segment). t.shown) c.piece) ∙ is)))

-- and so it may with more numbers
pub still-may-be-cut : (old new : List (Option Map)) (more : ℕ) (s : Segment) → new ≡ old ++ replicate more None → MayBeCut old s → MayBeCut new s
still-may-be-cut old new more s is may =
    let put : List (Option Map) = old ++ replicate more None in
    let same : (n : ℕ) → anon_map_at put n ≡ anon_map_at old n = λ n. past-none old more n in
    subst (λ (ms : List (Option Map)). MayBeCut ms s) (sym is) (record {
      own = λ n its. (let o = may.own n its in (same-there old put n (same n) o.0, ap (λ (ps : List (Option ℕ)). length ps) (same-places old put n (same n)) ∙ o.1, same-holders old put n (same n) ∙ o.2));
      shown = λ n its. (let o = may.shown n its in (same-there old put n (same n) o.0, subst (λ (k : ℕ). k < 2 ^ 32 - 1) (sym (same-holders old put n (same n))) o.1));
    })

-- a map that is there stays when one is cut, with its holders
pub cut-held : (maps : List (Option Map)) (own : Option ℕ) (number at n : ℕ) → ((k : ℕ) → own ≡ Some k → IsMapThere maps k) → (IsSome own → IsUnused maps number) → IsMapThere maps n
    → IsMapThere (maps_cut maps own number at) n × (holders_of (maps_cut maps own number at) n ≡ holders_of maps n)
cut-held maps None number at n there unused is = (is, refl)
cut-held maps (Some k) number at n there unused is =
    let put : List (Option Map) = maps_cut maps (Some k) number at in
    elim (cases_eq n k) [
      | inl e ↦
          let lower = cut-lower maps k number at (there k refl) (unused refl) in
          subst (λ (j : ℕ). IsMapThere put j × (holders_of put j ≡ holders_of maps j)) (sym e) (subst (λ (o : Option Map). IsSome o) (sym lower) refl, ap (λ (o : Option Map). (unwrap_or o (record { places = []; holders = 0 })).holders) lower)
      | inr ne ↦ let same = cut-else maps k number at (there k refl) (unused refl) n is ne in (same-there maps put n same is, same-holders maps put n same)
    ]

-- a map that is there is not the new one
not-new : (maps : List (Option Map)) (own : Option ℕ) (number n : ℕ) → (IsSome own → IsUnused maps number) → IsMapThere maps n → cond {A = ℕ} (is_number n (option_map (λ (k : ℕ). number) own)) 1 0 ≡ 0
not-new maps None number n unused is = refl
not-new maps (Some k) number n unused is = elim (cases_Bool (number == n)) [
  | inl y ↦ absurd (there_apart maps n number is (unused refl) (sym (eqb-true number n y)))
  | inr f ↦ ap (λ (b : Bool). cond {A = ℕ} b 1 0) f
]

pub one-most : (b : Bool) → cond {A = ℕ} b 1 0 ≤ 1
one-most true = omega arith
one-most false = omega arith

-- THE MAPS after a cut: none has more than one holder more, and those that were not cut have their places
module _ (maps : List (Option Map)) (own shown : Option ℕ) (number at : ℕ) (there_own : (k : ℕ) → own ≡ Some k → IsMapThere maps k) (unused : IsSome own → IsUnused maps number) (there_shown : (k : ℕ) → shown ≡ Some k → IsMapThere maps k) where
  abbrev cut_maps : List (Option Map)
  cut_maps = maps_cut maps own number at

  pub most-held : (n : ℕ) → holders_of (maps_held cut_maps shown) n ≤ holders_of maps n + 1
  most-held n =
      let cut = mid-holders maps own number at there_own unused n in
      let more = held-holders cut_maps shown n (λ k is. (cut-held maps own number at k there_own unused (there_shown k is)).0) in
      elim (cases_Bool (is_number n shown)) [
        | inl y ↦
            let one = ap (λ (b : Bool). cond {A = ℕ} b 1 0) y in
            let none = not-new maps own number n unused (there_shown n (number-is n shown y)) in
            omega (arith, cut, more, one, none)
        | inr f ↦
            let none = ap (λ (b : Bool). cond {A = ℕ} b 1 0) f in
            let one = one-most (is_number n (option_map (λ (k : ℕ). number) own)) in
            omega (arith, cut, more, one, none)
      ]

  pub still-long : (n : ℕ) → own ≢ Some n → IsMapThere maps n → length (places_of (maps_held cut_maps shown) n) ≡ length (places_of maps n)
  still-long n ne is =
      let same = mid-else maps own number at there_own unused n is ne in
      ap (λ (ps : List (Option ℕ)). length ps) ((held-places cut_maps shown n (same-there maps cut_maps n same is)).1 ∙ same-places maps cut_maps n same)

module _ (w : World) (spaces : Spaces) (p page before : ℕ) (s : Segment) (c : IsCutPart w spaces p page before s) where
  abbrev m : Memory
  m = record { world = w; spaces = spaces }

  -- WITH MORE NUMBERS it is such a part as before
  module _ (more : ℕ) (maps : List (Option Map)) (is : maps ≡ w.maps ++ replicate more None) where
    abbrev mid : Memory
    mid = record { world = record w { maps = maps }; spaces = spaces }

    pub numbers : ChangesSegments p m mid (λ F. F)
    numbers = subst (λ (ms : List (Option Map)). ChangesSegments p m (record { world = record w { maps = ms }; spaces = spaces }) (λ F. F)) (sym is) (segment_rule.numbers m p more c.memory)

    abbrev pub still-cut : IsCutPart mid.world spaces p page before s
    still-cut = record { parts = c.parts; part = c.part; memory = numbers.memory; here = c.here; found = c.found; lies = c.lies; place = c.place; piece = c.piece }

    pub numbers-then : (new : Memory) → ChangesSegments p mid new (λ F. F) → ChangesSegments p m new (λ F. F)
    numbers-then new cut = segment_rule.joined p m mid new (λ F. F) (λ F. F) same-respects numbers cut

  -- THE CUT
  pub cut-changes : (number : ℕ) → (IsSome s.own → IsUnused w.maps number) → (new : World) (lower upper : Segment) → new ≡ record w { maps = maps_held (maps_cut w.maps s.own number before) s.shown } → lower ≡ first_pages before s
      → upper ≡ upper_pages before number s → ChangesSegments p m (record { world = new; spaces = finite.insert spaces p (cut_at page upper (with_new_piece page lower c.parts)) }) (λ F. F)
  cut-changes number unused new lower upper is low high =
      let maps = λ (t : Segment) (k : ℕ). maps_held (maps_cut w.maps t.own number k) t.shown in
      let parted = λ (t : Segment) (k : ℕ). finite.insert spaces p (cut_at page (upper_pages k number t) (with_new_piece page (first_pages k t) c.parts)) in
      let same : with_part_cut m p page number c.parts c.part ≡ record { world = new; spaces = finite.insert spaces p (cut_at page upper (with_new_piece page lower c.parts)) } =
      (λ i. with_part_cut m p page number c.parts (record { first = c.part.first; pages = c.part.pages; piece = c.piece i }))
      ∙ (λ i. record { world = record w { maps = maps s (sym c.place i) }; spaces = parted s (sym c.place i) })
      ∙ (λ i. record { world = sym is i; spaces = finite.insert spaces p (cut_at page (sym high i) (with_new_piece page (sym low i) c.parts)) }) in
      subst (λ (n : Memory). ChangesSegments p m n (λ F. F)) same
      (segment_rule.cut m p page number c.parts c.part c.memory c.here c.found c.lies (λ some. unused (subst (λ (t : Segment). IsSome t.own) c.piece some)))
