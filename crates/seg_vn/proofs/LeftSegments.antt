-- A segment goes: its translations, then what its own map and that of its zero object hold, then the maps and what is reserved for them.
use Rattle.seg_ops.proofs.vm_world.FileLocks.{past-index as past-end}
use Rattle.std.proofs.Common.{◌≡◌, ℕ, zero, suc, ◌+◌, ◌-◌, ◌<◌, ◌≤◌, List, [], ◌∷◌, length, Option, Some, None, refl, sym, ap, ◌∙◌, inl, inr, subst, arith, slice_index_or, slice_set, get_or-set_same}
use Rattle.std.specs.Prelude.{option_and_then}
use Rattle.std.specs.FinMap as finite
use Rattle.std.proofs.lemmas.Bool.{cases_eq, cases_lt}
use Rattle.std.proofs.lemmas.List.{get_or-set_other}
use Rattle.seg_ops.specs.vm_types.declared.call.Object.TheVariants as object
use Rattle.seg_ops.specs.addr_space.Space.{Part, begins, piece_at, without_part}
use Rattle.seg_ops.proofs.addr_space.PartLemmas.{found-in, has-in}
use Rattle.seg_ops.proofs.addr_space.PartLists.{all-begins, begins-first, begins-found, at-found}
use Rattle.seg_ops.specs.anon_map.Maps.{Map, anon_map_at, IsMapThere, AreEmpty, places_of, holders_of}
use Rattle.seg_ops.specs.anon_slots.Slots.{slots_in_use}
use Rattle.seg_ops.specs.hat_layer.Pool.{HatSeen}
use Rattle.seg_ops.specs.flat_model.Flat.{Flat, IsFlat, without_unnamed}
use Rattle.seg_ops.specs.flat_model.Mapping.{without_pages}
use Rattle.seg_ops.specs.vm_world.CallSteps.{ChangesMemory}
use Rattle.seg_ops.specs.vm_world.CountsFit.{SegmentFits, times_had}
use Rattle.seg_ops.specs.vm_world.FlatMemory.{Memory, flat_memory, zero_maps}
use Rattle.seg_ops.specs.vm_world.MapSteps.{maps_released}
use Rattle.seg_ops.specs.vm_world.MemoryFits.{MemoryFits}
use Rattle.seg_ops.specs.vm_world.SegmentSteps.{ChangesSegments, MayLeave, with_part_gone, maps_left, places_left, with_zero_object}
use Rattle.seg_ops.specs.vm_world.Segments.{Spaces}
use Rattle.seg_ops.specs.vm_world.SpaceSteps.{AreUnloaded}
use Rattle.seg_ops.specs.vm_world.World.{World}
use Rattle.seg_ops.specs.vm_world.ZeroObjects.{KnowsZeros}
use Rattle.seg_ops.specs.vm_world.declared.segment.Segment.{Segment}
use Rattle.seg_ops.proofs.vm_world.ComingParts.{flat-new-zero}
use Rattle.seg_ops.proofs.vm_world.GoneParts.{mid-there}
use Rattle.seg_ops.proofs.vm_world.KeptMaps.{own-there, shown-there, same-there, same-holders, same-places, shown-counts}
use Rattle.seg_ops.proofs.vm_world.KnownZeros.{known-gone, known-last}
use Rattle.seg_ops.proofs.vm_world.MapChanges.{released-sum, freed-length}
use Rattle.seg_ops.proofs.vm_world.PartSums.{all_parts, part-le, sum-segments}
use Rattle.seg_ops.proofs.vm_world.SegmentSteps.{segment_rule}
use Rattle.seg_ops.proofs.vm_world.Shapes.{pages-respects}
use Rattle.seg_ops.specs.Empties.{OwnsPlaces, IsUnloadedZero, places_emptied}
use Rattle.seg_ops.specs.OwnPages.{without_own_pages}
use Rattle.seg_ops.specs.vm_world.Words.{KeepsPages}
use Rattle.seg_ops.proofs.Composed.{keeps-same}
use Rattle.seg_ops.proofs.OwnPageLaws.{own_pages_law}
use Rattle.seg_ops.proofs.SlotRanges.{length-emptied}
use Rattle.seg_vn.specs.Cuts.{IsPartAt}
use Rattle.seg_vn.specs.Leaves.{IsUnloadedPart, LosesObject, LosesWithPages}
use Rattle.seg_vn.proofs.LastObjects.{object-map, object-unloaded, object-goes}

-- places of which all were emptied
emptied-below : (places : List (Option ℕ)) (n i : ℕ) → n ≤ length places → i < n → slice_index_or (places_emptied places 0 n) i None ≡ None
emptied-below places zero i le lt = absurd (omega (arith, lt))
emptied-below places (suc n) i le lt =
    let size = length-emptied places 0 n in
    let set : List (Option ℕ) = slice_set (places_emptied places 0 n) n None in
    ap (λ (k : ℕ). slice_index_or (slice_set (places_emptied places 0 n) k None) i None) (let z : 0 + n ≡ n = omega arith in z) ∙ elim (cases_eq i n) [
      | inl e ↦ ap (λ (k : ℕ). slice_index_or set k None) e ∙ get_or-set_same (places_emptied places 0 n) n None None (omega (arith, size, le))
      | inr ne ↦ get_or-set_other (places_emptied places 0 n) n i None None ne ∙ emptied-below places n i (omega (arith, le)) (omega (arith, lt, ne))
    ]

pub all-emptied : (places : List (Option ℕ)) (n : ℕ) → length places ≡ n → AreEmpty (places_emptied places 0 n)
all-emptied places n size i = elim (cases_lt i n) [
  | inl lt ↦ emptied-below places n i (omega (arith, size)) lt
  | inr le ↦ let more = length-emptied places 0 n in past-end (places_emptied places 0 n) i (omega (arith, le, more, size))
]

-- WHAT GOES WITH THE PAGES: nothing, their own pages, or a zero object
pub loses-none : (p first n : ℕ) (m : Memory) → MemoryFits m → LosesWithPages p first n m m
loses-none p first n m fits = record { f = λ F. F; changes = segment_rule.keeps p m.world m.world m.spaces fits (keeps-same m.world m.spaces fits); goes = λ born notes. refl }

pub loses-own : (p first n : ℕ) (u v : Memory) → ChangesMemory p u v (λ F. without_own_pages F p first n) → LosesWithPages p first n u v
loses-own p first n u v done = record {
  f = λ F. without_own_pages F p first n;
  changes = record {
    machine = done.machine;
    others = done.others;
    memory = done.memory;
    notes = done.notes;
    tells = done.tells;
    flat = λ born notes nf tell whole.
        let e = done.flat born notes nf tell whole in
        (e, subst IsFlat (sym e) (own_pages_law.lost (flat_memory u born notes) p first n whole));
    shaped = done.shaped;
  };
  goes = λ born notes. ap without_unnamed (own_pages_law.removed (flat_memory u born notes) p first n);
}

-- and then the pages
pub lose-then : (p first n : ℕ) (u v w : Memory) → LosesWithPages p first n u v → ChangesSegments p v w (λ F. without_pages F p first n) → ChangesSegments p u w (λ F. without_pages F p first n)
lose-then p first n u v w lost gone =
    segment_rule.same p u w (λ F. without_pages (lost.f F) p first n) (λ F. without_pages F p first n) lost.goes
    (segment_rule.joined p u v w lost.f (λ F. without_pages F p first n) (pages-respects p first n) lost.changes gone)

-- it is such a part wherever memory fits these segments
abbrev pub still-part : (w new : World) (spaces : Spaces) (p first : ℕ) (s : Segment) → IsPartAt w spaces p first s → MemoryFits (record { world = new; spaces = spaces }) → IsPartAt new spaces p first s
still-part w new spaces p first s c memory = record { parts = c.parts; part = c.part; memory = memory; here = c.here; starts = c.starts; piece = c.piece }

module _ (w : World) (spaces : Spaces) (p first : ℕ) (s : Segment) (c : IsPartAt w spaces p first s) where
  abbrev m : Memory
  m = record { world = w; spaces = spaces }

  fit : SegmentFits (length w.files.files) w.maps c.part
  fit = all-begins (SegmentFits (length w.files.files) w.maps) c.parts first c.part (c.memory.segments.each p c.parts c.here) c.starts

  begin : c.part.first ≡ first
  begin = begins-first c.parts first c.part c.starts

  starts-there : begins c.parts c.part.first ≡ Some c.part
  starts-there = ap (begins c.parts) begin ∙ c.starts

  pub pages-are : c.part.pages ≡ s.pages
  pages-are = fit.pages ∙ ap (λ (t : Segment). t.pages) c.piece

  pub part-within : first + s.pages ≤ 0x80000
  part-within =
      let order = c.memory.segments.ordered p c.parts c.here in
      let within = (found-in 1 c.parts first c.part order (begins-found 1 c.parts first c.part order c.starts)).within in
      let b = begin in
      let n = pages-are in
      omega (arith, within, b, n)

  pub own-is : (map : ℕ) → s.own ≡ Some map → IsMapThere w.maps map × (holders_of w.maps map ≡ 1) × (length (places_of w.maps map) ≡ s.pages)
  own-is map is =
      let o = own-there w.maps c.part.piece c.part.piece.kind map fit.own (ap (λ (t : Segment). t.own) c.piece ∙ is) in
      (o.0, o.1, o.2 ∙ ap (λ (t : Segment). t.pages) c.piece)

  its-shown : (map : ℕ) → s.shown ≡ Some map → c.part.piece.shown ≡ Some map
  its-shown map is = ap (λ (t : Segment). t.shown) c.piece ∙ is

  its-object : (z : ℕ) → s.object ≡ object.Zero z → c.part.piece.object ≡ object.Zero z
  its-object z is = ap (λ (t : Segment). t.object) c.piece ∙ is

  -- the map that it shows is there, and the segment is one of its holders
  pub shown-is : (map : ℕ) → s.shown ≡ Some map → IsMapThere w.maps map × ((z : ℕ) × (s.object ≡ object.Zero z))
  shown-is map is =
      let h = shown-there (length w.files.files) w.maps c.part.piece c.part.piece.object map fit.object (its-shown map is) in
      (h.0, (h.1.0, sym (ap (λ (t : Segment). t.object) c.piece) ∙ h.1.1))

  shown-held : (map : ℕ) → s.shown ≡ Some map → 1 ≤ holders_of w.maps map
  shown-held map is =
      let mine = shown-counts map c.part.piece (its-shown map is) in
      let had = λ (a : Part Segment). times_had map a.piece in
      let le = all-begins (λ (a : Part Segment). had a ≤ all_parts had spaces) c.parts first c.part (part-le had spaces p c.parts c.here) c.starts in
      let all = c.memory.segments.holders map in
      let sum = sum-segments (times_had map) spaces in
      omega (arith, mine, le, all, sum)

  pub shown-map : (z map : ℕ) → s.object ≡ object.Zero z → s.shown ≡ Some map → finite.get (zero_maps spaces) z ≡ Some map
  shown-map z map names is = object-map m p first c.parts c.part c.memory c.here c.starts z map (its-object z names) (its-shown map is)

  pub owns-part : AreUnloaded w.hat.places p first s.pages → (map : ℕ) → s.own ≡ Some map → OwnsPlaces w.hat.places spaces p first map 0 s.pages
  owns-part none map is = record {
    segment = s;
    own = is;
    here = λ j lt.
        let order = c.memory.segments.ordered p c.parts c.here in
        let found = begins-found 1 c.parts first c.part order c.starts in
        let b = begin in
        let n = pages-are in
        let k : first + j - c.part.first ≡ 0 + j = omega (arith, b) in
        ap (option_and_then (λ (ps : List (Part Segment)). piece_at ps (first + j))) c.here
        ∙ at-found 1 c.parts first (first + j) c.part order found (has-in c.part (first + j) (omega (arith, b)) (omega (arith, b, n, lt)))
        ∙ (λ i. Some (c.piece i, k i));
    unloaded = none;
  }

  its-unloaded : AreUnloaded w.hat.places p first s.pages → AreUnloaded w.hat.places p c.part.first c.part.pages
  its-unloaded none q low high = let b = begin in let n = pages-are in none q (omega (arith, low, b)) (omega (arith, high, b, n))

  -- ITS ZERO OBJECT, where it is the last to show it
  module _ (z map : ℕ) (names : s.object ≡ object.Zero z) (is : s.shown ≡ Some map) (held : holders_of w.maps map ≡ 1) where
    pub shown-unloaded : AreUnloaded w.hat.places p first s.pages → IsUnloadedZero w.hat.places spaces z map
    shown-unloaded none = object-unloaded m p first c.parts c.part c.memory c.here c.starts z map (its-object z names) (its-shown map is) held (its-unloaded none)

    pub loses-shown : (size : ℕ) (new : World) → ChangesMemory p m (record { world = new; spaces = spaces }) (λ F. with_zero_object F z size) → LosesWithPages p first s.pages m (record { world = new; spaces = spaces })
    loses-shown size new done = record {
      f = λ F. with_zero_object F z size;
      changes = record {
        machine = done.machine;
        others = done.others;
        memory = done.memory;
        notes = done.notes;
        tells = done.tells;
        flat = λ born notes nf tell whole.
            let e = done.flat born notes nf tell whole in
            (e, subst IsFlat (sym e) (flat-new-zero (flat_memory m born notes) z size whole));
        shaped = done.shaped;
      };
      goes = λ born notes.
          subst (λ (k : ℕ). without_pages (with_zero_object (flat_memory m born notes) z size) p k s.pages ≡ without_pages (flat_memory m born notes) p k s.pages) begin
          (subst (λ (k : ℕ). without_pages (with_zero_object (flat_memory m born notes) z size) p c.part.first k ≡ without_pages (flat_memory m born notes) p c.part.first k) pages-are
          (object-goes m p first c.parts c.part c.memory c.here c.starts z map (its-object z names) (its-shown map is) held born notes size));
    }

-- IT IS THE PART still, once its translations went, and once something went with its pages
abbrev pub first-part : (w w1 : World) (spaces : Spaces) (p first : ℕ) (s t : Segment) → IsPartAt w spaces p first s → KeepsPages w w1 spaces → AreUnloaded w1.hat.places p first s.pages → s ≡ t → IsUnloadedPart w1 spaces p first t
first-part w w1 spaces p first s t c keeps none e = record {
  part = record { parts = c.parts; part = c.part; memory = keeps.memory; here = c.here; starts = c.starts; piece = c.piece ∙ e };
  unloaded = subst (λ (u : Segment). AreUnloaded w1.hat.places p first u.pages) e none;
}

abbrev pub next-part : (w new : World) (spaces : Spaces) (p first : ℕ) (s : Segment) → IsUnloadedPart w spaces p first s → LosesWithPages p first s.pages (record { world = w; spaces = spaces }) (record { world = new; spaces = spaces }) → new.hat ≡ w.hat
    → IsUnloadedPart new spaces p first s
next-part w new spaces p first s u lost hat = record { part = still-part w new spaces p first s u.part lost.changes.memory; unloaded = subst (λ (h : HatSeen). AreUnloaded h.places p first s.pages) (sym hat) u.unloaded }

-- A PART THAT MAY GO: none of its pages has a translation, and the maps that go with it hold no slot.
pub record MayGo (w : World) (spaces : Spaces) (p first : ℕ) (s : Segment) : Type 0 where
  pub part : IsPartAt w spaces p first s
  pub unloaded : AreUnloaded w.hat.places p first s.pages
  pub own : (map : ℕ) → s.own ≡ Some map → AreEmpty (places_of w.maps map)
  pub shown : (map : ℕ) → s.shown ≡ Some map → holders_of w.maps map ≡ 1 → AreEmpty (places_of w.maps map)

module _ (w : World) (spaces : Spaces) (p first : ℕ) (s : Segment) (g : MayGo w spaces p first s) where
  abbrev c : IsPartAt w spaces p first s
  c = g.part

  abbrev here : Memory
  here = record { world = w; spaces = spaces }

  abbrev gone : Spaces
  gone = finite.insert spaces p (without_part first c.parts)

  may : MayLeave here p c.part
  may = record {
    unloaded = its-unloaded w spaces p first s c g.unloaded;
    own = λ map is. g.own map (sym (ap (λ (t : Segment). t.own) c.piece) ∙ is);
    shown = λ map is. g.shown map (sym (ap (λ (t : Segment). t.shown) c.piece) ∙ is);
  }

  abbrev left : List (Option Map)
  left = maps_released w.maps s.own

  abbrev after : World
  after = record w { anon = record w.anon { reserved = w.anon.reserved - places_left w.maps s }; maps = maps_left w.maps s }

  -- it goes
  pub part-goes : ChangesSegments p here (record { world = after; spaces = gone }) (λ F. without_pages F p first s.pages)
  part-goes =
      let b = begin w spaces p first s c in
      let same : with_part_gone here p c.parts c.part ≡ record { world = after; spaces = gone } = λ i. record {
        world = record w { anon = record w.anon { reserved = w.anon.reserved - places_left w.maps (c.piece i) }; maps = maps_left w.maps (c.piece i) };
        spaces = finite.insert spaces p (without_part (b i) c.parts);
      } in
      subst (λ (n : Memory). ChangesSegments p here n (λ F. without_pages F p first s.pages)) same
      (subst (λ (k : ℕ). ChangesSegments p here (with_part_gone here p c.parts c.part) (λ F. without_pages F p k s.pages)) b
      (subst (λ (k : ℕ). ChangesSegments p here (with_part_gone here p c.parts c.part) (λ F. without_pages F p c.part.first k)) (pages-are w spaces p first s c)
      (segment_rule.remove here p first c.parts c.part c.memory c.here c.starts may)))

  -- the map that it shows stays when its own goes
  still-shown : (map : ℕ) → s.shown ≡ Some map → anon_map_at left map ≡ anon_map_at w.maps map
  still-shown map is = subst (λ (t : Segment). anon_map_at (maps_released w.maps t.own) map ≡ anon_map_at w.maps map) c.piece
      (mid-there here p c.parts c.part c.memory c.here (starts-there w spaces p first s c) may map (its-shown w spaces p first s c map is))

  pub left-there : (map : ℕ) → s.shown ≡ Some map → IsMapThere left map
  left-there map is = same-there w.maps left map (still-shown map is) (shown-is w spaces p first s c map is).0

  pub left-empty : (map : ℕ) → s.shown ≡ Some map → holders_of left map ≡ 1 → AreEmpty (places_of left map)
  left-empty map is one = subst AreEmpty (sym (same-places w.maps left map (still-shown map is))) (g.shown map is (sym (same-holders w.maps left map (still-shown map is)) ∙ one))

  -- what is reserved for its maps is more than the slots in use
  pub left-room : places_left w.maps s ≤ w.anon.reserved - slots_in_use w.anon
  left-room =
      let gone = part-goes.memory.counts in
      let used = gone.sound.used in
      let total = gone.places in
      let all = c.memory.counts.places in
      let one = released-sum (λ (ps : List (Option ℕ)). length ps) w.maps s.own refl (λ map is. (own-is w spaces p first s c map is).0) in
      let two = released-sum (λ (ps : List (Option ℕ)). length ps) left s.shown refl left-there in
      let a = freed-length w.maps s.own in
      let b = freed-length left s.shown in
      omega (arith, used, total, all, one, two, a, b)

  -- and the list of zero objects is right
  pub left-known : (zeros new : List (Option ℕ)) → KnowsZeros zeros spaces → LosesObject w.maps s zeros new → KnowsZeros new gone
  left-known zeros new knows lost =
      let b = begin w spaces p first s c in
      let starts = starts-there w spaces p first s c in
      subst (λ (k : ℕ). KnowsZeros new (finite.insert spaces p (without_part k c.parts))) b (by_shown s.shown refl)
    where
      stays : ((map : ℕ) → s.shown ≡ Some map → 1 < holders_of w.maps map) → KnowsZeros new (finite.insert spaces p (without_part c.part.first c.parts))
      stays more = subst (λ (zs : List (Option ℕ)). KnowsZeros zs (finite.insert spaces p (without_part c.part.first c.parts)))
          (sym (lost.held (λ z map names is one. (let few = more map is in absurd (omega (arith, few, one))))))
          (known-gone here p c.parts c.part zeros c.memory c.here (starts-there w spaces p first s c) may (λ map is. more map (sym (ap (λ (t : Segment). t.shown) c.piece) ∙ is)) knows)

      by_shown : (o : Option ℕ) → s.shown ≡ o → KnowsZeros new (finite.insert spaces p (without_part c.part.first c.parts))
      by_shown None e = stays (λ map is. absurd (let z : None ≡ Some map = sym e ∙ is in cc))
      by_shown (Some n) e =
          let o = (shown-is w spaces p first s c n e).1 in
          elim (cases_eq (holders_of w.maps n) 1) [
            | inl one ↦ subst (λ (zs : List (Option ℕ)). KnowsZeros zs (finite.insert spaces p (without_part c.part.first c.parts))) (sym (lost.last o.0 n o.1 e one))
                (known-last here p c.parts c.part zeros o.0 n c.memory c.here (starts-there w spaces p first s c) may (its-object w spaces p first s c o.0 o.1) (its-shown w spaces p first s c n e) one knows)
            | inr ne ↦ stays (λ map is.
                let same : n ≡ map = let z : Some n ≡ Some map = sym e ∙ is in cc in
                let some = shown-held w spaces p first s c n e in
                subst (λ (j : ℕ). 1 < holders_of w.maps j) same (omega (arith, some, ne)))
          ]

-- THE WHOLE: its translations went, then what goes with its pages, then it
pub part-left : (w w1 w2 w3 new : World) (spaces : Spaces) (p first : ℕ) (s t : Segment) → MemoryFits (record { world = w; spaces = spaces }) → KeepsPages w w1 spaces → s ≡ t
    → LosesWithPages p first t.pages (record { world = w1; spaces = spaces }) (record { world = w2; spaces = spaces }) → LosesWithPages p first t.pages (record { world = w2; spaces = spaces }) (record { world = w3; spaces = spaces })
    → (g : MayGo w3 spaces p first t) → new ≡ record w3 { anon = record w3.anon { reserved = w3.anon.reserved - places_left w3.maps t }; maps = maps_left w3.maps t }
    → ChangesSegments p (record { world = w; spaces = spaces }) (record { world = new; spaces = finite.insert spaces p (without_part first g.part.parts) }) (λ F. without_pages F p first s.pages)
part-left w w1 w2 w3 new spaces p first s t fits keeps e own shown g is =
    let m0 : Memory = record { world = w; spaces = spaces } in
    let m1 : Memory = record { world = w1; spaces = spaces } in
    let m2 : Memory = record { world = w2; spaces = spaces } in
    let m3 : Memory = record { world = w3; spaces = spaces } in
    let gone : Spaces = finite.insert spaces p (without_part first g.part.parts) in
    let m4 : Memory = record { world = record w3 { anon = record w3.anon { reserved = w3.anon.reserved - places_left w3.maps t }; maps = maps_left w3.maps t }; spaces = gone } in
    let f : Flat → Flat = λ F. without_pages F p first t.pages in
    subst (λ (u : Segment). ChangesSegments p m0 (record { world = new; spaces = gone }) (λ F. without_pages F p first u.pages)) (sym e)
    (subst (λ (v : World). ChangesSegments p m0 (record { world = v; spaces = gone }) f) (sym is)
    (segment_rule.joined p m0 m1 m4 (λ F. F) f (pages-respects p first t.pages) (segment_rule.keeps p w w1 spaces fits keeps) (lose-then p first t.pages m1 m2 m4 own (lose-then p first t.pages m2 m3 m4 shown (part-goes w3 spaces p first t g)))))
