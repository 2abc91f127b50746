-- WHOSE PLACE IT IS: the own map of a private segment is that of no other segment, and of no zero object.
use Rattle.vm_world.proofs.KeptMaps.{own-counts, shown-counts}
use Rattle.vm_world.proofs.ShownZeros.{is-the-number as is-own}
use Rattle.std.proofs.Common.{◌≡◌, ◌≢◌, ℕ, ◌+◌, ◌-◌, ◌<◌, ◌≤◌, ◌==◌, Bool, true, false, cond, List, [], ◌∷◌, ◌++◌, map, Option, Some, None, refl, sym, ap, ◌∙◌, ◌⊎◌, inl, inr, subst, arith}
use Rattle.std.specs.Prelude.{sum_by, flat_map, filter_map, option_and_then, option_map, length}
use Rattle.std.specs.List.{cons_option}
use Rattle.std.specs.Ordering.{nat_cmp, is_eq}
use Rattle.std.specs.Cmp.{nat_cmp_total, unsigned_tied}
use Rattle.std.specs.FinMap as finite
use Rattle.std.proofs.lemmas.Bool.{cases_eq, eq-eqb, eqb-true}
use Rattle.std.proofs.lemmas.List.Sums.{sum_by-cons, sum_by-append}
use Rattle.vm_world.specs.vm_types.declared.call.Object.{Object}
use Rattle.vm_world.specs.vm_types.declared.call.Object.TheVariants as object
use Rattle.vm_world.specs.vm_types.declared.call.Kind.{Kind}
use Rattle.vm_world.specs.vm_types.declared.call.Kind.TheVariants.{Shared, Private}
use Rattle.vm_world.specs.addr_space.Space.{Part, has, begins, part_at, piece_at}
use Rattle.vm_world.specs.anon_map.Maps.{Map, holders_of}
use Rattle.vm_world.proofs.flat_model.Ranges.{in_range-low, in_range-high}
use Rattle.vm_world.specs.declared.segment.Segment.{Segment}
use Rattle.vm_world.specs.Segments.{Spot, Spaces, spot_at, zero_map}
use Rattle.vm_world.specs.FlatMemory.{Memory, zero_maps}
use Rattle.vm_world.specs.CountsFit.{SegmentFits, ObjectFits, OwnFits, is_number, times_had}
use Rattle.vm_world.specs.MemoryFits.{MemoryFits}
use Rattle.vm_world.proofs.Spots.{IsSpotOf, spot-part}
use Rattle.seg_ops.specs.Slots.{OwnsAlone, IsNewZero, PlacesLaw}

test : (b : Bool) → (b ≡ true) ⊎ (b ≡ false)
test true = inl refl
test false = inr refl

-- how often segments have a map
abbrev had : ℕ → List (Part Segment) → ℕ
had m parts = sum_by (times_had m) (map (λ (p : Part Segment). p.piece) parts)

abbrev had_in : ℕ → List (ℕ × List (Part Segment)) → ℕ
had_in m es = sum_by (times_had m) (flat_map (λ (parts : List (Part Segment)). map (λ (p : Part Segment). p.piece) parts) (map (λ e. e.1) es))

had-step : (m : ℕ) (p : Part Segment) (ps : List (Part Segment)) → had m (p ∷ ps) ≡ times_had m p.piece + had m ps
had-step m p ps = sum_by-cons (times_had m) p.piece (map (λ (x : Part Segment). x.piece) ps)

in-step : (m : ℕ) (e : ℕ × List (Part Segment)) (es : List (ℕ × List (Part Segment))) → had_in m (e ∷ es) ≡ had m e.1 + had_in m es
in-step m e es = sum_by-append (times_had m) (map (λ (p : Part Segment). p.piece) e.1) (flat_map (λ (parts : List (Part Segment)). map (λ (p : Part Segment). p.piece) parts) (map (λ x. x.1) es))

-- a segment that stands somewhere counts, by whatever is summed
counted : (f : Segment → ℕ) (parts : List (Part Segment)) (q : ℕ) (x : Spot) → piece_at parts q ≡ Some x → 1 ≤ f x.0 → 1 ≤ sum_by f (map (λ (p : Part Segment). p.piece) parts)
counted f [] q x is some = absurd (cc)
counted f (p ∷ ps) q x is some =
    let step = sum_by-cons f p.piece (map (λ (r : Part Segment). r.piece) ps) in
    elim (test (has p q)) [
      | inl here ↦
          let same : (p.piece, q - p.first) ≡ x = let z : Some (p.piece, q - p.first) ≡ Some x = sym (ap (λ (b : Bool). option_map (λ (r : Part Segment). (r.piece, q - r.first)) (cond b (Some p) (part_at ps q))) here) ∙ is in cc in
          let one = ap (λ (y : Spot). f y.0) same in
          omega (arith, one, some, step)
      | inr past ↦
          let more = counted f ps q x (sym (ap (λ (b : Bool). option_map (λ (r : Part Segment). (r.piece, q - r.first)) (cond b (Some p) (part_at ps q))) past) ∙ is) some in
          omega (arith, more, step)
    ]

at-counts : (m : ℕ) (parts : List (Part Segment)) (q : ℕ) (x : Spot) → piece_at parts q ≡ Some x → x.0.own ≡ Some m → 1 ≤ had m parts
at-counts m parts q x is own = counted (times_had m) parts q x is (own-counts m x.0 own)

-- of one space, the place of a map is that of one page
one-page : (m : ℕ) (parts : List (Part Segment)) (q r : ℕ) (x y : Spot) → piece_at parts q ≡ Some x → piece_at parts r ≡ Some y → x.0.own ≡ Some m → y.0.own ≡ Some m → y.1 ≡ x.1 → had m parts ≤ 1 → r ≡ q
one-page m [] q r x y is there own own' place le = absurd (cc)
one-page m (p ∷ ps) q r x y is there own own' place le =
    let step = had-step m p ps in
    let first : (k : ℕ) (w : Spot) → has p k ≡ true → piece_at (p ∷ ps) k ≡ Some w → (p.piece, k - p.first) ≡ w = λ k w h e. (let z : Some (p.piece, k - p.first) ≡ Some w = sym (ap (λ (b : Bool). option_map (λ (s : Part Segment). (s.piece, k - s.first)) (cond b (Some p) (part_at ps k))) h) ∙ e in cc) in
    let rest : (k : ℕ) (w : Spot) → has p k ≡ false → piece_at (p ∷ ps) k ≡ Some w → piece_at ps k ≡ Some w = λ k w h e. sym (ap (λ (b : Bool). option_map (λ (s : Part Segment). (s.piece, k - s.first)) (cond b (Some p) (part_at ps k))) h) ∙ e in
    elim (test (has p q)) [
      | inl hq ↦ elim (test (has p r)) [
        | inl hr ↦
            let a = ap (λ (w : Spot). w.1) (first q x hq is) in
            let b = ap (λ (w : Spot). w.1) (first r y hr there) in
            let lq = in_range-low p.first p.pages q hq in
            let lr = in_range-low p.first p.pages r hr in
            omega (arith, a, b, place, lq, lr)
        | inr nr ↦ absurd (let one = own-counts m p.piece (ap (λ (w : Spot). w.0.own) (first q x hq is) ∙ own) in let more = at-counts m ps r y (rest r y nr there) own' in omega (arith, step, one, more, le))
      ]
      | inr nq ↦ elim (test (has p r)) [
        | inl hr ↦ absurd (let one = own-counts m p.piece (ap (λ (w : Spot). w.0.own) (first r y hr there) ∙ own') in let more = at-counts m ps q x (rest q x nq is) own in omega (arith, step, one, more, le))
        | inr nr ↦ one-page m ps q r x y (rest q x nq is) (rest r y nr there) own own' place (omega (arith, step, le))
      ]
    ]

-- what a space has, all spaces have
space-counts : (m p : ℕ) (es : List (ℕ × List (Part Segment))) (parts : List (Part Segment)) → finite.find nat_cmp p es ≡ Some parts → had m parts ≤ had_in m es
space-counts m p [] parts is = absurd (cc)
space-counts m p (e ∷ es) parts is = elim (test (is_eq (nat_cmp p e.0))) [
  | inl here ↦
      let same : e.1 ≡ parts = let z : Some e.1 ≡ Some parts = sym (ap (λ (b : Bool). cond b (Some e.1) (finite.find nat_cmp p es)) here) ∙ is in cc in
      let size = ap (had m) same in
      let step = in-step m e es in
      omega (arith, size, step)
  | inr past ↦
      let more = space-counts m p es parts (sym (ap (λ (b : Bool). cond b (Some e.1) (finite.find nat_cmp p es)) past) ∙ is) in
      let step = in-step m e es in
      omega (arith, more, step)
]

key-is : (p k : ℕ) → is_eq (nat_cmp p k) ≡ true → p ≡ k
key-is p k h = eqb-true p k (sym (unsigned_tied p k) ∙ h)

-- two processes
two-spaces : (m p r : ℕ) (es : List (ℕ × List (Part Segment))) (a b : List (Part Segment)) → p ≢ r → finite.find nat_cmp p es ≡ Some a → finite.find nat_cmp r es ≡ Some b → had m a + had m b ≤ had_in m es
two-spaces m p r [] a b ne is there = absurd (cc)
two-spaces m p r (e ∷ es) a b ne is there =
    let step = in-step m e es in
    let here : (k : ℕ) (v : List (Part Segment)) → is_eq (nat_cmp k e.0) ≡ true → finite.find nat_cmp k (e ∷ es) ≡ Some v → had m e.1 ≡ had m v = λ k v h f. (let same : e.1 ≡ v = (let z : Some e.1 ≡ Some v = sym (ap (λ (t : Bool). cond t (Some e.1) (finite.find nat_cmp k es)) h) ∙ f in cc) in ap (had m) same) in
    let rest : (k : ℕ) (v : List (Part Segment)) → is_eq (nat_cmp k e.0) ≡ false → finite.find nat_cmp k (e ∷ es) ≡ Some v → finite.find nat_cmp k es ≡ Some v = λ k v h f. sym (ap (λ (t : Bool). cond t (Some e.1) (finite.find nat_cmp k es)) h) ∙ f in
    elim (test (is_eq (nat_cmp p e.0))) [
      | inl hp ↦ elim (test (is_eq (nat_cmp r e.0))) [
        | inl hr ↦ absurd (ne (key-is p e.0 hp ∙ sym (key-is r e.0 hr)))
        | inr nr ↦ let size = here p a hp is in let more = space-counts m r es b (rest r b nr there) in omega (arith, step, size, more)
      ]
      | inr np ↦ elim (test (is_eq (nat_cmp r e.0))) [
        | inl hr ↦ let size = here r b hr there in let more = space-counts m p es a (rest p a np is) in omega (arith, step, size, more)
        | inr nr ↦ let more = two-spaces m p r es a b ne (rest p a np is) (rest r b nr there) in omega (arith, step, more)
      ]
    ]

spot-parts : (spaces : Spaces) (p q : ℕ) (x : Spot) → spot_at spaces p q ≡ Some x → (parts : List (Part Segment)) × (finite.get spaces p ≡ Some parts) × (piece_at parts q ≡ Some x)
spot-parts spaces p q x is = by_space (finite.get spaces p) refl is
  where
    by_space : (o : Option (List (Part Segment))) → finite.get spaces p ≡ o → option_and_then (λ (ps : List (Part Segment)). piece_at ps q) o ≡ Some x → (parts : List (Part Segment)) × (finite.get spaces p ≡ Some parts) × (piece_at parts q ≡ Some x)
    by_space None e is = absurd (cc)
    by_space (Some parts) e is = (parts, e, is)

private-own : (maps : List (Option Map)) (s : Segment) (k : Kind) → k ≡ Private → OwnFits maps s k → (m : ℕ) × (s.own ≡ Some m) × (holders_of maps m ≡ 1)
private-own maps s Shared e fit = absurd (cc)
private-own maps s Private e fit = (fit.0, fit.1, fit.4)

-- what the segment of a page has for its own map
own-fits : (m : Memory) (p q : ℕ) (x : Spot) → MemoryFits m → spot_at m.spaces p q ≡ Some x → OwnFits m.world.maps x.0 x.0.kind
own-fits m p q x f is =
    let s : IsSpotOf (SegmentFits (length m.world.files.files) m.world.maps) q x = spot-part (SegmentFits (length m.world.files.files) m.world.maps) m.spaces p q x f.segments.ordered f.segments.each is in
    subst (λ (y : Segment). OwnFits m.world.maps y y.kind) s.piece s.fits.own

pub object-fits : (m : Memory) (p q : ℕ) (x : Spot) → MemoryFits m → spot_at m.spaces p q ≡ Some x → ObjectFits (length m.world.files.files) m.world.maps x.0 x.0.object
object-fits m p q x f is =
    let s : IsSpotOf (SegmentFits (length m.world.files.files) m.world.maps) q x = spot-part (SegmentFits (length m.world.files.files) m.world.maps) m.spaces p q x f.segments.ordered f.segments.each is in
    subst (λ (y : Segment). ObjectFits (length m.world.files.files) m.world.maps y y.object) s.piece s.fits.object

-- THE OWN PLACE of a private page is that of no other page.
pub one-owner : (m : Memory) (p q : ℕ) (x : Spot) → MemoryFits m → spot_at m.spaces p q ≡ Some x → x.0.kind ≡ Private
    → (n : ℕ) × (x.0.own ≡ Some n) × ((p' q' : ℕ) (y : Spot) → spot_at m.spaces p' q' ≡ Some y → y.0.own ≡ Some n → y.1 ≡ x.1 → (p' ≡ p) × (q' ≡ q))
one-owner m p q x f is private =
    let own = private-own m.world.maps x.0 x.0.kind private (own-fits m p q x f is) in
    let all : had_in own.0 (finite.entries m.spaces) ≡ 1 = sym (f.segments.holders own.0) ∙ own.2 in
    let a = spot-parts m.spaces p q x is in (
      own.0,
      own.1,
      λ r k y there mine place.
          let b = spot-parts m.spaces r k y there in
          let in_a = sym (finite.get-entries m.spaces p) ∙ a.1 in
          let in_b = sym (finite.get-entries m.spaces r) ∙ b.1 in
          elim (cases_eq r p) [
            | inr ne ↦ absurd (
                let two = two-spaces own.0 p r (finite.entries m.spaces) a.0 b.0 (λ e. ne (sym e)) in_a in_b in
                let one = at-counts own.0 a.0 q x a.2 own.1 in
                let more = at-counts own.0 b.0 k y b.2 mine in
                omega (arith, two, one, more, all))
            | inl e ↦
                let same : b.0 ≡ a.0 = let z : Some b.0 ≡ Some a.0 = sym b.1 ∙ ap (finite.get m.spaces) e ∙ a.1 in cc in
                let le = space-counts own.0 p (finite.entries m.spaces) a.0 in_a in
                (e, one-page own.0 a.0 q k x y a.2 (ap (λ (ps : List (Part Segment)). piece_at ps k) (sym same) ∙ b.2) own.1 mine place (omega (arith, le, all)))
          ],
    )

-- own maps and shown ones apart
abbrev own_one : ℕ → Segment → ℕ
own_one m s = cond (is_number m s.own) 1 0

abbrev shown_one : ℕ → Segment → ℕ
shown_one m s = cond (is_number m s.shown) 1 0

parted : (m : ℕ) (ss : List Segment) → sum_by (times_had m) ss ≡ sum_by (own_one m) ss + sum_by (shown_one m) ss
parted m [] = refl
parted m (s ∷ ss) =
    let a = sum_by-cons (times_had m) s ss in
    let b = sum_by-cons (own_one m) s ss in
    let c = sum_by-cons (shown_one m) s ss in
    let more = parted m ss in
    omega (arith, a, b, c, more)

abbrev segments : List (List (Part Segment)) → List Segment
segments vs = flat_map (λ (parts : List (Part Segment)). map (λ (p : Part Segment). p.piece) parts) vs

counted-in : (f : Segment → ℕ) (p : ℕ) (es : List (ℕ × List (Part Segment))) (parts : List (Part Segment)) → finite.find nat_cmp p es ≡ Some parts → 1 ≤ sum_by f (map (λ (x : Part Segment). x.piece) parts) → 1 ≤ sum_by f (segments (map (λ e. e.1) es))
counted-in f p [] parts is one = absurd (cc)
counted-in f p (e ∷ es) parts is one =
    let step = sum_by-append f (map (λ (x : Part Segment). x.piece) e.1) (segments (map (λ x. x.1) es)) in
    elim (test (is_eq (nat_cmp p e.0))) [
      | inl here ↦
          let same : e.1 ≡ parts = let z : Some e.1 ≡ Some parts = sym (ap (λ (b : Bool). cond b (Some e.1) (finite.find nat_cmp p es)) here) ∙ is in cc in
          let size = ap (λ (ps : List (Part Segment)). sum_by f (map (λ (x : Part Segment). x.piece) ps)) same in
          omega (arith, size, step, one)
      | inr past ↦
          let more = counted-in f p es parts (sym (ap (λ (b : Bool). cond b (Some e.1) (finite.find nat_cmp p es)) past) ∙ is) one in
          omega (arith, more, step)
    ]

-- a zero object that is found is shown
entry-counts : (m z : ℕ) (s : Segment) (xs rest : List (ℕ × ℕ)) (ob : Object) (k : ℕ) → (finite.find nat_cmp z (xs ++ rest) ≡ Some m → 1 ≤ k)
    → finite.find nat_cmp z (cons_option (elim ob as (λ (o : Object). Option (ℕ × ℕ)) [ object.Zero y ↦ option_map (λ (n : ℕ). (y, n)) s.shown | object.File f ↦ None | object.NewZero ↦ None ]) xs ++ rest) ≡ Some m → 1 ≤ shown_one m s + k
entry-counts m z s xs rest (object.File f) k more is = let r = more is in omega (arith, r)
entry-counts m z s xs rest object.NewZero k more is = let r = more is in omega (arith, r)
entry-counts m z s xs rest (object.Zero y) k more is = by_shown s.shown is
  where
    by_shown : (o : Option ℕ) → finite.find nat_cmp z (cons_option (option_map (λ (n : ℕ). (y, n)) o) xs ++ rest) ≡ Some m → 1 ≤ cond (is_number m o) 1 0 + k
    by_shown None is = let r = more is in omega (arith, r)
    by_shown (Some n) is = elim (test (is_eq (nat_cmp z y))) [
      | inl here ↦
          let same : n ≡ m = let w : Some n ≡ Some m = sym (ap (λ (b : Bool). cond b (Some n) (finite.find nat_cmp z (xs ++ rest))) here) ∙ is in cc in
          let one = ap (λ (b : Bool). cond {A = ℕ} b 1 0) (eq-eqb n m same) in
          omega (arith, one)
      | inr past ↦ let r = more (sym (ap (λ (b : Bool). cond b (Some n) (finite.find nat_cmp z (xs ++ rest))) past) ∙ is) in omega (arith, r)
    ]

parts-count : (m z : ℕ) (parts : List (Part Segment)) (rest : List (ℕ × ℕ)) (k : ℕ) → (finite.find nat_cmp z rest ≡ Some m → 1 ≤ k) → finite.find nat_cmp z (filter_map (λ (p : Part Segment). zero_map p.piece) parts ++ rest) ≡ Some m → 1 ≤ sum_by (shown_one m) (map (λ (p : Part Segment). p.piece) parts) + k
parts-count m z [] rest k more is = let r = more is in omega (arith, r)
parts-count m z (p ∷ ps) rest k more is =
    let step = sum_by-cons (shown_one m) p.piece (map (λ (r : Part Segment). r.piece) ps) in
    let all = entry-counts m z p.piece (filter_map (λ (r : Part Segment). zero_map r.piece) ps) rest p.piece.object (sum_by (shown_one m) (map (λ (r : Part Segment). r.piece) ps) + k) (λ e. parts-count m z ps rest k more e) is in
    omega (arith, step, all)

all-count : (m z : ℕ) (vs : List (List (Part Segment))) → finite.find nat_cmp z (flat_map (λ (parts : List (Part Segment)). filter_map (λ (p : Part Segment). zero_map p.piece) parts) vs) ≡ Some m → 1 ≤ sum_by (shown_one m) (segments vs)
all-count m z [] is = absurd (cc)
all-count m z (v ∷ vs) is =
    let step = sum_by-append (shown_one m) (map (λ (p : Part Segment). p.piece) v) (segments vs) in
    let all = parts-count m z v (flat_map (λ (parts : List (Part Segment)). filter_map (λ (p : Part Segment). zero_map p.piece) parts) vs) (sum_by (shown_one m) (segments vs)) (λ e. all-count m z vs e) is in
    omega (arith, step, all)

-- A PRIVATE PAGE OWNS ITS PLACE ALONE.
pub owns-alone : (m : Memory) (p q : ℕ) (x : Spot) → MemoryFits m → spot_at m.spaces p q ≡ Some x → x.0.kind ≡ Private → (n : ℕ) × OwnsAlone m.spaces p q n x.1 x
owns-alone m p q x f is private =
    let one = one-owner m p q x f is private in
    let own = private-own m.world.maps x.0 x.0.kind private (own-fits m p q x f is) in
    let same : own.0 ≡ one.0 = let z : Some own.0 ≡ Some one.0 = sym own.1 ∙ one.1 in cc in
    let all : had_in one.0 (finite.entries m.spaces) ≡ 1 = sym (f.segments.holders one.0) ∙ ap (holders_of m.world.maps) (sym same) ∙ own.2 in
    let a = spot-parts m.spaces p q x is in
    let owns : 1 ≤ own_one one.0 x.0 = let e = ap (λ (t : Bool). cond {A = ℕ} t 1 0) (is-own one.0 x.0.own one.1) in omega (arith, e) in
    let mine = counted-in (own_one one.0) p (finite.entries m.spaces) a.0 (sym (finite.get-entries m.spaces p) ∙ a.1) (counted (own_one one.0) a.0 q x a.2 owns) in
    let split = parted one.0 (segments (map (λ e. e.1) (finite.entries m.spaces))) in (
      one.0,
      record {
        here = is;
        own = one.1;
        place = refl;
        alone = one.2;
        hidden = λ z n at_z e. absurd (
            let found : finite.find nat_cmp z (flat_map (λ (parts : List (Part Segment)). filter_map (λ (r : Part Segment). zero_map r.piece) parts) (map (λ v. v.1) (finite.entries m.spaces))) ≡ Some one.0 =
            sym (finite.get-from_entries nat_cmp_total (flat_map (λ (parts : List (Part Segment)). filter_map (λ (r : Part Segment). zero_map r.piece) parts) (map (λ v. v.1) (finite.entries m.spaces))) z) ∙ at_z ∙ ap (λ (k : ℕ). Some k) e in
            let shows = all-count one.0 z (map (λ v. v.1) (finite.entries m.spaces)) found in
            omega (arith, mine, shows, split, all));
      },
    )

-- a page with a map of its own is private
pub has-own : (maps : List (Option Map)) (s : Segment) (k : Kind) (n : ℕ) → s.own ≡ Some n → OwnFits maps s k → k ≡ Private
has-own maps s Shared n own fit = absurd (let z : None ≡ Some n = sym fit ∙ own in cc)
has-own maps s Private n own fit = refl

pub owner-private : (m : Memory) (p q n i : ℕ) (x : Spot) → MemoryFits m → OwnsAlone m.spaces p q n i x → x.0.kind ≡ Private
owner-private m p q n i x f owns = has-own m.world.maps x.0 x.0.kind n owns.own (own-fits m p q x f owns.here)

-- A PLACE OF NEW ZERO MEMORY, and one of a zero object.
new-zero : (m : Memory) (p q n : ℕ) (x : Spot) → MemoryFits m → spot_at m.spaces p q ≡ Some x → x.0.own ≡ Some n → x.0.object ≡ object.NewZero → IsNewZero m.spaces n x.1
new-zero m p q n x f is own new r k y there mine place =
    let a = owns-alone m p q x f is (has-own m.world.maps x.0 x.0.kind n own (own-fits m p q x f is)) in
    let same : n ≡ a.0 = let z : Some n ≡ Some a.0 = sym own ∙ a.1.own in cc in
    let at = a.1.alone r k y there (mine ∙ ap (λ (j : ℕ). Some j) same) place in
    let spot : x ≡ y = let z : Some x ≡ Some y = sym is ∙ ap (λ (j : ℕ). spot_at m.spaces j q) (sym at.0) ∙ ap (spot_at m.spaces r) (sym at.1) ∙ there in cc in
    ap (λ (w : Spot). w.0.object) (sym spot) ∙ new

pub never-own : (m : Memory) (z n r k : ℕ) (y : Spot) → MemoryFits m → finite.get (zero_maps m.spaces) z ≡ Some n → spot_at m.spaces r k ≡ Some y → y.0.own ≢ Some n
never-own m z n r k y f at there mine =
    let a = owns-alone m r k y f there (has-own m.world.maps y.0 y.0.kind n mine (own-fits m r k y f there)) in
    let same : n ≡ a.0 = let w : Some n ≡ Some a.0 = sym mine ∙ a.1.own in cc in
    a.1.hidden z n at same

-- of one space, the part that shows a map which is had once is the one that has each page which shows it
begun-counts : (n : ℕ) (parts : List (Part Segment)) (first : ℕ) (a : Part Segment) → begins parts first ≡ Some a → a.piece.shown ≡ Some n → 1 ≤ had n parts
begun-counts n [] first a is shows = absurd (cc)
begun-counts n (p ∷ ps) first a is shows =
    let step = had-step n p ps in
    elim (test (p.first == first)) [
      | inl here ↦
          let same : p ≡ a = let z : Some p ≡ Some a = sym (ap (λ (b : Bool). cond b (Some p) (begins ps first)) here) ∙ is in cc in
          let one = shown-counts n p.piece (ap (λ (r : Part Segment). r.piece.shown) same ∙ shows) in
          omega (arith, one, step)
      | inr past ↦
          let more = begun-counts n ps first a (sym (ap (λ (b : Bool). cond b (Some p) (begins ps first)) past) ∙ is) shows in
          omega (arith, more, step)
    ]

one-part : (n : ℕ) (parts : List (Part Segment)) (first k : ℕ) (a : Part Segment) (y : Spot) → begins parts first ≡ Some a → piece_at parts k ≡ Some y → a.piece.shown ≡ Some n → y.0.shown ≡ Some n → had n parts ≤ 1 → has a k ≡ true
one-part n [] first k a y is there shows mine le = absurd (cc)
one-part n (p ∷ ps) first k a y is there shows mine le =
    let step = had-step n p ps in
    let rest : has p k ≡ false → piece_at ps k ≡ Some y = λ e. sym (ap (λ (b : Bool). option_map (λ (s : Part Segment). (s.piece, k - s.first)) (cond b (Some p) (part_at ps k))) e) ∙ there in
    elim (test (p.first == first)) [
      | inl here ↦
          let same : p ≡ a = let z : Some p ≡ Some a = sym (ap (λ (b : Bool). cond b (Some p) (begins ps first)) here) ∙ is in cc in
          elim (test (has p k)) [
            | inl hk ↦ sym (ap (λ (r : Part Segment). has r k) same) ∙ hk
            | inr nk ↦ absurd (
                let one = shown-counts n p.piece (ap (λ (r : Part Segment). r.piece.shown) same ∙ shows) in
                let more = counted (times_had n) ps k y (rest nk) (shown-counts n y.0 mine) in
                omega (arith, step, one, more, le))
          ]
      | inr past ↦
          let later : begins ps first ≡ Some a = sym (ap (λ (b : Bool). cond b (Some p) (begins ps first)) past) ∙ is in
          let more = begun-counts n ps first a later shows in
          elim (test (has p k)) [
            | inl hk ↦ absurd (
                let same : (p.piece, k - p.first) ≡ y = let z : Some (p.piece, k - p.first) ≡ Some y = sym (ap (λ (b : Bool). option_map (λ (s : Part Segment). (s.piece, k - s.first)) (cond b (Some p) (part_at ps k))) hk) ∙ there in cc in
                let one = shown-counts n p.piece (ap (λ (w : Spot). w.0.shown) same ∙ mine) in
                omega (arith, step, one, more, le))
            | inr nk ↦ one-part n ps first k a y later (rest nk) shows mine (omega (arith, step, le))
          ]
    ]

-- THE ONE HOLDER of a zero object's map has each page that shows it.
last-shows : (m : Memory) (p first n : ℕ) (parts : List (Part Segment)) (a : Part Segment) → MemoryFits m → finite.get m.spaces p ≡ Some parts → begins parts first ≡ Some a → a.piece.shown ≡ Some n → holders_of m.world.maps n ≡ 1
    → (r k : ℕ) (y : Spot) → spot_at m.spaces r k ≡ Some y → y.0.shown ≡ Some n → (r ≡ p) × (a.first ≤ k) × (k < a.first + a.pages)
last-shows m p first n parts a f at begun shows held r k y there mine =
    let all : had_in n (finite.entries m.spaces) ≡ 1 = sym (f.segments.holders n) ∙ held in
    let b = spot-parts m.spaces r k y there in
    let in_a = sym (finite.get-entries m.spaces p) ∙ at in
    let in_b = sym (finite.get-entries m.spaces r) ∙ b.1 in
    elim (cases_eq r p) [
      | inr ne ↦ absurd (
          let two = two-spaces n p r (finite.entries m.spaces) parts b.0 (λ e. ne (sym e)) in_a in_b in
          let one = begun-counts n parts first a begun shows in
          let more = counted (times_had n) b.0 k y b.2 (shown-counts n y.0 mine) in
          omega (arith, two, one, more, all))
      | inl e ↦
          let same : b.0 ≡ parts = let z : Some b.0 ≡ Some parts = sym b.1 ∙ ap (finite.get m.spaces) e ∙ at in cc in
          let le = space-counts n p (finite.entries m.spaces) parts in_a in
          let has_k = one-part n parts first k a y begun (ap (λ (ps : List (Part Segment)). piece_at ps k) (sym same) ∙ b.2) shows mine (omega (arith, le, all)) in
          (e, in_range-low a.first a.pages k has_k, in_range-high a.first a.pages k has_k)
    ]

pub places_law : PlacesLaw
places_law = record {
  alone = λ m p q n x f is own.
      let a = owns-alone m p q x f is (has-own m.world.maps x.0 x.0.kind n own (own-fits m p q x f is)) in
      let same : a.0 ≡ n = let z : Some a.0 ≡ Some n = sym a.1.own ∙ own in cc in
      subst (λ (j : ℕ). OwnsAlone m.spaces p q j x.1 x) same a.1;
  zeros = new-zero;
  shown = λ m z n i f at r k y there mine place. absurd (never-own m z n r k y f at there mine);
  last = last-shows;
}

-- NO PAGE SHOWS A MAP that is a page's own.
pub not-shown : (m : Memory) (p q r k n : ℕ) (x y : Spot) → MemoryFits m → spot_at m.spaces p q ≡ Some x → x.0.own ≡ Some n → spot_at m.spaces r k ≡ Some y → y.0.shown ≢ Some n
not-shown m p q r k n x y f is own there shows =
    let mine = private-own m.world.maps x.0 x.0.kind (has-own m.world.maps x.0 x.0.kind n own (own-fits m p q x f is)) (own-fits m p q x f is) in
    let same : mine.0 ≡ n = let z : Some mine.0 ≡ Some n = sym mine.1 ∙ own in cc in
    let all : had_in n (finite.entries m.spaces) ≡ 1 = sym (f.segments.holders n) ∙ ap (holders_of m.world.maps) (sym same) ∙ mine.2 in
    let a = spot-parts m.spaces p q x is in
    let b = spot-parts m.spaces r k y there in
    let owns : 1 ≤ own_one n x.0 = let e = ap (λ (t : Bool). cond {A = ℕ} t 1 0) (is-own n x.0.own own) in omega (arith, e) in
    let shown : 1 ≤ shown_one n y.0 = let e = ap (λ (t : Bool). cond {A = ℕ} t 1 0) (is-own n y.0.shown shows) in omega (arith, e) in
    let one = counted-in (own_one n) p (finite.entries m.spaces) a.0 (sym (finite.get-entries m.spaces p) ∙ a.1) (counted (own_one n) a.0 q x a.2 owns) in
    let more = counted-in (shown_one n) r (finite.entries m.spaces) b.0 (sym (finite.get-entries m.spaces r) ∙ b.1) (counted (shown_one n) b.0 k y b.2 shown) in
    let split = parted n (segments (map (λ e. e.1) (finite.entries m.spaces))) in
    omega (arith, one, more, split, all)
