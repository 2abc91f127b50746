-- A mapping takes the place of what was mapped in its range.
use Rattle.std.proofs.Common.{◌≡◌, ◌≢◌, ℕ, ◌+◌, ◌-◌, ◌*◌, ◌<◌, ◌≤◌, Bool, true, false, cond, eqb, List, [], ◌∷◌, ◌++◌, length, replicate, Option, Some, None, refl, sym, ap, ◌∙◌, inl, inr, subst, arith}
use Rattle.std.specs.Prelude.{Result, option_map, is_some, IsSome, nat_lt, slice_index_or, slice_set}
use Rattle.std.specs.FinMap as finite
use Rattle.std.specs.FinSet as set
use Rattle.std.specs.Ordering.{nat_cmp}
use Rattle.std.specs.Cmp.{nat_cmp_total}
use Rattle.std.proofs.lemmas.Bool.{ltb-true, cases_eq}
use Rattle.seg_vn.specs.addr_space.Space.{Part, part, piece_at, part_at, with_new_part}
use Rattle.seg_vn.specs.anon_map.Maps.{Map, IsMapThere, IsUnused, holders_of, places_of}
use Rattle.seg_vn.specs.page_store.Notes.{Notes}
use Rattle.seg_vn.specs.vnode_files.Files.{FilesSeen}
use Rattle.seg_vn.specs.vm_types.declared.call.Errno.{Errno}
use Rattle.seg_vn.specs.vm_types.declared.call.Kind.{Kind}
use Rattle.seg_vn.specs.vm_types.declared.call.Kind.TheVariants.{Shared, Private}
use Rattle.seg_vn.specs.vm_types.declared.call.Object.{Object}
use Rattle.seg_vn.specs.vm_types.declared.call.Object.TheVariants as object
use Rattle.seg_vn.specs.vm_types.declared.call.Place.TheVariants.{At}
use Rattle.seg_vn.specs.vm_types.declared.call.Reply.{Reply}
use Rattle.seg_vn.specs.vm_types.declared.call.Reply.TheVariants.{Refused, Mapped}
use Rattle.seg_vn.specs.flat_model.Access.{with_space}
use Rattle.seg_vn.specs.flat_model.Flat.{Cell, Flat, without_unnamed}
use Rattle.seg_vn.specs.flat_model.Mapping.{cells_of, new_number, object_for, own_for, prot_read_write, with_object, without_pages, with_mapping}
use Rattle.seg_vn.specs.flat_model.Refusals.{or_refused}
use Rattle.seg_vn.specs.flat_model.Space.{is_in_range, without_range, with_cells}
use Rattle.seg_vn.specs.flat_model.Step.{effect}
use Rattle.seg_vn.specs.flat_model.Words.{page, pages_in}
use Rattle.seg_vn.specs.flat_model.Shapes.{RespectsShape, SameShape}
use Rattle.seg_vn.proofs.flat_model.ShapeSteps.{range-same}
use Rattle.seg_vn.proofs.flat_model.Shapes.{same-cells, same-number, same-space as space-alike}
use Rattle.seg_vn.proofs.flat_model.Ranges.{in_range-is, get-insert, get-insert_here, get-insert_apart}
use Rattle.seg_vn.specs.vm_world.CountsFit.{ObjectFits, slots_for_part}
use Rattle.seg_vn.specs.vm_world.FlatMemory.{Memory, flat_memory, zero_maps}
use Rattle.seg_vn.specs.vm_world.MapSteps.{maps_made, maps_held}
use Rattle.seg_vn.specs.vm_world.MemoryFits.{MemoryFits}
use Rattle.seg_vn.specs.vm_world.Segments.{Spot, Spaces}
use Rattle.seg_vn.specs.vm_world.SegmentSteps.{ChangesSegments, HasPlace, IsOwnNew, MayCome, MayMakeZero, with_new_cells, with_zero_object, with_part_come, with_zero_part, segment_cell}
use Rattle.seg_vn.specs.vm_world.Serving.{ModifiesNone}
use Rattle.seg_vn.specs.vm_world.World.{World}
use Rattle.seg_vn.specs.vm_world.ZeroObjects.{AreSameZeros, KnowsZeros, free_number}
use Rattle.seg_vn.specs.vm_world.declared.segment.Segment.{Segment}
use Rattle.seg_vn.proofs.vm_world.ComingParts.{zero-there}
use Rattle.seg_vn.proofs.vm_world.HeldObjects.{holding_part, with_holder, no-process, holder-fits, holder-knows, held-comes, held-knows}
use Rattle.seg_vn.proofs.vm_world.KeptMaps.{same-holders, same-places}
use Rattle.seg_vn.proofs.vm_world.KnownZeros.{known-other, known-unnamed, known-below, known-come, known-made}
use Rattle.seg_vn.proofs.vm_world.MapChanges.{held-places}
use Rattle.seg_vn.proofs.vm_world.Maps.{insert-twice}
use Rattle.seg_vn.proofs.vm_world.MoreNumbers.{past-none}
use Rattle.seg_vn.proofs.vm_world.SegmentCells.{segment_cells}
use Rattle.seg_vn.proofs.vm_world.SegmentSteps.{segment_rule}
use Rattle.seg_vn.proofs.vm_world.Unnamed.{cells-after-pages, object-after-pages}
use Rattle.seg_vn.proofs.vm_world.Shapes.{cells-respects, pages-respects, same-respects, zero-respects}
use Rattle.seg_vn.proofs.seg_ops.Modified.{modifies-same}
use Rattle.seg_vn.specs.Clears.{SpaceFits, ChangesSpace, GivesBack}
use Rattle.seg_vn.proofs.ClearedSpaces.{cut-map}
use Rattle.mmap_calls.specs.declared.maps.Anons.{Anons}
use Rattle.mmap_calls.specs.declared.refusals.MapRequest.{MapRequest}
use Rattle.mmap_calls.specs.Looks.{kind_and_object}
use Rattle.mmap_calls.specs.Answers.{AnswersAtOnce}
use Rattle.mmap_calls.specs.Refusals.{IsMapRequest, IsMapRefusal, is_object_there, map_of_object, map_request, map_call, most_allowed, slots_for_pages}
use Rattle.mmap_calls.specs.Rooms.{AreMade, HasRoomAt}
use Rattle.mmap_calls.proofs.CutPlaces.{same-space}
use Rattle.mmap_calls.proofs.MapResults.{most-seen, passed, placed}
use Rattle.mmap_calls.proofs.RoomAfter.{HoldsFor, IsCleared, holds-none, holds-object, room-after}

-- one change after another, said by a function that gives the same where flat memory has the shape that the first leaves
pub changes-as : (p : ℕ) (u v w : Memory) (first second both : Flat → Flat) → RespectsShape second → ChangesSegments p u v first → ChangesSegments p v w second
    → ((born : set.FinSet nat_cmp) (notes : Notes) → SameShape (flat_memory v born notes) (first (flat_memory u born notes)) → second (first (flat_memory u born notes)) ≡ both (flat_memory u born notes)) → ChangesSegments p u w both
changes-as p u v w first second both respects one two same =
    let c = segment_rule.joined p u v w first second respects one two in
    segment_rule.same p u w (λ F. second (first F)) both (λ born notes. same born notes (one.shaped born notes)) c

-- cells that come where others go respect shapes
range-respects : (p first n : ℕ) (cell : ℕ → Cell) → RespectsShape (λ F. with_new_cells (with_space F p (without_range (cells_of F p) first n)) p first n cell)
range-respects p first n cell F G same = cells-respects p first n cell (with_space F p (without_range (cells_of F p) first n)) (with_space G p (without_range (cells_of G p) first n))
    (space-alike F G p (without_range (cells_of F p) first n) (without_range (cells_of G p) first n) same (range-same (cells_of F p) (cells_of G p) first n (same-cells F G p same)))

-- a process whose parts changed is alive with the new ones
pub fits-after : (p : ℕ) (m : Memory) (w : World) (spaces : Spaces) (parts : List (Part Segment)) (zeros : List (Option ℕ)) (f : Flat → Flat) → ChangesSpace p m (record { world = w; spaces = finite.insert spaces p parts }) zeros f → SpaceFits w zeros (finite.insert spaces p parts) p parts
fits-after p m w spaces parts zeros f c = record { here = get-insert_here spaces p parts; memory = c.changes.memory; known = c.known }

-- TO THE CLEARED RANGE: numbers, and two cuts
pub numbers-after : (m : Memory) (p : ℕ) (parts : List (Part Segment)) (zeros then : List (Option ℕ)) (w : World) (more : ℕ) → SpaceFits m.world zeros m.spaces p parts → w ≡ record m.world { maps = m.world.maps ++ replicate more None } → AreSameZeros zeros then
    → ChangesSpace p m (record { world = w; spaces = m.spaces }) then (λ F. F)
numbers-after m p parts zeros then w more fits is same = record {
  changes = subst (λ (w : World). ChangesSegments p m (record { world = w; spaces = m.spaces }) (λ F. F)) (sym is) (segment_rule.numbers m p more fits.memory);
  known = known-other zeros then m.spaces same fits.known;
}

-- the parts that take their place fit then
pub fits-then : (m : Memory) (p : ℕ) (parts new : List (Part Segment)) (zeros then : List (Option ℕ)) (w : World) → SpaceFits m.world zeros m.spaces p parts → ChangesSpace p m (record { world = w; spaces = m.spaces }) then (λ F. F) → new ≡ parts → SpaceFits w then m.spaces p new
fits-then m p parts new zeros then w fits c is = record { here = fits.here ∙ ap (λ (ps : List (Part Segment)). Some ps) (sym is); memory = c.changes.memory; known = c.known }

-- and so do those of a further step
pub fits-step : (p : ℕ) (u v : World) (spaces : Spaces) (a b : List (Part Segment)) (zeros then : List (Option ℕ)) (f : Flat → Flat) → SpaceFits u zeros spaces p a
    → ((s : Spaces) → SpaceFits u zeros s p a → ChangesSpace p (record { world = u; spaces = s }) (record { world = v; spaces = finite.insert s p b }) then f) → SpaceFits v then (finite.insert spaces p b) p b
fits-step p u v spaces a b zeros then f fits step = fits-after p (record { world = u; spaces = spaces }) v spaces b then f (step spaces fits)

-- one step after another
pub joined : (p : ℕ) (m : Memory) (u v : World) (spaces : Spaces) (a b : List (Part Segment)) (zeros then : List (Option ℕ)) (f : Flat → Flat) → RespectsShape f → ChangesSpace p m (record { world = u; spaces = finite.insert spaces p a }) zeros (λ F. F)
    → ChangesSpace p (record { world = u; spaces = finite.insert spaces p a }) (record { world = v; spaces = finite.insert (finite.insert spaces p a) p b }) then f
    → ChangesSpace p m (record { world = v; spaces = finite.insert spaces p b }) then f
joined p m u v spaces a b zeros then f respects first second =
    subst (λ (s : Spaces). ChangesSpace p m (record { world = v; spaces = s }) then f) (insert-twice spaces p a b)
    (record { changes = segment_rule.joined p m (record { world = u; spaces = finite.insert spaces p a }) (record { world = v; spaces = finite.insert (finite.insert spaces p a) p b }) (λ F. F) f respects first.changes second.changes; known = second.known })

pub cuts-done : (m : Memory) (p : ℕ) (u v w : World) (parts taken a b : List (Part Segment)) (zeros then zv zw : List (Option ℕ)) (more : ℕ) → SpaceFits m.world zeros m.spaces p parts
    → u ≡ record m.world { maps = m.world.maps ++ replicate more None } → AreSameZeros zeros then → taken ≡ parts
    → ((s : Spaces) → SpaceFits u then s p taken → ChangesSpace p (record { world = u; spaces = s }) (record { world = v; spaces = finite.insert s p a }) zv (λ F. F))
    → ((s : Spaces) → SpaceFits v zv s p a → ChangesSpace p (record { world = v; spaces = s }) (record { world = w; spaces = finite.insert s p b }) zw (λ F. F))
    → ChangesSpace p m (record { world = w; spaces = finite.insert m.spaces p b }) zw (λ F. F)
cuts-done m p u v w parts taken a b zeros then zv zw more fits is alike same first second =
    let t : Spaces = finite.insert m.spaces p a in
    let numbers = numbers-after m p parts zeros then u more fits is alike in
    let begun = fits-then m p parts taken zeros then u fits numbers same in
    let once = fits-step p u v m.spaces taken a then zv (λ F. F) begun first in
    let one = segment_rule.joined p m (record { world = u; spaces = m.spaces }) (record { world = v; spaces = t }) (λ F. F) (λ F. F) same-respects numbers.changes (first m.spaces begun).changes in
    joined p m v w m.spaces a b zv zw (λ F. F) same-respects (record { changes = one; known = once.known }) (second t once)

-- numbers that name no map hold none
pub more-holders : (k : ℕ) (maps new : List (Option Map)) (n : ℕ) → new ≡ maps ++ replicate k None → holders_of new n ≡ holders_of maps n
more-holders k maps new n is = ap (λ (ms : List (Option Map)). holders_of ms n) is ∙ same-holders maps (maps ++ replicate k None) n (past-none maps k n)

pub more-places : (k : ℕ) (maps new : List (Option Map)) (n : ℕ) → new ≡ maps ++ replicate k None → length (places_of new n) ≡ length (places_of maps n)
more-places k maps new n is = ap (λ (ms : List (Option Map)). length (places_of ms n)) is ∙ ap (λ (ps : List (Option ℕ)). length ps) (same-places maps (maps ++ replicate k None) n (past-none maps k n))

-- room that was taken before is room with more numbers
pub room-later : (items : List (Option ℕ)) (room more k : ℕ) (maps new : List (Option Map)) (parts now : List (Part Segment)) (at : ℕ) → new ≡ maps ++ replicate k None → now ≡ parts → HasRoomAt items room more maps parts at → HasRoomAt items room more new now at
room-later items room more k maps new parts now at is same has =
    subst (λ (ps : List (Part Segment)). HasRoomAt items room more new ps at) (sym same) (record {
      empty = has.empty;
      roomy = has.roomy;
      few = λ x n there shown. (let few = has.few x n there shown in let e = more-holders k maps new n is in omega (arith, few, e));
    })

-- the range is free once it is cleared
none-part : (ps : List (Part Segment)) (q : ℕ) → piece_at ps q ≡ None → part_at ps q ≡ None
none-part ps q is = by_part (part_at ps q) refl is
  where
    by_part : (o : Option (Part Segment)) → part_at ps q ≡ o → option_map {U = Spot} (λ (p : Part Segment). (p.piece, q - p.first)) o ≡ None → part_at ps q ≡ None
    by_part None e is = e
    by_part (Some p) e is = absurd (let y : Spot = (p.piece, q - p.first) in let z : Some y ≡ None = is in cc)

pub range-free : (cut left : List (Part Segment)) (first n : ℕ) → ((k : ℕ) → piece_at left k ≡ cond (is_in_range first n k) None (piece_at cut k)) → (k : ℕ) → first ≤ k → k < first + n → part_at left k ≡ None
range-free cut left first n clear k low high =
    none-part left k (clear k ∙ ap (λ (b : Bool). cond b None (piece_at cut k)) (in_range-is first n k low high))

-- the zero object that has a map
pub named-object : (zeros : List (Option ℕ)) (o : Object) (n : ℕ) → map_of_object zeros o ≡ Some n → (z : ℕ) × (o ≡ object.Zero z) × (slice_index_or zeros z None ≡ Some n)
named-object zeros (object.Zero z) n is = (z, refl, is)
named-object zeros (object.File f) n is = absurd (let k : None ≡ Some n = is in cc)
named-object zeros object.NewZero n is = absurd (let k : None ≡ Some n = is in cc)

-- ALL MAPPINGS but one of shared new zero memory make no object
abbrev pub IsOld : Kind → Object → Type 0
IsOld Shared object.NewZero = ⊥
IsOld k o = Unit {0}

no-object : (G : Flat) (k : Kind) (o : Object) (n : ℕ) → IsOld k o → G ≡ with_object G k o n
no-object G Shared (object.File f) n old = refl
no-object G Shared (object.Zero z) n old = refl
no-object G Shared object.NewZero n old = absurd old
no-object G Private o n old = refl

same-object : (G : Flat) (k : Kind) (o : Object) → IsOld k o → o ≡ object_for G k o
same-object G Shared (object.File f) old = refl
same-object G Shared (object.Zero z) old = refl
same-object G Shared object.NewZero old = absurd old
same-object G Private o old = refl

slots-old : (k : Kind) (o : Object) (n : ℕ) → IsOld k o → (elim k as (λ _. ℕ) [ Private ↦ n | Shared ↦ 0 ]) ≡ slots_for_pages k o n
slots-old Shared (object.File f) n old = refl
slots-old Shared (object.Zero z) n old = refl
slots-old Shared object.NewZero n old = absurd old
slots-old Private o n old = refl

-- the new segment
abbrev pub new_piece : World → MapRequest → Anons → Segment
new_piece w q a = record { pages = pages_in q.length; prot = q.prot; max = most_allowed w q.kind q.object; kind = q.kind; object = a.object; index = page q.offset; own = a.own; shown = a.shown }

abbrev pub new_part : World → MapRequest → Anons → Part Segment
new_part w q a = part (page q.addr) (pages_in q.length) (new_piece w q a)

-- THE FLAT MEMORY with the new cells is that of the mapping
module _ (m : Memory) (p : ℕ) (q : MapRequest) (zeros : List (Option ℕ)) (there : is_object_there m.world zeros q.object ≡ true) (born : set.FinSet nat_cmp) (notes : Notes) where
  abbrev F : Flat
  F = flat_memory m born notes

  abbrev U : Flat
  U = with_space F p (without_range (cells_of F p) (page q.addr) (pages_in q.length))

  pub mapped-old : (own shown : Option ℕ) → IsOld q.kind q.object
      → with_new_cells U p (page q.addr) (pages_in q.length) (segment_cell (new_piece m.world q (record { object = q.object; own = own; shown = shown }))) ≡ with_mapping F p (map_request q) (page q.addr)
  mapped-old own shown old =
      let first : ℕ = page q.addr in
      let n : ℕ = pages_in q.length in
      let whole = no-object U q.kind q.object n old in
      let same = same-object U q.kind q.object old in
      let most = sym (most-seen m born notes zeros q.kind q.object there) in
      λ i. without_unnamed (with_space (whole i) p (with_cells (cells_of U p) first n (λ j. record { prot = q.prot; max = most i; kind = q.kind; object = same i; index = page q.offset + j; own = own_for q.kind q.object })))

  pub mapped-new : (z : ℕ) (own shown : Option ℕ) → q.kind ≡ Shared → q.object ≡ object.NewZero → z ≡ new_number U
      → with_new_cells (with_zero_object U z (pages_in q.length)) p (page q.addr) (pages_in q.length) (segment_cell (new_piece m.world q (record { object = object.Zero z; own = own; shown = shown }))) ≡ with_mapping F p (map_request q) (page q.addr)
  mapped-new z own shown kind new number =
      let first : ℕ = page q.addr in
      let n : ℕ = pages_in q.length in
      (λ i. with_new_cells (with_zero_object U z n) p first n (λ j. record { prot = q.prot; max = most_allowed m.world (kind i) (new i); kind = kind i; object = object.Zero z; index = page q.offset + j; own = own_for (kind i) (object.Zero z) }))
      ∙ (λ i. with_new_cells (with_zero_object U (number i) n) p first n (λ j. record { prot = q.prot; max = prot_read_write; kind = Shared; object = object.Zero (number i); index = page q.offset + j; own = None }))
      ∙ sym (λ i. with_mapping F p (record { place = At q.addr; len = q.length; prot = q.prot; kind = kind i; object = new i; offset = q.offset }) first)

-- two processes, one after the other or the other way round
insert-turned : {X : Type 0} (s : finite.FinMap nat_cmp X) (p g : ℕ) (u v : X) → p ≢ g → finite.insert (finite.insert s p u) g v ≡ finite.insert (finite.insert s g v) p u
insert-turned s p g u v apart = finite.same_map nat_cmp_total finite.nat_cmp-IsAntisymmetric _ _ (λ q. elim (cases_eq q g) [
  | inl at ↦
      ap (finite.get (finite.insert (finite.insert s p u) g v)) at ∙ get-insert_here (finite.insert s p u) g v
      ∙ sym (ap (finite.get (finite.insert (finite.insert s g v) p u)) at ∙ get-insert_apart (finite.insert s g v) p u g (λ e. apart (sym e)) ∙ get-insert_here s g v)
  | inr far ↦
      get-insert_apart (finite.insert s p u) g v q far ∙ get-insert s p u q
      ∙ sym (get-insert (finite.insert s g v) p u q ∙ ap (cond (eqb q p) (Some u)) (get-insert_apart s g v q far))
])

-- Once the pieces are cut, with a holder of the zero object that is named, if one is.
module _ (m : Memory) (p : ℕ) (cut : List (Part Segment)) (zeros then : List (Option ℕ)) (w : World) (o : Object) (held : Option ℕ) (named : held ≡ map_of_object zeros o) (alike : AreSameZeros zeros then)
    (cuts : ChangesSpace p m (record { world = w; spaces = finite.insert m.spaces p cut }) then (λ F. F)) where
  abbrev ready : Memory
  ready = record { world = w; spaces = finite.insert m.spaces p cut }

  ready-fits : SpaceFits w then ready.spaces p cut
  ready-fits = fits-after p m w m.spaces cut then (λ F. F) cuts

  module _ (z k : ℕ) (some : held ≡ Some k) (is : slice_index_or zeros z None ≡ Some k) (g : ℕ) (absent : finite.get ready.spaces g ≡ None) where
    ready-zero : finite.get (zero_maps ready.spaces) z ≡ Some k
    ready-zero = cuts.known z ∙ alike z ∙ is

    ready-apart : p ≢ g
    ready-apart same = let e : Some cut ≡ None = sym ready-fits.here ∙ ap (finite.get ready.spaces) same ∙ absent in cc

    ready-held : SpaceFits (record w { maps = maps_held w.maps held }) then (finite.insert ready.spaces g (holding_part z k ∷ [])) p cut
    ready-held = record {
      here = get-insert_apart ready.spaces g (holding_part z k ∷ []) p ready-apart ∙ ready-fits.here;
      memory = subst (λ (h : Option ℕ). MemoryFits (record { world = record w { maps = maps_held w.maps h }; spaces = finite.insert ready.spaces g (holding_part z k ∷ []) })) (sym some) (holder-fits ready g z k cuts.changes.memory absent ready-zero);
      known = holder-knows ready g z k cuts.changes.memory absent ready-zero then cuts.known;
    }

  -- there are spaces in which the range may be cleared
  pub may-clear : (s : Spaces) × SpaceFits (record w { maps = maps_held w.maps held }) then s p cut
  may-clear = by_held held refl
    where
      by_held : (h : Option ℕ) → held ≡ h → (s : Spaces) × SpaceFits (record w { maps = maps_held w.maps held }) then s p cut
      by_held None e = (ready.spaces, subst (λ (h : Option ℕ). SpaceFits (record w { maps = maps_held w.maps h }) then ready.spaces p cut) (sym e) ready-fits)
      by_held (Some k) e =
          let n = named-object zeros o k (sym named ∙ e) in
          let g = no-process ready.spaces in
          (finite.insert ready.spaces g.0 (holding_part n.0 k ∷ []), ready-held n.0 k e n.2 g.0 g.1)

-- THE MAPPING TAKES ITS PLACE once its range is cut free and cleared, with a holder of its zero object, if it names one.
module _ (m : Memory) (p : ℕ) (parts cut left : List (Part Segment)) (zeros then after : List (Option ℕ)) (w x : World) (q : MapRequest) (held : Option ℕ)
    (fits : SpaceFits m.world zeros m.spaces p parts) (asks : IsMapRequest q) (due : IsMapRefusal m p q None) (named : held ≡ map_of_object zeros q.object) (alike : AreSameZeros zeros then)
    (cuts : ChangesSpace p m (record { world = w; spaces = finite.insert m.spaces p cut }) then (λ F. F))
    (looks : (k : ℕ) → option_map kind_and_object (piece_at cut k) ≡ option_map kind_and_object (piece_at parts k))
    (lengths : (z n : ℕ) → slice_index_or zeros z None ≡ Some n → length (places_of w.maps n) ≡ length (places_of m.world.maps n))
    (clears : (s : Spaces) → SpaceFits (record w { maps = maps_held w.maps held }) then s p cut
    → ChangesSpace p (record { world = record w { maps = maps_held w.maps held }; spaces = s }) (record { world = x; spaces = finite.insert s p left }) after (λ F. without_pages F p (page q.addr) (pages_in q.length)))
    (gives : GivesBack (record w { maps = maps_held w.maps held }) x)
    (pages : (k : ℕ) → piece_at left k ≡ cond (is_in_range (page q.addr) (pages_in q.length) k) None (piece_at cut k)) where
  abbrev first : ℕ
  first = page q.addr

  abbrev n : ℕ
  n = pages_in q.length

  abbrev mid : Memory
  mid = record { world = w; spaces = finite.insert m.spaces p cut }

  mid-fits : SpaceFits w then mid.spaces p cut
  mid-fits = ready-fits m p cut zeros then w q.object held named alike cuts

  listed-there : (z k : ℕ) → slice_index_or zeros z None ≡ Some k → IsMapThere w.maps k
  listed-there z k is = zero-there mid cuts.changes.memory z k (cuts.known z ∙ alike z ∙ is)

  cleared-if : (s S : Spaces) → MemoryFits (record { world = x; spaces = s }) → s ≡ finite.insert S p left → IsCleared m (record { world = x; spaces = s }) zeros S p parts left first n
  cleared-if s S fit is = record {
    fits = fit;
    spaces = is;
    looks = λ k. ap (option_map kind_and_object) (pages k) ∙ cut-map kind_and_object (is_in_range first n k) (piece_at cut k) ∙ ap (cond (is_in_range first n k) None) (looks k);
    lengths = λ z k is there. gives.lengths k there ∙ ap (λ (ps : List (Option ℕ)). length ps) (held-places w.maps held k (listed-there z k is)).1 ∙ lengths z k is;
  }

  free-range : (k : ℕ) → first ≤ k → k < first + n → part_at left k ≡ None
  free-range = range-free cut left first n pages

  -- where nothing is held
  module _ (none : held ≡ None) where
    pub plain-cleared : ChangesSpace p m (record { world = x; spaces = finite.insert m.spaces p left }) after (λ F. without_pages F p first n)
    plain-cleared = joined p m w x m.spaces cut left then after (λ F. without_pages F p first n) (pages-respects p first n) cuts
        (subst (λ (h : Option ℕ). (s : Spaces) → SpaceFits (record w { maps = maps_held w.maps h }) then s p cut → ChangesSpace p (record { world = record w { maps = maps_held w.maps h }; spaces = s }) (record { world = x; spaces = finite.insert s p left }) after (λ F. without_pages F p first n)) none clears
        mid.spaces mid-fits)

    plain-room : x.anon.reserved + slots_for_pages q.kind q.object n ≤ length x.anon.counts
    plain-room =
        let c = plain-cleared.changes in
        let room = room-after m (record { world = x; spaces = finite.insert m.spaces p left }) zeros m.spaces p parts left q fits due (holds-none m zeros q.object p parts fits.here) (cleared-if (finite.insert m.spaces p left) m.spaces c.memory refl) in
        let slots = c.machine.slots in
        omega (arith, room, slots)

  -- where a zero object is, as if a process that isn't there showed it
  module _ (z k : ℕ) (some : held ≡ Some k) (is : slice_index_or zeros z None ≡ Some k) (g : ℕ) (absent : finite.get mid.spaces g ≡ None) where
    mid-zero : finite.get (zero_maps mid.spaces) z ≡ Some k
    mid-zero = ready-zero m p cut zeros then w q.object held named alike cuts z k some is g absent

    apart : p ≢ g
    apart = ready-apart m p cut zeros then w q.object held named alike cuts z k some is g absent

    abbrev held_spaces : Spaces
    held_spaces = finite.insert mid.spaces g (holding_part z k ∷ [])

    held-fits : SpaceFits (record w { maps = maps_held w.maps held }) then held_spaces p cut
    held-fits = ready-held m p cut zeros then w q.object held named alike cuts z k some is g absent

    held-cleared : ChangesSpace p (with_holder mid g z k) (record { world = x; spaces = finite.insert held_spaces p left }) after (λ F. without_pages F p first n)
    held-cleared = subst (λ (h : Option ℕ). ChangesSpace p (record { world = record w { maps = maps_held w.maps h }; spaces = held_spaces }) (record { world = x; spaces = finite.insert held_spaces p left }) after (λ F. without_pages F p first n)) some (clears held_spaces held-fits)

    held-room : q.object ≡ object.Zero z → x.anon.reserved + slots_for_pages q.kind q.object n ≤ length x.anon.counts
    held-room names =
        let c = held-cleared.changes in
        let S : Spaces = finite.insert m.spaces g (holding_part z k ∷ []) in
        let absent-before : finite.get m.spaces g ≡ None = sym (get-insert_apart m.spaces p cut g (λ e. apart (sym e))) ∙ absent in
        let spaces : finite.insert held_spaces p left ≡ finite.insert S p left = ap (λ (s : Spaces). finite.insert s p left) (insert-turned m.spaces p g cut (holding_part z k ∷ []) apart) ∙ insert-twice S p cut left in
        let holds = subst (λ (o : Object). HoldsFor m zeros o p parts S) (sym names) (holds-object m zeros p g z k parts fits.here absent-before is) in
        let room = room-after m (record { world = x; spaces = finite.insert held_spaces p left }) zeros S p parts left q fits due holds (cleared-if (finite.insert held_spaces p left) S c.memory spaces) in
        let one = c.machine.slots in
        let slots = cuts.changes.machine.slots in
        omega (arith, room, one, slots)

  -- there are slots for the mapping
  pub roomy : x.anon.reserved + slots_for_pages q.kind q.object n ≤ length x.anon.counts
  roomy = by_held held refl
    where
      by_held : (h : Option ℕ) → held ≡ h → x.anon.reserved + slots_for_pages q.kind q.object n ≤ length x.anon.counts
      by_held None e = plain-room e
      by_held (Some k) e =
          let o = named-object zeros q.object k (sym named ∙ e) in
          let g = no-process mid.spaces in
          held-room o.0 k e o.2 g.0 g.1 o.1

  -- the place of the new part
  has-place : (a : Anons) → HasPlace left (new_part m.world q a)
  has-place a =
      let pass = passed m p parts zeros fits q due in
      let small = asks.offset in
      let few = asks.length in
      record { placed = placed q (new_piece m.world q a) pass.valid; pages = refl; end = omega (arith, small, few); within = pass.within; free = free-range }

  there : is_object_there m.world zeros q.object ≡ true
  there = (passed m p parts zeros fits q due).there

  -- what is to be shown, for these anon maps
  abbrev pub Goal : Anons → List (Option Map) → List (Option ℕ) → Type 0
  Goal a maps now = ChangesSpace p m (record { world = record x { anon = record x.anon { reserved = x.anon.reserved + slots_for_pages q.kind q.object n }; maps = maps }; spaces = finite.insert m.spaces p (with_new_part (new_part m.world q a) left) }) now (λ F. with_mapping F p (map_request q) first)

  -- A FILE, or private new zero memory
  plain : (own : Option ℕ) → held ≡ None → IsOld q.kind q.object → ((z : ℕ) → q.object ≡ object.Zero z → ⊥) → IsOwnNew x.maps (new_piece m.world q (record { object = q.object; own = own; shown = None })) q.kind
      → ObjectFits (length x.files.files) x.maps (new_piece m.world q (record { object = q.object; own = own; shown = None })) q.object → Goal (record { object = q.object; own = own; shown = None }) (maps_made x.maps own n) after
  plain own none old unnamed made fit =
      let a : Anons = record { object = q.object; own = own; shown = None } in
      let s : Segment = new_piece m.world q a in
      let y : Part Segment = new_part m.world q a in
      let l : Memory = record { world = x; spaces = finite.insert m.spaces p left } in
      let c = plain-cleared none in
      let slots = slots-old q.kind q.object n old in
      let here = get-insert_here m.spaces p left in
      let room = plain-room none in
      let may : MayCome l left y = record { place = has-place a; object = fit; zero = λ z k is. absurd (unnamed z (zero-named q.object z k is)); own = made; room = omega (arith, slots, room) } in
      let all = changes-as p m l (with_part_come l p left y) (λ F. without_pages F p first n) (λ F. with_new_cells F p first n (segment_cell s)) (λ F. with_mapping F p (map_request q) first) (cells-respects p first n (segment_cell s)) c.changes (segment_rule.put l p left y c.changes.memory here may)
      (λ born notes e. cells-after-pages (flat_memory m born notes) p first n (segment_cell s) (λ i z names. absurd (unnamed z (zero-of q.object z names))) ∙ mapped-old m p q zeros there born notes own None old) in
      record {
        changes = subst (λ (t : Spaces). ChangesSegments p m (record { world = record x { anon = record x.anon { reserved = x.anon.reserved + slots_for_pages q.kind q.object n }; maps = maps_made x.maps own n }; spaces = t }) (λ F. with_mapping F p (map_request q) first)) (insert-twice m.spaces p left (with_new_part y left))
            (subst (λ (k : ℕ). ChangesSegments p m (record { world = record x { anon = record x.anon { reserved = x.anon.reserved + k }; maps = maps_made x.maps own n }; spaces = finite.insert (finite.insert m.spaces p left) p (with_new_part y left) }) (λ F. with_mapping F p (map_request q) first)) slots all);
        known = subst (λ (t : Spaces). KnowsZeros after t) (insert-twice m.spaces p left (with_new_part y left)) (known-come l p left y after c.changes.memory here may c.known);
      }
    where
      zero-named : (o : Object) (z k : ℕ) → (elim o as (λ _. Option (ℕ × ℕ)) [ object.Zero z ↦ None | object.File f ↦ None | object.NewZero ↦ None ]) ≡ Some (z, k) → o ≡ object.Zero z
      zero-named (object.Zero y) z k is = absurd (let e : None ≡ Some (z, k) = is in cc)
      zero-named (object.File f) z k is = absurd (let e : None ≡ Some (z, k) = is in cc)
      zero-named object.NewZero z k is = absurd (let e : None ≡ Some (z, k) = is in cc)

      zero-of : (o : Object) (z : ℕ) → (elim o as (λ _. Option ℕ) [ object.Zero z ↦ Some z | object.File f ↦ None | object.NewZero ↦ None ]) ≡ Some z → o ≡ object.Zero z
      zero-of (object.Zero y) z is = let e : Some y ≡ Some z = is in let d : y ≡ z = cc in ap (λ (k : ℕ). object.Zero k) d
      zero-of (object.File f) z is = absurd (let e : None ≡ Some z = is in cc)
      zero-of object.NewZero z is = absurd (let e : None ≡ Some z = is in cc)

  -- SHARED NEW ZERO MEMORY
  new-zero : (z number : ℕ) → held ≡ None → q.kind ≡ Shared → q.object ≡ object.NewZero → free_number after ≡ Some z → IsUnused x.maps number
      → Goal (record { object = object.Zero z; own = None; shown = Some number }) (maps_made x.maps (Some number) n) (slice_set after z (Some number))
  new-zero z number none kind new free unused =
      let a : Anons = record { object = object.Zero z; own = None; shown = Some number } in
      let s : Segment = new_piece m.world q a in
      let y : Part Segment = new_part m.world q a in
      let l : Memory = record { world = x; spaces = finite.insert m.spaces p left } in
      let c = plain-cleared none in
      let slots : n ≡ slots_for_pages q.kind q.object n = sym (λ i. slots_for_pages (kind i) (new i) n) in
      let here = get-insert_here m.spaces p left in
      let room = plain-room none in
      let unnamed = known-unnamed after l.spaces z c.known free in
      let may : MayMakeZero l left y z number = record { place = has-place a; shared = kind; object = refl; own = refl; shown = refl; unnamed = unnamed; unused = unused; room = omega (arith, slots, room) } in
      let all = changes-as p m l (with_zero_part l p left y) (λ F. without_pages F p first n) (λ F. with_new_cells (with_zero_object F z n) p first n (segment_cell s)) (λ F. with_mapping F p (map_request q) first)
      (λ F G alike. cells-respects p first n (segment_cell s) (with_zero_object F z n) (with_zero_object G z n) (zero-respects z n F G alike)) c.changes
      (segment_rule.put_zero l p left y z number c.changes.memory here may)
      (λ born notes e.
      object-after-pages (flat_memory m born notes) p first n z n (segment_cell s) (λ i k names. inl (let d : Some z ≡ Some k = names in let f : k ≡ z = cc in f))
      ∙ mapped-new m p q zeros there born notes z None (Some number) kind new (sym (segment_cells.number l born notes z c.changes.memory unnamed (known-below after l.spaces z c.known free)) ∙ same-number (flat_memory l born notes) (without_pages (flat_memory m born notes) p first n) e)) in
      record {
        changes = subst (λ (t : Spaces). ChangesSegments p m (record { world = record x { anon = record x.anon { reserved = x.anon.reserved + slots_for_pages q.kind q.object n }; maps = maps_made x.maps (Some number) n }; spaces = t }) (λ F. with_mapping F p (map_request q) first))
            (insert-twice m.spaces p left (with_new_part y left))
            (subst (λ (k : ℕ). ChangesSegments p m (record { world = record x { anon = record x.anon { reserved = x.anon.reserved + k }; maps = maps_made x.maps (Some number) n }; spaces = finite.insert (finite.insert m.spaces p left) p (with_new_part y left) }) (λ F. with_mapping F p (map_request q) first)) slots all);
        known = subst (λ (t : Spaces). KnowsZeros (slice_set after z (Some number)) t) (insert-twice m.spaces p left (with_new_part y left)) (known-made l p left y after z number c.changes.memory here may free c.known);
      }

  -- A ZERO OBJECT BY NUMBER
  by-number : (z k : ℕ) (own : Option ℕ) → held ≡ Some k → slice_index_or zeros z None ≡ Some k → q.object ≡ object.Zero z → IsOld q.kind q.object → IsOwnNew x.maps (new_piece m.world q (record { object = q.object; own = own; shown = Some k })) q.kind
      → Goal (record { object = q.object; own = own; shown = Some k }) (maps_made x.maps own n) after
  by-number z k own some is names old made =
      let a : Anons = record { object = q.object; own = own; shown = Some k } in
      let s : Segment = new_piece m.world q a in
      let y : Part Segment = new_part m.world q a in
      let g = no-process mid.spaces in
      let c = held-cleared z k some is g.0 g.1 in
      let slots = slots-old q.kind q.object n old in
      let room = held-room z k some is g.0 g.1 names in
      let enough : x.anon.reserved + slots_for_part y ≤ length x.anon.counts = omega (arith, slots, room) in
      let alive : IsSome (finite.get mid.spaces p) = ap is_some mid-fits.here in
      let zero = mid-zero z k some is g.0 g.1 in
      let comes = held-comes mid p g.0 z k x left y mid-fits.memory alive g.1 zero c.changes (has-place a) names refl made enough in
      let then : Memory = record { world = record x { anon = record x.anon { reserved = x.anon.reserved + slots_for_part y }; maps = maps_made x.maps own n }; spaces = finite.insert mid.spaces p (with_new_part y left) } in
      let all = changes-as p m mid then (λ F. F) (λ F. with_new_cells (with_space F p (without_range (cells_of F p) first n)) p first n (segment_cell s)) (λ F. with_mapping F p (map_request q) first) (range-respects p first n (segment_cell s)) cuts.changes comes
      (λ born notes e. mapped-old m p q zeros there born notes own (Some k) old) in
      record {
        changes = subst (λ (t : Spaces). ChangesSegments p m (record { world = record x { anon = record x.anon { reserved = x.anon.reserved + slots_for_pages q.kind q.object n }; maps = maps_made x.maps own n }; spaces = t }) (λ F. with_mapping F p (map_request q) first)) (insert-twice m.spaces p cut (with_new_part y left))
            (subst (λ (j : ℕ). ChangesSegments p m (record { world = record x { anon = record x.anon { reserved = x.anon.reserved + j }; maps = maps_made x.maps own n }; spaces = finite.insert mid.spaces p (with_new_part y left) }) (λ F. with_mapping F p (map_request q) first)) slots all);
        known = subst (λ (t : Spaces). KnowsZeros after t) (insert-twice m.spaces p cut (with_new_part y left)) (held-knows mid p g.0 z k x left y mid-fits.memory alive g.1 zero c.changes (has-place a) names refl made enough after c.known);
      }

  abbrev piece_with : Option ℕ → Option ℕ → Segment
  piece_with own shown = new_piece m.world q (record { object = q.object; own = own; shown = shown })

  -- EACH MAPPING
  module _ (a : Anons) (maps : List (Option Map)) (now : List (Option ℕ)) (files : x.files ≡ m.world.files) where
    turned : (own shown : Option ℕ) (maps-then : List (Option Map)) → a ≡ record { object = q.object; own = own; shown = shown } → maps ≡ maps-then → now ≡ after → Goal (record { object = q.object; own = own; shown = shown }) maps-then after → Goal a maps now
    turned own shown maps-then is same list goal = subst (λ (b : Anons). Goal b maps now) (sym is) (subst (λ (ms : List (Option Map)). Goal (record { object = q.object; own = own; shown = shown }) ms now) (sym same) (subst (Goal (record { object = q.object; own = own; shown = shown }) maps-then) (sym list) goal))

    old-private : (o : Object) → q.kind ≡ Private → IsOld q.kind o
    old-private o kind = subst (λ (k : Kind). IsOld k o) (sym kind) tt

    file-there : (f : ℕ) → q.object ≡ object.File f → f < length x.files.files
    file-there f is =
        let t : nat_lt f (length m.world.files.files) ≡ true = sym (ap (is_object_there m.world zeros) is) ∙ there in
        subst (λ (s : FilesSeen). f < length s.files) (sym files) (ltb-true f (length m.world.files.files) t)

    zero-listed : (z : ℕ) → q.object ≡ object.Zero z → (k : ℕ) × (slice_index_or zeros z None ≡ Some k)
    zero-listed z is = by_option (slice_index_or zeros z None) refl (sym (ap (is_object_there m.world zeros) is) ∙ there)
      where
        by_option : (o : Option ℕ) → slice_index_or zeros z None ≡ o → is_some o ≡ true → (k : ℕ) × (slice_index_or zeros z None ≡ Some k)
        by_option None e some = absurd (let k : false ≡ true = some in cc)
        by_option (Some k) e some = (k, e)

    pub replaced : AreMade x.maps maps after now held n q.kind q.object a → Goal a maps now
    replaced = by q.kind q.object refl refl
      where
        by : (k : Kind) (o : Object) → q.kind ≡ k → q.object ≡ o → AreMade x.maps maps after now held n k o a → Goal a maps now
        by Private (object.File f) kind is made =
            let none : held ≡ None = named ∙ ap (map_of_object zeros) is in
            turned (Some made.0) None (maps_made x.maps (Some made.0) n) (made.2 ∙ (λ i. record { object = sym is i; own = Some made.0; shown = none i })) made.3 made.4
            (plain (Some made.0) none (old-private q.object kind) (λ z e. absurd (let d : object.File f ≡ object.Zero z = sym is ∙ e in cc)) (subst (IsOwnNew x.maps (piece_with (Some made.0) None)) (sym kind) (made.0, refl, made.1)) (subst (ObjectFits (length x.files.files) x.maps (piece_with (Some made.0) None)) (sym is) (file-there f is, refl)))
        by Private object.NewZero kind is made =
            let none : held ≡ None = named ∙ ap (map_of_object zeros) is in
            turned (Some made.0) None (maps_made x.maps (Some made.0) n) (made.2 ∙ (λ i. record { object = sym is i; own = Some made.0; shown = none i })) made.3 made.4
            (plain (Some made.0) none (old-private q.object kind) (λ z e. absurd (let d : object.NewZero ≡ object.Zero z = sym is ∙ e in cc)) (subst (IsOwnNew x.maps (piece_with (Some made.0) None)) (sym kind) (made.0, refl, made.1)) (subst (ObjectFits (length x.files.files) x.maps (piece_with (Some made.0) None)) (sym is) (kind, refl)))
        by Private (object.Zero z) kind is made =
            let l = zero-listed z is in
            let some : held ≡ Some l.0 = named ∙ ap (map_of_object zeros) is ∙ l.1 in
            turned (Some made.0) (Some l.0) (maps_made x.maps (Some made.0) n) (made.2 ∙ (λ i. record { object = sym is i; own = Some made.0; shown = some i })) made.3 made.4
            (by-number z l.0 (Some made.0) some l.1 is (old-private q.object kind) (subst (IsOwnNew x.maps (piece_with (Some made.0) (Some l.0))) (sym kind) (made.0, refl, made.1)))
        by Shared (object.File f) kind is made =
            let none : held ≡ None = named ∙ ap (map_of_object zeros) is in
            turned None None x.maps (made.0 ∙ (λ i. record { object = sym is i; own = None; shown = none i })) made.1 made.2
            (plain None none (subst (IsOld q.kind) (sym is) (subst (λ (k : Kind). IsOld k (object.File f)) (sym kind) tt)) (λ z e. absurd (let d : object.File f ≡ object.Zero z = sym is ∙ e in cc)) (subst (IsOwnNew x.maps (piece_with None None)) (sym kind) refl) (subst (ObjectFits (length x.files.files) x.maps (piece_with None None)) (sym is) (file-there f is, refl)))
        by Shared (object.Zero z) kind is made =
            let l = zero-listed z is in
            let some : held ≡ Some l.0 = named ∙ ap (map_of_object zeros) is ∙ l.1 in
            turned None (Some l.0) x.maps (made.0 ∙ (λ i. record { object = sym is i; own = None; shown = some i })) made.1 made.2
            (by-number z l.0 None some l.1 is (subst (IsOld q.kind) (sym is) (subst (λ (k : Kind). IsOld k (object.Zero z)) (sym kind) tt)) (subst (IsOwnNew x.maps (piece_with None (Some l.0))) (sym kind) refl))
        by Shared object.NewZero kind is made =
            let none : held ≡ None = named ∙ ap (map_of_object zeros) is in
            subst (λ (b : Anons). Goal b maps now) (sym made.4) (subst (λ (ms : List (Option Map)). Goal (record { object = object.Zero made.1; own = None; shown = Some made.0 }) ms now) (sym made.5) (subst (Goal (record { object = object.Zero made.1; own = None; shown = Some made.0 }) (maps_made x.maps (Some made.0) n)) (sym made.6)
            (new-zero made.1 made.0 none kind is made.3 made.2)))

-- REFUSED: nothing changes.
abbrev answered : Flat → Result (ℕ × Flat) Errno → Reply
answered F r = (or_refused F (λ x. record { reply = Mapped (4096 * x.0); after = x.1 }) r).reply

abbrev left_with : Flat → Result (ℕ × Flat) Errno → Flat
left_with F r = (or_refused F (λ x. record { reply = Mapped (4096 * x.0); after = x.1 }) r).after

pub refused-answers : (m : Memory) (p : ℕ) (parts : List (Part Segment)) (zeros : List (Option ℕ)) (q : MapRequest) (e : Errno) → SpaceFits m.world zeros m.spaces p parts → IsMapRefusal m p q (Some e)
    → AnswersAtOnce p m (record { world = m.world; spaces = finite.insert m.spaces p parts }) (map_call q) (Refused e)
refused-answers m p parts zeros q e fits due = record {
  changes = segment_rule.same p m (record { world = m.world; spaces = finite.insert m.spaces p parts }) (λ F. F) (λ F. (effect F p (map_call q)).after) (λ born notes. sym (ap (left_with (flat_memory m born notes)) (due born notes))) (same-space m.world zeros m.spaces p parts fits).changes;
  plain = tt;
  due = λ born notes. ap (answered (flat_memory m born notes)) (due born notes);
  modified = modifies-same m.world;
}

-- DONE.
pub done-answers : (m new : Memory) (p : ℕ) (q : MapRequest) (zeros : List (Option ℕ)) (a : ℕ) → IsMapRefusal m p q None → a ≡ 4096 * page q.addr → ChangesSpace p m new zeros (λ F. with_mapping F p (map_request q) (page q.addr)) → ModifiesNone m.world new.world → AnswersAtOnce p m new (map_call q) (Mapped a)
done-answers m new p q zeros a due first maps modified = record {
  changes = segment_rule.same p m new (λ F. with_mapping F p (map_request q) (page q.addr)) (λ F. (effect F p (map_call q)).after) (λ born notes. sym (ap (left_with (flat_memory m born notes)) (due born notes))) maps.changes;
  plain = tt;
  due = λ born notes. ap (answered (flat_memory m born notes)) (due born notes) ∙ ap (λ (n : ℕ). Mapped n) (sym first);
  modified = modified;
}
