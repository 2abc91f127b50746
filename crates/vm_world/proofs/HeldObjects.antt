-- A ZERO OBJECT IS HELD by a process that isn't there, while the parts that show it go and another comes.
use Rattle.flat_model.proofs.Histories.{io_aside as both-left}
use Rattle.std.proofs.Common.{◌≡◌, ◌≢◌, ℕ, ◌+◌, ◌<◌, ◌≤◌, Bool, true, false, cond, ◌||◌, List, [], ◌∷◌, length, Option, Some, None, refl, sym, ap, ◌∙◌, ◌⊎◌, inl, inr, subst, arith}
use Rattle.std.specs.Prelude.{◌==◌, ◌↔◌, option_map, option_and_then, is_some, IsSome, IsTrue, slice_index_or}
use Rattle.std.specs.Ordering.{nat_cmp}
use Rattle.std.specs.Cmp.{nat_cmp_total}
use Rattle.std.specs.FinMap as finite
use Rattle.std.specs.FinSet as set
use Rattle.std.proofs.lemmas.Bool.{cases_Bool, cases_eq, eqb-true, eq-eqb}
use Rattle.std.proofs.lemmas.List.Elements.{All-head}
use Rattle.flat_model.specs.vm_types.declared.call.Kind.TheVariants.{Shared}
use Rattle.flat_model.specs.vm_types.declared.call.Object.{Object}
use Rattle.flat_model.specs.vm_types.declared.call.Object.TheVariants as object
use Rattle.flat_model.specs.vm_types.Prot.{can_read, can_write}
use Rattle.addr_space.specs.Space.{Part, part, piece_at, with_new_part}
use Rattle.anon_map.specs.Maps.{Map, IsMapThere, anon_map_at, places_of, holders_of}
use Rattle.hat_layer.specs.Pool as pool
use Rattle.hat_layer.specs.declared.translation.Translation.{Translation}
use Rattle.hat_layer.proofs.HatLemmas.{at-none}
use Rattle.page_store.specs.Notes.{Notes}
use Rattle.flat_model.specs.Access.{with_space}
use Rattle.flat_model.specs.Flat.{Cell, Flat, IsFlat, space_of}
use Rattle.flat_model.specs.Mapping.{cells_of, without_pages}
use Rattle.flat_model.specs.Processes.{without_process}
use Rattle.flat_model.specs.Shapes.{RespectsShape, SameShape, without_bytes}
use Rattle.flat_model.specs.Space.{without_range, with_cells}
use Rattle.flat_model.proofs.Entries.{find_rest}
use Rattle.flat_model.proofs.Ranges.{get-insert_here, get-insert_apart, get-remove_here, get-remove_apart}
use Rattle.vm_world.specs.CallSteps.{KeepsMachine}
use Rattle.vm_world.specs.CountsFit.{ObjectFits, is_number, times_had, slots_for_part}
use Rattle.vm_world.specs.FlatMemory.{Memory, flat_memory, space_with, zero_maps}
use Rattle.vm_world.specs.MapSteps.{maps_made, maps_held, maps_released, places_released}
use Rattle.vm_world.specs.MemoryFits.{MemoryFits}
use Rattle.vm_world.specs.NotesFit.{NotesFit}
use Rattle.vm_world.specs.Pages.{contents_of}
use Rattle.vm_world.specs.SegmentSteps.{ChangesSegments, HasPlace, IsOwnNew, MayCome, MayLeave, segment_cell, with_new_cells, with_part_come, with_part_gone}
use Rattle.vm_world.specs.Segments.{Segment, Spot, Spaces, spot_at}
use Rattle.vm_world.specs.SpaceSteps.{Becomes, without_space}
use Rattle.vm_world.specs.World.{World, AllTell}
use Rattle.vm_world.specs.ZeroObjects.{KnowsZeros}
use Rattle.vm_world.proofs.Changes.{machine-then}
use Rattle.vm_world.proofs.ComingParts.{zero-there}
use Rattle.vm_world.proofs.ComingParts as coming
use Rattle.vm_world.proofs.ComingProcesses.{process-fits, process-flat, flat-with_process}
use Rattle.vm_world.proofs.ComingProcesses as processes
use Rattle.vm_world.proofs.HeldFlat.{held-flat}
use Rattle.vm_world.proofs.KeptMaps.{same-holders, same-there, shown-counts}
use Rattle.vm_world.proofs.KnownZeros.{known-same, known-come, known-gone, known-left}
use Rattle.vm_world.proofs.MapChanges.{held-holders, held-released, made-else}
use Rattle.vm_world.proofs.Maps.{get-map_with, insert-twice}
use Rattle.vm_world.proofs.PartSums.{all_parts, sum-segments, part-le}
use Rattle.vm_world.proofs.SegmentSteps.{segment_rule}
use Rattle.vm_world.proofs.Shapes.{cells-respects, pages-respects, process-respects}
use Rattle.vm_world.proofs.ShownZeros.{fits-shown, zero_map-of}
use Rattle.vm_world.proofs.Spots.{both-right}

-- A part of one page that shows the object, of which nothing may be read or written.
abbrev pub holding_piece : ℕ → ℕ → Segment
holding_piece z number = record { pages = 1; prot = record { 0 = 0 }; max = record { 0 = 0 }; kind = Shared; object = object.Zero z; index = 0; own = None; shown = Some number }

abbrev pub holding_part : ℕ → ℕ → Part Segment
holding_part z number = part 1 1 (holding_piece z number)

-- Memory with a process that has this part alone.
abbrev pub with_holder : Memory → ℕ → ℕ → ℕ → Memory
with_holder m g z number = record { world = record m.world { maps = maps_held m.world.maps (Some number) }; spaces = finite.insert m.spaces g (holding_part z number ∷ []) }

-- some process isn't there
fresh : {X : Type 0} (es : List (ℕ × X)) → (b : ℕ) × ((q : ℕ) → b ≤ q → finite.find nat_cmp q es ≡ None)
fresh [] = (0, λ q le. refl)
fresh (e ∷ es) =
    let rest = fresh es in
    (e.0 + 1 + rest.0, λ q le. find_rest q e es (λ same. absurd (omega (arith, same, le))) ∙ rest.1 q (omega (arith, le)))

pub no-process : (spaces : Spaces) → (g : ℕ) × (finite.get spaces g ≡ None)
no-process spaces = let f = fresh (finite.entries spaces) in (f.0, finite.get-entries spaces f.0 ∙ f.1 f.0 (omega arith))

-- What one change after another keeps, of whatever processes.
record Moves (u v : Memory) : Type 0 where
  machine : KeepsMachine u.world v.world
  notes : (notes : Notes) → NotesFit u.world notes → NotesFit v.world notes
  tells : (notes : Notes) → NotesFit u.world notes → AllTell u.world notes ↔ AllTell v.world notes

moves-of : (p : ℕ) (u v : Memory) (f : Flat → Flat) → ChangesSegments p u v f → Moves u v
moves-of p u v f c = record { machine = c.machine; notes = c.notes; tells = c.tells }

moves-then : (u v w : Memory) → Moves u v → Moves v w → Moves u w
moves-then u v w a b = record {
  machine = machine-then u.world v.world w.world a.machine b.machine;
  notes = λ notes nf. b.notes notes (a.notes notes nf);
  tells = λ notes nf. let x = a.tells notes nf in let y = b.tells notes (a.notes notes nf) in ((λ tell. y.0 (x.0 tell)), (λ tell. x.1 (y.1 tell)));
}

-- THE HOLDER COMES
module _ (m : Memory) (g z number : ℕ) (fits : MemoryFits m) (none : finite.get m.spaces g ≡ None) (there : finite.get (zero_maps m.spaces) z ≡ Some number) where
  abbrev before : Memory
  before = record m { spaces = finite.insert m.spaces g [] }

  before-fits : MemoryFits before
  before-fits = process-fits m g fits none

  before-here : finite.get before.spaces g ≡ Some []
  before-here = get-insert_here m.spaces g []

  may-hold : MayCome before [] (holding_part z number)
  may-hold = record {
    place = record {
      placed = record { behind = omega arith; some = omega arith; within = omega arith };
      pages = refl;
      end = omega arith;
      within = refl;
      free = λ q low high. refl;
    };
    object = (number, refl, zero-there m fits z number there);
    zero = λ y n is.
        let same : (z, number) ≡ (y, n) = let k : Some (z, number) ≡ Some (y, n) = is in cc in
        ap (λ (zs : finite.FinMap nat_cmp ℕ). finite.get zs y) (processes.zeros-now m g fits none) ∙ sym (ap (λ (t : ℕ × ℕ). finite.get (zero_maps m.spaces) t.0) same) ∙ there ∙ ap (λ (t : ℕ × ℕ). Some t.1) same;
    own = refl;
    room = let most = fits.counts.sound.reserved in omega (arith, most);
  }

  same-holder : with_part_come before g [] (holding_part z number) ≡ with_holder m g z number
  same-holder =
      let r : m.world.anon.reserved + 0 ≡ m.world.anon.reserved = omega arith in
      let s = insert-twice m.spaces g [] (holding_part z number ∷ []) in
      λ i. record { world = record m.world { anon = record m.world.anon { reserved = r i }; maps = maps_held m.world.maps (Some number) }; spaces = s i }

  holder-comes : ChangesSegments g before (with_holder m g z number) (λ F. with_new_cells F g 1 1 (segment_cell (holding_piece z number)))
  holder-comes = subst (λ (n : Memory). ChangesSegments g before n (λ F. with_new_cells F g 1 1 (segment_cell (holding_piece z number)))) same-holder (segment_rule.put before g [] (holding_part z number) before-fits before-here may-hold)

  pub holder-fits : MemoryFits (with_holder m g z number)
  holder-fits = holder-comes.memory

  pub holder-knows : (zeros : List (Option ℕ)) → KnowsZeros zeros m.spaces → KnowsZeros zeros (with_holder m g z number).spaces
  holder-knows zeros knows = subst (KnowsZeros zeros) (insert-twice m.spaces g [] (holding_part z number ∷ []))
      (known-come before g [] (holding_part z number) zeros before-fits before-here may-hold (known-same zeros m.spaces before.spaces (processes.zeros-now m g fits none) knows))

-- THE PARTS GO, another comes, and the holder goes
module _ (m : Memory) (p g z number : ℕ) (w : World) (left : List (Part Segment)) (x : Part Segment) (fits : MemoryFits m) (alive : IsSome (finite.get m.spaces p)) (none : finite.get m.spaces g ≡ None)
    (there : finite.get (zero_maps m.spaces) z ≡ Some number)
    (cleared : ChangesSegments p (with_holder m g z number) (record { world = w; spaces = finite.insert (finite.insert m.spaces g (holding_part z number ∷ [])) p left }) (λ F. without_pages F p x.first x.pages))
    (place : HasPlace left x) (object_is : x.piece.object ≡ object.Zero z) (shown_is : x.piece.shown ≡ Some number) (own : IsOwnNew w.maps x.piece x.piece.kind) (room : w.anon.reserved + slots_for_part x ≤ length w.anon.counts) where
  abbrev hold : List (Part Segment)
  hold = holding_part z number ∷ []

  abbrev held : Spaces
  held = finite.insert m.spaces g hold

  abbrev mid : Memory
  mid = record { world = w; spaces = finite.insert held p left }

  apart : g ≢ p
  apart e = let k : false ≡ true = sym (ap is_some none) ∙ ap (λ (q : ℕ). is_some (finite.get m.spaces q)) e ∙ alive in cc

  mid-here : finite.get mid.spaces p ≡ Some left
  mid-here = get-insert_here held p left

  mid-hold : finite.get mid.spaces g ≡ Some hold
  mid-hold = get-insert_apart held p left g apart ∙ get-insert_here m.spaces g hold

  mid-zero : finite.get (zero_maps mid.spaces) z ≡ Some number
  mid-zero = fits-shown (length w.files.files) w.anon w.maps mid.spaces cleared.memory.segments z number (record { process = g; page = 1; spot = (holding_piece z number, 0); here = ap (option_and_then (λ (ps : List (Part Segment)). piece_at ps 1)) mid-hold; shows = refl })

  mid-there : IsMapThere w.maps number
  mid-there = zero-there mid cleared.memory z number mid-zero

  mid-some : 1 ≤ holders_of w.maps number
  mid-some =
      let had = λ (a : Part Segment). times_had number a.piece in
      let a = cleared.memory.segments.holders number in
      let b = sum-segments (times_had number) mid.spaces in
      let c = All-head (λ (a : Part Segment). had a ≤ all_parts had mid.spaces) (holding_part z number) [] (part-le had mid.spaces g hold mid-hold) in
      let d = shown-counts number (holding_piece z number) refl in
      omega (arith, a, b, c, d)

  may : MayCome mid left x
  may = record {
    place = place;
    object = subst (λ (o : Object). ObjectFits (length w.files.files) w.maps x.piece o) (sym object_is) (number, shown_is, mid-there);
    zero = λ y n is.
        let same : (z, number) ≡ (y, n) = let k : Some (z, number) ≡ Some (y, n) = sym (zero_map-of x.piece z number object_is shown_is) ∙ is in cc in
        sym (ap (λ (t : ℕ × ℕ). finite.get (zero_maps mid.spaces) t.0) same) ∙ mid-zero ∙ ap (λ (t : ℕ × ℕ). Some t.1) same;
    own = own;
    room = room;
  }

  abbrev next : Memory
  next = with_part_come mid p left x

  comes : ChangesSegments p mid next (λ F. with_new_cells F p x.first x.pages (segment_cell x.piece))
  comes = segment_rule.put mid p left x cleared.memory mid-here may

  -- the holder's map has another holder
  abbrev made : List (Option Map)
  made = maps_made w.maps x.piece.own x.piece.pages

  made-same : anon_map_at made number ≡ anon_map_at w.maps number
  made-same = made-else w.maps x.piece.own x.piece.pages number (coming.unused mid p left x cleared.memory mid-here may) mid-there

  made-there : IsMapThere made number
  made-there = same-there w.maps made number made-same mid-there

  made-some : 1 ≤ holders_of made number
  made-some = let same = same-holders w.maps made number made-same in let some = mid-some in omega (arith, same, some)

  next-maps : next.world.maps ≡ maps_held made (Some number)
  next-maps = ap (maps_held made) shown_is

  two : 1 < holders_of next.world.maps number
  two =
      let a = ap (λ (maps : List (Option Map)). holders_of maps number) next-maps in
      let b = held-holders made (Some number) number (λ k is. subst (IsMapThere made) (let e : Some number ≡ Some k = is in let d : number ≡ k = cc in d) made-there) in
      let c : cond {A = ℕ} (is_number number (Some number)) 1 0 ≡ 1 = ap (λ (b : Bool). cond {A = ℕ} b 1 0) (eq-eqb number number refl) in
      let some = made-some in
      omega (arith, a, b, c, some)

  next-hold : finite.get next.spaces g ≡ Some hold
  next-hold = get-insert_apart mid.spaces p (with_new_part x left) g apart ∙ mid-hold

  -- and no translation leads to it
  unloaded : (q : ℕ) → 1 ≤ q → q < 2 → pool.translation_at next.world.hat.places g q ≡ None
  unloaded q low high = at-none next.world.hat.places g q (λ k. by_place k (slice_index_or next.world.hat.places k None) refl)
    where
      by_place : (k : ℕ) (o : Option Translation) → slice_index_or next.world.hat.places k None ≡ o → pool.holds g q o ≡ false
      by_place k None e = refl
      by_place k (Some t) e = elim (cases_Bool (pool.holds g q (Some t))) [
        | inr not ↦ not
        | inl it ↦ absurd (
            let l = comes.memory.translations k t e in
            let space : t.space ≡ g = eqb-true t.space g (both-left (t.space == g) (t.page == q) it) in
            let page : t.page ≡ 1 = let is = eqb-true t.page q (both-right (t.space == g) (t.page == q) it) in omega (arith, is, low, high) in
            let here : Some l.spot ≡ Some (holding_piece z number, 0) = sym l.here ∙ (λ i. spot_at next.spaces (space i) (page i)) ∙ ap (option_and_then (λ (ps : List (Part Segment)). piece_at ps 1)) next-hold in
            let spot : l.spot ≡ (holding_piece z number, 0) = cc in
            let allowed : false ≡ true = subst (λ (s : Spot). IsTrue (can_read s.0.prot || can_write s.0.prot)) spot l.allowed in
            cc)
      ]

  leave : MayLeave next g (holding_part z number)
  leave = record {
    unloaded = λ q low high. unloaded q low (omega (arith, high));
    own = λ n is. absurd (let k : None ≡ Some n = is in cc);
    shown = λ n is one. absurd (let same : number ≡ n = (let k : Some number ≡ Some n = is in cc) in let more = subst (λ (k : ℕ). 1 < holders_of next.world.maps k) same two in omega (arith, more, one));
  }

  abbrev alone : Memory
  alone = with_part_gone next g hold (holding_part z number)

  goes : ChangesSegments g next alone (λ F. without_pages F g 1 1)
  goes = segment_rule.remove next g 1 hold (holding_part z number) comes.memory next-hold refl leave

  alone-here : finite.get alone.spaces g ≡ Some []
  alone-here = get-insert_here next.spaces g []

  abbrev end : Memory
  end = without_space alone g

  ends : ChangesSegments g alone end (λ F. without_process F g)
  ends = segment_rule.leave alone g goes.memory alone-here

  -- what is left is memory with the part that came
  abbrev after : Memory
  after = record { world = record w { anon = record w.anon { reserved = w.anon.reserved + slots_for_part x }; maps = made }; spaces = finite.insert m.spaces p (with_new_part x left) }

  end-maps : end.world.maps ≡ made
  end-maps = ap (λ (maps : List (Option Map)). maps_released maps (Some number)) next-maps ∙ held-released made number made-there made-some

  end-reserved : end.world.anon.reserved ≡ w.anon.reserved + slots_for_part x
  end-reserved =
      let none : places_released next.world.maps (Some number) ≡ 0 = by_test (cases_Bool (holders_of next.world.maps number == 1)) in
      omega (arith, none)
    where
      by_test : ((holders_of next.world.maps number == 1) ≡ true) ⊎ ((holders_of next.world.maps number == 1) ≡ false) → places_released next.world.maps (Some number) ≡ 0
      by_test (inl t) = absurd (let one = eqb-true (holders_of next.world.maps number) 1 t in let more = two in omega (arith, one, more))
      by_test (inr f) = ap (λ (b : Bool). cond b (length (places_of next.world.maps number)) 0) f

  end-spaces : end.spaces ≡ after.spaces
  end-spaces = finite.same_map nat_cmp_total finite.nat_cmp-IsAntisymmetric end.spaces after.spaces (λ q. elim (cases_eq q g) [
    | inl e ↦ ap (finite.get end.spaces) e ∙ get-remove_here alone.spaces g ∙ sym none ∙ sym (get-insert_apart m.spaces p (with_new_part x left) g apart) ∙ ap (finite.get after.spaces) (sym e)
    | inr ne ↦ get-remove_apart alone.spaces g q ne ∙ get-insert_apart next.spaces g [] q ne ∙ elim (cases_eq q p) [
      | inl e ↦ ap (finite.get next.spaces) e ∙ get-insert_here mid.spaces p (with_new_part x left) ∙ sym (get-insert_here m.spaces p (with_new_part x left)) ∙ ap (finite.get after.spaces) (sym e)
      | inr far ↦ get-insert_apart mid.spaces p (with_new_part x left) q far ∙ get-insert_apart held p left q far ∙ get-insert_apart m.spaces g hold q ne ∙ sym (get-insert_apart m.spaces p (with_new_part x left) q far)
    ]
  ])

  end-is : end ≡ after
  end-is = λ i. record { world = record w { anon = record w.anon { reserved = end-reserved i }; maps = end-maps i }; spaces = end-spaces i }

  moves : Moves m end
  moves =
      let b : Memory = before m g z number fits none there in
      let h : Memory = with_holder m g z number in
      let a : Moves b h = moves-of g b h (λ F. with_new_cells F g 1 1 (segment_cell (holding_piece z number))) (holder-comes m g z number fits none there) in
      let c : Moves h mid = moves-of p h mid (λ F. without_pages F p x.first x.pages) cleared in
      let d : Moves mid next = moves-of p mid next (λ F. with_new_cells F p x.first x.pages (segment_cell x.piece)) comes in
      let e : Moves next alone = moves-of g next alone (λ F. without_pages F g 1 1) goes in
      let f : Moves alone end = moves-of g alone end (λ F. without_process F g) ends in
      let all : Moves b end = moves-then b h end a (moves-then h mid end c (moves-then mid next end d (moves-then next alone end e f))) in
      record { machine = all.machine; notes = all.notes; tells = all.tells }

  pub held-knows : (zeros : List (Option ℕ)) → KnowsZeros zeros mid.spaces → KnowsZeros zeros after.spaces
  held-knows zeros knows =
      let a = known-come mid p left x zeros cleared.memory mid-here may knows in
      let b = known-gone next g hold (holding_part z number) zeros comes.memory next-hold refl leave (λ n is. subst (λ (k : ℕ). 1 < holders_of next.world.maps k) (let k : Some number ≡ Some n = is in let e : number ≡ n = cc in e) two) a in
      subst (KnowsZeros zeros) end-spaces (known-left alone g zeros goes.memory alone-here b)

  -- FLAT MEMORY
  module _ (born : set.FinSet nat_cmp) (notes : Notes) where
    abbrev born_then : set.FinSet nat_cmp
    born_then = set.insert born g

    abbrev F : Flat
    F = flat_memory m born notes

    abbrev new_cells : Flat → Flat
    new_cells G = with_new_cells (with_space G p (without_range (cells_of G p) x.first x.pages)) p x.first x.pages (segment_cell x.piece)

    space-was : (q : ℕ) → space_of F q ≡ option_map (space_with (contents_of m.world notes).place) (finite.get m.spaces q)
    space-was q = get-map_with (space_with (contents_of m.world notes).place) m.spaces q

    alive-was : IsSome (space_of F p)
    alive-was = ap is_some (space-was p) ∙ by_space (finite.get m.spaces p) alive
      where
        by_space : (o : Option (List (Part Segment))) → IsSome o → IsSome (option_map (space_with (contents_of m.world notes).place) o)
        by_space None some = some
        by_space (Some ps) some = refl

    abbrev hold_cell : ℕ → Cell
    hold_cell = segment_cell (holding_piece z number)

    abbrev cell : ℕ → Cell
    cell = segment_cell x.piece

    -- what the steps leave, one after another
    held-is : without_process (without_pages (with_new_cells (without_pages (with_new_cells (with_space (flat_memory m born_then notes) g finite.empty) g 1 1 hold_cell) p x.first x.pages) p x.first x.pages cell) g 1 1) g ≡ new_cells (flat_memory m born_then notes)
    held-is = held-flat (flat_memory m born_then notes) p g z x.first x.pages hold_cell cell apart alive-was (space-was g ∙ ap (option_map (space_with (contents_of m.world notes).place)) none)
        (λ i. refl)
        (λ i y names. (let k : Some z ≡ Some y = sym (ap (λ (o : Object). elim o as (λ x. Option ℕ) [ object.Zero v ↦ Some v | object.File f ↦ None | object.NewZero ↦ None ]) object_is) ∙ names in let e : z ≡ y = cc in sym e))

    -- whatever disks tell, it has this shape
    shape-end : SameShape (flat_memory end born_then notes) (new_cells (flat_memory m born_then notes))
    shape-end =
        let b : Memory = before m g z number fits none there in
        let h : Memory = with_holder m g z number in
        let zero_step = process-flat m g fits none born_then notes in
        let coming = holder-comes m g z number fits none there in
        let leave : RespectsShape (λ G. without_process G g) = process-respects g in
        let drop : RespectsShape (λ G. without_pages G g 1 1) = pages-respects g 1 1 in
        let put : RespectsShape (λ G. with_new_cells G p x.first x.pages cell) = cells-respects p x.first x.pages cell in
        let clear : RespectsShape (λ G. without_pages G p x.first x.pages) = pages-respects p x.first x.pages in
        let one = coming.shaped born_then notes ∙ ap (λ (G : Flat). without_bytes (with_new_cells G g 1 1 hold_cell)) zero_step in
        let two = cleared.shaped born_then notes ∙ clear (flat_memory h born_then notes) (with_new_cells (with_space (flat_memory m born_then notes) g finite.empty) g 1 1 hold_cell) one in
        let three = comes.shaped born_then notes ∙ put (flat_memory mid born_then notes) (without_pages (with_new_cells (with_space (flat_memory m born_then notes) g finite.empty) g 1 1 hold_cell) p x.first x.pages) two in
        let four = goes.shaped born_then notes ∙ drop (flat_memory next born_then notes) (with_new_cells (without_pages (with_new_cells (with_space (flat_memory m born_then notes) g finite.empty) g 1 1 hold_cell) p x.first x.pages) p x.first x.pages cell) three in
        ends.shaped born_then notes
        ∙ leave (flat_memory alone born_then notes) (without_pages (with_new_cells (without_pages (with_new_cells (with_space (flat_memory m born_then notes) g finite.empty) g 1 1 hold_cell) p x.first x.pages) p x.first x.pages cell) g 1 1) four
        ∙ ap without_bytes held-is

    shape-after : SameShape (flat_memory after born notes) (new_cells F)
    shape-after = ap (λ (n : Memory). without_bytes (flat_memory n born notes)) (sym end-is) ∙ (λ i. record (shape-end i) { born = born })

    -- one step after another
    flat-end : NotesFit m.world notes → AllTell m.world notes → IsFlat F → (flat_memory end born_then notes ≡ new_cells (flat_memory m born_then notes)) × IsFlat (flat_memory end born_then notes)
    flat-end nf tell whole =
        let b : Memory = before m g z number fits none there in
        let h : Memory = with_holder m g z number in
        let coming = holder-comes m g z number fits none there in
        let zero_step = process-flat m g fits none born_then notes in
        let one = coming.flat born_then notes nf tell (subst IsFlat (sym zero_step) (flat-with_process F g whole)) in
        let nf1 = coming.notes notes nf in
        let tell1 = (coming.tells notes nf).0 tell in
        let two = cleared.flat born_then notes nf1 tell1 one.1 in
        let nf2 = cleared.notes notes nf1 in
        let tell2 = (cleared.tells notes nf1).0 tell1 in
        let three = comes.flat born_then notes nf2 tell2 two.1 in
        let nf3 = comes.notes notes nf2 in
        let tell3 = (comes.tells notes nf2).0 tell2 in
        let four = goes.flat born_then notes nf3 tell3 three.1 in
        let nf4 = goes.notes notes nf3 in
        let tell4 = (goes.tells notes nf3).0 tell3 in
        let five = ends.flat born_then notes nf4 tell4 four.1 in (
          five.0
              ∙ ap (λ (G : Flat). without_process G g) four.0
              ∙ ap (λ (G : Flat). without_process (without_pages G g 1 1) g) three.0
              ∙ ap (λ (G : Flat). without_process (without_pages (with_new_cells G p x.first x.pages cell) g 1 1) g) two.0
              ∙ ap (λ (G : Flat). without_process (without_pages (with_new_cells (without_pages G p x.first x.pages) p x.first x.pages cell) g 1 1) g) one.0
              ∙ ap (λ (G : Flat). without_process (without_pages (with_new_cells (without_pages (with_new_cells G g 1 1 hold_cell) p x.first x.pages) p x.first x.pages cell) g 1 1) g) zero_step
              ∙ held-is,
          five.1,
        )

    flat-after : NotesFit m.world notes → AllTell m.world notes → IsFlat F → Becomes new_cells F (flat_memory after born notes)
    flat-after nf tell whole =
        let last = flat-end nf tell whole in
        let e : flat_memory after born notes ≡ new_cells F = ap (λ (n : Memory). flat_memory n born notes) (sym end-is) ∙ ap (λ (G : Flat). record G { born = born }) last.0 in
        let whole_end = last.1 in (
          e,
          subst IsFlat (ap (λ (n : Memory). flat_memory n born notes) end-is) (record {
            pages = whole_end.pages;
            cells = whole_end.cells;
            files = whole_end.files;
            zeros = whole_end.zeros;
            born = λ q is. born-was q (ap is_some (ap (λ (G : Flat). space_of G q) (sym last.0)) ∙ is);
          }),
        )
      where
        born-was : (q : ℕ) → IsSome (space_of (new_cells F) q) → IsTrue (set.contains born q)
        born-was q is = elim (cases_eq q p) [
          | inl e ↦ ap (set.contains born) e ∙ whole.born p alive-was
          | inr far ↦
              let U : Flat = with_space F p (without_range (cells_of F p) x.first x.pages) in
              whole.born q (ap is_some (sym (get-insert_apart F.spaces p (without_range (cells_of F p) x.first x.pages) q far) ∙ sym (get-insert_apart U.spaces p (with_cells (cells_of U p) x.first x.pages (segment_cell x.piece)) q far)) ∙ is)
        ]

  pub held-comes : ChangesSegments p m after (λ F. with_new_cells (with_space F p (without_range (cells_of F p) x.first x.pages)) p x.first x.pages (segment_cell x.piece))
  held-comes = record {
    machine = subst (λ (n : Memory). KeepsMachine m.world n.world) end-is moves.machine;
    others = λ q far. get-insert_apart m.spaces p (with_new_part x left) q far;
    memory = subst MemoryFits end-is ends.memory;
    notes = subst (λ (n : Memory). (notes : Notes) → NotesFit m.world notes → NotesFit n.world notes) end-is moves.notes;
    tells = subst (λ (n : Memory). (notes : Notes) → NotesFit m.world notes → AllTell m.world notes ↔ AllTell n.world notes) end-is moves.tells;
    flat = λ born notes nf tell whole. flat-after born notes nf tell whole;
    shaped = λ born notes. shape-after born notes;
  }
