-- A segment is copied: what its copy needs, and what memory and flat memory are then.
use Rattle.seg_vn.proofs.CutSegments.{one-most as at_most_one, one-most}
use Rattle.std.proofs.Common.{◌≡◌, ℕ, ◌+◌, ◌-◌, ◌<◌, ◌≤◌, ◌^◌, Bool, true, false, cond, List, [], ◌∷◌, length, Option, Some, None, refl, sym, ap, ◌∙◌, inl, inr, subst, arith}
use Rattle.std.specs.Prelude.{count_by, sum_by, IsSome, option_and_then}
use Rattle.std.specs.FinMap as finite
use Rattle.std.proofs.lemmas.Bool.{cases_Bool}
use Rattle.std.proofs.lemmas.List.Sums.{sum_by-cons}
use Rattle.seg_ops.specs.vm_types.declared.call.Kind.{Kind}
use Rattle.seg_ops.specs.vm_types.declared.call.Kind.TheVariants.{Shared, Private}
use Rattle.seg_ops.specs.addr_space.Space.{Part, part, piece_at, with_new_part}
use Rattle.seg_ops.proofs.addr_space.PartLemmas.{has-in}
use Rattle.seg_ops.proofs.addr_space.PartLists.{all-begins, at-found, begins-found, begins-first}
use Rattle.seg_ops.specs.anon_map.Maps.{Map, anon_map_at, IsMapThere, IsUnused, fresh_map, places_of}
use Rattle.seg_ops.proofs.anon_map.MapLaws.{there_apart, with_map_other}
use Rattle.seg_ops.specs.anon_slots.Slots.{AnonSlotsSeen, count_at}
use Rattle.seg_ops.specs.hat_layer.Pool.{HatSeen}
use Rattle.seg_ops.specs.vm_world.CountsFit.{CountsFit, SegmentFits, OwnFits, is_number, places_in, slots_for_part, times_held}
use Rattle.seg_ops.specs.vm_world.FlatMemory.{Memory}
use Rattle.seg_ops.specs.vm_world.ForkSteps.{CountsMore, MayCopy, copied_piece, maps_copied, slots_held, with_cells_copied, with_part_copied}
use Rattle.seg_ops.specs.vm_world.MapSteps.{maps_held}
use Rattle.seg_ops.specs.vm_world.MemoryFits.{MemoryFits}
use Rattle.seg_ops.specs.vm_world.Segments.{Spaces, Spot, spot_at, own_slot}
use Rattle.seg_ops.specs.vm_world.Words.{KeepsPages}
use Rattle.seg_ops.specs.vm_world.World.{World, slot_in}
use Rattle.seg_ops.specs.vm_world.ZeroObjects.{KnowsZeros}
use Rattle.seg_ops.specs.vm_world.declared.segment.Segment.{Segment}
use Rattle.seg_ops.proofs.vm_world.ForkEvents.{fork_rule}
use Rattle.seg_ops.proofs.vm_world.KeptMaps.{own-there, same-holders, same-places, same-there}
use Rattle.seg_ops.proofs.vm_world.KnownZeros.{known-same}
use Rattle.seg_ops.proofs.vm_world.MapChanges.{held-holders, held-places}
use Rattle.seg_ops.proofs.vm_world.SegmentSteps.{segment_rule}
use Rattle.seg_ops.proofs.vm_world.Spots.{IsSpotOf, spot-part}
use Rattle.seg_ops.proofs.vm_world.Shapes.{copied-respects}
use Rattle.seg_ops.proofs.SlotOwners.{one-owner}
use Rattle.seg_vn.specs.Cuts.{IsPartAt}
use Rattle.seg_vn.specs.Clears.{ChangesSpace}
use Rattle.seg_vn.specs.Copied.{AreProtected, HasNoWriters, KeepsPlaces, MayComeAt}
use Rattle.seg_vn.proofs.LeftSegments.{own-is, pages-are}

count-le : (s : ℕ) (ps : List (Option ℕ)) → count_by (is_number s) ps ≤ length ps
count-le s [] = omega arith
count-le s (o ∷ os) =
    let step = sum_by-cons (λ (x : Option ℕ). cond {A = ℕ} (is_number s x) 1 0) o os in
    let one = at_most_one (is_number s o) in
    let more = count-le s os in
    omega (arith, step, one, more)

times-le : (s : ℕ) (maps : List (Option Map)) → times_held maps s ≤ sum_by (λ (m : Option Map). length (places_in m)) maps
times-le s [] = omega arith
times-le s (o ∷ os) =
    let a = sum_by-cons (λ (m : Option Map). count_by (is_number s) (places_in m)) o os in
    let b = sum_by-cons (λ (m : Option Map). length (places_in m)) o os in
    let here = count-le s (places_in o) in
    let more = times-le s os in
    omega (arith, a, b, here, more)

-- so that one more can be counted for each place that there is room for
pub count-few : (anon : AnonSlotsSeen) (maps : List (Option Map)) (n s : ℕ) → CountsFit anon maps → anon.reserved + n ≤ length anon.counts → count_at anon s + n < 2 ^ 32
count-few anon maps n s fit room =
    let a = fit.counts s in
    let b = times-le s maps in
    let c = fit.places in
    let d = fit.sound.fits in
    omega (arith, a, b, c, d, room)

-- WHAT A SEGMENT RESERVES
slots-by : (first n : ℕ) (s : Segment) (k : Kind) → s.kind ≡ k → slots_for_part (record { first = first; pages = n; piece = s }) ≡ elim k as (λ (k : Kind). ℕ) [ Private ↦ n | Shared ↦ 0 ]
slots-by first n s k e = ap (λ (k : Kind). elim k as (λ (k : Kind). ℕ) [ Private ↦ n | Shared ↦ 0 ]) e

module _ (w : World) (spaces : Spaces) (p first : ℕ) (s : Segment) (c : IsPartAt w spaces p first s) where
  fit : SegmentFits (length w.files.files) w.maps c.part
  fit = all-begins (SegmentFits (length w.files.files) w.maps) c.parts first c.part (c.memory.segments.each p c.parts c.here) c.starts

  own-fit : OwnFits w.maps s s.kind
  own-fit = subst (λ (t : Segment). OwnFits w.maps t t.kind) c.piece fit.own

  pub private-own : (map : ℕ) → s.own ≡ Some map → s.kind ≡ Private
  private-own map is = (own-there w.maps s s.kind map own-fit is).3

  pub slots-own : (map : ℕ) → s.own ≡ Some map → slots_for_part (record { first = first; pages = s.pages; piece = s }) ≡ length (places_of w.maps map)
  slots-own map is = slots-by first s.pages s Private (private-own map is) ∙ sym (own-is w spaces p first s c map is).2

  pub slots-none : s.own ≡ None → slots_for_part (record { first = first; pages = s.pages; piece = s }) ≡ 0
  slots-none none = by_kind s.kind refl own-fit
    where
      by_kind : (k : Kind) → s.kind ≡ k → OwnFits w.maps s k → slots_for_part (record { first = first; pages = s.pages; piece = s }) ≡ 0
      by_kind Shared e fit = slots-by first s.pages s Shared e
      by_kind Private e fit = absurd (let z : None ≡ Some fit.0 = sym none ∙ fit.1 in cc)

  pub spot-of : (i : ℕ) → i < s.pages → spot_at spaces p (first + i) ≡ Some (s, i)
  spot-of i lt =
      let order = c.memory.segments.ordered p c.parts c.here in
      let at = begins-first c.parts first c.part c.starts in
      let size = pages-are w spaces p first s c in
      let h = has-in c.part (first + i) (omega (arith, at)) (omega (arith, at, size, lt)) in
      let place : first + i - c.part.first ≡ i = omega (arith, at) in
      ap (option_and_then (λ (ps : List (Part Segment)). piece_at ps (first + i))) c.here ∙ at-found 1 c.parts first (first + i) c.part order (begins-found 1 c.parts first c.part order c.starts) h
      ∙ (λ j. Some (c.piece j, place j))

-- NO TRANSLATION THAT MAY WRITE stands for a page of the segment, once it was taken from those whose places hold a slot
pub no-writers : (old new : World) (spaces : Spaces) (p first map : ℕ) (s : Segment) → IsPartAt old spaces p first s → MemoryFits (record { world = new; spaces = spaces }) → new.maps ≡ old.maps → s.own ≡ Some map
    → AreProtected new.hat.places old.maps map p first (length (places_of old.maps map)) → HasNoWriters new.hat.places spaces s.own
no-writers old new spaces p first map s c fits maps own held place t y other there here is mine = elim (cases_Bool t.writable) [
  | inr not ↦ not
  | inl writes ↦ absurd (
      let same : other ≡ map = let z : Some other ≡ Some map = sym is ∙ own in cc in
      let ours : y.0.own ≡ Some map = mine ∙ ap (λ (k : ℕ). Some k) same in
      let m : Memory = record { world = new; spaces = spaces } in
      let l = fits.translations place t there in
      let at : l.spot ≡ y = let z : Some l.spot ≡ Some y = sym l.here ∙ here in cc in
      let S = SegmentFits (length new.files.files) new.maps in
      let o : IsSpotOf S t.page y = spot-part S spaces t.space t.page y fits.segments.ordered fits.segments.each here in
      let yfit : OwnFits new.maps y.0 y.0.kind = subst (λ (a : Segment). OwnFits new.maps a a.kind) o.piece o.fits.own in
      let its = own-there new.maps y.0 y.0.kind map yfit ours in
      let size = own-is old spaces p first s c map own in
      let pages : y.0.pages ≡ s.pages = sym its.2 ∙ ap (λ (ms : List (Option Map)). length (places_of ms map)) maps ∙ size.2 in
      let below : y.1 < s.pages =
      (let a = o.place in let b = o.low in let d = o.high in let e = o.fits.pages in let f = ap (λ (a : Segment). a.pages) o.piece in omega (arith, a, b, d, e, f, pages)) in
      let me = spot-of old spaces p first s c y.1 below in
      let owner = one-owner m p (first + y.1) (s, y.1) fits me (private-own old spaces p first s c map own) in
      let number : owner.0 ≡ map = let z : Some owner.0 ≡ Some map = sym owner.1 ∙ own in cc in
      let where_is = owner.2 t.space t.page y here (ours ∙ ap (λ (k : ℕ). Some k) (sym number)) refl in
      let alone = (l.writable writes).alone (ap (λ (a : Spot). a.0.kind) at ∙ its.3) in
      let slot : slot_in old.maps map y.1 ≡ Some alone.0 =
      ap (λ (ms : List (Option Map)). slot_in ms map y.1) (sym maps) ∙ sym (ap (option_and_then (λ (n : ℕ). slot_in new.maps n y.1)) ours) ∙ ap (own_slot new.maps) (sym at) ∙ alone.1 in
      let long = size.2 in
      let no = held y.1 alone.0 (omega (arith, below, long)) slot place t there where_is.0 where_is.1 in
      let z : false ≡ true = sym no ∙ writes in cc)
]

-- THE COPY COMES
pub copy-changes : (w new : World) (spaces : Spaces) (p child first number : ℕ) (s copy : Segment) (hat : HatSeen) (counts : List ℕ) (part_is : IsPartAt w spaces p first s) (k : MayComeAt spaces p child first s.pages) (zeros : List (Option ℕ))
    → KnowsZeros zeros spaces → KeepsPages w (record w { hat = hat }) spaces → HasNoWriters hat.places spaces s.own
    → (IsSome s.own → IsUnused w.maps number) → CountsMore w.anon.counts counts (slots_held w.maps s.own) → (s.own ≡ None → counts ≡ w.anon.counts)
    → w.anon.reserved + slots_for_part (record { first = first; pages = s.pages; piece = s }) ≤ length w.anon.counts
    → new ≡ record w { anon = record w.anon { counts = counts; reserved = w.anon.reserved + slots_for_part (record { first = first; pages = s.pages; piece = s }) }; maps = maps_held (maps_copied w.maps s.own number) s.shown; hat = hat }
    → copy ≡ copied_piece number s
    → ChangesSpace child (record { world = w; spaces = spaces }) (record { world = new; spaces = finite.insert spaces child (with_new_part (part first s.pages copy) k.kids) }) zeros (λ F. with_cells_copied F p child first s.pages)
copy-changes w new spaces p child first number s copy hat counts c k zeros knows keeps writers unused more alike room is made =
    let m : Memory = record { world = w; spaces = spaces } in
    let v : Memory = record { world = record w { hat = hat }; spaces = spaces } in
    let at = begins-first c.parts first c.part c.starts in
    let size = pages-are w spaces p first s c in
    let whole : c.part ≡ part first s.pages s = λ i. part (at i) (size i) (c.piece i) in
    let x : Part Segment = part first s.pages s in
    let may : MayCopy v p child c.parts k.kids x number counts = record {
      apart = k.apart;
      here = c.here;
      child_here = k.here;
      found = c.starts ∙ ap (λ (y : Part Segment). Some y) whole;
      free = k.free;
      unused = unused;
      more = more;
      alike = alike;
      held = λ place t y own there here its mine. writers place t y own there here its mine;
      room = room;
    } in
    let first_step = segment_rule.keeps child w v.world spaces c.memory keeps in
    let after = with_part_copied v child k.kids x number counts in
    let copied = fork_rule.copy v p child c.parts k.kids x number counts first_step.memory may in
    let both = segment_rule.joined child m v after (λ F. F) (λ F. with_cells_copied F p child first s.pages) (copied-respects p child first s.pages) first_step copied in
    let known = known-same zeros spaces after.spaces (fork_rule.zeros v p child c.parts k.kids x number counts first_step.memory may) knows in
    let same : after ≡ record { world = new; spaces = finite.insert spaces child (with_new_part (part first s.pages copy) k.kids) } = λ i. record { world = sym is i; spaces = finite.insert spaces child (with_new_part (part first s.pages (sym made i)) k.kids) } in
    subst (λ (n : Memory). ChangesSpace child m n zeros (λ F. with_cells_copied F p child first s.pages)) same (record { changes = both; known = known })

-- a map that is there stays when another is copied
pub copied-else : (maps : List (Option Map)) (own : Option ℕ) (number n : ℕ) → (IsSome own → IsUnused maps number) → IsMapThere maps n → anon_map_at (maps_copied maps own number) n ≡ anon_map_at maps n
copied-else maps None number n unused there = refl
copied-else maps (Some own) number n unused there = with_map_other maps number n (fresh_map (places_of maps own)) (unused refl) (there_apart maps n number there (unused refl))

-- and keeps its places, with one holder more at most, when the map of a zero object is held besides
pub copied-keeps : (maps : List (Option Map)) (own shown : Option ℕ) (number n : ℕ) → (IsSome own → IsUnused maps number) → ((k : ℕ) → shown ≡ Some k → IsMapThere maps k) → IsMapThere maps n → KeepsPlaces maps (maps_held (maps_copied maps own number) shown) n
copied-keeps maps own shown number n unused there_shown there =
    let put = maps_copied maps own number in
    let same = copied-else maps own number n unused there in
    let held = held-places put shown n (same-there maps put n same there) in
    let more = held-holders put shown n (λ k is. same-there maps put k (copied-else maps own number k unused (there_shown k is)) (there_shown k is)) in
    let as_was = same-holders maps put n same in
    let one = one-most (is_number n shown) in
    record { there = held.0; places = held.1 ∙ same-places maps put n same; holders = omega (arith, as_was, more, one) }
