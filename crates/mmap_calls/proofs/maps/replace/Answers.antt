use Rattle.std.proofs.Common.{◌≡◌, ℕ, ◌+◌, ◌-◌, cond, List, length, Option, Some, None, sym, ap, ◌∙◌, subst, arith}
use Rattle.std.specs.Prelude.{option_map, slice_index_or, vec_capacity, IsSome}
use Rattle.std.specs.FinMap as finite
use Rattle.seg_vn.specs.addr_space.Space.{Part, part, piece_at, with_new_part}
use Rattle.seg_vn.specs.anon_map.Maps.{places_of}
use Rattle.seg_vn.specs.anon_slots.Slots.{AnonSlotsSeen, count_at}
use Rattle.seg_vn.specs.flat_model.Mapping.{with_mapping, without_pages}
use Rattle.seg_vn.specs.flat_model.Space.{is_in_range}
use Rattle.seg_vn.specs.flat_model.Words.{page, pages_in}
use Rattle.seg_vn.specs.vm_world.FlatMemory.{Memory}
use Rattle.seg_vn.specs.vm_world.MapSteps.{maps_held}
use Rattle.seg_vn.specs.vm_world.Segments.{Spaces}
use Rattle.seg_vn.specs.vm_world.World.{world_seen}
use Rattle.seg_vn.specs.vm_world.World as worlds
use Rattle.seg_vn.specs.vm_world.ZeroObjects.{AreSameZeros, free_number}
use Rattle.seg_vn.specs.vm_world.declared.segment.Segment.{Segment}
use Rattle.seg_vn.specs.vm_world.declared.world.World.{World}
use Rattle.seg_vn.proofs.vm_world.ComingParts.{zero-there}
use Rattle.seg_vn.proofs.seg_ops.Modified.{modifies-tables, modifies-then}
use Rattle.seg_vn.specs.Clears.{SpaceFits, ChangesSpace, GivesBack}
use Rattle.mmap_calls.specs.Looks.{kind_and_object}
use Rattle.mmap_calls.specs.Refusals.{map_of_object, map_request, slots_for_pages}
use Rattle.mmap_calls.specs.Rooms.{AreMade}
use Rattle.mmap_calls.specs.declared.maps.Anons.{Anons}
use Rattle.mmap_calls.proofs.Replaced.{fits-step, fits-then, numbers-after, cuts-done, room-later, more-holders, more-places, named-object, may-clear, roomy, new_part, replaced}
use Rattle.mmap_calls.proofs.maps.replace.Goals.{In_ok-begin, After-cut-2, After-clear}
use Rattle.mmap_calls.proofs.maps.replace.Given.{Over}
use Rattle.mmap_calls.proofs.maps.replace.Goals as goal

-- memory fits where the room is taken
fits-taken : (g : Over) (c : In_ok-begin g) → SpaceFits (world_seen c.take_rooms.new.world) c.take_rooms.new.world.zeros c.requires.fits.0 c.args.process c.take_rooms.new.space.parts
fits-taken g c =
    let m : Memory = record { world = world_seen c.args.world.now; spaces = c.requires.fits.0 } in
    let more = c.in_ok-begin.ensures.more in
    fits-then m c.args.process c.args.space.now.parts c.take_rooms.new.space.parts c.args.world.now.zeros c.take_rooms.new.world.zeros (world_seen c.take_rooms.new.world) c.requires.fits.1
    (numbers-after m c.args.process c.args.space.now.parts c.args.world.now.zeros c.take_rooms.new.world.zeros (world_seen c.take_rooms.new.world) more.0 c.requires.fits.1 (ap (λ w. world_seen w) more.1) c.in_ok-begin.ensures.zeros) c.in_ok-begin.ensures.parts

pub cut-requires-clause-room : goal.cut-requires-clause-room
cut-requires-clause-room g c =
    let more = c.in_ok-begin.ensures.more in (
      2,
      room-later c.in_ok-begin.field-0.end.items (vec_capacity c.in_ok-begin.field-0.end) 3 more.0 c.args.world.now.maps c.take_rooms.new.world.maps c.args.space.now.parts c.take_rooms.new.space.parts (c.args.map.now.first + c.args.map.now.pages)
          (ap (λ (w : World g.row.D.Denot). w.maps) more.1) c.in_ok-begin.ensures.parts c.in_ok-begin.ensures.end,
    )

pub cut-requires-clause-fits : goal.cut-requires-clause-fits
cut-requires-clause-fits g c = (c.requires.fits.0, fits-taken g (goal.at.cut-requires-clause-fits g c).In_ok-begin)

pub cut-requires-2-clause-room : goal.cut-requires-2-clause-room
cut-requires-2-clause-room g c =
    let more = c.in_ok-begin.ensures.more in (
      1,
      c.cut.ensures.rooms c.in_ok-begin.field-0.begin.items (vec_capacity c.in_ok-begin.field-0.begin) 2 c.args.map.now.first (omega arith)
          (room-later c.in_ok-begin.field-0.begin.items (vec_capacity c.in_ok-begin.field-0.begin) 3 more.0 c.args.world.now.maps c.take_rooms.new.world.maps c.args.space.now.parts c.take_rooms.new.space.parts c.args.map.now.first
          (ap (λ (w : World g.row.D.Denot). w.maps) more.1) c.in_ok-begin.ensures.parts c.in_ok-begin.ensures.begin),
    )

pub cut-requires-2-clause-fits : goal.cut-requires-2-clause-fits
cut-requires-2-clause-fits g c = (
  finite.insert c.requires.fits.0 c.args.process c.cut.new.space.parts,
  fits-step c.args.process (world_seen c.take_rooms.new.world) (world_seen c.cut.new.world) c.requires.fits.0 c.take_rooms.new.space.parts c.cut.new.space.parts c.take_rooms.new.world.zeros c.cut.new.world.zeros (λ F. F) (fits-taken g (goal.at.cut-requires-2-clause-fits g c).In_ok-begin)
      c.cut.ensures.changes,
)

-- what holds once the pieces are cut
cuts : (g : Over) (c : After-cut-2 g) (spaces : Spaces) → SpaceFits (world_seen c.args.world.now) c.args.world.now.zeros spaces c.args.process c.args.space.now.parts
    → ChangesSpace c.args.process (record { world = world_seen c.args.world.now; spaces = spaces }) (record { world = world_seen c.cut-2.new.world; spaces = finite.insert spaces c.args.process c.cut-2.new.space.parts }) c.cut-2.new.world.zeros (λ F. F)
cuts g c spaces fits =
    let more = c.in_ok-begin.ensures.more in
    cuts-done (record { world = world_seen c.args.world.now; spaces = spaces }) c.args.process (world_seen c.take_rooms.new.world) (world_seen c.cut.new.world) (world_seen c.cut-2.new.world) c.args.space.now.parts c.take_rooms.new.space.parts c.cut.new.space.parts c.cut-2.new.space.parts
    c.args.world.now.zeros c.take_rooms.new.world.zeros c.cut.new.world.zeros c.cut-2.new.world.zeros more.0 fits (ap (λ w. world_seen w) more.1) c.in_ok-begin.ensures.zeros c.in_ok-begin.ensures.parts c.cut.ensures.changes c.cut-2.ensures.changes

same-list : (g : Over) (c : After-cut-2 g) → c.cut-2.new.world.zeros ≡ c.take_rooms.new.world.zeros
same-list g c = ap (λ (w : World g.row.D.Denot). w.zeros) c.cut-2.ensures.world ∙ ap (λ (w : World g.row.D.Denot). w.zeros) c.cut.ensures.world

alike : (g : Over) (c : After-cut-2 g) → AreSameZeros c.args.world.now.zeros c.cut-2.new.world.zeros
alike g c = subst (AreSameZeros c.args.world.now.zeros) (sym (same-list g c)) c.in_ok-begin.ensures.zeros

looks : (g : Over) (c : After-cut-2 g) (k : ℕ) → option_map kind_and_object (piece_at c.cut-2.new.space.parts k) ≡ option_map kind_and_object (piece_at c.args.space.now.parts k)
looks g c k = c.cut-2.ensures.shows k ∙ c.cut.ensures.shows k ∙ ap (λ (ps : List (Part Segment)). option_map kind_and_object (piece_at ps k)) c.in_ok-begin.ensures.parts

lengths : (g : Over) (c : After-cut-2 g) (z n : ℕ) → slice_index_or c.args.world.now.zeros z None ≡ Some n → length (places_of c.cut-2.new.world.maps n) ≡ length (places_of c.args.world.now.maps n)
lengths g c z n is =
    let more = c.in_ok-begin.ensures.more in
    let taken = c.in_ok-begin.ensures.zeros z ∙ is in
    c.cut-2.ensures.lengths z n (ap (λ (zs : List (Option ℕ)). slice_index_or zs z None) (ap (λ (w : World g.row.D.Denot). w.zeros) c.cut.ensures.world) ∙ taken) ∙ c.cut.ensures.lengths z n taken
    ∙ more-places more.0 c.args.world.now.maps c.take_rooms.new.world.maps n (ap (λ (w : World g.row.D.Denot). w.maps) more.1)

pub hold-requires : goal.hold-requires
hold-requires g c = record {
  there = λ n is. (
      let d = (goal.at.hold-requires g c).After-cut-2 in
      let m : Memory = record { world = world_seen c.args.world.now; spaces = c.requires.fits.0 } in
      let more = c.in_ok-begin.ensures.more in
      let named : map_of_object c.args.world.now.zeros c.args.map.now.request.object ≡ Some n = sym c.requires.mapping.held ∙ is in
      let o = named-object c.args.world.now.zeros c.args.map.now.request.object n named in
      let whole = cuts g d c.requires.fits.0 c.requires.fits.1 in
      let few = c.in_ok-begin.ensures.few n is in
      let old = more-holders more.0 c.args.world.now.maps c.take_rooms.new.world.maps n (ap (λ (w : World g.row.D.Denot). w.maps) more.1) in
      let one = c.cut.ensures.held n in
      let two = c.cut-2.ensures.held n in
      (zero-there (record { world = world_seen c.cut-2.new.world; spaces = finite.insert c.requires.fits.0 c.args.process c.cut-2.new.space.parts }) whole.changes.memory o.0 n (whole.known o.0 ∙ alike g d o.0 ∙ o.2), omega (arith, few, old, one, two)));
}

pub clear-requires-clause-fits : goal.clear-requires-clause-fits
clear-requires-clause-fits g c =
    let d = (goal.at.clear-requires-clause-fits g c).After-cut-2 in
    subst (λ (v : World g.row.D.Denot). (s : Spaces) × SpaceFits (world_seen v) v.zeros s c.args.process c.cut-2.new.space.parts) (sym c.hold.ensures.held)
    (may-clear (record { world = world_seen c.args.world.now; spaces = c.requires.fits.0 }) c.args.process c.cut-2.new.space.parts c.args.world.now.zeros c.cut-2.new.world.zeros (world_seen c.cut-2.new.world) c.args.map.now.request.object c.args.map.now.held
    c.requires.mapping.held (alike g d) (cuts g d c.requires.fits.0 c.requires.fits.1))

-- the range is cleared
module _ (g : Over) (c : After-clear g) where
  abbrev p : ℕ
  p = c.args.process

  abbrev cut : List (Part Segment)
  cut = c.cut-2.new.space.parts

  abbrev left : List (Part Segment)
  left = c.clear.new.space.parts

  abbrev old : worlds.World
  old = world_seen c.args.world.now

  abbrev w : worlds.World
  w = world_seen c.cut-2.new.world

  abbrev x : worlds.World
  x = world_seen c.clear.new.world

  abbrev held : Option ℕ
  held = c.args.map.now.held

  first : c.args.map.now.first ≡ page c.args.map.now.request.addr
  first = c.requires.mapping.first

  many : c.args.map.now.first + c.args.map.now.pages - c.args.map.now.first ≡ pages_in c.args.map.now.request.length
  many = let pages = c.requires.mapping.pages in omega (arith, pages)

  clears : (s : Spaces) → SpaceFits (record w { maps = maps_held w.maps held }) c.cut-2.new.world.zeros s p cut
      → ChangesSpace p (record { world = record w { maps = maps_held w.maps held }; spaces = s }) (record { world = x; spaces = finite.insert s p left }) c.clear.new.world.zeros (λ F. without_pages F p (page c.args.map.now.request.addr) (pages_in c.args.map.now.request.length))
  clears = subst (λ (k : ℕ). (s : Spaces) → SpaceFits (record w { maps = maps_held w.maps held }) c.cut-2.new.world.zeros s p cut
      → ChangesSpace p (record { world = record w { maps = maps_held w.maps held }; spaces = s }) (record { world = x; spaces = finite.insert s p left }) c.clear.new.world.zeros (λ F. without_pages F p k (pages_in c.args.map.now.request.length))) first
      (subst (λ (k : ℕ). (s : Spaces) → SpaceFits (record w { maps = maps_held w.maps held }) c.cut-2.new.world.zeros s p cut
      → ChangesSpace p (record { world = record w { maps = maps_held w.maps held }; spaces = s }) (record { world = x; spaces = finite.insert s p left }) c.clear.new.world.zeros (λ F. without_pages F p c.args.map.now.first k)) many
      (subst (λ (v : World g.row.D.Denot). (s : Spaces) → SpaceFits (world_seen v) v.zeros s p cut
      → ChangesSpace p (record { world = world_seen v; spaces = s }) (record { world = x; spaces = finite.insert s p left }) c.clear.new.world.zeros (λ F. without_pages F p c.args.map.now.first (c.args.map.now.first + c.args.map.now.pages - c.args.map.now.first))) c.hold.ensures.held
      c.clear.ensures.changes))

  gives : GivesBack (record w { maps = maps_held w.maps held }) x
  gives = subst (λ (v : World g.row.D.Denot). GivesBack (world_seen v) x) c.hold.ensures.held c.clear.ensures.gives

  gone : (k : ℕ) → piece_at left k ≡ cond (is_in_range (page c.args.map.now.request.addr) (pages_in c.args.map.now.request.length) k) None (piece_at cut k)
  gone k = c.clear.ensures.pages k ∙ (λ i. cond (is_in_range (first i) (many i) k) None (piece_at cut k))

pub make_anons-object-requires-clause-object : goal.make_anons-object-requires-clause-object
make_anons-object-requires-clause-object g c =
    c.clear.ensures.objects (subst (λ (zs : List (Option ℕ)). IsSome (free_number zs)) (sym (ap (λ (v : World g.row.D.Denot). v.zeros) c.hold.ensures.held ∙ same-list g (goal.at.make_anons-object-requires-clause-object g c).After-cut-2)) c.in_ok-begin.ensures.object)

pub make_anons-object-requires-clause-numbers : goal.make_anons-object-requires-clause-numbers
make_anons-object-requires-clause-numbers g c =
    let taken = c.in_ok-begin.ensures.numbers in
    let one = c.cut.ensures.numbers in
    let two = c.cut-2.ensures.numbers in
    let held = c.hold.ensures.free in
    let gone = c.clear.ensures.gives.numbers in
    omega (arith, taken, one, two, held, gone)

pub make_anons-object-requires-clause-room : goal.make_anons-object-requires-clause-room
make_anons-object-requires-clause-room g c =
    let d = (goal.at.make_anons-object-requires-clause-room g c).After-cut-2 in
    let e = (goal.at.make_anons-object-requires-clause-room g c).After-clear in
    let spaces = c.requires.fits.0 in
    let fits = c.requires.fits.1 in
    let room = roomy (record { world = world_seen c.args.world.now; spaces = spaces }) c.args.process c.args.space.now.parts c.cut-2.new.space.parts c.clear.new.space.parts c.args.world.now.zeros c.cut-2.new.world.zeros c.clear.new.world.zeros (world_seen c.cut-2.new.world) (world_seen c.clear.new.world)
    c.args.map.now.request c.args.map.now.held fits c.requires.request (c.requires.due spaces c.args.process fits) c.requires.mapping.held (alike g d) (cuts g d spaces fits) (looks g d) (lengths g d) (clears g e) (gives g e) (gone g e) in
    let pages = ap (slots_for_pages c.args.map.now.request.kind c.args.map.now.request.object) c.requires.mapping.pages in
    omega (arith, room, pages)

-- what is cleared makes no page modified, and the rest moves neither frames nor translations
pub returns-clause-modified : goal.returns-clause-modified
returns-clause-modified g c =
    let e = (goal.at.returns-clause-modified g c).After-clear in
    let old = world_seen c.args.world.now in
    let w = world_seen c.cut-2.new.world in
    let held : worlds.World = record w { maps = maps_held w.maps c.args.map.now.held } in
    let x = world_seen c.clear.new.world in
    let new = world_seen c.make_anons-object.new.world in
    modifies-then old held new
    (modifies-tables old held
    (ap (λ (v : World g.row.D.Denot). v.store) c.cut-2.ensures.world ∙ ap (λ (v : World g.row.D.Denot). v.store) c.cut.ensures.world ∙ ap (λ (v : World g.row.D.Denot). v.store) c.in_ok-begin.ensures.more.1)
    (ap (λ (v : World g.row.D.Denot). v.hat) c.cut-2.ensures.world ∙ ap (λ (v : World g.row.D.Denot). v.hat) c.cut.ensures.world ∙ ap (λ (v : World g.row.D.Denot). v.hat) c.in_ok-begin.ensures.more.1))
    (modifies-then held x new (gives g e).modified
    (modifies-tables x new (ap (λ (v : World g.row.D.Denot). v.store) c.make_anons-object.ensures.rest) (ap (λ (v : World g.row.D.Denot). v.hat) c.make_anons-object.ensures.rest)))

pub returns-clause-fall : goal.returns-clause-fall
returns-clause-fall g c = λ slot.
    let d = (goal.at.returns-clause-fall g c).After-cut-2 in
    let e = (goal.at.returns-clause-fall g c).After-clear in
    let fall = (gives g e).fall slot in
    let old : c.cut-2.new.world.anon ≡ c.args.world.now.anon = ap (λ (v : World g.row.D.Denot). v.anon) c.cut-2.ensures.world ∙ ap (λ (v : World g.row.D.Denot). v.anon) c.cut.ensures.world ∙ ap (λ (v : World g.row.D.Denot). v.anon) c.in_ok-begin.ensures.more.1 in
    let before = ap (λ (a : AnonSlotsSeen). count_at a slot) old in
    let then = ap (λ (v : World g.row.D.Denot). count_at v.anon slot) c.make_anons-object.ensures.rest in
    omega (arith, fall, before, then)

pub returns-clause-done : goal.returns-clause-done
returns-clause-done g c = λ spaces fits.
    let d = (goal.at.returns-clause-done g c).After-cut-2 in
    let e = (goal.at.returns-clause-done g c).After-clear in
    let p : ℕ = c.args.process in
    let q = c.args.map.now.request in
    let a : Anons = c.make_anons-object.result in
    let m : Memory = record { world = world_seen c.args.world.now; spaces = spaces } in
    let left : List (Part Segment) = c.clear.new.space.parts in
    let w : worlds.World = world_seen c.clear.new.world in
    let now : List (Option ℕ) = c.make_anons-object.new.world.zeros in
    let start = c.requires.mapping.first in
    let pages = c.requires.mapping.pages in
    let index = c.page_of.ensures in
    let files : c.clear.new.world.files ≡ c.args.world.now.files =
    ap (λ (v : World g.row.D.Denot). v.files) c.clear.ensures.rest ∙ ap (λ (v : World g.row.D.Denot). v.files) c.hold.ensures.held ∙ ap (λ (v : World g.row.D.Denot). v.files) c.cut-2.ensures.world ∙ ap (λ (v : World g.row.D.Denot). v.files) c.cut.ensures.world ∙ ap (λ (v : World g.row.D.Denot). v.files) c.in_ok-begin.ensures.more.1 in
    let made : AreMade w.maps c.make_anons-object.new.world.maps c.clear.new.world.zeros now c.args.map.now.held (pages_in q.length) q.kind q.object a =
    subst (λ (k : ℕ). AreMade w.maps c.make_anons-object.new.world.maps c.clear.new.world.zeros now c.args.map.now.held k q.kind q.object a) pages c.make_anons-object.ensures.made in
    let come = replaced m p c.args.space.now.parts c.cut-2.new.space.parts left c.args.world.now.zeros c.cut-2.new.world.zeros c.clear.new.world.zeros (world_seen c.cut-2.new.world) w q c.args.map.now.held fits c.requires.request (c.requires.due spaces c.args.process fits) c.requires.mapping.held
    (alike g d) (cuts g d spaces fits) (looks g d) (lengths g d) (clears g e) (gives g e) (gone g e) a c.make_anons-object.new.world.maps now files made in
    let new : world_seen c.make_anons-object.new.world ≡ record w { anon = record w.anon { reserved = w.anon.reserved + slots_for_pages q.kind q.object (pages_in q.length) }; maps = c.make_anons-object.new.world.maps } =
    ap (λ v. world_seen v) c.make_anons-object.ensures.rest ∙ (λ i. record w { anon = record w.anon { reserved = w.anon.reserved + slots_for_pages q.kind q.object (pages i) }; maps = c.make_anons-object.new.world.maps }) in
    let parts : c.insert.new.self.parts ≡ with_new_part (new_part (world_seen c.args.world.now) q a) left =
    c.insert.ensures.parts ∙ ap (λ (s : Segment). with_new_part (part c.args.map.now.first c.args.map.now.pages s) left) c.new-segment.ensures
    ∙ (λ i. with_new_part (part (start i) (pages i) (record { pages = pages i; prot = q.prot; max = c.requires.mapping.max i; kind = q.kind; object = a.object; index = index i; own = a.own; shown = a.shown })) left) in
    subst (λ (v : worlds.World). ChangesSpace p m (record { world = v; spaces = finite.insert spaces p c.insert.new.self.parts }) now (λ F. with_mapping F p (map_request q) (page q.addr))) (sym new)
    (subst (λ (ps : List (Part Segment)). ChangesSpace p m (record { world = record w { anon = record w.anon { reserved = w.anon.reserved + slots_for_pages q.kind q.object (pages_in q.length) }; maps = c.make_anons-object.new.world.maps }; spaces = finite.insert spaces p ps }) now (λ F. with_mapping F p (map_request q) (page q.addr)))
    (sym parts) come)
