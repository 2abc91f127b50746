use Rattle.std.proofs.Common.{◌-◌, List, refl, ap, ◌∙◌}
use Rattle.std.specs.Prelude.{vec_capacity}
use Rattle.std.specs.FinMap as finite
use Rattle.seg_vn.specs.addr_space.Space.{Part}
use Rattle.seg_vn.specs.anon_map.Maps.{free_numbers}
use Rattle.seg_vn.specs.vm_world.FlatMemory.{Memory}
use Rattle.seg_vn.specs.vm_world.World.{world_seen}
use Rattle.seg_vn.specs.vm_world.World as worlds
use Rattle.seg_vn.specs.Clears.{SpaceFits}
use Rattle.seg_vn.specs.vm_world.declared.segment.Segment.{Segment}
use Rattle.mmap_calls.specs.Protections.{most_at}
use Rattle.mmap_calls.proofs.Replaced.{fits-step, fits-then, numbers-after, cuts-done, room-later}
use Rattle.mmap_calls.proofs.cuts.cut_ends.Goals.{In_ok-reserve-2}
use Rattle.mmap_calls.proofs.cuts.cut_ends.Given.{Over}
use Rattle.mmap_calls.proofs.cuts.cut_ends.Goals as goal

-- the world once the numbers are taken
abbrev taken : (g : Over) (c : In_ok-reserve-2 g) → worlds.World
taken g c = record (world_seen c.args.world.now) { maps = c.reserve-2.new.self }

fits-taken : (g : Over) (c : In_ok-reserve-2 g) → SpaceFits (taken g c) c.args.world.now.zeros c.requires.fits.0 c.args.process c.reserve.new.self.parts
fits-taken g c =
    let m : Memory = record { world = world_seen c.args.world.now; spaces = c.requires.fits.0 } in
    fits-then m c.args.process c.args.space.now.parts c.reserve.new.self.parts c.args.world.now.zeros c.args.world.now.zeros (taken g c) c.requires.fits.1
    (numbers-after m c.args.process c.args.space.now.parts c.args.world.now.zeros c.args.world.now.zeros (taken g c) (2 - free_numbers c.args.world.now.maps) c.requires.fits.1 (ap (λ ms. record (world_seen c.args.world.now) { maps = ms }) c.in_ok-reserve-2.ensures.new) (λ z. refl)) c.in_ok-reserve.ensures.parts

pub cut-requires-clause-room : goal.cut-requires-clause-room
cut-requires-clause-room g c = (
  2,
  room-later c.in_ok-end_room.end_room.items (vec_capacity c.in_ok-end_room.end_room) 3 (2 - free_numbers c.args.world.now.maps) c.args.world.now.maps c.reserve-2.new.self c.args.space.now.parts c.reserve.new.self.parts c.args.end
      c.in_ok-reserve-2.ensures.new c.in_ok-reserve.ensures.parts c.in_ok-end_room.ensures,
)

pub cut-requires-clause-fits : goal.cut-requires-clause-fits
cut-requires-clause-fits g c = (c.requires.fits.0, fits-taken g (goal.at.cut-requires-clause-fits g c).In_ok-reserve-2)

pub cut-requires-2-clause-room : goal.cut-requires-2-clause-room
cut-requires-2-clause-room g c = (
  1,
  c.cut.ensures.rooms c.in_ok-begin_room.begin_room.items (vec_capacity c.in_ok-begin_room.begin_room) 2 c.args.first c.requires.range
      (room-later c.in_ok-begin_room.begin_room.items (vec_capacity c.in_ok-begin_room.begin_room) 3 (2 - free_numbers c.args.world.now.maps) c.args.world.now.maps c.reserve-2.new.self c.args.space.now.parts c.reserve.new.self.parts c.args.first
      c.in_ok-reserve-2.ensures.new c.in_ok-reserve.ensures.parts c.in_ok-begin_room.ensures),
)

pub cut-requires-2-clause-fits : goal.cut-requires-2-clause-fits
cut-requires-2-clause-fits g c =
    let d = (goal.at.cut-requires-2-clause-fits g c).In_ok-reserve-2 in (
      finite.insert c.requires.fits.0 c.args.process c.cut.new.space.parts,
      fits-step c.args.process (taken g d) (world_seen c.cut.new.world) c.requires.fits.0 c.reserve.new.self.parts c.cut.new.space.parts c.args.world.now.zeros c.cut.new.world.zeros (λ F. F) (fits-taken g d) c.cut.ensures.changes,
    )

pub returns-clause-changes : goal.returns-clause-changes
returns-clause-changes g c = λ spaces fits.
    let p = c.args.process in
    let d = (goal.at.returns-clause-changes g c).In_ok-reserve-2 in
    let m : Memory = record { world = world_seen c.args.world.now; spaces = spaces } in
    cuts-done m p (taken g d) (world_seen c.cut.new.world) (world_seen c.cut-2.new.world) c.args.space.now.parts c.reserve.new.self.parts c.cut.new.space.parts c.cut-2.new.space.parts c.args.world.now.zeros c.args.world.now.zeros c.cut.new.world.zeros c.cut-2.new.world.zeros
    (2 - free_numbers c.args.world.now.maps) fits (ap (λ ms. record (world_seen c.args.world.now) { maps = ms }) c.in_ok-reserve-2.ensures.new) (λ z. refl) c.in_ok-reserve.ensures.parts c.cut.ensures.changes c.cut-2.ensures.changes

pub returns-clause-most : goal.returns-clause-most
returns-clause-most g c = λ q. c.cut-2.ensures.most q ∙ c.cut.ensures.most q ∙ ap (λ (ps : List (Part Segment)). most_at ps q) c.in_ok-reserve.ensures.parts
