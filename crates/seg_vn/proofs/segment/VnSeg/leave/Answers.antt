use Rattle.std.proofs.Common.{◌≡◌, ◌≤◌, ◌-◌, ℕ, List, Option, sym, ap, ◌∙◌, subst, arith}
use Rattle.std.specs.FinMap as finite
use Rattle.seg_ops.specs.addr_space.Space.{without_part}
use Rattle.seg_ops.specs.anon_slots.Slots.{slots_in_use}
use Rattle.seg_ops.specs.anon_map.Maps.{AreEmpty, IsMapThere, places_of, holders_of}
use Rattle.seg_ops.specs.vm_world.MapSteps.{maps_released, places_released}
use Rattle.seg_ops.specs.vm_world.SegmentSteps.{maps_left, places_left}
use Rattle.seg_ops.specs.vm_world.Segments.{Spaces}
use Rattle.seg_ops.specs.vm_world.World.{world_seen}
use Rattle.seg_ops.specs.vm_world.ZeroObjects.{KnowsZeros}
use Rattle.seg_ops.specs.vm_world.declared.segment.Segment.{Segment}
use Rattle.seg_ops.specs.vm_world.declared.world.World.{World}
use Rattle.seg_vn.specs.Cuts.{IsPartAt}
use Rattle.seg_vn.specs.Leaves.{IsUnloadedPart}
use Rattle.seg_vn.proofs.GivenBack.{gives-then, unloaded-given, release-given}
use Rattle.seg_vn.proofs.LeftSegments.{MayGo, part-within, own-is, first-part, next-part, left-there, left-empty, left-room, left-known, part-left}
use Rattle.seg_vn.proofs.segment.VnSeg.leave.Given.{Over}
use Rattle.seg_vn.proofs.segment.VnSeg.leave.Goals.{After-empty_own, After-empty_shown}
use Rattle.seg_vn.proofs.segment.VnSeg.leave.Goals as goal

pub unmap-requires-clause-within : goal.unmap-requires-clause-within
unmap-requires-clause-within g c = let r = c.requires.part in part-within (world_seen c.args.world.now) r.0 c.args.space c.args.first c.args.self.now r.1

pub empty_own-requires : goal.empty_own-requires
empty_own-requires g c = record {
  part =
      let r = c.requires.part in
      (r.0, first-part (world_seen c.args.world.now) (world_seen c.unmap.new.world) r.0 c.args.space c.args.first c.args.self.now c.self.inside.segment r.1 (c.unmap.ensures.keeps r.0 r.1.memory) c.unmap.ensures.unloaded (sym c.unmap.ensures.segment ∙ sym c.self.view_is));
}

-- the part is as it was, without translations
abbrev one : (g : Over) (c : After-empty_own g) (spaces : Spaces) → IsPartAt (world_seen c.args.world.now) spaces c.args.space c.args.first c.args.self.now → IsUnloadedPart (world_seen c.unmap.new.world) spaces c.args.space c.args.first c.self.inside.segment
one g c spaces part =
    first-part (world_seen c.args.world.now) (world_seen c.unmap.new.world) spaces c.args.space c.args.first c.args.self.now c.self.inside.segment part (c.unmap.ensures.keeps spaces part.memory) c.unmap.ensures.unloaded (sym c.unmap.ensures.segment ∙ sym c.self.view_is)

-- without its own pages
abbrev two : (g : Over) (c : After-empty_own g) (spaces : Spaces) → IsPartAt (world_seen c.args.world.now) spaces c.args.space c.args.first c.args.self.now → IsUnloadedPart (world_seen c.empty_own.new.world) spaces c.args.space c.args.first c.self.inside.segment
two g c spaces part =
    next-part (world_seen c.unmap.new.world) (world_seen c.empty_own.new.world) spaces c.args.space c.args.first c.self.inside.segment (one g c spaces part) (c.empty_own.ensures.changes spaces (one g c spaces part))
    (ap (λ (v : World g.row.D.Denot). v.hat) c.empty_own.ensures.rest)

listed : (g : Over) (c : After-empty_own g) (spaces : Spaces) → KnowsZeros c.args.world.now.zeros spaces → KnowsZeros c.empty_own.new.world.zeros spaces
listed g c spaces knows = subst (λ (zs : List (Option ℕ)). KnowsZeros zs spaces) (sym (ap (λ (v : World g.row.D.Denot). v.zeros) c.unmap.ensures.rest) ∙ sym (ap (λ (v : World g.row.D.Denot). v.zeros) c.empty_own.ensures.rest)) knows

pub empty_shown-requires : goal.empty_shown-requires
empty_shown-requires g c = record {
  part =
      let r = c.requires.part in
      let d = (goal.at.empty_shown-requires g c).After-empty_own in
      (r.0, two g d r.0 r.1, listed g d r.0 r.2);
}

-- AND IT MAY GO
abbrev three : (g : Over) (c : After-empty_shown g) (spaces : Spaces) → IsPartAt (world_seen c.args.world.now) spaces c.args.space c.args.first c.args.self.now → MayGo (world_seen c.empty_shown.new.world) spaces c.args.space c.args.first c.self.inside.segment
three g c spaces part =
    let d = (goal.at.After-empty_shown g c).After-empty_own in
    let u = next-part (world_seen c.empty_own.new.world) (world_seen c.empty_shown.new.world) spaces c.args.space c.args.first c.self.inside.segment (two g d spaces part) (c.empty_shown.ensures.changes spaces (two g d spaces part))
    (ap (λ (v : World g.row.D.Denot). v.hat) c.empty_shown.ensures.rest) in
    record { part = u.part; unloaded = u.unloaded; own = λ map is. c.empty_shown.ensures.still map (c.empty_own.ensures.own map is); shown = c.empty_shown.ensures.shown }

pub release-requires-clause-there : goal.release-requires-clause-there
release-requires-clause-there g c number is =
    let r = c.requires.part in
    (own-is (world_seen c.empty_shown.new.world) r.0 c.args.space c.args.first c.self.inside.segment (three g (goal.at.release-requires-clause-there g c).After-empty_shown r.0 r.1).part number is).0

pub release-requires-clause-room : goal.release-requires-clause-room
release-requires-clause-room g c =
    let r = c.requires.part in
    let room = left-room (world_seen c.empty_shown.new.world) r.0 c.args.space c.args.first c.self.inside.segment (three g (goal.at.release-requires-clause-room g c).After-empty_shown r.0 r.1) in
    omega (arith, room)

pub release-requires-2-clause-there : goal.release-requires-2-clause-there
release-requires-2-clause-there g c number is =
    let r = c.requires.part in
    subst (λ (v : World g.row.D.Denot). IsMapThere v.maps number) (sym c.release.ensures.released)
    (left-there (world_seen c.empty_shown.new.world) r.0 c.args.space c.args.first c.self.inside.segment (three g (goal.at.release-requires-2-clause-there g c).After-empty_shown r.0 r.1) number is)

pub release-requires-2-clause-empty : goal.release-requires-2-clause-empty
release-requires-2-clause-empty g c number is =
    let r = c.requires.part in
    subst (λ (v : World g.row.D.Denot). holders_of v.maps number ≡ 1 → AreEmpty (places_of v.maps number)) (sym c.release.ensures.released)
    (left-empty (world_seen c.empty_shown.new.world) r.0 c.args.space c.args.first c.self.inside.segment (three g (goal.at.release-requires-2-clause-empty g c).After-empty_shown r.0 r.1) number is)

pub release-requires-2-clause-room : goal.release-requires-2-clause-room
release-requires-2-clause-room g c =
    let r = c.requires.part in
    let room = left-room (world_seen c.empty_shown.new.world) r.0 c.args.space c.args.first c.self.inside.segment (three g (goal.at.release-requires-2-clause-room g c).After-empty_shown r.0 r.1) in
    subst (λ (v : World g.row.D.Denot). places_released v.maps c.self.inside.segment.shown ≤ v.anon.reserved - slots_in_use v.anon) (sym c.release.ensures.released) (omega (arith, room))

pub returns-clause-changes : goal.returns-clause-changes
returns-clause-changes g c spaces part knows =
    let d = (goal.at.returns-clause-changes g c).After-empty_shown in
    let e = (goal.at.After-empty_shown g d).After-empty_own in
    let u = world_seen c.empty_shown.new.world in
    let s : Segment = c.self.inside.segment in
    let p : ℕ = c.args.space in
    let first : ℕ = c.args.first in
    let go = three g d spaces part in
    let r = u.anon.reserved in
    let sum : r - places_released u.maps s.own - places_released (maps_released u.maps s.own) s.shown ≡ r - places_left u.maps s = omega arith in
    let is = ap world_seen c.release-2.ensures.released
    ∙ ap (λ (v : World g.row.D.Denot). record (world_seen v) { anon = record v.anon { reserved = v.anon.reserved - places_released v.maps s.shown }; maps = maps_released v.maps s.shown }) c.release.ensures.released
    ∙ (λ i. record u { anon = record u.anon { reserved = sum i }; maps = maps_left u.maps s }) in
    record {
      changes = part-left (world_seen c.args.world.now) (world_seen c.unmap.new.world) (world_seen c.empty_own.new.world) u (world_seen c.release-2.new.world) spaces p first c.args.self.now s part.memory (c.unmap.ensures.keeps spaces part.memory)
          (sym c.unmap.ensures.segment ∙ sym c.self.view_is) (c.empty_own.ensures.changes spaces (one g e spaces part)) (c.empty_shown.ensures.changes spaces (two g e spaces part)) go is;
      known =
          let lists = ap (λ (v : World g.row.D.Denot). v.zeros) c.release-2.ensures.released ∙ ap (λ (v : World g.row.D.Denot). v.zeros) c.release.ensures.released in
          subst (λ (zs : List (Option ℕ)). KnowsZeros zs (finite.insert spaces p (without_part first part.parts))) (sym lists) (left-known u spaces p first s go c.empty_own.new.world.zeros c.empty_shown.new.world.zeros (listed g e spaces knows) c.empty_shown.ensures.list);
    }

pub returns-clause-gives : goal.returns-clause-gives
returns-clause-gives g c =
    let r = c.requires.part in
    let go = three g (goal.at.returns-clause-gives g c).After-empty_shown r.0 r.1 in
    let w = world_seen c.args.world.now in
    let w1 = world_seen c.unmap.new.world in
    let w2 = world_seen c.empty_own.new.world in
    let w3 = world_seen c.empty_shown.new.world in
    let w4 = world_seen c.release.new.world in
    let w5 = world_seen c.release-2.new.world in
    let s : Segment = c.self.inside.segment in
    gives-then w w1 w5 (unloaded-given w w1 (ap (λ (v : World g.row.D.Denot). v.anon) c.unmap.ensures.rest) (ap (λ (v : World g.row.D.Denot). v.maps) c.unmap.ensures.rest) c.unmap.ensures.none c.unmap.ensures.modified)
    (gives-then w1 w2 w5 c.empty_own.ensures.gives
    (gives-then w2 w3 w5 c.empty_shown.ensures.gives
    (gives-then w3 w4 w5 (release-given w3 w4 s.own _ (λ n is. (own-is w3 r.0 c.args.space c.args.first s go.part n is).0) (ap world_seen c.release.ensures.released))
    (release-given w4 w5 s.shown _ (λ n is. subst (λ (v : World g.row.D.Denot). IsMapThere v.maps n) (sym c.release.ensures.released) (left-there w3 r.0 c.args.space c.args.first s go n is)) (ap world_seen c.release-2.ensures.released)))))
