use Rattle.std.proofs.Common.{◌≡◌, ◌-◌, ℕ, Some, sym, ap, ◌∙◌, subst, arith}
use Rattle.seg_ops.specs.anon_map.Maps.{AreEmpty, places_of}
use Rattle.seg_ops.specs.vm_world.World.{world_seen}
use Rattle.seg_ops.specs.vm_world.declared.world.World.{World}
use Rattle.seg_ops.specs.Empties.{OwnsPlaces, places_emptied}
use Rattle.seg_ops.specs.OwnPages.{without_own_pages}
use Rattle.seg_ops.proofs.SlotRanges.{length-emptied}
use Rattle.seg_ops.specs.vm_world.CallSteps.{ChangesMemory}
use Rattle.seg_vn.proofs.GivenBack.{places-given, empty-here}
use Rattle.seg_vn.proofs.LeftSegments.{own-is, owns-part, all-emptied, loses-own, loses-none}
use Rattle.seg_vn.proofs.leaves.empty_own.Goals as goal

pub drop_places-requires-clause-there : goal.drop_places-requires-clause-there
drop_places-requires-clause-there g c = let r = c.requires.part in (own-is (world_seen c.args.world.now) r.0 c.args.space c.args.first c.args.segment r.1.part c.in-Some.map c.in-Some.is).0

pub drop_places-requires-clause-within : goal.drop_places-requires-clause-within
drop_places-requires-clause-within g c =
    let r = c.requires.part in
    let size = (own-is (world_seen c.args.world.now) r.0 c.args.space c.args.first c.args.segment r.1.part c.in-Some.map c.in-Some.is).2 in
    omega (arith, size)

pub drop_places-requires-clause-owned : goal.drop_places-requires-clause-owned
drop_places-requires-clause-owned g c =
    let r = c.requires.part in
    let w = world_seen c.args.world.now in
    let all : c.args.segment.pages ≡ c.args.segment.pages - 0 = omega arith in (
      r.0,
      c.args.space,
      c.args.first,
      r.1.part.memory,
      subst (λ (k : ℕ). OwnsPlaces w.hat.places r.0 c.args.space c.args.first c.in-Some.map 0 k) all (owns-part w r.0 c.args.space c.args.first c.args.segment r.1.part r.1.unloaded c.in-Some.map c.in-Some.is),
    )

pub returns-in-Some-clause-own : goal.returns-in-Some-clause-own
returns-in-Some-clause-own g c map is =
    let r = c.requires.part in
    let own = own-is (world_seen c.args.world.now) r.0 c.args.space c.args.first c.args.segment r.1.part c.in-Some.map c.in-Some.is in
    let n = c.args.segment.pages - 0 in
    let places = places_of c.args.world.now.maps c.in-Some.map in
    let same : c.in-Some.map ≡ map = let z : Some c.in-Some.map ≡ Some map = sym c.in-Some.is ∙ is in cc in
    let size = own.2 in
    subst (λ (k : ℕ). AreEmpty (places_of c.drop_places.new.world.maps k)) same
    (empty-here (world_seen c.args.world.now) (world_seen c.drop_places.new.world) c.in-Some.map (places_emptied places 0 n) own.0 (length-emptied places 0 n) c.drop_places.ensures.maps (all-emptied places n (omega (arith, size))))

pub returns-in-Some-clause-gives : goal.returns-in-Some-clause-gives
returns-in-Some-clause-gives g c =
    let r = c.requires.part in
    let own = own-is (world_seen c.args.world.now) r.0 c.args.space c.args.first c.args.segment r.1.part c.in-Some.map c.in-Some.is in
    let n = c.args.segment.pages - 0 in
    let places = places_of c.args.world.now.maps c.in-Some.map in
    places-given (world_seen c.args.world.now) (world_seen c.drop_places.new.world) c.in-Some.map (places_emptied places 0 n) own.0 (length-emptied places 0 n) c.drop_places.ensures.maps
    c.drop_places.ensures.fall (ap (λ (w : World g.row.D.Denot). w.hat) c.drop_places.ensures.rest) c.drop_places.ensures.modified

pub returns-in-Some-clause-changes : goal.returns-in-Some-clause-changes
returns-in-Some-clause-changes g c spaces part =
    let w = world_seen c.args.world.now in
    let new = world_seen c.drop_places.new.world in
    let p = c.args.space in
    let first = c.args.first in
    let n = c.args.segment.pages in
    let all : n ≡ n - 0 = omega arith in
    let owned = subst (λ (k : ℕ). OwnsPlaces w.hat.places spaces p first c.in-Some.map 0 k) all (owns-part w spaces p first c.args.segment part.part part.unloaded c.in-Some.map c.in-Some.is) in
    loses-own p first n (record { world = w; spaces = spaces }) (record { world = new; spaces = spaces })
    (subst (λ (k : ℕ). ChangesMemory p (record { world = w; spaces = spaces }) (record { world = new; spaces = spaces }) (λ F. without_own_pages F p first k)) (sym all)
    (c.drop_places.ensures.changes spaces p first part.part.memory owned))

pub returns-in_default-clause-changes : goal.returns-in_default-clause-changes
returns-in_default-clause-changes g c spaces part = loses-none c.args.space c.args.first c.args.segment.pages (record { world = world_seen c.args.world.now; spaces = spaces }) part.part.memory
