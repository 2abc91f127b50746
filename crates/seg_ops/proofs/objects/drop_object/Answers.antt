use Rattle.std.proofs.Common.{◌≡◌, ◌+◌, ◌<◌, ℕ, suc, length, None, refl, sym, ap, ◌∙◌, subst, arith, slice_set}
use Rattle.vm_world.specs.anon_map.Maps.{places_of, with_places}
use Rattle.vm_world.specs.World.{world_seen}
use Rattle.vm_world.specs.declared.world.World.{World}
use Rattle.seg_ops.specs.Empties.{EmptiesPlaces, IsUnloadedZero, places_emptied}
use Rattle.seg_ops.proofs.SlotObjects.{nothing-emptied, more-emptied, changes-emptied, all-emptied}
use Rattle.seg_ops.proofs.SlotPlaces.{places-same}
use Rattle.seg_ops.proofs.SlotRanges.{there-still, length-still, maps-more}
use Rattle.seg_ops.proofs.Modified.{modifies-same, modifies-then}
use Rattle.seg_ops.proofs.objects.drop_object.Given.{Over}
use Rattle.seg_ops.proofs.objects.drop_object.Goals.{After-loop-place}
use Rattle.seg_ops.proofs.objects.drop_object.Goals as goal

pub loop-place-init : goal.loop-place-init
loop-place-init g c = record {
  maps = sym (places-same c.args.world.now.maps c.args.map c.requires.there);
  reserved = refl;
  fall = λ slot. omega arith;
  stay = λ name there. refl;
  modified = modifies-same (world_seen c.args.world.now);
  rest = refl;
  empties = λ spaces z fits zero. nothing-emptied (world_seen c.args.world.now) spaces c.args.map fits;
}

pub empty_place-requires : goal.empty_place-requires
empty_place-requires g c =
    let maps = c.args.world.now.maps in
    let at = c.loop-place.place in
    let o = c.requires.shown in
    record {
      there = there-still maps c.loop-place.world.maps c.args.map 0 at c.requires.there c.loop-place.invariant.maps;
      within =
          let size = length-still maps c.loop-place.world.maps c.args.map 0 at c.requires.there c.loop-place.invariant.maps in
          let lt = c.loop-place-test.true in
          let end = c.pages-place-end.ensures in
          omega (arith, size, lt, end);
      fits = (o.0, (c.loop-place.invariant.empties o.0 o.1 o.2 o.3).memory);
    }

pub loop-place-preserved : goal.loop-place-preserved
loop-place-preserved g c =
    let old = c.args.world.now in
    let cur = c.loop-place.world in
    let new = c.empty_place.new.world in
    let m = c.args.map in
    let k = c.loop-place.place in
    let next : suc k ≡ k + 1 = omega arith in
    let at_place : k ≡ 0 + k = omega arith in
    record {
      maps = subst (λ (n : ℕ). new.maps ≡ with_places old.maps m (places_emptied (places_of old.maps m) 0 n)) next
          (maps-more old.maps cur.maps m 0 k c.requires.there c.loop-place.invariant.maps new.maps (c.empty_place.ensures.maps ∙ ap (λ (i : ℕ). with_places cur.maps m (slice_set (places_of cur.maps m) i None)) at_place));
      reserved = c.empty_place.ensures.reserved ∙ c.loop-place.invariant.reserved;
      fall = λ slot. let less = c.empty_place.ensures.fall slot in let before = c.loop-place.invariant.fall slot in omega (arith, less, before);
      stay = λ name there.
          c.empty_place.ensures.stay name there
          ∙ c.loop-place.invariant.stay name (λ swap. let some = there swap in let less = c.empty_place.ensures.fall name.page in omega (arith, some, less));
      modified = modifies-then (world_seen old) (world_seen cur) (world_seen new) c.loop-place.invariant.modified c.empty_place.ensures.modified;
      rest = c.empty_place.ensures.rest ∙ ap (λ (w : World g.row.D.Denot). record w { store = new.store; anon = new.anon; maps = new.maps }) c.loop-place.invariant.rest;
      empties = λ spaces z fits shows.
          let before = c.loop-place.invariant.empties spaces z fits shows in
          let still = subst (λ (w : World g.row.D.Denot). IsUnloadedZero w.hat.places spaces z m) (sym c.loop-place.invariant.rest) shows in
          more-emptied (world_seen old) (world_seen cur) (world_seen new) spaces m k before (c.empty_place.ensures.zeros spaces z before.memory still);
    }

-- the loop ends behind the last place
last : (g : Over) (c : After-loop-place g) → c.loop-place.place ≡ length (places_of c.args.world.now.maps c.args.map)
last g c =
    let done = c.loop-place-test.false in
    let high = c.loop-place.auto.place-end in
    let end = c.pages-place-end.ensures in
    omega (arith, done, high, end)

pub returns-clause-maps : goal.returns-clause-maps
returns-clause-maps g c =
    let maps = c.args.world.now.maps in
    let places = places_of maps c.args.map in
    c.loop-place.invariant.maps ∙ ap (λ (n : ℕ). with_places maps c.args.map (places_emptied places 0 n)) (last g c) ∙ ap (with_places maps c.args.map) (all-emptied places)

pub returns-clause-changes : goal.returns-clause-changes
returns-clause-changes g c = λ spaces p z fits shows.
    let old = world_seen c.args.world.now in
    let size = length (places_of old.maps c.args.map) in
    changes-emptied p old (world_seen c.loop-place.world) spaces z c.args.map size fits shows refl
    (subst (λ (n : ℕ). EmptiesPlaces old (world_seen c.loop-place.world) spaces c.args.map (λ i. i < n)) (last g c) (c.loop-place.invariant.empties spaces z fits shows))
