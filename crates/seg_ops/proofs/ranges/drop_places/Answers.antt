use Rattle.std.proofs.Common.{◌≡◌, ◌+◌, ◌-◌, ℕ, suc, None, refl, sym, ap, ◌∙◌, subst, arith, slice_set}
use Rattle.vm_world.specs.hat_layer.Pool.{translation_at}
use Rattle.vm_world.specs.anon_map.Maps.{places_of, with_places}
use Rattle.vm_world.specs.CallSteps.{ChangesMemory}
use Rattle.vm_world.specs.World.{world_seen}
use Rattle.vm_world.specs.declared.world.World.{World}
use Rattle.seg_ops.specs.Empties.{places_emptied}
use Rattle.seg_ops.specs.OwnPages.{without_own_pages}
use Rattle.seg_ops.specs.Slots.{OwnsAlone}
use Rattle.seg_ops.proofs.SlotPlaces.{places-same}
use Rattle.seg_ops.proofs.SlotRanges.{changes-none, changes-more, there-still, length-still, maps-more, owns-next}
use Rattle.seg_ops.proofs.StillSteps.{memory_of}
use Rattle.seg_ops.proofs.Modified.{modifies-same, modifies-then}
use Rattle.seg_ops.proofs.ranges.drop_places.Goals as goal

pub loop-place-init : goal.loop-place-init
loop-place-init g c =
    let none : 0 ≡ c.args.from - c.args.from = omega arith in
    record {
      maps = subst (λ (n : ℕ). c.args.world.now.maps ≡ with_places c.args.world.now.maps c.args.map (places_emptied (places_of c.args.world.now.maps c.args.map) c.args.from n)) none (sym (places-same c.args.world.now.maps c.args.map c.requires.there));
      reserved = refl;
      fall = λ slot. omega arith;
      stay = λ name there. refl;
      modified = modifies-same (world_seen c.args.world.now);
      rest = refl;
      changes = λ spaces p first fits owns.
          let m = memory_of (world_seen c.args.world.now) spaces in
          subst (λ (n : ℕ). ChangesMemory p m m (λ F. without_own_pages F p first n)) none (changes-none p m fits);
    }

pub empty_place-requires : goal.empty_place-requires
empty_place-requires g c =
    let old = c.args.world.now.maps in
    let k = c.loop-place.place - c.args.from in
    let o = c.requires.owned in
    record {
      there = there-still old c.loop-place.world.maps c.args.map c.args.from k c.requires.there c.loop-place.invariant.maps;
      within =
          let size = length-still old c.loop-place.world.maps c.args.map c.args.from k c.requires.there c.loop-place.invariant.maps in
          let lt = c.loop-place-test.true in
          let le = c.requires.within in
          omega (arith, size, lt, le);
      fits = (o.0, (c.loop-place.invariant.changes o.0 o.1 o.2 o.3 o.4).memory);
    }

pub loop-place-preserved : goal.loop-place-preserved
loop-place-preserved g c =
    let old = c.args.world.now in
    let cur = c.loop-place.world in
    let new = c.empty_place.new.world in
    let from = c.args.from in
    let m = c.args.map in
    let k = c.loop-place.place - from in
    let low = c.loop-place.auto.place in
    let lt = c.loop-place-test.true in
    let at_place : c.loop-place.place ≡ from + k = omega (arith, low) in
    let next : suc k ≡ c.loop-place.place + 1 - from = omega (arith, low) in
    record {
      maps = subst (λ (n : ℕ). new.maps ≡ with_places old.maps m (places_emptied (places_of old.maps m) from n)) next
          (maps-more old.maps cur.maps m from k c.requires.there c.loop-place.invariant.maps new.maps
          (c.empty_place.ensures.maps ∙ ap (λ (i : ℕ). with_places cur.maps m (slice_set (places_of cur.maps m) i None)) at_place));
      reserved = c.empty_place.ensures.reserved ∙ c.loop-place.invariant.reserved;
      fall = λ slot. let less = c.empty_place.ensures.fall slot in let before = c.loop-place.invariant.fall slot in omega (arith, less, before);
      stay = λ name there.
          c.empty_place.ensures.stay name there
          ∙ c.loop-place.invariant.stay name (λ swap. let some = there swap in let less = c.empty_place.ensures.fall name.page in omega (arith, some, less));
      modified = modifies-then (world_seen old) (world_seen cur) (world_seen new) c.loop-place.invariant.modified c.empty_place.ensures.modified;
      rest = c.empty_place.ensures.rest ∙ ap (λ (w : World g.row.D.Denot). record w { store = new.store; anon = new.anon; maps = new.maps }) c.loop-place.invariant.rest;
      changes = λ spaces p first fits owns.
          let before = c.loop-place.invariant.changes spaces p first fits owns in
          let own = owns-next old.hat.places (world_seen cur) spaces p first m from (c.args.end - from) k before.memory owns (omega (arith, lt, low)) in
          let none = ap (λ (w : World g.row.D.Denot). translation_at w.hat.places p (first + k)) c.loop-place.invariant.rest ∙ owns.unloaded (first + k) (omega arith) (omega (arith, lt, low)) in
          let one = c.empty_place.ensures.changes spaces p (first + k) (owns.segment, from + k) before.memory (subst (λ (i : ℕ). OwnsAlone spaces p (first + k) m i (owns.segment, from + k)) (sym at_place) own) none in
          subst (λ (n : ℕ). ChangesMemory p (memory_of (world_seen old) spaces) (memory_of (world_seen new) spaces) (λ F. without_own_pages F p first n)) next
          (changes-more p first k (memory_of (world_seen old) spaces) (memory_of (world_seen cur) spaces) (memory_of (world_seen new) spaces) before one);
    }

pub returns-clause-changes : goal.returns-clause-changes
returns-clause-changes g c = λ spaces p first fits owns.
    let done = c.loop-place-test.false in
    let high = c.loop-place.auto.place-end c.requires.range in
    let last : c.loop-place.place - c.args.from ≡ c.args.end - c.args.from = omega (arith, done, high) in
    subst (λ (n : ℕ). ChangesMemory p (memory_of (world_seen c.args.world.now) spaces) (memory_of (world_seen c.loop-place.world) spaces) (λ F. without_own_pages F p first n)) last
    (c.loop-place.invariant.changes spaces p first fits owns)
