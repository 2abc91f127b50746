use Rattle.std.proofs.Common.{◌≡◌, ◌<◌, ℕ, List, length, Option, Some, None, refl, sym, ap, ◌∙◌, subst, arith, slice_set}
use Rattle.std.specs.Prelude.{IsSome, replicate}
use Rattle.std.proofs.lemmas.List.{length-replicate}
use Rattle.seg_ops.specs.vm_types.declared.call.Object.TheVariants as object
use Rattle.seg_ops.specs.anon_map.Maps.{AreEmpty, IsMapThere, holders_of, places_of}
use Rattle.seg_ops.specs.vm_world.World.{world_seen}
use Rattle.seg_ops.specs.vm_world.ZeroObjects.{free_number}
use Rattle.seg_ops.specs.vm_world.declared.world.World.{World}
use Rattle.seg_ops.proofs.zero_objects.FreeNumbers.{free-cleared}
use Rattle.seg_ops.proofs.vm_world.KnownZeros.{known-within}
use Rattle.seg_vn.proofs.GivenBack.{gives-none, places-given, places-empty, same-held, empty-here, none-empty}
use Rattle.seg_vn.proofs.LeftSegments.{shown-is, shown-map, shown-unloaded, loses-shown, loses-none}
use Rattle.seg_vn.proofs.leaves.empty_shown.Given.{Over}
use Rattle.seg_vn.proofs.leaves.empty_shown.Goals.{After-drop_object}
use Rattle.seg_vn.proofs.leaves.empty_shown.Goals as goal

pub returns-in_default : goal.returns-in_default
returns-in_default g c =
    let r = c.requires.part in
    let w = world_seen c.args.world.now in
    record {
      shown = λ map is one. let z = (shown-is w r.0 c.args.space c.args.first c.args.segment r.1.part map is).1 in absurd (c.in_default.not-Zero z.0 z.1);
      still = λ map empty. empty;
      list = record { last = λ z map names is one. absurd (c.in_default.not-Zero z names); held = λ none. refl };
      objects = λ some. some;
      gives = gives-none w;
      rest = refl;
      changes = λ spaces part. loses-none c.args.space c.args.first c.args.segment.pages (record { world = w; spaces = spaces }) part.part.memory;
    }

pub returns-in_default-shown-clause-changes : goal.returns-in_default-shown-clause-changes
returns-in_default-shown-clause-changes g c spaces part = loses-none c.args.space c.args.first c.args.segment.pages (record { world = world_seen c.args.world.now; spaces = spaces }) part.part.memory

pub holders-requires : goal.holders-requires
holders-requires g c = let r = c.requires.part in (shown-is (world_seen c.args.world.now) r.0 c.args.space c.args.first c.args.segment r.1.part c.in-Some.map c.in-Some.is).0

pub drop_object-requires-clause-shown : goal.drop_object-requires-clause-shown
drop_object-requires-clause-shown g c =
    let r = c.requires.part in
    let u = r.1 in
    let held = c.holders.ensures.value in
    let one : holders_of c.args.world.now.maps c.in-Some.map ≡ 1 = omega (arith, held) in
    (r.0, c.in-Zero.number, u.part.memory, shown-unloaded (world_seen c.args.world.now) r.0 c.args.space c.args.first c.args.segment u.part c.in-Zero.number c.in-Some.map c.in-Zero.is c.in-Some.is one u.unloaded)

pub remove-requires : goal.remove-requires
remove-requires g c = record {
  there =
      let r = c.requires.part in
      let at = shown-map (world_seen c.args.world.now) r.0 c.args.space c.args.first c.args.segment r.1.part c.in-Zero.number c.in-Some.map c.in-Zero.is c.in-Some.is in
      subst (λ (zs : List (Option ℕ)). c.in-Zero.number < length zs) (sym (ap (λ (v : World g.row.D.Denot). v.zeros) c.drop_object.ensures.rest)) (known-within c.args.world.now.zeros r.0 c.in-Zero.number c.in-Some.map r.2 at);
}

there : (g : Over) (c : After-drop_object g) → IsMapThere c.args.world.now.maps c.in-Some.map
there g c = let r = c.requires.part in (shown-is (world_seen c.args.world.now) r.0 c.args.space c.args.first c.args.segment r.1.part c.in-Some.map c.in-Some.is).0

size : (g : Over) (c : After-drop_object g) → length (replicate {A = Option ℕ} (length (places_of c.args.world.now.maps c.in-Some.map)) None) ≡ length (places_of c.args.world.now.maps c.in-Some.map)
size g c = length-replicate (length (places_of c.args.world.now.maps c.in-Some.map)) None

pub returns-then-holders-eq1-clause-shown : goal.returns-then-holders-eq1-clause-shown
returns-then-holders-eq1-clause-shown g c map is one =
    let d = (goal.at.returns-then-holders-eq1-clause-shown g c).After-drop_object in
    let none : List (Option ℕ) = replicate (length (places_of c.args.world.now.maps c.in-Some.map)) None in
    let same : c.in-Some.map ≡ map = let z : Some c.in-Some.map ≡ Some map = sym c.in-Some.is ∙ is in cc in
    subst (λ (k : ℕ). AreEmpty (places_of c.drop_object.new.world.maps k)) same
    (empty-here (world_seen c.args.world.now) (world_seen c.drop_object.new.world) c.in-Some.map none (there g d) (size g d) c.drop_object.ensures.maps (none-empty (length (places_of c.args.world.now.maps c.in-Some.map))))

pub returns-then-holders-eq1-clause-still : goal.returns-then-holders-eq1-clause-still
returns-then-holders-eq1-clause-still g c map empty =
    let d = (goal.at.returns-then-holders-eq1-clause-still g c).After-drop_object in
    let none : List (Option ℕ) = replicate (length (places_of c.args.world.now.maps c.in-Some.map)) None in
    places-empty (world_seen c.args.world.now) (world_seen c.drop_object.new.world) c.in-Some.map none (there g d) (size g d) c.drop_object.ensures.maps (none-empty (length (places_of c.args.world.now.maps c.in-Some.map))) map empty

pub returns-then-holders-eq1-clause-list : goal.returns-then-holders-eq1-clause-list
returns-then-holders-eq1-clause-list g c =
    let d = (goal.at.returns-then-holders-eq1-clause-list g c).After-drop_object in
    let none : List (Option ℕ) = replicate (length (places_of c.args.world.now.maps c.in-Some.map)) None in
    let held = same-held (world_seen c.args.world.now) (world_seen c.drop_object.new.world) c.in-Some.map none (there g d) (size g d) c.drop_object.ensures.maps in
    let one = held ∙ sym c.holders.ensures.value ∙ c.if-holders-eq1.true in
    record {
      last = λ z map names is last.
          let same : c.in-Zero.number ≡ z = let k : object.Zero c.in-Zero.number ≡ object.Zero z = sym c.in-Zero.is ∙ names in cc in
          c.remove.ensures ∙ ap (λ (v : World g.row.D.Denot). slice_set v.zeros c.in-Zero.number None) c.drop_object.ensures.rest ∙ ap (λ (k : ℕ). slice_set c.args.world.now.zeros k None) same;
      held = λ more. absurd (more c.in-Zero.number c.in-Some.map c.in-Zero.is c.in-Some.is one);
    }

pub returns-then-holders-eq1-clause-objects : goal.returns-then-holders-eq1-clause-objects
returns-then-holders-eq1-clause-objects g c some =
    subst (λ (zs : List (Option ℕ)). IsSome (free_number zs)) (sym (c.remove.ensures ∙ ap (λ (v : World g.row.D.Denot). slice_set v.zeros c.in-Zero.number None) c.drop_object.ensures.rest)) (free-cleared c.args.world.now.zeros c.in-Zero.number some)

pub returns-then-holders-eq1-clause-gives : goal.returns-then-holders-eq1-clause-gives
returns-then-holders-eq1-clause-gives g c =
    let d = (goal.at.returns-then-holders-eq1-clause-gives g c).After-drop_object in
    let none : List (Option ℕ) = replicate (length (places_of c.args.world.now.maps c.in-Some.map)) None in
    places-given (world_seen c.args.world.now) (world_seen c.drop_object.new.world) c.in-Some.map none (there g d) (size g d) c.drop_object.ensures.maps c.drop_object.ensures.fall (ap (λ (v : World g.row.D.Denot). v.hat) c.drop_object.ensures.rest) c.drop_object.ensures.modified

pub returns-then-holders-eq1-clause-changes : goal.returns-then-holders-eq1-clause-changes
returns-then-holders-eq1-clause-changes g c spaces part =
    let w = world_seen c.args.world.now in
    let p = c.args.space in
    let first = c.args.first in
    let one = sym c.holders.ensures.value ∙ c.if-holders-eq1.true in
    loses-shown w spaces p first c.args.segment part.part c.in-Zero.number c.in-Some.map c.in-Zero.is c.in-Some.is one (length (places_of c.args.world.now.maps c.in-Some.map)) (world_seen c.drop_object.new.world)
    (c.drop_object.ensures.changes spaces p c.in-Zero.number part.part.memory (shown-unloaded w spaces p first c.args.segment part.part c.in-Zero.number c.in-Some.map c.in-Zero.is c.in-Some.is one part.unloaded))

pub returns-else-holders-eq1-clause-changes : goal.returns-else-holders-eq1-clause-changes
returns-else-holders-eq1-clause-changes g c spaces part = loses-none c.args.space c.args.first c.args.segment.pages (record { world = world_seen c.args.world.now; spaces = spaces }) part.part.memory
