use Rattle.std.proofs.Common.{◌≡◌, ℕ, suc, ◌+◌, ◌-◌, ◌≤◌, List, length, take, drop, Option, None, arith}
use Rattle.std.proofs.Math.Seq.{take-suc}
use Rattle.std.proofs.lemmas.List.{get_or-drop, length-take-le, length-drop, take_all, get_or_default}
use Rattle.anon_map.specs.Maps.{anon_map_at, places_of, fresh_map}
use Rattle.anon_map.proofs.KeptLemmas.{there_within}
use Rattle.anon_map.proofs.MapLaws.{there_apart, with_map_other}
use Rattle.anon_map.proofs.AnonMaps.cut_into.Goals as goal

-- how many are taken of the later ones
length-later : (places : List (Option ℕ)) (at place : ℕ) → at ≤ place → place ≤ length places
    → length (take (place - at) (drop at places)) ≡ place - at
length-later places at place from to =
    let long = length-drop at places in length-take-le (place - at) (drop at places) (omega arith)

pub loop-place-init : goal.loop-place-init
loop-place-init c =
    let none : c.args.at - c.args.at ≡ 0 = omega arith in record { later = rw none c.requires.empty; room = c.requires.roomy }

pub push_reserved-requires : goal.push_reserved-requires
push_reserved-requires c =
    let long = length-later (places_of c.args.self.now c.args.map) c.args.at c.loop-place.place c.loop-place.auto.place in
    grind (arith, long, c.loop-place.later.ok.0)

pub loop-place-preserved : goal.loop-place-preserved
loop-place-preserved c =
    let places = places_of c.args.self.now c.args.map in
    let k = c.loop-place.place - c.args.at in
    let from = c.loop-place.auto.place in
    let next : c.loop-place.place + 1 - c.args.at ≡ suc k = omega arith in
    let here : c.args.at + k ≡ c.loop-place.place = omega arith in
    let read = get_or-drop c.args.at places k None in
    let long = length-drop c.args.at places in
    let one = take-suc (drop c.args.at places) k None (omega (arith, c.loop-place-test.true, c.pages-place-end.ensures)) in
    record { later = rw next (grind (arith, one, read)); room = grind arith }

pub put-number-requires-clause-few : goal.put-number-requires-clause-few
put-number-requires-clause-few c =
    let long = length-later (places_of c.args.self.now c.args.map) c.args.at c.loop-place.place c.loop-place.auto.place in
    grind (arith, long, c.loop-place.auto.place-end, c.pages-place-end.type_inv)

pub returns-clause-parted : goal.returns-clause-parted
returns-clause-parted c =
    let old = c.args.self.now in
    let places = places_of old c.args.map in
    let all = take_all (c.loop-place.place - c.args.at) (drop c.args.at places) in
    let whole : drop c.args.at places ≡ c.loop-place.later.items =
    grind (arith, all, length-drop c.args.at places, c.loop-place.auto.place-end) in
    let apart = there_apart old c.args.map c.put-number.result c.requires.there c.put-number.ensures.unused in
    let other = with_map_other old c.put-number.result c.args.map (fresh_map c.loop-place.later.items) in
    let kept : anon_map_at c.self.inside.maps.items c.args.map ≡ anon_map_at old c.args.map = grind (arith, apart, other) in
    let inside = there_within c.self.inside.maps.items c.args.map (rw kept c.requires.there) in
    let read = get_or_default c.self.inside.maps.items c.args.map None c.index_mut.result.now inside in
    grind (arith, whole, kept, read)
