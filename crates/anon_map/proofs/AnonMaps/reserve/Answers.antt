use Rattle.std.proofs.Common.{◌≡◌, ◌+◌, ◌-◌, ◌≤◌, [], ◌∷◌, length, Option, None, sym, arith, vec_capacity, replicate, append_assoc}
use Rattle.std.proofs.lemmas.List.{replicate_more, append-nil}
use Rattle.anon_map.specs.Maps.{Map, free_numbers}
use Rattle.anon_map.proofs.KeptLemmas.{kept_room, kept_more, gone_within}
use Rattle.anon_map.proofs.MapLaws.{more_free}
use Rattle.anon_map.proofs.AnonMaps.reserve.Goals as goal

pub loop-number-init : goal.loop-number-init
loop-number-init c =
    let room = vec_capacity c.self.inside.gone in
    let more = vec_capacity c.reserve.new.self in
    let roomy = kept_room c.self.inside.maps.items c.self.inside.gone.items room more c.self.invariant in
    let names : length c.self.inside.maps.items ≤ more = grind (arith, c.in_ok-reserve.ensures) in
    record {
      sound = rw (c.in_ok-reserve-2.ensures.items, c.in_ok-reserve.ensures.items) (roomy names);
      more = (0, sym (append-nil c.reserve-2.new.self.items), omega (arith, c.len-number.ensures));
      count = sym c.len-number.ensures;
      room = grind (arith, c.in_ok-reserve.ensures, c.in_ok-reserve-2.ensures);
      names = grind (arith, c.in_ok-reserve.ensures, c.in_ok-reserve-2.ensures);
    }

pub invariant_of-self-in-loop-number : goal.invariant_of-self-in-loop-number
invariant_of-self-in-loop-number c = c.loop-number.invariant.sound

pub push_reserved-requires-in-loop-number : goal.push_reserved-requires-in-loop-number
push_reserved-requires-in-loop-number c =
    let kept = c.loop-number.self-inside in
    grind (arith, gone_within kept.maps.items kept.gone.items (vec_capacity kept.gone) c.loop-number.invariant.sound)

pub loop-number-preserved : goal.loop-number-preserved
loop-number-preserved c =
    let i = c.loop-number.invariant in
    let kept = c.loop-number.self-inside in
    let gone = c.push_reserved-in-loop-number.ensures in
    let room = vec_capacity kept.gone in
    let sound = kept_more kept.maps.items kept.gone.items room i.sound (grind arith) (grind (arith, c.if-last.false)) in
    let same : length kept.maps.items ≡ c.loop-number.number = grind arith in
    let more = replicate_more {X = Option Map} i.more.0 None in
    let all = append_assoc c.reserve-2.new.self.items (replicate i.more.0 None) (None ∷ []) in
    record {
      sound = rw (c.push_reserved.ensures.items, gone.items, gone.capacity) (simp same at sound);
      more = (i.more.0 + 1, grind (arith, more, all), grind arith);
      count = grind arith;
      room = grind arith;
      names = grind arith;
    }

pub returns-clause-free : goal.returns-clause-free
returns-clause-free c =
    let more = more_free c.self.inside.maps.items c.loop-number.invariant.more.0 in
    grind (arith, more, c.in_ok-reserve-2.ensures, c.loop-number.auto.number)

pub returns-clause-new : goal.returns-clause-new
returns-clause-new c =
    let i = c.loop-number.invariant in
    let more : i.more.0 ≡ c.args.numbers - free_numbers c.args.self.now =
    grind (arith, c.in_ok-reserve-2.ensures, c.loop-number.auto.number-end) in
    grind (arith, more, c.in_ok-reserve-2.ensures)
