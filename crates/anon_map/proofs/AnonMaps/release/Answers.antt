use Rattle.std.proofs.Common.{arith, vec_capacity}
use Rattle.anon_map.proofs.KeptLemmas.{kept_gone, room_for}
use Rattle.anon_map.proofs.AnonMaps.release.Goals as goal

pub push_reserved-requires : goal.push_reserved-requires
push_reserved-requires c =
    let there = rw (← c.self.view_is) at c.requires.there in
    let room = vec_capacity c.self.inside.gone in
    let few = room_for c.self.inside.maps.items c.self.inside.gone.items room c.args.map c.self.invariant there in
    omega (arith, few, c.self.inside.gone.ok)

pub invariant_of-self : goal.invariant_of-self
invariant_of-self c =
    let there = rw (← c.self.view_is) at c.requires.there in
    let room = vec_capacity c.self.inside.gone in
    rw (c.push_reserved.ensures.items, c.push_reserved.ensures.capacity)
    (kept_gone c.self.inside.maps.items c.self.inside.gone.items room c.args.map c.self.invariant there)
