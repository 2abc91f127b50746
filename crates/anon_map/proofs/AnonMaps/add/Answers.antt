use Rattle.std.proofs.Common.{vec_capacity}
use Rattle.anon_map.proofs.KeptLemmas.{kept_again}
use Rattle.anon_map.proofs.AnonMaps.add.Goals as goal

pub invariant_of-self : goal.invariant_of-self
invariant_of-self c =
    let kept = simp c.in-Some.ensures.items at c.self.invariant in
    let room = vec_capacity c.self.inside.gone in
    rw c.in-Some.ensures.capacity
    (kept_again c.self.inside.maps.items c.pop.new.self.items room c.in-Some.number c.args.map kept)
