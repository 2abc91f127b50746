use Rattle.std.proofs.Common.{◌≡◌, ap}
use Rattle.flat_state.proofs.state_map.prot_read_write.Goals as goal

pub returns : goal.returns
returns c = let a : c.union.result.0 ≡ 3 = c.union.ensures tt in ap (λ n. record { 0 = n }) a
