use Rattle.std.specs.Prelude.{length, ◌-◌, ◌≡◌, suc}
use Rattle.std.proofs.Common.{rules, arith, ap}
use Rattle.vnode_files.proofs.ExtentLemmas.{with_longer_last-set}
use Rattle.vnode_files.proofs.extent.Extents.lengthen_last.Goals as goal

pub returns : goal.returns
returns c =
    let k : suc (c.len-last.result - 1) ≡ length c.args.self.now = omega (arith, ap length c.self.view_is) in
    search (rules, with_longer_last-set c.args.self.now (c.len-last.result - 1) c.index_mut.result.now k)
