use Rattle.std.specs.Prelude.{length, ◌-◌, ◌≡◌, suc}
use Rattle.std.proofs.Common.{rules, arith}
use Rattle.flat_model.proofs.vnode_files.ExtentLemmas.{with_longer_last-set}
use Rattle.flat_state.proofs.growth.lengthen_last.Goals as goal

pub returns : goal.returns
returns c =
    let k : suc (c.len-last.result - 1) ≡ length c.args.extents.now.items = omega arith in
    search (rules, with_longer_last-set c.args.extents.now.items (c.len-last.result - 1) c.index_mut.result.now k)
