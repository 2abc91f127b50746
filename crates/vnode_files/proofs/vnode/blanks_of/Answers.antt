use Rattle.std.specs.Prelude.{ℕ, ◌*◌, nat_le}
use Rattle.std.proofs.Common.{arith, zero-add, rules}
use Rattle.std.proofs.lemmas.List.FromFn.{map-range_with_len_more}
use Rattle.vnode_files.proofs.vnode.blanks_of.Goals as goal

pub loop-page-preserved : goal.loop-page-preserved
loop-page-preserved c =
    let more = map-range_with_len_more (λ (page : ℕ). nat_le c.args.bytes (page * 4096)) 0 c.loop-page.page c.loop-page.page (zero-add c.loop-page.page) in
    record {
      blanks = search (rules, more, c.in_ok-push.ensures.items, c.loop-page.invariant.blanks);
      room = omega (arith, c.in_ok-push.ensures.capacity);
    }
