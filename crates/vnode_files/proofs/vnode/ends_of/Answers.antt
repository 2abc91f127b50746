use Rattle.std.specs.Prelude.{◌+◌, slice_index_or}
use Rattle.std.proofs.Common.{arith, ap, ◌∙◌, sym, rules}
use Rattle.std.proofs.lemmas.List.Sums.{sum_by_more}
use Rattle.vnode_files.specs.declared.extent.Extent.{Extent}
use Rattle.vnode_files.proofs.ExtentLemmas.{page_ends-more}
use Rattle.vnode_files.proofs.vnode.ends_of.Goals as goal

pub loop-extent-preserved : goal.loop-extent-preserved
loop-extent-preserved c =
    let xs = c.args.extents.now in
    let i = c.loop-extent.extent-index in
    let at : Extent = record { start = 0; pages = 0 } in
    let end = ap (λ n. n + (slice_index_or xs i at).pages) c.loop-extent.invariant.end in
    record {
      end = end ∙ sym (sum_by_more (λ (e : Extent). e.pages) xs i at (omega arith));
      ends = search (rules, page_ends-more xs i at (omega arith), end);
      room = omega (arith, c.in_ok-push.ensures.capacity);
    }
