use Rattle.std.proofs.Common.{rules, arith, ◌≡◌, ◌+◌, ◌*◌, ◌<◌, length, sym, ap, ◌∙◌, subst, length-append}
use Rattle.block_runs.specs.Rows.{AreBlocksReady, BlockEnds, AllEnd}
use Rattle.block_runs.specs.Lines.{ends_in}
use Rattle.block_runs.proofs.NextLines.{block_some}
use Rattle.block_runs.proofs.Over.{not_empty, empty_none}
use Rattle.block_runs.proofs.TopBlocks.{at_top, top_first, top_others, tops_end, tops_none, only_ready, only_ends}
use Rattle.block_runs.proofs.tops.+fn-run_tops-join_mut+arg3+run_tops.Goals as goal

pub returns-then-is_empty : goal.returns-then-is_empty
returns-then-is_empty g t c =
    tops_none (g.K.Calls.kernel c.args.kernel.now) c.args.lines.now c.args.row.now c.args.next c.requires (empty_none c.args.lines.now c.is_empty.result c.if-is_empty.true c.is_empty.ensures)

pub ends_in-requires : goal.ends_in-requires
ends_in-requires g t c =
    let top = at_top (g.K.Calls.kernel c.args.kernel.now).opening.parents c.args.next (c.args.next + length c.args.row.now) c.args.lines.now c.ended.result.0.now c.ended.result.1.now c.requires.blocks (not_empty c.args.lines.now c.is_empty.result c.if-is_empty.false c.is_empty.ensures) c.ended.ensures.whole c.ended.ensures.behind in
    let fits = top.fits in
    let few = c.requires.few in
    omega (arith, fits, few)

pub overflow_add-after : goal.overflow_add-after
overflow_add-after g t c =
    let top = at_top (g.K.Calls.kernel c.args.kernel.now).opening.parents c.args.next (c.args.next + length c.args.row.now) c.args.lines.now c.ended.result.0.now c.ended.result.1.now c.requires.blocks (not_empty c.args.lines.now c.is_empty.result c.if-is_empty.false c.is_empty.ensures) c.ended.ensures.whole c.ended.ensures.behind in
    let fits = top.fits in
    let few = c.requires.few in
    let e = c.ends_in.ensures in
    omega (arith, fits, few, e)

pub split_at_mut-own-requires : goal.split_at_mut-own-requires
split_at_mut-own-requires g t c =
    let top = at_top (g.K.Calls.kernel c.args.kernel.now).opening.parents c.args.next (c.args.next + length c.args.row.now) c.args.lines.now c.ended.result.0.now c.ended.result.1.now c.requires.blocks (not_empty c.args.lines.now c.is_empty.result c.if-is_empty.false c.is_empty.ensures) c.ended.ensures.whole c.ended.ensures.behind in
    let fits = top.fits in
    let e = c.ends_in.ensures in
    omega (arith, fits, e)

pub join_mut-one-requires-after_bounds : goal.join_mut-one-requires-after_bounds
join_mut-one-requires-after_bounds g t c κs within =
    let top = at_top (g.K.Calls.kernel c.args.kernel.now).opening.parents c.args.next (c.args.next + length c.args.row.now) c.args.lines.now c.ended.result.0.now c.ended.result.1.now c.requires.blocks (not_empty c.args.lines.now c.is_empty.result c.if-is_empty.false c.is_empty.ensures) c.ended.ensures.whole c.ended.ensures.behind in
    let fits = top.fits in
    let some = block_some (g.K.Calls.kernel c.args.kernel.now).opening.parents c.args.next (c.args.next + 1) (c.args.next + ends_in c.ended.result.0.now) c.ended.result.0.now top.whole in
    let cut = c.split_at_mut-own.ensures in
    let e = c.ends_in.ensures in
    let long : c.args.next + length c.split_at_mut-own.result.0.now ≡ c.args.next + ends_in c.ended.result.0.now = let a = cut.front_len in omega (arith, a, e) in
    let first = top_first (g.K.Calls.kernel c.args.kernel.now) c.args.lines.now c.ended.result.0.now c.ended.result.1.now c.args.row.now c.args.next (c.args.next + ends_in c.ended.result.0.now) c.requires c.ended.ensures.whole top c.split_at_mut-own.result.0.now c.split_at_mut-own.result.1.now cut.value long in
    let others : AreBlocksReady (g.K.Calls.kernel c.args.kernel.now) c.ended.result.1.now c.split_at_mut-own.result.1.now (c.args.next + c.ends_in.result) =
    subst (λ n. AreBlocksReady (g.K.Calls.kernel c.args.kernel.now) c.ended.result.1.now c.split_at_mut-own.result.1.now (c.args.next + n)) (sym c.ends_in.ensures)
    (top_others (g.K.Calls.kernel c.args.kernel.now) c.args.lines.now c.ended.result.0.now c.ended.result.1.now c.args.row.now c.args.next (c.args.next + ends_in c.ended.result.0.now) c.requires c.ended.ensures.whole top c.split_at_mut-own.result.0.now c.split_at_mut-own.result.1.now cut.value long) in
    let size : length c.ended.result.0.now + length c.ended.result.1.now ≡ length c.args.lines.now = sym (length-append c.ended.result.0.now c.ended.result.1.now) ∙ ap length c.ended.ensures.whole in
    let shorter : 2 * length c.ended.result.1.now + 1 < 2 * length c.args.lines.now = omega (arith, size, some) in
    let raw = c.requires-raw in
    let lr = g.R.laws in
    (((search (rules, raw.1.1.1.0, raw.1.1.1.1.0, raw.1.1.1.1.1), search (rules, raw.1.1.1.1.0.owned, raw.1.1.1.1.0.leaving), search (rules, raw.1.1.1.0, raw.1.1.1.1.0, raw.1.1.1.1.1), first), (search (rules, raw.1.1.1.1.0.owned, raw.1.1.1.1.0.leaving), search (rules, raw.1.1.1.0, raw.1.1.1.1.0, raw.1.1.1.1.1), search (rules, raw.1.1.1.0, raw.1.1.1.1.0, raw.1.1.1.1.1))), search rules)

pub returns : goal.returns
returns g t c =
    let top = at_top (g.K.Calls.kernel c.args.kernel.now).opening.parents c.args.next (c.args.next + length c.args.row.now) c.args.lines.now c.ended.result.0.now c.ended.result.1.now c.requires.blocks (not_empty c.args.lines.now c.is_empty.result c.if-is_empty.false c.is_empty.ensures) c.ended.ensures.whole c.ended.ensures.behind in
    let cut = c.split_at_mut-own.ensures in
    let e = c.ends_in.ensures in
    let long : c.args.next + length c.split_at_mut-own.result.0.now ≡ c.args.next + ends_in c.ended.result.0.now = let a = cut.front_len in omega (arith, a, e) in
    let own = c.own-1.given.0 in
    let later = c.later-1.given.0 in
    let own-is : c.own-1.given.0 ≡ c.join_mut-one.new.f.4.now = search rules in
    let later-is : c.later-1.given.0 ≡ c.join_mut-one.new.g.4.now = search rules in
    let child : BlockEnds (g.K.Calls.kernel c.args.kernel.now) c.join_mut-one.result.0 c.ended.result.0.now c.split_at_mut-own.result.0.now own =
    subst (λ vs. BlockEnds (g.K.Calls.kernel c.args.kernel.now) c.join_mut-one.result.0 c.ended.result.0.now c.split_at_mut-own.result.0.now vs) (sym own-is) c.join_mut-one.ensures.0.met.1 in
    let rest : AllEnd (g.K.Calls.kernel c.args.kernel.now) c.join_mut-one.result.1 c.ended.result.1.now c.split_at_mut-own.result.1.now later =
    subst (λ vs. AllEnd (g.K.Calls.kernel c.args.kernel.now) c.join_mut-one.result.1 c.ended.result.1.now c.split_at_mut-own.result.1.now vs) (sym later-is) c.join_mut-one.ensures.1.met.1 in
    tops_end (g.K.Calls.kernel c.args.kernel.now) c.args.lines.now c.ended.result.0.now c.ended.result.1.now c.args.row.now c.args.next (c.args.next + ends_in c.ended.result.0.now) c.requires c.ended.ensures.whole top c.split_at_mut-own.result.0.now c.split_at_mut-own.result.1.now own later cut.value long
    c.join_mut-one.result.0 c.join_mut-one.result.1 c.both.result child rest c.both.ensures.one c.both.ensures.two

pub run_block-requires-after_bounds : goal.run_block-requires-after_bounds
run_block-requires-after_bounds g t c κs within =
    let top = at_top (g.K.Calls.kernel c.args.kernel.now).opening.parents c.args.next (c.args.next + length c.args.row.now) c.args.lines.now c.ended.result.0.now c.ended.result.1.now c.requires.blocks (not_empty c.args.lines.now c.is_empty.result c.if-is_empty.false c.is_empty.ensures) c.ended.ensures.whole c.ended.ensures.behind in
    let none = empty_none c.ended.result.1.now c.is_empty-2.result c.if-is_empty-2.true c.is_empty-2.ensures in
    only_ready (g.K.Calls.kernel c.args.kernel.now) c.args.lines.now c.ended.result.0.now c.ended.result.1.now c.args.row.now c.args.next (c.args.next + ends_in c.ended.result.0.now) c.requires c.ended.ensures.whole top none

pub returns-then-is_empty-2 : goal.returns-then-is_empty-2
returns-then-is_empty-2 g t c =
    let top = at_top (g.K.Calls.kernel c.args.kernel.now).opening.parents c.args.next (c.args.next + length c.args.row.now) c.args.lines.now c.ended.result.0.now c.ended.result.1.now c.requires.blocks (not_empty c.args.lines.now c.is_empty.result c.if-is_empty.false c.is_empty.ensures) c.ended.ensures.whole c.ended.ensures.behind in
    let none = empty_none c.ended.result.1.now c.is_empty-2.result c.if-is_empty-2.true c.is_empty-2.ensures in
    only_ends (g.K.Calls.kernel c.args.kernel.now) c.args.lines.now c.ended.result.0.now c.ended.result.1.now c.args.row.now c.args.next (c.args.next + ends_in c.ended.result.0.now) c.requires c.ended.ensures.whole top none c.run_block.new.row c.run_block.result c.run_block.ensures
