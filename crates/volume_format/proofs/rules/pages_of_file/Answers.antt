use Rattle.std.proofs.Common.{◌≡◌, ◌<◌, ◌≤◌, ◌+◌, ◌-◌, ℕ, List, ap, ◌∙◌, arith, map}
use Rattle.std.specs.List.{range_with_len}
use Rattle.std.proofs.lemmas.List.Sums.{sum_by-cons}
use Rattle.vnode_files.specs.Grow.{page_count}
use Rattle.volume_format.specs.Layout.{table_extent}
use Rattle.volume_format.proofs.RangeLemmas.{range-rest, range-rest-end}
use Rattle.volume_format.proofs.rules.pages_of_file.Goals as goal

pages-rest : (block : List ℕ) (j end : ℕ) → j < end
    → page_count (map (table_extent block) (range_with_len j (end - j)))
    ≡ (table_extent block j).pages + page_count (map (table_extent block) (range_with_len (j + 1) (end - (j + 1))))
pages-rest block j end h =
    ap (λ (r : List ℕ). page_count (map (table_extent block) r)) (range-rest j end h)
    ∙ sum_by-cons (λ e. e.pages) (table_extent block j) (map (table_extent block) (range_with_len (j + 1) (end - (j + 1))))

pages-rest-end : (block : List ℕ) (j end : ℕ) → end ≤ j → page_count (map (table_extent block) (range_with_len j (end - j))) ≡ 0
pages-rest-end block j end h = ap (λ (r : List ℕ). page_count (map (table_extent block) r)) (range-rest-end j end h)

pub loop-j-preserved : goal.loop-j-preserved
loop-j-preserved c =
    let i = c.loop-j.invariant in
    let rest = pages-rest c.args.block.now c.loop-j.j (c.entry_number-first.result + c.entry_number.result) c.loop-j-test.true in
    let here : c.table_extent.result.pages ≡ (table_extent c.args.block.now c.loop-j.j).pages = ap (λ e. e.pages) c.table_extent.ensures in
    record { first = i.first; end = i.end; sum = omega (arith, rest, here, i.sum); few = omega (arith, i.few) }

pub returns : goal.returns
returns c =
    let i = c.loop-j.invariant in
    let rest = pages-rest-end c.args.block.now c.loop-j.j (c.entry_number-first.result + c.entry_number.result) c.loop-j-test.false in
    record { pages = omega (arith, rest, i.sum); few = omega (arith, i.few) }
