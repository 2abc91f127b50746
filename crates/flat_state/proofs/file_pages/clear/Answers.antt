use Rattle.std.proofs.Common.{ℕ, ◌/◌, replicate, arith}
use Rattle.std.proofs.lemmas.List.{length-replicate}
use Rattle.flat_state.proofs.FilePages.{page-size, put-one, put-none}
use Rattle.flat_state.proofs.file_pages.clear.Goals as goal

pub put_zeros-requires : goal.put_zeros-requires
put_zeros-requires c =
    let size = page-size c.args.pages.now.items (c.args.at / 4096) c.index_mut.result.now c.requires.whole (omega (arith, c.requires.inside)) c.index_mut.ensures.value in
    omega (arith, c.requires.one_page)

pub returns-then-count-ne0 : goal.returns-then-count-ne0
returns-then-count-ne0 c = put-one c.args.pages.now.items c.args.at (replicate c.args.count 0) c.index_mut.result.now c.put_zeros.new.page c.requires.whole (omega (arith, c.requires.one_page, length-replicate {A = ℕ} c.args.count 0)) (omega (arith, c.requires.inside)) c.index_mut.ensures.value c.put_zeros.ensures

pub returns-else-count-ne0 : goal.returns-else-count-ne0
returns-else-count-ne0 c = put-none c.args.pages.now.items c.args.at (replicate c.args.count 0) c.requires.whole (omega (arith, length-replicate {A = ℕ} c.args.count 0)) (omega (arith, c.requires.inside))
