use Rattle.std.proofs.Common.{◌/◌, arith}
use Rattle.flat_state.proofs.FilePages.{page-size, put-one, put-none}
use Rattle.flat_state.proofs.file_pages.put.Goals as goal

pub put_bytes-requires : goal.put_bytes-requires
put_bytes-requires c =
    let size = page-size c.args.pages.now.items (c.args.at / 4096) c.index_mut.result.now c.requires.whole (omega (arith, c.if-bytes-ne0.true, c.requires.inside)) c.index_mut.ensures.value in
    omega (arith, c.requires.one_page)

pub returns-then-bytes-ne0 : goal.returns-then-bytes-ne0
returns-then-bytes-ne0 c = put-one c.args.pages.now.items c.args.at c.args.bytes.now c.index_mut.result.now c.put_bytes.new.page c.requires.whole c.requires.one_page (omega (arith, c.if-bytes-ne0.true, c.requires.inside)) c.index_mut.ensures.value c.put_bytes.ensures

pub returns-else-bytes-ne0 : goal.returns-else-bytes-ne0
returns-else-bytes-ne0 c = put-none c.args.pages.now.items c.args.at c.args.bytes.now c.requires.whole (omega (arith, c.if-bytes-ne0.false)) (omega (arith, c.requires.inside))
