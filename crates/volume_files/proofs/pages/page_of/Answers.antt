use Rattle.std.proofs.Common.{arith, refl}
use Rattle.volume_files.proofs.PageLemmas.{page_filled}
use Rattle.volume_files.proofs.pages.page_of.Goals as goal

pub returns : goal.returns
returns c =
    page_filled c.args.bytes.now c.args.page c.min-end.result _ _ c.requires (omega (arith, c.min-end.ensures)) c.copy_from_slice.ensures.after refl
