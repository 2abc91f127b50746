use Rattle.std.proofs.Common.{sym, subst}
use Rattle.std.specs.Prelude.{All}
use Rattle.std.proofs.lemmas.Grind.{get_or_default_zero}
use Rattle.flat_model.specs.Words.{IsByte}
use Rattle.flat_state.specs.Cells.{extents_of}
use Rattle.flat_model.proofs.Opened.{IsFile-at_opening}
use Rattle.flat_state.proofs.Added.{either_flat, IsFlat-with_one_more_file}
use Rattle.flat_state.proofs.flat_state.FlatState.file.Goals as goal

pub invariant_of-self : goal.invariant_of-self
invariant_of-self c =
    let bytes : All IsByte c.args.bytes.now = λ k d lt. subst IsByte (sym (get_or_default_zero c.args.bytes.now k d lt)) (c.type_inv.bytes k).fits in
    let file = IsFile-at_opening c.args.len c.args.disk (extents_of c.args.extents.now) c.args.writable c.args.bytes.now c.requires.whole bytes in
    either_flat c.self.inside.parts _ c.file.new.self c.file.result c.self.invariant (IsFlat-with_one_more_file c.self.inside.parts _ c.self.invariant file) c.file.ensures.ok c.file.ensures.err
