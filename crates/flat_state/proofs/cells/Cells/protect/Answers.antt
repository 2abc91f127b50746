use Rattle.std.proofs.Common.{◌∙◌, ap, ◌+◌}
use Rattle.flat_model.specs.Space.{with_prots}
use Rattle.flat_state.proofs.Protects.{with_prots_none, with_prots_next}
use Rattle.flat_state.proofs.cells.Cells.protect.Goals as goal

pub loop-i-init : goal.loop-i-init
loop-i-init c = with_prots_none c.args.self.now c.args.first c.args.prot

pub loop-i-preserved : goal.loop-i-preserved
loop-i-preserved c =
    c.set_prot.ensures ∙ ap (λ s. with_prots s (c.args.first + c.loop-i.i) 1 c.args.prot) c.loop-i.invariant ∙ with_prots_next c.args.self.now c.args.first c.loop-i.i c.args.prot
