use Rattle.std.proofs.Common.{◌∙◌, sym, arith}
use Rattle.std.specs.Prelude.{is_some}
use Rattle.std.specs.FinMap as map
use Rattle.flat_state.proofs.Protects.{not_all, all_next}
use Rattle.flat_state.proofs.cells.Cells.are_mapped.Goals as goal

pub returns-then-not-has : goal.returns-then-not-has
returns-then-not-has c = not_all (λ q. is_some (map.get c.args.self.now q)) c.args.first c.args.count c.loop-i.i (omega arith) (sym c.has.ensures ∙ c.if-not-has.true)

pub loop-i-preserved : goal.loop-i-preserved
loop-i-preserved c = all_next (λ q. is_some (map.get c.args.self.now q)) c.args.first c.loop-i.i c.loop-i.invariant (sym c.has.ensures ∙ c.if-not-has.false)
