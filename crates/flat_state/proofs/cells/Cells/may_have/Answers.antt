use Rattle.std.proofs.Common.{◌∙◌, sym, arith, true}
use Rattle.std.specs.Option.{option_map_or}
use Rattle.std.specs.FinMap as map
use Rattle.flat_model.specs.vm_types.Prot.{is_within}
use Rattle.flat_state.proofs.Protects.{not_all, all_next}
use Rattle.flat_state.proofs.cells.Cells.may_have.Goals as goal

pub returns-then-not-lets : goal.returns-then-not-lets
returns-then-not-lets c = not_all (λ q. option_map_or (λ x. is_within c.args.prot x.max) (map.get c.args.self.now q) true) c.args.first c.args.count c.loop-i.i (omega arith) (sym c.lets.ensures ∙ c.if-not-lets.true)

pub loop-i-preserved : goal.loop-i-preserved
loop-i-preserved c = all_next (λ q. option_map_or (λ x. is_within c.args.prot x.max) (map.get c.args.self.now q) true) c.args.first c.loop-i.i c.loop-i.invariant (sym c.lets.ensures ∙ c.if-not-lets.false)
