use Rattle.std.proofs.lemmas.List.Elements.{All-same}
use Rattle.std.proofs.Common.{sym}
use Rattle.vm_types.specs.Words.{IsByte}
use Rattle.vm_types.proofs.line.Line.bytes.Goals as goal

pub returns-clause-each : goal.returns-clause-each
returns-clause-each c = All-same IsByte _ _ (sym c.self.view_is) c.self.invariant.each
