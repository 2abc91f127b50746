use Rattle.std.proofs.lemmas.Result.{on_ok_weaker}
use Rattle.fault_help.proofs.Pieces.{three-pieces}
use Rattle.fault_help.proofs.rule_faults.push_processes.Goals as goal

pub returns : goal.returns
returns c = on_ok_weaker c.push_text-2.result (λ last. three-pieces _ _ _ _ _ _ _ c.in_ok-push_text.ensures c.in_ok-push_decimal.ensures last) c.push_text-2.ensures
