use Rattle.std.proofs.Common.{sym, ap, ◌∙◌}
use Rattle.vm_script.specs.Rules.{is_wrong_join}
use Rattle.vm_script.proofs.rules.is_wrong_join.Goals as goal

pub returns-in-Join : goal.returns-in-Join
returns-in-Join c = c.is_wrong_pair.ensures ∙ ap (is_wrong_join c.args.setup.now) (sym c.in-Join.is)
