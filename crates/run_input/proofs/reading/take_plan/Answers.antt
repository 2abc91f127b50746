use Rattle.std.proofs.Common.{◌≡◌, ◌∙◌, sym, ap, None}
use Rattle.volume_files.specs.vm_script.Rules.{broken_rule}
use Rattle.run_input.specs.Asked.{by_rules}
use Rattle.run_input.proofs.reading.take_plan.Goals as goal

pub returns-in-None : goal.returns-in-None
returns-in-None c =
    let kept : broken_rule c.args.plan ≡ None = sym c.broken_rule.ensures ∙ c.in-None.is in (
      ap (by_rules c.args.options c.args.plan) kept,
      record {
        rules = kept;
        playable = record { sound = c.sound_law.ensures.sound c.requires.0 c.args.plan c.requires.1 };
        spelled = c.requires;
      },
    )
