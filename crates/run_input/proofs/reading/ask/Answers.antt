use Rattle.std.proofs.Common.{◌∙◌, ap, map, Some, sym}
use Rattle.std.specs.Prelude.{string_bytes}
use Rattle.run_input.proofs.Asking.{check-ends, plan-ends, script-stops}
use Rattle.run_input.proofs.reading.ask.Goals as goal

pub returns-then-options-clause-asks : goal.returns-then-options-clause-asks
returns-then-options-clause-asks g c = λ holds.
    check-ends (map string_bytes c.args.words.now) (g.S.Source.seen c.args.script.now).rest holds c.in-Ok-Some-Options.options
    (sym c.in-Ok-Some-Options.ensures.means ∙ c.in-Ok-Some-Options.field-0-is
    ∙ ap Some c.in-Ok-Some-Options.field-0-0-is) (g.S.Source.seen c.args.script.now).faults
    (g.S.Source.seen c.ask_check.new.script).faults c.ask_check.result c.if-options.true c.ask_check.ensures.answer c.ask_check.ensures.stops

pub returns-in-Ok-clause-asks : goal.returns-in-Ok-clause-asks
returns-in-Ok-clause-asks g c = λ holds.
    plan-ends (map string_bytes c.args.words.now) (g.S.Source.seen c.args.script.now).rest holds c.in-Ok-Some-Options.options
    (sym c.in-Ok-Some-Options.ensures.means ∙ c.in-Ok-Some-Options.field-0-is
    ∙ ap Some c.in-Ok-Some-Options.field-0-0-is) (g.S.Source.seen c.args.script.now).faults
    (g.S.Source.seen c.read_plan.new.script).faults c.in-Ok.plan c.take_plan.result c.if-options.false c.in-Ok.ensures.plan c.take_plan.ensures

pub returns-in-Err-read_plan-clause-asks : goal.returns-in-Err-read_plan-clause-asks
returns-in-Err-read_plan-clause-asks g c = λ holds.
    script-stops (map string_bytes c.args.words.now) (g.S.Source.seen c.args.script.now).rest holds c.in-Ok-Some-Options.options
    (sym c.in-Ok-Some-Options.ensures.means ∙ c.in-Ok-Some-Options.field-0-is
    ∙ ap Some c.in-Ok-Some-Options.field-0-0-is) c.if-options.false (g.S.Source.seen c.args.script.now).faults
    (g.S.Source.seen c.read_plan.new.script).faults c.in-Err-read_plan.how c.in-Err-read_plan.ensures.stops
