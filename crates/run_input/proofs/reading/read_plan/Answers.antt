use Rattle.std.proofs.Common.{refl, subst, sym}
use Rattle.std.specs.Prelude.{Ok, Option}
use Rattle.volume_files.specs.vm_script.Generated.{generated_text}
use Rattle.run_input.specs.Reading.{SaysScript}
use Rattle.run_input.proofs.reading.read_plan.Goals as goal

pub returns-in-Ok-clause-plan : goal.returns-in-Ok-clause-plan
returns-in-Ok-clause-plan g c =
    subst (λ (make : Option _). SaysScript make (g.S.Source.seen c.args.script.now).rest (Ok c.in-Ok.plan)) (sym c.in-Some.is) (generated_text c.in-Some.number, refl, c.in-Ok.ensures.exact)
