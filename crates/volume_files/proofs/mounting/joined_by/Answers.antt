use Rattle.std.proofs.Common.{◌+◌, ◌∙◌, List, ◌∷◌, drop, ap, sym}
use Rattle.std.proofs.lemmas.List.{at_drop_more}
use Rattle.vm_report.specs.vm_script.declared.plan.SetupLine.{SetupLine}
use Rattle.volume_files.specs.Opened.{joined_by}
use Rattle.volume_files.proofs.MountSpecs.{line_joined}
use Rattle.volume_files.proofs.mounting.joined_by.Goals as goal

pub returns-in-Some : goal.returns-in-Some
returns-in-Some c =
    let l = c.line-item.result in
    let i = c.loop-line.line-index in
    let rest = drop (i + 1) c.args.setup.now in
    sym (c.loop-line.invariant
    ∙ (at_drop_more (λ (ls : List SetupLine). joined_by ls c.args.number) c.args.setup.now i l c.loop-line-test.true
    ∙ (ap (λ (m : SetupLine). joined_by (m ∷ rest) c.args.number) (sym c.line-item.is)
    ∙ line_joined l rest c.args.number c.in-Some.join (sym c.joined_to.ensures ∙ c.in-Some.is))))
