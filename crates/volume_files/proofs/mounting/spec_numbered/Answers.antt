use Rattle.std.proofs.Common.{◌+◌, ◌∙◌, List, ◌∷◌, drop, ap, sym}
use Rattle.std.proofs.lemmas.List.{at_drop_more}
use Rattle.vm_report.specs.vm_script.declared.plan.SetupLine.{SetupLine}
use Rattle.volume_files.specs.Opened.{disk_numbered}
use Rattle.volume_files.proofs.MountSpecs.{line_some}
use Rattle.volume_files.proofs.mounting.spec_numbered.Goals as goal

pub returns-in-Some : goal.returns-in-Some
returns-in-Some c =
    let l = c.line-item.result in
    let i = c.loop-line.line-index in
    let rest = drop (i + 1) c.args.setup.now in
    sym (c.loop-line.invariant
    ∙ (at_drop_more (λ (ls : List SetupLine). disk_numbered ls c.args.number) c.args.setup.now i l c.loop-line-test.true
    ∙ (ap (λ (m : SetupLine). disk_numbered (m ∷ rest) c.args.number) (sym c.line-item.is)
    ∙ line_some l rest c.args.number c.in-Some.spec (sym c.in_ok-spec.ensures ∙ c.in-Some.is))))
