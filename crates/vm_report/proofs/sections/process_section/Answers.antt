use Rattle.std.proofs.Common.{List, ap, length, subst, sym, arith}
use Rattle.std.specs.Prelude.{All}
use Rattle.vm_script.specs.vm_types.declared.call.Entry.{Entry}
use Rattle.vm_script.specs.vm_types.WellFormed.{IsWellFormed}
use Rattle.vm_report.proofs.Blocks.{own_few, own_well_formed}
use Rattle.vm_report.proofs.sections.process_section.Goals as goal

pub push_section-requires-clause-few : goal.push_section-requires-clause-few
push_section-requires-clause-few c =
    let own = own_few c.args.history.now c.args.process in
    let same = ap (λ (es : List Entry). length es) c.in_ok-runs.ensures.seen in
    let few = c.requires.few in
    omega (arith, own, same, few)

pub push_section-requires-clause-well_formed : goal.push_section-requires-clause-well_formed
push_section-requires-clause-well_formed c =
    subst (All (λ (e : Entry). IsWellFormed e.call)) (sym c.in_ok-runs.ensures.seen) (own_well_formed c.args.history.now c.args.process c.requires.well_formed)
