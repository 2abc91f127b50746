use Rattle.std.proofs.Common.{◌∙◌, ℕ, List, ap, length, arith}
use Rattle.vm_script.specs.declared.plan.PlanLine.{PlanLine}
use Rattle.vm_script.specs.Told.{own_lines}
use Rattle.vm_report.specs.PiecesInside.{AreSorted}
use Rattle.vm_report.proofs.LeftSections.{first_place, lines_of_process, seen_count}
use Rattle.vm_report.proofs.pieces.SectionsLeft.new.Goals as goal

pub invariant_of-result : goal.invariant_of-result
invariant_of-result c =
    let plan = c.args.plan.now in
    let H = c.args.history.now in
    let size = ap (λ (ps : List ℕ). length ps) c.parents-count.ensures in
    let births_count = c.in_ok-births.ensures.count in
    let lines_count = c.in_ok-lines.ensures.count in
    let entries_count = c.in_ok-entries.ensures.count in
    let sorted : AreSorted plan H c.in_ok-births.births.items c.in_ok-lines.lines.items c.in_ok-entries.entries.items =
    record {
      few = c.requires.few;
      few_blocks = c.requires.few_blocks;
      well_formed = c.requires.well_formed;
      births_count = omega (arith, size, births_count);
      lines_count = omega (arith, size, lines_count);
      entries_count = omega (arith, size, entries_count);
      births_of = λ p lt. c.in_ok-births.ensures.each p (omega (arith, size, lt));
      lines_of = λ p lt. c.in_ok-lines.ensures.each p (omega (arith, size, lt)) ∙ ap (λ (ls : List PlanLine). own_lines (record plan { lines = ls }) p) c.lines.ensures;
      entries_of = λ p lt. c.in_ok-entries.ensures.each p (omega (arith, size, lt));
      within = c.in_ok-entries.ensures.within;
    } in
    let own =
    lines_of_process plan H c.in_ok-births.births.items c.in_ok-lines.lines.items c.in_ok-entries.entries.items sorted 0 (omega arith) c.members-line.result.now c.index.result.now c.members-line.ensures c.index.ensures in
    let count = seen_count c.members-line.result.now (own_lines plan 0) own in (
      sorted,
      first_place plan H c.in_ok-births.births.items c.in_ok-lines.lines.items c.in_ok-entries.entries.items sorted 0 (omega arith) c.index-2.result.now c.index-2.ensures
          c.first_place-place.result c.first_place-place.ensures.left (length c.members-line.result.now) (omega (arith, count)) c.first_place-place.ensures.whole,
    )
