use Rattle.std.proofs.Common.{◌≡◌, ◌++◌, ◌+◌, map, take, refl, arith, Bor}
use Rattle.std.proofs.lemmas.List.{length-map}
use Rattle.vm_script.specs.declared.plan.PlanLine.{PlanLine}
use Rattle.vm_report.specs.PiecesInside.{IsLeftOf, lines_left}
use Rattle.vm_report.specs.Report.{entries_made}
use Rattle.vm_report.specs.Runs.{entries_left}
use Rattle.vm_report.proofs.Blocks.{lines_more, seen_at}
use Rattle.vm_report.proofs.RunEntries.{left-few, left-on, left-same, left-well}
use Rattle.vm_report.proofs.sections.push_next_lines.Goals as goal
use Rattle.vm_report.proofs.sections.push_next_lines.Goals.{In_ok-next}

-- the text so far has what the line prints
one_more : (c : In_ok-next) → c.push_next.new.out.items ++ lines_left c.args.lines.now (c.loop-at.at + 1) (entries_left c.args.history.now c.args.runs.now c.in_ok-next.next)
    ≡ c.args.out.now.items ++ lines_left c.args.lines.now c.args.line (entries_left c.args.history.now c.args.runs.now c.args.place)
one_more c =
    let all = entries_left c.args.history.now c.args.runs.now c.loop-at.left in
    let line = c.index-lines-at.result.now in
    lines_more (map (λ (l : Bor PlanLine). l.now) c.args.lines.now) c.loop-at.at line all (take (entries_made line all) all) (entries_left c.args.history.now c.args.runs.now c.in_ok-next.next) c.loop-at.out.items _ _
    (rw length-map c.loop-at-test.true) (seen_at (λ (l : Bor PlanLine). l.now) c.args.lines.now c.loop-at.at c.index-lines-at.result c.loop-at-test.true c.index-lines-at.is)
    refl c.in_ok-next.ensures.left c.in_ok-next.ensures.text c.loop-at.invariant.so_far

left : (c : In_ok-next) → IsLeftOf c.args.history.now c.args.runs.now c.args.place c.in_ok-next.next
left c =
    let all = entries_left c.args.history.now c.args.runs.now c.loop-at.left in
    left-on c.args.history.now c.args.runs.now c.args.place c.loop-at.left c.in_ok-next.next (entries_made c.index-lines-at.result.now all) c.loop-at.invariant.left c.in_ok-next.ensures.left c.in_ok-next.ensures.whole

pub loop-at-init : goal.loop-at-init
loop-at-init c = record { so_far = refl; from = omega arith; to = let lt = c.requires.line in omega (arith, lt); left = left-same c.args.history.now c.args.runs.now c.args.place c.requires.whole }

pub push_next-requires-clause-whole : goal.push_next-requires-clause-whole
push_next-requires-clause-whole c = c.loop-at.invariant.left.whole

pub push_next-requires-clause-few : goal.push_next-requires-clause-few
push_next-requires-clause-few c = left-few c.args.history.now c.args.runs.now c.args.place c.loop-at.left c.loop-at.invariant.left c.requires.few

pub push_next-requires-clause-well_formed : goal.push_next-requires-clause-well_formed
push_next-requires-clause-well_formed c = left-well c.args.history.now c.args.runs.now c.args.place c.loop-at.left c.loop-at.invariant.left c.requires.well_formed

pub loop-at-preserved : goal.loop-at-preserved
loop-at-preserved c =
    let d = (goal.at.loop-at-preserved c).In_ok-next in
    record {
      so_far = one_more d;
      from = let from = c.loop-at.invariant.from in omega (arith, from);
      to = let test = c.loop-at-test.true in omega (arith, test);
      left = left d;
    }

pub returns-then-len-ge-LONG-clause-text : goal.returns-then-len-ge-LONG-clause-text
returns-then-len-ge-LONG-clause-text c = one_more ((goal.at.returns-then-len-ge-LONG-clause-text c).In_ok-next)
