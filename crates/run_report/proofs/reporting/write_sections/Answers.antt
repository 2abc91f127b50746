use Rattle.std.proofs.Common.{◌∙◌, ◌≤◌, ◌++◌, ℕ, List, refl, subst, sym, arith}
use Rattle.std.proofs.lemmas.Bool.{false≢true}
use Rattle.volume_files.specs.vm_report.Report.{process_sections}
use Rattle.volume_files.proofs.vm_report.LeftSections.{piece_less}
use Rattle.run_report.specs.ReportEnds.{KeptBack}
use Rattle.run_report.proofs.WrittenPieces.{kept_all, kept_alone, kept_front, kept_on, kept_over, kept_stop}
use Rattle.run_report.proofs.reporting.write_sections.Goals as goal

pub loop-more-init : goal.loop-more-init
loop-more-init g c =
    let k = g.K.Sink.seen c.args.out.now in
    let all = c.args.text.now.items ++ process_sections c.args.plan.now c.args.history.now in
    record {
      kept = subst (λ (t : List ℕ). KeptBack k k all (c.args.text.now.items ++ t)) (sym c.in-Ok.ensures.all) (kept_all k all);
      end = λ no. absurd (false≢true (sym no));
      steady = refl;
    }

-- Each piece leaves fewer.
pub loop-more-smaller : goal.loop-more-smaller
loop-more-smaller g c = piece_less c.loop-more.more c.in-Ok-push_next.added c.push_next.new.self.pieces c.loop-more.left.pieces c.loop-more-test.true c.in-Ok-push_next.ensures.pieces

pub loop-more-preserved : goal.loop-more-preserved
loop-more-preserved g c =
    let k0 = g.K.Sink.seen c.args.out.now in
    let k1 = g.K.Sink.seen c.loop-more.out in
    let all = c.args.text.now.items ++ process_sections c.args.plan.now c.args.history.now in
    let over = kept_over k0 k1 all c.loop-more.text.items c.loop-more.left.text c.loop-more.invariant.kept c.push_next.new.out.items c.push_next.new.self.text c.in-Ok-push_next.ensures.text in
    record {
      kept = kept_on k0 k1 all c.push_next.new.out.items c.push_next.new.self.text over (g.K.Sink.seen c.send_long.new.out) c.send_long.new.text.items c.in-Ok-send_long.ensures.ok;
      end = c.in-Ok-push_next.ensures.end;
      steady = c.in-Ok-send_long.ensures.steady ∙ c.loop-more.invariant.steady;
    }

pub returns-in_default-push_next-clause-stop : goal.returns-in_default-push_next-clause-stop
returns-in_default-push_next-clause-stop g c =
    let all = c.args.text.now.items ++ process_sections c.args.plan.now c.args.history.now in
    kept_front (g.K.Sink.seen c.args.out.now) (g.K.Sink.seen c.loop-more.out) all c.loop-more.text.items c.loop-more.left.text c.loop-more.invariant.kept

pub returns-in-Err-clause-stop : goal.returns-in-Err-clause-stop
returns-in-Err-clause-stop g c =
    let k0 = g.K.Sink.seen c.args.out.now in
    let k1 = g.K.Sink.seen c.loop-more.out in
    let all = c.args.text.now.items ++ process_sections c.args.plan.now c.args.history.now in
    let over = kept_over k0 k1 all c.loop-more.text.items c.loop-more.left.text c.loop-more.invariant.kept c.push_next.new.out.items c.push_next.new.self.text c.in-Ok-push_next.ensures.text in
    let steady = c.loop-more.invariant.steady in
    let later : k0.faults ≤ k1.faults = omega (arith, steady) in
    kept_stop k0 k1 all c.push_next.new.out.items c.push_next.new.self.text over (g.K.Sink.seen c.send_long.new.out) later c.in-Err.ending c.in-Err.ensures.stop

pub returns-clause-ok : goal.returns-clause-ok
returns-clause-ok g c =
    let all = c.args.text.now.items ++ process_sections c.args.plan.now c.args.history.now in
    kept_alone (g.K.Sink.seen c.args.out.now) (g.K.Sink.seen c.loop-more.out) all c.loop-more.text.items c.loop-more.left.text (c.loop-more.invariant.end c.loop-more-test.false) c.loop-more.invariant.kept
