use Rattle.std.proofs.Common.{◌≡◌, ◌<◌, length, sym, arith}
use Rattle.std.proofs.lemmas.Option.{get_or_from_slice_get}
use Rattle.entry_list.specs.Rows.{entry_seen}
use Rattle.vm_report.specs.Runs.{runs_seen}
use Rattle.vm_report.proofs.Grouped.{own_on}
use Rattle.vm_report.proofs.sections.entries_of_process.Goals as goal

pub loop-index-preserved : goal.loop-index-preserved
loop-index-preserved c =
    let H = c.args.history.now in
    let e = entry_seen c.at.result in
    let is = sym (get_or_from_slice_get H c.loop-index.index e e c.at.ensures) in
    let within : c.loop-index.index < length H = let lt = c.loop-index-test.true in let size = c.len-index-end.ensures in omega (arith, lt, size) in
    record {
      seen =
          own_on H c.args.process c.loop-index.index e (runs_seen H c.loop-index.own) (runs_seen H c.add_own.new.runs) _ within is
          (c.in_ok-add_own.ensures.seen H within is) c.loop-index.invariant.seen;
      within = c.in_ok-add_own.ensures.within (length H) within c.loop-index.invariant.within;
    }
