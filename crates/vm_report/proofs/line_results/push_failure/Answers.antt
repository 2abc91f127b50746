use Rattle.std.proofs.Common.{◌≡◌, ◌∙◌, ◌++◌, ◌+◌, ◌-◌, length, sym, ap, arith}
use Rattle.std.proofs.lemmas.Option.{get_or_from_slice_get}
use Rattle.std.proofs.lemmas.Result.{on_ok_weaker}
use Rattle.entry_list.specs.Rows.{entry_seen}
use Rattle.vm_report.proofs.FileLines.{failure_last}
use Rattle.vm_report.proofs.line_results.push_failure.Goals as goal

pub returns : goal.returns
returns c =
    let es = c.args.entries.now in
    let e = entry_seen c.at.result in
    let last = failure_last es e (c.len.result - 1) (grind arith) (sym (get_or_from_slice_get es (c.len.result - 1) e e c.at.ensures)) in
    on_ok_weaker c.push_failure_at.result (λ more. more ∙ ap (λ text. c.args.out.now.items ++ text) (sym last)) c.push_failure_at.ensures
