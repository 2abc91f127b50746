use Rattle.std.proofs.Common.{◌≡◌, ◌≤◌, refl, arith, rules, tests}
use Rattle.std.specs.Prelude.{unwrap_or}
use Rattle.std.specs.BTreeMap.{get}
use Rattle.std.specs.Ordering.{nat_cmp}
use Rattle.trace_check.proofs.Judged.{no_sync_start, sync_start}
use Rattle.trace_check.proofs.judge.Judge.may_start.Goals as goal

pub returns-in_default : goal.returns-in_default
returns-in_default c = λ F H h. (λ yes. no_sync_start H c.args.entry.now c.in_default.not-Synced, λ start. refl)

pub returns-then-first-from : goal.returns-then-first-from
returns-then-first-from c = λ F H h.
    let e = c.args.entry.now in
    let judge = c.args.self.now in
    let first = c.unwrap_or-first.result in
    let at : first ≡ unwrap_or (get nat_cmp judge.starts e.process) 0 = search rules in
    sync_start F H e judge c.in-Synced.from first _ h c.in-Synced.is at (λ yes. (omega arith, search (rules, tests)), λ both. let high = both.1 in search (rules, tests))

pub returns-else-first-from : goal.returns-else-first-from
returns-else-first-from c = λ F H h.
    let e = c.args.entry.now in
    let judge = c.args.self.now in
    let first = c.unwrap_or-first.result in
    let at : first ≡ unwrap_or (get nat_cmp judge.starts e.process) 0 = search rules in
    sync_start F H e judge c.in-Synced.from first _ h c.in-Synced.is at (
      λ yes. (let low : first ≤ c.in-Synced.from = search (rules, tests) in let high = c.if-first-from.false in absurd (omega (arith, low, high))),
      λ both. (let low = both.0 in let high = c.if-first-from.false in absurd (omega (arith, low, high))),
    )
