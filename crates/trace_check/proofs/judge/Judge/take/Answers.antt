use Rattle.std.proofs.Common.{◌≡◌, ◌∙◌, ◌+◌, ℕ, true, false, ap, ap₂, sym, rules, tests}
use Rattle.std.specs.Prelude.{is_some, unwrap_or, if◌then◌else◌}
use Rattle.std.specs.BTreeMap.{BTreeMap, get}
use Rattle.std.specs.Ordering.{nat_cmp}
use Rattle.flat_model.specs.HistoryLaws.{open_after}
use Rattle.flat_model.specs.SyncLaws.{is_in_life}
use Rattle.trace_check.specs.declared.judge.Judge.{Judge}
use Rattle.trace_check.proofs.Judged.{found_at, has_taken, judged_more}
use Rattle.trace_check.proofs.judge.Judge.take.Goals as goal

pub returns-then-not-is_next-clause-judged : goal.returns-then-not-is_next-clause-judged
returns-then-not-is_next-clause-judged c = λ F H h.
    let old = c.args.self.now in
    let none : is_some old.first ≡ false = first_of (cc, search rules) in
    let taken = has_taken F H old none h in
    let no : c.in_ok-is_next.is_next ≡ false = first_of (cc, search (rules, tests)) in
    found_at F H c.args.entry.now old c.steps.new.self.count c.in_ok-is_next.is_next taken (c.in_ok-is_next.ensures.exact F H taken) no c.steps.ensures.rest.0

pub returns-clause-judged : goal.returns-clause-judged
returns-clause-judged c = λ F H h.
    let e = c.args.entry.now in
    let old = c.args.self.now in
    let none : is_some old.first ≡ false = first_of (cc, search rules) in
    let taken = has_taken F H old none h in
    let yes : c.in_ok-is_next.is_next ≡ true = first_of (cc, search (rules, tests)) in
    let a = c.steps.ensures.rest in
    let b = c.keep_holder.ensures.rest in
    let d = c.keep_starts.ensures.rest in
    let new : Judge = record c.keep_starts.new.self { count = c.keep_starts.new.self.count + 1 } in
    judged_more F H e old new taken ((c.in_ok-is_next.ensures.exact F H taken).0 yes) (ap (λ o. is_some o) (d.3 ∙ (b.3 ∙ a.3)) ∙ none)
    (d.0 ∙ (b.0 ∙ c.in_ok-is_next.ensures.flat yes)) (ap (λ n. n + 1) (d.1 ∙ (b.1 ∙ a.0)))
    (λ f. ap (λ m. get nat_cmp m f) d.2 ∙ (c.in_ok-keep_holder.ensures.holders f ∙ ap (λ m. open_after f (get nat_cmp m f) e) a.1))
    (λ p. c.in_ok-keep_starts.ensures.starts p
    ∙ ap₂ (λ (n : ℕ) m. if is_in_life p e then n + 1 else unwrap_or (get nat_cmp m p) 0) (b.1 ∙ a.0) (b.2 ∙ a.2))
