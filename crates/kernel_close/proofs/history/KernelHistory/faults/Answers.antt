use Rattle.std.proofs.Common.{◌≡◌, ℕ, [], List, Option, Some, None, sym, subst, arith, slice_index_or}
use Rattle.std.proofs.lemmas.List.{get_or_past}
use Rattle.kernel_close.specs.declared.history.Counts.{Counts}
use Rattle.kernel_close.specs.Finish.{HistorySeen}
use Rattle.kernel_close.proofs.history.KernelHistory.faults.Goals as goal

abbrev seen : Option Counts → List (Option ℕ)
seen None = []
seen (Some counts) = counts.faults

pub returns-in_default : goal.returns-in_default
returns-in_default c =
    sym (subst (λ (h : HistorySeen). slice_index_or h.faults c.args.disk None ≡ None) c.self.view_is
    (subst (λ (o : Option Counts). slice_index_or (seen o) c.args.disk None ≡ None) (sym c.in-Some.is) (get_or_past c.in-Some.counts.faults c.args.disk None (let nine = c.in-Some.counts.nine in omega (arith, nine, c.if-disk-lt9.false)))))
