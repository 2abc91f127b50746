use Rattle.std.proofs.Common.{◌≡◌, ℕ, ◌+◌, ◌<◌, length, ◌∙◌, sym, ap, subst}
use Rattle.vm_kernel.specs.Callers.{CallerSeen}
use Rattle.bench_kernel.specs.Calls.{HasCalls, AllHaveCalls}
use Rattle.bench_kernel.proofs.callers.use_pages.Goals as goal

pub for_each_mut-requires-clause-accepts : goal.for_each_mut-requires-clause-accepts
for_each_mut-requires-clause-accepts g c = λ lifetimes outlives i p lt is.
    (c.requires.few, subst (HasCalls c.args.kernel.now (c.args.loads + 2)) (sym is) (c.requires.ready.each i p.now lt))

pub returns : goal.returns
returns g c =
    let same = c.for_each_mut.auto.s in
    let ready = c.requires.ready in
    record {
      count = same ∙ ready.count;
      each = λ i d lt.
          let at = (c.for_each_mut.ensures i d (subst (λ (n : ℕ). i < n) same lt)).1 in
          subst (HasCalls c.args.kernel.now 0) at.left at.call.0;
      order = λ i d lt.
          let here = subst (λ (n : ℕ). i < n) same lt in
          let at = (c.for_each_mut.ensures i d here).1 in
          sym (ap (λ (x : CallerSeen). x.seat.number) at.left) ∙ at.call.1 ∙ ap (λ (x : CallerSeen). x.seat.number) at.argument_is ∙ ready.order i d here;
    }
