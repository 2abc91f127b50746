use Rattle.std.proofs.Common.{◌≡◌, arith, refl, Some}
use Rattle.std.proofs.lemmas.List.{drop_all}
use Rattle.addr_space.specs.declared.ranges.Span.{Span}
use Rattle.addr_space.specs.Inside.{gap_in_spans}
use Rattle.addr_space.proofs.SpanLemmas.{rising, gap-found, gap-here}
use Rattle.addr_space.proofs.ranges.Ranges.gap.Goals as goal

pub loop-span-init : goal.loop-span-init
loop-span-init g c = record {
  positive = omega arith;
  fits = omega arith;
  rise = rw c.deref-span-items.ensures.value (rising c.self.invariant.sound);
  same = refl;
}

pub returns-then-pages-span : goal.returns-then-pages-span
returns-then-pages-span g c =
    let none : Span = record { first = 0; pages = 0 } in
    let here =
    gap-here c.loop-span.low c.args.pages c.deref-span-items.result.now c.loop-span.span-index none in
    let found : gap_in_spans 1 c.args.pages c.self.inside.spans.items ≡ Some c.loop-span.low =
    grind (arith, here) in
    rw (← c.self.view_is) (rw found at (gap-found c.self.invariant.sound c.args.pages))

pub returns : goal.returns
returns g c =
    let past = drop_all c.loop-span.span-index c.deref-span-items.result.now c.loop-span-test.false in
    let found : gap_in_spans 1 c.args.pages c.self.inside.spans.items ≡ c.gap_in_spans.result =
    grind (arith, past) in
    rw (← c.self.view_is) (rw found at (gap-found c.self.invariant.sound c.args.pages))
