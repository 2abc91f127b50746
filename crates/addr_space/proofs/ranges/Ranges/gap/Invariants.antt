use Rattle.std.proofs.Common.{◌≡◌, ◌≤◌, drop}
use Rattle.addr_space.specs.Inside.{gap_in_spans, SpansRise}
use Rattle.addr_space.proofs.ranges.Ranges.gap.Given as goal

abbrev pub invariant-loop-span : goal.invariant-loop-span
invariant-loop-span g l = record {
  positive : 1 ≤ l.low;
  fits : l.low ≤ 0x80000;
  rise : SpansRise l.low (drop l.span-index l.span-items);
  same : gap_in_spans 1 l.pages l.span-items ≡ gap_in_spans l.low l.pages (drop l.span-index l.span-items);
}
