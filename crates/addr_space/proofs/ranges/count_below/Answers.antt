use Rattle.std.proofs.Common.{rules, arith}
use Rattle.std.specs.Prelude.{nat_lt}
use Rattle.std.proofs.lemmas.List.Sorted.{IsPartitionPoint-from_clause}
use Rattle.addr_space.specs.declared.ranges.Span.{Span}
use Rattle.addr_space.proofs.SpanLemmas.{count-is, rises}
use Rattle.addr_space.proofs.ranges.count_below.Goals as goal

pub returns : goal.returns
returns c =
    let ss = c.deref.result.now in
    let place = c.partition_point.result in
    let order = rises 1 c.args.bound ss (rw (← c.deref.ensures.value) at c.requires) in
    let point = IsPartitionPoint-from_clause (λ (s : Span). nat_lt s.first c.args.bound) ss place
    c.partition_point.ensures.partitioned order (λ a r q k. search rules) in
    rw (← c.deref.ensures.value) (count-is c.args.bound ss place c.partition_point.ensures.bound
    (λ k d lt. point.0 k d (omega arith) lt) (λ d lt. point.1 place d (omega arith) lt))
