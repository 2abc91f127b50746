use Rattle.std.proofs.Common.{None, sym, ◌∙◌, ap, length, subst, arith}
use Rattle.std.specs.Prelude.{vec_capacity}
use Rattle.std.proofs.lemmas.List.{length-replicate}
use Rattle.hat_layer.specs.Pool.{IsSingleValued}
use Rattle.hat_layer.proofs.TableLemmas.{distinct-none}
use Rattle.hat_layer.proofs.HatLemmas.{hat-made}
use Rattle.hat_layer.proofs.hat.Hat.new.Goals as goal

pub invariant_of-result : goal.invariant_of-result
invariant_of-result c =
    let a = c.in_ok-table.ensures in
    let b = c.in_ok-free.ensures in (
      hat-made c.args.pool (vec_capacity c.in_ok-free.free) c.in_ok-table.table.places c.in_ok-free.free.items a.places b.all c.requires (let r = c.ranges.pool in omega arith) b.room,
      sym (ap length a.places ∙ length-replicate c.args.pool None),
    )

pub returns-clause-distinct : goal.returns-clause-distinct
returns-clause-distinct c = subst IsSingleValued (sym c.in_ok-table.ensures.places) (distinct-none c.args.pool)
