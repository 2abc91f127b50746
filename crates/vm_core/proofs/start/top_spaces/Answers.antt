use Rattle.std.proofs.Common.{◌+◌, ◌∙◌, ℕ, sym, subst, arith}
use Rattle.fault_entry.specs.vm_world.Segments.{Spaces}
use Rattle.vm_core.proofs.Tops.{TopsBelow, tops-none, tops-more, tops-are}
use Rattle.vm_core.proofs.start.top_spaces.Goals as goal

pub loop-place-init : goal.loop-place-init
loop-place-init c = record {
  processes = c.in_ok-spaces.ensures.processes;
  tops = subst (λ (m : Spaces). TopsBelow c.args.parents.now 0 m) (sym c.in_ok-spaces.ensures.empty) (tops-none c.args.parents.now);
}

pub bear-requires-clause-last : goal.bear-requires-clause-last
bear-requires-clause-last c = omega (arith, c.loop-place.invariant.processes, c.loop-place-test.true)

pub bear-requires-clause-absent : goal.bear-requires-clause-absent
bear-requires-clause-absent c = c.loop-place.invariant.tops.above (c.loop-place.place + 1) (omega arith)

pub loop-place-preserved : goal.loop-place-preserved
loop-place-preserved c = record {
  processes = c.bear.ensures.processes ∙ c.loop-place.invariant.processes;
  tops = tops-more c.args.parents.now c.loop-place.place c.loop-place.spaces.spaces c.bear.new.spaces.spaces c.loop-place-test.true c.loop-place.invariant.tops c.bear.ensures.spaces;
}

pub returns : goal.returns
returns c = record {
  tops = tops-are c.args.parents.now c.loop-place.spaces.spaces (subst (λ (n : ℕ). TopsBelow c.args.parents.now n c.loop-place.spaces.spaces) (let a = c.loop-place-test.false in let b = c.loop-place.auto.place-end in omega (arith, a, b)) c.loop-place.invariant.tops);
  processes = c.loop-place.invariant.processes;
}
