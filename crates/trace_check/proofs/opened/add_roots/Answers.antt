use Rattle.trace_check.proofs.Openings.{roots_none, roots_step, next_root_new, roots_all}
use Rattle.std.proofs.Common.{length, arith}
use Rattle.trace_check.proofs.opened.add_roots.Goals as goal

pub loop-left-init : goal.loop-left-init
loop-left-init c = roots_none c.args.roots.now c.args.flat.now c.requires.none.0 c.requires.none.1

pub root-requires : goal.root-requires
root-requires c = record {
  unborn = next_root_new c.args.roots.now c.loop-left.left.now c.args.flat.now c.loop-left.flat c.in-len1-up.len_at_least c.requires.rising c.loop-left.invariant;
}

pub loop-left-preserved : goal.loop-left-preserved
loop-left-preserved c =
    roots_step c.args.roots.now c.loop-left.left.now c.args.flat.now c.loop-left.flat c.root.new.self c.in-len1-up.len_at_least c.loop-left.invariant c.in_ok-root.ensures.ok

pub returns : goal.returns
returns c = roots_all c.args.roots.now c.loop-left.left.now c.args.flat.now c.loop-left.flat (omega (arith, c.in_default.len_below)) c.loop-left.invariant
