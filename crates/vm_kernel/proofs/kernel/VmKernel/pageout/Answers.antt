use Rattle.std.proofs.Common.{◌≡◌, ◌+◌, ℕ, suc, refl, ◌∙◌, subst, arith}
use Rattle.vm_kernel.specs.Tries.{AreMoves}
use Rattle.vm_kernel.proofs.Calling.{goes-not, goes-both}
use Rattle.vm_kernel.proofs.Visited.{stays-home, moved-on}
use Rattle.vm_kernel.proofs.kernel.VmKernel.pageout.Goals as goal

pub loop-turn-init : goal.loop-turn-init
loop-turn-init g c = (c.requires.caller, goes-not c.args.caller.now c.own_law.ensures.own, refl, c.requires.free, (0, omega arith, stays-home c.args.caller.now), refl)

pub loop-turn-preserved : goal.loop-turn-preserved
loop-turn-preserved g c =
    let before = c.loop-turn.invariant.4 in
    let more = c.move_hand.ensures.moves in
    let few = before.1 in
    let one = more.1 in
    let next : suc c.loop-turn._turn ≡ c.loop-turn._turn + 1 = omega arith in (
      c.move_hand.ensures.caller,
      goes-both c.args.caller.now c.loop-turn.caller c.move_hand.new.caller c.loop-turn.invariant.1 c.move_hand.ensures.goes,
      c.move_hand.ensures.same ∙ c.loop-turn.invariant.2,
      c.move_hand.ensures.free,
      (before.0 + more.0, omega (arith, few, one), moved-on c.args.caller.now c.loop-turn.caller c.move_hand.new.caller c.loop-turn._turn before.0 more.0 before.2 more.2),
      subst (λ (n : ℕ). AreMoves c.args.self.now n c.args.caller.now.seat c.move_hand.new.caller.seat) next (c.loop-turn.caller.seat, c.loop-turn.invariant.5, c.move_hand.ensures.hand),
    )
