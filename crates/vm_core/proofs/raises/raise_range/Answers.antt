use Rattle.std.proofs.Common.{◌≡◌, ◌<◌, ◌≤◌, ◌⊎◌, inl, inr, ℕ, refl, arith}
use Rattle.fault_entry.specs.vm_world.Words.{memory}
use Rattle.fault_entry.specs.vm_world.World.{world_seen}
use Rattle.vm_core.specs.Raises.{IsSharedIn}
use Rattle.vm_core.proofs.Rising.{raises-none, raises-same, range-more}
use Rattle.vm_core.proofs.raises.raise_range.Goals as goal

pub loop-page-init : goal.loop-page-init
loop-page-init g c = record {
  raises = λ spaces p alive. raises-none (world_seen c.args.world.now) (IsSharedIn (memory c.args.world.now spaces) p c.args.first c.args.first) c.args.entries c.args.marks.now (λ name h. let low = h.2 in let high = h.3 in omega (arith, low, high));
  low = omega arith;
  high = inr refl;
}

pub loop-page-preserved : goal.loop-page-preserved
loop-page-preserved g c =
    let low = c.loop-page.invariant.low in
    let on = c.raise_piece-page.ensures.on in
    record {
      raises = λ spaces p alive.
          range-more (memory c.args.world.now spaces) p c.args.first c.loop-page.page c.raise_piece-page.result c.args.entries c.args.marks.now c.loop-page.marks c.raise_piece-page.new.marks low (omega (arith, on))
          (c.loop-page.invariant.raises spaces p alive) (c.raise_piece-page.ensures.raises spaces p alive);
      low = omega (arith, low, on);
      high = inl c.raise_piece-page.ensures.within;
    }

pub returns : goal.returns
returns g c = λ spaces p alive.
    let past = c.loop-page-test.false in
    raises-same (world_seen c.args.world.now) (IsSharedIn (memory c.args.world.now spaces) p c.args.first c.loop-page.page) (IsSharedIn (memory c.args.world.now spaces) p c.args.first c.args.end) c.args.entries c.args.marks.now c.loop-page.marks
    (λ name h. (h.0, h.1, h.2, below h.0 h.2 h.3, h.4, h.5))
    (λ name h. (h.0, h.1, h.2, (let high = h.3 in omega (arith, past, high)), h.4, h.5))
    (c.loop-page.invariant.raises spaces p alive)
  where
    below : (q : ℕ) → c.args.first ≤ q → q < c.loop-page.page → q < c.args.end
    below q low high = elim c.loop-page.invariant.high [
      | inl le ↦ omega (arith, le, high)
      | inr same ↦ absurd (omega (arith, low, high, same))
    ]
