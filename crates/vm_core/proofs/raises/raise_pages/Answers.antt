use Rattle.std.proofs.Common.{◌≡◌, ◌<◌, ◌≤◌, ◌+◌, ◌⊎◌, inl, inr, ℕ, refl, arith}
use Rattle.fault_entry.specs.vnode_files.Files.{vnode_at}
use Rattle.fault_entry.specs.vm_world.World.{world_seen}
use Rattle.fault_entry.proofs.vm_world.PageNames.{below-kept}
use Rattle.vm_core.specs.Raises.{IsPageFrom}
use Rattle.vm_core.proofs.Rising.{page-more, raises-none, raises-same}
use Rattle.vm_core.proofs.raises.raise_pages.Goals as goal

pub loop-page-init : goal.loop-page-init
loop-page-init g c = record {
  raised = raises-none (world_seen c.args.world.now) (IsPageFrom c.args.file c.args.from c.args.from) c.args.entries c.args.marks.now (λ name h. let low = h.low in let high = h.high in omega (arith, low, high));
  low = omega arith;
  high = inr refl;
}

pub raise_page-requires-clause-page : goal.raise_page-requires-clause-page
raise_page-requires-clause-page g c =
    let test = c.loop-page-test.true in
    let exist = c.requires.exist in
    below-kept (vnode_at c.args.world.now.files c.args.file) c.loop-page.page (c.requires.fits.each c.args.file c.requires.file) (omega (arith, test, exist))

pub loop-page-preserved : goal.loop-page-preserved
loop-page-preserved g c = record {
  raised = page-more (world_seen c.args.world.now) c.args.file c.args.from c.loop-page.page c.args.entries c.args.marks.now c.loop-page.marks c.raise_page.new.marks
      c.loop-page.invariant.low c.loop-page.invariant.raised c.raise_page.ensures;
  low = let low = c.loop-page.invariant.low in omega (arith, low);
  high = inl (let test = c.loop-page-test.true in omega (arith, test));
}

pub returns : goal.returns
returns g c =
    let past = c.loop-page-test.false in
    raises-same (world_seen c.args.world.now) (IsPageFrom c.args.file c.args.from c.loop-page.page) (IsPageFrom c.args.file c.args.from c.args.end) c.args.entries c.args.marks.now c.loop-page.marks
    (λ name h. record { object = h.object; low = h.low; high = below name.page h.low h.high })
    (λ name h. record { object = h.object; low = h.low; high = let high = h.high in omega (arith, past, high) })
    c.loop-page.invariant.raised
  where
    below : (q : ℕ) → c.args.from ≤ q → q < c.loop-page.page → q < c.args.end
    below q low high = elim c.loop-page.invariant.high [
      | inl le ↦ omega (arith, le, high)
      | inr same ↦ absurd (omega (arith, low, high, same))
    ]
