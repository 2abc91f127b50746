use Rattle.std.proofs.Common.{◌∙◌, ◌∷◌, [], ◌++◌, Option, List, ℕ, None, length, replicate, ap, arith}
use Rattle.sunvm.proofs.BlankDiskLemmas.{one-more-none}
use Rattle.sunvm.proofs.blank_disk.fill.Goals as goal

pub loop-preserved : goal.loop-preserved
loop-preserved c =
    let i = c.loop.invariant in (
      omega (arith, c.push_reserved.ensures.len, i.0),
      omega (arith, i.1),
      c.push_reserved.ensures.capacity ∙ i.2,
      c.push_reserved.ensures.items ∙ ap (λ (l : List (Option ℕ)). l ++ None ∷ []) i.3 ∙ one-more-none c.args.places.now.items c.loop.counter (omega (arith, i.1, c.len-counter.ensures)),
      omega (arith, i.1, c.len-counter.ensures),
    )
