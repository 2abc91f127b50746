use Rattle.std.proofs.Common.{◌-◌, ℕ, List, [], ◌∷◌, ◌++◌, ◌∙◌, ap, arith, append_assoc}
use Rattle.hat_layer.specs.Free.{countdown}
use Rattle.hat_layer.proofs.HatLemmas.{falls-one}
use Rattle.hat_layer.proofs.hat.all_free.Goals as goal

pub loop-place-preserved : goal.loop-place-preserved
loop-place-preserved c =
    let i = c.loop-place.invariant in
    let e = c.in_ok-push.ensures in
    record {
      same = ap (λ (l : List ℕ). l ++ countdown (c.loop-place.place - 1)) e.items
          ∙ append_assoc c.loop-place.free.items ((c.loop-place.place - 1) ∷ []) (countdown (c.loop-place.place - 1))
          ∙ ap (λ (l : List ℕ). c.loop-place.free.items ++ l) (falls-one c.loop-place.place (let t = c.loop-place-test.true in omega arith)) ∙ i.same;
      room = let a = i.room in let b = e.capacity in omega arith;
    }
