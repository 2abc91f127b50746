use Rattle.std.proofs.Common.{◌≡◌, [], ◌∷◌, ◌++◌, List, None, ap, ◌∙◌}
use Rattle.vm_kernel.specs.Callers.{CallerSeen, IsCallerOf}
use Rattle.test_threads.proofs.Trials.{all-three, has-three, still-fits}
use Rattle.test_threads.proofs.trial.Trial.close.Given.{Over}
use Rattle.test_threads.proofs.trial.Trial.close.Goals.{After-push_reserved-3}
use Rattle.test_threads.proofs.trial.Trial.close.Goals as goal

-- the three callers, in their order
row : (g : Over) (c : After-push_reserved-3 g) → c.push_reserved-3.new.self.items ≡ c.self.inside.first.caller ∷ c.self.inside.second.caller ∷ c.self.inside.clock ∷ []
row g c =
    c.push_reserved-3.ensures.items ∙ ap (λ (l : List CallerSeen). l ++ c.self.inside.clock ∷ []) (c.push_reserved-2.ensures.items
    ∙ ap (λ (l : List CallerSeen). l ++ c.self.inside.second.caller ∷ []) (c.push_reserved.ensures.items ∙ ap (λ (l : List CallerSeen). l ++ c.self.inside.first.caller ∷ []) c.self.invariant.1))

pub close-state-requires-clause-callers : goal.close-state-requires-clause-callers
close-state-requires-clause-callers g c =
    let t = c.self.invariant.0 in
    all-three (IsCallerOf c.self.inside.kernel) c.self.inside.first.caller c.self.inside.second.caller c.self.inside.clock c.push_reserved-3.new.self.items (row g (goal.at.close-state-requires-clause-callers g c).After-push_reserved-3)
    t.first.0.0 t.second.0.0 t.clock.0

pub close-state-requires-clause-all : goal.close-state-requires-clause-all
close-state-requires-clause-all g c =
    let t = c.self.invariant.0 in
    has-three c.self.inside.kernel c.self.inside.first.caller c.self.inside.second.caller c.self.inside.clock c.push_reserved-3.new.self.items (row g (goal.at.close-state-requires-clause-all g c).After-push_reserved-3)
    t.seats t.first.1 t.second.1 t.clock.1

pub finish-requires : goal.finish-requires
finish-requires g c =
    let t = c.self.invariant.0 in
    let free = c.are_free-is_free.ensures c.if-is_free.true in
    still-fits c.self.inside.kernel.opening c.close-state.result c.self.inside.kernel.seats
    (c.close-state.ensures.still (all-three (λ (it : CallerSeen). it.seat.note ≡ None) c.self.inside.first.caller c.self.inside.second.caller c.self.inside.clock c.push_reserved-3.new.self.items (row g (goal.at.finish-requires g c).After-push_reserved-3)
    free.0 free.1 t.free))
