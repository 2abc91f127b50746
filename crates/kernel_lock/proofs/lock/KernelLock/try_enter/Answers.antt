use Rattle.std.proofs.Common.{rules, ap, ◌∙◌, sym, Some}
use Rattle.kernel_lock.specs.Rule.{hand}
use Rattle.kernel_lock.proofs.Keeps.{takes_turn, one_hand}
use Rattle.kernel_lock.proofs.lock.KernelLock.try_enter.Goals as goal

pub compare_exchange-found-requires : goal.compare_exchange-found-requires
compare_exchange-found-requires g c =
    let p = c.seat.invariant in
    let here = ap (λ v. v.lock) c.seat.view_is ∙ (c.requires.seat.0 ∙ sym (ap (λ v. v.lock) c.self.view_is)) in
    let out = ap (λ v. v.inside) c.seat.view_is ∙ c.requires.outside in
    (here, search rules, takes_turn _ _ _ _ _ _ _ _ _ _ out p.0 p.3 (p.4 ∙ ap hand out))

pub exchange-requires : goal.exchange-requires
exchange-requires g c =
    let t = c.compare_exchange-found.ensures.2.0 c.if-found-ne0.false in
    let here = ap (λ v. v.lock) c.seat.view_is ∙ (c.requires.seat.0 ∙ sym (ap (λ v. v.lock) c.self.view_is)) in
    (c.compare_exchange-found.ensures.0 ∙ here, (Some t.0, one_hand _ _ (ap (λ m. m.1) t.1)))
