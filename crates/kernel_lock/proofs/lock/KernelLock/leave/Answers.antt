use Rattle.std.proofs.Common.{rules, ap, ◌∙◌, sym, Some, ◌∷◌}
use Rattle.atomic_table.specs.Table.{rest}
use Rattle.kernel_lock.specs.Rule.{hand}
use Rattle.kernel_lock.proofs.Keeps.{gives_back}
use Rattle.kernel_lock.proofs.lock.KernelLock.leave.Goals as goal

pub store-requires : goal.store-requires
store-requires g c =
    let put = c.exchange-before.ensures.3 in
    let told = c.write_down.ensures.written in
    let p = c.seat.invariant in
    let here = ap (λ v. v.lock) c.seat.view_is ∙ (c.requires.seat.0 ∙ sym (ap (λ v. v.lock) c.self.view_is)) in
    let in' = ap (λ v. v.inside) c.seat.view_is ∙ c.requires.inside in
    let hands = ap (λ m. m.1) told ∙ (p.4 ∙ ap hand in') in (
      c.exchange-before.ensures.0 ∙ (c.write_down.ensures.lock.0 ∙ here),
      search rules,
      gives_back _ _ _ _ _ _ _ _ _ c.args.state (ap (λ m. m.0.inside) put ∙ (ap (λ m. m.0.inside) told ∙ in')) (ap (λ m. m.0.state) put ∙ ap (λ m. m.0.state) told)
          (ap (λ m. m.1) put ∙ ap (λ z. (0, Some c.args.state) ∷ rest z) hands),
    )
