use Rattle.std.proofs.Common.{rules, ◌≡◌, ◌∙◌, sym, ap, false}
use Rattle.kernel_lock.specs.Rule.{hand}
use Rattle.kernel_lock.proofs.Parts.{joins_part}
use Rattle.kernel_lock.proofs.lock.KernelLock.gather.Goals as goal

pub join_seat-requires : goal.join_seat-requires
join_seat-requires g c =
    let here = sym (ap (λ v. v.lock) c.self.view_is) in
    let taken = c.into_place.ensures in
    let plain = taken.plain in
    let out : c.into_place.result.me.0.inside ≡ false = ap (λ v. v.inside) taken.view ∙ c.requires.outside in
    let into = c.into.invariant in (
      ap (λ v. v.lock) c.into.view_is ∙ (c.requires.lock ∙ here),
      ap (λ v. v.lock) taken.view ∙ (c.requires.seat.0 ∙ here),
      plain.4 ∙ ap hand out,
      search rules,
      joins_part _ _ _ _ _ _ _ _ _ (ap (λ m. m.0.inside) into) (ap (λ m. m.0.seated) into) (ap (λ m. m.0.deals) into) out plain.0,
    )
