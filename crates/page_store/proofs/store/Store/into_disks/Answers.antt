use Rattle.std.proofs.Common.{◌≡◌, ℕ, List, length, sym, ◌∙◌, ap, subst, arith}
use Rattle.std.specs.Prelude.{slice_index}
use Rattle.std.proofs.lemmas.List.{get_or-set_other}
use Rattle.std.proofs.Math.ListN.{length-set}
use Rattle.page_store.specs.Bays.{BaySeen, missing, home, bay_at, disk_in, disks_in, IsStill}
use Rattle.page_store.specs.Seen.{StoreSeen}
use Rattle.page_store.proofs.GiveLemmas.{still-home, disks_in-other}
use Rattle.page_store.proofs.store.Store.into_disks.Goals as goal

pub remove-swap-requires-clause-still : goal.remove-swap-requires-clause-still
remove-swap-requires-clause-still g c = subst (λ (l : List BaySeen). IsStill (bay_at l 8)) (sym (ap (λ (x : StoreSeen). x.bays) c.self.view_is)) (c.requires 8)

pub collect-requires-clause-within : goal.collect-requires-clause-within
collect-requires-clause-within g c = λ i lt.
    let low = c.self.invariant.sound.order.numbers.below i lt in
    let long : length c.remove-swap.new.self ≡ 9 = ap (λ (l : List BaySeen). length l) c.remove-swap.ensures.new ∙ length-set c.self.inside.bays 8 missing ∙ c.self.invariant.sound.bays in
    omega (arith, low, long)

pub collect-requires-clause-there : goal.collect-requires-clause-there
collect-requires-clause-there g c = λ i lt.
    let n : ℕ = slice_index c.self.inside.order i in
    let low = c.self.invariant.sound.order.numbers.below i lt in
    let same : bay_at c.remove-swap.new.self n ≡ bay_at c.self.inside.bays n = ap (λ (l : List BaySeen). bay_at l n) c.remove-swap.ensures.new
    ∙ get_or-set_other c.self.inside.bays 8 n missing missing (omega (arith, low)) in
    let still : IsStill (bay_at c.self.inside.bays n) = subst (λ (l : List BaySeen). IsStill (bay_at l n)) (sym (ap (λ (x : StoreSeen). x.bays) c.self.view_is)) (c.requires n) in
    same ∙ still-home (bay_at c.self.inside.bays n) still (c.self.invariant.sound.order.there i lt) ∙ ap (λ (b : BaySeen). home (disk_in b)) (sym same)

pub returns-clause-disks : goal.returns-clause-disks
returns-clause-disks g c =
    c.collect.ensures
    ∙ ap (λ (l : List BaySeen). disks_in l c.self.inside.order) c.remove-swap.ensures.new
    ∙ disks_in-other c.self.inside.bays 8 c.self.inside.order (λ i lt. let low = c.self.invariant.sound.order.numbers.below i lt in omega (arith, low))
    ∙ ap (λ (x : StoreSeen). disks_in x.bays x.order) c.self.view_is
