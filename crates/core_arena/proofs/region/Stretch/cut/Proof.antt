-- `cut` parts the bytes. Assumes `Logic`.
use Rattle.core_arena.proofs.Walks.{◌≤◌, [], ◌∷◌, length, take, drop_l, refl, ◌+ₚ◌, proved, Goes-blank, ftrue}
use Rattle.core_arena.proofs.Walks.{fact, w64, ‵, raw, ◌⊛◌, ◌$◌, ◌∵◌, !, qed, move, keep, use1, split3, fjoin}
use Rattle.core_arena.proofs.Walks.{suffices, done, agg, enter, returns, and_then, no_more, alloc_all, pass_all}
use Rattle.core_arena.proofs.Walks.{free_all, look_at, get, sets, usize, yes, uint_vals, uint_Tells, plain}
use Rattle.core_arena.proofs.Walks.{nothing, heard, Stays, says, stay_dropped, walk_of, ends_at, none, two}
use Rattle.core_arena.proofs.Walks.{Stretch, lowers}
use Rattle.core_arena.proofs.Stretches.{bare, Pair, parted}
use Rattle.core_arena.specs.contracts.region.Stretch.cut as f
use Rattle.core_arena.proofs.region.Stretch.cut.Statement.{statement}
use Rattle.core_arena.proofs.region.Stretch.cut.Code as code

abbrev stayed : Stays f.ended.signature.params f.ended.kept
stayed = (stay_dropped _ yes, (stay_dropped _ yes, tt))

pub cut_spec : {M : Type 1} → statement M
cut_spec 𝓤 𝓛 𝓜 𝓡 wired =
    let c = f.clauses 𝓛 𝓜.mem 𝓡.returns in let S = Stretch in
    proved 𝓛 f.ended stayed c 𝓜 𝓡 (Goes-blank 𝓛 0 (plain (λ _. S)) yes (λ κs x w. tt), (Goes-blank 𝓛 0 (plain (λ _. usize)) yes (λ κs x w. tt), tt))
    f.Key.name code.function (code.unfolded 𝓤 𝓛.H 𝓜 𝓡 wired)
    (λ κs. (bare, (uint_vals w64, tt))) (λ κs. (lowers.val_is, (uint_Tells w64, tt))) (λ κs qs bounds a _ are.
    let s = a.0 in let n = a.1.0 in
    let pair : Pair.Denot = (record { at = s.at; bytes = take n s.bytes }, record { at = s.at +ₚ n; bytes = drop_l n s.bytes }) in
    let y : (walk_of 𝓛 f.ended stayed c).Ghost = ((κs, qs, bounds, a, (bare s, (uint_vals w64 n, tt))), tt) in
    qed 𝓛 ((‵ ftrue ⊛ ‵ (S.own_val s (bare s)) ⊛ ‵ (usize.own_val n (uint_vals w64 n)) ⊛ ‵ ftrue) ∷ raw (fact 𝓤 (n ≤ length s.bytes)) ∷ []) ∵
    move ! (1 ∷ []) $ heard ! _ (λ asked. split3 ! $ keep ! (1 ∷ []) $ use1 𝓛 (‵ (Pair.own_val pair (two none none ∷ []))) (parted 𝓛 s n asked) $
    enter ! _ _ _ _ _ $ alloc_all ! (λ l. pass_all ! refl ((tt, tt), ((tt, record { fits = are.1.0.1 }), tt)) $
    sets ! (agg ! (no_more !)) refl (tt, tt) $ sets ! (agg ! (no_more !)) refl (tt, tt) $
    sets ! (agg ! (and_then ! (get ! refl) (and_then ! (get ! refl) (no_more !)))) refl (tt, (tt, (tt, tt))) $
    returns ! (look_at ! 0 refl) $ free_all ! refl $
    suffices ! _ (ends_at 𝓛 f.ended stayed c y (two none none) pair (tt, (tt, tt)) (tt, (tt, tt))) $ says ! (refl, refl, refl, refl) $
    nothing ! $ nothing ! $ fjoin ! $ nothing ! $ fjoin ! $ nothing ! $ done !)))
