-- `join` puts the bytes of both side by side. Assumes `Logic`.
use Rattle.core_arena.proofs.Walks.{◌≡◌, [], ◌∷◌, ◌++◌, length, refl, ◌+ₚ◌, proved, Goes-blank, ftrue, fact, ‵}
use Rattle.core_arena.proofs.Walks.{raw, ◌⊛◌, ◌$◌, ◌∵◌, !, qed, move, keep, use2, split, split3, fjoin}
use Rattle.core_arena.proofs.Walks.{suffices, done, agg, enter, returns, no_more, alloc_all, pass_all, free_all}
use Rattle.core_arena.proofs.Walks.{look_at, sets, yes, plain, nothing, heard, Stays, says, stay_dropped}
use Rattle.core_arena.proofs.Walks.{walk_of, ends_at, none, Stretch, lowers}
use Rattle.core_arena.proofs.Stretches.{bare, joined}
use Rattle.core_arena.specs.contracts.region.Stretch.join as f
use Rattle.core_arena.proofs.region.Stretch.join.Statement.{statement}
use Rattle.core_arena.proofs.region.Stretch.join.Code as code

abbrev stayed : Stays f.ended.signature.params f.ended.kept
stayed = (stay_dropped _ yes, (stay_dropped _ yes, tt))

pub join_spec : {M : Type 1} → statement M
join_spec 𝓤 𝓛 𝓜 𝓡 wired =
    let c = f.clauses 𝓛 𝓜.mem 𝓡.returns in let S = Stretch in let gone = Goes-blank 𝓛 0 (plain (λ _. S)) yes (λ κs x w. tt) in
    proved 𝓛 f.ended stayed c 𝓜 𝓡 (gone, (gone, tt)) f.Key.name code.function (code.unfolded 𝓤 𝓛.H 𝓜 𝓡 wired)
    (λ κs. (bare, (bare, tt))) (λ κs. (lowers.val_is, (lowers.val_is, tt))) (λ κs qs bounds a _ are.
    let s = a.0 in let t = a.1.0 in let both : S.Denot = record { at = s.at; bytes = s.bytes ++ t.bytes } in
    let y : (walk_of 𝓛 f.ended stayed c).Ghost = ((κs, qs, bounds, a, (bare s, (bare t, tt))), tt) in
    qed 𝓛 ((‵ ftrue ⊛ ‵ (S.own_val s (bare s)) ⊛ ‵ (S.own_val t (bare t)) ⊛ ‵ ftrue) ∷ raw (fact 𝓤 (t.at ≡ s.at +ₚ length s.bytes)) ∷ []) ∵
    move ! (1 ∷ []) $ heard ! _ (λ asked. split3 ! $ move ! (2 ∷ []) $ split ! $ move ! (3 ∷ 0 ∷ []) $
    use2 𝓛 (‵ (S.own_val both (bare both))) (joined 𝓛 s t asked) $ keep ! (0 ∷ []) $
    enter ! _ _ _ _ _ $ alloc_all ! (λ l. pass_all ! refl ((tt, tt), ((tt, tt), tt)) $
    sets ! (agg ! (no_more !)) refl (tt, tt) $ returns ! (look_at ! 0 refl) $ free_all ! refl $
    suffices ! _ (ends_at 𝓛 f.ended stayed c y none both (tt, (tt, tt)) (tt, (tt, tt))) $ says ! (refl, refl) $
    nothing ! $ nothing ! $ fjoin ! $ nothing ! $ fjoin ! $ nothing ! $ done !)))
