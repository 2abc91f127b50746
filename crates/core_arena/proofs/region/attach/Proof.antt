-- `attach` hands the bytes to what waits for them. Assumes `Logic`.
use Rattle.core_arena.proofs.Walks.{◌≡◌, ℕ, List, [], ◌∷◌, ◌++◌, length, refl, sym, ◌∙◌, subst, proved_at}
use Rattle.core_arena.proofs.Walks.{Goes-blank, ftrue, flft, fsep, fact, tables, ‵, raw, prop, ◌⊛◌, ◌$◌, ◌∵◌, ! }
use Rattle.core_arena.proofs.Walks.{qed, move, drop, use1, use2, split, split3, fsplit, fjoin, fpick, feq_i}
use Rattle.core_arena.proofs.Walks.{feq_l, regoal, rewrite, suffices, done, sub, whole, enter, returns, of_opd}
use Rattle.core_arena.proofs.Walks.{fld, stop, alloc_all, pass_all, free_all, look_at, get, get_in, sets, Val}
use Rattle.core_arena.proofs.Walks.{yes, no, u8, plain, nothing, heard, Stays, says, stay_dropped, walk_of}
use Rattle.core_arena.proofs.Walks.{ends_at, plainly, none, one, none_had, one_had, byte_vec_laws, of_one, feq}
use Rattle.core_arena.proofs.Walks.{fwand, ◌⊑◌, Typed, param, inst_fn, WpFn, sem, with_items, with_items_is}
use Rattle.core_arena.proofs.Walks.{Stretch, vec_owns_bytes}
use base.Logic.{all_e, apply∗}
use Rattle.core_arena.specs.contracts.region.Shell as Shell
use Rattle.std_alloc.specs.contracts.vec.Vec as Vec
use Rattle.core_arena.proofs.Vecs.{together}
use Rattle.core_arena.specs.contracts.region.attach as f
use Rattle.core_arena.proofs.region.attach.Statement.{statement}
use Rattle.core_arena.proofs.region.attach.Code as code

pub attach_spec : {M : Type 1} → statement M
attach_spec 𝓤 𝓛 𝓜 𝓡 wired A L g d dd met md =
    let c = f.clauses A g d dd 𝓛 𝓜.mem 𝓡.returns in let En = f.ended A g d dd in let 𝓣 = tables 𝓤 𝓛.H 𝓜 𝓡 𝓡.env in
    let P = param 0 A in let V = Vec.the_row u8 P g in let S = Shell.the_row P g in let fn = inst_fn (of_one A d dd) code.function in
    let stayed : Stays En.signature.params En.kept = (stay_dropped (plain (λ _. Stretch)) yes, (stay_dropped (plain (λ _. S)) no, tt)) in
    proved_at 𝓛 En stayed c 𝓜 𝓡 (Goes-blank 𝓛 1 (plain (λ _. Stretch)) yes (λ κs x w. tt), (Goes-blank 𝓛 1 (plain (λ _. S)) no (λ κs x w. tt), tt))
    (f.Key.name (of_one A d dd)) fn (code.unfolded 𝓤 𝓛.H 𝓜 𝓡 wired (A, tt) d dd) (λ z _.
    let κs = z.0.0 in let a = z.0.3 in let vss = z.0.4 in let Post = (walk_of 𝓛 En stayed c).post z in let xs = a.0.bytes in let e = a.1.0 in
    qed 𝓛 (((‵ (flft κs.0 z.0.1.0) ⊛ ‵ ftrue) ⊛ ‵ (Stretch.own_val a.0 vss.0) ⊛ ‵ (S.own_val e vss.1.0) ⊛ ‵ ftrue) ∷
    (raw (fact 𝓤 (κs.0 ⊑ A.lives)) ⊛ raw (fact 𝓤 ((a.0.at ≡ e.at) × (length xs ≡ e.len)))) ∷ []) ∵
    move ! (1 ∷ []) $ split ! $ drop ! $ heard ! ((a.0.at ≡ e.at) × (length xs ≡ e.len)) (λ asked. split3 ! $ move ! (2 ∷ []) $ split ! $ move ! (1 ∷ []) $ drop ! $
    move ! (2 ∷ []) $ fsplit ! $ none_had ! vss.0 (λ is₀. move ! (1 ∷ []) $ fsplit ! $ fpick ! (λ typed. drop ! $ fpick ! (λ v. fsplit ! $ feq_l ! (λ len.
    let Given = λ (ys : List ℕ). fsep (feq ℕ (length ys) e.len) (vec_owns_bytes e.at ys) in
    let Whole = λ (ys : List ℕ). (plainly (V ∷ [])).own_val (with_items v.vec ys, tt) vss.1.0 in
    -- [the way back; the bytes; the tokens]
    use1 𝓛 (‵ (fwand (Given xs) (Whole xs))) (all_e 𝓤 (λ ys. sem 𝓛 (fwand (Given ys) (Whole ys))) xs) $ move ! (1 ∷ []) $
    use1 𝓛 (‵ (vec_owns_bytes a.0.at xs)) (together 𝓛 a.0.at xs) $
    rewrite ! 0 (λ p. ‵ (vec_owns_bytes p xs)) asked.0 refl $ feq_i ! ℕ (length xs) e.len asked.1 $ fjoin ! $
    use2 𝓛 (‵ (Whole xs)) (apply∗ 𝓤 (sem 𝓛 (Given xs)) (sem 𝓛 (Whole xs))) $ one_had ! V (byte_vec_laws A L g) (with_items v.vec xs) vss.1.0 (λ u is₁ good.
    regoal ! (λ (us : List Val). prop (WpFn 𝓤 𝓛.H 𝓣.C 𝓣.Λ fn (us ++ (vss.1.0 ++ [])) Post)) is₀ refl $
    regoal ! (λ (us : List Val). prop (WpFn 𝓤 𝓛.H 𝓣.C 𝓣.Λ fn ((none ∷ []) ++ (us ++ [])) Post)) is₁ refl $
    enter ! 𝓣.C 𝓣.Λ fn (none ∷ one u ∷ []) Post $ alloc_all ! (λ l. pass_all ! refl ((tt, tt), ((subst (Typed S.mir) is₁ typed).0, tt)) $
    sets ! (of_opd ! (get_in ! (fld ! refl (stop !)) (sub ! 0 refl (whole !)))) refl good $ sets ! (of_opd ! (get ! refl)) refl good $
    returns ! (look_at ! 0 refl) $ free_all ! refl $
    suffices ! _ (ends_at 𝓛 En stayed c z u (with_items v.vec xs) (tt, (tt, tt)) (tt, (tt, tt))) $ says ! (with_items_is v.vec xs (asked.1 ∙ sym len)) $
    nothing ! $ nothing ! $ fjoin ! $ nothing ! $ fjoin ! $ move ! (2 ∷ 0 ∷ 1 ∷ []) $ done !))))))))
