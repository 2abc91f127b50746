-- `detach` takes the bytes out, and leaves the way back. Assumes `Logic`.
use Rattle.core_arena.proofs.Walks.{◌<◌, List, [], ◌∷◌, ◌++◌, refl, sym, subst, proved_at, Goes-blank, ftrue}
use Rattle.core_arena.proofs.Walks.{flft, fact, tables, id⊢, never, ‵, raw, prop, ◌⊛◌, ◌$◌, ◌∵◌, !, qed, move}
use Rattle.core_arena.proofs.Walks.{drop, use1, split, fjoin, fpack, regoal, rewrite, suffices, done, agg}
use Rattle.core_arena.proofs.Walks.{enter, returns, of_opd, and_then, no_more, alloc_all, pass_all, free_all}
use Rattle.core_arena.proofs.Walks.{look_at, get, sets, Val, in_a_block, no, u8, plain, nothing, heard, Stays}
use Rattle.core_arena.proofs.Walks.{says, stay_dropped, walk_of, ends_at, none, one, two, tells, none_made}
use Rattle.core_arena.proofs.Walks.{two_made, byte_vec_laws, of_one, ◌⊑◌, Typed, param, layout, InBlock}
use Rattle.core_arena.proofs.Walks.{as_fields, inst_fn, WpFn, Stretch, vec_owns_bytes, stretch_owns}
use Rattle.core_arena.specs.contracts.region.Shell as Shell
use Rattle.std_alloc.specs.contracts.vec.Vec as Vec
use Rattle.core_arena.proofs.Vecs.{carve, one_by_one}
use Rattle.core_arena.specs.contracts.region.detach as f
use Rattle.core_arena.proofs.region.detach.Statement.{statement}
use Rattle.core_arena.proofs.region.detach.Code as code

pub detach_spec : {M : Type 1} → statement M
detach_spec 𝓤 𝓛 𝓜 𝓡 wired A L g d dd met md =
    let c = f.clauses A g d dd 𝓛 𝓜.mem 𝓡.returns in let En = f.ended A g d dd in let 𝓣 = tables 𝓤 𝓛.H 𝓜 𝓡 𝓡.env in
    let P = param 0 A in let V = Vec.the_row u8 P g in let S = Shell.the_row P g in let fn = inst_fn (of_one A d dd) code.function in
    let stayed : Stays En.signature.params En.kept = (stay_dropped (plain (λ _. V)) no, tt) in
    proved_at 𝓛 En stayed c 𝓜 𝓡 (Goes-blank 𝓛 1 (plain (λ _. V)) no (λ κs x w. tt), tt) (f.Key.name (of_one A d dd)) fn (code.unfolded 𝓤 𝓛.H 𝓜 𝓡 wired (A, tt) d dd) (λ z _.
    let κs = z.0.0 in let v = z.0.3.0 in let vs = z.0.4.0 in let Post = (walk_of 𝓛 En stayed c).post z in
    let e : S.Denot = record { at = v.ptr; len = v.len } in let r : Stretch.Denot = record { at = v.ptr; bytes = v.items } in
    qed 𝓛 (((‵ (flft κs.0 z.0.1.0) ⊛ ‵ ftrue) ⊛ ‵ (V.own_val v vs) ⊛ ‵ ftrue) ∷ (raw (fact 𝓤 (κs.0 ⊑ A.lives)) ⊛ raw (fact 𝓤 (0 < v.len))) ∷ []) ∵
    move ! (1 ∷ []) $ split ! $ drop ! $ heard ! (0 < v.len) (λ asked. split ! $ move ! (1 ∷ []) $ split ! $
    tells ! V (byte_vec_laws A L g) v vs (λ u is good. move ! (1 ∷ []) $ drop ! $
    let inner = as_fields ((layout V) ∷ []) (u ∷ []) (good, tt) in
    use1 𝓛 (‵ (vec_owns_bytes v.ptr v.items) ⊛ ‵ (Shell.the_own P g e (one u ∷ []))) (carve P g 𝓛 v u asked) $ split ! $
    use1 𝓛 (‵ (stretch_owns v.ptr v.items)) (one_by_one 𝓛 v.ptr v.items) $
    in_a_block ! v.ptr (λ p. stretch_owns p v.items) (id⊢ 𝓤 (never 𝓤)) (λ pb po at. rewrite ! 0 (λ p. ‵ (stretch_owns p v.items)) (sym at) refl $
    none_made ! $ fjoin ! $ move ! (1 ∷ []) $ nothing ! $ fpack ! (Typed S.mir (one u ∷ [])) (λ _. ftrue) (inner, tt) $ fjoin ! $ move ! (1 ∷ 0 ∷ []) $
    two_made ! Stretch S r e none (one u) $
    regoal ! (λ (us : List Val). prop (WpFn 𝓤 𝓛.H 𝓣.C 𝓣.Λ fn (us ++ []) Post)) is refl $
    enter ! 𝓣.C 𝓣.Λ fn (u ∷ []) Post $ alloc_all ! (λ l. pass_all ! refl (good, tt) $
    sets ! (agg ! (no_more !)) refl (tt, tt) $ sets ! (of_opd ! (get ! refl)) refl good $ sets ! (agg ! (and_then ! (get ! refl) (no_more !))) refl inner $
    sets ! (agg ! (and_then ! (get ! refl) (and_then ! (get ! refl) (no_more !)))) refl (as_fields (layout Stretch ∷ layout S ∷ []) (none ∷ one u ∷ []) ((tt, tt), (inner, tt))) $
    returns ! (look_at ! 0 refl) $ free_all ! refl $
    suffices ! _ (ends_at 𝓛 En stayed c z (two none (one u)) (r, e) ((tt, (tt, (tt, (tt, tt)))), tt) (tt, tt)) $ says ! (refl, refl, refl, refl, subst InBlock (sym at) tt) $
    nothing ! $ nothing ! $ fjoin ! $ move ! (2 ∷ 0 ∷ 1 ∷ []) $ done !)))))
