-- `bytes` shows what a `&` to a stretch holds. Assumes `Logic`.
use Rattle.core_arena.proofs.Walks.{◌≡◌, ◌*◌, ◌^◌, List, [], ◌∷◌, length, arith, lit<, refl, sym, ap, proved}
use Rattle.core_arena.proofs.Walks.{Goes-dropped, ftrue, flft, fact, tables, ‵, raw, prop, ◌⊛◌, ◌$◌, ◌∵◌, ! }
use Rattle.core_arena.proofs.Walks.{qed, move, drop, split3, fsplit, fjoin, feq_i, flt_i, regoal, rewrite}
use Rattle.core_arena.proofs.Walks.{suffices, done, at_ret, agg, enter, returns, of_opd, and_then, no_more}
use Rattle.core_arena.proofs.Walks.{first, blocks, exec, alloc_all, pass_all, free_all, look_at, get, sets}
use Rattle.core_arena.proofs.Walks.{sets_last, env, Val, vptr, seq, assign, place, rv_opd, copy, return, RawPtr}
use Rattle.core_arena.proofs.Walks.{yes, plain, nothing, heard, Stays, says, stay_dropped, walk_of, ends_at}
use Rattle.core_arena.proofs.Walks.{Ptr, block_ptr, rawptr_vals, rawptr_Tells, named, big_lit, WpFn, unhide}
use Rattle.core_arena.proofs.Walks.{hide, block_of, count_of, InBlock, at_block, slice_val, stretch_lent}
use Rattle.core_arena.proofs.Walks.{Stretch}
use denote.Builtin.{RefOf}
use denote.Ref.{ShrRef, shr_vals, shr_Tells}
use Rattle.core_arena.specs.contracts.region.Stretch.bytes as f
use Rattle.core_arena.proofs.region.Stretch.bytes.Statement.{statement}
use Rattle.core_arena.proofs.region.Stretch.bytes.Code as code

abbrev stayed : Stays f.ended.signature.params f.ended.kept
stayed = (stay_dropped _ yes, (stay_dropped _ yes, tt))

pub bytes_spec : {M : Type 1} → statement M
bytes_spec 𝓤 𝓛 𝓜 𝓡 wired =
    let c = f.clauses 𝓛 𝓜.mem 𝓡.returns in let W = walk_of 𝓛 f.ended stayed c in let 𝓣 = tables 𝓤 𝓛.H 𝓜 𝓡 𝓡.env in
    proved 𝓛 f.ended stayed c 𝓜 𝓡 (Goes-dropped 𝓛 1 (RefOf (0 ∷ []) tt (plain (λ _. Stretch)) (λ _. tt)) yes (λ κs x w. refl), (Goes-dropped 𝓛 1 (plain (λ _. RawPtr)) yes (λ κs x w. refl), tt))
    f.Key.name code.function (code.unfolded 𝓤 𝓛.H 𝓜 𝓡 wired)
    (λ κs. (shr_vals, (rawptr_vals, tt))) (λ κs. (shr_Tells (named 0) κs.0 Stretch, (rawptr_Tells, tt))) (λ κs qs bounds a _ are.
    let s = a.0.now in let p = a.1.0 in let b = block_of p in let o = count_of p in
    let y : Ptr → W.Ghost = λ p. ((κs, qs, bounds, (a.0, (p, tt)), (shr_vals a.0, (rawptr_vals p, tt))), tt) in
    qed 𝓛 (((‵ (flft κs.0 qs.0) ⊛ ‵ ftrue) ⊛ ‵ ((ShrRef (named 0) κs.0 Stretch).own_val a.0 (shr_vals a.0)) ⊛ ‵
    (RawPtr.own_val p (rawptr_vals p)) ⊛ ‵ ftrue) ∷ raw (fact 𝓤 ((p ≡ s.at) × InBlock p × (length s.bytes ≡ 4096))) ∷ []) ∵
    move ! (1 ∷ []) $ heard ! _ (λ asked. let at : p ≡ block_ptr b o = at_block p asked.1 in
    regoal ! (λ q. prop (WpFn 𝓤 𝓛.H 𝓣.C 𝓣.Λ code.function (vptr a.0.ref_ptr.0 a.0.ref_ptr.1 ∷ rawptr_vals q) (W.post (y q)))) at refl $
    split3 ! $ move ! (2 ∷ []) $ drop ! $ move ! (1 ∷ []) $ fsplit ! $ drop ! $ unhide ! $ fsplit ! $ drop ! $
    rewrite ! 0 (λ q. ‵ (stretch_lent q s.bytes κs.0)) (sym asked.0) refl $
    -- [what is shared; the tokens]
    enter ! _ _ _ _ _ $ alloc_all ! (λ l. pass_all ! refl ((tt, tt), ((tt, tt), tt)) $
    first ! $ blocks ! $ sets_last ! (agg ! (and_then ! (get ! refl) (and_then ! (big_lit ! (record { fits = lit< tt })) (no_more !)))) refl (tt, (tt, (record { fits = lit< tt }, tt))) $
    exec ! 𝓣.C 𝓣.Λ (env code.function.locals l) (seq (assign (place 0 []) (rv_opd (copy (place 3 [])))) return) (at_ret _ (W.post (y (block_ptr b o)))) $
    sets ! (of_opd ! (get ! refl)) refl (tt, (tt, (record { fits = lit< tt }, tt))) $ hide ! $
    flt_i ! (length s.bytes * 1) (2 ^ 63) (omega (arith, asked.2)) $ flt_i ! (length s.bytes) (2 ^ 64) (omega (arith, asked.2)) $ fjoin ! $
    feq_i ! (List Val) (slice_val (b, o) 4096 ∷ []) (slice_val (b, o) (length s.bytes) ∷ []) (ap (λ k. slice_val (b, o) k ∷ []) (sym asked.2)) $ fjoin ! $ fjoin ! $
    returns ! (look_at ! 0 refl) $ free_all ! refl $
    suffices ! _ (ends_at 𝓛 f.ended stayed c (y (block_ptr b o)) (slice_val (b, o) 4096) (record { ref_ptr = (b, o); now = s.bytes }) (tt, (tt, tt)) (tt, (tt, tt))) $ says ! refl $
    nothing ! $ nothing ! $ fjoin ! $ nothing ! $ fjoin ! $ move ! (2 ∷ 0 ∷ 1 ∷ []) $ done !)))
