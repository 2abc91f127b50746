-- `bytes_mut` lends the bytes of a stretch, and the stretch follows them. Assumes `Logic`.
use Rattle.core_arena.proofs.Walks.{◌≡◌, ℕ, ◌*◌, ◌^◌, ◌<◌, List, [], ◌∷◌, length, arith, lit<, refl, sym, ◌∙◌}
use Rattle.core_arena.proofs.Walks.{proved, Goes-dropped, ftrue, flft, fsep, fact, tables, full_share, ent, sep}
use Rattle.core_arena.proofs.Walks.{id⊢, ‵, raw, prop, ◌⊛◌, some, later, await, pick, ◌$◌, ◌∵◌, !, qed, move}
use Rattle.core_arena.proofs.Walks.{keep, use1, split, split3, join, group, fsplit, fsplit3, fjoin, fpack}
use Rattle.core_arena.proofs.Walks.{regoal, rewrite, suffices, frame, done, at_ret, agg, enter, returns, of_opd}
use Rattle.core_arena.proofs.Walks.{and_then, no_more, first, blocks, exec, alloc_all, pass_all, free_all}
use Rattle.core_arena.proofs.Walks.{look_at, get, sets, sets_last, env, Val, vptr, seq, assign, place, rv_opd}
use Rattle.core_arena.proofs.Walks.{copy, return, u8, RawPtr, yes, no, plain, nothing, heard, Stays, says}
use Rattle.core_arena.proofs.Walks.{stay_dropped, walk_of, ends_at, Ptr, block_ptr, rawptr_vals, rawptr_Tells}
use Rattle.core_arena.proofs.Walks.{named, big_lit, plainly, Fml, WpFn, Logic, sem, cells, Array, mem, cell_at}
use Rattle.core_arena.proofs.Walks.{block_of, count_of, InBlock, at_block, bytes, RattleType, slice_val, opens}
use Rattle.core_arena.proofs.Walks.{Goes-spent_ref, Ura, MutBor, stretch_owns, Stretch}
use base.Fml.{GName}
use denote.Follow.{follows}
use denote.FollowSlice.{Elements, lends_Elements}
use denote.Memory.{part_of}
use denote.Ref.{MutRef, mut_vals, mut_Tells}
use denote.Slice.{MutSlice}
use Rattle.core_arena.specs.Bytes.{slice_after_write}
use Rattle.core_arena.proofs.BytesLemmas.{slice_after_write-whole}
use Rattle.core_arena.proofs.Vecs.{to_cells, of_cells}
use Rattle.core_arena.specs.contracts.region.Stretch.bytes_mut as f
use Rattle.core_arena.proofs.region.Stretch.bytes_mut.Statement.{statement}
use Rattle.core_arena.proofs.region.Stretch.bytes_mut.Code as code

abbrev S : RattleType
S = Stretch

abbrev new : S.Denot → List ℕ → S.Denot
new s ws = record { at = s.at; bytes = slice_after_write s.bytes ws }

-- all of the stretch but its bytes
abbrev Rest : List Val → ℕ → ℕ → Fml
Rest vs rb ro = fsep ((plainly []).own_val tt vs) (cell_at full_share S.mir vs rb ro)

back : {M : Type 1} {𝓤 : Ura M} (𝓛 : Logic 𝓤) (s : S.Denot) (b o rb ro : ℕ) (vs : List Val) → s.at ≡ block_ptr b o → (ws : List ℕ) → length ws ≡ length s.bytes
    → ent 𝓤 (sep 𝓤 (sem 𝓛 (cells (mem u8) ws b o)) (sem 𝓛 (Rest vs rb ro))) (sem 𝓛 ((mem S).own_at (new s ws) rb ro))
unfolding part_of
back 𝓛 s b o rb ro vs at ws same =
    qed 𝓛 (‵ (cells (mem u8) ws b o) ∷ ‵ (Rest vs rb ro) ∷ []) ∵ use1 𝓛 (‵ (bytes full_share ws b o)) (of_cells 𝓛 ws b o) $
    rewrite ! 0 (λ (l : List ℕ). ‵ (bytes full_share l b o)) (sym (slice_after_write-whole s.bytes ws same)) refl $
    rewrite ! 0 (λ (p : Ptr). ‵ (stretch_owns p (new s ws).bytes)) (sym at) refl $ move ! (1 ∷ []) $ fsplit ! $ move ! (0 ∷ 2 ∷ []) $ fjoin ! $ move ! (1 ∷ 0 ∷ []) $ fjoin ! $
    fpack ! (List Val) (λ us. fsep (cell_at full_share S.mir us rb ro) (S.own_val (new s ws) us)) vs $ done !

abbrev stayed : Stays f.ended.signature.params f.ended.kept
stayed = (stay_dropped _ no, (stay_dropped _ yes, tt))

pub bytes_mut_spec : {M : Type 1} → statement M
bytes_mut_spec 𝓤 𝓛 𝓜 𝓡 wired =
    let c = f.clauses 𝓛 𝓜.mem 𝓡.returns in let W = walk_of 𝓛 f.ended stayed c in let 𝓣 = tables 𝓤 𝓛.H 𝓜 𝓡 𝓡.env in
    proved 𝓛 f.ended stayed c 𝓜 𝓡 (Goes-spent_ref 𝓛 1 (0 ∷ []) tt (plain (λ _. S)), (Goes-dropped 𝓛 1 (plain (λ _. RawPtr)) yes (λ κs x w. refl), tt))
    f.Key.name code.function (code.unfolded 𝓤 𝓛.H 𝓜 𝓡 wired)
    (λ κs. (mut_vals, (rawptr_vals, tt))) (λ κs. (mut_Tells (named 0) κs.0 S, (rawptr_Tells, tt))) (λ κs qs bounds a _ are.
    let κ = κs.0 in let q = qs.0 in let s = a.0.now in let p = a.1.0 in let b = block_of p in let o = count_of p in let xs = s.bytes in
    let rb = a.0.ref_ptr.0 in let ro = a.0.ref_ptr.1 in let γ = a.0.ghost_name in
    let y : Ptr → W.Ghost = λ p. ((κs, qs, bounds, (a.0, (p, tt)), (mut_vals a.0, (rawptr_vals p, tt))), tt) in
    qed 𝓛 (((‵ (flft κ q) ⊛ ‵ ftrue) ⊛ ‵ ((MutRef (named 0) κ S).own_val a.0 (mut_vals a.0)) ⊛ ‵ (RawPtr.own_val p (rawptr_vals p)) ⊛ ‵ ftrue) ∷ raw
    (fact 𝓤 ((p ≡ s.at) × InBlock p × (length xs ≡ 4096))) ∷ []) ∵
    move ! (1 ∷ []) $ heard ! _ (λ asked. let at : p ≡ block_ptr b o = at_block p asked.1 in let here : s.at ≡ block_ptr b o = sym asked.0 ∙ at in
    regoal ! (λ q. prop (WpFn 𝓤 𝓛.H 𝓣.C 𝓣.Λ code.function (vptr rb ro ∷ rawptr_vals q) (W.post (y q)))) at refl $
    split3 ! $ split ! $ move ! (2 ∷ 0 ∷ []) $ fsplit3 ! $ keep ! (1 ∷ 2 ∷ 3 ∷ []) $
    -- [what the name is seen at; the borrow; the token]
    enter ! _ _ _ _ _ $ alloc_all ! (λ l. pass_all ! refl ((tt, tt), ((tt, tt), tt)) $ opens ! tt S {h = s} rb ro (λ vs. move ! (1 ∷ []) $ fsplit ! $ move ! (1 ∷ []) $
    rewrite ! 0 (λ (r : Ptr). ‵ (stretch_owns r xs)) here refl $ use1 𝓛 (‵ (cells (mem u8) xs b o)) (to_cells 𝓛 xs b o) $
    first ! $ blocks ! $ sets_last ! (agg ! (and_then ! (get ! refl) (and_then ! (big_lit ! (record { fits = lit< tt })) (no_more !)))) refl (tt, (tt, (record { fits = lit< tt }, tt))) $
    exec ! 𝓣.C 𝓣.Λ (env code.function.locals l) (seq (assign (place 0 []) (rv_opd (copy (place 3 [])))) return) (at_ret _ (W.post (y (block_ptr b o)))) $
    sets ! (of_opd ! (get ! refl)) refl (tt, (tt, (record { fits = lit< tt }, tt))) $
    let roomy : length xs < 2 ^ 64 = omega (arith, asked.2) in let fitting : length xs * 1 < 2 ^ 63 = omega (arith, asked.2) in
    let way = back 𝓛 s b o rb ro vs here in let code = S.coded.code s in
    let El = λ (δ : GName). Elements 𝓛 S u8 (new s) (named 0) κ q rb ro b o γ xs (roomy, fitting) (sem 𝓛 (Rest vs rb ro)) way δ in
    move ! (1 ∷ 2 ∷ []) $ fjoin ! $ move ! (2 ∷ 3 ∷ 4 ∷ 1 ∷ 0 ∷ []) $ group ! 5 $
    use1 𝓛 (later (some (λ (δ : GName). raw (El δ)))) (lends_Elements 𝓛 S u8 (new s) (named 0) κ q rb ro b o γ xs (roomy, fitting) (sem 𝓛 (Rest vs rb ro)) way code code) $
    await ! tt $ pick ! (λ δ. returns ! (look_at ! 0 refl) $ free_all ! refl $ keep ! (0 ∷ []) $
    let r : MutBor (List ℕ) = record { ref_ptr = (b, o); ghost_name = δ; now = xs } in let v = slice_val (b, o) (length xs) in
    regoal ! (λ k. prop (W.post (y (block_ptr b o)) (slice_val (b, o) k))) (sym asked.2) refl $
    use1 𝓛 (‵ ((MutSlice (named 0) κ u8).own_val r (v ∷ [])) ⊛ ‵ (flft κ q) ⊛ ‵ (follows S (Array u8 0) γ δ (new s))) (id⊢ 𝓤 _) $ split3 ! $
    suffices ! _ (ends_at 𝓛 f.ended stayed c (y (block_ptr b o)) v r (tt, (tt, tt)) (tt, (tt, tt))) $
    nothing ! $ nothing ! $ fjoin ! $ nothing ! $ fjoin ! $ join ! $ nothing ! $ move ! (2 ∷ 0 ∷ []) $ join ! $ join ! $ frame ! $ says ! refl $ done !)))))
