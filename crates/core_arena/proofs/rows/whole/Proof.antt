-- `whole` shows what a `&` to pages in a row holds. Assumes `Logic`.
use Rattle.core_arena.proofs.Walks.{◌≡◌, ◌*◌, ◌^◌, ◌<◌, List, [], ◌∷◌, ◌++◌, length, arith, refl, sym, ap}
use Rattle.core_arena.proofs.Walks.{subst, proved, Goes-dropped, ftrue, flft, fact, tables, ‵, raw, prop, ◌⊛◌}
use Rattle.core_arena.proofs.Walks.{◌$◌, ◌∵◌, !, qed, move, drop, use1, split3, fsplit, fjoin, feq_i, flt_i}
use Rattle.core_arena.proofs.Walks.{regoal, suffices, done, at_ret, agg, enter, returns, of_opd, and_then}
use Rattle.core_arena.proofs.Walks.{no_more, first, blocks, exec, alloc_all, pass_all, free_all, look_at, get}
use Rattle.core_arena.proofs.Walks.{sets, sets_last, env, Val, seq, assign, place, rv_opd, copy, return, u8}
use Rattle.core_arena.proofs.Walks.{RawPtr, usize, yes, plain, nothing, heard, Stays, says, stay_dropped}
use Rattle.core_arena.proofs.Walks.{walk_of, ends_at, Ptr, block_ptr, rawptr_vals, rawptr_Tells, uint_vals}
use Rattle.core_arena.proofs.Walks.{uint_Tells, w64, named, WpFn, unhide, hide, block_of, count_of, InBlock}
use Rattle.core_arena.proofs.Walks.{at_block, slice_val, elements_shared, ℕ, ◌+◌, Option, Some, None, Ura, ent}
use Rattle.core_arena.proofs.Walks.{sep, emp, id⊢, Lft, Logic, sem, keep, use2, rewrite, RattleType, shared_of}
use Rattle.core_arena.proofs.Walks.{stretch_lent}
use denote.Builtin.{SliceRefOf}
use denote.Slice.{ShrSlice, shr_slice_vals, shr_slice_Tells}
use Rattle.core_arena.specs.Rows.{InRow, row_bytes}
use Rattle.core_arena.specs.contracts.rows.whole as f
use Rattle.core_arena.proofs.rows.whole.Statement.{statement}
use Rattle.core_arena.proofs.rows.whole.Code as code
use Rattle.core.specs.contracts.option.Option as option
use Rattle.core_arena.specs.declared.region.Stretch.{Stretch}
use Rattle.core_arena.specs.contracts.region.Stretch.{the_row as Row}

-- a place of a core
abbrev Place : RattleType
Place = option.the_row Row

module _ {M : Type 1} {𝓤 : Ura M} (𝓛 : Logic 𝓤) (κ : Lft) where
  side_by_side : (xs ys : List ℕ) (b o at : ℕ) → at ≡ o + length xs → ent 𝓤
      (sep 𝓤 (sem 𝓛 (elements_shared u8 xs b o κ)) (sem 𝓛 (elements_shared u8 ys b at κ))) (sem 𝓛 (elements_shared u8 (xs ++ ys) b o κ))
  side_by_side [] ys b o at e =
      let same : at ≡ o = omega (arith, e) in
      qed 𝓛 (‵ (elements_shared u8 [] b o κ) ∷ ‵ (elements_shared u8 ys b at κ) ∷ []) ∵ drop ! $ rewrite ! 0 (λ (k : ℕ). ‵ (elements_shared u8 ys b k κ)) same refl $ done !
  side_by_side (x ∷ xs) ys b o at e =
      qed 𝓛 (‵ (elements_shared u8 (x ∷ xs) b o κ) ∷ ‵ (elements_shared u8 ys b at κ) ∷ []) ∵ fsplit ! $ move ! (1 ∷ 2 ∷ []) $
      use2 𝓛 (‵ (elements_shared u8 (xs ++ ys) b (o + 1) κ)) (side_by_side xs ys b (o + 1) at (omega arith)) $ move ! (1 ∷ 0 ∷ []) $ fjoin ! $ done !

  page_shown : (s : Stretch) (b o : ℕ) → ent 𝓤 (sem 𝓛 (shared_of Place (Some s) b o κ)) (sem 𝓛 (stretch_lent s.at s.bytes κ))
  page_shown s b o =
      qed 𝓛 (‵ (shared_of Place (Some s) b o κ) ∷ []) ∵ fsplit ! $ fsplit ! $ move ! (1 ∷ []) $ fsplit ! $ fsplit ! $ keep ! (1 ∷ []) $ done !

  shown : (pages : List (Option Stretch)) (b o pb po : ℕ) → InRow (block_ptr pb po) pages → ent 𝓤 (sem 𝓛 (elements_shared Place pages b o κ)) (sem 𝓛 (elements_shared u8 (row_bytes pages) pb po κ))
  shown [] b o pb po row = id⊢ 𝓤 (emp 𝓤)
  shown (None ∷ more) b o pb po row = absurd row
  shown (Some s ∷ more) b o pb po row =
      qed 𝓛 (‵ (elements_shared Place (Some s ∷ more) b o κ) ∷ []) ∵ fsplit ! $
      use1 𝓛 (‵ (stretch_lent s.at s.bytes κ)) (page_shown s b o) $ rewrite ! 0 (λ (p : Ptr). ‵ (stretch_lent p s.bytes κ)) row.0 refl $ move ! (1 ∷ []) $
      use1 𝓛 (‵ (elements_shared u8 (row_bytes more) pb (po + 4096) κ)) (shown more b _ pb (po + 4096) row.2) $ move ! (1 ∷ 0 ∷ []) $
      use2 𝓛 (‵ (elements_shared u8 (s.bytes ++ row_bytes more) pb po κ)) (side_by_side s.bytes (row_bytes more) pb po (po + 4096) (sym (ap (λ (k : ℕ). po + k) row.1))) $ done !

abbrev stayed : Stays f.ended.signature.params f.ended.kept
stayed = (stay_dropped _ yes, (stay_dropped _ yes, (stay_dropped _ yes, tt)))

pub whole_spec : {M : Type 1} → statement M
whole_spec 𝓤 𝓛 𝓜 𝓡 wired =
    let c = f.clauses 𝓛 𝓜.mem 𝓡.returns in let W = walk_of 𝓛 f.ended stayed c in let 𝓣 = tables 𝓤 𝓛.H 𝓜 𝓡 𝓡.env in
    proved 𝓛 f.ended stayed c 𝓜 𝓡 (
      Goes-dropped 𝓛 1 (SliceRefOf (0 ∷ []) tt (plain (λ _. Place)) (λ _. tt)) yes (λ κs x w. refl),
      (Goes-dropped 𝓛 1 (plain (λ _. RawPtr)) yes (λ κs x w. refl), (Goes-dropped 𝓛 1 (plain (λ _. usize)) yes (λ κs x w. refl), tt)),
    )
    f.Key.name code.function (code.unfolded 𝓤 𝓛.H 𝓜 𝓡 wired)
    (λ κs. (shr_slice_vals, (rawptr_vals, (uint_vals w64, tt)))) (λ κs. (shr_slice_Tells (named 0) κs.0 Place, (rawptr_Tells, (uint_Tells w64, tt)))) (λ κs qs bounds a _ are.
    let pages = a.0.now in let p = a.1.0 in let n = a.1.1.0 in let b = block_of p in let o = count_of p in let xs = row_bytes pages in
    let y : Ptr → W.Ghost = λ p. ((κs, qs, bounds, (a.0, (p, (n, tt))), (shr_slice_vals a.0, (rawptr_vals p, (uint_vals w64 n, tt)))), tt) in
    qed 𝓛 (((‵ (flft κs.0 qs.0) ⊛ ‵ ftrue) ⊛ ‵ ((ShrSlice (named 0) κs.0 Place).own_val a.0 (shr_slice_vals a.0)) ⊛ ‵ (RawPtr.own_val p (rawptr_vals p)) ⊛ ‵
    (usize.own_val n (uint_vals w64 n)) ⊛ ‵ ftrue)
    ∷ raw (fact 𝓤 (InRow p pages × InBlock p × (length xs ≡ n) × (n < 2 ^ 63))) ∷ []) ∵
    move ! (1 ∷ []) $ heard ! _ (λ asked. let at : p ≡ block_ptr b o = at_block p asked.1 in
    regoal ! (λ q. prop (WpFn 𝓤 𝓛.H 𝓣.C 𝓣.Λ code.function (slice_val a.0.ref_ptr (length pages) ∷ (rawptr_vals q ++ uint_vals w64 n)) (W.post (y q)))) at refl $
    split3 ! $ move ! (2 ∷ []) $ drop ! $ move ! (1 ∷ []) $ fsplit ! $ drop ! $ unhide ! $
    use1 𝓛 (‵ (elements_shared u8 xs b o κs.0)) (shown 𝓛 κs.0 pages a.0.ref_ptr.0 a.0.ref_ptr.1 b o (subst (λ r. InRow r pages) at asked.0)) $
    -- [what is shared; the tokens]
    let fits = are.1.1.0.1 in
    enter ! _ _ _ _ _ $ alloc_all ! (λ l. pass_all ! refl ((tt, (tt, (record { fits = are.0.0.1.0 }, tt))), ((tt, tt), ((tt, record { fits = fits }), tt))) $
    first ! $ blocks ! $ sets_last ! (agg ! (and_then ! (get ! refl) (and_then ! (get ! refl) (no_more !)))) refl (tt, (tt, (record { fits = fits }, tt))) $
    exec ! 𝓣.C 𝓣.Λ (env code.function.locals l) (seq (assign (place 0 []) (rv_opd (copy (place 4 [])))) return) (at_ret _ (W.post (y (block_ptr b o)))) $
    sets ! (of_opd ! (get ! refl)) refl (tt, (tt, (record { fits = fits }, tt))) $ hide ! $
    flt_i ! (length xs * 1) (2 ^ 63) (omega (arith, asked.2, asked.3)) $ flt_i ! (length xs) (2 ^ 64) (omega (arith, asked.2, asked.3)) $ fjoin ! $
    feq_i ! (List Val) (slice_val (b, o) n ∷ []) (slice_val (b, o) (length xs) ∷ []) (ap (λ k. slice_val (b, o) k ∷ []) (sym asked.2)) $ fjoin ! $ fjoin ! $
    returns ! (look_at ! 0 refl) $ free_all ! refl $
    suffices ! _ (ends_at 𝓛 f.ended stayed c (y (block_ptr b o)) (slice_val (b, o) n) (record { ref_ptr = (b, o); now = xs }) (tt, (tt, (tt, tt))) (tt, (tt, (tt, tt)))) $ says ! refl $
    nothing ! $ nothing ! $ fjoin ! $ nothing ! $ fjoin ! $ nothing ! $ fjoin ! $ move ! (2 ∷ 0 ∷ 1 ∷ []) $ done !)))
