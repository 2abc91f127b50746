-- A `Vec` of bytes is its elements and the way back. Assumes `Logic`.
use Rattle.core_arena.proofs.Walks.{◌≡◌, ℕ, ◌<◌, ◌+◌, List, [], ◌∷◌, length, refl, sym, arith, full_share, ent}
use Rattle.core_arena.proofs.Walks.{sep, never, id⊢, fsep, ‵, ◌$◌, ◌∵◌, !, qed, use1, drop, move, frame, fsplit}
use Rattle.core_arena.proofs.Walks.{fjoin, feq_l, feq_i, rewrite, done, Val, u8, Ptr, block_ptr, in_a_block}
use Rattle.core_arena.proofs.Walks.{plainly, one, one_made, RattleType, Ghosts, Ura, Logic, sem, Vec, cells}
use Rattle.core_arena.proofs.Walks.{mem, bytes, with_items_is, feq, fall, fwand, emp, each, assume, show, Array}
use Rattle.core_arena.proofs.Walks.{part_at, null_ptr, lies_at, in_block, bytes_apart, bytes_whole, with_items}
use Rattle.core_arena.proofs.Walks.{vec_owns_bytes, stretch_owns}
use Rattle.std.proofs.Common.{true}
use Rattle.std.proofs.lemmas.Bool.{ne_eqb, not_from_false}
use base.Logic.{wand, mono_r}
use Rattle.std.specs.Allocator.{block_with_items}
use Rattle.std_alloc.specs.Vec.Ownership.{owns_if, has_block}
use Rattle.std_alloc.specs.contracts.vec.Vec as V
use Rattle.core_arena.specs.contracts.region.Shell as Shell

module _ (P : RattleType) (g : Ghosts P.Denot) {M : Type 1} {𝓤 : Ura M} (𝓛 : Logic 𝓤) (v : Vec ℕ P.Denot) (u : Val) where
  pub carve : 0 < v.len → ent 𝓤 (sem 𝓛 ((V.the_row u8 P g).own_val v (u ∷ [])))
      (sep 𝓤 (sem 𝓛 (vec_owns_bytes v.ptr v.items)) (sem 𝓛 (Shell.the_own P g (record { at = v.ptr; len = v.len }) (one u ∷ []))))
  carve some =
      let live : has_block v.cap ≡ true = not_from_false _ (ne_eqb v.cap 0 (λ e. omega (arith, v.ok.1))) in
      let t = g.dealloc_token v.alloc in
      let Blk = λ (p : Ptr) (xs : List ℕ). block_with_items t u8 p v.len v.cap xs in
      let Given = λ (ys : List ℕ). fsep (feq ℕ (length ys) v.len) (vec_owns_bytes v.ptr ys) in
      let Whole = λ (ys : List ℕ). (plainly (V.the_row u8 P g ∷ [])).own_val (with_items v ys, tt) (one u ∷ []) in
      qed 𝓛 (‵ ((V.the_row u8 P g).own_val v (u ∷ [])) ∷ []) ∵ fsplit ! $ move ! (1 ∷ []) $ fsplit ! $ move ! (1 ∷ []) $
      in_a_block ! v.ptr (λ p. in_block p (owns_if (has_block v.cap) (Blk p v.items))) (id⊢ 𝓤 (never 𝓤)) (λ b o at.
      rewrite ! 0 (λ y. ‵ (owns_if y (Blk (block_ptr b o) v.items))) live refl $ rewrite ! 0 (λ p. ‵ (Blk p v.items)) (sym at) refl $ fsplit ! $
      rewrite ! 0 (λ n. ‵ (lies_at (Array u8 n) full_share v.ptr v.items)) v.ok.0 refl $ frame ! $
      -- [the spare room and the right to free; the bound; the fields]
      show ! (λ i. sem 𝓛 (fsep (feq ℕ i.vec.len v.len) (fall (List ℕ)
      (λ ys. fwand (Given ys) ((plainly (V.the_row u8 P g ∷ [])).own_val (with_items i.vec ys, tt) (one u ∷ [])))))) (record { vec = v }) $
      feq_i ! ℕ v.len v.len refl $ frame ! $ each ! (λ ys. wand 𝓤 (sem 𝓛 (Given ys)) (sem 𝓛 (Whole ys))) (λ ys. assume ! (‵ (Given ys)) $ fsplit ! $ feq_l ! (λ long.
      rewrite ! 0 (λ n. ‵ (lies_at (Array u8 n) full_share v.ptr ys)) long refl $ fjoin ! $
      rewrite ! 0 (λ xs. ‵ (Blk v.ptr xs)) (sym (with_items_is v ys long)) refl $
      let zs = (with_items v ys).items in
      rewrite ! 0 (λ p. ‵ (Blk p zs)) at refl $ rewrite ! 0 (λ y. ‵ (owns_if y (Blk (block_ptr b o) zs))) (sym live) refl $
      rewrite ! 0 (λ p. ‵ (in_block p (owns_if (has_block v.cap) (Blk p zs)))) (sym at) refl $
      move ! (1 ∷ 0 ∷ []) $ fjoin ! $ move ! (1 ∷ 0 ∷ []) $ fjoin ! $ one_made ! (V.the_row u8 P g) (with_items v ys) u $ done !)))

module _ {M : Type 1} {𝓤 : Ura M} (𝓛 : Logic 𝓤) where
  -- a vector's bytes are bytes one by one, and back
  pub one_by_one : (p : Ptr) (xs : List ℕ) → ent 𝓤 (sem 𝓛 (vec_owns_bytes p xs)) (sem 𝓛 (stretch_owns p xs))
  one_by_one null_ptr xs = id⊢ 𝓤 _
  one_by_one (block_ptr b o) xs =
      qed 𝓛 (‵ (vec_owns_bytes (block_ptr b o) xs) ∷ []) ∵
      use1 𝓛 (‵ (fsep (feq ℕ (length xs) (length xs)) (bytes full_share xs b o))) (bytes_apart 𝓛 full_share (length xs) xs b o) $
      fsplit ! $ drop ! $ done !

  pub together : (p : Ptr) (xs : List ℕ) → ent 𝓤 (sem 𝓛 (stretch_owns p xs)) (sem 𝓛 (vec_owns_bytes p xs))
  together null_ptr xs = id⊢ 𝓤 _
  together (block_ptr b o) xs =
      qed 𝓛 (‵ (bytes full_share xs b o) ∷ []) ∵ feq_i ! ℕ (length xs) (length xs) refl $ fjoin ! $
      use1 𝓛 (‵ (vec_owns_bytes (block_ptr b o) xs)) (bytes_whole 𝓛 full_share (length xs) xs b o) $ done !

  pub to_cells : (xs : List ℕ) (b o : ℕ) → ent 𝓤 (sem 𝓛 (bytes full_share xs b o)) (sem 𝓛 (cells (mem u8) xs b o))
  to_cells [] b o = id⊢ 𝓤 (emp 𝓤)
  to_cells (x ∷ xs) b o = mono_r 𝓤 (sem 𝓛 (part_at u8 full_share x b o)) (to_cells xs b (o + 1))

  pub of_cells : (xs : List ℕ) (b o : ℕ) → ent 𝓤 (sem 𝓛 (cells (mem u8) xs b o)) (sem 𝓛 (bytes full_share xs b o))
  of_cells [] b o = id⊢ 𝓤 (emp 𝓤)
  of_cells (x ∷ xs) b o = mono_r 𝓤 (sem 𝓛 (part_at u8 full_share x b o)) (of_cells xs b (o + 1))
