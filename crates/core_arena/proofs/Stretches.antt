-- Stretches are cut in two, and joined. Assumes `Logic`.
use Rattle.core_arena.proofs.Walks.{Ura, Logic, sem, RattleType, bytes, bytes_cut, bytes_glue, ◌≡◌, ℕ, ◌+◌, ◌≤◌}
use Rattle.core_arena.proofs.Walks.{List, [], ◌∷◌, ◌++◌, length, take, drop_l, refl, sym, ap, ◌∙◌, ◌+ₚ◌}
use Rattle.core_arena.proofs.Walks.{full_share, ent, sep, never, id⊢, Val, in_a_block, ‵, ◌⊛◌, ◌$◌, ◌∵◌, !, qed}
use Rattle.core_arena.proofs.Walks.{move, drop, use1, use2, split, fsplit, fjoin, rewrite, done, none, two}
use Rattle.core_arena.proofs.Walks.{none_made, two_made, stretch_owns, Stretch}
use Rattle.std.proofs.Common.{take-append-drop, length-take-le}
use denote.Struct.Tuple.{Tuple}

abbrev S : RattleType
S = Stretch

abbrev pub Pair : RattleType
Pair = Tuple (S ∷ S ∷ [])

-- a stretch is stored as nothing
abbrev pub bare : S.Denot → List Val
bare s = none ∷ []

module _ {M : Type 1} {𝓤 : Ura M} (𝓛 : Logic 𝓤) where
  pub parted : (s : S.Denot) (n : ℕ) → n ≤ length s.bytes
      → ent 𝓤 (sem 𝓛 (S.own_val s (bare s))) (sem 𝓛 (Pair.own_val (record { at = s.at; bytes = take n s.bytes }, record { at = s.at +ₚ n; bytes = drop_l n s.bytes }) (two none none ∷ [])))
  parted s n within =
      let front : S.Denot = record { at = s.at; bytes = take n s.bytes } in
      let back : S.Denot = record { at = s.at +ₚ n; bytes = drop_l n s.bytes } in
      qed 𝓛 (‵ (S.own_val s (bare s)) ∷ []) ∵ fsplit ! $ drop ! $ in_a_block ! s.at (λ p. stretch_owns p s.bytes) (id⊢ 𝓤 (never 𝓤)) (λ b o e.
      rewrite ! 0 (λ (l : List ℕ). ‵ (bytes full_share l b o)) (sym (take-append-drop n s.bytes)) refl $
      use1 𝓛 (‵ (bytes full_share (take n s.bytes) b o) ⊛ ‵ (bytes full_share (drop_l n s.bytes) b (o + length (take n s.bytes))))
      (bytes_cut 𝓛 full_share (take n s.bytes) (drop_l n s.bytes) b o) $ split ! $
      rewrite ! 1 (λ (k : ℕ). ‵ (bytes full_share (drop_l n s.bytes) b (o + k))) (length-take-le n s.bytes within) refl $
      rewrite ! 0 (λ p. ‵ (stretch_owns p (take n s.bytes))) (sym e) refl $
      rewrite ! 1 (λ p. ‵ (stretch_owns (p +ₚ n) (drop_l n s.bytes))) (sym e) refl $
      none_made ! $ fjoin ! $ move ! (1 ∷ []) $ none_made ! $ fjoin ! $ move ! (1 ∷ 0 ∷ []) $ two_made ! S S front back none none $ done !)

  pub joined : (s t : S.Denot) → t.at ≡ s.at +ₚ length s.bytes
      → ent 𝓤 (sep 𝓤 (sem 𝓛 (S.own_val s (bare s))) (sem 𝓛 (S.own_val t (bare t)))) (sem 𝓛 (S.own_val (record { at = s.at; bytes = s.bytes ++ t.bytes }) (none ∷ [])))
  joined s t behind =
      qed 𝓛 (‵ (S.own_val s (bare s)) ∷ ‵ (S.own_val t (bare t)) ∷ []) ∵ fsplit ! $ drop ! $ move ! (1 ∷ []) $ fsplit ! $ drop ! $
      move ! (1 ∷ []) $ in_a_block ! s.at (λ p. stretch_owns p s.bytes) (id⊢ 𝓤 (never 𝓤)) (λ b o e.
      rewrite ! 1 (λ p. ‵ (stretch_owns p t.bytes)) (behind ∙ ap (λ p. p +ₚ length s.bytes) e) refl $
      use2 𝓛 (‵ (bytes full_share (s.bytes ++ t.bytes) b o)) (bytes_glue 𝓛 full_share s.bytes t.bytes b o) $
      rewrite ! 0 (λ p. ‵ (stretch_owns p (s.bytes ++ t.bytes))) (sym e) refl $ none_made ! $ fjoin ! $ done !)
