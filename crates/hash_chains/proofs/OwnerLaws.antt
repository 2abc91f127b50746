-- The chains by the owners of their places, as places come and go.
use Rattle.std.proofs.Common.{◌≡◌, ℕ, ◌<◌, inl, inr, Bool, true, false, Option, Some, None, List, [], ◌∷◌, refl, sym, ◌∙◌, ap, length, get_or, set, zero, suc}
use Rattle.std.specs.Prelude.{replicate, map, not, ◌||◌, ◌&&◌}
use Rattle.std.proofs.lemmas.List.{get_or-set_same, get_or-set_other, get_or_past}
use Rattle.std.proofs.lemmas.Bool.{cases_eq, cases_lt, eqb-true, eq-eqb, ne_eqb}
use Rattle.hash_chains.specs.Order.{chain_at, is_among, without_place, owner_at, is_owner, HaveOwners}
use Rattle.hash_chains.proofs.LinkLemmas.{at-replicate, in-range, among-without}

pub some-within : {X : Type 0} (cells : List (Option X)) (k : ℕ) (x : X) → get_or cells k None ≡ Some x → k < length cells
some-within cells k x e = elim (cases_lt k (length cells)) [ inl lt ↦ lt | inr ge ↦ (let z : None ≡ Some x = sym (get_or_past cells k None ge) ∙ e in cc) ]

pub nones : {X : Type 0} (f : Option X → Option ℕ) → f None ≡ None → (n : ℕ) → replicate n None ≡ map f (replicate n None)
nones f none zero = refl
nones f none (suc n) = ap (λ (o : Option ℕ). o ∷ replicate n None) (sym none) ∙ ap (λ (l : List (Option ℕ)). f None ∷ l) (nones f none n)

pub owners-none : (chains places : ℕ) → HaveOwners (replicate chains []) (replicate places None)
owners-none chains places c k = ap (is_among k) (at-replicate chains c []) ∙ sym (ap (is_owner c) (at-replicate places k None))

module _ (order : List (List ℕ)) (owners : List (Option ℕ)) (h : HaveOwners order owners) where
  -- the owner of a place on a chain
  pub owner-is : (chain place : ℕ) → is_among place (chain_at order chain) ≡ true → owner_at owners place ≡ Some chain
  owner-is chain place on = go (owner_at owners place) (sym (h chain place) ∙ on)
    where
      go : (o : Option ℕ) → is_owner chain o ≡ true → o ≡ Some chain
      go None e = let z : false ≡ true = e in cc
      go (Some c) e = ap (λ (k : ℕ). Some k) (eqb-true c chain e)

  pub owned-on : (chain place : ℕ) → owner_at owners place ≡ Some chain → is_among place (chain_at order chain) ≡ true
  owned-on chain place is = h chain place ∙ ap (is_owner chain) is ∙ eq-eqb chain chain refl

  pub free-off : (place : ℕ) → owner_at owners place ≡ None → (chain : ℕ) → is_among place (chain_at order chain) ≡ false
  free-off place is chain = h chain place ∙ ap (is_owner chain) is

  pub owners-linked : (place chain : ℕ) → chain < length order → place < length owners → owner_at owners place ≡ None
      → HaveOwners (set order chain (place ∷ chain_at order chain)) (set owners place (Some chain))
  owners-linked place chain in_order within free c k = elim (cases_eq c chain) [
    | inl q ↦ rw q (rw (get_or-set_same order chain (place ∷ chain_at order chain) [] in_order) (elim (cases_eq k place) [
      | inl r ↦ rw r (rw (get_or-set_same owners place (Some chain) None within) (ap (λ (b : Bool). b || is_among k (chain_at order chain)) (eq-eqb place place refl) ∙ sym (eq-eqb chain chain refl)))
      | inr nr ↦ rw (get_or-set_other owners place k (Some chain) None nr) (ap (λ (b : Bool). b || is_among k (chain_at order chain)) (ne_eqb k place nr) ∙ h chain k)
    ]))
    | inr ne ↦ rw (get_or-set_other order chain c (place ∷ chain_at order chain) [] ne) (elim (cases_eq k place) [
      | inl r ↦ rw r (rw (get_or-set_same owners place (Some chain) None within) (free-off place free c ∙ sym (ne_eqb chain c (λ q. ne (sym q)))))
      | inr nr ↦ rw (get_or-set_other owners place k (Some chain) None nr) (h c k)
    ])
  ]

  pub owners-unlinked : (place chain : ℕ) → place < length owners → owner_at owners place ≡ Some chain
      → HaveOwners (set order chain (without_place place (chain_at order chain))) (set owners place None)
  owners-unlinked place chain within is c k = elim (cases_eq c chain) [
    | inl q ↦ rw q (rw (get_or-set_same order chain (without_place place (chain_at order chain)) [] (in-range order chain place (owned-on chain place is)))
        (rw (among-without k place (chain_at order chain)) (elim (cases_eq k place) [
          | inl r ↦ rw r (rw (get_or-set_same owners place None None within) (ap (λ (b : Bool). not b && is_among place (chain_at order chain)) (eq-eqb place place refl)))
          | inr nr ↦ rw (get_or-set_other owners place k None None nr) (ap (λ (b : Bool). not b && is_among k (chain_at order chain)) (ne_eqb k place nr) ∙ h chain k)
        ])))
    | inr ne ↦ rw (get_or-set_other order chain c (without_place place (chain_at order chain)) [] ne) (elim (cases_eq k place) [
      | inl r ↦ rw r (rw (get_or-set_same owners place None None within) (h c place ∙ ap (is_owner c) is ∙ ne_eqb chain c (λ q. ne (sym q))))
      | inr nr ↦ rw (get_or-set_other owners place k None None nr) (h c k)
    ])
  ]
