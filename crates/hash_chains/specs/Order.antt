-- What a contract sees of chains: the places of each, in order. Public clauses cite this.
use Rattle.std.specs.Prelude.{◌≡◌, ℕ, ◌==◌, not, [], ◌∷◌, Bool, true, false, if◌then◌else◌, List, Option, Some, None, slice_index_or}
use Rattle.std.specs.List.{list_any, filter, IsDistinct}

-- the places of each chain, from the first on, and how many places there are
pub record ChainsSeen : Type 0 where
  pub order : List (List ℕ)
  pub size : ℕ

-- the places of a chain; none past the last chain
abbrev pub chain_at : List (List ℕ) → ℕ → List ℕ
chain_at order chain = slice_index_or order chain []

-- the place is one of these places
abbrev pub is_among : ℕ → List ℕ → Bool
is_among place places = list_any (λ p. place == p) places

-- a place is on one chain at most, and once
pub record AreSeparate (order : List (List ℕ)) : Type 0 where
  pub once : (chain : ℕ) → IsDistinct (λ (p q : ℕ). p == q) (chain_at order chain)
  pub one : (chain other place : ℕ) → is_among place (chain_at order chain) ≡ true → is_among place (chain_at order other) ≡ true → chain ≡ other

-- the first of these places, if there is one
abbrev pub first_in : List ℕ → Option ℕ
first_in [] = None
first_in (p ∷ ps) = Some p

-- the place behind another
abbrev pub after_in : ℕ → List ℕ → Option ℕ
after_in place [] = None
after_in place (p ∷ ps) = if p == place then first_in ps else after_in place ps

-- the places without this one, in the same order
abbrev pub without_place : ℕ → List ℕ → List ℕ
without_place place places = filter (λ p. not (p == place)) places

-- the places from this one on
abbrev pub rest_from : Option ℕ → List ℕ → List ℕ
rest_from None places = []
rest_from (Some place) [] = []
rest_from (Some place) (p ∷ ps) = if p == place then p ∷ ps else rest_from (Some place) ps

-- the chain that a place is on, by place
abbrev pub owner_at : List (Option ℕ) → ℕ → Option ℕ
owner_at owners place = slice_index_or owners place None

-- the chain is the one that a place is on; no chain is where the place is on none
abbrev pub is_owner : ℕ → Option ℕ → Bool
is_owner chain None = false
is_owner chain (Some c) = c == chain

-- each chain has exactly the places that it owns
abbrev pub HaveOwners : List (List ℕ) → List (Option ℕ) → Type 0
HaveOwners order owners = (chain place : ℕ) → is_among place (chain_at order chain) ≡ is_owner chain (owner_at owners place)
