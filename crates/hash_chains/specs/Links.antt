-- How the chains are kept: a head for each, and after each place the next of its chain. Inside: no public clause cites this.
use Rattle.std.specs.Prelude.{zero, suc, ◌≡◌, ℕ, ◌<◌, ◌==◌, [], ◌∷◌, if◌then◌else◌, map, List, Option, Some, None, slice_index_or, slice_set, length}
use Rattle.hash_chains.specs.Order.{chain_at, AreSeparate}

-- the places that the links lead over from here, as far as there are that many
abbrev pub places_from : List (Option ℕ) → ℕ → Option ℕ → List ℕ
places_from next n None = []
places_from next zero (Some p) = []
places_from next (suc n) (Some p) = p ∷ places_from next n (slice_index_or next p None)

-- the places of each chain: those that the links lead over from its head
abbrev pub order_of : List (Option ℕ) → List (Option ℕ) → List (List ℕ)
order_of heads next = map (λ head. places_from next (length next) head) heads

-- from a link on, the links lead over exactly these places
abbrev pub LeadsOver : List (Option ℕ) → Option ℕ → List ℕ → Type 0
LeadsOver next from [] = from ≡ None
LeadsOver next from (p ∷ ps) = (from ≡ Some p) × (p < length next) × LeadsOver next (slice_index_or next p None) ps

-- the links lead over these chains
pub record AreSoundChains (heads next : List (Option ℕ)) (order : List (List ℕ)) : Type 0 where
  pub lengths : length order ≡ length heads
  pub leads : (chain : ℕ) → LeadsOver next (slice_index_or heads chain None) (chain_at order chain)
  pub apart : AreSeparate order

-- the place before another, or what stands before all of them
abbrev pub before_in : Option ℕ → ℕ → List ℕ → Option ℕ
before_in before place [] = None
before_in before place (p ∷ ps) = if p == place then before else before_in (Some p) place ps

-- the heads, that of a chain led elsewhere where no place stands before; else as they were
abbrev pub heads_led : Option ℕ → List (Option ℕ) → ℕ → Option ℕ → List (Option ℕ)
heads_led None heads chain to = slice_set heads chain to
heads_led (Some p) heads chain to = heads

-- the link that a walk begins at, led elsewhere where no place stands before; else as it was
abbrev pub start_led : Option ℕ → Option ℕ → Option ℕ → Option ℕ
start_led None from to = to
start_led (Some p) from to = from

-- the links, that after the place that stands before led elsewhere; with none before as they were
abbrev pub next_led : Option ℕ → List (Option ℕ) → Option ℕ → List (Option ℕ)
next_led None next to = next
next_led (Some p) next to = slice_set next p to
