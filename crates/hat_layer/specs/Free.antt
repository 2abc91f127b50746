-- The free places of a pool, and the hand that steals. Inside: no public clause cites this.
use Rattle.std.specs.Prelude.{zero, suc, ◌≡◌, ◌≢◌, ℕ, ◌<◌, ◌≤◌, ◌^◌, ◌∷◌, [], List, Option, Some, None, false, length, slice_index_or, slice_index, slice_set, Contains}
use Rattle.hat_layer.specs.declared.translation.Translation.{Translation}
use Rattle.hat_layer.specs.Pool.{HatSeen, IsSingleValued, holds, dropped_by_load, hand_after}

-- the stack has the empty places, each once; the hand is at a place
pub record IsSoundHat (places : List (Option Translation)) (free : List ℕ) (room hand : ℕ) : Type 0 where
  pub hand_in : hand < length places
  pub few : length places < 2 ^ 32
  pub room_for_all : length places ≤ room
  pub within : (i : ℕ) → i < length free → slice_index free i < length places
  pub empty : (i : ℕ) → i < length free → slice_index_or places (slice_index free i) None ≡ None
  pub all : (k : ℕ) → k < length places → slice_index_or places k None ≡ None → Contains free k
  pub apart : (i j : ℕ) → i < j → j < length free → slice_index free i ≢ slice_index free j

-- which place a load takes, and what stands once it has
pub record TakesPlace (pool : HatSeen) (free' : List ℕ) (room hand' space page place : ℕ) : Type 0 where
  pub within : place < length pool.places
  pub gives : slice_index_or pool.places place None ≡ dropped_by_load pool space page
  pub distinct : IsSingleValued pool.places
  pub alone : (k : ℕ) → k ≢ place → holds space page (slice_index_or pool.places k None) ≡ false
  pub turns : hand' ≡ hand_after pool space page
  pub fits : (new : Translation) → IsSoundHat (slice_set pool.places place (Some new)) free' room hand'

-- n - 1, .., 1, 0
abbrev pub countdown : ℕ → List ℕ
countdown zero = []
countdown (suc n) = n ∷ countdown n
