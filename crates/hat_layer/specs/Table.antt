-- The pool with its two indexes. Inside: no public clause cites this.
use Rattle.std.specs.Prelude.{◌≡◌, ◌≢◌, ℕ, ◌<◌, true, false, List, Option, Some, None, map, length, slice_index_or}
use Rattle.hat_layer.specs.declared.translation.Translation.{Translation}
use Rattle.hash_chains.specs.Order.{ChainsSeen, HaveOwners}
use Rattle.hash_chains.specs.Slots.{pair_slot}
use Rattle.hat_layer.specs.Pool.{holds, is_of, frame_of, IsSingleValued}

-- the places, and the number of frames
pub record Rows : Type 0 where
  pub places : List (Option Translation)
  pub frames : ℕ

-- the slot of the page whose translation a place holds; none where the place is empty
abbrev pub slot_at : ℕ → Option Translation → Option ℕ
slot_at slots None = None
slot_at slots (Some t) = Some (pair_slot slots t.space t.page)

-- a place that leads to the frame, and its translation
abbrev pub LeadsToFrame : List (Option Translation) → ℕ → Option (ℕ × Translation) → Type 0
LeadsToFrame places frame None = (k : ℕ) → frame_of (slice_index_or places k None) ≢ Some frame
LeadsToFrame places frame (Some r) = (slice_index_or places r.0 None ≡ Some r.1) × (r.1.frame ≡ frame)

-- the one place that holds the page's translation
abbrev pub FindsPlace : List (Option Translation) → ℕ → ℕ → Option ℕ → Type 0
FindsPlace places space page None = (k : ℕ) → holds space page (slice_index_or places k None) ≡ false
FindsPlace places space page (Some place) = (holds space page (slice_index_or places place None) ≡ true)
    × ((k : ℕ) → holds space page (slice_index_or places k None) ≡ true → k ≡ place)

-- the page's translation, and its place
abbrev pub FindsHeld : List (Option Translation) → ℕ → ℕ → Option (ℕ × Translation) → Type 0
FindsHeld places space page None = (k : ℕ) → holds space page (slice_index_or places k None) ≡ false
FindsHeld places space page (Some r) = (slice_index_or places r.0 None ≡ Some r.1) × (is_of space page r.1 ≡ true)
    × ((k : ℕ) → holds space page (slice_index_or places k None) ≡ true → k ≡ r.0)

-- two translations of one page to one frame
pub record SameName (old new : Translation) : Type 0 where
  pub space : new.space ≡ old.space
  pub page : new.page ≡ old.page
  pub frame : new.frame ≡ old.frame

-- the indexes fit the places: a chain for each slot, one for each frame
pub record IsSoundTable (places : List (Option Translation)) (slots : ℕ) (by_page by_frame : ChainsSeen) : Type 0 where
  pub some : 0 < slots
  pub slots_are : length by_page.order ≡ slots
  pub page_size : by_page.size ≡ length places
  pub frame_size : by_frame.size ≡ length places
  pub pages : HaveOwners by_page.order (map (slot_at slots) places)
  pub frames : HaveOwners by_frame.order (map frame_of places)
  pub distinct : IsSingleValued places
