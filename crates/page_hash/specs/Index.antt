-- How the names are found: chains of frames, one for each slot of a name's hash. Inside: no public clause cites this.
use Rattle.std.specs.Prelude.{◌≡◌, ◌≢◌, ℕ, ◌<◌, map, List, Option, Some, None, length}
use Rattle.hash_chains.specs.Order.{ChainsSeen, HaveOwners}
use Rattle.hash_chains.specs.Slots.{pair_slot}
use Rattle.page_hash.specs.declared.PageName.{PageName}
use Rattle.page_hash.specs.Names.{name_at, AreDistinct}

-- the slot of the name that a frame holds; none where it holds no name
abbrev pub slot_of : ℕ → Option PageName → Option ℕ
slot_of slots None = None
slot_of slots (Some name) = Some (pair_slot slots name.object name.page)

-- each frame with a name is on the chain of the name's slot
pub record IsSoundPageHash (names : List (Option PageName)) (slots : ℕ) (chains : ChainsSeen) : Type 0 where
  pub some : 0 < slots
  pub slots_are : length chains.order ≡ slots
  pub size : chains.size ≡ length names
  pub owners : HaveOwners chains.order (map (slot_of slots) names)
  pub distinct : AreDistinct names

-- the frame that holds a name, or none where none does
abbrev pub Finds : List (Option PageName) → PageName → Option ℕ → Type 0
Finds names name None = (k : ℕ) → name_at names k ≢ Some name
Finds names name (Some frame) = name_at names frame ≡ Some name
