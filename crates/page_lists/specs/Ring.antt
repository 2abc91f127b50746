-- A queue of frames as a ring of links: each frame's next and previous one, and the ends. Inside: no public clause cites this.
use Rattle.std.specs.Prelude.{◌≡◌, ℕ, ◌<◌, ◌↔◌, Bool, true, false, zero, suc, List, [], ◌∷◌, Option, Some, None, slice_index_or, length, Contains}
use Rattle.page_lists.specs.ListsSeen.{IsOnce}

-- what a queue is seen as: for so many frames, those on it, first to last
pub record QueueSeen : Type 0 where
  pub frames : ℕ
  pub order : List ℕ

-- one step along the links: from None, which stands before the first and behind the last, to the end of the queue
abbrev pub follow : Option ℕ → List (Option ℕ) → Option ℕ → Option ℕ
follow end links None = end
follow end links (Some frame) = slice_index_or links frame None

-- the frames that the links lead to from a frame on, at most so many
abbrev pub walk : List (Option ℕ) → ℕ → Option ℕ → List ℕ
walk next zero at = []
walk next (suc n) None = []
walk next (suc n) (Some frame) = frame ∷ walk next n (slice_index_or next frame None)

-- the queue that begins at a frame, over as many frames as there are links
abbrev pub queue_of : Option ℕ → List (Option ℕ) → QueueSeen
queue_of first next = record { frames = length next; order = walk next (length next) first }

-- from a place on, the steps forth lead along a list to the end, and the steps back return
abbrev pub Chain : (Option ℕ → Option ℕ) → (Option ℕ → Option ℕ) → Option ℕ → List ℕ → Type 0
Chain forth back from [] = (forth from ≡ None) × (back None ≡ from)
Chain forth back from (x ∷ xs) = (forth from ≡ Some x) × (back (Some x) ≡ from) × Chain forth back (Some x) xs

-- the links and marks say that the queue is this list
pub record IsSoundQueue (first last : Option ℕ) (next previous : List (Option ℕ)) (listed : List Bool) (order : List ℕ) : Type 0 where
  pub previous_length : length previous ≡ length next
  pub listed_length : length listed ≡ length next
  pub chain : Chain (follow first next) (follow last previous) None order
  pub once : IsOnce order
  pub below : (frame : ℕ) → Contains order frame → frame < length next
  pub marked : (frame : ℕ) → (slice_index_or listed frame false ≡ true) ↔ Contains order frame

-- no frame twice, and each one of the frames
pub record IsQueue (queue : QueueSeen) : Type 0 where
  pub once : IsOnce queue.order
  pub below : (frame : ℕ) → Contains queue.order frame → frame < queue.frames
