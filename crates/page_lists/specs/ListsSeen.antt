-- The free list and the cache list of so many frames. Public clauses cite this.
use Rattle.std.specs.Prelude.{◌<◌, ◌==◌, ◌⊎◌, ℕ, List, [], ◌∷◌, if◌then◌else◌, Option, Some, None, Contains}

-- frames on each list, first to last
pub record ListsSeen : Type 0 where
  pub frames : ℕ
  pub free : List ℕ
  pub cached : List ℕ

-- a list has no frame twice
abbrev pub IsOnce : List ℕ → Type 0
IsOnce [] = Unit {0}
IsOnce (x ∷ xs) = (¬ Contains xs x) × IsOnce xs

-- a list with a frame taken off
abbrev pub without_frame : List ℕ → ℕ → List ℕ
without_frame [] frame = []
without_frame (x ∷ xs) frame = if x == frame then without_frame xs frame else x ∷ without_frame xs frame

-- the frame that is taken next: the first free one, or with no free frame the first cached one
abbrev pub first_listed : List ℕ → List ℕ → Option ℕ
first_listed [] [] = None
first_listed [] (frame ∷ more) = Some frame
first_listed (frame ∷ more) cached = Some frame

-- a frame is on one of the lists
abbrev pub IsListed : ListsSeen → ℕ → Type 0
IsListed lists frame = Contains lists.free frame ⊎ Contains lists.cached frame

-- no frame is twice on a list or on both, and each is one of the frames
pub record AreApart (lists : ListsSeen) : Type 0 where
  pub once_free : IsOnce lists.free
  pub once_cached : IsOnce lists.cached
  pub one_list : (frame : ℕ) → Contains lists.free frame → ¬ Contains lists.cached frame
  pub below_free : (frame : ℕ) → Contains lists.free frame → frame < lists.frames
  pub below_cached : (frame : ℕ) → Contains lists.cached frame → frame < lists.frames
