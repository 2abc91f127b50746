-- What callers see of a core and of its frames. Public clauses cite this.
use Rattle.std.specs.Prelude.{ℕ, List, Option}

-- a core: where its frames come from, and the bytes of each frame by number, None where it is away
pub record CoreSeen : Type 0 where
  pub origin : ℕ
  pub frames : List (Option (List ℕ))

-- a frame that is away: the core that it comes from, its number there, and its bytes
pub record FrameSeen : Type 0 where
  pub origin : ℕ
  pub number : ℕ
  pub bytes : List ℕ
