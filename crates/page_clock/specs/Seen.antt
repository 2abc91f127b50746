-- What callers see of a clock. Public clauses cite `ClockSeen`.
use Rattle.std.specs.Prelude.{ℕ, ◌<◌, ◌≤◌, Bool}

-- so many frames, the distance of the hands, the front hand's place, and whether the back hand is next
pub record ClockSeen : Type 0 where
  pub frames : ℕ
  pub distance : ℕ
  pub front : ℕ
  pub back_next : Bool

-- the hands are apart, and the front hand is at a frame
pub record IsSoundClock (frames distance front : ℕ) : Type 0 where
  pub apart : 1 ≤ distance
  pub round : distance < frames
  pub at : front < frames
