-- The steps of a clock. Public clauses cite this.
use Rattle.std.specs.Prelude.{ℕ, zero, suc, ◌+◌, ◌-◌, ◌%◌, true, false, if◌then◌else◌}
use Rattle.page_clock.specs.Seen.{ClockSeen}
use Rattle.page_clock.specs.declared.Pick.{Pick}
use Rattle.page_clock.specs.declared.Pick.TheVariants.{Front, Back}

-- the back hand is this far behind the front hand, round the frames
abbrev pub back_place : ClockSeen → ℕ
back_place c = (c.front + c.frames - c.distance) % c.frames

-- the hand whose turn it is, at its frame
abbrev pub next_pick : ClockSeen → Pick
next_pick c = if c.back_next then Back (back_place c) else Front c.front

-- the hands take turns, and the front hand moves on once the back hand had its turn
abbrev pub next_clock : ClockSeen → ClockSeen
next_clock c = if c.back_next then record c { front = (c.front + 1) % c.frames; back_next = false } else record c { back_next = true }

-- the frame of a pick
abbrev pub place_of : Pick → ℕ
place_of (Front frame) = frame
place_of (Back frame) = frame

-- a new clock: the front hand is at frame 0 and moves first
abbrev pub fresh_clock : ℕ → ℕ → ClockSeen
fresh_clock frames distance = record { frames = frames; distance = distance; front = 0; back_next = false }

-- a clock after so many more steps
abbrev pub clock_after : ℕ → ClockSeen → ClockSeen
clock_after zero c = c
clock_after (suc n) c = next_clock (clock_after n c)
