-- The pages that a core keeps. Inside: no public clause cites this.
use Rattle.std.specs.Prelude.{◌≡◌, ℕ, ◌*◌, ◌<◌, List, Option, MatchOption, map, length}
use Rattle.std.specs.Option.{option_map}
use denote.RawPtr.{Ptr, InBlock, ◌+ₚ◌}
use Rattle.core_arena.specs.Ownership.{VecBytes}
use Rattle.core_arena.specs.Rows.{AreInPlace}
use Rattle.core_arena.specs.declared.region.Stretch.{Stretch}

-- the bytes of the pages
abbrev pub pages_seen : List (Option Stretch) → List (Option (List ℕ))
pages_seen pages = map (option_map (λ (page : Stretch). page.bytes)) pages

-- a core of so many frames at base: each page that is home is whole and lies at its place, and the shell is that of the region
pub record IsSoundCore (base : Ptr) (frames : ℕ) (pages : List (Option Stretch)) (rest : Option VecBytes) : Type 0 where
  pub places : length pages ≡ frames
  pub in_place : AreInPlace base pages
  pub placed : 0 < frames → InBlock base
  pub shell : MatchOption rest (frames ≡ 0) (λ e. (e.at ≡ base) × (e.len ≡ frames * 4096))

-- a frame has a number of its core, and a whole page at its place there
pub record IsSoundFrame (base : Ptr) (frames number : ℕ) (page : Stretch) : Type 0 where
  pub within : number < frames
  pub at : page.at ≡ base +ₚ number * 4096
  pub size : length page.bytes ≡ 4096
  pub placed : InBlock base
