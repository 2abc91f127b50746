-- What may be done at most at the pages of a range. Inside: no public clause cites this.
use Rattle.std.specs.Prelude.{◌≡◌, ◌<◌, ◌≤◌, ℕ, true, Bool, IsSome, List, Option, Some, None, option_map}
use Rattle.seg_vn.specs.vm_types.declared.prot.Prot.{Prot}
use Rattle.seg_vn.specs.vm_types.Prot.{is_within}
use Rattle.seg_vn.specs.addr_space.Space.{Part, piece_at}
use Rattle.seg_vn.specs.vm_world.declared.segment.Segment.{Segment}

-- The most that may be done at a page; none where it isn't mapped.
abbrev pub most_at : List (Part Segment) → ℕ → Option Prot
most_at parts page = option_map (λ x. x.0.max) (piece_at parts page)

-- Whether a protection lies within the most, where there is one.
abbrev pub lets : Prot → Option Prot → Bool
lets prot None = true
lets prot (Some most) = is_within prot most

-- Each page of the range is mapped.
abbrev pub AreMapped : List (Part Segment) → ℕ → ℕ → Type 0
AreMapped parts first end = (page : ℕ) → first ≤ page → page < end → IsSome (most_at parts page)

-- Each page of the range may have the protection, where it is mapped.
abbrev pub MayHave : List (Part Segment) → ℕ → ℕ → Prot → Type 0
MayHave parts first end prot = (page : ℕ) → first ≤ page → page < end → lets prot (most_at parts page) ≡ true
