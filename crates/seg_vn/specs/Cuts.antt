-- A segment that is to be cut, or to go. Public clauses cite this.
use Rattle.std.specs.Prelude.{◌≡◌, ◌<◌, ◌-◌, ◌^◌, ℕ, List, Option, Some, length}
use Rattle.std.specs.FinMap as finite
use Rattle.seg_ops.specs.addr_space.Space.{Part, part_at, begins, cut_at, with_new_piece}
use Rattle.seg_ops.specs.anon_map.Maps.{Map, IsMapThere, places_of, holders_of}
use Rattle.seg_ops.specs.vm_world.MemoryFits.{MemoryFits}
use Rattle.seg_ops.specs.vm_world.SegmentSteps.{ChangesSegments, upper_pages}
use Rattle.seg_ops.specs.vm_world.Segments.{Spaces}
use Rattle.seg_ops.specs.vm_world.SpaceSteps.{first_pages}
use Rattle.seg_ops.specs.vm_world.World.{World}
use Rattle.seg_ops.specs.vm_world.declared.segment.Segment.{Segment}

-- The segment is the part of a process that has a page, where memory fits; the part begins so many pages before it.
pub record IsCutPart (w : World) (spaces : Spaces) (p page before : ℕ) (s : Segment) : Type 0 where
  pub parts : List (Part Segment)
  pub part : Part Segment
  pub memory : MemoryFits (record { world = w; spaces = spaces })
  pub here : finite.get spaces p ≡ Some parts
  pub found : part_at parts page ≡ Some part
  pub lies : part.first < page
  pub place : before ≡ page - part.first
  pub piece : part.piece ≡ s

-- The segment is the part of a process that begins with a page, where memory fits.
pub record IsPartAt (w : World) (spaces : Spaces) (p first : ℕ) (s : Segment) : Type 0 where
  pub parts : List (Part Segment)
  pub part : Part Segment
  pub memory : MemoryFits (record { world = w; spaces = spaces })
  pub here : finite.get spaces p ≡ Some parts
  pub starts : begins parts first ≡ Some part
  pub piece : part.piece ≡ s

-- What a cut of a segment needs of the maps: its own one, if it has one, is there, with a place for each of its pages and one holder; and that of the zero
-- object that it shows is there, and a holder more can be counted.
pub record MayBeCut (maps : List (Option Map)) (s : Segment) : Type 0 where
  pub own : (number : ℕ) → s.own ≡ Some number → IsMapThere maps number × (length (places_of maps number) ≡ s.pages) × (holders_of maps number ≡ 1)
  pub shown : (number : ℕ) → s.shown ≡ Some number → IsMapThere maps number × (holders_of maps number < 2 ^ 32 - 1)

-- A segment is cut in two: one has its first pages, and the other those after them, with the later places of its own map. Wherever it is the part of a
-- process, memory fits with the two in its place, and flat memory is as it was.
pub record IsCutInTwo (old new : World) (s one other : Segment) (at : ℕ) : Type 0 where
  pub first : one ≡ first_pages at s
  pub later : (number : ℕ) × (other ≡ upper_pages at number s)
  pub changes : (spaces : Spaces) (p page : ℕ) (c : IsCutPart old spaces p page at s)
      → ChangesSegments p (record { world = old; spaces = spaces })
      (record { world = new; spaces = finite.insert spaces p (cut_at page other (with_new_piece page one c.parts)) }) (λ F. F)
