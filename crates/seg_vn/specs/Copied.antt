-- Segments that are copied for another process. Public clauses cite this.
use Rattle.std.specs.Prelude.{◌≡◌, ◌≢◌, ◌<◌, ◌≤◌, ◌+◌, ℕ, false, List, Option, Some, None, slice_index_or}
use Rattle.std.specs.FinMap as finite
use Rattle.seg_ops.specs.addr_space.Space.{Part, part, part_at, with_new_part}
use Rattle.seg_ops.specs.anon_map.Maps.{Map, IsMapThere, holders_of, places_of}
use Rattle.seg_ops.specs.hat_layer.declared.translation.Translation.{Translation}
use Rattle.seg_ops.specs.vm_world.ForkSteps.{copied_piece, with_cells_copied}
use Rattle.seg_ops.specs.vm_world.Segments.{Spaces, Spot, spot_at}
use Rattle.seg_ops.specs.vm_world.World.{World, slot_in}
use Rattle.seg_ops.specs.vm_world.ZeroObjects.{KnowsZeros}
use Rattle.seg_ops.specs.vm_world.declared.segment.Segment.{Segment}
use Rattle.seg_ops.specs.Writers.{HasNoWriter}
use Rattle.seg_vn.specs.Clears.{ChangesSpace}
use Rattle.seg_vn.specs.Cuts.{IsPartAt}

-- No translation that may write stands for a page of this own map.
abbrev pub HasNoWriters : List (Option Translation) → Spaces → Option ℕ → Type 0
HasNoWriters places spaces own =
    (place : ℕ) (t : Translation) (y : Spot) (map : ℕ) → slice_index_or places place None ≡ Some t → spot_at spaces t.space t.page ≡ Some y → own ≡ Some map → y.0.own ≡ Some map → t.writable ≡ false

-- Of so many pages from the first, none whose place holds a slot has a translation that may write.
abbrev pub AreProtected : List (Option Translation) → List (Option Map) → ℕ → ℕ → ℕ → ℕ → Type 0
AreProtected places maps map space first n = (i slot : ℕ) → i < n → slot_in maps map i ≡ Some slot → HasNoWriter places space (first + i)

-- The other process has no cell where the segment's pages are: the copy may come there.
pub record MayComeAt (spaces : Spaces) (p child first n : ℕ) : Type 0 where
  pub kids : List (Part Segment)
  pub apart : p ≢ child
  pub here : finite.get spaces child ≡ Some kids
  pub free : (q : ℕ) → first ≤ q → q < first + n → part_at kids q ≡ None

-- A segment is copied for another process: it shows what the segment does, with a map of its own where that has one. Wherever the segment is the part of a
-- process, memory fits with the copy at its pages in another process's space, and in flat memory that process has the cells which the segment's has there.
pub record IsCopied (old new : World) (space first : ℕ) (s copy : Segment) : Type 0 where
  pub number : ℕ
  pub is : copy ≡ copied_piece number s
  pub changes : (spaces : Spaces) (child : ℕ) → IsPartAt old spaces space first s → (k : MayComeAt spaces space child first s.pages) → (zeros : List (Option ℕ)) → KnowsZeros zeros spaces
      → ChangesSpace child (record { world = old; spaces = spaces }) (record { world = new; spaces = finite.insert spaces child (with_new_part (part first s.pages copy) k.kids) }) zeros
      (λ F. with_cells_copied F space child first s.pages)

-- Each map that was there is there with the places that it had, and at most one holder more.
pub record KeepsPlaces (old new : List (Option Map)) (n : ℕ) : Type 0 where
  pub there : IsMapThere new n
  pub places : places_of new n ≡ places_of old n
  pub holders : holders_of new n ≤ holders_of old n + 1
