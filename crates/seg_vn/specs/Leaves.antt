-- Segments that are emptied before they go. Inside: no public clause cites this.
use Rattle.std.specs.Prelude.{◌≡◌, ◌≢◌, ℕ, List, Option, Some, None, slice_set}
use Rattle.std.specs.FinSet as set
use Rattle.std.specs.Ordering.{nat_cmp}
use Rattle.seg_ops.specs.vm_types.declared.call.Object.TheVariants as object
use Rattle.seg_ops.specs.anon_map.Maps.{Map, holders_of}
use Rattle.seg_ops.specs.page_store.Notes.{Notes}
use Rattle.seg_ops.specs.flat_model.Flat.{Flat}
use Rattle.seg_ops.specs.flat_model.Mapping.{without_pages}
use Rattle.seg_ops.specs.vm_world.FlatMemory.{Memory, flat_memory}
use Rattle.seg_ops.specs.vm_world.SegmentSteps.{ChangesSegments}
use Rattle.seg_ops.specs.vm_world.Segments.{Spaces}
use Rattle.seg_ops.specs.vm_world.SpaceSteps.{AreUnloaded}
use Rattle.seg_ops.specs.vm_world.Words.{memory}
use Rattle.seg_ops.specs.vm_world.World.{World, world_seen}
use Rattle.seg_ops.specs.vm_world.declared.world.World as rust
use Rattle.seg_ops.specs.vm_world.declared.segment.Segment.{Segment}
use Rattle.seg_vn.specs.Cuts.{IsPartAt}

-- The segment is the part of a process that begins with a page, and none of its pages has a translation.
pub record IsUnloadedPart (w : World) (spaces : Spaces) (p first : ℕ) (s : Segment) : Type 0 where
  pub part : IsPartAt w spaces p first s
  pub unloaded : AreUnloaded w.hat.places p first s.pages

-- Flat memory changes in what goes with the cells of these pages alone.
pub record LosesWithPages (p first n : ℕ) (old new : Memory) : Type 0 where
  pub f : Flat → Flat
  pub changes : ChangesSegments p old new f
  pub goes : (born : set.FinSet nat_cmp) (notes : Notes) → without_pages (f (flat_memory old born notes)) p first n ≡ without_pages (flat_memory old born notes) p first n

-- Whatever the spaces in which the segment is a part without translations, flat memory changes in
-- what goes with its cells alone.
abbrev pub LosesPart : {D : Type 0} → rust.World D → rust.World D → ℕ → ℕ → Segment → Type 0
LosesPart old new p first s = (spaces : Spaces) → IsUnloadedPart (world_seen old) spaces p first s → LosesWithPages p first s.pages (memory old spaces) (memory new spaces)

-- The zero object that the segment shows is out of the list where its map has one holder, and else the list stays.
pub record LosesObject (maps : List (Option Map)) (s : Segment) (old new : List (Option ℕ)) : Type 0 where
  pub last : (z map : ℕ) → s.object ≡ object.Zero z → s.shown ≡ Some map → holders_of maps map ≡ 1 → new ≡ slice_set old z None
  pub held : ((z map : ℕ) → s.object ≡ object.Zero z → s.shown ≡ Some map → holders_of maps map ≢ 1) → new ≡ old
