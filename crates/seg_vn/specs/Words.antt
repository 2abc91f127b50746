-- Words on the world as calls that change mappings see it. Public clauses cite this.
use Rattle.std.specs.Prelude.{◌≡◌, ◌+◌, ℕ, List, Option, Some, length}
use Rattle.std.specs.FinMap as finite
use Rattle.seg_ops.specs.addr_space.Space.{Part}
use Rattle.seg_ops.specs.anon_map.Maps.{Map, places_of}
use Rattle.seg_ops.specs.flat_model.Flat.{Flat}
use Rattle.seg_ops.specs.vm_world.CountsFit.{slots_for_part}
use Rattle.seg_ops.specs.vm_world.ForkSteps.{maps_copied}
use Rattle.seg_ops.specs.vm_world.Segments.{Spaces}
use Rattle.seg_ops.specs.vm_world.Words.{memory}
use Rattle.seg_ops.specs.vm_world.World.{world_seen}
use Rattle.seg_ops.specs.vm_world.ZeroObjects.{KnowsZeros}
use Rattle.seg_ops.specs.vm_world.declared.segment.Segment.{Segment}
use Rattle.seg_ops.specs.vm_world.declared.world.World as rust
use Rattle.seg_vn.specs.Clears.{ChangesSpace}
use Rattle.seg_vn.specs.Cuts.{IsPartAt}

-- The segment is the part of some process that begins with a page, where memory fits.
abbrev pub IsPart : {D : Type 0} → rust.World D → ℕ → ℕ → Segment → Type 0
IsPart w p first s = (spaces : Spaces) × IsPartAt (world_seen w) spaces p first s

-- The segment is the part of some process that begins with a page, and the list of zero objects is
-- right.
abbrev pub IsKnownPart : {D : Type 0} → rust.World D → ℕ → ℕ → Segment → Type 0
IsKnownPart w p first s = (spaces : Spaces) × IsPartAt (world_seen w) spaces p first s × KnowsZeros w.zeros spaces

-- Whatever the spaces in which the segment is the part of a process that begins with a page: the
-- process has these parts then, and flat memory becomes this.
abbrev pub PartBecomes : {D : Type 0} → rust.World D → rust.World D → ℕ → ℕ → Segment → (List (Part Segment) → List (Part Segment)) → List (Option ℕ) → (Flat → Flat) → Type 0
PartBecomes old new p first s after zeros f =
    (spaces : Spaces) (c : IsPartAt (world_seen old) spaces p first s) → KnowsZeros old.zeros spaces → ChangesSpace p (memory old spaces) (memory new (finite.insert spaces p (after c.parts))) zeros f

-- What a segment reserves that begins with this page.
abbrev pub slots_for_segment : ℕ → Segment → ℕ
slots_for_segment first s = slots_for_part (record { first = first; pages = s.pages; piece = s })

-- The world with these anon maps, and so many slots reserved.
abbrev pub with_maps_and_reserved : {D : Type 0} → rust.World D → List (Option Map) → ℕ → rust.World D
with_maps_and_reserved w maps reserved = record w { anon = record w.anon { reserved = reserved }; maps = maps }

-- The world with one anon map more, which holds the slots of another one, so counted, and as many
-- slots more reserved as that has places.
abbrev pub with_map_copied : {D : Type 0} → rust.World D → List ℕ → ℕ → ℕ → rust.World D
with_map_copied w counts map number = record w { anon = record w.anon { counts = counts; reserved = w.anon.reserved + length (places_of w.maps map) }; maps = maps_copied w.maps (Some map) number }

-- So many slots more are reserved, and anon maps and the list of zero objects change, and nothing
-- else.
abbrev pub OnlyReserves : {D : Type 0} → rust.World D → rust.World D → ℕ → Type 0
OnlyReserves old new n = new ≡ record old { anon = record old.anon { reserved = old.anon.reserved + n }; maps = new.maps; zeros = new.zeros }

-- So many slots more are reserved, and anon maps, translations and how often slots are counted
-- change, and nothing else.
abbrev pub OnlyCopies : {D : Type 0} → rust.World D → rust.World D → ℕ → Type 0
OnlyCopies old new n = new ≡ record old { anon = record old.anon { counts = new.anon.counts; reserved = old.anon.reserved + n }; maps = new.maps; hat = new.hat }
