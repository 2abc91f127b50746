-- What the object of a place shows there. Inside: no public clause cites this.
use Rattle.std.specs.Prelude.{◌≡◌, ◌⊎◌, ◌<◌, ◌+◌, ℕ, length, Some, None, IsTrue, IsFalse}
use Rattle.seg_ops.specs.anon_map.Maps.{IsMapThere, places_of}
use Rattle.seg_ops.specs.vm_types.declared.call.Object.TheVariants as object
use Rattle.seg_ops.specs.vm_world.Segments.{Spot, Spaces, object_name, spot_at}
use Rattle.seg_ops.specs.vm_world.Wants.{object_has}
use Rattle.seg_ops.specs.vm_world.Words.{Fits}
use Rattle.seg_ops.specs.vm_world.World.{World, slot_in, page_exists}
use Rattle.seg_ops.specs.vm_world.declared.world.World as rust
use Rattle.seg_ops.specs.Slots.{IsNewZero}
use Rattle.seg_vn.specs.declared.shown.Shown.{Shown}
use Rattle.seg_vn.specs.declared.shown.Shown.TheVariants.{Page, Zeros, Past}

-- The place shows zeros: an empty place of a map is made for it, which is its own one of new zero memory, or that of its zero object.
pub record ZerosPlace (w : World) (spaces : Spaces) (x : Spot) (m i : ℕ) : Type 0 where
  pub none : object_name w.maps x.0.shown (x.0.index + x.1) x.0.object ≡ None
  pub has : IsTrue (object_has w x.0.shown (x.0.index + x.1) x.0.object)
  pub there : IsMapThere w.maps m
  pub within : i < length (places_of w.maps m)
  pub empty : slot_in w.maps m i ≡ None
  pub zero : IsNewZero spaces m i
  pub new : ((x.0.object ≡ object.NewZero) × (x.0.own ≡ Some m) × (x.1 ≡ i)) ⊎ ((x.0.shown ≡ Some m) × (x.0.index + x.1 ≡ i) × (z : ℕ) × (x.0.object ≡ object.Zero z))

-- What the object of a place shows there: a page that exists; zeros, for which an empty place of a
-- map is made; or nothing, past its end.
abbrev pub ObjectShows : World → Spaces → Spot → Shown → Type 0
ObjectShows w spaces x (Page name) =
    (object_name w.maps x.0.shown (x.0.index + x.1) x.0.object ≡ Some name) × IsTrue (page_exists w.files w.anon name) × IsTrue (object_has w x.0.shown (x.0.index + x.1) x.0.object)
ObjectShows w spaces x (Zeros m i) = ZerosPlace w spaces x m i
ObjectShows w spaces x Past = IsFalse (object_has w x.0.shown (x.0.index + x.1) x.0.object)

-- The world fits where some page of a process is at the place.
abbrev pub IsAtSpot : {D : Type 0} → rust.World D → Spot → Type 0
IsAtSpot w x = (spaces : Spaces) × (p : ℕ) × (q : ℕ) × Fits w spaces × (spot_at spaces p q ≡ Some x)
