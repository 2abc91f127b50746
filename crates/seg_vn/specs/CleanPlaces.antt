-- Pages of files that shared mappings show, and what must come first where a Sync wants them clean. Public clauses cite this.
use Rattle.std.specs.Prelude.{◌≡◌, ◌≢◌, ◌<◌, ◌≤◌, ℕ, Option, Some, None, is_some, IsTrue, if◌then◌else◌}
use Rattle.seg_ops.specs.vm_types.declared.call.Kind.TheVariants.{Shared}
use Rattle.seg_ops.specs.vm_types.declared.call.Object.{Object}
use Rattle.seg_ops.specs.vm_types.declared.call.Object.TheVariants as object
use Rattle.seg_ops.specs.page_hash.declared.PageName.{PageName}
use Rattle.seg_ops.specs.vm_world.FlatMemory.{Memory}
use Rattle.seg_ops.specs.vm_world.Segments.{Spot, shown_name}
use Rattle.seg_ops.specs.vm_world.Wants.{IsCleanPage, shows_page}
use Rattle.seg_ops.specs.vm_world.World.{World}
use Rattle.seg_ops.specs.vm_world.declared.segment.Segment.{Segment}
use Rattle.seg_ops.specs.vm_world.declared.wants.Wants.{Wants}
use Rattle.seg_ops.specs.CleanSteps.{CleansPage}

-- The file that an object is; none where it is no file.
abbrev pub object_file : Object → Option ℕ
object_file (object.File f) = Some f
object_file o = None

-- The file whose pages a segment without a map of its own shows; none where it shows none.
abbrev pub shared_file : Segment → Option ℕ
shared_file s = if is_some s.own then None else object_file s.object

-- The place of a shared segment shows this page of a file. Such pages a Sync wants clean.
pub record SharesFilePage (w : World) (x : Spot) (name : PageName) : Type 0 where
  pub shared : x.0.kind ≡ Shared
  pub some : IsTrue (shows_page w x)
  pub is : shown_name w.maps x ≡ Some name
  pub file : name.object ≢ 64

-- The place shows a page of a file that a Sync wants clean and that isn't, and this must come first
-- of it.
pub record WantsFirst (m : Memory) (x : Spot) (want : Wants) : Type 0 where
  pub name : PageName
  pub shows : SharesFilePage m.world x name
  pub first : CleansPage m name (Some want)

-- Each page of a file that the places of a shared segment show, from one up to another, is clean;
-- or this one of the places shows one that isn't, and this must come first of it.
abbrev pub CleansPlaces : Memory → Segment → ℕ → ℕ → Option (ℕ × Wants) → Type 0
CleansPlaces m s from to None = (at : ℕ) (name : PageName) → from ≤ at → at < to → SharesFilePage m.world (s, at) name → IsCleanPage m.world name
CleansPlaces m s from to (Some r) = (from ≤ r.0) × (r.0 < to) × WantsFirst m (s, r.0) r.1
