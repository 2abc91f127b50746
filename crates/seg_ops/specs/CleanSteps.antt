-- What must come first of a page that a call wants clean. Public clauses cite this.
use Rattle.std.specs.Prelude.{◌≡◌, ◌<◌, ◌≤◌, ℕ, List, Option, Some, None}
use Rattle.page_store.specs.page_hash.declared.PageName.{PageName}
use Rattle.page_store.specs.Waits.{Waits}
use Rattle.page_store.specs.declared.plan.Plan.{Plan}
use Rattle.page_store.specs.declared.plan.Plan.TheVariants as plan
use Rattle.vm_world.specs.FlatMemory.{Memory}
use Rattle.vm_world.specs.State.{Caller}
use Rattle.vm_world.specs.Wants.{WantsClean, MayPlan, HoldsUp, IsCleanPage}
use Rattle.vm_world.specs.World.{file_name, world_table}
use Rattle.vm_world.specs.declared.wants.Wants.{Wants}
use Rattle.vm_world.specs.declared.wants.Wants.TheVariants.{Transfer, Seat}

-- The plan is the page's own push: it can begin, and may be answered to any call that wants the page clean.
pub record NeedsPush (m : Memory) (name : PageName) (p : Plan) : Type 0 where
  pub is : p ≡ plan.Push name
  pub ready : Waits m.world.store name (world_table m.world name).disk None
  pub may : (of : Caller) → WantsClean m of.0 of.1 name → MayPlan m (Some of) p

-- The page is clean; or its push is needed first; or any call that wants it clean has to wait for this, whatever seats have the files' calls.
abbrev pub CleansPage : Memory → PageName → Option Wants → Type 0
CleansPage m name None = IsCleanPage m.world name
CleansPage m name (Some (Transfer p)) = NeedsPush m name p
CleansPage m name (Some (Seat h)) = (calls : List (Option ℕ)) (of : Caller) → WantsClean m of.0 of.1 name → HoldsUp m calls of.0 of.1 h

-- The pages of a file from one up to another are clean; or this one of them isn't, and this is what must come first of it.
abbrev pub CleansPages : Memory → ℕ → ℕ → ℕ → Option (ℕ × Wants) → Type 0
CleansPages m file from to None = (page : ℕ) → from ≤ page → page < to → IsCleanPage m.world (file_name file page)
CleansPages m file from to (Some r) = (from ≤ r.0) × (r.0 < to) × CleansPage m (file_name file r.0) (Some r.1)
