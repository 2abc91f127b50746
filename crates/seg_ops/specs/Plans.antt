-- What a page that isn't home needs. Public clauses cite this.
use Rattle.std.specs.Prelude.{◌≡◌, ℕ, false, List, Option, Some, None, IsSome}
use Rattle.page_store.specs.page_hash.declared.PageName.{PageName}
use Rattle.page_store.specs.Steps.{next_frame}
use Rattle.page_store.specs.Transfers.{is_push}
use Rattle.page_store.specs.Waits.{Waits, plan_page}
use Rattle.page_store.specs.declared.plan.Plan.{Plan}
use Rattle.vm_world.specs.FlatMemory.{Memory}
use Rattle.vm_world.specs.State.{Caller}
use Rattle.vm_world.specs.Wants.{WantsHome, MayPlan, HoldsUp}
use Rattle.vm_world.specs.World.{World, world_table}
use Rattle.vm_world.specs.declared.wants.Wants.{Wants}
use Rattle.vm_world.specs.declared.wants.Wants.TheVariants.{Transfer, Seat}

-- The plan is answered exactly where its disk is home and nobody holds its page's lock; else the seat that has the one or the other.
abbrev pub IsAsked : World → Plan → Wants → Type 0
IsAsked w plan (Transfer p) = (p ≡ plan) × Waits w.store (plan_page plan) (world_table w (plan_page plan)).disk None
IsAsked w plan (Seat h) = Waits w.store (plan_page plan) (world_table w (plan_page plan)).disk (Some h)

-- A plan that can begin: its disk is home and nobody holds its page's lock, a frame is there for a page that is read in, and it may be answered to any
-- call that wants the page home.
pub record NeedsPlan (m : Memory) (name : PageName) (plan : Plan) : Type 0 where
  pub ready : Waits m.world.store (plan_page plan) (world_table m.world (plan_page plan)).disk None
  pub frame : is_push plan ≡ false → IsSome (next_frame m.world.store)
  pub may : (of : Caller) → WantsHome m of.0 of.1 name → MayPlan m (Some of) plan

-- What is answered to a call that wants the page home: a plan that can begin, or a hold that it has
-- to wait for.
abbrev pub FetchesPage : Memory → PageName → Wants → Type 0
FetchesPage m name (Transfer plan) = NeedsPlan m name plan
FetchesPage m name (Seat h) = (calls : List (Option ℕ)) (of : Caller) → WantsHome m of.0 of.1 name → HoldsUp m calls of.0 of.1 h
