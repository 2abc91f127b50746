-- When a plan that is answered can run; which calls may meet a device error, and which signal or errno is due to a call. Public clauses cite this.
use Rattle.std.specs.Prelude.{◌≡◌, ℕ, false, Option, Some, None, IsSome}
use Rattle.std.specs.FinSet as set
use Rattle.std.specs.Ordering.{nat_cmp}
use Rattle.flat_model.specs.vm_types.declared.call.Call.{Call}
use Rattle.flat_model.specs.vm_types.declared.call.Reply.{Reply}
use Rattle.page_store.specs.Notes.{Notes}
use Rattle.page_store.specs.Steps.{next_frame}
use Rattle.page_store.specs.Transfers.{is_push}
use Rattle.page_store.specs.Waits.{Waits, plan_page}
use Rattle.page_store.specs.declared.plan.Plan.{Plan}
use Rattle.flat_model.specs.Step.{MayFail, effect}
pub use Rattle.flat_model.specs.Shapes.{refusal_in}
use Rattle.vm_world.specs.FlatMemory.{Memory, flat_memory}
use Rattle.vm_world.specs.State.{Caller}
use Rattle.vm_world.specs.Wants.{MayPlan}
use Rattle.vm_world.specs.World.{world_table}

-- A plan may be answered to the call, or to the clock, and can run: its disk is home, its page isn't locked, and a frame is there for a page that is read.
pub record CanRunPlan (m : Memory) (of : Option Caller) (plan : Plan) : Type 0 where
  pub may : MayPlan m of plan
  pub ready : Waits m.world.store (plan_page plan) (world_table m.world (plan_page plan)).disk None
  pub frame : is_push plan ≡ false → IsSome (next_frame m.world.store)

-- In flat memory the call may meet a device error, whatever the seats have outside.
abbrev pub MayMeetFault : Memory → ℕ → Call → Type 0
MayMeetFault m p call = (born : set.FinSet nat_cmp) (notes : Notes) → MayFail (flat_memory m born notes) p call

-- THE REFUSAL THAT IS DUE to a call in flat memory, a signal or an errno, or that none is; whatever the seats have outside, and whether disks tell or not.
abbrev pub IsRefusal : Memory → ℕ → Call → Option Reply → Type 0
IsRefusal m p call refusal = (born : set.FinSet nat_cmp) (notes : Notes) → refusal_in (effect (flat_memory m born notes) p call).reply ≡ refusal
