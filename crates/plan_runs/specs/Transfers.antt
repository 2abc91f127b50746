-- A transfer that a call needs, from its begin to its end, with nothing else outside. Inside: no clause of `run` cites this.
use Rattle.std.specs.Prelude.{Option}
use Rattle.volume_files.specs.vm_types.declared.call.Reply.{Reply}
use Rattle.vm_core.specs.SeatSteps.{LandsFlight, SendsFlight}
use Rattle.vm_core.specs.page_store.Flight.{FlightSeen, note_of}
use Rattle.vm_core.specs.page_store.declared.plan.Plan.{Plan}
use Rattle.vm_core.specs.vm_world.State.{KernelState, Caller}

-- It goes out from seat 0, and comes back; its answer is the device error where it is for a call and failed.
pub record MakesTransfer (old new : KernelState) (plan : Plan) (of : Option Caller) (answer : Option Reply) : Type 0 where
  pub mid : KernelState
  pub flight : FlightSeen
  pub sends : SendsFlight old mid 0 plan flight
  pub lands : LandsFlight mid new 0 (note_of flight) of answer
