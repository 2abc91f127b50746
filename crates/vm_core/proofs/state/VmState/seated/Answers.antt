use Rattle.std.proofs.Common.{◌<◌, length, subst}
use Rattle.fault_entry.specs.flat_model.Told.{entries_of}
use Rattle.fault_entry.specs.vm_world.State.{KernelState, room_of}
use Rattle.vm_core.proofs.Served.{seat-below}
use Rattle.vm_core.proofs.state.VmState.seated.Goals as goal

pub returns : goal.returns
returns g c =
    subst (λ (s : KernelState). length (entries_of s.history c.args.process) < room_of s.entries c.args.process → c.args.seat < length s.syncs) c.self.view_is
    (λ room. seat-below _ c.args.process c.args.seat _ _ room c.requires.own c.self.invariant.0.seated) c.requires.room
