use Rattle.vm_kernel.proofs.Opened.{named-rooms}
use Rattle.vm_kernel.proofs.kernel.VmKernel.start.Goals as goal

pub seat_callers-callers-requires-clause-named : goal.seat_callers-callers-requires-clause-named
seat_callers-callers-requires-clause-named g c = named-rooms c.args.state.entries c.args.rooms.now c.requires.rooms
