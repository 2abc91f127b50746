use Rattle.std.proofs.Common.{◌≡◌, None, sym, ap, ◌∙◌, subst}
use Rattle.std.specs.Prelude.{IfNone, IfSome, MatchOption, option_map}
use Rattle.fault_entry.specs.page_store.Bays.{bay_at, home, missing, home_faults, pairs_seen}
use Rattle.fault_entry.specs.page_store.Notes.{no_notes}
use Rattle.fault_entry.specs.flat_model.Flat.{Flat}
use Rattle.fault_entry.specs.vm_world.MemoryFits.{MemoryFits}
use Rattle.fault_entry.specs.vm_world.NotesFit.{NotesFit}
use Rattle.fault_entry.specs.vm_world.Opening.{no_seats}
use Rattle.fault_entry.specs.vm_world.State.{KernelState, Seats, notes_of}
use Rattle.fault_entry.specs.vm_world.StateFits.{StateFits}
use Rattle.fault_entry.specs.vm_world.World.{World, AllTell}
use Rattle.kernel_close.specs.Finish.{disks_of, HoldAllFiles, LeaveAllPages}
use Rattle.kernel_close.specs.LeftMarks.{LeavesMarks}
use Rattle.kernel_close.proofs.LeftMarks.{marks-left}
use Rattle.vm_core.proofs.state.VmState.finish.Goals as goal

-- no seat's note, where no seat has anything outside
no-note : (seats : Seats) → ((seat : _) → seats seat ≡ None) → notes_of seats ≡ no_notes
no-note seats none = λ i seat. option_map (λ sent. sent.note) (none seat i)

pub finish_world-requires-clause-fits : goal.finish_world-requires-clause-fits
finish_world-requires-clause-fits g c = (c.self.inside.spaces.spaces, subst MemoryFits (sym (ap (λ (s : KernelState). s.memory) c.self.view_is)) c.requires.2.memory)

pub finish_world-requires-clause-noted : goal.finish_world-requires-clause-noted
finish_world-requires-clause-noted g c =
    subst (λ (w : World). NotesFit w no_notes) (sym (ap (λ (s : KernelState). s.memory.world) c.self.view_is))
    (subst (NotesFit c.args.self.memory.world) (no-note c.requires.1 c.requires.3) c.requires.2.notes)

pub returns-clause-counts : goal.returns-clause-counts
returns-clause-counts g c = λ disk. c.finish_world.ensures.counts disk ∙ ap (λ (s : KernelState). home_faults (bay_at s.memory.world.store.bays disk)) c.self.view_is

pub returns-clause-closed : goal.returns-clause-closed
returns-clause-closed g c =
    subst (λ (s : KernelState). IfNone c.finish_world.result.fault (AllTell s.memory.world no_notes → HoldAllFiles s.memory.world (pairs_seen g.D.Disk.seen c.finish_world.result.disks.items))) c.self.view_is c.finish_world.ensures.closed

pub returns-clause-left : goal.returns-clause-left
returns-clause-left g c =
    subst (λ (s : KernelState). IfSome c.finish_world.result.fault (λ fault. AllTell s.memory.world no_notes → LeaveAllPages s.memory.world (disks_of s.memory.world) (pairs_seen g.D.Disk.seen c.finish_world.result.disks.items) fault.disk))
    c.self.view_is c.finish_world.ensures.left

pub returns-clause-swap : goal.returns-clause-swap
returns-clause-swap g c =
    subst (λ (s : KernelState). MatchOption c.finish_world.result.swap (bay_at s.memory.world.store.bays 8 ≡ missing) (λ disk. bay_at s.memory.world.store.bays 8 ≡ home (g.D.Disk.seen disk))) c.self.view_is c.finish_world.ensures.swap

pub returns-clause-marks : goal.returns-clause-marks
returns-clause-marks g c =
    subst (λ (s : KernelState). (opening : Flat) → StateFits opening s no_seats → AllTell s.memory.world no_notes → LeavesMarks opening s (pairs_seen g.D.Disk.seen c.finish_world.result.disks.items) c.finish_world.result.fault) c.self.view_is
    (λ opening fit tell. marks-left opening _ fit (pairs_seen g.D.Disk.seen c.finish_world.result.disks.items) c.finish_world.result.fault tell
    c.finish_world.ensures.disks (c.finish_world.ensures.written tell) c.finish_world.ensures.fault c.finish_world.ensures.within)
