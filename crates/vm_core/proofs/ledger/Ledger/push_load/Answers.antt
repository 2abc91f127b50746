use Rattle.std.proofs.Common.{◌<◌, length, subst, sym}
use Rattle.fault_entry.specs.flat_model.Told.{entries_of}
use Rattle.fault_entry.specs.vm_world.State.{room_of}
use Rattle.vm_core.specs.Ledger.{LedgerSeen}
use Rattle.vm_core.proofs.Ledgers.{room-for-one}
use Rattle.vm_core.proofs.ledger.Ledger.push_load.Goals as goal

pub push_load-requires : goal.push_load-requires
push_load-requires c =
    let s = c.self.inside in
    room-for-one s.history.entries s.history.room s.entries.items s.left.items c.args.process c.self.invariant
    (subst (λ (l : LedgerSeen). length (entries_of l.history c.args.process) < room_of l.entries c.args.process) (sym c.self.view_is) c.requires)
