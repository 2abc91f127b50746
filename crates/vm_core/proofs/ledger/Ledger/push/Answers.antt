use Rattle.std.proofs.Common.{◌<◌, [], ◌∷◌, ◌++◌, ap, ◌∙◌, length, subst, sym}
use Rattle.fault_entry.specs.flat_model.Told.{entries_of}
use Rattle.fault_entry.specs.vm_world.State.{room_of}
use Rattle.vm_core.specs.Ledger.{LedgerSeen}
use Rattle.vm_core.proofs.Ledgers.{room-for-one}
use Rattle.vm_core.proofs.ledger.Ledger.push.Goals as goal

pub push-requires : goal.push-requires
push-requires c =
    let s = c.self.inside in
    room-for-one s.history.entries s.history.room s.entries.items s.left.items c.args.process c.self.invariant
    (subst (λ (l : LedgerSeen). length (entries_of l.history c.args.process) < room_of l.entries c.args.process) (sym c.self.view_is) c.requires)

pub returns-clause-history : goal.returns-clause-history
returns-clause-history c =
    c.push.ensures.entries ∙ ap (λ (l : LedgerSeen). l.history ++ record { process = c.args.process; call = c.args.call.now; reply = c.args.reply.now; cleared = c.args.cleared } ∷ []) c.self.view_is
