use Rattle.std.proofs.Common.{ap, sym, subst, map}
use Rattle.kernel_lock.specs.Seats.{HasAll, IsClosed, part_of}
use Rattle.kernel_lock.proofs.Empties.{closed_empty, seats_none}
use Rattle.kernel_lock.proofs.lock.KernelLock.close.Goals as goal

pub close_gathered-requires-clause-all : goal.close_gathered-requires-clause-all
close_gathered-requires-clause-all g c = subst (HasAll c.args.self.seats) (sym (ap (λ z. z.parts) c.gather_all-from.ensures)) c.requires.all

pub returns-clause-empty : goal.returns-clause-empty
returns-clause-empty g c none =
    let G = g.S.Guarded in
    let closed = subst (λ ps. IsClosed G.seat_of G.history G.fits c.args.self.opening c.args.self.seats ps c.close_gathered.result)
    (ap (λ z. z.parts) c.gather_all-from.ensures) c.close_gathered.ensures.closed in
    closed_empty G.seat_of G.history G.fits c.args.self.opening c.args.self.seats (map part_of c.args.seats.items) c.close_gathered.result closed c.requires.all (seats_none c.args.seats.items none)
