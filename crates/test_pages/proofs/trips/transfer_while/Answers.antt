use Rattle.std.proofs.Common.{◌≡◌, ℕ, List, ◌∙◌, ap, subst}
use Rattle.page_store.specs.Bays.{BaySeen, bay_at, home}
use Rattle.page_store.specs.Flight.{FlightSeen}
use Rattle.page_store.specs.Out.{DisksElsewhere}
use Rattle.test_pages.proofs.TripLemmas.{trip-there}
use Rattle.test_pages.proofs.trips.transfer_while.Goals as goal

pub end-requires-clause-out : goal.end-requires-clause-out
end-requires-clause-out g c =
    c.perform.ensures.store c.interfere-done.new.store (c.interfere-done.ensures.flights c.begin-flight.result c.begin-flight.ensures.laws.out)

pub returns : goal.returns
returns g c =
    let f : FlightSeen = c.perform.new.self in
    let began : c.begin-flight.result.number ≡ c.args.place.disk = c.begin-flight.ensures.flight.number in
    let number : f.number ≡ c.args.place.disk = c.perform.ensures.performed.number ∙ began in
    record {
      there = trip-there c.args.store.now.bays c.interfere-done.new.store.bays c.end.new.self.bays c.args.place.disk c.begin-flight.result.disk f.disk
          c.begin-flight.ensures.flight.disk
          (λ k ne. ap (λ (l : List BaySeen). bay_at l k) c.interfere-done.ensures.bays
          ∙ subst (λ (n : ℕ). DisksElsewhere c.args.store.now c.begin-flight.new.self n) began c.begin-flight.ensures.laws.disks k ne)
          (subst (λ (n : ℕ). bay_at c.end.new.self.bays n ≡ home f.disk) number c.end.ensures.laws.disk)
          (subst (λ (n : ℕ). DisksElsewhere c.interfere-done.new.store c.end.new.self n) number c.end.ensures.laws.disks)
          c.perform.ensures.performed.size;
    }
