use Rattle.std.proofs.Common.{◌≡◌, ℕ, Some, None, true, false, refl, sym, ◌∙◌, ap, subst}
use Rattle.page_store.specs.page_hash.declared.PageName.{PageName}
use Rattle.page_store.specs.page_hash.Names.{is_name}
use Rattle.page_store.specs.page_lock.Rows.{row_at}
use Rattle.page_store.specs.Bays.{bay_at, home}
use Rattle.page_store.specs.StoreFits.{StoreFits}
use Rattle.page_store.specs.Flight.{FlightSeen, note_of, outcome_of}
use Rattle.page_store.specs.Moves.{TakesFrame}
use Rattle.page_store.specs.Notes.{Notes}
use Rattle.page_store.specs.Out.{DisksElsewhere}
use Rattle.page_store.specs.Seen.{StoreSeen, residence, own_frame}
use Rattle.page_store.specs.Steps.{next_name}
use Rattle.page_store.specs.Table.{PlaceTable}
use Rattle.page_store.specs.Transfers.{LivesAt, was_rewritten}
use Rattle.test_pages.specs.Trips.{StayThere}
use Rattle.page_store.specs.declared.plan.Plan.TheVariants.{Read, Push}
use Rattle.page_store.specs.declared.residence.Residence.TheVariants.{Home}
use Rattle.test_pages.proofs.TripLemmas.{trip-takes, trip-there, takes-another, lives-there}
use Rattle.test_pages.proofs.trips.read_in.Given.{Over}
use Rattle.test_pages.proofs.trips.read_in.Goals.{After-end}
use Rattle.test_pages.proofs.trips.read_in.Goals as goal

-- what the three calls make of the store
record Went (g : Over) (c : After-end g) : Type 0 where
  takes : (notes : Notes) (table : PlaceTable) → StoreFits c.args.store.now notes table → notes c.args.seat ≡ None
      → LivesAt (Read c.args.name) table c.args.place.disk c.args.place.block c.args.place.valid → TakesFrame c.args.store.now notes c.end.new.self notes table
  there : StayThere c.args.store.now.bays c.end.new.self.bays
  ungone : (row_at c.begin-flight.new.self.rows c.perform-result.new.self.frame).gone ≡ false
  name : c.perform-result.new.self.name ≡ c.args.name

is : (g : Over) (c : After-end g) → Went g c
is g c =
    let f : FlightSeen = c.begin-flight.result in
    let h : FlightSeen = c.perform-result.new.self in
    let laws = c.begin-flight.ensures.laws in
    let performed = c.perform-result.ensures.performed in
    let number : h.number ≡ c.args.place.disk = performed.number ∙ c.begin-flight.ensures.flight.number in
    record {
      takes = λ notes table fits idle place.
          trip-takes c.args.store.now c.begin-flight.new.self c.end.new.self notes table f h (ap notes c.begin-flight.ensures.flight.seat ∙ idle) performed laws.ungone
          (laws.values notes table fits (ap notes c.begin-flight.ensures.flight.seat ∙ idle)
          (lives-there (Read c.args.name) table f c.args.place.disk c.args.place.block c.args.place.valid c.begin-flight.ensures.flight.number
          c.begin-flight.ensures.flight.block c.begin-flight.ensures.flight.valid place))
          c.end.ensures.laws.values;
      there = trip-there c.args.store.now.bays c.begin-flight.new.self.bays c.end.new.self.bays c.args.place.disk f.disk h.disk c.begin-flight.ensures.flight.disk
          (subst (λ (n : ℕ). DisksElsewhere c.args.store.now c.begin-flight.new.self n) c.begin-flight.ensures.flight.number laws.disks)
          (subst (λ (n : ℕ). bay_at c.end.new.self.bays n ≡ home h.disk) number c.end.ensures.laws.disk)
          (subst (λ (n : ℕ). DisksElsewhere c.begin-flight.new.self c.end.new.self n) number c.end.ensures.laws.disks) performed.size;
      ungone = ap (λ (k : ℕ). (row_at c.begin-flight.new.self.rows k).gone) performed.frame ∙ laws.ungone;
      name = performed.name ∙ c.begin-flight.ensures.flight.name;
    }

pub returns-in-Ok-clause-takes : goal.returns-in-Ok-clause-takes
returns-in-Ok-clause-takes g c = (is g (goal.at.returns-in-Ok-clause-takes g c).After-end).takes

pub returns-in-Ok-clause-there : goal.returns-in-Ok-clause-there
returns-in-Ok-clause-there g c = (is g (goal.at.returns-in-Ok-clause-there g c).After-end).there

pub returns-in-Ok-clause-other : goal.returns-in-Ok-clause-other
returns-in-Ok-clause-other g c = takes-another c.args.store.now c.begin-flight.new.self
    (Read c.args.name) c.args.name c.begin-flight.result c.begin-flight.result.seat c.begin-flight.ensures.laws c.begin-flight.ensures.laws.page

pub returns-in-Err-clause-takes : goal.returns-in-Err-clause-takes
returns-in-Err-clause-takes g c = (is g (goal.at.returns-in-Err-clause-takes g c).After-end).takes

pub returns-in-Err-clause-there : goal.returns-in-Err-clause-there
returns-in-Err-clause-there g c = (is g (goal.at.returns-in-Err-clause-there g c).After-end).there

pub returns-in-Err-clause-other : goal.returns-in-Err-clause-other
returns-in-Err-clause-other g c = takes-another c.args.store.now c.begin-flight.new.self
    (Read c.args.name) c.args.name c.begin-flight.result c.begin-flight.result.seat c.begin-flight.ensures.laws c.begin-flight.ensures.laws.page

pub returns-in-Ok-clause-home : goal.returns-in-Ok-clause-home
returns-in-Ok-clause-home g c =
    let i = is g (goal.at.returns-in-Ok-clause-home g c).After-end in
    let home_it = c.end.ensures.laws.success i.ungone (c.perform-result.ensures.outcome ∙ ap outcome_of c.in-Ok.is) in
    (own_frame c.begin-flight.new.self c.perform-result.new.self.frame, ap (residence c.end.new.self) (sym i.name) ∙ home_it.home)
