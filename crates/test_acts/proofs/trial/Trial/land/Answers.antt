use Rattle.std.proofs.Common.{Option, Some, sym, refl, subst, ◌∙◌}
use Rattle.seg_ops.specs.vm_world.State.{Sent, Caller}
use Rattle.vm_core.specs.Fits.{FitsAt}
use Rattle.vm_core.specs.Flights.{IsBack, EndsWith}
use Rattle.test_acts.specs.Trials.{trip_sent, IsTrialState}
use Rattle.test_acts.proofs.TrialLemmas.{trial-back, trial-landed}
use Rattle.test_acts.proofs.trial.Trial.land.Goals as goal

pub perform-requires : goal.perform-requires
perform-requires c = (c.self.invariant.each c.args.seat _ (sym c.take.ensures.trip ∙ c.in-Some.is)).fresh

pub end-requires : goal.end-requires
end-requires c = record {
  back = subst (λ (of : Option Caller). (sent : Sent) × FitsAt c.self.inside.state c.args.seat (Some sent) × IsBack sent c.perform.new.self of) (sym c.lent.ensures)
      (trial-back c.self.inside.state c.self.inside.trips.items c.args.seat c.in-Some.flight c.perform.new.self c.in-Some.of c.self.invariant (sym c.take.ensures.trip ∙ c.in-Some.is) c.perform.ensures.performed);
}

pub invariant_of-self : goal.invariant_of-self
invariant_of-self c =
    let there = sym c.take.ensures.trip ∙ c.in-Some.is in
    subst (IsTrialState c.end.new.self) (sym c.take.ensures.new)
    (trial-landed c.self.inside.state c.end.new.self c.self.inside.trips.items c.args.seat c.in-Some.flight c.in-Some.of c.end.result c.self.invariant (c.is_out.ensures c.if-not-is_out.false).0 there
    (c.end.ensures.event (trip_sent (c.in-Some.flight, c.in-Some.of)) (subst (IsBack (trip_sent (c.in-Some.flight, c.in-Some.of)) c.perform.new.self) (sym c.lent.ensures) (record { performed = c.perform.ensures.performed; same = refl })))
    (subst (λ (of : Option Caller). EndsWith c.self.inside.state c.end.new.self of c.end.result) c.lent.ensures c.end.ensures.entry))
