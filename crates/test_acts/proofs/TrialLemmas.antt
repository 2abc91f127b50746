-- ACTS OF SEATS leave a state that fits with what the seats have outside.
use Rattle.std.proofs.Common.{◌≡◌, ℕ, ◌-◌, ◌<◌, ◌==◌, Bool, true, false, List, [], ◌∷◌, ◌++◌, length, map, zero, suc, Option, Some, None, refl, sym, ap, ◌∙◌, inl, inr, subst, arith}
use Rattle.std.specs.Prelude.{IsTrue, IfSome, MatchOption, if◌then◌else◌, option_map, replicate, slice_index_or, slice_set}
use Rattle.std.proofs.lemmas.Bool.{cases_eq}
use Rattle.std.proofs.lemmas.List.{length-map, map-set, length-set, length-replicate, get_or-set_same, get_or-set_other}
use Rattle.std.proofs.Math.ListN.{get_or-map}
use Rattle.vm_types.specs.Parts.{ends_call}
use Rattle.vm_types.specs.declared.call.Call.{Call}
use Rattle.vm_types.specs.declared.call.Entry.{Entry}
use Rattle.vm_types.specs.declared.call.Reply.{Reply}
use Rattle.flat_model.specs.OpenLaws.{last_entry, FollowsOn, MayFollow}
use Rattle.flat_model.proofs.Opens.{last_entry-push}
use Rattle.seg_ops.specs.page_store.Flight.{FlightSeen, IsPerformed, note_of, fresh}
use Rattle.seg_vn.specs.declared.attempt.Attempt.{Attempt}
use Rattle.seg_vn.specs.declared.attempt.Attempt.TheVariants.{Done, Need, Busy}
use Rattle.seg_ops.specs.vm_world.Events.{IsEvent}
use Rattle.seg_ops.specs.vm_world.Opening.{no_seats}
use Rattle.seg_ops.specs.vm_world.StateFits.{StateFits}
use Rattle.seg_ops.specs.vm_world.State.{KernelState, Fixed, Seats, Sent, Caller, KeptPlan, with_sent, seats_of}
use Rattle.seg_ops.proofs.vm_world.StateSteps.{same-seats}
use Rattle.seg_ops.proofs.vm_world.Told.{event_law}
use Rattle.vm_core.specs.Calls.{AnswersCall}
use Rattle.vm_core.specs.kernel_close.Finish.{FitsStill}
use Rattle.vm_core.specs.Fits.{FitsAt}
use Rattle.vm_core.specs.Flights.{EndsWith, IsBack, sent_with}
use Rattle.lane_driver.proofs.MayGo.{one-entry}
use Rattle.test_acts.specs.Trials.{TripSeen, trip_sent, seats_with, IsTrip, IsTrialState, LiesInOneLine, IsOfOnePart}

-- NO CALL IS BETWEEN TWO PARTS
abbrev AnyFollows : List Entry → Type 0
AnyFollows H = (e : Entry) → MayFollow H e

follows-next : (H : List Entry) (e : Entry) → AnyFollows H → IsTrue (ends_call e.call e.reply) → AnyFollows (H ++ e ∷ [])
follows-next H e follows ends d = subst (λ (o : Option Entry). MatchOption o (Unit {0}) (λ x. FollowsOn x d)) (sym (last_entry-push H e d.process)) (by_process (e.process == d.process))
  where
    by_process : (b : Bool) → MatchOption (if b then Some e else last_entry d.process H) (Unit {0}) (λ x. FollowsOn x d)
    by_process true = inl ends
    by_process false = follows d

answered-follows : (s t : KernelState) (seat p : ℕ) (call : Call) (a : Attempt) → AnyFollows s.history → LiesInOneLine call → AnswersCall s t seat p call a → AnyFollows t.history
answered-follows s t seat p call (Done reply) follows served answers = subst AnyFollows (sym answers.adds.history) (follows-next s.history _ follows (one-entry call reply served))
answered-follows s t seat p call (Need plan) follows served answers = subst AnyFollows (sym answers.began.none.history) follows
answered-follows s t seat p call (Busy hold) follows served answers = subst AnyFollows (sym answers.began.none.history) follows

ended-follows : (u t : KernelState) (of : Option Caller) (answer : Option Reply) → AnyFollows u.history → IsOfOnePart of → EndsWith u t of answer → AnyFollows t.history
ended-follows u t (Some of) (Some reply) follows served ends = subst AnyFollows (sym ends.history) (follows-next u.history _ follows (one-entry of.1 reply served))
ended-follows u t (Some of) None follows served ends = subst AnyFollows (sym ends.none.history) follows
ended-follows u t None None follows served ends = subst AnyFollows (sym ends.none.history) follows
ended-follows u t None (Some reply) follows served ends = absurd ends

-- WHAT THE SEATS HAVE OUTSIDE
seat-with : (trips : List (Option TripSeen)) (seat : ℕ) (trip : Option TripSeen) → slice_index_or trips seat None ≡ trip → seats_with trips seat ≡ option_map trip_sent trip
seat-with trips seat trip is = get_or-map (option_map trip_sent) trips seat None ∙ ap (option_map trip_sent) is

seats-set : (trips : List (Option TripSeen)) (seat : ℕ) (trip : Option TripSeen) → seat < length trips → with_sent (seats_with trips) seat (option_map trip_sent trip) ≡ seats_with (slice_set trips seat trip)
seats-set trips seat trip lt =
    event_law.list (map (option_map trip_sent) trips) seat (option_map trip_sent trip) (subst (λ (n : ℕ). seat < n) (sym (length-map trips (option_map trip_sent))) lt)
    ∙ ap seats_of (sym (map-set (option_map trip_sent) trips seat trip))

each-set : (trips : List (Option TripSeen)) (seat : ℕ) (trip : Option TripSeen) → seat < length trips → ((k : ℕ) (t : TripSeen) → slice_index_or trips k None ≡ Some t → IsTrip t) → ((t : TripSeen) → trip ≡ Some t → IsTrip t)
    → (k : ℕ) (t : TripSeen) → slice_index_or (slice_set trips seat trip) k None ≡ Some t → IsTrip t
each-set trips seat trip lt each is k t at = elim (cases_eq k seat) [
  | inl e ↦ is t (sym (ap (λ (j : ℕ). slice_index_or (slice_set trips seat trip) j None) e ∙ get_or-set_same trips seat trip None lt) ∙ at)
  | inr ne ↦ each k t (sym (get_or-set_other trips seat k trip None ne) ∙ at)
]

pub trial-at : (s : KernelState) (trips : List (Option TripSeen)) (seat : ℕ) → IsTrialState s trips → slice_index_or trips seat None ≡ None → FitsAt s seat None
trial-at s trips seat t idle = (t.opening, seats_with trips, t.fits, seat-with trips seat None idle)

-- AN EVENT of an idle seat that leaves it so
trial-event : (s t : KernelState) (trips : List (Option TripSeen)) (seat : ℕ) → IsTrialState s trips → slice_index_or trips seat None ≡ None → IsEvent seat s None t None → AnyFollows t.history → IsTrialState t trips
trial-event s t trips seat trial idle event follows = record {
  opening = trial.opening;
  fits = subst (λ (x : Seats). StateFits trial.opening t x) (same-seats (seats_with trips) seat None (seat-with trips seat None idle)) (event.fits trial.opening (seats_with trips) (seat-with trips seat None idle) trial.fits);
  follows = follows;
  seated = ap (λ (x : Fixed). x.seats) event.fixed ∙ trial.seated;
  each = trial.each;
}

pub trial-answered : (s t : KernelState) (trips : List (Option TripSeen)) (seat p : ℕ) (call : Call) (a : Attempt) → IsTrialState s trips → slice_index_or trips seat None ≡ None → LiesInOneLine call → IsEvent seat s None t None
    → AnswersCall s t seat p call a → IsTrialState t trips
trial-answered s t trips seat p call a trial idle served event answers = trial-event s t trips seat trial idle event (answered-follows s t seat p call a trial.follows served answers)

pub trial-same : (s t : KernelState) (trips : List (Option TripSeen)) (seat : ℕ) → IsTrialState s trips → slice_index_or trips seat None ≡ None → IsEvent seat s None t None → t.history ≡ s.history → IsTrialState t trips
trial-same s t trips seat trial idle event same = trial-event s t trips seat trial idle event (subst AnyFollows (sym same) trial.follows)

-- A TRANSFER goes out and comes back
pub trial-sent : (s u : KernelState) (trips : List (Option TripSeen)) (seat : ℕ) (kept : KeptPlan) (f : FlightSeen) → IsTrialState s trips → seat < length trips → slice_index_or trips seat None ≡ None → IsEvent seat s None u (Some (sent_with kept f))
    → u.history ≡ s.history → f.outcome ≡ fresh → IsOfOnePart kept.of → IsTrialState u (slice_set trips seat (Some (f, kept.of)))
trial-sent s u trips seat kept f trial within idle event same new served =
    record {
      opening = trial.opening;
      fits = subst (λ (x : Seats). StateFits trial.opening u x) (seats-set trips seat (Some (f, kept.of)) within) (event.fits trial.opening (seats_with trips) (seat-with trips seat None idle) trial.fits);
      follows = subst AnyFollows (sym same) trial.follows;
      seated = ap (λ (x : Fixed). x.seats) event.fixed ∙ trial.seated ∙ sym (length-set trips seat _);
      each = each-set trips seat (Some (f, kept.of)) within trial.each (λ t is. subst (λ (o : Option TripSeen). IfSome o IsTrip) is (record { fresh = new; served = served }));
    }

pub trial-back : (s : KernelState) (trips : List (Option TripSeen)) (seat : ℕ) (f g : FlightSeen) (of : Option Caller) → IsTrialState s trips → slice_index_or trips seat None ≡ Some (f, of) → IsPerformed (note_of f) g
    → (sent : Sent) × FitsAt s seat (Some sent) × IsBack sent g of
trial-back s trips seat f g of trial is performed =
    (trip_sent (f, of), (trial.opening, seats_with trips, trial.fits, seat-with trips seat _ is), record { performed = performed; same = refl })

pub trial-landed : (s t : KernelState) (trips : List (Option TripSeen)) (seat : ℕ) (f : FlightSeen) (of : Option Caller) (answer : Option Reply) → IsTrialState s trips → seat < length trips → slice_index_or trips seat None ≡ Some (f, of)
    → IsEvent seat s (Some (trip_sent (f, of))) t None → EndsWith s t of answer → IsTrialState t (slice_set trips seat None)
trial-landed s t trips seat f of answer trial within is event ends =
    record {
      opening = trial.opening;
      fits = subst (λ (x : Seats). StateFits trial.opening t x) (seats-set trips seat None within) (event.fits trial.opening (seats_with trips) (seat-with trips seat _ is) trial.fits);
      follows = ended-follows s t of answer trial.follows (trial.each seat _ is).served ends;
      seated = ap (λ (x : Fixed). x.seats) event.fixed ∙ trial.seated ∙ sym (length-set trips seat None);
      each = each-set trips seat None within trial.each (λ t no. absurd (cc));
    }

-- THE START AND THE END
pub idle : (n k : ℕ) → slice_index_or {A = Option TripSeen} (replicate n None) k None ≡ None
idle zero k = refl
idle (suc n) zero = refl
idle (suc n) (suc k) = idle n k

-- every seat has nothing where those of the list have
pub none-out : (trips : List (Option TripSeen)) → ((k : ℕ) → k < length trips → slice_index_or trips k None ≡ None) → (seat : ℕ) → slice_index_or trips seat None ≡ None
none-out [] each seat = refl
none-out (t ∷ trips) each zero = each zero (omega arith)
none-out (t ∷ trips) each (suc seat) = none-out trips (λ k lt. each (suc k) (omega (arith, lt))) seat

pub trial-starts : (s : KernelState) (opening : _) (n : ℕ) → StateFits opening s no_seats → s.history ≡ [] → length s.syncs ≡ n → IsTrialState s (replicate n None)
trial-starts s opening n fits none seated = record {
  opening = opening;
  fits = subst (λ (x : Seats). StateFits opening s x) (λ i k. sym (seat-with (replicate n None) k None (idle n k)) i) fits;
  follows = λ e. subst (λ (H : List Entry). MayFollow H e) (sym none) tt;
  seated = seated ∙ sym (length-replicate n None);
  each = λ k t is. absurd (let e = sym (idle n k) ∙ is in cc);
}

pub trial-still : (s : KernelState) (trips : List (Option TripSeen)) → IsTrialState s trips → ((seat : ℕ) → slice_index_or trips seat None ≡ None) → FitsStill s
trial-still s trips trial none = (trial.opening, seats_with trips, trial.fits, λ seat. seat-with trips seat None (none seat))
