-- LANES of a state that begins.
use Rattle.std.proofs.Common.{◌≡◌, ℕ, zero, suc, ◌+◌, ◌≤◌, Bool, true, false, List, [], ◌∷◌, length, Option, Some, None, refl, sym, ap, ◌∙◌, subst, arith}
use Rattle.std.specs.Prelude.{◌||◌, IsSome, IsSomeAnd, is_some, slice_get, if◌then◌else◌}
use Rattle.std.specs.List.{list_any}
use Rattle.std.specs.FinMap as finite
use Rattle.std.proofs.lemmas.Option.{slice_get_within}
use Rattle.vm_types.specs.declared.call.Call.{Call}
use Rattle.vm_types.specs.declared.call.Entry.{Entry}
use Rattle.flat_model.specs.Births.{is_birth}
use Rattle.flat_model.specs.OpenLaws.{last_entry, IsOpenPart}
use Rattle.flat_model.specs.Told.{entries_of}
use Rattle.flat_model.specs.Flat.{Flat}
use Rattle.seg_ops.specs.page_store.Flight.{FlightSeen}
use Rattle.seg_ops.specs.page_store.Notes.{no_notes}
use Rattle.seg_ops.specs.vm_world.FlatMemory.{flat_memory}
use Rattle.seg_ops.specs.vm_world.HistoryFits.{has_left}
use Rattle.seg_ops.specs.vm_world.Opening.{IsOpening, no_seats}
use Rattle.seg_ops.specs.vm_world.State.{KernelState, Seats, is_top, room_of, with_sent}
use Rattle.seg_ops.specs.vm_world.StateFits.{StateFits}
use Rattle.seg_ops.proofs.vm_world.StateSteps.{same-seats}
use Rattle.lane_driver.specs.Lanes.{LaneSeen, HaveOwnSeats, MayMakeCalls, lane_sent, sent_by, next_call, with_lanes}
use Rattle.test_files.specs.Lanes.{MayBeLane, MayDrive, new_lane}
use Rattle.test_acts.specs.Trials.{IsTrialStart}

-- a process that is alive as the state begins has no parent
born-top : (s : KernelState) (p : ℕ) → IsOpening s → IsSome (finite.get s.memory.spaces p) → is_top s.parents p ≡ true
born-top s p opening alive = by_top (is_top s.parents p) _ (sym (ap is_some (opening.memory.spaces p)) ∙ alive)
  where
    by_top : {A : Type 0} (b : Bool) (space : A) → is_some (if b then Some space else None) ≡ true → b ≡ true
    by_top true space some = refl
    by_top false space some = some

-- A LANE that begins
pub opening-may : (s : KernelState) (seat room : ℕ) (calls : List Call) → IsOpening s → IsSome (finite.get s.memory.spaces (seat + 1)) → length (entries_of s.history (seat + 1)) + room ≡ room_of s.entries (seat + 1) → length calls ≤ room
    → MayMakeCalls s (new_lane seat calls)
opening-may s seat room calls opening alive count few = record {
  whole = λ f part. subst (λ (H : List Entry). IsSomeAnd (last_entry (seat + 1) H) (IsOpenPart f)) opening.history part;
  room = omega (arith, count, few);
  alive = λ _. record {
    born = ap (λ (b : Bool). b || list_any (is_birth (seat + 1)) s.history) (born-top s (seat + 1) opening alive);
    here = ap (λ (H : List Entry). has_left (seat + 1) (entries_of H (seat + 1))) opening.history;
  };
}

-- LANES without a transfer: nobody has anything outside
none-by : (seat : ℕ) (call : Option Call) → sent_by seat None call ≡ None
none-by seat None = refl
none-by seat (Some call) = refl

pub idle-lane : (seats : Seats) (lane : LaneSeen) → lane.flight ≡ None → seats lane.seat ≡ None → with_sent seats lane.seat (lane_sent lane) ≡ seats
idle-lane seats lane idle none =
    ap (with_sent seats lane.seat) (ap (λ (f : Option FlightSeen). sent_by lane.seat f (next_call lane)) idle ∙ none-by lane.seat (next_call lane)) ∙ same-seats seats lane.seat None none

-- TWO LANES of a state that begins, at seats 0 and 1
pub two-lanes : (s : KernelState) (seats : ℕ) (first second : List Call) (a b : LaneSeen) → IsTrialStart seats s → a ≡ new_lane 0 first → b ≡ new_lane 1 second → MayBeLane s 0 first → MayBeLane s 1 second → MayDrive s (a ∷ b ∷ [])
two-lanes s seats first second a b opened one two may goes = record {
  fits = (
    flat_memory s.memory s.born no_notes,
    no_seats,
    subst (λ (x : Seats). StateFits (flat_memory s.memory s.born no_notes) s x) (sym (ap (λ (x : Seats). with_sent x a.seat (lane_sent a)) (idle-lane no_seats b (ap (λ (l : LaneSeen). l.flight) two) refl)
        ∙ idle-lane no_seats a (ap (λ (l : LaneSeen). l.flight) one) refl)) opened.fits,
  );
  own = apart;
  may = each;
}
  where
    each : (k : ℕ) (lane : LaneSeen) → slice_get (a ∷ b ∷ []) k ≡ Some lane → MayMakeCalls s lane
    each zero lane at = subst (MayMakeCalls s) (sym one ∙ (let z : ◌≡◌ {A = Option LaneSeen} (Some a) (Some lane) = at in let same : a ≡ lane = cc in same)) may.may
    each (suc zero) lane at = subst (MayMakeCalls s) (sym two ∙ (let z : ◌≡◌ {A = Option LaneSeen} (Some b) (Some lane) = at in let same : b ≡ lane = cc in same)) goes.may
    each (suc (suc k)) lane at = absurd (let lt = slice_get_within (a ∷ b ∷ []) (suc (suc k)) lane at in omega (arith, lt))

    seat-at : (k : ℕ) (lane : LaneSeen) → slice_get (a ∷ b ∷ []) k ≡ Some lane → lane.seat ≡ k
    seat-at zero lane at = (let z : ◌≡◌ {A = Option LaneSeen} (Some a) (Some lane) = at in let same : lane ≡ a = cc in ap (λ (l : LaneSeen). l.seat) (same ∙ one))
    seat-at (suc zero) lane at = (let z : ◌≡◌ {A = Option LaneSeen} (Some b) (Some lane) = at in let same : lane ≡ b = cc in ap (λ (l : LaneSeen). l.seat) (same ∙ two))
    seat-at (suc (suc k)) lane at = absurd (let lt = slice_get_within (a ∷ b ∷ []) (suc (suc k)) lane at in omega (arith, lt))

    apart : HaveOwnSeats (a ∷ b ∷ [])
    apart i j here other at there same = sym (seat-at i here at) ∙ same ∙ seat-at j other there

-- LANES that took turns
pub driven-on : (s t : KernelState) (lanes new : List LaneSeen) → MayDrive s lanes → ((opening : Flat) (seats : Seats) → StateFits opening s (with_lanes seats lanes) → StateFits opening t (with_lanes seats new)) → HaveOwnSeats new
    → ((k : ℕ) (lane : LaneSeen) → slice_get new k ≡ Some lane → MayMakeCalls t lane) → MayDrive t new
driven-on s t lanes new before fits own may = let f = before.fits in record { fits = (f.0, f.1, fits f.0 f.1 f.2); own = own; may = may }
