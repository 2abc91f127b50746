-- A LANE THAT IS ALONE comes to its end: each transfer that a call needs takes two turns, and leaves one less to come.
use Rattle.std.proofs.Common.{◌≡◌, ◌≢◌, ℕ, zero, suc, ◌+◌, ◌*◌, ◌-◌, ◌<◌, ◌≤◌, ◌==◌, Bool, true, false, List, [], ◌∷◌, ◌++◌, length, Option, Some, None, refl, sym, ap, ◌∙◌, ◌⊎◌, inl, inr, subst, arith}
use Rattle.std.specs.Prelude.{IsSomeAnd, is_some}
use Rattle.std.proofs.lemmas.Bool.{cases_eq}
use Rattle.std.proofs.lemmas.Option.{slice_get_within, slice_get-get_or}
use Rattle.fault_entry.specs.page_store.Flight.{FlightSeen, Progress}
use Rattle.fault_entry.specs.page_store.Seen.{IsSoundStore}
use Rattle.fault_entry.specs.page_store.declared.plan.Plan.{Plan}
use Rattle.fault_entry.specs.seg_vn.declared.attempt.Attempt.{Attempt}
use Rattle.fault_entry.specs.seg_vn.declared.attempt.Attempt.TheVariants.{Done, Need, Busy}
use Rattle.fault_entry.specs.flat_model.Flat.{Flat}
use Rattle.fault_entry.specs.flat_model.OpenLaws.{last_entry, IsOpenPart}
use Rattle.fault_entry.specs.vm_types.declared.call.Call.{Call}
use Rattle.fault_entry.specs.vm_types.declared.call.Call.TheVariants.{Exit}
use Rattle.fault_entry.specs.vm_types.declared.call.Entry.{Entry}
use Rattle.fault_entry.specs.vm_world.Opening.{no_seats}
use Rattle.fault_entry.specs.vm_world.State.{Fixed, KernelState, Seats, with_sent}
use Rattle.fault_entry.specs.vm_world.StateFits.{StateFits}
use Rattle.fault_entry.specs.vm_world.Wants.{seat_in}
use Rattle.fault_entry.proofs.vm_world.StateSteps.{same-seats}
use Rattle.fault_entry.proofs.vm_world.Told.{event_law}
use Rattle.vm_core.specs.Calls.{AnswersCall, IsNeeded}
use Rattle.vm_core.specs.Flights.{error_at_end}
use Rattle.lane_driver.specs.Alone.{IsAlone, IsAllDone, turns_enough}
use Rattle.lane_driver.specs.Drives.{Drives, StepsLane}
use Rattle.lane_driver.specs.Lanes.{LaneSeen, HaveOwnSeats, calls_left, lane_after, next_call, sent_by, with_lanes}
use Rattle.vm_core.specs.SeatSteps.{AfterTry, SendsFlight}
use Rattle.lane_driver.specs.LaneTurns.{IsDoneBy, LandsLaneFlight, TakesLaneTurn, TriesLaneCall, TurnsBy}
use Rattle.lane_driver.proofs.Adds.{turn-adds}
use Rattle.lane_driver.proofs.Driven.{step-fits}
use Rattle.lane_driver.proofs.MayGo.{last-one, last-other, no-open}
use Rattle.lane_driver.proofs.OwnSeats.{no-lane, same-lane}
use Rattle.lane_driver.proofs.Rounds.{Comes, need-some, new-comes, round-falls}

-- ONE LANE
one-own : (lane : LaneSeen) → HaveOwnSeats (lane ∷ [])
one-own lane = λ i j a b one two same. let x = slice_get_within (lane ∷ []) i a one in let y = slice_get_within (lane ∷ []) j b two in omega (arith, x, y)

one-step : (n : ℕ) (s t : KernelState) (lane : LaneSeen) (new : List LaneSeen) → StepsLane n s t (lane ∷ []) new → (after : LaneSeen) × (new ≡ after ∷ []) × TakesLaneTurn s t lane after
one-step zero s t lane new step = (step.after, step.set, subst (λ (l : LaneSeen). TakesLaneTurn s t l step.after) (sym (same-lane lane step.lane step.there)) step.turn)
one-step (suc n) s t lane new step = absurd (no-lane n step.lane step.there)

pub none-sent : (seat : ℕ) (flight : Option FlightSeen) (call : Option Call) → flight ≡ None → sent_by seat flight call ≡ None
none-sent seat flight None is = refl
none-sent seat flight (Some call) is = ap (λ (f : Option FlightSeen). sent_by seat f (Some call)) is

-- a lane without a transfer: nobody has anything outside
none-outside : (lane : LaneSeen) → lane.flight ≡ None → with_lanes no_seats (lane ∷ []) ≡ no_seats
none-outside lane is = ap (with_sent no_seats lane.seat) (none-sent lane.seat lane.flight (next_call lane) is) ∙ same-seats no_seats lane.seat None refl

-- WHAT STAYS as a lane that is alone takes its turn
pub record StaysAlone (frames : ℕ) (s : KernelState) (lane : LaneSeen) : Type 0 where
  pub alone : IsAlone s lane
  pub count : length s.memory.world.store.frames ≡ frames

pub stays-alone : (frames : ℕ) (s t : KernelState) (lane new : LaneSeen) → StaysAlone frames s lane → TakesLaneTurn s t lane new → StaysAlone frames t new
stays-alone frames s t lane new stays turn = record {
  alone = record {
    opening = stays.alone.opening;
    fits = step-fits 0 s t (lane ∷ []) (new ∷ []) stays.alone.opening no_seats (record { lane = lane; after = new; there = refl; turn = turn; set = refl }) (one-own lane) stays.alone.fits;
    whole = λ p f. elim (turn-adds s t lane new turn).adds [
      | inl none ↦ subst (λ (H : List Entry). ¬ IsSomeAnd (last_entry p H) (IsOpenPart f)) (sym none.1) (stays.alone.whole p f)
      | inr one ↦
          let a = one.1.2 in
          subst (λ (H : List Entry). ¬ IsSomeAnd (last_entry p H) (IsOpenPart f)) (sym a.history) (elim (cases_eq a.entry.process p) [
            | inl e ↦ subst (λ (o : Option Entry). ¬ IsSomeAnd o (IsOpenPart f)) (sym (last-one s.history a.entry p e)) (no-open f a.entry a.ends)
            | inr ne ↦ subst (λ (o : Option Entry). ¬ IsSomeAnd o (IsOpenPart f)) (sym (last-other s.history a.entry p ne)) (stays.alone.whole p f)
          ])
    ];
  };
  count = ap (λ (x : Fixed). x.frames) turn.event.fixed ∙ stays.count;
}

-- the calls behind the one at hand
abbrev behind : LaneSeen → ℕ
behind lane = length lane.calls - suc lane.done

left-more : (lane : LaneSeen) (call : Call) → next_call lane ≡ Some call → calls_left lane ≡ suc (behind lane)
left-more lane call at = let lt = slice_get_within lane.calls lane.done call at in omega (arith, lt)

left-sum : (frames : ℕ) (lane : LaneSeen) (call : Call) → next_call lane ≡ Some call → turns_enough frames lane ≡ (2 * frames + 8) + (2 * frames + 8) * behind lane
left-sum frames lane call at = ap (λ (n : ℕ). (2 * frames + 8) * n) (left-more lane call at) ∙ one-more (2 * frames + 8) (behind lane)
  where
    one-more : (k n : ℕ) → k * suc n ≡ k + k * n
    one-more k n = omega arith

-- WHAT IS ENOUGH for the call at hand, by what is still to come of it, and for those behind it
abbrev Bound : ℕ → KernelState → LaneSeen → ℕ → Type 0
Bound frames s lane turns = (call : Call) → next_call lane ≡ Some call → (most : ℕ) × Comes s.memory (lane.seat + 1) call most × (2 * most + 1 + (2 * frames + 8) * behind lane ≤ turns)

fresh-bound : (frames : ℕ) (s : KernelState) (lane : LaneSeen) (turns : ℕ) → length s.memory.world.store.frames ≡ frames → turns_enough frames lane ≤ suc turns → Bound frames s lane turns
fresh-bound frames s lane turns count enough call at =
    let sum = left-sum frames lane call at in
    (frames + 2, new-comes frames s.memory (lane.seat + 1) call count, omega (arith, sum, enough))

-- A TRY, where nobody has anything outside: the call is done, or it needs a transfer; nobody is waited for.
record Needs (opening : Flat) (s t : KernelState) (seat : ℕ) (call : Call) (flight : Option FlightSeen) : Type 0 where
  mid : KernelState
  plan : Plan
  f : FlightSeen
  fits : StateFits opening mid no_seats
  needs : IsNeeded s mid seat (seat + 1) call plan
  sends : SendsFlight mid t seat plan f
  is : flight ≡ Some f

tried : (opening : Flat) (s t : KernelState) (seat : ℕ) (call : Call) (done : Bool) (flight : Option FlightSeen) → StateFits opening s no_seats → ((p f : ℕ) → ¬ IsSomeAnd (last_entry p s.history) (IsOpenPart f))
    → TriesLaneCall s t seat call done flight → ((done ≡ true) × (flight ≡ None)) ⊎ ((done ≡ false) × Needs opening s t seat call flight)
tried opening s t seat call done flight fits whole tries = by_attempt tries.attempt tries.next.tries.answers tries.next.goes tries.tells
  where
    then-fits : StateFits opening tries.next.mid no_seats
    then-fits = subst (λ (x : Seats). StateFits opening tries.next.mid x) (same-seats no_seats seat None refl) (tries.next.tries.event.fits opening no_seats refl fits)

    by_attempt : (a : Attempt) → AnswersCall s tries.next.mid seat (seat + 1) call a → AfterTry tries.next.mid t seat a flight → IsDoneBy call a done → ((done ≡ true) × (flight ≡ None)) ⊎ ((done ≡ false) × Needs opening s t seat call flight)
    by_attempt (Done reply) answers goes tells = inl (tells.0, goes.1)
    by_attempt (Busy h) answers goes tells = elim (event_law.holds opening tries.next.mid no_seats (seat + 1) call h then-fits answers.holds) [
      | inl some ↦ absurd (let z : false ≡ true = some in cc)
      | inr part ↦ absurd (whole (suc (seat_in h)) part.0 (subst (λ (H : List Entry). IsSomeAnd (last_entry (suc (seat_in h)) H) (IsOpenPart part.0)) answers.began.none.history part.1))
    ]
    by_attempt (Need plan) answers goes tells = inr (
      tells,
      record {
        mid = tries.next.mid;
        plan = plan;
        f = goes.0;
        fits = then-fits;
        needs = answers;
        sends = goes.2;
        is = goes.1;
      },
    )

-- A LANE WITH A TRANSFER OUT, for its next call, and what was still to come as it needed that
record Pending (frames : ℕ) (u : KernelState) (lane : LaneSeen) (turns : ℕ) : Type 0 where
  call : Call
  next : next_call lane ≡ Some call
  s : KernelState
  opening : Flat
  sound : IsSoundStore s.memory.world.store
  needs : Needs opening s u lane.seat call lane.flight
  most : ℕ
  comes : Comes s.memory (lane.seat + 1) call most
  enough : 2 * most + (2 * frames + 8) * behind lane ≤ turns
  some : 1 ≤ most

-- THE FIRST TURN
first-turn : (frames : ℕ) (s u : KernelState) (lane after : LaneSeen) (turns : ℕ) → StaysAlone frames s lane → lane.flight ≡ None → Bound frames s lane (suc turns) → TakesLaneTurn s u lane after
    → ((after.flight ≡ None) × Bound frames u after turns) ⊎ Pending frames u after turns
first-turn frames s u lane after turns stays idle bound turn = by_call (next_call lane) refl (subst (λ (f : Option FlightSeen). TurnsBy f (next_call lane) s u lane after) idle turn.turns)
  where
    stayed : StaysAlone frames u after
    stayed = stays-alone frames s u lane after stays turn

    fits : StateFits stays.alone.opening s no_seats
    fits = subst (λ (x : Seats). StateFits stays.alone.opening s x) (none-outside lane idle) stays.alone.fits

    by_try : (call : Call) (done : Bool) (flight : Option FlightSeen) → next_call lane ≡ Some call → after ≡ lane_after lane done flight
        → ((done ≡ true) × (flight ≡ None)) ⊎ ((done ≡ false) × Needs stays.alone.opening s u lane.seat call flight) → ((after.flight ≡ None) × Bound frames u after turns) ⊎ Pending frames u after turns
    by_try call done flight at is (inl answered) =
        let b = bound call at in
        let low = b.2 in
        let sum : turns_enough frames after ≡ (2 * frames + 8) * behind lane = ap (turns_enough frames) (is ∙ ap (λ (x : Bool). lane_after lane x flight) answered.0) in
        inl (ap (λ (l : LaneSeen). l.flight) is ∙ answered.1, fresh-bound frames u after turns stayed.count (omega (arith, low, sum)))
    by_try call done flight at is (inr need) =
        let b = bound call at in
        let same : after ≡ record lane { flight = flight } = is ∙ ap (λ (x : Bool). lane_after lane x flight) need.0 in
        let n = need.1 in
        let some = need-some stays.alone.opening s n.mid lane.seat call n.plan n.fits fits.memory.frames.sound n.needs b.0 b.1 in
        let low = b.2 in
        inr (subst (λ (l : LaneSeen). Pending frames u l turns) (sym same) (record {
          call = call;
          next = at;
          s = s;
          opening = stays.alone.opening;
          sound = fits.memory.frames.sound;
          needs = n;
          most = b.0;
          comes = b.1;
          enough = omega (arith, low);
          some = some;
        }))

    by_call : (call : Option Call) → next_call lane ≡ call → TurnsBy None call s u lane after → ((after.flight ≡ None) × Bound frames u after turns) ⊎ Pending frames u after turns
    by_call None at turns = inl (ap (λ (l : LaneSeen). l.flight) turns.1 ∙ idle, λ call next. absurd (let z : ◌≡◌ {A = Option Call} None (Some call) = sym (ap next_call turns.1 ∙ at) ∙ next in cc))
    by_call (Some call) at turns = by_try call turns.0 turns.1 at turns.3 (tried stays.alone.opening s u lane.seat call turns.0 turns.1 fits stays.alone.whole turns.2)

-- THE SECOND TURN
landed : (u v : KernelState) (lane after : LaneSeen) (f : FlightSeen) (call : Call) → lane.flight ≡ Some f → next_call lane ≡ Some call → TakesLaneTurn u v lane after
    → (done : Bool) × LandsLaneFlight u v lane.seat call f done × (after ≡ lane_after lane done None)
landed u v lane after f call out at turn = subst (λ (o : Option FlightSeen). TurnsBy o (Some call) u v lane after) out (subst (λ (c : Option Call). TurnsBy lane.flight c u v lane after) at turn.turns)

second-turn : (frames : ℕ) (u v : KernelState) (lane after : LaneSeen) (turns : ℕ) → StaysAlone frames u lane → Pending frames u lane (suc turns) → TakesLaneTurn u v lane after → (after.flight ≡ None) × Bound frames v after turns
second-turn frames u v lane after turns stays p turn =
    let n = p.needs in
    let land = landed u v lane after n.f p.call n.is p.next turn in (
      ap (λ (l : LaneSeen). l.flight) land.2,
      by_done land.0 land.2 (elim (round-falls p.opening p.s n.mid lane.seat p.call n.plan n.fits p.sound n.needs u v n.f n.sends land.1.lands.comes p.most p.comes) [
        | inl lost ↦ inl (land.1.tells ∙ ap is_some land.1.lands.tells ∙ ap (λ (o : Progress). is_some (error_at_end land.1.lands.comes.back o)) lost)
        | inr less ↦ inr less
      ]),
    )
  where
    stayed : StaysAlone frames v after
    stayed = stays-alone frames u v lane after stays turn

    answered : after ≡ lane_after lane true None → Bound frames v after turns
    answered is =
        let enough = p.enough in
        let some = p.some in
        let sum : turns_enough frames after ≡ (2 * frames + 8) * behind lane = ap (turns_enough frames) is in
        fresh-bound frames v after turns stayed.count (omega (arith, enough, some, sum))

    by_done : (done : Bool) → after ≡ lane_after lane done None → (done ≡ true) ⊎ ((less : ℕ) × Comes v.memory (lane.seat + 1) p.call less × (suc less ≤ p.most)) → Bound frames v after turns
    by_done true is one = answered is
    by_done false is (inl same) = absurd (let z : false ≡ true = same in cc)
    by_done false is (inr less) = λ call next.
        let same : call ≡ p.call = (let z : ◌≡◌ {A = Option Call} (Some call) (Some p.call) = sym next ∙ ap next_call is ∙ p.next in cc) in
        let enough = p.enough in
        let fewer = less.2 in (
          less.0,
          subst (λ (l : LaneSeen). Comes v.memory (l.seat + 1) call less.0) (sym is) (subst (λ (c : Call). Comes v.memory (lane.seat + 1) c less.0) (sym same) less.1),
          subst (λ (l : LaneSeen). 2 * less.0 + 1 + (2 * frames + 8) * behind l ≤ turns) (sym is) (omega (arith, enough, fewer)),
        )

-- no call is left where none is next
pub left-none : (lane : LaneSeen) → next_call lane ≡ None → calls_left lane ≡ 0
left-none lane none = elim (leb_or lane.done (length lane.calls)) [
  | inl past ↦ omega (arith, past)
  | inr within ↦ absurd (let z : ◌≡◌ {A = Option Call} None (Some _) = sym none ∙ slice_get-get_or lane.calls lane.done Exit within in cc)
]
  where
    leb_or : (k n : ℕ) → (n ≤ k) ⊎ (k < n)
    leb_or k zero = inl (omega arith)
    leb_or zero (suc n) = inr (omega arith)
    leb_or (suc k) (suc n) = elim (leb_or k n) [ inl x ↦ inl (omega (arith, x)) | inr x ↦ inr (omega (arith, x)) ]

-- ALL TURNS
ends : (frames : ℕ) (order : List ℕ) (s t : KernelState) (lane : LaneSeen) (new : List LaneSeen) → StaysAlone frames s lane → lane.flight ≡ None → Bound frames s lane (length order) → Drives order s t (lane ∷ []) new → IsAllDone new
ends frames [] s t lane new stays idle bound drives = (lane, drives.1, by_call (next_call lane) refl)
  where
    by_call : (c : Option Call) → next_call lane ≡ c → calls_left lane ≡ 0
    by_call None at = left-none lane at
    by_call (Some call) at = absurd (let low = (bound call at).2 in omega (arith, low))
ends frames (n ∷ []) s t lane new stays idle bound drives =
    let one = one-step n s drives.0 lane drives.1 drives.2 in
    let rest = subst (λ (ls : List LaneSeen). Drives [] drives.0 t ls new) one.1 drives.3 in
    elim (first-turn frames s drives.0 lane one.0 0 stays idle bound one.2) [
      | inl on ↦ ends frames [] drives.0 t one.0 new (stays-alone frames s drives.0 lane one.0 stays one.2) on.0 on.1 rest
      | inr out ↦ absurd (let enough = out.enough in let some = out.some in omega (arith, enough, some))
    ]
ends frames (n ∷ k ∷ order) s t lane new stays idle bound drives =
    let one = one-step n s drives.0 lane drives.1 drives.2 in
    let rest = subst (λ (ls : List LaneSeen). Drives (k ∷ order) drives.0 t ls new) one.1 drives.3 in
    let stayed = stays-alone frames s drives.0 lane one.0 stays one.2 in
    elim (first-turn frames s drives.0 lane one.0 (suc (length order)) stays idle bound one.2) [
      | inl on ↦ ends frames (k ∷ order) drives.0 t one.0 new stayed on.0 on.1 rest
      | inr out ↦
          let two = one-step k drives.0 rest.0 one.0 rest.1 rest.2 in
          let last = subst (λ (ls : List LaneSeen). Drives order rest.0 t ls new) two.1 rest.3 in
          let back = second-turn frames drives.0 rest.0 one.0 two.0 (length order) stayed out two.2 in
          ends frames order rest.0 t two.0 new (stays-alone frames drives.0 rest.0 one.0 two.0 stayed two.2) back.0 back.1 last
    ]

-- A LANE THAT BEGINS with a transfer of its own
ends-out : (frames : ℕ) (order : List ℕ) (s t : KernelState) (lane : LaneSeen) (new : List LaneSeen) (f : FlightSeen) → StaysAlone frames s lane → lane.flight ≡ Some f → turns_enough frames lane ≤ length order → Drives order s t (lane ∷ []) new
    → IsAllDone new
ends-out frames [] s t lane new f stays out enough drives = (lane, drives.1, by_call (next_call lane) refl)
  where
    by_call : (c : Option Call) → next_call lane ≡ c → calls_left lane ≡ 0
    by_call None at = left-none lane at
    by_call (Some call) at = absurd (let sum = left-sum frames lane call at in omega (arith, enough, sum))
ends-out frames (n ∷ order) s t lane new f stays out enough drives =
    let one = one-step n s drives.0 lane drives.1 drives.2 in
    by_call (next_call lane) refl one.0 one.2 (subst (λ (ls : List LaneSeen). Drives order drives.0 t ls new) one.1 drives.3)
  where
    by_call : (c : Option Call) → next_call lane ≡ c → (after : LaneSeen) → TakesLaneTurn s drives.0 lane after → Drives order drives.0 t (after ∷ []) new → IsAllDone new
    by_call None at after turn rest = absurd (subst (λ (o : Option FlightSeen). TurnsBy o None s drives.0 lane after) out (subst (λ (c : Option Call). TurnsBy lane.flight c s drives.0 lane after) at turn.turns))
    by_call (Some call) at after turn rest =
        let land = landed s drives.0 lane after f call out at turn in
        let stayed = stays-alone frames s drives.0 lane after stays turn in
        ends frames order drives.0 t after new stayed (ap (λ (l : LaneSeen). l.flight) land.2) (by_done land.0 land.2 stayed.count) rest
      where
        by_done : (done : Bool) → after ≡ lane_after lane done None → length drives.0.memory.world.store.frames ≡ frames → Bound frames drives.0 after (length order)
        by_done true is count =
            let sum = left-sum frames lane call at in
            let now : turns_enough frames after ≡ (2 * frames + 8) * behind lane = ap (turns_enough frames) is in
            fresh-bound frames drives.0 after (length order) count (omega (arith, enough, sum, now))
        by_done false is count =
            let now : turns_enough frames after ≡ turns_enough frames lane = ap (turns_enough frames) is in
            fresh-bound frames drives.0 after (length order) count (omega (arith, enough, now))

-- THE LANE COMES TO ITS END.
pub alone-ends : (order : List ℕ) (s t : KernelState) (lane : LaneSeen) (new : List LaneSeen) → IsAlone s lane → turns_enough (length s.memory.world.store.frames) lane ≤ length order → Drives order s t (lane ∷ []) new → IsAllDone new
alone-ends order s t lane new alone enough drives = by_flight lane.flight refl
  where
    stays : StaysAlone (length s.memory.world.store.frames) s lane
    stays = record { alone = alone; count = refl }

    by_flight : (o : Option FlightSeen) → lane.flight ≡ o → IsAllDone new
    by_flight None idle = ends (length s.memory.world.store.frames) order s t lane new stays idle (fresh-bound (length s.memory.world.store.frames) s lane (length order) refl (omega (arith, enough))) drives
    by_flight (Some f) out = ends-out (length s.memory.world.store.frames) order s t lane new f stays out enough drives
