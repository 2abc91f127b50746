-- WHAT AN ORDER OF TURNS KEEPS: the fit, and what each lane's process has made.
use Rattle.std.proofs.Common.{◌≡◌, ◌≢◌, ℕ, zero, suc, ◌==◌, ◌+◌, ◌-◌, ◌<◌, ◌≤◌, Bool, true, cond, List, [], ◌∷◌, ◌++◌, take, drop, Option, Some, refl, sym, ap, ◌∙◌, ◌⊎◌, inl, inr, subst, arith}
use Rattle.std.specs.Prelude.{slice_get, if◌then◌else◌}
use Rattle.std.proofs.lemmas.List.{append_assoc, append-nil, map-append}
use Rattle.std.proofs.lemmas.Option.{slice_get_within}
use Rattle.std.proofs.Math.Seq.{take-add}
use Rattle.fault_entry.specs.vm_types.declared.call.Call.{Call}
use Rattle.fault_entry.specs.vm_types.declared.call.Entry.{Entry}
use Rattle.fault_entry.specs.flat_model.Flat.{Flat}
use Rattle.fault_entry.specs.flat_model.Told.{entries_of}
use Rattle.fault_entry.proofs.flat_model.Replays.{entries_of-append}
use Rattle.fault_entry.specs.vm_world.State.{KernelState, Seats}
use Rattle.fault_entry.specs.vm_world.StateFits.{StateFits}
use Rattle.fault_entry.proofs.page_store.FrameLaws.{eq-far as is-other, eq-same}
use Rattle.lane_driver.specs.Drives.{Drives, HasMadeCalls, HaveMadeCalls, StepsLane}
use Rattle.lane_driver.specs.Lanes.{LaneSeen, HaveOwnSeats, lane_process, with_lanes}
use Rattle.lane_driver.specs.LaneTurns.{TakesLaneTurn}
use Rattle.lane_driver.proofs.Adds.{TurnAdds, turn-adds}
use Rattle.lane_driver.proofs.OwnSeats.{at-lane, own-set, set-lane, still-at}

pub turn-seat : (s t : KernelState) (lane new : LaneSeen) → TakesLaneTurn s t lane new → new.seat ≡ lane.seat
turn-seat s t lane new turn = ap (λ (l : LaneSeen). l.seat) (turn-adds s t lane new turn).is

pub step-own : (n : ℕ) (s t : KernelState) (lanes new : List LaneSeen) → StepsLane n s t lanes new → HaveOwnSeats lanes → HaveOwnSeats new
step-own n s t lanes new step own = subst HaveOwnSeats (sym step.set) (own-set lanes n step.lane step.after step.there (turn-seat s t step.lane step.after step.turn) own)

-- THE FIT
pub step-fits : (n : ℕ) (s t : KernelState) (lanes new : List LaneSeen) (opening : Flat) (seats : Seats) → StepsLane n s t lanes new → HaveOwnSeats lanes → StateFits opening s (with_lanes seats lanes) → StateFits opening t (with_lanes seats new)
step-fits n s t lanes new opening seats step own fits =
    subst (λ (ls : List LaneSeen). StateFits opening t (with_lanes seats ls)) (sym step.set)
    (subst (λ (x : Seats). StateFits opening t x) (set-lane seats step.lane step.after (turn-seat s t step.lane step.after step.turn) lanes n own step.there)
    (step.turn.event.fits opening (with_lanes seats lanes) (at-lane seats lanes n step.lane own step.there) fits))

pub drives-fits : (order : List ℕ) (s t : KernelState) (lanes new : List LaneSeen) (opening : Flat) (seats : Seats) → Drives order s t lanes new → HaveOwnSeats lanes → StateFits opening s (with_lanes seats lanes) → StateFits opening t (with_lanes seats new)
drives-fits [] s t lanes new opening seats drives own fits =
    subst (λ (ls : List LaneSeen). StateFits opening t (with_lanes seats ls)) (sym drives.1) (subst (λ (x : KernelState). StateFits opening x (with_lanes seats lanes)) (sym drives.0) fits)
drives-fits (n ∷ order) s t lanes new opening seats drives own fits =
    drives-fits order drives.0 t drives.1 new opening seats drives.3 (step-own n s drives.0 lanes drives.1 drives.2 own) (step-fits n s drives.0 lanes drives.1 opening seats drives.2 own fits)

-- THE HISTORY
pub drop-at : (xs : List Call) (n : ℕ) (x : Call) → slice_get xs n ≡ Some x → drop n xs ≡ x ∷ drop (suc n) xs
drop-at [] n x at = absurd (let lt = slice_get_within [] n x at in omega (arith, lt))
drop-at (y ∷ ys) zero x at = ap (λ (c : Call). c ∷ ys) (let same : y ≡ x = cc in same)
drop-at (y ∷ ys) (suc n) x at = drop-at ys n x at

pub one-own : (e : Entry) (p : ℕ) → e.process ≡ p → entries_of (e ∷ []) p ≡ e ∷ []
one-own e p is = ap (λ (b : Bool). cond b (e ∷ []) []) (subst (λ (n : ℕ). (e.process == n) ≡ true) is (eq-same e.process))

pub one-other : (e : Entry) (p : ℕ) → e.process ≢ p → entries_of (e ∷ []) p ≡ []
one-other e p is = ap (λ (b : Bool). cond b (e ∷ []) []) (is-other e.process p is)

none-made : (s t : KernelState) (lane new : LaneSeen) → new.seat ≡ lane.seat → new.calls ≡ lane.calls → new.done ≡ lane.done → entries_of t.history (lane_process lane) ≡ entries_of s.history (lane_process lane) → HasMadeCalls s t lane new
none-made s t lane new seat calls done grown = record {
  seat = seat;
  calls = calls;
  further = omega (arith, done);
  added = [];
  grown = grown ∙ sym (append-nil (entries_of s.history (lane_process lane)));
  made = sym (ap (λ (n : ℕ). take n (drop lane.done lane.calls)) (let z : new.done - lane.done ≡ 0 = omega (arith, done) in z));
}

-- the lane whose turn it was
turn-made : (s t : KernelState) (lane new : LaneSeen) → TurnAdds s t lane new → HasMadeCalls s t lane new
turn-made s t lane new adds = elim adds.adds [
  | inl none ↦ none-made s t lane new (ap (λ (l : LaneSeen). l.seat) adds.is) (ap (λ (l : LaneSeen). l.calls) adds.is)
      (ap (λ (l : LaneSeen). l.done) adds.is ∙ ap (λ (b : Bool). if b then suc lane.done else lane.done) none.0) (ap (λ (H : List Entry). entries_of H (lane_process lane)) none.1)
  | inr one ↦
      let call = one.1.0 in
      let a = one.1.2 in
      let done : new.done ≡ suc lane.done = ap (λ (l : LaneSeen). l.done) adds.is ∙ ap (λ (b : Bool). if b then suc lane.done else lane.done) one.0 in
      record {
        seat = ap (λ (l : LaneSeen). l.seat) adds.is;
        calls = ap (λ (l : LaneSeen). l.calls) adds.is;
        further = omega (arith, done);
        added = a.entry ∷ [];
        grown = ap (λ (H : List Entry). entries_of H (lane_process lane)) a.history ∙ entries_of-append s.history (a.entry ∷ []) (lane_process lane)
            ∙ ap (λ (es : List Entry). entries_of s.history (lane_process lane) ++ es) (one-own a.entry (lane_process lane) a.process);
        made = ap (λ (c : Call). c ∷ []) a.is
            ∙ sym (ap (λ (n : ℕ). take n (drop lane.done lane.calls)) (let z : new.done - lane.done ≡ 1 = omega (arith, done) in z) ∙ ap (take 1) (drop-at lane.calls lane.done call one.1.1));
      }
]

-- .. and every other one
other-made : (s t : KernelState) (lane new one : LaneSeen) → TurnAdds s t lane new → one.seat ≢ lane.seat → HasMadeCalls s t one one
other-made s t lane new one adds far = none-made s t one one refl refl refl (elim adds.adds [
  | inl none ↦ ap (λ (H : List Entry). entries_of H (lane_process one)) none.1
  | inr more ↦
      let a = more.1.2 in
      let own = a.process in
      ap (λ (H : List Entry). entries_of H (lane_process one)) a.history ∙ entries_of-append s.history (a.entry ∷ []) (lane_process one)
      ∙ ap (λ (es : List Entry). entries_of s.history (lane_process one) ++ es) (one-other a.entry (lane_process one) (λ e. far (omega (arith, e, own))))
      ∙ append-nil (entries_of s.history (lane_process one))
])

drop-none : (n : ℕ) → ◌≡◌ {A = List Call} (drop n []) []
drop-none zero = refl
drop-none (suc n) = refl

drop-more : (m n : ℕ) (xs : List Call) → drop n (drop m xs) ≡ drop (m + n) xs
drop-more zero n xs = ap (λ (k : ℕ). drop k xs) (let z : n ≡ 0 + n = omega arith in z)
drop-more (suc m) n [] = drop-none n ∙ sym (drop-none (suc m + n))
drop-more (suc m) n (x ∷ xs) = drop-more m n xs ∙ ap (λ (k : ℕ). drop k (x ∷ xs)) (let z : suc (m + n) ≡ suc m + n = omega arith in z)

-- one stretch and then another
then-made : (s u t : KernelState) (lane mid new : LaneSeen) → HasMadeCalls s u lane mid → HasMadeCalls u t mid new → HasMadeCalls s t lane new
then-made s u t lane mid new first later =
    let f = first.further in
    let l = later.further in
    let own : (H : List Entry) → entries_of H (lane_process mid) ≡ entries_of H (lane_process lane) = λ H. ap (λ (k : ℕ). entries_of H (k + 1)) first.seat in
    record {
      seat = later.seat ∙ first.seat;
      calls = later.calls ∙ first.calls;
      further = omega (arith, f, l);
      added = first.added ++ later.added;
      grown = sym (own t.history) ∙ later.grown ∙ ap (λ (es : List Entry). es ++ later.added) (own u.history ∙ first.grown)
          ∙ append_assoc (entries_of s.history (lane_process lane)) first.added later.added;
      made = map-append (λ (e : Entry). e.call) first.added later.added
          ∙ (λ i. first.made i ++ (later.made ∙ ap (λ (cs : List Call). take (new.done - mid.done) (drop mid.done cs)) first.calls
          ∙ ap (take (new.done - mid.done)) (ap (λ (n : ℕ). drop n lane.calls) (let z : mid.done ≡ lane.done + (mid.done - lane.done) = omega (arith, f) in z) ∙ sym (drop-more lane.done (mid.done - lane.done) lane.calls))) i)
          ∙ sym (take-add (mid.done - lane.done) (new.done - mid.done) (drop lane.done lane.calls))
          ∙ ap (λ (n : ℕ). take n (drop lane.done lane.calls)) (let z : (mid.done - lane.done) + (new.done - mid.done) ≡ new.done - lane.done = omega (arith, f, l) in z);
    }

step-made : (n : ℕ) (s t : KernelState) (lanes new : List LaneSeen) → StepsLane n s t lanes new → HaveOwnSeats lanes → (k : ℕ) (lane : LaneSeen) → slice_get lanes k ≡ Some lane
    → (mid : LaneSeen) × (slice_get new k ≡ Some mid) × HasMadeCalls s t lane mid
step-made n s t lanes new step own k lane at =
    let still = still-at lanes n step.lane step.after step.there k lane at in
    let adds = turn-adds s t step.lane step.after step.turn in (
      still.0,
      ap (λ (ls : List LaneSeen). slice_get ls k) step.set ∙ still.1,
      elim still.2 [
        | inl y ↦
            let same : step.lane ≡ lane = some-lane (sym step.there ∙ ap (slice_get lanes) (sym y.0) ∙ at) in
            subst (λ (l : LaneSeen). HasMadeCalls s t lane l) (sym y.1) (subst (λ (l : LaneSeen). HasMadeCalls s t l step.after) same (turn-made s t step.lane step.after adds))
        | inr x ↦ subst (λ (l : LaneSeen). HasMadeCalls s t lane l) (sym x.1) (other-made s t step.lane step.after lane adds (λ e. x.0 (own k n lane step.lane at step.there e)))
      ],
    )
  where
    some-lane : {a b : LaneSeen} → ◌≡◌ {A = Option LaneSeen} (Some a) (Some b) → a ≡ b
    some-lane e = cc

pub drives-made : (order : List ℕ) (s t : KernelState) (lanes new : List LaneSeen) → Drives order s t lanes new → HaveOwnSeats lanes → HaveMadeCalls s t lanes new
drives-made [] s t lanes new drives own k lane after at now =
    let same : after ≡ lane = (let z : ◌≡◌ {A = Option LaneSeen} (Some after) (Some lane) = sym now ∙ ap (λ (ls : List LaneSeen). slice_get ls k) drives.1 ∙ at in cc) in
    none-made s t lane after (ap (λ (l : LaneSeen). l.seat) same) (ap (λ (l : LaneSeen). l.calls) same) (ap (λ (l : LaneSeen). l.done) same) (ap (λ (x : KernelState). entries_of x.history (lane_process lane)) drives.0)
drives-made (n ∷ order) s t lanes new drives own k lane after at now =
    let first = step-made n s drives.0 lanes drives.1 drives.2 own k lane at in
    then-made s drives.0 t lane first.0 after first.2 (drives-made order drives.0 t drives.1 new drives.3 (step-own n s drives.0 lanes drives.1 drives.2 own) k first.0 after first.1 now)

-- ONE TURN MORE behind an order
pub drives-more : (order : List ℕ) (n : ℕ) (s u t : KernelState) (lanes mid new : List LaneSeen) → Drives order s u lanes mid → StepsLane n u t mid new → Drives (order ++ n ∷ []) s t lanes new
drives-more [] n s u t lanes mid new drives step =
    (t, new, subst (λ (ls : List LaneSeen). StepsLane n s t ls new) drives.1 (subst (λ (x : KernelState). StepsLane n x t mid new) drives.0 step), (refl, refl))
drives-more (k ∷ order) n s u t lanes mid new drives step = (drives.0, drives.1, drives.2, drives-more order n drives.0 u t drives.1 mid new drives.3 step)

pub take-next : (order : List ℕ) (i n : ℕ) → slice_get order i ≡ Some n → take (suc i) order ≡ take i order ++ n ∷ []
take-next [] i n at = absurd (let lt = slice_get_within [] i n at in omega (arith, lt))
take-next (k ∷ order) zero n at = ap (λ (x : ℕ). x ∷ []) (let same : k ≡ n = cc in same)
take-next (k ∷ order) (suc i) n at = ap (λ (xs : List ℕ). k ∷ xs) (take-next order i n at)
