-- ROWS OF CALLERS, each with its process's calls.
use Rattle.std.proofs.Common.{◌≡◌, ℕ, zero, suc, ◌+◌, ◌-◌, ◌<◌, ◌≤◌, true, false, List, [], ◌∷◌, ◌++◌, length, map, replicate, Option, Some, None, refl, sym, ap, ◌∙◌, subst, arith, inl, inr}
use Rattle.std.specs.Prelude.{All, Result, Ok, Err, IfOk, OnErr, slice_get, slice_index, slice_index_or}
use Rattle.std.proofs.lemmas.Bool.{cases_lt}
use Rattle.std.proofs.lemmas.List.{get_or_append_left, get_or-replicate, get_or_push, length-append, length-replicate}
use Rattle.std.proofs.lemmas.Option.{slice_get-get_or}
use mathlib.Core.Option.{some}
use lib.ListN.{get_elem?}
use Rattle.kernel_lock.specs.Seats.{HasAll, newcomer}
use Rattle.vm_core.specs.vm_types.WellFormed.{IsWellFormed}
use Rattle.vm_core.specs.vm_types.declared.call.Call.{Call}
use Rattle.vm_core.specs.vm_types.declared.call.Reply.{Reply}
use Rattle.vm_core.specs.vm_world.State.{KernelState, process_parent, room_of}
use Rattle.vm_kernel.specs.Callers.{KernelSeen, CallerSeen, IsCallerOf, caller_part}
use Rattle.vm_kernel.specs.Rooms.{AreRooms, callers_from}
use Rattle.vm_kernel.specs.Turns.{MayCall, CallerGoesOn, IsCallDone, IsForCall, LacksMemory}
use Rattle.vm_kernel.specs.declared.starting.Room.{Room}
use Rattle.test_threads.specs.Workers.{IsTurnCall, IsWorking}
use Rattle.test_threads.proofs.Working.{working-new, may-turn, working-done, works-lacking}
use Rattle.bench_kernel.specs.Calls.{AreFirstRooms, HasCalls, AllHaveCalls}

-- AT THE START
pub rooms-none : (entries : ℕ) → AreFirstRooms 0 entries []
rooms-none entries = record { count = refl; each = λ k d lt. absurd (omega (arith, lt)) }

pub rooms-more : (n m entries : ℕ) (rooms : List Room) (room : Room) → m ≡ n + 1 → room ≡ record { process = n + 1; entries = entries } → AreFirstRooms n entries rooms → AreFirstRooms m entries (rooms ++ room ∷ [])
rooms-more n m entries rooms room more is first = record {
  count = length-append rooms (room ∷ []) ∙ (let count = first.count in omega (arith, count, more));
  each = each;
}
  where
    each : (k : ℕ) (d : Room) → k < m → slice_index_or (rooms ++ room ∷ []) k d ≡ record { process = suc k; entries = entries }
    each k d lt = elim (cases_lt k n) [
      | inl low ↦ get_or_append_left rooms (room ∷ []) d k (let count = first.count in omega (arith, count, low)) ∙ first.each k d low
      | inr high ↦
          let here : k ≡ n = omega (arith, lt, more, high) in
          get_or_push rooms room d k (first.count ∙ sym here) ∙ is ∙ ap (λ (x : ℕ). record { process = x; entries = entries }) (omega (arith, here))
    ]

pub rooms-of : (n entries : ℕ) (all : List ℕ) (rooms : List Room) → AreFirstRooms n entries rooms → all ≡ replicate n entries → AreRooms all rooms
rooms-of n entries all rooms first is k d lt =
    let here = first.each k d (subst (λ (m : ℕ). k < m) first.count lt) in
    let long : length (replicate n entries) ≡ n = length-replicate n entries in
    let count = first.count in
    let inside : k < length (replicate n entries) = omega (arith, lt, count, long) in
    inl (
      ap (λ (r : Room). r.process) here,
      ap (λ (l : List ℕ). slice_get l k) is ∙ slice_get-get_or (replicate n entries) k entries inside
          ∙ ap (λ (x : ℕ). Some x) (get_or-replicate n k entries entries (subst (λ (m : ℕ). k < m) first.count lt) ∙ sym (ap (λ (r : Room). r.entries) here)),
    )

callers-length : (k : KernelSeen) (i : ℕ) (rooms : List Room) → length (callers_from k i rooms) ≡ length rooms
callers-length k i [] = refl
callers-length k i (r ∷ rooms) = ap suc (callers-length k (suc i) rooms)

callers-at : (k : KernelSeen) (i j : ℕ) (rooms : List Room) (d : CallerSeen) (e : Room) → j < length rooms
    → slice_index_or (callers_from k i rooms) j d ≡ record { seat = newcomer k (i + j); process = (slice_index_or rooms j e).process }
callers-at k i j [] d e lt = absurd (omega (arith, lt))
callers-at k i zero (r ∷ rooms) d e lt = ap (λ (n : ℕ). record { seat = newcomer k n; process = r.process }) (let same : i ≡ i + 0 = omega arith in same)
callers-at k i (suc j) (r ∷ rooms) d e lt =
    callers-at k (suc i) j rooms d e (omega (arith, lt)) ∙ ap (λ (n : ℕ). record { seat = newcomer k n; process = (slice_index_or rooms j e).process }) (let same : suc i + j ≡ i + suc j = omega arith in same)

module _ (k : KernelSeen) (n entries : ℕ) (rooms : List Room) (first : AreFirstRooms n entries rooms) (parents : k.opening.parents ≡ replicate n 0) (all : k.opening.entries ≡ replicate n entries) where
  room-at : (i : ℕ) → i < n → process_parent k.opening.parents (suc i) ≡ Some 0
  room-at i lt =
      let none : ℕ = 0 in
      let long : length (replicate n none) ≡ n = length-replicate n none in
      ap (λ (l : List ℕ). slice_get l i) parents ∙ slice_get-get_or (replicate n none) i none (omega (arith, lt, long)) ∙ ap (λ (x : ℕ). Some x) (get_or-replicate n i none none lt)

  entries-at : (i : ℕ) → i < n → entries ≤ room_of k.opening.entries (suc i)
  entries-at i lt = let is : room_of k.opening.entries (suc i) ≡ entries = ap (λ (l : List ℕ). slice_index l i) all ∙ get_or-replicate n i entries 0 lt in omega (arith, is)

  begins : (i : ℕ) (c : CallerSeen) → i < n → c ≡ record { seat = newcomer k i; process = suc i } → HasCalls k entries c
  begins i c lt is =
      let new = working-new k c i (suc i) 0 entries is (room-at i lt) (entries-at i lt) in
      record { of = new.0; free = ap (λ (x : CallerSeen). x.seat.note) is; process = suc i; parent = 0; last = None; working = new.1 }

  pub first-callers : (cs : List CallerSeen) → cs ≡ callers_from k 0 rooms → k.seats ≡ length rooms → AllHaveCalls k entries cs
  first-callers cs is seats = subst (AllHaveCalls k entries) (sym is) (record {
    count = callers-length k 0 rooms ∙ sym seats;
    each = λ i d lt. begins i (slice_index_or (callers_from k 0 rooms) i d) (low i lt) (here i d lt);
    order = λ i d lt. ap (λ (x : CallerSeen). x.seat.number) (here i d lt);
  })
    where
      low : (i : ℕ) → i < length (callers_from k 0 rooms) → i < n
      low i lt = let long = callers-length k 0 rooms in let count = first.count in omega (arith, lt, long, count)

      nobody : Room
      nobody = record { process = 0; entries = 0 }

      here : (i : ℕ) (d : CallerSeen) → i < length (callers_from k 0 rooms) → slice_index_or (callers_from k 0 rooms) i d ≡ record { seat = newcomer k i; process = suc i }
      here i d lt =
          let at : 0 + i ≡ i = omega arith in
          let process : (slice_index_or rooms i nobody).process ≡ suc i = ap (λ (r : Room). r.process) (first.each i nobody (low i lt)) in
          let below = low i lt in
          let count = first.count in
          callers-at k 0 i rooms d nobody (omega (arith, below, count)) ∙ (λ j. record { seat = newcomer k (at j); process = process j })

-- ONE CALL FEWER
module _ (k : KernelSeen) (n : ℕ) (c d : CallerSeen) (call : Call) (has : HasCalls k n c) (of : IsCallerOf k d) (goes : CallerGoesOn c d) where
  has-done : (reply : Reply) → MayCall k c call → IsTurnCall call → IsCallDone c call d reply → HasCalls k (n - 1) d
  has-done reply may turn done = record {
    of = of;
    free = done.free;
    process = has.process;
    parent = has.parent;
    last = has.last;
    working = working-done k c d has.process has.parent n true false has.last has.working goes call reply has.last may turn done;
  }

  fewer : (m : ℕ) (x : IsWorking k.opening d has.process has.parent n true false has.last) → m ≤ n → IsWorking k.opening d has.process has.parent m true false has.last
  fewer m x less = record {
    process = x.process;
    parent = x.parent;
    born = x.born;
    here = x.here;
    left = let left = x.left in omega (arith, left, less);
    follows = x.follows;
    childless = x.childless;
    hand = x.hand;
  }

  has-lacked : LacksMemory c call d → HasCalls k (n - 1) d
  has-lacked lacks = record {
    of = of;
    free = lacks.free;
    process = has.process;
    parent = has.parent;
    last = has.last;
    working = fewer (n - 1) (works-lacking k c d has.process has.parent n true false has.last has.working goes call has.last lacks) (omega arith);
  }

  -- by what the call came to
  pub has-called : {E : Type 0} (result : Result Reply E) → MayCall k c call → IsTurnCall call → IfOk result (λ reply. IsCallDone c call d reply) → OnErr result (LacksMemory c call d) → HasCalls k (n - 1) d
  has-called (Ok reply) may turn done lacks = has-done reply may turn done
  has-called (Err e) may turn done lacks = has-lacked lacks

pub may-make : (k : KernelSeen) (n : ℕ) (c : CallerSeen) (call : Call) → HasCalls k n c → 0 < n → IsTurnCall call → IsWellFormed call → MayCall k c call
may-make k n c call has left turn formed =
    may-turn k c has.process has.parent n true false has.last has.working refl left call turn formed (subst (IsForCall has.process call) (sym has.free) tt)

-- AT THE END
pub all-of : (k : KernelSeen) (n : ℕ) (cs : List CallerSeen) → AllHaveCalls k n cs → All (λ it. IsCallerOf k it) cs
all-of k n cs has i d lt = (has.each i d lt).of

pub all-free : (k : KernelSeen) (n : ℕ) (cs : List CallerSeen) → AllHaveCalls k n cs → All (λ it. it.seat.note ≡ None) cs
all-free k n cs has i d lt = (has.each i d lt).free

elem-at : (cs : List CallerSeen) (i : ℕ) (d : CallerSeen) → i < length cs → get_elem? (map caller_part cs) i ≡ some (caller_part (slice_index_or cs i d))
elem-at [] i d lt = absurd (omega (arith, lt))
elem-at (c ∷ cs) zero d lt = refl
elem-at (c ∷ cs) (suc i) d lt = elem-at cs i d (omega (arith, lt))

pub has-all : (k : KernelSeen) (n : ℕ) (cs : List CallerSeen) → AllHaveCalls k n cs → HasAll k.seats (map caller_part cs)
has-all k n cs has j lt =
    let nobody : CallerSeen = record { seat = newcomer k 0; process = 0 } in
    let count = has.count in let inside : j < length cs = omega (arith, lt, count) in
    (j, caller_part (slice_index_or cs j nobody), elem-at cs j nobody inside, has.order j nobody inside)
