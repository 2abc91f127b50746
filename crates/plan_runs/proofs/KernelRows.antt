-- The row of a kernel's callers, from its start to its close.
use Rattle.std.proofs.Common.{◌≡◌, ℕ, zero, suc, ◌+◌, ◌<◌, ◌≤◌, Bool, true, List, [], ◌∷◌, ◌++◌, length, map, replicate, Option, None, refl, sym, ap, ◌∙◌, subst, arith, length-append}
use Rattle.std.specs.Prelude.{All}
use Rattle.std.proofs.lemmas.List.Elements.{All-nil, All-cons}
use mathlib.Core.Option.{some}
use lib.ListN.{get_elem?}
use Rattle.kernel_lock.specs.Seats.{HasAll, newcomer}
use Rattle.kernel_lock.specs.declared.board.SeatPart.{SeatPart}
use Rattle.volume_files.specs.block_device.DiskSeen.{DiskSeen}
use Rattle.volume_files.specs.flat_model.Flat.{Flat}
use Rattle.volume_files.specs.vm_types.declared.call.Entry.{Entry}
use Rattle.volume_files.specs.flat_model.Told.{entries_of}
use Rattle.volume_files.specs.vm_script.Blocks.{AreProcessBlocks}
use Rattle.volume_files.specs.vm_script.Counts.{entry_count}
use Rattle.volume_files.specs.vm_script.PlanSeen.{PlanSeen}
use Rattle.volume_files.specs.vm_script.Told.{Told, ToldFront, own_lines}
use Rattle.volume_files.specs.vnode_files.Files.{FilesSeen}
use Rattle.vm_core.proofs.vm_world.Told.{event_law}
use Rattle.vm_core.specs.vm_world.Events.{IsSince}
use Rattle.vm_core.specs.vm_world.Opening.{no_seats}
use Rattle.vm_core.specs.vm_world.State.{Fixed, KernelState, Sent, room_of}
use Rattle.vm_kernel.specs.Callers.{CallerSeen, IsCallerOf, KernelSeen, caller_part}
use Rattle.vm_kernel.specs.Rooms.{callers_from}
use Rattle.vm_kernel.specs.Since.{IsSinceOpening}
use Rattle.block_runs.specs.Callers.{IsCaller, IsClock, rooms, tree}
use Rattle.block_runs.specs.Rows.{AreFresh, AreNumbered, AreBlocksReady}
use Rattle.run_kernel.specs.Played.{HasPlayed, IsStarted, rooms_from}
use Rattle.run_input.specs.Reading.{IsPlayable}
use Rattle.plan_runs.proofs.FitLines.{fit-all}
use Rattle.plan_runs.proofs.Histories.{all-formed, few-entries}

-- THE CALLERS AT THE START: those of the processes, and the last, which moves the clock
pub record IsNewRow (k : KernelSeen) (j n : ℕ) (front : List CallerSeen) (last : CallerSeen) : Type 0 where
  pub numbered : AreNumbered k (j + 1) front
  pub fresh : AreFresh front
  pub count : length front ≡ n
  pub clock : IsClock k last
  pub new : last ≡ record { seat = newcomer k (j + n); process = 0 }
  pub number : last.seat.number ≡ j + n

length-callers : (k : KernelSeen) (j : ℕ) (es : List ℕ) → length (callers_from k j (rooms_from j es)) ≡ length es + 1
length-callers k j [] = refl
length-callers k j (e ∷ es) = let rest = length-callers k (suc j) es in omega (arith, rest)

pub new-row : (k : KernelSeen) (j : ℕ) (es : List ℕ) (front : List CallerSeen) (last : CallerSeen) → callers_from k j (rooms_from j es) ≡ front ++ last ∷ [] → IsNewRow k j (length es) front last
new-row k j [] [] last is =
    let here : record { seat = newcomer k j; process = 0 } ≡ last = cc in
    record {
      numbered = tt;
      fresh = tt;
      count = refl;
      clock = subst (IsClock k) here (record { of = (refl, refl, refl); free = refl });
      new = subst (λ (i : ℕ). last ≡ record { seat = newcomer k i; process = 0 }) (let z : j ≡ j + 0 = omega arith in z) (sym here);
      number = sym (ap (λ (c : CallerSeen). c.seat.number) here) ∙ (let z : j ≡ j + 0 = omega arith in z);
    }
new-row k j [] (v ∷ vs) last is = absurd (let long = ap (λ (cs : List CallerSeen). length cs) is in let more = length-append vs (last ∷ []) in omega (arith, long, more))
new-row k j (e ∷ es) [] last is = absurd (let long = ap (λ (cs : List CallerSeen). length cs) is in let rest = length-callers k (suc j) es in omega (arith, long, rest))
new-row k j (e ∷ es) (v ∷ vs) last is =
    let here : record { seat = newcomer k j; process = suc j } ≡ v = cc in
    let later : callers_from k (suc j) (rooms_from (suc j) es) ≡ vs ++ last ∷ [] = cc in
    let rest = new-row k (suc j) es vs last later in
    let count = rest.count in
    let number = rest.number in
    record {
      numbered = (
        (
          sym (ap (λ (c : CallerSeen). c.process) here) ∙ (let z : suc j ≡ j + 1 = omega arith in z),
          subst (IsCaller k) here (record { of = (refl, refl, refl); named = refl; free = refl; own = refl }),
        ),
        subst (λ (n : ℕ). AreNumbered k n vs) (let z : suc j + 1 ≡ j + 1 + 1 = omega arith in z) rest.numbered,
      );
      fresh = (sym (ap (λ (c : CallerSeen). c.seat.seen) here), rest.fresh);
      count = omega (arith, count);
      clock = rest.clock;
      new = subst (λ (i : ℕ). last ≡ record { seat = newcomer k i; process = 0 }) (let z : suc j + length es ≡ j + length (e ∷ es) = omega arith in z) rest.new;
      number = omega (arith, number);
    }

-- there is one at least
pub some-caller : (k : KernelSeen) (es : List ℕ) → callers_from k 0 (rooms_from 0 es) ≡ [] → ⊥
some-caller k es is = let long = ap (λ (cs : List CallerSeen). length cs) is in let all = length-callers k 0 es in omega (arith, long, all)

-- WHAT THE PROCESSES LEFT, which made no entry outside the lines
pub played-since : (plan : PlanSeen) (F : Flat) (disks : List (ℕ × DiskSeen)) (swap : Option DiskSeen) (files : FilesSeen) (s t : KernelState) (whole : Bool) → IsStarted plan F disks swap files s → IsPlayable plan
    → IsSince s t no_seats → (whole ≡ true → Told plan t.history) → ToldFront plan t.history → HasPlayed plan s t whole
played-since plan F disks swap files s t whole st may since told front =
    let fits = since.fits F st.fits in
    let same : t.entries ≡ s.entries = ap (λ (f : Fixed). f.entries) since.fixed in
    let made : (p : ℕ) → length (entries_of t.history p) ≤ room_of s.entries p = λ p. subst (λ (rs : List ℕ). length (entries_of t.history p) ≤ room_of rs p) same (fits.rooms.made p) in
    let most = few-entries t.history s.entries made in
    let few = st.rooms.all in
    record {
      since = since;
      told = told;
      front = front;
      formed = all-formed plan t.history may.sound.acts front;
      few = omega (arith, most, few);
    }

-- ALL BLOCKS may be run
module _ (plan : PlanSeen) (F : Flat) (disks : List (ℕ × DiskSeen)) (swap : Option DiskSeen) (files : FilesSeen) (s : KernelState) (st : IsStarted plan F disks swap files s)
    (may : IsPlayable plan) (k : KernelSeen) (opening : k.opening ≡ s) where
  pub same-tree : tree k ≡ plan.parents
  same-tree = ap (λ (t : KernelState). t.parents) opening ∙ st.parents

  pub same-rooms : rooms k ≡ s.entries
  same-rooms = ap (λ (t : KernelState). t.entries) opening

  pub are-ready : (callers : List CallerSeen) → AreNumbered k 1 callers → AreFresh callers → length callers ≡ length s.entries → AreBlocksReady k plan.lines callers 1
  are-ready callers numbered fresh count =
      let few = st.blocks in
      let same = st.count in
      record {
        numbered = numbered;
        fresh = fresh;
        blocks = subst (λ (n : ℕ). AreProcessBlocks (tree k) 1 plan.lines n) (let z : length plan.parents + 1 ≡ 1 + length callers = omega (arith, count, same) in z)
            (subst (λ (ps : List ℕ). AreProcessBlocks ps 1 plan.lines (length plan.parents + 1)) (sym same-tree) may.sound.nests);
        few = omega (arith, count, same, few);
        some = omega arith;
        fit = record {
          room = λ q. subst (λ (rs : List ℕ). entry_count (own_lines plan q) ≤ room_of rs q) (sym same-rooms) (st.rooms.each q);
          acts = fit-all plan.lines may.sound.acts;
        };
      }

  -- WHAT THE PROCESSES LEFT
  pub played-blocks : (t : KernelState) (whole : Bool) → IsSinceOpening k.opening t (replicate k.seats None) → (whole ≡ true → Told plan t.history) → ToldFront plan t.history
      → HasPlayed plan s t whole
  played-blocks t whole still told front =
      played-since plan F disks swap files s t whole st may (subst (λ (o : KernelState). IsSince o t no_seats) opening (subst (IsSince k.opening t) (event_law.none k.seats) still)) told front

-- THE CALLERS AT THE CLOSE
pub all-callers : (k : KernelSeen) (n : ℕ) (row : List CallerSeen) (last : CallerSeen) → AreNumbered k n row → IsClock k last → All (λ (it : CallerSeen). IsCallerOf k it) (row ++ last ∷ [])
all-callers k n [] last numbered clock = All-cons (λ (it : CallerSeen). IsCallerOf k it) last [] clock.of (All-nil (λ (it : CallerSeen). IsCallerOf k it))
all-callers k n (v ∷ row) last numbered clock = All-cons (λ (it : CallerSeen). IsCallerOf k it) v (row ++ last ∷ []) numbered.0.1.of (all-callers k (n + 1) row last numbered.1 clock)

pub all-free : (k : KernelSeen) (n : ℕ) (row : List CallerSeen) (last : CallerSeen) → AreNumbered k n row → IsClock k last → All (λ (it : CallerSeen). it.seat.note ≡ None) (row ++ last ∷ [])
all-free k n [] last numbered clock = All-cons (λ (it : CallerSeen). it.seat.note ≡ None) last [] clock.free (All-nil (λ (it : CallerSeen). it.seat.note ≡ None))
all-free k n (v ∷ row) last numbered clock = All-cons (λ (it : CallerSeen). it.seat.note ≡ None) v (row ++ last ∷ []) numbered.0.1.free (all-free k (n + 1) row last numbered.1 clock)

seat-at : (k : KernelSeen) (j : ℕ) (row : List CallerSeen) (last : CallerSeen) → AreNumbered k (j + 1) row → last.seat.number ≡ j + length row → (i : ℕ) → i < length row + 1
    → (p : SeatPart Entry Sent) × (get_elem? (map caller_part (row ++ last ∷ [])) i ≡ some p) × (p.number ≡ j + i)
seat-at k j [] last numbered number zero lt = (caller_part last, refl, number)
seat-at k j [] last numbered number (suc i) lt = absurd (omega (arith, lt))
seat-at k j (v ∷ row) last numbered number zero lt =
    let process = numbered.0.0 in
    let named = numbered.0.1.named in
    (caller_part v, refl, let z : v.seat.number ≡ j + 0 = omega (arith, process, named) in z)
seat-at k j (v ∷ row) last numbered number (suc i) lt =
    let rest = seat-at k (suc j) row last (subst (λ (n : ℕ). AreNumbered k n row) (let z : j + 1 + 1 ≡ suc j + 1 = omega arith in z) numbered.1) (omega (arith, number)) i (omega (arith, lt)) in
    let at = rest.2 in
    (rest.0, rest.1, let z : rest.0.number ≡ j + suc i = omega (arith, at) in z)

pub has-all : (k : KernelSeen) (row : List CallerSeen) (last : CallerSeen) → AreNumbered k 1 row → last.seat.number ≡ length row → k.seats ≡ length row + 1 → HasAll k.seats (map caller_part (row ++ last ∷ []))
has-all k row last numbered number seats = λ i lt.
    let here = seat-at k 0 row last numbered (omega (arith, number)) i (omega (arith, lt, seats)) in
    let at = here.2 in
    (i, here.0, here.1, let z : here.0.number ≡ i = omega (arith, at) in z)
