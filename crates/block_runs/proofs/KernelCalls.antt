-- The kernel's calls, as blocks see them.
use Rattle.std.proofs.Common.{◌≡◌, ℕ, suc, ◌==◌, ◌<◌, Bool, true, false, List, [], ◌∷◌, ◌++◌, length, Option, Some, None, refl, sym, ap, ◌∙◌, subst, cond, eq-eqb, append-nil, ⊎_elim, inl, arith}
use Rattle.std.specs.Prelude.{MatchOption, IsTrue}
use Rattle.std.specs.List.{AllByRecursion}
use Rattle.std.proofs.lemmas.Bool.{cases_Bool, eqb-true}
use mathlib.Core.List.{IsPrefix}
use Rattle.kernel_lock.specs.Seats.{entries_by}
use Rattle.vm_script.specs.vm_types.declared.call.Call.{Call}
use Rattle.vm_script.specs.vm_types.declared.call.Reply.{Reply}
use Rattle.vm_script.specs.vm_types.declared.call.Entry.{Entry}
use Rattle.vm_script.specs.vm_types.Parts.{ends_call}
use Rattle.vm_script.specs.vm_types.WellFormed.{IsWellFormed}
use Rattle.vm_script.specs.flat_model.OpenLaws.{last_entry, MayFollow, FollowsOn}
use Rattle.vm_script.specs.flat_model.Told.{entries_of}
use Rattle.vm_core.specs.vm_world.SeatLaws.{IsKnownAlive, IsNewChild, MayComeNext}
use Rattle.vm_core.specs.vm_world.ServingLaws.{done_entry}
use Rattle.vm_core.specs.vm_world.State.{seat_of, room_of}
use Rattle.vm_kernel.specs.Callers.{KernelSeen, CallerSeen, IsCallerOf, ShowsOwn}
use Rattle.vm_kernel.specs.Since.{seat_of_entry}
use Rattle.vm_kernel.specs.Turns.{MayCall, IsForCall, CallerGoesOn, IsCallDone, LacksMemory, HasSeenMore}
use Rattle.block_runs.specs.Callers.{tree, rooms, IsCaller, IsClock, TurnsClock, SeesMore, HasMade}
use Rattle.block_runs.specs.Conditions.{EndsLast}
use Rattle.block_runs.proofs.Lasts.{own_each}
use Rattle.block_runs.proofs.Lists.{each_append}
pub use Rattle.vm_script.proofs.flat_model.Maps.{on_err_any as on_err}

-- the entries of a seat have all those of its process
finer : (p n : ℕ) (H : List Entry) → p ≡ suc n → entries_of (entries_by seat_of_entry n H) p ≡ entries_of H p
finer p n [] is = refl
finer p n (e ∷ H) is =
    ⊎_elim
    (λ mine.
    let at : seat_of e.process ≡ n = ap seat_of (eqb-true e.process p mine ∙ is) in
    ap (λ b. entries_of (cond b (e ∷ entries_by seat_of_entry n H) (entries_by seat_of_entry n H)) p) (eq-eqb (seat_of e.process) n at)
    ∙ (ap (λ b. cond b (e ∷ entries_of (entries_by seat_of_entry n H) p) (entries_of (entries_by seat_of_entry n H) p)) mine
    ∙ (ap (λ xs. e ∷ xs) (finer p n H is) ∙ sym (ap (λ b. cond b (e ∷ entries_of H p) (entries_of H p)) mine))))
    (λ else. left_out (seat_of e.process == n) else ∙ (finer p n H is ∙ sym (ap (λ b. cond b (e ∷ entries_of H p) (entries_of H p)) else)))
    (cases_Bool (e.process == p))
  where
    left_out : (b : Bool) → (e.process == p) ≡ false → entries_of (cond b (e ∷ entries_by seat_of_entry n H) (entries_by seat_of_entry n H)) p ≡ entries_of (entries_by seat_of_entry n H) p
    left_out true else = ap (λ b. cond b (e ∷ entries_of (entries_by seat_of_entry n H) p) (entries_of (entries_by seat_of_entry n H) p)) else
    left_out false else = refl

own_all : (p : ℕ) (es : List Entry) → AllByRecursion (λ (e : Entry). e.process ≡ p) es → entries_of es p ≡ es
own_all p [] own = refl
own_all p (e ∷ es) own = ap (λ b. cond b (e ∷ entries_of es p) (entries_of es p)) (eq-eqb e.process p own.0) ∙ ap (λ xs. e ∷ xs) (own_all p es own.1)

-- a history whose entries of a seat are all of its process
pub own_shown : (p n : ℕ) (H own : List Entry) → p ≡ suc n → entries_by seat_of_entry n H ≡ own → AllByRecursion (λ (e : Entry). e.process ≡ p) own → entries_of H p ≡ own
own_shown p n H own is shows each = sym (finer p n H is) ∙ (ap (λ es. entries_of es p) shows ∙ own_all p own each)

pub caller_own : (kernel : KernelSeen) (v : CallerSeen) → IsCaller kernel v → AllByRecursion (λ (e : Entry). e.process ≡ v.process) v.seat.own
caller_own kernel v caller = subst (AllByRecursion (λ (e : Entry). e.process ≡ v.process)) caller.own (own_each v.process v.seat.seen)

-- a caller that goes on with these entries more, and has nothing in hand
module _ (kernel : KernelSeen) (v w : CallerSeen) (es : List Entry) (caller : IsCaller kernel v) (process : w.process ≡ v.process) (number : w.seat.number ≡ v.seat.number) (shows : ShowsOwn w)
    (grown : w.seat.own ≡ v.seat.own ++ es) (mine : AllByRecursion (λ (e : Entry). e.process ≡ v.process) es) where
  own_now : entries_of w.seat.seen v.process ≡ w.seat.own
  own_now = own_shown v.process w.seat.number w.seat.seen w.seat.own (caller.named ∙ ap suc (sym number)) shows
      (subst (AllByRecursion (λ (e : Entry). e.process ≡ v.process)) (sym grown) (each_append (λ (e : Entry). e.process ≡ v.process) v.seat.own es (caller_own kernel v caller) mine))

  goes_caller : IsCallerOf kernel w → w.seat.note ≡ None → IsCaller kernel w
  goes_caller of free = record {
    of = of;
    named = process ∙ (caller.named ∙ ap suc (sym number));
    free = free;
    own = ap (entries_of w.seat.seen) process ∙ own_now;
  }

  goes_more : IsPrefix v.seat.seen w.seat.seen → SeesMore v w es
  goes_more begun = record { process = process; begun = begun; own = own_now ∙ (grown ∙ ap (λ xs. xs ++ es) (sym caller.own)) }

-- a call was done
pub call_made : (kernel : KernelSeen) (v w : CallerSeen) (call : Call) (r : Reply) → IsCaller kernel v → IsCallerOf kernel w → CallerGoesOn v w → IsCallDone v call w r → HasMade v w call r × IsCaller kernel w
call_made kernel v w call r caller of goes done =
    let e : Entry = done_entry v.process call r done.entry.0 in (
      record { entry = e; is_call = refl; is_reply = refl; more = goes_more kernel v w (e ∷ []) caller goes.process goes.number goes.own done.entry.1 (refl, tt) goes.seen },
      goes_caller kernel v w (e ∷ []) caller goes.process goes.number goes.own done.entry.1 (refl, tt) of done.free,
    )

-- memory lacked
pub call_lacked : (kernel : KernelSeen) (v w : CallerSeen) (call : Call) → IsCaller kernel v → IsCallerOf kernel w → CallerGoesOn v w → LacksMemory v call w → SeesMore v w [] × IsCaller kernel w
call_lacked kernel v w call caller of goes lacks =
    let same : w.seat.own ≡ v.seat.own ++ [] = lacks.none ∙ sym (append-nil v.seat.own) in (
      goes_more kernel v w [] caller goes.process goes.number goes.own same tt goes.seen,
      goes_caller kernel v w [] caller goes.process goes.number goes.own same tt of lacks.free,
    )

-- a caller was told what another has seen
pub told_more : (kernel : KernelSeen) (v w : CallerSeen) → IsCaller kernel v → IsCallerOf kernel w → HasSeenMore v w → SeesMore v w [] × IsCaller kernel w
told_more kernel v w caller of more =
    let process : w.process ≡ v.process = ap (λ (c : CallerSeen). c.process) more.rest in
    let number : w.seat.number ≡ v.seat.number = ap (λ (c : CallerSeen). c.seat.number) more.rest in
    let same : w.seat.own ≡ v.seat.own ++ [] = ap (λ (c : CallerSeen). c.seat.own) more.rest ∙ sym (append-nil v.seat.own) in
    let free : w.seat.note ≡ None = ap (λ (c : CallerSeen). c.seat.note) more.rest ∙ caller.free in (
      goes_more kernel v w [] caller process number more.own same tt more.seen,
      goes_caller kernel v w [] caller process number more.own same tt of free,
    )

-- any call may follow where the last one is at its end
pub follows_any : (p : ℕ) (own : List Entry) (e : Entry) → e.process ≡ p → EndsLast p own → MayFollow own e
follows_any p own e is ends = subst (λ q. MatchOption (last_entry q own) (Unit {0}) (λ d. FollowsOn d e)) (sym is) (by_last (last_entry p own) ends)
  where
    by_last : (o : Option Entry) → MatchOption o (Unit {0}) (λ d. IsTrue (ends_call d.call d.reply)) → MatchOption o (Unit {0}) (λ d. FollowsOn d e)
    by_last None h = tt
    by_last (Some d) h = inl h

-- A CALL MAY BE MADE
pub may_call : (kernel : KernelSeen) (v : CallerSeen) (c : Call) → IsCaller kernel v → IsWellFormed c → IsKnownAlive (tree kernel) v.seat.seen (entries_of v.seat.seen v.process) v.process
    → length (entries_of v.seat.seen v.process) < room_of (rooms kernel) v.process → EndsLast v.process (entries_of v.seat.seen v.process) → IsNewChild (tree kernel) (entries_of v.seat.seen v.process) v.process c → MayCall kernel v c
may_call kernel v c caller formed alive room ends bears = record {
  formed = formed;
  alive = subst (λ own. IsKnownAlive (tree kernel) v.seat.seen own v.process) caller.own alive;
  next = subst (λ own. MayComeNext (tree kernel) (rooms kernel) own v.process c) caller.own (record {
    room = room;
    follows = λ reply cleared. follows_any v.process (entries_of v.seat.seen v.process) (done_entry v.process c reply cleared) refl ends;
    bears = bears;
  });
  hand = subst (IsForCall v.process c) (sym caller.free) tt;
}

-- A clock that makes no turn.
pub turned-none : (k : KernelSeen) (c : CallerSeen) (turns : ℕ) → turns ≡ 0 → IsClock k c → TurnsClock k c turns c
turned-none k c turns none clock =
    subst (λ (n : ℕ). TurnsClock k c n c) (sym none) (record { clock = clock; number = refl; left = (0, omega arith, record { leaves = omega arith; emptied = omega arith; told = omega arith }); moves = refl })
