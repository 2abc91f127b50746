-- What process 1 may do next where no seat has anything outside, and all entries are its own.
use Rattle.std.proofs.Common.{◌≡◌, ℕ, suc, ◌==◌, Bool, true, false, cond, List, [], ◌∷◌, Option, Some, None, refl, sym, ap, ◌∙◌, inl, inr, subst, arith, append-nil}
use Rattle.std.specs.Prelude.{IsSome, IsSomeAnd, fold, is_some, if◌then◌else◌}
use Rattle.std.proofs.lemmas.Bool.{ne_eqb}
use Rattle.std.proofs.lemmas.List.Elements.{All-head, All-tail}
use Rattle.vm_core.specs.page_store.declared.plan.Hold.{Hold}
use Rattle.volume_files.specs.vm_types.declared.call.Call.{Call}
use Rattle.volume_files.specs.vm_types.declared.call.Entry.{Entry}
use Rattle.volume_files.specs.flat_model.OpenLaws.{IsOpenPart, last_entry}
use Rattle.volume_files.specs.flat_model.Told.{entries_of}
use Rattle.vm_core.specs.kernel_close.Finish.{FitsStill}
use Rattle.vm_core.specs.Fits.{FitsAt}
use Rattle.vm_core.specs.vm_world.Events.{IsEvent, CanTry}
use Rattle.vm_core.specs.vm_world.SeatLaws.{IsKnownAlive, MayComeNext}
use Rattle.vm_core.specs.vm_world.State.{KernelState, Fixed, Sent, with_sent}
use Rattle.vm_core.specs.vm_world.Wants.{MayHold, seat_in}
use Rattle.vm_core.proofs.vm_world.SeatRules.{seat_law}
use Rattle.vm_core.proofs.vm_world.Told.{event_law}
use Rattle.vm_kernel.specs.Turns.{MayCall}
use Rattle.plan_runs.specs.Lines.{AreOfOne, alone_caller, alone_kernel}

-- NOTHING IS OUTSIDE still, after what one seat did in between
pub stays-still : (s t : KernelState) → IsEvent 0 s None t None → FitsStill s → FitsStill t
stays-still s t event still = (still.0, with_sent still.1 0 None, event.fits still.0 still.1 (still.3 0) still.2, λ seat. by_test seat (seat == 0))
  where
    by_test : (seat : ℕ) (b : Bool) → ◌≡◌ {A = Option Sent} (cond b None (still.1 seat)) None
    by_test seat true = refl
    by_test seat false = still.3 seat

pub still-at : (s : KernelState) (seat : ℕ) → FitsStill s → FitsAt s seat None
still-at s seat still = (still.0, still.1, still.2, still.3 seat)

-- PROCESS 1 MAY TRY A CALL that its caller may make.
pub may-try : (s : KernelState) (call : Call) → FitsStill s → MayCall (alone_kernel s) (alone_caller s s.history) call → CanTry s 0 1 call
may-try s call still may =
    let alive = seat_law.known still.0 s still.1 s.history [] 1 still.2 (sym (append-nil s.history)) may.alive in
    seat_law.can_try still.0 s still.1 0 1 call still.2 refl alive may.next

-- What it may make by what it has seen, it may make of the state that has this history.
pub may-now : (s t : KernelState) (H : List Entry) (call : Call) → IsEvent 0 s None t None → t.history ≡ H → MayCall (alone_kernel s) (alone_caller s H) call
    → MayCall (alone_kernel t) (alone_caller t t.history) call
may-now s t H call event same may =
    let parents : t.parents ≡ s.parents = ap (λ (f : Fixed). f.parents) event.fixed in
    let entries : t.entries ≡ s.entries = ap (λ (f : Fixed). f.entries) event.fixed in
    subst (λ (K : List Entry). MayCall (alone_kernel t) (alone_caller t K) call) (sym same) (record {
      formed = may.formed;
      alive = subst (λ (ps : List ℕ). IsKnownAlive ps H (entries_of H 1) 1) (sym parents) may.alive;
      next = subst (λ (es : List ℕ). MayComeNext t.parents es (entries_of H 1) 1 call) (sym entries)
          (subst (λ (ps : List ℕ). MayComeNext ps s.entries (entries_of H 1) 1 call) (sym parents) may.next);
      hand = tt;
    })

-- no other process made an entry
none-last : (q : ℕ) (H : List Entry) (o : Option Entry) → o ≡ None → ¬ (1 ≡ q) → AreOfOne H → fold (λ (last : Option Entry) (e : Entry). if e.process == q then Some e else last) o H ≡ None
none-last q [] o is other alone = is
none-last q (e ∷ H) o is other alone =
    none-last q H (cond (e.process == q) (Some e) o)
    (ap (λ (b : Bool). cond b (Some e) o) (ne_eqb e.process q (λ same. other (sym (All-head (λ (x : Entry). x.process ≡ 1) e H alone) ∙ same))) ∙ is)
    other (All-tail (λ (x : Entry). x.process ≡ 1) e H alone)

-- IT NEVER WAITS for another seat.
pub never-waits : (s : KernelState) (call : Call) (h : Hold) → FitsStill s → AreOfOne s.history → MayHold s.memory s.calls 1 call h → ⊥
never-waits s call h still alone may = elim (event_law.holds still.0 s still.1 1 call h still.2 may) [
  | inl some ↦ no-sent (still.1 (seat_in h)) (still.3 (seat_in h)) some
  | inr part ↦ no-open part.0 (last_entry (suc (seat_in h)) s.history) (none-last (suc (seat_in h)) s.history None refl (λ is. may.other (let z : seat_in h ≡ 0 = omega (arith, is) in z)) alone) part.1
]
  where
    no-sent : (o : Option Sent) → o ≡ None → IsSome o → ⊥
    no-sent o is some = let z : false ≡ true = sym (ap is_some is) ∙ some in cc

    no-open : (f : ℕ) (o : Option Entry) → o ≡ None → IsSomeAnd o (IsOpenPart f) → ⊥
    no-open f None is part = part
    no-open f (Some d) is part = let z : ◌≡◌ {A = Option Entry} (Some d) None = is in cc
