-- What the close says of the callers, and the fit of the history, gives the plan's tree.
use Rattle.std.proofs.Common.{◌≡◌, ℕ, zero, suc, ◌+◌, ◌≤◌, Bool, true, false, List, [], ◌∷◌, ◌++◌, length, Option, Some, None, refl, sym, ap, ◌∙◌, subst, cond, arith, ⊎_elim}
use Rattle.std.specs.Prelude.{slice_get, map}
use Rattle.std.specs.List.{AllByRecursion}
use Rattle.std.proofs.lemmas.Bool.{false≢true, cases_lt, eqb-true}
use Rattle.std.proofs.lemmas.Option.{slice_get-get_or}
use Rattle.std.proofs.lemmas.List.{get_or_past}
use mathlib.Core.Option.{some}
use lib.ListN.{get_elem?}
use Rattle.kernel_lock.specs.Seats.{HoldsTo, IsClosed}
use Rattle.kernel_lock.specs.declared.board.SeatPart.{SeatPart}
use Rattle.vm_script.specs.vm_types.declared.call.Call.{Call}
use Rattle.vm_script.specs.vm_types.declared.call.Call.TheVariants as call
use Rattle.vm_script.specs.vm_types.declared.call.Entry.{Entry}
use Rattle.vm_script.specs.flat_model.Told.{entries_of}
use Rattle.vm_script.specs.flat_model.Births.{is_birth, is_done, is_fork_of}
use Rattle.vm_script.specs.PlanSeen.{PlanSeen}
use Rattle.vm_script.specs.Told.{parent_of}
use Rattle.vm_script.specs.Ended.{KeepsTree}
use Rattle.vm_core.specs.vm_world.HistoryFits.{RoomsFit}
use Rattle.vm_core.specs.vm_world.State.{KernelState, Sent, room_of, Fixed}
use Rattle.vm_kernel.specs.Callers.{KernelSeen, CallerSeen, caller_part}
use Rattle.vm_kernel.specs.Since.{seat_of_entry, history_of, IsSinceOpening}
use Rattle.block_runs.specs.Callers.{tree, rooms}
use Rattle.block_runs.specs.Rows.{AreNumbered}
use Rattle.block_runs.specs.Closing.{IsKept, IsClosedRow}
use Rattle.block_runs.proofs.KernelCalls.{own_shown, caller_own}
use Rattle.block_runs.proofs.Goings.{same_parents}

fork_call : (c : ℕ) (k : Call) → is_fork_of c k ≡ true → k ≡ call.Fork c
fork_call c (call.Fork child) is = ap call.Fork (eqb-true child c is)
fork_call c call.Exit is = absurd (false≢true is)
fork_call c (call.Load a n) is = absurd (false≢true is)
fork_call c (call.Store a n v) is = absurd (false≢true is)
fork_call c (call.Map at len prot kind object offset) is = absurd (false≢true is)
fork_call c (call.Unmap a len) is = absurd (false≢true is)
fork_call c (call.Protect a len prot) is = absurd (false≢true is)
fork_call c (call.Sync a len) is = absurd (false≢true is)
fork_call c (call.Read file offset len) is = absurd (false≢true is)
fork_call c (call.Write file offset bytes left) is = absurd (false≢true is)
fork_call c (call.Truncate file len) is = absurd (false≢true is)

birth_call : (c : ℕ) (e : Entry) → is_birth c e ≡ true → e.call ≡ call.Fork c
birth_call c e born = by_reply (is_done e.reply) born
  where
    by_reply : (b : Bool) → cond b (is_fork_of c e.call) false ≡ true → e.call ≡ call.Fork c
    by_reply true is = fork_call c e.call is
    by_reply false is = absurd (false≢true is)

keeps_tree : (plan : PlanSeen) (H : List Entry) → ((k child : ℕ) (e : Entry) → slice_get H k ≡ Some e → e.call ≡ call.Fork child → parent_of plan.parents child ≡ Some e.process) → KeepsTree plan H
keeps_tree plan [] forks = tt
keeps_tree plan (e ∷ H) forks = (λ c born. forks 0 c e refl (birth_call c e born), keeps_tree plan H (λ k child d at is. forks (suc k) child d at is))

empty : (xs : List Entry) (n : ℕ) → length xs ≤ n → n ≡ 0 → xs ≡ []
empty [] n few none = refl
empty (x ∷ xs) n few none = absurd (omega (arith, few, none))

none_there : (parents entries : List ℕ) (p : ℕ) → length entries ≡ length parents → parent_of parents p ≡ None → room_of entries p ≡ 0
none_there parents entries zero long none = refl
none_there parents entries (suc i) long none =
    ⊎_elim (λ low. absurd (cc (slice_get-get_or parents i 0 low, none))) (λ high. get_or_past entries i 0 (omega (arith, long, high))) (cases_lt i (length parents))

-- what the lock says of the callers, of which these are the first
kept_row : (kernel : KernelSeen) (notes : List (Option Sent)) (s : KernelState) (n : ℕ) (row more : List CallerSeen) → AreNumbered kernel n row
    → ((i : ℕ) (p : SeatPart Entry Sent) → get_elem? (map caller_part (row ++ more)) i ≡ some p → HoldsTo seat_of_entry history_of notes s p) → AllByRecursion (IsKept s.history) row
kept_row kernel notes s n [] more numbered holds = tt
kept_row kernel notes s n (v ∷ row) more numbered holds =
    let caller = numbered.0.1 in
    let h = holds 0 (caller_part v) refl in (
      record { begun = h.1; own = caller.own ∙ sym (own_shown v.process v.seat.number s.history v.seat.own caller.named h.2 (caller_own kernel v caller)) },
      kept_row kernel notes s (n + 1) row more numbered.1 (λ i p at. holds (suc i) p at),
    )

-- THE CLOSED ROW
pub closed_row : (kernel : KernelSeen) (plan : PlanSeen) (s : KernelState) (row more : List CallerSeen) → AreNumbered kernel 1 row → tree kernel ≡ plan.parents → length (rooms kernel) ≡ length plan.parents
    → IsClosed seat_of_entry history_of IsSinceOpening kernel.opening kernel.seats (map caller_part (row ++ more)) s → IsClosedRow plan s.history row
closed_row kernel plan s row more numbered same long closed =
    let since = closed.fitting in
    let fits = since.fits since.starts.0 since.starts.1 in
    let parents : s.parents ≡ plan.parents = ap (λ (f : Fixed). f.parents) since.fixed ∙ same in
    let entries : s.entries ≡ rooms kernel = ap (λ (f : Fixed). f.entries) since.fixed in
    let rooms_fit : RoomsFit s.history plan.parents (rooms kernel) = subst (λ es. RoomsFit s.history plan.parents es) entries (subst (λ ps. RoomsFit s.history ps s.entries) parents fits.rooms) in
    record {
      kept = kept_row kernel closed.notes s 1 row more numbered closed.holds;
      tree = keeps_tree plan s.history (λ k child e at is. sym (same_parents plan.parents child) ∙ rooms_fit.forks k child e at is);
      others = λ p none. empty (entries_of s.history p) (room_of (rooms kernel) p) (rooms_fit.made p) (none_there plan.parents (rooms kernel) p long none);
    }
