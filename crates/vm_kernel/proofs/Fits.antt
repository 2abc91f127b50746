-- What the holder of the state knows.
use Rattle.std.proofs.Common.{◌≡◌, ℕ, suc, ◌<◌, ◌≤◌, ◌^◌, ◌==◌, Bool, cond, List, [], ◌∷◌, Option, None, refl, ap, sym, ◌∙◌, subst, arith, ◌⊎◌, inl, inr, length, zero}
use Rattle.std.proofs.lemmas.Bool.Decides.{eqb_tells}
use Rattle.kernel_lock.specs.Seats.{IsEntered, part_of, entries_by}
use Rattle.vm_core.specs.vm_types.declared.call.Call.{Call}
use Rattle.vm_core.specs.vm_types.declared.call.Entry.{Entry}
use Rattle.vm_core.specs.flat_model.Told.{entries_of}
use Rattle.vm_core.specs.Fits.{FitsAt}
use Rattle.vm_core.specs.vm_world.Events.{IsEvent, CanTry}
use Rattle.vm_core.specs.vm_world.SeatLaws.{IsKnownAlive, MayComeNext}
use Rattle.vm_core.specs.vm_world.State.{KernelState, Fixed, Seats, Sent, with_sent, seats_of, seat_of, room_of}
use Rattle.vm_core.proofs.vm_world.SeatRules.{seat_law}
use Rattle.vm_core.proofs.vm_world.StateSteps.{this-seat}
use Rattle.vm_kernel.specs.Callers.{KernelSeen, SeatSeen}
use Rattle.vm_kernel.specs.Since.{seat_of_entry, history_of, IsSinceOpening}
use Rattle.vm_kernel.specs.SinceLaws.{at_default}
use Rattle.vm_kernel.specs.Turns.{MayCall}

pub fits-after : (s t : KernelState) (seat : ℕ) (before after : Option Sent) → FitsAt s seat before → IsEvent seat s before t after → FitsAt t seat after
fits-after s t seat before after fits event = (fits.0, with_sent fits.1 seat after, event.fits fits.0 fits.1 fits.3 fits.2, this-seat fits.1 seat after)

-- an event of a seat by its number and its note
pub event-at : (s t : KernelState) (k n : ℕ) (a o b : Option Sent) → k ≡ n → o ≡ a → IsEvent k s a t b → IsEvent n s o t b
event-at s t k n a o b number note event = subst (λ (x : Option Sent). IsEvent n s x t b) (sym note) (subst (λ (j : ℕ). IsEvent j s a t b) number event)

-- the entries of a seat are those of its process
pub seat-entries : (k : ℕ) (H : List Entry) → k < 2 ^ 32 → entries_by seat_of_entry k H ≡ entries_of H (suc k)
seat-entries k [] low = refl
seat-entries k (e ∷ H) low =
    let rest = seat-entries k H low in
    by_process e.process rest
  where
    by_process : (p : ℕ) → entries_by seat_of_entry k H ≡ entries_of H (suc k)
        → cond (seat_of p == k) (e ∷ entries_by seat_of_entry k H) (entries_by seat_of_entry k H) ≡ cond (p == suc k) (e ∷ entries_of H (suc k)) (entries_of H (suc k))
    by_process zero rest = elim (eqb_tells (2 ^ 32) k) [
      | inl same ↦ absurd (let z = same.1 in omega (arith, z, low))
      | inr other ↦
          ap (λ (b : Bool). cond b (e ∷ entries_by seat_of_entry k H) (entries_by seat_of_entry k H)) other.0 ∙ rest
          ∙ sym (elim (eqb_tells 0 (suc k)) [
            | inl y ↦ absurd (let z = y.1 in omega (arith, z))
            | inr n ↦ ap (λ (b : Bool). cond b (e ∷ entries_of H (suc k)) (entries_of H (suc k))) n.0
          ])
    ]
    by_process (suc q) rest = elim (eqb_tells q k) [
      | inl same ↦
          ap (λ (b : Bool). cond b (e ∷ entries_by seat_of_entry k H) (entries_by seat_of_entry k H)) same.0 ∙ ap (λ (l : List Entry). e ∷ l) rest
          ∙ sym (elim (eqb_tells (suc q) (suc k)) [
            | inl y ↦ ap (λ (b : Bool). cond b (e ∷ entries_of H (suc k)) (entries_of H (suc k))) y.0
            | inr n ↦ absurd (n.1 (ap suc same.1))
          ])
      | inr other ↦
          ap (λ (b : Bool). cond b (e ∷ entries_by seat_of_entry k H) (entries_by seat_of_entry k H)) other.0 ∙ rest
          ∙ sym (elim (eqb_tells (suc q) (suc k)) [
            | inl y ↦ absurd (other.1 (let z = y.1 in omega (arith, z)))
            | inr n ↦ ap (λ (b : Bool). cond b (e ∷ entries_of H (suc k)) (entries_of H (suc k))) n.0
          ])
    ]

-- WHO GOES IN
module _ (k : KernelSeen) (n : ℕ) (v : SeatSeen) (s : KernelState) (came : IsEntered seat_of_entry history_of IsSinceOpening k.opening n (part_of v) s) where
  -- knows that the state fits, with what the seat has outside
  pub fits-in : FitsAt s v.number v.note
  fits-in =
      let since = came.fitting in
      (since.starts.0, seats_of came.notes, since.fits since.starts.0 since.starts.1, (at_default came.notes v.number v.note None came.holds.0).1)

  -- that its seat is one of the state's
  pub seated-in : n ≤ length k.opening.syncs → v.number < length s.syncs
  seated-in most =
      let here = (at_default came.notes v.number v.note None came.holds.0).0 in
      let whole = came.whole in
      let same : length s.syncs ≡ length k.opening.syncs = ap (λ (f : Fixed). f.seats) came.fitting.fixed in
      omega (arith, here, whole, same, most)

  -- and may try a call that it might make by what it had seen
  pub tries-in : (p : ℕ) (call : Call) → v.number < 2 ^ 32 → p ≡ suc v.number → MayCall k (record { seat = v; process = p }) call → CanTry s v.number p call
  tries-in p call low named may =
      let since = came.fitting in
      let F = since.starts.0 in
      let seats : Seats = seats_of came.notes in
      let fit = since.fits F since.starts.1 in
      let parents : s.parents ≡ k.opening.parents = ap (λ (f : Fixed). f.parents) since.fixed in
      let entries : s.entries ≡ k.opening.entries = ap (λ (f : Fixed). f.entries) since.fixed in
      let own : entries_of s.history p ≡ v.own =
      ap (entries_of s.history) named ∙ sym (seat-entries v.number s.history low) ∙ came.holds.2 in
      let alive = seat_law.known F s seats v.seen came.holds.1.0 p fit (sym came.holds.1.1)
      (subst (λ (ps : List ℕ). IsKnownAlive ps v.seen (entries_of s.history p) p) (sym parents)
      (subst (λ (es : List Entry). IsKnownAlive k.opening.parents v.seen es p) (sym own) may.alive)) in
      seat_law.can_try F s seats v.number p call fit (ap seat_of named) alive
      (subst (λ (ps : List ℕ). MayComeNext ps s.entries (entries_of s.history p) p call) (sym parents)
      (subst (λ (es : List ℕ). MayComeNext k.opening.parents es (entries_of s.history p) p call) (sym entries)
      (subst (λ (os : List Entry). MayComeNext k.opening.parents k.opening.entries os p call) (sym own) may.next)))

-- a caller that may make a call has a process
pub has-process : (k : KernelSeen) (v : SeatSeen) (p : ℕ) (call : Call) → MayCall k (record { seat = v; process = p }) call → (p ≡ 0) ⊎ (p ≡ suc v.number) → p ≡ suc v.number
has-process k v p call may (inl none) = absurd (let room : length v.own < 0 = subst (λ (q : ℕ). length v.own < room_of k.opening.entries q) none may.next.room in omega (arith, room))
has-process k v p call may (inr some) = some
