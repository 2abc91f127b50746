-- The two laws of the lock, from the event alone. Inside: no public clause cites this. It rests on no proof of another crate of this repository, since the members of an
-- impl may not.
use Rattle.std.specs.Prelude.{◌≡◌, ℕ, ◌<◌, ◌==◌, Bool, List, [], ◌∷◌, ◌++◌, length, Option, None, All, slice_set, slice_index_or}
use Rattle.std.proofs.Common.{sym, ap, subst, cond, ◌∙◌, inl, inr, zero, suc, arith}
use Rattle.std.proofs.lemmas.Bool.Decides.{eqb_tells}
use Rattle.std.proofs.lemmas.List.{get_or-set_same, get_or-set_other}
use mathlib.Core.Option.{some, some-injective, some-ne-none}
use lib.ListN.{get_elem?}
use Rattle.vm_core.specs.vm_types.declared.call.Entry.{Entry}
use Rattle.vm_core.specs.vm_world.Events.{IsEvent, IsSince, moment_of}
use Rattle.vm_core.specs.vm_world.Opening.{no_seats}
use Rattle.vm_core.specs.vm_world.State.{KernelState, Seats, Sent, notes_of, seats_of, with_sent}
use Rattle.vm_kernel.specs.Since.{seat_of_entry, history_of, IsSinceOpening, Moves}

-- the note of a seat, as the lock's list has it
pub at_default : {A : Type 0} (ns : List A) (k : ℕ) (n d : A) → get_elem? ns k ≡ some n → (k < length ns) × (slice_index_or ns k d ≡ n)
at_default [] k n d e = absurd (some-ne-none n (sym e))
at_default (x ∷ xs) zero n d e = (omega arith, some-injective x n e)
at_default (x ∷ xs) (suc k) n d e = let rest = at_default xs k n d e in let lt = rest.0 in (omega (arith, lt), rest.1)

-- the seats of a list, one of which has something else outside
one-changed : (notes : List (Option Sent)) (seat : ℕ) (note : Option Sent) → seat < length notes → with_sent (seats_of notes) seat note ≡ seats_of (slice_set notes seat note)
one-changed notes seat note lt = λ i k. at k i
  where
    at : (k : ℕ) → cond (k == seat) note (slice_index_or notes k None) ≡ slice_index_or (slice_set notes seat note) k None
    at k = elim (eqb_tells k seat) [
      | inl y ↦ ap (λ (b : Bool). cond b note (slice_index_or notes k None)) y.0 ∙ sym (ap (λ (j : ℕ). slice_index_or (slice_set notes seat note) j None) y.1 ∙ get_or-set_same notes seat note None lt)
      | inr n ↦ ap (λ (b : Bool). cond b note (slice_index_or notes k None)) n.0 ∙ sym (get_or-set_other notes seat k note None n.1)
    ]

-- one event keeps what the lock keeps
since-then : (opening s t : KernelState) (seats : Seats) (seat : ℕ) (before after : Option Sent) → IsSince opening s seats → seats seat ≡ before → IsEvent seat s before t after → IsSince opening t (with_sent seats seat after)
since-then opening s t seats seat before after was at event = record {
  starts = was.starts;
  fits = λ F fit. event.fits F seats at (was.fits F fit);
  fixed = event.fixed ∙ was.fixed;
  disks = λ number. event.disks was.starts.0 seats at (was.fits was.starts.0 was.starts.1) number ∙ was.disks number;
  follows = λ F so. event.follows F (was.follows F so);
  accounts = λ F fit tell.
      let late = event.accounts F seats at (was.fits F fit) tell in
      let early = was.accounts F fit late.0 in
      (early.0, late.1 (moment_of opening (notes_of no_seats)) early.1);
}

-- A move of one seat keeps what the lock keeps.
pub state_keeps : (opening s t : KernelState) (notes : List (Option Sent)) (k : ℕ) (n m : Option Sent) → IsSinceOpening opening s notes → get_elem? notes k ≡ some n → Moves k s n t m → IsSinceOpening opening t (slice_set notes k m)
state_keeps opening s t notes k n m fits at moved =
    let here = at_default notes k n None at in
    subst (IsSince opening t) (one-changed notes k m here.0) (since-then opening s t (seats_of notes) k n m fits here.1 moved)

-- A move of one seat adds entries of that seat alone.
pub state_grows : (opening s t : KernelState) (notes : List (Option Sent)) (k : ℕ) (n m : Option Sent) → IsSinceOpening opening s notes → get_elem? notes k ≡ some n → Moves k s n t m
    → (added : List Entry) × (history_of t ≡ history_of s ++ added) × All (λ (e : Entry). seat_of_entry e ≡ k) added
state_grows opening s t notes k n m fits at moved = moved.grown
