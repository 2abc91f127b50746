-- A state behind its lock, at the start.
use Rattle.std.proofs.Common.{◌≡◌, ℕ, zero, suc, ◌+◌, ◌<◌, ◌⊎◌, inl, inr, List, [], ◌∷◌, ◌++◌, length, map, reverse, drop, get_or, Option, None, replicate, refl, ap, sym, ◌∙◌, subst, arith, length-append}
use Rattle.std.proofs.Math.Seq.{drop-cons, get_or-append_seam}
use Rattle.std.proofs.lemmas.List.{reverse-append, get_or_append_left}
use Rattle.kernel_lock.specs.Seats.{AreNew, newcomer}
use Rattle.std.specs.Prelude.{All, slice_index_or}
use Rattle.std.proofs.lemmas.List.Elements.{All-nil, All-cons, All-head, All-tail}
use Rattle.kernel_lock.specs.declared.board.SeatPart.{SeatPart}
use Rattle.vm_core.specs.vm_types.declared.call.Entry.{Entry}
use Rattle.vm_core.specs.flat_model.Flat.{Flat}
use Rattle.vm_core.specs.vm_world.Events.{IsSince}
use Rattle.vm_core.specs.vm_world.Opening.{no_seats}
use Rattle.vm_core.proofs.vm_world.Told.{event_law}
use Rattle.vm_core.specs.vm_world.State.{KernelState, Sent, seats_of}
use Rattle.vm_core.specs.vm_world.StateFits.{StateFits}
use Rattle.vm_kernel.specs.Callers.{KernelSeen, SeatSeen, CallerSeen, caller_part}
use Rattle.vm_kernel.specs.Rooms.{IsRoomAt, AreRooms, AreNamed, IsNewSeat, callers_from}
use Rattle.vm_kernel.specs.Since.{IsSinceOpening}
use Rattle.vm_kernel.specs.declared.starting.Room.{Room}

pub opens : (s : KernelState) (n : ℕ) → (F : Flat) × StateFits F s no_seats → IsSinceOpening s s (replicate n None)
opens s n fits = subst (IsSince s s) (sym (event_law.none n)) (event_law.opens s fits)

-- callers that have nothing in hand
pub all-parts : (xs : List CallerSeen) → All (λ (it : CallerSeen). it.seat.note ≡ None) xs → All (λ (p : SeatPart Entry Sent). p.note ≡ None) (map caller_part xs)
all-parts [] none = All-nil (λ (p : SeatPart Entry Sent). p.note ≡ None)
all-parts (x ∷ xs) none =
    All-cons (λ (p : SeatPart Entry Sent). p.note ≡ None) (caller_part x) (map caller_part xs) (All-head (λ (it : CallerSeen). it.seat.note ≡ None) x xs none) (all-parts xs (All-tail (λ (it : CallerSeen). it.seat.note ≡ None) x xs none))

-- a caller more, taken from the end of the row of seats
pub one-more : (l : KernelSeen) (rooms : List Room) (m n : ℕ) (r : Room) (c : CallerSeen) (row : List CallerSeen) → m + 1 ≡ n → m < length rooms
    → c ≡ record { seat = newcomer l m; process = (get_or rooms m r).process } → row ≡ reverse (callers_from l n (drop n rooms)) → row ++ c ∷ [] ≡ reverse (callers_from l m (drop m rooms))
one-more l rooms m n r c row next lt is was =
    let here : CallerSeen = record { seat = newcomer l m; process = (get_or rooms m r).process } in
    let others = callers_from l (suc m) (drop (suc m) rooms) in
    let later : row ≡ reverse others = subst (λ (k : ℕ). row ≡ reverse (callers_from l k (drop k rooms))) (let e : n ≡ suc m = omega (arith, next) in e) was in
    let cut : drop m rooms ≡ get_or rooms m r ∷ drop (suc m) rooms = drop-cons rooms m r lt in
    ap (λ (x : CallerSeen). row ++ x ∷ []) is ∙ ap (λ (w : List CallerSeen). w ++ here ∷ []) later
    ∙ sym (ap (λ (w : List Room). reverse (callers_from l m w)) cut ∙ reverse-append (here ∷ []) others)

-- a seat that has been nowhere
pub unused : (l : KernelSeen) (k : ℕ) (v : SeatSeen) → v ≡ newcomer l k → k < 65 → IsNewSeat v
unused l k v is low = subst IsNewSeat (sym is) (record { outside = refl; low = low; note = refl; own = refl; seen = refl })

-- rooms that are a state's name their seats' processes
pub named-rooms : (entries : List ℕ) (rooms : List Room) → AreRooms entries rooms → AreNamed rooms
named-rooms entries rooms are k d lt = by_room (are k d lt)
  where
    by_room : IsRoomAt entries k (slice_index_or rooms k d) → ((slice_index_or rooms k d).process ≡ 0) ⊎ ((slice_index_or rooms k d).process ≡ suc k)
    by_room (inl of) = inr of.0
    by_room (inr none) = inl none.0

-- the last seat of a row of new ones, and the others
pub popped-new : (l : KernelSeen) (xs zs : List SeatSeen) (x : SeatSeen) → xs ≡ zs ++ x ∷ [] → AreNew l xs → AreNew l zs × (x ≡ newcomer l (length zs))
popped-new l xs zs x e new =
    let n : length xs ≡ length zs + 1 = ap length e ∙ length-append zs (x ∷ []) in (
      (λ k d lt. sym (get_or_append_left zs (x ∷ []) d k lt) ∙ sym (ap (λ (w : List SeatSeen). get_or w k d) e) ∙ new k d (omega (arith, lt, n))),
      sym (get_or-append_seam zs x [] x) ∙ sym (ap (λ (w : List SeatSeen). get_or w (length zs) x) e) ∙ new (length zs) x (omega (arith, n)),
    )

-- the process of a room is that of its seat, or none
pub named-seat : (p j k : ℕ) → (p ≡ 0) ⊎ (p ≡ suc j) → k ≡ j → (p ≡ 0) ⊎ (p ≡ k + 1)
named-seat p j k (inl none) is = inl none
named-seat p j k (inr some) is = inr (omega (arith, some, is))
