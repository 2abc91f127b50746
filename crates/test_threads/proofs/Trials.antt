-- THREE CALLERS of one kernel, as it is started and closed.
use Rattle.std.proofs.Common.{◌≡◌, ℕ, zero, suc, ◌-◌, List, [], ◌∷◌, length, take, map, None, replicate, refl, sym, ap, ◌∙◌, subst, arith, inl, inr}
use Rattle.std.specs.Prelude.{slice_index_or}
use Rattle.std.specs.List.{All}
use Rattle.kernel_lock.specs.Seats.{HasAll}
use Rattle.vm_core.proofs.vm_world.Told.{event_law}
use Rattle.vm_core.specs.kernel_close.Finish.{FitsStill}
use Rattle.vm_core.specs.vm_world.State.{KernelState, Seats, seats_of}
use Rattle.vm_kernel.specs.Callers.{KernelSeen, CallerSeen, caller_part}
use Rattle.vm_kernel.specs.Rooms.{AreRooms}
use Rattle.vm_kernel.specs.Since.{IsSinceOpening}
use Rattle.vm_kernel.specs.declared.starting.Room.{Room}

abbrev pub three_rooms : List Room
three_rooms = record { process = 1; entries = 99 } ∷ record { process = 2; entries = 99 } ∷ record { process = 0; entries = 0 } ∷ []

pub rooms-are : (entries : List ℕ) → entries ≡ 99 ∷ 99 ∷ [] → AreRooms entries three_rooms
rooms-are entries is = subst (λ (es : List ℕ). AreRooms es three_rooms) (sym is) each
  where
    each : AreRooms (99 ∷ 99 ∷ []) three_rooms
    each zero d lt = inl (refl, refl)
    each (suc zero) d lt = inl (refl, refl)
    each (suc (suc zero)) d lt = inr (refl, refl, refl)
    each (suc (suc (suc k))) d lt = absurd (omega (arith, lt))

pub all-three : (P : CallerSeen → Type 0) (a b c : CallerSeen) (items : List CallerSeen) → items ≡ a ∷ b ∷ c ∷ [] → P a → P b → P c → All P items
all-three P a b c items is x y z = subst (All P) (sym is) each
  where
    each : All P (a ∷ b ∷ c ∷ [])
    each zero d lt = x
    each (suc zero) d lt = y
    each (suc (suc zero)) d lt = z
    each (suc (suc (suc k))) d lt = absurd (omega (arith, lt))

pub has-three : (k : KernelSeen) (a b c : CallerSeen) (items : List CallerSeen) → items ≡ a ∷ b ∷ c ∷ [] → k.seats ≡ 3 → a.seat.number ≡ 0 → b.seat.number ≡ 1 → c.seat.number ≡ 2 → HasAll k.seats (map caller_part items)
has-three k a b c items is three x y z = subst (λ (cs : List CallerSeen). HasAll k.seats (map caller_part cs)) (sym is) each
  where
    each : HasAll k.seats (map caller_part (a ∷ b ∷ c ∷ []))
    each zero lt = (0, caller_part a, refl, x)
    each (suc zero) lt = (1, caller_part b, refl, y)
    each (suc (suc zero)) lt = (2, caller_part c, refl, z)
    each (suc (suc (suc n))) lt = absurd (omega (arith, lt, three))

pub still-fits : (opening s : KernelState) (n : ℕ) → IsSinceOpening opening s (replicate n None) → FitsStill s
still-fits opening s n since = (since.starts.0, seats_of (replicate n None), since.fits since.starts.0 since.starts.1, λ k. ap (λ (seats : Seats). seats k) (event_law.none n))

-- Callers that are taken off the end of a row of three, of two and of one
module _ (a b c : CallerSeen) (row : List CallerSeen) (n : ℕ) (is : row ≡ a ∷ b ∷ c ∷ []) (count : n ≡ length row) where
  three : n ≡ 3
  three = count ∙ ap length is

  pub third : (x : CallerSeen) → ((d : CallerSeen) → x ≡ slice_index_or row (n - 1) d) → x ≡ c
  third x last = last c ∙ (λ i. slice_index_or (is i) (three i - 1) c)

  pub first-two : (rest : List CallerSeen) → rest ≡ take (n - 1) row → rest ≡ a ∷ b ∷ []
  first-two rest cut = cut ∙ (λ i. take (three i - 1) (is i))

module _ (a b : CallerSeen) (row : List CallerSeen) (n : ℕ) (is : row ≡ a ∷ b ∷ []) (count : n ≡ length row) where
  two : n ≡ 2
  two = count ∙ ap length is

  pub second : (x : CallerSeen) → ((d : CallerSeen) → x ≡ slice_index_or row (n - 1) d) → x ≡ b
  second x last = last b ∙ (λ i. slice_index_or (is i) (two i - 1) b)

  pub first-one : (rest : List CallerSeen) → rest ≡ take (n - 1) row → rest ≡ a ∷ []
  first-one rest cut = cut ∙ (λ i. take (two i - 1) (is i))

module _ (a : CallerSeen) (row : List CallerSeen) (n : ℕ) (is : row ≡ a ∷ []) (count : n ≡ length row) where
  one : n ≡ 1
  one = count ∙ ap length is

  pub only : (x : CallerSeen) → ((d : CallerSeen) → x ≡ slice_index_or row (n - 1) d) → x ≡ a
  only x last = last a ∙ (λ i. slice_index_or (is i) (one i - 1) a)

  pub nobody-else : (rest : List CallerSeen) → rest ≡ take (n - 1) row → rest ≡ []
  nobody-else rest cut = cut ∙ (λ i. take (one i - 1) (is i))
