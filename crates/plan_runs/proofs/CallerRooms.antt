-- Whom a kernel's callers are for.
use Rattle.std.proofs.Common.{◌≡◌, ℕ, zero, suc, ◌+◌, ◌<◌, List, [], ◌∷◌, length, refl, sym, ap, ◌∙◌, inl, inr, subst, arith}
use Rattle.std.specs.Prelude.{slice_get, slice_index_or}
use Rattle.vm_kernel.specs.Rooms.{IsRoomAt, AreRooms}
use Rattle.vm_kernel.specs.declared.starting.Room.{Room}
use Rattle.run_kernel.specs.Played.{rooms_from}

pub length-rooms : (k : ℕ) (entries : List ℕ) → length (rooms_from k entries) ≡ length entries + 1
length-rooms k [] = refl
length-rooms k (e ∷ entries) = let rest = length-rooms (suc k) entries in omega (arith, rest)

-- they are a state's
pub are-rooms : (entries : List ℕ) → AreRooms entries (rooms_from 0 entries)
are-rooms entries = λ k d lt. subst (λ (n : ℕ). IsRoomAt entries n (slice_index_or (rooms_from 0 entries) k d)) (let z : 0 + k ≡ k = omega arith in z)
    (shifted entries 0 entries (let z : length entries ≡ 0 + length entries = omega arith in z) (λ i. ap (slice_get entries) (let z : 0 + i ≡ i = omega arith in z)) k d lt)
  where
    shifted : (all : List ℕ) (j : ℕ) (es : List ℕ) → length all ≡ j + length es → ((i : ℕ) → slice_get all (j + i) ≡ slice_get es i) → (k : ℕ) (d : Room) → k < length (rooms_from j es) → IsRoomAt all (j + k) (slice_index_or (rooms_from j es) k d)
    shifted all j [] long at zero d lt = inr (refl, refl, sym long)
    shifted all j [] long at (suc k) d lt = absurd (omega (arith, lt))
    shifted all j (e ∷ es) long at zero d lt = inl (let z : suc j ≡ suc (j + 0) = omega arith in z, at 0)
    shifted all j (e ∷ es) long at (suc k) d lt =
        subst (λ (n : ℕ). IsRoomAt all n (slice_index_or (rooms_from (suc j) es) k d)) (let z : suc j + k ≡ j + suc k = omega arith in z)
        (shifted all (suc j) es (omega (arith, long)) (λ i. ap (slice_get all) (let z : suc j + i ≡ j + suc i = omega arith in z) ∙ at (suc i)) k d (omega (arith, lt)))
