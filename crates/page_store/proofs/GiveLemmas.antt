-- The disks handed back.
use Rattle.std.proofs.Common.{◌≡◌, ◌≢◌, ℕ, ◌<◌, List, [], ◌∷◌, suc, refl, ◌∙◌, ap, arith, length, set}
use Rattle.std.specs.Prelude.{slice_index}
use Rattle.std.proofs.lemmas.List.{get_or-set_other}
use Rattle.block_device.specs.DiskSeen.{DiskSeen}
use Rattle.page_store.specs.Bays.{BaySeen, missing, home, out, bay_at, disk_in, disks_in, IsStill}

pub still-home : (b : BaySeen) → IsStill b → b ≢ missing → b ≡ home (disk_in b)
still-home missing h ne = absurd (ne refl)
still-home (home d) h ne = refl
still-home (out t) h ne = absurd h

-- a disk that isn't among these is no matter
pub disks_in-other : (bays : List BaySeen) (k : ℕ) (numbers : List ℕ) → ((i : ℕ) → i < length numbers → slice_index numbers i ≢ k) → disks_in (set bays k missing) numbers ≡ disks_in bays numbers
disks_in-other bays k [] h = refl
disks_in-other bays k (n ∷ numbers) h =
    ap (λ (b : BaySeen). (n, disk_in b) ∷ disks_in (set bays k missing) numbers) (get_or-set_other bays k n missing missing (h 0 (omega arith)))
    ∙ ap (λ (l : List (ℕ × DiskSeen)). (n, disk_in (bay_at bays n)) ∷ l) (disks_in-other bays k numbers (λ i lt. h (suc i) (omega (arith, lt))))
