-- How often a seat told.
use Rattle.std.proofs.Common.{◌≡◌, ℕ, ◌+◌, Bool, true, false, Option, Some, None, arith, if◌then◌else◌, sym, ap, ◌∙◌}
use Rattle.std.specs.Prelude.{◌&&◌}
use Rattle.kernel_lock.specs.Seats.{after_tells}
use Rattle.vm_kernel.specs.Callers.{SeatSeen}

pub told-none : (v : SeatSeen) → v ≡ after_tells 0 0 v
told-none v =
    let changes : v.told ≡ v.told + 0 = omega arith in
    let files : v.told_files ≡ v.told_files + 0 = omega arith in
    λ i. record v { told = changes i; told_files = files i }

-- of a change, and then of files
pub told-both : (n : ℕ) (v : SeatSeen) → after_tells 0 n (after_tells 1 0 v) ≡ after_tells 1 n v
told-both n v =
    let changes : v.told + 1 + 0 ≡ v.told + 1 = omega arith in
    let files : v.told_files + 0 + n ≡ v.told_files + n = omega arith in
    λ i. record v { told = changes i; told_files = files i }
