-- Faults before the processes ran, whose counts are told.
use Rattle.std.proofs.Common.{ℕ, arith}
use Rattle.std.specs.Prelude.{MatchOption, Option, Some, None, unwrap_or}
use Rattle.block_device.specs.Counts.{HasRisen}

-- what holds of counts that rose: they are told
pub if-counted : (P : Type 0) (Q : ℕ × ℕ → Type 0) (counts : Option (ℕ × ℕ)) → HasRisen (unwrap_or counts (0, 0)).0 (unwrap_or counts (0, 0)).1 → Q (unwrap_or counts (0, 0)) → MatchOption counts P Q
if-counted P Q None risen q = absurd (omega (arith, risen))
if-counted P Q (Some c) risen q = q
