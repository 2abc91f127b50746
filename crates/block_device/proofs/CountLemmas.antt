-- Counts that rose.
use Rattle.std.proofs.Common.{ℕ, ◌^◌, ◌-◌, ◌<◌, ◌≡◌, inl, inr, arith}
use Rattle.std.specs.Prelude.{◌⊎◌}
use Rattle.std.proofs.lemmas.Bool.{cases_lt}
use Rattle.block_device.specs.Counts.{HasRisen}

-- A count of 64 bits that rose is higher than before, or stands at its end.
pub risen-cases : (before after : ℕ) → before < 2 ^ 64 → after < 2 ^ 64 → HasRisen before after → (before < after) ⊎ ((before ≡ 2 ^ 64 - 1) × (after ≡ 2 ^ 64 - 1))
risen-cases before after b a risen =
    elim (cases_lt before after) [
      | inl up ↦ inl up
      | inr down ↦ inr (omega (arith, b, a, risen, down), omega (arith, b, a, risen, down))
    ]

pub risen-from-cases : (before after : ℕ) → (before < after) ⊎ ((before ≡ 2 ^ 64 - 1) × (after ≡ 2 ^ 64 - 1)) → HasRisen before after
risen-from-cases before after cases =
    elim cases [
      | inl up ↦ omega (arith, up)
      | inr top ↦ omega (arith, top.0, top.1)
    ]
