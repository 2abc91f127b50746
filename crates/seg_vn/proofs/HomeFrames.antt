-- Frames that are home, where most are.
use Rattle.std.proofs.Common.{◌≡◌, ◌≢◌, ℕ, zero, suc, ◌+◌, ◌<◌, List, [], ◌∷◌, length, Option, Some, None, refl, arith}
use Rattle.std.specs.Prelude.{IsSome, filter, is_none}
use Rattle.seg_ops.specs.core_arena.Bytes.{bytes_at}

-- SOME FRAME IS HOME, where not all are away.
some-home : (frames : List (Option (List ℕ))) → length (filter is_none frames) < length frames → (frame : ℕ) × IsSome (bytes_at frames frame)
some-home [] lt = absurd (omega (arith, lt))
some-home (Some b ∷ frames) lt = (0, refl)
some-home (None ∷ frames) lt = let r = some-home frames (omega (arith, lt)) in (suc r.0, r.1)

-- ANOTHER IS, BESIDE ANY, where two are.
pub home-beside : (frames : List (Option (List ℕ))) (beside : ℕ) → length (filter is_none frames) + 1 < length frames → (frame : ℕ) × (frame ≢ beside) × IsSome (bytes_at frames frame)
home-beside [] beside lt = absurd (omega (arith, lt))
home-beside (Some b ∷ frames) zero lt = let r = some-home frames (omega (arith, lt)) in (suc r.0, (λ e. omega (arith, e)), r.1)
home-beside (Some b ∷ frames) (suc k) lt = (0, (λ e. omega (arith, e)), refl)
home-beside (None ∷ frames) zero lt = let r = some-home frames (omega (arith, lt)) in (suc r.0, (λ e. omega (arith, e)), r.1)
home-beside (None ∷ frames) (suc k) lt = let r = home-beside frames k (omega (arith, lt)) in (suc r.0, (λ e. r.1 (omega (arith, e))), r.2)
