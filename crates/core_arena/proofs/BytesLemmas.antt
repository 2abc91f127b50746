-- Bytes that are left in a slice.
use Rattle.std.proofs.Common.{◌≡◌, ℕ, List, sym, ◌∙◌, ap, take, drop, ◌++◌, length}
use Rattle.std.proofs.Math.Seq.{take-append_seam}
use Rattle.core_arena.specs.Bytes.{slice_after_write}

-- bytes of the same length are left as they are
pub slice_after_write-whole : (bytes w : List ℕ) → length w ≡ length bytes → slice_after_write bytes w ≡ w
slice_after_write-whole bytes w e = ap (λ (n : ℕ). take n (w ++ drop (length w) bytes)) (sym e) ∙ take-append_seam w (drop (length w) bytes)
