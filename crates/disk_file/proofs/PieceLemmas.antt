-- Bytes with a piece in place of as many.
use Rattle.std.proofs.Common.{ℕ, ◌+◌, ◌-◌, ◌≡◌, ◌≤◌, ◌∙◌, ap, sym, arith, append_assoc, List, ◌++◌, length, length-append, length-drop, take, drop}
use Rattle.std.proofs.lemmas.List.{length-take, length-take-le, take_at, take-append-le, take-take, drop_at, drop-append-le, drop-drop, drop-take}
use Rattle.disk_file.specs.FileBytes.{overlaid}

pub length-overlaid : (offset : ℕ) (piece bytes : List ℕ) → offset + length piece ≤ length bytes → length (overlaid offset piece bytes) ≡ length bytes
length-overlaid offset piece bytes inside =
    omega (arith, inside, length-append (take offset bytes ++ piece) (drop (offset + length piece) bytes), length-append (take offset bytes) piece, length-take offset bytes, length-drop (offset + length piece) bytes)

-- what lies below the piece
pub overlaid_below : (k i offset : ℕ) (piece bytes : List ℕ) → i + k ≤ offset → offset ≤ length bytes → take k (drop i (overlaid offset piece bytes)) ≡ take k (drop i bytes)
overlaid_below k i offset piece bytes below inside =
    let first : length (take offset bytes) ≡ offset = length-take-le offset bytes inside in
    let rest = piece ++ drop (offset + length piece) bytes in
    let sum : i + (offset - i) ≡ offset = omega (arith, below) in
    ap (λ (l : List ℕ). take k (drop i l)) (append_assoc (take offset bytes) piece (drop (offset + length piece) bytes))
    ∙ ap (take k) (drop-append-le i (take offset bytes) rest (omega (arith, first, below)))
    ∙ take-append-le k (drop i (take offset bytes)) rest (omega (arith, length-drop i (take offset bytes), first, below))
    ∙ ap (λ (o : ℕ). take k (drop i (take o bytes))) (sym sum)
    ∙ ap (take k) (drop-take i (offset - i) bytes)
    ∙ take-take k (offset - i) (drop i bytes) (omega (arith, below))

-- what lies at it
pub overlaid_here : (k offset : ℕ) (piece bytes : List ℕ) → length piece ≡ k → offset ≤ length bytes → take k (drop offset (overlaid offset piece bytes)) ≡ piece
overlaid_here k offset piece bytes full inside =
    ap (λ (l : List ℕ). take k (drop offset l)) (append_assoc (take offset bytes) piece (drop (offset + length piece) bytes))
    ∙ ap (take k) (drop_at (take offset bytes) (piece ++ drop (offset + length piece) bytes) offset (length-take-le offset bytes inside))
    ∙ take_at piece (drop (offset + length piece) bytes) k full

-- what lies behind it
pub overlaid_behind : (i offset : ℕ) (piece bytes : List ℕ) → offset + length piece ≤ i → offset ≤ length bytes → drop i (overlaid offset piece bytes) ≡ drop i bytes
overlaid_behind i offset piece bytes behind inside =
    let sum : offset + length piece + (i - (offset + length piece)) ≡ i = omega (arith, behind) in
    let size : length (take offset bytes ++ piece) ≡ offset + length piece = omega (arith, length-append (take offset bytes) piece, length-take-le offset bytes inside) in
    let rest : drop (offset + length piece) (overlaid offset piece bytes) ≡ drop (offset + length piece) bytes =
    drop_at (take offset bytes ++ piece) (drop (offset + length piece) bytes) (offset + length piece) size in
    ap (λ (o : ℕ). drop o (overlaid offset piece bytes)) (sym sum)
    ∙ sym (drop-drop (i - (offset + length piece)) (offset + length piece) (overlaid offset piece bytes))
    ∙ ap (drop (i - (offset + length piece))) rest
    ∙ drop-drop (i - (offset + length piece)) (offset + length piece) bytes
    ∙ ap (λ (o : ℕ). drop o bytes) sum
