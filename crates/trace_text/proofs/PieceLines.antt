-- The lines of a file's bytes with a piece more.
use Rattle.vm_report.proofs.vm_script.Placed.{and_right}
use Rattle.vm_report.proofs.flat_model.Histories.{io_aside as and_left}
use Rattle.std.proofs.Common.{◌≡◌, ℕ, zero, suc, ◌≤◌, ◌<◌, ◌+◌, ◌-◌, ◌*◌, ◌/◌, ◌%◌, ◌==◌, min, Bool, true, false, List, [], ◌∷◌, ◌++◌, length, take, drop, replicate, inl, inr, refl, sym, subst, ap, ap₂, ◌∙◌, append_assoc, append-nil, length-append, arith}
use Rattle.std.specs.Prelude.{if◌then◌else◌}
use Rattle.std.specs.List.{list_all}
use Rattle.std.proofs.lemmas.Bool.{cases_lt, and_from as both}
use Rattle.std.proofs.lemmas.List.{length-take, length-drop, length-take-le, take-take, drop-take, drop-drop, take_at, drop_at, take_all, drop_all}
use Rattle.vm_report.specs.flat_model.Words.{with_bytes}
use Rattle.trace_text.specs.TraceLines.{Piece}
use Rattle.trace_text.specs.LineOrder.{piece_line, pieces_lines}

-- fronts and rests of what passes a test
front_passes : (p : ℕ → Bool) (n : ℕ) (xs : List ℕ) → list_all p xs ≡ true → list_all p (take n xs) ≡ true
front_passes p zero xs all = refl
front_passes p (suc n) [] all = refl
front_passes p (suc n) (x ∷ xs) all =
    let here = and_left (p x) (list_all p xs) all in
    both (p x) (list_all p (take n xs)) here (front_passes p n xs (and_right (p x) (list_all p xs) all))

pub rest_passes : (p : ℕ → Bool) (n : ℕ) (xs : List ℕ) → list_all p xs ≡ true → list_all p (drop n xs) ≡ true
rest_passes p zero xs all = all
rest_passes p (suc n) [] all = refl
rest_passes p (suc n) (x ∷ xs) all = rest_passes p n xs (and_right (p x) (list_all p xs) all)

abbrev pub is_zero_byte : ℕ → Bool
is_zero_byte b = b == 0

pub zeros_pass : (n : ℕ) → list_all (λ b. b == 0) (replicate n 0) ≡ true
zeros_pass zero = refl
zeros_pass (suc n) = zeros_pass n

pub no_pieces : (n offset : ℕ) (bytes : List ℕ) → list_all (λ b. b == 0) bytes ≡ true → pieces_lines n offset bytes ≡ []
no_pieces zero offset bytes all = refl
no_pieces (suc n) offset bytes all =
    ap (λ t. (if t then [] else Piece offset (take 32 bytes) ∷ []) ++ pieces_lines n (offset + 32) (drop 32 bytes)) (front_passes is_zero_byte 32 bytes all)
    ∙ no_pieces n (offset + 32) (drop 32 bytes) (rest_passes is_zero_byte 32 bytes all)

-- cut behind m pieces
pieces_cut : (m n offset : ℕ) (bytes : List ℕ) → 32 * m ≤ length bytes
    → pieces_lines (m + n) offset bytes ≡ pieces_lines m offset (take (32 * m) bytes) ++ pieces_lines n (offset + 32 * m) (drop (32 * m) bytes)
pieces_cut zero n offset bytes long =
    let none : 0 + n ≡ n = omega arith in
    let here : offset ≡ offset + 0 = omega arith in
    ap₂ (λ k o. pieces_lines k o bytes) none here
pieces_cut (suc m) n offset bytes long =
    let one : suc m + n ≡ suc (m + n) = omega arith in
    let whole : 32 * suc m ≡ 32 + 32 * m = omega arith in
    let left : 32 * m ≤ length (drop 32 bytes) = let e = length-drop 32 bytes in omega (arith, e, long) in
    let first = take-take 32 (32 * suc m) bytes (omega arith) in
    let middle = ap (λ k. drop 32 (take k bytes)) whole ∙ drop-take 32 (32 * m) bytes in
    let last = drop-drop (32 * m) 32 bytes ∙ ap (λ k. drop k bytes) (sym whole) in
    let at : offset + 32 + 32 * m ≡ offset + 32 * suc m = omega arith in
    let L = piece_line offset (take 32 bytes) in
    let M = pieces_lines m (offset + 32) (take (32 * m) (drop 32 bytes)) in
    let N = pieces_lines n (offset + 32 + 32 * m) (drop (32 * m) (drop 32 bytes)) in
    ap (λ k. pieces_lines k offset bytes) one
    ∙ (ap (λ t. L ++ t) (pieces_cut m n (offset + 32) (drop 32 bytes) left)
    ∙ (sym (append_assoc L M N)
    ∙ ap₂ (λ x y. x ++ y) (ap₂ (λ a b. piece_line offset a ++ pieces_lines m (offset + 32) b) (sym first) (sym middle)) (ap₂ (λ o b. pieces_lines n o b) at last)))

-- a piece in front of the bytes behind it, of which there are none where the piece is short
front_is : (piece rest : List ℕ) → length piece ≤ 32 → (length piece < 32 → length rest ≤ 0) → (take 32 (piece ++ rest) ≡ piece) × (drop 32 (piece ++ rest) ≡ rest)
front_is piece rest few none = elim (cases_lt (length piece) 32) [
  | inl less ↦ (
      let gone = drop_all 0 rest (none less) in
      let size : length (piece ++ rest) ≤ 32 = let e = length-append piece rest in let n = none less in omega (arith, e, n, less) in
      let whole : piece ++ rest ≡ piece = ap (λ t. piece ++ t) gone ∙ append-nil piece in
      (take_all 32 (piece ++ rest) size ∙ whole, drop_all 32 (piece ++ rest) size ∙ sym gone)
      )
  | inr more ↦ (let full : length piece ≡ 32 = omega (arith, few, more) in (take_at piece rest 32 full, drop_at piece rest 32 full))
]

-- the line of a piece and those behind it, which are zeros
pieces_here : (n offset : ℕ) (piece rest : List ℕ) → list_all (λ b. b == 0) piece ≡ false → length piece ≤ 32 → (length piece < 32 → length rest ≤ 0)
    → list_all (λ b. b == 0) rest ≡ true → pieces_lines (suc n) offset (piece ++ rest) ≡ Piece offset piece ∷ []
pieces_here n offset piece rest told few none zeros =
    let cut = front_is piece rest few none in
    ap₂ (λ a b. piece_line offset a ++ pieces_lines n (offset + 32) b) cut.0 cut.1
    ∙ (ap (λ t. (if t then [] else Piece offset piece ∷ []) ++ pieces_lines n (offset + 32) rest) told
    ∙ ap (λ t. Piece offset piece ∷ t) (no_pieces n (offset + 32) rest zeros))

-- what a piece is put over: its offset begins a line of 32 bytes of the file, behind which the file has zeros, and the piece ends with the line or the file
pub record FitsPiece (offset : ℕ) (piece bytes : List ℕ) : Type 0 where
  pub even : offset % 32 ≡ 0
  pub inside : offset < length bytes
  pub size : length piece ≡ min 32 (length bytes - offset)
  pub zeros : list_all (λ b. b == 0) (drop offset bytes) ≡ true

-- behind a piece are zeros, and none where it is short
behind_zeros : (offset : ℕ) (piece bytes : List ℕ) → FitsPiece offset piece bytes → list_all (λ b. b == 0) (drop (offset + length piece) bytes) ≡ true
behind_zeros offset piece bytes h =
    ap (λ xs. list_all (λ b. b == 0) xs) (sym (drop-drop (length piece) offset bytes)) ∙ rest_passes is_zero_byte (length piece) (drop offset bytes) h.zeros

behind_short : (offset : ℕ) (piece bytes : List ℕ) → FitsPiece offset piece bytes → length piece < 32 → length (drop (offset + length piece) bytes) ≤ 0
behind_short offset piece bytes h less =
    let size = h.size in
    let inside = h.inside in
    let e = length-drop (offset + length piece) bytes in
    omega (arith, e, size, inside, less)

pub piece_length : (offset : ℕ) (piece bytes : List ℕ) → FitsPiece offset piece bytes → length (with_bytes bytes offset piece) ≡ length bytes
piece_length offset piece bytes h =
    let size = h.size in
    let inside = h.inside in
    let front = length-take offset bytes in
    let behind = length-drop (offset + length piece) bytes in
    let a = length-append (take offset bytes) piece in
    let b = length-append (take offset bytes ++ piece) (drop (offset + length piece) bytes) in
    omega (arith, size, inside, front, behind, a, b)

-- the bytes before a piece, and those from it on
before_piece : (offset : ℕ) (piece bytes : List ℕ) → FitsPiece offset piece bytes → take offset (with_bytes bytes offset piece) ≡ take offset bytes
before_piece offset piece bytes h =
    let inside = h.inside in
    let D = drop (offset + length piece) bytes in
    let front = length-take-le offset bytes (omega (arith, inside)) in
    ap (λ t. take offset t) (append_assoc (take offset bytes) piece D) ∙ take_at (take offset bytes) (piece ++ D) offset front

from_piece : (offset : ℕ) (piece bytes : List ℕ) → FitsPiece offset piece bytes → drop offset (with_bytes bytes offset piece) ≡ piece ++ drop (offset + length piece) bytes
from_piece offset piece bytes h =
    let inside = h.inside in
    let D = drop (offset + length piece) bytes in
    let front = length-take-le offset bytes (omega (arith, inside)) in
    ap (λ t. drop offset t) (append_assoc (take offset bytes) piece D) ∙ drop_at (take offset bytes) (piece ++ D) offset front

pub piece_zeros : (offset : ℕ) (piece bytes : List ℕ) → FitsPiece offset piece bytes → list_all (λ b. b == 0) (drop (offset + 32) (with_bytes bytes offset piece)) ≡ true
piece_zeros offset piece bytes h =
    let size = h.size in
    let few : length piece ≤ 32 = omega (arith, size) in
    let D = drop (offset + length piece) bytes in
    ap (λ xs. list_all (λ b. b == 0) xs) (sym (drop-drop 32 offset (with_bytes bytes offset piece)) ∙ (ap (λ xs. drop 32 xs) (from_piece offset piece bytes h)
    ∙ (front_is piece D few (behind_short offset piece bytes h)).1))
    ∙ behind_zeros offset piece bytes h

-- the lines with a piece more, m pieces behind the file's beginning
piece_more_at : (m n : ℕ) (piece bytes : List ℕ) → FitsPiece (32 * m) piece bytes → list_all (λ b. b == 0) piece ≡ false
    → pieces_lines (m + suc n) 0 (with_bytes bytes (32 * m) piece) ≡ pieces_lines (m + suc n) 0 bytes ++ Piece (32 * m) piece ∷ []
piece_more_at m n piece bytes h told =
    let size = h.size in
    let inside = h.inside in
    let few : length piece ≤ 32 = omega (arith, size) in
    let new = with_bytes bytes (32 * m) piece in
    let D = drop (32 * m + length piece) bytes in
    let same = piece_length (32 * m) piece bytes h in
    let F = pieces_lines m 0 (take (32 * m) bytes) in
    let at : 0 + 32 * m ≡ 32 * m = omega arith in
    let old = pieces_cut m (suc n) 0 bytes (omega (arith, inside))
    ∙ (ap (λ t. F ++ t) (no_pieces (suc n) (0 + 32 * m) (drop (32 * m) bytes) h.zeros) ∙ append-nil F) in
    let here = pieces_here n (32 * m) piece D told few (behind_short (32 * m) piece bytes h) (behind_zeros (32 * m) piece bytes h) in
    pieces_cut m (suc n) 0 new (omega (arith, inside, same))
    ∙ (ap₂ (λ a b. pieces_lines m 0 a ++ b) (before_piece (32 * m) piece bytes h)
    (ap₂ (λ o b. pieces_lines (suc n) o b) at (from_piece (32 * m) piece bytes h) ∙ here)
    ∙ ap (λ t. t ++ Piece (32 * m) piece ∷ []) (sym old))

pub piece_more : (n offset : ℕ) (piece bytes : List ℕ) → FitsPiece offset piece bytes → list_all (λ b. b == 0) piece ≡ false → length bytes ≤ 32 * n
    → pieces_lines n 0 (with_bytes bytes offset piece) ≡ pieces_lines n 0 bytes ++ Piece offset piece ∷ []
piece_more n offset piece bytes h told few =
    let inside = h.inside in
    let even = h.even in
    let m = offset / 32 in
    let at : 32 * (offset / 32) ≡ offset = omega (arith, even) in
    let count : offset / 32 + suc (n - suc (offset / 32)) ≡ n = omega (arith, at, inside, few) in
    let fits : FitsPiece (32 * m) piece bytes = subst (λ o. FitsPiece o piece bytes) (sym at) h in
    let more = piece_more_at m (n - suc m) piece bytes fits told in
    subst (λ k. pieces_lines k 0 (with_bytes bytes offset piece) ≡ pieces_lines k 0 bytes ++ Piece offset piece ∷ []) count
    (subst (λ o. pieces_lines (m + suc (n - suc m)) 0 (with_bytes bytes o piece) ≡ pieces_lines (m + suc (n - suc m)) 0 bytes ++ Piece o piece ∷ []) at more)
