-- Parts of a list of bytes, and what stands in them.
use Rattle.std.proofs.Common.{ℕ, zero, suc, ◌≡◌, ◌<◌, ◌≤◌, ◌+◌, ◌-◌, ◌*◌, true, eqb, List, [], ◌∷◌, ◌++◌, length, take, drop, replicate, refl, ap, sym, ◌∙◌, arith, length-drop}
use Rattle.std.specs.Prelude.{slice_range}
use Rattle.std.specs.List.{flat_map, list_all, range_with_len}
use Rattle.std.proofs.lemmas.Bool.{and_parts, eqb-true}
use Rattle.std.proofs.lemmas.List.{take_all, take-append-le, drop-append-le, drop_at, drop-drop, drop-take, take-take, take-append-drop, append-nil}
use Rattle.std.proofs.lemmas.List.Edits.{length-between}
use Rattle.std.proofs.lemmas.List.Concat.{flat_map-append}
use Rattle.volume_format.specs.Layout.{are_zeros}
use Rattle.volume_format.proofs.RangeLemmas.{range-more}

-- A part of what stands in front.
pub slice-front : (xs ys : List ℕ) (at end : ℕ) → at ≤ end → end ≤ length xs → slice_range (xs ++ ys) at end ≡ slice_range xs at end
slice-front xs ys at end order within =
    ap (take (end - at)) (drop-append-le at xs ys (omega arith))
    ∙ take-append-le (end - at) (drop at xs) ys (omega (arith, length-drop at xs))

-- What stands behind a front.
pub slice-last : (xs ys : List ℕ) (at end : ℕ) → length xs ≡ at → at + length ys ≡ end → slice_range (xs ++ ys) at end ≡ ys
slice-last xs ys at end e f =
    ap (take (end - at)) (drop_at xs ys at e) ∙ take_all (end - at) ys (omega arith)

-- A part of a part.
pub slice-slice : (xs : List ℕ) (at end from to : ℕ) → from ≤ to → at + to ≤ end → slice_range (slice_range xs at end) from to ≡ slice_range xs (at + from) (at + to)
slice-slice xs at end from to order within =
    let part = drop at xs in
    let rest = end - at - from in
    let size : end - at ≡ from + rest = omega arith in
    let span : to - from ≡ at + to - (at + from) = omega arith in
    ap (λ (n : ℕ). take (to - from) (drop from (take n part))) size
    ∙ ap (take (to - from)) (drop-take from rest part)
    ∙ take-take (to - from) rest (drop from part) (omega arith)
    ∙ ap (take (to - from)) (drop-drop from at xs)
    ∙ ap (λ (n : ℕ). take n (drop (at + from) xs)) span

-- Two parts, one behind the other.
pub slice-join : (xs : List ℕ) (at mid end : ℕ) → at ≤ mid → mid ≤ end → slice_range xs at mid ++ slice_range xs mid end ≡ slice_range xs at end
slice-join xs at mid end one two =
    let part = drop at xs in
    let p = mid - at in
    let q = end - mid in
    let start : mid ≡ at + p = omega arith in
    let span : p + q ≡ end - at = omega arith in
    ap (λ (n : ℕ). take p part ++ take q (drop n xs)) start
    ∙ ap (λ (ys : List ℕ). take p part ++ take q ys) (sym (drop-drop p at xs))
    ∙ ap (λ (ys : List ℕ). take p part ++ ys) (sym (drop-take p q part))
    ∙ ap (λ (ys : List ℕ). ys ++ drop p (take (p + q) part)) (sym (take-take p (p + q) part (omega arith)))
    ∙ take-append-drop p (take (p + q) part)
    ∙ ap (λ (n : ℕ). take n part) span

pub length-slice : (xs : List ℕ) (at end : ℕ) → at ≤ end → end ≤ length xs → length (slice_range xs at end) ≡ end - at
length-slice xs at end order within = length-between xs at end within

-- Zeros are so many zeros.
pub zeros-are : (bytes : List ℕ) → are_zeros bytes ≡ true → bytes ≡ replicate (length bytes) 0
unfolding are_zeros
zeros-are [] h = refl
zeros-are (b ∷ bytes) h =
    let parts = and_parts (eqb b 0) (list_all (λ c. eqb c 0) bytes) h in
    let rest = zeros-are bytes parts.1 in
    ap (λ (c : ℕ). c ∷ bytes) (eqb-true b 0 parts.0) ∙ ap (λ (xs : List ℕ). 0 ∷ xs) rest

pub zeros-of : (n : ℕ) → are_zeros (replicate n 0) ≡ true
unfolding are_zeros
zeros-of zero = refl
zeros-of (suc n) = zeros-of n

-- Parts of one size one after another, each told by a function, are one part.
pub flat-slices : (xs : List ℕ) (f : ℕ → List ℕ) (at size n : ℕ) → ((k : ℕ) → k < n → f k ≡ slice_range xs (at + size * k) (at + size * k + size))
    → flat_map f (range_with_len 0 n) ≡ slice_range xs at (at + size * n)
flat-slices xs f at size zero each = let none : at + size * 0 - at ≡ 0 = omega arith in sym (ap (λ (k : ℕ). take k (drop at xs)) none)
flat-slices xs f at size (suc n) each =
    let before : flat_map f (range_with_len 0 n) ≡ slice_range xs at (at + size * n) = flat-slices xs f at size n (λ k below. each k (omega arith)) in
    let here : f n ≡ slice_range xs (at + size * n) (at + size * n + size) = each n (omega arith) in
    let step : suc n ≡ n + 1 = omega arith in
    let more : range_with_len 0 (suc n) ≡ range_with_len 0 n ++ n ∷ [] = ap (range_with_len 0) step ∙ range-more 0 n n (omega arith) in
    let ends : at + size * n + size ≡ at + size * suc n = omega arith in
    ap (flat_map f) more
    ∙ flat_map-append f (range_with_len 0 n) (n ∷ [])
    ∙ ap (λ (ys : List ℕ). flat_map f (range_with_len 0 n) ++ ys) (append-nil (f n))
    ∙ ap (λ (ys : List ℕ). ys ++ f n) before
    ∙ ap (λ (ys : List ℕ). slice_range xs at (at + size * n) ++ ys) here
    ∙ slice-join xs at (at + size * n) (at + size * n + size) (omega arith) (omega arith)
    ∙ ap (slice_range xs at) ends
