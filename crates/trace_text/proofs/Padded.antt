-- Bytes of a file behind those that are kept.
use Rattle.std.proofs.Common.{◌≡◌, ℕ, ◌≤◌, ◌+◌, ◌-◌, ◌*◌, ◌/◌, ◌%◌, ◌||◌, List, [], ◌∷◌, ◌++◌, length, map, take, drop, replicate, refl, sym, ap, ap₂, ◌∙◌, append_assoc, length-append, arith}
use Rattle.std.specs.Prelude.{nat_eq}
use Rattle.std.specs.List.{list_any}
use Rattle.std.proofs.lemmas.List.{length-replicate, replicate-append-replicate, drop-drop, drop-replicate, take_at, drop_at, take_all}
use Rattle.vm_report.specs.flat_model.Words.{with_bytes}
use Rattle.trace_text.specs.OpeningSeen.{padded}

pub put_behind : (items piece : List ℕ) (len offset : ℕ) → length items ≤ offset → offset + length piece ≤ len
    → padded len ((take offset items ++ replicate (offset - length items) 0) ++ piece) ≡ with_bytes (padded len items) offset piece
put_behind items piece len offset behind inside =
    let a = offset - length items in
    let b = len - offset in
    let n = length piece in
    let R : List ℕ = replicate b 0 in
    let A = items ++ replicate a 0 in
    let Z : List ℕ = replicate a 0 in
    let size_z : length Z ≡ a = length-replicate a 0 in
    let size_a : length A ≡ offset = let e = length-append items (replicate a 0) in omega (arith, e, size_z, behind) in
    let count : len - length items ≡ a + b = omega (arith, behind, inside) in
    let whole : padded len items ≡ A ++ R =
    ap (λ k. items ++ replicate k 0) count
    ∙ (ap (λ x. items ++ x) (sym (replicate-append-replicate a b 0)) ∙ sym (append_assoc items (replicate a 0) R)) in
    let front : take offset (padded len items) ≡ A = ap (λ x. take offset x) whole ∙ take_at A R offset size_a in
    let back : drop (offset + n) (padded len items) ≡ replicate (b - n) 0 =
    ap (λ x. drop (offset + n) x) whole
    ∙ (sym (drop-drop n offset (A ++ R)) ∙ (ap (λ x. drop n x) (drop_at A R offset size_a) ∙ drop-replicate n b 0)) in
    let resized : take offset items ++ replicate a 0 ≡ A = ap (λ x. x ++ replicate a 0) (take_all offset items behind) in
    let size = length-append A piece in
    let left : len - length (A ++ piece) ≡ b - n = omega (arith, size, size_a, inside) in
    ap (λ x. padded len (x ++ piece)) resized
    ∙ (ap (λ k. (A ++ piece) ++ replicate k 0) left ∙ sym (ap₂ (λ x y. (x ++ piece) ++ y) front back))

-- whether a number is that of a disk
pub any_number : (n : ℕ) (disks : List (ℕ × ℕ)) → list_any (nat_eq n) (map (λ d. d.0) disks) ≡ list_any (λ d. nat_eq n d.0) disks
any_number n [] = refl
any_number n (d ∷ disks) = ap (λ t. nat_eq n d.0 || t) (any_number n disks)
