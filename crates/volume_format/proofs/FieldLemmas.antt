-- The fields of a table's spelling.
use Rattle.std.proofs.Common.{ℕ, zero, suc, ◌≡◌, ◌<◌, ◌≤◌, ◌+◌, ◌-◌, ◌*◌, ◌^◌, List, [], ◌∷◌, ◌++◌, length, take, drop, ap, sym, subst, ◌∙◌, inl, inr, arith, length-append}
use Rattle.std.specs.Prelude.{if◌then◌else◌, slice_range}
use Rattle.std.specs.List.{flat_map, range_with_len}
use Rattle.std.specs.Int.{w32, from_be_bytes}
use Rattle.std.proofs.lemmas.Bool.{cases_eq}
use Rattle.std.proofs.Math.Nat.{mul-le-mul_left}
use Rattle.std.proofs.lemmas.Nat.{from_be_bytes-to_be_bytes_4}
use Rattle.std.proofs.lemmas.List.{take_all, drop_at, drop-drop, append-nil}
use Rattle.std.proofs.lemmas.List.Concat.{flat_map-append}
use Rattle.vnode_files.specs.declared.vnode.FileInfo.{FileInfo}
use Rattle.volume_format.specs.Layout.{number_at}
use Rattle.volume_format.specs.Writing.{padded_field, number_bytes, file_entry_bytes}
use Rattle.volume_format.proofs.RangeLemmas.{range-more}
use Rattle.volume_format.proofs.SliceLemmas.{slice-front, slice-last}
use Rattle.volume_format.proofs.WritingLemmas.{length-number_bytes, length-zero_filled}

-- A part of a front, where more stands behind it.
pub in-front : (xs ys part : List ℕ) (at end : ℕ) → at ≤ end → end ≤ length xs → slice_range xs at end ≡ part → slice_range (xs ++ ys) at end ≡ part
in-front xs ys part at end order within e = slice-front xs ys at end order within ∙ e

-- A part of what stands behind a front.
pub slice-behind : (xs ys : List ℕ) (at from to : ℕ) → length xs ≡ at → slice_range (xs ++ ys) (at + from) (at + to) ≡ slice_range ys from to
slice-behind xs ys at from to e =
    let span : at + to - (at + from) ≡ to - from = omega arith in
    ap (λ (n : ℕ). take n (drop (at + from) (xs ++ ys))) span
    ∙ ap (take (to - from)) (sym (drop-drop from at (xs ++ ys)) ∙ ap (drop from) (drop_at xs ys at e))

-- The number whose bytes stand at a place.
pub number-read : (block : List ℕ) (at n : ℕ) → n < 2 ^ 32 → slice_range block at (at + 4) ≡ number_bytes n → number_at block at ≡ n
unfolding number_at number_bytes
number-read block at n fits e = ap (from_be_bytes w32) e ∙ from_be_bytes-to_be_bytes_4 n fits

-- The parts of an entry, and of an extent.
pub record EntryParts (f : FileInfo) (first : ℕ) : Type 0 where
  pub name : slice_range (file_entry_bytes f first) 0 16 ≡ padded_field 16 f.name
  pub size : slice_range (file_entry_bytes f first) 16 20 ≡ number_bytes f.length
  pub place : slice_range (file_entry_bytes f first) 20 24 ≡ number_bytes first
  pub count : slice_range (file_entry_bytes f first) 24 28 ≡ number_bytes (length f.extents)
  pub mode : slice_range (file_entry_bytes f first) 28 32 ≡ number_bytes (if f.writable then 1 else 0)
  pub whole : length (file_entry_bytes f first) ≡ 32

pub entry-parts : (f : FileInfo) (first : ℕ) → length f.name ≤ 16 → EntryParts f first
unfolding file_entry_bytes
entry-parts f first short =
    let name = padded_field 16 f.name in
    let size = number_bytes f.length in
    let place = number_bytes first in
    let count = number_bytes (length f.extents) in
    let mode = number_bytes (if f.writable then 1 else 0) in
    let n0 : length name ≡ 16 = length-zero_filled 16 f.name short in
    let n1 : length size ≡ 4 = length-number_bytes f.length in
    let n2 : length place ≡ 4 = length-number_bytes first in
    let n3 : length count ≡ 4 = length-number_bytes (length f.extents) in
    let n4 : length mode ≡ 4 = length-number_bytes (if f.writable then 1 else 0) in
    let l1 : length (name ++ size) ≡ 20 = omega (arith, length-append name size) in
    let l2 : length (name ++ size ++ place) ≡ 24 = omega (arith, length-append (name ++ size) place) in
    let l3 : length (name ++ size ++ place ++ count) ≡ 28 = omega (arith, length-append (name ++ size ++ place) count) in
    record {
      name = in-front (name ++ size ++ place ++ count) mode name 0 16 (omega arith) (omega arith)
          (in-front (name ++ size ++ place) count name 0 16 (omega arith) (omega arith)
          (in-front (name ++ size) place name 0 16 (omega arith) (omega arith)
          (in-front name size name 0 16 (omega arith) (omega arith) (take_all 16 name (omega arith)))));
      size = in-front (name ++ size ++ place ++ count) mode size 16 20 (omega arith) (omega arith)
          (in-front (name ++ size ++ place) count size 16 20 (omega arith) (omega arith)
          (in-front (name ++ size) place size 16 20 (omega arith) (omega arith) (slice-last name size 16 20 n0 (omega arith))));
      place = in-front (name ++ size ++ place ++ count) mode place 20 24 (omega arith) (omega arith)
          (in-front (name ++ size ++ place) count place 20 24 (omega arith) (omega arith) (slice-last (name ++ size) place 20 24 l1 (omega arith)));
      count = in-front (name ++ size ++ place ++ count) mode count 24 28 (omega arith) (omega arith) (slice-last (name ++ size ++ place) count 24 28 l2 (omega arith));
      mode = slice-last (name ++ size ++ place ++ count) mode 28 32 l3 (omega arith);
      whole = omega (arith, length-append (name ++ size ++ place ++ count) mode);
    }

-- Parts of one size one after another, and one of them.
pub flat-one-more : (f : ℕ → List ℕ) (n : ℕ) → flat_map f (range_with_len 0 (n + 1)) ≡ flat_map f (range_with_len 0 n) ++ f n
flat-one-more f n =
    ap (flat_map f) (range-more 0 n n (omega arith))
    ∙ flat_map-append f (range_with_len 0 n) (n ∷ [])
    ∙ ap (λ (xs : List ℕ). flat_map f (range_with_len 0 n) ++ xs) (append-nil (f n))

pub length-flat : (f : ℕ → List ℕ) (size n : ℕ) → ((k : ℕ) → k < n → length (f k) ≡ size) → length (flat_map f (range_with_len 0 n)) ≡ size * n
length-flat f size zero each = omega arith
length-flat f size (suc n) each =
    let step : suc n ≡ n + 1 = omega arith in
    let before : length (flat_map f (range_with_len 0 n)) ≡ size * n = length-flat f size n (λ k below. each k (omega arith)) in
    let here : length (f n) ≡ size = each n (omega arith) in
    ap (λ (k : ℕ). length (flat_map f (range_with_len 0 k))) step
    ∙ ap length (flat-one-more f n)
    ∙ omega (arith, length-append (flat_map f (range_with_len 0 n)) (f n))

product-room : (size k n : ℕ) → k < n → size * k + size ≤ size * n
product-room size k n below = let next : k + 1 ≤ n = omega arith in omega (arith, mul-le-mul_left size next)

flat-part-step : (f : ℕ → List ℕ) (size n k : ℕ) → ((k : ℕ) → k < suc n → length (f k) ≡ size) → k < suc n → length (flat_map f (range_with_len 0 n)) ≡ size * n
    → (k < n → slice_range (flat_map f (range_with_len 0 n)) (size * k) (size * k + size) ≡ f k)
    → slice_range (flat_map f (range_with_len 0 n) ++ f n) (size * k) (size * k + size) ≡ f k
flat-part-step f size n k each there before low = elim (cases_eq k n) [
  | inl e ↦ subst (λ (j : ℕ). slice_range (flat_map f (range_with_len 0 n) ++ f n) (size * j) (size * j + size) ≡ f j) (sym e)
      (slice-last (flat_map f (range_with_len 0 n)) (f n) (size * n) (size * n + size) before (ap (λ (m : ℕ). size * n + m) (each n (omega arith))))
  | inr ne ↦ let below : k < n = omega arith in
      let room : size * k + size ≤ size * n = product-room size k n below in
      slice-front (flat_map f (range_with_len 0 n)) (f n) (size * k) (size * k + size) (omega arith) (omega arith) ∙ low below
]

pub flat-part : (f : ℕ → List ℕ) (size n k : ℕ) → ((k : ℕ) → k < n → length (f k) ≡ size) → k < n
    → slice_range (flat_map f (range_with_len 0 n)) (size * k) (size * k + size) ≡ f k
flat-part f size zero k each there = absurd (omega arith)
flat-part f size (suc n) k each there =
    let step : suc n ≡ n + 1 = omega arith in
    let front = flat_map f (range_with_len 0 n) in
    let before : length front ≡ size * n = length-flat f size n (λ k below. each k (omega arith)) in
    let more : flat_map f (range_with_len 0 (suc n)) ≡ front ++ f n = ap (λ (k : ℕ). flat_map f (range_with_len 0 k)) step ∙ flat-one-more f n in
    ap (λ (xs : List ℕ). slice_range xs (size * k) (size * k + size)) more
    ∙ flat-part-step f size n k each there before (λ low. flat-part f size n k (λ k below. each k (omega arith)) low)
