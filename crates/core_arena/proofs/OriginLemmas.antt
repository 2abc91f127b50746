-- An origin tells the region's address and size.
use Rattle.std.proofs.Common.{◌≡◌, ℕ, ◌+◌, ◌*◌, ◌≤◌, inl, inr, arith, sym, ap, ◌∙◌, refl}
use Rattle.std.proofs.Math.Nat.{mul-le-mul_left, mul-le-mul_right, eq-or-lt_of_le}
use Rattle.std.proofs.lemmas.Bool.{cases_lt}
use denote.RawPtr.{Ptr, block_ptr, null_ptr}
use Rattle.core_arena.specs.Origin.{pair, address, origin_of}

-- a smaller sum makes a smaller number
sum-below : (s t a c : ℕ) → a ≤ s → s + 1 ≤ t → s * s + a ≡ t * t + c → ⊥
sum-below s t a c below less e =
    let one : (s + 1) * (s + 1) ≤ t * (s + 1) = mul-le-mul_right (s + 1) less in
    let two : t * (s + 1) ≤ t * t = mul-le-mul_left t less in
    omega (arith, one, two, below, e)

same_sum : (a b c d : ℕ) → pair a b ≡ pair c d → a + b ≡ c + d
same_sum a b c d e = elim (cases_lt (a + b) (c + d)) [
  | inl less ↦ absurd (sum-below (a + b) (c + d) a c (omega arith) (omega (arith, less)) e)
  | inr more ↦ elim (eq-or-lt_of_le more) [
    | inl same ↦ sym same
    | inr less ↦ absurd (sum-below (c + d) (a + b) c a (omega arith) (omega (arith, less)) (sym e))
  ]
]

pub pair-parts : (a b c d : ℕ) → pair a b ≡ pair c d → (a ≡ c) × (b ≡ d)
pair-parts a b c d e =
    let sum : a + b ≡ c + d = same_sum a b c d e in
    let square : (a + b) * (a + b) ≡ (c + d) * (c + d) = ap (λ (n : ℕ). n * n) sum in
    let first : a ≡ c = omega (arith, square, e) in
    (first, omega (arith, first, sum))

pub address-same : (p q : Ptr) → address p ≡ address q → p ≡ q
address-same null_ptr null_ptr e = refl
address-same null_ptr (block_ptr b o) e = absurd (omega (arith, e))
address-same (block_ptr b o) null_ptr e = absurd (omega (arith, e))
address-same (block_ptr b o) (block_ptr b' o') e =
    let parts = pair-parts b o b' o' (omega (arith, e)) in
    ap (λ (k : ℕ). block_ptr k o) parts.0 ∙ ap (λ (k : ℕ). block_ptr b' k) parts.1

pub origin-parts : (p q : Ptr) (n m : ℕ) → origin_of p n ≡ origin_of q m → (p ≡ q) × (n ≡ m)
origin-parts p q n m e =
    let parts = pair-parts (address p) n (address q) m e in
    (address-same p q parts.0, parts.1)
