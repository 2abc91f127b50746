-- A walk from the back over the pieces of a range: what it has counted, and when it ends.
use Rattle.std.proofs.Common.{◌≡◌, ℕ, ◌+◌, ◌<◌, ◌≤◌, Bool, true, false, cond, length, ap, inl, inr, arith, get_or, replicate}
use Rattle.std.specs.Prelude.{nat_le}
use Rattle.std.proofs.lemmas.Bool.{cases_Bool, cases_lt, leb-true, and_parts}
use Rattle.std.proofs.lemmas.List.{get_or-replicate, get_or_past, length-replicate}
use Rattle.seg_vn.specs.vm_types.declared.call.Kind.{Kind}
use Rattle.seg_vn.specs.vm_types.declared.call.Kind.TheVariants.{Shared, Private}
use Rattle.seg_vn.specs.addr_space.Space.{Part}
use Rattle.seg_vn.specs.vm_world.CountsFit.{is_number}
use Rattle.seg_vn.specs.vm_world.declared.segment.Segment.{Segment}
use Rattle.mmap_calls.specs.RangeCounts.{count_within, lies_within, pages_within, slots_within, zero_in}

abbrev pub one_if : Bool → ℕ
one_if b = cond b 1 0

pub one-few : (b : Bool) → one_if b ≤ 1
one-few true = omega arith
one-few false = omega arith

-- private pages are pages
slots-few : (first end : ℕ) (p : Part Segment) → slots_within first end p ≤ pages_within first end p
slots-few first end p = by_kind p.piece.kind
  where
    by_kind : (k : Kind) → (elim k as (λ _. ℕ) [ Private ↦ pages_within first end p | Shared ↦ 0 ]) ≤ pages_within first end p
    by_kind Private = omega arith
    by_kind Shared = omega arith

-- WHAT A PART HAS of the range is no more than its pages, and nothing where it lies outside
pub record HasFew (first end : ℕ) (f : Part Segment → ℕ) : Type 0 where
  pub few : (p : Part Segment) → 0 < p.pages → f p ≤ p.pages
  pub past : (p : Part Segment) → 0 < p.pages → end ≤ p.first → f p ≡ 0
  pub before : (p : Part Segment) → 0 < p.pages → p.first + p.pages ≤ first → f p ≡ 0

pub pages-within : (first end : ℕ) → HasFew first end (pages_within first end)
pages-within first end = record { few = λ p some. omega arith; past = λ p some le. omega (arith, le); before = λ p some le. omega (arith, le) }

pub slots-within : (first end : ℕ) → HasFew first end (slots_within first end)
slots-within first end =
    let all = pages-within first end in
    record {
      few = λ p some. let a = slots-few first end p in let b = all.few p some in omega (arith, a, b);
      past = λ p some le. let a = slots-few first end p in let b = all.past p some le in omega (arith, a, b);
      before = λ p some le. let a = slots-few first end p in let b = all.before p some le in omega (arith, a, b);
    }

lies : (first end : ℕ) (p : Part Segment) → lies_within first end p ≡ true → (first ≤ p.first) × (p.first + p.pages ≤ end)
lies first end p is = let both = and_parts (nat_le first p.first) (nat_le (p.first + p.pages) end) is in (leb-true first p.first both.0, leb-true (p.first + p.pages) end both.1)

pub objects-within : (first end z : ℕ) → HasFew first end (count_within first end z)
objects-within first end z = record {
  few = λ p some. elim (cases_Bool (lies_within first end p)) [
    | inl is ↦ let e = ap (λ (b : Bool). cond b (one_if (is_number z (zero_in p.piece.object))) 0) is in let one = one-few (is_number z (zero_in p.piece.object)) in omega (arith, e, one, some)
    | inr not_in ↦ let e = ap (λ (b : Bool). cond b (one_if (is_number z (zero_in p.piece.object))) 0) not_in in omega (arith, e)
  ];
  past = λ p some le. none p (λ is. let l = lies first end p is in let low = l.0 in let high = l.1 in omega (arith, low, high, some, le));
  before = λ p some le. none p (λ is. let l = lies first end p is in let low = l.0 in omega (arith, low, some, le));
}
  where
    none : (p : Part Segment) → (lies_within first end p ≡ true → ⊥) → count_within first end z p ≡ 0
    none p out = elim (cases_Bool (lies_within first end p)) [
      | inl is ↦ absurd (out is)
      | inr not_in ↦ ap (λ (b : Bool). cond b (one_if (is_number z (zero_in p.piece.object))) 0) not_in
    ]

pub none-counted : (n z : ℕ) → get_or {A = ℕ} (replicate n 0) z 0 ≡ 0
none-counted n z = elim (cases_lt z n) [
  | inl lt ↦ get_or-replicate n z 0 0 lt
  | inr past ↦ let e : length (replicate {A = ℕ} n 0) ≡ n = length-replicate n 0 in get_or_past (replicate n 0) z 0 (omega (arith, e, past))
]
