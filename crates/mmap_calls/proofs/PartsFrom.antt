-- Sums over the parts that begin at or after a page: what a walk from the back has counted.
use Rattle.std.proofs.Common.{◌≡◌, ◌≢◌, ℕ, ◌+◌, ◌<◌, ◌≤◌, Bool, cond, List, [], ◌∷◌, Option, Some, None, refl, ap, sym, ◌∙◌, inl, inr, subst, arith}
use Rattle.std.specs.Prelude.{nat_le, sum_by, IsSome}
use Rattle.std.proofs.lemmas.Bool.{cases_eq, cases_lt, eq-eqb, ne_eqb, le-leb, lt-leb}
use Rattle.std.proofs.lemmas.Bool.Decides.{nat_tests}
use Rattle.std.proofs.lemmas.List.Sums.{sum_by-cons}
use Rattle.seg_vn.specs.addr_space.Space.{Part, IsInOrder, FindsLast, begins, page_total, part_at}
use Rattle.seg_vn.proofs.addr_space.PartLemmas.{has-in}
use Rattle.seg_vn.proofs.addr_space.PartLists.{begins-found, begins-first, found-has}
use Rattle.seg_vn.specs.vm_world.declared.segment.Segment.{Segment}
use Rattle.mmap_calls.specs.RangeCounts.{NoneBelow}

abbrev pub from_page : ℕ → (Part Segment → ℕ) → Part Segment → ℕ
from_page top f p = cond (nat_le top p.first) (f p) 0

abbrev pub sum_from : (Part Segment → ℕ) → List (Part Segment) → ℕ → ℕ
sum_from f ps top = sum_by (from_page top f) ps

module _ (f : Part Segment → ℕ) where
  counted-here : (top : ℕ) (p : Part Segment) → top ≤ p.first → from_page top f p ≡ f p
  counted-here top p le = ap (λ (b : Bool). cond b (f p) 0) (le-leb top p.first le)

  counted-not : (top : ℕ) (p : Part Segment) → p.first < top → from_page top f p ≡ 0
  counted-not top p lt = ap (λ (b : Bool). cond b (f p) 0) (lt-leb top p.first lt)

  begins-here : (p : Part Segment) (ps : List (Part Segment)) → begins (p ∷ ps) p.first ≡ Some p
  begins-here p ps = ap (λ (b : Bool). cond b (Some p) (begins ps p.first)) (eq-eqb p.first p.first refl)

  begins-later : (p : Part Segment) (ps : List (Part Segment)) (k : ℕ) → p.first ≢ k → begins (p ∷ ps) k ≡ begins ps k
  begins-later p ps k ne = ap (λ (b : Bool). cond b (Some p) (begins ps k)) (ne_eqb p.first k ne)

  begins-past : (low : ℕ) (ps : List (Part Segment)) (k : ℕ) (x : Part Segment) → IsInOrder low ps → begins ps k ≡ Some x → low ≤ k
  begins-past low [] k x order is = grind arith
  begins-past low (p ∷ ps) k x order is = grind (arith, nat_tests, begins-past (p.first + p.pages) ps k x order.1)

  -- at the end of the range nothing is counted yet
  pub from-end : (end : ℕ) (ps : List (Part Segment)) → ((p : Part Segment) → 0 < p.pages → end ≤ p.first → f p ≡ 0) → (low : ℕ) → IsInOrder low ps → sum_from f ps end ≡ 0
  from-end end [] none low order = refl
  from-end end (p ∷ ps) none low order =
      let step = sum_by-cons (from_page end f) p ps in
      let more = from-end end ps none (p.first + p.pages) order.1 in
      elim (cases_lt p.first end) [
        | inl lt ↦ let here = counted-not end p lt in omega (arith, step, more, here)
        | inr ge ↦ let here = counted-here end p ge in let zero = none p order.0.some ge in omega (arith, step, more, here, zero)
      ]

  -- where no part begins between two pages, the sums are the same
  from-same : (k top : ℕ) (ps : List (Part Segment)) → k < top → ((p : Part Segment) → begins ps p.first ≡ Some p → k ≤ p.first → top ≤ p.first) → (low : ℕ) → IsInOrder low ps → sum_from f ps k ≡ sum_from f ps top
  from-same k top [] lt none low order = refl
  from-same k top (p ∷ ps) lt none low order =
      let a = sum_by-cons (from_page k f) p ps in
      let b = sum_by-cons (from_page top f) p ps in
      let more = from-same k top ps lt (λ x is. none x (later x is)) (p.first + p.pages) order.1 in
      elim (cases_lt p.first k) [
        | inl low ↦ let x = counted-not k p low in let y = counted-not top p (omega (arith, low, lt)) in omega (arith, a, b, more, x, y)
        | inr high ↦ let x = counted-here k p high in let y = counted-here top p (none p (begins-here p ps) high) in omega (arith, a, b, more, x, y)
      ]
    where
      later : (x : Part Segment) → begins ps x.first ≡ Some x → begins (p ∷ ps) x.first ≡ Some x
      later x is =
          let past = begins-past (p.first + p.pages) ps x.first x order.1 is in
          let some = order.0.some in
          begins-later p ps x.first (λ e. omega (arith, past, some, e)) ∙ is

  -- THE LAST PART below is counted next
  pub from-step : (low k top : ℕ) (ps : List (Part Segment)) (x : Part Segment) → IsInOrder low ps → k < top → begins ps k ≡ Some x → ((first : ℕ) → k < first → first < top → begins ps first ≡ None) → sum_from f ps k ≡ f x + sum_from f ps top
  from-step low k top [] x order lt is none = grind arith
  from-step low k top (p ∷ ps) x order lt is none =
      let a = sum_by-cons (from_page k f) p ps in
      let b = sum_by-cons (from_page top f) p ps in
      let some = order.0.some in
      elim (cases_eq p.first k) [
        | inl same ↦
            let is_part : p ≡ x = let e : Some p ≡ Some x = sym (begins-here p ps) ∙ ap (begins (p ∷ ps)) same ∙ is in cc in
            let value = ap f is_part in
            let here = counted-here k p (omega (arith, same)) in
            let not_yet = counted-not top p (omega (arith, same, lt)) in
            let more = from-same k top ps lt (λ y found above. elim (cases_lt y.first top) [
              | inr ge ↦ ge
              | inl below ↦ absurd (
                  let past = begins-past (p.first + p.pages) ps y.first y order.1 found in
                  let e : Some y ≡ None = sym (begins-later p ps y.first (λ e. omega (arith, past, some, e)) ∙ found) ∙ none y.first (omega (arith, past, some, same)) below in
                  cc)
            ]) (p.first + p.pages) order.1 in
            omega (arith, a, b, value, here, not_yet, more)
        | inr apart ↦
            let found : begins ps k ≡ Some x = sym (begins-later p ps k apart) ∙ is in
            let past = begins-past (p.first + p.pages) ps k x order.1 found in
            let here = counted-not k p (omega (arith, past, some)) in
            let not_yet = counted-not top p (omega (arith, past, some, lt)) in
            let more = from-step (p.first + p.pages) k top ps x order.1 lt found (λ first above below. sym (begins-later p ps first (λ e. omega (arith, past, some, e, above))) ∙ none first above below) in
            omega (arith, a, b, here, not_yet, more)
      ]

  -- and where nothing below counts, all is counted
  pub from-all : (low top : ℕ) (ps : List (Part Segment)) → IsInOrder low ps → ((p : Part Segment) → 0 < p.pages → begins ps p.first ≡ Some p → p.first < top → f p ≡ 0) → sum_from f ps top ≡ sum_by f ps
  from-all low top [] order none = refl
  from-all low top (p ∷ ps) order none =
      let a = sum_by-cons (from_page top f) p ps in
      let b = sum_by-cons f p ps in
      let some = order.0.some in
      let more = from-all (p.first + p.pages) top ps order.1 (λ x full is lt. (
      let past = begins-past (p.first + p.pages) ps x.first x order.1 is in
      none x full (begins-later p ps x.first (λ e. omega (arith, past, some, e)) ∙ is) lt)) in
      elim (cases_lt p.first top) [
        | inl lt ↦ let here = counted-not top p lt in let zero = none p order.0.some (begins-here p ps) lt in omega (arith, a, b, more, here, zero)
        | inr ge ↦ let here = counted-here top p ge in omega (arith, a, b, more, here)
      ]

  -- never more than the pages of all
  pub from-few : (top : ℕ) (ps : List (Part Segment)) → ((p : Part Segment) → 0 < p.pages → f p ≤ p.pages) → (low : ℕ) → IsInOrder low ps → sum_from f ps top ≤ page_total ps
  from-few top [] few low order = omega arith
  from-few top (p ∷ ps) few low order =
      let a = sum_by-cons (from_page top f) p ps in
      let b = sum_by-cons (λ (x : Part Segment). x.pages) p ps in
      let more = from-few top ps few (p.first + p.pages) order.1 in
      let one = few p order.0.some in
      elim (cases_lt p.first top) [
        | inl lt ↦ let here = counted-not top p lt in omega (arith, a, b, more, here)
        | inr ge ↦ let here = counted-here top p ge in omega (arith, a, b, more, here, one)
      ]

-- THE WALK ENDS where the last part below a page ends before the range
pub last-ends : (ps : List (Part Segment)) (from below k : ℕ) (x : Part Segment) → IsInOrder 1 ps → FindsLast ps below (Some k) → begins ps k ≡ Some x → x.first + x.pages ≤ from → NoneBelow ps from below
last-ends ps from below k x order last is ends y found lt = elim (cases_lt k y.first) [
  | inl after ↦ absurd (let e : Some y ≡ None = sym found ∙ last.2 y.first after lt in cc)
  | inr le ↦ elim (cases_eq y.first k) [
    | inl same ↦ let e : y ≡ x = (let d : Some y ≡ Some x = sym found ∙ ap (begins ps) same ∙ is in cc) in let end = ap (λ (p : Part Segment). p.first + p.pages) e in omega (arith, end, ends)
    | inr apart ↦ elim (cases_lt k (y.first + y.pages)) [
      | inl within ↦ absurd (
          let here = found-has 1 ps y.first k y order (begins-found 1 ps y.first y order found) (has-in y k le within) in
          let e : y ≡ x = (let d : Some y ≡ Some x = sym here ∙ begins-found 1 ps k x order is in cc) in
          apart (ap (λ (p : Part Segment). p.first) e ∙ begins-first ps k x is))
      | inr past ↦ let first = begins-first ps k x is in omega (arith, past, first, ends)
    ]
  ]
]

-- a part that begins with a page and is found there is the one
pub begun-is : (ps : List (Part Segment)) (k : ℕ) (x : Part Segment) → IsInOrder 1 ps → IsSome (begins ps k) → part_at ps k ≡ Some x → (x.first ≡ k) × (begins ps k ≡ Some x)
begun-is ps k x order some found = by_part (begins ps k) refl some
  where
    by_part : (o : Option (Part Segment)) → begins ps k ≡ o → IsSome o → (x.first ≡ k) × (begins ps k ≡ Some x)
    by_part None e s = absurd (cc)
    by_part (Some y) e s = let same : y ≡ x = (let d : Some y ≡ Some x = sym (begins-found 1 ps k y order e) ∙ found in cc) in let is = e ∙ ap (λ (p : Part Segment). Some p) same in (begins-first ps k x is, is)

-- what `last` and `find` tell together
pub last-is : (ps : List (Part Segment)) (below k : ℕ) (x : Part Segment) → IsInOrder 1 ps → FindsLast ps below (Some k) → part_at ps k ≡ Some x → FindsLast ps below (Some x.first) × (begins ps x.first ≡ Some x)
last-is ps below k x order last found =
    let is = begun-is ps k x order last.1 found in
    (subst (λ (j : ℕ). FindsLast ps below (Some j)) (sym is.0) last, ap (begins ps) is.0 ∙ is.1)
