-- Parts that are walked over from the front.
use Rattle.std.proofs.Common.{◌≡◌, ℕ, ◌+◌, ◌<◌, ◌≤◌, Bool, true, false, cond, List, [], ◌∷◌, length, Option, Some, None, refl, sym, ap, ◌∙◌, inl, inr, subst, arith}
use Rattle.std.specs.Prelude.{nat_le, sum_by, option_map, find, All, MatchOption, is_some}
use Rattle.std.proofs.lemmas.Bool.{cases_lt, lt-leb, le-leb, lt-ltb, le-ltb}
use Rattle.std.proofs.lemmas.List.Elements.{All-head, All-tail}
use Rattle.std.proofs.lemmas.List.Sums.{sum_by-cons}
use Rattle.seg_vn.specs.addr_space.Space.{Part, part_at, begins, next_first, page_total, IsInOrder}
use Rattle.seg_vn.proofs.addr_space.PartLemmas.{at-here, at-next, has-before, has-in, has-past, none-below, found-in}
use Rattle.seg_vn.proofs.addr_space.Totals.{total-within}
use Rattle.seg_vn.specs.vm_world.CountsFit.{slots_for_part}
use Rattle.seg_vn.specs.vm_world.declared.segment.Segment.{Segment}
use Rattle.proc_calls.specs.Pieces.{parts_from, IsFirstFrom, OwnsPages}

pub match-none : {A : Type 0} (o : Option A) (P : Type 0) (Q : A → Type 0) → o ≡ None → P → MatchOption o P Q
match-none None P Q none p = p
match-none (Some x) P Q none p = absurd (let z : Some x ≡ None = none in cc)

from-lt : (q : ℕ) (p : Part Segment) (ps : List (Part Segment)) → p.first < q → parts_from q (p ∷ ps) ≡ parts_from q ps
from-lt q p ps lt = ap (λ (b : Bool). cond b (parts_from q ps) (p ∷ ps)) (lt-ltb p.first q lt)

from-ge : (q : ℕ) (p : Part Segment) (ps : List (Part Segment)) → q ≤ p.first → parts_from q (p ∷ ps) ≡ p ∷ ps
from-ge q p ps le = ap (λ (b : Bool). cond b (parts_from q ps) (p ∷ ps)) (le-ltb p.first q le)

next-lt : (q : ℕ) (p : Part Segment) (ps : List (Part Segment)) → p.first < q → next_first (p ∷ ps) q ≡ next_first ps q
next-lt q p ps lt = ap (λ (b : Bool). option_map (λ (x : Part Segment). x.first) (cond b (Some p) (find (λ (x : Part Segment). nat_le q x.first) ps))) (lt-leb q p.first lt)

next-ge : (q : ℕ) (p : Part Segment) (ps : List (Part Segment)) → q ≤ p.first → next_first (p ∷ ps) q ≡ Some p.first
next-ge q p ps le = ap (λ (b : Bool). option_map (λ (x : Part Segment). x.first) (cond b (Some p) (find (λ (x : Part Segment). nat_le q x.first) ps))) (le-leb q p.first le)

-- all parts, from a page at or below the first
pub whole-from : (low q : ℕ) (ps : List (Part Segment)) → IsInOrder low ps → q ≤ low → parts_from q ps ≡ ps
whole-from low q [] order le = refl
whole-from low q (p ∷ ps) order le = let b = order.0.behind in from-ge q p ps (omega (arith, b, le))

-- none, where none begins at the page or behind it
pub none-from : (q : ℕ) (ps : List (Part Segment)) → next_first ps q ≡ None → parts_from q ps ≡ []
none-from q [] is = refl
none-from q (p ∷ ps) is = elim (cases_lt p.first q) [
  | inl lt ↦ from-lt q p ps lt ∙ none-from q ps (sym (next-lt q p ps lt) ∙ is)
  | inr ge ↦ absurd (let z : Some p.first ≡ None = sym (next-ge q p ps ge) ∙ is in cc)
]

next-past : (low q f : ℕ) (ps : List (Part Segment)) → IsInOrder low ps → next_first ps q ≡ Some f → low ≤ f
next-past low q f [] order is = absurd (let z : None ≡ Some f = is in cc)
next-past low q f (p ∷ ps) order is =
    let b = order.0.behind in
    elim (cases_lt p.first q) [
      | inl lt ↦ let more = next-past (p.first + p.pages) q f ps order.1 (sym (next-lt q p ps lt) ∙ is) in omega (arith, b, more)
      | inr ge ↦ let e : p.first ≡ f = (let z : Some p.first ≡ Some f = sym (next-ge q p ps ge) ∙ is in cc) in omega (arith, b, e)
    ]

-- THE FIRST is there, and the others are those behind it
next-is : (low q f : ℕ) (ps : List (Part Segment)) (x : Part Segment) → IsInOrder low ps → next_first ps q ≡ Some f → part_at ps f ≡ Some x → (x.first ≡ f) × (parts_from q ps ≡ x ∷ parts_from (x.first + x.pages) ps)
next-is low q f [] x order is found = absurd (let z : None ≡ Some f = is in cc)
next-is low q f (p ∷ ps) x order is found =
    let some = order.0.some in
    elim (cases_lt p.first q) [
      | inl lt ↦
          let later = sym (next-lt q p ps lt) ∙ is in
          let past = next-past (p.first + p.pages) q f ps order.1 later in
          let more = next-is (p.first + p.pages) q f ps x order.1 later (sym (at-next p ps f (has-past p f past)) ∙ found) in
          let first = more.0 in
          (first, from-lt q p ps lt ∙ more.1 ∙ ap (λ (rest : List (Part Segment)). x ∷ rest) (sym (from-lt (x.first + x.pages) p ps (omega (arith, first, past, some)))))
      | inr ge ↦
          let f_is : p.first ≡ f = (let z : Some p.first ≡ Some f = sym (next-ge q p ps ge) ∙ is in cc) in
          let here = at-here p ps p.first (has-in p p.first (omega arith) (omega (arith, some))) in
          let same : p ≡ x = (let z : Some p ≡ Some x = sym here ∙ ap (part_at (p ∷ ps)) f_is ∙ found in cc) in
          let rest : parts_from (p.first + p.pages) (p ∷ ps) ≡ ps = from-lt (p.first + p.pages) p ps (omega (arith, some)) ∙ whole-from (p.first + p.pages) (p.first + p.pages) ps order.1 (omega arith) in (
            sym (ap (λ (y : Part Segment). y.first) same) ∙ f_is,
            from-ge q p ps ge ∙ ap (λ (l : List (Part Segment)). p ∷ l) (sym rest) ∙ ap (λ (y : Part Segment). y ∷ parts_from (y.first + y.pages) (p ∷ ps)) same,
          )
    ]

pub is-next : (q f : ℕ) (ps : List (Part Segment)) (x : Part Segment) → IsInOrder 1 ps → next_first ps q ≡ Some f → q ≤ f → part_at ps f ≡ Some x → IsFirstFrom ps q x
is-next q f ps x order is le found =
    let n = next-is 1 q f ps x order is found in
    let first = n.0 in
    let lies = found-in 1 ps f x order found in
    record { left = n.1; found = ap (part_at ps) first ∙ found; behind = omega (arith, first, le); some = lies.some; within = lies.within }

order-from : (low q : ℕ) (ps : List (Part Segment)) → IsInOrder low ps → (k : ℕ) × IsInOrder k (parts_from q ps)
order-from low q [] order = (low, tt)
order-from low q (p ∷ ps) order = elim (cases_lt p.first q) [
  | inl lt ↦ let more = order-from (p.first + p.pages) q ps order.1 in (more.0, subst (IsInOrder more.0) (sym (from-lt q p ps lt)) more.1)
  | inr ge ↦ (low, subst (IsInOrder low) (sym (from-ge q p ps ge)) order)
]

pub rest-order : (q : ℕ) (ps : List (Part Segment)) (x : Part Segment) → IsInOrder 1 ps → IsFirstFrom ps q x → IsInOrder (x.first + x.pages) (parts_from (x.first + x.pages) ps)
rest-order q ps x order next = let o = order-from 1 q ps order in (subst (IsInOrder o.0) next.left o.1).1

-- PAGES from a page on are those of the parts that begin there or behind
abbrev pub Walked : List (Part Segment) → ℕ → Type 0
Walked ps q = (r : ℕ) → q ≤ r → part_at ps r ≡ part_at (parts_from q ps) r

pub walked-none : (ps : List (Part Segment)) → IsInOrder 1 ps → Walked ps 0
walked-none ps order r le = ap (λ (l : List (Part Segment)). part_at l r) (sym (whole-from 1 0 ps order (omega arith)))

pub walked-one : (ps : List (Part Segment)) (q : ℕ) (x : Part Segment) → IsFirstFrom ps q x → Walked ps q → Walked ps (x.first + x.pages)
walked-one ps q x next walked r le =
    let b = next.behind in
    walked r (omega (arith, b, le)) ∙ ap (λ (l : List (Part Segment)). part_at l r) next.left ∙ at-next x (parts_from (x.first + x.pages) ps) r (has-past x r le)

pub walked-gap : (ps : List (Part Segment)) (q : ℕ) (x : Part Segment) → IsInOrder 1 ps → IsFirstFrom ps q x → Walked ps q → (r : ℕ) → q ≤ r → r < x.first → part_at ps r ≡ None
walked-gap ps q x order next walked r low lt =
    let some = next.some in
    walked r low ∙ ap (λ (l : List (Part Segment)). part_at l r) next.left ∙ at-next x (parts_from (x.first + x.pages) ps) r (has-before x r lt)
    ∙ none-below (x.first + x.pages) (parts_from (x.first + x.pages) ps) r (rest-order q ps x order next) (omega (arith, lt, some))

pub walked-all : (ps : List (Part Segment)) (q : ℕ) → parts_from q ps ≡ [] → Walked ps q → (r : ℕ) → q ≤ r → part_at ps r ≡ None
walked-all ps q none walked r le = walked r le ∙ ap (λ (l : List (Part Segment)). part_at l r) none

-- what holds of all parts holds of those from a page on
pub all-from : (P : Part Segment → Type 0) (q : ℕ) (ps : List (Part Segment)) → All P ps → All P (parts_from q ps)
all-from P q [] all = all
all-from P q (p ∷ ps) all = elim (cases_lt p.first q) [
  | inl lt ↦ subst (All P) (sym (from-lt q p ps lt)) (all-from P q ps (All-tail P p ps all))
  | inr ge ↦ subst (All P) (sym (from-ge q p ps ge)) all
]

-- FEW: a space has at most as many parts as pages, and they reserve no more slots
few-parts : (low : ℕ) (ps : List (Part Segment)) → IsInOrder low ps → length ps ≤ page_total ps
few-parts low [] order = omega arith
few-parts low (p ∷ ps) order =
    let some = order.0.some in
    let more = few-parts (p.first + p.pages) ps order.1 in
    let total = sum_by-cons (λ (x : Part Segment). x.pages) p ps in
    omega (arith, some, more, total)

owned-most : (b : Bool) (n : ℕ) → cond b n 0 ≤ n
owned-most true n = omega arith
owned-most false n = omega arith

few-owned : (ps : List (Part Segment)) → All OwnsPages ps → sum_by slots_for_part ps ≤ page_total ps
few-owned [] owns = omega arith
few-owned (p ∷ ps) owns =
    let one = All-head OwnsPages p ps owns in
    let most = owned-most (is_some p.piece.own) p.pages in
    let more = few-owned ps (All-tail OwnsPages p ps owns) in
    let slots = sum_by-cons slots_for_part p ps in
    let total = sum_by-cons (λ (x : Part Segment). x.pages) p ps in
    omega (arith, one, most, more, slots, total)

pub few : (ps : List (Part Segment)) → IsInOrder 1 ps → length ps < 0x80000
few ps order = let a = few-parts 1 ps order in let b = total-within 1 ps order in omega (arith, a, b)

pub few-slots : (ps : List (Part Segment)) → IsInOrder 1 ps → All OwnsPages ps → sum_by slots_for_part ps < 0x80000
few-slots ps order owns = let a = few-owned ps owns in let b = total-within 1 ps order in omega (arith, a, b)

-- the first of the parts that are left is one of all, and goes from their number and what they reserve
pub one-less : (ps : List (Part Segment)) (q : ℕ) (x : Part Segment) → IsFirstFrom ps q x → length (parts_from q ps) ≡ length (parts_from (x.first + x.pages) ps) + 1
one-less ps q x next = let e = ap length next.left in omega (arith, e)

pub slots-less : (ps : List (Part Segment)) (q : ℕ) (x : Part Segment) → IsFirstFrom ps q x → sum_by slots_for_part (parts_from q ps) ≡ slots_for_part x + sum_by slots_for_part (parts_from (x.first + x.pages) ps)
slots-less ps q x next = ap (sum_by slots_for_part) next.left ∙ sum_by-cons slots_for_part x (parts_from (x.first + x.pages) ps)

pub holds-next : (P : Part Segment → Type 0) (ps : List (Part Segment)) (q : ℕ) (x : Part Segment) → IsFirstFrom ps q x → All P ps → P x
holds-next P ps q x next all = All-head P x (parts_from (x.first + x.pages) ps) (subst (All P) next.left (all-from P q ps all))

pub owns-next : (ps : List (Part Segment)) (q : ℕ) (x : Part Segment) → IsFirstFrom ps q x → All OwnsPages ps → slots_for_part x ≡ cond (is_some x.piece.own) x.pages 0
owns-next ps q x next owns = holds-next OwnsPages ps q x next owns
