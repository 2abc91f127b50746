-- Sums over the parts of spaces, and what holds of all of them, as a part is cut, goes or comes.
use Rattle.std.proofs.Common.{◌≡◌, ℕ, ◌+◌, ◌-◌, ◌≤◌, Bool, cond, List, [], ◌∷◌, ◌++◌, map, Some, None, refl, sym, ap, ◌∙◌, inl, inr, subst, arith}
use Rattle.std.specs.Prelude.{sum_by, flat_map, nat_lt, ◌==◌, All}
use Rattle.std.specs.Ordering.{nat_cmp}
use Rattle.std.specs.FinMap as finite
use Rattle.std.proofs.lemmas.Bool.{cases_Bool, cases_eq}
use Rattle.std.proofs.lemmas.List.Elements.{All-nil, All-cons, All-head, All-tail}
use Rattle.std.proofs.lemmas.List.Sums.{sum_by-cons, sum_by-append}
use Rattle.addr_space.specs.Space.{Part, part, has, part_at, begins, with_new_part, cut_at, without_part, with_new_piece, lower_part, upper_part}
use Rattle.addr_space.proofs.PartLemmas.{at-here, at-next}
use Rattle.flat_model.proofs.Entries.{find_rest, first_found}
use Rattle.flat_model.proofs.Ranges.{insert_same}
use Rattle.flat_model.proofs.Sums.{total, total-insert_over, total-remove}
use Rattle.vm_world.specs.Segments.{Segment, Spaces, segments_of}
use Rattle.vm_world.proofs.Lists.{all-map, all-flat_map, all-turn}
use Rattle.vm_world.proofs.Maps.{all-values}

-- SUMS OVER PARTS
pub sum-put : (g : Part Segment → ℕ) (x : Part Segment) (ps : List (Part Segment)) → sum_by g (with_new_part x ps) ≡ g x + sum_by g ps
sum-put g x [] = sum_by-cons g x []
sum-put g x (p ∷ ps) = elim (cases_Bool (nat_lt p.first x.first)) [
  | inl t ↦
      let e = ap (λ (b : Bool). sum_by g (cond b (p ∷ with_new_part x ps) (x ∷ p ∷ ps))) t in
      let a = sum_by-cons g p (with_new_part x ps) in
      let b = sum_by-cons g p ps in
      let more = sum-put g x ps in
      omega (arith, e, a, b, more)
  | inr f ↦ ap (λ (b : Bool). sum_by g (cond b (p ∷ with_new_part x ps) (x ∷ p ∷ ps))) f ∙ sum_by-cons g x (p ∷ ps)
]

pub sum-without_part : (g : Part Segment → ℕ) (ps : List (Part Segment)) (page : ℕ) (x : Part Segment) → begins ps page ≡ Some x → g x + sum_by g (without_part page ps) ≡ sum_by g ps
sum-without_part g [] page x is = absurd (let z : None ≡ Some x = is in cc)
sum-without_part g (p ∷ ps) page x is = elim (cases_Bool (p.first == page)) [
  | inl t ↦
      let same : p ≡ x = let z : Some p ≡ Some x = ap (λ (b : Bool). cond b (Some p) (begins ps page)) (sym t) ∙ is in cc in
      let e = ap (λ (b : Bool). sum_by g (cond b ps (p ∷ without_part page ps))) t in
      let a = sum_by-cons g p ps in
      let k = ap g same in
      omega (arith, e, a, k)
  | inr f ↦
      let e = ap (λ (b : Bool). sum_by g (cond b ps (p ∷ without_part page ps))) f in
      let a = sum_by-cons g p (without_part page ps) in
      let b = sum_by-cons g p ps in
      let more = sum-without_part g ps page x (ap (λ (b : Bool). cond b (Some p) (begins ps page)) (sym f) ∙ is) in
      omega (arith, e, a, b, more)
]

pub sum-cut : (g : Part Segment → ℕ) (page : ℕ) (w u : Segment) (ps : List (Part Segment)) (x : Part Segment) → part_at ps page ≡ Some x
    → sum_by g (cut_at page u (with_new_piece page w ps)) + g x ≡ g (part x.first (page - x.first) w) + g (part page (x.first + x.pages - page) u) + sum_by g ps
sum-cut g page w u [] x is = absurd (let z : None ≡ Some x = is in cc)
sum-cut g page w u (p ∷ ps) x is = elim (cases_Bool (has p page)) [
  | inl t ↦
      let same : p ≡ x = let z : Some p ≡ Some x = sym (at-here p ps page t) ∙ is in cc in
      let new : Part Segment = part p.first p.pages w in
      let e = ap (λ (b : Bool). sum_by g (cut_at page u (cond b (new ∷ ps) (p ∷ with_new_piece page w ps)))) t in
      let d = ap (λ (b : Bool). sum_by g (cond b (lower_part page new ∷ upper_part page u new ∷ ps) (new ∷ cut_at page u ps))) t in
      let a = sum_by-cons g (lower_part page new) (upper_part page u new ∷ ps) in
      let b = sum_by-cons g (upper_part page u new) ps in
      let c = sum_by-cons g p ps in
      let k = ap g same in
      let l = ap (λ (y : Part Segment). g (part y.first (page - y.first) w)) same in
      let h = ap (λ (y : Part Segment). g (part page (y.first + y.pages - page) u)) same in
      omega (arith, e, d, a, b, c, k, l, h)
  | inr f ↦
      let e = ap (λ (b : Bool). sum_by g (cut_at page u (cond b (part p.first p.pages w ∷ ps) (p ∷ with_new_piece page w ps)))) f in
      let d = ap (λ (b : Bool). sum_by g (cond b (lower_part page p ∷ upper_part page u p ∷ with_new_piece page w ps) (p ∷ cut_at page u (with_new_piece page w ps)))) f in
      let a = sum_by-cons g p (cut_at page u (with_new_piece page w ps)) in
      let b = sum_by-cons g p ps in
      let more = sum-cut g page w u ps x (sym (at-next p ps page f) ∙ is) in
      omega (arith, e, d, a, b, more)
]

-- each part's number is within the sum
pub sum-le : (g : Part Segment → ℕ) (ps : List (Part Segment)) → All (λ (a : Part Segment). g a ≤ sum_by g ps) ps
sum-le g [] = All-nil (λ (a : Part Segment). g a ≤ sum_by g [])
sum-le g (p ∷ ps) =
    let step = sum_by-cons g p ps in
    All-cons (λ (a : Part Segment). g a ≤ sum_by g (p ∷ ps)) p ps (omega (arith, step))
    (all-turn (λ (a : Part Segment). g a ≤ sum_by g ps) (λ (a : Part Segment). g a ≤ sum_by g (p ∷ ps)) ps (λ a le. omega (arith, step, le)) (sum-le g ps))

-- SUMS OVER SPACES
abbrev pub all_parts : (Part Segment → ℕ) → Spaces → ℕ
all_parts g spaces = total (λ (ps : List (Part Segment)). sum_by g ps) spaces

pub sum-insert : (g : Part Segment → ℕ) (spaces : Spaces) (p : ℕ) (old new : List (Part Segment)) → finite.get spaces p ≡ Some old
    → all_parts g (finite.insert spaces p new) + sum_by g old ≡ sum_by g new + all_parts g spaces
sum-insert g spaces p old new is = total-insert_over (λ (ps : List (Part Segment)). sum_by g ps) spaces p new old (insert_same spaces p old is)

pub sum-remove : (g : Part Segment → ℕ) (spaces : Spaces) (p : ℕ) (old : List (Part Segment)) → finite.get spaces p ≡ Some old → sum_by g old + all_parts g (finite.remove spaces p) ≡ all_parts g spaces
sum-remove g spaces p old is = total-remove (λ (ps : List (Part Segment)). sum_by g ps) spaces p old (insert_same spaces p old is)

pub space-le : (g : Part Segment → ℕ) (spaces : Spaces) (p : ℕ) (ps : List (Part Segment)) → finite.get spaces p ≡ Some ps → sum_by g ps ≤ all_parts g spaces
space-le g spaces p ps is = let e = sum-remove g spaces p ps is in omega (arith, e)

-- each part's number is within the sum over spaces
pub part-le : (g : Part Segment → ℕ) (spaces : Spaces) (p : ℕ) (ps : List (Part Segment)) → finite.get spaces p ≡ Some ps → All (λ (a : Part Segment). g a ≤ all_parts g spaces) ps
part-le g spaces p ps is =
    let e = space-le g spaces p ps is in
    all-turn (λ (a : Part Segment). g a ≤ sum_by g ps) (λ (a : Part Segment). g a ≤ all_parts g spaces) ps (λ a le. omega (arith, e, le)) (sum-le g ps)

sum-pieces : (f : Segment → ℕ) (ps : List (Part Segment)) → sum_by f (map (λ (p : Part Segment). p.piece) ps) ≡ sum_by (λ (p : Part Segment). f p.piece) ps
sum-pieces f [] = refl
sum-pieces f (p ∷ ps) =
    let a = sum_by-cons f p.piece (map (λ (x : Part Segment). x.piece) ps) in
    let b = sum_by-cons (λ (x : Part Segment). f x.piece) p ps in
    let more = sum-pieces f ps in
    omega (arith, a, b, more)

sum-lists : (f : Segment → ℕ) (vs : List (List (Part Segment))) → sum_by f (flat_map (λ (ps : List (Part Segment)). map (λ (p : Part Segment). p.piece) ps) vs) ≡ sum_by (λ (ps : List (Part Segment)). sum_by (λ (p : Part Segment). f p.piece) ps) vs
sum-lists f [] = refl
sum-lists f (v ∷ vs) =
    let a = sum_by-append f (map (λ (p : Part Segment). p.piece) v) (flat_map (λ (ps : List (Part Segment)). map (λ (p : Part Segment). p.piece) ps) vs) in
    let b = sum_by-cons (λ (ps : List (Part Segment)). sum_by (λ (p : Part Segment). f p.piece) ps) v vs in
    let here = sum-pieces f v in
    let more = sum-lists f vs in
    omega (arith, a, b, here, more)

pub sum-segments : (f : Segment → ℕ) (spaces : Spaces) → sum_by f (segments_of spaces) ≡ all_parts (λ (p : Part Segment). f p.piece) spaces
sum-segments f spaces = sum-lists f (finite.values spaces)

-- WHAT HOLDS OF ALL
pub all-segments : (P : Segment → Type 0) (spaces : Spaces) → ((q : ℕ) (ps : List (Part Segment)) → finite.get spaces q ≡ Some ps → All (λ (a : Part Segment). P a.piece) ps) → All P (segments_of spaces)
all-segments P spaces each =
    all-flat_map (λ (ps : List (Part Segment)). All (λ (a : Part Segment). P a.piece) ps) P (λ (ps : List (Part Segment)). map (λ (p : Part Segment). p.piece) ps) (finite.values spaces)
    (λ ps all. all-map (λ (p : Part Segment). P p.piece) P (λ (p : Part Segment). p.piece) ps (λ p h. h) all) (all-values (λ (ps : List (Part Segment)). All (λ (a : Part Segment). P a.piece) ps) spaces each)

pub all-left : {X : Type 0} (P : X → Type 0) (xs ys : List X) → All P (xs ++ ys) → All P xs
all-left P [] ys all = All-nil P
all-left P (x ∷ xs) ys all = All-cons P x xs (All-head P x (xs ++ ys) all) (all-left P xs ys (All-tail P x (xs ++ ys) all))

pub all-right : {X : Type 0} (P : X → Type 0) (xs ys : List X) → All P (xs ++ ys) → All P ys
all-right P [] ys all = all
all-right P (x ∷ xs) ys all = all-right P xs ys (All-tail P x (xs ++ ys) all)

all-pieces : (P : Segment → Type 0) (ps : List (Part Segment)) → All P (map (λ (p : Part Segment). p.piece) ps) → All (λ (p : Part Segment). P p.piece) ps
all-pieces P [] all = All-nil (λ (p : Part Segment). P p.piece)
all-pieces P (p ∷ ps) all =
    All-cons (λ (p : Part Segment). P p.piece) p ps (All-head P p.piece (map (λ (x : Part Segment). x.piece) ps) all) (all-pieces P ps (All-tail P p.piece (map (λ (x : Part Segment). x.piece) ps) all))

found-all : (P : Segment → Type 0) (es : List (ℕ × List (Part Segment))) (q : ℕ) (ps : List (Part Segment)) → finite.find nat_cmp q es ≡ Some ps
    → All P (flat_map (λ (ps : List (Part Segment)). map (λ (p : Part Segment). p.piece) ps) (map (λ (e : ℕ × List (Part Segment)). e.1) es)) → All (λ (p : Part Segment). P p.piece) ps
found-all P [] q ps is all = absurd (let z : None ≡ Some ps = is in cc)
found-all P (e ∷ es) q ps is all =
    let rest = flat_map (λ (ps : List (Part Segment)). map (λ (p : Part Segment). p.piece) ps) (map (λ (e : ℕ × List (Part Segment)). e.1) es) in
    elim (cases_eq q e.0) [
      | inl same ↦
          let v : e.1 ≡ ps = let z : Some e.1 ≡ Some ps = sym (first_found e es) ∙ ap (λ (k : ℕ). finite.find nat_cmp k (e ∷ es)) (sym same) ∙ is in cc in
          subst (λ (x : List (Part Segment)). All (λ (p : Part Segment). P p.piece) x) v (all-pieces P e.1 (all-left P (map (λ (p : Part Segment). p.piece) e.1) rest all))
      | inr ne ↦ found-all P es q ps (sym (find_rest q e es ne) ∙ is) (all-right P (map (λ (p : Part Segment). p.piece) e.1) rest all)
    ]

pub segments-all : (P : Segment → Type 0) (spaces : Spaces) (q : ℕ) (ps : List (Part Segment)) → All P (segments_of spaces) → finite.get spaces q ≡ Some ps → All (λ (p : Part Segment). P p.piece) ps
segments-all P spaces q ps all is = found-all P (finite.entries spaces) q ps (sym (finite.get-entries spaces q) ∙ is) all
