-- Beginnings of a list, and the entries of one seat.
use Rattle.std.proofs.Common.{◌≡◌, ◌≢◌, ℕ, zero, suc, ◌+◌, ◌<◌, ◌≤◌, Bool, true, false, List, [], ◌∷◌, ◌++◌, length, map, refl, ap, sym, ◌∙◌, subst, arith}
use Rattle.std.proofs.Common.{append_assoc, length-append, ne_eqb, eqb, set, ⊎_elim, ◌⊎◌, inl, inr, ltb, if◌then◌else◌}
use Rattle.std.specs.List.{All}
use Rattle.std.proofs.lemmas.List.{append-nil, get_or_push, get_or_append_left, map-append}
use Rattle.std.proofs.Common.{get_or}
use mathlib.Core.Logic.{dite}
use native.Mathlib.Decide.{ℕ_discrete}
use Rattle.std.proofs.lemmas.List.Elements.{filter-append}
use Rattle.std.proofs.lemmas.Bool.{ltb-true, ltb-false}
use Rattle.std.proofs.Math.Seq.{get_or-append_seam}
use mathlib.Core.List.{IsPrefix}
use mathlib.Core.Option.{some, some-injective, some-ne-none}
use lib.ListN.{get_elem?}
use Rattle.atomic_table.proofs.Lists.{at_set}
use Rattle.kernel_lock.specs.Rule.{Each, longer_list}
use Rattle.kernel_lock.specs.Seats.{entries_by}

pub prefix_self : {A : Type 0} (xs : List A) → IsPrefix xs xs
prefix_self xs = ([], append-nil xs)

pub prefix_more : {A : Type 0} (xs ys zs : List A) → IsPrefix xs ys → IsPrefix xs (ys ++ zs)
prefix_more xs ys zs p = (p.0 ++ zs, sym (append_assoc xs p.0 zs) ∙ ap (λ w. w ++ zs) p.1)

pub each_imp : {A : Type 0} (P Q : A → Type 0) → ((x : A) → P x → Q x) → (xs : List A) → Each P xs → Each Q xs
each_imp P Q f [] h = tt
each_imp P Q f (x ∷ xs) h = (f x h.0, each_imp P Q f xs h.1)

-- entries that are all of one seat add nothing to another's
pub none_of : {E : Type 0} (seat_of : E → ℕ) (k j : ℕ) (es : List E) → All (λ e. seat_of e ≡ k) es → j ≢ k → entries_by seat_of j es ≡ []
none_of seat_of k j [] all ne = refl
none_of seat_of k j (e ∷ es) all ne =
    let here : seat_of e ≡ k = all 0 e (omega arith) in
    let off : eqb (seat_of e) j ≡ false = ne_eqb (seat_of e) j (λ z. ne (sym z ∙ here)) in
    rw off (none_of seat_of k j es (λ i d lt. all (suc i) d (omega (arith, lt))) ne)

pub unchanged_by : {E : Type 0} (seat_of : E → ℕ) (k j : ℕ) (old added : List E) → All (λ e. seat_of e ≡ k) added → j ≢ k → entries_by seat_of j (old ++ added) ≡ entries_by seat_of j old
unchanged_by seat_of k j old added all ne =
    filter-append (λ e. eqb (seat_of e) j) old added ∙ (ap (λ z. entries_by seat_of j old ++ z) (none_of seat_of k j added all ne) ∙ append-nil (entries_by seat_of j old))

pub each_at : {A : Type 0} (P : A → Type 0) (xs : List A) → Each P xs → (k : ℕ) (a : A) → get_elem? xs k ≡ some a → P a
each_at P [] all k a e = absurd (some-ne-none a (sym e))
each_at P (x ∷ xs) all zero a e = subst P (some-injective x a e) all.0
each_at P (x ∷ xs) all (suc k) a e = each_at P xs all.1 k a e

pub set_at : {A : Type 0} (l : List A) (i : ℕ) (a b : A) → get_elem? l i ≡ some a → get_elem? (set l i b) i ≡ some b
set_at [] i a b e = absurd (some-ne-none a (sym e))
set_at (x ∷ xs) zero a b e = refl
set_at (x ∷ xs) (suc i) a b e = set_at xs i a b e

pub each_set : {A : Type 0} (K : ℕ → A → Type 0) (vs : List A) (id : ℕ) (w : A) → K id w → ((j : ℕ) (u : A) → j ≢ id → get_elem? vs j ≡ some u → K j u)
    → (j : ℕ) (u : A) → get_elem? (set vs id w) j ≡ some u → K j u
each_set {A} K vs id w mine others j u e = ⊎_elim (λ (t : (j ≡ id) × (w ≡ u)). subst (λ (x : ℕ × A). K x.0 x.1) (λ i. (sym t.0 i, t.1 i)) mine)
    (λ (t : (j ≢ id) × (get_elem? vs j ≡ some u)). others j u t.0 t.1) (at_set vs id j w u e)

pub set_only : {A : Type 0} (l : List A) (a : A) → length l ≡ 1 → set l 0 a ≡ a ∷ []
set_only [] a e = absurd (omega (arith, e))
set_only (x ∷ []) a e = refl
set_only (x ∷ y ∷ ys) a e = let n : length (x ∷ y ∷ ys) ≡ length ys + 2 = omega arith in absurd (omega (arith, e, n))

-- of two beginnings of one list the shorter begins the longer
pub prefix_shorter : {A : Type 0} (xs ys zs : List A) → IsPrefix xs zs → IsPrefix ys zs → length xs ≤ length ys → IsPrefix xs ys
prefix_shorter [] ys zs p q le = (ys, refl)
prefix_shorter (x ∷ xs) [] zs p q le = absurd (omega arith)
prefix_shorter (x ∷ xs) (y ∷ ys) [] p q le = absurd (cc (p.1))
prefix_shorter (x ∷ xs) (y ∷ ys) (z ∷ zs) p q le =
    let heads : x ≡ y = cc (p.1, q.1) in
    let rest = prefix_shorter xs ys zs (p.0, cc (p.1)) (q.0, cc (q.1)) (omega arith) in
    (rest.0, cc (heads, rest.1))

-- the longer of two lists is one of them
pub longer_is : {A : Type 0} (P : List A → Type 0) (xs ys : List A) → P xs → P ys → P (longer_list xs ys)
longer_is {A} P xs ys p q = go (ltb (length xs) (length ys))
  where
    go : (b : Bool) → P (if b then ys else xs)
    go true = q
    go false = p

-- and both begin it, where they begin one list
pub longer_begun : {A : Type 0} (xs ys zs : List A) → IsPrefix xs zs → IsPrefix ys zs → IsPrefix xs (longer_list xs ys) × IsPrefix ys (longer_list xs ys)
longer_begun {A} xs ys zs p q = go (ltb (length xs) (length ys)) refl
  where
    go : (b : Bool) → ltb (length xs) (length ys) ≡ b → IsPrefix xs (if b then ys else xs) × IsPrefix ys (if b then ys else xs)
    go true e = let lt = ltb-true (length xs) (length ys) e in (prefix_shorter xs ys zs p q (omega (arith, lt)), prefix_self ys)
    go false e = let le = ltb-false (length xs) (length ys) e in (prefix_self xs, prefix_shorter ys xs zs q p le)

pub at_append : {A : Type 0} (l : List A) (a b : A) (j : ℕ) → get_elem? (l ++ a ∷ []) j ≡ some b → (get_elem? l j ≡ some b) ⊎ ((j ≡ length l) × (a ≡ b))
at_append [] a b zero e = inr (refl, some-injective a b e)
at_append [] a b (suc j) e = absurd (some-ne-none b (sym e))
at_append (x ∷ xs) a b zero e = inl e
at_append (x ∷ xs) a b (suc j) e = ⊎_elim (λ h. inl h) (λ (t : (j ≡ length xs) × (a ≡ b)). inr (omega (arith, t.0), t.1)) (at_append xs a b j e)

pub at_below : {A : Type 0} (l : List A) (j : ℕ) (b : A) → get_elem? l j ≡ some b → j < length l
at_below [] j b e = absurd (some-ne-none b (sym e))
at_below (x ∷ xs) zero b e = omega arith
at_below (x ∷ xs) (suc j) b e = let h = at_below xs j b e in omega arith

-- a fact of each element and its place outlasts a push
pub pushed_each : {A : Type 0} (P : ℕ → A → Type 0) (xs ys : List A) (x : A) (n : ℕ) → ys ≡ xs ++ x ∷ [] → length xs ≡ n → ((k : ℕ) (d : A) → k < n → P k (get_or xs k d)) → P n x
    → (k : ℕ) (d : A) → k < n + 1 → P k (get_or ys k d)
pushed_each {A} P xs ys x n longer long each here k d lt = subst (λ (l : List A). P k (get_or l k d)) (sym longer) (dite (ℕ_discrete k n)
    (λ e. subst (λ (z : ℕ × A). P z.0 z.1) (λ i. (sym e i, sym (get_or_push xs x d k (long ∙ sym e)) i)) here)
    (λ ne. subst (P k) (sym (get_or_append_left xs (x ∷ []) d k (omega (arith, lt, ne, long)))) (each k d (omega (arith, lt, ne)))))

-- what all had, the one that was popped had, and the others have
pub popped : {A : Type 0} (P : A → Type 0) (xs zs : List A) (x : A) → xs ≡ zs ++ x ∷ [] → All P xs → All P zs × P x
popped {A} P xs zs x e all =
    let n : length xs ≡ length zs + 1 = ap length e ∙ length-append zs (x ∷ []) in (
      (λ i d lt. subst P (ap (λ l. get_or l i d) e ∙ get_or_append_left zs (x ∷ []) d i lt) (all i d (omega (arith, lt, n)))),
      subst P (ap (λ l. get_or l (length zs) x) e ∙ get_or-append_seam zs x [] x) (all (length zs) x (omega (arith, n))),
    )

-- one is taken from the end of a row, and put before what was taken earlier
pub taken_over : {A B : Type 0} (f : A → B) (xs zs : List A) (x : A) (ps : List B) → xs ≡ zs ++ x ∷ [] → map f zs ++ (f x ∷ ps) ≡ map f xs ++ ps
taken_over f xs zs x ps e = sym (append_assoc (map f zs) (f x ∷ []) ps) ∙ ap (λ l. l ++ ps) (sym (map-append f zs (x ∷ [])) ∙ ap (map f) (sym e))

-- between what a seat has seen and a history with no more entries of it there are no entries of it
nothing_left : {A : Type 0} (xs ys bs : List A) → xs ≡ (xs ++ ys) ++ bs → ys ≡ []
nothing_left xs [] bs e = refl
nothing_left xs (y ∷ ys) bs e =
    let n : length xs ≡ length (xs ++ y ∷ ys) + length bs = ap length e ∙ length-append (xs ++ y ∷ ys) bs in
    let m : length (xs ++ y ∷ ys) ≡ length xs + length (y ∷ ys) = length-append xs (y ∷ ys) in
    let k : length (y ∷ ys) ≡ length ys + 1 = omega arith in absurd (omega (arith, n, m, k))

pub own_between : {E : Type 0} (seat_of : E → ℕ) (k : ℕ) (xs ys zs own : List E) → IsPrefix xs ys → IsPrefix ys zs → entries_by seat_of k xs ≡ own
    → entries_by seat_of k zs ≡ own → entries_by seat_of k ys ≡ own
own_between {E} seat_of k xs ys zs own p q at_first at_last =
    let F : List E → List E = entries_by seat_of k in
    let mid : F ys ≡ F xs ++ F p.0 = ap F (sym p.1) ∙ filter-append (λ e. eqb (seat_of e) k) xs p.0 in
    let end : F zs ≡ F ys ++ F q.0 = ap F (sym q.1) ∙ filter-append (λ e. eqb (seat_of e) k) ys q.0 in
    let whole : F xs ≡ (F xs ++ F p.0) ++ F q.0 = at_first ∙ (sym at_last ∙ (end ∙ ap (λ z. z ++ F q.0) mid)) in
    let none : F p.0 ≡ [] = nothing_left (F xs) (F p.0) (F q.0) whole in
    mid ∙ (ap (λ z. F xs ++ z) none ∙ (append-nil (F xs) ∙ at_first))
