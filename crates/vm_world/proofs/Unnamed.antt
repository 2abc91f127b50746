-- Zero objects that no cell names any more go at once, or later: it comes to the same. Crates above use these.
use Rattle.std.proofs.Common.{◌≡◌, ℕ, Bool, true, false, cond, eqb, List, Option, Some, None, refl, sym, ap, ◌∙◌, ◌⊎◌, inl, inr, replicate}
use Rattle.std.specs.Prelude.{is_some, IsSome}
use Rattle.std.specs.Ordering.{nat_cmp}
use Rattle.std.specs.Cmp.{nat_cmp_total}
use Rattle.std.specs.FinMap as finite
use Rattle.flat_model.specs.Access.{with_space}
use Rattle.flat_model.specs.Flat.{Cell, Flat, Space, space_of, zero_of, is_named, names_zero, without_unnamed}
use Rattle.flat_model.specs.Mapping.{cells_of, without_pages}
use Rattle.flat_model.specs.Processes.{without_process}
use Rattle.flat_model.specs.Space.{is_in_range, without_range, with_cells}
use Rattle.flat_model.specs.Words.{Page, zero_page}
use Rattle.flat_model.proofs.Mappings.{cells_of-with_space}
use Rattle.flat_model.proofs.Ranges.{same_space, get-insert, get-insert_here, get-insert_apart, get-retain_keys, get-without_range}
use Rattle.flat_model.proofs.Reserve.{names_from, names_before, names_before_exit}
use Rattle.vm_world.specs.SegmentSteps.{with_new_cells, with_zero_object}
use Rattle.vm_world.proofs.Maps.{insert-twice, remove-inserted}

-- what is kept of two maps that agree where the test is passed
kept-alike : {X : Type 0} (m n : finite.FinMap nat_cmp X) (t : ℕ → Bool) → ((z : ℕ) → t z ≡ true → finite.get m z ≡ finite.get n z) → finite.retain_keys m t ≡ finite.retain_keys n t
kept-alike m n t same = finite.same_map nat_cmp_total finite.nat_cmp-IsAntisymmetric (finite.retain_keys m t) (finite.retain_keys n t) (λ z.
    get-retain_keys m t z ∙ by_test (t z) (finite.get m z) (finite.get n z) (same z) ∙ sym (get-retain_keys n t z))
  where
    by_test : {X : Type 0} (b : Bool) (x y : Option X) → (b ≡ true → x ≡ y) → cond b x None ≡ cond b y None
    by_test true x y same = same refl
    by_test false x y same = refl

-- zero objects that agree where they are named
swept-alike : (F : Flat) (T : finite.FinMap nat_cmp Space) (A B : finite.FinMap nat_cmp (List Page)) → ((z : ℕ) → names_zero T z ≡ true → finite.get A z ≡ finite.get B z)
    → without_unnamed (record F { zeros = A; spaces = T }) ≡ without_unnamed (record F { zeros = B; spaces = T })
swept-alike F T A B same = ap (λ (zs : finite.FinMap nat_cmp (List Page)). record F { zeros = zs; spaces = T }) (kept-alike A B (names_zero T) same)

-- OBJECTS THAT GO EARLIER, where the later spaces name none that isn't named
pub swept-spaces : (F : Flat) (T : finite.FinMap nat_cmp Space) → ((z : ℕ) → names_zero T z ≡ true → is_named F z ≡ true) → without_unnamed (record (without_unnamed F) { spaces = T }) ≡ without_unnamed (record F { spaces = T })
swept-spaces F T still = swept-alike F T (finite.retain_keys F.zeros (is_named F)) F.zeros (λ z is. get-retain_keys F.zeros (is_named F) z ∙ ap (λ (b : Bool). cond b (finite.get F.zeros z) None) (still z is))

-- a zero object that none names may as well not be there
pub swept-zero : (F : Flat) (z : ℕ) (pages : List Page) → is_named F z ≡ false → without_unnamed (record F { zeros = finite.insert F.zeros z pages }) ≡ without_unnamed F
swept-zero F z pages none = swept-alike F F.spaces (finite.insert F.zeros z pages) F.zeros (λ y is. get-insert_apart F.zeros z pages y (λ same. absurd (let e : true ≡ false = sym is ∙ ap (is_named F) same ∙ none in cc)))

-- CELLS GO before their process
pub process-after-space : (F : Flat) (p : ℕ) (s : Space) → without_process (without_unnamed (with_space F p s)) p ≡ without_process F p
process-after-space F p s =
    swept-spaces (with_space F p s) (finite.remove (finite.insert F.spaces p s) p) (names_before_exit (with_space F p s) p)
    ∙ ap (λ (t : finite.FinMap nat_cmp Space). without_unnamed (record F { spaces = t })) (remove-inserted F.spaces p s)

pub process-after-pages : (F : Flat) (p first n : ℕ) → without_process (without_pages F p first n) p ≡ without_process F p
process-after-pages F p first n = process-after-space F p (without_range (cells_of F p) first n)

-- a process has the space that it was given
given : (F : Flat) (p : ℕ) (s : Space) → IsSome (space_of (with_space F p s) p)
given F p s = ap is_some (get-insert_here F.spaces p s)

-- or before others of it
pub pages-after-pages : (F : Flat) (p a n b k : ℕ) → without_pages (without_pages F p a n) p b k ≡ without_unnamed (with_space F p (without_range (without_range (cells_of F p) a n) b k))
pages-after-pages F p a n b k =
    let A : Space = without_range (cells_of F p) a n in
    let W : Flat = with_space F p A in
    swept-spaces W (finite.insert W.spaces p (without_range (cells_of W p) b k)) (λ z. names_before W p b k z (given F p A))
    ∙ ap (λ (s : Space). without_unnamed (with_space W p (without_range s b k))) (cells_of-with_space F p A)
    ∙ ap (λ (t : finite.FinMap nat_cmp Space). without_unnamed (record F { spaces = t })) (insert-twice F.spaces p A (without_range A b k))

-- ranges that make up another
pub pages-joined : (F : Flat) (p a n b k c l : ℕ) → ((q : ℕ) → cond (is_in_range b k q) None (cond (is_in_range a n q) None (finite.get (cells_of F p) q)) ≡ cond (is_in_range c l q) None (finite.get (cells_of F p) q))
    → without_pages (without_pages F p a n) p b k ≡ without_pages F p c l
pages-joined F p a n b k c l same =
    let S : Space = cells_of F p in
    pages-after-pages F p a n b k ∙ ap (λ (s : Space). without_unnamed (with_space F p s)) (same_space (without_range (without_range S a n) b k) (without_range S c l) (λ q.
    get-without_range (without_range S a n) b k q ∙ ap (cond (is_in_range b k q) None) (get-without_range S a n q) ∙ same q ∙ sym (get-without_range S c l q)))

-- and before the zero object that only they named
pub pages-of-zero : (F : Flat) (p first n z k : ℕ) → is_named (with_space F p (without_range (cells_of F p) first n)) z ≡ false → without_pages (with_zero_object F z k) p first n ≡ without_pages F p first n
pages-of-zero F p first n z k none = swept-zero (with_space F p (without_range (cells_of F p) first n)) z (replicate k zero_page) none

-- CELLS COME where others went, which name what is named still
pub cells-after-pages : (F : Flat) (p first n : ℕ) (cell : ℕ → Cell) → ((i z : ℕ) → zero_of (cell i) ≡ Some z → is_named (with_space F p (without_range (cells_of F p) first n)) z ≡ true)
    → with_new_cells (without_pages F p first n) p first n cell ≡ with_new_cells (with_space F p (without_range (cells_of F p) first n)) p first n cell
cells-after-pages F p first n cell each =
    let S : Space = without_range (cells_of F p) first n in
    let U : Flat = with_space F p S in
    swept-spaces U (finite.insert U.spaces p (with_cells (cells_of U p) first n cell)) (λ z is.
    names_from U p first n z (cells_of U p) cell (is_named U z ≡ true) is (λ i. each i z) (names_before U p first n z (given F p S)))

-- or a new zero object
pub object-after-pages : (F : Flat) (p first n z k : ℕ) (cell : ℕ → Cell) → ((i y : ℕ) → zero_of (cell i) ≡ Some y → (y ≡ z) ⊎ (is_named (with_space F p (without_range (cells_of F p) first n)) y ≡ true))
    → with_new_cells (with_zero_object (without_pages F p first n) z k) p first n cell ≡ with_new_cells (with_zero_object (with_space F p (without_range (cells_of F p) first n)) z k) p first n cell
object-after-pages F p first n z k cell each =
    let S : Space = without_range (cells_of F p) first n in
    let U : Flat = with_space F p S in
    let pages : List Page = replicate k zero_page in
    let left : finite.FinMap nat_cmp (List Page) = finite.retain_keys F.zeros (is_named U) in
    let still : (y : ℕ) → is_named U y ≡ true → finite.get (finite.insert left z pages) y ≡ finite.get (finite.insert F.zeros z pages) y = λ y is.
    get-insert left z pages y ∙ ap (cond (eqb y z) (Some pages)) (get-retain_keys F.zeros (is_named U) y ∙ ap (λ (b : Bool). cond b (finite.get F.zeros y) None) is) ∙ sym (get-insert F.zeros z pages y) in
    let new : (y : ℕ) → y ≡ z → finite.get (finite.insert left z pages) y ≡ finite.get (finite.insert F.zeros z pages) y = λ y same.
    ap (finite.get (finite.insert left z pages)) same ∙ get-insert_here left z pages ∙ sym (get-insert_here F.zeros z pages) ∙ ap (finite.get (finite.insert F.zeros z pages)) (sym same) in
    swept-alike U (finite.insert U.spaces p (with_cells (cells_of U p) first n cell)) (finite.insert left z pages) (finite.insert F.zeros z pages) (λ y is.
    names_from U p first n y (cells_of U p) cell (finite.get (finite.insert left z pages) y ≡ finite.get (finite.insert F.zeros z pages) y) is
    (λ i names. elim (each i y names) [ inl same ↦ new y same | inr named ↦ still y named ])
    (λ old. still y (names_before U p first n y (given F p S) old)))
