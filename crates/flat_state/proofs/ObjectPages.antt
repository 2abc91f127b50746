-- Lists of pages by number.
use Rattle.std.proofs.Common.{◌≡◌, ℕ, zero, suc, ◌+◌, ◌<◌, ◌≤◌, cond, List, ◌∷◌, Option, Some, None, length, replicate, refl, sym, ap, ◌∙◌, arith}
use Rattle.std.specs.Prelude.{slice_get, slice_set, unwrap_or}
use Rattle.std.specs.Map.{lookup}
use Rattle.std.specs.BTreeMap.{is_at}
use Rattle.std.specs.Ordering.{nat_cmp}
use Rattle.std.specs.Cmp.{unsigned_tied}
use Rattle.std.proofs.lemmas.Bool.{eq-eqb}
use Rattle.flat_model.specs.Words.{Page, zero_page}
use Rattle.flat_model.proofs.Ranges.{eqb-apart}
use Rattle.flat_state.specs.Stored.{page_in, pages_by}

pub length-by : (f : ℕ → Page) (k n : ℕ) → length (pages_by f k n) ≡ n
length-by f k zero = refl
length-by f k (suc n) = ap suc (length-by f (suc k) n)

-- pages that are alike from number to number
pub by-alike : (f g : ℕ → Page) (k n : ℕ) → ((i : ℕ) → k ≤ i → i < k + n → f i ≡ g i) → pages_by f k n ≡ pages_by g k n
by-alike f g k zero h = refl
by-alike f g k (suc n) h =
    let first = h k (omega arith) (omega arith) in
    let rest = by-alike f g (suc k) n (λ i low high. h i (omega (arith, low)) (omega (arith, high))) in
    λ j. first j ∷ rest j

-- so many pages of one kind
pub by-replicate : (page : Page) (k n : ℕ) → pages_by (λ i. page) k n ≡ replicate n page
by-replicate page k zero = refl
by-replicate page k (suc n) = ap (λ ps. page ∷ ps) (by-replicate page (suc k) n)

pub get-by : (f : ℕ → Page) (k n i : ℕ) → i < n → slice_get (pages_by f k n) i ≡ Some (f (k + i))
get-by f k zero i lt = absurd (omega (arith, lt))
get-by f k (suc n) zero lt = let same : k ≡ k + 0 = omega arith in ap (λ (j : ℕ). Some (f j)) same
get-by f k (suc n) (suc i) lt = let same : suc k + i ≡ k + suc i = omega arith in get-by f (suc k) n i (omega (arith, lt)) ∙ ap (λ (j : ℕ). Some (f j)) same

pub get-past : (f : ℕ → Page) (k n i : ℕ) → n ≤ i → slice_get (pages_by f k n) i ≡ None
get-past f k zero i le = refl
get-past f k (suc n) zero le = absurd (omega (arith, le))
get-past f k (suc n) (suc i) le = get-past f (suc k) n i (omega (arith, le))

-- a page that is put in the place of another
pub set-by : (f g : ℕ → Page) (k n i : ℕ) (page : Page) → i < n → g (k + i) ≡ page → ((j : ℕ) → (j ≡ k + i → ⊥) → g j ≡ f j) → pages_by g k n ≡ slice_set (pages_by f k n) i page
set-by f g k zero i page lt here apart = absurd (omega (arith, lt))
set-by f g k (suc n) zero page lt here apart =
    let same : k ≡ k + 0 = omega arith in
    let first = ap g same ∙ here in
    let rest = by-alike g f (suc k) n (λ j low high. apart j (λ is. omega (arith, low, is))) in
    λ j. first j ∷ rest j
set-by f g k (suc n) (suc i) page lt here apart =
    let same : suc k + i ≡ k + suc i = omega arith in
    let first = apart k (λ is. omega (arith, is)) in
    let rest = set-by f g (suc k) n i page (omega (arith, lt)) (ap g same ∙ here) (λ j not. apart j (λ is. not (is ∙ sym same))) in
    λ j. first j ∷ rest j

pub set-past : (f : ℕ → Page) (k n i : ℕ) (page : Page) → n ≤ i → slice_set (pages_by f k n) i page ≡ pages_by f k n
set-past f k zero i page le = refl
set-past f k (suc n) zero page le = absurd (omega (arith, le))
set-past f k (suc n) (suc i) page le = ap (λ ps. f k ∷ ps) (set-past f (suc k) n i page (omega (arith, le)))

-- the same from number 0 on
pub get-first : (f : ℕ → Page) (n i : ℕ) → i < n → slice_get (pages_by f 0 n) i ≡ Some (f i)
get-first f n i lt = let same : 0 + i ≡ i = omega arith in get-by f 0 n i lt ∙ ap (λ (j : ℕ). Some (f j)) same

pub set-first : (f g : ℕ → Page) (n i : ℕ) (page : Page) → i < n → g i ≡ page → ((j : ℕ) → (j ≡ i → ⊥) → g j ≡ f j) → pages_by g 0 n ≡ slice_set (pages_by f 0 n) i page
set-first f g n i page lt here apart =
    let same : 0 + i ≡ i = omega arith in
    set-by f g 0 n i page lt (ap g same ∙ here) (λ j not. apart j (λ is. not (is ∙ sym same)))

-- what is stored with one page more
pub page-stored : (es fs : List (ℕ × Page)) (i : ℕ) (page : Page) → ((q : ℕ) → lookup (is_at (nat_cmp q)) fs ≡ cond (is_at (nat_cmp i) q) (Some page) (lookup (is_at (nat_cmp q)) es))
    → (page_in fs i ≡ page) × ((j : ℕ) → (j ≡ i → ⊥) → page_in fs j ≡ page_in es j)
page-stored es fs i page h = (
  ap (λ (o : Option Page). unwrap_or o zero_page) (h i ∙ ap (λ b. cond b (Some page) (lookup (is_at (nat_cmp i)) es)) (unsigned_tied i i ∙ eq-eqb i i refl)),
  λ j apart. ap (λ (o : Option Page). unwrap_or o zero_page) (h j ∙ ap (λ b. cond b (Some page) (lookup (is_at (nat_cmp j)) es)) (unsigned_tied i j ∙ eqb-apart i j (λ is. apart (sym is)))),
)
