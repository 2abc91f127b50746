-- Pages that are cut at their valid bytes.
use Rattle.std.proofs.Common.{◌≡◌, ℕ, ◌-◌, ◌≤◌, min, Bool, true, false, List, ◌++◌, length, take, replicate, refl, sym, ap, ◌∙◌, arith}
use Rattle.std.specs.Prelude.{◌||◌}
use Rattle.std.proofs.lemmas.List.{take_all, take_at, take_min, length-take, append-nil}
use Rattle.page_store.specs.Bytes.{clip}
use Rattle.flat_model.specs.Words.{Page}
use Rattle.flat_model.specs.LineLaws.{page_front}
use Rattle.vm_world.specs.WorldSteps.{cut_page}
pub use Rattle.page_store.proofs.Clips.{clip-whole}

pub clip-twice : (valid : ℕ) (bytes : List ℕ) → valid ≤ 4096 → length bytes ≡ 4096 → clip valid (clip valid bytes) ≡ clip valid bytes
clip-twice valid bytes low whole =
    let n : length (take valid bytes) ≡ valid = let e = length-take valid bytes in omega (arith, e, low, whole) in
    ap (λ (l : List ℕ). l ++ replicate (4096 - valid) 0) (take_at (take valid bytes) (replicate (4096 - valid) 0) valid n)

-- what comes of a page cut twice, or once by either test
pub cut-twice : (a b : Bool) (valid : ℕ) (page : Page) → valid ≤ 4096 → (a ≡ true → length page ≡ 4096) → cut_page b valid (cut_page a valid page) ≡ cut_page (a || b) valid page
cut-twice true true valid page low whole = clip-twice valid page low (whole refl)
cut-twice true false valid page low whole = refl
cut-twice false b valid page low whole = refl

-- a page that is whole once it was cut was whole
pub whole-before : (a : Bool) (valid : ℕ) (page : Page) → (a ≡ true → length page ≡ 4096) → length (cut_page a valid page) ≡ 4096 → length page ≡ 4096
whole-before true valid page first whole = first refl
whole-before false valid page first whole = whole

-- a cut where all bytes are valid
pub cut-none : (a : Bool) (page : Page) → (a ≡ true → length page ≡ 4096) → cut_page a 4096 page ≡ page
cut-none true page whole = clip-whole page (whole refl)
cut-none false page whole = refl

-- the front of a page as far as a file goes
pub front-clip : (n : ℕ) (page : Page) → length page ≡ 4096 → page_front n page ≡ clip (min n 4096) page
front-clip n page whole =
    let e : 4096 - n ≡ 4096 - min n 4096 = omega arith in
    ap (λ (l : List ℕ). l ++ replicate (4096 - n) 0) (sym (ap (λ (k : ℕ). take (min n k) page) (sym whole) ∙ take_min n page)) ∙ ap (λ (k : ℕ). take (min n 4096) page ++ replicate k 0) e
