-- Bytes that lie in one page of a list of pages.
use Rattle.std.proofs.Common.{◌≡◌, ℕ, zero, suc, ◌+◌, ◌-◌, ◌*◌, ◌/◌, ◌%◌, ◌≤◌, min, List, [], ◌∷◌, ◌++◌, length, take, drop, replicate, Some, refl, sym, ap, subst, ◌∙◌, inl, inr, append_assoc, arith, length-append}
use Rattle.std.specs.Prelude.{option_map, slice_get}
use Rattle.std.specs.List.{concat}
use Rattle.std.proofs.Math.Seq.{take-append_seam, drop-append_seam, take-append-add, drop-append-add}
use Rattle.std.proofs.lemmas.Bool.{cases_lt}
use Rattle.std.proofs.lemmas.List.{length-take, length-drop, length-replicate, take_all, drop_all, append-nil, take-append-le, drop-append-le, take-take, drop-take, replicate-append-replicate}
use Rattle.vm_types.specs.Pages.{line_rest}
use Rattle.flat_model.specs.Words.{Page, page, with_bytes}
use Rattle.flat_model.specs.Flat.{File}
use Rattle.flat_model.specs.Access.{with_change_at}
use Rattle.flat_model.specs.Parts.{pages_of_bytes, pages_with_bytes, file_bytes, without_tail}
use Rattle.flat_model.specs.LineLaws.{AreWhole, page_front, LinesInPages}
use Rattle.flat_model.proofs.FileBytes.{Whole, length-concat, length-with_bytes}

pub Whole-of : (ps : List Page) → AreWhole ps → Whole ps
Whole-of [] all = tt
Whole-of (p ∷ ps) all = (all 0 p (omega arith), Whole-of ps (λ k d lt. all (suc k) d (omega arith)))

take_page : (p rest : List ℕ) → length p ≡ 4096 → take 4096 (p ++ rest) ≡ p
take_page p rest size = subst (λ (k : ℕ). take k (p ++ rest) ≡ p) size (take-append_seam p rest)

drop_page : (p rest : List ℕ) → length p ≡ 4096 → drop 4096 (p ++ rest) ≡ rest
drop_page p rest size = subst (λ (k : ℕ). drop k (p ++ rest) ≡ rest) size (drop-append_seam p rest)

-- bytes that begin with a page are that page and the pages of the rest
pub pages_of_bytes-page : (n : ℕ) (p rest : List ℕ) → length p ≡ 4096 → pages_of_bytes (suc n) (p ++ rest) ≡ p ∷ pages_of_bytes n rest
pages_of_bytes-page n p rest whole = λ i. take_page p rest whole i ∷ pages_of_bytes n (drop_page p rest whole i)

-- pages that are joined and cut again are the same pages
pub pages_of_bytes-concat : (ps : List Page) → Whole ps → pages_of_bytes (length ps) (concat ps) ≡ ps
pages_of_bytes-concat [] whole = refl
pages_of_bytes-concat (p ∷ ps) whole = pages_of_bytes-page (length ps) p (concat ps) whole.0 ∙ ap (λ (qs : List Page). p ∷ qs) (pages_of_bytes-concat ps whole.1)

-- bytes put into a front
pub with_bytes-left : (p rest bytes : List ℕ) (at : ℕ) → at + length bytes ≤ length p → with_bytes (p ++ rest) at bytes ≡ with_bytes p at bytes ++ rest
with_bytes-left p rest bytes at fits =
    let front : take at (p ++ rest) ≡ take at p = take-append-le at p rest (omega arith) in
    let back : drop (at + length bytes) (p ++ rest) ≡ drop (at + length bytes) p ++ rest = drop-append-le (at + length bytes) p rest fits in
    (λ i. (front i ++ bytes) ++ back i) ∙ sym (append_assoc (take at p ++ bytes) (drop (at + length bytes) p) rest)

-- bytes put behind a front
pub with_bytes-right : (p rest bytes : List ℕ) (n at : ℕ) → length p ≡ n → n ≤ at → with_bytes (p ++ rest) at bytes ≡ p ++ with_bytes rest (at - n) bytes
with_bytes-right p rest bytes n at size le =
    let here : at ≡ length p + (at - n) = omega arith in
    let there : at + length bytes ≡ length p + (at - n + length bytes) = omega arith in
    let front : take at (p ++ rest) ≡ p ++ take (at - n) rest = ap (λ (k : ℕ). take k (p ++ rest)) here ∙ take-append-add p rest (at - n) in
    let back : drop (at + length bytes) (p ++ rest) ≡ drop (at - n + length bytes) rest = ap (λ (k : ℕ). drop k (p ++ rest)) there ∙ drop-append-add p rest (at - n + length bytes) in
    (λ i. (front i ++ bytes) ++ back i) ∙ ap (λ (b : List ℕ). b ++ drop (at - n + length bytes) rest) (append_assoc p (take (at - n) rest) bytes)
    ∙ append_assoc p (take (at - n) rest ++ bytes) (drop (at - n + length bytes) rest)

pub pages_of_bytes-with_bytes : (ps : List Page) (at : ℕ) (bytes : List ℕ) → Whole ps → at % 4096 + length bytes ≤ 4096 → pages_of_bytes (length ps) (with_bytes (concat ps) at bytes) ≡ with_change_at (λ old. with_bytes old (at % 4096) bytes) ps (page at)
pages_of_bytes-with_bytes [] at bytes whole fits = refl
pages_of_bytes-with_bytes (p ∷ ps) at bytes whole fits =
    let size = whole.0 in
    elim (cases_lt at 4096) [
      | inl low ↦
          let first : at / 4096 ≡ 0 = omega arith in
          let same : at % 4096 ≡ at = omega arith in
          ap (pages_of_bytes (suc (length ps))) (with_bytes-left p (concat ps) bytes at (omega arith))
          ∙ pages_of_bytes-page (length ps) (with_bytes p at bytes) (concat ps) (length-with_bytes p bytes at (omega arith) ∙ size)
          ∙ ap (λ (qs : List Page). with_bytes p at bytes ∷ qs) (pages_of_bytes-concat ps whole.1)
          ∙ ap (λ (k : ℕ). with_bytes p k bytes ∷ ps) (sym same)
          ∙ ap (with_change_at (λ old. with_bytes old (at % 4096) bytes) (p ∷ ps)) (sym first)
      | inr high ↦
          let next : at / 4096 ≡ suc ((at - 4096) / 4096) = omega arith in
          let same : (at - 4096) % 4096 ≡ at % 4096 = omega arith in
          ap (pages_of_bytes (suc (length ps))) (with_bytes-right p (concat ps) bytes 4096 at size high)
          ∙ pages_of_bytes-page (length ps) p (with_bytes (concat ps) (at - 4096) bytes) size
          ∙ ap (λ (qs : List Page). p ∷ qs) (pages_of_bytes-with_bytes ps (at - 4096) bytes whole.1 (omega arith))
          ∙ ap (λ (k : ℕ). p ∷ with_change_at (λ old. with_bytes old k bytes) ps (page (at - 4096))) same
          ∙ ap (with_change_at (λ old. with_bytes old (at % 4096) bytes) (p ∷ ps)) (sym next)
    ]

pub pages_with_bytes-in_page : (ps : List Page) (at : ℕ) (bytes : List ℕ) → AreWhole ps → at % 4096 + length bytes ≤ 4096 → pages_with_bytes ps at bytes ≡ with_change_at (λ old. with_bytes old (at % 4096) bytes) ps (page at)
unfolding pages_with_bytes
pages_with_bytes-in_page ps at bytes whole fits = pages_of_bytes-with_bytes ps at bytes (Whole-of ps whole) fits

concat-in_page : (ps : List Page) (at n : ℕ) (bytes : Page) → Whole ps → slice_get ps (page at) ≡ Some bytes → at % 4096 + n ≤ 4096 → take n (drop at (concat ps)) ≡ take n (drop (at % 4096) bytes)
concat-in_page [] at n bytes whole is fits = absurd cc
concat-in_page (p ∷ ps) at n bytes whole is fits =
    let size = whole.0 in
    elim (cases_lt at 4096) [
      | inl low ↦
          let first : at / 4096 ≡ 0 = omega arith in
          let same : at % 4096 ≡ at = omega arith in
          let this : p ≡ bytes = let both : Some p ≡ Some bytes = ap (slice_get (p ∷ ps)) (sym first) ∙ is in cc in
          ap (take n) (drop-append-le at p (concat ps) (omega arith)) ∙ take-append-le n (drop at p) (concat ps) (omega (arith, length-drop at p))
          ∙ ap (λ (k : ℕ). take n (drop k p)) (sym same) ∙ ap (λ (b : List ℕ). take n (drop (at % 4096) b)) this
      | inr high ↦
          let next : at / 4096 ≡ suc ((at - 4096) / 4096) = omega arith in
          let same : (at - 4096) % 4096 ≡ at % 4096 = omega arith in
          let here : at ≡ length p + (at - 4096) = omega arith in
          ap (λ (k : ℕ). take n (drop k (p ++ concat ps))) here ∙ ap (take n) (drop-append-add p (concat ps) (at - 4096))
          ∙ concat-in_page ps (at - 4096) n bytes whole.1 (ap (slice_get (p ∷ ps)) (sym next) ∙ is) (omega arith)
          ∙ ap (λ (k : ℕ). take n (drop k bytes)) same
    ]

pub got-in_page : (ps : List Page) (at n : ℕ) (bytes : Page) → AreWhole ps → slice_get ps (page at) ≡ Some bytes → at % 4096 + n ≤ 4096 → take n (drop at (concat ps)) ≡ take n (drop (at % 4096) bytes)
got-in_page ps at n bytes whole is fits = concat-in_page ps at n bytes (Whole-of ps whole) is fits

-- a front of a front
pub take-take_min : (m n : ℕ) (xs : List ℕ) → take m (take n xs) ≡ take (min m n) xs
take-take_min m n xs = elim (cases_lt n m) [
  | inl less ↦ let least : min m n ≡ n = omega arith in take_all m (take n xs) (omega (arith, length-take n xs)) ∙ ap (λ (k : ℕ). take k xs) (sym least)
  | inr le ↦ let least : min m n ≡ m = omega arith in take-take m n xs le ∙ ap (λ (k : ℕ). take k xs) (sym least)
]

-- what a front has from a place on
pub take-drop-take : (n at len : ℕ) (xs : List ℕ) → take n (drop at (take len xs)) ≡ take (min n (len - at)) (drop at xs)
take-drop-take n at len xs = elim (cases_lt len at) [
  | inl past ↦
      let none : min n (len - at) ≡ 0 = omega arith in
      ap (take n) (drop_all at (take len xs) (omega (arith, length-take len xs))) ∙ nothing n ∙ ap (λ (k : ℕ). take k (drop at xs)) (sym none)
  | inr within ↦
      let whole : len ≡ at + (len - at) = omega arith in
      ap (λ (k : ℕ). take n (drop at (take k xs))) whole ∙ ap (take n) (drop-take at (len - at) xs) ∙ take-take_min n (len - at) (drop at xs)
]
  where
    nothing : (m : ℕ) → ◌≡◌ {A = List ℕ} (take m []) []
    nothing zero = refl
    nothing (suc m) = refl

pub file-in_page : (file : File) (at n : ℕ) (bytes : Page) → AreWhole file.pages → slice_get file.pages (page at) ≡ Some bytes → at % 4096 + n ≤ 4096 → take n (drop at (file_bytes file)) ≡ take (min n (file.len - at)) (drop (at % 4096) bytes)
file-in_page file at n bytes whole is fits =
    take-drop-take n at file.len (concat file.pages) ∙ got-in_page file.pages at (min n (file.len - at)) bytes whole is (omega arith)

-- A TAIL
-- the pages with zeros behind the first len bytes of all
abbrev pub fronts : ℕ → List Page → List Page
fronts len [] = []
fronts len (p ∷ ps) = page_front len p ∷ fronts (len - 4096) ps

pub length-page_front : (n : ℕ) (p : Page) → length p ≡ 4096 → length (page_front n p) ≡ 4096
length-page_front n p size = omega (arith, length-append (take n p) (replicate (4096 - n) 0), length-take n p, length-replicate {A = ℕ} (4096 - n) 0)

-- zeros behind the first len bytes, from the first page on
zeros-front : (p rest : List ℕ) (len n : ℕ) → length p ≡ 4096 → length rest ≡ 4096 * n → with_bytes (p ++ rest) len (replicate (4096 * suc n - len) 0) ≡ page_front len p ++ with_bytes rest (len - 4096) (replicate (4096 * n - (len - 4096)) 0)
zeros-front p rest len n size more = elim (cases_lt len 4096) [
  | inl low ↦
      let count : 4096 * suc n - len ≡ (4096 - len) + 4096 * n = omega arith in
      let none : len - 4096 ≡ 0 = omega arith in
      let all : 4096 * n - (len - 4096) ≡ 4096 * n = omega arith in
      let zs : List ℕ = replicate (4096 * n) 0 in
      let z_size : length zs ≡ 4096 * n = length-replicate {A = ℕ} (4096 * n) 0 in
      let own : List ℕ = replicate (4096 - len) 0 in
      let own_size : length own ≡ 4096 - len = length-replicate {A = ℕ} (4096 - len) 0 in
      let joined : replicate (4096 * suc n - len) 0 ≡ own ++ zs = ap (λ (k : ℕ). replicate k 0) count ∙ sym (replicate-append-replicate (4096 - len) (4096 * n) 0) in
      let past : drop (len + length (own ++ zs)) (p ++ rest) ≡ [] = drop_all (len + length (own ++ zs)) (p ++ rest) (omega (arith, length-append own zs, length-append p rest)) in
      let end : drop (length zs) rest ≡ [] = drop_all (length zs) rest (omega arith) in
      let front : take len (p ++ rest) ≡ take len p = take-append-le len p rest (omega arith) in
      let left : with_bytes (p ++ rest) len (replicate (4096 * suc n - len) 0) ≡ (take len p ++ own) ++ zs =
      ap (with_bytes (p ++ rest) len) joined ∙ (λ i. (front i ++ (own ++ zs)) ++ past i) ∙ append-nil (take len p ++ (own ++ zs)) ∙ sym (append_assoc (take len p) own zs) in
      let right : with_bytes rest (len - 4096) (replicate (4096 * n - (len - 4096)) 0) ≡ zs =
      (λ i. with_bytes rest (none i) (replicate (all i) 0)) ∙ zeros_all rest zs end in
      left ∙ ap (λ (b : List ℕ). page_front len p ++ b) (sym right)
  | inr high ↦
      let count : 4096 * suc n - len ≡ 4096 * n - (len - 4096) = omega arith in
      let none : 4096 - len ≡ 0 = omega arith in
      let whole : page_front len p ≡ p = (λ i. take len p ++ replicate (none i) 0) ∙ append-nil (take len p) ∙ take_all len p (omega arith) in
      ap (λ (k : ℕ). with_bytes (p ++ rest) len (replicate k 0)) count ∙ with_bytes-right p rest (replicate (4096 * n - (len - 4096)) 0) 4096 len size high
      ∙ ap (λ (b : List ℕ). b ++ with_bytes rest (len - 4096) (replicate (4096 * n - (len - 4096)) 0)) (sym whole)
]
  where
    zeros_all : (old new : List ℕ) → drop (length new) old ≡ [] → with_bytes old 0 new ≡ new
    zeros_all old new is =
        let at : 0 + length new ≡ length new = omega arith in
        ap (λ (k : ℕ). new ++ drop k old) at ∙ ap (λ (b : List ℕ). new ++ b) is ∙ append-nil new

pages_of_bytes-zeros : (ps : List Page) (len : ℕ) → Whole ps → pages_of_bytes (length ps) (with_bytes (concat ps) len (replicate (4096 * length ps - len) 0)) ≡ fronts len ps
pages_of_bytes-zeros [] len whole = refl
pages_of_bytes-zeros (p ∷ ps) len whole =
    ap (pages_of_bytes (suc (length ps))) (zeros-front p (concat ps) len (length ps) whole.0 (length-concat ps whole.1))
    ∙ pages_of_bytes-page (length ps) (page_front len p) (with_bytes (concat ps) (len - 4096) (replicate (4096 * length ps - (len - 4096)) 0)) (length-page_front len p whole.0)
    ∙ ap (λ (qs : List Page). page_front len p ∷ qs) (pages_of_bytes-zeros ps (len - 4096) whole.1)

pub at-fronts : (ps : List Page) (len i : ℕ) → slice_get (fronts len ps) i ≡ option_map (page_front (len - 4096 * i)) (slice_get ps i)
at-fronts [] len i = refl
at-fronts (p ∷ ps) len zero = let all : len ≡ len - 4096 * 0 = omega arith in ap (λ (k : ℕ). Some (page_front k p)) all
at-fronts (p ∷ ps) len (suc i) = let less : len - 4096 - 4096 * i ≡ len - 4096 * suc i = omega arith in at-fronts ps (len - 4096) i ∙ ap (λ (k : ℕ). option_map (page_front k) (slice_get ps i)) less

pub without_tail-fronts : (file : File) → Whole file.pages → without_tail file ≡ record file { pages = fronts file.len file.pages }
unfolding pages_with_bytes
without_tail-fronts file whole = ap (λ (ps : List Page). record file { pages = ps }) (pages_of_bytes-zeros file.pages file.len whole)

pub without_tail-pages : (file : File) (i : ℕ) → AreWhole file.pages → slice_get (without_tail file).pages i ≡ option_map (page_front (file.len - 4096 * i)) (slice_get file.pages i)
unfolding pages_with_bytes
without_tail-pages file i whole = ap (λ (ps : List Page). slice_get ps i) (pages_of_bytes-zeros file.pages file.len (Whole-of file.pages whole)) ∙ at-fronts file.pages file.len i

pub line-in_page : (offset n : ℕ) → n ≤ line_rest offset → offset % 4096 + n ≤ 4096
line-in_page offset n le = omega arith

pub lines_in_pages_law : LinesInPages
lines_in_pages_law = record { line = line-in_page; put = pages_with_bytes-in_page; got = got-in_page; of_file = file-in_page; no_tail = without_tail-pages }
