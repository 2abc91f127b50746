-- Bytes that lie in one page of a list of pages, and a file that gets longer, page by page.
use Rattle.flat_model.proofs.Lines.{pages_of_bytes-concat as pages-of_concat, with_bytes-left as with_bytes-first}
use Rattle.std.proofs.Common.{◌≡◌, ℕ, zero, suc, ◌+◌, ◌-◌, ◌*◌, ◌/◌, ◌%◌, ◌<◌, ◌≤◌, min, max, List, [], ◌∷◌, ◌++◌, length, take, drop, replicate, get_or, refl, sym, ap, subst, ◌∙◌, inl, inr, append_assoc, arith, length-append}
use Rattle.std.specs.Prelude.{All, OnErr, Result, Ok, Err, slice_set, map, Vec, nat_lt, if◌then◌else◌}
use Rattle.std.specs.declared.alloc.Global.{Global}
use Rattle.std.specs.List.{concat}
use Rattle.std.proofs.Math.Seq.{take-append-add}
use Rattle.std.proofs.lemmas.Bool.{cases_lt, lt-ltb, le-ltb}
use Rattle.std.proofs.lemmas.List.{length-take, length-drop, length-replicate, take-append-drop, set-get_or, take_all, take_at, drop_at, take-append-le, drop-append-le, drop-drop, drop-take, drop_all, take-take, append-nil, replicate-append-replicate}
use Rattle.std.proofs.lemmas.List.Elements.{All-append, All-replicate}
use Rattle.std.proofs.lemmas.List.Folds.{concat-append}
use Rattle.flat_model.specs.Words.{Page, IsPage, zero_page, pages_in, with_bytes}
use Rattle.flat_model.specs.vnode_files.declared.extent.Extent.{Extent}
use Rattle.flat_model.specs.Flat.{File, IsFile}
use Rattle.flat_model.specs.Access.{with_change_at}
use Rattle.flat_state.specs.Cells.{pages_of_length}
use Rattle.flat_model.specs.Parts.{pages_of_bytes, pages_with_bytes, longer_file, file_of_length, with_part, with_extents_of}
use Rattle.flat_state.proofs.Trees.{map_set}
use Rattle.flat_model.proofs.WellFormed.{IsPage-zero_page}
use Rattle.flat_model.proofs.FileBytes.{Whole, Whole-pages, of_length, Whole-append, Whole-pages_with_bytes, length-concat, length-with_bytes, length-pages_with_bytes, concat-pages_with_bytes}

-- pages with the same bytes are the same
pub same-pages : (ps qs : List Page) → Whole ps → Whole qs → length ps ≡ length qs → concat ps ≡ concat qs → ps ≡ qs
same-pages ps qs left right count bytes = sym (pages-of_concat ps left) ∙ ap (λ (n : ℕ). pages_of_bytes n (concat ps)) count ∙ ap (pages_of_bytes (length qs)) bytes ∙ pages-of_concat qs right

-- no bytes put over pages leave them
pub pages_with_bytes-none : (ps : List Page) (at : ℕ) → Whole ps → at ≤ 4096 * length ps → pages_with_bytes ps at [] ≡ ps
unfolding pages_with_bytes
pages_with_bytes-none ps at whole fits = ap (pages_of_bytes (length ps)) nothing ∙ pages-of_concat ps whole
  where
    nothing : with_bytes (concat ps) at [] ≡ concat ps
    nothing = let same : at + 0 ≡ at = omega arith in ap (λ (xs : List ℕ). xs ++ drop (at + 0) (concat ps)) (append-nil (take at (concat ps))) ∙ ap (λ (k : ℕ). take at (concat ps) ++ drop k (concat ps)) same ∙ take-append-drop at (concat ps)

-- bytes put behind a front
with_bytes-behind : (p rest bytes : List ℕ) (at : ℕ) → with_bytes (p ++ rest) (length p + at) bytes ≡ p ++ with_bytes rest at bytes
with_bytes-behind p rest bytes at =
    let sum : length p + at + length bytes ≡ length p + (at + length bytes) = omega arith in
    ap (λ (xs : List ℕ). (xs ++ bytes) ++ drop (length p + at + length bytes) (p ++ rest)) (take-append-add p rest at)
    ∙ ap (λ (k : ℕ). ((p ++ take at rest) ++ bytes) ++ drop k (p ++ rest)) sum
    ∙ ap (λ (xs : List ℕ). ((p ++ take at rest) ++ bytes) ++ xs) (drop-append-add p rest (at + length bytes))
    ∙ ap (λ (xs : List ℕ). xs ++ drop (at + length bytes) rest) (append_assoc p (take at rest) bytes)
    ∙ append_assoc p (take at rest ++ bytes) (drop (at + length bytes) rest)
  where
    drop-append-add : (xs ys : List ℕ) (n : ℕ) → drop (length xs + n) (xs ++ ys) ≡ drop n ys
    drop-append-add xs ys n = sym (drop-drop n (length xs) (xs ++ ys)) ∙ ap (drop n) (drop_at xs ys (length xs) refl)

-- bytes that lie in one page change that page alone
pub pages_with_bytes-one : (ps : List Page) (q at : ℕ) (bytes : List ℕ) → Whole ps → q < length ps → at + length bytes ≤ 4096 → pages_with_bytes ps (4096 * q + at) bytes ≡ slice_set ps q (with_bytes (get_or ps q []) at bytes)
unfolding pages_with_bytes
pages_with_bytes-one [] q at bytes whole lt fits = absurd (omega arith)
pages_with_bytes-one (p ∷ ps) zero at bytes whole lt fits =
    let size = whole.0 in
    let same = length-with_bytes p bytes at (omega arith) in
    let place : 4096 * 0 + at ≡ at = omega arith in
    ap (λ (k : ℕ). pages_of_bytes (suc (length ps)) (with_bytes (p ++ concat ps) k bytes)) place
    ∙ ap (pages_of_bytes (suc (length ps))) (with_bytes-first p (concat ps) bytes at (omega arith))
    ∙ ap (λ (x : Page). x ∷ pages_of_bytes (length ps) (drop 4096 (with_bytes p at bytes ++ concat ps))) (take_at (with_bytes p at bytes) (concat ps) 4096 (omega arith))
    ∙ ap (λ (ys : List ℕ). with_bytes p at bytes ∷ pages_of_bytes (length ps) ys) (drop_at (with_bytes p at bytes) (concat ps) 4096 (omega arith))
    ∙ ap (λ (qs : List Page). with_bytes p at bytes ∷ qs) (pages-of_concat ps whole.1)
pages_with_bytes-one (p ∷ ps) (suc q) at bytes whole lt fits =
    let size = whole.0 in
    let place : 4096 * suc q + at ≡ length p + (4096 * q + at) = omega arith in
    ap (λ (k : ℕ). pages_of_bytes (suc (length ps)) (with_bytes (p ++ concat ps) k bytes)) place
    ∙ ap (pages_of_bytes (suc (length ps))) (with_bytes-behind p (concat ps) bytes (4096 * q + at))
    ∙ ap (λ (x : Page). x ∷ pages_of_bytes (length ps) (drop 4096 (p ++ with_bytes (concat ps) (4096 * q + at) bytes))) (take_at p (with_bytes (concat ps) (4096 * q + at) bytes) 4096 size)
    ∙ ap (λ (ys : List ℕ). p ∷ pages_of_bytes (length ps) ys) (drop_at p (with_bytes (concat ps) (4096 * q + at) bytes) 4096 size)
    ∙ ap (λ (qs : List Page). p ∷ qs) (pages_with_bytes-one ps q at bytes whole.1 (omega arith) fits)

-- the same with the place in bytes
pub pages_with_bytes-in_page : (ps : List Page) (at : ℕ) (bytes : List ℕ) → Whole ps → at % 4096 + length bytes ≤ 4096 → at / 4096 < length ps → pages_with_bytes ps at bytes ≡ slice_set ps (at / 4096) (with_bytes (get_or ps (at / 4096) []) (at % 4096) bytes)
pages_with_bytes-in_page ps at bytes whole fits lt =
    let place : at ≡ 4096 * (at / 4096) + at % 4096 = omega arith in
    ap (λ (k : ℕ). pages_with_bytes ps k bytes) place ∙ pages_with_bytes-one ps (at / 4096) (at % 4096) bytes whole lt fits

-- bytes that lie in one page are that page's
pub bytes_in_page : (ps : List Page) (q at count : ℕ) → Whole ps → q < length ps → at + count ≤ 4096 → take count (drop (4096 * q + at) (concat ps)) ≡ take count (drop at (get_or ps q []))
bytes_in_page [] q at count whole lt fits = absurd (omega arith)
bytes_in_page (p ∷ ps) zero at count whole lt fits =
    let size = whole.0 in
    let place : 4096 * 0 + at ≡ at = omega arith in
    let rest : count ≤ length (drop at p) = omega (arith, length-drop at p) in
    ap (λ (k : ℕ). take count (drop k (p ++ concat ps))) place ∙ ap (take count) (drop-append-le at p (concat ps) (omega arith)) ∙ take-append-le count (drop at p) (concat ps) rest
bytes_in_page (p ∷ ps) (suc q) at count whole lt fits =
    let size = whole.0 in
    let place : 4096 * suc q + at ≡ length p + (4096 * q + at) = omega arith in
    ap (λ (k : ℕ). take count (drop k (p ++ concat ps))) place
    ∙ ap (take count) (sym (drop-drop (4096 * q + at) (length p) (p ++ concat ps)) ∙ ap (drop (4096 * q + at)) (drop_at p (concat ps) (length p) refl))
    ∙ bytes_in_page ps q at count whole.1 (omega arith) fits

-- zeros put over pages and over pages of zeros behind them: the first reach to the end of the pages at most
pub zeros-behind : (ps : List Page) (at n m : ℕ) → Whole ps → at ≤ 4096 * length ps → at + n ≤ 4096 * (length ps + m) → pages_with_bytes (ps ++ replicate m zero_page) at (replicate n 0) ≡ pages_with_bytes ps at (replicate (min n (4096 * length ps - at)) 0) ++ replicate m zero_page
unfolding zero_page
zeros-behind ps at n m whole within fits =
    let k = min n (4096 * length ps - at) in
    let zeros : List Page = replicate m zero_page in
    let size = length-concat ps whole in
    let zero_whole = Whole-zeros m in
    let all_whole = Whole-append ps zeros whole zero_whole in
    let zero_count : length zeros ≡ m = length-replicate m zero_page in
    let count : length (ps ++ zeros) ≡ length ps + m = length-append ps zeros ∙ ap (λ j. length ps + j) zero_count in
    let n_zeros : length (replicate {A = ℕ} n 0) ≡ n = length-replicate {A = ℕ} n 0 in
    let k_zeros : length (replicate {A = ℕ} k 0) ≡ k = length-replicate {A = ℕ} k 0 in
    let left_whole = Whole-pages_with_bytes (ps ++ zeros) at (replicate n 0) all_whole (omega arith) in
    let first_whole = Whole-pages_with_bytes ps at (replicate k 0) whole (omega arith) in
    let right_whole = Whole-append (pages_with_bytes ps at (replicate k 0)) zeros first_whole zero_whole in
    let first_count = length-pages_with_bytes ps at (replicate k 0) in
    same-pages (pages_with_bytes (ps ++ zeros) at (replicate n 0)) (pages_with_bytes ps at (replicate k 0) ++ zeros) left_whole right_whole
    (length-pages_with_bytes (ps ++ zeros) at (replicate n 0) ∙ omega (arith, length-append (pages_with_bytes ps at (replicate k 0)) zeros))
    (concat-pages_with_bytes (ps ++ zeros) at (replicate n 0) all_whole (omega arith)
    ∙ ap (λ (xs : List ℕ). with_bytes xs at (replicate n 0)) (concat-append ps zeros ∙ ap (λ (ys : List ℕ). concat ps ++ ys) (concat-zeros m))
    ∙ zeros-over (concat ps) (4096 * m) at n (omega arith) (omega arith)
    ∙ ap (λ (j : ℕ). with_bytes (concat ps) at (replicate (min n j) 0) ++ replicate (4096 * m) 0) (let same : length (concat ps) - at ≡ 4096 * length ps - at = omega arith in same)
    ∙ sym (concat-append (pages_with_bytes ps at (replicate k 0)) zeros ∙ ap (λ (xs : List ℕ). xs ++ concat zeros) (concat-pages_with_bytes ps at (replicate k 0) whole (omega arith)) ∙ ap (λ (ys : List ℕ). with_bytes (concat ps) at (replicate k 0) ++ ys) (concat-zeros m)))
  where
    Whole-zeros : (j : ℕ) → Whole (replicate j zero_page)
    Whole-zeros zero = tt
    Whole-zeros (suc j) = (length-replicate {A = ℕ} 4096 0, Whole-zeros j)

    concat-zeros : (j : ℕ) → concat (replicate j zero_page) ≡ replicate {A = ℕ} (4096 * j) 0
    concat-zeros zero = refl
    concat-zeros (suc j) = let more : 4096 + 4096 * j ≡ 4096 * suc j = omega arith in ap (λ (ys : List ℕ). zero_page ++ ys) (concat-zeros j) ∙ replicate-append-replicate {A = ℕ} 4096 (4096 * j) 0 ∙ ap (λ (k : ℕ). replicate {A = ℕ} k 0) more

    drop-zeros : (i j : ℕ) → drop i (replicate {A = ℕ} j 0) ≡ replicate (j - i) 0
    drop-zeros zero j = let same : j - 0 ≡ j = omega arith in ap (λ (k : ℕ). replicate {A = ℕ} k 0) (sym same)
    drop-zeros (suc i) zero = let none : 0 - suc i ≡ 0 = omega arith in ap (λ (k : ℕ). replicate {A = ℕ} k 0) (sym none)
    drop-zeros (suc i) (suc j) = drop-zeros i j ∙ (let same : j - i ≡ suc j - suc i = omega arith in ap (λ (k : ℕ). replicate {A = ℕ} k 0) same)

    zeros-over : (xs : List ℕ) (z a c : ℕ) → a ≤ length xs → a + c ≤ length xs + z → with_bytes (xs ++ replicate z 0) a (replicate c 0) ≡ with_bytes xs a (replicate (min c (length xs - a)) 0) ++ replicate z 0
    zeros-over xs z a c low high = elim (cases_lt (length xs - a) c) [
      | inl past ↦
          let most : min c (length xs - a) ≡ length xs - a = omega arith in
          let zs : List ℕ = replicate z 0 in
          let c_zeros : length (replicate {A = ℕ} c 0) ≡ c = length-replicate {A = ℕ} c 0 in
          let at_end : a + length (replicate {A = ℕ} c 0) ≡ length xs + (a + c - length xs) = omega arith in
          let tail : drop (a + length (replicate {A = ℕ} c 0)) (xs ++ zs) ≡ replicate {A = ℕ} (z - (a + c - length xs)) 0 = ap (λ (k : ℕ). drop k (xs ++ zs)) at_end ∙ sym (drop-drop (a + c - length xs) (length xs) (xs ++ zs)) ∙ ap (drop (a + c - length xs)) (drop_at xs zs (length xs) refl) ∙ drop-zeros (a + c - length xs) z in
          let d = length xs - a in
          let d_zeros : length (replicate {A = ℕ} d 0) ≡ d = length-replicate {A = ℕ} d 0 in
          let none : drop (a + length (replicate {A = ℕ} d 0)) xs ≡ [] = let whole_is : a + length (replicate {A = ℕ} d 0) ≡ length xs = omega arith in ap (λ (k : ℕ). drop k xs) whole_is ∙ drop_self xs in
          let sum : c + (z - (a + c - length xs)) ≡ d + z = omega arith in
          ap (λ (ys : List ℕ). (ys ++ replicate c 0) ++ drop (a + length (replicate {A = ℕ} c 0)) (xs ++ zs)) (take-append-le a xs zs low)
          ∙ ap (λ (ys : List ℕ). (take a xs ++ replicate c 0) ++ ys) tail
          ∙ append_assoc (take a xs) (replicate c 0) (replicate (z - (a + c - length xs)) 0)
          ∙ ap (λ (ys : List ℕ). take a xs ++ ys) (replicate-append-replicate {A = ℕ} c (z - (a + c - length xs)) 0 ∙ ap (λ (k : ℕ). replicate {A = ℕ} k 0) sum ∙ sym (replicate-append-replicate {A = ℕ} d z 0))
          ∙ sym (append_assoc (take a xs) (replicate d 0) zs)
          ∙ ap (λ (ys : List ℕ). ys ++ zs) (sym (append-nil (take a xs ++ replicate d 0)) ∙ ap (λ (ys : List ℕ). (take a xs ++ replicate d 0) ++ ys) (sym none))
          ∙ ap (λ (k : ℕ). with_bytes xs a (replicate k 0) ++ zs) (sym most)
      | inr inside ↦
          let most : min c (length xs - a) ≡ c = omega arith in
          let c_zeros : length (replicate {A = ℕ} c 0) ≡ c = length-replicate {A = ℕ} c 0 in
          with_bytes-first xs (replicate z 0) (replicate c 0) a (omega arith) ∙ ap (λ (k : ℕ). with_bytes xs a (replicate k 0) ++ replicate z 0) (sym most)
    ]
      where
        drop_self : (ys : List ℕ) → drop (length ys) ys ≡ []
        drop_self [] = refl
        drop_self (y ∷ ys) = drop_self ys

abbrev pub items_of : Vec ℕ Global → List ℕ
items_of v = v.items

pub get_or-items : (v : List (Vec ℕ Global)) (q : ℕ) (p : Vec ℕ Global) → q < length v → p ≡ get_or v q p → get_or (map items_of v) q [] ≡ p.items
get_or-items [] q p lt is = absurd (omega arith)
get_or-items (x ∷ v) zero p lt is = ap items_of (sym is)
get_or-items (x ∷ v) (suc q) p lt is = get_or-items v q p (omega arith) is

pub length-items : (v : List (Vec ℕ Global)) → length (map items_of v) ≡ length v
length-items [] = refl
length-items (x ∷ v) = ap suc (length-items v)

pub map-append : {X Y : Type 0} (f : X → Y) (xs ys : List X) → map f (xs ++ ys) ≡ map f xs ++ map f ys
map-append f [] ys = refl
map-append f (x ∷ xs) ys = ap (λ zs. f x ∷ zs) (map-append f xs ys)

-- the page at a place has 4096 bytes
pub page-size : (v : List (Vec ℕ Global)) (q : ℕ) (p : Vec ℕ Global) → All IsPage (map items_of v) → q < length v → p ≡ get_or v q p → length p.items ≡ 4096
page-size v q p all lt is = let count = length-items v in ap length (sym (get_or-items v q p lt is)) ∙ (all q [] (omega arith)).whole

-- a page that bytes were put into, put back
pub put-one : (v : List (Vec ℕ Global)) (at : ℕ) (bytes : List ℕ) (p new : Vec ℕ Global) → All IsPage (map items_of v) → at % 4096 + length bytes ≤ 4096 → at / 4096 < length v → p ≡ get_or v (at / 4096) p → new.items ≡ with_bytes p.items (at % 4096) bytes → map items_of (slice_set v (at / 4096) new) ≡ pages_with_bytes (map items_of v) at bytes
put-one v at bytes p new all fits lt is put =
    let count = length-items v in
    map_set items_of v (at / 4096) new
    ∙ ap (slice_set (map items_of v) (at / 4096)) (put ∙ ap (λ (q : List ℕ). with_bytes q (at % 4096) bytes) (sym (get_or-items v (at / 4096) p lt is)))
    ∙ sym (pages_with_bytes-in_page (map items_of v) at bytes (Whole-pages (map items_of v) all) fits (omega arith))

pub put-none : (v : List (Vec ℕ Global)) (at : ℕ) (bytes : List ℕ) → All IsPage (map items_of v) → length bytes ≡ 0 → at ≤ 4096 * length v → map items_of v ≡ pages_with_bytes (map items_of v) at bytes
put-none v at [] all none within = let count = length-items v in sym (pages_with_bytes-none (map items_of v) at (Whole-pages (map items_of v) all) (omega arith))
put-none v at (b ∷ bytes) all none within = absurd (omega arith)

-- the zeros of a longer file, as far as its old pages go
pub longer-pages : (ps : List Page) (len end tail : ℕ) → All IsPage ps → length ps ≡ pages_in len → len + tail ≡ 4096 * pages_in len → let more : List Page = replicate (pages_in end - length ps) zero_page in pages_with_bytes (ps ++ more) len (replicate (min (end - len) tail) 0) ≡ pages_with_bytes (ps ++ more) len (replicate (end - len) 0)
longer-pages ps len end tail all count rest =
    let m = pages_in end - length ps in
    let n = end - len in
    let k = min n tail in
    let whole = Whole-pages ps all in
    let once : min k (4096 * length ps - len) ≡ min n (4096 * length ps - len) = omega arith in
    zeros-behind ps len k m whole (omega arith) (omega arith)
    ∙ ap (λ (j : ℕ). pages_with_bytes ps len (replicate j 0) ++ replicate m zero_page) once
    ∙ sym (zeros-behind ps len n m whole (omega arith) (omega arith))

-- a part of a read lies in one page
pub line-of : (ps : List Page) (len offset asked rest : ℕ) → All IsPage ps → length ps ≡ pages_in len → offset < len → offset % 4096 + rest ≤ 4096 → take (min (min asked rest) (len - offset)) (drop (offset % 4096) (get_or ps (offset / 4096) [])) ≡ take (min asked rest) (drop offset (take len (concat ps)))
line-of ps len offset asked rest all count lt fits =
    let k = min asked rest in
    let c = min k (len - offset) in
    let whole = Whole-pages ps all in
    let size = length-concat ps whole in
    let place : 4096 * (offset / 4096) + offset % 4096 ≡ offset = omega arith in
    let sum : offset + (len - offset) ≡ len = omega arith in
    sym (bytes_in_page ps (offset / 4096) (offset % 4096) c whole (omega arith) (omega arith))
    ∙ ap (λ (j : ℕ). take c (drop j (concat ps))) place
    ∙ take-min k (len - offset) (drop offset (concat ps))
    ∙ ap (take k) (sym (drop-take offset (len - offset) (concat ps)) ∙ ap (λ (j : ℕ). drop offset (take j (concat ps))) sum)
  where
    take-min : (a b : ℕ) (xs : List ℕ) → take (min a b) xs ≡ take a (take b xs)
    take-min a b xs = elim (cases_lt b a) [
      | inl less ↦
          let m : min a b ≡ b = omega arith in
          let short : length (take b xs) ≤ a = omega (arith, length-take b xs) in
          ap (λ (j : ℕ). take j xs) m ∙ sym (take_all a (take b xs) short)
      | inr more ↦ let m : min a b ≡ a = omega arith in ap (λ (j : ℕ). take j xs) m ∙ sym (take-take a b xs more)
    ]

-- past the end of a file nothing is read
pub line-past : (xs : List ℕ) (len offset k : ℕ) → len ≤ offset → [] ≡ take k (drop offset (take len xs))
line-past xs len offset k past = sym (ap (take k) (drop_all offset (take len xs) (omega (arith, length-take len xs))) ∙ take_all {A = ℕ} k [] (omega arith))

-- the first page of some bytes and zeros behind them
pub page-of_bytes : (xs : List ℕ) (n : ℕ) → n ≡ min (length xs) 4096 → take 4096 (take n xs) ++ replicate (4096 - length (take n xs)) 0 ≡ take 4096 (xs ++ replicate (4096 - length xs) 0)
page-of_bytes xs n is = elim (cases_lt 4096 (length xs)) [
  | inl long ↦
      let first : n ≡ 4096 = omega arith in
      let got : length (take n xs) ≡ 4096 = omega (arith, length-take n xs) in
      let none : 4096 - length (take n xs) ≡ 0 = omega arith in
      ap (λ (k : ℕ). take 4096 (take n xs) ++ replicate k 0) none ∙ append-nil (take 4096 (take n xs)) ∙ take-take 4096 n xs (omega arith) ∙ sym (take-append-le 4096 xs (replicate (4096 - length xs) 0) (omega arith))
  | inr short ↦
      let whole : n ≡ length xs = omega arith in
      let all : take n xs ≡ xs = take_all n xs (omega arith) in
      ap (λ (ys : List ℕ). take 4096 ys ++ replicate (4096 - length ys) 0) all
      ∙ ap (λ (ys : List ℕ). ys ++ replicate (4096 - length xs) 0) (take_all 4096 xs short)
      ∙ sym (take_all 4096 (xs ++ replicate (4096 - length xs) 0) (omega (arith, length-append xs (replicate (4096 - length xs) 0), length-replicate {A = ℕ} (4096 - length xs) 0)))
]

-- the page at a place, of some bytes and zeros behind them up to the end of the last page
pub page-of_rest : (xs : List ℕ) (i : ℕ) → i < pages_in (length xs) → let rest = drop (4096 * i) xs in take 4096 (rest ++ replicate (4096 - length rest) 0) ≡ take 4096 (drop (4096 * i) (xs ++ replicate (4096 * pages_in (length xs) - length xs) 0))
page-of_rest xs i lt =
    let rest = drop (4096 * i) xs in
    let zeros : List ℕ = replicate (4096 * pages_in (length xs) - length xs) 0 in
    let size : length rest ≡ length xs - 4096 * i = length-drop (4096 * i) xs in
    elim (cases_lt (length rest) 4096) as (λ _. take 4096 (rest ++ replicate (4096 - length rest) 0) ≡ take 4096 (drop (4096 * i) (xs ++ zeros))) [
      | inl last ↦ let same : 4096 - length rest ≡ 4096 * pages_in (length xs) - length xs = omega arith in ap (λ (k : ℕ). take 4096 (rest ++ replicate k 0)) same ∙ ap (take 4096) (sym (drop-append-le (4096 * i) xs zeros (omega arith)))
      | inr full ↦ take-append-le 4096 rest (replicate (4096 - length rest) 0) full ∙ sym (take-append-le 4096 rest zeros full) ∙ ap (take 4096) (sym (drop-append-le (4096 * i) xs zeros (omega arith)))
    ]

-- pages of zeros are pages
pub All-zeros : (ps : List Page) (m : ℕ) → All IsPage ps → All IsPage (ps ++ replicate m zero_page)
All-zeros ps m all = All-append IsPage ps (replicate m zero_page) all (All-replicate IsPage m zero_page IsPage-zero_page)

-- an element set twice, and one set to what it was
set-twice : {X : Type 0} (xs : List X) (i : ℕ) (x y : X) → slice_set (slice_set xs i x) i y ≡ slice_set xs i y
set-twice [] zero x y = refl
set-twice [] (suc i) x y = refl
set-twice (z ∷ xs) zero x y = refl
set-twice (z ∷ xs) (suc i) x y = ap (λ zs. z ∷ zs) (set-twice xs i x y)

-- a last page whose tail became zeros, with the page that it was in its place
pub last-back : (ps : List Page) (len : ℕ) → All IsPage ps → length ps ≡ pages_in len → let cleared = pages_with_bytes ps len (replicate (4096 * length ps - len) 0) in slice_set cleared (length cleared - 1) (get_or ps (length ps - 1) []) ≡ ps
last-back ps len all count =
    let whole = Whole-pages ps all in
    let tail = 4096 * length ps - len in
    let zeros : List ℕ = replicate tail 0 in
    let size : length zeros ≡ tail = length-replicate {A = ℕ} tail 0 in
    let same : length (pages_with_bytes ps len zeros) ≡ length ps = length-pages_with_bytes ps len zeros in
    ap (λ (k : ℕ). slice_set (pages_with_bytes ps len zeros) (k - 1) (get_or ps (length ps - 1) [])) same
    ∙ elim (cases_lt 0 tail) as (λ _. slice_set (pages_with_bytes ps len zeros) (length ps - 1) (get_or ps (length ps - 1) []) ≡ ps) [
      | inl some ↦
          let at : len / 4096 ≡ length ps - 1 = omega arith in
          let put : pages_with_bytes ps len zeros ≡ slice_set ps (length ps - 1) (with_bytes (get_or ps (len / 4096) []) (len % 4096) zeros) =
          pages_with_bytes-in_page ps len zeros whole (omega arith) (omega arith) ∙ ap (λ (k : ℕ). slice_set ps k (with_bytes (get_or ps (len / 4096) []) (len % 4096) zeros)) at in
          ap (λ (qs : List Page). slice_set qs (length ps - 1) (get_or ps (length ps - 1) [])) put
          ∙ set-twice ps (length ps - 1) (with_bytes (get_or ps (len / 4096) []) (len % 4096) zeros) (get_or ps (length ps - 1) [])
          ∙ set-get_or ps (length ps - 1) []
      | inr none ↦
          let zero_is : tail ≡ 0 = omega arith in
          ap (λ (k : ℕ). slice_set (pages_with_bytes ps len (replicate k 0)) (length ps - 1) (get_or ps (length ps - 1) [])) zero_is
          ∙ ap (λ (qs : List Page). slice_set qs (length ps - 1) (get_or ps (length ps - 1) [])) (pages_with_bytes-none ps len whole (omega arith))
          ∙ set-get_or ps (length ps - 1) []
    ]

take-items : (v : List (Vec ℕ Global)) (n : ℕ) → map items_of (take n v) ≡ take n (map items_of v)
take-items v zero = refl
take-items [] (suc n) = refl
take-items (x ∷ v) (suc n) = ap (λ zs. x.items ∷ zs) (take-items v n)

pub truncated-items : (v w : List (Vec ℕ Global)) (n : ℕ) → w ≡ take n v → map items_of w ≡ take n (map items_of v)
truncated-items v w n is = ap (map items_of) is ∙ take-items v n

-- the pages of a file that gets shorter or longer
pub shorter-pages : (len n : ℕ) (ps : List Page) → n < len → pages_of_length len n ps ≡ pages_with_bytes (take (pages_in n) ps) n (replicate (4096 * length (take (pages_in n) ps) - n) 0)
shorter-pages len n ps lt = let kept = take (pages_in n) ps in let more = ps ++ replicate (pages_in n - length ps) zero_page in ap (λ b. if b then pages_with_bytes kept n (replicate (4096 * length kept - n) 0) else if nat_lt len n then pages_with_bytes more len (replicate (n - len) 0) else ps) (lt-ltb n len lt)

pub more-pages : (len n : ℕ) (ps : List Page) → len < n → pages_of_length len n ps ≡ pages_with_bytes (ps ++ replicate (pages_in n - length ps) zero_page) len (replicate (n - len) 0)
more-pages len n ps lt =
    let kept = take (pages_in n) ps in
    let more = ps ++ replicate (pages_in n - length ps) zero_page in
    ap (λ b. if b then pages_with_bytes kept n (replicate (4096 * length kept - n) 0) else if nat_lt len n then pages_with_bytes more len (replicate (n - len) 0) else ps) (le-ltb n len (omega arith))
    ∙ ap (λ b. if b then pages_with_bytes more len (replicate (n - len) 0) else ps) (lt-ltb len n lt)

pub same-length-pages : (len n : ℕ) (ps : List Page) → n ≡ len → pages_of_length len n ps ≡ ps
same-length-pages len n ps is =
    let kept = take (pages_in n) ps in
    let more = ps ++ replicate (pages_in n - length ps) zero_page in
    ap (λ b. if b then pages_with_bytes kept n (replicate (4096 * length kept - n) 0) else if nat_lt len n then pages_with_bytes more len (replicate (n - len) 0) else ps) (le-ltb n len (omega arith))
    ∙ ap (λ b. if b then pages_with_bytes more len (replicate (n - len) 0) else ps) (le-ltb len n (omega arith))

-- a file of a length, by its pages
pub file-of_length : (n : ℕ) (file : File) → record file { len = n; pages = pages_of_length file.len n file.pages } ≡ file_of_length n file
unfolding longer_file
file-of_length n file = of_length (λ new. record file { len = n; pages = pages_of_length file.len n file.pages } ≡ new) n file
    (λ less. ap (λ (ps : List Page). record file { len = n; pages = ps }) (shorter-pages file.len n file.pages less))
    (λ more. let most : n ≡ max file.len n = omega arith in ap (λ (ps : List Page). record file { len = n; pages = ps }) (more-pages file.len n file.pages more) ∙ ap (λ (k : ℕ). record file { len = k; pages = pages_with_bytes (file.pages ++ replicate (pages_in n - length file.pages) zero_page) file.len (replicate (n - file.len) 0) }) most)
    (λ same. ap (λ (ps : List Page). record file { len = n; pages = ps }) (same-length-pages file.len n file.pages same) ∙ ap (λ (k : ℕ). record file { len = k }) same)

-- the pages of a longer file
pub longer-file-pages : (n : ℕ) (file : File) → (longer_file n file).pages ≡ pages_with_bytes (file.pages ++ replicate (pages_in n - length file.pages) zero_page) file.len (replicate (n - file.len) 0)
unfolding longer_file
longer-file-pages n file = refl

-- other extents keep the pages of a longer file
pub longer-kept : (n : ℕ) (extents : List Extent) (file : File) (offset : ℕ) (line : List ℕ) → pages_with_bytes (longer_file n file).pages offset line ≡ pages_with_bytes (longer_file n (with_extents_of extents file)).pages offset line
unfolding longer_file
longer-kept n extents file offset line = refl

-- a file with a written part, by its pages
pub part-of_pages : (n offset : ℕ) (line : List ℕ) (file : File) (len : ℕ) (pages : List Page) → n ≡ offset + length line → len ≡ max file.len n → pages ≡ pages_with_bytes (longer_file n file).pages offset line → record file { len = len; pages = pages } ≡ with_part offset line file
unfolding with_part longer_file
part-of_pages n offset line file len pages n_is len_is is =
    ap (λ (k : ℕ). record file { len = k; pages = pages }) len_is
    ∙ ap (λ (ps : List Page). record file { len = max file.len n; pages = ps }) is
    ∙ ap (λ (k : ℕ). record file { len = max file.len k; pages = pages_with_bytes (pages_with_bytes (file.pages ++ replicate (pages_in k - length file.pages) zero_page) file.len (replicate (k - file.len) 0)) offset line }) n_is

-- what stands at a place, by f of each
pub at-mapped : {X Y : Type 0} (f : X → Y) (xs : List X) (i : ℕ) (old : X) → i < length xs → old ≡ get_or xs i old → get_or (map f xs) i (f old) ≡ f old
at-mapped f [] i old lt is = absurd (omega arith)
at-mapped f (y ∷ ys) zero old lt is = ap f (sym is)
at-mapped f (y ∷ ys) (suc i) old lt is = at-mapped f ys i old (omega arith) is

-- an element that was set at its place, changed back
pub changed_back : {X Y : Type 0} (f : X → Y) (g : Y → Y) (xs : List X) (i : ℕ) (old new : X) → i < length xs → old ≡ get_or xs i old → g (f new) ≡ f old → with_change_at g (map f (slice_set xs i new)) i ≡ map f xs
changed_back f g [] i old new lt at is = absurd (omega arith)
changed_back f g (y ∷ ys) zero old new lt at is = ap (λ z. z ∷ map f ys) (is ∙ ap f at)
changed_back f g (y ∷ ys) (suc i) old new lt at is = ap (λ zs. f y ∷ zs) (changed_back f g ys i old new (omega arith) at is)

-- a file that is one of the files, by its place
pub file-at : (files : List File) (i : ℕ) (file : File) → All IsFile files → i < length files → get_or files i file ≡ file → IsFile file
file-at files i file all lt is = subst IsFile is (all i file lt)

-- an element put in the place of one that is alike
pub set-alike : {X Y : Type 0} (f : X → Y) (xs : List X) (i : ℕ) (old new : X) → i < length xs → old ≡ get_or xs i old → f new ≡ f old → map f (slice_set xs i new) ≡ map f xs
set-alike f [] i old new lt at is = absurd (omega arith)
set-alike f (y ∷ ys) zero old new lt at is = ap (λ z. z ∷ map f ys) (is ∙ ap f at)
set-alike f (y ∷ ys) (suc i) old new lt at is = ap (λ zs. f y ∷ zs) (set-alike f ys i old new (omega arith) at is)

pub on_err : {A E P : Type 0} (r : Result A E) → P → OnErr r P
on_err (Ok x) p = tt
on_err (Err e) p = p
