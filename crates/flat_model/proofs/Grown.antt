-- The pages of a file that gets longer or shorter, and of one with a written part.
use Rattle.std.proofs.Common.{◌≡◌, ℕ, zero, suc, ◌+◌, ◌-◌, ◌*◌, ◌%◌, ◌<◌, ◌≤◌, min, max, Bool, true, false, List, [], ◌∷◌, ◌++◌, length, take, drop, replicate, Option, Some, None, refl, sym, ap, ◌∙◌, inl, inr, append_assoc, arith, length-append}
use Rattle.std.specs.Prelude.{◌==◌, nat_lt, option_map, slice_get, if◌then◌else◌}
use Rattle.std.specs.List.{concat}
use Rattle.std.proofs.Math.Seq.{drop-append-add}
use Rattle.std.proofs.lemmas.Bool.{cases_lt, cases_eq, lt-ltb, le-ltb, eq-eqb, eqb-true}
use Rattle.std.proofs.lemmas.List.{length-take, length-drop, length-replicate, take_all, drop_all, append-nil, take-append-le, drop-replicate, replicate-append-replicate}
use Rattle.vm_types.specs.Pages.{bytes_before}
use Rattle.flat_model.specs.Words.{Page, zero_page, page, page_size, pages_in, with_bytes}
use Rattle.flat_model.specs.Flat.{File, IsFile}
use Rattle.flat_model.specs.Access.{with_change_at}
use Rattle.flat_model.specs.Parts.{pages_of_bytes, pages_with_bytes, longer_file, shorter_file, with_part}
use Rattle.flat_model.specs.LineLaws.{page_front}
use Rattle.flat_model.specs.GrownLaws.{zeros_between, GrownPages}
use Rattle.flat_model.proofs.Bytes.{slice_get-with_change_at, slice_get-changed_apart}
use Rattle.flat_model.proofs.FileBytes.{Whole, Whole-pages, Whole-append, Whole-zeros, longer, shorter-whole}
use Rattle.flat_model.proofs.Lines.{pages_of_bytes-page, pages_of_bytes-with_bytes, with_bytes-left, with_bytes-right, without_tail-fronts, at-fronts}

-- ZEROS OVER PAGES
-- zeros from one place to another over bytes that begin with a page
zeros-span : (p rest : List ℕ) (from to : ℕ) → length p ≡ 4096 → from ≤ to → with_bytes (p ++ rest) from (replicate (to - from) 0) ≡ zeros_between (min 4096 from) (min 4096 to) p ++ with_bytes rest (from - 4096) (replicate (to - 4096 - (from - 4096)) 0)
zeros-span p rest from to size le = elim (cases_lt from 4096) [
  | inl low ↦ elim (cases_lt 4096 to) [
    | inl past ↦
        let first : min 4096 from ≡ from = omega arith in
        let last : min 4096 to ≡ 4096 = omega arith in
        let most : max from 4096 ≡ 4096 = omega arith in
        let none : from - 4096 ≡ 0 = omega arith in
        let more : to - 4096 - 0 ≡ to - 4096 = omega arith in
        let own : List ℕ = replicate (4096 - from) 0 in
        let zs : List ℕ = replicate (to - 4096) 0 in
        let own_size : length own ≡ 4096 - from = length-replicate {A = ℕ} (4096 - from) 0 in
        let zs_size : length zs ≡ to - 4096 = length-replicate {A = ℕ} (to - 4096) 0 in
        let count : to - from ≡ (4096 - from) + (to - 4096) = omega arith in
        let joined : replicate (to - from) 0 ≡ own ++ zs = ap (λ (k : ℕ). replicate k 0) count ∙ sym (replicate-append-replicate (4096 - from) (to - 4096) 0) in
        let end : from + length (own ++ zs) ≡ length p + (to - 4096) = omega (arith, length-append own zs) in
        let behind : drop (from + length (own ++ zs)) (p ++ rest) ≡ drop (to - 4096) rest = ap (λ (k : ℕ). drop k (p ++ rest)) end ∙ drop-append-add p rest (to - 4096) in
        let front : take from (p ++ rest) ≡ take from p = take-append-le from p rest (omega arith) in
        let nothing : drop 4096 p ≡ [] = drop_all 4096 p (omega arith) in
        let here : zeros_between (min 4096 from) (min 4096 to) p ≡ take from p ++ own =
        (λ i. zeros_between (first i) (last i) p) ∙ ap (λ (k : ℕ). take from p ++ own ++ drop k p) most ∙ ap (λ (b : List ℕ). take from p ++ own ++ b) nothing ∙ append-nil (take from p ++ own) in
        let zs_end : 0 + length zs ≡ to - 4096 = omega arith in
        let there : with_bytes rest (from - 4096) (replicate (to - 4096 - (from - 4096)) 0) ≡ zs ++ drop (to - 4096) rest =
        ap (λ (k : ℕ). with_bytes rest k (replicate (to - 4096 - k) 0)) none ∙ ap (λ (k : ℕ). with_bytes rest 0 (replicate k 0)) more ∙ ap (λ (k : ℕ). zs ++ drop k rest) zs_end in
        ap (with_bytes (p ++ rest) from) joined ∙ (λ i. (front i ++ (own ++ zs)) ++ behind i)
        ∙ ap (λ (b : List ℕ). b ++ drop (to - 4096) rest) (sym (append_assoc (take from p) own zs)) ∙ append_assoc (take from p ++ own) zs (drop (to - 4096) rest)
        ∙ sym (λ i. here i ++ there i)
    | inr inside ↦
        let first : min 4096 from ≡ from = omega arith in
        let last : min 4096 to ≡ to = omega arith in
        let none : from - 4096 ≡ 0 = omega arith in
        let nothing : to - 4096 - 0 ≡ 0 = omega arith in
        let zs : List ℕ = replicate (to - from) 0 in
        let zs_size : length zs ≡ to - from = length-replicate {A = ℕ} (to - from) 0 in
        let end : from + length zs ≡ max from to = omega arith in
        let here : zeros_between (min 4096 from) (min 4096 to) p ≡ with_bytes p from zs = (λ i. zeros_between (first i) (last i) p) ∙ ap (λ (k : ℕ). take from p ++ zs ++ drop k p) (sym end) in
        let there : with_bytes rest (from - 4096) (replicate (to - 4096 - (from - 4096)) 0) ≡ rest =
        ap (λ (k : ℕ). with_bytes rest k (replicate (to - 4096 - k) 0)) none ∙ ap (λ (k : ℕ). with_bytes rest 0 (replicate k 0)) nothing in
        with_bytes-left p rest zs from (omega arith) ∙ sym (λ i. here i ++ there i)
  ]
  | inr high ↦
      let first : min 4096 from ≡ 4096 = omega arith in
      let last : min 4096 to ≡ 4096 = omega arith in
      let count : to - from ≡ to - 4096 - (from - 4096) = omega arith in
      let here : zeros_between (min 4096 from) (min 4096 to) p ≡ p = (λ i. zeros_between (first i) (last i) p) ∙ (let front = take_all 4096 p (omega arith) in let back = drop_all 4096 p (omega arith) in (λ i. front i ++ [] ++ back i) ∙ append-nil (p ++ []) ∙ append-nil p) in
      ap (λ (k : ℕ). with_bytes (p ++ rest) from (replicate k 0)) count ∙ with_bytes-right p rest (replicate (to - 4096 - (from - 4096)) 0) 4096 from size high
      ∙ ap (λ (b : List ℕ). b ++ with_bytes rest (from - 4096) (replicate (to - 4096 - (from - 4096)) 0)) (sym here)
]

abbrev spans : ℕ → ℕ → List Page → List Page
spans from to [] = []
spans from to (p ∷ ps) = zeros_between (min 4096 from) (min 4096 to) p ∷ spans (from - 4096) (to - 4096) ps

length-zeros_between : (from to : ℕ) (p : Page) → length p ≡ 4096 → from ≤ 4096 → to ≤ 4096 → length (zeros_between from to p) ≡ 4096
length-zeros_between from to p size low high =
    let one = length-append (take from p ++ replicate (to - from) 0) (drop (max from to) p) in
    let two = length-append (take from p) (replicate (to - from) 0) in
    omega (arith, one, two, length-take from p, length-replicate {A = ℕ} (to - from) 0, length-drop (max from to) p)

pages-spans : (ps : List Page) (from to : ℕ) → Whole ps → from ≤ to → pages_of_bytes (length ps) (with_bytes (concat ps) from (replicate (to - from) 0)) ≡ spans from to ps
pages-spans [] from to whole le = refl
pages-spans (p ∷ ps) from to whole le =
    ap (pages_of_bytes (suc (length ps))) (zeros-span p (concat ps) from to whole.0 le)
    ∙ pages_of_bytes-page (length ps) (zeros_between (min 4096 from) (min 4096 to) p) (with_bytes (concat ps) (from - 4096) (replicate (to - 4096 - (from - 4096)) 0)) (length-zeros_between (min 4096 from) (min 4096 to) p whole.0 (omega arith) (omega arith))
    ∙ ap (λ (qs : List Page). zeros_between (min 4096 from) (min 4096 to) p ∷ qs) (pages-spans ps (from - 4096) (to - 4096) whole.1 (omega arith))

at-spans : (ps : List Page) (from to i : ℕ) → slice_get (spans from to ps) i ≡ option_map (zeros_between (bytes_before from i) (bytes_before to i)) (slice_get ps i)
at-spans [] from to i = refl
at-spans (p ∷ ps) from to zero = let a : min 4096 from ≡ min 4096 (from - 4096 * 0) = omega arith in let b : min 4096 to ≡ min 4096 (to - 4096 * 0) = omega arith in λ i. Some (zeros_between (a i) (b i) p)
at-spans (p ∷ ps) from to (suc i) =
    let a : bytes_before (from - 4096) i ≡ bytes_before from (suc i) = omega arith in
    let b : bytes_before (to - 4096) i ≡ bytes_before to (suc i) = omega arith in
    at-spans ps (from - 4096) (to - 4096) i ∙ (λ j. option_map (zeros_between (a j) (b j)) (slice_get ps i))

-- LONGER
pub slice_get-append_left : {A : Type 0} (xs ys : List A) (i : ℕ) → i < length xs → slice_get (xs ++ ys) i ≡ slice_get xs i
slice_get-append_left [] ys i lt = absurd (omega arith)
slice_get-append_left (x ∷ xs) ys zero lt = refl
slice_get-append_left (x ∷ xs) ys (suc i) lt = slice_get-append_left xs ys i (omega arith)

pub slice_get-append_right : {A : Type 0} (xs ys : List A) (i : ℕ) → length xs ≤ i → slice_get (xs ++ ys) i ≡ slice_get ys (i - length xs)
slice_get-append_right [] ys i le = let same : i ≡ i - 0 = omega arith in ap (slice_get ys) same
slice_get-append_right (x ∷ xs) ys zero le = absurd (omega arith)
slice_get-append_right (x ∷ xs) ys (suc i) le = let same : i - length xs ≡ suc i - suc (length xs) = omega arith in slice_get-append_right xs ys i (omega arith) ∙ ap (slice_get ys) same

slice_get-replicate : (m i : ℕ) (p : Page) → slice_get (replicate m p) i ≡ (if nat_lt i m then Some p else None)
slice_get-replicate m i p = elim (cases_lt i m) [
  | inl lt ↦ inside m i lt ∙ sym (ap (λ b. if b then Some p else None) (lt-ltb i m lt))
  | inr le ↦ outside m i le ∙ sym (ap (λ b. if b then Some p else None) (le-ltb i m le))
]
  where
    inside : (m i : ℕ) → i < m → slice_get (replicate m p) i ≡ Some p
    inside zero i lt = absurd (omega arith)
    inside (suc m) zero lt = refl
    inside (suc m) (suc i) lt = inside m i (omega arith)

    outside : (m i : ℕ) → m ≤ i → slice_get (replicate m p) i ≡ None
    outside zero i le = refl
    outside (suc m) zero le = absurd (omega arith)
    outside (suc m) (suc i) le = outside m i (omega arith)

zeros-of_zeros : (to : ℕ) → to ≤ 4096 → zeros_between 0 to zero_page ≡ zero_page
unfolding zero_page
zeros-of_zeros to le =
    let most : max 0 to ≡ to = omega arith in
    let none : to - 0 ≡ to = omega arith in
    let sum : to + (4096 - to) ≡ 4096 = omega arith in
    (λ i. replicate (none i) 0 ++ drop (most i) (replicate 4096 0)) ∙ ap (λ (b : List ℕ). replicate to 0 ++ b) (drop-replicate to 4096 0) ∙ replicate-append-replicate to (4096 - to) 0 ∙ ap (λ (k : ℕ). replicate k 0) sum

same_zeros : (from to other : ℕ) (p : Page) → max from to ≡ other → zeros_between from other p ≡ zeros_between from to p
same_zeros from to other p is =
    let count : other - from ≡ to - from = omega arith in
    let most : max from other ≡ max from to = omega arith in
    λ i. take from p ++ replicate (count i) 0 ++ drop (most i) p

pub longer-pages : (file : File) (n i : ℕ) → IsFile file → slice_get (longer_file n file).pages i ≡ (if nat_lt i (length file.pages) then option_map (zeros_between (bytes_before file.len i) (bytes_before n i)) (slice_get file.pages i) else if nat_lt i (pages_in n) then Some zero_page else None)
unfolding longer_file pages_with_bytes
longer-pages file n i is =
    let more = pages_in n - length file.pages in
    let grown : List Page = file.pages ++ replicate more zero_page in
    let whole = Whole-append file.pages (replicate more zero_page) (Whole-pages file.pages is.pages) (Whole-zeros more) in
    let to = max file.len n in
    let count : n - file.len ≡ to - file.len = omega arith in
    let pages : slice_get (pages_of_bytes (length grown) (with_bytes (concat grown) file.len (replicate (n - file.len) 0))) i ≡ option_map (zeros_between (bytes_before file.len i) (bytes_before to i)) (slice_get grown i) =
    ap (λ (k : ℕ). slice_get (pages_of_bytes (length grown) (with_bytes (concat grown) file.len (replicate k 0))) i) count ∙ ap (λ (ps : List Page). slice_get ps i) (pages-spans grown file.len to whole (omega arith)) ∙ at-spans grown file.len to i in
    let have = is.count in
    let ends : max (bytes_before file.len i) (bytes_before n i) ≡ bytes_before to i = omega arith in
    pages ∙ elim (cases_lt i (length file.pages)) [
      | inl old ↦ ap (option_map (zeros_between (bytes_before file.len i) (bytes_before to i))) (slice_get-append_left file.pages (replicate more zero_page) i old) ∙ each (slice_get file.pages i) ends
          ∙ sym (ap (λ b. if b then option_map (zeros_between (bytes_before file.len i) (bytes_before n i)) (slice_get file.pages i) else if nat_lt i (pages_in n) then Some zero_page else None) (lt-ltb i (length file.pages) old))
      | inr new ↦
          let none : bytes_before file.len i ≡ 0 = omega arith in
          let tests : nat_lt (i - length file.pages) more ≡ nat_lt i (pages_in n) = elim (cases_lt i (pages_in n)) [ inl lt ↦ lt-ltb (i - length file.pages) more (omega arith) ∙ sym (lt-ltb i (pages_in n) lt) | inr le ↦ le-ltb (i - length file.pages) more (omega arith) ∙ sym (le-ltb i (pages_in n) le) ] in
          ap (option_map (zeros_between (bytes_before file.len i) (bytes_before to i))) (slice_get-append_right file.pages (replicate more zero_page) i new ∙ slice_get-replicate more (i - length file.pages) zero_page ∙ ap (λ b. if b then Some zero_page else None) tests)
          ∙ ap (λ (k : ℕ). option_map (zeros_between k (bytes_before to i)) (if nat_lt i (pages_in n) then Some zero_page else None)) none
          ∙ zero (nat_lt i (pages_in n)) (bytes_before to i) (omega arith)
          ∙ sym (ap (λ b. if b then option_map (zeros_between (bytes_before file.len i) (bytes_before n i)) (slice_get file.pages i) else if nat_lt i (pages_in n) then Some zero_page else None) (le-ltb i (length file.pages) new))
    ]
  where
    each : (o : Option Page) → max (bytes_before file.len i) (bytes_before n i) ≡ bytes_before (max file.len n) i → option_map (zeros_between (bytes_before file.len i) (bytes_before (max file.len n) i)) o ≡ option_map (zeros_between (bytes_before file.len i) (bytes_before n i)) o
    each None ends = refl
    each (Some p) ends = ap (λ x. Some x) (same_zeros (bytes_before file.len i) (bytes_before n i) (bytes_before (max file.len n) i) p ends)

    zero : (b : Bool) (end : ℕ) → end ≤ 4096 → option_map (zeros_between 0 end) (if b then Some zero_page else None) ≡ (if b then Some zero_page else None)
    zero true end le = ap (λ x. Some x) (zeros-of_zeros end le)
    zero false end le = refl

-- SHORTER
slice_get-take : {A : Type 0} (xs : List A) (m i : ℕ) → slice_get (take m xs) i ≡ (if nat_lt i m then slice_get xs i else None)
slice_get-take {A = A} xs m i = elim (cases_lt i m) [
  | inl lt ↦ inside xs m i lt ∙ sym (ap (λ b. if b then slice_get xs i else None) (lt-ltb i m lt))
  | inr le ↦ outside xs m i le ∙ sym (ap (λ b. if b then slice_get xs i else None) (le-ltb i m le))
]
  where
    inside : (ys : List A) (m i : ℕ) → i < m → slice_get (take m ys) i ≡ slice_get ys i
    inside ys zero i lt = absurd (omega arith)
    inside [] (suc m) i lt = refl
    inside (y ∷ ys) (suc m) zero lt = refl
    inside (y ∷ ys) (suc m) (suc i) lt = inside ys m i (omega arith)

    outside : (ys : List A) (m i : ℕ) → m ≤ i → slice_get (take m ys) i ≡ None
    outside ys zero i le = refl
    outside [] (suc m) i le = refl
    outside (y ∷ ys) (suc m) zero le = absurd (omega arith)
    outside (y ∷ ys) (suc m) (suc i) le = outside ys m i (omega arith)

pub shorter-pages : (file : File) (n i : ℕ) → IsFile file → slice_get (shorter_file n file).pages i ≡ (if nat_lt i (pages_in n) then option_map (page_front (n - page_size * i)) (slice_get file.pages i) else None)
shorter-pages file n i is =
    let kept = record file { len = n; pages = take (pages_in n) file.pages } in
    let whole = shorter-whole (pages_in n) file.pages (Whole-pages file.pages is.pages) in
    ap (λ (x : File). slice_get x.pages i) (without_tail-fronts kept whole) ∙ at-fronts kept.pages n i
    ∙ ap (option_map (page_front (n - 4096 * i))) (slice_get-take file.pages (pages_in n) i) ∙ by_test (nat_lt i (pages_in n)) (slice_get file.pages i)
  where
    by_test : (b : Bool) (o : Option Page) → option_map (page_front (n - 4096 * i)) (if b then o else None) ≡ (if b then option_map (page_front (n - 4096 * i)) o else None)
    by_test true o = refl
    by_test false o = refl

-- A PART
pub written-pages : (file : File) (offset i : ℕ) (line : List ℕ) → IsFile file → offset % page_size + length line ≤ page_size → slice_get (with_part offset line file).pages i ≡ (if i == page offset then option_map (λ old. with_bytes old (offset % page_size) line) (slice_get (longer_file (offset + length line) file).pages i) else slice_get (longer_file (offset + length line) file).pages i)
unfolding with_part pages_with_bytes
written-pages file offset i line is fits =
    let long = (longer_file (offset + length line) file).pages in
    let change = λ (old : Page). with_bytes old (offset % 4096) line in
    ap (λ (ps : List Page). slice_get ps i) (pages_of_bytes-with_bytes long offset line (longer (offset + length line) file is).1.whole fits)
    ∙ elim (cases_eq i (page offset)) [
      | inl here ↦ ap (slice_get (with_change_at change long (page offset))) here ∙ slice_get-with_change_at change long (page offset) ∙ ap (λ (k : ℕ). option_map change (slice_get long k)) (sym here)
          ∙ sym (ap (λ b. if b then option_map change (slice_get long i) else slice_get long i) (eq-eqb i (page offset) here))
      | inr apart ↦ slice_get-changed_apart change long (page offset) i apart ∙ sym (ap (λ b. if b then option_map change (slice_get long i) else slice_get long i) (not_eq i (page offset) apart))
    ]
  where
    not_eq : (x y : ℕ) → (x ≡ y → ⊥) → (x == y) ≡ false
    not_eq x y apart = elim (x == y) as (λ b. (x == y) ≡ b → b ≡ false) [ true ↦ λ is. absurd (apart (eqb-true x y is)) | false ↦ λ is. refl ] refl

pub grown_pages_law : GrownPages
grown_pages_law = record { longer = longer-pages; shorter = shorter-pages; written = written-pages }
