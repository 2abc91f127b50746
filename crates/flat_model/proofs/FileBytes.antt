-- The bytes of a file after a written part and a Truncate, and after its tail became zeros.
use Rattle.std.proofs.Common.{◌≡◌, ℕ, zero, suc, ◌+◌, ◌-◌, ◌*◌, ◌≤◌, max, List, [], ◌∷◌, ◌++◌, length, take, drop, replicate, refl, sym, ap, subst, ◌<◌, ◌∙◌, inl, inr, append_assoc, arith, length-append}
use Rattle.std.specs.Prelude.{All, nat_lt, if◌then◌else◌}
use Rattle.std.specs.List.{concat}
use Rattle.std.proofs.Math.Seq.{take-add, take-append-add}
use Rattle.std.proofs.lemmas.Bool.{cases_lt, lt-ltb, le-ltb}
use Rattle.std.proofs.lemmas.List.{length-take, length-drop, length-replicate, take-append-drop, take_all, take_at, take-take, append-nil, replicate-append-replicate, take-append-le, drop-append-le, drop_all}
use Rattle.std.proofs.lemmas.List.Folds.{concat-append}
use Rattle.flat_model.specs.Words.{Page, IsPage, zero_page, pages_in, with_bytes}
use Rattle.flat_model.specs.Flat.{File, IsFile}
use Rattle.flat_model.specs.Parts.{pages_of_bytes, pages_with_bytes, file_bytes, with_part, without_tail, longer_file, shorter_file, file_of_length}
use Rattle.flat_model.specs.PartLaws.{FileBytes}

-- each page has 4096 bytes
abbrev pub Whole : List Page → Type 0
Whole [] = Unit {0}
Whole (p ∷ ps) = (length p ≡ 4096) × Whole ps

pub Whole-pages : (ps : List Page) → All IsPage ps → Whole ps
Whole-pages [] all = tt
Whole-pages (p ∷ ps) all = ((all 0 p (omega arith)).whole, Whole-pages ps (λ k d lt. all (suc k) d (omega arith)))

pub length-concat : (ps : List Page) → Whole ps → length (concat ps) ≡ 4096 * length ps
length-concat [] whole = refl
length-concat (p ∷ ps) whole = omega (arith, length-append p (concat ps), whole.0, length-concat ps whole.1)

pub length-pages_of_bytes : (n : ℕ) (xs : List ℕ) → length (pages_of_bytes n xs) ≡ n
length-pages_of_bytes zero xs = refl
length-pages_of_bytes (suc n) xs = omega (arith, length-pages_of_bytes n (drop 4096 xs))

pub Whole-pages_of_bytes : (n : ℕ) (xs : List ℕ) → length xs ≡ 4096 * n → Whole (pages_of_bytes n xs)
Whole-pages_of_bytes zero xs size = tt
Whole-pages_of_bytes (suc n) xs size = (omega (arith, length-take 4096 xs), Whole-pages_of_bytes n (drop 4096 xs) (omega (arith, length-drop 4096 xs)))

pub concat-pages_of_bytes : (n : ℕ) (xs : List ℕ) → concat (pages_of_bytes n xs) ≡ take (4096 * n) xs
concat-pages_of_bytes zero xs = refl
concat-pages_of_bytes (suc n) xs =
    let more : 4096 * suc n ≡ 4096 + 4096 * n = omega arith in
    ap (λ (ys : List ℕ). take 4096 xs ++ ys) (concat-pages_of_bytes n (drop 4096 xs)) ∙ sym (take-add 4096 (4096 * n) xs) ∙ ap (λ k. take k xs) (sym more)

pub length-with_bytes : (old bytes : List ℕ) (at : ℕ) → at + length bytes ≤ length old → length (with_bytes old at bytes) ≡ length old
length-with_bytes old bytes at fits = omega (arith, length-append (take at old ++ bytes) (drop (at + length bytes) old), length-append (take at old) bytes, length-take at old, length-drop (at + length bytes) old)

pub length-pages_with_bytes : (ps : List Page) (at : ℕ) (bytes : List ℕ) → length (pages_with_bytes ps at bytes) ≡ length ps
unfolding pages_with_bytes
length-pages_with_bytes ps at bytes = length-pages_of_bytes (length ps) (with_bytes (concat ps) at bytes)

pub Whole-pages_with_bytes : (ps : List Page) (at : ℕ) (bytes : List ℕ) → Whole ps → at + length bytes ≤ 4096 * length ps → Whole (pages_with_bytes ps at bytes)
unfolding pages_with_bytes
Whole-pages_with_bytes ps at bytes whole fits = let size = length-concat ps whole in Whole-pages_of_bytes (length ps) (with_bytes (concat ps) at bytes) (length-with_bytes (concat ps) bytes at (omega arith) ∙ size)

-- pages with bytes put over them are the bytes with these put over them
pub concat-pages_with_bytes : (ps : List Page) (at : ℕ) (bytes : List ℕ) → Whole ps → at + length bytes ≤ 4096 * length ps → concat (pages_with_bytes ps at bytes) ≡ with_bytes (concat ps) at bytes
unfolding pages_with_bytes
concat-pages_with_bytes ps at bytes whole fits =
    let size = length-concat ps whole in
    let same = length-with_bytes (concat ps) bytes at (omega arith) in
    concat-pages_of_bytes (length ps) (with_bytes (concat ps) at bytes) ∙ take_all (4096 * length ps) (with_bytes (concat ps) at bytes) (omega arith)

length-zero_page : length zero_page ≡ 4096
unfolding zero_page
length-zero_page = length-replicate {A = ℕ} 4096 0

pub Whole-zeros : (n : ℕ) → Whole (replicate n zero_page)
Whole-zeros zero = tt
Whole-zeros (suc n) = (length-zero_page, Whole-zeros n)

pub Whole-append : (ps qs : List Page) → Whole ps → Whole qs → Whole (ps ++ qs)
Whole-append [] qs left right = right
Whole-append (p ∷ ps) qs left right = (left.0, Whole-append ps qs left.1 right)

-- what is put behind the front of a list leaves the front
take-with_bytes : (old bytes : List ℕ) (at n : ℕ) → n ≤ at → at ≤ length old → take n (with_bytes old at bytes) ≡ take n old
take-with_bytes old bytes at n low fits =
    let front : length (take at old) ≡ at = omega (arith, length-take at old) in
    ap (take n) (append_assoc (take at old) bytes (drop (at + length bytes) old)) ∙ take-append-le n (take at old) (bytes ++ drop (at + length bytes) old) (omega arith)
    ∙ sym (take-append-le n (take at old) (drop at old) (omega arith)) ∙ ap (take n) (take-append-drop at old)

-- a front of what bytes were put over ends with them, or goes on behind them as the front did
take_rest_of : (xs ys : List ℕ) (end : ℕ) → take (length xs - end) (drop end (xs ++ ys)) ≡ drop end xs
take_rest_of xs ys end = elim (cases_lt (length xs) end) [
  | inl past ↦ let none : length xs - end ≡ 0 = omega arith in ap (λ k. take k (drop end (xs ++ ys))) none ∙ sym (drop_all end xs (omega arith))
  | inr within ↦ ap (take (length xs - end)) (drop-append-le end xs ys within) ∙ take_at (drop end xs) ys (length xs - end) (length-drop end xs)
]

-- over bytes that begin with x the part is the same as over x alone, up to the end of both
over_front : (xs ys line : List ℕ) (offset : ℕ) → offset ≤ length xs → take (max (length xs) (offset + length line)) (with_bytes (xs ++ ys) offset line) ≡ with_bytes xs offset line
over_front xs ys line offset fits =
    let end = offset + length line in
    let whole = xs ++ ys in
    let head : length (take offset whole ++ line) ≡ end = omega (arith, length-append (take offset whole) line, length-take offset whole, length-append xs ys) in
    let count : max (length xs) end ≡ length (take offset whole ++ line) + (length xs - end) = omega arith in
    ap (λ k. take k (with_bytes whole offset line)) count
    ∙ take-append-add (take offset whole ++ line) (drop end whole) (length xs - end)
    ∙ ap (λ (zs : List ℕ). (take offset whole ++ line) ++ zs) (take_rest_of xs ys end)
    ∙ ap (λ (zs : List ℕ). (zs ++ line) ++ drop end xs) (take-append-le offset xs ys fits)

-- a file that is longer, and what it is made of: its bytes, zeros from the old end to the new one, and what is behind them
pub record LongerFile (n : ℕ) (file : File) (behind : List ℕ) : Type 0 where
  pub whole : Whole (longer_file n file).pages
  pub count : length (longer_file n file).pages ≡ pages_in (max file.len n)
  pub all : concat (longer_file n file).pages ≡ (file_bytes file ++ replicate (n - file.len) 0) ++ behind
  pub front : length (file_bytes file) ≡ file.len

pub longer : (n : ℕ) (file : File) → IsFile file → (behind : List ℕ) × LongerFile n file behind
unfolding longer_file
longer n file is =
    let more = pages_in n - length file.pages in
    let grown : List Page = file.pages ++ replicate more zero_page in
    let zeros : List ℕ = replicate (n - file.len) 0 in
    let count : length grown ≡ length file.pages + more = length-append file.pages (replicate more zero_page) ∙ ap (λ k. length file.pages + k) (length-replicate more zero_page) in
    let whole = Whole-append file.pages (replicate more zero_page) (Whole-pages file.pages is.pages) (Whole-zeros more) in
    let old = length-concat file.pages (Whole-pages file.pages is.pages) in
    let pages = is.count in
    let zero_count : length zeros ≡ n - file.len = length-replicate (n - file.len) 0 in
    let fits : file.len + length zeros ≤ 4096 * length grown = omega arith in
    let grown_is : take file.len (concat grown) ≡ file_bytes file = ap (take file.len) (concat-append file.pages (replicate more zero_page)) ∙ take-append-le file.len (concat file.pages) (concat (replicate more zero_page)) (omega arith) in
    let same = length-pages_with_bytes grown file.len zeros in (
      drop (file.len + length zeros) (concat grown),
      record {
        whole = Whole-pages_with_bytes grown file.len zeros whole fits;
        count = omega arith;
        all = concat-pages_with_bytes grown file.len zeros whole fits ∙ ap (λ (zs : List ℕ). (zs ++ zeros) ++ drop (file.len + length zeros) (concat grown)) grown_is;
        front = omega (arith, length-take file.len (concat file.pages));
      },
    )

pub len-longer_file : (n : ℕ) (file : File) → (longer_file n file).len ≡ max file.len n
unfolding longer_file
len-longer_file n file = refl

-- a longer file has its bytes, and zeros behind them
pub file_bytes-longer : (n : ℕ) (file : File) → IsFile file → file_bytes (longer_file n file) ≡ file_bytes file ++ replicate (n - file.len) 0
file_bytes-longer n file is =
    let l = longer n file is in
    let have = l.1.front in
    let zeros : List ℕ = replicate (n - file.len) 0 in
    let size : length (file_bytes file ++ zeros) ≡ max file.len n = omega (arith, length-append (file_bytes file) zeros, length-replicate {A = ℕ} (n - file.len) 0) in
    ap (λ k. take k (concat (longer_file n file).pages)) (len-longer_file n file ∙ sym size)
    ∙ ap (take (length (file_bytes file ++ zeros))) l.1.all
    ∙ take_at (file_bytes file ++ zeros) l.0 (length (file_bytes file ++ zeros)) refl

zeros-split : (m n : ℕ) → m ≤ n → replicate {A = ℕ} n 0 ≡ replicate m 0 ++ replicate (n - m) 0
zeros-split m n le = let sum : m + (n - m) ≡ n = omega arith in sym (replicate-append-replicate m (n - m) 0 ∙ ap (λ k. replicate k 0) sum)

pub file_bytes-with_part : (file : File) (offset : ℕ) (line : List ℕ) → IsFile file → file_bytes (with_part offset line file) ≡ with_bytes (file_bytes file ++ replicate (offset - file.len) 0) offset line
unfolding with_part
file_bytes-with_part file offset line is =
    let end = offset + length line in
    let l = longer end file is in
    let front = l.1.front in
    let pages = l.1.count in
    let long = longer_file end file in
    let gap : List ℕ = replicate (offset - file.len) 0 in
    let rest : List ℕ = replicate (end - file.len - (offset - file.len)) 0 ++ l.0 in
    let over = file_bytes file ++ gap in
    let size : length over ≡ max file.len offset = omega (arith, length-append (file_bytes file) gap, length-replicate {A = ℕ} (offset - file.len) 0) in
    let all : concat long.pages ≡ over ++ rest = l.1.all ∙ ap (λ (zs : List ℕ). (file_bytes file ++ zs) ++ l.0) (zeros-split (offset - file.len) (end - file.len) (omega arith)) ∙ ap (λ (zs : List ℕ). zs ++ l.0) (sym (append_assoc (file_bytes file) gap (replicate (end - file.len - (offset - file.len)) 0))) ∙ append_assoc over (replicate (end - file.len - (offset - file.len)) 0) l.0 in
    let fits : offset + length line ≤ 4096 * length long.pages = omega arith in
    let length_is : long.len ≡ max (length over) (offset + length line) = len-longer_file end file ∙ omega arith in
    ap (λ k. take k (concat (pages_with_bytes long.pages offset line))) length_is
    ∙ ap (take (max (length over) (offset + length line))) (concat-pages_with_bytes long.pages offset line l.1.whole fits ∙ ap (λ (zs : List ℕ). with_bytes zs offset line) all)
    ∙ over_front over rest line offset (omega arith)

pub len-with_part : (file : File) (offset : ℕ) (line : List ℕ) → (with_part offset line file).len ≡ max file.len (offset + length line)
unfolding with_part
len-with_part file offset line = len-longer_file (offset + length line) file

pub count-with_part : (file : File) (offset : ℕ) (line : List ℕ) → IsFile file → length (with_part offset line file).pages ≡ pages_in (with_part offset line file).len
unfolding with_part
count-with_part file offset line is =
    let end = offset + length line in
    let l = longer end file is in
    length-pages_with_bytes (longer_file end file).pages offset line ∙ l.1.count ∙ ap pages_in (sym (len-longer_file end file))

pub file_bytes-without_tail : (file : File) → IsFile file → file_bytes (without_tail file) ≡ file_bytes file
file_bytes-without_tail file is =
    let whole = Whole-pages file.pages is.pages in
    let old = length-concat file.pages whole in
    let pages = is.count in
    let zeros : List ℕ = replicate (4096 * length file.pages - file.len) 0 in
    let count : length zeros ≡ 4096 * length file.pages - file.len = length-replicate (4096 * length file.pages - file.len) 0 in
    ap (take file.len) (concat-pages_with_bytes file.pages file.len zeros whole (omega arith))
    ∙ take-with_bytes (concat file.pages) zeros file.len file.len (omega arith) (omega arith)

-- the first pages of a file that gets shorter
pub shorter-whole : (n : ℕ) (ps : List Page) → Whole ps → Whole (take n ps)
shorter-whole zero ps whole = tt
shorter-whole (suc n) [] whole = tt
shorter-whole (suc n) (p ∷ ps) whole = (whole.0, shorter-whole n ps whole.1)

concat-take : (n : ℕ) (ps : List Page) → Whole ps → concat (take n ps) ≡ take (4096 * n) (concat ps)
concat-take zero ps whole = refl
concat-take (suc n) [] whole = sym (take_all {A = ℕ} (4096 * suc n) [] (omega arith))
concat-take (suc n) (p ∷ ps) whole =
    let size = whole.0 in
    let more : 4096 * suc n ≡ length p + 4096 * n = omega arith in
    ap (λ (ys : List ℕ). p ++ ys) (concat-take n ps whole.1) ∙ sym (take-append-add p (concat ps) (4096 * n)) ∙ ap (λ k. take k (p ++ concat ps)) (sym more)

pub count-shorter_file : (n : ℕ) (file : File) → IsFile file → n ≤ file.len → length (shorter_file n file).pages ≡ pages_in n
count-shorter_file n file is le =
    let pages = is.count in
    let kept = take (pages_in n) file.pages in
    length-pages_with_bytes kept n (replicate (4096 * length kept - n) 0) ∙ omega (arith, length-take (pages_in n) file.pages)

pub file_bytes-shorter : (n : ℕ) (file : File) → IsFile file → n ≤ file.len → file_bytes (shorter_file n file) ≡ take n (file_bytes file)
file_bytes-shorter n file is le =
    let whole = Whole-pages file.pages is.pages in
    let pages = is.count in
    let kept = take (pages_in n) file.pages in
    let kept_whole = shorter-whole (pages_in n) file.pages whole in
    let kept_count : length kept ≡ pages_in n = omega (arith, length-take (pages_in n) file.pages) in
    let kept_size = length-concat kept kept_whole in
    let zeros : List ℕ = replicate (4096 * length kept - n) 0 in
    let count : length zeros ≡ 4096 * length kept - n = length-replicate (4096 * length kept - n) 0 in
    ap (take n) (concat-pages_with_bytes kept n zeros kept_whole (omega arith))
    ∙ take-with_bytes (concat kept) zeros n n (omega arith) (omega arith)
    ∙ ap (take n) (concat-take (pages_in n) file.pages whole)
    ∙ take-take n (4096 * pages_in n) (concat file.pages) (omega arith)
    ∙ sym (take-take n file.len (concat file.pages) le)

-- a file of a length, by whether it is shorter, longer, or as it was
pub of_length : (P : File → Type 0) (n : ℕ) (file : File) → (n < file.len → P (shorter_file n file)) → (file.len < n → P (longer_file n file)) → (n ≡ file.len → P file) → P (file_of_length n file)
of_length P n file short long same = elim (cases_lt n file.len) [
  | inl less ↦ subst P (ap (λ b. if b then shorter_file n file else if nat_lt file.len n then longer_file n file else file) (sym (lt-ltb n file.len less))) (short less)
  | inr no_less ↦ subst P (ap (λ b. if b then shorter_file n file else if nat_lt file.len n then longer_file n file else file) (sym (le-ltb n file.len no_less))) (elim (cases_lt file.len n) [
    | inl more ↦ subst P (ap (λ b. if b then longer_file n file else file) (sym (lt-ltb file.len n more))) (long more)
    | inr no_more ↦ subst P (ap (λ b. if b then longer_file n file else file) (sym (le-ltb file.len n no_more))) (same (omega arith))
  ])
]

pub file_bytes_law : FileBytes
file_bytes_law = record {
  part_bytes = file_bytes-with_part;
  part_length = len-with_part;
  part_pages = count-with_part;
  shorter_bytes = λ file n is le. of_length (λ new. file_bytes new ≡ take n (file_bytes file)) n file
      (λ less. file_bytes-shorter n file is le)
      (λ more. absurd (omega arith))
      (λ same. let front : length (file_bytes file) ≡ file.len = (longer n file is).1.front in sym (take_all n (file_bytes file) (omega arith)));
  longer_bytes = λ file n is le. of_length (λ new. file_bytes new ≡ file_bytes file ++ replicate (n - file.len) 0) n file
      (λ less. absurd (omega arith))
      (λ more. file_bytes-longer n file is)
      (λ same. let none : n - file.len ≡ 0 = omega arith in sym (append-nil (file_bytes file)) ∙ ap (λ k. file_bytes file ++ replicate k 0) (sym none));
  new_length = λ file n. of_length (λ new. new.len ≡ n) n file (λ less. refl) (λ more. len-longer_file n file ∙ omega arith) (λ same. sym same);
  same_length = λ file. of_length (λ new. new ≡ file) file.len file (λ less. absurd (omega arith)) (λ more. absurd (omega arith)) (λ same. refl);
  new_pages = λ file n is. of_length (λ new. length new.pages ≡ pages_in n) n file
      (λ less. count-shorter_file n file is (omega arith))
      (λ more. let most : max file.len n ≡ n = omega arith in (longer n file is).1.count ∙ ap pages_in most)
      (λ same. is.count ∙ ap pages_in (sym same));
  tail_bytes = file_bytes-without_tail;
  tail_length = λ file. refl;
  tail_pages = λ file is. length-pages_with_bytes file.pages file.len (replicate (4096 * length file.pages - file.len) 0) ∙ is.count;
}
