-- FILES THAT DIFFER IN BYTES ALONE.
use Rattle.std.proofs.Common.{◌≡◌, ℕ, zero, suc, ◌+◌, ◌-◌, ◌*◌, ◌%◌, ◌<◌, ◌≤◌, max, min, Bool, cond, List, [], ◌∷◌, ◌++◌, length, take, refl, sym, ap, ◌∙◌, ◌⊎◌, inl, inr, arith}
use Rattle.std.specs.Prelude.{nat_lt, replicate}
use Rattle.std.proofs.lemmas.Bool.{cases_lt, lt-ltb, le-ltb}
use Rattle.std.proofs.lemmas.List.{length-append, length-replicate, length-take}
use Rattle.seg_ops.specs.vnode_files.declared.extent.Extent.{Extent}
use Rattle.seg_ops.specs.vnode_files.Files.{vnode_at}
use Rattle.seg_ops.specs.page_store.Notes.{Notes}
use Rattle.seg_ops.specs.flat_model.Access.{with_change_at}
use Rattle.seg_ops.specs.flat_model.Flat.{File}
use Rattle.seg_ops.specs.flat_model.Parts.{file_of_length, longer_file, shorter_file, with_extents_of, with_part}
use Rattle.seg_ops.specs.flat_model.Shapes.{blank_file}
use Rattle.seg_ops.specs.flat_model.Words.{Page, page, pages_in, with_bytes, zero_page}
use Rattle.seg_ops.proofs.flat_model.FileBytes.{length-pages_with_bytes}
use Rattle.seg_ops.proofs.flat_model.ShapeSteps.{longer-count, part-like}
use Rattle.seg_ops.specs.vm_world.FileSteps.{file_seen}
use Rattle.seg_ops.specs.vm_world.Pages.{page_value, file_contents}
use Rattle.seg_ops.specs.vm_world.World.{World}
use Rattle.seg_ops.proofs.vm_world.FilePages.{length-pages_from}
use Rattle.seg_map.specs.Ends.{lengthened}
use Rattle.seg_map.specs.Puts.{with_bytes_in}
use Rattle.seg_map.specs.Voids.{with_page_void}

pub same-count : (a b : File) → blank_file a ≡ blank_file b → length a.pages ≡ length b.pages
same-count a b same = sym (length-replicate (length a.pages) zero_page) ∙ ap (λ (x : File). length x.pages) same ∙ length-replicate (length b.pages) zero_page

-- as many pages
pub blank-with : (file : File) (ps qs : List Page) → length ps ≡ length qs → blank_file (record file { pages = ps }) ≡ blank_file (record file { pages = qs })
blank-with file ps qs count = λ i. record file { pages = replicate (count i) zero_page }

changed-count : (g : Page → Page) (ps : List Page) (j : ℕ) → length (with_change_at g ps j) ≡ length ps
changed-count g [] j = refl
changed-count g (p ∷ ps) zero = refl
changed-count g (p ∷ ps) (suc j) = ap suc (changed-count g ps j)

pub put-alike : (i at : ℕ) (bytes : List ℕ) (file : File) → blank_file (with_bytes_in i at bytes file) ≡ blank_file file
put-alike i at bytes file = blank-with file (with_change_at (λ old. with_bytes old at bytes) file.pages i) file.pages (changed-count (λ old. with_bytes old at bytes) file.pages i)

pub void-alike : (i : ℕ) (file : File) → blank_file (with_page_void i file) ≡ blank_file file
void-alike i file = blank-with file (with_change_at (λ old. zero_page) file.pages i) file.pages (changed-count (λ old. zero_page) file.pages i)

-- OTHER ENDS
longer-len : (n : ℕ) (file : File) → file.len ≤ n → (longer_file n file).len ≡ n
unfolding longer_file
longer-len n file le = let e : max file.len n ≡ n = omega (arith, le) in e

longer-short-len : (n : ℕ) (file : File) → n ≤ file.len → (longer_file n file).len ≡ file.len
unfolding longer_file
longer-short-len n file le = let e : max file.len n ≡ file.len = omega (arith, le) in e

longer-rest : (n : ℕ) (file : File) → longer_file n file ≡ record file { len = (longer_file n file).len; pages = (longer_file n file).pages }
unfolding longer_file
longer-rest n file = refl

-- longer, as the pages that come show it
pub lengthened-alike : (extents : List Extent) (n : ℕ) (file : File) → file.len ≤ n → blank_file (longer_file n (with_extents_of extents file)) ≡ blank_file (lengthened extents n file)
lengthened-alike extents n file le =
    let long = longer_file n (with_extents_of extents file) in
    let more = replicate (pages_in n - length file.pages) zero_page in
    let count : length long.pages ≡ length (file.pages ++ more) = longer-count n (with_extents_of extents file) ∙ sym (length-append file.pages more ∙ ap (λ (k : ℕ). length file.pages + k) (length-replicate (pages_in n - length file.pages) zero_page)) in
    ap blank_file (longer-rest n (with_extents_of extents file)) ∙ (λ i. record file { len = longer-len n (with_extents_of extents file) le i; extents = extents; pages = replicate (count i) zero_page })

pub lengthened-put : (extents : List Extent) (n i at : ℕ) (bytes : List ℕ) (file : File) → blank_file (lengthened extents n (with_bytes_in i at bytes file)) ≡ blank_file (lengthened extents n file)
lengthened-put extents n i at bytes file =
    let c = changed-count (λ old. with_bytes old at bytes) file.pages i in
    let ps = with_change_at (λ old. with_bytes old at bytes) file.pages i in
    let count : length (ps ++ replicate (pages_in n - length ps) zero_page) ≡ length (file.pages ++ replicate (pages_in n - length file.pages) zero_page) =
    length-append ps (replicate (pages_in n - length ps) zero_page) ∙ ap (λ (k : ℕ). length ps + k) (length-replicate (pages_in n - length ps) zero_page)
    ∙ ap (λ (k : ℕ). k + (pages_in n - k)) c
    ∙ sym (length-append file.pages (replicate (pages_in n - length file.pages) zero_page) ∙ ap (λ (k : ℕ). length file.pages + k) (length-replicate (pages_in n - length file.pages) zero_page)) in
    λ j. record file { len = n; extents = extents; pages = replicate (count j) zero_page }

-- long enough already
pub short-alike : (n : ℕ) (file : File) → n ≤ file.len → length file.pages ≡ pages_in file.len → blank_file (longer_file n file) ≡ blank_file file
short-alike n file le count =
    let more : length file.pages + (pages_in n - length file.pages) ≡ length file.pages = omega (arith, le, count) in
    ap blank_file (longer-rest n file) ∙ (λ i. record file { len = longer-short-len n file le i; pages = replicate ((longer-count n file ∙ more) i) zero_page })

pub shorter-count : (n : ℕ) (file : File) → length (shorter_file n file).pages ≡ min (pages_in n) (length file.pages)
shorter-count n file = length-pages_with_bytes (take (pages_in n) file.pages) n (replicate (4096 * length (take (pages_in n) file.pages) - n) 0) ∙ length-take (pages_in n) file.pages

pub shorter-alike : (n : ℕ) (a b : File) → blank_file a ≡ blank_file b → blank_file (shorter_file n a) ≡ blank_file (shorter_file n b)
shorter-alike n a b same =
    let ca = shorter-count n a in
    let cb = shorter-count n b in
    (λ i. record a { len = n; pages = replicate (ca i) zero_page })
    ∙ (λ i. record (same i) { len = n; pages = replicate (min (pages_in n) (same-count a b same i)) zero_page })
    ∙ sym (λ i. record b { len = n; pages = replicate (cb i) zero_page })

-- the end that a Truncate gives
pub less-end : (n : ℕ) (file : File) → n < file.len → file_of_length n file ≡ shorter_file n file
less-end n file lt = ap (λ (b : Bool). cond b (shorter_file n file) (cond (nat_lt file.len n) (longer_file n file) file)) (lt-ltb n file.len lt)

pub more-alike : (n : ℕ) (file : File) → file.len ≤ n → length file.pages ≡ pages_in file.len → blank_file (file_of_length n file) ≡ blank_file (longer_file n file)
more-alike n file le count = ap blank_file not_less ∙ by_end (cases_lt file.len n)
  where
    not_less : file_of_length n file ≡ cond (nat_lt file.len n) (longer_file n file) file
    not_less = ap (λ (b : Bool). cond b (shorter_file n file) (cond (nat_lt file.len n) (longer_file n file) file)) (le-ltb n file.len le)

    by_end : (file.len < n) ⊎ (n ≤ file.len) → blank_file (cond (nat_lt file.len n) (longer_file n file) file) ≡ blank_file (longer_file n file)
    by_end (inl lt) = ap (λ (b : Bool). blank_file (cond b (longer_file n file) file)) (lt-ltb file.len n lt)
    by_end (inr same) = ap (λ (b : Bool). blank_file (cond b (longer_file n file) file)) (le-ltb file.len n same) ∙ sym (short-alike n file same count)

-- a part, where the file is long enough and where it gets longer
pub part-alike : (offset : ℕ) (line : List ℕ) (file : File) → blank_file (with_part offset line file) ≡ blank_file (with_bytes_in (page offset) (offset % 4096) line (longer_file (offset + length line) file))
part-alike offset line file = part-like offset line file ∙ sym (put-alike (page offset) (offset % 4096) line (longer_file (offset + length line) file))

-- A FILE OF MEMORY has as many pages as its length needs, whatever disks tell.
pub seen-count : (w : World) (notes : Notes) (f : ℕ) (file : File) → blank_file file ≡ blank_file (file_seen w notes f) → length file.pages ≡ pages_in file.len
seen-count w notes f file same =
    same-count file (file_seen w notes f) same ∙ length-pages_from (file_contents (page_value w notes) f) 0 (pages_in (vnode_at w.files f).info.length)
    ∙ sym (ap (λ (x : File). pages_in x.len) same)
