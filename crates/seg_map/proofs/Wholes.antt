-- WHAT SMALL CHANGES OF A FILE MAKE UP.
use Rattle.std.proofs.lemmas.Option.{slice_get_past as past-list}
use Rattle.std.proofs.Common.{◌≡◌, ◌≢◌, ℕ, zero, suc, ◌+◌, ◌-◌, ◌*◌, ◌%◌, ◌<◌, ◌≤◌, max, Bool, cond, List, [], ◌∷◌, ◌++◌, length, Option, Some, None, refl, sym, ap, ◌∙◌, ◌⊎◌, inl, inr, subst, arith}
use Rattle.std.specs.Prelude.{option_map, slice_get, nat_lt, take, drop, replicate, remove}
use Rattle.std.proofs.lemmas.Bool.{cases_eq, lt-ltb, le-ltb, cases_lt}
use Rattle.std.proofs.lemmas.List.{length-append, length-replicate, append-nil, take-append-drop}
use Rattle.seg_ops.specs.vnode_files.Files.{FilesSeen, vnode_at, growth_of, block_count, extents_on}
use Rattle.seg_ops.specs.vnode_files.Grow.{page_count, with_next_blocks}
use Rattle.seg_ops.specs.vnode_files.declared.extent.Extent.{Extent}
use Rattle.seg_ops.specs.page_store.Notes.{Notes}
use Rattle.seg_ops.specs.vm_types.Pages.{bytes_before}
use Rattle.seg_ops.specs.flat_model.Access.{with_change_at}
use Rattle.seg_ops.specs.flat_model.Flat.{File, IsFile}
use Rattle.seg_ops.specs.flat_model.GrownLaws.{zeros_between}
use Rattle.seg_ops.specs.flat_model.LineLaws.{page_front}
use Rattle.seg_ops.specs.flat_model.Parts.{longer_file, shorter_file, with_part, with_extents_of}
use Rattle.seg_ops.specs.flat_model.Shapes.{blank_file}
use Rattle.seg_ops.specs.flat_model.Words.{Page, IsPage, page, pages_in, zero_page, with_bytes}
use Rattle.seg_ops.proofs.flat_model.Bytes.{slice_get-with_change_at, slice_get-changed_apart}
use Rattle.seg_ops.proofs.flat_model.Grown.{grown_pages_law, slice_get-append_left as got-left, slice_get-append_right as got-right}
use Rattle.seg_ops.proofs.flat_model.Lines.{lines_in_pages_law}
use Rattle.seg_ops.proofs.flat_model.ShapeSteps.{part-like}
use Rattle.seg_ops.proofs.flat_model.WellFormed.{Each, Each-All, All-Each, IsFile-longer_file, IsPage-zero_page}
use Rattle.seg_ops.specs.vm_world.FileSteps.{ChangesFile, file_seen}
use Rattle.seg_ops.specs.vm_world.FlatMemory.{Memory}
use Rattle.seg_ops.specs.vm_world.NotesFit.{NotesFit}
use Rattle.seg_ops.specs.vm_world.World.{AllTell}
use Rattle.seg_ops.specs.vm_world.MemoryFits.{MemoryFits}
use Rattle.seg_ops.proofs.vm_world.FlatWhole.{some-inj}
use Rattle.seg_ops.proofs.vm_world.FileSteps.{same-lists, files-then}
use Rattle.seg_ops.proofs.vm_world.PageNames.{index-of}
use Rattle.seg_map.specs.Ends.{lengthened}
use Rattle.seg_map.specs.Puts.{with_bytes_in}
use Rattle.seg_map.specs.Voids.{with_page_void}
use Rattle.seg_map.specs.Wholes.{gap_zeros, WholesLaw, PartLaw}
use Rattle.seg_map.proofs.Alike.{part-alike, put-alike, seen-count, short-alike}
use Rattle.seg_map.proofs.Ends.{got-replicate}

-- A PART.
part : (file : File) (offset : ℕ) (line : List ℕ) → IsFile file → offset % 4096 + length line ≤ 4096 → with_bytes_in (page offset) (offset % 4096) line (longer_file (offset + length line) file) ≡ with_part offset line file
unfolding with_part
part file offset line is within =
    let long = longer_file (offset + length line) file in
    ap (λ (ps : List Page). record long { pages = ps }) (sym (lines_in_pages_law.put long.pages offset line (λ k d lt. ((IsFile-longer_file (offset + length line) file is).pages k d lt).whole) within))

-- LONGER.
longer-len : (file : File) (n : ℕ) → file.len ≤ n → (longer_file n file).len ≡ n
unfolding longer_file
longer-len file n le = let e : max file.len n ≡ n = omega (arith, le) in e

longer-rest : (file : File) (n : ℕ) → longer_file n file ≡ record file { len = (longer_file n file).len; pages = (longer_file n file).pages }
unfolding longer_file
longer-rest file n = refl

past-grown : (ps : List Page) (n i : ℕ) → length ps ≤ pages_in n → pages_in n ≤ i → slice_get (ps ++ replicate (pages_in n - length ps) zero_page) i ≡ None
past-grown ps n i le past = past-list (ps ++ replicate (pages_in n - length ps) zero_page) i (let a = length-append ps (replicate (pages_in n - length ps) zero_page) in let b = length-replicate (pages_in n - length ps) zero_page in omega (arith, a, b, le, past))

-- pages that are as they have to be, where the file ended and elsewhere
grown-pages : (file : File) (n : ℕ) (ps : List Page) → IsFile file → file.len ≤ n → length ps ≡ length file.pages
    → ((i : ℕ) (old : Page) → i < length file.pages → slice_get file.pages i ≡ Some old → slice_get ps i ≡ Some (zeros_between (bytes_before file.len i) (bytes_before n i) old))
    → ps ++ replicate (pages_in n - length ps) zero_page ≡ (longer_file n file).pages
grown-pages file n ps is le count each = same-lists (ps ++ replicate (pages_in n - length ps) zero_page) (longer_file n file).pages (λ i. by_place i (cases_lt i (length file.pages)) ∙ sym (grown_pages_law.longer file n i is))
  where
    by_old : (i : ℕ) (o : Option Page) → i < length file.pages → slice_get file.pages i ≡ o → slice_get ps i ≡ option_map (zeros_between (bytes_before file.len i) (bytes_before n i)) o
    by_old i None lt e = absurd (inside file.pages i lt e)
      where
        inside : (xs : List Page) (i : ℕ) → i < length xs → slice_get xs i ≡ None → ⊥
        inside [] i lt e = omega (arith, lt)
        inside (x ∷ xs) zero lt e = let z : ◌≡◌ {A = Option Page} (Some x) None = e in cc
        inside (x ∷ xs) (suc i) lt e = inside xs i (omega (arith, lt)) e
    by_old i (Some old) lt e = each i old lt e

    by_more : (i : ℕ) → length file.pages ≤ i → (i < pages_in n) ⊎ (pages_in n ≤ i) → slice_get (ps ++ replicate (pages_in n - length ps) zero_page) i ≡ cond (nat_lt i (pages_in n)) (Some zero_page) None
    by_more i over (inl below) =
        got-right ps (replicate (pages_in n - length ps) zero_page) i (omega (arith, count, over)) ∙ got-replicate (pages_in n - length ps) zero_page (i - length ps) (omega (arith, count, over, below))
        ∙ sym (ap (λ (b : Bool). cond b (Some zero_page) None) (lt-ltb i (pages_in n) below))
    by_more i over (inr past) = past-grown ps n i (let c = is.count in omega (arith, c, count, le)) past ∙ sym (ap (λ (b : Bool). cond b (Some zero_page) None) (le-ltb i (pages_in n) past))

    by_place : (i : ℕ) → (i < length file.pages) ⊎ (length file.pages ≤ i) → slice_get (ps ++ replicate (pages_in n - length ps) zero_page) i
        ≡ cond (nat_lt i (length file.pages)) (option_map (zeros_between (bytes_before file.len i) (bytes_before n i)) (slice_get file.pages i)) (cond (nat_lt i (pages_in n)) (Some zero_page) None)
    by_place i (inl lt) =
        got-left ps (replicate (pages_in n - length ps) zero_page) i (omega (arith, count, lt)) ∙ by_old i (slice_get file.pages i) lt refl
        ∙ sym (ap (λ (b : Bool). cond b (option_map (zeros_between (bytes_before file.len i) (bytes_before n i)) (slice_get file.pages i)) (cond (nat_lt i (pages_in n)) (Some zero_page) None)) (lt-ltb i (length file.pages) lt))
    by_place i (inr over) =
        by_more i over (cases_lt i (pages_in n))
        ∙ sym (ap (λ (b : Bool). cond b (option_map (zeros_between (bytes_before file.len i) (bytes_before n i)) (slice_get file.pages i)) (cond (nat_lt i (pages_in n)) (Some zero_page) None)) (le-ltb i (length file.pages) over))

-- in every page but the last nothing lies behind the end
pub none-between : (k : ℕ) (p : Page) → k ≤ 4096 → length p ≡ 4096 → zeros_between k k p ≡ p
none-between k p le whole = (λ j. take k p ++ replicate (none j) 0 ++ drop (most j) p) ∙ joined
  where
    none : k - k ≡ 0
    none = omega arith

    most : max k k ≡ k
    most = omega arith

    joined : take k p ++ replicate 0 0 ++ drop k p ≡ p
    joined = ap (λ (b : List ℕ). b ++ drop k p) (append-nil (take k p)) ∙ take-append-drop k p

with-record : (file : File) (extents : List Extent) (n : ℕ) (ps : List Page) → IsFile file → file.len ≤ n → ps ≡ (longer_file n (with_extents_of extents file)).pages → record file { len = n; extents = extents; pages = ps } ≡ longer_file n (with_extents_of extents file)
with-record file extents n ps is le same =
    ap (λ (qs : List Page). record file { len = n; extents = extents; pages = qs }) same
    ∙ ap (λ (l : ℕ). record file { len = l; extents = extents; pages = (longer_file n (with_extents_of extents file)).pages }) (sym (longer-len (with_extents_of extents file) n le))
    ∙ sym (longer-rest (with_extents_of extents file) n)

longer-same : (extents : List Extent) (n : ℕ) (file : File) → IsFile file → file.len ≤ n
    → ((old : Page) → slice_get file.pages (page file.len) ≡ Some old → zeros_between (bytes_before file.len (page file.len)) (bytes_before n (page file.len)) old ≡ old)
    → lengthened extents n file ≡ longer_file n (with_extents_of extents file)
longer-same extents n file is le last =
    with-record file extents n (file.pages ++ replicate (pages_in n - length file.pages) zero_page) is le
    (grown-pages (with_extents_of extents file) n file.pages (record { count = is.count; pages = is.pages }) le refl (λ i old lt at. at ∙ ap (λ (p : Page). Some p) (sym (by_last i old lt at (cases_eq i (page file.len))))))
  where
    by_last : (i : ℕ) (old : Page) → i < length file.pages → slice_get file.pages i ≡ Some old → (i ≡ page file.len) ⊎ (i ≢ page file.len) → zeros_between (bytes_before file.len i) (bytes_before n i) old ≡ old
    by_last i old lt at (inl e) = ap (λ (k : ℕ). zeros_between (bytes_before file.len k) (bytes_before n k) old) e ∙ last old (ap (slice_get file.pages) (sym e) ∙ at)
    by_last i old lt at (inr ne) =
        let c = is.count in
        let whole : length old ≡ 4096 = subst (λ (p : Page). length p ≡ 4096) (index-of file.pages i old old at) (is.pages i old lt).whole in
        let a : bytes_before file.len i ≡ 4096 = omega (arith, c, lt, ne) in
        let b : bytes_before n i ≡ 4096 = omega (arith, c, lt, ne, le) in
        (λ j. zeros_between (a j) (b j) old) ∙ none-between 4096 old (omega arith) whole

-- zeros in the gap
gap-page : (len n : ℕ) (old : Page) → len ≤ n → length old ≡ 4096 → with_bytes old (len % 4096) (gap_zeros len n) ≡ zeros_between (bytes_before len (page len)) (bytes_before n (page len)) old
gap-page len n old le whole =
    let a : len % 4096 ≡ bytes_before len (page len) = omega arith in
    let b = length-replicate {A = ℕ} (bytes_before n (page len) - len % 4096) 0 in
    let e : len % 4096 + length (gap_zeros len n) ≡ max (bytes_before len (page len)) (bytes_before n (page len)) = omega (arith, a, b, le) in
    λ j. take (a j) old ++ replicate (bytes_before n (page len) - a j) 0 ++ drop (e j) old

longer-gap : (extents : List Extent) (n : ℕ) (file : File) → IsFile file → file.len ≤ n → lengthened extents n (with_bytes_in (page file.len) (file.len % 4096) (gap_zeros file.len n) file) ≡ longer_file n (with_extents_of extents file)
longer-gap extents n file is le =
    let gap = gap_zeros file.len n in
    let put = λ (old : Page). with_bytes old (file.len % 4096) gap in
    let ps = with_change_at put file.pages (page file.len) in
    with-record file extents n (ps ++ replicate (pages_in n - length ps) zero_page) is le
    (grown-pages (with_extents_of extents file) n ps (record { count = is.count; pages = is.pages }) le (changed-count put file.pages (page file.len)) (λ i old lt at. by_last i old lt at (cases_eq i (page file.len))))
  where
    changed-count : (g : Page → Page) (ps : List Page) (j : ℕ) → length (with_change_at g ps j) ≡ length ps
    changed-count g [] j = refl
    changed-count g (p ∷ ps) zero = refl
    changed-count g (p ∷ ps) (suc j) = ap suc (changed-count g ps j)

    by_last : (i : ℕ) (old : Page) → i < length file.pages → slice_get file.pages i ≡ Some old → (i ≡ page file.len) ⊎ (i ≢ page file.len)
        → slice_get (with_change_at (λ (x : Page). with_bytes x (file.len % 4096) (gap_zeros file.len n)) file.pages (page file.len)) i ≡ Some (zeros_between (bytes_before file.len i) (bytes_before n i) old)
    by_last i old lt at (inl e) =
        let put = λ (x : Page). with_bytes x (file.len % 4096) (gap_zeros file.len n) in
        let whole : length old ≡ 4096 = subst (λ (p : Page). length p ≡ 4096) (index-of file.pages i old old at) (is.pages i old lt).whole in
        ap (slice_get (with_change_at put file.pages (page file.len))) e ∙ slice_get-with_change_at put file.pages (page file.len) ∙ ap (option_map put) (ap (slice_get file.pages) (sym e) ∙ at)
        ∙ ap (λ (p : Page). Some p) (gap-page file.len n old le whole) ∙ ap (λ (k : ℕ). Some (zeros_between (bytes_before file.len k) (bytes_before n k) old)) (sym e)
    by_last i old lt at (inr ne) =
        let c = is.count in
        let whole : length old ≡ 4096 = subst (λ (p : Page). length p ≡ 4096) (index-of file.pages i old old at) (is.pages i old lt).whole in
        let a : bytes_before file.len i ≡ 4096 = omega (arith, c, lt, ne) in
        let b : bytes_before n i ≡ 4096 = omega (arith, c, lt, ne, le) in
        slice_get-changed_apart (λ (x : Page). with_bytes x (file.len % 4096) (gap_zeros file.len n)) file.pages (page file.len) i ne ∙ at ∙ ap (λ (p : Page). Some p) (sym ((λ j. zeros_between (a j) (b j) old) ∙ none-between 4096 old (omega arith) whole))

-- SHORTER: what lies past the end doesn't matter.
pub shorter-pages : (n : ℕ) (a b : File) → IsFile a → IsFile b → ((i : ℕ) → i < pages_in n → option_map (page_front (n - 4096 * i)) (slice_get a.pages i) ≡ option_map (page_front (n - 4096 * i)) (slice_get b.pages i)) → (shorter_file n a).pages ≡ (shorter_file n b).pages
shorter-pages n a b is is' each = same-lists (shorter_file n a).pages (shorter_file n b).pages (λ i. grown_pages_law.shorter a n i is ∙ by_place i (cases_lt i (pages_in n)) ∙ sym (grown_pages_law.shorter b n i is'))
  where
    by_place : (i : ℕ) → (i < pages_in n) ⊎ (pages_in n ≤ i) → cond (nat_lt i (pages_in n)) (option_map (page_front (n - 4096 * i)) (slice_get a.pages i)) None ≡ cond (nat_lt i (pages_in n)) (option_map (page_front (n - 4096 * i)) (slice_get b.pages i)) None
    by_place i (inl lt) = ap (λ (o : Option Page). cond (nat_lt i (pages_in n)) o None) (each i lt)
    by_place i (inr le) = ap (λ (t : Bool). cond t (option_map (page_front (n - 4096 * i)) (slice_get a.pages i)) None) (le-ltb i (pages_in n) le) ∙ sym (ap (λ (t : Bool). cond t (option_map (page_front (n - 4096 * i)) (slice_get b.pages i)) None) (le-ltb i (pages_in n) le))

shorter-void : (n i : ℕ) (file : File) → IsFile file → pages_in n ≤ i → shorter_file n (with_page_void i file) ≡ shorter_file n file
shorter-void n i file is past = ap (λ (ps : List Page). record file { len = n; pages = ps }) (shorter-pages n (with_page_void i file) file void-file is (λ j lt. ap (option_map (page_front (n - 4096 * j))) (slice_get-changed_apart (λ (old : Page). zero_page) file.pages i j (λ e. omega (arith, e, lt, past)))))
  where
    void-file : IsFile (with_page_void i file)
    void-file = record { count = count file.pages i ∙ is.count; pages = All-Each IsPage (with_change_at (λ old. zero_page) file.pages i) (go file.pages i (Each-All IsPage file.pages is.pages)) }
      where
        count : (ps : List Page) (j : ℕ) → length (with_change_at (λ old. zero_page) ps j) ≡ length ps
        count [] j = refl
        count (p ∷ ps) zero = refl
        count (p ∷ ps) (suc j) = ap suc (count ps j)

        go : (ps : List Page) (j : ℕ) → Each IsPage ps → Each IsPage (with_change_at (λ old. zero_page) ps j)
        go [] j e = e
        go (p ∷ ps) zero e = (IsPage-zero_page, e.1)
        go (p ∷ ps) (suc j) e = (e.0, go ps j e.1)

pub same-change : (f : ℕ) (u v : Memory) (g h : File → File) → ((notes : Notes) → NotesFit u.world notes → AllTell u.world notes → IsFile (file_seen u.world notes f) → g (file_seen u.world notes f) ≡ h (file_seen u.world notes f))
    → ((notes : Notes) (file : File) → blank_file file ≡ blank_file (file_seen u.world notes f) → blank_file (h file) ≡ blank_file (g file)) → ChangesFile f u v g → ChangesFile f u v h
same-change f u v g h same alike c = record {
  machine = c.machine;
  spaces = c.spaces;
  maps = c.maps;
  counts = c.counts;
  infos = c.infos;
  memory = c.memory;
  notes = c.notes;
  tells = c.tells;
  others = c.others;
  file = λ notes nf tell file. let x = c.file notes nf tell file in let e = same notes nf tell file in (x.0 ∙ e, subst IsFile e x.1);
  shape = λ notes file is. alike notes file is ∙ c.shape notes file is;
}

len-kept : (file : File) (n : ℕ) → n ≤ file.len → (longer_file n file).len ≡ file.len
unfolding longer_file
len-kept file n le = let e : max file.len n ≡ file.len = omega (arith, le) in e

-- A FILE THAT HAS AS MANY BYTES is as it was.
pub longer-short : (n : ℕ) (file : File) → IsFile file → n ≤ file.len → longer_file n file ≡ file
longer-short n file is le =
    longer-rest file n
    ∙ ap (λ (ps : List Page). record file { len = (longer_file n file).len; pages = ps }) (same-lists (longer_file n file).pages file.pages (λ i. grown_pages_law.longer file n i is ∙ by_place i (cases_lt i (length file.pages))))
    ∙ ap (λ (l : ℕ). record file { len = l }) (len-kept file n le)
  where
    page-kept : (i : ℕ) (o : Option Page) → i < length file.pages → slice_get file.pages i ≡ o → option_map (zeros_between (bytes_before file.len i) (bytes_before n i)) o ≡ o
    page-kept i None lt e = refl
    page-kept i (Some p) lt e =
        let whole : length p ≡ 4096 = subst (λ (q : Page). length q ≡ 4096) (index-of file.pages i p p e) (is.pages i p lt).whole in
        let a : bytes_before n i - bytes_before file.len i ≡ 0 = omega (arith, le) in
        let b : max (bytes_before file.len i) (bytes_before n i) ≡ bytes_before file.len i = omega (arith, le) in
        ap (λ (q : Page). Some q) ((λ j. take (bytes_before file.len i) p ++ replicate (a j) 0 ++ drop (b j) p) ∙ ap (λ (x : List ℕ). x ++ drop (bytes_before file.len i) p) (append-nil (take (bytes_before file.len i) p)) ∙ take-append-drop (bytes_before file.len i) p)

    by_place : (i : ℕ) → (i < length file.pages) ⊎ (length file.pages ≤ i) → cond (nat_lt i (length file.pages)) (option_map (zeros_between (bytes_before file.len i) (bytes_before n i)) (slice_get file.pages i)) (cond (nat_lt i (pages_in n)) (Some zero_page) None) ≡ slice_get file.pages i
    by_place i (inl lt) = ap (λ (t : Bool). cond t (option_map (zeros_between (bytes_before file.len i) (bytes_before n i)) (slice_get file.pages i)) (cond (nat_lt i (pages_in n)) (Some zero_page) None)) (lt-ltb i (length file.pages) lt) ∙ page-kept i (slice_get file.pages i) lt refl
    by_place i (inr le') =
        ap (λ (t : Bool). cond t (option_map (zeros_between (bytes_before file.len i) (bytes_before n i)) (slice_get file.pages i)) (cond (nat_lt i (pages_in n)) (Some zero_page) None)) (le-ltb i (length file.pages) le')
        ∙ ap (λ (t : Bool). cond t (Some zero_page) None) (le-ltb i (pages_in n) (let c = is.count in omega (arith, c, le, le'))) ∙ sym (past-list file.pages i le')

-- A PART, below the length and past it.
pub grown-none : (files : FilesSeen) (f pages : ℕ) (extents : List Extent) → pages ≤ page_count (vnode_at files f).info.extents → growth_of files f pages ≡ Some extents → extents ≡ (vnode_at files f).info.extents
grown-none files f pages extents le is =
    let none : pages - page_count (vnode_at files f).info.extents ≡ 0 = omega (arith, le) in
    let z : Some (vnode_at files f).info.extents ≡ Some extents = sym (ap (λ (more : ℕ). with_next_blocks (block_count files.disks (vnode_at files f).info.disk) (extents_on (vnode_at files f).info.disk (remove files.files f)) more (vnode_at files f).info.extents) none) ∙ is in
    sym (some-inj (vnode_at files f).info.extents extents z)

part-within : (f offset : ℕ) (line : List ℕ) (extents : List Extent) (u v : Memory) → MemoryFits u → f < length u.world.files.files → offset % 4096 + length line ≤ 4096
    → offset + length line ≤ (vnode_at u.world.files f).info.length → growth_of u.world.files f (pages_in (offset + length line)) ≡ Some extents
    → ChangesFile f u v (with_bytes_in (page offset) (offset % 4096) line) → ChangesFile f u v (λ file. with_part offset line (with_extents_of extents file))
part-within f offset line extents u v fits lt one below grown = same-change f u v (with_bytes_in (page offset) (offset % 4096) line) (λ file. with_part offset line (with_extents_of extents file)) (λ notes nf tell is.
    let file = file_seen u.world notes f in
    let kept : pages_in (offset + length line) ≤ page_count (vnode_at u.world.files f).info.extents = let w = (fits.files.each f lt).within in omega (arith, w, below) in
    let own : extents ≡ file.extents = grown-none u.world.files f (pages_in (offset + length line)) extents kept grown in
    ap (with_bytes_in (page offset) (offset % 4096) line) (sym (longer-short (offset + length line) file is below))
    ∙ part file offset line is one ∙ ap (λ (es : List Extent). with_part offset line (record file { extents = es })) (sym own))
    (λ notes file is.
    let kept : pages_in (offset + length line) ≤ page_count (vnode_at u.world.files f).info.extents = let w = (fits.files.each f lt).within in omega (arith, w, below) in
    let own : extents ≡ file.extents = grown-none u.world.files f (pages_in (offset + length line)) extents kept grown ∙ sym (ap (λ (x : File). x.extents) is) in
    let len : file.len ≡ (vnode_at u.world.files f).info.length = ap (λ (x : File). x.len) is in
    ap (λ (es : List Extent). blank_file (with_part offset line (record file { extents = es }))) own ∙ part-like offset line file
    ∙ short-alike (offset + length line) file (omega (arith, len, below)) (seen-count u.world notes f file is) ∙ sym (put-alike (page offset) (offset % 4096) line file))

part-grows : (f offset : ℕ) (line : List ℕ) (extents : List Extent) (u v w x : Memory) → offset % 4096 + length line ≤ 4096
    → ChangesFile f u v (λ file. longer_file (offset + length line) (with_extents_of extents file)) → ChangesFile f v w (λ file. file)
    → ChangesFile f w x (with_bytes_in (page offset) (offset % 4096) line) → ChangesFile f u x (λ file. with_part offset line (with_extents_of extents file))
part-grows f offset line extents u v w x one a b c =
    let n = offset + length line in
    same-change f u x (λ file. with_bytes_in (page offset) (offset % 4096) line (longer_file n (with_extents_of extents file))) (λ file. with_part offset line (with_extents_of extents file))
    (λ notes nf tell is. part (with_extents_of extents (file_seen u.world notes f)) offset line (record { count = is.count; pages = is.pages }) one)
    (λ notes file is. part-alike offset line (with_extents_of extents file))
    (files-then f u w x (λ file. longer_file n (with_extents_of extents file)) (with_bytes_in (page offset) (offset % 4096) line)
    (files-then f u v w (λ file. longer_file n (with_extents_of extents file)) (λ file. file) a b) c)

pub part_law : PartLaw
part_law = record {
  within = part-within;
  grows = λ f offset line extents u v w x lt one a b c. part-grows f offset line extents u v w x one a b c;
}

pub wholes_law : WholesLaw
wholes_law = record { part = part; longer = longer-same; gap = longer-gap; void = shorter-void; same = same-change; short = longer-short }
