-- WHAT THE STEPS OF A TRUNCATE MAKE UP.
use Rattle.std.proofs.Common.{◌≡◌, ◌≢◌, ℕ, zero, suc, ◌+◌, ◌-◌, ◌*◌, ◌%◌, ◌<◌, ◌≤◌, Bool, cond, List, [], ◌∷◌, ◌++◌, length, Option, Some, None, refl, sym, ap, ◌∙◌, ◌⊎◌, inl, inr, subst, arith}
use Rattle.std.specs.Prelude.{option_map, slice_get, nat_lt, take, drop, replicate}
use Rattle.std.proofs.lemmas.Bool.{cases_eq, lt-ltb, le-ltb, cases_lt}
use Rattle.std.proofs.lemmas.List.{length-append, length-replicate, length-take, length-drop, take-append-le, take-take}
use Rattle.std.proofs.lemmas.List.Elements.{All-append, All-take, All-drop, All-replicate}
use Rattle.std.proofs.lemmas.Option.{slice_get_within}
use Rattle.seg_ops.specs.vnode_files.declared.extent.Extent.{Extent}
use Rattle.seg_ops.specs.vnode_files.Files.{vnode_at}
use Rattle.seg_ops.specs.flat_model.Access.{with_change_at}
use Rattle.seg_ops.specs.flat_model.Flat.{File, IsFile}
use Rattle.seg_ops.specs.flat_model.LineLaws.{page_front}
use Rattle.seg_ops.specs.flat_model.Parts.{longer_file, shorter_file, file_of_length, with_extents_of}
use Rattle.seg_ops.specs.flat_model.Shapes.{blank_file}
use Rattle.seg_ops.specs.flat_model.Words.{Page, IsPage, IsByte, page, pages_in, zero_page, with_bytes}
use Rattle.seg_ops.proofs.flat_model.Bytes.{slice_get-with_change_at, slice_get-changed_apart}
use Rattle.seg_ops.proofs.flat_model.WellFormed.{Each, Each-All, All-Each, IsPage-zero_page}
use Rattle.seg_ops.specs.vm_world.FileSteps.{ChangesFile, file_seen}
use Rattle.seg_ops.specs.vm_world.FlatMemory.{Memory}
use Rattle.seg_ops.proofs.vm_world.FileSteps.{files-then}
use Rattle.seg_ops.proofs.vm_world.PageNames.{index-of}
use Rattle.seg_map.specs.Cuts.{IsPastEnd, CutLaw}
use Rattle.seg_map.specs.Puts.{with_bytes_in}
use Rattle.seg_map.specs.Voids.{with_page_void}
use Rattle.seg_map.proofs.Alike.{less-end, more-alike, put-alike, seen-count, shorter-alike, void-alike}
use Rattle.seg_map.proofs.Wholes.{shorter-pages, longer-short, same-change}

-- a file with one page changed, to a page
changed-whole : (g : Page → Page) (file : File) (i : ℕ) → ((old : Page) → IsPage old → IsPage (g old)) → IsFile file → IsFile (record file { pages = with_change_at g file.pages i })
changed-whole g file i keeps is = record { count = count file.pages i ∙ is.count; pages = All-Each IsPage (with_change_at g file.pages i) (go file.pages i (Each-All IsPage file.pages is.pages)) }
  where
    count : (ps : List Page) (j : ℕ) → length (with_change_at g ps j) ≡ length ps
    count [] j = refl
    count (p ∷ ps) zero = refl
    count (p ∷ ps) (suc j) = ap suc (count ps j)

    go : (ps : List Page) (j : ℕ) → Each IsPage ps → Each IsPage (with_change_at g ps j)
    go [] j e = e
    go (p ∷ ps) zero e = (keeps p e.0, e.1)
    go (p ∷ ps) (suc j) e = (e.0, go ps j e.1)

past-void : (n i : ℕ) → pages_in n ≤ i → IsPastEnd n (with_page_void i)
past-void n i past = record {
  cut = λ file is. ap (λ (ps : List Page). record file { len = n; pages = ps }) (shorter-pages n (with_page_void i file) file (changed-whole (λ old. zero_page) file i (λ old p. IsPage-zero_page) is) is
      (λ j lt. ap (option_map (page_front (n - 4096 * j))) (slice_get-changed_apart (λ (old : Page). zero_page) file.pages i j (λ e. omega (arith, e, lt, past)))));
  alike = λ file. void-alike i file;
  whole = λ file is. changed-whole (λ old. zero_page) file i (λ old p. IsPage-zero_page) is;
}

-- zeros behind the end, in its page
abbrev behind : ℕ → List ℕ
behind n = replicate (4096 - n % 4096) 0

put-zeros : (n : ℕ) (old : Page) → IsPage old → IsPage (with_bytes old (n % 4096) (behind n))
put-zeros n old p = record {
  whole = let a = length-append (take (n % 4096) old ++ behind n) (drop (n % 4096 + length (behind n)) old) in let b = length-append (take (n % 4096) old) (behind n) in let c = length-take (n % 4096) old in let d = length-drop (n % 4096 + length (behind n)) old in let e = p.whole in let r = length-replicate {A = ℕ} (4096 - n % 4096) 0 in omega (arith, a, b, c, d, e, r);
  bytes = All-append IsByte (take (n % 4096) old ++ behind n) (drop (n % 4096 + length (behind n)) old) (All-append IsByte (take (n % 4096) old) (behind n) (All-take IsByte (n % 4096) old p.bytes) (All-replicate IsByte (4096 - n % 4096) 0 (omega arith))) (All-drop IsByte (n % 4096 + length (behind n)) old p.bytes);
}

front-same : (n : ℕ) (old : Page) → length old ≡ 4096 → page_front (n - 4096 * page n) (with_bytes old (n % 4096) (behind n)) ≡ page_front (n - 4096 * page n) old
front-same n old whole =
    let m : ℕ = n - 4096 * page n in
    let e : m ≡ n % 4096 = omega arith in
    let c = length-take (n % 4096) old in
    let low : m ≤ length (take (n % 4096) old) = omega (arith, c, whole, e) in
    let long : m ≤ length (take (n % 4096) old ++ behind n) = let b = length-append (take (n % 4096) old) (behind n) in omega (arith, b, low) in
    ap (λ (l : List ℕ). l ++ replicate (4096 - m) 0) (take-append-le m (take (n % 4096) old ++ behind n) (drop (n % 4096 + length (behind n)) old) long ∙ take-append-le m (take (n % 4096) old) (behind n) low ∙ take-take m (n % 4096) old (omega (arith, e)))

past-tail : (n : ℕ) → IsPastEnd n (with_bytes_in (page n) (n % 4096) (behind n))
past-tail n = record {
  cut = λ file is. ap (λ (ps : List Page). record file { len = n; pages = ps }) (shorter-pages n (with_bytes_in (page n) (n % 4096) (behind n) file) file (changed-whole put file (page n) (put-zeros n) is) is (λ j lt. by_page file is j (cases_eq j (page n))));
  alike = λ file. put-alike (page n) (n % 4096) (behind n) file;
  whole = λ file is. changed-whole put file (page n) (put-zeros n) is;
}
  where
    put : Page → Page
    put old = with_bytes old (n % 4096) (behind n)

    by_old : (file : File) → IsFile file → (o : Option Page) → slice_get file.pages (page n) ≡ o → option_map (page_front (n - 4096 * page n)) (option_map put o) ≡ option_map (page_front (n - 4096 * page n)) o
    by_old file is None e = refl
    by_old file is (Some old) e = ap (λ (p : Page). Some p) (front-same n old (subst (λ (p : Page). length p ≡ 4096) (index-of file.pages (page n) old old e) (is.pages (page n) old (slice_get_within file.pages (page n) old e)).whole))

    by_page : (file : File) → IsFile file → (j : ℕ) → (j ≡ page n) ⊎ (j ≢ page n) → option_map (page_front (n - 4096 * j)) (slice_get (with_change_at put file.pages (page n)) j) ≡ option_map (page_front (n - 4096 * j)) (slice_get file.pages j)
    by_page file is j (inl e) =
        ap (λ (k : ℕ). option_map (page_front (n - 4096 * k)) (slice_get (with_change_at put file.pages (page n)) k)) e ∙ ap (option_map (page_front (n - 4096 * page n))) (slice_get-with_change_at put file.pages (page n))
        ∙ by_old file is (slice_get file.pages (page n)) refl ∙ ap (λ (k : ℕ). option_map (page_front (n - 4096 * k)) (slice_get file.pages k)) (sym e)
    by_page file is j (inr ne) = ap (option_map (page_front (n - 4096 * j))) (slice_get-changed_apart put file.pages (page n) j ne)

past-then : (n : ℕ) (g h : File → File) → IsPastEnd n g → IsPastEnd n h → IsPastEnd n (λ file. h (g file))
past-then n g h a b = record {
  cut = λ file is. b.cut (g file) (a.whole file is) ∙ a.cut file is;
  alike = λ file. b.alike (g file) ∙ a.alike file;
  whole = λ file is. b.whole (g file) (a.whole file is);
}

-- A NEARER END.
shorter-extents : (n : ℕ) (es : List Extent) (file : File) → shorter_file n (with_extents_of es file) ≡ with_extents_of es (shorter_file n file)
shorter-extents n es file = refl

shorter-is : (n : ℕ) (file : File) → n < file.len → shorter_file n file ≡ file_of_length n file
shorter-is n file lt = sym (ap (λ (b : Bool). cond b (shorter_file n file) (cond (nat_lt file.len n) (longer_file n file) file)) (lt-ltb n file.len lt))

cuts : (f n : ℕ) (es : List Extent) (u v w : Memory) (g : File → File) → n < (vnode_at u.world.files f).info.length → IsPastEnd n g → ChangesFile f u v g → ChangesFile f v w (λ file. shorter_file n (with_extents_of es file))
    → ChangesFile f u w (λ file. file_of_length n (with_extents_of es file))
cuts f n es u v w g less past a b = same-change f u w (λ file. shorter_file n (with_extents_of es (g file))) (λ file. file_of_length n (with_extents_of es file))
    (λ notes nf tell is.
    let file = file_seen u.world notes f in
    shorter-extents n es (g file) ∙ ap (with_extents_of es) (past.cut file is) ∙ sym (shorter-extents n es file) ∙ shorter-is n (with_extents_of es file) less)
    (λ notes file is.
    let e : file.len ≡ (vnode_at u.world.files f).info.length = ap (λ (x : File). x.len) is in
    ap blank_file (less-end n (with_extents_of es file) (omega (arith, e, less)))
    ∙ shorter-alike n (with_extents_of es file) (with_extents_of es (g file)) (ap (with_extents_of es) (sym (past.alike file))))
    (files-then f u v w g (λ file. shorter_file n (with_extents_of es file)) a b)

-- A FARTHER END, or the same.
longer-is : (n : ℕ) (file : File) → IsFile file → file.len ≤ n → longer_file n file ≡ file_of_length n file
longer-is n file is le = by_end (cases_lt file.len n)
  where
    not_less : file_of_length n file ≡ cond (nat_lt file.len n) (longer_file n file) file
    not_less = ap (λ (b : Bool). cond b (shorter_file n file) (cond (nat_lt file.len n) (longer_file n file) file)) (le-ltb n file.len le)

    by_end : (file.len < n) ⊎ (n ≤ file.len) → longer_file n file ≡ file_of_length n file
    by_end (inl lt) = sym (not_less ∙ ap (λ (b : Bool). cond b (longer_file n file) file) (lt-ltb file.len n lt))
    by_end (inr same) = longer-short n file is same ∙ sym (not_less ∙ ap (λ (b : Bool). cond b (longer_file n file) file) (le-ltb file.len n same))

grows : (f n : ℕ) (es : List Extent) (u v : Memory) → (vnode_at u.world.files f).info.length ≤ n → ChangesFile f u v (λ file. longer_file n (with_extents_of es file)) → ChangesFile f u v (λ file. file_of_length n (with_extents_of es file))
grows f n es u v le a = same-change f u v (λ file. longer_file n (with_extents_of es file)) (λ file. file_of_length n (with_extents_of es file))
    (λ notes nf tell is. longer-is n (with_extents_of es (file_seen u.world notes f)) (record { count = is.count; pages = is.pages }) le)
    (λ notes file is.
    let e : file.len ≡ (vnode_at u.world.files f).info.length = ap (λ (x : File). x.len) is in
    more-alike n (with_extents_of es file) (omega (arith, e, le)) (seen-count u.world notes f file is)) a

pub cut_law : CutLaw
cut_law = record {
  void = past-void;
  tail = past-tail;
  none = λ n. record { cut = λ file is. refl; alike = λ file. refl; whole = λ file is. is };
  joined = past-then;
  cuts = λ f n es u v w g lt less past a b. cuts f n es u v w g less past a b;
  longer = grows;
}
