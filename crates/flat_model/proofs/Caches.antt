-- Parts and loads see the same bytes.
use Rattle.std.proofs.Common.{◌≡◌, ℕ, zero, suc, ◌+◌, ◌-◌, ◌%◌, ◌<◌, ◌≤◌, min, List, [], ◌∷◌, ◌++◌, length, take, drop, Option, Some, None, refl, sym, ap, subst, ◌∙◌, inl, inr, append_assoc, arith, length-append}
use Rattle.std.specs.Prelude.{IsSome, IsSomeAnd, IsTrue, option_map, option_and_then, slice_get, slice_set, ok_or}
use Rattle.std.specs.Option.{option_or}
use Rattle.std.specs.List.{concat}
use Rattle.std.specs.FinMap as map
use Rattle.std.proofs.lemmas.Bool.{cases_lt, eqb-true}
use Rattle.std.proofs.lemmas.List.{length-take, length-drop, take_all, take_at, take-append-le, take-append-drop, drop-drop}
use Rattle.vm_types.specs.declared.call.Kind.TheVariants.{Shared}
use Rattle.vm_types.specs.declared.call.Errno.TheVariants as errno
use Rattle.vm_types.specs.declared.call.Reply.TheVariants as reply
use Rattle.vm_types.specs.Pages.{line_rest}
use Rattle.vm_types.specs.Prot.{can_read}
use Rattle.flat_model.specs.Words.{Page, IsPage, page, word_put, with_bytes, word_bytes, word_value, IsWordSize}
use Rattle.flat_model.specs.Flat.{Cell, File, Flat, Space, IsFile, IsFlat, space_of, cell_at, pages_of}
use Rattle.flat_model.specs.Refusals.{or_refused}
use Rattle.flat_model.specs.Access.{load, store, with_change_at, file_with_page, with_page}
use Rattle.flat_model.specs.Parts.{file_bytes, pages_with_bytes, read_line, read_part}
use Rattle.flat_model.specs.LineLaws.{AreWhole}
use Rattle.flat_model.specs.CacheLaws.{ShowsFile, offset_of, HasStored, OneCache}
use Rattle.flat_model.proofs.Bytes.{All-slice_get, slice_get-with_change_at, slice_get-slice_set, drop-with_bytes}
use Rattle.flat_model.proofs.Stores.{store_met, store-shared, load_word}
use Rattle.flat_model.proofs.FileBytes.{length-concat, length-with_bytes, concat-pages_with_bytes}
use Rattle.flat_model.proofs.WellFormed.{word_fits, length-word_bytes, flat_store}
use Rattle.flat_model.proofs.Lines.{Whole-of, with_bytes-left, with_bytes-right, take-drop-take, file-in_page, pages_with_bytes-in_page}
use Rattle.flat_model.proofs.Frames.{there}

-- the file and the bytes that a read part answered
pub read_of : (F : Flat) (f offset len : ℕ) (line : List ℕ) → (read_part F f offset len).reply ≡ reply.Bytes line → (file : File) × (slice_get F.files f ≡ Some file) × (line ≡ take (min len (line_rest offset)) (drop offset (file_bytes file)))
read_of F f offset len line is = by_file (slice_get F.files f) refl is
  where
    by_file : (o : Option File) → slice_get F.files f ≡ o → (or_refused F (λ file. record { reply = reply.Bytes (read_line file offset len); after = F }) (ok_or o errno.NoObject)).reply ≡ reply.Bytes line → (file : File) × (slice_get F.files f ≡ Some file) × (line ≡ take (min len (line_rest offset)) (drop offset (file_bytes file)))
    by_file None at is = absurd cc
    by_file (Some file) at is = (file, at, cc)

whole_of : (file : File) → IsFile file → AreWhole file.pages
whole_of file is k d lt = (is.pages k d lt).whole

-- a page that some byte of the file stands in is there
page_there : (file : File) (at : ℕ) → IsFile file → at < file.len → (bytes : Page) × (slice_get file.pages (page at) ≡ Some bytes)
page_there file at is lt = in_list file.pages (page at) (let count = is.count in omega (arith, count))
  where
    in_list : (ps : List Page) (i : ℕ) → i < length ps → (bytes : Page) × (slice_get ps i ≡ Some bytes)
    in_list [] i lt = absurd (omega arith)
    in_list (p ∷ ps) zero lt = (p, refl)
    in_list (p ∷ ps) (suc i) lt = in_list ps i (omega arith)

-- bytes of a part are bytes of the page that they lie in
part_in_page : (file : File) (offset len k n at : ℕ) (line : List ℕ) (bytes : Page) → IsFile file → line ≡ take (min len (line_rest offset)) (drop offset (file_bytes file)) → k + n ≤ length line → at ≡ offset + k → at % 4096 + n ≤ 4096 → slice_get file.pages (page at) ≡ Some bytes → take n (drop k line) ≡ take n (drop (at % 4096) bytes)
part_in_page file offset len k n at line bytes is got fits here inside page_is =
    let most = min len (line_rest offset) in
    let size : length line ≡ min most (length (file_bytes file) - offset) = ap (λ (xs : List ℕ). length xs) got ∙ length-take most (drop offset (file_bytes file)) ∙ ap (λ (m : ℕ). min most m) (length-drop offset (file_bytes file)) in
    let count = length-take file.len (concat file.pages) in
    let enough : n ≤ file.len - at = omega (arith, size, count) in
    let all : min n (most - k) ≡ n = omega (arith, size) in
    let least : min n (file.len - at) ≡ n = omega arith in
    ap (λ (xs : List ℕ). take n (drop k xs)) got
    ∙ take-drop-take n k most (drop offset (file_bytes file))
    ∙ ap (λ (m : ℕ). take m (drop k (drop offset (file_bytes file)))) all
    ∙ ap (take n) (drop-drop k offset (file_bytes file)) ∙ ap (λ (m : ℕ). take n (drop m (file_bytes file))) (sym here)
    ∙ file-in_page file at n bytes (whole_of file is) page_is inside
    ∙ ap (λ (m : ℕ). take m (drop (at % 4096) bytes)) least

offset_page : (c : Cell) (b : ℕ) → page (offset_of c b) ≡ c.index
offset_page c b = omega arith

offset_rest : (c : Cell) (b : ℕ) → offset_of c b % 4096 ≡ b % 4096
offset_rest c b = omega arith

-- what a cell that shows the file shows
shows_page : (F : Flat) (c : Cell) (f : ℕ) (file : File) (bytes : Page) → ShowsFile c f → slice_get F.files f ≡ Some file → slice_get file.pages c.index ≡ Some bytes → option_or c.own (option_and_then (λ ps. slice_get ps c.index) (pages_of F c.object)) ≡ Some bytes
shows_page F c f file bytes shows at page_is =
    ap (λ o. option_or o (option_and_then (λ ps. slice_get ps c.index) (pages_of F c.object))) shows.alone
    ∙ ap (λ o. option_and_then (λ ps. slice_get ps c.index) (pages_of F o)) shows.object
    ∙ ap (λ (o : Option File). option_and_then (λ ps. slice_get ps c.index) (option_map (λ file. file.pages) o)) at ∙ page_is

pub read_as_loaded : (F : Flat) (q b n f offset len k : ℕ) (line : List ℕ) (c : Cell) → IsFlat F → IsWordSize n → b % n ≡ 0 → (read_part F f offset len).reply ≡ reply.Bytes line → k + n ≤ length line → cell_at F q (page b) ≡ Some c → ShowsFile c f → offset_of c b ≡ offset + k → IsTrue (can_read c.prot) → (load F q b n).reply ≡ reply.Word (word_value (take n (drop k line)))
read_as_loaded F q b n f offset len k line c flat size aligned read fits at shows here allowed =
    let r = read_of F f offset len line read in
    let file = r.0 in
    let is = All-slice_get IsFile F.files f file flat.files r.1 in
    let fits_page = word_fits b n size aligned in
    let some = some_byte n size in
    let most = min len (line_rest offset) in
    let got_size : length line ≡ min most (length (file_bytes file) - offset) = ap (λ (xs : List ℕ). length xs) r.2 ∙ length-take most (drop offset (file_bytes file)) ∙ ap (λ (m : ℕ). min most m) (length-drop offset (file_bytes file)) in
    let count = length-take file.len (concat file.pages) in
    let p = page_there file (offset_of c b) is (omega (arith, got_size, count)) in
    let inside : offset_of c b % 4096 + n ≤ 4096 = omega arith in
    let bytes_are = part_in_page file offset len k n (offset_of c b) line p.0 is r.2 fits here inside p.1 in
    let shown_is = shows_page F c f file p.0 shows r.1 (ap (slice_get file.pages) (sym (offset_page c b)) ∙ p.1) in
    load_word F q b n (word_value (take n (drop k line))) c p.0 aligned at allowed shown_is
    (ap (λ (m : ℕ). word_value (take n (drop m p.0))) (sym (offset_rest c b)) ∙ ap (λ (xs : List ℕ). word_value xs) (sym bytes_are))
  where
    some_byte : (n : ℕ) → IsWordSize n → 1 ≤ n
    some_byte n (inl one) = omega arith
    some_byte n (inr (inl two)) = omega arith
    some_byte n (inr (inr four)) = omega arith

-- A STORE
-- a page of pages that has bytes put into it is the pages with these bytes put over them
set_placed : (ps : List Page) (i at : ℕ) (old : Page) (bytes : List ℕ) → AreWhole ps → slice_get ps i ≡ Some old → at % 4096 + length bytes ≤ 4096 → page at ≡ i → slice_set ps i (with_bytes old (at % 4096) bytes) ≡ pages_with_bytes ps at bytes
set_placed ps i at old bytes whole is fits here =
    sym (pages_with_bytes-in_page ps at bytes whole fits ∙ ap (with_change_at (λ x. with_bytes x (at % 4096) bytes) ps) here ∙ changed_set ps i old is)
  where
    changed_set : (qs : List Page) (j : ℕ) (x : Page) → slice_get qs j ≡ Some x → with_change_at (λ y. with_bytes y (at % 4096) bytes) qs j ≡ slice_set qs j (with_bytes x (at % 4096) bytes)
    changed_set [] j x is = absurd cc
    changed_set (q ∷ qs) zero x is = let same : q ≡ x = cc in ap (λ (y : Page). with_bytes y (at % 4096) bytes ∷ qs) same
    changed_set (q ∷ qs) (suc j) x is = ap (λ (rs : List Page). q ∷ rs) (changed_set qs j x is)

-- bytes put over a front, as far as the front goes
front_put : (f r bytes : List ℕ) (at len : ℕ) → length f ≡ len → take len (with_bytes (f ++ r) at bytes) ≡ take len (with_bytes f at bytes)
front_put f r bytes at len size = elim (cases_lt len at) [
  | inl past ↦ elim (cases_lt at len) [ inl less ↦ absurd (omega arith) | inr le ↦ behind le ]
  | inr within ↦ elim (cases_lt len (at + length bytes)) [
    | inl cross ↦
        let front : take at (f ++ r) ≡ take at f = take-append-le at f r (omega arith) in
        let long : len ≤ length (take at f ++ bytes) = omega (arith, length-append (take at f) bytes, length-take at f) in
        ap (λ (b : List ℕ). take len ((b ++ bytes) ++ drop (at + length bytes) (f ++ r))) front ∙ take-append-le len (take at f ++ bytes) (drop (at + length bytes) (f ++ r)) long
        ∙ sym (take-append-le len (take at f ++ bytes) (drop (at + length bytes) f) long)
    | inr inside ↦
        let same : length (with_bytes f at bytes) ≡ len = length-with_bytes f bytes at (omega arith) ∙ size in
        ap (take len) (with_bytes-left f r bytes at (omega arith)) ∙ take_at (with_bytes f at bytes) r len same ∙ sym (take_all len (with_bytes f at bytes) (omega arith))
  ]
]
  where
    behind : len ≤ at → take len (with_bytes (f ++ r) at bytes) ≡ take len (with_bytes f at bytes)
    behind le =
        let all : take at f ≡ f = take_all at f (omega arith) in
        ap (take len) (with_bytes-right f r bytes len at size le) ∙ take_at f (with_bytes r (at - len) bytes) len size
        ∙ sym (ap (λ (b : List ℕ). take len ((b ++ bytes) ++ drop (at + length bytes) f)) all ∙ ap (take len) (append_assoc f bytes (drop (at + length bytes) f)) ∙ take_at f (bytes ++ drop (at + length bytes) f) len size)

-- bytes put over a list, as far as a front goes
take-put : (xs bytes : List ℕ) (at len : ℕ) → len ≤ length xs → take len (with_bytes xs at bytes) ≡ take len (with_bytes (take len xs) at bytes)
take-put xs bytes at len le = ap (λ (ys : List ℕ). take len (with_bytes ys at bytes)) (sym (take-append-drop len xs)) ∙ front_put (take len xs) (drop len xs) bytes at len (omega (arith, length-take len xs))

file_shown : (o : Option File) (i : ℕ) (old : Page) → option_and_then (λ ps. slice_get ps i) (option_map (λ file. file.pages) o) ≡ Some old → (file : File) × (o ≡ Some file) × (slice_get file.pages i ≡ Some old)
file_shown None i old is = absurd cc
file_shown (Some file) i old is = (file, refl, is)

-- what a store through a cell that shows a file leaves of the file
record StoredIn (F : Flat) (a n v f : ℕ) (c : Cell) (G : Flat) : Type 0 where
  old : Page
  file : File
  was : slice_get F.files f ≡ Some file
  page_was : slice_get file.pages c.index ≡ Some old
  aligned : a % n ≡ 0
  now : slice_get G.files f ≡ Some (file_with_page c.index (word_put old a n v) file)

stored_in : (F : Flat) (p a n v f : ℕ) (c : Cell) → (store F p a n v).reply ≡ reply.Done → cell_at F p (page a) ≡ Some c → c.kind ≡ Shared → ShowsFile c f → StoredIn F a n v f c (store F p a n v).after
stored_in F p a n v f c is at shared shows =
    let s = store_met F p a n v c is at in
    let r = file_shown (slice_get F.files f) c.index s.0 (
    sym (ap (λ o. option_or o (option_and_then (λ ps. slice_get ps c.index) (pages_of F c.object))) shows.alone ∙ ap (λ o. option_and_then (λ ps. slice_get ps c.index) (pages_of F o)) shows.object) ∙ s.2.shows) in
    let new = word_put s.0 a n v in
    record {
      old = s.0;
      file = r.0;
      was = r.1;
      page_was = r.2;
      aligned = eqb-true (a % n) 0 s.2.aligned;
      now = ap (λ (G : Flat). slice_get G.files f) (store-shared F p a n v c s.0 s.1 shared) ∙ ap (λ o. slice_get (with_page F o c.index new).files f) shows.object ∙ slice_get-with_change_at (file_with_page c.index new) F.files f ∙ ap (option_map (file_with_page c.index new)) r.1;
    }

slice_get_low : {X : Type 0} (xs : List X) (i : ℕ) (x : X) → slice_get xs i ≡ Some x → i < length xs
slice_get_low [] i x is = absurd cc
slice_get_low (y ∷ xs) zero x is = omega arith
slice_get_low (y ∷ xs) (suc i) x is = let less = slice_get_low xs i x is in omega arith

stored_bytes : (file : File) (c : Cell) (a n v : ℕ) (old : Page) → IsFile file → IsWordSize n → a % n ≡ 0 → slice_get file.pages c.index ≡ Some old → HasStored file (offset_of c a) (word_bytes n v) (file_with_page c.index (word_put old a n v) file)
stored_bytes file c a n v old is size aligned page_was =
    let at = offset_of c a in
    let word = word_bytes n v in
    let whole = whole_of file is in
    let there = slice_get_low file.pages c.index old page_was in
    let fits = word_fits a n size aligned in
    let rest : at % 4096 ≡ a % 4096 = offset_rest c a in
    let word_size : length word ≡ n = length-word_bytes n v in
    let all = length-concat file.pages (Whole-of file.pages whole) in
    let count = is.count in
    let inside : at % 4096 + length word ≤ 4096 = omega arith in
    let pages : slice_set file.pages c.index (word_put old a n v) ≡ pages_with_bytes file.pages at word =
    ap (λ (k : ℕ). slice_set file.pages c.index (with_bytes old k word)) (sym rest) ∙ set_placed file.pages c.index at old word whole page_was inside (offset_page c a) in
    record {
      len = refl;
      stored = ap (λ (ps : List Page). take file.len (concat ps)) pages ∙ ap (take file.len) (concat-pages_with_bytes file.pages at word (Whole-of file.pages whole) (omega arith)) ∙ take-put (concat file.pages) word at file.len (omega arith);
    }

pub stored-file : (F : Flat) (p a n v f : ℕ) (c : Cell) (file : File) → IsFlat F → IsWordSize n → (store F p a n v).reply ≡ reply.Done → cell_at F p (page a) ≡ Some c → c.kind ≡ Shared → ShowsFile c f → slice_get F.files f ≡ Some file → IsSomeAnd (slice_get (store F p a n v).after.files f) (HasStored file (offset_of c a) (word_bytes n v))
stored-file F p a n v f c file flat size is at shared shows here =
    let s = stored_in F p a n v f c is at shared shows in
    let same : s.file ≡ file = let both : Some s.file ≡ Some file = sym s.was ∙ here in cc in
    there (slice_get (store F p a n v).after.files f) (file_with_page c.index (word_put s.old a n v) s.file) (HasStored file (offset_of c a) (word_bytes n v)) s.now
    (subst (λ (x : File). HasStored x (offset_of c a) (word_bytes n v) (file_with_page c.index (word_put s.old a n v) s.file)) same (stored_bytes s.file c a n v s.old (All-slice_get IsFile F.files f s.file flat.files s.was) size s.aligned s.page_was))

cell_alive : (F : Flat) (p q : ℕ) (c : Cell) → cell_at F p q ≡ Some c → IsSome (space_of F p)
cell_alive F p q c at = by_space (space_of F p) at
  where
    by_space : (o : Option Space) → option_and_then (λ space. map.get space q) o ≡ Some c → IsSome o
    by_space None is = absurd cc
    by_space (Some space) is = refl

set_there : (ps : List Page) (i : ℕ) (old new : Page) → slice_get ps i ≡ Some old → slice_get (slice_set ps i new) i ≡ Some new
set_there ps i old new is = slice_get-slice_set ps i old new is

pub stored_then_read : (F : Flat) (p a n v f offset len k : ℕ) (line : List ℕ) (c : Cell) → IsFlat F → IsWordSize n → (store F p a n v).reply ≡ reply.Done → cell_at F p (page a) ≡ Some c → c.kind ≡ Shared → ShowsFile c f → (read_part (store F p a n v).after f offset len).reply ≡ reply.Bytes line → offset_of c a ≡ offset + k → k + n ≤ length line → take n (drop k line) ≡ word_bytes n v
stored_then_read F p a n v f offset len k line c flat size is at shared shows read here fits =
    let s = stored_in F p a n v f c is at shared shows in
    let G = (store F p a n v).after in
    let G_flat : IsFlat G = flat_store F p a n v flat (cell_alive F p (page a) c at) size in
    let r = read_of G f offset len line read in
    let new = word_put s.old a n v in
    let after = file_with_page c.index new s.file in
    let same : r.0 ≡ after = let both : Some r.0 ≡ Some after = sym r.1 ∙ s.now in cc in
    let good = All-slice_get IsFile G.files f r.0 G_flat.files r.1 in
    let fits_page = word_fits a n size s.aligned in
    let rest : offset_of c a % 4096 ≡ a % 4096 = offset_rest c a in
    let page_is : slice_get r.0.pages (page (offset_of c a)) ≡ Some new = ap (λ (x : File). slice_get x.pages (page (offset_of c a))) same ∙ ap (slice_get after.pages) (offset_page c a) ∙ set_there s.file.pages c.index s.old new s.page_was in
    let was = All-slice_get IsFile F.files f s.file flat.files s.was in
    let old_size : length s.old ≡ 4096 = (All-slice_get IsPage s.file.pages c.index s.old was.pages s.page_was).whole in
    part_in_page r.0 offset len k n (offset_of c a) line new good r.2 fits here (omega arith) page_is
    ∙ ap (λ (m : ℕ). take n (drop m new)) rest
    ∙ ap (take n) (drop-with_bytes s.old (word_bytes n v) (a % 4096) (omega arith))
    ∙ take_at (word_bytes n v) (drop (a % 4096 + length (word_bytes n v)) s.old) n (length-word_bytes n v)

pub stored_behind : (old : File) (offset : ℕ) (bytes : List ℕ) (new : File) → IsFile old → HasStored old offset bytes new → old.len ≤ offset → file_bytes new ≡ file_bytes old
stored_behind old offset bytes new is has past =
    let all = length-concat old.pages (Whole-of old.pages (whole_of old is)) in
    let count = is.count in
    let size : length (file_bytes old) ≡ old.len = omega (arith, length-take old.len (concat old.pages)) in
    let front : take offset (file_bytes old) ≡ file_bytes old = take_all offset (file_bytes old) (omega arith) in
    has.stored ∙ ap (λ (b : List ℕ). take old.len ((b ++ bytes) ++ drop (offset + length bytes) (file_bytes old))) front
    ∙ ap (take old.len) (append_assoc (file_bytes old) bytes (drop (offset + length bytes) (file_bytes old))) ∙ take_at (file_bytes old) (bytes ++ drop (offset + length bytes) (file_bytes old)) old.len size

pub one_cache_law : OneCache
one_cache_law = record { read_as_loaded = read_as_loaded; stored = stored-file; stored_then_read = stored_then_read; stored_behind = stored_behind }
