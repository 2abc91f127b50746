-- What an access meets, and what loads answer after a store or a fork.
use Rattle.std.proofs.Common.{◌≡◌, ℕ, ◌*◌, ◌%◌, ◌^◌, ◌<◌, Bool, true, false, List, [], Option, Some, None, Result, Ok, Err, refl, sym, ap, subst, ◌∙◌}
use Rattle.std.specs.Prelude.{slice_get, slice_set, option_map, option_and_then, unwrap_or, ok_or, ◌==◌, IsSome, IsTrue, is_some, All}
use Rattle.std.specs.Option.{option_or}
use Rattle.std.specs.FinMap as map
use Rattle.std.proofs.lemmas.Bool.{eqb-true, eq-eqb}
use Rattle.vm_types.specs.declared.prot.Prot.{Prot}
use Rattle.vm_types.specs.declared.call.Kind.TheVariants.{Shared, Private}
use Rattle.vm_types.specs.declared.call.Object.{Object}
use Rattle.vm_types.specs.declared.call.Object.TheVariants as object
use Rattle.vm_types.specs.declared.call.Signal.{Signal}
use Rattle.vm_types.specs.declared.call.Signal.TheVariants as signal
use Rattle.vm_types.specs.declared.call.Reply.TheVariants as reply
use Rattle.vm_types.specs.Prot.{can_read, can_write}
use Rattle.flat_model.specs.Words.{Page, IsPage, page, word_bytes, with_bytes, word_at, IsWordSize}
use Rattle.flat_model.specs.Flat.{Cell, File, Flat, Space, IsFlat, IsFile, IsCell, space_of, cell_at, shown, pages_of}
use Rattle.flat_model.specs.Refusals.{◌>>=◌, ◌>>◌, check, or_signal, done_effect}
use Rattle.flat_model.specs.Access.{access_target, store, load, with_page_stored, with_page, with_cell, file_with_page}
use Rattle.flat_model.specs.StoreLaws.{ShowSamePage, StoreThenLoad, ChangesOneCell, PrivateStore}
use Rattle.flat_model.proofs.Ranges.{get-insert_here, get-insert_apart}
use Rattle.flat_model.proofs.Bytes.{All-slice_get, word_again, aligned_alike, slice_get-with_change_at, slice_get-slice_set}

-- what an access met
pub record Met (F : Flat) (p : ℕ) (may : Prot → Bool) (a n : ℕ) (c : Cell) (bytes : Page) : Type 0 where
  pub aligned : (a % n == 0) ≡ true
  pub cell : cell_at F p (page a) ≡ Some c
  pub allowed : may c.prot ≡ true
  pub shows : shown F c ≡ Some bytes

pub need_ok : {E A : Type 0} (b : Bool) (e : E) (r : Result A E) (y : A) → (check b e >> r) ≡ Ok y → (b ≡ true) × (r ≡ Ok y)
need_ok true e r y is = (refl, is)
need_ok false e r y is = absurd cc

pub ok_or_ok : {E A B : Type 0} (o : Option A) (e : E) (f : A → Result B E) (y : B) → (ok_or o e >>= f) ≡ Ok y → (x : A) × (o ≡ Some x) × (f x ≡ Ok y)
ok_or_ok None e f y is = absurd cc
ok_or_ok (Some x) e f y is = (x, refl, is)

pub pair_ok : {A B E : Type 0} (x c : A) (y d : B) → ◌≡◌ {A = Result (A × B) E} (Ok (x, y)) (Ok (c, d)) → (x ≡ c) × (y ≡ d)
pair_ok {A} {B} x c y d is =
    let both : ◌≡◌ {A = A × B} (x, y) (c, d) = cc in
    (ap (λ (w : A × B). w.0) both, ap (λ (w : A × B). w.1) both)

pub is_met : (F : Flat) (p : ℕ) (may : Prot → Bool) (a n : ℕ) (c : Cell) (bytes : Page) → access_target F p may a n ≡ Ok (c, bytes) → Met F p may a n c bytes
unfolding access_target
is_met F p may a n c bytes is =
    let last : Cell → Result (Cell × Page) Signal = λ cell. ok_or (shown F cell) signal.Past >>= λ bytes. Ok (cell, bytes) in
    let third : Cell → Result (Cell × Page) Signal = λ cell. check (may cell.prot) signal.Prot >> last cell in
    let r = need_ok (a % n == 0) signal.Align (ok_or (cell_at F p (page a)) signal.NoMap >>= third) (c, bytes) is in
    let s = ok_or_ok (cell_at F p (page a)) signal.NoMap third (c, bytes) r.1 in
    let t = need_ok (may s.0.prot) signal.Prot (last s.0) (c, bytes) s.2 in
    let u = ok_or_ok (shown F s.0) signal.Past (λ bytes. Ok (s.0, bytes)) (c, bytes) t.1 in
    let both = pair_ok s.0 c u.0 bytes u.2 in
    let same = both.0 in
    let shows = both.1 in
    record { aligned = r.0; cell = s.1 ∙ ap (λ x. Some x) same; allowed = subst (λ (x : Cell). may x.prot ≡ true) same t.0; shows = subst (λ (x : Cell). shown F x ≡ Some bytes) same (u.1 ∙ ap (λ x. Some x) shows) }

pub met_is : (F : Flat) (p : ℕ) (may : Prot → Bool) (a n : ℕ) (c : Cell) (bytes : Page) → Met F p may a n c bytes → access_target F p may a n ≡ Ok (c, bytes)
unfolding access_target
met_is F p may a n c bytes m = rw (m.aligned, m.cell, m.allowed, m.shows) refl

tests_alike : (F G : Flat) (may : Prot → Bool) (b : Bool) (o : Option Cell) → ((d : Cell) → o ≡ Some d → shown G d ≡ shown F d)
    → ◌≡◌ {A = Result (Cell × Page) Signal} (check b signal.Align >> (ok_or o signal.NoMap >>= λ cell. check (may cell.prot) signal.Prot >> (ok_or (shown G cell) signal.Past >>= λ bytes. Ok (cell, bytes)))) (check b signal.Align >> (ok_or o signal.NoMap >>= λ cell. check (may cell.prot) signal.Prot >> (ok_or (shown F cell) signal.Past >>= λ bytes. Ok (cell, bytes))))
tests_alike F G may b None alike = refl
tests_alike F G may b (Some d) alike = rw (alike d refl) refl

-- an access of q in G meets what one of p in F does where there is the same cell and it shows the same
pub access_target-alike : (F G : Flat) (p q : ℕ) (may : Prot → Bool) (a n : ℕ) → cell_at G q (page a) ≡ cell_at F p (page a) → ((d : Cell) → cell_at F p (page a) ≡ Some d → shown G d ≡ shown F d) → access_target G q may a n ≡ access_target F p may a n
unfolding access_target
access_target-alike F G p q may a n same alike = rw same (tests_alike F G may (a % n == 0) (cell_at F p (page a)) alike)

word_reply : (F G : Flat) (b m : ℕ) (r : Result (Cell × Page) Signal) → (or_signal G (λ m'. record { reply = reply.Word (word_at m'.1 b m); after = G }) r).reply ≡ (or_signal F (λ m'. record { reply = reply.Word (word_at m'.1 b m); after = F }) r).reply
word_reply F G b m (Ok x) = refl
word_reply F G b m (Err s) = refl

-- a load answers the same where there is the same cell and it shows the same
pub load-alike : (F G : Flat) (p q b m : ℕ) → cell_at G q (page b) ≡ cell_at F p (page b) → ((d : Cell) → cell_at F p (page b) ≡ Some d → shown G d ≡ shown F d) → (load G q b m).reply ≡ (load F p b m).reply
load-alike F G p q b m same alike = rw (access_target-alike F G p q can_read b m same alike) (word_reply F G b m (access_target F p can_read b m))

-- an access that was done met something
done_met : (F : Flat) (acts : Cell × Page → Flat) (r : Result (Cell × Page) Signal) → (or_signal F (λ m. done_effect (acts m)) r).reply ≡ reply.Done → (m : Cell × Page) × (r ≡ Ok m)
done_met F acts (Ok m) is = (m, refl)
done_met F acts (Err s) is = absurd cc

-- a store that was done met a page of the cell
pub store_met : (F : Flat) (p a n v : ℕ) (c : Cell) → (store F p a n v).reply ≡ reply.Done → cell_at F p (page a) ≡ Some c → (bytes : Page) × (access_target F p can_write a n ≡ Ok (c, bytes)) × Met F p can_write a n c bytes
store_met F p a n v c is at =
    let r = done_met F (λ m. with_page_stored F p (page a) m.0 (with_bytes m.1 (a % 4096) (word_bytes n v))) (access_target F p can_write a n) is in
    let m = is_met F p can_write a n r.0.0 r.0.1 r.1 in
    let same : r.0.0 ≡ c = let both : Some r.0.0 ≡ Some c = sym m.cell ∙ at in cc in
    let e = r.1 ∙ ap (λ (d : Cell). Ok (d, r.0.1)) same in
    (r.0.1, e, is_met F p can_write a n c r.0.1 e)

-- the pages of an object after a page was put into it
pages_of-with_page : (F : Flat) (o : Object) (i : ℕ) (new : Page) (ps : List Page) → pages_of F o ≡ Some ps → pages_of (with_page F o i new) o ≡ Some (slice_set ps i new)
pages_of-with_page F (object.File f) i new ps is =
    ap (option_map (λ file. file.pages)) (slice_get-with_change_at (file_with_page i new) F.files f) ∙ moved (slice_get F.files f) is
  where
    moved : (x : Option File) → option_map (λ file. file.pages) x ≡ Some ps → option_map (λ file. file.pages) (option_map (file_with_page i new) x) ≡ Some (slice_set ps i new)
    moved None is = absurd cc
    moved (Some file) is = ap (option_map (λ qs. slice_set qs i new)) is
pages_of-with_page F (object.Zero z) i new ps is = get-insert_here F.zeros z (slice_set (unwrap_or (map.get F.zeros z) []) i new) ∙ ap (λ (o : Option (List Page)). Some (slice_set (unwrap_or o []) i new)) is
pages_of-with_page F object.NewZero i new ps is = absurd cc

by_pages : (F : Flat) (o : Object) (i : ℕ) (old new : Page) (x : Option (List Page)) → pages_of F o ≡ x → option_and_then (λ ps. slice_get ps i) x ≡ Some old → option_and_then (λ ps. slice_get ps i) (pages_of (with_page F o i new) o) ≡ Some new
by_pages F o i old new None is e = absurd cc
by_pages F o i old new (Some ps) is e = ap (option_and_then (λ ps. slice_get ps i)) (pages_of-with_page F o i new ps is) ∙ slice_get-slice_set ps i old new e

-- a cell without a page of its own shows the page that was put into its object
pub shown-with_page : (F : Flat) (c d : Cell) (old new : Page) → c.own ≡ None → shown F c ≡ Some old → ShowSamePage c d → shown (with_page F c.object c.index new) d ≡ Some new
shown-with_page F c d old new alone is same =
    let from : option_and_then (λ ps. slice_get ps c.index) (pages_of F c.object) ≡ Some old = sym (ap (λ o. option_or o (option_and_then (λ ps. slice_get ps c.index) (pages_of F c.object))) alone) ∙ is in
    let to = by_pages F c.object c.index old new (pages_of F c.object) refl from in
    rw (same.alone, same.object, same.index) to

pub spaces-with_page : (F : Flat) (o : Object) (i : ℕ) (new : Page) → (with_page F o i new).spaces ≡ F.spaces
spaces-with_page F (object.File f) i new = refl
spaces-with_page F (object.Zero z) i new = refl
spaces-with_page F object.NewZero i new = refl

cell_at-with_page : (F : Flat) (o : Object) (i : ℕ) (new : Page) (q r : ℕ) → cell_at (with_page F o i new) q r ≡ cell_at F q r
cell_at-with_page F o i new q r = ap (λ spaces. option_and_then (λ space. map.get space r) (map.get spaces q)) (spaces-with_page F o i new)

page_in_file : (files : List File) (x : Option File) (i : ℕ) (bytes : Page) → ((file : File) → x ≡ Some file → IsFile file) → option_and_then (λ ps. slice_get ps i) (option_map (λ file. file.pages) x) ≡ Some bytes → IsPage bytes
page_in_file files None i bytes each is = absurd cc
page_in_file files (Some file) i bytes each is = All-slice_get IsPage file.pages i bytes (each file refl).pages is

page_in_zero : (x : Option (List Page)) (i : ℕ) (bytes : Page) → ((ps : List Page) → x ≡ Some ps → All IsPage ps) → option_and_then (λ ps. slice_get ps i) x ≡ Some bytes → IsPage bytes
page_in_zero None i bytes each is = absurd cc
page_in_zero (Some ps) i bytes each is = All-slice_get IsPage ps i bytes (each ps refl) is

page_of_object : (F : Flat) (o : Object) (i : ℕ) (bytes : Page) → IsFlat F → option_and_then (λ ps. slice_get ps i) (pages_of F o) ≡ Some bytes → IsPage bytes
page_of_object F (object.File f) i bytes flat is = page_in_file F.files (slice_get F.files f) i bytes (λ file at. All-slice_get IsFile F.files f file flat.files at) is
page_of_object F (object.Zero z) i bytes flat is = page_in_zero (map.get F.zeros z) i bytes (flat.zeros z) is
page_of_object F object.NewZero i bytes flat is = absurd cc

page_of_cell : (F : Flat) (c : Cell) (own : Option Page) (bytes : Page) → IsFlat F → ((page : Page) → own ≡ Some page → IsPage page) → option_or own (option_and_then (λ ps. slice_get ps c.index) (pages_of F c.object)) ≡ Some bytes → IsPage bytes
page_of_cell F c None bytes flat each is = page_of_object F c.object c.index bytes flat is
page_of_cell F c (Some page) bytes flat each is = each bytes is

-- in flat memory that is well formed each cell shows pages
pub IsPage-shown : (F : Flat) (c : Cell) (bytes : Page) → IsFlat F → IsCell c → shown F c ≡ Some bytes → IsPage bytes
IsPage-shown F c bytes flat cell is = page_of_cell F c c.own bytes flat cell.page is

-- a store through a shared cell is a new page of its object
pub store-shared : (F : Flat) (p a n v : ℕ) (c : Cell) (bytes : Page) → access_target F p can_write a n ≡ Ok (c, bytes) → c.kind ≡ Shared → (store F p a n v).after ≡ with_page F c.object c.index (with_bytes bytes (a % 4096) (word_bytes n v))
store-shared F p a n v c bytes is shared = rw (is, shared) refl

-- a store through a private cell is a new page of its own
pub store-private : (F : Flat) (p a n v : ℕ) (c : Cell) (bytes : Page) → access_target F p can_write a n ≡ Ok (c, bytes) → c.kind ≡ Private → (store F p a n v).after ≡ with_cell F p (page a) (record c { own = Some (with_bytes bytes (a % 4096) (word_bytes n v)) })
store-private F p a n v c bytes is private = rw (is, private) refl

-- a load of a page that has the word
pub load_word : (G : Flat) (q b n v : ℕ) (d : Cell) (new : Page) → (b % n ≡ 0) → cell_at G q (page b) ≡ Some d → can_read d.prot ≡ true → shown G d ≡ Some new → word_at new b n ≡ v → (load G q b n).reply ≡ reply.Word v
load_word G q b n v d new aligned at allowed shows word =
    rw (met_is G q can_read b n d new (record { aligned = eq-eqb (b % n) 0 aligned; cell = at; allowed = allowed; shows = shows })) (ap (λ w. reply.Word w) word)

pub load-store_shared : (F : Flat) (p q a b n v : ℕ) (c d : Cell) → IsFlat F → IsWordSize n → v < 2 ^ (8 * n) → (store F p a n v).reply ≡ reply.Done → cell_at F p (page a) ≡ Some c → c.kind ≡ Shared → cell_at F q (page b) ≡ Some d → ShowSamePage c d → b % 4096 ≡ a % 4096 → IsTrue (can_read d.prot) → (load (store F p a n v).after q b n).reply ≡ reply.Word v
load-store_shared F p q a b n v c d flat size lt is at shared there same offset allowed =
    let s = store_met F p a n v c is at in
    let new = with_bytes s.0 (a % 4096) (word_bytes n v) in
    let cell = flat.cells p (page a) c at in
    let whole = (IsPage-shown F c s.0 flat cell s.2.shows).whole in
    rw (store-shared F p a n v c s.0 s.1 shared)
    (load_word (with_page F c.object c.index new) q b n v d new
    (aligned_alike a b n size (eqb-true (a % n) 0 s.2.aligned) offset)
    (cell_at-with_page F c.object c.index new q (page b) ∙ there) allowed
    (shown-with_page F c d s.0 new (cell.shared shared) s.2.shows same)
    (word_again s.0 a b n v size whole offset lt))

-- the cell that was put at a page is there
pub cell_at-with_cell : (F : Flat) (p q : ℕ) (c : Cell) → cell_at (with_cell F p q c) p q ≡ Some c
cell_at-with_cell F p q c = ap (option_and_then (λ space. map.get space q)) (get-insert_here F.spaces p (map.insert (unwrap_or (space_of F p) map.empty) q c)) ∙ get-insert_here (unwrap_or (space_of F p) map.empty) q c

load-store_private : (F : Flat) (p a n v : ℕ) (c : Cell) → IsFlat F → IsWordSize n → v < 2 ^ (8 * n) → (store F p a n v).reply ≡ reply.Done → cell_at F p (page a) ≡ Some c → c.kind ≡ Private → IsTrue (can_read c.prot) → (load (store F p a n v).after p a n).reply ≡ reply.Word v
load-store_private F p a n v c flat size lt is at private allowed =
    let s = store_met F p a n v c is at in
    let new = with_bytes s.0 (a % 4096) (word_bytes n v) in
    let whole = (IsPage-shown F c s.0 flat (flat.cells p (page a) c at) s.2.shows).whole in
    rw (store-private F p a n v c s.0 s.1 private)
    (load_word (with_cell F p (page a) (record c { own = Some new })) p a n v (record c { own = Some new }) new
    (eqb-true (a % n) 0 s.2.aligned) (cell_at-with_cell F p (page a) (record c { own = Some new })) allowed refl
    (word_again s.0 a a n v size whole refl lt))

pub load-store : (F : Flat) (p a n v : ℕ) (c : Cell) → IsFlat F → IsWordSize n → v < 2 ^ (8 * n) → (store F p a n v).reply ≡ reply.Done → cell_at F p (page a) ≡ Some c → IsTrue (can_read c.prot) → (load (store F p a n v).after p a n).reply ≡ reply.Word v
load-store F p a n v c flat size lt is at allowed =
    elim c.kind as (λ k. c.kind ≡ k → (load (store F p a n v).after p a n).reply ≡ reply.Word v) [
      | Shared ↦ λ shared. load-store_shared F p p a a n v c c flat size lt is at shared at (record { object = refl; index = refl; alone = (flat.cells p (page a) c at).shared shared }) refl allowed
      | Private ↦ λ private. load-store_private F p a n v c flat size lt is at private allowed
    ] refl

or_own : (own other other' : Option Page) → IsSome own → option_or own other ≡ option_or own other'
or_own None other other' is = absurd cc
or_own (Some page) other other' is = refl

-- what a store does to what other cells show, by what it met
store_cases : (F : Flat) (p a n v : ℕ) (c : Cell) (P : Flat → Type 0) → cell_at F p (page a) ≡ Some c → P F → ((bytes : Page) → access_target F p can_write a n ≡ Ok (c, bytes) → P (store F p a n v).after) → P (store F p a n v).after
store_cases F p a n v c P at none some = by_result (access_target F p can_write a n) refl
  where
    by_result : (r : Result (Cell × Page) Signal) → access_target F p can_write a n ≡ r → P (store F p a n v).after
    by_result (Ok m) is =
        let same : m.0 ≡ c = let both : Some m.0 ≡ Some c = sym (is_met F p can_write a n m.0 m.1 is).cell ∙ at in cc in
        some m.1 (is ∙ ap (λ (d : Cell). Ok (d, m.1)) same)
    by_result (Err s) is = subst P (sym (ap (λ r. (or_signal F (λ m. done_effect (with_page_stored F p (page a) m.0 (with_bytes m.1 (a % 4096) (word_bytes n v)))) r).after) is)) none

pub load-private_copy : (F : Flat) (p q a b n m v : ℕ) (c d : Cell) → cell_at F p (page a) ≡ Some c → c.kind ≡ Shared → cell_at F q (page b) ≡ Some d → IsSome d.own → (load (store F p a n v).after q b m).reply ≡ (load F q b m).reply
load-private_copy F p q a b n m v c d at shared there own =
    store_cases F p a n v c (λ G. (load G q b m).reply ≡ (load F q b m).reply) at refl (λ bytes is.
    let new = with_bytes bytes (a % 4096) (word_bytes n v) in
    rw (store-shared F p a n v c bytes is shared)
    (load-alike F (with_page F c.object c.index new) q q b m (cell_at-with_page F c.object c.index new q (page b)) (λ x found.
    let same : x ≡ d = let both : Some x ≡ Some d = sym found ∙ there in cc in
    or_own x.own _ _ (ap (λ (y : Cell). is_some y.own) same ∙ own))))

pub store_then_load_law : StoreThenLoad
store_then_load_law = record { same_place = load-store; same_page = load-store_shared; private_copy = load-private_copy }

pub ChangesOneCell-with_cell : (F : Flat) (p q : ℕ) (c old : Cell) → cell_at F p q ≡ Some old → ChangesOneCell F (with_cell F p q c) p q
ChangesOneCell-with_cell F p q c old at = record {
  slots = refl;
  files = refl;
  zeros = refl;
  born = refl;
  others = λ x apart. get-insert_apart F.spaces p (map.insert (unwrap_or (space_of F p) map.empty) q c) x apart;
  beside = λ r apart. ap (option_and_then (λ space. map.get space r)) (get-insert_here F.spaces p (map.insert (unwrap_or (space_of F p) map.empty) q c)) ∙ get-insert_apart (unwrap_or (space_of F p) map.empty) q c r apart ∙ same_cell (space_of F p) r at;
}
  where
    same_cell : (o : Option Space) (r : ℕ) → option_and_then (λ space. map.get space q) o ≡ Some old → map.get (unwrap_or o map.empty) r ≡ option_and_then (λ space. map.get space r) o
    same_cell None r is = absurd cc
    same_cell (Some space) r is = refl

pub ChangesOneCell-store : (F : Flat) (p a n v : ℕ) (c : Cell) → cell_at F p (page a) ≡ Some c → c.kind ≡ Private → ChangesOneCell F (store F p a n v).after p (page a)
ChangesOneCell-store F p a n v c at private =
    store_cases F p a n v c (λ G. ChangesOneCell F G p (page a)) at (record { slots = refl; files = refl; zeros = refl; born = refl; others = λ x apart. refl; beside = λ r apart. refl }) (λ bytes is.
    subst (λ (G : Flat). ChangesOneCell F G p (page a)) (sym (store-private F p a n v c bytes is private)) (ChangesOneCell-with_cell F p (page a) (record c { own = Some (with_bytes bytes (a % 4096) (word_bytes n v)) }) c at))

shown-same : (F G : Flat) (d : Cell) (o : Object) → G.files ≡ F.files → G.zeros ≡ F.zeros → pages_of G o ≡ pages_of F o
shown-same F G d (object.File f) files zeros = ap (λ fs. option_map (λ file. file.pages) (slice_get fs f)) files
shown-same F G d (object.Zero z) files zeros = ap (λ m. map.get m z) zeros
shown-same F G d object.NewZero files zeros = refl

-- cells show the same where the objects are the same
pub shown-same_objects : (F G : Flat) (d : Cell) → G.files ≡ F.files → G.zeros ≡ F.zeros → shown G d ≡ shown F d
shown-same_objects F G d files zeros = ap (λ o. option_or d.own (option_and_then (λ ps. slice_get ps d.index) o)) (shown-same F G d d.object files zeros)

pub load-private_store : (F : Flat) (p q a b n m v : ℕ) (c : Cell) → cell_at F p (page a) ≡ Some c → c.kind ≡ Private → (q ≡ p → ⊥) → (load (store F p a n v).after q b m).reply ≡ (load F q b m).reply
load-private_store F p q a b n m v c at private apart =
    let one = ChangesOneCell-store F p a n v c at private in
    load-alike F (store F p a n v).after q q b m (ap (option_and_then (λ space. map.get space (page b))) (one.others q apart)) (λ d found. shown-same_objects F (store F p a n v).after d one.files one.zeros)

pub private_store_law : PrivateStore
private_store_law = record { one_cell = ChangesOneCell-store; unseen = load-private_store }
