-- What each call does to the shape of flat memory, and which signal or errno is due by it.
use Rattle.std.proofs.Common.{◌≡◌, ℕ, zero, suc, ◌+◌, ◌-◌, ◌*◌, max, min, Bool, true, false, cond, ◌||◌, ◌&&◌, List, [], ◌∷◌, ◌++◌, length, map, take, drop, replicate, Option, Some, None, Result, Ok, Err, refl, sym, ap, subst, ◌∙◌, inl, inr, arith, length-append}
use Rattle.std.specs.Prelude.{◌==◌, IsFalse, nat_le, nat_lt, slice_get, slice_set, option_map, is_some, ok_or, remove, filter, flat_map, unwrap_or, if◌then◌else◌}
use Rattle.std.specs.Option.{option_map_or}
use Rattle.std.specs.FinMap as finite
use Rattle.std.specs.FinSet as set
use Rattle.std.proofs.lemmas.List.{drop-map, length-replicate, length-take, map-append, map-set, take-append-le, take-map, take_at}
use Rattle.std.proofs.lemmas.Option.{slice_get-map}
use Rattle.vm_types.specs.declared.prot.Prot.{Prot}
use Rattle.vm_types.specs.declared.call.Call.{Call}
use Rattle.vm_types.specs.declared.call.Call.TheVariants.{Load, Store, Map, Unmap, Protect, Sync, Read, Write, Truncate, Fork, Exit}
use Rattle.vm_types.specs.declared.call.Entry.{Entry}
use Rattle.vm_types.specs.declared.call.Errno.{Errno}
use Rattle.vm_types.specs.declared.call.Errno.TheVariants as errno
use Rattle.vm_types.specs.declared.call.Kind.{Kind}
use Rattle.vm_types.specs.declared.call.Kind.TheVariants.{Shared, Private}
use Rattle.vm_types.specs.declared.call.Object.{Object}
use Rattle.vm_types.specs.declared.call.Object.TheVariants as object
use Rattle.vm_types.specs.declared.call.Place.{Place}
use Rattle.vm_types.specs.declared.call.Place.TheVariants.{At, Any}
use Rattle.vm_types.specs.declared.call.Reply.{Reply}
use Rattle.vm_types.specs.declared.call.Reply.TheVariants as reply
use Rattle.vm_types.specs.declared.call.Signal.{Signal}
use Rattle.vm_types.specs.Prot.{can_read, can_write, is_within}
use Rattle.vnode_files.specs.declared.extent.Extent.{Extent}
use Rattle.vnode_files.specs.Grow.{growth}
use Rattle.flat_model.specs.Access.{access_target, with_page_stored, with_space}
use Rattle.flat_model.specs.Flat.{Cell, File, Flat, Space, pages_of, private_cells, reserved}
use Rattle.flat_model.specs.Mapping.{Request, are_mapped, cells_of, first_page, is_new_zero, is_range, is_there, is_valid, map_result, max_of, may_have, new_cell, new_number, object_for, own_for, prot_read, prot_read_write, valid_range, with_mapping, with_object, without_pages, without_replaced}
use Rattle.flat_model.specs.Parts.{existing_file, file_of_length, growth_in, longer_file, pages_with_bytes, read_line, room_for, shorter_file, with_extents_of, with_file_at, with_part, without_tail, writable_file}
use Rattle.flat_model.specs.Processes.{with_child, without_process}
use Rattle.flat_model.specs.Refusals.{◌>>=◌, ◌>>◌, Effect, check, done_effect, or_refused, or_signal}
use Rattle.flat_model.specs.History.{is_io, replay}
use Rattle.flat_model.specs.Shapes.{KeepsShape, RefusesAsDue, SameShape, blank_cell, blank_file, blank_pages, blank_space, map_with, refusal_in, without_bytes}
use Rattle.flat_model.specs.Space.{lowest_gap, with_cells, with_prots, without_range}
use Rattle.flat_model.specs.Step.{after_act, effect, files_cleared, is_bit_set, step, tails_cleared}
use Rattle.flat_model.specs.Words.{Page, page, pages_in, word_at, word_put, zero_page}
use Rattle.flat_model.proofs.FileBytes.{length-pages_with_bytes}
use Rattle.flat_model.proofs.Histories.{slice_get-cases}
use Rattle.flat_model.proofs.Mappings.{mapped-map_result}
use Rattle.flat_model.proofs.Shapes.{access-blank, blank-zeros, blank_met, cells-blank, gap-blank, mapped-blank, may_have-blank, new_number-blank, pages-blank, reserved-blank, result_with, same-cells, same-number, same-private, same-reserved, same-space, same-unnamed, stored-blank, twice, with_cells-blank, with_prots-blank, without_range-blank}
use Rattle.flat_model.proofs.Values.{len-map_with, map-insert, map-remove}

-- RANGES
pub range-same : (s t : Space) (first n : ℕ) → blank_space s ≡ blank_space t → blank_space (without_range s first n) ≡ blank_space (without_range t first n)
range-same s t first n same = without_range-blank s first n ∙ ap (λ (u : Space). without_range u first n) same ∙ sym (without_range-blank t first n)

pub pages-same : (F G : Flat) (p first n : ℕ) → SameShape F G → SameShape (without_pages F p first n) (without_pages G p first n)
pages-same F G p first n same = same-unnamed (with_space F p (without_range (cells_of F p) first n)) (with_space G p (without_range (cells_of G p) first n))
    (same-space F G p (without_range (cells_of F p) first n) (without_range (cells_of G p) first n) same (range-same (cells_of F p) (cells_of G p) first n (same-cells F G p same)))

pub prots-same : (F G : Flat) (p first n : ℕ) (prot : Prot) → SameShape F G → SameShape (with_space F p (with_prots (cells_of F p) first n prot)) (with_space G p (with_prots (cells_of G p) first n prot))
prots-same F G p first n prot same = same-space F G p (with_prots (cells_of F p) first n prot) (with_prots (cells_of G p) first n prot) same
    (with_prots-blank (cells_of F p) first n prot ∙ ap (λ (u : Space). with_prots u first n prot) (same-cells F G p same) ∙ sym (with_prots-blank (cells_of G p) first n prot))

pub new-cells-same : (s t : Space) (first n : ℕ) (c d : ℕ → Cell) → blank_space s ≡ blank_space t → ((i : ℕ) → blank_cell (c i) ≡ blank_cell (d i)) → blank_space (with_cells s first n c) ≡ blank_space (with_cells t first n d)
new-cells-same s t first n c d same cells = with_cells-blank s first n c ∙ (λ i. with_cells (same i) first n (λ k. cells k i)) ∙ sym (with_cells-blank t first n d)

-- PROCESSES
child-blank : (F : Flat) (p child : ℕ) → without_bytes (with_child F p child) ≡ with_child (without_bytes F) p child
child-blank F p child =
    let spaces = map-insert blank_space F.spaces child (cells_of F p) ∙ ap (finite.insert (map_with blank_space F.spaces) child) (sym (cells-blank F p)) in
    λ i. record (without_bytes F) { spaces = spaces i; born = set.insert F.born child }

pub child-same : (F G : Flat) (p child : ℕ) → SameShape F G → SameShape (with_child F p child) (with_child G p child)
child-same F G p child same = child-blank F p child ∙ ap (λ (H : Flat). with_child H p child) same ∙ sym (child-blank G p child)

left-blank : (F : Flat) (p : ℕ) → without_bytes (record F { spaces = finite.remove F.spaces p }) ≡ record (without_bytes F) { spaces = finite.remove (without_bytes F).spaces p }
left-blank F p = λ i. record (without_bytes F) { spaces = map-remove blank_space F.spaces p i }

pub process-same : (F G : Flat) (p : ℕ) → SameShape F G → SameShape (without_process F p) (without_process G p)
process-same F G p same = same-unnamed (record F { spaces = finite.remove F.spaces p }) (record G { spaces = finite.remove G.spaces p })
    (left-blank F p ∙ ap (λ (H : Flat). record H { spaces = finite.remove H.spaces p }) same ∙ sym (left-blank G p))

-- FILES
pub file-same : (F G : Flat) (f : ℕ) (x y : File) → SameShape F G → blank_file x ≡ blank_file y → SameShape (with_file_at F f x) (with_file_at G f y)
file-same F G f x y same files =
    let put = map-set blank_file F.files f x ∙ (λ i. slice_set (same i).files f (files i)) ∙ sym (map-set blank_file G.files f y) in
    λ i. record (same i) { files = put i }

tail-blank : (file : File) → blank_file (without_tail file) ≡ blank_file file
tail-blank file = λ i. record file { pages = replicate (length-pages_with_bytes file.pages file.len (replicate (4096 * length file.pages - file.len) 0) i) zero_page }

cleared-blank : (test : ℕ → Bool) (files : List File) → map blank_file (files_cleared test files) ≡ map blank_file files
cleared-blank test [] = refl
cleared-blank test (file ∷ files) = λ i. here (test 0) i ∷ cleared-blank (λ f. test (suc f)) files i
  where
    here : (b : Bool) → blank_file (if b then without_tail file else file) ≡ blank_file file
    here true = tail-blank file
    here false = refl

pub tails-same : (F : Flat) (test : ℕ → Bool) → SameShape (tails_cleared F test) F
tails-same F test = λ i. record (without_bytes F) { files = cleared-blank test F.files i }

-- a file of as many pages grows to as many
pub longer-count : (n : ℕ) (file : File) → length (longer_file n file).pages ≡ length file.pages + (pages_in n - length file.pages)
unfolding longer_file
longer-count n file =
    length-pages_with_bytes (file.pages ++ replicate (pages_in n - length file.pages) zero_page) file.len (replicate (n - file.len) 0)
    ∙ length-append file.pages (replicate (pages_in n - length file.pages) zero_page) ∙ ap (λ (k : ℕ). length file.pages + k) (length-replicate (pages_in n - length file.pages) zero_page)

count-blank : (file : File) → length (blank_file file).pages ≡ length file.pages
count-blank file = length-replicate (length file.pages) zero_page

longer-blank : (n : ℕ) (file : File) → blank_file (longer_file n (blank_file file)) ≡ blank_file (longer_file n file)
unfolding longer_file
longer-blank n file =
    let count = longer-count n (blank_file file) ∙ ap (λ (k : ℕ). k + (pages_in n - k)) (count-blank file) ∙ sym (longer-count n file) in
    λ i. record file { len = max file.len n; pages = replicate (count i) zero_page }

pub part-like : (offset : ℕ) (line : List ℕ) (file : File) → blank_file (with_part offset line file) ≡ blank_file (longer_file (offset + length line) file)
unfolding with_part
part-like offset line file =
    let long = longer_file (offset + length line) file in
    λ i. record long { pages = replicate (length-pages_with_bytes long.pages offset line i) zero_page }

part-blank : (offset : ℕ) (line : List ℕ) (file : File) → blank_file (with_part offset line (blank_file file)) ≡ blank_file (with_part offset line file)
part-blank offset line file = part-like offset line (blank_file file) ∙ longer-blank (offset + length line) file ∙ sym (part-like offset line file)

shorter-blank : (n : ℕ) (file : File) → blank_file (shorter_file n (blank_file file)) ≡ blank_file (shorter_file n file)
shorter-blank n file =
    let pages = pages_in n in
    let count = length-take pages (blank_file file).pages ∙ ap (λ (k : ℕ). min pages k) (count-blank file) ∙ sym (length-take pages file.pages) in
    tail-blank (record (blank_file file) { len = n; pages = take pages (blank_file file).pages })
    ∙ (λ i. record file { len = n; pages = replicate (count i) zero_page })
    ∙ sym (tail-blank (record file { len = n; pages = take pages file.pages }))

length-blank : (n : ℕ) (file : File) → blank_file (file_of_length n (blank_file file)) ≡ blank_file (file_of_length n file)
length-blank n file = by_length (nat_lt n file.len) (nat_lt file.len n)
  where
    by_length : (a b : Bool) → blank_file (if a then shorter_file n (blank_file file) else if b then longer_file n (blank_file file) else blank_file file) ≡ blank_file (if a then shorter_file n file else if b then longer_file n file else file)
    by_length true b = shorter-blank n file
    by_length false true = longer-blank n file
    by_length false false = λ i. record file { pages = blank-zeros (length file.pages) i }

remove-blank : (files : List File) (f : ℕ) → remove (map blank_file files) f ≡ map blank_file (remove files f)
remove-blank files f = (λ i. take-map blank_file f files i ++ drop-map blank_file (suc f) files i) ∙ sym (map-append blank_file (take f files) (drop (suc f) files))

extents-blank : (disk : ℕ) (files : List File) → flat_map (λ (file : File). file.extents) (filter (λ (file : File). file.disk == disk) (map blank_file files)) ≡ flat_map (λ (file : File). file.extents) (filter (λ (file : File). file.disk == disk) files)
extents-blank disk [] = refl
extents-blank disk (file ∷ files) = by_disk (file.disk == disk) (extents-blank disk files)
  where
    rest : List File → List File
    rest fs = filter (λ (x : File). x.disk == disk) fs

    by_disk : (b : Bool) → flat_map (λ (x : File). x.extents) (rest (map blank_file files)) ≡ flat_map (λ (x : File). x.extents) (rest files) → flat_map (λ (x : File). x.extents) (cond b (blank_file file ∷ rest (map blank_file files)) (rest (map blank_file files))) ≡ flat_map (λ (x : File). x.extents) (cond b (file ∷ rest files) (rest files))
    by_disk true more = ap (λ (es : List Extent). file.extents ++ es) more
    by_disk false more = more

growth-blank : (F : Flat) (f : ℕ) (file : File) (pages : ℕ) → growth_in (without_bytes F) f (blank_file file) pages ≡ growth_in F f file pages
growth-blank F f file pages =
    ap (λ (es : List Extent). growth (unwrap_or (finite.get F.disks file.disk) 0) es file.extents pages)
    (ap (λ (fs : List File). flat_map (λ (x : File). x.extents) (filter (λ (x : File). x.disk == file.disk) fs)) (remove-blank F.files f) ∙ extents-blank file.disk (remove F.files f))

abbrev FileResult : Type 0
FileResult = Result File Errno

existing-blank : (F : Flat) (f : ℕ) → existing_file (without_bytes F) f ≡ result_with blank_file (existing_file F f)
existing-blank F f = ap (λ (o : Option File). ok_or o errno.NoObject) (slice_get-map blank_file F.files f) ∙ by_file (slice_get F.files f)
  where
    by_file : (o : Option File) → ◌≡◌ {A = FileResult} (ok_or (option_map blank_file o) errno.NoObject) (result_with blank_file (ok_or o errno.NoObject))
    by_file None = refl
    by_file (Some file) = refl

abbrev grows : Flat → ℕ → ℕ → File → FileResult
grows F f end file = ok_or (growth_in F f file (pages_in end)) errno.TooBig >>= λ extents. Ok (with_extents_of extents file)

abbrev writes : File → FileResult
writes file = check file.writable errno.ReadOnly >> Ok file

room-blank : (F : Flat) (f end : ℕ) → room_for (without_bytes F) f end ≡ result_with blank_file (room_for F f end)
unfolding room_for writable_file
room-blank F f end = ap (λ (o : FileResult). (o >>= writes) >>= grows (without_bytes F) f end) (existing-blank F f) ∙ by_file (slice_get F.files f)
  where
    by_growth : (file : File) (o : Option (List Extent)) → ◌≡◌ {A = FileResult} (ok_or o errno.TooBig >>= λ extents. Ok (with_extents_of extents (blank_file file))) (result_with blank_file (ok_or o errno.TooBig >>= λ extents. Ok (with_extents_of extents file)))
    by_growth file None = refl
    by_growth file (Some extents) = refl

    by_mode : (file : File) (b : Bool) → ◌≡◌ {A = FileResult} ((check b errno.ReadOnly >> Ok (blank_file file)) >>= grows (without_bytes F) f end) (result_with blank_file ((check b errno.ReadOnly >> Ok file) >>= grows F f end))
    by_mode file true = ap (λ (o : Option (List Extent)). ok_or o errno.TooBig >>= λ extents. Ok (with_extents_of extents (blank_file file))) (growth-blank F f file (pages_in end)) ∙ by_growth file (growth_in F f file (pages_in end))
    by_mode file false = refl

    by_file : (o : Option File) → ◌≡◌ {A = FileResult} ((result_with blank_file (ok_or o errno.NoObject) >>= writes) >>= grows (without_bytes F) f end) (result_with blank_file ((ok_or o errno.NoObject >>= writes) >>= grows F f end))
    by_file None = refl
    by_file (Some file) = by_mode file file.writable

-- A MAPPING
replaced-same : (F G : Flat) (p : ℕ) (place : Place) (n : ℕ) → SameShape F G → SameShape (without_replaced F p place n) (without_replaced G p place n)
replaced-same F G p (At a) n same = same-space F G p (without_range (cells_of F p) (page a) n) (without_range (cells_of G p) (page a) n) same (range-same (cells_of F p) (cells_of G p) (page a) n (same-cells F G p same))
replaced-same F G p Any n same = same

max-blank : (F : Flat) (k : Kind) (o : Object) → max_of (without_bytes F) k o ≡ max_of F k o
max-blank F Shared (object.File f) = ap (λ (x : Option File). option_map_or (λ (file : File). if file.writable then prot_read_write else prot_read) x prot_read_write) (slice_get-map blank_file F.files f) ∙ by_file (slice_get F.files f)
  where
    by_file : (x : Option File) → option_map_or (λ (file : File). if file.writable then prot_read_write else prot_read) (option_map blank_file x) prot_read_write ≡ option_map_or (λ (file : File). if file.writable then prot_read_write else prot_read) x prot_read_write
    by_file None = refl
    by_file (Some file) = refl
max-blank F Shared (object.Zero z) = refl
max-blank F Shared object.NewZero = refl
max-blank F Private o = refl

there-blank : (F : Flat) (o : Object) → is_there (without_bytes F) o ≡ is_there F o
there-blank F o = ap (λ (b : Bool). is_new_zero o || b) (ap is_some (pages-blank F o) ∙ by_pages (pages_of F o))
  where
    by_pages : (x : Option (List Page)) → is_some (option_map blank_pages x) ≡ is_some x
    by_pages None = refl
    by_pages (Some ps) = refl

object-same : (F G : Flat) (k : Kind) (o : Object) → SameShape F G → object_for F k o ≡ object_for G k o
object-same F G Shared object.NewZero same = ap (λ (z : ℕ). object.Zero z) (same-number F G same)
object-same F G Shared (object.File f) same = refl
object-same F G Shared (object.Zero z) same = refl
object-same F G Private o same = refl

object-blank : (G : Flat) (k : Kind) (o : Object) (n : ℕ) → without_bytes (with_object G k o n) ≡ with_object (without_bytes G) k o n
object-blank G Shared object.NewZero n =
    let zeros = map-insert blank_pages G.zeros (new_number G) (replicate n zero_page) ∙ (λ i. finite.insert (map_with blank_pages G.zeros) (sym (new_number-blank G) i) (blank-zeros n i)) in
    λ i. record (without_bytes G) { zeros = zeros i }
object-blank G Shared (object.File f) n = refl
object-blank G Shared (object.Zero z) n = refl
object-blank G Private o n = refl

with_object-same : (F G : Flat) (k : Kind) (o : Object) (n : ℕ) → SameShape F G → SameShape (with_object F k o n) (with_object G k o n)
with_object-same F G k o n same = object-blank F k o n ∙ ap (λ (H : Flat). with_object H k o n) same ∙ sym (object-blank G k o n)

mapping-blank : (F : Flat) (p : ℕ) (r : Request) (first : ℕ) → SameShape (with_mapping (without_bytes F) p r first) (with_mapping F p r first)
mapping-blank F p r first =
    let n = pages_in r.len in
    let B = without_bytes F in
    let H = without_replaced B p r.place n in
    let G = without_replaced F p r.place n in
    let same : SameShape H G = replaced-same B F p r.place n (twice F) in
    let most = max-blank F r.kind r.object in
    let named = object-same H G r.kind r.object same in
    let cells : (i : ℕ) → blank_cell (new_cell B H r i) ≡ blank_cell (new_cell F G r i) = λ k i. blank_cell (record { prot = r.prot; max = most i; kind = r.kind; object = named i; index = page r.offset + k; own = own_for r.kind r.object }) in
    same-unnamed (with_space (with_object H r.kind r.object n) p (with_cells (cells_of H p) first n (new_cell B H r))) (with_space (with_object G r.kind r.object n) p (with_cells (cells_of G p) first n (new_cell F G r)))
    (same-space (with_object H r.kind r.object n) (with_object G r.kind r.object n) p (with_cells (cells_of H p) first n (new_cell B H r)) (with_cells (cells_of G p) first n (new_cell F G r)) (with_object-same H G r.kind r.object n same)
    (new-cells-same (cells_of H p) (cells_of G p) first n (new_cell B H r) (new_cell F G r) (same-cells H G p same) cells))

abbrev MapResult : Type 0
MapResult = Result (ℕ × Flat) Errno

-- what a Map answers, by its tests
abbrev tested : Bool → Bool → Bool → Bool → Option ℕ → (ℕ → Bool) → (ℕ → Flat) → MapResult
tested valid there within few first backed after = do
  check valid errno.Invalid
  check there errno.NoObject
  check within errno.Access
  check few errno.TooLarge
  x ← ok_or first errno.NoRoom
  check (backed x) errno.NoSwap
  Ok (x, after x)

tested-with : (valid there within few : Bool) (first : Option ℕ) (backed : ℕ → Bool) (after other : ℕ → Flat) → tested valid there within few first backed other ≡ result_with (λ (m : ℕ × Flat). (m.0, other m.0)) (tested valid there within few first backed after)
tested-with false there within few first backed after other = refl
tested-with true false within few first backed after other = refl
tested-with true true false few first backed after other = refl
tested-with true true true false first backed after other = refl
tested-with true true true true None backed after other = refl
tested-with true true true true (Some x) backed after other = by_slots (backed x)
  where
    by_slots : (b : Bool) → ◌≡◌ {A = MapResult} (check b errno.NoSwap >> Ok (x, other x)) (result_with (λ (m : ℕ × Flat). (m.0, other m.0)) (check b errno.NoSwap >> Ok (x, after x)))
    by_slots true = refl
    by_slots false = refl

first-same : (s t : Space) (place : Place) (n : ℕ) → blank_space s ≡ blank_space t → first_page s place n ≡ first_page t place n
first-same s t (At a) n same = refl
first-same s t Any n same = sym (gap-blank s n) ∙ ap (λ (u : Space). lowest_gap u n) same ∙ gap-blank t n

map-blank : (F : Flat) (p : ℕ) (r : Request) → map_result (without_bytes F) p r ≡ result_with (λ (m : ℕ × Flat). (m.0, with_mapping (without_bytes F) p r m.0)) (map_result F p r)
unfolding map_result
map-blank F p r =
    let n = pages_in r.len in
    let B = without_bytes F in
    let s = cells_of (without_replaced B p r.place n) p in
    let t = cells_of (without_replaced F p r.place n) p in
    let cells : blank_space s ≡ blank_space t = same-cells (without_replaced B p r.place n) (without_replaced F p r.place n) p (replaced-same B F p r.place n (twice F)) in
    let there = there-blank F r.object in
    let most = max-blank F r.kind r.object in
    let count = sym (len-map_with blank_cell s) ∙ ap finite.len cells ∙ len-map_with blank_cell t in
    let first = first-same s t r.place n cells in
    let slots : (x : ℕ) → reserved (with_mapping B p r x) ≡ reserved (with_mapping F p r x) = λ x. same-reserved (with_mapping B p r x) (with_mapping F p r x) (mapping-blank F p r x) in
    (λ i. tested (is_valid r) (there i) (is_within r.prot (most i)) (nat_le (count i + n) 65536) (first i) (λ x. nat_le (slots x i) F.slots) (with_mapping B p r))
    ∙ tested-with (is_valid r) (is_there F r.object) (is_within r.prot (max_of F r.kind r.object)) (nat_le (finite.len t + n) 65536) (first_page t r.place n) (λ x. nat_le (reserved (with_mapping F p r x)) F.slots) (with_mapping F p r) (with_mapping B p r)

valid-blank : (F : Flat) (p a len : ℕ) → valid_range (without_bytes F) p a len ≡ valid_range F p a len
unfolding valid_range
valid-blank F p a len = ap (λ (b : Bool). check (is_range a len) errno.Invalid >> check b errno.NotMapped) (ap (λ (s : Space). are_mapped s (page a) (pages_in len)) (cells-blank F p) ∙ mapped-blank (cells_of F p) (page a) (pages_in len))

-- A CALL, over flat memory without bytes and as it is
record Alike (x y : Effect) : Type 0 where
  refusal : refusal_in x.reply ≡ refusal_in y.reply
  after : SameShape x.after y.after

by-signal : {A B : Type 0} (F : Flat) (f : A → B) (g : B → Effect) (h : A → Effect) (s : Result B Signal) (r : Result A Signal) → s ≡ result_with f r → ((x : A) → r ≡ Ok x → Alike (g (f x)) (h x)) → Alike (or_signal (without_bytes F) g s) (or_signal F h r)
by-signal {A} F f g h s r is each = subst (λ x. Alike (or_signal (without_bytes F) g x) (or_signal F h r)) (sym is) (by_result r each)
  where
    by_result : (r : Result A Signal) → ((x : A) → r ≡ Ok x → Alike (g (f x)) (h x)) → Alike (or_signal (without_bytes F) g (result_with f r)) (or_signal F h r)
    by_result (Ok x) each = each x refl
    by_result (Err e) each = record { refusal = refl; after = twice F }

by-refusal : {A B : Type 0} (F : Flat) (f : A → B) (g : B → Effect) (h : A → Effect) (s : Result B Errno) (r : Result A Errno) → s ≡ result_with f r → ((x : A) → r ≡ Ok x → Alike (g (f x)) (h x)) → Alike (or_refused (without_bytes F) g s) (or_refused F h r)
by-refusal {A} F f g h s r is each = subst (λ x. Alike (or_refused (without_bytes F) g x) (or_refused F h r)) (sym is) (by_result r each)
  where
    by_result : (r : Result A Errno) → ((x : A) → r ≡ Ok x → Alike (g (f x)) (h x)) → Alike (or_refused (without_bytes F) g (result_with f r)) (or_refused F h r)
    by_result (Ok x) each = each x refl
    by_result (Err e) each = record { refusal = refl; after = twice F }

as-it-is : {A E : Type 0} (r : Result A E) → r ≡ result_with (λ x. x) r
as-it-is (Ok x) = refl
as-it-is (Err e) = refl

effect-blank : (F : Flat) (p : ℕ) (call : Call) → Alike (effect (without_bytes F) p call) (effect F p call)
effect-blank F p (Load a n) = by-signal F blank_met (λ m. record { reply = reply.Word (word_at m.1 a n); after = without_bytes F }) (λ m. record { reply = reply.Word (word_at m.1 a n); after = F })
    (access_target (without_bytes F) p can_read a n) (access_target F p can_read a n) (access-blank F p can_read a n) (λ m met. record { refusal = refl; after = twice F })
effect-blank F p (Store a n v) = by-signal F blank_met (λ m. done_effect (with_page_stored (without_bytes F) p (page a) m.0 (word_put m.1 a n v))) (λ m. done_effect (with_page_stored F p (page a) m.0 (word_put m.1 a n v)))
    (access_target (without_bytes F) p can_write a n) (access_target F p can_write a n) (access-blank F p can_write a n)
    (λ m met. record { refusal = refl; after = stored-blank F p (page a) m.0 (word_put zero_page a n v) (word_put m.1 a n v) })
effect-blank F p (Map place len prot kind object offset) =
    let r : Request = record { place = place; len = len; prot = prot; kind = kind; object = object; offset = offset } in
    by-refusal F (λ (m : ℕ × Flat). (m.0, with_mapping (without_bytes F) p r m.0)) (λ m. record { reply = reply.Mapped (4096 * m.0); after = m.1 }) (λ m. record { reply = reply.Mapped (4096 * m.0); after = m.1 })
    (map_result (without_bytes F) p r) (map_result F p r) (map-blank F p r)
    (λ m met. record { refusal = refl; after = mapping-blank F p r m.0 ∙ ap without_bytes (sym (mapped-map_result F p r m.0 m.1 met).after) })
effect-blank F p (Unmap a len) =
    let n = pages_in len in
    by-refusal F (λ x. x) (λ _. done_effect (without_pages (without_bytes F) p (page a) n)) (λ _. done_effect (without_pages F p (page a) n)) (check (is_range a len) errno.Invalid) (check (is_range a len) errno.Invalid)
    (as-it-is (check (is_range a len) errno.Invalid)) (λ x met. record { refusal = refl; after = pages-same (without_bytes F) F p (page a) n (twice F) })
effect-blank F p (Protect a len prot) =
    let n = pages_in len in
    let may = ap (λ (s : Space). may_have s (page a) n prot) (cells-blank F p) ∙ may_have-blank (cells_of F p) (page a) n prot in
    by-refusal F (λ x. x) (λ _. done_effect (with_space (without_bytes F) p (with_prots (cells_of (without_bytes F) p) (page a) n prot))) (λ _. done_effect (with_space F p (with_prots (cells_of F p) (page a) n prot)))
    (valid_range (without_bytes F) p a len >> check (may_have (cells_of (without_bytes F) p) (page a) n prot) errno.Access) (valid_range F p a len >> check (may_have (cells_of F p) (page a) n prot) errno.Access)
    ((λ i. valid-blank F p a len i >> check (may i) errno.Access) ∙ as-it-is (valid_range F p a len >> check (may_have (cells_of F p) (page a) n prot) errno.Access))
    (λ x met. record { refusal = refl; after = prots-same (without_bytes F) F p (page a) n prot (twice F) })
effect-blank F p (Sync a len) = by-refusal F (λ x. x) (λ _. record { reply = reply.Synced 0; after = without_bytes F }) (λ _. record { reply = reply.Synced 0; after = F }) (valid_range (without_bytes F) p a len) (valid_range F p a len)
    (valid-blank F p a len ∙ as-it-is (valid_range F p a len)) (λ x met. record { refusal = refl; after = twice F })
effect-blank F p (Read f offset len) = by-refusal F blank_file (λ file. record { reply = reply.Bytes (read_line file offset len); after = without_bytes F }) (λ file. record { reply = reply.Bytes (read_line file offset len); after = F })
    (existing_file (without_bytes F) f) (existing_file F f) (existing-blank F f) (λ file met. record { refusal = refl; after = twice F })
effect-blank F p (Write f offset line rest) =
    let end = offset + length line in
    by-refusal F blank_file (λ file. done_effect (with_file_at (without_bytes F) f (with_part offset line file))) (λ file. done_effect (with_file_at F f (with_part offset line file)))
    (room_for (without_bytes F) f end) (room_for F f end) (room-blank F f end)
    (λ file met. record { refusal = refl; after = file-same (without_bytes F) F f (with_part offset line (blank_file file)) (with_part offset line file) (twice F) (part-blank offset line file) })
effect-blank F p (Truncate f len) = by-refusal F blank_file (λ file. done_effect (with_file_at (without_bytes F) f (file_of_length len file))) (λ file. done_effect (with_file_at F f (file_of_length len file)))
    (room_for (without_bytes F) f len) (room_for F f len) (room-blank F f len)
    (λ file met. record { refusal = refl; after = file-same (without_bytes F) F f (file_of_length len (blank_file file)) (file_of_length len file) (twice F) (length-blank len file) })
effect-blank F p (Fork child) =
    let more = λ (G : Flat). reserved G + private_cells (cells_of G p) in
    let same : more (without_bytes F) ≡ more F = λ i. reserved-blank F i + same-private (without_bytes F) F p (twice F) i in
    by-refusal F (λ x. x) (λ _. done_effect (with_child (without_bytes F) p child)) (λ _. done_effect (with_child F p child)) (check (nat_le (more (without_bytes F)) F.slots) errno.NoSwap) (check (nat_le (more F) F.slots) errno.NoSwap)
    (ap (λ (k : ℕ). check (nat_le k F.slots) errno.NoSwap) same ∙ as-it-is (check (nat_le (more F) F.slots) errno.NoSwap))
    (λ x met. record { refusal = refl; after = child-same (without_bytes F) F p child (twice F) })
effect-blank F p Exit = record { refusal = refl; after = process-same (without_bytes F) F p (twice F) }

-- BY SHAPE
effects-same : (F G : Flat) (p : ℕ) (call : Call) → SameShape F G → Alike (effect F p call) (effect G p call)
effects-same F G p call same =
    let a = effect-blank F p call in
    let b = effect-blank G p call in
    let between : effect (without_bytes F) p call ≡ effect (without_bytes G) p call = ap (λ (H : Flat). effect H p call) same in
    record { refusal = sym a.refusal ∙ ap (λ (x : Effect). refusal_in x.reply) between ∙ b.refusal; after = sym a.after ∙ ap (λ (x : Effect). without_bytes x.after) between ∙ b.after }

acted : (F G : Flat) (p : ℕ) (call : Call) (cleared : ℕ) (r : Reply) → SameShape F G → SameShape (effect F p call).after (effect G p call).after
    → SameShape (after_act F (record { process = p; call = call; reply = r; cleared = cleared })) (after_act G (record { process = p; call = call; reply = r; cleared = cleared }))
acted F G p call cleared (reply.Io disk before after) same new = same
acted F G p call cleared r same new = new

pub act-same : (e : Entry) (F G : Flat) → SameShape F G → SameShape (after_act F e) (after_act G e)
act-same e F G same = acted F G e.process e.call e.cleared e.reply same (effects-same F G e.process e.call same).after

pub step-same : (F G : Flat) (e : Entry) → SameShape F G → SameShape (after_act F e) (step G e)
step-same F G e same = act-same e F (tails_cleared G (is_bit_set e.cleared)) (same ∙ sym (tails-same G (is_bit_set e.cleared)))

-- AN ENTRY MORE that has what is due
one-more : (F : Flat) (H : List Entry) (e : Entry) → RefusesAsDue F H → (IsFalse (is_io e.reply) → refusal_in (effect (replay F H) e.process e.call).reply ≡ refusal_in e.reply) → RefusesAsDue F (H ++ e ∷ [])
one-more F H e due last k d at own = elim (slice_get-cases H e d k at) [
  | inl h ↦
      let front : take k (H ++ e ∷ []) ≡ take k H = take-append-le k H (e ∷ []) (let lt = h.0 in omega (arith, lt)) in
      ap (λ (K : List Entry). refusal_in (effect (replay F K) d.process d.call).reply) front ∙ due k d h.1 own
  | inr h ↦
      let all : take k (H ++ e ∷ []) ≡ H = ap (λ (j : ℕ). take j (H ++ e ∷ [])) h.0 ∙ take_at H (e ∷ []) (length H) refl in
      subst (λ (x : Entry). refusal_in (effect (replay F (take k (H ++ e ∷ []))) x.process x.call).reply ≡ refusal_in x.reply) h.1
      (ap (λ (K : List Entry). refusal_in (effect (replay F K) e.process e.call).reply) all ∙ last (subst (λ (x : Entry). IsFalse (is_io x.reply)) (sym h.1) own))
]

pub keeps_shape_law : KeepsShape
keeps_shape_law = record { refusal = λ F G p call same. (effects-same F G p call same).refusal; acts = act-same; steps = step-same; cleared = tails-same; one_more = one-more }
