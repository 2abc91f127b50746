-- What of flat memory isn't bytes: the cells, the names of zero objects, what they reserve, and what an access meets.
use Rattle.std.proofs.Common.{◌≡◌, ℕ, zero, suc, ◌+◌, ◌%◌, Bool, true, false, ◌||◌, List, [], ◌∷◌, ◌++◌, length, map, replicate, Option, Some, None, Result, Ok, Err, refl, sym, ap, ◌∙◌}
use Rattle.std.specs.Prelude.{◌==◌, nat_le, slice_get, slice_set, option_map, option_and_then, unwrap_or, is_some, ok_or, sum_by, filter_map, flat_map, if◌then◌else◌}
use Rattle.std.specs.Option.{option_or, option_map_or}
use Rattle.std.specs.List.{list_any, cons_option}
use Rattle.std.specs.FinMap as finite
use Rattle.std.specs.Ordering.{nat_cmp}
use Rattle.std.proofs.lemmas.List.{length-replicate, length-set}
use Rattle.std.proofs.lemmas.Option.{slice_get-map}
use Rattle.vm_types.specs.declared.prot.Prot.{Prot}
use Rattle.vm_types.specs.declared.call.Kind.TheVariants.{Shared, Private}
use Rattle.vm_types.specs.declared.call.Object.{Object}
use Rattle.vm_types.specs.declared.call.Object.TheVariants as object
use Rattle.vm_types.specs.declared.call.Signal.{Signal}
use Rattle.vm_types.specs.declared.call.Signal.TheVariants as signal
use Rattle.vm_types.specs.Prot.{is_within}
use Rattle.flat_model.specs.Access.{access_target, file_with_page, with_cell, with_change_at, with_page, with_page_stored, with_space}
use Rattle.flat_model.specs.Flat.{Cell, File, Flat, Space, cell_at, is_named, named_zeros_in, pages_of, private_cells, reserved, shown, slots_for, space_of, without_unnamed, zero_of}
use Rattle.flat_model.specs.Mapping.{are_mapped, cells_of, least_from, may_have, new_number, set_of}
use Rattle.flat_model.specs.Refusals.{◌>>=◌, ◌>>◌, check}
use Rattle.flat_model.specs.Shapes.{RespectsShape, SameShape, blank_cell, blank_file, blank_pages, blank_space, map_with, without_bytes}
use Rattle.flat_model.specs.Space.{all_pages, is_in_range, lowest_gap, lowest_gap_from, with_cells, with_prot, with_prots, without_range}
use Rattle.flat_model.specs.Words.{Page, page, zero_page}
use Rattle.flat_model.proofs.Ranges.{get-with_prots, same_space}
use Rattle.flat_model.proofs.Values.{entries-map_with, get-map_with, map-empty, map-insert, map-retain_keys, map_with-twice, sum-map_with, values-map_with}

-- PAGES
pub blank-zeros : (n : ℕ) → blank_pages (replicate n zero_page) ≡ replicate n zero_page
blank-zeros n = ap (λ (k : ℕ). replicate k zero_page) (length-replicate n zero_page)

blank-twice : (pages : List Page) → blank_pages (blank_pages pages) ≡ blank_pages pages
blank-twice pages = blank-zeros (length pages)

slice_get-blank : (pages : List Page) (i : ℕ) → slice_get (blank_pages pages) i ≡ option_map (λ page. zero_page) (slice_get pages i)
slice_get-blank [] i = refl
slice_get-blank (x ∷ pages) zero = refl
slice_get-blank (x ∷ pages) (suc i) = slice_get-blank pages i

own-twice : (own : Option Page) → option_map (λ (page : Page). zero_page) (option_map (λ (page : Page). zero_page) own) ≡ option_map (λ (page : Page). zero_page) own
own-twice None = refl
own-twice (Some page) = refl

cell-twice : (c : Cell) → blank_cell (blank_cell c) ≡ blank_cell c
cell-twice c = λ i. record c { own = own-twice c.own i }

space-twice : (s : Space) → blank_space (blank_space s) ≡ blank_space s
space-twice s = map_with-twice blank_cell blank_cell blank_cell s cell-twice

files-twice : (files : List File) → map blank_file (map blank_file files) ≡ map blank_file files
files-twice [] = refl
files-twice (file ∷ files) = λ i. record file { pages = blank-twice file.pages i } ∷ files-twice files i

-- what is without bytes stays as it is
pub twice : (F : Flat) → SameShape (without_bytes F) F
twice F = λ i. record F { files = files-twice F.files i; zeros = map_with-twice blank_pages blank_pages blank_pages F.zeros blank-twice i; spaces = map_with-twice blank_space blank_space blank_space F.spaces space-twice i }

-- what gives the same of flat memory without bytes respects shapes
pub respects-by : (f : Flat → Flat) → ((F : Flat) → SameShape (f (without_bytes F)) (f F)) → RespectsShape f
respects-by f each F G same = sym (each F) ∙ ap (λ (H : Flat). without_bytes (f H)) same ∙ each G

-- CELLS
space-blank : (F : Flat) (p : ℕ) → space_of (without_bytes F) p ≡ option_map blank_space (space_of F p)
space-blank F p = get-map_with blank_space F.spaces p

pub cells-blank : (F : Flat) (p : ℕ) → cells_of (without_bytes F) p ≡ blank_space (cells_of F p)
cells-blank F p = ap (λ (o : Option Space). unwrap_or o finite.empty) (space-blank F p) ∙ by_space (space_of F p)
  where
    by_space : (o : Option Space) → unwrap_or (option_map blank_space o) finite.empty ≡ blank_space (unwrap_or o finite.empty)
    by_space None = sym (map-empty blank_cell)
    by_space (Some s) = refl

pub cell-blank : (F : Flat) (p q : ℕ) → cell_at (without_bytes F) p q ≡ option_map blank_cell (cell_at F p q)
cell-blank F p q = ap (option_and_then (λ (s : Space). finite.get s q)) (space-blank F p) ∙ by_space (space_of F p)
  where
    by_space : (o : Option Space) → option_and_then (λ (s : Space). finite.get s q) (option_map blank_space o) ≡ option_map blank_cell (option_and_then (λ (s : Space). finite.get s q) o)
    by_space None = refl
    by_space (Some s) = get-map_with blank_cell s q

pub pages-blank : (F : Flat) (o : Object) → pages_of (without_bytes F) o ≡ option_map blank_pages (pages_of F o)
pages-blank F (object.File f) = ap (option_map (λ (file : File). file.pages)) (slice_get-map blank_file F.files f) ∙ by_file (slice_get F.files f)
  where
    by_file : (o : Option File) → option_map (λ (file : File). file.pages) (option_map blank_file o) ≡ option_map blank_pages (option_map (λ (file : File). file.pages) o)
    by_file None = refl
    by_file (Some file) = refl
pages-blank F (object.Zero z) = get-map_with blank_pages F.zeros z
pages-blank F object.NewZero = refl

shown-blank : (F : Flat) (c : Cell) → shown (without_bytes F) (blank_cell c) ≡ option_map (λ page. zero_page) (shown F c)
shown-blank F c = ap (λ (o : Option (List Page)). option_or (option_map (λ (page : Page). zero_page) c.own) (option_and_then (λ ps. slice_get ps c.index) o)) (pages-blank F c.object) ∙ by_own c.own (pages_of F c.object)
  where
    by_own : (own : Option Page) (o : Option (List Page)) → option_or (option_map (λ (page : Page). zero_page) own) (option_and_then (λ ps. slice_get ps c.index) (option_map blank_pages o)) ≡ option_map (λ (page : Page). zero_page) (option_or own (option_and_then (λ ps. slice_get ps c.index) o))
    by_own (Some page) o = refl
    by_own None None = refl
    by_own None (Some ps) = slice_get-blank ps c.index

-- NAMES of zero objects
names-blank : (cs : List Cell) → filter_map zero_of (map blank_cell cs) ≡ filter_map zero_of cs
names-blank [] = refl
names-blank (c ∷ cs) = ap (cons_option (zero_of c)) (names-blank cs)

named-blank : (spaces : finite.FinMap nat_cmp Space) → named_zeros_in (map_with blank_space spaces) ≡ named_zeros_in spaces
named-blank spaces = ap (flat_map (λ (s : Space). filter_map zero_of (finite.values s))) (values-map_with blank_space spaces) ∙ each (finite.values spaces)
  where
    here : (s : Space) → filter_map zero_of (finite.values (blank_space s)) ≡ filter_map zero_of (finite.values s)
    here s = ap (filter_map zero_of) (values-map_with blank_cell s) ∙ names-blank (finite.values s)

    each : (ss : List Space) → flat_map (λ (s : Space). filter_map zero_of (finite.values s)) (map blank_space ss) ≡ flat_map (λ (s : Space). filter_map zero_of (finite.values s)) ss
    each [] = refl
    each (s ∷ ss) = λ i. here s i ++ each ss i

pub is_named-blank : (F : Flat) (z : ℕ) → is_named (without_bytes F) z ≡ is_named F z
is_named-blank F z = ap (list_any (λ y. z == y)) (named-blank F.spaces)

pub new_number-blank : (F : Flat) → new_number (without_bytes F) ≡ new_number F
new_number-blank F = ap (λ (ns : List ℕ). least_from 0 (finite.keys (set_of ns))) (named-blank F.spaces)

pub unnamed-blank : (F : Flat) → without_bytes (without_unnamed F) ≡ without_unnamed (without_bytes F)
unnamed-blank F = λ i. record (without_bytes F) { zeros = map-retain_keys blank_pages F.zeros (is_named F) (is_named (without_bytes F)) (λ z. sym (is_named-blank F z)) i }

-- WHAT IS RESERVED
private-blank : (s : Space) → private_cells (blank_space s) ≡ private_cells s
private-blank s = sum-map_with slots_for blank_cell slots_for s (λ c. refl)

pub reserved-blank : (F : Flat) → reserved (without_bytes F) ≡ reserved F
reserved-blank F =
    let cells = sum-map_with private_cells blank_space private_cells F.spaces private-blank in
    let zeros = ap (λ (G : Flat). sum_by length (finite.values G.zeros)) (sym (unnamed-blank F)) ∙ sum-map_with length blank_pages length (without_unnamed F).zeros (λ (ps : List Page). length-replicate (length ps) zero_page) in
    λ i. cells i + zeros i

-- SPACES of one process
pub with_space-blank : (F : Flat) (p : ℕ) (s : Space) → without_bytes (with_space F p s) ≡ with_space (without_bytes F) p (blank_space s)
with_space-blank F p s = λ i. record (without_bytes F) { spaces = map-insert blank_space F.spaces p s i }

pub without_range-blank : (s : Space) (first n : ℕ) → blank_space (without_range s first n) ≡ without_range (blank_space s) first n
without_range-blank s first n = map-retain_keys blank_cell s _ _ (λ q. refl)

pub with_cells-blank : (s : Space) (first n : ℕ) (cell : ℕ → Cell) → blank_space (with_cells s first n cell) ≡ with_cells (blank_space s) first n (λ i. blank_cell (cell i))
with_cells-blank s first zero cell = refl
with_cells-blank s first (suc n) cell = map-insert blank_cell (with_cells s first n cell) (first + n) (cell n) ∙ ap (λ (t : Space). finite.insert t (first + n) (blank_cell (cell n))) (with_cells-blank s first n cell)

pub with_prots-blank : (s : Space) (first n : ℕ) (prot : Prot) → blank_space (with_prots s first n prot) ≡ with_prots (blank_space s) first n prot
with_prots-blank s first n prot = same_space _ _ (λ q.
    get-map_with blank_cell (with_prots s first n prot) q ∙ ap (option_map blank_cell) (get-with_prots s first n prot q) ∙ by_cell q (finite.get s q)
    ∙ ap (option_map (with_prot first n prot q)) (sym (get-map_with blank_cell s q)) ∙ sym (get-with_prots (blank_space s) first n prot q))
  where
    turned : (b : Bool) (c : Cell) → blank_cell (if b then record c { prot = prot } else c) ≡ (if b then record (blank_cell c) { prot = prot } else blank_cell c)
    turned true c = refl
    turned false c = refl

    by_cell : (q : ℕ) (o : Option Cell) → option_map blank_cell (option_map (with_prot first n prot q) o) ≡ option_map (with_prot first n prot q) (option_map blank_cell o)
    by_cell q None = refl
    by_cell q (Some c) = ap (λ (d : Cell). Some d) (turned (is_in_range first n q) c)

pub gap-blank : (s : Space) (n : ℕ) → lowest_gap (blank_space s) n ≡ lowest_gap s n
gap-blank s n = ap (lowest_gap_from 1 n) (entries-map_with blank_cell s) ∙ along 1 (finite.entries s)
  where
    along : (a : ℕ) (es : List (ℕ × Cell)) → lowest_gap_from a n (map (λ (e : ℕ × Cell). (e.0, blank_cell e.1)) es) ≡ lowest_gap_from a n es
    along a [] = refl
    along a (e ∷ es) = ap (λ (o : Option ℕ). if nat_le (a + n) e.0 then Some a else o) (along (e.0 + 1) es)

pub mapped-blank : (s : Space) (first n : ℕ) → are_mapped (blank_space s) first n ≡ are_mapped s first n
mapped-blank s first n = λ i. all_pages (λ q. here q i) first n
  where
    by_cell : (o : Option Cell) → is_some (option_map blank_cell o) ≡ is_some o
    by_cell None = refl
    by_cell (Some c) = refl

    here : (q : ℕ) → is_some (finite.get (blank_space s) q) ≡ is_some (finite.get s q)
    here q = ap is_some (get-map_with blank_cell s q) ∙ by_cell (finite.get s q)

pub may_have-blank : (s : Space) (first n : ℕ) (prot : Prot) → may_have (blank_space s) first n prot ≡ may_have s first n prot
may_have-blank s first n prot = λ i. all_pages (λ q. here q i) first n
  where
    by_cell : (o : Option Cell) → option_map_or (λ (c : Cell). is_within prot c.max) (option_map blank_cell o) true ≡ option_map_or (λ (c : Cell). is_within prot c.max) o true
    by_cell None = refl
    by_cell (Some c) = refl

    here : (q : ℕ) → option_map_or (λ (c : Cell). is_within prot c.max) (finite.get (blank_space s) q) true ≡ option_map_or (λ (c : Cell). is_within prot c.max) (finite.get s q) true
    here q = ap (λ (o : Option Cell). option_map_or (λ (c : Cell). is_within prot c.max) o true) (get-map_with blank_cell s q) ∙ by_cell (finite.get s q)

-- BY SHAPE
pub same-cells : (F G : Flat) (p : ℕ) → SameShape F G → blank_space (cells_of F p) ≡ blank_space (cells_of G p)
same-cells F G p same = sym (cells-blank F p) ∙ ap (λ (H : Flat). cells_of H p) same ∙ cells-blank G p

pub same-space : (F G : Flat) (p : ℕ) (s t : Space) → SameShape F G → blank_space s ≡ blank_space t → SameShape (with_space F p s) (with_space G p t)
same-space F G p s t same here = with_space-blank F p s ∙ (λ i. with_space (same i) p (here i)) ∙ sym (with_space-blank G p t)

pub same-unnamed : (F G : Flat) → SameShape F G → SameShape (without_unnamed F) (without_unnamed G)
same-unnamed F G same = unnamed-blank F ∙ ap without_unnamed same ∙ sym (unnamed-blank G)

pub same-reserved : (F G : Flat) → SameShape F G → reserved F ≡ reserved G
same-reserved F G same = sym (reserved-blank F) ∙ ap reserved same ∙ reserved-blank G

pub same-private : (F G : Flat) (p : ℕ) → SameShape F G → private_cells (cells_of F p) ≡ private_cells (cells_of G p)
same-private F G p same = sym (private-blank (cells_of F p)) ∙ ap private_cells (same-cells F G p same) ∙ private-blank (cells_of G p)

pub same-number : (F G : Flat) → SameShape F G → new_number F ≡ new_number G
same-number F G same = sym (new_number-blank F) ∙ ap new_number same ∙ new_number-blank G

-- AN ACCESS
-- the result with its value changed
abbrev pub result_with : {A B E : Type 0} → (A → B) → Result A E → Result B E
result_with f (Ok x) = Ok (f x)
result_with f (Err e) = Err e

-- what is met, but for bytes
abbrev pub blank_met : Cell × Page → Cell × Page
blank_met m = (blank_cell m.0, zero_page)

abbrev Met : Type 0
Met = Result (Cell × Page) Signal

abbrev shows : Flat → Cell → Met
shows F cell = ok_or (shown F cell) signal.Past >>= λ bytes. Ok (cell, bytes)

abbrev allows : Flat → (Prot → Bool) → Cell → Met
allows F may cell = check (may cell.prot) signal.Prot >> shows F cell

pub access-blank : (F : Flat) (p : ℕ) (may : Prot → Bool) (a n : ℕ) → access_target (without_bytes F) p may a n ≡ result_with blank_met (access_target F p may a n)
unfolding access_target
access-blank F p may a n = by_align (a % n == 0)
  where
    by_shown : (c : Cell) (o : Option Page) → ◌≡◌ {A = Met} (ok_or (option_map (λ (page : Page). zero_page) o) signal.Past >>= λ bytes. Ok (blank_cell c, bytes)) (result_with blank_met (ok_or o signal.Past >>= λ bytes. Ok (c, bytes)))
    by_shown c None = refl
    by_shown c (Some page) = refl

    by_may : (b : Bool) (c : Cell) → ◌≡◌ {A = Met} (check b signal.Prot >> shows (without_bytes F) (blank_cell c)) (result_with blank_met (check b signal.Prot >> shows F c))
    by_may true c = ap (λ (o : Option Page). ok_or o signal.Past >>= λ bytes. Ok (blank_cell c, bytes)) (shown-blank F c) ∙ by_shown c (shown F c)
    by_may false c = refl

    by_cell : (o : Option Cell) → ◌≡◌ {A = Met} (ok_or (option_map blank_cell o) signal.NoMap >>= allows (without_bytes F) may) (result_with blank_met (ok_or o signal.NoMap >>= allows F may))
    by_cell None = refl
    by_cell (Some c) = by_may (may c.prot) c

    by_align : (b : Bool) → ◌≡◌ {A = Met} (check b signal.Align >> (ok_or (cell_at (without_bytes F) p (page a)) signal.NoMap >>= allows (without_bytes F) may)) (result_with blank_met (check b signal.Align >> (ok_or (cell_at F p (page a)) signal.NoMap >>= allows F may)))
    by_align true = ap (λ (o : Option Cell). ok_or o signal.NoMap >>= allows (without_bytes F) may) (cell-blank F p (page a)) ∙ by_cell (cell_at F p (page a))
    by_align false = refl

-- A PAGE THAT IS STORED
page-put : (i : ℕ) (new : Page) (files : List File) (f : ℕ) → map blank_file (with_change_at (file_with_page i new) files f) ≡ map blank_file files
page-put i new [] f = refl
page-put i new (file ∷ files) zero = λ j. record file { pages = replicate (length-set file.pages i new j) zero_page } ∷ map blank_file files
page-put i new (file ∷ files) (suc f) = ap (λ (fs : List File). blank_file file ∷ fs) (page-put i new files f)

pages-put : (o : Option (List Page)) (i : ℕ) (new : Page) → blank_pages (slice_set (unwrap_or o []) i new) ≡ blank_pages (unwrap_or o [])
pages-put o i new = ap (λ (n : ℕ). replicate n zero_page) (length-set (unwrap_or o []) i new)

pages-else : (o : Option (List Page)) → blank_pages (unwrap_or (option_map blank_pages o) []) ≡ blank_pages (unwrap_or o [])
pages-else None = refl
pages-else (Some ps) = blank-twice ps

pub page-blank : (F : Flat) (o : Object) (i : ℕ) (new old : Page) → SameShape (with_page (without_bytes F) o i new) (with_page F o i old)
page-blank F (object.File f) i new old =
    let t = twice F in
    let files = page-put i new (map blank_file F.files) f ∙ ap (λ (G : Flat). G.files) t ∙ sym (page-put i old F.files f) in
    λ j. record (t j) { files = files j }
page-blank F (object.Zero z) i new old =
    let t = twice F in
    let Z = map_with blank_pages F.zeros in
    let had : Option (List Page) = finite.get F.zeros z in
    let pages : blank_pages (slice_set (unwrap_or (finite.get Z z) []) i new) ≡ blank_pages (slice_set (unwrap_or had []) i old) =
    pages-put (finite.get Z z) i new ∙ ap (λ (o : Option (List Page)). blank_pages (unwrap_or o [])) (get-map_with blank_pages F.zeros z) ∙ pages-else had ∙ sym (pages-put had i old) in
    let zeros = map-insert blank_pages Z z (slice_set (unwrap_or (finite.get Z z) []) i new) ∙ (λ j. finite.insert (t j).zeros z (pages j)) ∙ sym (map-insert blank_pages F.zeros z (slice_set (unwrap_or had []) i old)) in
    λ j. record (t j) { zeros = zeros j }
page-blank F object.NewZero i new old = twice F

pub cell-put : (F G : Flat) (p q : ℕ) (c d : Cell) → SameShape F G → blank_cell c ≡ blank_cell d → SameShape (with_cell F p q c) (with_cell G p q d)
cell-put F G p q c d same cells = same-space F G p (finite.insert (cells_of F p) q c) (finite.insert (cells_of G p) q d) same
    (map-insert blank_cell (cells_of F p) q c ∙ (λ i. finite.insert (same-cells F G p same i) q (cells i)) ∙ sym (map-insert blank_cell (cells_of G p) q d))

pub stored-blank : (F : Flat) (p q : ℕ) (c : Cell) (new old : Page) → SameShape (with_page_stored (without_bytes F) p q (blank_cell c) new) (with_page_stored F p q c old)
stored-blank F p q c new old =
    elim c.kind as (λ k. SameShape (elim k as (λ x. Flat) [ Shared ↦ with_page (without_bytes F) c.object c.index new | Private ↦ with_cell (without_bytes F) p q (record (blank_cell c) { own = Some new }) ]) (elim k as (λ x. Flat) [ Shared ↦ with_page F c.object c.index old | Private ↦ with_cell F p q (record c { own = Some old }) ])) [
      | Shared ↦ page-blank F c.object c.index new old
      | Private ↦ cell-put (without_bytes F) F p q (record (blank_cell c) { own = Some new }) (record c { own = Some old }) (twice F) refl
    ]
