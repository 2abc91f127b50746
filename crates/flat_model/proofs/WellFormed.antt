-- Flat memory stays well formed.
use Rattle.std.proofs.Common.{◌≡◌, ℕ, zero, suc, ◌+◌, ◌-◌, ◌*◌, ◌/◌, ◌%◌, ◌^◌, ◌≤◌, ◌||◌, ◌&&◌, Bool, true, false, cond, List, [], ◌∷◌, ◌++◌, length, take, drop, replicate, Option, Some, None, Result, Ok, Err, refl, sym, ap, subst, ◌∙◌, inl, inr, arith, length-append}
use Rattle.std.specs.Prelude.{nat_le, All, IsSome, slice_set, option_map, option_and_then, unwrap_or, is_some, if◌then◌else◌}
use Rattle.std.specs.List.{concat}
use Rattle.std.specs.FinMap as map
use Rattle.std.specs.FinSet as set
use Rattle.std.specs.Cmp.{nat_cmp_total, unsigned_tied}
use Rattle.std.specs.Ordering.{nat_cmp, eq_by_cmp}
use Rattle.std.proofs.lemmas.Bool.{cases_eq, leb-true, eqb-true, eq-eqb}
use Rattle.std.proofs.lemmas.List.{length-set, length-replicate, length-take}
use Rattle.vm_types.specs.declared.call.Call.{Call}
use Rattle.vm_types.specs.declared.call.Call.TheVariants.{Load, Store, Map, Unmap, Protect, Sync, Read, Write, Truncate, Fork, Exit}
use Rattle.vm_types.specs.declared.call.Entry.{Entry}
use Rattle.vm_types.specs.declared.call.Reply.{Reply}
use Rattle.vm_types.specs.declared.call.Reply.TheVariants as reply
use Rattle.vm_types.specs.declared.call.Errno.{Errno}
use Rattle.vm_types.specs.declared.call.Errno.TheVariants as errno
use Rattle.vm_types.specs.declared.call.Signal.{Signal}
use Rattle.vm_types.specs.declared.call.Kind.{Kind}
use Rattle.vm_types.specs.declared.call.Kind.TheVariants.{Shared, Private}
use Rattle.vm_types.specs.declared.call.Object.{Object}
use Rattle.vm_types.specs.declared.call.Object.TheVariants as object
use Rattle.vm_types.specs.declared.call.Place.{Place}
use Rattle.vm_types.specs.declared.call.Place.TheVariants.{At, Any}
use Rattle.vm_types.specs.declared.prot.Prot.{Prot}
use Rattle.vm_types.specs.Prot.{can_read, can_write}
use Rattle.vm_types.specs.Pages.{IsUserPage}
use Rattle.vm_types.specs.Words.{IsWordSize}
use Rattle.vm_types.specs.WellFormed.{IsWellFormed}
use Rattle.flat_model.specs.Words.{Page, IsPage, zero_page, page, pages_in, word_at, word_put, with_bytes, word_bytes, IsByte}
use Rattle.flat_model.specs.Flat.{Cell, File, Flat, Space, IsCell, IsFile, IsFlat, space_of, cell_at, without_unnamed, is_named, reserved, private_cells}
use Rattle.flat_model.specs.Refusals.{◌>>◌, check, Effect, or_signal, or_refused, done_effect}
use Rattle.flat_model.specs.Access.{access_target, with_change_at, file_with_page, with_page, with_space, with_cell, with_page_stored}
use Rattle.flat_model.specs.Space.{end_page, is_in_range, without_range, with_cells, with_prot, with_prots}
use Rattle.flat_model.specs.Mapping.{Request, cells_of, is_range, is_place, without_replaced, first_page, new_number, object_for, own_for, new_cell, with_object, map_result, without_pages, valid_range, may_have}
use Rattle.flat_model.specs.Parts.{pages_of_bytes, pages_with_bytes, read_line, without_tail, longer_file, shorter_file, file_of_length, with_part, with_file_at, existing_file, room_for}
use Rattle.flat_model.specs.Processes.{with_child, without_process}
use Rattle.flat_model.specs.Step.{effect, after_act, step, is_bit_set, files_cleared, tails_cleared, IsStep}
use Rattle.flat_model.specs.History.{replay, Steps}
use Rattle.flat_model.specs.FlatLaws.{StaysFlat}
use Rattle.flat_model.proofs.Ranges.{get-insert_here, get-insert_apart, get-remove_here, get-remove_apart, get-retain_keys, get-with_cells, get-without_range, get-with_prots, in_range-low, in_range-high, both_true}
use Rattle.flat_model.proofs.Stores.{is_met, IsPage-shown}
use Rattle.flat_model.proofs.Mappings.{mapped-map_result, get-cells_of}
use Rattle.flat_model.proofs.Gap.{lowest_gap-fits}
use Rattle.flat_model.proofs.FileBytes.{Whole, Whole-pages, Whole-pages_with_bytes, length-pages_with_bytes, length-with_bytes, longer, count-with_part, of_length}
use Rattle.flat_model.proofs.Rooms.{has_room}
use Rattle.flat_model.proofs.Bytes.{All-slice_get}

-- each element, by recursion
abbrev pub Each : {X : Type 0} → (X → Type 0) → List X → Type 0
Each P [] = Unit {0}
Each P (x ∷ xs) = P x × Each P xs

pub Each-All : {X : Type 0} (P : X → Type 0) (xs : List X) → All P xs → Each P xs
Each-All P [] all = tt
Each-All P (x ∷ xs) all = (all 0 x (omega arith), Each-All P xs (λ k d lt. all (suc k) d (omega arith)))

pub All-Each : {X : Type 0} (P : X → Type 0) (xs : List X) → Each P xs → All P xs
All-Each P [] each k d lt = absurd (omega arith)
All-Each P (x ∷ xs) each zero d lt = each.0
All-Each P (x ∷ xs) each (suc k) d lt = All-Each P xs each.1 k d (omega arith)

pub Each-append : {X : Type 0} (P : X → Type 0) (xs ys : List X) → Each P xs → Each P ys → Each P (xs ++ ys)
Each-append P [] ys left right = right
Each-append P (x ∷ xs) ys left right = (left.0, Each-append P xs ys left.1 right)

Each-take : {X : Type 0} (P : X → Type 0) (n : ℕ) (xs : List X) → Each P xs → Each P (take n xs)
Each-take P zero xs each = tt
Each-take P (suc n) [] each = tt
Each-take P (suc n) (x ∷ xs) each = (each.0, Each-take P n xs each.1)

Each-drop : {X : Type 0} (P : X → Type 0) (n : ℕ) (xs : List X) → Each P xs → Each P (drop n xs)
Each-drop P zero xs each = each
Each-drop P (suc n) [] each = tt
Each-drop P (suc n) (x ∷ xs) each = Each-drop P n xs each.1

Each-set : {X : Type 0} (P : X → Type 0) (xs : List X) (i : ℕ) (x : X) → Each P xs → P x → Each P (slice_set xs i x)
Each-set P [] zero x each new = tt
Each-set P [] (suc i) x each new = tt
Each-set P (y ∷ xs) zero x each new = (new, each.1)
Each-set P (y ∷ xs) (suc i) x each new = (each.0, Each-set P xs i x each.1 new)

pub Each-replicate : {X : Type 0} (P : X → Type 0) (n : ℕ) (x : X) → P x → Each P (replicate n x)
Each-replicate P zero x is = tt
Each-replicate P (suc n) x is = (is, Each-replicate P n x is)

Each-with_change_at : {X : Type 0} (P : X → Type 0) (f : X → X) (xs : List X) (i : ℕ) → Each P xs → ((x : X) → P x → P (f x)) → Each P (with_change_at f xs i)
Each-with_change_at P f [] i each keeps = tt
Each-with_change_at P f (x ∷ xs) zero each keeps = (keeps x each.0, each.1)
Each-with_change_at P f (x ∷ xs) (suc i) each keeps = (each.0, Each-with_change_at P f xs i each.1 keeps)

Bytes-with : (old at' : List ℕ) (at : ℕ) → Each IsByte old → Each IsByte at' → Each IsByte (with_bytes old at at')
Bytes-with old new at left right = Each-append IsByte (take at old ++ new) (drop (at + length new) old) (Each-append IsByte (take at old) new (Each-take IsByte at old left) right) (Each-drop IsByte (at + length new) old left)

Bytes-of : (n v : ℕ) → Each IsByte (word_bytes n v)
Bytes-of zero v = tt
Bytes-of (suc n) v = (let q = v / 256 ^ n in omega arith, Bytes-of n v)

pub length-word_bytes : (n v : ℕ) → length (word_bytes n v) ≡ n
length-word_bytes zero v = refl
length-word_bytes (suc n) v = omega (arith, length-word_bytes n v)

Bytes-concat : (ps : List Page) → Each IsPage ps → Each IsByte (concat ps)
Bytes-concat [] each = tt
Bytes-concat (p ∷ ps) each = Each-append IsByte p (concat ps) (Each-All IsByte p each.0.bytes) (Bytes-concat ps each.1)

pub Bytes-pages_of_bytes : (n : ℕ) (xs : List ℕ) → Each IsByte xs → Each (Each IsByte) (pages_of_bytes n xs)
Bytes-pages_of_bytes zero xs each = tt
Bytes-pages_of_bytes (suc n) xs each = (Each-take IsByte 4096 xs each, Bytes-pages_of_bytes n (drop 4096 xs) (Each-drop IsByte 4096 xs each))

pub Pages-of : (ps : List Page) → Whole ps → Each (Each IsByte) ps → Each IsPage ps
Pages-of [] whole each = tt
Pages-of (p ∷ ps) whole each = (record { whole = whole.0; bytes = All-Each IsByte p each.0 }, Pages-of ps whole.1 each.1)

-- pages stay pages when bytes are put over them
Pages-pages_with_bytes : (ps : List Page) (at : ℕ) (bytes : List ℕ) → Each IsPage ps → Each IsByte bytes → at + length bytes ≤ 4096 * length ps → Each IsPage (pages_with_bytes ps at bytes)
unfolding pages_with_bytes
Pages-pages_with_bytes ps at bytes pages are fits = Pages-of (pages_with_bytes ps at bytes) (Whole-pages_with_bytes ps at bytes (Whole-pages ps (All-Each IsPage ps pages)) fits) (Bytes-pages_of_bytes (length ps) (with_bytes (concat ps) at bytes) (Bytes-with (concat ps) bytes at (Bytes-concat ps pages) are))

pub IsPage-zero_page : IsPage zero_page
unfolding zero_page
IsPage-zero_page = record { whole = length-replicate {A = ℕ} 4096 0; bytes = All-Each IsByte (replicate 4096 0) (Each-replicate IsByte 4096 0 (omega arith)) }

pub IsFile-without_tail : (file : File) → IsFile file → IsFile (without_tail file)
IsFile-without_tail file is =
    let zeros : List ℕ = replicate (4096 * length file.pages - file.len) 0 in
    let count : length zeros ≡ 4096 * length file.pages - file.len = length-replicate (4096 * length file.pages - file.len) 0 in
    let pages = is.count in
    record {
      count = length-pages_with_bytes file.pages file.len zeros ∙ is.count;
      pages = All-Each IsPage (pages_with_bytes file.pages file.len zeros) (Pages-pages_with_bytes file.pages file.len zeros (Each-All IsPage file.pages is.pages) (Each-replicate IsByte (4096 * length file.pages - file.len) 0 (omega arith)) (omega arith));
    }

pub IsFile-longer_file : (n : ℕ) (file : File) → IsFile file → IsFile (longer_file n file)
unfolding longer_file
IsFile-longer_file n file is =
    let more = pages_in n - length file.pages in
    let grown : List Page = file.pages ++ replicate more zero_page in
    let zeros : List ℕ = replicate (n - file.len) 0 in
    let count : length grown ≡ length file.pages + more = length-append file.pages (replicate more zero_page) ∙ ap (λ k. length file.pages + k) (length-replicate more zero_page) in
    let zero_count : length zeros ≡ n - file.len = length-replicate (n - file.len) 0 in
    let pages = is.count in
    let grown_pages = Each-append IsPage file.pages (replicate more zero_page) (Each-All IsPage file.pages is.pages) (Each-replicate IsPage more zero_page IsPage-zero_page) in
    record {
      count = (longer n file is).1.count;
      pages = All-Each IsPage (pages_with_bytes grown file.len zeros) (Pages-pages_with_bytes grown file.len zeros grown_pages (Each-replicate IsByte (n - file.len) 0 (omega arith)) (omega arith));
    }

pub IsFile-with_part : (offset : ℕ) (line : List ℕ) (file : File) → Each IsByte line → IsFile file → IsFile (with_part offset line file)
unfolding with_part
IsFile-with_part offset line file bytes is =
    let end = offset + length line in
    let long = IsFile-longer_file end file is in
    let pages = (longer end file is).1.count in
    record { count = count-with_part file offset line is; pages = All-Each IsPage (pages_with_bytes (longer_file end file).pages offset line) (Pages-pages_with_bytes (longer_file end file).pages offset line (Each-All IsPage (longer_file end file).pages long.pages) bytes (omega arith)) }

IsFile-shorter_file : (n : ℕ) (file : File) → IsFile file → n ≤ file.len → IsFile (shorter_file n file)
IsFile-shorter_file n file is le = IsFile-without_tail (record file { len = n; pages = take (pages_in n) file.pages }) (record {
  count = let pages = is.count in omega (arith, length-take (pages_in n) file.pages);
  pages = All-Each IsPage (take (pages_in n) file.pages) (Each-take IsPage (pages_in n) file.pages (Each-All IsPage file.pages is.pages));
})

pub IsFile-file_of_length : (n : ℕ) (file : File) → IsFile file → IsFile (file_of_length n file)
IsFile-file_of_length n file is = of_length IsFile n file (λ less. IsFile-shorter_file n file is (omega arith)) (λ more. IsFile-longer_file n file is) (λ same. is)

IsFile-with_page : (i : ℕ) (new : Page) (file : File) → IsPage new → IsFile file → IsFile (file_with_page i new file)
IsFile-with_page i new file is old = record { count = length-set file.pages i new ∙ old.count; pages = All-Each IsPage (slice_set file.pages i new) (Each-set IsPage file.pages i new (Each-All IsPage file.pages old.pages) is) }

-- a page with a word put into it is a page
IsPage-word_put : (bytes : Page) (a n v : ℕ) → IsPage bytes → a % 4096 + n ≤ 4096 → IsPage (word_put bytes a n v)
IsPage-word_put bytes a n v is fits =
    let whole = is.whole in
    let size = length-word_bytes n v in
    record { whole = length-with_bytes bytes (word_bytes n v) (a % 4096) (omega arith) ∙ whole; bytes = All-Each IsByte (word_put bytes a n v) (Bytes-with bytes (word_bytes n v) (a % 4096) (Each-All IsByte bytes is.bytes) (Bytes-of n v)) }

-- a cell may stand at a page
abbrev Stands : ℕ → Cell → Type 0
Stands q c = IsUserPage q × IsCell c

-- all cells of a space may stand where they do
abbrev Standing : Space → Type 0
Standing s = (q : ℕ) (c : Cell) → map.get s q ≡ Some c → Stands q c

cells_stand : (F : Flat) (p : ℕ) → IsFlat F → Standing (cells_of F p)
cells_stand F p flat q c at = let here = get-cells_of F p q ∙ at in (flat.pages p q c here, flat.cells p q c here)

pub IsFlat-with_space : (F : Flat) (p : ℕ) (s : Space) → IsFlat F → IsSome (space_of F p) → Standing s → IsFlat (with_space F p s)
IsFlat-with_space F p s flat alive stand = record {
  pages = λ x q c at. (stands x q c at).0;
  cells = λ x q c at. (stands x q c at).1;
  files = flat.files;
  zeros = flat.zeros;
  born = λ x is. elim (cases_eq x p) [ inl here ↦ ap (set.contains F.born) here ∙ flat.born p alive | inr apart ↦ flat.born x (ap is_some (sym (get-insert_apart F.spaces p s x apart)) ∙ is) ];
}
  where
    stands : (x q : ℕ) (c : Cell) → cell_at (with_space F p s) x q ≡ Some c → Stands q c
    stands x q c at = elim (cases_eq x p) [
      | inl here ↦ stand q c (sym (ap (option_and_then (λ space. map.get space q)) (get-insert_here F.spaces p s)) ∙ ap (λ y. cell_at (with_space F p s) y q) (sym here) ∙ at)
      | inr apart ↦ let old = sym (ap (option_and_then (λ space. map.get space q)) (get-insert_apart F.spaces p s x apart)) ∙ at in (flat.pages x q c old, flat.cells x q c old)
    ]

pub kept_one : {X : Type 0} (b : Bool) (x : Option X) (v : X) → cond b x None ≡ Some v → x ≡ Some v
kept_one true x v is = is
kept_one false x v is = absurd cc

left_one : {X : Type 0} (b : Bool) (x : Option X) (v : X) → cond b None x ≡ Some v → x ≡ Some v
left_one true x v is = absurd cc
left_one false x v is = is

pub IsFlat-without_unnamed : (F : Flat) → IsFlat F → IsFlat (without_unnamed F)
IsFlat-without_unnamed F flat = record {
  pages = flat.pages;
  cells = flat.cells;
  files = flat.files;
  zeros = λ z ps at. flat.zeros z ps (kept_one (is_named F z) (map.get F.zeros z) ps (sym (get-retain_keys F.zeros (is_named F) z) ∙ at));
  born = flat.born;
}

IsFlat-with_zero : (F : Flat) (z : ℕ) (ps : List Page) → IsFlat F → Each IsPage ps → IsFlat (record F { zeros = map.insert F.zeros z ps })
IsFlat-with_zero F z ps flat pages = record {
  pages = flat.pages;
  cells = flat.cells;
  files = flat.files;
  zeros = λ y qs at. elim (cases_eq y z) [
    | inl here ↦ let same : ps ≡ qs = let both : Some ps ≡ Some qs = sym (get-insert_here F.zeros z ps) ∙ ap (map.get (map.insert F.zeros z ps)) (sym here) ∙ at in cc in subst (All IsPage) same (All-Each IsPage ps pages)
    | inr apart ↦ flat.zeros y qs (sym (get-insert_apart F.zeros z ps y apart) ∙ at)
  ];
  born = flat.born;
}

pub IsFlat-with_files : (F : Flat) (files : List File) → IsFlat F → Each IsFile files → IsFlat (record F { files = files })
IsFlat-with_files F files flat each = record { pages = flat.pages; cells = flat.cells; files = All-Each IsFile files each; zeros = flat.zeros; born = flat.born }

old_pages : (F : Flat) (z : ℕ) (o : Option (List Page)) → map.get F.zeros z ≡ o → IsFlat F → Each IsPage (unwrap_or o [])
old_pages F z None is flat = tt
old_pages F z (Some ps) is flat = Each-All IsPage ps (flat.zeros z ps is)

IsFlat-with_page : (F : Flat) (o : Object) (i : ℕ) (new : Page) → IsFlat F → IsPage new → IsFlat (with_page F o i new)
IsFlat-with_page F (object.File f) i new flat is = IsFlat-with_files F (with_change_at (file_with_page i new) F.files f) flat (Each-with_change_at IsFile (file_with_page i new) F.files f (Each-All IsFile F.files flat.files) (λ file old. IsFile-with_page i new file is old))
IsFlat-with_page F (object.Zero z) i new flat is = IsFlat-with_zero F z (slice_set (unwrap_or (map.get F.zeros z) []) i new) flat (Each-set IsPage (unwrap_or (map.get F.zeros z) []) i new (old_pages F z (map.get F.zeros z) refl flat) is)
IsFlat-with_page F object.NewZero i new flat is = flat

-- and so does flat memory with one tail of zeros
pub IsFlat-tail_cleared : (F : Flat) (f : ℕ) → IsFlat F → IsFlat (record F { files = with_change_at without_tail F.files f })
IsFlat-tail_cleared F f flat = IsFlat-with_files F (with_change_at without_tail F.files f) flat (Each-with_change_at IsFile without_tail F.files f (Each-All IsFile F.files flat.files) IsFile-without_tail)

pub IsFlat-tails_cleared : (F : Flat) (test : ℕ → Bool) → IsFlat F → IsFlat (tails_cleared F test)
IsFlat-tails_cleared F test flat = IsFlat-with_files F (files_cleared test F.files) flat (cleared test F.files (Each-All IsFile F.files flat.files))
  where
    chosen : (b : Bool) (file : File) → IsFile file → IsFile (if b then without_tail file else file)
    chosen true file is = IsFile-without_tail file is
    chosen false file is = is

    cleared : (t : ℕ → Bool) (files : List File) → Each IsFile files → Each IsFile (files_cleared t files)
    cleared t [] each = tt
    cleared t (file ∷ files) each = (chosen (t 0) file each.0, cleared (λ f. t (suc f)) files each.1)

-- what a call leaves, by what it acts on
pub by_signal : {A : Type 0} (P : Flat → Type 0) (F : Flat) (acts : A → Effect) (r : Result A Signal) → P F → ((x : A) → r ≡ Ok x → P (acts x).after) → P (or_signal F acts r).after
by_signal P F acts (Ok x) none some = some x refl
by_signal P F acts (Err s) none some = none

pub by_refusal : {A : Type 0} (P : Flat → Type 0) (F : Flat) (acts : A → Effect) (r : Result A Errno) → P F → ((x : A) → r ≡ Ok x → P (acts x).after) → P (or_refused F acts r).after
by_refusal P F acts (Ok x) none some = some x refl
by_refusal P F acts (Err e) none some = none

-- an aligned word lies in its page
pub word_fits : (a n : ℕ) → IsWordSize n → a % n ≡ 0 → a % 4096 + n ≤ 4096
word_fits a n (inl one) is = subst (λ (k : ℕ). a % 4096 + k ≤ 4096) (sym one) (omega arith)
word_fits a n (inr (inl two)) is = subst (λ (k : ℕ). a % k ≡ 0 → a % 4096 + k ≤ 4096) (sym two) (λ e. omega arith) is
word_fits a n (inr (inr four)) is = subst (λ (k : ℕ). a % k ≡ 0 → a % 4096 + k ≤ 4096) (sym four) (λ e. omega arith) is

IsCell-own : (c : Cell) (new : Page) → c.kind ≡ Private → IsPage new → IsCell (record c { own = Some new })
IsCell-own c new private is = record {
  page = λ own at. let same : new ≡ own = cc in subst IsPage same is;
  shared = λ shared. absurd (let both : Private ≡ Shared = sym private ∙ shared in cc);
  zero = λ _ _. refl;
}

IsFlat-with_page_stored : (F : Flat) (p q : ℕ) (c : Cell) (new : Page) → IsFlat F → IsSome (space_of F p) → cell_at F p q ≡ Some c → IsPage new → IsFlat (with_page_stored F p q c new)
IsFlat-with_page_stored F p q c new flat alive at is = by_kind c.kind refl
  where
    stand : c.kind ≡ Private → Standing (map.insert (cells_of F p) q (record c { own = Some new }))
    stand private r d found = elim (cases_eq r q) [
      | inl here ↦
          let same : record c { own = Some new } ≡ d = let both : Some (record c { own = Some new }) ≡ Some d = sym (get-insert_here (cells_of F p) q (record c { own = Some new })) ∙ ap (map.get (map.insert (cells_of F p) q (record c { own = Some new }))) (sym here) ∙ found in cc in
          (subst IsUserPage (sym here) (flat.pages p q c at), subst IsCell same (IsCell-own c new private is))
      | inr apart ↦ cells_stand F p flat r d (sym (get-insert_apart (cells_of F p) q (record c { own = Some new }) r apart) ∙ found)
    ]

    by_kind : (k : Kind) → c.kind ≡ k → IsFlat (elim k as (λ x. Flat) [ Shared ↦ with_page F c.object c.index new | Private ↦ with_cell F p q (record c { own = Some new }) ])
    by_kind Shared shared = IsFlat-with_page F c.object c.index new flat is
    by_kind Private private = IsFlat-with_space F p (map.insert (cells_of F p) q (record c { own = Some new })) flat alive (stand private)

pub flat_store : (F : Flat) (p a n v : ℕ) → IsFlat F → IsSome (space_of F p) → IsWordSize n → IsFlat (effect F p (Store a n v)).after
flat_store F p a n v flat alive size =
    by_signal IsFlat F (λ m. done_effect (with_page_stored F p (page a) m.0 (word_put m.1 a n v))) (access_target F p can_write a n) flat (λ m is.
    let met_it = is_met F p can_write a n m.0 m.1 is in
    IsFlat-with_page_stored F p (page a) m.0 (word_put m.1 a n v) flat alive met_it.cell
    (IsPage-word_put m.1 a n v (IsPage-shown F m.0 m.1 flat (flat.cells p (page a) m.0 met_it.cell) met_it.shows) (word_fits a n size (eqb-true (a % n) 0 met_it.aligned))))

pub without_stand : (s : Space) (first n : ℕ) → Standing s → Standing (without_range s first n)
without_stand s first n stand q c at = stand q c (left_one (is_in_range first n q) (map.get s q) c (sym (get-without_range s first n q) ∙ at))

IsFlat-without_pages : (F : Flat) (p first n : ℕ) → IsFlat F → IsSome (space_of F p) → IsFlat (without_pages F p first n)
IsFlat-without_pages F p first n flat alive = IsFlat-without_unnamed (with_space F p (without_range (cells_of F p) first n)) (IsFlat-with_space F p (without_range (cells_of F p) first n) flat alive (without_stand (cells_of F p) first n (cells_stand F p flat)))

IsCell-with_prot : (first n q : ℕ) (prot : Prot) (c : Cell) → IsCell c → IsCell (with_prot first n prot q c)
IsCell-with_prot first n q prot c is = elim (is_in_range first n q) as (λ b. IsCell (if b then record c { prot = prot } else c)) [ true ↦ record { page = is.page; shared = is.shared; zero = is.zero } | false ↦ is ]

mapped_one : (f : Cell → Cell) (o : Option Cell) (c : Cell) → option_map f o ≡ Some c → (d : Cell) × (o ≡ Some d) × (f d ≡ c)
mapped_one f None c is = absurd cc
mapped_one f (Some d) c is = (d, refl, cc)

with_prots_stand : (s : Space) (first n : ℕ) (prot : Prot) → Standing s → Standing (with_prots s first n prot)
with_prots_stand s first n prot stand q c at =
    let m = mapped_one (with_prot first n prot q) (map.get s q) c (sym (get-with_prots s first n prot q) ∙ at) in
    let old = stand q m.0 m.1 in
    (old.0, subst IsCell m.2 (IsCell-with_prot first n q prot m.0 old.1))

pub IsFlat-without_process : (F : Flat) (p : ℕ) → IsFlat F → IsFlat (without_process F p)
IsFlat-without_process F p flat = IsFlat-without_unnamed (record F { spaces = map.remove F.spaces p }) (record {
  pages = λ x q c at. flat.pages x q c (before x q c at);
  cells = λ x q c at. flat.cells x q c (before x q c at);
  files = flat.files;
  zeros = flat.zeros;
  born = λ x is. elim (cases_eq x p) [
    | inl here ↦ absurd (let gone = ap is_some (ap (map.get (map.remove F.spaces p)) here ∙ get-remove_here F.spaces p) in let both : false ≡ true = sym gone ∙ is in cc)
    | inr apart ↦ flat.born x (ap is_some (sym (get-remove_apart F.spaces p x apart)) ∙ is)
  ];
})
  where
    before : (x q : ℕ) (c : Cell) → cell_at (record F { spaces = map.remove F.spaces p }) x q ≡ Some c → cell_at F x q ≡ Some c
    before x q c at = elim (cases_eq x p) [
      | inl here ↦ absurd (let gone = ap (option_and_then (λ space. map.get space q)) (ap (map.get (map.remove F.spaces p)) here ∙ get-remove_here F.spaces p) in let both : None ≡ Some c = sym gone ∙ at in cc)
      | inr apart ↦ sym (ap (option_and_then (λ space. map.get space q)) (get-remove_apart F.spaces p x apart)) ∙ at
    ]

-- the range of a Map lies in the user addresses
range_of : (F : Flat) (p : ℕ) (place : Place) (len first : ℕ) → IsFlat F → is_place place len ≡ true → first_page (cells_of (without_replaced F p place (pages_in len)) p) place (pages_in len) ≡ Some first → (1 ≤ first) × (first + pages_in len ≤ end_page)
range_of F p (At a) len first flat valid is =
    let at : page a ≡ first = cc in
    let ends = both_true _ _ valid in
    let starts = both_true _ _ ends.0 in
    let low = leb-true 1 (page a) starts.1 in
    let high = leb-true (page a + pages_in len) end_page ends.1 in
    (omega arith, omega arith)
range_of F p Any len first flat valid is = lowest_gap-fits (cells_of F p) (pages_in len) first (λ q c at. (cells_stand F p flat q c at).0) is

own_page : (k : Kind) (o : Object) (own : Page) → own_for k o ≡ Some own → IsPage own
own_page Private object.NewZero own is = let same : zero_page ≡ own = cc in subst IsPage same IsPage-zero_page
own_page Private (object.File f) own is = absurd cc
own_page Private (object.Zero z) own is = absurd cc
own_page Shared o own is = absurd cc

own_shared : (k : Kind) (o : Object) → k ≡ Shared → own_for k o ≡ None
own_shared Shared o is = refl
own_shared Private o is = absurd cc

own_zero : (G : Flat) (k : Kind) (o : Object) → k ≡ Private → object_for G k o ≡ object.NewZero → IsSome (own_for k o)
own_zero G Private object.NewZero is new = refl
own_zero G Private (object.File f) is new = absurd cc
own_zero G Private (object.Zero z) is new = absurd cc
own_zero G Shared o is new = absurd cc

IsCell-new_cell : (F G : Flat) (r : Request) (i : ℕ) → IsCell (new_cell F G r i)
IsCell-new_cell F G r i = record { page = own_page r.kind r.object; shared = own_shared r.kind r.object; zero = own_zero G r.kind r.object }

with_cells_stand : (s : Space) (first n : ℕ) (cell : ℕ → Cell) → Standing s → (1 ≤ first) → (first + n ≤ end_page) → ((i : ℕ) → IsCell (cell i)) → Standing (with_cells s first n cell)
with_cells_stand s first n cell stand low high each q c at = elim (is_in_range first n q) as (λ b. is_in_range first n q ≡ b → Stands q c) [
  | true ↦ λ inside.
      let same : cell (q - first) ≡ c = let both : Some (cell (q - first)) ≡ Some c = sym (ap (λ b. cond b (Some (cell (q - first))) (map.get s q)) inside) ∙ sym (get-with_cells s first n cell q) ∙ at in cc in
      let from = in_range-low first n q inside in
      let to = in_range-high first n q inside in
      ((omega arith, omega arith), subst IsCell same (each (q - first)))
  | false ↦ λ outside. stand q c (sym (ap (λ b. cond b (Some (cell (q - first))) (map.get s q)) outside) ∙ sym (get-with_cells s first n cell q) ∙ at)
] refl

IsFlat-cleared : (F : Flat) (p : ℕ) (place : Place) (n : ℕ) → IsFlat F → IsSome (space_of F p) → IsFlat (without_replaced F p place n) × IsSome (space_of (without_replaced F p place n) p)
IsFlat-cleared F p (At a) n flat alive = (IsFlat-with_space F p (without_range (cells_of F p) (page a) n) flat alive (without_stand (cells_of F p) (page a) n (cells_stand F p flat)), ap is_some (get-insert_here F.spaces p (without_range (cells_of F p) (page a) n)))
IsFlat-cleared F p Any n flat alive = (flat, alive)

IsFlat-with_object : (G : Flat) (k : Kind) (o : Object) (n p : ℕ) → IsFlat G → IsSome (space_of G p) → IsFlat (with_object G k o n) × IsSome (space_of (with_object G k o n) p)
IsFlat-with_object G Shared (object.File f) n p flat alive = (flat, alive)
IsFlat-with_object G Shared object.NewZero n p flat alive = (IsFlat-with_zero G (new_number G) (replicate n zero_page) flat (Each-replicate IsPage n zero_page IsPage-zero_page), alive)
IsFlat-with_object G Shared (object.Zero z) n p flat alive = (flat, alive)
IsFlat-with_object G Private o n p flat alive = (flat, alive)

IsFlat-map_result : (F : Flat) (p : ℕ) (r : Request) (first : ℕ) (G : Flat) → IsFlat F → IsSome (space_of F p) → map_result F p r ≡ Ok (first, G) → IsFlat G
IsFlat-map_result F p r first G flat alive is =
    let m = mapped-map_result F p r first G is in
    let n = pages_in r.len in
    let C = without_replaced F p r.place n in
    let range = range_of F p r.place r.len first flat (both_true _ _ (both_true _ _ m.valid).0).0 m.first_is in
    let c = IsFlat-cleared F p r.place n flat alive in
    let o = IsFlat-with_object C r.kind r.object n p c.0 c.1 in
    let stand = with_cells_stand (cells_of C p) first n (new_cell F C r) (cells_stand C p c.0) range.0 range.1 (IsCell-new_cell F C r) in
    let H = with_space (with_object C r.kind r.object n) p (with_cells (cells_of C p) first n (new_cell F C r)) in
    subst IsFlat (sym m.after) (IsFlat-without_unnamed H (IsFlat-with_space (with_object C r.kind r.object n) p (with_cells (cells_of C p) first n (new_cell F C r)) o.0 o.1 stand))

IsFlat-with_child : (F : Flat) (p child : ℕ) → IsFlat F → IsFlat (with_child F p child)
IsFlat-with_child F p child flat = record {
  pages = λ x q c at. (stands x q c at).0;
  cells = λ x q c at. (stands x q c at).1;
  files = flat.files;
  zeros = flat.zeros;
  born = λ x is. set.contains-insert nat_cmp_total F.born child x ∙ elim (cases_eq x child) [
    | inl here ↦ ap (λ b. b || set.contains F.born x) (tied x child here)
    | inr apart ↦ or_right _ (set.contains F.born x) (flat.born x (ap is_some (sym (get-insert_apart F.spaces child (cells_of F p) x apart)) ∙ is))
  ];
}
  where
    or_right : (a b : Bool) → b ≡ true → (a || b) ≡ true
    or_right true b is = refl
    or_right false b is = is

    tied : (x y : ℕ) → x ≡ y → eq_by_cmp nat_cmp x y ≡ true
    tied x y same = unsigned_tied x y ∙ eq-eqb x y same

    stands : (x q : ℕ) (c : Cell) → cell_at (with_child F p child) x q ≡ Some c → Stands q c
    stands x q c at = elim (cases_eq x child) [
      | inl here ↦ cells_stand F p flat q c (sym (ap (option_and_then (λ space. map.get space q)) (get-insert_here F.spaces child (cells_of F p))) ∙ ap (λ y. cell_at (with_space F child (cells_of F p)) y q) (sym here) ∙ at)
      | inr apart ↦ let old = sym (ap (option_and_then (λ space. map.get space q)) (get-insert_apart F.spaces child (cells_of F p) x apart)) ∙ at in (flat.pages x q c old, flat.cells x q c old)
    ]

-- a file that there is room for is one of the files, with other extents
IsFile-room_for : (F : Flat) (f end : ℕ) (file : File) → IsFlat F → room_for F f end ≡ Ok file → IsFile file
IsFile-room_for F f end file flat is =
    let r = has_room F f end file is in
    let old = All-slice_get IsFile F.files f r.old flat.files r.found in
    subst IsFile (sym r.file) (record { count = old.count; pages = old.pages })

pub IsFlat-with_file_at : (F : Flat) (f : ℕ) (file : File) → IsFlat F → IsFile file → IsFlat (with_file_at F f file)
IsFlat-with_file_at F f file flat is = IsFlat-with_files F (slice_set F.files f file) flat (Each-set IsFile F.files f file (Each-All IsFile F.files flat.files) is)

-- what any call leaves is well formed
pub IsFlat-effect : (F : Flat) (p : ℕ) (call : Call) → IsFlat F → IsSome (space_of F p) → IsWellFormed call → IsFlat (effect F p call).after
IsFlat-effect F p (Load a n) flat alive well = by_signal IsFlat F (λ m. record { reply = reply.Word (word_at m.1 a n); after = F }) (access_target F p can_read a n) flat (λ m is. flat)
IsFlat-effect F p (Store a n v) flat alive well = flat_store F p a n v flat alive well.1
IsFlat-effect F p (Map place len prot kind object offset) flat alive well =
    let r : Request = record { place = place; len = len; prot = prot; kind = kind; object = object; offset = offset } in
    by_refusal IsFlat F (λ m. record { reply = reply.Mapped (4096 * m.0); after = m.1 }) (map_result F p r) flat (λ m is. IsFlat-map_result F p r m.0 m.1 flat alive is)
IsFlat-effect F p (Unmap a len) flat alive well = by_refusal IsFlat F (λ x. done_effect (without_pages F p (page a) (pages_in len))) (check (is_range a len) errno.Invalid) flat (λ x is. IsFlat-without_pages F p (page a) (pages_in len) flat alive)
IsFlat-effect F p (Protect a len prot) flat alive well =
    by_refusal IsFlat F (λ x. done_effect (with_space F p (with_prots (cells_of F p) (page a) (pages_in len) prot))) (valid_range F p a len >> check (may_have (cells_of F p) (page a) (pages_in len) prot) errno.Access) flat
    (λ x is. IsFlat-with_space F p (with_prots (cells_of F p) (page a) (pages_in len) prot) flat alive (with_prots_stand (cells_of F p) (page a) (pages_in len) prot (cells_stand F p flat)))
IsFlat-effect F p (Sync a len) flat alive well = by_refusal IsFlat F (λ x. record { reply = reply.Synced 0; after = F }) (valid_range F p a len) flat (λ x is. flat)
IsFlat-effect F p (Read file offset len) flat alive well = by_refusal IsFlat F (λ x. record { reply = reply.Bytes (read_line x offset len); after = F }) (existing_file F file) flat (λ x is. flat)
IsFlat-effect F p (Write file offset line rest) flat alive well =
    by_refusal IsFlat F (λ x. done_effect (with_file_at F file (with_part offset line x))) (room_for F file (offset + length line)) flat
    (λ x is. IsFlat-with_file_at F file (with_part offset line x) flat (IsFile-with_part offset line x (Each-All IsByte line well.2.each) (IsFile-room_for F file (offset + length line) x flat is)))
IsFlat-effect F p (Truncate file len) flat alive well =
    by_refusal IsFlat F (λ x. done_effect (with_file_at F file (file_of_length len x))) (room_for F file len) flat
    (λ x is. IsFlat-with_file_at F file (file_of_length len x) flat (IsFile-file_of_length len x (IsFile-room_for F file len x flat is)))
IsFlat-effect F p (Fork child) flat alive well = by_refusal IsFlat F (λ x. done_effect (with_child F p child)) (check (nat_le (reserved F + private_cells (cells_of F p)) F.slots) errno.NoSwap) flat (λ x is. IsFlat-with_child F p child flat)
IsFlat-effect F p Exit flat alive well = IsFlat-without_process F p flat

flat_acted : (F : Flat) (p : ℕ) (call : Call) (cleared : ℕ) (r : Reply) → IsFlat F → IsFlat (effect F p call).after → IsFlat (after_act F (record { process = p; call = call; reply = r; cleared = cleared }))
flat_acted F p call cleared (reply.Io disk before after) flat new = flat
flat_acted F p call cleared r flat new = new

pub IsFlat-step : (F : Flat) (e : Entry) → IsFlat F → IsWellFormed e.call → IsStep F e → IsFlat (step F e)
IsFlat-step F e flat well is =
    let G = tails_cleared F (is_bit_set e.cleared) in
    let good = IsFlat-tails_cleared F (is_bit_set e.cleared) flat in
    flat_acted G e.process e.call e.cleared e.reply good (IsFlat-effect G e.process e.call good is.alive well)

each_replay : (F : Flat) (H : List Entry) → IsFlat F → Each (λ e. IsWellFormed e.call) H → Steps F H → IsFlat (replay F H)
each_replay F [] flat each steps = flat
each_replay F (e ∷ H) flat each steps = each_replay (step F e) H (IsFlat-step F e flat each.0 steps.0) each.1 steps.1

pub IsFlat-replay : (F : Flat) (H : List Entry) → IsFlat F → All (λ e. IsWellFormed e.call) H → Steps F H → IsFlat (replay F H)
IsFlat-replay F H flat all steps = each_replay F H flat (Each-All (λ e. IsWellFormed e.call) H all) steps

pub stays_flat_law : StaysFlat
stays_flat_law = record { after_step = IsFlat-step; after_history = IsFlat-replay }
