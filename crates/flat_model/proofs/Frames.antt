-- What a step leaves as it was.
use Rattle.std.proofs.Common.{◌≡◌, ℕ, zero, suc, ◌+◌, ◌*◌, ◌-◌, ◌||◌, Bool, true, false, cond, List, [], ◌∷◌, length, replicate, Option, Some, None, Result, Ok, Err, refl, sym, ap, subst, ◌∙◌, inl, inr}
use Rattle.std.specs.Prelude.{◌==◌, nat_lt, nat_le, IsSome, IsSomeAnd, IsFalse, IsTrue, slice_get, slice_set, option_map, option_and_then, unwrap_or, if◌then◌else◌}
use Rattle.std.specs.FinMap as map
use Rattle.std.specs.FinSet as set
use Rattle.std.specs.Cmp.{nat_cmp_total, unsigned_tied}
use Rattle.std.specs.Ordering.{nat_cmp, eq_by_cmp}
use Rattle.std.proofs.lemmas.Bool.{cases_eq, eqb-true, eq-eqb}
use Rattle.std.proofs.lemmas.List.{length-set}
use Rattle.vm_types.specs.declared.call.Call.{Call}
use Rattle.vm_types.specs.declared.call.Call.TheVariants.{Load, Store, Map, Unmap, Protect, Sync, Read, Write, Truncate, Fork, Exit}
use Rattle.vm_types.specs.declared.call.Entry.{Entry}
use Rattle.vm_types.specs.declared.call.Reply.{Reply}
use Rattle.vm_types.specs.declared.call.Reply.TheVariants as reply
use Rattle.vm_types.specs.declared.call.Errno.{Errno}
use Rattle.vm_types.specs.declared.call.Errno.TheVariants as errno
use Rattle.vm_types.specs.declared.call.Signal.{Signal}
use Rattle.vm_types.specs.declared.call.Kind.{Kind}
use Rattle.vm_types.specs.declared.call.Kind.TheVariants.{Shared, Private}
use Rattle.vm_types.specs.declared.call.Object.{Object}
use Rattle.vm_types.specs.declared.call.Object.TheVariants as object
use Rattle.vm_types.specs.declared.call.Place.{Place}
use Rattle.vm_types.specs.declared.call.Place.TheVariants.{At, Any}
use Rattle.vm_types.specs.declared.prot.Prot.{Prot}
use Rattle.vm_types.specs.Prot.{can_read, can_write}
use Rattle.flat_model.specs.Words.{Page, zero_page, page, pages_in, word_at, word_put}
use Rattle.flat_model.specs.Flat.{Cell, File, Flat, Space, space_of, cell_at, zero_of, is_named, without_unnamed, reserved, private_cells}
use Rattle.flat_model.specs.Refusals.{◌>>◌, check, Effect, or_signal, or_refused, done_effect}
use Rattle.flat_model.specs.Access.{access_target, with_change_at, file_with_page, with_page, with_space, with_cell, with_page_stored}
use Rattle.flat_model.specs.Space.{is_in_range, without_range, with_cells, with_prot, with_prots}
use Rattle.flat_model.specs.Mapping.{Request, cells_of, is_range, without_replaced, first_page, new_number, new_cell, with_object, map_result, without_pages, valid_range, may_have}
use Rattle.flat_model.specs.Parts.{read_line, without_tail, longer_file, shorter_file, file_of_length, with_part, with_file_at, existing_file, room_for}
use Rattle.flat_model.specs.Processes.{with_child, without_process}
use Rattle.flat_model.specs.Step.{effect, after_act, step, is_bit_set, files_cleared, tails_cleared, without_start, IsUnborn, IsDue, IsStep}
use Rattle.flat_model.specs.Births.{is_done, is_fork_of, is_birth, AreBorn}
use Rattle.flat_model.specs.FrameLaws.{takes, MapsSame, KeepsMode, StepFrame, StepsKeep}
use Rattle.flat_model.proofs.Bytes.{slice_get-with_change_at, slice_get-changed_apart, slice_get-slice_set}
use Rattle.flat_model.proofs.Ranges.{get-insert_here, get-insert_apart, get-remove_apart, get-without_range, get-with_cells, get-with_prots, in_range-low, in_range-high}
use Rattle.flat_model.proofs.Stores.{is_met, ChangesOneCell-with_cell}
use Rattle.flat_model.proofs.Named.{named_zeros-from_cell, new_number-new, get-without_unnamed}
use Rattle.flat_model.proofs.Mappings.{mapped-map_result, get-cells_of, spaces-with_object}
use Rattle.flat_model.proofs.Gap.{gap-free}
use Rattle.flat_model.proofs.Rooms.{has_room}

-- what holds of the one that is there
pub there : {X : Type 0} (o : Option X) (x : X) (P : X → Type 0) → o ≡ Some x → P x → IsSomeAnd o P
there None x P is p = absurd cc
there (Some y) x P is p = let same : y ≡ x = cc in subst P (sym same) p

-- the one that is there
pub the_one : {X : Type 0} (o : Option X) (P : X → Type 0) → IsSomeAnd o P → (x : X) × (o ≡ Some x) × P x
the_one None P is = absurd is
the_one (Some x) P is = (x, refl, is)

same_mapping : (c : Cell) → MapsSame c c
same_mapping c = record { max = refl; kind = refl; object = refl; index = refl }

same_mode : (file : File) → KeepsMode file file
same_mode file = record { disk = refl; writable = refl }

-- what is left of F in G by an entry of p, by whom it gives birth to and which cells it takes
record Kept (F G : Flat) (p : ℕ) (births : ℕ → Bool) (gone : ℕ → Bool) : Type 0 where
  slots : G.slots ≡ F.slots
  disks : G.disks ≡ F.disks
  files : length G.files ≡ length F.files
  modes : (f : ℕ) (file : File) → slice_get F.files f ≡ Some file → IsSomeAnd (slice_get G.files f) (KeepsMode file)
  spaces : (x : ℕ) → (x ≡ p → ⊥) → births x ≡ false → space_of G x ≡ space_of F x
  born : (x : ℕ) → set.contains G.born x ≡ (set.contains F.born x || births x)
  cells : (x q : ℕ) (c : Cell) → cell_at F x q ≡ Some c → (x ≡ p → gone q ≡ false) → IsSomeAnd (cell_at G x q) (MapsSame c)
  zeros : (x q z : ℕ) (c : Cell) (pages : List Page) → cell_at F x q ≡ Some c → (x ≡ p → gone q ≡ false) → zero_of c ≡ Some z → map.get F.zeros z ≡ Some pages → IsSomeAnd (map.get G.zeros z) (λ new. length new ≡ length pages)

abbrev nobody : ℕ → Bool
nobody x = false

pub or_nothing : (b : Bool) → b ≡ (b || false)
or_nothing true = refl
or_nothing false = refl

all_kept : (F : Flat) (p : ℕ) (gone : ℕ → Bool) → Kept F F p nobody gone
all_kept F p gone = record {
  slots = refl;
  disks = refl;
  files = refl;
  modes = λ f file at. there (slice_get F.files f) file (KeepsMode file) at (same_mode file);
  spaces = λ x other unborn. refl;
  born = λ x. or_nothing (set.contains F.born x);
  cells = λ x q c at leaves. there (cell_at F x q) c (MapsSame c) at (same_mapping c);
  zeros = λ x q z c pages at leaves names is. there (map.get F.zeros z) pages (λ new. length new ≡ length pages) is refl;
}

pub slice_get-set_apart : {A : Type 0} (xs : List A) (i j : ℕ) (y : A) → (j ≡ i → ⊥) → slice_get (slice_set xs i y) j ≡ slice_get xs j
slice_get-set_apart [] zero j y apart = refl
slice_get-set_apart [] (suc i) j y apart = refl
slice_get-set_apart (x ∷ xs) zero zero y apart = absurd (apart refl)
slice_get-set_apart (x ∷ xs) zero (suc j) y apart = refl
slice_get-set_apart (x ∷ xs) (suc i) zero y apart = refl
slice_get-set_apart (x ∷ xs) (suc i) (suc j) y apart = slice_get-set_apart xs i j y (λ is. apart (ap (λ k. suc k) is))

-- FILES
pub modes-set : (fs : List File) (i f : ℕ) (old new file : File) → slice_get fs i ≡ Some old → KeepsMode old new → slice_get fs f ≡ Some file → IsSomeAnd (slice_get (slice_set fs i new) f) (KeepsMode file)
modes-set fs i f old new file was keeps at = elim (cases_eq f i) [
  | inl here ↦
      let same : old ≡ file = let both : Some old ≡ Some file = sym was ∙ ap (slice_get fs) (sym here) ∙ at in cc in
      there (slice_get (slice_set fs i new) f) new (KeepsMode file) (ap (slice_get (slice_set fs i new)) here ∙ slice_get-slice_set fs i old new was) (subst (λ (x : File). KeepsMode x new) same keeps)
  | inr apart ↦ there (slice_get (slice_set fs i new) f) file (KeepsMode file) (slice_get-set_apart fs i f new apart ∙ at) (same_mode file)
]

kept_file : (F : Flat) (p f : ℕ) (old new : File) (gone : ℕ → Bool) → slice_get F.files f ≡ Some old → KeepsMode old new → Kept F (with_file_at F f new) p nobody gone
kept_file F p f old new gone was keeps =
    let all = all_kept F p gone in
    record { slots = all.slots; disks = all.disks; files = length-set F.files f new; modes = λ k file at. modes-set F.files f k old new file was keeps at; spaces = all.spaces; born = all.born; cells = all.cells; zeros = all.zeros }

pub length-with_change_at : (g : File → File) (fs : List File) (i : ℕ) → length (with_change_at g fs i) ≡ length fs
length-with_change_at g [] i = refl
length-with_change_at g (x ∷ fs) zero = refl
length-with_change_at g (x ∷ fs) (suc i) = ap (λ n. suc n) (length-with_change_at g fs i)

modes-with_change_at : (j : ℕ) (new : Page) (fs : List File) (i f : ℕ) (file : File) → slice_get fs f ≡ Some file → IsSomeAnd (slice_get (with_change_at (file_with_page j new) fs i) f) (KeepsMode file)
modes-with_change_at j new fs i f file at = elim (cases_eq f i) [
  | inl here ↦ there (slice_get (with_change_at (file_with_page j new) fs i) f) (file_with_page j new file) (KeepsMode file) (ap (slice_get (with_change_at (file_with_page j new) fs i)) here ∙ slice_get-with_change_at (file_with_page j new) fs i ∙ ap (option_map (file_with_page j new)) (ap (slice_get fs) (sym here) ∙ at)) (record { disk = refl; writable = refl })
  | inr apart ↦ there (slice_get (with_change_at (file_with_page j new) fs i) f) file (KeepsMode file) (slice_get-changed_apart (file_with_page j new) fs i f apart ∙ at) (same_mode file)
]

-- OBJECTS
zero_kept : (o : Option (List Page)) (pages : List Page) (i : ℕ) (new : Page) → o ≡ Some pages → length (slice_set (unwrap_or o []) i new) ≡ length pages
zero_kept None pages i new is = absurd cc
zero_kept (Some ps) pages i new is = let same : ps ≡ pages = cc in length-set ps i new ∙ ap (λ (qs : List Page). length qs) same

kept_page : (F : Flat) (p : ℕ) (o : Object) (i : ℕ) (new : Page) (gone : ℕ → Bool) → Kept F (with_page F o i new) p nobody gone
kept_page F p (object.File f) i new gone =
    let all = all_kept F p gone in
    record { slots = all.slots; disks = all.disks; files = length-with_change_at (file_with_page i new) F.files f; modes = λ k file at. modes-with_change_at i new F.files f k file at; spaces = all.spaces; born = all.born; cells = all.cells; zeros = all.zeros }
kept_page F p (object.Zero z) i new gone =
    let all = all_kept F p gone in
    let put = slice_set (unwrap_or (map.get F.zeros z) []) i new in
    record {
      slots = all.slots;
      disks = all.disks;
      files = all.files;
      modes = all.modes;
      spaces = all.spaces;
      born = all.born;
      cells = all.cells;
      zeros = λ x q y c pages at leaves names is. elim (cases_eq y z) [
        | inl here ↦ there (map.get (map.insert F.zeros z put) y) put (λ new. length new ≡ length pages) (ap (map.get (map.insert F.zeros z put)) here ∙ get-insert_here F.zeros z put) (zero_kept (map.get F.zeros z) pages i new (ap (map.get F.zeros) (sym here) ∙ is))
        | inr apart ↦ there (map.get (map.insert F.zeros z put) y) pages (λ new. length new ≡ length pages) (get-insert_apart F.zeros z put y apart ∙ is) refl
      ];
    }
kept_page F p object.NewZero i new gone = all_kept F p gone

kept_cell : (F : Flat) (p q : ℕ) (old new : Cell) (gone : ℕ → Bool) → cell_at F p q ≡ Some old → MapsSame old new → Kept F (with_cell F p q new) p nobody gone
kept_cell F p q old new gone at same =
    let all = all_kept F p gone in
    let one = ChangesOneCell-with_cell F p q new old at in
    let here : cell_at (with_cell F p q new) p q ≡ Some new = ap (option_and_then (λ space. map.get space q)) (get-insert_here F.spaces p (map.insert (unwrap_or (space_of F p) map.empty) q new)) ∙ get-insert_here (unwrap_or (space_of F p) map.empty) q new in
    record {
      slots = all.slots;
      disks = all.disks;
      files = all.files;
      modes = all.modes;
      born = all.born;
      zeros = all.zeros;
      spaces = λ x other unborn. one.others x other;
      cells = λ x r c stands leaves. elim (cases_eq x p) [
        | inl mine ↦ elim (cases_eq r q) [
          | inl this ↦
              let was : old ≡ c = let both : Some old ≡ Some c = sym at ∙ sym (λ i. cell_at F (mine i) (this i)) ∙ stands in cc in
              there (cell_at (with_cell F p q new) x r) new (MapsSame c) ((λ i. cell_at (with_cell F p q new) (mine i) (this i)) ∙ here) (subst (λ (d : Cell). MapsSame d new) was same)
          | inr beside ↦ there (cell_at (with_cell F p q new) x r) c (MapsSame c) (ap (λ y. cell_at (with_cell F p q new) y r) mine ∙ one.beside r beside ∙ ap (λ y. cell_at F y r) (sym mine) ∙ stands) (same_mapping c)
        ]
        | inr other ↦ there (cell_at (with_cell F p q new) x r) c (MapsSame c) (ap (option_and_then (λ space. map.get space r)) (one.others x other) ∙ stands) (same_mapping c)
      ];
    }

kept_written : (F : Flat) (p q : ℕ) (c : Cell) (new : Page) (gone : ℕ → Bool) → cell_at F p q ≡ Some c → Kept F (with_page_stored F p q c new) p nobody gone
kept_written F p q c new gone at = elim c.kind as (λ k. Kept F (elim k as (λ x. Flat) [ Shared ↦ with_page F c.object c.index new | Private ↦ with_cell F p q (record c { own = Some new }) ]) p nobody gone) [
  | Shared ↦ kept_page F p c.object c.index new gone
  | Private ↦ kept_cell F p q c (record c { own = Some new }) gone at (record { max = refl; kind = refl; object = refl; index = refl })
]

-- SPACES
-- a zero object that a cell names is named, and stays when the others go
swept_zero : (G : Flat) (x q z : ℕ) (d : Cell) (pages : List Page) → cell_at G x q ≡ Some d → zero_of d ≡ Some z → IsSomeAnd (map.get G.zeros z) (λ new. length new ≡ length pages) → IsSomeAnd (map.get (without_unnamed G).zeros z) (λ new. length new ≡ length pages)
swept_zero G x q z d pages at names is =
    let names_it = named_zeros-from_cell G x q z d at names in
    let one = the_one (map.get G.zeros z) (λ new. length new ≡ length pages) is in
    there (map.get (without_unnamed G).zeros z) one.0 (λ new. length new ≡ length pages) (get-without_unnamed G z ∙ ap (λ b. cond b (map.get G.zeros z) None) names_it ∙ one.1) one.2

names_same : (c d : Cell) → MapsSame c d → zero_of d ≡ zero_of c
names_same c d same = ap (λ (o : Object). elim o as (λ x. Option ℕ) [ object.Zero z ↦ Some z | object.File f ↦ None | object.NewZero ↦ None ]) same.object

-- what goes with the zero objects that no cell names
kept_swept : (F G : Flat) (p : ℕ) (births gone : ℕ → Bool) → Kept F G p births gone → Kept F (without_unnamed G) p births gone
kept_swept F G p births gone kept = record {
  slots = kept.slots;
  disks = kept.disks;
  files = kept.files;
  modes = kept.modes;
  spaces = kept.spaces;
  born = kept.born;
  cells = kept.cells;
  zeros = λ x q z c pages at leaves names is.
      let one = the_one (cell_at G x q) (MapsSame c) (kept.cells x q c at leaves) in
      swept_zero G x q z one.0 pages one.1 (names_same c one.0 one.2 ∙ names) (kept.zeros x q z c pages at leaves names is);
}

-- another space of the process, which keeps the cells that aren't taken
kept_space : (F : Flat) (p : ℕ) (s : Space) (gone : ℕ → Bool) → ((q : ℕ) (c : Cell) → cell_at F p q ≡ Some c → gone q ≡ false → IsSomeAnd (map.get s q) (MapsSame c)) → Kept F (with_space F p s) p nobody gone
kept_space F p s gone stay =
    let all = all_kept F p gone in
    record {
      slots = all.slots;
      disks = all.disks;
      files = all.files;
      modes = all.modes;
      born = all.born;
      zeros = all.zeros;
      spaces = λ x other unborn. get-insert_apart F.spaces p s x other;
      cells = λ x q c at leaves. elim (cases_eq x p) [
        | inl mine ↦
            let one = the_one (map.get s q) (MapsSame c) (stay q c (ap (λ y. cell_at F y q) (sym mine) ∙ at) (leaves mine)) in
            there (cell_at (with_space F p s) x q) one.0 (MapsSame c) (ap (λ y. cell_at (with_space F p s) y q) mine ∙ ap (option_and_then (λ space. map.get space q)) (get-insert_here F.spaces p s) ∙ one.1) one.2
        | inr other ↦ there (cell_at (with_space F p s) x q) c (MapsSame c) (ap (option_and_then (λ space. map.get space q)) (get-insert_apart F.spaces p s x other) ∙ at) (same_mapping c)
      ];
    }

kept_unmapped : (F : Flat) (p first n : ℕ) → Kept F (without_pages F p first n) p nobody (is_in_range first n)
kept_unmapped F p first n = kept_swept F (with_space F p (without_range (cells_of F p) first n)) p nobody (is_in_range first n)
    (kept_space F p (without_range (cells_of F p) first n) (is_in_range first n) (λ q c at stays.
    there (map.get (without_range (cells_of F p) first n) q) c (MapsSame c) (get-without_range (cells_of F p) first n q ∙ ap (λ b. cond b None (map.get (cells_of F p) q)) stays ∙ sym (get-cells_of F p q) ∙ at) (same_mapping c)))

maps_prot : (first n q : ℕ) (prot : Prot) (c : Cell) → MapsSame c (with_prot first n prot q c)
maps_prot first n q prot c = elim (is_in_range first n q) as (λ b. MapsSame c (if b then record c { prot = prot } else c)) [ true ↦ record { max = refl; kind = refl; object = refl; index = refl } | false ↦ same_mapping c ]

kept_protected : (F : Flat) (p first n : ℕ) (prot : Prot) (gone : ℕ → Bool) → Kept F (with_space F p (with_prots (cells_of F p) first n prot)) p nobody gone
kept_protected F p first n prot gone = kept_space F p (with_prots (cells_of F p) first n prot) gone (λ q c at stays.
    there (map.get (with_prots (cells_of F p) first n prot) q) (with_prot first n prot q c) (MapsSame c) (get-with_prots (cells_of F p) first n prot q ∙ ap (option_map (with_prot first n prot q)) (sym (get-cells_of F p q) ∙ at)) (maps_prot first n q prot c))

kept_exited : (F : Flat) (p : ℕ) → Kept F (without_process F p) p nobody (λ q. true)
kept_exited F p = kept_swept F (record F { spaces = map.remove F.spaces p }) p nobody (λ q. true) (
    let all = all_kept F p (λ q. true) in
    record {
      slots = all.slots;
      disks = all.disks;
      files = all.files;
      modes = all.modes;
      born = all.born;
      zeros = all.zeros;
      spaces = λ x other unborn. get-remove_apart F.spaces p x other;
      cells = λ x q c at leaves. elim (cases_eq x p) [
        | inl mine ↦ absurd (let both = leaves mine in cc)
        | inr other ↦ there (cell_at (record F { spaces = map.remove F.spaces p }) x q) c (MapsSame c) (ap (option_and_then (λ space. map.get space q)) (get-remove_apart F.spaces p x other) ∙ at) (same_mapping c)
      ];
    })

kept_forked : (F : Flat) (p child : ℕ) (gone : ℕ → Bool) → space_of F child ≡ None → Kept F (with_child F p child) p (λ x. child == x) gone
kept_forked F p child gone none =
    let all = all_kept F p gone in
    record {
      slots = all.slots;
      disks = all.disks;
      files = all.files;
      modes = all.modes;
      spaces = λ x other unborn. get-insert_apart F.spaces child (cells_of F p) x (λ is. absurd (let both = sym (eq-eqb child x (sym is)) ∙ unborn in cc));
      born = λ x. set.contains-insert nat_cmp_total F.born child x ∙ either (eq_by_cmp nat_cmp x child) (child == x) (set.contains F.born x) (unsigned_tied x child ∙ turned x child);
      cells = λ x q c at leaves. elim (cases_eq x child) [
        | inl here ↦ absurd (let gone = ap (option_and_then (λ space. map.get space q)) (ap (λ y. space_of F y) here ∙ none) in let both : None ≡ Some c = sym gone ∙ at in cc)
        | inr apart ↦ there (cell_at (with_child F p child) x q) c (MapsSame c) (ap (option_and_then (λ space. map.get space q)) (get-insert_apart F.spaces child (cells_of F p) x apart) ∙ at) (same_mapping c)
      ];
      zeros = all.zeros;
    }
  where
    either : (a b r : Bool) → a ≡ b → (a || r) ≡ (r || b)
    either true true true is = refl
    either true true false is = refl
    either true false r is = absurd cc
    either false true r is = absurd cc
    either false false true is = refl
    either false false false is = refl

    turned : (x y : ℕ) → (x == y) ≡ (y == x)
    turned x y = elim (x == y) as (λ b. (x == y) ≡ b → b ≡ (y == x)) [
      | true ↦ λ is. sym (eq-eqb y x (sym (eqb-true x y is)))
      | false ↦ λ is. elim (y == x) as (λ b. (y == x) ≡ b → false ≡ b) [ true ↦ λ back. absurd (let both = sym (eq-eqb x y (sym (eqb-true y x back))) ∙ is in cc) | false ↦ λ back. refl ] refl
    ] refl

-- by a test of the cells that go that says the same
kept_taking : (F G : Flat) (p : ℕ) (births gone gone' : ℕ → Bool) → ((q : ℕ) → gone' q ≡ gone q) → Kept F G p births gone → Kept F G p births gone'
kept_taking F G p births gone gone' same kept = record {
  slots = kept.slots;
  disks = kept.disks;
  files = kept.files;
  modes = kept.modes;
  spaces = kept.spaces;
  born = kept.born;
  cells = λ x q c at leaves. kept.cells x q c at (λ mine. sym (same q) ∙ leaves mine);
  zeros = λ x q z c pages at leaves. kept.zeros x q z c pages at (λ mine. sym (same q) ∙ leaves mine);
}

-- one after the other
maps_then : (c d e : Cell) → MapsSame c d → MapsSame d e → MapsSame c e
maps_then c d e one two = record { max = two.max ∙ one.max; kind = two.kind ∙ one.kind; object = two.object ∙ one.object; index = two.index ∙ one.index }

mode_then : (f g h : File) → KeepsMode f g → KeepsMode g h → KeepsMode f h
mode_then f g h one two = record { disk = two.disk ∙ one.disk; writable = two.writable ∙ one.writable }

no_more : (a b c : Bool) (r : Bool) → a ≡ (b || false) → c ≡ (a || r) → c ≡ (b || r)
no_more a true c r one two = two ∙ ap (λ x. x || r) one
no_more a false c r one two = two ∙ ap (λ x. x || r) one

kept_then : (F G H : Flat) (p : ℕ) (births gone : ℕ → Bool) → Kept F G p nobody gone → Kept G H p births gone → Kept F H p births gone
kept_then F G H p births gone one two = record {
  slots = two.slots ∙ one.slots;
  disks = two.disks ∙ one.disks;
  files = two.files ∙ one.files;
  modes = λ f file at. let g = the_one (slice_get G.files f) (KeepsMode file) (one.modes f file at) in let h = the_one (slice_get H.files f) (KeepsMode g.0) (two.modes f g.0 g.1) in there (slice_get H.files f) h.0 (KeepsMode file) h.1 (mode_then file g.0 h.0 g.2 h.2);
  spaces = λ x other unborn. two.spaces x other unborn ∙ one.spaces x other refl;
  born = λ x. no_more (set.contains G.born x) (set.contains F.born x) (set.contains H.born x) (births x) (one.born x) (two.born x);
  cells = λ x q c at leaves. let d = the_one (cell_at G x q) (MapsSame c) (one.cells x q c at leaves) in let e = the_one (cell_at H x q) (MapsSame d.0) (two.cells x q d.0 d.1 leaves) in there (cell_at H x q) e.0 (MapsSame c) e.1 (maps_then c d.0 e.0 d.2 e.2);
  zeros = λ x q z c pages at leaves names is.
      let d = the_one (cell_at G x q) (MapsSame c) (one.cells x q c at leaves) in
      let g = the_one (map.get G.zeros z) (λ new. length new ≡ length pages) (one.zeros x q z c pages at leaves names is) in
      let h = the_one (map.get H.zeros z) (λ new. length new ≡ length g.0) (two.zeros x q z d.0 g.0 d.1 leaves (names_same c d.0 d.2 ∙ names) g.1) in
      there (map.get H.zeros z) h.0 (λ new. length new ≡ length pages) h.1 (h.2 ∙ g.2);
}

-- A MAP
-- the pages whose cells a Map takes away
abbrev taken_by : Place → ℕ → ℕ → Bool
taken_by (At a) n q = is_in_range (page a) n q
taken_by Any n q = false

takes_map : (r : Request) (q : ℕ) → takes (Map r.place r.len r.prot r.kind r.object r.offset) q ≡ taken_by r.place (pages_in r.len) q
takes_map r q = by_place r.place
  where
    by_place : (place : Place) → takes (Map place r.len r.prot r.kind r.object r.offset) q ≡ taken_by place (pages_in r.len) q
    by_place (At a) = refl
    by_place Any = refl

kept_cleared : (F : Flat) (p : ℕ) (place : Place) (n : ℕ) → Kept F (without_replaced F p place n) p nobody (taken_by place n)
kept_cleared F p (At a) n = kept_space F p (without_range (cells_of F p) (page a) n) (is_in_range (page a) n) (λ q c at stays.
    there (map.get (without_range (cells_of F p) (page a) n) q) c (MapsSame c) (get-without_range (cells_of F p) (page a) n q ∙ ap (λ b. cond b None (map.get (cells_of F p) q)) stays ∙ sym (get-cells_of F p q) ∙ at) (same_mapping c))
kept_cleared F p Any n = all_kept F p (taken_by Any n)

kept_made : (C : Flat) (p n : ℕ) (gone : ℕ → Bool) → Kept C (record C { zeros = map.insert C.zeros (new_number C) (replicate n zero_page) }) p nobody gone
kept_made C p n gone =
    let all = all_kept C p gone in
    record {
      slots = all.slots;
      disks = all.disks;
      files = all.files;
      modes = all.modes;
      spaces = all.spaces;
      born = all.born;
      cells = all.cells;
      zeros = λ x q z c pages at leaves names is.
          let names_it = named_zeros-from_cell C x q z c at names in
          let apart : z ≡ new_number C → ⊥ = λ same. absurd (let both = sym (ap (is_named C) same ∙ new_number-new C) ∙ names_it in cc) in
          there (map.get (map.insert C.zeros (new_number C) (replicate n zero_page)) z) pages (λ new. length new ≡ length pages) (get-insert_apart C.zeros (new_number C) (replicate n zero_page) z apart ∙ is) refl;
    }

kept_object : (C : Flat) (k : Kind) (o : Object) (p n : ℕ) (gone : ℕ → Bool) → Kept C (with_object C k o n) p nobody gone
kept_object C Shared (object.File f) p n gone = all_kept C p gone
kept_object C Shared object.NewZero p n gone = kept_made C p n gone
kept_object C Shared (object.Zero z) p n gone = all_kept C p gone
kept_object C Private o p n gone = all_kept C p gone

-- a cell that a Map doesn't take away isn't in its range
outside : (F : Flat) (p : ℕ) (place : Place) (n first q : ℕ) (c : Cell) → first_page (cells_of (without_replaced F p place n) p) place n ≡ Some first → map.get (cells_of (without_replaced F p place n) p) q ≡ Some c → taken_by place n q ≡ false → is_in_range first n q ≡ false
outside F p (At a) n first q c is at stays = let here : page a ≡ first = cc in ap (λ k. is_in_range k n q) (sym here) ∙ stays
outside F p Any n first q c is at stays = elim (is_in_range first n q) as (λ b. is_in_range first n q ≡ b → b ≡ false) [
  | true ↦ λ inside. absurd (let free = gap-free (cells_of F p) n first is q (in_range-low first n q inside) (in_range-high first n q inside) in let both : None ≡ Some c = sym free ∙ at in cc)
  | false ↦ λ out. refl
] refl

kept_put : (F D : Flat) (p : ℕ) (place : Place) (n first : ℕ) (cell : ℕ → Cell) → D.spaces ≡ (without_replaced F p place n).spaces → first_page (cells_of (without_replaced F p place n) p) place n ≡ Some first → Kept D (with_space D p (with_cells (cells_of (without_replaced F p place n) p) first n cell)) p nobody (taken_by place n)
kept_put F D p place n first cell same is = kept_space D p (with_cells (cells_of (without_replaced F p place n) p) first n cell) (taken_by place n) (λ q c at stays.
    let space = cells_of (without_replaced F p place n) p in
    let old : map.get space q ≡ Some c = sym (get-cells_of (without_replaced F p place n) p q) ∙ ap (λ spaces. option_and_then (λ s. map.get s q) (map.get spaces p)) (sym same) ∙ at in
    there (map.get (with_cells space first n cell) q) c (MapsSame c) (get-with_cells space first n cell q ∙ ap (λ b. cond b (Some (cell (q - first))) (map.get space q)) (outside F p place n first q c is old stays) ∙ old) (same_mapping c))

kept_mapped : (F : Flat) (p : ℕ) (r : Request) (first : ℕ) (G : Flat) → map_result F p r ≡ Ok (first, G) → Kept F G p nobody (takes (Map r.place r.len r.prot r.kind r.object r.offset))
kept_mapped F p r first G is =
    let m = mapped-map_result F p r first G is in
    let n = pages_in r.len in
    let C = without_replaced F p r.place n in
    let D = with_object C r.kind r.object n in
    let cell = new_cell F C r in
    let U = with_space D p (with_cells (cells_of C p) first n cell) in
    let gone = taken_by r.place n in
    let to_object = kept_then F C D p nobody gone (kept_cleared F p r.place n) (kept_object C r.kind r.object p n gone) in
    let to_cells = kept_then F D U p nobody gone to_object (kept_put F D p r.place n first cell (spaces-with_object C r.kind r.object n) m.first_is) in
    let whole = kept_swept F U p nobody gone to_cells in
    kept_taking F G p nobody gone (takes (Map r.place r.len r.prot r.kind r.object r.offset)) (λ q. takes_map r q) (subst (λ (H : Flat). Kept F H p nobody gone) (sym m.after) whole)

-- A CALL
abbrev births_by : Call → Reply → ℕ → Bool
births_by call r x = if is_done r then is_fork_of x call else false

abbrev KeptBy : Flat → ℕ → Call → Effect → Type 0
KeptBy F p call O = Kept F O.after p (births_by call O.reply) (takes call)

by_signal : {A : Type 0} (P : Effect → Type 0) (F : Flat) (acts : A → Effect) (r : Result A Signal) → ((s : Signal) → P (record { reply = reply.Signal s; after = F })) → ((x : A) → r ≡ Ok x → P (acts x)) → P (or_signal F acts r)
by_signal P F acts (Ok x) none some = some x refl
by_signal P F acts (Err s) none some = none s

by_refusal : {A : Type 0} (P : Effect → Type 0) (F : Flat) (acts : A → Effect) (r : Result A Errno) → ((e : Errno) → P (record { reply = reply.Refused e; after = F })) → ((x : A) → r ≡ Ok x → P (acts x)) → P (or_refused F acts r)
by_refusal P F acts (Ok x) none some = some x refl
by_refusal P F acts (Err e) none some = none e

mode_longer : (n : ℕ) (file : File) → KeepsMode file (longer_file n file)
unfolding longer_file
mode_longer n file = record { disk = refl; writable = refl }

mode_with_part : (offset : ℕ) (line : List ℕ) (file : File) → KeepsMode file (with_part offset line file)
unfolding with_part
mode_with_part offset line file = let long = mode_longer (offset + length line) file in record { disk = long.disk; writable = long.writable }

mode_of_length : (n : ℕ) (file : File) → KeepsMode file (file_of_length n file)
mode_of_length n file = by_less (nat_lt n file.len) (nat_lt file.len n)
  where
    by_less : (a b : Bool) → KeepsMode file (if a then shorter_file n file else if b then longer_file n file else file)
    by_less true b = record { disk = refl; writable = refl }
    by_less false true = mode_longer n file
    by_less false false = same_mode file

-- a file for which there was room, changed in a way that keeps its mode
kept_room : (F : Flat) (p f end : ℕ) (file new : File) (gone : ℕ → Bool) → room_for F f end ≡ Ok file → KeepsMode file new → Kept F (with_file_at F f new) p nobody gone
kept_room F p f end file new gone is keeps =
    let room = has_room F f end file is in
    let grown : KeepsMode room.old file = record { disk = ap (λ (x : File). x.disk) room.file; writable = ap (λ (x : File). x.writable) room.file } in
    kept_file F p f room.old new gone room.found (mode_then room.old file new grown keeps)

kept_outcome : (F : Flat) (p : ℕ) (call : Call) → ((child : ℕ) → call ≡ Fork child → space_of F child ≡ None) → KeptBy F p call (effect F p call)
kept_outcome F p (Load a n) unborn = by_signal (KeptBy F p (Load a n)) F (λ m. record { reply = reply.Word (word_at m.1 a n); after = F }) (access_target F p can_read a n) (λ s. all_kept F p (takes (Load a n))) (λ m is. all_kept F p (takes (Load a n)))
kept_outcome F p (Store a n v) unborn = by_signal (KeptBy F p (Store a n v)) F (λ m. done_effect (with_page_stored F p (page a) m.0 (word_put m.1 a n v))) (access_target F p can_write a n) (λ s. all_kept F p (takes (Store a n v)))
    (λ m is. kept_written F p (page a) m.0 (word_put m.1 a n v) (takes (Store a n v)) (is_met F p can_write a n m.0 m.1 is).cell)
kept_outcome F p (Map place len prot kind object offset) unborn =
    let r : Request = record { place = place; len = len; prot = prot; kind = kind; object = object; offset = offset } in
    by_refusal (KeptBy F p (Map place len prot kind object offset)) F (λ m. record { reply = reply.Mapped (4096 * m.0); after = m.1 }) (map_result F p r) (λ e. all_kept F p (takes (Map place len prot kind object offset))) (λ m is. kept_mapped F p r m.0 m.1 is)
kept_outcome F p (Unmap a len) unborn = by_refusal (KeptBy F p (Unmap a len)) F (λ x. done_effect (without_pages F p (page a) (pages_in len))) (check (is_range a len) errno.Invalid) (λ e. all_kept F p (takes (Unmap a len))) (λ x is. kept_unmapped F p (page a) (pages_in len))
kept_outcome F p (Protect a len prot) unborn =
    by_refusal (KeptBy F p (Protect a len prot)) F (λ x. done_effect (with_space F p (with_prots (cells_of F p) (page a) (pages_in len) prot))) (valid_range F p a len >> check (may_have (cells_of F p) (page a) (pages_in len) prot) errno.Access) (λ e. all_kept F p (takes (Protect a len prot)))
    (λ x is. kept_protected F p (page a) (pages_in len) prot (takes (Protect a len prot)))
kept_outcome F p (Sync a len) unborn = by_refusal (KeptBy F p (Sync a len)) F (λ x. record { reply = reply.Synced 0; after = F }) (valid_range F p a len) (λ e. all_kept F p (takes (Sync a len))) (λ x is. all_kept F p (takes (Sync a len)))
kept_outcome F p (Read file offset len) unborn = by_refusal (KeptBy F p (Read file offset len)) F (λ x. record { reply = reply.Bytes (read_line x offset len); after = F }) (existing_file F file) (λ e. all_kept F p (takes (Read file offset len))) (λ x is. all_kept F p (takes (Read file offset len)))
kept_outcome F p (Write file offset line rest) unborn =
    by_refusal (KeptBy F p (Write file offset line rest)) F (λ x. done_effect (with_file_at F file (with_part offset line x))) (room_for F file (offset + length line)) (λ e. all_kept F p (takes (Write file offset line rest)))
    (λ x is. kept_room F p file (offset + length line) x (with_part offset line x) (takes (Write file offset line rest)) is (mode_with_part offset line x))
kept_outcome F p (Truncate file len) unborn =
    by_refusal (KeptBy F p (Truncate file len)) F (λ x. done_effect (with_file_at F file (file_of_length len x))) (room_for F file len) (λ e. all_kept F p (takes (Truncate file len)))
    (λ x is. kept_room F p file len x (file_of_length len x) (takes (Truncate file len)) is (mode_of_length len x))
kept_outcome F p (Fork child) unborn = by_refusal (KeptBy F p (Fork child)) F (λ x. done_effect (with_child F p child)) (check (nat_le (reserved F + private_cells (cells_of F p)) F.slots) errno.NoSwap) (λ e. all_kept F p (takes (Fork child))) (λ x is. kept_forked F p child (takes (Fork child)) (unborn child refl))
kept_outcome F p Exit unborn = kept_exited F p

-- A STEP
kept_tails : (F : Flat) (test : ℕ → Bool) (p : ℕ) (gone : ℕ → Bool) → Kept F (tails_cleared F test) p nobody gone
kept_tails F test p gone =
    let all = all_kept F p gone in
    record { slots = all.slots; disks = all.disks; files = count test F.files; modes = modes test F.files; spaces = all.spaces; born = all.born; cells = all.cells; zeros = all.zeros }
  where
    count : (t : ℕ → Bool) (fs : List File) → length (files_cleared t fs) ≡ length fs
    count t [] = refl
    count t (x ∷ fs) = ap (λ n. suc n) (count (λ f. t (suc f)) fs)

    one : (b : Bool) (file : File) → KeepsMode file (if b then without_tail file else file)
    one true file = record { disk = refl; writable = refl }
    one false file = same_mode file

    modes : (t : ℕ → Bool) (fs : List File) (f : ℕ) (file : File) → slice_get fs f ≡ Some file → IsSomeAnd (slice_get (files_cleared t fs) f) (KeepsMode file)
    modes t [] f file is = absurd cc
    modes t (x ∷ fs) zero file is = let same : x ≡ file = cc in subst (λ (y : File). KeepsMode y (if t 0 then without_tail x else x)) same (one (t 0) x)
    modes t (x ∷ fs) (suc f) file is = modes (λ k. t (suc k)) fs f file is

not_some : (o : Option Space) (b : Bool) → (IsSome o → IsTrue b) → IsFalse b → o ≡ None
not_some None b born unborn = refl
not_some (Some s) b born unborn = absurd (let both = sym (born refl) ∙ unborn in cc)

pub child_none : (G : Flat) (call : Call) → AreBorn G → IsUnborn G call → (child : ℕ) → call ≡ Fork child → space_of G child ≡ None
child_none G call born unborn child is = not_some (space_of G child) (set.contains G.born child) (born child) (subst (IsUnborn G) is unborn)

done_alike : (r : Reply) → is_done (without_start r) ≡ is_done r
done_alike (reply.Synced from) = refl
done_alike r = refl

kept_acted : (G : Flat) (p : ℕ) (call : Call) (cleared : ℕ) (r : Reply) → AreBorn G → IsUnborn G call → IsDue G (record { process = p; call = call; reply = r; cleared = cleared }) → Kept G (after_act G (record { process = p; call = call; reply = r; cleared = cleared })) p (births_by call r) (takes call)
kept_acted G p call cleared (reply.Io disk before after) born unborn due = all_kept G p (takes call)
kept_acted G p call cleared r born unborn due =
    let kept = kept_outcome G p call (child_none G call born unborn) in
    let same : is_done (effect G p call).reply ≡ is_done r = ap is_done due ∙ done_alike r in
    subst (λ (b : Bool). Kept G (effect G p call).after p (λ x. if b then is_fork_of x call else false) (takes call)) same kept

kept_step : (F : Flat) (e : Entry) → AreBorn F → IsStep F e → Kept F (step F e) e.process (λ x. is_birth x e) (takes e.call)
kept_step F e born is =
    let G = tails_cleared F (is_bit_set e.cleared) in
    kept_then F G (step F e) e.process (λ x. is_birth x e) (takes e.call) (kept_tails F (is_bit_set e.cleared) e.process (takes e.call))
    (kept_acted G e.process e.call e.cleared e.reply born (unborn_in e.call is.unborn) is.due)
  where
    unborn_in : (call : Call) → IsUnborn F call → IsUnborn (tails_cleared F (is_bit_set e.cleared)) call
    unborn_in (Fork child) h = h
    unborn_in c h = tt

pub StepFrame-step : (F : Flat) (e : Entry) → AreBorn F → IsStep F e → StepFrame F e (step F e)
StepFrame-step F e born is =
    let kept = kept_step F e born is in
    record {
      slots = kept.slots;
      disks = kept.disks;
      files = kept.files;
      modes = kept.modes;
      spaces = kept.spaces;
      born = kept.born;
      cells = kept.cells;
      zeros = kept.zeros;
    }

pub steps_keep_law : StepsKeep
steps_keep_law = record { frame = StepFrame-step }
