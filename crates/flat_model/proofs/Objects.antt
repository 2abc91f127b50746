-- What a store through a shared cell changes.
use Rattle.std.proofs.Common.{◌≡◌, ℕ, ◌⊎◌, List, [], length, Option, Some, None, refl, sym, ap, subst, ◌∙◌, inl, inr}
use Rattle.std.specs.Prelude.{IsSomeAnd, option_map, option_and_then, unwrap_or, slice_get, slice_set}
use Rattle.std.specs.Option.{option_or}
use Rattle.std.specs.FinMap as map
use Rattle.std.proofs.lemmas.Bool.{cases_eq}
use Rattle.std.proofs.lemmas.List.{length-set}
use Rattle.vm_types.specs.declared.call.Kind.TheVariants.{Shared}
use Rattle.vm_types.specs.declared.call.Object.{Object}
use Rattle.vm_types.specs.declared.call.Object.TheVariants as object
use Rattle.vm_types.specs.declared.call.Reply.TheVariants as reply
use Rattle.flat_model.specs.Words.{Page, page, word_put}
use Rattle.flat_model.specs.Flat.{Cell, File, Flat, cell_at, pages_of}
use Rattle.flat_model.specs.Access.{store, with_change_at, file_with_page, with_page}
use Rattle.flat_model.specs.ObjectLaws.{object_page, KeepsLength, ChangesOnePage, SharedStore}
use Rattle.flat_model.proofs.Bytes.{slice_get-with_change_at, slice_get-changed_apart, slice_get-slice_set}
use Rattle.flat_model.proofs.Ranges.{get-insert_here, get-insert_apart}
use Rattle.flat_model.proofs.Stores.{store_met, store-shared}
use Rattle.flat_model.proofs.Frames.{there, slice_get-set_apart, length-with_change_at}

-- one page of an object's pages is another
changed_there : (o : Option (List Page)) (i : ℕ) (old new : Page) → option_and_then (λ pages. slice_get pages i) o ≡ Some old → option_and_then (λ pages. slice_get pages i) (option_map (λ (pages : List Page). slice_set pages i new) o) ≡ Some new
changed_there None i old new is = absurd cc
changed_there (Some pages) i old new is = slice_get-slice_set pages i old new is

changed_beside : (o : Option (List Page)) (i j : ℕ) (new : Page) → (j ≡ i → ⊥) → option_and_then (λ pages. slice_get pages j) (option_map (λ (pages : List Page). slice_set pages i new) o) ≡ option_and_then (λ pages. slice_get pages j) o
changed_beside None i j new apart = refl
changed_beside (Some pages) i j new apart = slice_get-set_apart pages i j new apart

changed_count : (o : Option (List Page)) (i : ℕ) (new : Page) → option_map (λ pages. length pages) (option_map (λ (pages : List Page). slice_set pages i new) o) ≡ option_map (λ pages. length pages) o
changed_count None i new = refl
changed_count (Some pages) i new = ap (λ n. Some n) (length-set pages i new)

-- the pages of the object, with that page, and those of any other as they were
abbrev PagesChanged : Flat → Object → ℕ → Page → Flat → Type 0
PagesChanged F o i new G = (pages_of G o ≡ option_map (λ (pages : List Page). slice_set pages i new) (pages_of F o)) × ((x : Object) → (x ≡ o → ⊥) → pages_of G x ≡ pages_of F x)

file_pages : (i : ℕ) (new : Page) (o : Option File) → option_map (λ file. file.pages) (option_map (file_with_page i new) o) ≡ option_map (λ (pages : List Page). slice_set pages i new) (option_map (λ file. file.pages) o)
file_pages i new None = refl
file_pages i new (Some file) = refl

zero_pages : (i : ℕ) (new : Page) (o : Option (List Page)) (old : Page) → option_and_then (λ pages. slice_get pages i) o ≡ Some old → Some (slice_set (unwrap_or o []) i new) ≡ option_map (λ (pages : List Page). slice_set pages i new) o
zero_pages i new None old is = absurd cc
zero_pages i new (Some pages) old is = refl

pages_changed : (F : Flat) (o : Object) (i : ℕ) (old new : Page) → object_page F o i ≡ Some old → PagesChanged F o i new (with_page F o i new)
pages_changed F (object.File f) i old new is = (
  ap (option_map (λ file. file.pages)) (slice_get-with_change_at (file_with_page i new) F.files f) ∙ file_pages i new (slice_get F.files f),
  other,
)
  where
    other : (x : Object) → (x ≡ object.File f → ⊥) → pages_of (with_page F (object.File f) i new) x ≡ pages_of F x
    other (object.File g) apart = ap (option_map (λ file. file.pages)) (slice_get-changed_apart (file_with_page i new) F.files f g (λ is. apart (ap (λ k. object.File k) is)))
    other (object.Zero z) apart = refl
    other object.NewZero apart = refl
pages_changed F (object.Zero z) i old new is = (
  get-insert_here F.zeros z (slice_set (unwrap_or (map.get F.zeros z) []) i new) ∙ zero_pages i new (map.get F.zeros z) old is,
  other,
)
  where
    other : (x : Object) → (x ≡ object.Zero z → ⊥) → pages_of (with_page F (object.Zero z) i new) x ≡ pages_of F x
    other (object.File g) apart = refl
    other (object.Zero y) apart = get-insert_apart F.zeros z (slice_set (unwrap_or (map.get F.zeros z) []) i new) y (λ is. apart (ap (λ k. object.Zero k) is))
    other object.NewZero apart = refl
pages_changed F object.NewZero i old new is = absurd cc

same_file : (file : File) → KeepsLength file file
same_file file = record { len = refl; extents = refl; mode = record { disk = refl; writable = refl } }

-- the rest of flat memory
record Rest (F G : Flat) : Type 0 where
  files : length G.files ≡ length F.files
  lengths : (f : ℕ) (file : File) → slice_get F.files f ≡ Some file → IsSomeAnd (slice_get G.files f) (KeepsLength file)
  slots : G.slots ≡ F.slots
  disks : G.disks ≡ F.disks
  spaces : G.spaces ≡ F.spaces
  born : G.born ≡ F.born

rest_kept : (F : Flat) (o : Object) (i : ℕ) (new : Page) → Rest F (with_page F o i new)
rest_kept F (object.File f) i new = record {
  files = length-with_change_at (file_with_page i new) F.files f;
  lengths = λ g file at. elim (cases_eq g f) [
    | inl here ↦ there (slice_get (with_change_at (file_with_page i new) F.files f) g) (file_with_page i new file) (KeepsLength file) (ap (slice_get (with_change_at (file_with_page i new) F.files f)) here ∙ slice_get-with_change_at (file_with_page i new) F.files f ∙ ap (option_map (file_with_page i new)) (ap (slice_get F.files) (sym here) ∙ at)) (record { len = refl; extents = refl; mode = record { disk = refl; writable = refl } })
    | inr apart ↦ there (slice_get (with_change_at (file_with_page i new) F.files f) g) file (KeepsLength file) (slice_get-changed_apart (file_with_page i new) F.files f g apart ∙ at) (same_file file)
  ];
  slots = refl;
  disks = refl;
  spaces = refl;
  born = refl;
}
rest_kept F (object.Zero z) i new = record { files = refl; lengths = λ g file at. there (slice_get F.files g) file (KeepsLength file) at (same_file file); slots = refl; disks = refl; spaces = refl; born = refl }
rest_kept F object.NewZero i new = record { files = refl; lengths = λ g file at. there (slice_get F.files g) file (KeepsLength file) at (same_file file); slots = refl; disks = refl; spaces = refl; born = refl }

is_object : (x o : Object) → (x ≡ o) ⊎ (x ≡ o → ⊥)
is_object (object.File f) (object.File g) = elim (cases_eq f g) [ inl is ↦ inl (ap (λ k. object.File k) is) | inr apart ↦ inr (λ is. apart cc) ]
is_object (object.Zero f) (object.Zero g) = elim (cases_eq f g) [ inl is ↦ inl (ap (λ k. object.Zero k) is) | inr apart ↦ inr (λ is. apart cc) ]
is_object object.NewZero object.NewZero = inl refl
is_object x o = inr (λ is. cc)

pub ChangesOnePage-with_page : (F : Flat) (o : Object) (i : ℕ) (old new : Page) → object_page F o i ≡ Some old → ChangesOnePage F o i new (with_page F o i new)
ChangesOnePage-with_page F o i old new is =
    let pages = pages_changed F o i old new is in
    let rest = rest_kept F o i new in
    record {
      changed = ap (option_and_then (λ ps. slice_get ps i)) pages.0 ∙ changed_there (pages_of F o) i old new is;
      beside = λ j apart. ap (option_and_then (λ ps. slice_get ps j)) pages.0 ∙ changed_beside (pages_of F o) i j new apart;
      others = λ x j apart. ap (option_and_then (λ ps. slice_get ps j)) (pages.1 x apart);
      counts = λ x. elim (is_object x o) [
        | inl same ↦ ap (λ y. option_map (λ ps. length ps) (pages_of (with_page F o i new) y)) same ∙ ap (option_map (λ ps. length ps)) pages.0 ∙ changed_count (pages_of F o) i new ∙ ap (λ y. option_map (λ ps. length ps) (pages_of F y)) (sym same)
        | inr apart ↦ ap (option_map (λ ps. length ps)) (pages.1 x apart)
      ];
      files = rest.files;
      lengths = rest.lengths;
      slots = rest.slots;
      disks = rest.disks;
      spaces = rest.spaces;
      born = rest.born;
    }

pub shared-one_page : (F : Flat) (p a n v : ℕ) (c : Cell) → (store F p a n v).reply ≡ reply.Done → cell_at F p (page a) ≡ Some c → c.kind ≡ Shared → c.own ≡ None → IsSomeAnd (object_page F c.object c.index) (λ old. ChangesOnePage F c.object c.index (word_put old a n v) (store F p a n v).after)
shared-one_page F p a n v c is at shared alone =
    let s = store_met F p a n v c is at in
    let old : object_page F c.object c.index ≡ Some s.0 = sym (ap (λ o. option_or o (object_page F c.object c.index)) alone) ∙ s.2.shows in
    there (object_page F c.object c.index) s.0 (λ old. ChangesOnePage F c.object c.index (word_put old a n v) (store F p a n v).after) old
    (subst (λ (G : Flat). ChangesOnePage F c.object c.index (word_put s.0 a n v) G) (sym (store-shared F p a n v c s.0 s.1 shared)) (ChangesOnePage-with_page F c.object c.index s.0 (word_put s.0 a n v) old))

pub shared_store_law : SharedStore
shared_store_law = record { one_page = shared-one_page }
