-- Pages and their places along a history.
use Rattle.std.proofs.Common.{◌≡◌, ◌≢◌, ℕ, zero, suc, ◌<◌, ◌≤◌, List, [], ◌∷◌, length, take, Option, Some, None, refl, sym, ap, subst, ◌∙◌, arith}
use Rattle.std.specs.Prelude.{IsSome, IsSomeAnd, option_and_then, slice_get}
use Rattle.std.specs.Option.{option_map_or}
use Rattle.flat_model.specs.vm_types.Pages.{bytes_before, pages_in}
use Rattle.flat_model.specs.vm_types.declared.call.Entry.{Entry}
use Rattle.flat_model.specs.vnode_files.Vnode.{page_blocks}
use Rattle.flat_model.specs.Flat.{File, Flat}
use Rattle.flat_model.specs.History.{replay}
use Rattle.flat_model.specs.Step.{step}
use Rattle.flat_model.specs.Words.{Page}
use Rattle.page_store.specs.core_arena.Bytes.{zeros}
use Rattle.page_store.specs.page_hash.declared.PageName.{PageName}
use Rattle.page_store.specs.Bytes.{clip}
use Rattle.mark_laws.specs.Pages.{after_first, bytes_there, file_page, page_there, disk_place}
use Rattle.mark_laws.specs.FileLaws.{HaveBlocks, KeepsOldBlocks}
use Rattle.mark_laws.proofs.FilesStay.{files_stay_rule}
use Rattle.mark_laws.proofs.PagePlaces.{place-parts, place-of, no-block}

-- what is said of an optional value that is there
pub some-and : (o : Option File) (P : File → Type 0) → IsSomeAnd o P → (x : File) × (o ≡ Some x) × P x
some-and None P is = absurd is
some-and (Some x) P is = (x, refl, is)

-- a page keeps its place in a step, and along a history
pub step-place : (F : Flat) (e : Entry) (name : PageName) (disk block : ℕ) → disk_place F name ≡ Some (disk, block) → disk_place (step F e) name ≡ Some (disk, block)
step-place F e name disk block at =
    let p = place-parts F name disk block at in
    let g = some-and (slice_get (step F e).files name.object) (KeepsOldBlocks p.file) ((files_stay_rule.files F e).blocks name.object p.file p.there) in
    place-of (step F e) name g.0 block g.1 (g.2.blocks name.page block p.at) ∙ (λ i. Some ((g.2.disk ∙ p.on) i, block))

pub place-along : (F : Flat) (H : List Entry) (k : ℕ) (name : PageName) (disk block : ℕ) → disk_place (after_first F H k) name ≡ Some (disk, block) → disk_place (replay F H) name ≡ Some (disk, block)
place-along F [] zero name disk block at = at
place-along F [] (suc k) name disk block at = at
place-along F (e ∷ H) zero name disk block at = place-along (step F e) H zero name disk block (step-place F e name disk block at)
place-along F (e ∷ H) (suc k) name disk block at = place-along (step F e) H k name disk block at

-- files keep blocks for their pages along a history
pub kept-along : (F : Flat) (H : List Entry) → HaveBlocks F → HaveBlocks (replay F H)
kept-along F [] have = have
kept-along F (e ∷ H) have = kept-along (step F e) H (files_stay_rule.kept F e have)

pub get-past : {A : Type 0} (xs : List A) (i : ℕ) → length xs ≤ i → slice_get xs i ≡ None
get-past [] i le = refl
get-past (x ∷ xs) zero le = absurd (omega (arith, le))
get-past (x ∷ xs) (suc i) le = get-past xs i (omega (arith, le))

pub past-get : {A : Type 0} (xs : List A) (i : ℕ) → slice_get xs i ≡ None → length xs ≤ i
past-get [] i none = omega arith
past-get {A} (x ∷ xs) zero none = absurd (let z : ◌≡◌ {A = Option A} (Some x) None = none in cc)
past-get (x ∷ xs) (suc i) none = let le = past-get xs i none in omega (arith, le)

-- a page past the end has no bytes before it
pub none-before : (len page : ℕ) → pages_in len ≤ page → bytes_before len page ≡ 0
none-before len page le = omega (arith, le)

pub some-before : (len page : ℕ) → 0 < bytes_before len page → page < pages_in len
some-before len page some = omega (arith, some)

pub before-some : (len page : ℕ) → page < pages_in len → 0 < bytes_before len page
before-some len page lt = omega (arith, lt)

-- a page that has no place isn't there, and lies past the end
pub no-end : (F : Flat) (name : PageName) → HaveBlocks F → disk_place F name ≡ None → bytes_there F name ≡ 0
no-end F name have none = by_file (slice_get F.files name.object) refl
  where
    by_file : (o : Option File) → slice_get F.files name.object ≡ o → option_map_or (λ (file : File). bytes_before file.len name.page) o 0 ≡ 0
    by_file None e = refl
    by_file (Some file) e =
        let past = past-get (page_blocks file.extents) name.page (no-block F name file e none) in
        let enough = (have name.object file e).len in
        none-before file.len name.page (omega (arith, past, enough))

pub no-page : (F : Flat) (name : PageName) → HaveBlocks F → disk_place F name ≡ None → option_and_then (λ (file : File). slice_get file.pages name.page) (slice_get F.files name.object) ≡ None
no-page F name have none = by_file (slice_get F.files name.object) refl
  where
    by_file : (o : Option File) → slice_get F.files name.object ≡ o → option_and_then (λ (file : File). slice_get file.pages name.page) o ≡ None
    by_file None e = refl
    by_file (Some file) e =
        let past = past-get (page_blocks file.extents) name.page (no-block F name file e none) in
        let enough = (have name.object file e).pages in
        get-past file.pages name.page (omega (arith, past, enough))

-- a page of which no byte lies before the end is zeros
pub zeros-past : (F : Flat) (name : PageName) → bytes_there F name ≡ 0 → page_there F name ≡ zeros
zeros-past F name none = ap (λ (n : ℕ). clip n (file_page F name)) none

-- a page that was there once has its place
pub place-shown : (F : Flat) (H : List Entry) (k : ℕ) (name : PageName) → HaveBlocks F
    → IsSome (option_and_then (λ (file : File). slice_get file.pages name.page) (slice_get (after_first F H k).files name.object)) → disk_place (replay F H) name ≢ None
place-shown F H k name have shows none = by_place (disk_place (after_first F H k) name) refl
  where
    by_place : (o : Option (ℕ × ℕ)) → disk_place (after_first F H k) name ≡ o → ⊥
    by_place (Some p) e = let z : ◌≡◌ {A = Option (ℕ × ℕ)} None (Some p) = sym none ∙ place-along F H k name p.0 p.1 e in cc
    by_place None e = subst (λ (o : Option Page). IsSome o → ⊥) (sym (no-page (after_first F H k) name (kept-along F (take k H) have) e)) (λ z. cc) shows
