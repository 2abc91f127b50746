-- The pages and the files of flat memory, one by one.
use Rattle.std.proofs.Common.{◌≡◌, ℕ, zero, suc, ◌+◌, ◌<◌, ◌≤◌, List, [], ◌∷◌, length, Some, None, refl, ap, ◌∙◌, subst, arith}
use Rattle.std.specs.Prelude.{option_map, slice_get, All}
use Rattle.flat_model.specs.vnode_files.declared.vnode.FileInfo.{FileInfo}
use Rattle.flat_model.specs.Words.{Page}
use Rattle.flat_model.specs.Flat.{File}
use Rattle.vm_world.specs.FlatMemory.{pages_from, file_with_pages, files_with_pages}

pub length-pages_from : (page : ℕ → Page) (k n : ℕ) → length (pages_from page k n) ≡ n
length-pages_from page k zero = refl
length-pages_from page k (suc n) = ap suc (length-pages_from page (suc k) n)

pub page-in : (page : ℕ → Page) (k n i : ℕ) → i < n → slice_get (pages_from page k n) i ≡ Some (page (k + i))
page-in page k zero i lt = absurd (omega (arith, lt))
page-in page k (suc n) zero lt = let e : k ≡ k + 0 = omega arith in ap (λ (j : ℕ). Some (page j)) e
page-in page k (suc n) (suc i) lt = let e : suc k + i ≡ k + suc i = omega arith in page-in page (suc k) n i (omega (arith, lt)) ∙ ap (λ (j : ℕ). Some (page j)) e

pub page-past : (page : ℕ → Page) (k n i : ℕ) → n ≤ i → slice_get (pages_from page k n) i ≡ None
page-past page k zero i le = refl
page-past page k (suc n) zero le = absurd (omega (arith, le))
page-past page k (suc n) (suc i) le = page-past page (suc k) n i (omega (arith, le))

-- what holds of each page that the function gives holds of each of the list
pub all-pages : (P : Page → Type 0) (page : ℕ → Page) (k n : ℕ) → ((i : ℕ) → i < n → P (page (k + i))) → All P (pages_from page k n)
all-pages P page k zero each j d lt = absurd (omega (arith, lt))
all-pages P page k (suc n) each zero d lt = let e : k + 0 ≡ k = omega arith in subst (λ (i : ℕ). P (page i)) e (each 0 (omega arith))
all-pages P page k (suc n) each (suc j) d lt =
    all-pages P page (suc k) n (λ i below. let e : k + suc i ≡ suc k + i = omega arith in subst (λ (h : ℕ). P (page h)) e (each (suc i) (omega (arith, below)))) j d (omega (arith, lt))

-- so it does from place 0 on
pub each-page : (P : Page → Type 0) (page : ℕ → Page) (n : ℕ) → ((i : ℕ) → i < n → P (page i)) → All P (pages_from page 0 n)
each-page P page n each = all-pages P page 0 n (λ i lt. let e : i ≡ 0 + i = omega arith in subst (λ (j : ℕ). P (page j)) e (each i lt))

pub length-files_with_pages : (page : ℕ → ℕ → Page) (k : ℕ) (infos : List FileInfo) → length (files_with_pages page k infos) ≡ length infos
length-files_with_pages page k [] = refl
length-files_with_pages page k (info ∷ infos) = ap suc (length-files_with_pages page (suc k) infos)

pub file-in : (page : ℕ → ℕ → Page) (k f : ℕ) (infos : List FileInfo) → slice_get (files_with_pages page k infos) f ≡ option_map (file_with_pages (page (k + f))) (slice_get infos f)
file-in page k f [] = refl
file-in page k zero (info ∷ infos) = let e : k ≡ k + 0 = omega arith in ap (λ (j : ℕ). Some (file_with_pages (page j) info)) e
file-in page k (suc f) (info ∷ infos) = let e : suc k + f ≡ k + suc f = omega arith in file-in page (suc k) f infos ∙ ap (λ (j : ℕ). option_map (file_with_pages (page j)) (slice_get infos f)) e

-- what holds of each file made of a record holds of all
pub all-files : (P : File → Type 0) (page : ℕ → ℕ → Page) (k : ℕ) (infos : List FileInfo) → ((f : ℕ) (info : FileInfo) → slice_get infos f ≡ Some info → P (file_with_pages (page (k + f)) info)) → All P (files_with_pages page k infos)
all-files P page k [] each j d lt = absurd (omega (arith, lt))
all-files P page k (info ∷ infos) each zero d lt = let e : k + 0 ≡ k = omega arith in subst (λ (i : ℕ). P (file_with_pages (page i) info)) e (each 0 info refl)
all-files P page k (info ∷ infos) each (suc j) d lt =
    all-files P page (suc k) infos (λ f i is. let e : k + suc f ≡ suc k + f = omega arith in subst (λ (h : ℕ). P (file_with_pages (page h) i)) e (each (suc f) i is)) j d (omega (arith, lt))

-- so it does from number 0 on
pub each-file : (P : File → Type 0) (page : ℕ → ℕ → Page) (infos : List FileInfo) → ((f : ℕ) (info : FileInfo) → slice_get infos f ≡ Some info → P (file_with_pages (page f) info)) → All P (files_with_pages page 0 infos)
each-file P page infos each = all-files P page 0 infos (λ f info is. let e : f ≡ 0 + f = omega arith in subst (λ (j : ℕ). P (file_with_pages (page j) info)) e (each f info is))
