-- A cut of pages is a cut of tails.
use Rattle.vm_world.proofs.FileLocks.{split}
use Rattle.std.proofs.Common.{◌≡◌, ℕ, suc, ◌+◌, ◌-◌, ◌*◌, ◌<◌, ◌≤◌, min, Bool, true, false, cond, List, [], ◌∷◌, length, Option, Some, None, refl, sym, ap, ◌∙◌, ◌⊎◌, inl, inr, subst, arith}
use Rattle.std.specs.Prelude.{option_map, slice_get}
use Rattle.flat_model.specs.vnode_files.declared.vnode.FileInfo.{FileInfo}
use Rattle.flat_model.specs.Words.{Page, pages_in}
use Rattle.flat_model.specs.Flat.{File}
use Rattle.flat_model.specs.LineLaws.{page_front}
use Rattle.flat_model.specs.Parts.{without_tail}
use Rattle.flat_model.specs.Step.{files_cleared}
use Rattle.flat_model.proofs.Lines.{lines_in_pages_law}
use Rattle.page_store.specs.Bytes.{clip}
use Rattle.vm_world.specs.FlatMemory.{pages_from, file_with_pages, files_with_pages}
use Rattle.vm_world.specs.WorldSteps.{cut_page}
use Rattle.vm_world.proofs.Clips.{clip-whole, front-clip, cut-none}
use Rattle.vm_world.proofs.FilePages.{page-in, page-past, each-page}

pages-same : (xs ys : List Page) → ((i : ℕ) → slice_get xs i ≡ slice_get ys i) → xs ≡ ys
pages-same [] [] same = refl
pages-same [] (y ∷ ys) same = absurd (let z : ◌≡◌ {A = Option Page} None (Some y) = same 0 in cc)
pages-same (x ∷ xs) [] same = absurd (let z : ◌≡◌ {A = Option Page} (Some x) None = same 0 in cc)
pages-same (x ∷ xs) (y ∷ ys) same =
    let head : x ≡ y = let z : ◌≡◌ {A = Option Page} (Some x) (Some y) = same 0 in cc in
    ap (λ (p : Page). p ∷ xs) head ∙ ap (λ (ps : List Page). y ∷ ps) (pages-same xs ys (λ i. same (suc i)))

-- One file, whose last page is cut or not, and whose other pages stay but for a cut where all their bytes are valid.
pub cut-file : (old new : ℕ → Page) (info : FileInfo) (cut : ℕ → Bool) → ((i : ℕ) → i < pages_in info.length → length (old i) ≡ 4096)
    → ((i : ℕ) → i < pages_in info.length → new i ≡ cut_page (cut i) (min (info.length - i * 4096) 4096) (old i))
    → file_with_pages new info ≡ cond (cut (pages_in info.length - 1)) (without_tail (file_with_pages old info)) (file_with_pages old info)
cut-file old new info cut whole pages = by_last (cut (pages_in info.length - 1)) refl
  where
    by_last : (b : Bool) → cut (pages_in info.length - 1) ≡ b → file_with_pages new info ≡ cond b (without_tail (file_with_pages old info)) (file_with_pages old info)
    by_last false e = ap (λ (ps : List Page). record { len = info.length; disk = info.disk; extents = info.extents; writable = info.writable; pages = ps })
        (pages-same (pages_from new 0 (pages_in info.length)) (pages_from old 0 (pages_in info.length)) (λ i. elim (split i (pages_in info.length)) [
          | inl lt ↦ at-in new i lt ∙ ap (λ (p : Page). Some p) (kept-page i lt e) ∙ sym (at-in old i lt)
          | inr le ↦ page-past new 0 (pages_in info.length) i le ∙ sym (page-past old 0 (pages_in info.length) i le)
        ]))
      where
        at-in : (page : ℕ → Page) (i : ℕ) → i < pages_in info.length → slice_get (pages_from page 0 (pages_in info.length)) i ≡ Some (page i)
        at-in page i lt = let z : 0 + i ≡ i = omega arith in page-in page 0 (pages_in info.length) i lt ∙ ap (λ (j : ℕ). Some (page j)) z

        kept-page : (i : ℕ) → i < pages_in info.length → cut (pages_in info.length - 1) ≡ false → new i ≡ old i
        kept-page i lt e = elim (split (i + 1) (pages_in info.length)) [
          | inl inner ↦ let full : min (info.length - i * 4096) 4096 ≡ 4096 = omega (arith, inner) in pages i lt ∙ ap (λ (v : ℕ). cut_page (cut i) v (old i)) full ∙ cut-none (cut i) (old i) (λ _. whole i lt)
          | inr last ↦ let at : i ≡ pages_in info.length - 1 = omega (arith, lt, last) in pages i lt ∙ ap (λ (b : Bool). cut_page b (min (info.length - i * 4096) 4096) (old i)) (ap cut at ∙ e)
        ]
    by_last true e = ap (λ (ps : List Page). record { len = info.length; disk = info.disk; extents = info.extents; writable = info.writable; pages = ps })
        (pages-same (pages_from new 0 (pages_in info.length)) (without_tail (file_with_pages old info)).pages (λ i. elim (split i (pages_in info.length)) [
          | inl lt ↦ at-in new i lt ∙ ap (λ (p : Page). Some p) (cut-last i lt e) ∙ sym (tail i ∙ ap (option_map (page_front (info.length - 4096 * i))) (at-in old i lt))
          | inr le ↦ page-past new 0 (pages_in info.length) i le ∙ sym (tail i ∙ ap (option_map (page_front (info.length - 4096 * i))) (page-past old 0 (pages_in info.length) i le))
        ]))
      where
        at-in : (page : ℕ → Page) (i : ℕ) → i < pages_in info.length → slice_get (pages_from page 0 (pages_in info.length)) i ≡ Some (page i)
        at-in page i lt = let z : 0 + i ≡ i = omega arith in page-in page 0 (pages_in info.length) i lt ∙ ap (λ (j : ℕ). Some (page j)) z

        tail : (i : ℕ) → slice_get (without_tail (file_with_pages old info)).pages i ≡ option_map (page_front (info.length - 4096 * i)) (slice_get (file_with_pages old info).pages i)
        tail i = lines_in_pages_law.no_tail (file_with_pages old info) i (each-page (λ bytes. length bytes ≡ 4096) old (pages_in info.length) whole)

        cut-last : (i : ℕ) → i < pages_in info.length → cut (pages_in info.length - 1) ≡ true → new i ≡ page_front (info.length - 4096 * i) (old i)
        cut-last i lt e =
            let same : info.length - i * 4096 ≡ info.length - 4096 * i = omega arith in
            let front = front-clip (info.length - 4096 * i) (old i) (whole i lt) in
            elim (split (i + 1) (pages_in info.length)) [
              | inl inner ↦
                  let full : min (info.length - i * 4096) 4096 ≡ 4096 = omega (arith, inner) in
                  let full' : min (info.length - 4096 * i) 4096 ≡ 4096 = omega (arith, inner) in
                  pages i lt ∙ ap (λ (v : ℕ). cut_page (cut i) v (old i)) full ∙ cut-none (cut i) (old i) (λ _. whole i lt) ∙ sym (front ∙ ap (λ (v : ℕ). clip v (old i)) full' ∙ clip-whole (old i) (whole i lt))
              | inr last ↦
                  let at : i ≡ pages_in info.length - 1 = omega (arith, lt, last) in
                  pages i lt ∙ ap (λ (b : Bool). cut_page b (min (info.length - i * 4096) 4096) (old i)) (ap cut at ∙ e) ∙ ap (λ (k : ℕ). clip (min k 4096) (old i)) same ∙ sym front
            ]

-- ALL FILES, where each has its tail cleared or not.
pub cut-files : (old new : ℕ → ℕ → Page) (lost : ℕ → Bool) (k : ℕ) (infos : List FileInfo)
    → ((f : ℕ) (info : FileInfo) → slice_get infos f ≡ Some info → file_with_pages (new (k + f)) info ≡ cond (lost f) (without_tail (file_with_pages (old (k + f)) info)) (file_with_pages (old (k + f)) info))
    → files_with_pages new k infos ≡ files_cleared lost (files_with_pages old k infos)
cut-files old new lost k [] each = refl
cut-files old new lost k (info ∷ infos) each =
    let z : k + 0 ≡ k = omega arith in
    let head : file_with_pages (new k) info ≡ cond (lost 0) (without_tail (file_with_pages (old k) info)) (file_with_pages (old k) info) =
    subst (λ (j : ℕ). file_with_pages (new j) info ≡ cond (lost 0) (without_tail (file_with_pages (old j) info)) (file_with_pages (old j) info)) z (each 0 info refl) in
    ap (λ (g : File). g ∷ files_with_pages new (suc k) infos) head
    ∙ ap (λ (gs : List File). cond (lost 0) (without_tail (file_with_pages (old k) info)) (file_with_pages (old k) info) ∷ gs)
    (cut-files old new (λ f. lost (suc f)) (suc k) infos (λ f i is. let e : k + suc f ≡ suc k + f = omega arith in
    subst (λ (j : ℕ). file_with_pages (new j) i ≡ cond (lost (suc f)) (without_tail (file_with_pages (old j) i)) (file_with_pages (old j) i)) e (each (suc f) i is)))
