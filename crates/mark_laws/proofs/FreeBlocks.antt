-- A block that a growth takes is no page's.
use Rattle.std.proofs.Common.{◌≡◌, ◌≢◌, ℕ, zero, suc, Bool, true, false, cond, not, ◌||◌, eqb, List, [], ◌∷◌, ◌++◌, Option, Some, None, refl, sym, ap, ◌∙◌, inl, inr}
use Rattle.std.specs.Prelude.{slice_get, nat_lt, ◌==◌, filter, remove}
use Rattle.std.specs.List.{list_any, flat_map}
use Rattle.std.proofs.lemmas.Bool.{and_parts, cases_eq, eq-eqb, ltb-true, not-true, or_right}
use Rattle.std.proofs.lemmas.List.Folds.{list_any-append}
use Rattle.flat_model.specs.vnode_files.declared.extent.Extent.{Extent}
use Rattle.flat_model.specs.vnode_files.Files.{block_count}
use Rattle.flat_model.specs.vnode_files.Grow.{has_block, is_free}
use Rattle.flat_model.specs.vnode_files.Vnode.{page_blocks}
use Rattle.flat_model.specs.Flat.{File, Flat}
use Rattle.flat_model.specs.Parts.{extents_beside}
use Rattle.mark_laws.specs.FileLaws.{IsFreeBlock}
use Rattle.flat_model.proofs.vnode_files.BlockLemmas.{any-page_blocks}
use Rattle.mark_laws.proofs.PagePlaces.{place-parts}

any-here : (bs : List ℕ) (i b : ℕ) → slice_get bs i ≡ Some b → list_any (eqb b) bs ≡ true
any-here [] i b is = absurd (let z : ◌≡◌ {A = Option ℕ} None (Some b) = is in cc)
any-here (x ∷ bs) zero b is = ap (λ (t : Bool). t || list_any (eqb b) bs) (eq-eqb b x (let z : ◌≡◌ {A = Option ℕ} (Some x) (Some b) = is in cc))
any-here (x ∷ bs) (suc i) b is = or_right (eqb b x) (list_any (eqb b) bs) (any-here bs i b is)

-- the extents of a file have the block of each of its pages
has-block : (es : List Extent) (page b : ℕ) → slice_get (page_blocks es) page ≡ Some b → list_any (has_block b) es ≡ true
has-block es page b is = sym (any-page_blocks b es) ∙ any-here (page_blocks es) page b is

-- the extents of the files of a disk
abbrev extents_in : ℕ → List File → List Extent
extents_in disk fs = flat_map (λ (file : File). file.extents) (filter (λ (file : File). file.disk == disk) fs)

module _ (disk b : ℕ) where
  any-head : (x : File) (fs : List File) → (x.disk == disk) ≡ true → list_any (has_block b) x.extents ≡ true → list_any (has_block b) (extents_in disk (x ∷ fs)) ≡ true
  any-head x fs on has =
      ap (λ (t : Bool). list_any (has_block b) (flat_map (λ (file : File). file.extents) (cond t (x ∷ filter (λ (file : File). file.disk == disk) fs) (filter (λ (file : File). file.disk == disk) fs)))) on
      ∙ list_any-append (has_block b) x.extents (extents_in disk fs)
      ∙ ap (λ (t : Bool). t || list_any (has_block b) (extents_in disk fs)) has

  any-tail : (x : File) (fs : List File) → list_any (has_block b) (extents_in disk fs) ≡ true → list_any (has_block b) (extents_in disk (x ∷ fs)) ≡ true
  any-tail x fs has = by_test (x.disk == disk)
    where
      by_test : (t : Bool) → list_any (has_block b) (flat_map (λ (file : File). file.extents) (cond t (x ∷ filter (λ (file : File). file.disk == disk) fs) (filter (λ (file : File). file.disk == disk) fs))) ≡ true
      by_test true =
          list_any-append (has_block b) x.extents (extents_in disk fs)
          ∙ or_right (list_any (has_block b) x.extents) (list_any (has_block b) (extents_in disk fs)) has
      by_test false = has

  any-file : (fs : List File) (g : ℕ) (file : File) → slice_get fs g ≡ Some file → (file.disk == disk) ≡ true → list_any (has_block b) file.extents ≡ true
      → list_any (has_block b) (extents_in disk fs) ≡ true
  any-file [] g file at on has = absurd (let z : ◌≡◌ {A = Option File} None (Some file) = at in cc)
  any-file (x ∷ fs) zero file at on has =
      let same : file ≡ x = (let z : ◌≡◌ {A = Option File} (Some x) (Some file) = at in cc) in
      any-head x fs (sym (ap (λ (y : File). y.disk == disk) same) ∙ on) (sym (ap (λ (y : File). list_any (has_block b) y.extents) same) ∙ has)
  any-file (x ∷ fs) (suc g) file at on has = any-tail x fs (any-file fs g file at on has)

  any-beside : (fs : List File) (f g : ℕ) (file : File) → slice_get fs g ≡ Some file → g ≢ f → (file.disk == disk) ≡ true → list_any (has_block b) file.extents ≡ true
      → list_any (has_block b) (extents_in disk (remove fs f)) ≡ true
  any-beside [] f g file at apart on has = absurd (let z : ◌≡◌ {A = Option File} None (Some file) = at in cc)
  any-beside (x ∷ fs) zero zero file at apart on has = absurd (apart refl)
  any-beside (x ∷ fs) zero (suc g) file at apart on has = any-file fs g file at on has
  any-beside (x ∷ fs) (suc f) zero file at apart on has =
      let same : file ≡ x = (let z : ◌≡◌ {A = Option File} (Some x) (Some file) = at in cc) in
      any-head x (remove fs f) (sym (ap (λ (y : File). y.disk == disk) same) ∙ on) (sym (ap (λ (y : File). list_any (has_block b) y.extents) same) ∙ has)
  any-beside (x ∷ fs) (suc f) (suc g) file at apart on has = any-tail x (remove fs f) (any-beside fs f g file at (λ e. apart (ap suc e)) on has)

-- A BLOCK THAT WAS FREE beside a file's extents is a free block.
pub free-block : (F : Flat) (f : ℕ) (old : File) (b : ℕ) → slice_get F.files f ≡ Some old
    → is_free (block_count F.disks old.disk) (extents_beside F.files f old.disk ++ old.extents) b ≡ true → IsFreeBlock F old.disk b
free-block F f old b was free = record {
  within = ltb-true b (block_count F.disks old.disk) parts.0;
  free = λ name at. let p = place-parts F name old.disk b at in
      let has = has-block p.file.extents name.page b p.at in
      let on : (p.file.disk == old.disk) ≡ true = eq-eqb p.file.disk old.disk p.on in
      let some : list_any (has_block b) (extents_beside F.files f old.disk ++ old.extents) ≡ true =
      list_any-append (has_block b) (extents_beside F.files f old.disk) old.extents ∙ elim (cases_eq name.object f) [
        | inl e ↦
            let same : p.file ≡ old = (let z : ◌≡◌ {A = Option File} (Some p.file) (Some old) = sym p.there ∙ ap (slice_get F.files) e ∙ was in cc) in
            or_right (list_any (has_block b) (extents_beside F.files f old.disk)) (list_any (has_block b) old.extents) (sym (ap (λ (y : File). list_any (has_block b) y.extents) same) ∙ has)
        | inr ne ↦ ap (λ (t : Bool). t || list_any (has_block b) old.extents) (any-beside old.disk b F.files f name.object p.file p.there ne on has)
      ] in
      let none = not-true (list_any (has_block b) (extents_beside F.files f old.disk ++ old.extents)) parts.1 in
      let z : true ≡ false = sym some ∙ none in cc;
}
  where
    parts : (nat_lt b (block_count F.disks old.disk) ≡ true) × (not (list_any (has_block b) (extents_beside F.files f old.disk ++ old.extents)) ≡ true)
    parts = and_parts (nat_lt b (block_count F.disks old.disk)) (not (list_any (has_block b) (extents_beside F.files f old.disk ++ old.extents))) free
