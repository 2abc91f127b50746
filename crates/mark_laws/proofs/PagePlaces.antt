-- The place of a page, by its file.
use Rattle.std.proofs.Common.{◌≡◌, ℕ, Option, Some, None, refl, sym, ap, ◌∙◌}
use Rattle.std.specs.Prelude.{option_and_then, option_map, slice_get}
use Rattle.flat_model.specs.vnode_files.Vnode.{page_blocks}
use Rattle.flat_model.specs.Flat.{File, Flat}
use Rattle.page_store.specs.page_hash.declared.PageName.{PageName}
use Rattle.mark_laws.specs.Pages.{disk_place}

-- a page has a place: its file is there, and keeps a block for it
pub record HasPlace (F : Flat) (name : PageName) (disk block : ℕ) : Type 0 where
  pub file : File
  pub there : slice_get F.files name.object ≡ Some file
  pub on : file.disk ≡ disk
  pub at : slice_get (page_blocks file.extents) name.page ≡ Some block

pub place-parts : (F : Flat) (name : PageName) (disk block : ℕ) → disk_place F name ≡ Some (disk, block) → HasPlace F name disk block
place-parts F name disk block at = by_file (slice_get F.files name.object) refl at
  where
    by_file : (o : Option File) → slice_get F.files name.object ≡ o
        → option_and_then (λ (file : File). option_map (λ (b : ℕ). (let z : ℕ × ℕ = (file.disk, b) in z)) (slice_get (page_blocks file.extents) name.page)) o ≡ Some (disk, block) → HasPlace F name disk block
    by_file None e is = absurd (let z : ◌≡◌ {A = Option (ℕ × ℕ)} None (Some (disk, block)) = is in cc)
    by_file (Some file) e is = by_block (slice_get (page_blocks file.extents) name.page) refl is
      where
        by_block : (c : Option ℕ) → slice_get (page_blocks file.extents) name.page ≡ c → option_map (λ (b : ℕ). (let z : ℕ × ℕ = (file.disk, b) in z)) c ≡ Some (disk, block) → HasPlace F name disk block
        by_block None c is = absurd (let z : ◌≡◌ {A = Option (ℕ × ℕ)} None (Some (disk, block)) = is in cc)
        by_block (Some b) c is =
            let same : ◌≡◌ {A = ℕ × ℕ} (file.disk, b) (disk, block) = (let z : ◌≡◌ {A = Option (ℕ × ℕ)} (Some (file.disk, b)) (Some (disk, block)) = is in cc) in
            record { file = file; there = e; on = ap (λ (p : ℕ × ℕ). p.0) same; at = c ∙ ap (λ (p : ℕ × ℕ). Some p.1) same }

pub place-of : (F : Flat) (name : PageName) (file : File) (block : ℕ) → slice_get F.files name.object ≡ Some file → slice_get (page_blocks file.extents) name.page ≡ Some block → disk_place F name ≡ Some (file.disk, block)
place-of F name file block there at =
    ap (λ (o : Option File). option_and_then (λ (x : File). option_map (λ (b : ℕ). (let z : ℕ × ℕ = (x.disk, b) in z)) (slice_get (page_blocks x.extents) name.page)) o) there
    ∙ ap (λ (c : Option ℕ). option_map (λ (b : ℕ). (let z : ℕ × ℕ = (file.disk, b) in z)) c) at

-- a page of a file that is there has no place: the file keeps no block for it
pub no-block : (F : Flat) (name : PageName) (file : File) → slice_get F.files name.object ≡ Some file → disk_place F name ≡ None → slice_get (page_blocks file.extents) name.page ≡ None
no-block F name file there none = by_block (slice_get (page_blocks file.extents) name.page) refl
  where
    by_block : (c : Option ℕ) → slice_get (page_blocks file.extents) name.page ≡ c → c ≡ None
    by_block None e = refl
    by_block (Some b) e = absurd (let z : ◌≡◌ {A = Option (ℕ × ℕ)} None (Some (file.disk, b)) = sym none ∙ place-of F name file b there e in cc)
