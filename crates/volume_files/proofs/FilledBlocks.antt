-- Blocks that pages of files' bytes came to, and blocks that stayed.
use Rattle.std.specs.Prelude.{ℕ, ◌≡◌, ◌<◌, ◌+◌, ◌==◌, ◌⊎◌, Bool, true, false, is_some, List, [], ◌∷◌, length, zero, suc, Option, Some, None, slice_index_or, slice_set, if◌then◌else◌}
use Rattle.std.proofs.Common.{ap, ◌∙◌, sym, subst, refl, arith, inl, inr}
use Rattle.std.proofs.lemmas.Bool.{cases_eq, eq-eqb, ne_eqb}
use Rattle.block_device.specs.DiskSeen.{DiskSeen, with_block}
use Rattle.block_device.specs.declared.numbered.NumberedDisk.{NumberedDisk}
use Rattle.volume_format.specs.vnode_files.declared.vnode.FileInfo.{FileInfo}
use Rattle.volume_format.specs.Table.{front_block}
use Rattle.volume_files.specs.Attached.{HasFilledPage, IsFilledBy}
use Rattle.volume_files.specs.Handed.{block_told}
use Rattle.volume_files.specs.Opened.{OpenedFile}
use Rattle.volume_files.specs.Placing.{WroteEach, filled_pages, with_block_pages, with_file, with_file_pages}
use Rattle.volume_files.proofs.PageLemmas.{length-filled}
use Rattle.volume_files.proofs.SparedBlocks.{told-other}

-- the block that is written
told-here : (content : Option (List (List ℕ))) (k : ℕ) (bytes : List ℕ) → (block_told (with_block content k bytes) k ≡ block_told content k) ⊎ (block_told (with_block content k bytes) k ≡ Some bytes)
told-here None k bytes = inl refl
told-here (Some blocks) k bytes = elim (in-list blocks k) [ inl same ↦ inl (ap (λ (b : List ℕ). Some b) same) | inr is ↦ inr (ap (λ (b : List ℕ). Some b) is) ]
  where
    in-list : (xs : List (List ℕ)) (i : ℕ) → (slice_index_or (slice_set xs i bytes) i [] ≡ slice_index_or xs i []) ⊎ (slice_index_or (slice_set xs i bytes) i [] ≡ bytes)
    in-list [] i = inl refl
    in-list (x ∷ xs) zero = inr refl
    in-list (x ∷ xs) (suc i) = in-list xs i

-- pages from a block on
abbrev IsPageThere : Option (List (List ℕ)) → ℕ → List (List ℕ) → ℕ → Type 0
IsPageThere content start pages block = (k : ℕ) × (k < length pages) × (block ≡ start + k) × (block_told content block ≡ Some (slice_index_or pages k []))

pages-came : (content : Option (List (List ℕ))) (start : ℕ) (pages : List (List ℕ)) (block : ℕ)
    → (block_told (with_block_pages content start pages) block ≡ block_told content block) ⊎ IsPageThere (with_block_pages content start pages) start pages block
pages-came content start [] block = inl refl
pages-came content start (page ∷ pages) block = elim (pages-came (with_block content start page) (start + 1) pages block) [
  | inr came ↦ let lt = came.1 in let is = came.2 in inr (suc came.0, omega (arith, lt), omega (arith, is), came.3)
  | inl same ↦ elim (cases_eq block start) [
    | inr ne ↦ inl (same ∙ told-other content start page block ne)
    | inl here ↦ elim (told-here content start page) [
      | inl stays ↦ inl (same ∙ subst (λ (b : ℕ). block_told (with_block content start page) b ≡ block_told content b) (sym here) stays)
      | inr came ↦ inr (0, omega arith, omega (arith, here), same ∙ subst (λ (b : ℕ). block_told (with_block content start page) b ≡ Some page) (sym here) came)
    ]
  ]
]

-- the pages of a file
file-came : (number : ℕ) (content : Option (List (List ℕ))) (info : FileInfo) (bytes : List ℕ) (block : ℕ)
    → (block_told (with_file number content info bytes) block ≡ block_told content block)
    ⊎ ((info.disk ≡ number) × IsPageThere (with_file number content info bytes) (front_block info.extents) (filled_pages bytes) block)
file-came number content info bytes block = elim (cases_eq info.disk number) [
  | inr off ↦ inl (ap (λ (t : Bool). block_told (if t then with_block_pages content (front_block info.extents) (filled_pages bytes) else content) block) (ne_eqb info.disk number off))
  | inl on ↦
      let is : with_file number content info bytes ≡ with_block_pages content (front_block info.extents) (filled_pages bytes) =
      ap (λ (t : Bool). if t then with_block_pages content (front_block info.extents) (filled_pages bytes) else content) (eq-eqb info.disk number on) in
      elim (pages-came content (front_block info.extents) (filled_pages bytes) block) [
        | inl same ↦ inl (ap (λ (c : Option (List (List ℕ))). block_told c block) is ∙ same)
        | inr came ↦ inr (on, subst (λ (c : Option (List (List ℕ))). IsPageThere c (front_block info.extents) (filled_pages bytes) block) (sym is) came)
      ]
]

-- those of files
files-came : (number : ℕ) (content : Option (List (List ℕ))) (files : List OpenedFile) (block : ℕ)
    → (block_told (with_file_pages number content files) block ≡ block_told content block) ⊎ HasFilledPage files number (with_file_pages number content files) block
files-came number content [] block = inl refl
files-came number content (f ∷ files) block = elim (files-came number (with_file number content f.info f.bytes) files block) [
  | inr h ↦ inr (record { k = suc h.k; file = h.file; there = h.there; on_disk = h.on_disk; page = h.page; within = h.within; in_block = h.in_block; has = h.has })
  | inl same ↦ elim (file-came number content f.info f.bytes block) [
    | inl stays ↦ inl (same ∙ stays)
    | inr came ↦ inr (record {
      k = 0;
      file = f;
      there = refl;
      on_disk = came.0;
      page = came.1.0;
      within = let lt = came.1.1 in let long = length-filled f.bytes in omega (arith, lt, long);
      in_block = came.1.2;
      has = same ∙ came.1.3;
    })
  ]
]

-- a disk tells where it told
tells-block : (content : Option (List (List ℕ))) (k : ℕ) (bytes : List ℕ) → is_some (with_block content k bytes) ≡ is_some content
tells-block None k bytes = refl
tells-block (Some blocks) k bytes = refl

tells-pages : (content : Option (List (List ℕ))) (start : ℕ) (pages : List (List ℕ)) → is_some (with_block_pages content start pages) ≡ is_some content
tells-pages content start [] = refl
tells-pages content start (page ∷ pages) = tells-pages (with_block content start page) (start + 1) pages ∙ tells-block content start page

tells-file : (number : ℕ) (content : Option (List (List ℕ))) (info : FileInfo) (bytes : List ℕ) → is_some (with_file number content info bytes) ≡ is_some content
tells-file number content info bytes = by_test (info.disk == number)
  where
    by_test : (t : Bool) → is_some (if t then with_block_pages content (front_block info.extents) (filled_pages bytes) else content) ≡ is_some content
    by_test true = tells-pages content (front_block info.extents) (filled_pages bytes)
    by_test false = refl

tells-files : (number : ℕ) (content : Option (List (List ℕ))) (files : List OpenedFile) → is_some (with_file_pages number content files) ≡ is_some content
tells-files number content [] = refl
tells-files number content (f ∷ files) = tells-files number (with_file number content f.info f.bytes) files ∙ tells-file number content f.info f.bytes

-- EACH BLOCK of disks on which files were written
pub wrote-filled : {D : Type 0} (seen : D → DiskSeen) (files : List OpenedFile) (old new : List (NumberedDisk D)) → WroteEach seen files old new
    → (i : ℕ) (x : NumberedDisk D) → i < length old → IsFilledBy files (slice_index_or old i x).number (seen (slice_index_or old i x).disk) (seen (slice_index_or new i x).disk)
wrote-filled seen files old new wrote i x lt =
    let was : NumberedDisk _ = slice_index_or old i x in
    let is = wrote i x lt in
    record {
      tells = ap (λ (c : Option (List (List ℕ))). is_some c) is ∙ tells-files was.number (seen was.disk).content files;
      each = λ block. elim (files-came was.number (seen was.disk).content files block) [
        | inl same ↦ inl (ap (λ (c : Option (List (List ℕ))). block_told c block) is ∙ same)
        | inr h ↦ inr (subst (λ (c : Option (List (List ℕ))). HasFilledPage files was.number c block) (sym is) h)
      ];
    }
