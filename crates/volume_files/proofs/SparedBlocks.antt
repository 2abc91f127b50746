-- Blocks that are spared as pages of files are written.
use Rattle.std.specs.Prelude.{ℕ, ◌≡◌, ◌≢◌, ◌<◌, ◌≤◌, ◌+◌, ◌⊎◌, Bool, List, [], ◌∷◌, length, drop, map, zero, suc, Option, Some, None}
use Rattle.std.specs.Prelude.{Result, Ok, Err, slice_get, slice_index_or, slice_set, if◌then◌else◌}
use Rattle.std.proofs.Common.{ap, ◌∙◌, sym, subst, refl, arith, inl, inr}
use Rattle.std.proofs.lemmas.Bool.{cases_eq, cases_lt, eq-eqb, ne_eqb}
use Rattle.std.proofs.lemmas.List.{drop_all, length-drop, get_or-set_same, get_or-set_other, get_or_read}
use Rattle.std.proofs.lemmas.List.Elements.{All-head, All-tail}
use Rattle.block_device.specs.DiskSeen.{DiskSeen, Writes, with_block}
use Rattle.block_device.specs.declared.numbered.NumberedDisk.{NumberedDisk}
use Rattle.block_device.specs.declared.rack.Spec.{Spec}
use Rattle.volume_disks.specs.declared.volume_spec.VolumeSpec.{VolumeSpec}
use Rattle.volume_files.specs.Opened.{IsVolumeAttached, volume_number}
use Rattle.volume_format.specs.vnode_files.declared.vnode.FileInfo.{FileInfo}
use Rattle.volume_format.specs.Table.{TableSeen, front_block}
use Rattle.volume_files.specs.Attached.{AreMounted, bare_disks}
use Rattle.stored_files.specs.Written.{numbered_seen}
use Rattle.volume_files.specs.Handed.{LiesBeside, SpareBlock, SparesBlock, block_told}
use Rattle.volume_files.specs.Opened.{OpenedFile}
use Rattle.volume_files.specs.Placing.{KeepThere, KeepsThere, RemainThere, filled_pages, with_block_pages, with_file, with_file_pages}
use Rattle.volume_files.proofs.PageLemmas.{length-filled}

-- another block
pub told-other : (content : Option (List (List ℕ))) (k : ℕ) (bytes : List ℕ) (block : ℕ) → block ≢ k → block_told (with_block content k bytes) block ≡ block_told content block
told-other None k bytes block ne = refl
told-other (Some blocks) k bytes block ne = ap (λ (b : List ℕ). Some b) (get_or-set_other blocks k block bytes [] ne)

pub told-written : {E : Type 0} (old new : DiskSeen) (k : ℕ) (from : List ℕ) (r : Result (Unit {0}) E) → Writes old new k from r → (block : ℕ) → block ≢ k
    → block_told new.content block ≡ block_told old.content block
told-written old new k from (Ok done) w block ne = ap (λ (c : Option (List (List ℕ))). block_told c block) w.written ∙ told-other old.content k from block ne
told-written old new k from (Err e) w block ne = ap (λ (c : Option (List (List ℕ))). block_told c block) w.spoiled.2 ∙ told-other old.content k w.spoiled.0 block ne

pub not-inside : (start count k block : ℕ) → start ≤ k → k < start + count → LiesBeside start count block → block ≢ k
not-inside start count k block low high (inl below) same = omega (arith, low, below, same)
not-inside start count k block low high (inr past) same = omega (arith, high, past, same)

-- pages from a block on
pub told-pages : (content : Option (List (List ℕ))) (start : ℕ) (pages : List (List ℕ)) (block : ℕ) → LiesBeside start (length pages) block
    → block_told (with_block_pages content start pages) block ≡ block_told content block
told-pages content start [] block out = refl
told-pages content start (page ∷ pages) block out =
    told-pages (with_block content start page) (start + 1) pages block (behind out)
    ∙ told-other content start page block (not-inside start (suc (length pages)) start block (omega arith) (omega arith) out)
  where
    behind : LiesBeside start (suc (length pages)) block → LiesBeside (start + 1) (length pages) block
    behind (inl below) = inl (omega (arith, below))
    behind (inr past) = inr (omega (arith, past))

-- pages of which some are still to be written
pub told-left : (old now : Option (List (List ℕ))) (start page : ℕ) (pages : List (List ℕ)) (block : ℕ)
    → with_block_pages now (start + page) (drop page pages) ≡ with_block_pages old start pages → LiesBeside start (length pages) block → block_told now block ≡ block_told old block
told-left old now start page pages block rest out =
    elim (cases_lt page (length pages)) [
      | inl within ↦ sym (told-pages now (start + page) (drop page pages) block (behind within out)) ∙ ap (λ (c : Option (List (List ℕ))). block_told c block) rest
      | inr past ↦
          ap (λ (c : Option (List (List ℕ))). block_told c block) (ap (λ (ps : List (List ℕ)). with_block_pages now (start + page) ps) (sym (drop_all page pages past)) ∙ rest)
    ]
    ∙ told-pages old start pages block out
  where
    behind : page < length pages → LiesBeside start (length pages) block → LiesBeside (start + page) (length (drop page pages)) block
    behind within (inl below) = inl (omega (arith, below))
    behind within (inr past) = inr (omega (arith, past, within, length-drop page pages))

-- the pages of a file, and of files
pub told-file : (number : ℕ) (content : Option (List (List ℕ))) (info : FileInfo) (bytes : List ℕ) (block : ℕ) → SparesBlock info bytes number block
    → block_told (with_file number content info bytes) block ≡ block_told content block
told-file number content info bytes block spared =
    elim (cases_eq info.disk number) [
      | inl on ↦
          ap (λ (t : Bool). block_told (if t then with_block_pages content (front_block info.extents) (filled_pages bytes) else content) block) (eq-eqb info.disk number on)
          ∙ told-pages content (front_block info.extents) (filled_pages bytes) block
          (subst (λ (n : ℕ). LiesBeside (front_block info.extents) n block) (sym (length-filled bytes)) (spared on))
      | inr off ↦ ap (λ (t : Bool). block_told (if t then with_block_pages content (front_block info.extents) (filled_pages bytes) else content) block) (ne_eqb info.disk number off)
    ]

pub told-files : (number : ℕ) (content : Option (List (List ℕ))) (files : List OpenedFile) (block : ℕ) → SpareBlock files number block
    → block_told (with_file_pages number content files) block ≡ block_told content block
told-files number content [] block spared = refl
told-files number content (f ∷ files) block spared =
    told-files number (with_file number content f.info f.bytes) files block (All-tail (λ (x : OpenedFile). SparesBlock x.info x.bytes number block) f files spared)
    ∙ told-file number content f.info f.bytes block (All-head (λ (x : OpenedFile). SparesBlock x.info x.bytes number block) f files spared)

module _ {D : Type 0} (seen : D → DiskSeen) where
  -- one disk more was written, as it spares
  pub keep-set : (spared : ℕ → ℕ → Type 0) (old mid : List (NumberedDisk D)) (i : ℕ) (x new : NumberedDisk D) → RemainThere seen old mid → KeepThere seen spared old mid
      → i < length mid → x ≡ slice_index_or mid i x → KeepsThere seen spared x new → KeepThere seen spared old (slice_set mid i new)
  keep-set spared old mid i x new stay keep below is one j d inside = elim (cases_eq j i) [
    | inl e ↦
        let was : slice_index_or mid j d ≡ x = ap (λ k. slice_index_or mid k d) e ∙ sym (get_or_read mid i x below is d) in
        let now : slice_index_or (slice_set mid i new) j d ≡ new = ap (λ k. slice_index_or (slice_set mid i new) k d) e ∙ get_or-set_same mid i new d below in
        λ block free.
        ap (λ (y : NumberedDisk D). block_told (seen y.disk).content block) now
        ∙ one block (subst (λ (n : ℕ). spared n block) (sym ((stay.each j d inside).number) ∙ ap (λ (y : NumberedDisk D). y.number) was) free)
        ∙ ap (λ (y : NumberedDisk D). block_told (seen y.disk).content block) (sym was) ∙ keep j d inside block free
    | inr ne ↦ λ block free. ap (λ (y : NumberedDisk D). block_told (seen y.disk).content block) (get_or-set_other mid i j new d ne) ∙ keep j d inside block free
  ]

  -- disks that were written as they spare, in two steps
  pub keep-then : (first second : ℕ → ℕ → Type 0) (old mid new : List (NumberedDisk D)) → RemainThere seen old mid → KeepThere seen first old mid → KeepThere seen second mid new
      → ((number block : ℕ) → first number block → second number block) → KeepThere seen first old new
  keep-then first second old mid new stay before after weaker j d inside block free =
      after j d (omega (arith, inside, stay.count)) block
      (subst (λ (n : ℕ). second n block) (sym (stay.each j d inside).number) (weaker (slice_index_or old j d).number block free))
      ∙ before j d inside block free

  -- disks on which some files are still to be written
  pub keep-left : (old mid : List (NumberedDisk D)) (left all : List OpenedFile) → RemainThere seen old mid
      → ((j : ℕ) (d : NumberedDisk D) → j < length old
      → with_file_pages (slice_index_or mid j d).number (seen (slice_index_or mid j d).disk).content left
      ≡ with_file_pages (slice_index_or old j d).number (seen (slice_index_or old j d).disk).content all)
      → ((number block : ℕ) → SpareBlock all number block → SpareBlock left number block) → KeepThere seen (SpareBlock all) old mid
  keep-left old mid left all stay rests spare j d inside block free =
      let x = slice_index_or old j d in
      let y = slice_index_or mid j d in
      sym (told-files y.number (seen y.disk).content left block (spare y.number block (subst (λ (n : ℕ). SpareBlock all n block) (sym (stay.each j d inside).number) free)))
      ∙ ap (λ (c : Option (List (List ℕ))). block_told c block) (rests j d inside) ∙ told-files x.number (seen x.disk).content all block free

  -- disks that have pages of a file, or are as they were
  pub keep-done : (old mid : List (NumberedDisk D)) (info : FileInfo) (bytes : List ℕ) (i : ℕ)
      → ((j : ℕ) (d : NumberedDisk D) → j < i → j < length old
      → (seen (slice_index_or mid j d).disk).content ≡ with_file (slice_index_or old j d).number (seen (slice_index_or old j d).disk).content info bytes)
      → ((j : ℕ) (d : NumberedDisk D) → i ≤ j → slice_index_or mid j d ≡ slice_index_or old j d) → KeepThere seen (SparesBlock info bytes) old mid
  keep-done old mid info bytes i done rest j d inside block free = elim (less_or_not j i) [
    | inl less ↦ ap (λ (c : Option (List (List ℕ))). block_told c block) (done j d less inside)
        ∙ told-file (slice_index_or old j d).number (seen (slice_index_or old j d).disk).content info bytes block free
    | inr past ↦ ap (λ (y : NumberedDisk D). block_told (seen y.disk).content block) (rest j d past)
  ]
    where
      less_or_not : (a b : ℕ) → (a < b) ⊎ (b ≤ a)
      less_or_not zero zero = inr (omega arith)
      less_or_not zero (suc b) = inl (omega arith)
      less_or_not (suc a) zero = inr (omega arith)
      less_or_not (suc a) (suc b) = elim (less_or_not a b) [
        | inl lt ↦ inl (omega (arith, lt))
        | inr le ↦ inr (omega (arith, le))
      ]

  -- what became of disks that were attached, by the specs
  pub each-mounted : (R : ℕ → DiskSeen → DiskSeen → Type 0) (holds : Spec → Option (List (List ℕ))) (specs : List VolumeSpec) (ds es : List (NumberedDisk D)) (ts : List TableSeen)
      → AreMounted holds specs (map (numbered_seen seen) ds) ts
      → ((i : ℕ) (x : NumberedDisk D) → i < length ds → R (slice_index_or ds i x).number (seen (slice_index_or ds i x).disk) (seen (slice_index_or es i x).disk))
      → (i : ℕ) (s : VolumeSpec) (d : DiskSeen) → slice_get specs i ≡ Some s → slice_get (bare_disks (map (numbered_seen seen) es)) i ≡ Some d
      → (was : DiskSeen) × IsVolumeAttached holds s was × R (volume_number s) was d
  each-mounted R holds [] ds es ts m each i s d si di = absurd (nothing s si)
    where
      nothing : (s : VolumeSpec) → ◌≡◌ {A = Option VolumeSpec} None (Some s) → ⊥
      nothing s is = absurd (cc is)
  each-mounted R holds (q ∷ specs) [] es ts m each i s d si di = absurd m
  each-mounted R holds (q ∷ specs) (x ∷ ds) es [] m each i s d si di = absurd m
  each-mounted R holds (q ∷ specs) (x ∷ ds) [] (t ∷ ts) m each i s d si di = absurd (cc di)
  each-mounted R holds (q ∷ specs) (x ∷ ds) (y ∷ es) (t ∷ ts) m each zero s d si di =
      let same : q ≡ s = cc si in
      let now : seen y.disk ≡ d = cc di in (
        seen x.disk,
        subst (λ (z : VolumeSpec). IsVolumeAttached holds z (seen x.disk)) same m.0.attached,
        subst (λ (z : DiskSeen). R (volume_number s) (seen x.disk) z) now
            (subst (λ (n : ℕ). R n (seen x.disk) (seen y.disk)) (m.0.number ∙ ap volume_number same) (each 0 x (omega arith))),
      )
  each-mounted R holds (q ∷ specs) (x ∷ ds) (y ∷ es) (t ∷ ts) m each (suc i) s d si di =
      each-mounted R holds specs ds es ts m.1 (λ j e inside. each (suc j) e (omega (arith, inside))) i s d si di

  -- their blocks
  pub each-written : (spared : ℕ → ℕ → Type 0) (holds : Spec → Option (List (List ℕ))) (specs : List VolumeSpec) (ds es : List (NumberedDisk D)) (ts : List TableSeen)
      → AreMounted holds specs (map (numbered_seen seen) ds) ts → KeepThere seen spared ds es
      → (i : ℕ) (s : VolumeSpec) (d : DiskSeen) → slice_get specs i ≡ Some s → slice_get (bare_disks (map (numbered_seen seen) es)) i ≡ Some d
      → (was : DiskSeen) × IsVolumeAttached holds s was × ((block : ℕ) → spared (volume_number s) block → block_told d.content block ≡ block_told was.content block)
  each-written spared holds specs ds es ts m keep =
      each-mounted (λ n was now. (block : ℕ) → spared n block → block_told now.content block ≡ block_told was.content block) holds specs ds es ts m keep
