-- A Truncate that is done and makes its file shorter leaves the file's disk, and the blocks of the pages that it had.
use Rattle.std.proofs.Common.{◌≡◌, ℕ, zero, suc, ◌<◌, ◌≤◌, List, [], ◌∷◌, length, take, Option, Some, None, refl, sym, ap, ◌∙◌, inl, inr, subst, arith}
use Rattle.std.specs.Prelude.{IsSomeAnd, option_map, slice_get}
use Rattle.std.specs.FinSet as set
use Rattle.std.specs.Ordering.{nat_cmp}
use Rattle.std.proofs.lemmas.Bool.{cases_lt}
use Rattle.std.proofs.lemmas.List.{get_or_past, length-map}
use Rattle.std.proofs.lemmas.Option.{slice_get-map}
use Rattle.fault_entry.specs.flat_model.Flat.{File, Flat}
use Rattle.fault_entry.specs.flat_model.Shapes.{blank_file, without_bytes}
use Rattle.fault_entry.specs.flat_model.Step.{after_act, step}
use Rattle.fault_entry.proofs.flat_model.ShapeSteps.{keeps_shape_law}
use Rattle.fault_entry.specs.page_store.Notes.{no_notes}
use Rattle.fault_entry.specs.vm_types.Pages.{pages_in}
use Rattle.fault_entry.specs.vm_types.declared.call.Call.TheVariants.{Truncate}
use Rattle.fault_entry.specs.vm_types.declared.call.Entry.{Entry}
use Rattle.fault_entry.specs.vm_types.declared.call.Reply.TheVariants as reply
use Rattle.fault_entry.specs.vnode_files.Files.{FilesSeen, vnode_at}
use Rattle.fault_entry.specs.vnode_files.Layout.{pages_kept}
use Rattle.fault_entry.specs.vnode_files.Vnode.{VnodeSeen, no_vnode, page_blocks}
use Rattle.fault_entry.specs.vnode_files.declared.extent.Extent.{Extent}
use Rattle.fault_entry.specs.vnode_files.declared.vnode.FileInfo.{FileInfo}
use Rattle.fault_entry.proofs.vnode_files.BlockLemmas.{length-page_blocks}
use Rattle.fault_entry.specs.vm_world.CallSteps.{ActsOnMemory}
use Rattle.fault_entry.specs.vm_world.FileSteps.{file_seen}
use Rattle.fault_entry.specs.vm_world.FlatMemory.{Memory, flat_memory}
use Rattle.fault_entry.specs.vm_world.FramesFit.{FilesFit}
use Rattle.fault_entry.specs.vm_world.Serving.{ServesDone}
use Rattle.fault_entry.specs.vm_world.State.{FileMode, mode_of}
use Rattle.fault_entry.proofs.vm_world.FileSteps.{file-at}
use Rattle.fault_entry.proofs.vm_world.FlatWhole.{some-inj}
use Rattle.fault_entry.proofs.vm_world.FrameRule.{info-same}
use Rattle.mark_laws.specs.FileLaws.{KeepsOldBlocks}
use Rattle.mark_laws.proofs.FilesStay.{files_stay_rule}

-- the first elements of a list that goes on with those of another
pub same-first : (n : ℕ) (xs ys : List ℕ) → n ≤ length xs → ((i b : ℕ) → slice_get xs i ≡ Some b → slice_get ys i ≡ Some b) → take n ys ≡ take n xs
same-first zero xs ys le on = refl
same-first (suc n) [] ys le on = absurd (omega (arith, le))
same-first (suc n) (x ∷ xs) [] le on = absurd (let z : ◌≡◌ {A = Option ℕ} None (Some x) = on 0 x refl in cc)
same-first (suc n) (x ∷ xs) (y ∷ ys) le on =
    let head : y ≡ x = some-inj y x (on 0 x refl) in
    let tail : take n ys ≡ take n xs = same-first n xs ys (omega (arith, le)) (λ i b at. on (suc i) b at) in
    λ i. head i ∷ tail i

-- a list that goes on is no shorter
pub no-shorter : (n : ℕ) (xs ys : List ℕ) → n ≤ length xs → ((i b : ℕ) → slice_get xs i ≡ Some b → slice_get ys i ≡ Some b) → n ≤ length ys
no-shorter zero xs ys le on = omega arith
no-shorter (suc n) [] ys le on = absurd (omega (arith, le))
no-shorter (suc n) (x ∷ xs) [] le on = absurd (let z : ◌≡◌ {A = Option ℕ} None (Some x) = on 0 x refl in cc)
no-shorter (suc n) (x ∷ xs) (y ∷ ys) le on = let rest = no-shorter n xs ys (omega (arith, le)) (λ i b at. on (suc i) b at) in omega (arith, rest)

-- a file is there that has a byte
there : (files : FilesSeen) (f len : ℕ) → len < (vnode_at files f).info.length → f < length files.files
there files f len lt = elim (cases_lt f (length files.files)) [
  | inl in_it ↦ in_it
  | inr past ↦ absurd (let none : (vnode_at files f).info.length ≡ 0 = ap (λ (v : VnodeSeen). v.info.length) (get_or_past files.files f no_vnode past) in omega (arith, lt, none))
]

-- where two differ in bytes alone, so do their files
module _ (F G : Flat) (f : ℕ) (new : File) (same : without_bytes F ≡ without_bytes G) (at : slice_get F.files f ≡ Some new) where
  pub like : (file : File) × (slice_get G.files f ≡ Some file) × (file.disk ≡ new.disk) × (file.extents ≡ new.extents)
  like = by_file (slice_get G.files f) refl
    where
      blanks : option_map blank_file (slice_get G.files f) ≡ Some (blank_file new)
      blanks = sym (slice_get-map blank_file G.files f) ∙ ap (λ (X : Flat). slice_get X.files f) (sym same) ∙ slice_get-map blank_file F.files f ∙ ap (option_map blank_file) at

      by_file : (o : Option File) → slice_get G.files f ≡ o → (file : File) × (slice_get G.files f ≡ Some file) × (file.disk ≡ new.disk) × (file.extents ≡ new.extents)
      by_file None e = absurd (let z : ◌≡◌ {A = Option File} None (Some (blank_file new)) = ap (option_map blank_file) (sym e) ∙ blanks in cc)
      by_file (Some file) e =
          let is = some-inj (blank_file file) (blank_file new) (ap (option_map blank_file) (sym e) ∙ blanks) in
          (file, e, ap (λ (x : File). x.disk) is, ap (λ (x : File). x.extents) is)

-- WHAT STAYS OF THE FILE.
pub record StaysCut (old new : FilesSeen) (f : ℕ) : Type 0 where
  pub there : f < length new.files
  pub disk : (vnode_at new f).info.disk ≡ (vnode_at old f).info.disk
  pub blocks : (page block : ℕ) → slice_get (page_blocks (vnode_at old f).info.extents) page ≡ Some block → slice_get (page_blocks (vnode_at new f).info.extents) page ≡ Some block

module _ (mid new : Memory) (p f len : ℕ) (acts : ActsOnMemory mid new (record { process = p; call = Truncate f len; reply = reply.Done; cleared = 0 })) (lt : f < length mid.world.files.files) where
  abbrev e : Entry
  e = record { process = p; call = Truncate f len; reply = reply.Done; cleared = 0 }

  abbrev before : Flat
  before = flat_memory mid set.empty no_notes

  abbrev after : Flat
  after = flat_memory new set.empty no_notes

  still-there : f < length new.world.files.files
  still-there =
      let count = ap (λ (l : List FileMode). length l) acts.machine.modes in
      let one = length-map new.world.files.files mode_of in
      let two = length-map mid.world.files.files mode_of in
      omega (arith, count, one, two, lt)

  stepped : without_bytes after ≡ without_bytes (step before e)
  stepped = acts.shaped set.empty no_notes ∙ keeps_shape_law.steps before before e refl

  kept : (o : Option File) (file : File) → o ≡ Some file → IsSomeAnd o (KeepsOldBlocks (file_seen mid.world no_notes f)) → KeepsOldBlocks (file_seen mid.world no_notes f) file
  kept None file is h = absurd (let z : ◌≡◌ {A = Option File} None (Some file) = is in cc)
  kept (Some g) file is h = subst (KeepsOldBlocks (file_seen mid.world no_notes f)) (some-inj g file is) h

  pub stays-cut : StaysCut mid.world.files new.world.files f
  stays-cut =
      let g = like after (step before e) f (file_seen new.world no_notes f) stepped (file-at new.world no_notes f still-there) in
      let k = kept (slice_get (step before e).files f) g.0 g.1 ((files_stay_rule.files before e).blocks f (file_seen mid.world no_notes f) (file-at mid.world no_notes f lt)) in
      record {
        there = still-there;
        disk = sym g.2 ∙ k.disk;
        blocks = λ page block at. subst (λ (es : List Extent). slice_get (page_blocks es) page ≡ Some block) g.3 (k.blocks page block at);
      }

-- A TRUNCATE THAT IS DONE of a file that had more bytes.
module _ (old new : Memory) (pending more p f len : ℕ) (fits : FilesFit old.world.files) (serves : ServesDone old new pending more p (Truncate f len) reply.Done) (less : len < (vnode_at old.world.files f).info.length) where
  abbrev was : FileInfo
  was = (vnode_at old.world.files f).info

  abbrev now : FileInfo
  now = (vnode_at new.world.files f).info

  was-there : f < length old.world.files.files
  was-there = there old.world.files f len less

  same : (vnode_at serves.mid.files f).info ≡ (vnode_at old.world.files f).info
  same = info-same old.world serves.mid f serves.first.step.tables

  mid-there : f < length serves.mid.files.files
  mid-there = there serves.mid.files f len (subst (λ (i : FileInfo). len < i.length) (sym same) less)

  cut : StaysCut serves.mid.files new.world.files f
  cut = stays-cut (record old { world = serves.mid }) new p f len (serves.acts 0) mid-there

  on : (page block : ℕ) → slice_get (page_blocks (vnode_at old.world.files f).info.extents) page ≡ Some block → slice_get (page_blocks (vnode_at new.world.files f).info.extents) page ≡ Some block
  on page block at = cut.blocks page block (subst (λ (i : FileInfo). slice_get (page_blocks i.extents) page ≡ Some block) (sym same) at)

  enough : pages_in (vnode_at old.world.files f).info.length ≤ length (page_blocks (vnode_at old.world.files f).info.extents)
  enough = let within = (fits.each f was-there).within in let count = length-page_blocks (vnode_at old.world.files f).info.extents in omega (arith, within, count)

  pub cut-there : f < length new.world.files.files
  cut-there = cut.there

  pub cut-pages : pages_in (vnode_at old.world.files f).info.length ≤ pages_kept new.world.files f
  cut-pages =
      let le = no-shorter (pages_in (vnode_at old.world.files f).info.length) (page_blocks (vnode_at old.world.files f).info.extents) (page_blocks (vnode_at new.world.files f).info.extents) enough on in
      let count = length-page_blocks (vnode_at new.world.files f).info.extents in
      omega (arith, le, count)

  pub cut-disk : (vnode_at new.world.files f).info.disk ≡ (vnode_at old.world.files f).info.disk
  cut-disk = cut.disk ∙ ap (λ (i : FileInfo). i.disk) same

  pub cut-blocks : take (pages_in (vnode_at old.world.files f).info.length) (page_blocks (vnode_at new.world.files f).info.extents) ≡ take (pages_in (vnode_at old.world.files f).info.length) (page_blocks (vnode_at old.world.files f).info.extents)
  cut-blocks = same-first (pages_in (vnode_at old.world.files f).info.length) (page_blocks (vnode_at old.world.files f).info.extents) (page_blocks (vnode_at new.world.files f).info.extents) enough on
