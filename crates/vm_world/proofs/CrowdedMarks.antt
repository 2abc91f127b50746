-- The marks of the crowded state are true.
use Rattle.std.proofs.Common.{◌≡◌, ◌≢◌, ℕ, zero, suc, ◌<◌, ◌≤◌, true, false, [], ◌∷◌, Option, Some, None, refl, sym, ◌⊎◌, inl, inr, subst, arith}
use Rattle.std.specs.Prelude.{unwrap_or}
use Rattle.std.specs.FinMap as finite
use Rattle.flat_model.specs.vm_types.declared.call.Call.TheVariants.{Fork, Read, Truncate}
use Rattle.flat_model.specs.vm_types.declared.call.Entry.{Entry}
use Rattle.flat_model.specs.vm_types.declared.call.Reply.TheVariants as reply
use Rattle.flat_model.specs.Flat.{File}
use Rattle.flat_model.specs.Step.{step, IsStep}
use Rattle.flat_model.specs.Words.{Page}
use Rattle.page_store.specs.page_hash.declared.PageName.{PageName}
use Rattle.page_store.specs.core_arena.Bytes.{zeros}
use Rattle.page_store.specs.Bytes.{clip}
use Rattle.page_store.specs.Notes.{Note, Notes}
use Rattle.page_store.specs.Value.{content_of}
use Rattle.mark_laws.specs.disk_marks.declared.marks.Mark.{Mark}
use Rattle.mark_laws.specs.disk_marks.declared.marks.Mark.TheVariants.{Held, Blank, Unsure}
use Rattle.mark_laws.specs.disk_marks.declared.marks.Pushing.{Pushing}
use Rattle.mark_laws.specs.disk_marks.Marks.{HasRow, mark_row, push_of, unused_row}
use Rattle.mark_laws.specs.FileLaws.{HaveBlocks, KeepsPageBlocks}
use Rattle.mark_laws.specs.MarksFit.{BlockFits, DiskContents, IsBeingWritten, IsOutWith, MarksFit, OfBlock, SentFits, pushed_page}
use Rattle.mark_laws.specs.Pages.{ArePageOf, HasPage, after_first, bytes_there, disk_place, page_there}
use Rattle.mark_laws.specs.Syncs.{entries_in}
use Rattle.mark_laws.proofs.Shortened.{entries_rule}
use Rattle.mark_laws.proofs.Shortenings.{cuts_rule}
use Rattle.vm_world.specs.Crowded.{crowded_birth, crowded_file, crowded_files, crowded_gone, crowded_history, crowded_marks, crowded_opening, crowded_other, crowded_read, crowded_seats, crowded_snapshot, crowded_store}
use Rattle.vm_world.specs.FlatMemory.{file_with_pages}
use Rattle.vm_world.specs.State.{notes_of}
use Rattle.vm_world.specs.World.{file_name}
use Rattle.vm_world.proofs.FlatWhole.{some-inj}

-- no push of it failed
pub never-failed : (disk block j before after : ℕ) → (mark_row crowded_marks disk block).mark ≡ Unsure j before after → ⊥
never-failed zero zero j before after is = let z : ◌≡◌ {A = Mark} (Blank 0) (Unsure j before after) = is in cc
never-failed zero (suc zero) j before after is = let z : ◌≡◌ {A = Mark} (Held 0) (Unsure j before after) = is in cc
never-failed zero (suc (suc zero)) j before after is = let z : ◌≡◌ {A = Mark} (Held 0) (Unsure j before after) = is in cc
never-failed zero (suc (suc (suc block))) j before after is = let z : ◌≡◌ {A = Mark} (Blank 0) (Unsure j before after) = is in cc
never-failed (suc zero) zero j before after is = let z : ◌≡◌ {A = Mark} (Blank 0) (Unsure j before after) = is in cc
never-failed (suc zero) (suc zero) j before after is = let z : ◌≡◌ {A = Mark} (Held 0) (Unsure j before after) = is in cc
never-failed (suc zero) (suc (suc block)) j before after is = let z : ◌≡◌ {A = Mark} (Blank 0) (Unsure j before after) = is in cc
never-failed (suc (suc disk)) block j before after is = let z : ◌≡◌ {A = Mark} (Blank 0) (Unsure j before after) = is in cc

held-at : (j : ℕ) → Held 0 ≡ Held j → 0 ≡ j
held-at j is = cc

-- the push that is out
abbrev the_push : Pushing
the_push = record { file = 1; page = 0; from = 0; whole = true }

module _ (page : Page) (sizes : (number blocks : ℕ) → finite.get crowded_files.disks number ≡ Some blocks → ((number ≡ 0) × (3 ≡ blocks)) ⊎ ((number ≡ 1) × (2 ≡ blocks))) where
  abbrev notes : Notes
  notes = notes_of (crowded_seats page)

  abbrev contents : DiskContents
  contents = content_of (crowded_store page) notes

  -- the pages of files that have a place, the file's transfer, and its push
  by_place : (P : PageName → ℕ → ℕ → Type 0) → P (file_name 0 0) 0 1 → P (file_name 0 1) 0 2 → P (file_name 1 0) 1 1
      → (name : PageName) (disk block : ℕ) → disk_place (crowded_opening page) name ≡ Some (disk, block) → P name disk block
  by_place P a b c name disk block is = at name.object name.page disk block is
    where
      at : (o p disk block : ℕ) → disk_place (crowded_opening page) (file_name o p) ≡ Some (disk, block) → P (file_name o p) disk block
      at zero zero disk block is = subst (λ (x : ℕ × ℕ). P (file_name 0 0) x.0 x.1) (some-inj (0, 1) (disk, block) is) a
      at zero (suc zero) disk block is = subst (λ (x : ℕ × ℕ). P (file_name 0 1) x.0 x.1) (some-inj (0, 2) (disk, block) is) b
      at zero (suc (suc p)) disk block is = absurd (let z : ◌≡◌ {A = Option (ℕ × ℕ)} None (Some (disk, block)) = is in cc)
      at (suc zero) zero disk block is = subst (λ (x : ℕ × ℕ). P (file_name 1 0) x.0 x.1) (some-inj (1, 1) (disk, block) is) c
      at (suc zero) (suc p) disk block is = absurd (let z : ◌≡◌ {A = Option (ℕ × ℕ)} None (Some (disk, block)) = is in cc)
      at (suc (suc o)) p disk block is = absurd (let z : ◌≡◌ {A = Option (ℕ × ℕ)} None (Some (disk, block)) = is in cc)

  by_note : (P : ℕ → Note → Type 0) → P 1 (crowded_snapshot page) → (seat : ℕ) (note : Note) → notes seat ≡ Some note → note.name.object ≢ 64 → P seat note
  by_note P a zero note is far = absurd (let z : ◌≡◌ {A = Option Note} None (Some note) = is in cc)
  by_note P a (suc zero) note is far = subst (P 1) (some-inj (crowded_snapshot page) note is) a
  by_note P a (suc (suc zero)) note is far = absurd (subst (λ (n : Note). n.name.object ≢ 64) (sym (some-inj (crowded_gone page) note is)) far refl)
  by_note P a (suc (suc (suc seat))) note is far = absurd (let z : ◌≡◌ {A = Option Note} None (Some note) = is in cc)

  by_push : (P : ℕ → Pushing → Type 0) → P 1 the_push → (seat : ℕ) (push : Pushing) → push_of crowded_marks seat ≡ Some push → P seat push
  by_push P a zero push is = absurd (let z : ◌≡◌ {A = Option Pushing} None (Some push) = is in cc)
  by_push P a (suc zero) push is = subst (P 1) (some-inj the_push push is) a
  by_push P a (suc (suc zero)) push is = absurd (let z : ◌≡◌ {A = Option Pushing} None (Some push) = is in cc)
  by_push P a (suc (suc (suc zero))) push is = absurd (let z : ◌≡◌ {A = Option Pushing} None (Some push) = is in cc)
  by_push P a (suc (suc (suc (suc seat)))) push is = absurd (let z : ◌≡◌ {A = Option Pushing} None (Some push) = is in cc)

  rows : (disk block : ℕ) (o : Option ℕ) → finite.get crowded_files.disks disk ≡ o → block < unwrap_or o 0 → HasRow crowded_marks disk block
  rows disk block None e lt = absurd (omega (arith, lt))
  rows disk block (Some n) e lt = elim (sizes disk n e) [
    | inl x ↦ let s = x.1 in subst (λ (d : ℕ). HasRow crowded_marks d block) (sym x.0) (omega arith, omega (arith, lt, s))
    | inr y ↦ let s = y.1 in subst (λ (d : ℕ). HasRow crowded_marks d block) (sym y.0) (omega arith, omega (arith, lt, s))
  ]

  free : (disk block : ℕ) → ((name : PageName) → disk_place (crowded_opening page) name ≢ Some (disk, block)) → mark_row crowded_marks disk block ≡ unused_row
  free zero zero none = refl
  free zero (suc zero) none = absurd (none (file_name 0 0) refl)
  free zero (suc (suc zero)) none = absurd (none (file_name 0 1) refl)
  free zero (suc (suc (suc block))) none = refl
  free (suc zero) zero none = refl
  free (suc zero) (suc zero) none = absurd (none (file_name 1 0) refl)
  free (suc zero) (suc (suc block)) none = refl
  free (suc (suc disk)) block none = refl

  kept : HaveBlocks (crowded_opening page)
  kept zero file is = subst KeepsPageBlocks (some-inj (crowded_file page) file is) (record { pages = omega arith; len = omega arith })
  kept (suc zero) file is = subst KeepsPageBlocks (some-inj (file_with_pages (λ index. page) crowded_other) file is) (record { pages = omega arith; len = omega arith })
  kept (suc (suc f)) file is = absurd (let z : ◌≡◌ {A = Option File} None (Some file) = is in cc)

  -- a block at home has its page
  held : (name : PageName) → HasPage (crowded_opening page) name false page → BlockFits (crowded_opening page) [] name (record { mark = Held 0; pushed = false }) page
  held name has = record {
    held = λ j is. subst (λ (k : ℕ). HasPage (after_first (crowded_opening page) [] k) name false page) (held-at j is) has;
    zeros = λ is. absurd (let z : false ≡ true = is in cc);
  }

  blocks : (name : PageName) (disk block : ℕ) → disk_place (crowded_opening page) name ≡ Some (disk, block) → ¬ IsBeingWritten notes name
      → OfBlock contents disk block (BlockFits (crowded_opening page) [] name (mark_row crowded_marks disk block))
  blocks = by_place (λ name disk block. ¬ IsBeingWritten notes name → OfBlock contents disk block (BlockFits (crowded_opening page) [] name (mark_row crowded_marks disk block)))
      (λ quiet. held (file_name 0 0) (record { same = refl; rest = λ is. absurd (let z : false ≡ true = is in cc) }))
      (λ quiet. held (file_name 0 1) (record { same = refl; rest = λ is. absurd (let z : false ≡ true = is in cc) }))
      (λ quiet. absurd (quiet (1, crowded_snapshot page, refl, refl, refl)))

  -- at the opening
  opens : MarksFit (crowded_opening page) [] contents notes crowded_marks
  opens = record {
    kept = kept;
    rows = λ disk block. rows disk block (finite.get crowded_files.disks disk) refl;
    free = free;
    there = by_place (λ name disk block. HasRow crowded_marks disk block) (omega arith, omega arith) (omega arith, omega arith) (omega arith, omega arith);
    early = by_place (λ name disk block. entries_in (mark_row crowded_marks disk block).mark ≤ 0) (omega arith) (omega arith) (omega arith);
    blocks = blocks;
    blanks = λ name disk block j at. by_place (λ name disk block. (mark_row crowded_marks disk block).mark ≡ Blank j → page_there (after_first (crowded_opening page) [] j) name ≡ zeros)
        (λ is. absurd (let z : Held 0 ≡ Blank j = is in cc)) (λ is. absurd (let z : Held 0 ≡ Blank j = is in cc)) (λ is. absurd (let z : Held 0 ≡ Blank j = is in cc)) name disk block at;
    places = λ seat note is writes. by_note (λ seat note. disk_place (crowded_opening page) note.name ≡ Some (note.number, note.block)) refl seat note is;
    sent = λ seat note is writes. by_note (λ seat note. SentFits (crowded_opening page) [] (mark_row crowded_marks note.number note.block) note (push_of crowded_marks seat))
        (record { name = refl; early = omega arith; page = refl; valid = refl; whole = λ is. omega arith }) seat note is;
    origin = λ seat note is writes. by_note (λ seat note. ArePageOf (crowded_opening page) [] note.name (clip note.valid note.bytes)) (record { entries = 0; made = omega arith; inside = omega arith; same = refl }) seat note is;
    out = by_push (λ seat push. IsOutWith notes seat push) (record { note = crowded_snapshot page; there = refl; pushes = record { writes = refl; far = λ e. omega (arith, e) }; name = refl });
    inside = by_push (λ seat push. 0 < bytes_there (crowded_opening page) (pushed_page push)) (omega arith);
    synced = λ k b name disk block syn at. absurd (let z : ◌≡◌ {A = Option Entry} None (Some syn.entry) = syn.at in cc);
    later = λ k b seat name push syn is. absurd (let z : ◌≡◌ {A = Option Entry} None (Some syn.entry) = syn.at in cc);
  }

  -- THE BIRTH AND THE READ change none.
  pub crowded-marks : IsStep (crowded_opening page) crowded_birth → IsStep (step (crowded_opening page) crowded_birth) (crowded_read page)
      → MarksFit (crowded_opening page) (crowded_history page) contents notes crowded_marks
  crowded-marks birth read =
      entries_rule.plain (crowded_opening page) (crowded_birth ∷ []) (crowded_read page) contents notes crowded_marks
      (entries_rule.plain (crowded_opening page) [] crowded_birth contents notes crowded_marks opens
      (λ c. let o = cuts_rule.only (crowded_opening page) crowded_birth birth c in let z : Fork 2 ≡ Truncate c.f c.new.len = o.call in cc)
      (λ b is. let z : reply.Done ≡ reply.Synced b = is in cc))
      (λ c. let o = cuts_rule.only (step (crowded_opening page) crowded_birth) (crowded_read page) read c in let z : Read 0 0 100 ≡ Truncate c.f c.new.len = o.call in cc)
      (λ b is. let z : (crowded_read page).reply ≡ reply.Synced b = is in cc)
