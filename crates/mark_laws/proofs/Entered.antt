-- An entry is made.
use Rattle.std.proofs.Common.{◌≡◌, ◌≢◌, ℕ, suc, ◌<◌, ◌≤◌, ◌+◌, ◌-◌, true, false, List, [], ◌∷◌, ◌++◌, length, take, replicate, Option, Some, None, refl, sym, ap, ◌∙◌, ◌⊎◌, inl, inr, subst, arith}
use Rattle.std.specs.Prelude.{IsSome, nat_lt, option_and_then, slice_get}
use Rattle.std.specs.Option.{option_map_or}
use Rattle.std.specs.FinMap as finite
use Rattle.std.specs.Ordering.{nat_cmp}
use Rattle.std.proofs.lemmas.Bool.{cases_eq, cases_Bool, ltb-true, ltb-false}
use Rattle.std.proofs.lemmas.List.{take-append-le, length-append, length-replicate, length-take}
use Rattle.flat_model.specs.vm_types.Pages.{bytes_before}
use Rattle.flat_model.specs.vm_types.declared.call.Entry.{Entry}
use Rattle.flat_model.specs.vm_types.declared.call.Reply.TheVariants.{Synced}
use Rattle.flat_model.specs.vnode_files.Files.{block_count}
use Rattle.flat_model.specs.Flat.{Flat, File, cell_at}
use Rattle.flat_model.specs.History.{replay}
use Rattle.flat_model.proofs.Histories.{replay-push, slice_get-cases}
use Rattle.page_store.specs.core_arena.Bytes.{zeros}
use Rattle.page_store.specs.page_hash.declared.PageName.{PageName}
use Rattle.page_store.specs.Bytes.{clip}
use Rattle.page_store.specs.Notes.{Note, Notes}
use Rattle.disk_marks.specs.declared.marks.Mark.{Mark}
use Rattle.disk_marks.specs.declared.marks.Mark.TheVariants.{Held, Blank, Unsure}
use Rattle.disk_marks.specs.declared.marks.MarkRow.{MarkRow}
use Rattle.disk_marks.specs.declared.marks.Pushing.{Pushing}
use Rattle.disk_marks.specs.Marks.{MarksSeen, HasRow, unused_row, mark_row, push_of}
use Rattle.mark_laws.specs.Pages.{after_first, bytes_there, page_there, disk_place, HasPage}
use Rattle.mark_laws.specs.Syncs.{entries_in, HasSynced, ReachesDisk}
use Rattle.mark_laws.specs.MarksFit.{DiskContents, OfBlock, BlockFits, IsDropped, IsSentPage, SentFits, IsBeingWritten, MarksFit, pushed_page}
use Rattle.mark_laws.specs.FileLaws.{KeepsOldBlocks, StepFiles}
use Rattle.mark_laws.specs.Cuts.{CutsFile}
use Rattle.mark_laws.specs.EntryLaws.{ReachesNext}
use Rattle.mark_laws.proofs.Along.{some-and, step-place, place-along, no-end, zeros-past, place-shown}
use Rattle.mark_laws.proofs.Cutting.{row_taken, row_unpushed}
use Rattle.mark_laws.proofs.FilesStay.{files_stay_rule}
use Rattle.mark_laws.proofs.Rows.{told-all}
use Rattle.mark_laws.proofs.Origins.{page-on}
use Rattle.mark_laws.proofs.Words.{few-bytes, clip-later, told-map, all-entries, blank-inj}

-- a block with zeros behind one end has them behind a later one
pub zeros-later : (n k : ℕ) (block : List ℕ) → n ≤ k → k ≤ 4096 → block ≡ clip n block → block ≡ clip k block
zeros-later n k block le low is = elim (cases_eq n 4096) [
  | inl full ↦ is ∙ ap (λ (j : ℕ). clip j block) (let z : n ≡ k = omega (arith, le, low, full) in z)
  | inr part ↦
      let count : length block ≡ length (take n block) + (4096 - n) = ap length is ∙ length-append (take n block) (replicate (4096 - n) 0) ∙ ap (λ (j : ℕ). length (take n block) + j) (length-replicate {A = ℕ} (4096 - n) 0) in
      let front = length-take n block in
      let whole : length block ≡ 4096 = omega (arith, count, front, le, low, part) in
      is ∙ sym (clip-later n k block le low whole) ∙ ap (clip k) (sym is)
]

module _ (opening : Flat) (H : List Entry) (e : Entry) (contents : DiskContents) (notes : Notes) (m : MarksSeen) (fit : MarksFit opening H contents notes m) where
  abbrev old : Flat
  old = replay opening H

  abbrev new : Flat
  new = replay opening (H ++ e ∷ [])

  pub files : StepFiles (replay opening H) e (replay opening (H ++ e ∷ []))
  files = subst (StepFiles (replay opening H) e) (sym (replay-push opening H e)) (files_stay_rule.files (replay opening H) e)

  longer : length (H ++ e ∷ []) ≡ suc (length H)
  longer = let n = length-append H (e ∷ []) in omega (arith, n)

  first-kept : (j : ℕ) → j ≤ length H → after_first opening (H ++ e ∷ []) j ≡ after_first opening H j
  first-kept j le = ap (replay opening) (take-append-le j H (e ∷ []) le)

  all-now : after_first opening (H ++ e ∷ []) (suc (length H)) ≡ replay opening (H ++ e ∷ [])
  all-now = ap (after_first opening (H ++ e ∷ [])) (sym longer) ∙ all-entries opening (H ++ e ∷ [])

  more : (j : ℕ) → j ≤ length H → j ≤ length (H ++ e ∷ [])
  more j le = let n = longer in omega (arith, n, le)

  -- a page keeps its place, and one that has a place had it or is new
  place-kept : (name : PageName) (disk block : ℕ) → disk_place old name ≡ Some (disk, block) → disk_place new name ≡ Some (disk, block)
  place-kept name disk block at = ap (λ (F : Flat). disk_place F name) (replay-push opening H e) ∙ step-place old e name disk block at

  place-was : (name : PageName) (disk block : ℕ) → disk_place new name ≡ Some (disk, block) → (disk_place old name ≡ Some (disk, block)) ⊎ (disk_place old name ≡ None)
  place-was name disk block at = by_place (disk_place old name) refl
    where
      by_place : (o : Option (ℕ × ℕ)) → disk_place old name ≡ o → (disk_place old name ≡ Some (disk, block)) ⊎ (disk_place old name ≡ None)
      by_place None is = inr is
      by_place (Some p) is = inl (is ∙ sym (place-kept name p.0 p.1 is) ∙ at)

  -- A NEW PAGE: its block was free, and no byte of it lay before the end at the opening
  free-then : (name : PageName) (disk block : ℕ) → disk_place new name ≡ Some (disk, block) → disk_place old name ≡ None → mark_row m disk block ≡ unused_row
  free-then name disk block at none = fit.free disk block (files.fresh name disk block none at).free

  new-then : (name : PageName) → disk_place old name ≡ None → page_there opening name ≡ zeros
  new-then name none = zeros-past opening name (no-end opening name fit.kept (by_place (disk_place opening name) refl))
    where
      by_place : (o : Option (ℕ × ℕ)) → disk_place opening name ≡ o → disk_place opening name ≡ None
      by_place None is = is
      by_place (Some p) is = absurd (let z : ◌≡◌ {A = Option (ℕ × ℕ)} None (Some p) = sym none ∙ place-along opening H 0 name p.0 p.1 is in cc)

  -- a Sync of the longer history was one before, or is the entry
  before : (k b : ℕ) (name : PageName) → HasSynced opening (H ++ e ∷ []) k b name → ((k < length H) × HasSynced opening H k b name) ⊎ (k ≡ length H)
  before k b name syn = elim (slice_get-cases H e syn.entry k syn.at) [
    | inl h ↦
        let lt = h.0 in
        let first = first-kept k (omega (arith, lt)) in
        inl (
          h.0,
          record {
            entry = syn.entry;
            addr = syn.addr;
            len = syn.len;
            q = syn.q;
            cell = syn.cell;
            at = h.1;
            call = syn.call;
            reply = syn.reply;
            within = syn.within;
            here = sym (ap (λ (F : Flat). cell_at F syn.entry.process syn.q) first) ∙ syn.here;
            shared = syn.shared;
            file = syn.file;
            index = syn.index;
            shows = subst (λ (F : Flat). IsSome (option_and_then (λ (file : File). slice_get file.pages name.page) (slice_get F.files name.object))) first syn.shows;
          },
        )
    | inr h ↦ inr h.0
  ]

  -- a Sync of a new page there was none
  none-synced : (k b : ℕ) (name : PageName) → HasSynced opening (H ++ e ∷ []) k b name → disk_place old name ≢ None
  none-synced k b name syn = elim (before k b name syn) [
    | inl h ↦ place-shown opening H k name fit.kept h.1.shows
    | inr h ↦ place-shown opening H (length H) name fit.kept
        (subst (λ (F : Flat). IsSome (option_and_then (λ (file : File). slice_get file.pages name.page) (slice_get F.files name.object))) (ap (after_first opening (H ++ e ∷ [])) h ∙ first-kept (length H) (omega arith)) syn.shows)
  ]

  -- WHAT BECOMES OF A ROW: it stays, where its file got no shorter; or the zeros past the end are forgotten; or the page is taken away
  abbrev pub RowTurns : PageName → MarkRow → MarkRow → Type 0
  RowTurns name was row =
      ((row ≡ was) × (bytes_there (replay opening H) name ≤ bytes_there (replay opening (H ++ e ∷ [])) name))
      ⊎ ((row ≡ row_unpushed was)
      ⊎ ((row ≡ row_taken (suc (length H))) × (bytes_there (replay opening (H ++ e ∷ [])) name ≡ 0) × ((k b : ℕ) → HasSynced opening H k b name → b ≤ k)))

  -- what becomes of a push: it stays, where its file got no shorter; or it began before the cut; or its page is taken away
  abbrev pub PushTurns : MarksSeen → Option Pushing → Option Pushing → Type 0
  PushTurns n None q = q ≡ None
  PushTurns n (Some p) q =
      ((q ≡ Some p) × (bytes_there (replay opening H) (pushed_page p) ≤ bytes_there (replay opening (H ++ e ∷ [])) (pushed_page p)))
      ⊎ (((q ≡ Some (record p { whole = false })) × (0 < bytes_there (replay opening (H ++ e ∷ [])) (pushed_page p)))
      ⊎ ((q ≡ None) × ((disk block : ℕ) → disk_place (replay opening H) (pushed_page p) ≡ Some (disk, block) → mark_row n disk block ≡ row_taken (suc (length H)))))

  pub record Turns (n : MarksSeen) : Type 0 where
    pub there : (disk block : ℕ) → HasRow m disk block → HasRow n disk block
    pub unused : (disk block : ℕ) → ((name : PageName) → disk_place (replay opening H) name ≢ Some (disk, block)) → mark_row n disk block ≡ mark_row m disk block
    pub rows : (name : PageName) (disk block : ℕ) → disk_place (replay opening H) name ≡ Some (disk, block) → RowTurns name (mark_row m disk block) (mark_row n disk block)
    pub pushes : (seat : ℕ) → PushTurns n (push_of m seat) (push_of n seat)
    pub answers : (b : ℕ) (name : PageName) → HasSynced opening (H ++ e ∷ []) (length H) b name → ReachesNext opening H e n b name

  module _ (n : MarksSeen) (turns : Turns n) where
    -- a push that is kept was kept before
    record WasPush (seat : ℕ) (push : Pushing) : Type 0 where
      was : Pushing
      there : push_of m seat ≡ Some was
      page : pushed_page push ≡ pushed_page was
      from : push.from ≡ was.from
      inside : 0 < bytes_there new (pushed_page push)

    was-push : (seat : ℕ) (push : Pushing) → push_of n seat ≡ Some push → WasPush seat push
    was-push seat push is = by_push (push_of m seat) refl (turns.pushes seat)
      where
        by_push : (o : Option Pushing) → push_of m seat ≡ o → PushTurns n o (push_of n seat) → WasPush seat push
        by_push None e t = absurd (let z : ◌≡◌ {A = Option Pushing} None (Some push) = sym t ∙ is in cc)
        by_push (Some p) e (inl t) =
            let same : push ≡ p = (let z : ◌≡◌ {A = Option Pushing} (Some p) (Some push) = sym t.0 ∙ is in cc) in
            let some = fit.inside seat p e in
            let le = t.1 in
            record { was = p; there = e; page = ap pushed_page same; from = ap (λ (x : Pushing). x.from) same; inside = subst (λ (x : Pushing). 0 < bytes_there new (pushed_page x)) (sym same) (omega (arith, some, le)) }
        by_push (Some p) e (inr (inl t)) =
            let same : push ≡ record p { whole = false } = (let z : ◌≡◌ {A = Option Pushing} (Some (record p { whole = false })) (Some push) = sym t.0 ∙ is in cc) in
            record { was = p; there = e; page = ap pushed_page same; from = ap (λ (x : Pushing). x.from) same; inside = subst (λ (x : Pushing). 0 < bytes_there new (pushed_page x)) (sym same) t.1 }
        by_push (Some p) e (inr (inr t)) = absurd (let z : ◌≡◌ {A = Option Pushing} None (Some push) = sym t.0 ∙ is in cc)

    -- a row of a page that had its place
    turned : (P : MarkRow → Type 0) (name : PageName) (disk block : ℕ) → disk_place old name ≡ Some (disk, block)
        → (bytes_there old name ≤ bytes_there new name → P (mark_row m disk block)) → P (row_unpushed (mark_row m disk block))
        → (bytes_there new name ≡ 0 → ((k b : ℕ) → HasSynced opening H k b name → b ≤ k) → P (row_taken (suc (length H)))) → P (mark_row n disk block)
    turned P name disk block at same unpushed taken = elim (turns.rows name disk block at) [
      | inl t ↦ subst P (sym t.0) (same t.1)
      | inr u ↦ elim u [
        | inl t ↦ subst P (sym t) unpushed
        | inr t ↦ subst P (sym t.0) (taken t.1 t.2)
      ]
    ]

    -- .. and that of a new page
    unused-then : (name : PageName) (disk block : ℕ) → disk_place new name ≡ Some (disk, block) → disk_place old name ≡ None → mark_row n disk block ≡ unused_row
    unused-then name disk block at none = turns.unused disk block (files.fresh name disk block none at).free ∙ free-then name disk block at none

    -- what holds of the row of each page that has a place
    each-row : (P : MarkRow → Type 0) (name : PageName) (disk block : ℕ) → disk_place new name ≡ Some (disk, block)
        → (disk_place old name ≡ Some (disk, block) → P (mark_row n disk block)) → (disk_place old name ≡ None → P unused_row) → P (mark_row n disk block)
    each-row P name disk block at was is_new = elim (place-was name disk block at) [
      | inl w ↦ was w
      | inr none ↦ subst P (sym (unused-then name disk block at none)) (is_new none)
    ]

    early-then : (name : PageName) (disk block : ℕ) → disk_place new name ≡ Some (disk, block) → entries_in (mark_row n disk block).mark ≤ length (H ++ e ∷ [])
    early-then name disk block at = each-row (λ (r : MarkRow). entries_in r.mark ≤ length (H ++ e ∷ [])) name disk block at
        (λ was. let le = more (entries_in (mark_row m disk block).mark) (fit.early name disk block was) in
        turned (λ (r : MarkRow). entries_in r.mark ≤ length (H ++ e ∷ [])) name disk block was (λ _. le) le (λ _ _. let l = longer in omega (arith, l)))
        (λ _. omega arith)

    -- a row that was says of its block what it said
    held-on : (name : PageName) (disk block j : ℕ) → disk_place old name ≡ Some (disk, block) → (mark_row m disk block).mark ≡ Held j → j ≤ length H
    held-on name disk block j was is = subst (λ (x : Mark). entries_in x ≤ length H) is (fit.early name disk block was)

    blanks-on : (name : PageName) (disk block j : ℕ) → disk_place old name ≡ Some (disk, block) → (mark_row m disk block).mark ≡ Blank j → j ≤ length H
    blanks-on name disk block j was is = subst (λ (x : Mark). entries_in x ≤ length H) is (fit.early name disk block was)

    blocks-then : (name : PageName) (disk block : ℕ) → disk_place new name ≡ Some (disk, block) → ¬ IsBeingWritten notes name
        → OfBlock contents disk block (BlockFits opening (H ++ e ∷ []) name (mark_row n disk block))
    blocks-then name disk block at free = each-row (λ (r : MarkRow). OfBlock contents disk block (BlockFits opening (H ++ e ∷ []) name r)) name disk block at
        (λ was. let have = fit.blocks name disk block was free in
        turned (λ (r : MarkRow). OfBlock contents disk block (BlockFits opening (H ++ e ∷ []) name r)) name disk block was
        (λ le. told-map (BlockFits opening H name (mark_row m disk block)) (BlockFits opening (H ++ e ∷ []) name (mark_row m disk block))
        (λ bytes f. record {
          held = λ j is. subst (λ (F : Flat). HasPage F name (mark_row m disk block).pushed bytes) (sym (first-kept j (held-on name disk block j was is))) (f.held j is);
          zeros = λ is. zeros-later (bytes_there old name) (bytes_there new name) bytes le (few-bytes new name) (f.zeros is);
        }) block (contents disk) have)
        (told-map (BlockFits opening H name (mark_row m disk block)) (BlockFits opening (H ++ e ∷ []) name (row_unpushed (mark_row m disk block)))
        (λ bytes f. record {
          held = λ j is. record {
            same = subst (λ (F : Flat). clip (bytes_there F name) bytes ≡ page_there F name) (sym (first-kept j (held-on name disk block j was is))) (f.held j is).same;
            rest = λ z. absurd (let y : false ≡ true = z in cc);
          };
          zeros = λ z. absurd (let y : false ≡ true = z in cc);
        }) block (contents disk) have)
        (λ _ _. told-all (BlockFits opening (H ++ e ∷ []) name (row_taken (suc (length H)))) block (contents disk) (λ blocks _. record {
          held = λ j is. absurd (let z : Blank (suc (length H)) ≡ Held j = is in cc);
          zeros = λ z. absurd (let y : false ≡ true = z in cc);
        })))
        (λ _. told-all (BlockFits opening (H ++ e ∷ []) name unused_row) block (contents disk) (λ blocks _. record {
          held = λ j is. absurd (let z : Blank 0 ≡ Held j = is in cc);
          zeros = λ z. absurd (let y : false ≡ true = z in cc);
        }))

    blanks-then : (name : PageName) (disk block j : ℕ) → disk_place new name ≡ Some (disk, block) → (mark_row n disk block).mark ≡ Blank j → page_there (after_first opening (H ++ e ∷ []) j) name ≡ zeros
    blanks-then name disk block j at = each-row (λ (r : MarkRow). r.mark ≡ Blank j → page_there (after_first opening (H ++ e ∷ []) j) name ≡ zeros) name disk block at
        (λ was. let still : (mark_row m disk block).mark ≡ Blank j → page_there (after_first opening (H ++ e ∷ []) j) name ≡ zeros =
        (λ is. ap (λ (F : Flat). page_there F name) (first-kept j (blanks-on name disk block j was is)) ∙ fit.blanks name disk block j was is) in
        turned (λ (r : MarkRow). r.mark ≡ Blank j → page_there (after_first opening (H ++ e ∷ []) j) name ≡ zeros) name disk block was (λ _. still) still
        (λ none _ is. ap (λ (i : ℕ). page_there (after_first opening (H ++ e ∷ []) i) name) (sym (blank-inj (suc (length H)) j is)) ∙ ap (λ (F : Flat). page_there F name) all-now ∙ zeros-past new name none))
        (λ none is. ap (λ (i : ℕ). page_there (after_first opening (H ++ e ∷ []) i) name) (sym (blank-inj 0 j is)) ∙ new-then name none)

    -- what a push sends
    sent-then : (seat : ℕ) (note : Note) → notes seat ≡ Some note → note.writes ≡ true → note.name.object ≢ 64 → SentFits opening (H ++ e ∷ []) (mark_row n note.number note.block) note (push_of n seat)
    sent-then seat note is writes far = by_push (push_of m seat) refl (turns.pushes seat) (fit.sent seat note is writes far)
      where
        at : disk_place old note.name ≡ Some (note.number, note.block)
        at = fit.places seat note is writes far

        on : (p q : Pushing) → IsSentPage opening H note p → pushed_page q ≡ pushed_page p → q.from ≡ p.from → (q.whole ≡ true → note.valid ≤ bytes_there new note.name) → IsSentPage opening (H ++ e ∷ []) note q
        on p q s page from whole = record {
          name = page ∙ s.name;
          early = subst (λ (j : ℕ). j ≤ length (H ++ e ∷ [])) (sym from) (more p.from s.early);
          page = s.page ∙ sym (ap (λ (F : Flat). page_there F note.name) (ap (after_first opening (H ++ e ∷ [])) from ∙ first-kept p.from s.early));
          valid = s.valid ∙ sym (ap (λ (F : Flat). bytes_there F note.name) (ap (after_first opening (H ++ e ∷ [])) from ∙ first-kept p.from s.early));
          whole = whole;
        }

        sends : (o : Option Pushing) → push_of n seat ≡ o → SentFits opening (H ++ e ∷ []) (mark_row n note.number note.block) note o → SentFits opening (H ++ e ∷ []) (mark_row n note.number note.block) note (push_of n seat)
        sends o t s = subst (λ (x : Option Pushing). SentFits opening (H ++ e ∷ []) (mark_row n note.number note.block) note x) (sym t) s

        dropped : IsDropped (row_taken (suc (length H)))
        dropped = record { unheld = λ j z. let y : Blank (suc (length H)) ≡ Held j = z in cc; unpushed = refl }

        by_push : (o : Option Pushing) → push_of m seat ≡ o → PushTurns n o (push_of n seat) → SentFits opening H (mark_row m note.number note.block) note o
            → SentFits opening (H ++ e ∷ []) (mark_row n note.number note.block) note (push_of n seat)
        by_push None x t s = sends None t (turned IsDropped note.name note.number note.block at (λ _. s) (record { unheld = s.unheld; unpushed = refl }) (λ _ _. dropped))
        by_push (Some p) x (inl t) s = sends (Some p) t.0 (on p p s refl refl (λ w. let a = s.whole w in let le = subst (λ (y : PageName). bytes_there old y ≤ bytes_there new y) s.name t.1 in omega (arith, a, le)))
        by_push (Some p) x (inr (inl t)) s = sends (Some (record p { whole = false })) t.0 (on p (record p { whole = false }) s refl refl (λ z. absurd (let y : false ≡ true = z in cc)))
        by_push (Some p) x (inr (inr t)) s = sends None t.0 (subst IsDropped (sym (t.1 note.number note.block (ap (disk_place old) s.name ∙ at))) dropped)

    synced-then : (k b : ℕ) (name : PageName) (disk block : ℕ) → HasSynced opening (H ++ e ∷ []) k b name → disk_place new name ≡ Some (disk, block) → ReachesDisk k b (mark_row n disk block).mark
    synced-then k b name disk block syn at = each-row (λ (r : MarkRow). ReachesDisk k b r.mark) name disk block at
        (λ was. elim (before k b name syn) [
          | inl h ↦
              let have = fit.synced k b name disk block h.1 was in
              turned (λ (r : MarkRow). ReachesDisk k b r.mark) name disk block was (λ _. have) have (λ _ first. record {
                since = let le = first k b h.1 in let lt = h.0 in omega (arith, le, lt);
                later = λ j x y is. absurd (let z : Blank (suc (length H)) ≡ Unsure j x y = is in cc);
              })
          | inr h ↦ subst (λ (i : ℕ). ReachesDisk i b (mark_row n disk block).mark) (sym h) ((turns.answers b name (next k b name h syn)).marks disk block was)
        ])
        (λ none. absurd (none-synced k b name syn none))
      where
        next : (k b : ℕ) (name : PageName) → k ≡ length H → HasSynced opening (H ++ e ∷ []) k b name → HasSynced opening (H ++ e ∷ []) (length H) b name
        next k b name h syn = subst (λ (i : ℕ). HasSynced opening (H ++ e ∷ []) i b name) h syn

    pub turned-fits : MarksFit opening (H ++ e ∷ []) contents notes n
    turned-fits = record {
      kept = fit.kept;
      rows = λ disk block lt. turns.there disk block (fit.rows disk block (ap-count disk block lt));
      free = λ disk block none. turns.unused disk block (unplaced disk block none) ∙ fit.free disk block (unplaced disk block none);
      there = λ name disk block at. elim (place-was name disk block at) [
        | inl was ↦ turns.there disk block (fit.there name disk block was)
        | inr none ↦ turns.there disk block (fit.rows disk block (files.fresh name disk block none at).within)
      ];
      early = early-then;
      blocks = blocks-then;
      blanks = blanks-then;
      places = λ seat note is writes far. place-kept note.name note.number note.block (fit.places seat note is writes far);
      sent = sent-then;
      origin = λ seat note is writes far. page-on opening H (e ∷ []) note.name (clip note.valid note.bytes) (fit.origin seat note is writes far);
      out = λ seat push is.
          let w = was-push seat push is in
          let o = fit.out seat w.was w.there in
          record { note = o.note; there = o.there; pushes = o.pushes; name = o.name ∙ sym w.page };
      inside = λ seat push is. (was-push seat push is).inside;
      synced = synced-then;
      later = λ k b seat name push syn is named.
          let w = was-push seat push is in
          elim (before k b name syn) [
            | inl h ↦ subst (λ (i : ℕ). k < i) (sym w.from) (fit.later k b seat name w.was h.1 w.there (sym w.page ∙ named))
            | inr h ↦ absurd ((turns.answers b name (subst (λ (i : ℕ). HasSynced opening (H ++ e ∷ []) i b name) h syn)).still seat push is named)
          ];
    }
      where
        unplaced : (disk block : ℕ) → ((name : PageName) → disk_place new name ≢ Some (disk, block)) → (name : PageName) → disk_place old name ≢ Some (disk, block)
        unplaced disk block none name at = none name (place-kept name disk block at)

        ap-count : (disk block : ℕ) → block < block_count new.disks disk → block < block_count old.disks disk
        ap-count disk block lt = let same : block_count new.disks disk ≡ block_count old.disks disk = ap (λ (d : finite.FinMap nat_cmp ℕ). block_count d disk) files.disks in omega (arith, lt, same)

  -- ANY ENTRY THAT CUTS NO FILE: the marks stay.
  module _ (uncut : ¬ CutsFile (replay opening H) e) where
    ends-rise : (name : PageName) → bytes_there (replay opening H) name ≤ bytes_there (replay opening (H ++ e ∷ [])) name
    ends-rise name = by_file (slice_get old.files name.object) refl
      where
        by_file : (o : Option File) → slice_get old.files name.object ≡ o → option_map_or (λ (file : File). bytes_before file.len name.page) o 0 ≤ bytes_there new name
        by_file None is = omega arith
        by_file (Some file) is =
            let g = some-and (slice_get new.files name.object) (KeepsOldBlocks file) (files.blocks name.object file is) in
            let le : file.len ≤ g.0.len = elim (cases_Bool (nat_lt g.0.len file.len)) [
              | inl y ↦ absurd (uncut (record {
                f = name.object;
                old = file;
                new = g.0;
                was = is;
                now = ap (λ (F : Flat). slice_get F.files name.object) (sym (replay-push opening H e)) ∙ g.1;
                less = ltb-true g.0.len file.len y;
              }))
              | inr n ↦ ltb-false g.0.len file.len n
            ] in
            subst (λ (o : Option File). bytes_before file.len name.page ≤ option_map_or (λ (x : File). bytes_before x.len name.page) o 0) (sym g.1) (omega (arith, le))

    stays : ((b : ℕ) (name : PageName) → HasSynced opening (H ++ e ∷ []) (length H) b name → ReachesNext opening H e m b name) → Turns m
    stays answers = record {
      there = λ disk block has. has;
      unused = λ disk block none. refl;
      rows = λ name disk block at. inl (refl, ends-rise name);
      pushes = λ seat. by_push (push_of m seat);
      answers = answers;
    }
      where
        by_push : (o : Option Pushing) → PushTurns m o o
        by_push None = refl
        by_push (Some p) = inl (refl, ends-rise (pushed_page p))

    pub entered-sync : ((b : ℕ) (name : PageName) → HasSynced opening (H ++ e ∷ []) (length H) b name → ReachesNext opening H e m b name) → MarksFit opening (H ++ e ∷ []) contents notes m
    entered-sync answers = turned-fits m (stays answers)

    pub entered-plain : ((b : ℕ) → e.reply ≢ Synced b) → MarksFit opening (H ++ e ∷ []) contents notes m
    entered-plain plain = entered-sync (λ b name syn. absurd (elim (slice_get-cases H e syn.entry (length H) syn.at) [
      | inl h ↦ (let lt = h.0 in omega (arith, lt))
      | inr h ↦ plain b (ap (λ (x : Entry). x.reply) h.1 ∙ syn.reply)
    ]))
