-- The marks at the opening, page by page.
use Rattle.std.proofs.Common.{◌≡◌, ◌≢◌, ℕ, zero, suc, ◌+◌, ◌<◌, ◌≤◌, Bool, true, false, cond, List, [], length, map, replicate, Option, Some, None, refl, sym, ap, ◌∙◌, ◌⊎◌, inl, inr, subst, arith}
use Rattle.std.specs.Prelude.{IsSome, slice_index, slice_index_or, unwrap_or}
use Rattle.std.specs.FinMap as finite
use Rattle.std.proofs.lemmas.Bool.{cases_eq, cases_lt}
use Rattle.std.proofs.lemmas.List.{get_or_past, get_or-map, length-map, length-replicate}
use Rattle.fault_entry.specs.vnode_files.Files.{FilesSeen, vnode_at, block_count}
use Rattle.fault_entry.specs.vnode_files.Layout.{HaveOwnBlocks, pages_kept, disk_of_file, block_of_page}
use Rattle.fault_entry.specs.vnode_files.Vnode.{is_blank}
use Rattle.fault_entry.proofs.vnode_files.LayoutLaws.{file_layout_law}
use Rattle.fault_entry.specs.vm_world.FramesFit.{FilesFit}
use Rattle.fault_entry.specs.vm_world.Marks.{MarksSeen, HasRow, mark_row, unused_row, page_row, opening_row, AreOpeningMarks}
use Rattle.disk_marks.specs.declared.marks.MarkRow.{MarkRow}
use Rattle.disk_marks.specs.declared.marks.Pushing.{Pushing}
use Rattle.disk_marks.specs.Changes.{marks_raised, row_raised}
use Rattle.disk_marks.proofs.Rows.{row-same, row-other, row-there}
use Rattle.vm_core.specs.Marks.{AreMarkedTo, ComesBefore, IsTakenBefore}
use Rattle.vm_core.proofs.Starts.{at-replicate}

-- BEFORE THE FIRST PAGE every row is unused.
module _ (files : FilesSeen) (sizes : List ℕ) (seats : ℕ) (many : length sizes ≡ 8) (are : (disk : ℕ) → disk < 8 → slice_index sizes disk ≡ block_count files.disks disk)
    (numbers : (disk blocks : ℕ) → finite.get files.disks disk ≡ Some blocks → disk < 8) where
  abbrev none_marked : MarksSeen
  none_marked = record { rows = map (λ (count : ℕ). replicate count unused_row) sizes; pushes = replicate seats None }

  rows-at : (disk : ℕ) → disk < 8 → slice_index_or none_marked.rows disk [] ≡ replicate (block_count files.disks disk) unused_row
  rows-at disk lt =
      get_or-map (λ (count : ℕ). replicate count unused_row) sizes disk 0 [] (omega (arith, lt, many)) ∙ ap (λ (count : ℕ). replicate count unused_row) (are disk lt)

  unused-there : (disk block : ℕ) → mark_row none_marked disk block ≡ unused_row
  unused-there disk block = elim (cases_lt disk 8) [
    | inl lt ↦ ap (λ (rows : List MarkRow). slice_index_or rows block unused_row) (rows-at disk lt) ∙ at-replicate (block_count files.disks disk) block unused_row
    | inr past ↦
        let count : length none_marked.rows ≡ length sizes = length-map sizes (λ (count : ℕ). replicate count unused_row) in
        ap (λ (rows : List MarkRow). slice_index_or rows block unused_row) (get_or_past none_marked.rows disk [] (omega (arith, past, count, many)))
  ]

  pub none-marked : (m : MarksSeen) → m ≡ none_marked → AreMarkedTo files seats m 0 0
  none-marked m is = subst (λ (x : MarksSeen). AreMarkedTo files seats x 0 0) (sym is) (record {
    there = λ disk blocks block at lt.
        let low = numbers disk blocks at in
        let count : length none_marked.rows ≡ length sizes = length-map sizes (λ (count : ℕ). replicate count unused_row) in
        let size : length (slice_index_or none_marked.rows disk []) ≡ blocks = ap (λ (rows : List MarkRow). length rows) (rows-at disk low) ∙ length-replicate (block_count files.disks disk) unused_row ∙ ap (λ (o : Option ℕ). unwrap_or o 0) at in
        (omega (arith, low, count, many), omega (arith, lt, size));
    pages = λ f p _ _ before. absurd (elim before [ inl lt ↦ omega (arith, lt) | inr h ↦ (let lt = h.1 in omega (arith, lt)) ]);
    rest = λ disk block _. unused-there disk block;
    pushes = refl;
  })

-- a page before the next one is before this one, or it is this one
before-next : (file page f p : ℕ) → ComesBefore file (page + 1) f p → ComesBefore file page f p ⊎ ((f ≡ file) × (p ≡ page))
before-next file page f p (inl lt) = inl (inl lt)
before-next file page f p (inr h) = elim (cases_eq p page) [
  | inl same ↦ inr (h.0, same)
  | inr ne ↦ inl (inr (h.0, let lt = h.1 in omega (arith, lt, ne)))
]

before-more : (file page f p : ℕ) → ComesBefore file page f p → ComesBefore file (page + 1) f p
before-more file page f p (inl lt) = inl lt
before-more file page f p (inr h) = inr (h.0, let lt = h.1 in omega (arith, lt))

not-itself : (file page f p : ℕ) → ComesBefore file page f p → f ≡ file → p ≡ page → ⊥
not-itself file page f p (inl lt) file_is page_is = omega (arith, lt, file_is)
not-itself file page f p (inr h) file_is page_is = let lt = h.1 in omega (arith, lt, page_is)

-- ONE PAGE MORE.
module _ (files : FilesSeen) (fits : FilesFit files) (seats : ℕ) (m : MarksSeen) (file page : ℕ) (within : file < length files.files) (below : page < pages_kept files file) (marked : AreMarkedTo files seats m file page) where
  abbrev d : ℕ
  d = disk_of_file files file

  abbrev b : ℕ
  b = block_of_page files file page

  own : HaveOwnBlocks files
  own = file_layout_law.own files fits.apart

  -- no page before it has its block
  untaken : ¬ IsTakenBefore files file page d b
  untaken taken =
      let one = own taken.0 file taken.1 page taken.2 within taken.5 taken.3 below taken.6 in
      not-itself file page taken.0 taken.1 taken.4 one.0 one.1

  unused : mark_row m d b ≡ unused_row
  unused = marked.rest d b untaken

  has : HasRow m d b
  has = by_disk (finite.get files.disks d) refl (fits.set file within)
    where
      by_disk : (o : Option ℕ) → finite.get files.disks d ≡ o → IsSome o → HasRow m d b
      by_disk None e some = absurd (let z : false ≡ true = some in cc)
      by_disk (Some blocks) e some =
          let on = file_layout_law.on_disks files fits.lie file page within below in
          marked.there d blocks b e (subst (λ (n : ℕ). b < n) (ap (λ (o : Option ℕ). unwrap_or o 0) e) on.1)

  not-more : (disk block : ℕ) → ¬ IsTakenBefore files file (page + 1) disk block → ¬ IsTakenBefore files file page disk block
  not-more disk block none t = none (t.0, t.1, t.2, t.3, before-more file page t.0 t.1 t.4, t.5, t.6)

  pub blank-marked : is_blank (vnode_at files file) page ≡ true → AreMarkedTo files seats m file (page + 1)
  blank-marked blank = record {
    there = marked.there;
    pages = λ f p lt low before. elim (before-next file page f p before) [
      | inl was ↦ marked.pages f p lt low was
      | inr same ↦
          subst (λ (k : ℕ). page_row files m k p ≡ opening_row (is_blank (vnode_at files k) p)) (sym same.0)
          (subst (λ (k : ℕ). page_row files m file k ≡ opening_row (is_blank (vnode_at files file) k)) (sym same.1) (unused ∙ sym (ap opening_row blank)))
    ];
    rest = λ disk block none. marked.rest disk block (not-more disk block none);
    pushes = marked.pushes;
  }

  abbrev after : MarksSeen
  after = marks_raised m d b 0

  now-held : mark_row after d b ≡ opening_row false
  now-held = row-same m d b (row_raised 0 (mark_row m d b)) has ∙ ap (row_raised 0) unused

  others : (disk block : ℕ) → ((disk ≡ d) → (block ≡ b) → ⊥) → mark_row after disk block ≡ mark_row m disk block
  others disk block far = row-other m d b disk block (row_raised 0 (mark_row m d b)) has far

  held-marked : is_blank (vnode_at files file) page ≡ false → AreMarkedTo files seats after file (page + 1)
  held-marked held = record {
    there = λ disk blocks block at lt. row-there m d b disk block (row_raised 0 (mark_row m d b)) (marked.there disk blocks block at lt);
    pages = λ f p lt low before. elim (before-next file page f p before) [
      | inl was ↦
          others (disk_of_file files f) (block_of_page files f p) (λ disk block. let one = own f file p page lt within disk low below block in not-itself file page f p was one.0 one.1)
          ∙ marked.pages f p lt low was
      | inr same ↦
          subst (λ (k : ℕ). page_row files after k p ≡ opening_row (is_blank (vnode_at files k) p)) (sym same.0)
          (subst (λ (k : ℕ). page_row files after file k ≡ opening_row (is_blank (vnode_at files file) k)) (sym same.1) (now-held ∙ sym (ap opening_row held)))
    ];
    rest = λ disk block none.
        others disk block (λ on at. none (file, page, within, below, inr (refl, omega arith), sym on, sym at))
        ∙ marked.rest disk block (not-more disk block none);
    pushes = marked.pushes;
  }

  pub page-marked : (n : MarksSeen) → is_blank (vnode_at files file) page ≡ false → n ≡ after → AreMarkedTo files seats n file (page + 1)
  page-marked n held is = subst (λ (x : MarksSeen). AreMarkedTo files seats x file (page + 1)) (sym is) (held-marked held)

-- ALL PAGES OF A FILE: those of the next one come.
pub file-marked : (files : FilesSeen) (seats : ℕ) (m : MarksSeen) (file : ℕ) → AreMarkedTo files seats m file (pages_kept files file) → AreMarkedTo files seats m (file + 1) 0
file-marked files seats m file marked = record {
  there = marked.there;
  pages = λ f p lt low before. marked.pages f p lt low (up f p low before);
  rest = λ disk block none. marked.rest disk block (λ t. none (t.0, t.1, t.2, t.3, down t.0 t.1 t.4, t.5, t.6));
  pushes = marked.pushes;
}
  where
    up : (f p : ℕ) → p < pages_kept files f → ComesBefore (file + 1) 0 f p → ComesBefore file (pages_kept files file) f p
    up f p low (inl lt) = elim (cases_eq f file) [
      | inl same ↦ inr (same, subst (λ (k : ℕ). p < pages_kept files k) same low)
      | inr ne ↦ inl (omega (arith, lt, ne))
    ]
    up f p low (inr h) = absurd (let lt = h.1 in omega (arith, lt))

    down : (f p : ℕ) → ComesBefore file (pages_kept files file) f p → ComesBefore (file + 1) 0 f p
    down f p (inl lt) = inl (omega (arith, lt))
    down f p (inr h) = inl (let same = h.0 in omega (arith, same))

-- ALL FILES.
pub all-marked : (files : FilesSeen) (seats : ℕ) (m : MarksSeen) → AreMarkedTo files seats m (length files.files) 0 → AreOpeningMarks files seats m
all-marked files seats m marked = record {
  there = marked.there;
  pages = λ f p lt low. marked.pages f p lt low (inl lt);
  free = λ disk block none. marked.rest disk block (λ t. none t.0 t.1 t.2 t.3 t.5 t.6);
  pushes = marked.pushes;
}
