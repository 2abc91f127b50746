-- A FILE GETS ANOTHER END, and the store stays: memory and the notes fit, and the file is longer or shorter in flat memory.
use Rattle.seg_ops.proofs.Fills.{clip-zeros}
use Rattle.std.proofs.Common.{◌≡◌, ◌≢◌, ℕ, ◌+◌, ◌-◌, ◌*◌, ◌<◌, ◌≤◌, ◌==◌, min, Bool, true, false, cond, List, [], ◌∷◌, ◌++◌, length, map, Option, Some, None, refl, sym, ap, ◌∙◌, ◌⊎◌, inl, inr, subst, arith, zero, suc, slice_index_or}
use Rattle.std.specs.Prelude.{IsTrue, IsFalse, ◌↔◌, option_map, slice_get, take, nat_lt, not, unwrap_or, replicate}
use Rattle.std.specs.FinMap as finite
use Rattle.std.specs.Ordering.{nat_cmp}
use Rattle.std.proofs.lemmas.Bool.{cases_eq, lt-ltb, ltb-true, le-ltb, cases_lt}
use Rattle.std.proofs.lemmas.List.{length-append, length-replicate, take-append-le, take-take}
use Rattle.std.proofs.lemmas.List.Elements.{All-append, All-replicate}
use Rattle.std.proofs.lemmas.Option.{slice_get-map, slice_get_past as past-list}
use Rattle.seg_ops.specs.core_arena.Bytes.{bytes_at, zeros}
use Rattle.seg_ops.specs.page_hash.Names.{name_at, find}
use Rattle.seg_ops.specs.page_hash.declared.PageName.{PageName}
use Rattle.seg_ops.proofs.page_hash.NameLaws.{find-at, find-none}
use Rattle.seg_ops.specs.page_lock.Rows.{row_at}
use Rattle.seg_ops.specs.page_store.Bays.{BaySeen, missing, out, bay_at, block_of}
use Rattle.seg_ops.specs.page_store.Bytes.{clip}
use Rattle.seg_ops.specs.page_store.Notes.{Note, Notes}
use Rattle.seg_ops.specs.page_store.Seen.{StoreSeen, IsListedFrame, own_frame, residence}
use Rattle.seg_ops.specs.page_store.StoreFits.{StoreFits}
use Rattle.seg_ops.specs.page_store.TableLaws.{MayReplaceTable}
use Rattle.seg_ops.specs.page_store.Transfers.{is_rewritten_in}
use Rattle.seg_ops.specs.page_store.Value.{value_in, backing_value, tells, content_of}
use Rattle.seg_ops.specs.page_store.declared.place.Place.{Place}
use Rattle.seg_ops.specs.page_store.declared.residence.Residence.TheVariants.{Home}
use Rattle.seg_ops.proofs.page_store.LayoutLemmas.{layout_law}
use Rattle.seg_ops.proofs.page_store.QueryLemmas.{home-is, value-home}
use Rattle.seg_ops.proofs.page_store.TableLemmas.{table_law}
use Rattle.seg_ops.specs.vnode_files.declared.extent.Extent.{Extent}
use Rattle.seg_ops.specs.vnode_files.Files.{FilesSeen, vnode_at}
use Rattle.seg_ops.specs.vnode_files.Grow.{page_count}
use Rattle.seg_ops.specs.vnode_files.Vnode.{VnodeSeen, is_blank, block_at}
use Rattle.seg_ops.specs.flat_model.Flat.{File, IsFile}
use Rattle.seg_ops.specs.flat_model.Parts.{shorter_file, longer_file, file_of_length, with_extents_of}
use Rattle.seg_ops.specs.flat_model.Shapes.{blank_file}
use Rattle.seg_ops.specs.flat_model.Words.{Page, pages_in, zero_page, IsPage}
use Rattle.seg_ops.specs.flat_model.LineLaws.{page_front}
use Rattle.seg_ops.proofs.flat_model.Grown.{grown_pages_law, slice_get-append_left as got-left, slice_get-append_right as got-right}
use Rattle.seg_ops.proofs.flat_model.WellFormed.{IsFile-file_of_length, IsPage-zero_page}
use Rattle.seg_ops.specs.vm_world.CallSteps.{KeepsMachine}
use Rattle.seg_ops.specs.vm_world.CountsFit.{SegmentsFit}
use Rattle.seg_ops.specs.vm_world.FileSteps.{file_seen, ChangesFile}
use Rattle.seg_ops.specs.vm_world.FlatMemory.{Memory, pages_from}
use Rattle.seg_ops.specs.vm_world.FramesFit.{DisksFit, HasSize}
use Rattle.seg_ops.specs.vm_world.MemoryFits.{MemoryFits}
use Rattle.seg_ops.specs.vm_world.NotesFit.{NotesFit, MayWriteGone}
use Rattle.seg_ops.specs.vm_world.Pages.{page_value, file_contents}
use Rattle.seg_ops.specs.vm_world.State.{FileMode, mode_of}
use Rattle.seg_ops.specs.vm_world.World.{World, file_blocks, file_name, is_unpushed, is_page_name, page_exists, world_table, AllTell}
use Rattle.seg_ops.proofs.vm_world.Clips.{clip-whole, front-clip}
use Rattle.seg_ops.proofs.vm_world.FilePages.{length-pages_from, page-in, page-past}
use Rattle.seg_ops.proofs.vm_world.FileSteps.{same-lists}
use Rattle.seg_ops.proofs.vm_world.FrameRule.{exists-page}
use Rattle.seg_ops.proofs.vm_world.PageNames.{not-slot, index-of, file-there, file-apart, file-page, page-cases, below-kept}
use Rattle.seg_ops.proofs.vm_world.StoredPages.{zeros-are}
use Rattle.seg_ops.proofs.StillSteps.{value-is}
use Rattle.seg_map.proofs.Alike.{same-count, shorter-count}
use Rattle.seg_map.specs.Ends.{valid_in, SetsEnd, IsReadyPage, MaySetEnd, lengthened, with_file_records, EndsLaw}
use Rattle.seg_map.proofs.EndTables.{placed-page, first-page-of, files-end, table-beside, place-was, place-now, name-grown, exists-end, exists-now, exists-was}

-- a page that is cut at more bytes first
clip-less : (a b : ℕ) (bytes : List ℕ) → a ≤ b → b ≤ 4096 → length (clip b bytes) ≡ 4096 → clip a (clip b bytes) ≡ clip a bytes
clip-less a b bytes le most whole =
    let n : length (take b bytes) ≡ b = let x = length-append (take b bytes) (replicate (4096 - b) 0) in let y = length-replicate {A = ℕ} (4096 - b) 0 in omega (arith, x, y, whole, most) in
    ap (λ (l : List ℕ). l ++ replicate (4096 - a) 0) (take-append-le a (take b bytes) (replicate (4096 - b) 0) (omega (arith, n, le)) ∙ take-take a b bytes le)

pub got-replicate : {A : Type 0} (n : ℕ) (x : A) (i : ℕ) → i < n → slice_get (replicate n x) i ≡ Some x
got-replicate zero x i lt = absurd (omega (arith, lt))
got-replicate (suc n) x zero lt = refl
got-replicate (suc n) x (suc i) lt = got-replicate n x i (omega (arith, lt))

none-some : {A : Type 0} (o : Option A) (a : A) → o ≡ None → o ≡ Some a → ⊥
none-some {A} o a e d = let z : ◌≡◌ {A = Option A} None (Some a) = sym e ∙ d in cc

module _ (m : Memory) (files : FilesSeen) (f n : ℕ) (extents : List Extent) (fits : MemoryFits m) (k : SetsEnd m.world.files files f n extents) (may : MaySetEnd m.world f n) where
  abbrev w : World
  w = m.world

  abbrev v : World
  v = record m.world { files = files }

  abbrev len : ℕ
  len = (vnode_at w.files f).info.length

  abbrev own : List Extent
  own = (vnode_at w.files f).info.extents

  abbrev s : StoreSeen
  s = w.store

  far' : f ≢ 64
  far' = file-apart w.files f fits.files k.there

  kept-old : (i : ℕ) → i < pages_in len → i < page_count own
  kept-old i lt = below-kept (vnode_at w.files f) i (fits.files.each f k.there) lt

  kept-new : (i : ℕ) → i < pages_in n → i < page_count extents
  kept-new i lt = subst (λ (es : List Extent). i < page_count es) k.extents_are (below-kept (vnode_at files f) i k.sound (subst (λ (l : ℕ). i < pages_in l) (sym k.length_is) lt))

  -- a page that stays, with the same valid bytes, has its place
  place-same : (i : ℕ) → i < pages_in len → i < pages_in n → valid_in n i ≡ valid_in len i → world_table v (file_name f i) ≡ world_table w (file_name f i)
  place-same i lt below same =
      place-now w.files files w.anon f n extents fits.files k i (kept-new i below)
      ∙ (λ j. record { disk = (vnode_at w.files f).info.disk; block = k.blocks i (kept-old i lt) j; valid = same j; blank = k.old_blanks i lt below j })
      ∙ sym (place-was w.files files w.anon f n extents fits.files k i (kept-old i lt))

  -- a name that a frame holds, of this file or another
  held-page : (frame : ℕ) (name : PageName) → name_at s.names frame ≡ Some name → name.object ≡ f → (name ≡ file_name f name.page) × (name.page < pages_in len) × (name.page < pages_in n)
  held-page frame name held e =
      let is : name ≡ file_name f name.page = λ j. record { object = e j; page = name.page } in
      let exists : nat_lt name.page (pages_in len) ≡ true = sym (exists-was w.files files w.anon f n extents fits.files k name.page) ∙ ap (page_exists w.files w.anon) (sym is) ∙ fits.frames.exist frame name held in
      (is, ltb-true name.page (pages_in len) exists, may.below frame name held e)

  -- the place of a held name: it is as it was, or the name is that of the last page, which is ready
  held-place : (frame : ℕ) (name : PageName) → name_at s.names frame ≡ Some name → (world_table v name ≡ world_table w name) ⊎ ((r : IsReadyPage w name) × (r.frame ≡ frame))
  held-place frame name held = elim (cases_eq name.object f) [
    | inr ne ↦ inl (table-beside w.files files w.anon f n extents fits.files k name ne)
    | inl e ↦
        let p = held-page frame name held e in
        elim (cases_eq (valid_in n name.page) (valid_in len name.page)) [
          | inl same ↦ inl (ap (world_table v) p.0 ∙ place-same name.page p.1 p.2 same ∙ ap (world_table w) (sym p.0))
          | inr differs ↦ elim (may.last name.page p.1 p.2 differs) [
            | inl r ↦ inr (subst (λ (x : PageName). (q : IsReadyPage w x) × (q.frame ≡ frame)) (sym p.0) (r, fits.frames.sound.distinct r.frame frame (file_name f name.page) (held-home r.frame (file_name f name.page) r.home) (held ∙ ap (λ (x : PageName). Some x) p.0)))
            | inr none ↦ absurd (find-none s.names (file_name f name.page) frame none.0 (held ∙ ap (λ (x : PageName). Some x) p.0))
          ]
        ]
  ]
    where
      held-home : (g : ℕ) (x : PageName) → residence s x ≡ Home g → name_at s.names g ≡ Some x
      held-home g x home = find-at s.names x g (home-is s x g home).found

  -- a held page isn't blank where it wasn't
  held-blank : (frame : ℕ) (name : PageName) → name_at s.names frame ≡ Some name → (world_table v name).blank ≡ (world_table w name).blank
  held-blank frame name held = elim (cases_eq name.object f) [
    | inr ne ↦ ap (λ (p : Place). p.blank) (table-beside w.files files w.anon f n extents fits.files k name ne)
    | inl e ↦
        let p = held-page frame name held e in
        ap (λ (x : PageName). (world_table v x).blank) p.0
        ∙ ap (λ (x : Place). x.blank) (place-now w.files files w.anon f n extents fits.files k name.page (kept-new name.page p.2))
        ∙ k.old_blanks name.page p.1 p.2
        ∙ sym (ap (λ (x : Place). x.blank) (place-was w.files files w.anon f n extents fits.files k name.page (kept-old name.page p.1)))
        ∙ ap (λ (x : PageName). (world_table w x).blank) (sym p.0)
  ]

  -- where a page lives stays, of a page's name
  spot-same : (name : PageName) → IsTrue (is_page_name w.files w.anon name) → ((world_table v name).disk ≡ (world_table w name).disk) × ((world_table v name).block ≡ (world_table w name).block)
  spot-same name is = elim (cases_eq name.object f) [
    | inr ne ↦ let e = table-beside w.files files w.anon f n extents fits.files k name ne in (ap (λ (p : Place). p.disk) e, ap (λ (p : Place). p.block) e)
    | inl e ↦ elim (page-cases w.files w.anon name is) [
      | inl slot ↦ absurd (far' (sym e ∙ slot.0))
      | inr p ↦
          let at : name ≡ file_name f name.page = λ j. record { object = e j; page = name.page } in
          let kept : name.page < page_count own = subst (λ (g : ℕ). name.page < page_count (vnode_at w.files g).info.extents) e p.2 in
          let more = k.more in
          let now = ap (world_table v) at ∙ place-now w.files files w.anon f n extents fits.files k name.page (omega (arith, kept, more)) in
          let was = ap (world_table w) at ∙ place-was w.files files w.anon f n extents fits.files k name.page kept in
          (ap (λ (x : Place). x.disk) now ∙ sym (ap (λ (x : Place). x.disk) was), ap (λ (x : Place). x.block) now ∙ k.blocks name.page kept ∙ sym (ap (λ (x : Place). x.block) was))
    ]
  ]

  -- the page of a note is one
  note-page : (notes : Notes) (seat : ℕ) (note : Note) → StoreFits s notes (world_table w) → notes seat ≡ Some note → IsTrue (is_page_name w.files w.anon note.name)
  note-page notes seat note st is =
      let agrees = st.each_note seat note is in
      placed-page w.files w.anon note.name fits.files (let d = agrees.disk in let low = out-below note.number s.bays seat agrees.out.bay in let nine = fits.frames.sound.bays in omega (arith, d, low, nine))
    where
      out-below : (number : ℕ) (bays : List BaySeen) (seat : ℕ) → bay_at bays number ≡ out seat → number < length bays
      out-below number [] seat e = absurd (let z : missing ≡ out seat = e in cc)
      out-below zero (b ∷ bays) seat e = omega arith
      out-below (suc number) (b ∷ bays) seat e = let lt = out-below number bays seat e in omega (arith, lt)

  -- a page of this file that isn't below the old end is held by no frame
  unheld : (i : ℕ) → pages_in len ≤ i → find s.names (file_name f i) ≡ None
  unheld i le = by_find (find s.names (file_name f i)) refl
    where
      by_find : (o : Option ℕ) → find s.names (file_name f i) ≡ o → o ≡ None
      by_find None e = refl
      by_find (Some frame) e = absurd (let p = held-page frame (file_name f i) (find-at s.names (file_name f i) frame e) refl in let lt = p.1 in omega (arith, lt, le))

  away-ready : (frame : ℕ) (name : PageName) (r : IsReadyPage w name) → r.frame ≡ frame → bytes_at s.frames frame ≡ None → ⊥
  away-ready frame name r e away = none-some (bytes_at s.frames r.frame) (home-is s name r.frame r.home).bytes (ap (bytes_at s.frames) e ∙ away) (home-is s name r.frame r.home).there

  may-replace : (notes : Notes) → StoreFits s notes (world_table w) → MayReplaceTable s notes (world_table v)
  may-replace notes st = record {
    apart = (layout_law.table (map file_blocks files.files) (length w.anon.counts) (is_unpushed files w.anon)).apart (files-end w.files files w.anon f n extents fits.files k).disjoint;
    each_note = λ seat note is.
        let agrees = st.each_note seat note is in
        let spot = spot-same note.name (note-page notes seat note st is) in
        record {
          disk = spot.0 ∙ agrees.disk;
          block = spot.1 ∙ agrees.block;
          read = λ reads there.
              let r = agrees.read reads there in
              let held = agrees.out.page there in
              elim (held-place (own_frame s note.frame) note.name held) [
                | inl same ↦ (ap (λ (p : Place). p.valid) same ∙ r.0, ap (λ (p : Place). p.blank) same ∙ r.1)
                | inr ready ↦ absurd (away-ready note.frame note.name ready.0 (ready.1 ∙ ap (λ (o : Option ℕ). unwrap_or o note.frame) (agrees.out.read reads)) agrees.away)
              ];
        };
    cached = λ frame name cached held. elim (held-place frame name held) [
      | inl same ↦ table_law.clean s notes (world_table w) (world_table v) frame name same (st.each_cached frame name cached held)
      | inr ready ↦ absurd (ready.0.unlisted (subst (λ (j : ℕ). IsListedFrame s j) (sym ready.1) (inr cached)))
    ];
  }

  end-notes : (notes : Notes) → NotesFit w notes → NotesFit v notes
  end-notes notes nf = record {
    stored = table_law.fits s notes (world_table w) (world_table v) nf.stored (may-replace notes nf.stored);
    clean = λ frame name held there. elim (held-place frame name held) [
      | inr ready ↦ inl (inl (ap (λ (j : ℕ). (row_at s.rows j).modified) (sym ready.1) ∙ ready.0.modified))
      | inl same ↦ elim (nf.clean frame name held there) [
        | inl x ↦ inl x
        | inr c ↦ inr (table_law.clean s notes (world_table w) (world_table v) frame name same c)
      ]
    ];
    pushes = λ seat note is writes there.
        let p = nf.pushes seat note is writes there in
        let held = (nf.stored.each_note seat note is).out.page (not-gone (row_at s.rows note.frame).gone there) in
        record {
          pushed = held-blank (own_frame s note.frame) note.name held ∙ p.pushed;
          same = elim p.same [
            | inl r ↦ inl r
            | inr sent ↦ elim (held-place (own_frame s note.frame) note.name held) [
              | inl same ↦ inr (record { valid = ap (λ (x : Place). x.valid) same ∙ sent.valid; bytes = sent.bytes })
              | inr ready ↦ inl (inl (by_source note.frame note.name ready.0 (row_at s.rows note.frame).source refl ready.1 (nf.stored.each_note seat note is).away))
            ]
          ];
        };
    gone = λ seat note is writes gone. end-gone note.name (note-page notes seat note nf.stored is) (nf.gone seat note is writes gone);
    sizes = λ seat note is. subst (λ (d : finite.FinMap nat_cmp ℕ). HasSize d (length w.anon.counts) note.number note.disk.size) (sym k.disks) (nf.sizes seat note is);
  }
    where
      not-gone : (b : Bool) → ¬ (b ≡ true) → b ≡ false
      not-gone true h = absurd (h refl)
      not-gone false h = refl

      by_source : (frame : ℕ) (name : PageName) (r : IsReadyPage w name) (o : Option ℕ) → (row_at s.rows frame).source ≡ o → r.frame ≡ unwrap_or o frame → bytes_at s.frames frame ≡ None → is_rewritten_in o s ≡ true
      by_source frame name r None e at away = absurd (away-ready frame name r at away)
      by_source frame name r (Some j) e at away = ap (λ (x : ℕ). (row_at s.rows x).rewritten) (sym at) ∙ r.rewritten

      end-gone : (name : PageName) → IsTrue (is_page_name w.files w.anon name) → MayWriteGone s w.files w.anon name → MayWriteGone s files w.anon name
      end-gone name is g = elim (cases_eq name.object f) [
        | inr ne ↦ elim g [
          | inl a ↦ inl (ap (λ (x : VnodeSeen). cond (name.object == 64) (not (slice_index_or w.anon.swapped name.page false)) (is_blank x name.page)) (k.others name.object ne) ∙ a.0, a.1)
          | inr b ↦ elim b [ inl none ↦ inr (inl (exists-end w.files files w.anon f n extents fits.files k name ne ∙ none)) | inr anew ↦ inr (inr anew) ]
        ]
        | inl e ↦ elim g [
          | inr b ↦ elim b [
            | inr anew ↦ inr (inr anew)
            | inl none ↦ past name e (elim (cases_lt name.page (pages_in len)) [ inr le ↦ le | inl lt ↦ absurd (let z : true ≡ false = sym (lt-ltb name.page (pages_in len) lt) ∙ sym (exists-was w.files files w.anon f n extents fits.files k name.page) ∙ ap (page_exists w.files w.anon) (λ j. record { object = sym e j; page = name.page }) ∙ none in cc) ])
          ]
          | inl a ↦ elim (cases_lt name.page (pages_in len)) [
            | inr le ↦ past name e le
            | inl lt ↦ elim (cases_lt name.page (pages_in n)) [
              | inr over ↦ inr (inl (missing_now name e over))
              | inl below ↦ inl (blank_now name e (k.old_blanks name.page lt below ∙ blank_was name e a.0), a.1)
            ]
          ]
        ]
      ]
        where
          missing_now : (name : PageName) → name.object ≡ f → pages_in n ≤ name.page → IsFalse (page_exists files w.anon name)
          missing_now name e over = ap (page_exists files w.anon) (λ j. record { object = e j; page = name.page }) ∙ exists-now w.files files w.anon f n extents fits.files k name.page ∙ le-ltb name.page (pages_in n) over

          blank_now : (name : PageName) → name.object ≡ f → is_blank (vnode_at files f) name.page ≡ true → IsTrue (is_unpushed files w.anon name)
          blank_now name e blank =
              ap (λ (g : ℕ). cond (g == 64) (not (slice_index_or w.anon.swapped name.page false)) (is_blank (vnode_at files g) name.page)) e
              ∙ ap (λ (b : Bool). cond b (not (slice_index_or w.anon.swapped name.page false)) (is_blank (vnode_at files f) name.page)) (not-slot f far') ∙ blank

          blank_was : (name : PageName) → name.object ≡ f → IsTrue (is_unpushed w.files w.anon name) → is_blank (vnode_at w.files f) name.page ≡ true
          blank_was name e is =
              sym (ap (λ (g : ℕ). cond (g == 64) (not (slice_index_or w.anon.swapped name.page false)) (is_blank (vnode_at w.files g) name.page)) e
              ∙ ap (λ (b : Bool). cond b (not (slice_index_or w.anon.swapped name.page false)) (is_blank (vnode_at w.files f) name.page)) (not-slot f far')) ∙ is

          past : (name : PageName) → name.object ≡ f → pages_in len ≤ name.page → MayWriteGone s files w.anon name
          past name e le = elim (cases_lt name.page (pages_in n)) [
            | inr over ↦ inr (inl (missing_now name e over))
            | inl below ↦ inl (blank_now name e (k.new_blanks name.page le below), λ slot. far' (sym e ∙ slot))
          ]

  end-memory : MemoryFits (record m { world = v })
  end-memory = record {
    frames = record {
      sound = fits.frames.sound;
      unkept = fits.frames.unkept;
      unmodified = fits.frames.unmodified;
      exist = λ frame name held. elim (cases_eq name.object f) [
        | inr ne ↦ exists-end w.files files w.anon f n extents fits.files k name ne ∙ fits.frames.exist frame name held
        | inl e ↦ ap (page_exists files w.anon) (λ j. record { object = e j; page = name.page }) ∙ exists-now w.files files w.anon f n extents fits.files k name.page ∙ lt-ltb name.page (pages_in n) (may.below frame name held e)
      ];
    };
    files = files-end w.files files w.anon f n extents fits.files k;
    disks = subst (λ (d : finite.FinMap nat_cmp ℕ). DisksFit s.bays d (length w.anon.counts)) (sym k.disks) fits.disks;
    pool = fits.pool;
    translations = fits.translations;
    unpushed = fits.unpushed;
    counts = fits.counts;
    segments = subst (λ (c : ℕ). SegmentsFit c w.anon w.maps m.spaces) (sym k.count) fits.segments;
  }

  end-tells : (notes : Notes) → NotesFit w notes → AllTell w notes ↔ AllTell v notes
  end-tells notes nf = (
    (λ tell name is. by_object tell name is (cases_eq name.object f)),
    (λ tell name is. ap (λ (d : ℕ). tells s notes d) (sym (spot-same name is).0) ∙ tell name (name-grown w.files files w.anon f n extents fits.files k name is)),
  )
    where
      by_object : AllTell w notes → (name : PageName) → IsTrue (is_page_name files w.anon name) → (name.object ≡ f) ⊎ (name.object ≢ f) → IsTrue (tells s notes (world_table v name).disk)
      by_object tell name is (inr ne) =
          let old : IsTrue (is_page_name w.files w.anon name) = sym (ap (λ (x : VnodeSeen). cond (name.object == 64) (nat_lt name.page (length w.anon.counts)) (nat_lt name.page (page_count x.info.extents))) (k.others name.object ne)) ∙ is in
          ap (λ (p : Place). tells s notes p.disk) (table-beside w.files files w.anon f n extents fits.files k name ne) ∙ tell name old
      by_object tell name is (inl e) = elim (page-cases files w.anon name is) [
        | inl slot ↦ absurd (far' (sym e ∙ slot.0))
        | inr p ↦
            let at : name ≡ file_name f name.page = λ j. record { object = e j; page = name.page } in
            let kept : name.page < page_count extents = subst (λ (es : List Extent). name.page < page_count es) (ap (λ (g : ℕ). (vnode_at files g).info.extents) e ∙ k.extents_are) p.2 in
            let one = first-page-of w.files f fits.files k.there in
            ap (λ (x : PageName). tells s notes (world_table v x).disk) at
            ∙ ap (λ (x : Place). tells s notes x.disk) (place-now w.files files w.anon f n extents fits.files k name.page kept)
            ∙ sym (ap (λ (x : Place). tells s notes x.disk) (place-was w.files files w.anon f n extents fits.files k 0 one))
            ∙ tell (file_name f 0) (file-page w.files w.anon f 0 far' one)
      ]

  end-others : (notes : Notes) (name : PageName) → name.object ≢ f → IsTrue (page_exists w.files w.anon name) → page_value v notes name ≡ page_value w notes name
  end-others notes name ne exists =
      let is = exists-page w name fits.files exists in
      let now : IsTrue (is_page_name files w.anon name) = name-grown w.files files w.anon f n extents fits.files k name is in
      value-is v notes name now ∙ table_law.same s notes (world_table w) (world_table v) name (table-beside w.files files w.anon f n extents fits.files k name ne) ∙ sym (value-is w notes name is)

  -- THE PAGES of the file.
  abbrev now : Notes → ℕ → Page
  now notes i = page_value v notes (file_name f i)

  abbrev was : Notes → ℕ → Page
  was notes i = page_value w notes (file_name f i)

  seen-old : (notes : Notes) (i : ℕ) → file_contents (page_value w notes) f i ≡ was notes i
  seen-old notes i = ap (λ (b : Bool). cond b [] (was notes i)) (not-slot f far')

  seen-new : (notes : Notes) (i : ℕ) → file_contents (page_value v notes) f i ≡ now notes i
  seen-new notes i = ap (λ (b : Bool). cond b [] (now notes i)) (not-slot f far')

  -- a page that a file kept, by its value
  real-old : (i : ℕ) → i < pages_in len → IsTrue (is_page_name w.files w.anon (file_name f i))
  real-old i lt = file-page w.files w.anon f i far' (kept-old i lt)

  real-new : (i : ℕ) → i < pages_in n → IsTrue (is_page_name files w.anon (file_name f i))
  real-new i lt = file-page files w.anon f i far' (subst (λ (es : List Extent). i < page_count es) (sym k.extents_are) (kept-new i lt))

  -- a page that the file comes to have is zeros
  page-more : (notes : Notes) (i : ℕ) → pages_in len ≤ i → i < pages_in n → now notes i ≡ zero_page
  page-more notes i le below =
      value-is v notes (file_name f i) (real-new i below)
      ∙ ap (λ (o : Option ℕ). value_in o s notes (world_table v (file_name f i))) (unheld i le)
      ∙ ap (backing_value s notes) (place-now w.files files w.anon f n extents fits.files k i (kept-new i below))
      ∙ ap (λ (b : Bool). backing_value s notes (record { disk = (vnode_at w.files f).info.disk; block = block_at extents i; valid = valid_in n i; blank = b })) (k.new_blanks i le below)
      ∙ zeros-are

  abbrev stored : Notes → ℕ → ℕ → Bool → Page
  stored notes i valid blank = backing_value s notes (record { disk = (vnode_at w.files f).info.disk; block = block_at own i; valid = valid; blank = blank })

  -- a page that it had keeps its value, but for what is past a nearer end
  page-kept : (notes : Notes) (i : ℕ) → i < pages_in len → i < pages_in n → length (was notes i) ≡ 4096 → ((now notes i ≡ was notes i) × (n < len → clip (valid_in n i) (was notes i) ≡ was notes i)) ⊎ ((n < len) × (now notes i ≡ clip (valid_in n i) (was notes i)))
  page-kept notes i lt below whole = elim (cases_eq (valid_in n i) (valid_in len i)) [
    | inl same ↦ inl (
      value-is v notes (file_name f i) (real-new i below) ∙ table_law.same s notes (world_table w) (world_table v) (file_name f i) (place-same i lt below same) ∙ sym (value-is w notes (file_name f i) (real-old i lt)),
      λ less. let full : valid_in n i ≡ 4096 = omega (arith, same, less, below) in ap (λ (x : ℕ). clip x (was notes i)) full ∙ clip-whole (was notes i) whole,
    )
    | inr differs ↦ elim (may.last i lt below differs) [
      | inl r ↦
          let h = home-is s (file_name f i) r.frame r.home in
          let value_is : h.bytes ≡ was notes i = value-home s notes (world_table w) (file_name f i) r.frame h.bytes r.home h.there ∙ sym (value-is w notes (file_name f i) (real-old i lt)) in
          inl (
            value-is v notes (file_name f i) (real-new i below) ∙ table_law.home s notes (world_table w) (world_table v) (file_name f i) r.frame r.home ∙ sym (value-is w notes (file_name f i) (real-old i lt)),
            λ less. ap (clip (valid_in n i)) (sym value_is) ∙ may.tail i r.frame h.bytes less r.home h.there ∙ value_is,
          )
      | inr none ↦
          let new_is : now notes i ≡ stored notes i (valid_in n i) (is_blank (vnode_at w.files f) i) =
          value-is v notes (file_name f i) (real-new i below) ∙ ap (λ (o : Option ℕ). value_in o s notes (world_table v (file_name f i))) none.0
          ∙ ap (backing_value s notes) (place-now w.files files w.anon f n extents fits.files k i (kept-new i below) ∙ (λ j. record { disk = (vnode_at w.files f).info.disk; block = k.blocks i (kept-old i lt) j; valid = valid_in n i; blank = k.old_blanks i lt below j })) in
          let old_is : was notes i ≡ stored notes i (valid_in len i) (is_blank (vnode_at w.files f) i) =
          value-is w notes (file_name f i) (real-old i lt) ∙ ap (λ (o : Option ℕ). value_in o s notes (world_table w (file_name f i))) none.0
          ∙ ap (backing_value s notes) (place-was w.files files w.anon f n extents fits.files k i (kept-old i lt)) in
          by_blank notes i (is_blank (vnode_at w.files f) i) whole new_is old_is none.1
    ]
  ]
    where
      by_blank : (notes : Notes) (i : ℕ) (b : Bool) → length (was notes i) ≡ 4096 → now notes i ≡ stored notes i (valid_in n i) b → was notes i ≡ stored notes i (valid_in len i) b → (b ≡ true) ⊎ (n < len)
          → ((now notes i ≡ was notes i) × (n < len → clip (valid_in n i) (was notes i) ≡ was notes i)) ⊎ ((n < len) × (now notes i ≡ clip (valid_in n i) (was notes i)))
      by_blank notes i true whole new_is old_is why = inl (new_is ∙ sym old_is, λ less. ap (clip (valid_in n i)) old_is ∙ clip-zeros (valid_in n i) (omega arith) ∙ sym old_is)
      by_blank notes i false whole new_is old_is (inl blank) = absurd (let z : false ≡ true = blank in cc)
      by_blank notes i false whole new_is old_is (inr less) = inr (less, new_is ∙ sym (ap (clip (valid_in n i)) old_is ∙ clip-less (valid_in n i) (valid_in len i) (block_of (content_of s notes (vnode_at w.files f).info.disk) (block_at own i)) (let d = less in omega (arith, d)) (omega arith) (subst (λ (x : Page). length x ≡ 4096) old_is whole)))

  end-machine : KeepsMachine w v
  end-machine = record { core = refl; frames = refl; slots = refl; disks = k.disks; modes = modes-same; bays = refl }
    where
      modes-same : map mode_of files.files ≡ map mode_of w.files.files
      modes-same = same-lists (map mode_of files.files) (map mode_of w.files.files) (λ g. slice_get-map mode_of files.files g ∙ by_place g (cases_lt g (length w.files.files)) ∙ sym (slice_get-map mode_of w.files.files g))
        where
          mode-at : (g : ℕ) → mode_of (vnode_at files g) ≡ mode_of (vnode_at w.files g)
          mode-at g = elim (cases_eq g f) [ inl e ↦ ap (λ (x : ℕ). mode_of (vnode_at files x)) e ∙ k.mode ∙ sym (ap (λ (x : ℕ). mode_of (vnode_at w.files x)) e) | inr ne ↦ ap mode_of (k.others g ne) ]

          by_place : (g : ℕ) → (g < length w.files.files) ⊎ (length w.files.files ≤ g) → option_map mode_of (slice_get files.files g) ≡ option_map mode_of (slice_get w.files.files g)
          by_place g (inr le) = ap (option_map mode_of) (past-list files.files g (let c = k.count in omega (arith, le, c)) ∙ sym (past-list w.files.files g le))
          by_place g (inl lt) =
              ap (option_map mode_of) (file-there files g (subst (λ (c : ℕ). g < c) (sym k.count) lt)) ∙ ap (λ (x : FileMode). Some x) (mode-at g) ∙ sym (ap (option_map mode_of) (file-there w.files g lt))

  abbrev old-file : Notes → File
  old-file notes = file_seen w notes f

  old-at : (notes : Notes) (i : ℕ) → i < pages_in len → slice_get (old-file notes).pages i ≡ Some (was notes i)
  old-at notes i lt = let z : 0 + i ≡ i = omega arith in page-in (file_contents (page_value w notes) f) 0 (pages_in len) i lt ∙ ap (λ (j : ℕ). Some (file_contents (page_value w notes) f j)) z ∙ ap (λ (p : Page). Some p) (seen-old notes i)

  new-at : (notes : Notes) (i : ℕ) → i < pages_in n → slice_get (pages_from (file_contents (page_value v notes) f) 0 (pages_in n)) i ≡ Some (now notes i)
  new-at notes i lt = let z : 0 + i ≡ i = omega arith in page-in (file_contents (page_value v notes) f) 0 (pages_in n) i lt ∙ ap (λ (j : ℕ). Some (file_contents (page_value v notes) f j)) z ∙ ap (λ (p : Page). Some p) (seen-new notes i)

  whole-at : (notes : Notes) (i : ℕ) → IsFile (old-file notes) → i < pages_in len → length (was notes i) ≡ 4096
  whole-at notes i file lt =
      let p = file.pages i (was notes i) (let c = file.count in omega (arith, c, lt)) in
      subst (λ (x : Page). length x ≡ 4096) (index-of (old-file notes).pages i (was notes i) (was notes i) (old-at notes i lt)) p.whole

  new-file-is : (notes : Notes) → file_seen v notes f ≡ record (old-file notes) { len = n; extents = extents; pages = pages_from (file_contents (page_value v notes) f) 0 (pages_in n) }
  new-file-is notes =
      λ j. record {
        len = k.length_is j;
        disk = (k.mode j).disk;
        extents = k.extents_are j;
        writable = (k.mode j).writable;
        pages = pages_from (file_contents (page_value v notes) f) 0 (pages_in (k.length_is j));
      }

  -- LONGER.
  -- as many pages as the new length needs, whatever disks tell
  end-alike : (notes : Notes) (file : File) → blank_file file ≡ blank_file (old-file notes) → (ps : List Page) → length ps ≡ pages_in n → blank_file (record file { len = n; extents = extents; pages = ps }) ≡ blank_file (file_seen v notes f)
  end-alike notes file is ps count =
      let now = length-pages_from (file_contents (page_value v notes) f) 0 (pages_in n) in
      (λ i. record file { len = n; extents = extents; pages = replicate (count i) zero_page })
      ∙ ap (λ (x : File). record x { len = n; extents = extents; pages = replicate (pages_in n) zero_page }) is
      ∙ sym (ap blank_file (new-file-is notes) ∙ (λ i. record (old-file notes) { len = n; extents = extents; pages = replicate (now i) zero_page }))

  longer-pages : (notes : Notes) → len ≤ n → IsFile (old-file notes) → pages_from (file_contents (page_value v notes) f) 0 (pages_in n) ≡ (old-file notes).pages ++ replicate (pages_in n - length (old-file notes).pages) zero_page
  longer-pages notes le file = same-lists (pages_from (file_contents (page_value v notes) f) 0 (pages_in n)) ((old-file notes).pages ++ replicate (pages_in n - length (old-file notes).pages) zero_page) (λ i. by_place i (cases_lt i (pages_in len)))
    where
      count : length (old-file notes).pages ≡ pages_in len
      count = file.count

      by_more : (i : ℕ) → pages_in len ≤ i → (i < pages_in n) ⊎ (pages_in n ≤ i) → slice_get (pages_from (file_contents (page_value v notes) f) 0 (pages_in n)) i ≡ slice_get ((old-file notes).pages ++ replicate (pages_in n - length (old-file notes).pages) zero_page) i
      by_more i over (inl below) = new-at notes i below ∙ ap (λ (p : Page). Some p) (page-more notes i over below) ∙ sym (got-right (old-file notes).pages (replicate (pages_in n - length (old-file notes).pages) zero_page) i (omega (arith, count, over)) ∙ got-replicate (pages_in n - length (old-file notes).pages) zero_page (i - length (old-file notes).pages) (omega (arith, count, over, below)))
      by_more i over (inr past) = page-past (file_contents (page_value v notes) f) 0 (pages_in n) i past ∙ sym (past-list ((old-file notes).pages ++ replicate (pages_in n - length (old-file notes).pages) zero_page) i (let a = length-append (old-file notes).pages (replicate (pages_in n - length (old-file notes).pages) zero_page) in let b = length-replicate (pages_in n - length (old-file notes).pages) zero_page in omega (arith, a, b, count, past, over)))

      by_place : (i : ℕ) → (i < pages_in len) ⊎ (pages_in len ≤ i) → slice_get (pages_from (file_contents (page_value v notes) f) 0 (pages_in n)) i ≡ slice_get ((old-file notes).pages ++ replicate (pages_in n - length (old-file notes).pages) zero_page) i
      by_place i (inl lt) =
          let below : i < pages_in n = omega (arith, lt, le) in
          new-at notes i below ∙ ap (λ (p : Page). Some p) (kept i lt below) ∙ sym (got-left (old-file notes).pages (replicate (pages_in n - length (old-file notes).pages) zero_page) i (omega (arith, count, lt)) ∙ old-at notes i lt)
        where
          kept : (i : ℕ) → i < pages_in len → i < pages_in n → now notes i ≡ was notes i
          kept i lt below = elim (page-kept notes i lt below (whole-at notes i file lt)) [ inl same ↦ same.0 | inr cut ↦ absurd (let less = cut.0 in omega (arith, less, le)) ]
      by_place i (inr over) = by_more i over (cases_lt i (pages_in n))

  pub end-longer : len ≤ n → ChangesFile f m (with_file_records m files) (lengthened extents n)
  end-longer le = record {
    machine = end-machine;
    spaces = refl;
    maps = refl;
    counts = refl;
    infos = λ g ne. ap (λ (x : VnodeSeen). x.info) (k.others g ne);
    memory = end-memory;
    notes = end-notes;
    tells = end-tells;
    others = λ notes name nf tell ne exists. end-others notes name ne exists;
    file = λ notes nf tell file. (
      new-file-is notes ∙ ap (λ (ps : List Page). record (old-file notes) { len = n; extents = extents; pages = ps }) (longer-pages notes le file),
      record {
        count = let a = length-append (old-file notes).pages (replicate (pages_in n - length (old-file notes).pages) zero_page) in let b = length-replicate (pages_in n - length (old-file notes).pages) zero_page in let c : length (old-file notes).pages ≡ pages_in len = file.count in omega (arith, a, b, c, le);
        pages = All-append IsPage (old-file notes).pages (replicate (pages_in n - length (old-file notes).pages) zero_page) file.pages (All-replicate IsPage (pages_in n - length (old-file notes).pages) zero_page IsPage-zero_page);
      },
    );
    shape = λ notes file is.
        let more = replicate (pages_in n - length file.pages) zero_page in
        let a = length-append file.pages more in
        let b = length-replicate (pages_in n - length file.pages) zero_page in
        let c : length file.pages ≡ pages_in len = same-count file (old-file notes) is ∙ length-pages_from (file_contents (page_value w notes) f) 0 (pages_in len) in
        end-alike notes file is (file.pages ++ more) (omega (arith, a, b, c, le));
  }

  -- SHORTER.
  shorter-pages : (notes : Notes) → n < len → IsFile (old-file notes) → pages_from (file_contents (page_value v notes) f) 0 (pages_in n) ≡ (shorter_file n (with_extents_of extents (old-file notes))).pages
  shorter-pages notes less file = same-lists (pages_from (file_contents (page_value v notes) f) 0 (pages_in n)) (shorter_file n (with_extents_of extents (old-file notes))).pages (λ i. by_place i (cases_lt i (pages_in n)) ∙ sym (grown_pages_law.shorter (with_extents_of extents (old-file notes)) n i (record { count = file.count; pages = file.pages })))
    where
      by_place : (i : ℕ) → (i < pages_in n) ⊎ (pages_in n ≤ i) → slice_get (pages_from (file_contents (page_value v notes) f) 0 (pages_in n)) i ≡ cond (nat_lt i (pages_in n)) (option_map (page_front (n - 4096 * i)) (slice_get (old-file notes).pages i)) None
      by_place i (inr past) = page-past (file_contents (page_value v notes) f) 0 (pages_in n) i past ∙ sym (ap (λ (b : Bool). cond b (option_map (page_front (n - 4096 * i)) (slice_get (old-file notes).pages i)) None) (le-ltb i (pages_in n) past))
      by_place i (inl below) =
          let lt : i < pages_in len = omega (arith, below, less) in
          let whole = whole-at notes i file lt in
          new-at notes i below ∙ ap (λ (p : Page). Some p) (front i lt below whole)
          ∙ sym (ap (λ (b : Bool). cond b (option_map (page_front (n - 4096 * i)) (slice_get (old-file notes).pages i)) None) (lt-ltb i (pages_in n) below) ∙ ap (option_map (page_front (n - 4096 * i))) (old-at notes i lt))
        where
          front : (i : ℕ) → i < pages_in len → i < pages_in n → length (was notes i) ≡ 4096 → now notes i ≡ page_front (n - 4096 * i) (was notes i)
          front i lt below whole =
              let clipped : now notes i ≡ clip (valid_in n i) (was notes i) = elim (page-kept notes i lt below whole) [ inl same ↦ same.0 ∙ sym (same.1 less) | inr cut ↦ cut.1 ] in
              let e : valid_in n i ≡ min (n - 4096 * i) 4096 = omega arith in
              clipped ∙ ap (λ (x : ℕ). clip x (was notes i)) e ∙ sym (front-clip (n - 4096 * i) (was notes i) whole)

  pub end-shorter : n < len → ChangesFile f m (with_file_records m files) (λ file. shorter_file n (with_extents_of extents file))
  end-shorter less = record {
    machine = end-machine;
    spaces = refl;
    maps = refl;
    counts = refl;
    infos = λ g ne. ap (λ (x : VnodeSeen). x.info) (k.others g ne);
    memory = end-memory;
    notes = end-notes;
    tells = end-tells;
    others = λ notes name nf tell ne exists. end-others notes name ne exists;
    file = λ notes nf tell file. (
      new-file-is notes ∙ ap (λ (ps : List Page). record (old-file notes) { len = n; extents = extents; pages = ps }) (shorter-pages notes less file),
      subst IsFile (short-is (with_extents_of extents (old-file notes)) less) (IsFile-file_of_length n (with_extents_of extents (old-file notes)) (record { count = file.count; pages = file.pages })),
    );
    shape = λ notes file is.
        let c : length file.pages ≡ pages_in len = same-count file (old-file notes) is ∙ length-pages_from (file_contents (page_value w notes) f) 0 (pages_in len) in
        let s = shorter-count n (with_extents_of extents file) in
        end-alike notes file is (shorter_file n (with_extents_of extents file)).pages (omega (arith, c, s, less));
  }
    where
      short-is : (file : File) → n < file.len → file_of_length n file ≡ shorter_file n file
      short-is file lt = ap (λ (b : Bool). cond b (shorter_file n file) (cond (nat_lt file.len n) (longer_file n file) file)) (lt-ltb n file.len lt)

pub ends_law : EndsLaw
ends_law = record {
  longer = λ m files f n extents fits k may le. end-longer m files f n extents fits k may le;
  shorter = λ m files f n extents fits k may less. end-shorter m files f n extents fits k may less;
}
