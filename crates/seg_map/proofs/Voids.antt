-- A PAGE OF A FILE IS GIVEN UP, wherever it is, and counts as never written: it is zeros. No translation leads to it any more.
use Rattle.std.proofs.Common.{◌≡◌, ◌≢◌, ℕ, ◌+◌, ◌<◌, ◌≤◌, ◌==◌, Bool, true, false, cond, List, [], ◌∷◌, length, map, Option, Some, None, refl, sym, ap, ◌∙◌, inl, inr, subst, arith, zero, suc, slice_index_or, slice_set, get_or-set_same}
use Rattle.std.specs.Prelude.{IsTrue, IsSome, unwrap_or, option_map, slice_get, nat_lt, not}
use Rattle.std.specs.FinMap as finite
use Rattle.std.specs.Ordering.{nat_cmp}
use Rattle.std.proofs.lemmas.Bool.{cases_Bool, cases_eq, lt-ltb, ltb-true, cases_lt}
use Rattle.std.proofs.lemmas.List.{length-map, get_or-set_other, length-set}
use Rattle.seg_ops.specs.core_arena.Bytes.{bytes_at}
use Rattle.seg_ops.specs.page_hash.Names.{name_at}
use Rattle.seg_ops.specs.page_hash.declared.PageName.{PageName}
use Rattle.seg_ops.proofs.Modified.{is_modified, is_rewritten, says}
use Rattle.seg_ops.proofs.page_hash.NameLaws.{find-at, find-none}
use Rattle.seg_ops.specs.page_lock.Rows.{row_at}
use Rattle.seg_ops.specs.page_lock.declared.Row.{Row}
use Rattle.seg_ops.specs.page_store.Bays.{BaySeen}
use Rattle.seg_ops.specs.page_store.Layout.{FileBlocks, file_page_place, slot_place, own_place, is_slot, table_of}
use Rattle.seg_ops.specs.page_store.Notes.{Note, Notes}
use Rattle.seg_ops.specs.page_store.Seen.{StoreSeen, IsListedFrame, IsGone, own_frame, residence}
use Rattle.seg_ops.specs.page_store.StoreFits.{StoreFits}
use Rattle.seg_ops.specs.page_store.TableLaws.{MayReplaceTable}
use Rattle.seg_ops.specs.page_store.Transfers.{is_rewritten_in}
use Rattle.seg_ops.specs.page_store.Value.{value_in, backing_value, tells}
use Rattle.seg_ops.specs.page_store.declared.place.Place.{Place}
use Rattle.seg_ops.specs.page_store.declared.residence.Residence.TheVariants.{Home, Absent}
use Rattle.seg_ops.proofs.page_store.QueryLemmas.{absent-is, home-is}
use Rattle.seg_ops.proofs.page_store.TableLemmas.{table_law}
use Rattle.seg_ops.specs.hat_layer.declared.translation.Translation.{Translation}
use Rattle.seg_ops.specs.hat_layer.Pool.{HatSeen, IsSingleValued, drop_frame, drop_lead}
use Rattle.seg_ops.specs.anon_slots.Slots.{count_at, is_used}
use Rattle.seg_ops.specs.vnode_files.declared.vnode.FileInfo.{FileInfo}
use Rattle.seg_ops.specs.vnode_files.Layout.{KeepsLayout}
use Rattle.seg_ops.specs.vnode_files.Files.{FilesSeen, vnode_at}
use Rattle.seg_ops.specs.vnode_files.Vnode.{VnodeSeen, no_vnode, page_blocks, is_blank, with_blank, IsSoundVnode}
use Rattle.seg_ops.specs.flat_model.Access.{with_change_at}
use Rattle.seg_ops.specs.flat_model.Shapes.{blank_file}
use Rattle.seg_ops.specs.flat_model.Words.{Page, IsPage, pages_in, zero_page}
use Rattle.seg_ops.proofs.flat_model.WellFormed.{Each, Each-All, All-Each, IsPage-zero_page}
use Rattle.seg_ops.proofs.flat_model.Bytes.{slice_get-with_change_at, slice_get-changed_apart}
use Rattle.seg_ops.specs.vm_world.FileSteps.{file_seen, ChangesFile}
use Rattle.seg_ops.specs.vm_world.CountsFit.{SegmentsFit}
use Rattle.seg_ops.specs.vm_world.FlatMemory.{pages_from, file_with_pages}
use Rattle.seg_ops.specs.vm_world.FramesFit.{FilesFit, DisksFit, HasSize}
use Rattle.seg_ops.specs.vm_world.MemoryFits.{MemoryFits}
use Rattle.seg_ops.specs.vm_world.NotesFit.{NotesFit, PushFits, MayWriteGone}
use Rattle.seg_ops.specs.vm_world.Pages.{page_value, file_contents}
use Rattle.seg_ops.specs.vm_world.Segments.{Spaces}
use Rattle.seg_ops.specs.vm_world.Serving.{ModifiesNone, SaysNone}
use Rattle.seg_ops.specs.vm_world.State.{FileMode, mode_of}
use Rattle.seg_ops.specs.vm_world.TranslationsFit.{TranslationFits, HasWritten, IsModified}
use Rattle.seg_ops.specs.vm_world.World.{World, file_name, slot_name, file_blocks, is_unpushed, page_exists, page_table, world_table, AllTell}
use Rattle.seg_ops.specs.vm_world.WorldSteps.{KeepsTables}
use Rattle.seg_ops.proofs.vm_world.FilePages.{page-in, page-past}
use Rattle.seg_ops.proofs.vm_world.FileSteps.{same-lists}
use Rattle.seg_ops.proofs.vm_world.FrameRule.{name-same, exists-same, exists-page, info-same}
use Rattle.seg_ops.proofs.vm_world.LieAlike.{lie-alike}
use Rattle.seg_ops.proofs.vm_world.Shapes.{file-alike}
use Rattle.seg_ops.proofs.vm_world.PageNames.{not-slot, file-apart, below-kept}
use Rattle.seg_ops.proofs.vm_world.StoredPages.{zeros-are}
use Rattle.seg_ops.proofs.Fills.{Elsewhere, held-by, rewritten-same, blank-is}
use Rattle.seg_ops.proofs.GivenUp.{GivesUp}
use Rattle.seg_ops.proofs.Marks.{SameSpot, cases-name, spot-any}
use Rattle.seg_ops.proofs.Places.{each-drop_frame, index-map, written-gone}
use Rattle.seg_ops.proofs.StillSteps.{memory_of, value-is}
use Rattle.seg_ops.proofs.vm_world.FlatWhole.{some-inj}
use Rattle.seg_map.specs.Voids.{with_page_void, files_voided, VoidsPage, DropsPage}
use Rattle.seg_map.proofs.EndTables.{lie-fit, low-disk-of}
use Rattle.seg_map.proofs.Alike.{void-alike}

module _ (w : World) (spaces : Spaces) (new : StoreSeen) (hat : HatSeen) (files : FilesSeen) (f i : ℕ) (fits : MemoryFits (memory_of w spaces)) (there : f < length w.files.files) (exists : IsTrue (page_exists w.files w.anon (file_name f i))) (g : GivesUp w.store new (file_name f i)) (d : DropsPage w.store w.hat hat (file_name f i)) (k : VoidsPage w.files files f i) where
  abbrev n : PageName
  n = file_name f i

  abbrev v : World
  v = record w { store = new; hat = hat; files = files }

  tables : KeepsTables w v
  tables = record { maps = refl; counts = refl; reserved = refl; disks = k.disks; infos = k.infos }

  far : f ≢ 64
  far = file-apart w.files f fits.files there

  count : length files.files ≡ length w.files.files
  count = sym (length-map files.files (λ (x : VnodeSeen). x.info)) ∙ ap length k.infos ∙ length-map w.files.files (λ (x : VnodeSeen). x.info)

  unpushed-else : (m : PageName) → m ≢ n → is_unpushed files w.anon m ≡ is_unpushed w.files w.anon m
  unpushed-else m ne = ap (λ (b : Bool). cond (m.object == 64) (not (slice_index_or w.anon.swapped m.page false)) b) (k.others m.object m.page (λ e same. ne (λ j. record { object = e j; page = same j })))

  unpushed-here : is_unpushed files w.anon n ≡ true
  unpushed-here = ap (λ (b : Bool). cond b (not (slice_index_or w.anon.swapped i false)) (is_blank (vnode_at files f) i)) (not-slot f far) ∙ k.here

  -- places are where they were; that of the page alone is blank now
  abbrev blocks_in : FileInfo → FileBlocks
  blocks_in x = record { disk = x.disk; length = x.length; blocks = page_blocks x.extents }

  map-blocks : (xs : List VnodeSeen) → map blocks_in (map (λ (x : VnodeSeen). x.info) xs) ≡ map file_blocks xs
  map-blocks [] = refl
  map-blocks (x ∷ xs) = ap (λ (more : List FileBlocks). file_blocks x ∷ more) (map-blocks xs)

  blocks-same : map file_blocks files.files ≡ map file_blocks w.files.files
  blocks-same = sym (map-blocks files.files) ∙ ap (map blocks_in) k.infos ∙ map-blocks w.files.files

  table-by : (m : PageName) → page_table files w.anon m ≡ table_of (map file_blocks w.files.files) (length w.anon.counts) (is_unpushed files w.anon) m
  table-by m = ap (λ (bs : List FileBlocks). table_of bs (length w.anon.counts) (is_unpushed files w.anon) m) blocks-same

  table-else : (m : PageName) → m ≢ n → page_table files w.anon m ≡ world_table w m
  table-else m ne = table-by m ∙ ap (λ (b : Bool). unwrap_or (file_page_place (map file_blocks w.files.files) m b) (cond (is_slot (length w.anon.counts) m) (slot_place m.page b) (own_place m))) (unpushed-else m ne)

  spot : (m : PageName) → SameSpot (page_table files w.anon m) (world_table w m)
  spot m = subst (λ (p : Place). SameSpot p (world_table w m)) (sym (table-by m)) (spot-any (map file_blocks w.files.files) (length w.anon.counts) m (is_unpushed files w.anon) (is_unpushed w.files w.anon))

  alike : KeepsLayout w.files files
  alike = lie-alike w.files files k.disks k.infos

  files-void : FilesFit files
  files-void = lie-fit files (λ number blocks is. fits.files.small number blocks (ap (λ (m : finite.FinMap nat_cmp ℕ). finite.get m number) (sym k.disks) ∙ is)) k.sound (let few = fits.files.disjoint.few in let c = length-map w.files.files file_blocks in let x = count in omega (arith, few, c, x))
      (λ x lt. subst (λ (a : FileInfo). a.disk < 8) (sym (info-same w v x tables)) (low-disk-of w.files x fits.files (subst (λ (c : ℕ). x < c) count lt)))
      (λ x lt. subst (λ (m : finite.FinMap nat_cmp ℕ). IsSome (finite.get m (vnode_at files x).info.disk)) (sym k.disks) (subst (λ (a : FileInfo). IsSome (finite.get w.files.disks a.disk)) (sym (info-same w v x tables)) (fits.files.set x (subst (λ (c : ℕ). x < c) count lt))))
      (alike.on_disks fits.files.lie) (alike.none_meet fits.files.apart) (alike.few fits.files.few)
      (λ x lt. subst (λ (a : FileInfo). 1 ≤ length a.extents) (sym (info-same w v x tables)) (fits.files.some x (subst (λ (c : ℕ). x < c) count lt)))

  blank-here : (page_table files w.anon n).blank ≡ true
  blank-here = blank-is v n files-void (name-same w v n tables ∙ exists-page w n fits.files exists) ∙ unpushed-here

  unnamed : (j : ℕ) → name_at new.names j ≢ Some n
  unnamed j h = find-none new.names n j (absent-is new n g.laws.sound g.laws.absent) h

  held : (j : ℕ) (m : PageName) → name_at new.names j ≡ Some m → (m ≢ n) × (name_at w.store.names j ≡ Some m) × Elsewhere w.store new j
  held j m h =
      let ne : m ≢ n = λ e. unnamed j (h ∙ ap (λ (a : PageName). Some a) e) in
      elim (g.each j) [
        | inl up ↦ absurd (let z : None ≡ Some m = sym up.unnamed ∙ h in cc)
        | inr e ↦ (ne, sym e.name ∙ h, e)
      ]

  apart : (j : ℕ) (m : PageName) → name_at w.store.names j ≡ Some m → m ≢ n → Elsewhere w.store new j
  apart j m h ne = elim (g.each j) [ inr e ↦ e | inl up ↦ absurd (ne (up.only_one m h)) ]

  still-modified : (j : ℕ) (m : PageName) → name_at w.store.names j ≡ Some m → m ≢ n → Elsewhere w.store new j → IsModified w.store w.hat.places j → IsModified new hat.places j
  still-modified j m h ne e x = elim x [ inl r ↦ inl (ap (λ (a : Row). a.modified) e.row ∙ r) | inr y ↦ elim (d.written j y) [ inr z ↦ inr z | inl own ↦ absurd (ne (let z : Some m ≡ Some n = sym h ∙ own in cc)) ] ]

  listed : (j : ℕ) → IsListedFrame new j → (row_at new.rows j).modified ≡ false
  listed j l = elim (g.each j) [
    | inl up ↦ up.home (subst (λ (b : Option (List ℕ)). IsSome b) (g.bytes j) (g.laws.sound.listed j l))
    | inr e ↦ ap (λ (r : Row). r.modified) e.row ∙ fits.frames.unmodified j (e.listed l)
  ]

  void-memory : MemoryFits (memory_of v spaces)
  void-memory = record {
    frames = record {
      sound = g.laws.sound;
      unkept = λ j. elim (g.each j) [ inl up ↦ up.keeps (fits.frames.unkept j) | inr e ↦ ap (λ (r : Row). r.keeps) e.row ∙ fits.frames.unkept j ];
      unmodified = listed;
      exist = λ j m h. let e = held j m h in exists-same w v m tables ∙ fits.frames.exist j m e.1;
    };
    files = files-void;
    disks = subst (λ (x : finite.FinMap nat_cmp ℕ). DisksFit new.bays x (length w.anon.counts)) (sym k.disks) (subst (λ (b : List BaySeen). DisksFit b w.files.disks (length w.anon.counts)) (sym g.laws.outside.bays) fits.disks);
    pool = record { leads = d.frames ∙ fits.pool.leads ∙ sym g.laws.touches.frames; single = d.single };
    translations = λ j t is.
        let kept = d.kept j t is in
        let l = fits.translations j t kept.0 in
        let name_is = held-by w.store l.name t.frame l.home in
        let ne : l.name ≢ n = λ e. kept.1 (name_is ∙ ap (λ (a : PageName). Some a) e) in
        record {
          spot = l.spot;
          here = l.here;
          name = l.name;
          shows = l.shows;
          home = g.laws.stay l.name ne ∙ l.home;
          unlisted = λ h. l.unlisted ((apart t.frame l.name name_is ne).listed h);
          allowed = l.allowed;
          writable = l.writable;
        };
    unpushed = λ j a h unpushed home.
        let e = held j (slot_name a) h in
        still-modified j (slot_name a) e.1 e.0 e.2 (fits.unpushed j a e.1 unpushed (subst (λ (b : Option (List ℕ)). IsSome b) e.2.bytes home));
    counts = fits.counts;
    segments = subst (λ (c : ℕ). SegmentsFit c w.anon w.maps spaces) (sym count) fits.segments;
  }

  stored-same : (notes : Notes) (p : Place) → backing_value new notes p ≡ backing_value w.store notes p
  stored-same notes p = ap (λ (b : List BaySeen). backing_value (record w.store { bays = b }) notes p) g.laws.outside.bays

  tells-same : (notes : Notes) (number : ℕ) → tells new notes number ≡ tells w.store notes number
  tells-same notes number = ap (λ (b : List BaySeen). tells (record w.store { bays = b }) notes number) g.laws.outside.bays

  gone-still : (notes : Notes) (seat : ℕ) (note : Note) → NotesFit w notes → notes seat ≡ Some note → IsGone w.store note.frame → IsGone new note.frame
  gone-still notes seat note nf is gone = elim (g.each note.frame) [
    | inl up ↦ up.away (nf.stored.each_note seat note is).away
    | inr e ↦ ap (λ (r : Row). r.gone) e.row ∙ gone
  ]

  gone-mine : (notes : Notes) (seat : ℕ) (note : Note) → NotesFit w notes → notes seat ≡ Some note → IsGone new note.frame → (row_at w.store.rows note.frame).gone ≡ false → note.name ≡ n
  gone-mine notes seat note nf is gone stands = elim (g.each note.frame) [
    | inl up ↦ let z : Some note.name ≡ Some n = sym ((nf.stored.each_note seat note is).out.page stands) ∙ up.own in cc
    | inr e ↦ absurd (let z : true ≡ false = sym gone ∙ ap (λ (r : Row). r.gone) e.row ∙ stands in cc)
  ]

  -- a flight that isn't gone is of another page
  other-note : (notes : Notes) (seat : ℕ) (note : Note) → NotesFit w notes → notes seat ≡ Some note → (row_at new.rows note.frame).gone ≡ false → ((row_at w.store.rows note.frame).gone ≡ false) × (note.name ≢ n)
  other-note notes seat note nf is stands =
      let was : (row_at w.store.rows note.frame).gone ≡ false = elim (cases_Bool (row_at w.store.rows note.frame).gone) [ inr x ↦ x | inl gone ↦ absurd (let z : true ≡ false = sym (gone-still notes seat note nf is gone) ∙ stands in cc) ] in
      (was, λ e. let z : true ≡ false = sym ((g.mine note.frame ((nf.stored.each_note seat note is).out.page was ∙ ap (λ (a : PageName). Some a) e)).away (nf.stored.each_note seat note is).away) ∙ stands in cc)

  may-replace : (notes : Notes) → NotesFit w notes → StoreFits new notes (world_table w) → MayReplaceTable new notes (page_table files w.anon)
  may-replace notes nf st = record {
    apart = λ a b e h. st.apart a b (sym (spot a).disk ∙ e ∙ (spot b).disk) (sym (spot a).block ∙ h ∙ (spot b).block);
    each_note = λ seat note is.
        let agrees = st.each_note seat note is in
        record {
          disk = (spot note.name).disk ∙ agrees.disk;
          block = (spot note.name).block ∙ agrees.block;
          read = λ reads stands.
              let o = other-note notes seat note nf is stands in
              let r = agrees.read reads stands in
              (ap (λ (p : Place). p.valid) (table-else note.name o.1) ∙ r.0, ap (λ (p : Place). p.blank) (table-else note.name o.1) ∙ r.1);
        };
    cached = λ j m cached h. table_law.clean new notes (world_table w) (page_table files w.anon) j m (table-else m (held j m h).0) (st.each_cached j m cached h);
  }

  void-notes : (notes : Notes) → NotesFit w notes → NotesFit v notes
  void-notes notes nf = record {
    stored = table_law.fits new notes (world_table w) (page_table files w.anon) (g.laws.others notes (world_table w) nf.stored).fits (may-replace notes nf (g.laws.others notes (world_table w) nf.stored).fits);
    clean = λ j m h home.
        let e = held j m h in
        elim (nf.clean j m e.1 (subst (λ (b : Option (List ℕ)). IsSome b) e.2.bytes home)) [
          | inl x ↦ inl (still-modified j m e.1 e.0 e.2 x)
          | inr c ↦ inr (table_law.clean new notes (world_table w) (page_table files w.anon) j m (table-else m e.0) (record {
            same = λ tell b at. c.same (subst (λ (a : Bool). IsTrue a) (tells-same notes (world_table w m).disk) tell) b (sym e.2.bytes ∙ at) ∙ sym (stored-same notes (world_table w m));
            unwritten = λ seat note is writes same. let u = c.unwritten seat note is writes same in (gone-still notes seat note nf is u.0, u.1);
          }))
        ];
    pushes = λ seat note is writes stands. push notes seat note nf is (not-gone (row_at new.rows note.frame).gone stands) (nf.pushes seat note is writes (λ gone. stands (gone-still notes seat note nf is gone)));
    gone = λ seat note is writes gone. elim (cases_Bool (row_at w.store.rows note.frame).gone) [
      | inl before ↦ may-gone note.name (nf.gone seat note is writes before)
      | inr stands ↦ inl (ap (is_unpushed files w.anon) (gone-mine notes seat note nf is gone stands) ∙ unpushed-here, λ slot. far (sym (ap (λ (a : PageName). a.object) (gone-mine notes seat note nf is gone stands)) ∙ slot))
    ];
    sizes = λ seat note is. subst (λ (x : finite.FinMap nat_cmp ℕ). HasSize x (length w.anon.counts) note.number note.disk.size) (sym k.disks) (nf.sizes seat note is);
  }
    where
      not-gone : (b : Bool) → ¬ (b ≡ true) → b ≡ false
      not-gone true h = absurd (h refl)
      not-gone false h = refl

      push : (notes : Notes) (seat : ℕ) (note : Note) → NotesFit w notes → notes seat ≡ Some note → (row_at new.rows note.frame).gone ≡ false → PushFits w.store w.hat.places (world_table w) note → PushFits new hat.places (page_table files w.anon) note
      push notes seat note nf is stands fit = elim (g.each note.frame) [
        | inl up ↦ absurd (let z : true ≡ false = sym (up.away (nf.stored.each_note seat note is).away) ∙ stands in cc)
        | inr e ↦
            let o = other-note notes seat note nf is stands in
            let name_is = (nf.stored.each_note seat note is).out.page o.0 in
            let source : (row_at new.rows note.frame).source ≡ (row_at w.store.rows note.frame).source = ap (λ (r : Row). r.source) e.row in
            let own : own_frame new note.frame ≡ own_frame w.store note.frame = ap (λ (x : Option ℕ). unwrap_or x note.frame) source in
            let beside = apart (own_frame w.store note.frame) note.name name_is o.1 in
            record {
              pushed = ap (λ (p : Place). p.blank) (table-else note.name o.1) ∙ fit.pushed;
              same = elim fit.same [
                | inl r ↦ inl (elim r [
                  | inl was ↦ inl (ap (λ (x : Option ℕ). is_rewritten_in x new) source ∙ rewritten-same w.store new (row_at w.store.rows note.frame).source note.frame beside.row ∙ was)
                  | inr h ↦ elim (d.written (own_frame w.store note.frame) h) [ inr y ↦ inr (subst (λ (a : ℕ). HasWritten hat.places a) (sym own) y) | inl mine ↦ absurd (o.1 (let z : Some note.name ≡ Some n = sym name_is ∙ mine in cc)) ]
                ])
                | inr sent ↦ inr (record { valid = ap (λ (p : Place). p.valid) (table-else note.name o.1) ∙ sent.valid; bytes = λ b h. sent.bytes b (sym beside.bytes ∙ ap (λ (a : ℕ). bytes_at new.frames a) (sym own) ∙ h) })
              ];
            }
      ]

      may-gone : (m : PageName) → MayWriteGone w.store w.files w.anon m → MayWriteGone new files w.anon m
      may-gone m x = elim (cases-name n m) [
        | inl e ↦ inl (ap (is_unpushed files w.anon) e ∙ unpushed-here, λ slot. far (sym (ap (λ (a : PageName). a.object) e) ∙ slot))
        | inr ne ↦ elim x [
          | inl a ↦ inl (unpushed-else m ne ∙ a.0, a.1)
          | inr b ↦ elim b [ inl c ↦ inr (inl (exists-same w v m tables ∙ c)) | inr h ↦ inr (inr (h.0, g.laws.stay m ne ∙ h.1)) ]
        ]
      ]

  void-else : (notes : Notes) (m : PageName) → NotesFit w notes → AllTell w notes → m ≢ n → IsTrue (page_exists w.files w.anon m) → page_value v notes m ≡ page_value w notes m
  void-else notes m nf tell ne ex =
      let real = exists-page w m fits.files ex in
      value-is v notes m (name-same w v m tables ∙ real) ∙ table_law.same new notes (world_table w) (page_table files w.anon) m (table-else m ne)
      ∙ (g.laws.others notes (world_table w) nf.stored).values m ne (tell m real) ∙ sym (value-is w notes m real)

  void-here : (notes : Notes) → page_value v notes n ≡ zero_page
  void-here notes =
      value-is v notes n (name-same w v n tables ∙ exists-page w n fits.files exists)
      ∙ ap (λ (x : Option ℕ). value_in x new notes (page_table files w.anon n)) (absent-is new n g.laws.sound g.laws.absent)
      ∙ ap (λ (b : Bool). backing_value new notes (record (page_table files w.anon n) { blank = b })) blank-here
      ∙ zeros-are

  abbrev len : ℕ
  len = (vnode_at w.files f).info.length

  info-is : (vnode_at files f).info ≡ (vnode_at w.files f).info
  info-is = info-same w v f tables

  below-exists : (j : ℕ) → j < pages_in len → IsTrue (page_exists w.files w.anon (file_name f j))
  below-exists j lt = ap (λ (b : Bool). cond b (is_used (count_at w.anon j)) (nat_lt j (pages_in len))) (not-slot f far) ∙ lt-ltb j (pages_in len) lt

  i-below : i < pages_in len
  i-below = ltb-true i (pages_in len) (sym (ap (λ (b : Bool). cond b (is_used (count_at w.anon i)) (nat_lt i (pages_in len))) (not-slot f far)) ∙ exists)

  abbrev before : Notes → ℕ → Page
  before notes = file_contents (page_value w notes) f

  abbrev after : Notes → ℕ → Page
  after notes = file_contents (page_value v notes) f

  at-place : (page : ℕ → Page) (j : ℕ) → j < pages_in len → slice_get (pages_from page 0 (pages_in len)) j ≡ Some (page j)
  at-place page j lt = let z : 0 + j ≡ j = omega arith in page-in page 0 (pages_in len) j lt ∙ ap (λ (x : ℕ). Some (page x)) z

  pages-void : (notes : Notes) → NotesFit w notes → AllTell w notes → pages_from (after notes) 0 (pages_in len) ≡ with_change_at (λ old. zero_page) (pages_from (before notes) 0 (pages_in len)) i
  pages-void notes nf tell = same-lists (pages_from (after notes) 0 (pages_in len)) (with_change_at (λ old. zero_page) (pages_from (before notes) 0 (pages_in len)) i) (λ j. elim (cases_eq j i) [
    | inl e ↦
        ap (slice_get (pages_from (after notes) 0 (pages_in len))) e ∙ at-place (after notes) i i-below
        ∙ ap (λ (p : Page). Some p) (ap (λ (b : Bool). cond b [] (page_value v notes n)) (not-slot f far) ∙ void-here notes)
        ∙ sym (ap (slice_get (with_change_at (λ old. zero_page) (pages_from (before notes) 0 (pages_in len)) i)) e ∙ slice_get-with_change_at (λ old. zero_page) (pages_from (before notes) 0 (pages_in len)) i ∙ ap (option_map (λ old. zero_page)) (at-place (before notes) i i-below))
    | inr ne ↦ elim (cases_lt j (pages_in len)) [
      | inl lt ↦ at-place (after notes) j lt ∙ ap (λ (p : Page). Some p) (ap (λ (b : Bool). cond b [] (page_value v notes (file_name f j))) (not-slot f far) ∙ void-else notes (file_name f j) nf tell (λ e. ne (ap (λ (x : PageName). x.page) e)) (below-exists j lt) ∙ sym (ap (λ (b : Bool). cond b [] (page_value w notes (file_name f j))) (not-slot f far))) ∙ sym (at-place (before notes) j lt)
      | inr le ↦ page-past (after notes) 0 (pages_in len) j le ∙ sym (page-past (before notes) 0 (pages_in len) j le)
    ] ∙ sym (slice_get-changed_apart (λ old. zero_page) (pages_from (before notes) 0 (pages_in len)) i j ne)
  ])

  pub void-changes : ChangesFile f (memory_of w spaces) (memory_of v spaces) (with_page_void i)
  void-changes = record {
    machine = record { core = g.core; frames = g.laws.touches.frames; slots = refl; disks = k.disks; modes = modes; bays = g.laws.outside.bays };
    spaces = refl;
    maps = refl;
    counts = refl;
    infos = λ x ne. info-same w v x tables;
    memory = void-memory;
    notes = void-notes;
    tells = λ notes nf. (
      (λ tell m is. tells-same notes (page_table files w.anon m).disk ∙ ap (λ (x : ℕ). tells w.store notes x) (spot m).disk ∙ tell m (sym (name-same w v m tables) ∙ is)),
      (λ tell m is. ap (λ (x : ℕ). tells w.store notes x) (sym (spot m).disk) ∙ sym (tells-same notes (page_table files w.anon m).disk) ∙ tell m (name-same w v m tables ∙ is)),
    );
    others = λ notes m nf tell ne ex. void-else notes m nf tell (λ e. ne (ap (λ (x : PageName). x.object) e)) ex;
    file = λ notes nf tell file. (
      (λ j. file_with_pages (after notes) (info-is j)) ∙ ap (λ (ps : List Page). record (file_seen w notes f) { pages = ps }) (pages-void notes nf tell),
      record {
        count = length-changed (file_seen w notes f).pages i ∙ file.count;
        pages = All-Each IsPage (with_change_at (λ old. zero_page) (file_seen w notes f).pages i) (go (file_seen w notes f).pages i (Each-All IsPage (file_seen w notes f).pages file.pages));
      },
    );
    shape = λ notes file is.
        void-alike i file ∙ is ∙ file-alike (before notes) (after notes) (vnode_at w.files f).info
        ∙ sym (ap (λ (x : FileInfo). blank_file (file_with_pages (after notes) x)) info-is);
  }
    where
      modes : map mode_of files.files ≡ map mode_of w.files.files
      modes = sym (by_info files.files) ∙ ap (map mode_in) k.infos ∙ by_info w.files.files
        where
          mode_in : FileInfo → FileMode
          mode_in x = record { name = x.name; disk = x.disk; writable = x.writable }

          by_info : (xs : List VnodeSeen) → map mode_in (map (λ (x : VnodeSeen). x.info) xs) ≡ map mode_of xs
          by_info [] = refl
          by_info (x ∷ xs) = ap (λ (more : List FileMode). mode_of x ∷ more) (by_info xs)

      length-changed : (ps : List Page) (j : ℕ) → length (with_change_at (λ old. zero_page) ps j) ≡ length ps
      length-changed [] j = refl
      length-changed (p ∷ ps) zero = refl
      length-changed (p ∷ ps) (suc j) = ap suc (length-changed ps j)

      go : (ps : List Page) (j : ℕ) → Each IsPage ps → Each IsPage (with_change_at (λ old. zero_page) ps j)
      go [] j e = e
      go (p ∷ ps) zero e = (IsPage-zero_page, e.1)
      go (p ∷ ps) (suc j) e = (e.0, go ps j e.1)

-- NO PAGE BECOMES MODIFIED.
pub void-modifies : (w : World) (new : StoreSeen) (hat : HatSeen) (files : FilesSeen) (n : PageName) → GivesUp w.store new n → DropsPage w.store w.hat hat n → ModifiesNone w (record w { store = new; hat = hat; files = files })
void-modifies w new hat files n g d = record { modified = void-says is_modified; rewritten = void-says is_rewritten }
  where
    was-written : (k : ℕ) → HasWritten hat.places k → HasWritten w.hat.places k
    was-written k y = record { place = y.place; translation = y.translation; there = (d.kept y.place y.translation y.there).0; leads = y.leads; modified = y.modified }

    void-says : (bit : Row → Bool) → SaysNone (says bit) w (record w { store = new; hat = hat; files = files })
    void-says bit = λ m k at x.
        let ne : m ≢ n = λ e. let z : Absent ≡ Home k = sym g.laws.absent ∙ ap (residence new) (sym e) ∙ at in cc in
        elim (g.each k) [
          | inl up ↦ absurd (let z : Some m ≡ None = sym (find-at new.names m k (home-is new m k at).found) ∙ up.unnamed in cc)
          | inr other ↦ (
            sym (g.laws.stay m ne) ∙ at,
            elim x [ inl r ↦ inl (ap bit (sym other.row) ∙ r) | inr y ↦ inr (was-written k y) ],
          )
        ]

-- A page that isn't home has no translation; the translations of one that is were dropped.
pub drops-none : (w : World) (spaces : Spaces) (n : PageName) → MemoryFits (memory_of w spaces) → ((frame : ℕ) → residence w.store n ≢ Home frame) → DropsPage w.store w.hat w.hat n
drops-none w spaces n fits away = record {
  frames = refl;
  single = fits.pool.single;
  kept = λ place t is. (is, λ named. by_name t (fits.translations place t is) named);
  written = λ k x. inr x;
}
  where
    by_name : (t : Translation) (l : TranslationFits w.store w.anon w.maps spaces t) → name_at w.store.names t.frame ≡ Some n → ⊥
    by_name t l named = away t.frame (ap (residence w.store) (let z : Some n ≡ Some l.name = sym named ∙ held-by w.store l.name t.frame l.home in some-inj n l.name z) ∙ l.home)

pub drops-home : (w : World) (spaces : Spaces) (n : PageName) (frame : ℕ) (hat : HatSeen) → MemoryFits (memory_of w spaces) → residence w.store n ≡ Home frame → hat.places ≡ drop_frame frame w.hat.places → hat.frames ≡ w.hat.frames → IsSingleValued hat.places → DropsPage w.store w.hat hat n
drops-home w spaces n frame hat fits home places frames single = record {
  frames = frames;
  single = single;
  kept = λ place t is.
      let r = each-drop_frame (λ u. (p : ℕ) × (slice_index_or w.hat.places p None ≡ Some u)) frame w.hat.places (λ p u at. (p, at)) place t (ap (λ (ps : List (Option Translation)). slice_index_or ps place None) (sym places) ∙ is) in
      (was-there place t (ap (λ (ps : List (Option Translation)). slice_index_or ps place None) (sym places) ∙ is), λ named. r.1 (fits.frames.sound.distinct t.frame frame n named (held-by w.store n frame home)));
  written = λ k x. elim (written-gone w.hat.places frame k x) [
    | inl own ↦ inl (ap (name_at w.store.names) (sym own.0) ∙ held-by w.store n frame home)
    | inr y ↦ inr (subst (λ (ps : List (Option Translation)). HasWritten ps k) (sym places) y)
  ];
}
  where
    was-there : (place : ℕ) (t : Translation) → slice_index_or (drop_frame frame w.hat.places) place None ≡ Some t → slice_index_or w.hat.places place None ≡ Some t
    was-there place t is = by_drop (slice_index_or w.hat.places place None) (sym (index-map (drop_lead frame) w.hat.places place refl) ∙ is)
      where
        by_drop : (o : Option Translation) → drop_lead frame o ≡ Some t → o ≡ Some t
        by_drop None e = absurd (let z : ◌≡◌ {A = Option Translation} None (Some t) = e in cc)
        by_drop (Some u) e = by_lead (u.frame == frame) e
          where
            by_lead : (b : Bool) → cond b None (Some u) ≡ Some t → Some u ≡ Some t
            by_lead true h = absurd (let z : ◌≡◌ {A = Option Translation} None (Some t) = h in cc)
            by_lead false h = h

-- THE FILES with a page more that counts as never written.
pub voided : (files : FilesSeen) (f i : ℕ) → f < length files.files → ((g : ℕ) → g < length files.files → IsSoundVnode (vnode_at files g)) → i < length (vnode_at files f).blanks → VoidsPage files (files_voided files f i) f i
voided files f i lt sound inside = record {
  disks = refl;
  infos = infos-set files.files f (vnode_at files f) lt refl;
  sound = λ g below. elim (cases_eq g f) [
    | inl e ↦ subst IsSoundVnode (sym (ap (vnode_at (files_voided files f i)) e ∙ here)) (let s = sound f lt in record { bits = length-set (vnode_at files f).blanks i true ∙ s.bits; pages = s.pages; blocks = s.blocks; within = s.within })
    | inr ne ↦ subst IsSoundVnode (sym (else_at g ne)) (sound g (subst (λ (c : ℕ). g < c) (length-set files.files f (with_blank (vnode_at files f) i true)) below))
  ];
  here = ap (λ (v : VnodeSeen). is_blank v i) here ∙ get_or-set_same (vnode_at files f).blanks i true false inside;
  others = λ g j apart. elim (cases_eq g f) [
    | inr ne ↦ ap (λ (v : VnodeSeen). is_blank v j) (else_at g ne)
    | inl e ↦ ap (λ (x : ℕ). is_blank (vnode_at (files_voided files f i) x) j) e ∙ ap (λ (v : VnodeSeen). is_blank v j) here ∙ get_or-set_other (vnode_at files f).blanks i j true false (apart e) ∙ ap (λ (x : ℕ). is_blank (vnode_at files x) j) (sym e)
  ];
}
  where
    here : vnode_at (files_voided files f i) f ≡ with_blank (vnode_at files f) i true
    here = get_or-set_same files.files f (with_blank (vnode_at files f) i true) no_vnode lt

    else_at : (g : ℕ) → g ≢ f → vnode_at (files_voided files f i) g ≡ vnode_at files g
    else_at g ne = get_or-set_other files.files f g (with_blank (vnode_at files f) i true) no_vnode ne

    infos-set : (vs : List VnodeSeen) (x : ℕ) (v : VnodeSeen) → x < length vs → slice_index_or vs x no_vnode ≡ v → map (λ (y : VnodeSeen). y.info) (slice_set vs x (with_blank v i true)) ≡ map (λ (y : VnodeSeen). y.info) vs
    infos-set [] x v below e = absurd (omega (arith, below))
    infos-set (y ∷ ys) zero v below e = ap (λ (a : VnodeSeen). a.info ∷ map (λ (b : VnodeSeen). b.info) ys) (sym e)
    infos-set (y ∷ ys) (suc x) v below e = ap (λ (more : List FileInfo). y.info ∷ more) (infos-set ys x v (omega (arith, below)) e)

pub blank-inside : (w : World) (spaces : Spaces) (f i : ℕ) → MemoryFits (memory_of w spaces) → f < length w.files.files → IsTrue (page_exists w.files w.anon (file_name f i)) → i < length (vnode_at w.files f).blanks
blank-inside w spaces f i fits lt exists =
    let far = file-apart w.files f fits.files lt in
    let below : i < pages_in (vnode_at w.files f).info.length = ltb-true i (pages_in (vnode_at w.files f).info.length) (sym (ap (λ (b : Bool). cond b (is_used (count_at w.anon i)) (nat_lt i (pages_in (vnode_at w.files f).info.length))) (not-slot f far)) ∙ exists) in
    let kept = below-kept (vnode_at w.files f) i (fits.files.each f lt) below in
    let bits = (fits.files.each f lt).bits in
    omega (arith, kept, bits)
