-- BYTES ARE PUT into a page of a file that is home, which is modified then.
use Rattle.std.proofs.Common.{◌≡◌, ◌≢◌, ℕ, ◌+◌, ◌-◌, ◌<◌, ◌≤◌, ◌||◌, Bool, true, false, cond, List, [], ◌∷◌, ◌++◌, length, Option, Some, refl, sym, ap, ◌∙◌, inl, inr, subst, get_or-set_same, arith, zero, suc}
use Rattle.std.specs.Prelude.{IsTrue, IsSome, is_some, option_map, slice_get, nat_lt, take, drop, All}
use Rattle.std.proofs.lemmas.Bool.{cases_eq, lt-ltb, ltb-true, cases_lt}
use Rattle.std.proofs.lemmas.Bool.Decides.{eqb_tells}
use Rattle.std.proofs.lemmas.List.{get_or-set_other, length-append, length-take, length-drop}
use Rattle.std.proofs.lemmas.List.Elements.{All-append, All-take, All-drop}
use Rattle.seg_ops.specs.core_arena.Bytes.{bytes_at, bytes_with_piece}
use Rattle.seg_ops.specs.page_hash.Names.{name_at, find}
use Rattle.seg_ops.specs.page_hash.declared.PageName.{PageName}
use Rattle.seg_ops.proofs.Modified.{is_modified, is_rewritten, says}
use Rattle.seg_ops.proofs.page_hash.NameLaws.{find-at}
use Rattle.seg_ops.specs.page_lock.Rows.{row_at, clear_row, with_bits}
use Rattle.seg_ops.specs.page_lock.declared.Row.{Row}
use Rattle.seg_ops.specs.page_store.Laws.{Pokes}
use Rattle.seg_ops.specs.page_store.Moves.{is_only}
use Rattle.seg_ops.specs.page_store.Notes.{Notes}
use Rattle.seg_ops.specs.page_store.Seen.{StoreSeen, IsListedFrame, residence}
use Rattle.seg_ops.specs.page_store.Steps.{with_piece}
use Rattle.seg_ops.specs.page_store.declared.residence.Residence.TheVariants.{Home}
use Rattle.seg_ops.proofs.page_store.QueryLemmas.{home-is, found-within}
use Rattle.seg_ops.specs.anon_slots.Slots.{count_at, is_used}
use Rattle.seg_ops.specs.vnode_files.Files.{vnode_at}
use Rattle.seg_ops.specs.flat_model.Access.{with_change_at}
use Rattle.seg_ops.specs.flat_model.Words.{Page, IsPage, IsByte, pages_in, with_bytes}
use Rattle.seg_ops.proofs.flat_model.WellFormed.{Each, Each-All, All-Each}
use Rattle.seg_ops.proofs.flat_model.Bytes.{slice_get-with_change_at, slice_get-changed_apart}
use Rattle.seg_ops.specs.vm_world.FileSteps.{file_seen, ChangesFile}
use Rattle.seg_ops.specs.vm_world.FlatMemory.{pages_from}
use Rattle.seg_ops.specs.vm_world.MemoryFits.{MemoryFits}
use Rattle.seg_ops.specs.vm_world.NotesFit.{NotesFit}
use Rattle.seg_ops.specs.vm_world.Pages.{page_value, file_contents}
use Rattle.seg_ops.specs.vm_world.Segments.{Spaces}
use Rattle.seg_ops.specs.vm_world.TranslationsFit.{TranslationsFit}
use Rattle.seg_ops.specs.vm_world.World.{World, core_of, world_table, file_name, page_exists, AllTell}
use Rattle.seg_ops.proofs.vm_world.FilePages.{page-in, page-past}
use Rattle.seg_ops.proofs.vm_world.FileSteps.{same-lists}
use Rattle.seg_ops.proofs.vm_world.FrameRule.{exists-page}
use Rattle.seg_ops.proofs.vm_world.Shapes.{file-alike}
use Rattle.seg_ops.proofs.vm_world.PageNames.{not-slot, file-apart}
use Rattle.seg_ops.proofs.StillSteps.{KeepsFrames, KeepsRow, IsMarked, with_tables, memory_of, same-row, translation-kept, memory-kept, notes-kept, tell-kept, value-is}
use Rattle.seg_ops.specs.vm_world.Serving.{ModifiesOnly, SaysOnly}
use Rattle.seg_ops.proofs.vm_world.FlatWhole.{some-inj}
use Rattle.seg_map.specs.Ends.{IsReadyPage}
use Rattle.seg_map.specs.Puts.{with_bytes_in}
use Rattle.seg_map.proofs.Alike.{put-alike}

module _ (w : World) (spaces : Spaces) (new : StoreSeen) (f i frame at : ℕ) (bytes : List ℕ) (fits : MemoryFits (memory_of w spaces)) (there : f < length w.files.files) (home : residence w.store (file_name f i) ≡ Home frame) (unlisted : ¬ IsListedFrame w.store frame)
    (step : new ≡ with_piece w.store frame at bytes true) (laws : Pokes w.store new (file_name f i) at bytes) (within : at + length bytes ≤ 4096) (octets : All IsByte bytes) where
  abbrev name : PageName
  name = file_name f i

  found : find w.store.names name ≡ Some frame
  found = (home-is w.store name frame home).found

  inside : frame < length w.store.rows
  inside = let lt = found-within w.store name frame fits.frames.sound found in let r = fits.frames.sound.rows in omega (arith, lt, r)

  -- rows: that of the frame says modified and rewritten, all others stay
  row-here : row_at new.rows frame ≡ with_bits (row_at w.store.rows frame) (row_at w.store.rows frame).referenced true
  row-here = ap (λ (x : StoreSeen). row_at x.rows frame) step ∙ get_or-set_same w.store.rows frame (with_bits (row_at w.store.rows frame) (row_at w.store.rows frame).referenced true) clear_row inside

  row-else : (k : ℕ) → k ≢ frame → row_at new.rows k ≡ row_at w.store.rows k
  row-else k ne = ap (λ (x : StoreSeen). row_at x.rows k) step ∙ get_or-set_other w.store.rows frame k (with_bits (row_at w.store.rows frame) (row_at w.store.rows frame).referenced true) clear_row ne

  or-true : (b : Bool) → (b || true) ≡ true
  or-true true = refl
  or-true false = refl

  marked : IsMarked new frame
  marked = record {
    modified = ap (λ (r : Row). r.modified) row-here;
    rewritten = ap (λ (r : Row). r.rewritten) row-here ∙ or-true (row_at w.store.rows frame).rewritten;
    home = let h = home-is new name frame (laws.residence name ∙ home) in ap (λ (o : Option (List ℕ)). is_some o) h.there;
  }

  listed : (k : ℕ) → IsListedFrame new k → IsListedFrame w.store k
  listed k l = subst (λ (x : StoreSeen). IsListedFrame x k) step l

  keeps : KeepsFrames w.store new w.hat.places w.hat.places
  keeps = record {
    sound = laws.sound;
    core = ap core_of step;
    frames = laws.touches.frames;
    names = ap (λ (x : StoreSeen). x.names) step;
    bays = laws.outside.bays;
    rows = λ k. elim (cases_eq k frame) [
      | inl e ↦ subst (λ (j : ℕ). KeepsRow (row_at w.store.rows j) (row_at new.rows j)) (sym e) (record { keeps = ap (λ (r : Row). r.keeps) row-here; gone = ap (λ (r : Row). r.gone) row-here; source = ap (λ (r : Row). r.source) row-here; rewritten = λ h. marked.rewritten })
      | inr ne ↦ same-row (row_at w.store.rows k) (row_at new.rows k) (row-else k ne)
    ];
    unmodified = λ k l. elim (cases_eq k frame) [
      | inl e ↦ absurd (unlisted (subst (λ (j : ℕ). IsListedFrame w.store j) e (listed k l)))
      | inr ne ↦ ap (λ (r : Row). r.modified) (row-else k ne) ∙ fits.frames.unmodified k (listed k l)
    ];
    residence = laws.residence;
    modified = λ k m. elim (cases_eq k frame) [
      | inl e ↦ inl (ap (λ (j : ℕ). (row_at new.rows j).modified) e ∙ marked.modified)
      | inr ne ↦ elim m [ inl r ↦ inl (ap (λ (r : Row). r.modified) (row-else k ne) ∙ r) | inr x ↦ inr x ]
    ];
    written = λ k x. inr x;
    bytes = λ k. elim (cases_eq k frame) [
      | inl e ↦ inr (inr (subst (λ (j : ℕ). IsMarked new j × IsSome (bytes_at w.store.frames j)) (sym e) (marked, let h = home-is w.store name frame home in ap (λ (o : Option (List ℕ)). is_some o) h.there)))
      | inr ne ↦ inl (laws.touches.bytes k (ap (λ (o : Option ℕ). is_only o k) found ∙ elim (eqb_tells k frame) [ inl same ↦ absurd (ne same.1) | inr other ↦ other.0 ]))
    ];
  }

  translations : TranslationsFit new w.anon w.maps spaces w.hat.places
  translations = λ j t is. translation-kept w.store new w.anon w.maps spaces t laws.residence (listed t.frame) (fits.translations j t is)

  exists : IsTrue (page_exists w.files w.anon name)
  exists = fits.frames.exist frame name (find-at w.store.names name frame found)

  far : f ≢ 64
  far = file-apart w.files f fits.files there

  abbrev len : ℕ
  len = (vnode_at w.files f).info.length

  abbrev v : World
  v = with_tables w new w.hat

  put-here : (notes : Notes) → page_value v notes name ≡ with_bytes (page_value w notes name) at bytes
  put-here notes =
      let real = exists-page w name fits.files exists in
      value-is v notes name real ∙ laws.value notes (world_table w) ∙ ap (λ (b : List ℕ). bytes_with_piece b at bytes) (sym (value-is w notes name real))

  put-else : (notes : Notes) (m : PageName) → NotesFit w notes → AllTell w notes → m ≢ name → IsTrue (page_exists w.files w.anon m) → page_value v notes m ≡ page_value w notes m
  put-else notes m nf tell ne ex =
      let real = exists-page w m fits.files ex in
      value-is v notes m real ∙ (laws.others notes (world_table w) nf.stored).values m ne (tell m real) ∙ sym (value-is w notes m real)

  below-exists : (j : ℕ) → j < pages_in len → IsTrue (page_exists w.files w.anon (file_name f j))
  below-exists j lt = ap (λ (b : Bool). cond b (is_used (count_at w.anon j)) (nat_lt j (pages_in len))) (not-slot f far) ∙ lt-ltb j (pages_in len) lt

  i-below : i < pages_in len
  i-below = ltb-true i (pages_in len) (sym (ap (λ (b : Bool). cond b (is_used (count_at w.anon i)) (nat_lt i (pages_in len))) (not-slot f far)) ∙ exists)

  abbrev before : Notes → ℕ → Page
  before notes = file_contents (page_value w notes) f

  abbrev after : Notes → ℕ → Page
  after notes = file_contents (page_value v notes) f

  at-place : (page : ℕ → Page) (j : ℕ) → j < pages_in len → slice_get (pages_from page 0 (pages_in len)) j ≡ Some (page j)
  at-place page j lt = let z : 0 + j ≡ j = omega arith in page-in page 0 (pages_in len) j lt ∙ ap (λ (k : ℕ). Some (page k)) z

  pages-put : (notes : Notes) → NotesFit w notes → AllTell w notes → pages_from (after notes) 0 (pages_in len) ≡ with_change_at (λ old. with_bytes old at bytes) (pages_from (before notes) 0 (pages_in len)) i
  pages-put notes nf tell = same-lists (pages_from (after notes) 0 (pages_in len)) (with_change_at (λ old. with_bytes old at bytes) (pages_from (before notes) 0 (pages_in len)) i) (λ j. elim (cases_eq j i) [
    | inl e ↦
        ap (slice_get (pages_from (after notes) 0 (pages_in len))) e ∙ at-place (after notes) i i-below
        ∙ ap (λ (p : Page). Some p) (ap (λ (b : Bool). cond b [] (page_value v notes name)) (not-slot f far) ∙ put-here notes ∙ ap (λ (p : Page). with_bytes p at bytes) (sym (ap (λ (b : Bool). cond b [] (page_value w notes name)) (not-slot f far))))
        ∙ sym (ap (slice_get (with_change_at (λ old. with_bytes old at bytes) (pages_from (before notes) 0 (pages_in len)) i)) e ∙ slice_get-with_change_at (λ old. with_bytes old at bytes) (pages_from (before notes) 0 (pages_in len)) i ∙ ap (option_map (λ old. with_bytes old at bytes)) (at-place (before notes) i i-below))
    | inr ne ↦ elim (cases_lt j (pages_in len)) [
      | inl lt ↦ at-place (after notes) j lt ∙ ap (λ (p : Page). Some p) (ap (λ (b : Bool). cond b [] (page_value v notes (file_name f j))) (not-slot f far) ∙ put-else notes (file_name f j) nf tell (λ e. ne (ap (λ (x : PageName). x.page) e)) (below-exists j lt) ∙ sym (ap (λ (b : Bool). cond b [] (page_value w notes (file_name f j))) (not-slot f far))) ∙ sym (at-place (before notes) j lt)
      | inr le ↦ page-past (after notes) 0 (pages_in len) j le ∙ sym (page-past (before notes) 0 (pages_in len) j le)
    ] ∙ sym (slice_get-changed_apart (λ old. with_bytes old at bytes) (pages_from (before notes) 0 (pages_in len)) i j ne)
  ])

  put-whole : (old : Page) → IsPage old → IsPage (with_bytes old at bytes)
  put-whole old p = record {
    whole = let a = length-append (take at old ++ bytes) (drop (at + length bytes) old) in let b = length-append (take at old) bytes in let c = length-take at old in let d = length-drop (at + length bytes) old in let e = p.whole in omega (arith, a, b, c, d, e, within);
    bytes = All-append IsByte (take at old ++ bytes) (drop (at + length bytes) old) (All-append IsByte (take at old) bytes (All-take IsByte at old p.bytes) octets) (All-drop IsByte (at + length bytes) old p.bytes);
  }

  pub put-changes : ChangesFile f (memory_of w spaces) (memory_of v spaces) (with_bytes_in i at bytes)
  put-changes = record {
    machine = record { core = keeps.core; frames = keeps.frames; slots = refl; disks = refl; modes = refl; bays = keeps.bays };
    spaces = refl;
    maps = refl;
    counts = refl;
    infos = λ k ne. refl;
    memory = memory-kept w spaces new w.hat fits keeps refl fits.pool.single translations;
    notes = λ notes nf. notes-kept w spaces new w.hat notes fits keeps (laws.others notes (world_table w) nf.stored).fits nf;
    tells = λ notes nf. tell-kept w new w.hat notes (laws.others notes (world_table w) nf.stored).alike;
    others = λ notes m nf tell ne ex. put-else notes m nf tell (λ e. ne (ap (λ (x : PageName). x.object) e)) ex;
    file = λ notes nf tell file. (
      ap (λ (ps : List Page). record (file_seen w notes f) { pages = ps }) (pages-put notes nf tell),
      record {
        count = length-with_change_at (λ old. with_bytes old at bytes) (file_seen w notes f).pages i ∙ file.count;
        pages = All-Each-changed (file_seen w notes f).pages i file.pages;
      },
    );
    shape = λ notes file is. put-alike i at bytes file ∙ is ∙ file-alike (before notes) (after notes) (vnode_at w.files f).info;
  }
    where
      length-with_change_at : (g : Page → Page) (ps : List Page) (j : ℕ) → length (with_change_at g ps j) ≡ length ps
      length-with_change_at g [] j = refl
      length-with_change_at g (p ∷ ps) zero = refl
      length-with_change_at g (p ∷ ps) (suc j) = ap suc (length-with_change_at g ps j)

      go : (ps : List Page) (j : ℕ) → Each IsPage ps → Each IsPage (with_change_at (λ old. with_bytes old at bytes) ps j)
      go [] j e = e
      go (p ∷ ps) zero e = (put-whole p e.0, e.1)
      go (p ∷ ps) (suc j) e = (e.0, go ps j e.1)

      All-Each-changed : (ps : List Page) (j : ℕ) → All IsPage ps → All IsPage (with_change_at (λ old. with_bytes old at bytes) ps j)
      All-Each-changed ps j all = All-Each IsPage (with_change_at (λ old. with_bytes old at bytes) ps j) (go ps j (Each-All IsPage ps all))

  -- The page is ready, and no other page becomes modified.
  pub put-ready : IsReadyPage v name
  put-ready = record { frame = frame; home = laws.residence name ∙ home; unlisted = λ l. unlisted (listed frame l); modified = marked.modified; rewritten = marked.rewritten }

  put-says : (bit : Row → Bool) → SaysOnly (says bit) (λ m. m ≡ name) w v
  put-says bit = λ m k at x.
      let was : residence w.store m ≡ Home k = sym (laws.residence m) ∙ at in
      elim (cases_eq k frame) [
        | inl e ↦ inl (some-inj m name (sym (find-at w.store.names m k (home-is w.store m k was).found) ∙ ap (name_at w.store.names) e ∙ find-at w.store.names name frame found))
        | inr ne ↦ inr (was, elim x [ inl r ↦ inl (ap bit (sym (row-else k ne)) ∙ r) | inr y ↦ inr y ])
      ]

  pub put-modifies : ModifiesOnly (λ m. m ≡ name) w v
  put-modifies = record { modified = put-says is_modified; rewritten = put-says is_rewritten }
