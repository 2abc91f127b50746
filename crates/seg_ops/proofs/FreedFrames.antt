-- THE NEXT FRAME IS FREED: its page is given up, and has the value that its disk has, or zeros where it is blank.
use Rattle.std.proofs.Common.{◌≡◌, ◌≢◌, ℕ, ◌<◌, ◌==◌, ◌||◌, Bool, true, false, List, [], ◌∷◌, ◌++◌, length, Option, Some, None, refl, sym, ap, ◌∙◌, inl, inr, subst, slice_set, get_or-set_same, arith}
use Rattle.std.specs.Prelude.{IsTrue, IsSome, IfSome, MatchOption, unwrap_or, Contains}
use Rattle.std.proofs.lemmas.Bool.{cases_eq, cases_Bool}
use Rattle.std.proofs.lemmas.Bool.Decides.{eqb_tells}
use Rattle.page_store.specs.core_arena.Bytes.{bytes_at}
use Rattle.page_store.specs.page_hash.Names.{name_at, find, is_name}
use Rattle.page_store.specs.page_hash.declared.PageName.{PageName}
use Rattle.page_store.proofs.page_hash.NameLaws.{find-some, is_name-true, is_name-same}
use Rattle.page_store.specs.page_lists.ListsSeen.{first_listed, without_frame}
use Rattle.page_store.proofs.page_lists.ListLemmas.{Contains-first}
use Rattle.page_store.specs.page_lock.Rows.{row_at, clear_row}
use Rattle.page_store.specs.page_lock.declared.Row.{Row}
use Rattle.page_store.specs.Bays.{BaySeen}
use Rattle.page_store.specs.Bytes.{clip}
use Rattle.page_store.specs.Laws.{Aborts}
use Rattle.page_store.specs.Moves.{is_only, family_of}
use Rattle.page_store.specs.Notes.{Note, Notes}
use Rattle.page_store.specs.Parts.{rows_without}
use Rattle.page_store.specs.Seen.{StoreSeen, IsListedFrame, own_frame, residence}
use Rattle.page_store.specs.Steps.{next_frame, next_name, name_in, home_bytes, after_abort, at_frame, with_page_given_up, without_snapshot}
use Rattle.page_store.specs.StoreFits.{StoreFits, IsClean}
use Rattle.page_store.specs.Transfers.{is_rewritten_in}
use Rattle.page_store.specs.Value.{value_in, backing_value, tells}
use Rattle.page_store.specs.declared.place.Place.{Place}
use Rattle.page_store.specs.declared.residence.Residence.TheVariants.{Home, Absent}
use Rattle.page_store.proofs.FrameLaws.{home-unsourced}
use Rattle.page_store.proofs.QueryLemmas.{absent-is, home-is, some-within}
use Rattle.vm_world.specs.hat_layer.declared.translation.Translation.{Translation}
use Rattle.vm_world.specs.flat_model.Words.{Page}
use Rattle.vm_world.specs.FramesFit.{DisksFit}
use Rattle.vm_world.specs.MemoryFits.{MemoryFits}
use Rattle.vm_world.specs.NotesFit.{NotesFit, PushFits}
use Rattle.vm_world.specs.Pages.{page_value}
use Rattle.vm_world.specs.Segments.{Spaces}
use Rattle.vm_world.specs.Serving.{LosesFrame}
use Rattle.vm_world.specs.TranslationsFit.{HasWritten, IsModified}
use Rattle.vm_world.specs.World.{World, core_of, world_table, slot_name, is_page_name}
use Rattle.vm_world.specs.WorldSteps.{WorldStep, stays, cut_page}
use Rattle.vm_world.proofs.FrameRule.{exists-page}
use Rattle.seg_ops.specs.Copies.{HasBytes, IsKnownLater, bytes_kept}
use Rattle.seg_ops.proofs.KeptBytes.{home-has, uncut, unlisted-kept, lost-has}
use Rattle.seg_ops.proofs.Fills.{Elsewhere, next-listed, held-by, away-home, own-apart, rewritten-same, was-taken}
use Rattle.seg_ops.proofs.FillSteps.{home-value, next-whole}
use Rattle.seg_ops.proofs.Marks.{cases-name}
use Rattle.seg_ops.proofs.StillSteps.{with_tables, memory_of, tell-kept, value-is}

-- What the store's call says of the next frame, which is freed.
pub record Frees (s new : StoreSeen) (n : PageName) (frame : ℕ) : Type 0 where
  pub next : next_frame s ≡ Some frame
  pub named : name_at s.names frame ≡ Some n
  pub done : new ≡ record s { names = slice_set s.names frame None; rows = slice_set s.rows frame clear_row; cached = without_frame s.cached frame; free = s.free ++ frame ∷ [] }
  pub elsewhere : (j : ℕ) → j ≢ frame → Elsewhere s new j
  pub row : row_at new.rows frame ≡ clear_row
  pub lost : name_at new.names frame ≡ None
  pub laws : Aborts s new n

no-other : (k frame : ℕ) (snapshot source : Option ℕ) → snapshot ≡ None → source ≡ None → k ≢ frame → ((k == frame) || (is_only snapshot k || is_only source k)) ≡ false
no-other k frame snapshot source a b ne =
    ap (λ (o : Option ℕ). (k == frame) || (is_only o k || is_only source k)) a ∙ ap (λ (o : Option ℕ). (k == frame) || (is_only None k || is_only o k)) b
    ∙ elim (eqb_tells k frame) [ inl same ↦ absurd (ne same.1) | inr apart ↦ ap (λ (b : Bool). b || false) apart.0 ]

pub frees-next : (w : World) (spaces : Spaces) (new : StoreSeen) (n : PageName) (frame : ℕ) → MemoryFits (memory_of w spaces) → next_frame w.store ≡ Some frame → name_at w.store.names frame ≡ Some n → new ≡ after_abort w.store n → Aborts w.store new n → Frees w.store new n frame
frees-next w spaces new n frame f next named step laws =
    let s = w.store in
    let listed = next-listed s frame next in
    let there = f.frames.sound.listed frame listed in
    let found : find s.names n ≡ Some frame = find-some s.names n frame f.frames.sound.distinct named in
    let at_row = by_snapshot (row_at s.rows frame).snapshot refl listed in
    let lt : frame < length s.frames = some-within s.frames frame there in
    let no_source = home-unsourced (bytes_at s.frames frame) (name_at s.names frame) (row_at s.rows frame) (f.frames.sound.each frame lt) there in
    let done = step ∙ ap (λ (o : Option ℕ). at_frame o s (λ g. with_page_given_up (without_snapshot s g) g (bytes_at s.frames g))) found
    ∙ ap (λ (o : Option ℕ). with_page_given_up (record s { rows = rows_without o s.rows frame }) frame (bytes_at s.frames frame)) at_row ∙ by_bytes (bytes_at s.frames frame) there in
    let out : (j : ℕ) → j ≢ frame → family_of s (find s.names n) j ≡ false = λ j ne. ap (λ (o : Option ℕ). family_of s o j) found ∙ no-other j frame (row_at s.rows frame).snapshot (row_at s.rows frame).source at_row no_source ne in
    record {
      next = next;
      named = named;
      done = done;
      elsewhere = λ j ne. record {
        bytes = laws.touches.bytes j (out j ne);
        name = laws.touches.names j (out j ne);
        row = laws.touches.rows j (out j ne);
        listed = λ l. elim l [ inl h ↦ inl ((laws.touches.free j (out j ne)).0 h) | inr h ↦ inr ((laws.touches.cached j (out j ne)).0 h) ];
      };
      row = ap (λ (x : StoreSeen). row_at x.rows frame) done ∙ get_or-set_same s.rows frame clear_row clear_row (let e = f.frames.sound.rows in omega (arith, lt, e));
      lost = ap (λ (x : StoreSeen). name_at x.names frame) done ∙ get_or-set_same s.names frame None None (let e = f.frames.sound.names in omega (arith, lt, e));
      laws = laws;
    }
  where
    by_snapshot : (o : Option ℕ) → (row_at w.store.rows frame).snapshot ≡ o → IsListedFrame w.store frame → (row_at w.store.rows frame).snapshot ≡ None
    by_snapshot None e listed = e
    by_snapshot (Some copy) e listed = absurd (f.frames.sound.paired.unlisted frame copy e listed)

    by_bytes : (b : Option (List ℕ)) → IsSome b → with_page_given_up w.store frame b ≡ record w.store { names = slice_set w.store.names frame None; rows = slice_set w.store.rows frame clear_row; cached = without_frame w.store.cached frame; free = w.store.free ++ frame ∷ [] }
    by_bytes None there = absurd (let z : false ≡ true = there in cc)
    by_bytes (Some b) there = refl

-- what is on a list then, and was before
still-free : (s new : StoreSeen) (n : PageName) (frame j : ℕ) → Frees s new n frame → IsListedFrame new j → IsListedFrame s j
still-free s new n frame j k l = elim (cases_eq j frame) [
  | inl e ↦ subst (λ (i : ℕ). IsListedFrame s i) (sym e) (next-listed s frame k.next)
  | inr ne ↦ (k.elsewhere j ne).listed l
]

-- a page that was home elsewhere is there still
stays-elsewhere : (w : World) (spaces : Spaces) (new : StoreSeen) (n m : PageName) (frame g : ℕ) → MemoryFits (memory_of w spaces) → Frees w.store new n frame → g ≢ frame → residence w.store m ≡ Home g → residence new m ≡ Home g
stays-elsewhere w spaces new n m frame g f k apart home =
    k.laws.stay m (λ e. apart (f.frames.sound.distinct g frame n (held-by w.store m g home ∙ ap (λ (x : PageName). Some x) e) k.named)) ∙ home

still-modified : (s new : StoreSeen) (places : List (Option Translation)) (n : PageName) (frame j : ℕ) → Frees s new n frame → j ≢ frame → IsModified s places j → IsModified new places j
still-modified s new places n frame j k ne m = elim m [ inl r ↦ inl (ap (λ (x : Row). x.modified) (k.elsewhere j ne).row ∙ r) | inr w ↦ inr w ]

-- a name that a frame holds then
held-elsewhere : (s new : StoreSeen) (n m : PageName) (frame j : ℕ) → Frees s new n frame → name_at new.names j ≡ Some m → (j ≢ frame) × (name_at s.names j ≡ Some m)
held-elsewhere s new n m frame j k h = elim (cases_eq j frame) [
  | inl e ↦ absurd (let z : None ≡ Some m = sym k.lost ∙ ap (λ (i : ℕ). name_at new.names i) (sym e) ∙ h in cc)
  | inr ne ↦ (ne, sym (k.elsewhere j ne).name ∙ h)
]

freed-memory : (w : World) (spaces : Spaces) (new : StoreSeen) (n : PageName) (frame : ℕ) → MemoryFits (memory_of w spaces) → Frees w.store new n frame → MemoryFits (memory_of (with_tables w new w.hat) spaces)
freed-memory w spaces new n frame f k =
    let listed = next-listed w.store frame k.next in
    record {
      frames = record {
        sound = k.laws.sound;
        unkept = λ j. elim (cases_eq j frame) [
          | inl e ↦ ap (λ (i : ℕ). (row_at new.rows i).keeps) e ∙ ap (λ (r : Row). r.keeps) k.row
          | inr ne ↦ ap (λ (r : Row). r.keeps) (k.elsewhere j ne).row ∙ f.frames.unkept j
        ];
        unmodified = λ j l. elim (cases_eq j frame) [
          | inl e ↦ ap (λ (i : ℕ). (row_at new.rows i).modified) e ∙ ap (λ (r : Row). r.modified) k.row
          | inr ne ↦ ap (λ (r : Row). r.modified) (k.elsewhere j ne).row ∙ f.frames.unmodified j ((k.elsewhere j ne).listed l)
        ];
        exist = λ j m h. f.frames.exist j m (held-elsewhere w.store new n m frame j k h).1;
      };
      files = f.files;
      disks = subst (λ (b : List BaySeen). DisksFit b w.files.disks (length w.anon.counts)) (sym k.laws.outside.bays) f.disks;
      pool = record { leads = f.pool.leads ∙ sym k.laws.touches.frames; single = f.pool.single };
      translations = λ i t is.
          let l = f.translations i t is in
          let apart : t.frame ≢ frame = λ e. l.unlisted (subst (λ (j : ℕ). IsListedFrame w.store j) (sym e) listed) in
          record {
            spot = l.spot;
            here = l.here;
            name = l.name;
            shows = l.shows;
            home = stays-elsewhere w spaces new n l.name frame t.frame f k apart l.home;
            unlisted = λ h. l.unlisted (still-free w.store new n frame t.frame k h);
            allowed = l.allowed;
            writable = l.writable;
          };
      unpushed = λ j s h unpushed home.
          let e = held-elsewhere w.store new n (slot_name s) frame j k h in
          still-modified w.store new w.hat.places n frame j k e.0 (f.unpushed j s e.1 unpushed (subst (λ (b : Option (List ℕ)). IsSome b) (k.elsewhere j e.0).bytes home));
      counts = f.counts;
      segments = f.segments;
    }

freed-notes : (w : World) (spaces : Spaces) (new : StoreSeen) (n : PageName) (frame : ℕ) (notes : Notes) → MemoryFits (memory_of w spaces) → Frees w.store new n frame → StoreFits new notes (world_table w) → NotesFit w notes → NotesFit (with_tables w new w.hat) notes
freed-notes w spaces new n frame notes f k fits nf = record {
  stored = fits;
  clean = λ j m name_is there.
      let e = held-elsewhere w.store new n m frame j k name_is in
      elim (nf.clean j m e.1 (subst (λ (b : Option (List ℕ)). IsSome b) (k.elsewhere j e.0).bytes there)) [
        | inl x ↦ inl (still-modified w.store new w.hat.places n frame j k e.0 x)
        | inr c ↦ inr (record {
          same = λ tell b h. c.same (subst (λ (x : Bool). IsTrue x) (tells-same m) tell) b (sym (k.elsewhere j e.0).bytes ∙ h) ∙ sym (stored-same (world_table w m));
          unwritten = λ seat note is writes same.
              let u = c.unwritten seat note is writes same in
              (ap (λ (r : Row). r.gone) (k.elsewhere note.frame (apart seat note is)).row ∙ u.0, u.1);
        })
      ];
  pushes = λ seat note is writes there. push seat note is (nf.pushes seat note is writes (λ gone. there (ap (λ (r : Row). r.gone) (k.elsewhere note.frame (apart seat note is)).row ∙ gone)));
  gone = λ seat note is writes gone.
      elim (nf.gone seat note is writes (sym (ap (λ (r : Row). r.gone) (k.elsewhere note.frame (apart seat note is)).row) ∙ gone)) [
        | inl a ↦ inl a
        | inr b ↦ elim b [
          | inl c ↦ inr (inl c)
          | inr d ↦ elim (cases_eq d.0 frame) [
            | inr ne ↦ inr (inr (d.0, stays-elsewhere w spaces new n note.name frame d.0 f k ne d.1))
            | inl e ↦ inl (was-taken w spaces frame seat notes note f listed nf is writes (subst (λ (i : ℕ). residence w.store note.name ≡ Home i) e d.1))
          ]
        ]
      ];
  sizes = nf.sizes;
}
  where
    listed : IsListedFrame w.store frame
    listed = next-listed w.store frame k.next

    apart : (seat : ℕ) (note : Note) → notes seat ≡ Some note → note.frame ≢ frame
    apart seat note is e = away-home (bytes_at w.store.frames frame) (ap (λ (i : ℕ). bytes_at w.store.frames i) (sym e) ∙ (nf.stored.each_note seat note is).away) (f.frames.sound.listed frame listed)

    stored-same : (p : Place) → backing_value new notes p ≡ backing_value w.store notes p
    stored-same p = ap (λ (b : List BaySeen). backing_value (record w.store { bays = b }) notes p) k.laws.outside.bays

    tells-same : (m : PageName) → tells new notes (world_table w m).disk ≡ tells w.store notes (world_table w m).disk
    tells-same m = ap (λ (b : List BaySeen). tells (record w.store { bays = b }) notes (world_table w m).disk) k.laws.outside.bays

    push : (seat : ℕ) (note : Note) → notes seat ≡ Some note → PushFits w.store w.hat.places (world_table w) note → PushFits new w.hat.places (world_table w) note
    push seat note is p =
        let source : (row_at new.rows note.frame).source ≡ (row_at w.store.rows note.frame).source = ap (λ (r : Row). r.source) (k.elsewhere note.frame (apart seat note is)).row in
        let own : own_frame new note.frame ≡ own_frame w.store note.frame = ap (λ (o : Option ℕ). unwrap_or o note.frame) source in
        let far = own-apart w.store note.frame frame (row_at w.store.rows note.frame).source f.frames.sound listed (apart seat note is) refl in
        let other = k.elsewhere (own_frame w.store note.frame) far in
        record {
          pushed = p.pushed;
          same = elim p.same [
            | inl r ↦ inl (elim r [
              | inl was ↦ inl (ap (λ (o : Option ℕ). is_rewritten_in o new) source ∙ rewritten-same w.store new (row_at w.store.rows note.frame).source note.frame other.row ∙ was)
              | inr x ↦ inr (subst (λ (i : ℕ). HasWritten w.hat.places i) (sym own) x)
            ])
            | inr s ↦ inr (record { valid = s.valid; bytes = λ b h. s.bytes b (sym other.bytes ∙ ap (λ (i : ℕ). bytes_at new.frames i) (sym own) ∙ h) })
          ];
        }

-- THE STEP: the page that the frame held is cut at its valid bytes.
pub frees-step : (w : World) (spaces : Spaces) (new : StoreSeen) (n : PageName) (frame : ℕ) → MemoryFits (memory_of w spaces) → Frees w.store new n frame → WorldStep w (with_tables w new w.hat) spaces stays (is_name (next_name w.store))
frees-step w spaces new n frame f k =
    let taken : next_name w.store ≡ Some n = ap (name_in w.store.names) k.next ∙ k.named in
    record {
      tables = record { maps = refl; counts = refl; reserved = refl; disks = refl; infos = refl };
      core = ap core_of k.done;
      frames = k.laws.touches.frames;
      bays = k.laws.outside.bays;
      memory = freed-memory w spaces new n frame f k;
      notes = λ notes trip nf. freed-notes w spaces new n frame notes f k (k.laws.others notes (world_table w) nf.stored).fits nf;
      tells = λ notes trip nf. tell-kept w new w.hat notes (k.laws.others notes (world_table w) nf.stored).alike;
      whole = λ notes m trip nf tell exists cut. next-whole w spaces notes m f cut;
      pages = λ notes m trip nf tell there.
          let is = exists-page w m f.files there in
          let call = k.laws.others notes (world_table w) nf.stored in
          elim (cases_Bool (is_name (Some n) m)) [
            | inr other ↦
                let ne : m ≢ n = λ e. let z : true ≡ false = sym (is_name-same n) ∙ ap (is_name (Some n)) (sym e) ∙ other in cc in
                value-is (with_tables w new w.hat) notes m is ∙ call.values m ne (tell m is) ∙ sym (value-is w notes m is)
                ∙ sym (ap (λ (b : Bool). cut_page b (world_table w m).valid (page_value w notes m)) (ap (λ (o : Option PageName). is_name o m) taken ∙ other))
            | inl same ↦
                let e : n ≡ m = let z : Some n ≡ Some m = is_name-true (Some n) m same in cc in
                subst (λ (x : PageName). page_value (with_tables w new w.hat) notes x ≡ cut_page (is_name (next_name w.store) x) (world_table w x).valid (page_value w notes x)) e
                (own_page notes nf (tell n (subst (λ (x : PageName). IsTrue (is_page_name w.files w.anon x)) (sym e) is)) (subst (λ (x : PageName). IsTrue (is_page_name w.files w.anon x)) (sym e) is) taken)
          ];
    }
  where
    own_page : (notes : Notes) → NotesFit w notes → IsTrue (tells w.store notes (world_table w n).disk) → IsTrue (is_page_name w.files w.anon n) → next_name w.store ≡ Some n
        → page_value (with_tables w new w.hat) notes n ≡ cut_page (is_name (next_name w.store) n) (world_table w n).valid (page_value w notes n)
    own_page notes nf tell is taken =
        let listed = next-listed w.store frame k.next in
        let cached : Contains w.store.cached frame = elim listed [ inl h ↦ absurd (let z : Some n ≡ None = sym k.named ∙ f.frames.sound.unnamed frame h in cc) | inr h ↦ h ] in
        let clean : IsClean w.store notes (world_table w) frame n = nf.stored.each_cached frame n cached k.named in
        let v = home-value w.store notes (world_table w) n frame (bytes_at w.store.frames frame) (find-some w.store.names n frame f.frames.sound.distinct k.named) refl (f.frames.sound.listed frame listed) in
        value-is (with_tables w new w.hat) notes n is
        ∙ ap (λ (o : Option ℕ). value_in o new notes (world_table w n)) (absent-is new n k.laws.sound k.laws.absent)
        ∙ ap (λ (b : List BaySeen). backing_value (record w.store { bays = b }) notes (world_table w n)) k.laws.outside.bays
        ∙ sym (clean.same tell v.0 v.1)
        ∙ ap (λ (b : Page). clip (world_table w n).valid b) (sym v.2 ∙ sym (value-is w notes n is))
        ∙ sym (ap (λ (b : Bool). cut_page b (world_table w n).valid (page_value w notes n)) (ap (λ (o : Option PageName). is_name o n) taken ∙ is_name-same n))

-- THE NEXT FRAME is the same, and free.
pub frees-first : (w : World) (spaces : Spaces) (new : StoreSeen) (n : PageName) (frame : ℕ) → MemoryFits (memory_of w spaces) → Frees w.store new n frame → next_frame new ≡ Some frame
frees-first w spaces new n frame f k = ap next_frame k.done ∙ by_free w.store.free refl
  where
    by_free : (xs : List ℕ) → w.store.free ≡ xs → first_listed (xs ++ frame ∷ []) (without_frame w.store.cached frame) ≡ Some frame
    by_free [] e = refl
    by_free (x ∷ xs) e = absurd (
        let first : x ≡ frame = let z : Some x ≡ Some frame = sym (ap (λ (l : List ℕ). first_listed l w.store.cached) e) ∙ k.next in cc in
        let free : Contains w.store.free frame = subst (λ (l : List ℕ). Contains l frame) (sym e) (Contains-first x frame xs first) in
        let z : Some n ≡ None = sym k.named ∙ f.frames.sound.unnamed frame free in cc)

-- a page that stays home elsewhere has the bytes that it had
elsewhere-has : (w : World) (spaces : Spaces) (new : StoreSeen) (n page : PageName) (frame g : ℕ) → MemoryFits (memory_of w spaces) → Frees w.store new n frame → g ≢ frame → residence w.store page ≡ Home g → ¬ IsListedFrame w.store g → HasBytes (with_tables w new w.hat) page (bytes_kept w page)
elsewhere-has w spaces new n page frame g f k apart home unlisted = λ notes now tell.
    let after = stays-elsewhere w spaces new n page frame g f k apart home in
    home-has (with_tables w new w.hat) spaces page g (freed-memory w spaces new n frame f k) after notes
    ∙ ap (home_bytes new) (home-is new page g after).found ∙ ap (λ (b : Option (List ℕ)). unwrap_or b []) (k.elsewhere g apart).bytes
    ∙ sym (ap (home_bytes w.store) (home-is w.store page g home).found) ∙ sym (unlisted-kept w spaces page g f home unlisted)

-- WHAT HOLDS OF THE WORLD once the next frame was freed, where it held a page.
pub record IsFreed (w : World) (new : StoreSeen) (spaces : Spaces) : Type 0 where
  pub same : next_frame new ≡ next_frame w.store
  pub free : next_name new ≡ None
  pub took : IfSome (next_name w.store) (λ name. LosesFrame w (with_tables w new w.hat) name)
  pub homes : (page : PageName) (frame : ℕ) → residence w.store page ≡ Home frame → ¬ IsListedFrame w.store frame → residence new page ≡ Home frame
  pub absent : (page : PageName) → residence w.store page ≡ Absent → residence new page ≡ Absent
  pub lists : (frame : ℕ) → IsListedFrame new frame → IsListedFrame w.store frame
  pub step : WorldStep w (with_tables w new w.hat) spaces stays (is_name (next_name w.store))
  pub bytes : (known : Notes) (page : PageName) (frame : ℕ) → NotesFit w known → residence w.store page ≡ Home frame → IsKnownLater w page frame → HasBytes (with_tables w new w.hat) page (bytes_kept w page)

nothing-lost : (w : World) (spaces : Spaces) → MemoryFits (memory_of w spaces) → next_name w.store ≡ None → WorldStep w w spaces stays (is_name (next_name w.store))
nothing-lost w spaces f e = record {
  tables = record { maps = refl; counts = refl; reserved = refl; disks = refl; infos = refl };
  core = refl;
  frames = refl;
  bays = refl;
  memory = f;
  notes = λ notes trip nf. nf;
  tells = λ notes trip nf. ((λ tell. tell), (λ tell. tell));
  whole = λ notes n trip nf tell exists cut. absurd (let z : false ≡ true = sym (ap (λ (o : Option PageName). is_name o n) e) ∙ cut in cc);
  pages = λ notes n trip nf tell exists. sym (ap (λ (o : Option PageName). cut_page (is_name o n) (world_table w n).valid (page_value w notes n)) e);
}

pub freed : (w : World) (spaces : Spaces) (new : StoreSeen) (lost : Option PageName) → MemoryFits (memory_of w spaces) → lost ≡ next_name w.store → MatchOption lost (new ≡ w.store) (λ n. new ≡ after_abort w.store n) → IfSome lost (λ n. Aborts w.store new n) → IsFreed w new spaces
freed w spaces new None f e done laws = subst (λ (s : StoreSeen). IsFreed w s spaces) (let same : new ≡ w.store = done in sym same) (record {
  same = refl;
  free = sym e;
  took = subst (λ (o : Option PageName). IfSome o (λ name. LosesFrame w w name)) e tt;
  homes = λ page frame home unlisted. home;
  absent = λ page none. none;
  lists = λ frame l. l;
  step = nothing-lost w spaces f (sym e);
  bytes = λ known page frame nf home later notes now tell. home-has w spaces page frame f home notes ∙ sym (uncut w spaces page frame f home (ap (λ (o : Option PageName). is_name o page) (sym e)));
})
freed w spaces new (Some n) f e done laws = by_frame (next_frame w.store) refl
  where
    by_frame : (o : Option ℕ) → next_frame w.store ≡ o → IsFreed w new spaces
    by_frame None next = absurd (let z : Some n ≡ None = e ∙ ap (name_in w.store.names) next in cc)
    by_frame (Some frame) next =
        let named : name_at w.store.names frame ≡ Some n = sym (ap (name_in w.store.names) next) ∙ sym e in
        let k = frees-next w spaces new n frame f next named done laws in
        let first = frees-first w spaces new n frame f k in
        record {
          same = first ∙ sym next;
          free = ap (name_in new.names) first ∙ k.lost;
          took = subst (λ (o : Option PageName). IfSome o (λ name. LosesFrame w (with_tables w new w.hat) name)) e (record { frame = frame; held = named; taken = λ h. let z : None ≡ Some n = sym k.lost ∙ h in cc });
          homes = λ page g home unlisted. stays-elsewhere w spaces new n page frame g f k (λ same. unlisted (subst (λ (j : ℕ). IsListedFrame w.store j) (sym same) (next-listed w.store frame next))) home;
          absent = λ page none. elim (cases-name n page) [
            | inl e ↦ ap (residence new) e ∙ k.laws.absent
            | inr ne ↦ k.laws.stay page ne ∙ none
          ];
          lists = λ g l. still-free w.store new n frame g k l;
          step = frees-step w spaces new n frame f k;
          bytes = λ known page g nf home later. elim later [
            | inl unlisted ↦ elsewhere-has w spaces new n page frame g f k (λ same. unlisted (subst (λ (j : ℕ). IsListedFrame w.store j) (sym same) (next-listed w.store frame next))) home unlisted
            | inr its ↦
                let same : frame ≡ g = let z : Some frame ≡ Some g = sym next ∙ its.0 in cc in
                let is : n ≡ page = let z : Some n ≡ Some page = sym named ∙ ap (name_at w.store.names) same ∙ held-by w.store page g home in cc in
                lost-has w spaces page g f home known new nf its.0 its.1 k.laws.sound k.laws.outside.bays (ap (residence new) (sym is) ∙ k.laws.absent)
          ];
        }
