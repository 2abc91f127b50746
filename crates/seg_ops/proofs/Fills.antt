-- A frame that is taken for a page of zeros: memory and the notes fit, and the name that the frame held is cut at its valid bytes.
use Rattle.std.proofs.Common.{◌≡◌, ◌≢◌, ℕ, zero, suc, ◌-◌, ◌≤◌, Bool, true, false, cond, List, [], ◌∷◌, ◌++◌, length, take, replicate, Option, Some, None, refl, sym, ap, ◌∙◌, ◌⊎◌, inl, inr, subst, arith, slice_index_or, Contains}
use Rattle.std.specs.Prelude.{IsTrue, IsSome, not, unwrap_or}
use Rattle.std.proofs.lemmas.Bool.{cases_eq, cases_Bool, not-true}
use Rattle.std.proofs.lemmas.Bool.Decides.{eqb_tells}
use Rattle.page_store.specs.core_arena.Bytes.{bytes_at, zeros}
use Rattle.page_store.specs.page_hash.Names.{name_at, find}
use Rattle.page_store.specs.page_hash.declared.PageName.{PageName}
use Rattle.page_store.proofs.page_hash.NameLaws.{find-at, find-none}
use Rattle.page_store.specs.page_lists.ListsSeen.{first_listed}
use Rattle.page_store.proofs.page_lists.ListLemmas.{Contains-first}
use Rattle.page_store.specs.page_lock.Rows.{row_at}
use Rattle.page_store.specs.page_lock.declared.Row.{Row}
use Rattle.page_store.specs.Bays.{BaySeen, block_of}
use Rattle.page_store.specs.Bytes.{clip}
use Rattle.page_store.specs.Laws.{FillsPage}
use Rattle.page_store.specs.Moves.{is_only}
use Rattle.page_store.specs.Notes.{Note, Notes}
use Rattle.page_store.specs.Seen.{StoreSeen, IsSoundStore, IsListedFrame, own_frame, residence}
use Rattle.page_store.specs.Steps.{next_frame, name_in, fresh_row}
use Rattle.page_store.specs.StoreFits.{StoreFits, IsClean}
use Rattle.page_store.specs.Table.{PlaceTable}
use Rattle.page_store.specs.Transfers.{is_rewritten_in}
use Rattle.page_store.specs.Value.{backing_value, tells, content_of}
use Rattle.page_store.specs.declared.place.Place.{Place}
use Rattle.page_store.specs.declared.residence.Residence.TheVariants.{Home, Absent}
use Rattle.page_store.proofs.QueryLemmas.{home-is, absent-is}
use Rattle.vm_world.specs.hat_layer.declared.translation.Translation.{Translation}
use Rattle.vm_world.specs.FramesFit.{FilesFit, DisksFit}
use Rattle.vm_world.specs.MemoryFits.{MemoryFits}
use Rattle.vm_world.specs.NotesFit.{NotesFit, PushFits}
use Rattle.vm_world.specs.Segments.{Spaces}
use Rattle.vm_world.specs.TranslationsFit.{HasWritten, IsModified}
use Rattle.vm_world.specs.World.{World, core_of, world_table, slot_name, is_unpushed, is_page_name, page_exists}
use Rattle.vm_world.proofs.PageNames.{page-cases, file-place, slot-place}
use Rattle.vm_world.proofs.FrameRule.{exists-page}
use Rattle.seg_ops.proofs.StillSteps.{with_tables, memory_of}

-- What the store's call says of a page that the next frame is taken for.
pub record TakesFor (old new : StoreSeen) (name : PageName) (frame : ℕ) : Type 0 where
  pub page : List ℕ
  pub modified : Bool
  pub given : Notes → PlaceTable → List ℕ
  pub next : next_frame old ≡ Some frame
  pub core : core_of new ≡ core_of old
  pub absent : residence old name ≡ Absent
  pub bytes : bytes_at new.frames frame ≡ Some page
  pub home : residence new name ≡ Home frame
  pub row : row_at new.rows frame ≡ fresh_row modified
  pub unlisted : ¬ IsListedFrame new frame
  pub laws : FillsPage old new name modified given

pub next-listed : (s : StoreSeen) (frame : ℕ) → next_frame s ≡ Some frame → IsListedFrame s frame
next-listed s frame e = by_lists s.free s.cached e
  where
    by_lists : (free cached : List ℕ) → first_listed free cached ≡ Some frame → Contains free frame ⊎ Contains cached frame
    by_lists [] [] e = absurd (cc)
    by_lists [] (x ∷ xs) e = inr (Contains-first x frame xs (let z : Some x ≡ Some frame = e in cc))
    by_lists (x ∷ xs) cached e = inl (Contains-first x frame xs (let z : Some x ≡ Some frame = e in cc))

pub held-by : (s : StoreSeen) (n : PageName) (frame : ℕ) → residence s n ≡ Home frame → name_at s.names frame ≡ Some n
held-by s n frame home = find-at s.names n frame (home-is s n frame home).found

-- what the frames that weren't taken keep
pub record Elsewhere (old new : StoreSeen) (j : ℕ) : Type 0 where
  pub bytes : bytes_at new.frames j ≡ bytes_at old.frames j
  pub name : name_at new.names j ≡ name_at old.names j
  pub row : row_at new.rows j ≡ row_at old.rows j
  pub listed : IsListedFrame new j → IsListedFrame old j

pub elsewhere : (old new : StoreSeen) (name : PageName) (frame j : ℕ) → TakesFor old new name frame → j ≢ frame → Elsewhere old new j
elsewhere old new name frame j k ne =
    let t = k.laws.touches in
    let out : is_only (next_frame old) j ≡ false = ap (λ (o : Option ℕ). is_only o j) k.next ∙ elim (eqb_tells j frame) [ inl same ↦ absurd (ne same.1) | inr apart ↦ apart.0 ] in
    record {
      bytes = t.bytes j out;
      name = t.names j out;
      row = t.rows j out;
      listed = λ l. elim l [ inl h ↦ inl ((t.free j out).0 h) | inr h ↦ inr ((t.cached j out).0 h) ];
    }

-- a page that was home in another frame is there still
pub stays-home : (old new : StoreSeen) (name n : PageName) (frame g : ℕ) → IsSoundStore old → TakesFor old new name frame → g ≢ frame → residence old n ≡ Home g → residence new n ≡ Home g
stays-home old new name n frame g sound k apart home =
    k.laws.stay n
    (λ e. let z : Absent ≡ Home g = sym k.absent ∙ ap (residence old) (sym e) ∙ home in cc)
    (λ e. apart (sound.distinct g frame n (held-by old n g home) (sym (ap (name_in old.names) k.next) ∙ e)))
    ∙ home

pub still-listed : (old new : StoreSeen) (name : PageName) (frame j : ℕ) → TakesFor old new name frame → IsListedFrame new j → (j ≢ frame) × IsListedFrame old j
still-listed old new name frame j k l = elim (cases_eq j frame) [
  | inl e ↦ absurd (k.unlisted (subst (λ (i : ℕ). IsListedFrame new i) e l))
  | inr ne ↦ (ne, (elsewhere old new name frame j k ne).listed l)
]

pub modified-elsewhere : (old new : StoreSeen) (places : List (Option Translation)) (name : PageName) (frame j : ℕ) → TakesFor old new name frame → j ≢ frame → IsModified old places j → IsModified new places j
modified-elsewhere old new places name frame j k ne m = elim m [ inl r ↦ inl (ap (λ (x : Row). x.modified) (elsewhere old new name frame j k ne).row ∙ r) | inr w ↦ inr w ]

-- a name that a frame holds then: the new one in the taken frame, any other where it was
pub named : (old new : StoreSeen) (name : PageName) (frame j : ℕ) (n : PageName) → TakesFor old new name frame → name_at new.names j ≡ Some n → ((j ≡ frame) × (name ≡ n)) ⊎ ((j ≢ frame) × (name_at old.names j ≡ Some n))
named old new name frame j n k h = elim (cases_eq j frame) [
  | inl e ↦ inl (e, let z : Some name ≡ Some n = sym (held-by new name frame k.home) ∙ ap (λ (i : ℕ). name_at new.names i) (sym e) ∙ h in cc)
  | inr ne ↦ inr (ne, sym (elsewhere old new name frame j k ne).name ∙ h)
]

pub fill-memory : (w : World) (spaces : Spaces) (new : StoreSeen) (name : PageName) (frame : ℕ) → MemoryFits (memory_of w spaces) → (k : TakesFor w.store new name frame) → IsTrue (page_exists w.files w.anon name) → (name.object ≡ 64 → k.modified ≡ true)
    → MemoryFits (memory_of (with_tables w new w.hat) spaces)
fill-memory w spaces new name frame f k exists swap =
    let listed = next-listed w.store frame k.next in
    record {
      frames = record {
        sound = k.laws.sound;
        unkept = λ j. elim (cases_eq j frame) [
          | inl e ↦ ap (λ (i : ℕ). (row_at new.rows i).keeps) e ∙ ap (λ (r : Row). r.keeps) k.row
          | inr ne ↦ ap (λ (r : Row). r.keeps) (elsewhere w.store new name frame j k ne).row ∙ f.frames.unkept j
        ];
        unmodified = λ j l. let r = still-listed w.store new name frame j k l in ap (λ (x : Row). x.modified) (elsewhere w.store new name frame j k r.0).row ∙ f.frames.unmodified j r.1;
        exist = λ j n h. elim (named w.store new name frame j n k h) [ inl e ↦ subst (λ (m : PageName). IsTrue (page_exists w.files w.anon m)) e.1 exists | inr e ↦ f.frames.exist j n e.1 ];
      };
      files = f.files;
      disks = subst (λ (b : List BaySeen). DisksFit b w.files.disks (length w.anon.counts)) (sym k.laws.outside.bays) f.disks;
      pool = record { leads = f.pool.leads ∙ sym k.laws.touches.frames; single = f.pool.single };
      translations = λ i t is.
          let l = f.translations i t is in
          let apart : t.frame ≢ frame = λ e. l.unlisted (subst (λ (j : ℕ). IsListedFrame w.store j) (sym e) listed) in
          record {
            spot = l.spot;
            here = l.here;
            name = l.name;
            shows = l.shows;
            home = stays-home w.store new name l.name frame t.frame f.frames.sound k apart l.home;
            unlisted = λ h. l.unlisted (still-listed w.store new name frame t.frame k h).1;
            allowed = l.allowed;
            writable = l.writable;
          };
      unpushed = λ j s h unpushed home. elim (named w.store new name frame j (slot_name s) k h) [
        | inl e ↦ inl (ap (λ (i : ℕ). (row_at new.rows i).modified) e.0 ∙ ap (λ (r : Row). r.modified) k.row ∙ swap (ap (λ (n : PageName). n.object) e.1))
        | inr e ↦ modified-elsewhere w.store new w.hat.places name frame j k e.0 (f.unpushed j s e.1 unpushed (subst (λ (b : Option (List ℕ)). IsSome b) (elsewhere w.store new name frame j k e.0).bytes home))
      ];
      counts = f.counts;
      segments = f.segments;
    }

abbrev nils : ℕ → List ℕ
nils m = replicate m 0

zeros-cut : (n m : ℕ) → n ≤ m → take n (nils m) ++ nils (m - n) ≡ nils m
zeros-cut zero m le = let e : m - 0 ≡ m = omega arith in ap nils e
zeros-cut (suc n) zero le = absurd (omega (arith, le))
zeros-cut (suc n) (suc m) le = let e : suc m - suc n ≡ m - n = omega arith in ap (λ (k : ℕ). take (suc n) (nils (suc m)) ++ nils k) e ∙ ap (λ (b : List ℕ). 0 ∷ b) (zeros-cut n m (omega (arith, le)))

pub clip-zeros : (n : ℕ) → n ≤ 4096 → clip n zeros ≡ zeros
clip-zeros n le = zeros-cut n 4096 le

pub away-home : (b : Option (List ℕ)) → b ≡ None → IsSome b → ⊥
away-home None e h = let z : false ≡ true = h in cc
away-home (Some x) e h = absurd (cc)

-- whether a page was never pushed, its place says
pub blank-is : (w : World) (n : PageName) → FilesFit w.files → IsTrue (is_page_name w.files w.anon n) → (world_table w n).blank ≡ is_unpushed w.files w.anon n
blank-is w n fit is = elim (page-cases w.files w.anon n is) [
  | inl s ↦
      let same : n ≡ slot_name n.page = λ i. record { object = s.0 i; page = n.page } in
      ap (λ (m : PageName). (world_table w m).blank) same ∙ ap (λ (p : Place). p.blank) (slot-place w.files w.anon n.page fit s.1) ∙ ap (λ (m : PageName). is_unpushed w.files w.anon m) (sym same)
  | inr f ↦ ap (λ (p : Place). p.blank) (file-place w.files w.anon n.object n.page f.1 f.2)
]

-- a note is none of the taken frame's, nor of its own page's
pub note-apart : (w : World) (spaces : Spaces) (new : StoreSeen) (name : PageName) (frame seat : ℕ) (notes : Notes) (note : Note) → MemoryFits (memory_of w spaces) → TakesFor w.store new name frame → StoreFits w.store notes (world_table w) → notes seat ≡ Some note → note.frame ≢ frame
note-apart w spaces new name frame seat notes note f k fits is e =
    away-home (bytes_at w.store.frames frame) (ap (λ (i : ℕ). bytes_at w.store.frames i) (sym e) ∙ (fits.each_note seat note is).away) (f.frames.sound.listed frame (next-listed w.store frame k.next))

pub own-apart : (s : StoreSeen) (note frame : ℕ) (o : Option ℕ) → IsSoundStore s → IsListedFrame s frame → note ≢ frame → (row_at s.rows note).source ≡ o → unwrap_or o note ≢ frame
own-apart s note frame None sound listed ne e = ne
own-apart s note frame (Some own) sound listed ne e = λ same. sound.paired.unlisted own note (sound.paired.snapshot own note e) (subst (λ (i : ℕ). IsListedFrame s i) (sym same) listed)

pub rewritten-same : (old new : StoreSeen) (o : Option ℕ) (note : ℕ) → row_at new.rows (unwrap_or o note) ≡ row_at old.rows (unwrap_or o note) → is_rewritten_in o new ≡ is_rewritten_in o old
rewritten-same old new None note e = refl
rewritten-same old new (Some own) note e = ap (λ (r : Row). r.rewritten) e

pub push-stays : (w : World) (spaces : Spaces) (new : StoreSeen) (name : PageName) (frame seat : ℕ) (notes : Notes) (note : Note) → MemoryFits (memory_of w spaces) → TakesFor w.store new name frame → StoreFits w.store notes (world_table w) → notes seat ≡ Some note
    → PushFits w.store w.hat.places (world_table w) note → PushFits new w.hat.places (world_table w) note
push-stays w spaces new name frame seat notes note f k fits is p =
    let apart = note-apart w spaces new name frame seat notes note f k fits is in
    let source : (row_at new.rows note.frame).source ≡ (row_at w.store.rows note.frame).source = ap (λ (r : Row). r.source) (elsewhere w.store new name frame note.frame k apart).row in
    let own : own_frame new note.frame ≡ own_frame w.store note.frame = ap (λ (o : Option ℕ). unwrap_or o note.frame) source in
    let far = own-apart w.store note.frame frame (row_at w.store.rows note.frame).source f.frames.sound (next-listed w.store frame k.next) apart refl in
    let other = elsewhere w.store new name frame (own_frame w.store note.frame) k far in
    record {
      pushed = p.pushed;
      same = elim p.same [
        | inl r ↦ inl (elim r [
          | inl was ↦ inl (ap (λ (o : Option ℕ). is_rewritten_in o new) source ∙ rewritten-same w.store new (row_at w.store.rows note.frame).source note.frame other.row ∙ was)
          | inr x ↦ inr (subst (λ (i : ℕ). HasWritten w.hat.places i) (sym own) x)
        ])
        | inr s ↦ inr (record { valid = s.valid; bytes = λ b h. s.bytes b (sym other.bytes ∙ ap (λ (i : ℕ). bytes_at new.frames i) (sym own) ∙ h) })
      ];
    }

-- the page of zeros is clean: it is blank, and only a push of a gone page writes it
clean-taken : (w : World) (spaces : Spaces) (new : StoreSeen) (name : PageName) (frame : ℕ) (notes : Notes) → MemoryFits (memory_of w spaces) → TakesFor w.store new name frame → bytes_at new.frames frame ≡ Some zeros → NotesFit w notes → (world_table w name).blank ≡ true → (world_table w name).valid ≤ 4096
    → IsClean new notes (world_table w) frame name
clean-taken w spaces new name frame notes f k zeroed nf blank valid = record {
  same = λ tell b is.
      let b_is : zeros ≡ b = let z : Some zeros ≡ Some b = sym zeroed ∙ is in cc in
      ap (clip (world_table w name).valid) (sym b_is) ∙ clip-zeros (world_table w name).valid valid
      ∙ sym (ap (λ (x : Bool). cond x zeros (clip (world_table w name).valid (block_of (content_of new notes (world_table w name).disk) (world_table w name).block))) blank);
  unwritten = λ seat note is writes same.
      let apart = note-apart w spaces new name frame seat notes note f k nf.stored is in
      let row = (elsewhere w.store new name frame note.frame k apart).row in
      let none : find w.store.names name ≡ None = absent-is w.store name f.frames.sound k.absent in (
        elim (cases_Bool (row_at w.store.rows note.frame).gone) [
          | inl gone ↦ ap (λ (r : Row). r.gone) row ∙ gone
          | inr there ↦ absurd (find-none w.store.names name (own_frame w.store note.frame) none ((nf.stored.each_note seat note is).out.page there ∙ ap (λ (n : PageName). Some n) same))
        ],
        blank,
      );
}

-- the page of a gone push that loses its home frame is a blank one of a file
pub was-taken : (w : World) (spaces : Spaces) (frame seat : ℕ) (notes : Notes) (note : Note) → MemoryFits (memory_of w spaces) → IsListedFrame w.store frame → NotesFit w notes → notes seat ≡ Some note → note.writes ≡ true → residence w.store note.name ≡ Home frame
    → IsTrue (is_unpushed w.files w.anon note.name) × (note.name.object ≢ 64)
was-taken w spaces frame seat notes note f listed nf is writes home =
    let name_is = held-by w.store note.name frame home in
    let cached : Contains w.store.cached frame = elim listed [ inl h ↦ absurd (let z : Some note.name ≡ None = sym name_is ∙ f.frames.sound.unnamed frame h in cc) | inr h ↦ h ] in
    let blank = ((nf.stored.each_cached frame note.name cached name_is).unwritten seat note is writes refl).1 in
    let real = exists-page w note.name f.files (f.frames.exist frame note.name name_is) in
    let unpushed : is_unpushed w.files w.anon note.name ≡ true = sym (blank-is w note.name f.files real) ∙ blank in (
      unpushed,
      λ e.
          let slot : note.name ≡ slot_name note.name.page = λ i. record { object = e i; page = note.name.page } in
          let swapped : not (slice_index_or w.anon.swapped note.name.page false) ≡ true = ap (λ (n : PageName). is_unpushed w.files w.anon n) (sym slot) ∙ unpushed in
          elim (f.unpushed frame note.name.page (name_is ∙ ap (λ (n : PageName). Some n) slot) (not-true (slice_index_or w.anon.swapped note.name.page false) swapped) (f.frames.sound.listed frame listed)) [
            | inl r ↦ let z : true ≡ false = sym r ∙ f.frames.unmodified frame listed in cc
            | inr x ↦ (f.translations x.place x.translation x.there).unlisted (subst (λ (i : ℕ). IsListedFrame w.store i) (sym x.leads) listed)
          ],
    )

pub fill-notes : (w : World) (spaces : Spaces) (new : StoreSeen) (name : PageName) (frame : ℕ) (notes : Notes) → MemoryFits (memory_of w spaces) → TakesFor w.store new name frame → bytes_at new.frames frame ≡ Some zeros → (world_table w name).blank ≡ true → (world_table w name).valid ≤ 4096
    → StoreFits new notes (world_table w) → NotesFit w notes → NotesFit (with_tables w new w.hat) notes
fill-notes w spaces new name frame notes f k zeroed blank valid fits nf = record {
  stored = fits;
  clean = λ j n name_is there. elim (named w.store new name frame j n k name_is) [
    | inl e ↦ inr (subst (λ (i : ℕ). IsClean new notes (world_table w) i n) (sym e.0) (subst (λ (m : PageName). IsClean new notes (world_table w) frame m) e.1 (clean-taken w spaces new name frame notes f k zeroed nf blank valid)))
    | inr e ↦ elim (nf.clean j n e.1 (subst (λ (b : Option (List ℕ)). IsSome b) (elsewhere w.store new name frame j k e.0).bytes there)) [
      | inl m ↦ inl (modified-elsewhere w.store new w.hat.places name frame j k e.0 m)
      | inr c ↦ inr (record {
        same = λ tell b h. c.same (subst (λ (x : Bool). IsTrue x) (tells-same n) tell) b (sym (elsewhere w.store new name frame j k e.0).bytes ∙ h) ∙ sym (stored-same (world_table w n));
        unwritten = λ seat note is writes same.
            let u = c.unwritten seat note is writes same in
            (ap (λ (r : Row). r.gone) (elsewhere w.store new name frame note.frame k (note-apart w spaces new name frame seat notes note f k nf.stored is)).row ∙ u.0, u.1);
      })
    ]
  ];
  pushes = λ seat note is writes there. push-stays w spaces new name frame seat notes note f k nf.stored is
      (nf.pushes seat note is writes (λ gone. there (ap (λ (r : Row). r.gone) (elsewhere w.store new name frame note.frame k (note-apart w spaces new name frame seat notes note f k nf.stored is)).row ∙ gone)));
  gone = λ seat note is writes gone.
      elim (nf.gone seat note is writes (sym (ap (λ (r : Row). r.gone) (elsewhere w.store new name frame note.frame k (note-apart w spaces new name frame seat notes note f k nf.stored is)).row) ∙ gone)) [
        | inl a ↦ inl a
        | inr b ↦ elim b [
          | inl c ↦ inr (inl c)
          | inr d ↦ elim (cases_eq d.0 frame) [
            | inr ne ↦ inr (inr (d.0, stays-home w.store new name note.name frame d.0 f.frames.sound k ne d.1))
            | inl e ↦ inl (was-taken w spaces frame seat notes note f (next-listed w.store frame k.next) nf is writes (subst (λ (i : ℕ). residence w.store note.name ≡ Home i) e d.1))
          ]
        ]
      ];
  sizes = nf.sizes;
}
  where
    stored-same : (p : Place) → backing_value new notes p ≡ backing_value w.store notes p
    stored-same p = ap (λ (b : List BaySeen). backing_value (record w.store { bays = b }) notes p) k.laws.outside.bays

    tells-same : (n : PageName) → tells new notes (world_table w n).disk ≡ tells w.store notes (world_table w n).disk
    tells-same n = ap (λ (b : List BaySeen). tells (record w.store { bays = b }) notes (world_table w n).disk) k.laws.outside.bays
