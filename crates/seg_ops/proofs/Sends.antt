-- A FLIGHT GOES OUT: memory and the notes fit then with the seat's note, and every page keeps its value, but that the name of the taken frame is cut.
use Rattle.std.proofs.Common.{◌≡◌, ◌≢◌, ℕ, Bool, true, false, cond, List, length, Option, Some, None, refl, sym, ap, ◌∙◌, inl, inr, subst, slice_index_or}
use Rattle.std.specs.Prelude.{IsTrue, IsSome, unwrap_or}
use Rattle.std.specs.Ordering.{nat_cmp}
use Rattle.std.specs.FinMap as finite
use Rattle.std.proofs.lemmas.Bool.{cases_eq, cases_Bool}
use Rattle.page_store.specs.block_device.DiskSeen.{DiskSeen}
use Rattle.page_store.specs.core_arena.Bytes.{bytes_at, zeros}
use Rattle.page_store.specs.page_hash.Names.{name_at, is_name}
use Rattle.page_store.specs.page_hash.declared.PageName.{PageName}
use Rattle.page_store.specs.page_lock.Rows.{row_at}
use Rattle.page_store.specs.Bays.{BaySeen, missing, home, out, bay_at, block_of}
use Rattle.page_store.specs.Bytes.{clip}
use Rattle.page_store.specs.Moves.{TakesFrame}
use Rattle.page_store.specs.Notes.{Note, Notes, with_note}
use Rattle.page_store.specs.Seen.{StoreSeen, IsListedFrame, IsGone, own_frame, residence}
use Rattle.page_store.specs.Steps.{next_name}
use Rattle.page_store.specs.StoreFits.{StoreFits, IsClean}
use Rattle.page_store.specs.Transfers.{is_rewritten_in}
use Rattle.page_store.specs.Value.{backing_value, content_of, content_in_bay, content_in_note}
use Rattle.page_store.specs.declared.place.Place.{Place}
use Rattle.page_store.specs.declared.residence.Residence.TheVariants.{Home}
use Rattle.page_store.proofs.Agree.{own-far}
use Rattle.page_store.proofs.QueryLemmas.{residence-home, home-is}
use Rattle.page_store.proofs.TransferLemmas.{with_note-same, with_note-other}
use Rattle.vm_world.specs.hat_layer.declared.translation.Translation.{Translation}
use Rattle.vm_world.specs.flat_model.Words.{Page}
use Rattle.vm_world.specs.FramesFit.{DisksFit, HasSize}
use Rattle.vm_world.specs.MemoryFits.{MemoryFits}
use Rattle.vm_world.specs.NotesFit.{NotesFit, PushFits}
use Rattle.vm_world.specs.Segments.{Spaces}
use Rattle.vm_world.specs.TranslationsFit.{HasWritten, IsModified}
use Rattle.vm_world.specs.World.{World, world_table, page_exists}
use Rattle.vm_world.specs.WorldSteps.{WorldStep, leaves}
use Rattle.vm_world.proofs.FrameRule.{exists-page}
use Rattle.seg_ops.proofs.Fills.{held-by, was-taken, away-home}
use Rattle.seg_ops.proofs.FillSteps.{next-whole}
use Rattle.seg_ops.proofs.Marks.{cases-name}
use Rattle.seg_ops.proofs.Places.{index-set}
use Rattle.seg_ops.proofs.Sent.{Sends}
use Rattle.seg_ops.proofs.StillSteps.{with_tables, memory_of, value-is}

pub home-not-out : (d : DiskSeen) (seat : ℕ) → home d ≡ out seat → ⊥
home-not-out d seat e = cc

-- a frame that is home then didn't go out
pub stayed : (old new : StoreSeen) (seat : ℕ) (note : Note) (j : ℕ) → Sends old new seat note → IsSome (bytes_at new.frames j) → j ≢ note.frame
stayed old new seat note j s there e = away-home (bytes_at new.frames j) (ap (λ (i : ℕ). bytes_at new.frames i) e ∙ s.away) there

unlisted-out : (old new : StoreSeen) (seat : ℕ) (note : Note) (j : ℕ) → Sends old new seat note → IsListedFrame new j → j ≢ note.frame
unlisted-out old new seat note j s listed e = s.unlisted (subst (λ (i : ℕ). IsListedFrame new i) e listed)

home-same : (b c : Option (List ℕ)) → c ≡ b → IsSome b → IsSome c
home-same b c e h = subst (λ (x : Option (List ℕ)). IsSome x) (sym e) h

-- a page that is home in another frame is there still
stays-home : (old new : StoreSeen) (seat : ℕ) (note : Note) (n : PageName) (g : ℕ) → Sends old new seat note → g ≢ note.frame → residence old n ≡ Home g → residence new n ≡ Home g
stays-home old new seat note n g s apart at =
    let k = s.others g apart in
    residence-home new n g s.sound.distinct (k.name ∙ held-by old n g at) (home-same (bytes_at old.frames g) (bytes_at new.frames g) k.bytes (subst (λ (b : Option (List ℕ)). IsSome b) (sym (home-is old n g at).there) refl))

modified-stays : (old new : StoreSeen) (places : List (Option Translation)) (seat : ℕ) (note : Note) (j : ℕ) → Sends old new seat note → j ≢ note.frame → IsModified old places j → IsModified new places j
modified-stays old new places seat note j s apart m = elim m [ inl r ↦ inl ((s.others j apart).modified ∙ r) | inr x ↦ inr x ]

disks-stay : (old new : StoreSeen) (seat : ℕ) (note : Note) (disks : finite.FinMap nat_cmp ℕ) (slots : ℕ) → Sends old new seat note → DisksFit old.bays disks slots → DisksFit new.bays disks slots
disks-stay old new seat note disks slots s f = subst (λ (b : List BaySeen). DisksFit b disks slots) (sym s.bays) (record {
  numbers = f.numbers;
  there = λ number blocks is. elim (index-set old.bays note.number (out seat) number missing) [
    | inl same ↦ λ e. f.there number blocks is (sym same ∙ e)
    | inr at ↦ λ e. let z : out seat ≡ missing = sym at.1 ∙ e in cc
  ];
  set = λ number low there. f.set number low (λ e. elim (index-set old.bays note.number (out seat) number missing) [
    | inl same ↦ there (same ∙ e)
    | inr at ↦ let z : home note.disk ≡ missing = sym s.was ∙ ap (bay_at old.bays) (sym at.0) ∙ e in cc
  ]);
  swap = λ some. elim (index-set old.bays note.number (out seat) 8 missing) [
    | inl same ↦ λ e. f.swap some (sym same ∙ e)
    | inr at ↦ λ e. let z : out seat ≡ missing = sym at.1 ∙ e in cc
  ];
  unused = λ none. elim (index-set old.bays note.number (out seat) 8 missing) [
    | inl same ↦ same ∙ f.unused none
    | inr at ↦ absurd (let z : home note.disk ≡ missing = sym s.was ∙ ap (bay_at old.bays) (sym at.0) ∙ f.unused none in cc)
  ];
  sizes = λ number d is. elim (index-set old.bays note.number (out seat) number missing) [
    | inl same ↦ f.sizes number d (sym same ∙ is)
    | inr at ↦ absurd (home-not-out d seat (sym is ∙ at.1))
  ];
})

-- MEMORY, once no translation leads to the frame that goes out.
pub sends-memory : (w : World) (spaces : Spaces) (new : StoreSeen) (seat : ℕ) (note : Note) → MemoryFits (memory_of w spaces) → Sends w.store new seat note → IsTrue (page_exists w.files w.anon note.name)
    → ((place : ℕ) (t : Translation) → slice_index_or w.hat.places place None ≡ Some t → t.frame ≢ note.frame) → MemoryFits (memory_of (with_tables w new w.hat) spaces)
sends-memory w spaces new seat note f s exists unled = record {
  frames = record {
    sound = s.sound;
    unkept = λ j. elim (cases_eq j note.frame) [
      | inl e ↦ ap (λ (i : ℕ). (row_at new.rows i).keeps) e ∙ s.keeps
      | inr ne ↦ (s.others j ne).keeps ∙ f.frames.unkept j
    ];
    unmodified = λ j listed. let k = s.others j (unlisted-out w.store new seat note j s listed) in k.modified ∙ f.frames.unmodified j (k.listed listed);
    exist = λ j n h. elim (cases_eq j note.frame) [
      | inl e ↦ subst (λ (m : PageName). IsTrue (page_exists w.files w.anon m)) (sym (s.named n (ap (λ (i : ℕ). name_at new.names i) (sym e) ∙ h))) exists
      | inr ne ↦ f.frames.exist j n (sym (s.others j ne).name ∙ h)
    ];
  };
  files = f.files;
  disks = disks-stay w.store new seat note w.files.disks (length w.anon.counts) s f.disks;
  pool = record { leads = f.pool.leads ∙ sym s.frames; single = f.pool.single };
  translations = λ i t is.
      let l = f.translations i t is in
      let apart = unled i t is in
      record {
        spot = l.spot;
        here = l.here;
        name = l.name;
        shows = l.shows;
        home = stays-home w.store new seat note l.name t.frame s apart l.home;
        unlisted = λ h. l.unlisted ((s.others t.frame apart).listed h);
        allowed = l.allowed;
        writable = l.writable;
      };
  unpushed = λ j slot h unpushed there.
      let apart = stayed w.store new seat note j s there in
      let k = s.others j apart in
      modified-stays w.store new w.hat.places seat note j s apart (f.unpushed j slot (sym k.name ∙ h) unpushed (home-same (bytes_at new.frames j) (bytes_at w.store.frames j) (sym k.bytes) there));
  counts = f.counts;
  segments = f.segments;
}

-- What is known of the notes: the seat has none, and the page's place is the note's.
pub record SendsNote (w : World) (new : StoreSeen) (seat : ℕ) (note : Note) : Type 0 where
  pub disk : (world_table w note.name).disk ≡ note.number
  pub valid : note.writes ≡ true → (world_table w note.name).valid ≡ note.valid
  pub pushed : note.writes ≡ true → (world_table w note.name).blank ≡ false
  pub dirty : note.writes ≡ true → (k : ℕ) → name_at w.store.names k ≡ Some note.name → IsModified w.store w.hat.places k
  pub bytes : note.writes ≡ true → (bytes : List ℕ) → bytes_at new.frames (own_frame new note.frame) ≡ Some bytes → bytes ≡ note.bytes

-- nobody else has a page of the disk that is home, so that no note has this name
other-name : (w : World) (new : StoreSeen) (notes : Notes) (seat t : ℕ) (note x : Note) → Sends w.store new seat note → SendsNote w new seat note → StoreFits w.store notes (world_table w) → notes t ≡ Some x → x.name ≢ note.name
other-name w new notes seat t note x s k fits is e =
    let agrees = fits.each_note t x is in
    let number : x.number ≡ note.number = sym agrees.disk ∙ ap (λ (n : PageName). (world_table w n).disk) e ∙ k.disk in
    home-not-out note.disk t (sym s.was ∙ ap (bay_at w.store.bays) (sym number) ∙ agrees.out.bay)

note-apart : (w : World) (new : StoreSeen) (notes : Notes) (seat t : ℕ) (note x : Note) → Sends w.store new seat note → StoreFits w.store notes (world_table w) → notes t ≡ Some x → x.frame ≢ note.frame
note-apart w new notes seat t note x s fits is e = away-home (bytes_at w.store.frames note.frame) (ap (λ (i : ℕ). bytes_at w.store.frames i) (sym e) ∙ (fits.each_note t x is).away) s.filled

-- each disk has its content, home or in a note
content-sent : (w : World) (new : StoreSeen) (notes : Notes) (seat number : ℕ) (note : Note) → Sends w.store new seat note → StoreFits w.store notes (world_table w) → notes seat ≡ None
    → content_of new (with_note notes seat (Some note)) number ≡ content_of w.store notes number
content-sent w new notes seat number note s fits idle = elim (index-set w.store.bays note.number (out seat) number missing) [
  | inl same ↦ ap (λ (b : BaySeen). content_in_bay b (with_note notes seat (Some note))) (ap (λ (bs : List BaySeen). bay_at bs number) s.bays ∙ same) ∙ by_bay (bay_at w.store.bays number) refl
  | inr at ↦ ap (λ (b : BaySeen). content_in_bay b (with_note notes seat (Some note))) (ap (λ (bs : List BaySeen). bay_at bs number) s.bays ∙ at.1)
      ∙ ap content_in_note (with_note-same notes seat (Some note))
      ∙ sym (ap (λ (b : BaySeen). content_in_bay b notes) (ap (bay_at w.store.bays) at.0 ∙ s.was))
]
  where
    by_bay : (b : BaySeen) → bay_at w.store.bays number ≡ b → content_in_bay b (with_note notes seat (Some note)) ≡ content_in_bay b notes
    by_bay missing is = refl
    by_bay (home d) is = refl
    by_bay (out t) is = elim (cases_eq t seat) [
      | inl e ↦ absurd (let h = fits.each_bay number t is in let z : None ≡ Some h.0 = sym idle ∙ ap notes (sym e) ∙ h.1 in cc)
      | inr ne ↦ ap content_in_note (with_note-other notes seat t (Some note) ne)
    ]

stored-sent : (w : World) (new : StoreSeen) (notes : Notes) (seat : ℕ) (note : Note) (p : Place) → Sends w.store new seat note → StoreFits w.store notes (world_table w) → notes seat ≡ None
    → backing_value new (with_note notes seat (Some note)) p ≡ backing_value w.store notes p
stored-sent w new notes seat note p s fits idle = ap (λ (c : Option (List (List ℕ))). cond p.blank zeros (clip p.valid (block_of c p.block))) (content-sent w new notes seat p.disk note s fits idle)

-- a frame that didn't go out has a clean page where it was clean, but for the page that is sent
clean-sent : (w : World) (new : StoreSeen) (notes : Notes) (seat j : ℕ) (note : Note) (n : PageName) → Sends w.store new seat note → StoreFits w.store notes (world_table w) → notes seat ≡ None → TakesFrame w.store notes new (with_note notes seat (Some note)) (world_table w)
    → j ≢ note.frame → (note.writes ≡ true → n ≢ note.name) → IsClean w.store notes (world_table w) j n → IsClean new (with_note notes seat (Some note)) (world_table w) j n
clean-sent w new notes seat j note n s fits idle takes apart far c = record {
  same = λ tell b is. c.same (subst (λ (x : Bool). IsTrue x) (takes.alike (world_table w n).disk) tell) b (sym (s.others j apart).bytes ∙ is) ∙ sym (stored-sent w new notes seat note (world_table w n) s fits idle);
  unwritten = λ t x is writes same. elim (cases_eq t seat) [
    | inl e ↦
        let mine : note ≡ x = let z : Some note ≡ Some x = sym (with_note-same notes seat (Some note)) ∙ ap (with_note notes seat (Some note)) (sym e) ∙ is in cc in
        absurd (far (ap (λ (y : Note). y.writes) mine ∙ writes) (sym same ∙ ap (λ (y : Note). y.name) (sym mine)))
    | inr ne ↦
        let old : notes t ≡ Some x = sym (with_note-other notes seat t (Some note) ne) ∙ is in
        let u = c.unwritten t x old writes same in
        ((s.others x.frame (note-apart w new notes seat t note x s fits old)).gone ∙ u.0, u.1)
  ];
}

-- the push of another seat
push-sent : (w : World) (spaces : Spaces) (new : StoreSeen) (notes : Notes) (seat t : ℕ) (note x : Note) → MemoryFits (memory_of w spaces) → Sends w.store new seat note → SendsNote w new seat note → StoreFits w.store notes (world_table w) → notes t ≡ Some x → ¬ IsGone w.store x.frame
    → PushFits w.store w.hat.places (world_table w) x → PushFits new w.hat.places (world_table w) x
push-sent w spaces new notes seat t note x f s k fits is there p =
    let apart = note-apart w new notes seat t note x s fits is in
    let frame = s.others x.frame apart in
    let far = own-far w.store x.frame note.frame f.frames.sound apart s.single in
    let own : own_frame new x.frame ≡ own_frame w.store x.frame = ap (λ (o : Option ℕ). unwrap_or o x.frame) frame.source in
    let kept = s.others (own_frame w.store x.frame) far in
    let live : (row_at w.store.rows x.frame).gone ≡ false = elim (cases_Bool (row_at w.store.rows x.frame).gone) [ inl g ↦ absurd (there g) | inr h ↦ h ] in
    let other : name_at w.store.names (own_frame w.store x.frame) ≢ Some note.name =
    λ e. other-name w new notes seat t note x s k fits is (let z : Some x.name ≡ Some note.name = sym ((fits.each_note t x is).out.page live) ∙ e in cc) in
    record {
      pushed = p.pushed;
      same = elim p.same [
        | inl r ↦ inl (elim r [
          | inl was ↦ inl (ap (λ (o : Option ℕ). is_rewritten_in o new) frame.source ∙ by_source (row_at w.store.rows x.frame).source refl (kept.rewritten other) ∙ was)
          | inr y ↦ inr (subst (λ (i : ℕ). HasWritten w.hat.places i) (sym own) y)
        ])
        | inr sent ↦ inr (record { valid = sent.valid; bytes = λ b h. sent.bytes b (sym kept.bytes ∙ ap (λ (i : ℕ). bytes_at new.frames i) (sym own) ∙ h) })
      ];
    }
  where
    by_source : (o : Option ℕ) → (row_at w.store.rows x.frame).source ≡ o → (row_at new.rows (unwrap_or o x.frame)).rewritten ≡ (row_at w.store.rows (unwrap_or o x.frame)).rewritten → is_rewritten_in o new ≡ is_rewritten_in o w.store
    by_source None is same = refl
    by_source (Some own) is same = same

-- THE NOTES, with the seat's.
pub sends-notes : (w : World) (spaces : Spaces) (new : StoreSeen) (notes : Notes) (seat : ℕ) (note : Note) → MemoryFits (memory_of w spaces) → Sends w.store new seat note → SendsNote w new seat note → notes seat ≡ None
    → TakesFrame w.store notes new (with_note notes seat (Some note)) (world_table w) → NotesFit w notes → NotesFit (with_tables w new w.hat) (with_note notes seat (Some note))
sends-notes w spaces new notes seat note f s k idle takes nf = record {
  stored = takes.fits;
  clean = λ j n h there.
      let apart = stayed w.store new seat note j s there in
      let kept = s.others j apart in
      let held : name_at w.store.names j ≡ Some n = sym kept.name ∙ h in
      elim (nf.clean j n held (home-same (bytes_at new.frames j) (bytes_at w.store.frames j) (sym kept.bytes) there)) [
        | inl m ↦ inl (modified-stays w.store new w.hat.places seat note j s apart m)
        | inr c ↦ elim (cases-name note.name n) [
          | inr ne ↦ inr (clean-sent w new notes seat j note n s nf.stored idle takes apart (λ writes. ne) c)
          | inl e ↦ elim (cases_Bool note.writes) [
            | inl writes ↦ inl (modified-stays w.store new w.hat.places seat note j s apart (k.dirty writes j (held ∙ ap (λ (m : PageName). Some m) e)))
            | inr reads ↦ inr (clean-sent w new notes seat j note n s nf.stored idle takes apart (λ writes. absurd (let z : true ≡ false = sym writes ∙ reads in cc)) c)
          ]
        ]
      ];
  pushes = λ t x is writes there. elim (cases_eq t seat) [
    | inl e ↦
        let mine : note ≡ x = let z : Some note ≡ Some x = sym (with_note-same notes seat (Some note)) ∙ ap (with_note notes seat (Some note)) (sym e) ∙ is in cc in
        let mine_writes : note.writes ≡ true = ap (λ (y : Note). y.writes) mine ∙ writes in
        subst (λ (y : Note). PushFits new w.hat.places (world_table w) y) mine (record { pushed = k.pushed mine_writes; same = inr (record { valid = k.valid mine_writes; bytes = k.bytes mine_writes }) })
    | inr ne ↦
        let old : notes t ≡ Some x = sym (with_note-other notes seat t (Some note) ne) ∙ is in
        let live : ¬ IsGone w.store x.frame = λ gone. there ((s.others x.frame (note-apart w new notes seat t note x s nf.stored old)).gone ∙ gone) in
        push-sent w spaces new notes seat t note x f s k nf.stored old live (nf.pushes t x old writes live)
  ];
  gone = λ t x is writes gone. elim (cases_eq t seat) [
    | inl e ↦
        let mine : note ≡ x = let z : Some note ≡ Some x = sym (with_note-same notes seat (Some note)) ∙ ap (with_note notes seat (Some note)) (sym e) ∙ is in cc in
        absurd (let z : true ≡ false = sym gone ∙ ap (λ (y : Note). (row_at new.rows y.frame).gone) (sym mine) ∙ s.ungone in cc)
    | inr ne ↦
        let old : notes t ≡ Some x = sym (with_note-other notes seat t (Some note) ne) ∙ is in
        elim (nf.gone t x old writes (sym (s.others x.frame (note-apart w new notes seat t note x s nf.stored old)).gone ∙ gone)) [
          | inl a ↦ inl a
          | inr b ↦ elim b [
            | inl none ↦ inr (inl none)
            | inr anew ↦ elim (cases_eq anew.0 note.frame) [
              | inr apart ↦ inr (inr (anew.0, stays-home w.store new seat note x.name anew.0 s apart anew.1))
              | inl same ↦
                  let here : residence w.store x.name ≡ Home note.frame = subst (λ (i : ℕ). residence w.store x.name ≡ Home i) same anew.1 in
                  elim s.held [
                    | inl listed ↦ inl (was-taken w spaces note.frame t notes x f listed nf old writes here)
                    | inr own ↦ absurd (other-name w new notes seat t note x s k nf.stored old (let z : Some x.name ≡ Some note.name = sym (held-by w.store x.name note.frame here) ∙ own in cc))
                  ]
            ]
          ]
        ]
  ];
  sizes = λ t x is. elim (cases_eq t seat) [
    | inl e ↦
        let mine : note ≡ x = let z : Some note ≡ Some x = sym (with_note-same notes seat (Some note)) ∙ ap (with_note notes seat (Some note)) (sym e) ∙ is in cc in
        subst (λ (y : Note). HasSize w.files.disks (length w.anon.counts) y.number y.disk.size) mine (f.disks.sizes note.number note.disk s.was)
    | inr ne ↦ nf.sizes t x (sym (with_note-other notes seat t (Some note) ne) ∙ is)
  ];
}

-- THE STEP.
pub sends-step : (w : World) (spaces : Spaces) (new : StoreSeen) (seat : ℕ) (note : Note) → MemoryFits (memory_of w spaces) → Sends w.store new seat note → SendsNote w new seat note → IsTrue (page_exists w.files w.anon note.name)
    → ((place : ℕ) (t : Translation) → slice_index_or w.hat.places place None ≡ Some t → t.frame ≢ note.frame)
    → ((notes : Notes) → NotesFit w notes → notes seat ≡ None → TakesFrame w.store notes new (with_note notes seat (Some note)) (world_table w))
    → WorldStep w (with_tables w new w.hat) spaces (leaves seat note) (is_name (next_name w.store))
sends-step w spaces new seat note f s k exists unled takes = record {
  tables = record { maps = refl; counts = refl; reserved = refl; disks = refl; infos = refl };
  core = s.core;
  frames = s.frames;
  bays = (s.was, s.bays);
  memory = sends-memory w spaces new seat note f s exists unled;
  notes = λ notes idle nf. sends-notes w spaces new notes seat note f s k idle (takes notes nf idle) nf;
  tells = λ notes idle nf.
      let alike = (takes notes nf idle).alike in
      ((λ tell n is. alike (world_table w n).disk ∙ tell n is), (λ tell n is. sym (alike (world_table w n).disk) ∙ tell n is));
  whole = λ notes n idle nf tell there cut. next-whole w spaces notes n f cut;
  pages = λ notes n idle nf tell there.
      let is = exists-page w n f.files there in
      value-is (with_tables w new w.hat) (with_note notes seat (Some note)) n is ∙ (takes notes nf idle).values n (tell n is) ∙ ap (λ (b : Page). cond (is_name (next_name w.store) n) (clip (world_table w n).valid b) b) (sym (value-is w notes n is));
}
