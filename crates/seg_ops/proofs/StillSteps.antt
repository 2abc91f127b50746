-- THE STEPS THAT TAKE NO FRAME. What the store and the translations keep, so that memory and the notes fit as before.
use Rattle.std.proofs.Common.{◌≡◌, ℕ, ◌<◌, Bool, true, false, cond, List, [], length, Option, Some, None, refl, sym, ap, ◌∙◌, ◌⊎◌, inl, inr, subst}
use Rattle.std.specs.Prelude.{◌↔◌, IsTrue, IsSome, unwrap_or}
use Rattle.page_store.specs.core_arena.Bytes.{bytes_at}
use Rattle.page_store.specs.page_hash.Names.{name_at}
use Rattle.page_store.specs.page_hash.declared.PageName.{PageName}
use Rattle.page_store.specs.page_lock.Rows.{row_at}
use Rattle.page_store.specs.page_lock.declared.Row.{Row}
use Rattle.page_store.specs.Bays.{BaySeen}
use Rattle.page_store.specs.Laws.{SameResidence}
use Rattle.page_store.specs.Moves.{KeepsValues, SameDisksTell}
use Rattle.page_store.specs.Notes.{Note, Notes}
use Rattle.page_store.specs.Seen.{StoreSeen, IsSoundStore, IsListedFrame, own_frame}
use Rattle.page_store.specs.StoreFits.{StoreFits}
use Rattle.page_store.specs.Table.{PlaceTable}
use Rattle.page_store.specs.Transfers.{is_rewritten_in}
use Rattle.page_store.specs.Value.{value, backing_value, tells}
use Rattle.page_store.specs.declared.place.Place.{Place}
use Rattle.page_store.proofs.page_hash.NameLaws.{find-at}
use Rattle.page_store.proofs.QueryLemmas.{home-is, found-within}
use Rattle.vm_world.specs.anon_slots.Slots.{AnonSlotsSeen}
use Rattle.vm_world.specs.anon_map.Maps.{Map}
use Rattle.vm_world.specs.vnode_files.Files.{FilesSeen}
use Rattle.vm_world.specs.hat_layer.declared.translation.Translation.{Translation}
use Rattle.vm_world.specs.hat_layer.Pool.{HatSeen, IsSingleValued}
use Rattle.vm_world.specs.FlatMemory.{Memory}
use Rattle.vm_world.specs.FramesFit.{FramesFit, DisksFit}
use Rattle.vm_world.specs.MemoryFits.{MemoryFits}
use Rattle.vm_world.specs.NotesFit.{NotesFit, CleanFit, PushFits, IsAsSent, WasRewritten, MayWriteGone}
use Rattle.vm_world.specs.Pages.{page_value}
use Rattle.vm_world.specs.Segments.{Spaces}
use Rattle.vm_world.specs.TranslationsFit.{TranslationFits, TranslationsFit, UnpushedFit, HasWritten, IsModified}
use Rattle.vm_world.specs.World.{World, core_of, world_table, is_page_name, AllTell}
use Rattle.vm_world.proofs.FrameRule.{exists-page}
use Rattle.vm_world.specs.Words.{KeepsPages}

-- the world with another store and other translations
abbrev pub with_tables : World → StoreSeen → HatSeen → World
with_tables w store hat = record w { store = store; hat = hat }

abbrev pub memory_of : World → Spaces → Memory
memory_of w spaces = record { world = w; spaces = spaces }

-- The row of a frame keeps its keeps, whose page it has, and that it was rewritten.
pub record KeepsRow (old new : Row) : Type 0 where
  pub keeps : new.keeps ≡ old.keeps
  pub gone : new.gone ≡ old.gone
  pub source : new.source ≡ old.source
  pub rewritten : old.rewritten ≡ true → new.rewritten ≡ true

pub same-row : (old new : Row) → new ≡ old → KeepsRow old new
same-row old new e = record { keeps = ap (λ (r : Row). r.keeps) e; gone = ap (λ (r : Row). r.gone) e; source = ap (λ (r : Row). r.source) e; rewritten = λ h. ap (λ (r : Row). r.rewritten) e ∙ h }

-- The row of a frame that is home says that its page was modified, also since a snapshot of it went out.
pub record IsMarked (s : StoreSeen) (k : ℕ) : Type 0 where
  pub modified : (row_at s.rows k).modified ≡ true
  pub rewritten : (row_at s.rows k).rewritten ≡ true
  pub home : IsSome (bytes_at s.frames k)

-- WHAT SUCH A STEP KEEPS: names, disks and residence; no listed frame becomes modified; what was modified stays so, and what a translation says of
-- this is kept by it or by the row; and a frame has its bytes, or a translation or its row says that it was written.
pub record KeepsFrames (old new : StoreSeen) (before after : List (Option Translation)) : Type 0 where
  pub sound : IsSoundStore new
  pub core : core_of new ≡ core_of old
  pub frames : length new.frames ≡ length old.frames
  pub names : new.names ≡ old.names
  pub bays : new.bays ≡ old.bays
  pub rows : (k : ℕ) → KeepsRow (row_at old.rows k) (row_at new.rows k)
  pub unmodified : (k : ℕ) → IsListedFrame new k → (row_at new.rows k).modified ≡ false
  pub residence : SameResidence old new
  pub modified : (k : ℕ) → IsModified old before k → IsModified new after k
  pub written : (k : ℕ) → HasWritten before k → ((row_at new.rows k).rewritten ≡ true) ⊎ HasWritten after k
  pub bytes : (k : ℕ) → (bytes_at new.frames k ≡ bytes_at old.frames k) ⊎ (HasWritten after k ⊎ (IsMarked new k × IsSome (bytes_at old.frames k)))

frames-kept : (old new : StoreSeen) (before after : List (Option Translation)) (files : FilesSeen) (anon : AnonSlotsSeen) → KeepsFrames old new before after → FramesFit old files anon → FramesFit new files anon
frames-kept old new before after files anon k f = record {
  sound = k.sound;
  unkept = λ j. (k.rows j).keeps ∙ f.unkept j;
  unmodified = k.unmodified;
  exist = λ j n h. f.exist j n (ap (λ names. name_at names j) (sym k.names) ∙ h);
}

-- a translation that fits still does where its frame is on no list
pub translation-kept : (old new : StoreSeen) (anon : AnonSlotsSeen) (maps : List (Option Map)) (spaces : Spaces) (t : Translation) → SameResidence old new → (IsListedFrame new t.frame → IsListedFrame old t.frame)
    → TranslationFits old anon maps spaces t → TranslationFits new anon maps spaces t
translation-kept old new anon maps spaces t stay listed l = record {
  spot = l.spot;
  here = l.here;
  name = l.name;
  shows = l.shows;
  home = stay l.name ∙ l.home;
  unlisted = λ h. l.unlisted (listed h);
  allowed = l.allowed;
  writable = l.writable;
}

unpushed-kept : (old new : StoreSeen) (before after : List (Option Translation)) (anon : AnonSlotsSeen) → KeepsFrames old new before after → UnpushedFit old anon before → UnpushedFit new anon after
unpushed-kept old new before after anon k fit j slot name unpushed there = elim (k.bytes j) [
  | inr w ↦ elim w [ inl x ↦ inr x | inr r ↦ inl r.0.modified ]
  | inl same ↦ k.modified j (fit j slot (ap (λ ns. name_at ns j) (sym k.names) ∙ name) unpushed (subst (λ (b : Option (List ℕ)). IsSome b) same there))
]

-- memory after the store and the translations changed: slots, maps, files and segments are as they were
pub memory-kept : (w : World) (spaces : Spaces) (new : StoreSeen) (hat : HatSeen) → MemoryFits (memory_of w spaces) → KeepsFrames w.store new w.hat.places hat.places → hat.frames ≡ w.hat.frames → IsSingleValued hat.places
    → TranslationsFit new w.anon w.maps spaces hat.places → MemoryFits (memory_of (with_tables w new hat) spaces)
memory-kept w spaces new hat f k frames single translations = record {
  frames = frames-kept w.store new w.hat.places hat.places w.files w.anon k f.frames;
  files = f.files;
  disks = subst (λ (b : List BaySeen). DisksFit b w.files.disks (length w.anon.counts)) (sym k.bays) f.disks;
  pool = record { leads = frames ∙ f.pool.leads ∙ sym k.frames; single = single };
  translations = translations;
  unpushed = unpushed-kept w.store new w.hat.places hat.places w.anon k f.unpushed;
  counts = f.counts;
  segments = f.segments;
}

backing_value-kept : (old new : StoreSeen) (notes : Notes) (place : Place) → new.bays ≡ old.bays → backing_value new notes place ≡ backing_value old notes place
backing_value-kept old new notes place bays = ap (λ (b : List BaySeen). backing_value (record old { bays = b }) notes place) bays

tells-kept : (old new : StoreSeen) (notes : Notes) (disk : ℕ) → new.bays ≡ old.bays → tells new notes disk ≡ tells old notes disk
tells-kept old new notes disk bays = ap (λ (b : List BaySeen). tells (record old { bays = b }) notes disk) bays

clean-kept : (old new : StoreSeen) (before after : List (Option Translation)) (notes : Notes) (table : PlaceTable) → KeepsFrames old new before after → CleanFit old before table notes → CleanFit new after table notes
clean-kept old new before after notes table k clean j n name there = elim (k.bytes j) [
  | inr w ↦ inl (elim w [ inl x ↦ inr x | inr r ↦ inl r.0.modified ])
  | inl same ↦ elim (clean j n (ap (λ ns. name_at ns j) (sym k.names) ∙ name) (subst (λ (b : Option (List ℕ)). IsSome b) same there)) [
    | inl is ↦ inl (k.modified j is)
    | inr is ↦ inr (record {
      same = λ tell b h. is.same (subst (λ (x : Bool). IsTrue x) (tells-kept old new notes (table n).disk k.bays) tell) b (sym same ∙ h) ∙ sym (backing_value-kept old new notes (table n) k.bays);
      unwritten = λ seat note at writes named. let u = is.unwritten seat note at writes named in ((k.rows note.frame).gone ∙ u.0, u.1);
    })
  ]
]

-- a translation leads to a frame that is home
pub written-home : (store : StoreSeen) (anon : AnonSlotsSeen) (maps : List (Option Map)) (spaces : Spaces) (places : List (Option Translation)) (k : ℕ) → TranslationsFit store anon maps spaces places → HasWritten places k → IsSome (bytes_at store.frames k)
written-home store anon maps spaces places k fit x =
    let l = fit x.place x.translation x.there in
    let at = home-is store l.name x.translation.frame l.home in
    subst (λ (i : ℕ). IsSome (bytes_at store.frames i)) x.leads (subst (λ (b : Option (List ℕ)). IsSome b) (sym at.there) refl)

not-away : (b : Option (List ℕ)) → IsSome b → b ≡ None → ⊥
not-away None h e = let z : false ≡ true = h in cc
not-away (Some x) h e = cc

-- whether the page of a push was rewritten, by the frame that the push has a snapshot of
rewritten-kept : (old new : StoreSeen) (o : Option ℕ) → ((k : ℕ) → KeepsRow (row_at old.rows k) (row_at new.rows k)) → is_rewritten_in o old ≡ true → is_rewritten_in o new ≡ true
rewritten-kept old new None rows h = absurd (let z : false ≡ true = h in cc)
rewritten-kept old new (Some own) rows h = (rows own).rewritten h

own-rewritten : (new : StoreSeen) (frame : ℕ) (o : Option ℕ) → (o ≡ None → ⊥) → (row_at new.rows (unwrap_or o frame)).rewritten ≡ true → is_rewritten_in o new ≡ true
own-rewritten new frame None some h = absurd (some refl)
own-rewritten new frame (Some own) some h = h

push-kept : (w : World) (spaces : Spaces) (new : StoreSeen) (hat : HatSeen) (notes : Notes) (note : Note) → MemoryFits (memory_of w spaces) → KeepsFrames w.store new w.hat.places hat.places → bytes_at w.store.frames note.frame ≡ None
    → PushFits w.store w.hat.places (world_table w) note → PushFits new hat.places (world_table w) note
push-kept w spaces new hat notes note f k away p = record { pushed = p.pushed; same = elim p.same [ inl r ↦ inl (again r) | inr s ↦ as-sent s ] }
  where
    source : (row_at new.rows note.frame).source ≡ (row_at w.store.rows note.frame).source
    source = (k.rows note.frame).source

    own : own_frame new note.frame ≡ own_frame w.store note.frame
    own = ap (λ (o : Option ℕ). unwrap_or o note.frame) source

    again : WasRewritten w.store w.hat.places note.frame → WasRewritten new hat.places note.frame
    again r = elim r [
      | inl was ↦ inl (ap (λ (o : Option ℕ). is_rewritten_in o new) source ∙ rewritten-kept w.store new (row_at w.store.rows note.frame).source k.rows was)
      | inr x ↦ elim (k.written (own_frame w.store note.frame) x) [
        | inr y ↦ inr (subst (λ (i : ℕ). HasWritten hat.places i) (sym own) y)
        | inl set ↦ inl (ap (λ (o : Option ℕ). is_rewritten_in o new) source ∙ own-rewritten new note.frame (row_at w.store.rows note.frame).source
            (λ none. not-away (bytes_at w.store.frames note.frame) (written-home w.store w.anon w.maps spaces w.hat.places note.frame f.translations (subst (λ (i : ℕ). HasWritten w.hat.places i) (ap (λ (o : Option ℕ). unwrap_or o note.frame) none) x)) away) set)
      ]
    ]

    as-sent : IsAsSent w.store (world_table w) note → WasRewritten new hat.places note.frame ⊎ IsAsSent new (world_table w) note
    as-sent s = elim (k.bytes (own_frame w.store note.frame)) [
      | inr y ↦ inl (elim y [
        | inl x ↦ inr (subst (λ (i : ℕ). HasWritten hat.places i) (sym own) x)
        | inr r ↦ inl (ap (λ (o : Option ℕ). is_rewritten_in o new) source ∙ own-rewritten new note.frame (row_at w.store.rows note.frame).source
            (λ none. not-away (bytes_at w.store.frames note.frame) (subst (λ (o : Option ℕ). IsSome (bytes_at w.store.frames (unwrap_or o note.frame))) none r.1) away) r.0.rewritten)
      ])
      | inl same ↦ inr (record { valid = s.valid; bytes = λ b h. s.bytes b (sym same ∙ ap (λ (i : ℕ). bytes_at new.frames i) (sym own) ∙ h) })
    ]

pub gone-kept : (w : World) (new : StoreSeen) (n : PageName) → SameResidence w.store new → MayWriteGone w.store w.files w.anon n → MayWriteGone new w.files w.anon n
gone-kept w new n stay g = elim g [
  | inl a ↦ inl a
  | inr b ↦ elim b [
    | inl c ↦ inr (inl c)
    | inr d ↦ inr (inr (d.0, stay n ∙ d.1))
  ]
]

-- the notes after the store and the translations changed
pub notes-kept : (w : World) (spaces : Spaces) (new : StoreSeen) (hat : HatSeen) (notes : Notes) → MemoryFits (memory_of w spaces) → KeepsFrames w.store new w.hat.places hat.places → StoreFits new notes (world_table w)
    → NotesFit w notes → NotesFit (with_tables w new hat) notes
notes-kept w spaces new hat notes f k fits nf = record {
  stored = fits;
  clean = clean-kept w.store new w.hat.places hat.places notes (world_table w) k nf.clean;
  pushes = λ seat note is writes there. push-kept w spaces new hat notes note f k (nf.stored.each_note seat note is).away (nf.pushes seat note is writes (λ gone. there ((k.rows note.frame).gone ∙ gone)));
  gone = λ seat note is writes gone. gone-kept w new note.name k.residence (nf.gone seat note is writes (sym (k.rows note.frame).gone ∙ gone));
  sizes = nf.sizes;
}

-- disks tell where they did
pub tell-kept : (w : World) (new : StoreSeen) (hat : HatSeen) (notes : Notes) → SameDisksTell w.store notes new notes → AllTell w notes ↔ AllTell (with_tables w new hat) notes
tell-kept w new hat notes alike = ((λ tell name is. alike (world_table w name).disk ∙ tell name is), (λ tell name is. sym (alike (world_table w name).disk) ∙ tell name is))

-- the value of a page that is one
pub value-is : (w : World) (notes : Notes) (name : PageName) → IsTrue (is_page_name w.files w.anon name) → page_value w notes name ≡ value w.store notes (world_table w) name
value-is w notes name is = ap (λ (b : Bool). cond b (value w.store notes (world_table w) name) []) is

-- A STEP THAT KEEPS ALL VALUES keeps the world fit.
pub step-keeps : (w : World) (spaces : Spaces) (new : StoreSeen) (hat : HatSeen) → MemoryFits (memory_of w spaces) → KeepsFrames w.store new w.hat.places hat.places → hat.frames ≡ w.hat.frames → IsSingleValued hat.places
    → TranslationsFit new w.anon w.maps spaces hat.places → ((notes : Notes) → NotesFit w notes → KeepsValues w.store notes new notes (world_table w)) → KeepsPages w (with_tables w new hat) spaces
step-keeps w spaces new hat f k frames single translations values = record {
  tables = record { maps = refl; counts = refl; reserved = refl; disks = refl; infos = refl };
  core = k.core;
  frames = k.frames;
  bays = k.bays;
  memory = memory-kept w spaces new hat f k frames single translations;
  notes = λ notes trip nf. notes-kept w spaces new hat notes f k (values notes nf).fits nf;
  tells = λ notes trip nf. tell-kept w new hat notes (values notes nf).alike;
  whole = λ notes name trip nf tell exists cut. absurd (let z : false ≡ true = cut in cc);
  pages = λ notes name trip nf tell exists. let is = exists-page w name f.files exists in value-is (with_tables w new hat) notes name is ∙ (values notes nf).values name (tell name is) ∙ sym (value-is w notes name is);
}

-- THE STORE STAYS as it is, and what a translation said, one says.
pub keeps-store : (store : StoreSeen) (before after : List (Option Translation)) (files : FilesSeen) (anon : AnonSlotsSeen) → FramesFit store files anon → ((k : ℕ) → HasWritten before k → HasWritten after k) → KeepsFrames store store before after
keeps-store store before after files anon f kept = record {
  sound = f.sound;
  core = refl;
  frames = refl;
  names = refl;
  bays = refl;
  rows = λ k. same-row (row_at store.rows k) (row_at store.rows k) refl;
  unmodified = f.unmodified;
  residence = λ n. refl;
  modified = λ k m. elim m [ inl r ↦ inl r | inr w ↦ inr (kept k w) ];
  written = λ k w. inr (kept k w);
  bytes = λ k. inl refl;
}

pub values-same : (store : StoreSeen) (notes : Notes) (table : PlaceTable) → StoreFits store notes table → KeepsValues store notes store notes table
values-same store notes table fits = record { fits = fits; alike = λ n. refl; values = λ n tell. refl }

-- A FRAME THAT A TRANSLATION LEADS TO is one of the frames, and holds the name that the translation's place shows.
pub fits-held : (store : StoreSeen) (anon : AnonSlotsSeen) (maps : List (Option Map)) (spaces : Spaces) (t : Translation) (l : TranslationFits store anon maps spaces t) → name_at store.names t.frame ≡ Some l.name
fits-held store anon maps spaces t l = find-at store.names l.name t.frame (home-is store l.name t.frame l.home).found

pub fits-within : (store : StoreSeen) (anon : AnonSlotsSeen) (maps : List (Option Map)) (spaces : Spaces) (t : Translation) → IsSoundStore store → TranslationFits store anon maps spaces t → t.frame < length store.frames
fits-within store anon maps spaces t sound l = found-within store l.name t.frame sound (home-is store l.name t.frame l.home).found
