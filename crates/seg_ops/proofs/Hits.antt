-- Words that are read and put through a translation.
use Rattle.std.proofs.Common.{◌≡◌, ℕ, ◌%◌, ◌<◌, Bool, false, List, length, Option, Some, None, refl, sym, ap, ◌∙◌, inl, inr, subst}
use Rattle.std.specs.Prelude.{IfSome, IfNone}
use Rattle.std.proofs.lemmas.Bool.Decides.{eqb_tells}
use Rattle.page_store.specs.core_arena.Bytes.{bytes_with_piece}
use Rattle.page_store.specs.page_hash.Names.{name_at, find}
use Rattle.page_store.specs.page_hash.declared.PageName.{PageName}
use Rattle.page_store.specs.page_lock.Rows.{row_at}
use Rattle.page_store.specs.page_lock.declared.Row.{Row}
use Rattle.page_store.specs.Laws.{Pokes}
use Rattle.page_store.specs.Moves.{is_only}
use Rattle.page_store.specs.Notes.{Notes}
use Rattle.page_store.specs.Seen.{StoreSeen, IsListedFrame, residence}
use Rattle.page_store.specs.Steps.{with_piece}
use Rattle.page_store.specs.Value.{value}
use Rattle.page_store.specs.declared.residence.Residence.TheVariants.{Home}
use Rattle.page_store.proofs.QueryLemmas.{home-is}
use Rattle.vm_world.specs.hat_layer.declared.translation.Translation.{Translation}
use Rattle.vm_world.specs.hat_layer.Pool.{HatSeen, IsNoted, IsSingleValued, translation_at, change_at, after_access}
use Rattle.vm_world.specs.flat_model.Words.{page, word_at, word_bytes}
use Rattle.vm_world.specs.MemoryFits.{MemoryFits}
use Rattle.vm_world.specs.Segments.{Spaces, spot_at}
use Rattle.vm_world.specs.TranslationsFit.{TranslationFits, TranslationsFit, HasWritten}
use Rattle.vm_world.specs.World.{World, core_of, world_table}
use Rattle.vm_world.proofs.FrameRule.{exists-page}
use Rattle.vm_world.specs.Words.{KeepsPages}
use Rattle.seg_ops.specs.Steps.{ShowsName, ReadsWord, WritesWord}
use Rattle.seg_ops.proofs.Composed.{keeps-same}
use Rattle.seg_ops.proofs.Places.{stands-at, each-change_at, written-access}
use Rattle.seg_ops.proofs.StillSteps.{KeepsFrames, with_tables, memory_of, same-row, translation-kept, memory-kept, notes-kept, tell-kept, value-is, step-keeps, keeps-store, values-same, fits-held, fits-within}

-- WHAT A TRANSLATION LEADS TO: the home frame of the page that its place shows.
pub record Hits (w : World) (spaces : Spaces) (space q : ℕ) (t : Translation) : Type 0 where
  pub name : PageName
  pub shows : ShowsName w spaces space q name
  pub home : residence w.store name ≡ Home t.frame
  pub held : name_at w.store.names t.frame ≡ Some name
  pub within : t.frame < length w.store.frames
  pub unlisted : ¬ IsListedFrame w.store t.frame

pub hits : (w : World) (spaces : Spaces) (space q : ℕ) (t : Translation) → MemoryFits (memory_of w spaces) → translation_at w.hat.places space q ≡ Some t → Hits w spaces space q t
hits w spaces space q t f is =
    let s = stands-at w.hat.places space q t is in
    let l = f.translations s.place t s.there in
    let held = fits-held w.store w.anon w.maps spaces t l in
    let same : spot_at spaces t.space t.page ≡ spot_at spaces space q = λ i. spot_at spaces (s.space_is i) (s.page_is i) in
    record {
      name = l.name;
      shows = record { spot = l.spot; here = sym same ∙ l.here; shows = l.shows; is_page = exists-page w l.name f.files (f.frames.exist t.frame l.name held) };
      home = l.home;
      held = held;
      within = fits-within w.store w.anon w.maps spaces t f.frames.sound l;
      unlisted = l.unlisted;
    }

-- A NOTED ACCESS goes to the frame that holds the page which its place shows.
module _ (w : World) (spaces : Spaces) (space q frame : ℕ) (write : Bool) (f : MemoryFits (memory_of w spaces)) (n : IsNoted w.hat.places space q frame write) where
  pub noted-hits : Hits w spaces space q n.entry
  noted-hits = hits w spaces space q n.entry f n.there

  pub noted-home : residence w.store noted-hits.name ≡ Home frame
  noted-home = subst (λ (j : ℕ). residence w.store noted-hits.name ≡ Home j) n.leads_there noted-hits.home

  pub noted-unlisted : ¬ IsListedFrame w.store frame
  noted-unlisted = subst (λ (j : ℕ). ¬ IsListedFrame w.store j) n.leads_there noted-hits.unlisted

fits-access : (w : World) (store : StoreSeen) (spaces : Spaces) (write : Bool) (t : Translation) → TranslationFits store w.anon w.maps spaces t → TranslationFits store w.anon w.maps spaces (after_access write t)
fits-access w store spaces write t l = record { spot = l.spot; here = l.here; name = l.name; shows = l.shows; home = l.home; unlisted = l.unlisted; allowed = l.allowed; writable = l.writable }

-- AN ACCESS is noted.
touch-keeps : (w : World) (spaces : Spaces) (hat : HatSeen) (space q : ℕ) (write : Bool) → MemoryFits (memory_of w spaces) → hat.places ≡ change_at space q (after_access write) w.hat.places → hat.frames ≡ w.hat.frames → IsSingleValued hat.places
    → KeepsPages w (with_tables w w.store hat) spaces
touch-keeps w spaces hat space q write f places frames single =
    step-keeps w spaces w.store hat f
    (keeps-store w.store w.hat.places hat.places w.files w.anon f.frames (λ k x. subst (λ (ps : List (Option Translation)). HasWritten ps k) (sym places) (written-access w.hat.places space q write k x)))
    frames single
    (subst (λ (ps : List (Option Translation)). TranslationsFit w.store w.anon w.maps spaces ps) (sym places)
    (each-change_at (TranslationFits w.store w.anon w.maps spaces) space q (after_access write) w.hat.places (λ t l. fits-access w w.store spaces write t l) f.translations))
    (λ notes nf. values-same w.store notes (world_table w) nf.stored)

pub note-keeps : (w : World) (spaces : Spaces) (hat : HatSeen) (space q : ℕ) (write : Bool) (o : Option ℕ) → MemoryFits (memory_of w spaces) → IfSome o (λ frame. hat.places ≡ change_at space q (after_access write) w.hat.places) → IfNone o (hat ≡ w.hat)
    → hat.frames ≡ w.hat.frames → IsSingleValued hat.places → KeepsPages w (with_tables w w.store hat) spaces
note-keeps w spaces hat space q write None f noted none frames single = subst (λ (h : HatSeen). KeepsPages w (with_tables w w.store h) spaces) (sym none) (keeps-same w spaces f)
note-keeps w spaces hat space q write (Some frame) f noted none frames single = touch-keeps w spaces hat space q write f noted frames single

-- A WORD IS READ.
pub read-word : (w : World) (spaces : Spaces) (space a n word : ℕ) (t : Translation) (h : Hits w spaces space (page a) t) (bytes : List ℕ) → ((notes : Notes) → bytes ≡ value w.store notes (world_table w) h.name) → word ≡ word_at bytes a n
    → ReadsWord w spaces space a n word
read-word w spaces space a n word t h bytes is read = (
  h.name,
  h.shows,
  λ notes. read ∙ ap (λ (b : List ℕ). word_at b a n) (is notes ∙ sym (value-is w notes h.name h.shows.is_page)),
)

-- A WORD IS PUT: the access was noted first, so that the page is modified when its bytes change.
pub write-word : (w : World) (spaces : Spaces) (new : StoreSeen) (space a n v : ℕ) (t : Translation) (h : Hits w spaces space (page a) t) → MemoryFits (memory_of w spaces) → HasWritten w.hat.places t.frame
    → new ≡ with_piece w.store t.frame (a % 4096) (word_bytes n v) false → Pokes w.store new h.name (a % 4096) (word_bytes n v)
    → WritesWord w (with_tables w new w.hat) spaces space a n v
write-word w spaces new space a n v t h f wrote step laws =
    let row : (k : ℕ) → row_at new.rows k ≡ row_at w.store.rows k = λ k. ap (λ (x : StoreSeen). row_at x.rows k) step in
    let listed : (k : ℕ) → IsListedFrame new k → IsListedFrame w.store k = λ k l. subst (λ (x : StoreSeen). IsListedFrame x k) step l in
    let core : core_of new ≡ core_of w.store = ap core_of step in
    let found : find w.store.names h.name ≡ Some t.frame = (home-is w.store h.name t.frame h.home).found in
    let k : KeepsFrames w.store new w.hat.places w.hat.places = record {
      sound = laws.sound;
      core = core;
      frames = laws.touches.frames;
      names = ap (λ (x : StoreSeen). x.names) step;
      bays = laws.outside.bays;
      rows = λ j. same-row (row_at w.store.rows j) (row_at new.rows j) (row j);
      unmodified = λ j l. ap (λ (r : Row). r.modified) (row j) ∙ f.frames.unmodified j (listed j l);
      residence = laws.residence;
      modified = λ j m. elim m [ inl r ↦ inl (ap (λ (r : Row). r.modified) (row j) ∙ r) | inr x ↦ inr x ];
      written = λ j x. inr x;
      bytes = λ j. elim (eqb_tells j t.frame) [
        | inl same ↦ inr (inl (subst (λ (i : ℕ). HasWritten w.hat.places i) (sym same.1) wrote))
        | inr other ↦ inl (laws.touches.bytes j (ap (λ (o : Option ℕ). is_only o j) found ∙ other.0))
      ];
    } in
    let translations : TranslationsFit new w.anon w.maps spaces w.hat.places = λ i u there. translation-kept w.store new w.anon w.maps spaces u laws.residence (listed u.frame) (f.translations i u there) in (
      h.name,
      h.shows,
      record {
        tables = record { maps = refl; counts = refl; reserved = refl; disks = refl; infos = refl };
        core = core;
        frames = laws.touches.frames;
        bays = laws.outside.bays;
        memory = memory-kept w spaces new w.hat f k refl f.pool.single translations;
        notes = λ notes nf. notes-kept w spaces new w.hat notes f k (laws.others notes (world_table w) nf.stored).fits nf;
        tells = λ notes nf. tell-kept w new w.hat notes (laws.others notes (world_table w) nf.stored).alike;
        written = λ notes. value-is (with_tables w new w.hat) notes h.name h.shows.is_page ∙ laws.value notes (world_table w)
            ∙ ap (λ (bytes : List ℕ). bytes_with_piece bytes (a % 4096) (word_bytes n v)) (sym (value-is w notes h.name h.shows.is_page));
        others = λ notes m nf tell ne real. value-is (with_tables w new w.hat) notes m real ∙ (laws.others notes (world_table w) nf.stored).values m ne (tell m real) ∙ sym (value-is w notes m real);
      },
    )
