-- A page that isn't modified loses its translations and goes on the cache list.
use Rattle.page_store.proofs.FrameLaws.{source-within as some-source, home_held as unlocked-of}
use Rattle.std.proofs.Common.{◌≡◌, ℕ, zero, suc, ◌<◌, Bool, true, false, List, [], ◌∷◌, ◌++◌, length, Option, Some, None, refl, sym, ap, ◌∙◌, ◌⊎◌, inl, inr, subst, arith}
use Rattle.std.specs.Prelude.{IsSome, is_some, is_none, ◌||◌, ◌&&◌, unwrap_or, Contains}
use Rattle.std.proofs.lemmas.Bool.{cases_Bool}
use Rattle.std.proofs.lemmas.List.Elements.{Contains-push_cases}
use Rattle.page_store.specs.core_arena.Bytes.{bytes_at}
use Rattle.page_store.specs.page_hash.Names.{name_at}
use Rattle.page_store.specs.page_hash.declared.PageName.{PageName}
use Rattle.page_store.specs.page_lists.ListsSeen.{first_listed}
use Rattle.page_store.proofs.page_lists.ListLemmas.{Contains-none}
use Rattle.page_store.specs.page_lock.Rows.{row_at}
use Rattle.page_store.specs.page_lock.declared.Row.{Row}
use Rattle.page_store.specs.Laws.{Releases}
use Rattle.page_store.specs.Notes.{Note, Notes}
use Rattle.page_store.specs.Seen.{StoreSeen, IsSoundStore, IsListedFrame, FrameAgrees, own_frame}
use Rattle.page_store.specs.Steps.{next_frame}
use Rattle.page_store.specs.StoreFits.{IsClean}
use Rattle.page_store.specs.Waits.{IsVictim}
use Rattle.page_store.proofs.QueryLemmas.{some-within}
use Rattle.vm_world.specs.hat_layer.declared.translation.Translation.{Translation}
use Rattle.vm_world.specs.hat_layer.Pool.{HatSeen, IsSingleValued, drop_frame}
use Rattle.vm_world.specs.MemoryFits.{MemoryFits}
use Rattle.vm_world.specs.NotesFit.{NotesFit}
use Rattle.vm_world.specs.Segments.{Spaces}
use Rattle.vm_world.specs.TranslationsFit.{TranslationFits, TranslationsFit, HasWritten, IsModified}
use Rattle.vm_world.specs.World.{World, core_of, world_table}
use Rattle.vm_world.specs.Words.{KeepsPages}
use Rattle.seg_ops.specs.Steps.{IsUnwritten}
use Rattle.seg_ops.proofs.Places.{each-drop_frame, written-drop}
use Rattle.seg_ops.proofs.StillSteps.{with_tables, memory_of, same-row, translation-kept, step-keeps}

-- nothing says of the frame that its page was modified
pub not-modified : (store : StoreSeen) (places : List (Option Translation)) (frame : ℕ) → (row_at store.rows frame).modified ≡ false → IsUnwritten places frame → ¬ IsModified store places frame
not-modified store places frame clear unwritten m = elim m [
  | inl r ↦ let z : true ≡ false = sym r ∙ clear in cc
  | inr x ↦ let z : true ≡ false = sym x.modified ∙ unwritten x.place x.translation x.there x.leads in cc
]

-- a page that is home and not modified is clean
pub clean-page : (w : World) (notes : Notes) (frame : ℕ) (n : PageName) → NotesFit w notes → ¬ IsModified w.store w.hat.places frame → name_at w.store.names frame ≡ Some n → IsSome (bytes_at w.store.frames frame)
    → IsClean w.store notes (world_table w) frame n
clean-page w notes frame n nf clear name there = elim (nf.clean frame n name there) [ inl m ↦ absurd (clear m) | inr is ↦ is ]

locked-of : (holder : Option ℕ) (name : Option PageName) (b : Bool) → (is_some holder && is_none name) ≡ b → b ≡ true → (seat : ℕ) × (holder ≡ Some seat)
locked-of None name b e t = absurd (let z : false ≡ true = e ∙ t in cc)
locked-of (Some seat) name b e t = (seat, refl)

or-some : (gone : Bool) (o : Option ℕ) (own : ℕ) → o ≡ Some own → (gone || is_some o) ≡ true
or-some gone None own e = absurd (cc)
or-some true (Some x) own e = refl
or-some false (Some x) own e = refl

-- What is known of a snapshot that is away: a note writes it, under the name of its page.
pub record HasSnapshotOut (w : World) (notes : Notes) (frame : ℕ) : Type 0 where
  pub seat : ℕ
  pub note : Note
  pub is : notes seat ≡ Some note
  pub writes : note.writes ≡ true
  pub there : (row_at w.store.rows note.frame).gone ≡ false
  pub named : name_at w.store.names frame ≡ Some note.name

pub snapshot-noted : (w : World) (notes : Notes) (frame copy : ℕ) → IsSoundStore w.store → NotesFit w notes → (row_at w.store.rows frame).snapshot ≡ Some copy → HasSnapshotOut w notes frame
snapshot-noted w notes frame copy sound nf e =
    let source : (row_at w.store.rows copy).source ≡ Some frame = sound.paired.source frame copy e in
    let row = some-source w.store.rows copy frame source in
    let rows = sound.rows in
    let agrees : FrameAgrees (bytes_at w.store.frames copy) (name_at w.store.names copy) (row_at w.store.rows copy) = sound.each copy (omega (arith, row, rows)) in
    let held = locked-of (row_at w.store.rows copy).holder (name_at w.store.names copy) ((row_at w.store.rows copy).gone || is_some (row_at w.store.rows copy).source) agrees.unnamed
    (or-some (row_at w.store.rows copy).gone (row_at w.store.rows copy).source frame source) in
    let out = nf.stored.each_frame copy held.0 held.1 in
    let note = out.0 in
    let is : note.frame ≡ copy = out.2 in
    let its : (row_at w.store.rows note.frame).source ≡ Some frame = ap (λ (k : ℕ). (row_at w.store.rows k).source) is ∙ source in
    let agreed = (nf.stored.each_note held.0 note out.1).out in
    let kept : (row_at w.store.rows copy).gone ≡ true → ⊥ = λ gone. let z : None ≡ Some frame = sym (agrees.torn gone) ∙ source in cc in
    let there : (row_at w.store.rows note.frame).gone ≡ false = elim (cases_Bool (row_at w.store.rows note.frame).gone) [ inl yes_gone ↦ absurd (kept (ap (λ (k : ℕ). (row_at w.store.rows k).gone) (sym is) ∙ yes_gone)) | inr f ↦ f ] in
    let own : own_frame w.store note.frame ≡ frame = ap (λ (x : Option ℕ). unwrap_or x note.frame) its in
    record {
      seat = held.0;
      note = note;
      is = out.1;
      writes = elim (cases_Bool note.writes) [ inl t ↦ t | inr f ↦ absurd (let z : None ≡ Some frame = sym (agreed.read f) ∙ its in cc) ];
      there = there;
      named = ap (λ (k : ℕ). name_at w.store.names k) (sym own) ∙ agreed.page there;
    }

-- NO SNAPSHOT OF A CLEAN PAGE is away: the note of the push says so.
unsent-by : (w : World) (notes : Notes) (frame : ℕ) (o : Option ℕ) → IsSoundStore w.store → NotesFit w notes → ¬ IsModified w.store w.hat.places frame → (row_at w.store.rows frame).snapshot ≡ o → is_some o ≡ false
unsent-by w notes frame None sound nf clear e = refl
unsent-by w notes frame (Some copy) sound nf clear e =
    let x = snapshot-noted w notes frame copy sound nf e in
    let gone = (clean-page w notes frame x.note.name nf clear x.named (sound.paired.home frame copy e)).unwritten x.seat x.note x.is x.writes refl in
    absurd (let z : true ≡ false = sym gone.0 ∙ x.there in cc)

pub unsent : (w : World) (spaces : Spaces) (notes : Notes) (frame : ℕ) → MemoryFits (memory_of w spaces) → NotesFit w notes → (row_at w.store.rows frame).modified ≡ false → IsUnwritten w.hat.places frame
    → is_some (row_at w.store.rows frame).snapshot ≡ false
unsent w spaces notes frame f nf clear unwritten = unsent-by w notes frame (row_at w.store.rows frame).snapshot f.frames.sound nf (not-modified w.store w.hat.places frame clear unwritten) refl

pub unlocked : (w : World) (spaces : Spaces) (frame : ℕ) → MemoryFits (memory_of w spaces) → IsSome (bytes_at w.store.frames frame) → (row_at w.store.rows frame).holder ≡ None
unlocked w spaces frame f there = unlocked-of (bytes_at w.store.frames frame) (row_at w.store.rows frame).holder (f.frames.sound.each frame (some-within w.store.frames frame there)).away there

-- RELEASE: the frame's translations are gone, and it is on the cache list.
pub evict-keeps : (w : World) (spaces : Spaces) (new : StoreSeen) (hat : HatSeen) (frame : ℕ) → MemoryFits (memory_of w spaces) → (row_at w.store.rows frame).modified ≡ false → IsUnwritten w.hat.places frame → IsSome (bytes_at w.store.frames frame)
    → hat.places ≡ drop_frame frame w.hat.places → hat.frames ≡ w.hat.frames → IsSingleValued hat.places → new ≡ record w.store { cached = w.store.cached ++ frame ∷ [] } → Releases w.store new frame
    → KeepsPages w (with_tables w new hat) spaces
evict-keeps w spaces new hat frame f clear unwritten there places frames single step laws =
    let row : (k : ℕ) → row_at new.rows k ≡ row_at w.store.rows k = λ k. ap (λ (x : StoreSeen). row_at x.rows k) step in
    let listed : (k : ℕ) → IsListedFrame new k → IsListedFrame w.store k ⊎ (k ≡ frame) = λ k l. elim (subst (λ (x : StoreSeen). IsListedFrame x k) step l) [
      | inl free ↦ inl (inl free)
      | inr cached ↦ elim (Contains-push_cases w.store.cached frame k cached) [ inl a ↦ inl (inr a) | inr b ↦ inr (sym b) ]
    ] in
    let written : (k : ℕ) → HasWritten w.hat.places k → HasWritten hat.places k = λ k x. subst (λ (ps : List (Option Translation)). HasWritten ps k) (sym places) (written-drop w.hat.places frame k unwritten x) in
    step-keeps w spaces new hat f (record {
      sound = laws.sound;
      core = ap core_of step;
      frames = laws.touches.frames;
      names = ap (λ (x : StoreSeen). x.names) step;
      bays = laws.outside.bays;
      rows = λ k. same-row (row_at w.store.rows k) (row_at new.rows k) (row k);
      unmodified = λ k l. ap (λ (r : Row). r.modified) (row k) ∙ elim (listed k l) [ inl a ↦ f.frames.unmodified k a | inr e ↦ ap (λ (i : ℕ). (row_at w.store.rows i).modified) e ∙ clear ];
      residence = laws.residence;
      modified = λ k m. elim m [ inl r ↦ inl (ap (λ (r : Row). r.modified) (row k) ∙ r) | inr x ↦ inr (written k x) ];
      written = λ k x. inr (written k x);
      bytes = λ k. inl (ap (λ (x : StoreSeen). bytes_at x.frames k) step);
    }) frames single
    (subst (λ (ps : List (Option Translation)). TranslationsFit new w.anon w.maps spaces ps) (sym places)
    (λ i t is. let r = each-drop_frame (TranslationFits w.store w.anon w.maps spaces) frame w.hat.places f.translations i t is in
    translation-kept w.store new w.anon w.maps spaces t laws.residence (λ h. elim (listed t.frame h) [ inl a ↦ a | inr e ↦ absurd (r.1 e) ]) r.0))
    (λ notes nf. laws.values notes (world_table w) nf.stored (λ n name. clean-page w notes frame n nf (not-modified w.store w.hat.places frame clear unwritten) name there))

-- a frame can be had after one was put on the cache list
pub some-room : (free cached : List ℕ) (frame : ℕ) → IsSome (first_listed free (cached ++ frame ∷ []))
some-room [] [] frame = refl
some-room [] (x ∷ xs) frame = refl
some-room (x ∷ xs) cached frame = refl

pub no-room : (s : StoreSeen) → next_frame s ≡ None → (k : ℕ) → ¬ IsListedFrame s k
no-room s none k l = elim l [ inl h ↦ by_free s.free s.cached none h | inr h ↦ by_cached s.free s.cached none h ]
  where
    by_free : (free cached : List ℕ) → first_listed free cached ≡ None → Contains free k → ⊥
    by_free [] cached e h = Contains-none k h
    by_free (x ∷ xs) cached e h = absurd (cc)

    by_cached : (free cached : List ℕ) → first_listed free cached ≡ None → Contains cached k → ⊥
    by_cached [] [] e h = Contains-none k h
    by_cached [] (x ∷ xs) e h = absurd (cc)
    by_cached (x ∷ xs) cached e h = absurd (cc)

-- with no room, each frame that is home is one that can be pushed or released
pub some-victim : (w : World) (spaces : Spaces) (k : ℕ) → MemoryFits (memory_of w spaces) → next_frame w.store ≡ None → IsSome (bytes_at w.store.frames k) → IsVictim w.store k
some-victim w spaces k f none there = record {
  here = there;
  unlisted = no-room w.store none k;
  unlocked = unlocked w spaces k f there;
  unkept = f.frames.unkept k;
}
