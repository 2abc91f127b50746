-- A frame comes off the cache list.
use Rattle.std.proofs.Common.{◌≡◌, ℕ, ◌<◌, ◌==◌, Bool, false, List, length, Option, Some, None, refl, sym, ap, ◌∙◌, inl, inr, subst}
use Rattle.std.specs.Prelude.{IfSome}
use Rattle.std.proofs.lemmas.Bool.Decides.{eqb_tells}
use Rattle.page_store.specs.core_arena.Bytes.{bytes_at}
use Rattle.page_store.specs.page_hash.Names.{find}
use Rattle.page_store.specs.page_hash.declared.PageName.{PageName}
use Rattle.page_store.specs.page_lock.Rows.{row_at}
use Rattle.page_store.specs.page_lock.declared.Row.{Row}
use Rattle.page_store.specs.Laws.{StaysInPlace, SameResidence}
use Rattle.page_store.specs.Moves.{is_only}
use Rattle.page_store.specs.Seen.{StoreSeen, IsListedFrame, IsSoundStore, residence}
use Rattle.page_store.specs.Steps.{at_frame, after_reclaim}
use Rattle.page_store.specs.page_lists.ListsSeen.{without_frame}
use Rattle.page_store.specs.declared.residence.Residence.TheVariants.{Home}
use Rattle.page_store.proofs.page_lists.ListLemmas.{without_frame-absent}
use Rattle.page_store.proofs.QueryLemmas.{home-is, found-within}
use Rattle.page_store.proofs.RowSteps.{stays-reclaimed}
use Rattle.vm_world.specs.hat_layer.Pool.{fresh_translation}
use Rattle.vm_world.specs.MemoryFits.{MemoryFits}
use Rattle.vm_world.specs.Segments.{Spaces}
use Rattle.vm_world.specs.Serving.{ModifiesNone}
use Rattle.vm_world.specs.TranslationsFit.{TranslationFits}
use Rattle.vm_world.specs.World.{World, core_of, world_table}
use Rattle.vm_world.specs.Words.{KeepsPages}
use Rattle.seg_ops.specs.Steps.{MayShow}
use Rattle.seg_ops.proofs.Modified.{rows-modify}
use Rattle.seg_ops.proofs.StillSteps.{with_tables, memory_of, same-row, translation-kept, step-keeps}

-- what a reclaim leaves as it was
record Alike (new s : StoreSeen) : Type 0 where
  pub core : core_of new ≡ core_of s
  pub names : new.names ≡ s.names
  pub bays : new.bays ≡ s.bays
  pub rows : new.rows ≡ s.rows
  pub frames : new.frames ≡ s.frames

alike-in : (o : Option ℕ) (s : StoreSeen) → Alike (at_frame o s (λ frame. record s { cached = without_frame s.cached frame })) s
alike-in None s = record { core = refl; names = refl; bays = refl; rows = refl; frames = refl }
alike-in (Some frame) s = record { core = refl; names = refl; bays = refl; rows = refl; frames = refl }

-- a home page is in one of the frames
pub home-found : (w : World) (name : PageName) (frame : ℕ) → residence w.store name ≡ Home frame → find w.store.names name ≡ Some frame
home-found w name frame home = (home-is w.store name frame home).found

pub home-within : (w : World) (spaces : Spaces) (name : PageName) (frame : ℕ) → MemoryFits (memory_of w spaces) → residence w.store name ≡ Home frame → frame < length w.store.frames
home-within w spaces name frame f home = found-within w.store name frame f.frames.sound (home-found w name frame home)

-- what is said of the frame of a page that is home
pub of-frame : (o : Option ℕ) (frame : ℕ) (P : ℕ → Type 0) → o ≡ Some frame → IfSome o P → P frame
of-frame None frame P e h = absurd (cc)
of-frame (Some g) frame P e h = subst P (let z : Some g ≡ Some frame = e in cc) h

pub reclaim-unlisted : (w : World) (new : StoreSeen) (name : PageName) (frame : ℕ) → residence w.store name ≡ Home frame → IfSome (find w.store.names name) (λ f. ¬ IsListedFrame new f) → ¬ IsListedFrame new frame
reclaim-unlisted w new name frame home h = of-frame (find w.store.names name) frame (λ f. ¬ IsListedFrame new f) (home-found w name frame home) h

pub reclaim-keeps : (w : World) (spaces : Spaces) (new : StoreSeen) (name : PageName) (frame : ℕ) → MemoryFits (memory_of w spaces) → residence w.store name ≡ Home frame → new ≡ after_reclaim w.store name
    → ¬ IsListedFrame new frame → StaysInPlace w.store new (is_only (find w.store.names name)) → KeepsPages w (with_tables w new w.hat) spaces
reclaim-keeps w spaces new name frame f home step unlisted laws =
    let alike : Alike new w.store = subst (λ (x : StoreSeen). Alike x w.store) (sym step) (alike-in (find w.store.names name) w.store) in
    let found = home-found w name frame home in
    let apart : (k : ℕ) → (k == frame) ≡ false → is_only (find w.store.names name) k ≡ false = λ k ne. ap (λ (o : Option ℕ). is_only o k) found ∙ ne in
    let listed : (k : ℕ) → IsListedFrame new k → IsListedFrame w.store k = λ k l. elim (eqb_tells k frame) [
      | inl same ↦ absurd (unlisted (subst (λ (j : ℕ). IsListedFrame new j) same.1 l))
      | inr other ↦ elim l [ inl h ↦ inl ((laws.touches.free k (apart k other.0)).0 h) | inr h ↦ inr ((laws.touches.cached k (apart k other.0)).0 h) ]
    ] in
    let row : (k : ℕ) → row_at new.rows k ≡ row_at w.store.rows k = λ k. ap (λ (rows : List Row). row_at rows k) alike.rows in
    step-keeps w spaces new w.hat f (record {
      sound = laws.sound;
      core = alike.core;
      frames = laws.touches.frames;
      names = alike.names;
      bays = alike.bays;
      rows = λ k. same-row (row_at w.store.rows k) (row_at new.rows k) (row k);
      unmodified = λ k l. ap (λ (r : Row). r.modified) (row k) ∙ f.frames.unmodified k (listed k l);
      residence = laws.residence;
      modified = λ k m. elim m [ inl r ↦ inl (ap (λ (r : Row). r.modified) (row k) ∙ r) | inr x ↦ inr x ];
      written = λ k x. inr x;
      bytes = λ k. inl (ap (λ (fs : List (Option (List ℕ))). bytes_at fs k) alike.frames);
    }) refl f.pool.single
    (λ i t is. translation-kept w.store new w.anon w.maps spaces t laws.residence (listed t.frame) (f.translations i t is))
    (λ notes nf. laws.values notes (world_table w) nf.stored)

-- where the frame is on no list, nothing changes
pub reclaim-still : (s : StoreSeen) (name : PageName) (frame : ℕ) → find s.names name ≡ Some frame → ¬ IsListedFrame s frame → after_reclaim s name ≡ s
reclaim-still s name frame found off =
    ap (λ (o : Option ℕ). at_frame o s (λ f. record s { cached = without_frame s.cached f })) found
    ∙ ap (λ (l : List ℕ). record s { cached = l }) (without_frame-absent s.cached frame (λ h. off (inr h)))

pub still-stays : (s : StoreSeen) (name : PageName) (frame : ℕ) → IsSoundStore s → find s.names name ≡ Some frame → ¬ IsListedFrame s frame → StaysInPlace s s (is_only (find s.names name))
still-stays s name frame sound found off =
    subst (λ (x : StoreSeen). StaysInPlace s x (is_only (find s.names name))) (reclaim-still s name frame found off)
    (subst (λ (o : Option ℕ). StaysInPlace s (at_frame o s (λ f. record s { cached = without_frame s.cached f })) (is_only o)) (sym found)
    (stays-reclaimed s frame sound (found-within s name frame sound found)))

-- the translation of a page that may be shown fits
pub shown-fits : (w : World) (new : StoreSeen) (spaces : Spaces) (p q : ℕ) (name : PageName) (frame : ℕ) (writable : Bool) → residence new name ≡ Home frame → ¬ IsListedFrame new frame → MayShow w spaces p q name writable
    → TranslationFits new w.anon w.maps spaces (fresh_translation p q frame writable)
shown-fits w new spaces p q name frame writable home unlisted m = record {
  spot = m.spot;
  here = m.here;
  name = name;
  shows = m.shows;
  home = home;
  unlisted = unlisted;
  allowed = m.allowed;
  writable = m.in_place;
}

-- no page is modified by it, and no frame gets another name or other bytes
pub reclaim-names : (s new : StoreSeen) (name : PageName) → new ≡ after_reclaim s name → (new.names ≡ s.names) × (new.frames ≡ s.frames)
reclaim-names s new name step = let a = subst (λ (x : StoreSeen). Alike x s) (sym step) (alike-in (find s.names name) s) in (a.names, a.frames)

pub reclaim-modifies : (w : World) (new : StoreSeen) (name : PageName) → new ≡ after_reclaim w.store name → SameResidence w.store new → ModifiesNone w (with_tables w new w.hat)
reclaim-modifies w new name step stay = rows-modify w new (subst (λ (x : StoreSeen). Alike x w.store) (sym step) (alike-in (find w.store.names name) w.store)).rows stay
