-- Which pages become modified, or count as rewritten: none as translations are loaded or dropped and frames are freed; the page that a frame is taken for; and the one that a store
-- is noted of.
use Rattle.vm_world.proofs.flat_model.Starts.{or_cases as or-parts}
use Rattle.std.proofs.Common.{◌≡◌, ◌≢◌, ℕ, ◌==◌, Bool, true, false, cond, List, Option, Some, None, refl, sym, ap, ◌∙◌, ◌⊎◌, inl, inr, subst, slice_index_or, slice_set}
use Rattle.std.specs.Prelude.{option_map, IsSome, IfSome, MatchOption}
use Rattle.std.proofs.lemmas.Bool.{cases_Bool}
use Rattle.std.proofs.lemmas.Bool.Decides.{eqb_tells}
use Rattle.page_store.specs.page_hash.Names.{name_at}
use Rattle.page_store.specs.page_hash.declared.PageName.{PageName}
use Rattle.page_store.proofs.page_hash.NameLaws.{find-at}
use Rattle.page_store.specs.page_lock.Rows.{row_at}
use Rattle.page_store.specs.page_lock.declared.Row.{Row}
use Rattle.page_store.specs.Laws.{Aborts, FillsPage, SameResidence}
use Rattle.page_store.specs.Moves.{is_only}
use Rattle.page_store.specs.Notes.{Notes}
use Rattle.page_store.specs.Seen.{StoreSeen, IsListedFrame, residence}
use Rattle.page_store.specs.Steps.{next_frame, next_name, name_in, fresh_row, after_abort}
use Rattle.page_store.specs.Table.{PlaceTable}
use Rattle.page_store.specs.declared.residence.Residence.TheVariants.{Home, Absent}
use Rattle.page_store.proofs.QueryLemmas.{home-is}
use Rattle.vm_world.specs.hat_layer.declared.translation.Translation.{Translation}
use Rattle.vm_world.specs.hat_layer.Pool.{HatSeen, IsNoted, IsSingleValued, after_access, change_at, change_page, drop_at, drop_page, holds, told_of, translation_at}
use Rattle.vm_world.specs.MemoryFits.{MemoryFits}
use Rattle.vm_world.specs.Segments.{Spaces}
use Rattle.vm_world.specs.Serving.{ModifiesNone, ModifiesOnly, PageBit, SaysNone, SaysOnly}
use Rattle.vm_world.specs.TranslationsFit.{HasWritten, IsModified, IsRewritten}
use Rattle.vm_world.specs.World.{World}
use Rattle.seg_ops.specs.Steps.{with_dropped_gathered}
use Rattle.seg_ops.proofs.FreedFrames.{Frees, frees-next}
use Rattle.seg_ops.proofs.Fills.{next-listed}
use Rattle.seg_ops.proofs.GivenUp.{GivesUp}
use Rattle.seg_ops.proofs.Marks.{cases-name}
use Rattle.seg_ops.proofs.Modified.{Adds, is_modified, is_rewritten, modifies-same, row-was, says}
use Rattle.seg_ops.proofs.Places.{changed-from, index-map, index-set, stands-at}
use Rattle.seg_ops.proofs.StillSteps.{memory_of, with_tables}
use Rattle.seg_ops.proofs.Unloads.{found-own, kept-of}

-- ONE STEP AFTER ANOTHER; and a step that makes none modified.
module _ (bit : PageBit) (u v : World) where
  as-says : (P R : PageName → Type 0) → ((n : PageName) → P n → R n) → SaysOnly bit P u v → SaysOnly bit R u v
  as-says P R p only = λ n k home m. elim (only n k home m) [ inl x ↦ inl (p n x) | inr y ↦ inr y ]

  says-of : (P : PageName → Type 0) → SaysNone bit u v → SaysOnly bit P u v
  says-of P none = λ n k home m. inr (none n k home m)

  none-says : (P : PageName → Type 0) → ((n : PageName) → P n → ⊥) → SaysOnly bit P u v → SaysNone bit u v
  none-says P never only = λ n k home m. elim (only n k home m) [ inl x ↦ absurd (never n x) | inr y ↦ y ]

  only-says : (P Q R : PageName → Type 0) (w : World) → ((n : PageName) → P n → R n) → ((n : PageName) → Q n → R n) → SaysOnly bit P u v → SaysOnly bit Q v w → SaysOnly bit R u w
  only-says P Q R w p q first second = λ n k home m. elim (second n k home m) [
    | inl x ↦ inl (q n x)
    | inr was ↦ elim (first n k was.0 was.1) [ inl x ↦ inl (p n x) | inr y ↦ inr y ]
  ]

pub only-then : (P Q R : PageName → Type 0) (u v w : World) → ((n : PageName) → P n → R n) → ((n : PageName) → Q n → R n) → ModifiesOnly P u v → ModifiesOnly Q v w → ModifiesOnly R u w
only-then P Q R u v w p q first second = record {
  modified = only-says IsModified u v P Q R w p q first.modified second.modified;
  rewritten = only-says IsRewritten u v P Q R w p q first.rewritten second.rewritten;
}

pub only-as : (P R : PageName → Type 0) (u v : World) → ((n : PageName) → P n → R n) → ModifiesOnly P u v → ModifiesOnly R u v
only-as P R u v p only = record { modified = as-says IsModified u v P R p only.modified; rewritten = as-says IsRewritten u v P R p only.rewritten }

pub only-of : (P : PageName → Type 0) (u v : World) → ModifiesNone u v → ModifiesOnly P u v
only-of P u v none = record { modified = says-of IsModified u v P none.modified; rewritten = says-of IsRewritten u v P none.rewritten }

pub only-same : (P : PageName → Type 0) (u : World) → ModifiesOnly P u u
only-same P u = only-of P u u (modifies-same u)

pub none-of : (P : PageName → Type 0) (u v : World) → ((n : PageName) → P n → ⊥) → ModifiesOnly P u v → ModifiesNone u v
none-of P u v never only = record { modified = none-says IsModified u v P never only.modified; rewritten = none-says IsRewritten u v P never only.rewritten }

pub none-then : (P : PageName → Type 0) (u v w : World) → ModifiesNone u v → ModifiesOnly P v w → ModifiesOnly P u w
none-then P u v w first second = only-then P P P u v w (λ n x. x) (λ n x. x) (only-of P u v first) second

pub then-none : (P : PageName → Type 0) (u v w : World) → ModifiesOnly P u v → ModifiesNone v w → ModifiesOnly P u w
then-none P u v w first second = only-then P P P u v w (λ n x. x) (λ n x. x) first (only-of P v w second)

-- A TRANSLATION IS LOADED, with clear bits, where one may give way; or dropped. What the one that goes said is said by its page's row.
dropped-row : (bit : Row → Bool) → Adds bit → (s : StoreSeen) (places : List (Option Translation)) (place : ℕ) (was : Option Translation) (k : ℕ) → slice_index_or places place None ≡ was → bit (row_at (with_dropped_gathered s (option_map told_of was)).rows k) ≡ true
    → says bit s places k
dropped-row bit adds s places place None k at r = inl r
dropped-row bit adds s places place (Some t) k at r = elim (row-was bit adds s t.frame (t.referenced, t.modified) k r) [
  | inl was ↦ inl was
  | inr told ↦ inr (record { place = place; translation = t; there = at; leads = sym told.0; modified = told.1 })
]

set-written : (places : List (Option Translation)) (place : ℕ) (loaded : Translation) (k : ℕ) → loaded.modified ≡ false → HasWritten (slice_set places place (Some loaded)) k → HasWritten places k
set-written places place loaded k clear w = elim (index-set places place (Some loaded) w.place None) [
  | inl e ↦ record { place = w.place; translation = w.translation; there = sym e ∙ w.there; leads = w.leads; modified = w.modified }
  | inr e ↦
      let same : loaded ≡ w.translation = let z : Some loaded ≡ Some w.translation = sym e.1 ∙ w.there in cc in
      absurd (let z : true ≡ false = sym w.modified ∙ ap (λ (t : Translation). t.modified) (sym same) ∙ clear in cc)
]

install-says : (bit : Row → Bool) → Adds bit → (w : World) (new : StoreSeen) (hat : HatSeen) (place : ℕ) (loaded : Translation) (was : Option Translation) → loaded.modified ≡ false → slice_index_or w.hat.places place None ≡ was
    → hat.places ≡ slice_set w.hat.places place (Some loaded) → new ≡ with_dropped_gathered w.store (option_map told_of was) → SameResidence w.store new → SaysNone (says bit) w (with_tables w new hat)
install-says bit adds w new hat place loaded was clear at places is stay = λ n k home m. (
  sym (stay n) ∙ home,
  elim m [
    | inl r ↦ dropped-row bit adds w.store w.hat.places place was k at (ap (λ (s : StoreSeen). bit (row_at s.rows k)) (sym is) ∙ r)
    | inr x ↦ inr (set-written w.hat.places place loaded k clear (subst (λ (ps : List (Option Translation)). HasWritten ps k) places x))
  ],
)

pub install-modifies : (w : World) (new : StoreSeen) (hat : HatSeen) (place : ℕ) (loaded : Translation) (was : Option Translation) → loaded.modified ≡ false → slice_index_or w.hat.places place None ≡ was
    → hat.places ≡ slice_set w.hat.places place (Some loaded) → new ≡ with_dropped_gathered w.store (option_map told_of was) → SameResidence w.store new → ModifiesNone w (with_tables w new hat)
install-modifies w new hat place loaded was clear at places is stay = record {
  modified = install-says is_modified (λ row told. refl) w new hat place loaded was clear at places is stay;
  rewritten = install-says is_rewritten (λ row told. refl) w new hat place loaded was clear at places is stay;
}

kept-written : (places : List (Option Translation)) (space page k : ℕ) → HasWritten (drop_at space page places) k → HasWritten places k
kept-written places space page k w = record {
  place = w.place;
  translation = w.translation;
  there = kept-of (holds space page (slice_index_or places w.place None)) (slice_index_or places w.place None) w.translation (sym (index-map (drop_page space page) places w.place refl) ∙ w.there);
  leads = w.leads;
  modified = w.modified;
}

drop-says : (bit : Row → Bool) → Adds bit → (w : World) (new : StoreSeen) (hat : HatSeen) (space page : ℕ) → hat.places ≡ drop_at space page w.hat.places → new ≡ with_dropped_gathered w.store (option_map told_of (translation_at w.hat.places space page))
    → SameResidence w.store new → SaysNone (says bit) w (with_tables w new hat)
drop-says bit adds w new hat space page places is stay = λ n k home m. (
  sym (stay n) ∙ home,
  elim m [
    | inl r ↦ gone (translation_at w.hat.places space page) k refl (ap (λ (s : StoreSeen). bit (row_at s.rows k)) (sym is) ∙ r)
    | inr x ↦ inr (kept-written w.hat.places space page k (subst (λ (ps : List (Option Translation)). HasWritten ps k) places x))
  ],
)
  where
    gone : (was : Option Translation) (k : ℕ) → translation_at w.hat.places space page ≡ was → bit (row_at (with_dropped_gathered w.store (option_map told_of was)).rows k) ≡ true → says bit w.store w.hat.places k
    gone None k e r = inl r
    gone (Some t) k e r = let s = stands-at w.hat.places space page t e in dropped-row bit adds w.store w.hat.places s.place (Some t) k s.there r

pub drop-modifies : (w : World) (new : StoreSeen) (hat : HatSeen) (space page : ℕ) → hat.places ≡ drop_at space page w.hat.places → new ≡ with_dropped_gathered w.store (option_map told_of (translation_at w.hat.places space page))
    → SameResidence w.store new → ModifiesNone w (with_tables w new hat)
drop-modifies w new hat space page places is stay = record {
  modified = drop-says is_modified (λ row told. refl) w new hat space page places is stay;
  rewritten = drop-says is_rewritten (λ row told. refl) w new hat space page places is stay;
}

-- A FRAME IS TAKEN for a page, which alone may be modified: where it is filled so, if no translation says that the frame was written.
module _ (old new : World) (name : PageName) (modified : Bool) (bytes : Notes → PlaceTable → List ℕ) (laws : FillsPage old.store new.store name modified bytes) (places : new.hat.places ≡ old.hat.places) where
  -- each other page that is home was there before
  other-home : (n : PageName) (k : ℕ) → n ≢ name → residence new.store n ≡ Home k → residence old.store n ≡ Home k
  other-home n k ne home = sym (laws.stay n ne (λ taken. let z : Absent ≡ Home k = sym (laws.lost n taken) ∙ home in cc)) ∙ home

  -- and its frame isn't the one that was taken
  other-frame : (n : PageName) (k : ℕ) → residence new.store n ≡ Home k → residence old.store n ≡ Home k → (o : Option ℕ) → next_frame old.store ≡ o → is_only o k ≡ false
  other-frame n k home was None next = refl
  other-frame n k home was (Some frame) next = elim (eqb_tells k frame) [
    | inl same ↦ absurd (
        let held : name_at old.store.names frame ≡ Some n = ap (name_at old.store.names) (sym same.1) ∙ find-at old.store.names n k (home-is old.store n k was).found in
        let z : Absent ≡ Home k = sym (laws.lost n (ap (name_in old.store.names) next ∙ held)) ∙ home in cc)
    | inr apart ↦ apart.0
  ]

  other-same : (bit : Row → Bool) (n : PageName) (k : ℕ) → n ≢ name → residence new.store n ≡ Home k → says bit new.store new.hat.places k → (residence old.store n ≡ Home k) × says bit old.store old.hat.places k
  other-same bit n k ne home m =
      let was = other-home n k ne home in
      let row = laws.touches.rows k (ap (λ (o : Option ℕ). is_only o k) refl ∙ other-frame n k home was (next_frame old.store) refl) in (
        was,
        elim m [ inl r ↦ inl (ap bit (sym row) ∙ r) | inr x ↦ inr (subst (λ (ps : List (Option Translation)). HasWritten ps k) places x) ],
      )

  fill-says : (bit : Row → Bool) → SaysOnly (says bit) (λ n. n ≡ name) old new
  fill-says bit = λ n k home m. elim (cases-name name n) [ inl e ↦ inl e | inr ne ↦ inr (other-same bit n k ne home m) ]

  pub fill-modifies : ModifiesOnly (λ n. n ≡ name) old new
  fill-modifies = record { modified = fill-says is_modified; rewritten = fill-says is_rewritten }

  fill-says-where : (bit : Row → Bool) → bit (fresh_row modified) ≡ modified → (spaces : Spaces) (frame : ℕ) → MemoryFits (memory_of old spaces) → next_frame old.store ≡ Some frame → residence new.store name ≡ Home frame
      → row_at new.store.rows frame ≡ fresh_row modified → SaysOnly (says bit) (λ n. (n ≡ name) × (modified ≡ true)) old new
  fill-says-where bit fresh spaces frame f next at row = λ n k home m. elim (cases-name name n) [
    | inl e ↦
        let same : k ≡ frame = let z : Home k ≡ Home frame = sym home ∙ ap (residence new.store) e ∙ at in cc in
        inl (
          e,
          elim (subst (λ (j : ℕ). says bit new.store new.hat.places j) same m) [
            | inl r ↦ sym fresh ∙ ap bit (sym row) ∙ r
            | inr x ↦ absurd (
                let there = subst (λ (ps : List (Option Translation)). HasWritten ps frame) places x in
                (f.translations there.place there.translation there.there).unlisted (subst (λ (j : ℕ). IsListedFrame old.store j) (sym there.leads) (next-listed old.store frame next)))
          ],
        )
    | inr ne ↦ inr (other-same bit n k ne home m)
  ]

  pub fill-modifies-where : (spaces : Spaces) (frame : ℕ) → MemoryFits (memory_of old spaces) → next_frame old.store ≡ Some frame → residence new.store name ≡ Home frame → row_at new.store.rows frame ≡ fresh_row modified
      → ModifiesOnly (λ n. (n ≡ name) × (modified ≡ true)) old new
  fill-modifies-where spaces frame f next at row = record {
    modified = fill-says-where is_modified refl spaces frame f next at row;
    rewritten = fill-says-where is_rewritten refl spaces frame f next at row;
  }

-- THE NEXT FRAME IS FREED.
frees-says : (bit : Row → Bool) (w : World) (new : StoreSeen) (n : PageName) (frame : ℕ) → Frees w.store new n frame → SaysNone (says bit) w (with_tables w new w.hat)
frees-says bit w new n frame k = λ m j home was_so.
    let ne : m ≢ n = λ e. let z : Absent ≡ Home j = sym k.laws.absent ∙ ap (residence new) (sym e) ∙ home in cc in
    let was : residence w.store m ≡ Home j = sym (k.laws.stay m ne) ∙ home in
    let apart : j ≢ frame = λ e.
    ne (let z : Some m ≡ Some n = sym (find-at w.store.names m j (home-is w.store m j was).found) ∙ ap (name_at w.store.names) e ∙ k.named in cc) in (
      was,
      elim was_so [ inl r ↦ inl (ap bit (sym (k.elsewhere j apart).row) ∙ r) | inr x ↦ inr x ],
    )

frees-modifies : (w : World) (new : StoreSeen) (n : PageName) (frame : ℕ) → Frees w.store new n frame → ModifiesNone w (with_tables w new w.hat)
frees-modifies w new n frame k = record { modified = frees-says is_modified w new n frame k; rewritten = frees-says is_rewritten w new n frame k }

pub freed-modifies : (w : World) (spaces : Spaces) (new : StoreSeen) (lost : Option PageName) → MemoryFits (memory_of w spaces) → lost ≡ next_name w.store → MatchOption lost (new ≡ w.store) (λ n. new ≡ after_abort w.store n) → IfSome lost (λ n. Aborts w.store new n)
    → ModifiesNone w (with_tables w new w.hat)
freed-modifies w spaces new None f e done laws = subst (λ (s : StoreSeen). ModifiesNone w (with_tables w s w.hat)) (let same : new ≡ w.store = done in sym same) (modifies-same w)
freed-modifies w spaces new (Some n) f e done laws = by_frame (next_frame w.store) refl
  where
    by_frame : (o : Option ℕ) → next_frame w.store ≡ o → ModifiesNone w (with_tables w new w.hat)
    by_frame None next = absurd (let z : Some n ≡ None = e ∙ ap (name_in w.store.names) next in cc)
    by_frame (Some frame) next = frees-modifies w new n frame (frees-next w spaces new n frame f next (sym (ap (name_in w.store.names) next) ∙ sym e) done laws)

-- A PAGE IS GIVEN UP.
given-says : (bit : Row → Bool) (old new : World) (n : PageName) → GivesUp old.store new.store n → new.hat.places ≡ old.hat.places → SaysNone (says bit) old new
given-says bit old new n up places = λ m k home was_so.
    let ne : m ≢ n = λ e. let z : Absent ≡ Home k = sym up.laws.absent ∙ ap (residence new.store) (sym e) ∙ home in cc in
    elim (up.each k) [
      | inl given ↦ absurd (let z : Some m ≡ None = sym (find-at new.store.names m k (home-is new.store m k home).found) ∙ given.unnamed in cc)
      | inr other ↦ (
        sym (up.laws.stay m ne) ∙ home,
        elim was_so [ inl r ↦ inl (ap bit (sym other.row) ∙ r) | inr x ↦ inr (subst (λ (ps : List (Option Translation)). HasWritten ps k) places x) ],
      )
    ]

pub given-modifies : (old new : World) (n : PageName) → GivesUp old.store new.store n → new.hat.places ≡ old.hat.places → ModifiesNone old new
given-modifies old new n up places = record { modified = given-says is_modified old new n up places; rewritten = given-says is_rewritten old new n up places }

-- AN ACCESS IS NOTED in the translation of its page: a store makes the page in that frame modified.
noted-written : (places after : List (Option Translation)) (space page frame k : ℕ) (write : Bool) → after ≡ change_at space page (after_access write) places → IsNoted after space page frame write → IsSingleValued after
    → HasWritten after k → ((write ≡ true) × (k ≡ frame)) ⊎ HasWritten places k
noted-written places after space page frame k write is noted single w = by_holds (holds space page o) refl
  where
    o : Option Translation
    o = slice_index_or places w.place None

    now : cond (holds space page o) (option_map (after_access write) o) o ≡ Some w.translation
    now = sym (index-map (change_page space page (after_access write)) places w.place refl) ∙ ap (λ (ps : List (Option Translation)). slice_index_or ps w.place None) (sym is) ∙ w.there

    -- the bits of the translation that was
    by_bits : (u : Translation) → o ≡ Some u → w.translation ≡ after_access write u → holds space page (Some u) ≡ true → ((write ≡ true) × (k ≡ frame)) ⊎ HasWritten places k
    by_bits u at e own = elim (or-parts u.modified write (ap (λ (t : Translation). t.modified) (sym e) ∙ w.modified)) [
      | inl was ↦ inr (record { place = w.place; translation = u; there = at; leads = ap (λ (t : Translation). t.frame) (sym e) ∙ w.leads; modified = was })
      | inr wrote ↦
          let mine : holds space page (Some w.translation) ≡ true = ap (λ (t : Translation). holds space page (Some t)) e ∙ own in
          let found = found-own after space page noted.entry w.translation w.place single noted.there w.there mine in
          inl (wrote, sym w.leads ∙ ap (λ (t : Translation). t.frame) found ∙ noted.leads_there)
    ]

    by_holds : (b : Bool) → holds space page o ≡ b → ((write ≡ true) × (k ≡ frame)) ⊎ HasWritten places k
    by_holds false e = inr (record { place = w.place; translation = w.translation; there = ap (λ (b : Bool). cond b (option_map (after_access write) o) o) (sym e) ∙ now; leads = w.leads; modified = w.modified })
    by_holds true e = by_entry o refl (ap (λ (b : Bool). cond b (option_map (after_access write) o) o) (sym e) ∙ now)
      where
        by_entry : (x : Option Translation) → o ≡ x → option_map (after_access write) x ≡ Some w.translation → ((write ≡ true) × (k ≡ frame)) ⊎ HasWritten places k
        by_entry None at h = absurd (let z : None ≡ Some w.translation = h in cc)
        by_entry (Some u) at h = by_bits u at (let z : Some (after_access write u) ≡ Some w.translation = h in let same : after_access write u ≡ w.translation = cc in sym same) (ap (holds space page) (sym at) ∙ e)

module _ (w : World) (hat : HatSeen) (space page frame : ℕ) (write : Bool) (places : hat.places ≡ change_at space page (after_access write) w.hat.places) (noted : IsNoted hat.places space page frame write) (single : IsSingleValued hat.places) where
  note-says : (bit : Row → Bool) → SaysOnly (says bit) (λ n. (write ≡ true) × (residence w.store n ≡ Home frame)) w (with_tables w w.store hat)
  note-says bit = λ n k home m. elim m [
    | inl r ↦ inr (home, inl r)
    | inr x ↦ elim (noted-written w.hat.places hat.places space page frame k write places noted single x) [
      | inl is ↦ inl (is.0, home ∙ ap (λ (j : ℕ). Home j) is.1)
      | inr was ↦ inr (home, inr was)
    ]
  ]

  pub note-modifies : ModifiesOnly (λ n. (write ≡ true) × (residence w.store n ≡ Home frame)) w (with_tables w w.store hat)
  note-modifies = record { modified = note-says is_modified; rewritten = note-says is_rewritten }

pub noted-modifies : (w : World) (hat : HatSeen) (space page : ℕ) (write : Bool) (o : Option ℕ) → IfSome o (λ frame. hat.places ≡ change_at space page (after_access write) w.hat.places) → IfSome o (λ frame. IsNoted hat.places space page frame write) → IsSingleValued hat.places
    → IfSome o (λ frame. ModifiesOnly (λ n. (write ≡ true) × (residence w.store n ≡ Home frame)) w (with_tables w w.store hat))
noted-modifies w hat space page write None places noted single = tt
noted-modifies w hat space page write (Some frame) places noted single = note-modifies w hat space page frame write places noted single
