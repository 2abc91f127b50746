-- Notes and tables that agree with a store, once the store or the notes changed.
use Rattle.std.proofs.Common.{◌≡◌, ◌≢◌, ℕ, Bool, true, false, cond, ◌⊎◌, inl, inr, List, Option, Some, None, IsSome, refl, sym, ◌∙◌, ap, subst, is_some}
use Rattle.std.specs.Prelude.{unwrap_or, Contains}
use Rattle.std.proofs.lemmas.Bool.{cases_eq}
use Rattle.core_arena.specs.Bytes.{bytes_at, zeros}
use Rattle.page_hash.specs.Names.{name_at}
use Rattle.page_hash.specs.declared.PageName.{PageName}
use Rattle.page_lock.specs.Rows.{row_at}
use Rattle.page_lock.specs.declared.Row.{Row}
use Rattle.page_store.specs.Bays.{BaySeen, missing, home, out, bay_at, block_of}
use Rattle.page_store.specs.Bytes.{clip}
use Rattle.page_store.specs.StoreFits.{StoreFits, NoteAgrees, IsClean}
use Rattle.page_store.specs.Laws.{SameFlights}
use Rattle.page_store.specs.Moves.{SameDisksTell}
use Rattle.page_store.specs.Notes.{Note, Notes, with_note}
use Rattle.page_store.specs.Seen.{StoreSeen, IsSoundStore, IsGone, own_frame}
use Rattle.page_store.specs.Table.{PlaceTable}
use Rattle.page_store.specs.Value.{content_in_note, content_in_bay, content_of, backing_value, tells}
use Rattle.page_store.specs.declared.place.Place.{Place}
use Rattle.page_store.proofs.FrameLaws.{some-or-none, some-not, agrees-at, held-away}
use Rattle.page_store.proofs.QueryLemmas.{held-within}
use Rattle.page_store.proofs.TransferLemmas.{with_note-same, with_note-other}

-- A row has the holder that it had, and its page too, unless that is gone now.
pub record SameOut (old new : Row) : Type 0 where
  pub holder : new.holder ≡ old.holder
  pub page : ((new.gone ≡ old.gone) × (new.source ≡ old.source)) ⊎ ((new.gone ≡ true) × (new.source ≡ None))

pub same-out : (r : Row) → SameOut r r
same-out r = record { holder = refl; page = inl (refl, refl) }

pub same-row : (old new : Row) → new ≡ old → SameOut old new
same-row old new e = subst (λ (r : Row). SameOut old r) (sym e) (same-out old)

-- what the row has of the page, where it isn't gone now
kept_page : {old new : Row} → SameOut old new → new.gone ≡ false → (old.gone ≡ false) × (new.source ≡ old.source)
kept_page same h = elim same.page [
  | inl p ↦ (sym p.0 ∙ h, p.1)
  | inr p ↦ absurd (let z : true ≡ false = sym p.0 ∙ h in cc)
]

no_source : {old new : Row} → SameOut old new → old.source ≡ None → new.source ≡ None
no_source same h = elim same.page [ inl p ↦ p.1 ∙ h | inr p ↦ p.1 ]

pub gone-stays : {old new : Row} → SameOut old new → old.gone ≡ true → new.gone ≡ true
gone-stays same h = elim same.page [ inl p ↦ p.0 ∙ h | inr p ↦ p.0 ]

pub own-of : (a b : StoreSeen) (k : ℕ) → (row_at b.rows k).source ≡ (row_at a.rows k).source → own_frame b k ≡ own_frame a k
own-of a b k e = ap (λ (o : Option ℕ). unwrap_or o k) e

pub own-self : (s : StoreSeen) (k : ℕ) → (row_at s.rows k).source ≡ None → own_frame s k ≡ k
own-self s k e = ap (λ (o : Option ℕ). unwrap_or o k) e

pub own-other : (s : StoreSeen) (k own : ℕ) → (row_at s.rows k).source ≡ Some own → own_frame s k ≡ own
own-other s k own e = ap (λ (o : Option ℕ). unwrap_or o k) e

-- a frame without a snapshot is no other frame's own one
pub own-far : (s : StoreSeen) (k f : ℕ) → IsSoundStore s → k ≢ f → (row_at s.rows f).snapshot ≡ None → own_frame s k ≢ f
own-far s k f sound ne single q = elim (some-or-none (row_at s.rows k).source) [
  | inl e ↦ ne (sym (own-self s k e) ∙ q)
  | inr x ↦
      let same : x.0 ≡ f = sym (own-other s k x.0 x.1) ∙ q in
      let z : None ≡ Some k = sym single ∙ subst (λ (j : ℕ). (row_at s.rows j).snapshot ≡ Some k) same (sound.paired.snapshot x.0 k x.1) in
      cc
]

-- a note that agrees with a store agrees with one that has its disk and its frame as before
pub note-same : (old new : StoreSeen) (table : PlaceTable) (t : ℕ) (n : Note) → NoteAgrees old table t n → new.origin ≡ old.origin → bay_at new.bays n.number ≡ bay_at old.bays n.number
    → SameOut (row_at old.rows n.frame) (row_at new.rows n.frame) → bytes_at new.frames n.frame ≡ None
    → ((row_at new.rows n.frame).gone ≡ false → name_at new.names (own_frame old n.frame) ≡ name_at old.names (own_frame old n.frame)) → NoteAgrees new table t n
note-same old new table t n was origin bay row away names = record {
  mine = was.mine;
  origin = was.origin ∙ sym origin;
  out = record {
    bay = bay ∙ was.out.bay;
    holder = row.holder ∙ was.out.holder;
    page = λ h. let kept = kept_page row h in
        ap (λ (k : ℕ). name_at new.names k) (own-of old new n.frame kept.1) ∙ names h ∙ was.out.page kept.0;
    read = λ w. no_source row (was.out.read w);
  };
  away = away;
  disk = was.disk;
  block = was.block;
  read = λ w h. was.read w (kept_page row h).0;
  whole = was.whole;
  bytes = was.bytes;
}

-- a page that is clean stays clean with its bytes, its block and the notes that write it
pub clean-same : (old new : StoreSeen) (before after : Notes) (table : PlaceTable) (k : ℕ) (n : PageName) → IsClean old before table k n
    → SameDisksTell old before new after → bytes_at new.frames k ≡ bytes_at old.frames k → backing_value new after (table n) ≡ backing_value old before (table n)
    → ((t : ℕ) (x : Note) → after t ≡ Some x → x.writes ≡ true → x.name ≡ n → (before t ≡ Some x) × (IsGone old x.frame → IsGone new x.frame)) → IsClean new after table k n
clean-same old new before after table k n was alike bytes same notes = record {
  same = λ t b h. was.same (sym (alike (table n).disk) ∙ t) b (sym bytes ∙ h) ∙ sym same;
  unwritten = λ t x h w q. let z = notes t x h w q in let u = was.unwritten t x z.0 w q in (z.1 u.0, u.1);
}

-- nothing goes out or comes back
pub record Calm (old new : StoreSeen) : Type 0 where
  pub origin : new.origin ≡ old.origin
  pub bays : new.bays ≡ old.bays
  pub rows : (k : ℕ) → SameOut (row_at old.rows k) (row_at new.rows k)
  pub away : (k : ℕ) → bytes_at old.frames k ≡ None → bytes_at new.frames k ≡ None
  pub names : (k : ℕ) → bytes_at old.frames k ≡ None → (row_at new.rows k).gone ≡ false → name_at new.names (own_frame old k) ≡ name_at old.names (own_frame old k)

module _ (old new : StoreSeen) (notes : Notes) (table : PlaceTable) (calm : Calm old new) where
  pub backing_value-calm : (place : Place) → backing_value new notes place ≡ backing_value old notes place
  backing_value-calm place = ap (λ (b : List BaySeen). backing_value (record old { bays = b }) notes place) calm.bays

  pub alike-calm : SameDisksTell old notes new notes
  alike-calm number = ap (λ (b : List BaySeen). tells (record old { bays = b }) notes number) calm.bays

  pub clean-calm : (k : ℕ) (n : PageName) → IsClean old notes table k n → bytes_at new.frames k ≡ bytes_at old.frames k → IsClean new notes table k n
  clean-calm k n was bytes = clean-same old new notes notes table k n was alike-calm bytes (backing_value-calm (table n)) (λ t x h w q. (h, gone-stays (calm.rows x.frame)))

  pub fits-calm : ((k : ℕ) (n : PageName) → Contains new.cached k → name_at new.names k ≡ Some n → IsClean new notes table k n) → StoreFits old notes table → StoreFits new notes table
  fits-calm clean fits = record {
    apart = fits.apart;
    each_note = λ t n h.
        let was = fits.each_note t n h in
        note-same old new table t n was calm.origin (ap (λ (b : List BaySeen). bay_at b n.number) calm.bays) (calm.rows n.frame) (calm.away n.frame was.away) (calm.names n.frame was.away);
    each_frame = λ k t h. fits.each_frame k t (sym (calm.rows k).holder ∙ h);
    each_bay = λ number t h. fits.each_bay number t (sym (ap (λ (b : List BaySeen). bay_at b number) calm.bays) ∙ h);
    each_cached = clean;
  }

-- no disk moves then, and every flight stays out
pub outside-calm : (old new : StoreSeen) → Calm old new → IsSoundStore old → SameFlights old new
outside-calm old new calm sound = record {
  bays = calm.bays;
  flights = λ f is.
      let lt = held-within old.rows f.frame f.seat is.out.holder in
      let away = held-away (bytes_at old.frames f.frame) (name_at old.names f.frame) (row_at old.rows f.frame) (agrees-at old sound f.frame lt) f.seat is.out.holder in
      record {
        origin = is.origin ∙ sym calm.origin;
        out = record {
          bay = ap (λ (b : List BaySeen). bay_at b f.number) calm.bays ∙ is.out.bay;
          holder = (calm.rows f.frame).holder ∙ is.out.holder;
          page = λ h.
              let kept = kept_page (calm.rows f.frame) h in
              ap (name_at new.names) (own-of old new f.frame kept.1) ∙ calm.names f.frame away h ∙ is.out.page kept.0;
          read = λ w. no_source (calm.rows f.frame) (is.out.read w);
        };
      };
}

pub outside-then : (a b c : StoreSeen) → SameFlights a b → SameFlights b c → SameFlights a c
outside-then a b c x y = record { bays = y.bays ∙ x.bays; flights = λ f is. y.flights f (x.flights f is) }

-- a frame and a disk leave with a seat, as its note says
pub record Leaves (old new : StoreSeen) (notes : Notes) (table : PlaceTable) (seat : ℕ) (note : Note) : Type 0 where
  pub sound : IsSoundStore old
  pub fits : StoreFits old notes table
  pub idle : notes seat ≡ None
  pub origin : new.origin ≡ old.origin
  pub bay : bay_at old.bays note.number ≡ home note.disk
  pub left : bay_at new.bays note.number ≡ out seat
  pub bays : (k : ℕ) → k ≢ note.number → bay_at new.bays k ≡ bay_at old.bays k
  pub was_home : IsSome (bytes_at old.frames note.frame)
  pub bytes : (k : ℕ) → k ≢ note.frame → bytes_at new.frames k ≡ bytes_at old.frames k
  pub holder : (row_at new.rows note.frame).holder ≡ Some seat
  pub rows : (k : ℕ) → k ≢ note.frame → SameOut (row_at old.rows k) (row_at new.rows k)
  pub names : (k : ℕ) → k ≢ note.frame → name_at new.names k ≡ name_at old.names k
  pub single : (row_at old.rows note.frame).snapshot ≡ None
  pub mine : NoteAgrees new table seat note
  pub cached : (k : ℕ) → Contains new.cached k → Contains old.cached k × (k ≢ note.frame)
  pub unwritten : note.writes ≡ true → (k : ℕ) → Contains new.cached k → name_at new.names k ≡ Some note.name → ⊥

module _ (old new : StoreSeen) (notes : Notes) (table : PlaceTable) (seat : ℕ) (note : Note) (can : Leaves old new notes table seat note) where
  -- a seat that has something out is not this one, and its frame and its disk are others
  busy : (t : ℕ) (n : Note) → notes t ≡ Some n → t ≢ seat
  busy t n h q = let a : notes seat ≡ Some n = subst (λ (x : ℕ). notes x ≡ Some n) q h in let b = can.idle in cc

  other_frame : (t : ℕ) (n : Note) → notes t ≡ Some n → n.frame ≢ note.frame
  other_frame t n h q = some-not (bytes_at old.frames note.frame) can.was_home (ap (bytes_at old.frames) (sym q) ∙ (can.fits.each_note t n h).away)

  other_number : (t : ℕ) (n : Note) → notes t ≡ Some n → n.number ≢ note.number
  other_number t n h q =
      let a : bay_at old.bays note.number ≡ out t = ap (bay_at old.bays) (sym q) ∙ (can.fits.each_note t n h).out.bay in
      let b = can.bay in
      cc

  pub notes-left : (g t : ℕ) → (row_at old.rows g).holder ≡ Some t → with_note notes seat (Some note) t ≡ notes t
  notes-left g t h = let n = can.fits.each_frame g t h in with_note-other notes seat t (Some note) (busy t n.0 n.1)

  other_bay : (k : ℕ) (b : BaySeen) → bay_at old.bays k ≡ b → content_in_bay b (with_note notes seat (Some note)) ≡ content_in_bay b notes
  other_bay k missing e = refl
  other_bay k (home d) e = refl
  other_bay k (out t) e = let n = can.fits.each_bay k t e in ap content_in_note (with_note-other notes seat t (Some note) (busy t n.0 n.1))

  -- a disk that goes out is found in its note, and the others stay where they are
  content_left : (k : ℕ) → content_of new (with_note notes seat (Some note)) k ≡ content_of old notes k
  content_left k = elim (cases_eq k note.number) [
    | inl e ↦ subst (λ (x : ℕ). content_of new (with_note notes seat (Some note)) x ≡ content_of old notes x) (sym e)
        (ap (λ (b : BaySeen). content_in_bay b (with_note notes seat (Some note))) can.left
        ∙ ap content_in_note (with_note-same notes seat (Some note))
        ∙ sym (ap (λ (b : BaySeen). content_in_bay b notes) can.bay))
    | inr ne ↦ ap (λ (b : BaySeen). content_in_bay b (with_note notes seat (Some note))) (can.bays k ne) ∙ other_bay k (bay_at old.bays k) refl
  ]

  pub backing_value-left : (place : Place) → backing_value new (with_note notes seat (Some note)) place ≡ backing_value old notes place
  backing_value-left place = ap (λ (x : Option (List (List ℕ))). cond place.blank zeros (clip place.valid (block_of x place.block))) (content_left place.disk)

  pub alike-left : SameDisksTell old notes new (with_note notes seat (Some note))
  alike-left k = ap (λ (x : Option (List (List ℕ))). is_some x) (content_left k)

  old_note : (t : ℕ) (n : Note) → notes t ≡ Some n → with_note notes seat (Some note) t ≡ Some n
  old_note t n h = with_note-other notes seat t (Some note) (busy t n h) ∙ h

  this_note : (t : ℕ) (n : Note) → t ≡ seat → with_note notes seat (Some note) t ≡ Some n → note ≡ n
  this_note t n e h = let a : Some note ≡ Some n = sym (with_note-same notes seat (Some note)) ∙ ap (with_note notes seat (Some note)) (sym e) ∙ h in cc

  each_note : (t : ℕ) (n : Note) → with_note notes seat (Some note) t ≡ Some n → NoteAgrees new table t n
  each_note t n h = elim (cases_eq t seat) [
    | inl e ↦ subst (λ (x : ℕ). NoteAgrees new table x n) (sym e) (subst (λ (x : Note). NoteAgrees new table seat x) (this_note t n e h) can.mine)
    | inr ne ↦
        let was_so : notes t ≡ Some n = sym (with_note-other notes seat t (Some note) ne) ∙ h in
        let was = can.fits.each_note t n was_so in
        let apart = other_frame t n was_so in
        note-same old new table t n was can.origin (can.bays n.number (other_number t n was_so)) (can.rows n.frame apart) (can.bytes n.frame apart ∙ was.away)
        (λ g. can.names (own_frame old n.frame) (own-far old n.frame note.frame can.sound apart can.single))
  ]

  each_frame : (k t : ℕ) → (row_at new.rows k).holder ≡ Some t → (n : Note) × (with_note notes seat (Some note) t ≡ Some n) × (n.frame ≡ k)
  each_frame k t h = elim (cases_eq k note.frame) [
    | inl e ↦
        let a : Some seat ≡ Some t = sym can.holder ∙ ap (λ (j : ℕ). (row_at new.rows j).holder) (sym e) ∙ h in
        let d : seat ≡ t = cc in
        (note, (ap (with_note notes seat (Some note)) (sym d) ∙ with_note-same notes seat (Some note)), sym e)
    | inr ne ↦ let n = can.fits.each_frame k t (sym (can.rows k ne).holder ∙ h) in (n.0, old_note t n.0 n.1, n.2)
  ]

  each_bay : (number t : ℕ) → bay_at new.bays number ≡ out t → (n : Note) × (with_note notes seat (Some note) t ≡ Some n) × (n.number ≡ number)
  each_bay number t h = elim (cases_eq number note.number) [
    | inl e ↦
        let a : out seat ≡ out t = sym can.left ∙ ap (bay_at new.bays) (sym e) ∙ h in
        let d : seat ≡ t = cc in
        (note, (ap (with_note notes seat (Some note)) (sym d) ∙ with_note-same notes seat (Some note)), sym e)
    | inr ne ↦ let n = can.fits.each_bay number t (sym (can.bays number ne) ∙ h) in (n.0, old_note t n.0 n.1, n.2)
  ]

  each_cached : (k : ℕ) (n : PageName) → Contains new.cached k → name_at new.names k ≡ Some n → IsClean new (with_note notes seat (Some note)) table k n
  each_cached k n h e =
      let far : k ≢ note.frame = (can.cached k h).1 in
      let was = can.fits.each_cached k n (can.cached k h).0 (sym (can.names k far) ∙ e) in
      clean-same old new notes (with_note notes seat (Some note)) table k n was alike-left (can.bytes k far) (backing_value-left (table n))
      (λ t x f w q. elim (cases_eq t seat) [
        | inl here ↦
            let b : note ≡ x = this_note t x here f in
            absurd (can.unwritten (ap (λ (z : Note). z.writes) b ∙ w) k h (e ∙ ap (λ (z : PageName). Some z) (sym q ∙ ap (λ (z : Note). z.name) (sym b))))
        | inr ne ↦
            let g : notes t ≡ Some x = sym (with_note-other notes seat t (Some note) ne) ∙ f in
            (g, gone-stays (can.rows x.frame (other_frame t x g)))
      ])

  -- the notes and the table agree with the store
  pub fits-left : StoreFits new (with_note notes seat (Some note)) table
  fits-left = record { apart = can.fits.apart; each_note = each_note; each_frame = each_frame; each_bay = each_bay; each_cached = each_cached }
