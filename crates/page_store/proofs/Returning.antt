-- A frame and a disk that come back.
use Rattle.std.proofs.Common.{◌≡◌, ◌≢◌, ℕ, Bool, true, false, cond, ◌⊎◌, inl, inr, List, [], Option, Some, None, IsTrue, refl, sym, ◌∙◌, ap, subst, is_some, Contains}
use Rattle.std.proofs.lemmas.List.{get_or-set_other}
use Rattle.std.proofs.lemmas.Bool.{cases_eq, cases_Bool}
use Rattle.block_device.specs.DiskSeen.{with_block}
use Rattle.core_arena.specs.Bytes.{bytes_at, zeros}
use Rattle.page_hash.specs.Names.{find, name_at, AreDistinct}
use Rattle.page_hash.specs.declared.PageName.{PageName}
use Rattle.page_hash.proofs.NameLaws.{find-at}
use Rattle.page_lock.specs.Rows.{row_at}
use Rattle.page_lock.specs.declared.Row.{Row}
use Rattle.page_store.specs.Bays.{BaySeen, missing, home, out, bay_at, block_of}
use Rattle.page_store.specs.Bytes.{clip}
use Rattle.page_store.specs.StoreFits.{StoreFits, NoteAgrees, IsClean}
use Rattle.page_store.specs.Flight.{FlightSeen, Progress, fresh, done, failed, IsWritten, IsPerformed}
use Rattle.page_store.specs.Moves.{SameDisksTell, is_only}
use Rattle.page_store.specs.Notes.{Note, Notes, with_note}
use Rattle.page_store.specs.Seen.{StoreSeen, IsSoundStore, own_frame, residence}
use Rattle.page_store.specs.Table.{PlaceTable}
use Rattle.page_store.specs.Transfers.{EndsValues}
use Rattle.page_store.specs.Value.{value, value_in, content_in_note, content_in_bay, content_of, backing_value, tells}
use Rattle.page_store.specs.declared.place.Place.{Place}
use Rattle.page_store.specs.declared.residence.Residence.TheVariants.{Home}
use Rattle.page_store.proofs.Agree.{same-row, note-same, clean-same, own-far, own-self}
use Rattle.page_store.proofs.Elsewhere.{OneFrame, one-elsewhere, only-none, found-same, value_in-same}
use Rattle.page_store.proofs.FrameLaws.{away-snapshot, some-not, eq-far}
use Rattle.page_store.proofs.QueryLemmas.{IsIn, home-is}
use Rattle.page_store.proofs.TransferLemmas.{with_note-same, with_note-other, is-or-not, holds-or-not}

-- another block is as it was
pub other_block : (content : Option (List (List ℕ))) (block k : ℕ) (x : List ℕ) → k ≢ block → block_of (with_block content block x) k ≡ block_of content k
other_block None block k x ne = refl
other_block (Some blocks) block k x ne = get_or-set_other blocks block k x [] ne

still_tells : (content : Option (List (List ℕ))) (block : ℕ) (x : List ℕ) → is_some (with_block content block x) ≡ is_some content
still_tells None block x = refl
still_tells (Some blocks) block x = refl

-- whatever became of a write, at most its block is new
pub one_block : (note : Note) (f : FlightSeen) (outcome : Progress) → IsWritten note f outcome → (x : List ℕ) × (f.disk.content ≡ with_block note.disk.content note.block x)
one_block note f fresh h = absurd h
one_block note f done h = (clip note.valid note.bytes, h)
one_block note f failed h = (h.0, h.2)

-- a flight that was performed comes back, as its seat's note says
pub record Returns (old new : StoreSeen) (notes : Notes) (table : PlaceTable) (f : FlightSeen) (note : Note) : Type 0 where
  pub sound : IsSoundStore old
  pub fits : StoreFits old notes table
  pub mine : notes f.seat ≡ Some note
  pub performed : IsPerformed note f
  pub unsourced : (row_at old.rows f.frame).source ≡ None
  pub origin : new.origin ≡ old.origin
  pub bay : bay_at new.bays f.number ≡ home f.disk
  pub bays : (k : ℕ) → k ≢ f.number → bay_at new.bays k ≡ bay_at old.bays k
  pub one : OneFrame old new f.frame
  pub here : bytes_at new.frames f.frame ≡ Some f.bytes
  pub holder : (row_at new.rows f.frame).holder ≡ None
  pub cached : (k : ℕ) → Contains new.cached k → Contains old.cached k
  pub distinct : AreDistinct new.names

module _ (old new : StoreSeen) (notes : Notes) (table : PlaceTable) (f : FlightSeen) (note : Note) (can : Returns old new notes table f note) where
  pub mine_out : NoteAgrees old table f.seat note
  mine_out = can.fits.each_note f.seat note can.mine

  is_note : (n : Note) → notes f.seat ≡ Some n → n ≡ note
  is_note n h = let a = can.mine in cc

  bay_out : bay_at old.bays f.number ≡ out f.seat
  bay_out = ap (bay_at old.bays) can.performed.number ∙ mine_out.out.bay

  pub frame_held : (row_at old.rows f.frame).holder ≡ Some f.seat
  frame_held = ap (λ (k : ℕ). (row_at old.rows k).holder) can.performed.frame ∙ mine_out.out.holder

  pub frame_away : bytes_at old.frames f.frame ≡ None
  frame_away = ap (bytes_at old.frames) can.performed.frame ∙ mine_out.away

  -- a frame or a disk that is out with another seat stays out
  other_holder : (k t : ℕ) → k ≢ f.frame → (row_at old.rows k).holder ≡ Some t → t ≢ f.seat
  other_holder k t ne h q =
      let n = can.fits.each_frame k t h in
      let b : n.0 ≡ note = is_note n.0 (subst (λ (x : ℕ). notes x ≡ Some n.0) q n.1) in
      ne (sym n.2 ∙ ap (λ (x : Note). x.frame) b ∙ sym can.performed.frame)

  other_bay : (k t : ℕ) → k ≢ f.number → bay_at old.bays k ≡ out t → t ≢ f.seat
  other_bay k t ne h q =
      let n = can.fits.each_bay k t h in
      let b : n.0 ≡ note = is_note n.0 (subst (λ (x : ℕ). notes x ≡ Some n.0) q n.1) in
      ne (sym n.2 ∙ ap (λ (x : Note). x.number) b ∙ sym can.performed.number)

  pub notes-back : (k t : ℕ) → k ≢ f.frame → (row_at old.rows k).holder ≡ Some t → with_note notes f.seat None t ≡ notes t
  notes-back k t ne h = with_note-other notes f.seat t None (other_holder k t ne h)

  content_in_other : (k : ℕ) (b : BaySeen) → k ≢ f.number → bay_at old.bays k ≡ b → content_in_bay b (with_note notes f.seat None) ≡ content_in_bay b notes
  content_in_other k missing ne e = refl
  content_in_other k (home d) ne e = refl
  content_in_other k (out t) ne e = ap content_in_note (with_note-other notes f.seat t None (other_bay k t ne e))

  content_other : (k : ℕ) → k ≢ f.number → content_of new (with_note notes f.seat None) k ≡ content_of old notes k
  content_other k ne = ap (λ (b : BaySeen). content_in_bay b (with_note notes f.seat None)) (can.bays k ne) ∙ content_in_other k (bay_at old.bays k) ne refl

  pub content-new : content_of new (with_note notes f.seat None) f.number ≡ f.disk.content
  content-new = ap (λ (b : BaySeen). content_in_bay b (with_note notes f.seat None)) can.bay

  pub content-old : content_of old notes f.number ≡ note.disk.content
  content-old = ap (λ (b : BaySeen). content_in_bay b notes) bay_out ∙ ap content_in_note can.mine

  -- the blocks that the flight didn't write are as they were
  kept_block : (k : ℕ) → (note.writes ≡ true → k ≢ note.block) → block_of f.disk.content k ≡ block_of note.disk.content k
  kept_block k far = elim (cases_Bool note.writes) [
    | inl w ↦
        let x = one_block note f f.outcome (can.performed.written w) in
        ap (λ (c : Option (List (List ℕ))). block_of c k) x.1 ∙ other_block note.disk.content note.block k x.0 (far w)
    | inr r ↦ ap (λ (c : Option (List (List ℕ))). block_of c k) (can.performed.unchanged r)
  ]

  told_same : is_some f.disk.content ≡ is_some note.disk.content
  told_same = elim (cases_Bool note.writes) [
    | inl w ↦
        let x = one_block note f f.outcome (can.performed.written w) in
        ap (λ (c : Option (List (List ℕ))). is_some c) x.1 ∙ still_tells note.disk.content note.block x.0
    | inr r ↦ ap (λ (c : Option (List (List ℕ))). is_some c) (can.performed.unchanged r)
  ]

  pub alike-back : SameDisksTell old notes new (with_note notes f.seat None)
  alike-back k = elim (cases_eq k f.number) [
    | inl e ↦ ap (λ (j : ℕ). is_some (content_of new (with_note notes f.seat None) j)) e
        ∙ ap (λ (c : Option (List (List ℕ))). is_some c) content-new ∙ told_same
        ∙ sym (ap (λ (c : Option (List (List ℕ))). is_some c) content-old)
        ∙ sym (ap (λ (j : ℕ). is_some (content_of old notes j)) e)
    | inr ne ↦ ap (λ (c : Option (List (List ℕ))). is_some c) (content_other k ne)
  ]

  block_same : (disk block : ℕ) → (disk ≡ f.number → note.writes ≡ true → block ≢ note.block)
      → block_of (content_of new (with_note notes f.seat None) disk) block ≡ block_of (content_of old notes disk) block
  block_same disk block far = elim (cases_eq disk f.number) [
    | inl e ↦ ap (λ (j : ℕ). block_of (content_of new (with_note notes f.seat None) j) block) e
        ∙ ap (λ (c : Option (List (List ℕ))). block_of c block) content-new ∙ kept_block block (far e)
        ∙ sym (ap (λ (c : Option (List (List ℕ))). block_of c block) content-old)
        ∙ sym (ap (λ (j : ℕ). block_of (content_of old notes j) block) e)
    | inr ne ↦ ap (λ (c : Option (List (List ℕ))). block_of c block) (content_other disk ne)
  ]

  stored_back : (place : Place) → (place.blank ≡ false → place.disk ≡ f.number → note.writes ≡ true → place.block ≢ note.block)
      → backing_value new (with_note notes f.seat None) place ≡ backing_value old notes place
  stored_back place far = elim (cases_Bool place.blank) [
    | inl b ↦ rw b refl
    | inr w ↦ ap (λ (x : List ℕ). cond place.blank zeros (clip place.valid x)) (block_same place.disk place.block (far w))
  ]

  -- what is stored of a name that the flight didn't write, or that is blank, is as it was
  pub backing_value-back : (m : PageName) → ((table m).blank ≡ false → note.writes ≡ true → m ≢ note.name)
      → backing_value new (with_note notes f.seat None) (table m) ≡ backing_value old notes (table m)
  backing_value-back m ne = stored_back (table m) (λ u d w b. ne u w (can.fits.apart m note.name (d ∙ can.performed.number ∙ sym mine_out.disk) (b ∙ sym mine_out.block)))

  other_seat : (t : ℕ) (n : Note) → with_note notes f.seat None t ≡ Some n → (t ≢ f.seat) × (notes t ≡ Some n)
  other_seat t n h = elim (cases_eq t f.seat) [
    | inl e ↦ absurd (let c : None ≡ Some n = sym (with_note-same notes f.seat None) ∙ ap (with_note notes f.seat None) (sym e) ∙ h in cc)
    | inr ne ↦ (ne, sym (with_note-other notes f.seat t None ne) ∙ h)
  ]

  other_frame : (t : ℕ) (n : Note) → t ≢ f.seat → notes t ≡ Some n → n.frame ≢ f.frame
  other_frame t n ne h q =
      let a : Some t ≡ Some f.seat = sym ((can.fits.each_note t n h).out.holder) ∙ ap (λ (k : ℕ). (row_at old.rows k).holder) q ∙ frame_held in
      ne (cc)

  other_number : (t : ℕ) (n : Note) → t ≢ f.seat → notes t ≡ Some n → n.number ≢ f.number
  other_number t n ne h q =
      let a : out t ≡ out f.seat = sym ((can.fits.each_note t n h).out.bay) ∙ ap (bay_at old.bays) q ∙ bay_out in
      ne (cc)

  each_note : (t : ℕ) (n : Note) → with_note notes f.seat None t ≡ Some n → NoteAgrees new table t n
  each_note t n h =
      let o = other_seat t n h in
      let was = can.fits.each_note t n o.1 in
      let apart = other_frame t n o.0 o.1 in
      note-same old new table t n was can.origin (can.bays n.number (other_number t n o.0 o.1))
      (same-row (row_at old.rows n.frame) (row_at new.rows n.frame) (can.one.rows n.frame apart)) (can.one.bytes n.frame apart ∙ was.away)
      (λ g. can.one.names (own_frame old n.frame) (own-far old n.frame f.frame can.sound apart (away-snapshot old can.sound f.frame frame_away)))

  each_frame : (k t : ℕ) → (row_at new.rows k).holder ≡ Some t → (n : Note) × (with_note notes f.seat None t ≡ Some n) × (n.frame ≡ k)
  each_frame k t h = elim (cases_eq k f.frame) [
    | inl e ↦ absurd (let c : None ≡ Some t = sym can.holder ∙ ap (λ (j : ℕ). (row_at new.rows j).holder) (sym e) ∙ h in cc)
    | inr ne ↦
        let a : (row_at old.rows k).holder ≡ Some t = sym (ap (λ (q : Row). q.holder) (can.one.rows k ne)) ∙ h in
        let n = can.fits.each_frame k t a in
        (n.0, notes-back k t ne a ∙ n.1, n.2)
  ]

  each_bay : (number t : ℕ) → bay_at new.bays number ≡ out t → (n : Note) × (with_note notes f.seat None t ≡ Some n) × (n.number ≡ number)
  each_bay number t h = elim (cases_eq number f.number) [
    | inl e ↦ absurd (let c : home f.disk ≡ out t = sym can.bay ∙ ap (bay_at new.bays) (sym e) ∙ h in cc)
    | inr ne ↦
        let a : bay_at old.bays number ≡ out t = sym (can.bays number ne) ∙ h in
        let n = can.fits.each_bay number t a in
        (n.0, with_note-other notes f.seat t None (other_bay number t ne a) ∙ n.1, n.2)
  ]

  each_cached : (k : ℕ) (n : PageName) → Contains new.cached k → name_at new.names k ≡ Some n → IsClean new (with_note notes f.seat None) table k n
  each_cached k n h e =
      let there = can.sound.listed k (inr (can.cached k h)) in
      let far : k ≢ f.frame = λ (q : k ≡ f.frame). some-not (bytes_at old.frames k) there (ap (bytes_at old.frames) q ∙ frame_away) in
      let was = can.fits.each_cached k n (can.cached k h) (sym (can.one.names k far) ∙ e) in
      clean-same old new notes (with_note notes f.seat None) table k n was alike-back (can.one.bytes k far)
      (backing_value-back n (λ u w q. let z : true ≡ false = sym ((was.unwritten f.seat note can.mine w (sym q)).1) ∙ u in cc))
      (λ t x g w q. let o = other_seat t x g in (o.1, (λ gone. ap (λ (r : Row). r.gone) (can.one.rows x.frame (other_frame t x o.0 o.1)) ∙ gone)))

  -- the notes and the table agree with the store
  pub fits-back : StoreFits new (with_note notes f.seat None) table
  fits-back = record { apart = can.fits.apart; each_note = each_note; each_frame = each_frame; each_bay = each_bay; each_cached = each_cached }

  -- the frame of the page that comes back has the flight's bytes
  pub value-here : (place : Place) → value_in (Some f.frame) new (with_note notes f.seat None) place ≡ f.bytes
  value-here place = rw can.here refl

  value_home : (place : Place) (g : ℕ) (bytes : List ℕ) → bytes_at old.frames g ≡ Some bytes → value_in (Some g) new (with_note notes f.seat None) place ≡ value_in (Some g) old notes place
  value_home place g bytes there =
      let far : g ≢ f.frame = λ (q : g ≡ f.frame). let a : Some bytes ≡ None = sym there ∙ ap (bytes_at old.frames) q ∙ frame_away in cc in
      rw (can.one.bytes g far ∙ there, there) refl

  value_far : (n : PageName) (o : Option ℕ) → find old.names n ≡ o → (name_at old.names f.frame ≡ Some n → ⊥)
      → backing_value new (with_note notes f.seat None) (table n) ≡ backing_value old notes (table n)
      → value_in o new (with_note notes f.seat None) (table n) ≡ value_in o old notes (table n)
  value_far n None e before same = same
  value_far n (Some g) e before same =
      let far : g ≢ f.frame = λ (q : g ≡ f.frame). before (ap (name_at old.names) (sym q) ∙ find-at old.names n g e) in
      value_in-same old new (is_only (Some f.frame)) can.distinct (one-elsewhere old new f.frame can.one) notes (with_note notes f.seat None) (table n) g
      (eq-far g f.frame far) same (λ t h. notes-back g t far h)

  -- the page that the flight wrote, and whose frame it isn't, is at home
  value_written : (n : PageName) → n ≡ note.name → (name_at old.names f.frame ≡ Some n → ⊥) → ((row_at old.rows note.frame).gone ≡ false) ⊎ ((frame : ℕ) × (residence old n ≡ Home frame))
      → value_in (find old.names n) new (with_note notes f.seat None) (table n) ≡ value_in (find old.names n) old notes (table n)
  value_written n e before how = elim how [
    | inl ungone ↦
        let own : own_frame old note.frame ≡ f.frame = ap (own_frame old) (sym can.performed.frame) ∙ own-self old f.frame can.unsourced in
        absurd (before (ap (name_at old.names) (sym own) ∙ mine_out.out.page ungone ∙ ap (λ (x : PageName). Some x) (sym e)))
    | inr b ↦
        let is : IsIn old n b.0 = home-is old n b.0 b.1 in
        subst (λ (o : Option ℕ). value_in o new (with_note notes f.seat None) (table n) ≡ value_in o old notes (table n)) (sym is.found) (value_home (table n) b.0 is.bytes is.there)
  ]

  -- every name keeps its value, where the name that the frame held does
  pub ends-back : ((n : PageName) → name_at old.names f.frame ≡ Some n → (note.writes ≡ false → IsTrue (tells old notes (table n).disk))
      → value new (with_note notes f.seat None) table n ≡ value old notes table n)
      → ((n : PageName) → (name_at old.names f.frame ≡ Some n → ⊥) → name_at new.names f.frame ≡ Some n → ⊥) → EndsValues old notes new (with_note notes f.seat None) table note
  ends-back own after = record {
    fits = fits-back;
    alike = alike-back;
    stored = backing_value-back;
    values = λ n reads writes. elim (holds-or-not (name_at old.names f.frame) n) [
      | inl h ↦ own n h reads
      | inr before ↦
          ap (λ (o : Option ℕ). value_in o new (with_note notes f.seat None) (table n))
          (found-same old new (is_only (Some f.frame)) can.distinct (one-elsewhere old new f.frame can.one) n (only-none old.names f.frame n before) (only-none new.names f.frame n (after n before)))
          ∙ elim (is-or-not n note.name) [
            | inr ne ↦ value_far n (find old.names n) refl before (backing_value-back n (λ u w. ne))
            | inl e ↦ elim (cases_Bool note.writes) [
              | inl w ↦ value_written n e before (writes w e)
              | inr r ↦ value_far n (find old.names n) refl before (backing_value-back n (λ u w q. let z : true ≡ false = sym w ∙ r in cc))
            ]
          ]
    ];
  }
