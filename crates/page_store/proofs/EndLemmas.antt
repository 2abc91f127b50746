-- A flight that comes back.
use Rattle.std.proofs.Common.{◌≡◌, ◌≢◌, ℕ, ◌<◌, ◌≤◌, Bool, true, false, cond, ◌⊎◌, inl, inr, List, [], ◌∷◌, ◌++◌, Option, Some, None, IsTrue, IsSome, refl, sym}
use Rattle.std.proofs.Common.{◌∙◌, ap, subst, arith, length, set, is_some}
use Rattle.std.specs.Prelude.{◌&&◌, ◌||◌, ◌==◌, ◌-◌, is_none, take, replicate, slice_index_or, Contains}
use Rattle.std.proofs.lemmas.Bool.{cases_eq, cases_Bool, or_from as or-both}
use Rattle.std.proofs.lemmas.List.{take-append-le, take-take}
use Rattle.std.proofs.lemmas.List.{get_or-set_same, get_or-set_other}
use Rattle.std.proofs.Math.ListN.{length-set, length-take}
use Rattle.std.proofs.lemmas.List.Elements.{Contains-append_left, Contains-push, Contains-push_cases}
use Rattle.block_device.specs.DiskSeen.{DiskSeen, HasBlocks, with_block}
use Rattle.core_arena.specs.Bytes.{bytes_at, zeros}
use Rattle.page_hash.specs.Names.{find, name_at, AreDistinct}
use Rattle.page_hash.specs.declared.PageName.{PageName}
use Rattle.page_hash.proofs.NameLaws.{find-some, find-emptied, emptied-distinct}
use Rattle.page_lists.specs.ListsSeen.{AreApart}
use Rattle.page_lists.proofs.ListLemmas.{once-more}
use Rattle.page_lock.specs.Rows.{row_at, clear_row}
use Rattle.page_lock.specs.declared.Row.{Row}
use Rattle.page_store.specs.Bays.{BaySeen, missing, home, out, bay_at, block_of}
use Rattle.page_store.specs.Bytes.{clip}
use Rattle.page_store.specs.StoreFits.{StoreFits, IsClean}
use Rattle.page_store.specs.Flight.{FlightSeen, Progress, fresh, done, failed, IsPerformed, IsRead, IsWritten, HasBlock}
use Rattle.page_store.specs.Moves.{Touches, is_only, family}
use Rattle.page_store.specs.Notes.{Note, Notes, with_note}
use Rattle.page_store.specs.Out.{IsFlightOf}
use Rattle.page_store.specs.Parts.{rows_settled}
use Rattle.page_store.specs.Seen.{StoreSeen, IsSoundStore, FrameAgrees, IsListedFrame, IsGone, own_frame, residence, residence_in}
use Rattle.page_store.specs.Steps.{with_flight_landed, landed_row, with_pair_parted, after_end, is_lost, is_dirty}
use Rattle.page_store.specs.Table.{PlaceTable}
use Rattle.page_store.specs.Transfers.{EndsTransfer, EndsValues, ComesHome, was_rewritten, is_rewritten_in}
use Rattle.page_store.specs.Value.{value, value_in, backing_value, tells, content_of, content_in_bay}
use Rattle.page_store.specs.declared.place.Place.{Place}
use Rattle.page_store.specs.declared.residence.Residence.TheVariants.{Home, Absent}
use Rattle.page_store.proofs.Agree.{own-self, own-other, backing_value-calm}
use Rattle.page_store.proofs.Elsewhere.{Elsewhere, OneFrame, SoundAt, one-elsewhere, one-within, elsewhere-then, same-elsewhere, only-none, sound-one, touches, touches-one, paired-one}
use Rattle.page_store.proofs.FrameLaws.{some-not, some-or-none, none-is, snapshot-within, eq-far, false-right, away-snapshot, copy-held, copy-apart, gone-unnamed, held-away}
use Rattle.page_store.proofs.Links.{either, family-own, family-source, sound-parted, same-parted, elsewhere-parted, parted-own-row, parted-copy-row}
use Rattle.page_store.proofs.QueryLemmas.{held-within, residence-home}
use Rattle.page_store.proofs.Returning.{Returns, ends-back, value-here, backing_value-back, content-new, content-old, frame_away, frame_held, mine_out}
use Rattle.page_store.proofs.RowSteps.{residence-rows, values-rows, value-rows, calm-rows}
use Rattle.page_store.proofs.TransferLemmas.{with_note-same, with_note-other, out-within, order-set}

-- bytes that are cut already
pub clip-twice : (valid : ℕ) (bytes : List ℕ) → valid ≤ length bytes → clip valid (clip valid bytes) ≡ clip valid bytes
clip-twice valid bytes within =
    let long : valid ≤ length (take valid bytes) = simp length-take (omega arith) in
    ap (λ (l : List ℕ). l ++ replicate (4096 - valid) 0) (take-append-le valid (take valid bytes) (replicate (4096 - valid) 0) long ∙ take-take valid valid bytes (omega arith))

-- the disks that are home are whole once one more came home
whole-back : (bays : List BaySeen) (number : ℕ) (disk : DiskSeen) → number < length bays
    → ((k : ℕ) (d : DiskSeen) → bay_at bays k ≡ home d → HasBlocks d.content d.size) → HasBlocks disk.content disk.size
    → (k : ℕ) (d : DiskSeen) → bay_at (set bays number (home disk)) k ≡ home d → HasBlocks d.content d.size
whole-back bays number disk lt was now k d h = elim (cases_eq k number) [
  | inl e ↦
      let z : home disk ≡ home d = sym (get_or-set_same bays number (home disk) missing lt) ∙ ap (bay_at (set bays number (home disk))) (sym e) ∙ h in
      let q : disk ≡ d = cc in
      subst (λ (x : DiskSeen). HasBlocks x.content x.size) q now
  | inr ne ↦ was k d (sym (get_or-set_other bays number k (home disk) missing ne) ∙ h)
]

told_bytes : (c : Option (List (List ℕ))) (block valid : ℕ) (bytes : List ℕ) → is_some c ≡ true → HasBlock c block valid bytes → bytes ≡ clip valid (block_of c block)
told_bytes None block valid bytes t h = absurd (let z : false ≡ true = t in cc)
told_bytes (Some blocks) block valid bytes t h = h

was_read : (note : Note) (f : FlightSeen) (o : Progress) → o ≡ done → IsRead note f o → HasBlock note.disk.content note.block note.valid f.bytes
was_read note f fresh e p = absurd p
was_read note f done e p = p
was_read note f failed e p = absurd (cc)

named_so : (h : Option ℕ) (n : Option PageName) (gone : Bool) (o : Option ℕ) (seat : ℕ) → (is_some h && is_none n) ≡ (gone || is_some o) → h ≡ Some seat → gone ≡ false → o ≡ None → IsSome n
named_so h (Some n) gone o seat u a b c = refl
named_so h None gone o seat u a b c =
    let left : (is_some h && is_none {T = PageName} None) ≡ true = ap (λ (x : Option ℕ). is_some x && true) a in
    let right : (gone || is_some o) ≡ false = ap (λ (g : Bool). g || is_some o) b ∙ ap (λ (x : Option ℕ). is_some x) c in
    let z : true ≡ false = sym left ∙ u ∙ right in absurd (cc)

-- a frame that a seat holds comes back with a disk that the seat has; its page is its own, or gone
module _ (s : StoreSeen) (f : FlightSeen) (sound : IsSoundStore s) (held : (row_at s.rows f.frame).holder ≡ Some f.seat)
    (gone : bay_at s.bays f.number ≡ out f.seat) (unsourced : (row_at s.rows f.frame).source ≡ None)
    (whole : HasBlocks f.disk.content f.disk.size) (size : length f.bytes ≡ 4096) where
  row_in : f.frame < length s.rows
  row_in = held-within s.rows f.frame f.seat held

  pub landed-within : f.frame < length s.frames
  landed-within = let a = row_in in let b = sound.rows in omega arith

  name_in : f.frame < length s.names
  name_in = let a = landed-within in let b = sound.names in omega arith

  bay_in : f.number < length s.bays
  bay_in = out-within s.bays f.number f.seat gone

  away : bytes_at s.frames f.frame ≡ None
  away = held-away (bytes_at s.frames f.frame) (name_at s.names f.frame) (row_at s.rows f.frame) (sound.each f.frame landed-within) f.seat held

  unlinked : (row_at s.rows f.frame).snapshot ≡ None
  unlinked = away-snapshot s sound f.frame away

  pub landed-unlisted : IsListedFrame s f.frame → ⊥
  landed-unlisted l = some-not (bytes_at s.frames f.frame) (sound.listed f.frame l) away

  bytes_now : bytes_at (set s.frames f.frame (Some f.bytes)) f.frame ≡ Some f.bytes
  bytes_now = get_or-set_same s.frames f.frame (Some f.bytes) None landed-within

  kept_row : row_at (set s.rows f.frame (landed_row (row_at s.rows f.frame) (is_dirty f.outcome))) f.frame ≡ landed_row (row_at s.rows f.frame) (is_dirty f.outcome)
  kept_row = get_or-set_same s.rows f.frame (landed_row (row_at s.rows f.frame) (is_dirty f.outcome)) clear_row row_in

  free_row : row_at (set s.rows f.frame clear_row) f.frame ≡ clear_row
  free_row = get_or-set_same s.rows f.frame clear_row clear_row row_in

  unnamed_now : name_at (set s.names f.frame None) f.frame ≡ None
  unnamed_now = get_or-set_same s.names f.frame None None name_in

  pub one-landed : (lost : Bool) → OneFrame s (with_flight_landed s f lost) f.frame
  one-landed false = record {
    frames = length-set s.frames f.frame (Some f.bytes);
    bytes = λ k ne. get_or-set_other s.frames f.frame k (Some f.bytes) None ne;
    names = λ k ne. refl;
    rows = λ k ne. get_or-set_other s.rows f.frame k (landed_row (row_at s.rows f.frame) (is_dirty f.outcome)) clear_row ne;
    free = λ k ne. (λ h. h, λ h. h);
    cached = λ k ne. (λ h. h, λ h. h);
  }
  one-landed true = record {
    frames = length-set s.frames f.frame (Some f.bytes);
    bytes = λ k ne. get_or-set_other s.frames f.frame k (Some f.bytes) None ne;
    names = λ k ne. get_or-set_other s.names f.frame k None None ne;
    rows = λ k ne. get_or-set_other s.rows f.frame k clear_row clear_row ne;
    free = λ k ne. (λ h. elim (Contains-push_cases s.free f.frame k h) [ inl a ↦ a | inr b ↦ absurd (ne (sym b)) ], λ h. Contains-append_left s.free (f.frame ∷ []) k h);
    cached = λ k ne. (λ h. h, λ h. h);
  }

  pub distinct-landed : (lost : Bool) → AreDistinct (with_flight_landed s f lost).names
  distinct-landed false = sound.distinct
  distinct-landed true = emptied-distinct s.names f.frame name_in sound.distinct

  freed : AreApart (record { frames = length (set s.frames f.frame (Some f.bytes)); free = s.free ++ f.frame ∷ []; cached = s.cached })
  freed =
      let long : length (set s.frames f.frame (Some f.bytes)) ≡ length s.frames = length-set s.frames f.frame (Some f.bytes) in
      record {
        once_free = once-more s.free f.frame sound.lists.once_free (λ h. landed-unlisted (inl h));
        once_cached = sound.lists.once_cached;
        one_list = λ k a b. elim (Contains-push_cases s.free f.frame k a) [
          | inl h ↦ sound.lists.one_list k h b
          | inr e ↦ landed-unlisted (inr (subst (λ (j : ℕ). Contains s.cached j) (sym e) b))
        ];
        below_free = λ k a. elim (Contains-push_cases s.free f.frame k a) [
          | inl h ↦ let r = sound.lists.below_free k h in omega (arith, long, r)
          | inr e ↦ let r = landed-within in omega (arith, long, r, e)
        ];
        below_cached = λ k b. let r = sound.lists.below_cached k b in omega (arith, long, r);
      }

  -- the page is there where it isn't gone
  pub landed-named : (row_at s.rows f.frame).gone ≡ false → IsSome (name_at s.names f.frame)
  landed-named ungone = named_so (row_at s.rows f.frame).holder (name_at s.names f.frame) (row_at s.rows f.frame).gone (row_at s.rows f.frame).source f.seat
      (sound.each f.frame landed-within).unnamed held ungone unsourced

  agrees_kept : FrameAgrees (Some f.bytes) (name_at s.names f.frame) (landed_row (row_at s.rows f.frame) (is_dirty f.outcome))
  agrees_kept = record {
    size = λ b e. let q : f.bytes ≡ b = cc in ap (λ (l : List ℕ). length l) (sym q) ∙ size;
    away = refl;
    unnamed = sym (ap (λ (o : Option ℕ). is_some o) unsourced);
    torn = λ g. let z : false ≡ true = g in absurd (cc);
  }

  agrees_free : FrameAgrees (Some f.bytes) None clear_row
  agrees_free = record { size = λ b e. let q : f.bytes ≡ b = cc in ap (λ (l : List ℕ). length l) (sym q) ∙ size; away = refl; unnamed = refl; torn = λ g. refl }

  pub sound-landed : (lost : Bool) → (lost ≡ false → (row_at s.rows f.frame).gone ≡ false) → IsSoundStore (with_flight_landed s f lost)
  sound-landed false ungone = sound-one s (with_flight_landed s f false) f.frame (one-landed false) sound
      (record {
        names = refl;
        rows = length-set s.rows f.frame (landed_row (row_at s.rows f.frame) (is_dirty f.outcome));
        clock = refl;
        bays = length-set s.bays f.number (home f.disk);
        order = order-set s.bays s.order f.number (home f.disk) bay_in (λ q. let z : out f.seat ≡ missing = sym gone ∙ q in cc) (λ q. cc) sound.order;
        distinct = sound.distinct;
        lists = subst (λ (n : ℕ). AreApart (record { frames = n; free = s.free; cached = s.cached })) (sym (length-set s.frames f.frame (Some f.bytes))) sound.lists;
        paired = paired-one s (with_flight_landed s f false) f.frame (one-landed false) sound.paired unlinked unsourced
            (ap (λ (r : Row). r.snapshot) kept_row ∙ unlinked) (ap (λ (r : Row). r.source) kept_row ∙ unsourced);
        whole = whole-back s.bays f.number f.disk bay_in sound.whole whole;
      })
      (record {
        agrees = subst (λ (b : Option (List ℕ)). FrameAgrees b (name_at s.names f.frame)
            (row_at (set s.rows f.frame (landed_row (row_at s.rows f.frame) (is_dirty f.outcome))) f.frame)) (sym bytes_now)
            (subst (λ (r : Row). FrameAgrees (Some f.bytes) (name_at s.names f.frame) r) (sym kept_row) agrees_kept);
        listed = λ l. absurd (landed-unlisted l);
        unnamed = λ h. absurd (landed-unlisted (inl h));
        spare = λ h n. absurd (some-not (name_at s.names f.frame) (landed-named (ungone refl)) n);
      })
  sound-landed true ungone = sound-one s (with_flight_landed s f true) f.frame (one-landed true) sound
      (record {
        names = length-set s.names f.frame None;
        rows = length-set s.rows f.frame clear_row;
        clock = refl;
        bays = length-set s.bays f.number (home f.disk);
        order = order-set s.bays s.order f.number (home f.disk) bay_in (λ q. let z : out f.seat ≡ missing = sym gone ∙ q in cc) (λ q. cc) sound.order;
        distinct = distinct-landed true;
        lists = freed;
        paired = paired-one s (with_flight_landed s f true) f.frame (one-landed true) sound.paired unlinked unsourced (ap (λ (r : Row). r.snapshot) free_row) (ap (λ (r : Row). r.source) free_row);
        whole = whole-back s.bays f.number f.disk bay_in sound.whole whole;
      })
      (record {
        agrees = subst (λ (b : Option (List ℕ)). FrameAgrees b (name_at (set s.names f.frame None) f.frame) (row_at (set s.rows f.frame clear_row) f.frame)) (sym bytes_now)
            (subst (λ (n : Option PageName). FrameAgrees (Some f.bytes) n (row_at (set s.rows f.frame clear_row) f.frame)) (sym unnamed_now)
            (subst (λ (r : Row). FrameAgrees (Some f.bytes) None r) (sym free_row) agrees_free));
        listed = λ l. subst (λ (o : Option (List ℕ)). IsSome o) (sym bytes_now) refl;
        unnamed = λ h. unnamed_now;
        spare = λ h n. Contains-push s.free f.frame;
      })

  pub disk-landed : (lost : Bool) → bay_at (with_flight_landed s f lost).bays f.number ≡ home f.disk
  disk-landed false = get_or-set_same s.bays f.number (home f.disk) missing bay_in
  disk-landed true = get_or-set_same s.bays f.number (home f.disk) missing bay_in

  pub disks-landed : (lost : Bool) (k : ℕ) → k ≢ f.number → bay_at (with_flight_landed s f lost).bays k ≡ bay_at s.bays k
  disks-landed false k ne = get_or-set_other s.bays f.number k (home f.disk) missing ne
  disks-landed true k ne = get_or-set_other s.bays f.number k (home f.disk) missing ne

  origin_landed : (lost : Bool) → (with_flight_landed s f lost).origin ≡ s.origin
  origin_landed false = refl
  origin_landed true = refl

  pub here-landed : (lost : Bool) → bytes_at (with_flight_landed s f lost).frames f.frame ≡ Some f.bytes
  here-landed false = bytes_now
  here-landed true = bytes_now

  holder_landed : (lost : Bool) → (row_at (with_flight_landed s f lost).rows f.frame).holder ≡ None
  holder_landed false = ap (λ (r : Row). r.holder) kept_row
  holder_landed true = ap (λ (r : Row). r.holder) free_row

  cached_landed : (lost : Bool) → (with_flight_landed s f lost).cached ≡ s.cached
  cached_landed false = refl
  cached_landed true = refl

  -- a page that stays is home in its frame, with this modified bit; one that is lost is absent, and its frame free
  pub home-landed : (name : PageName) → name_at s.names f.frame ≡ Some name → residence (with_flight_landed s f false) name ≡ Home f.frame
  home-landed name h = residence-home (with_flight_landed s f false) name f.frame sound.distinct h (subst (λ (o : Option (List ℕ)). IsSome o) (sym bytes_now) refl)

  pub bit-landed : (row_at (with_flight_landed s f false).rows f.frame).modified ≡ is_dirty f.outcome
  bit-landed = ap (λ (r : Row). r.modified) kept_row

  pub absent-landed : (name : PageName) → name_at s.names f.frame ≡ Some name → residence (with_flight_landed s f true) name ≡ Absent
  absent-landed name h = ap (λ (o : Option ℕ). residence_in o (with_flight_landed s f true)) (find-emptied s.names name f.frame sound.distinct h)

  pub free-landed : Contains (with_flight_landed s f true).free f.frame
  free-landed = Contains-push s.free f.frame

  after_landed : (lost : Bool) (n : PageName) → (name_at s.names f.frame ≡ Some n → ⊥) → name_at (with_flight_landed s f lost).names f.frame ≡ Some n → ⊥
  after_landed false n before h = before h
  after_landed true n before h = let z : None ≡ Some n = sym unnamed_now ∙ h in cc

  pub stay-landed : (lost : Bool) (n : PageName) → (name_at s.names f.frame ≡ Some n → ⊥) → residence (with_flight_landed s f lost) n ≡ residence s n
  stay-landed lost n before = (touches-one s (with_flight_landed s f lost) f.frame (distinct-landed lost) (one-landed lost)).residence n
      (only-none s.names f.frame n before) (only-none (with_flight_landed s f lost).names f.frame n (after_landed lost n before))

  module _ (notes : Notes) (table : PlaceTable) (note : Note) (fits : StoreFits s notes table) (mine : notes f.seat ≡ Some note) (performed : IsPerformed note f) where
    pub returns-landed : (lost : Bool) → Returns s (with_flight_landed s f lost) notes table f note
    returns-landed lost = record {
      sound = sound;
      fits = fits;
      mine = mine;
      performed = performed;
      unsourced = unsourced;
      origin = origin_landed lost;
      bay = disk-landed lost;
      bays = disks-landed lost;
      one = one-landed lost;
      here = here-landed lost;
      holder = holder_landed lost;
      cached = λ k h. subst (λ (l : List ℕ). Contains l k) (cached_landed lost) h;
      distinct = distinct-landed lost;
    }

    -- the value of the frame's name before: the note's bytes where it writes, else what is stored
    own_before : (n : PageName) → name_at s.names f.frame ≡ Some n → value s notes table n ≡ cond note.writes note.bytes (backing_value s notes (table n))
    own_before n h = rw (find-some s.names n f.frame sound.distinct h, away, held, mine) refl

    ungone_named : (n : PageName) → name_at s.names f.frame ≡ Some n → (row_at s.rows f.frame).gone ≡ false
    ungone_named n h = elim (cases_Bool (row_at s.rows f.frame).gone) [
      | inr keeps ↦ keeps
      | inl lies ↦ absurd (let z : None ≡ Some n = sym (gone-unnamed (bytes_at s.frames f.frame) (name_at s.names f.frame) (row_at s.rows f.frame) (sound.each f.frame landed-within) lies).1 ∙ h in cc)
    ]

    frame_is : note.frame ≡ f.frame
    frame_is = sym performed.frame

    name_is : (n : PageName) → name_at s.names f.frame ≡ Some n → n ≡ note.name
    name_is n h =
        let out_page = (fits.each_note f.seat note mine).out.page in
        let ungone : (row_at s.rows note.frame).gone ≡ false = ap (λ (k : ℕ). (row_at s.rows k).gone) frame_is ∙ ungone_named n h in
        let own : own_frame s note.frame ≡ f.frame = ap (own_frame s) frame_is ∙ own-self s f.frame unsourced in
        let z : Some n ≡ Some note.name = sym h ∙ ap (name_at s.names) (sym own) ∙ out_page ungone in cc

    -- a page that was read has its block's valid bytes
    read_bytes : (n : PageName) → note.writes ≡ false → f.outcome ≡ done → name_at s.names f.frame ≡ Some n → IsTrue (tells s notes (table n).disk) → f.bytes ≡ backing_value s notes (table n)
    read_bytes n reads ended h t =
        let out_note = fits.each_note f.seat note mine in
        let e : n ≡ note.name = name_is n h in
        let ungone : (row_at s.rows note.frame).gone ≡ false = ap (λ (k : ℕ). (row_at s.rows k).gone) frame_is ∙ ungone_named n h in
        let at = out_note.read reads ungone in
        let number : (table n).disk ≡ f.number = ap (λ (x : PageName). (table x).disk) e ∙ out_note.disk ∙ sym performed.number in
        let old : content_of s notes f.number ≡ note.disk.content = content-old s (with_flight_landed s f false) notes table f note (returns-landed false) in
        let told : is_some note.disk.content ≡ true = sym (ap (λ (c : Option (List (List ℕ))). is_some c) (ap (content_of s notes) number ∙ old)) ∙ t in
        let b : f.bytes ≡ clip note.valid (block_of note.disk.content note.block) = told_bytes note.disk.content note.block note.valid f.bytes told
        (was_read note f f.outcome ended (performed.read reads)) in
        let blank : (table n).blank ≡ false = ap (λ (x : PageName). (table x).blank) e ∙ at.1 in
        let valid : (table n).valid ≡ note.valid = ap (λ (x : PageName). (table x).valid) e ∙ at.0 in
        let block : (table n).block ≡ note.block = ap (λ (x : PageName). (table x).block) e ∙ out_note.block in
        b ∙ sym (rw (blank, valid, block, number, old) refl)

    own_kept : (note.writes ≡ false → f.outcome ≡ done) → (n : PageName) → name_at s.names f.frame ≡ Some n → (note.writes ≡ false → IsTrue (tells s notes (table n).disk))
        → value (with_flight_landed s f false) (with_note notes f.seat None) table n ≡ value s notes table n
    own_kept well n h told =
        let now : value (with_flight_landed s f false) (with_note notes f.seat None) table n ≡ f.bytes =
        ap (λ (o : Option ℕ). value_in o (with_flight_landed s f false) (with_note notes f.seat None) (table n)) (find-some s.names n f.frame sound.distinct h)
        ∙ value-here s (with_flight_landed s f false) notes table f note (returns-landed false) (table n) in
        now ∙ elim (cases_Bool note.writes) [
          | inl w ↦ performed.kept w ∙ sym (ap (λ (b : Bool). cond b note.bytes (backing_value s notes (table n))) w)
          | inr r ↦ read_bytes n r (well r) h (told r) ∙ sym (ap (λ (b : Bool). cond b note.bytes (backing_value s notes (table n))) r)
        ] ∙ sym (own_before n h)

    own_lost : ((row_at s.rows f.frame).gone ≡ false → note.writes ≡ false) → (n : PageName) → name_at s.names f.frame ≡ Some n → (note.writes ≡ false → IsTrue (tells s notes (table n).disk))
        → value (with_flight_landed s f true) (with_note notes f.seat None) table n ≡ value s notes table n
    own_lost reads n h told =
        let r : note.writes ≡ false = reads (ungone_named n h) in
        ap (λ (o : Option ℕ). value_in o (with_flight_landed s f true) (with_note notes f.seat None) (table n)) (find-emptied s.names n f.frame sound.distinct h)
        ∙ backing_value-back s (with_flight_landed s f true) notes table f note (returns-landed true) n (λ u w q. let z : true ≡ false = sym w ∙ r in cc)
        ∙ sym (ap (λ (b : Bool). cond b note.bytes (backing_value s notes (table n))) r) ∙ sym (own_before n h)

    -- what comes of the values
    pub ends-landed : (lost : Bool) → (lost ≡ false → note.writes ≡ false → f.outcome ≡ done) → (lost ≡ true → (row_at s.rows f.frame).gone ≡ false → note.writes ≡ false)
        → EndsValues s notes (with_flight_landed s f lost) (with_note notes f.seat None) table note
    ends-landed false well reads = ends-back s (with_flight_landed s f false) notes table f note (returns-landed false) (own_kept (well refl)) (after_landed false)
    ends-landed true well reads = ends-back s (with_flight_landed s f true) notes table f note (returns-landed true) (own_lost (reads refl)) (after_landed true)

kept_done : (writes : Bool) (o : Progress) (gone : Bool) → gone ≡ false → o ≡ done → is_lost writes o gone ≡ false
kept_done true o false g e = refl
kept_done false done false g e = refl
kept_done false fresh false g e = absurd (cc)
kept_done false failed false g e = absurd (cc)
kept_done writes o true g e = let z : true ≡ false = g in absurd (cc)

kept_write : (writes : Bool) (o : Progress) (gone : Bool) → gone ≡ false → writes ≡ true → is_lost writes o gone ≡ false
kept_write true o false g e = refl
kept_write false o false g e = let z : false ≡ true = e in absurd (cc)
kept_write writes o true g e = let z : true ≡ false = g in absurd (cc)

lost_read : (writes : Bool) (o : Progress) (gone : Bool) → gone ≡ false → o ≡ failed → writes ≡ false → is_lost writes o gone ≡ true
lost_read true o false g e w = let z : true ≡ false = w in absurd (cc)
lost_read false failed false g e w = refl
lost_read false fresh false g e w = absurd (cc)
lost_read false done false g e w = absurd (cc)
lost_read writes o true g e w = refl

kept_so : (writes : Bool) (o : Progress) (gone : Bool) → is_lost writes o gone ≡ false → (gone ≡ false) × (writes ≡ false → o ≡ done)
kept_so writes o true e = let z : true ≡ false = e in absurd (cc)
kept_so true o false e = (refl, λ w. let z : true ≡ false = w in absurd (cc))
kept_so false done false e = (refl, λ w. refl)
kept_so false fresh false e = let z : true ≡ false = e in absurd (cc)
kept_so false failed false e = let z : true ≡ false = e in absurd (cc)

lost_so : (writes : Bool) (o : Progress) (gone : Bool) → is_lost writes o gone ≡ true → gone ≡ false → writes ≡ false
lost_so true o false e g = let z : false ≡ true = e in absurd (cc)
lost_so false o false e g = refl
lost_so writes o true e g = let z : true ≡ false = g in absurd (cc)

-- the blocks of a disk once one was written, and read
with_same : (content : Option (List (List ℕ))) (block size : ℕ) (x : List ℕ) → HasBlocks content size → block < size → is_some content ≡ true → block_of (with_block content block x) block ≡ x
with_same None block size x whole lt t = let z : false ≡ true = t in absurd (cc)
with_same (Some blocks) block size x whole lt t = get_or-set_same blocks block x [] (let l = whole.0 in omega arith)

block_size : (content : Option (List (List ℕ))) (block size : ℕ) → HasBlocks content size → block < size → is_some content ≡ true → length (block_of content block) ≡ 4096
block_size None block size whole lt t = let z : false ≡ true = t in absurd (cc)
block_size (Some blocks) block size whole lt t = (whole.1 block (let l = whole.0 in omega arith)).0

still_told : (content : Option (List (List ℕ))) (block : ℕ) (x : List ℕ) → is_some (with_block content block x) ≡ true → is_some content ≡ true
still_told None block x h = h
still_told (Some blocks) block x h = refl

pub written_done : (note : Note) (f : FlightSeen) (o : Progress) → o ≡ done → IsWritten note f o → f.disk.content ≡ with_block note.disk.content note.block (clip note.valid note.bytes)
written_done note f fresh e p = absurd p
written_done note f done e p = p
written_done note f failed e p = absurd (cc)

-- after a transfer that didn't fail the block has the valid bytes of the frame
done_block : (note : Note) (f : FlightSeen) → IsPerformed note f → HasBlocks note.disk.content note.disk.size → length note.bytes ≡ 4096 → f.outcome ≡ done → is_some f.disk.content ≡ true
    → clip note.valid f.bytes ≡ clip note.valid (block_of f.disk.content note.block)
done_block note f performed whole size ended t = elim (cases_Bool note.writes) [
  | inl w ↦
      let c = written_done note f f.outcome ended (performed.written w) in
      let told = still_told note.disk.content note.block (clip note.valid note.bytes) (sym (ap (λ (x : Option (List (List ℕ))). is_some x) c) ∙ t) in
      let b : block_of f.disk.content note.block ≡ clip note.valid note.bytes = ap (λ (x : Option (List (List ℕ))). block_of x note.block) c
      ∙ with_same note.disk.content note.block note.disk.size (clip note.valid note.bytes) whole performed.within told in
      let v = performed.valid_within in
      ap (clip note.valid) (performed.kept w) ∙ sym (ap (clip note.valid) b ∙ clip-twice note.valid note.bytes (omega arith))
  | inr r ↦
      let c = performed.unchanged r in
      let told : is_some note.disk.content ≡ true = sym (ap (λ (x : Option (List (List ℕ))). is_some x) c) ∙ t in
      let b : f.bytes ≡ clip note.valid (block_of note.disk.content note.block) = told_bytes note.disk.content note.block note.valid f.bytes told
      (was_read note f f.outcome ended (performed.read r)) in
      let l = block_size note.disk.content note.block note.disk.size whole performed.within told in
      let v = performed.valid_within in
      ap (clip note.valid) b ∙ clip-twice note.valid (block_of note.disk.content note.block) (omega arith) ∙ sym (ap (λ (x : Option (List (List ℕ))). clip note.valid (block_of x note.block)) c)
]

-- the page of a transfer that didn't fail is clean in a home frame that has the flight's bytes
module _ (s new : StoreSeen) (notes : Notes) (table later : PlaceTable) (f : FlightSeen) (note : Note) (k : ℕ) (fits : StoreFits s notes table)
    (mine : notes f.seat ≡ Some note) (performed : IsPerformed note f) (ended : f.outcome ≡ done)
    (disk : bay_at new.bays f.number ≡ home f.disk) (here : bytes_at new.frames k ≡ Some f.bytes)
    (place : later note.name ≡ record { disk = note.number; block = note.block; valid = note.valid; blank = false }) where
  content_now : content_of new (with_note notes f.seat None) (later note.name).disk ≡ f.disk.content
  content_now = ap (content_of new (with_note notes f.seat None)) (ap (λ (p : Place). p.disk) place ∙ sym performed.number) ∙ ap (λ (b : BaySeen). content_in_bay b (with_note notes f.seat None)) disk

  stored_now : backing_value new (with_note notes f.seat None) (later note.name) ≡ clip note.valid (block_of f.disk.content note.block)
  stored_now = rw (content_now, ap (λ (p : Place). p.blank) place, ap (λ (p : Place). p.valid) place, ap (λ (p : Place). p.block) place) refl

  pub clean-ended : IsClean new (with_note notes f.seat None) later k note.name
  clean-ended =
      let agrees = fits.each_note f.seat note mine in
      record {
        same = λ t bytes b.
            let q : bytes ≡ f.bytes = let z : Some bytes ≡ Some f.bytes = sym b ∙ here in cc in
            ap (λ (v : ℕ). clip v bytes) (ap (λ (p : Place). p.valid) place) ∙ ap (clip note.valid) q
            ∙ done_block note f performed agrees.whole agrees.bytes ended (sym (ap (λ (c : Option (List (List ℕ))). is_some c) content_now) ∙ t) ∙ sym stored_now;
        unwritten = λ t x h w q. elim (cases_eq t f.seat) [
          | inl e ↦ absurd (let z : None ≡ Some x = sym (with_note-same notes f.seat None) ∙ ap (with_note notes f.seat None) (sym e) ∙ h in cc)
          | inr ne ↦
              let other = fits.each_note t x (sym (with_note-other notes f.seat t None ne) ∙ h) in
              let number : x.number ≡ note.number = sym other.disk ∙ ap (λ (n : PageName). (table n).disk) q ∙ agrees.disk in
              let z : out t ≡ out f.seat = sym other.out.bay ∙ ap (bay_at s.bays) number ∙ agrees.out.bay in
              absurd (ne (cc))
        ];
      }

-- a frame that is its page's own comes back
module _ (s : StoreSeen) (f : FlightSeen) (sound : IsSoundStore s) (is : IsFlightOf s f) (started : f.outcome ≢ fresh)
    (whole : HasBlocks f.disk.content f.disk.size) (size : length f.bytes ≡ 4096) (unsourced : (row_at s.rows f.frame).source ≡ None) where
  page_here : (row_at s.rows f.frame).gone ≡ false → name_at s.names f.frame ≡ Some f.name
  page_here g = ap (name_at s.names) (sym (own-self s f.frame unsourced)) ∙ is.out.page g

  home_here : (lost modified : Bool) → lost ≡ false → is_dirty f.outcome ≡ modified → (row_at s.rows f.frame).gone ≡ false → ComesHome s (with_flight_landed s f lost) f modified
  home_here true modified e d g = let z : true ≡ false = e in absurd (cc)
  home_here false modified e d g =
      let own : own_frame s f.frame ≡ f.frame = own-self s f.frame unsourced in
      record {
        home = home-landed s f sound is.out.holder is.out.bay unsourced whole size f.name (page_here g) ∙ ap (λ (k : ℕ). Home k) (sym own);
        bit = ap (λ (k : ℕ). (row_at (with_flight_landed s f false).rows k).modified) own ∙ bit-landed s f sound is.out.holder is.out.bay unsourced whole size ∙ d;
        unlisted = λ l. landed-unlisted s f sound is.out.holder is.out.bay unsourced whole size (subst (λ (k : ℕ). IsListedFrame s k) own l);
      }

  absent_here : (lost : Bool) → lost ≡ true → (row_at s.rows f.frame).gone ≡ false → residence (with_flight_landed s f lost) f.name ≡ Absent
  absent_here true e g = absent-landed s f sound is.out.holder is.out.bay unsourced whole size f.name (page_here g)
  absent_here false e g = let z : false ≡ true = e in absurd (cc)

  free_here : (lost : Bool) → lost ≡ true → Contains (with_flight_landed s f lost).free f.frame
  free_here true e = free-landed s f sound is.out.holder is.out.bay unsourced whole size
  free_here false e = let z : false ≡ true = e in absurd (cc)

  not_named : (n : PageName) → ((row_at s.rows f.frame).gone ≡ false → n ≢ f.name) → name_at s.names f.frame ≡ Some n → ⊥
  not_named n ne h = elim (cases_Bool (row_at s.rows f.frame).gone) [
    | inl g ↦ let z : None ≡ Some n = sym (gone-unnamed (bytes_at s.frames f.frame) (name_at s.names f.frame) (row_at s.rows f.frame)
        (sound.each f.frame (landed-within s f sound is.out.holder is.out.bay unsourced whole size)) g).1 ∙ h in cc
    | inr g ↦ ne g (let z : Some n ≡ Some f.name = sym h ∙ page_here g in cc)
  ]

  pub ends-own : EndsTransfer s (with_flight_landed s f (is_lost f.writes f.outcome (row_at s.rows f.frame).gone)) f
  ends-own = record {
    sound = sound-landed s f sound is.out.holder is.out.bay unsourced whole size (is_lost f.writes f.outcome (row_at s.rows f.frame).gone)
        (λ e. (kept_so f.writes f.outcome (row_at s.rows f.frame).gone e).0);
    disk = disk-landed s f sound is.out.holder is.out.bay unsourced whole size (is_lost f.writes f.outcome (row_at s.rows f.frame).gone);
    disks = disks-landed s f sound is.out.holder is.out.bay unsourced whole size (is_lost f.writes f.outcome (row_at s.rows f.frame).gone);
    touches = touches s (with_flight_landed s f (is_lost f.writes f.outcome (row_at s.rows f.frame).gone)) (family s f.frame)
        (distinct-landed s f sound is.out.holder is.out.bay unsourced whole size (is_lost f.writes f.outcome (row_at s.rows f.frame).gone))
        (one-within s (with_flight_landed s f (is_lost f.writes f.outcome (row_at s.rows f.frame).gone)) f.frame (family s f.frame)
        (one-landed s f sound is.out.holder is.out.bay unsourced whole size (is_lost f.writes f.outcome (row_at s.rows f.frame).gone)) (λ k h. family-own s f.frame k h));
    success = λ g e. home_here (is_lost f.writes f.outcome (row_at s.rows f.frame).gone) (was_rewritten s f.frame) (kept_done f.writes f.outcome (row_at s.rows f.frame).gone g e)
        (ap is_dirty e ∙ sym (ap (λ (o : Option ℕ). is_rewritten_in o s) unsourced)) g;
    failed_write = λ g e w. home_here (is_lost f.writes f.outcome (row_at s.rows f.frame).gone) true (kept_write f.writes f.outcome (row_at s.rows f.frame).gone g w) (ap is_dirty e) g;
    failed_read = λ g e w. absent_here (is_lost f.writes f.outcome (row_at s.rows f.frame).gone) (lost_read f.writes f.outcome (row_at s.rows f.frame).gone g e w) g;
    free = λ h. elim h [
      | inl g ↦ free_here (is_lost f.writes f.outcome (row_at s.rows f.frame).gone) (ap (is_lost f.writes f.outcome) g)
      | inr r ↦ elim r [
        | inl a ↦ absurd (some-not (row_at s.rows f.frame).source a unsourced)
        | inr b ↦ elim (cases_Bool (row_at s.rows f.frame).gone) [
          | inl g ↦ free_here (is_lost f.writes f.outcome (row_at s.rows f.frame).gone) (ap (is_lost f.writes f.outcome) g)
          | inr g ↦ free_here (is_lost f.writes f.outcome (row_at s.rows f.frame).gone) (lost_read f.writes f.outcome (row_at s.rows f.frame).gone g b.0 b.1)
        ]
      ]
    ];
    stay = λ n ne. stay-landed s f sound is.out.holder is.out.bay unsourced whole size (is_lost f.writes f.outcome (row_at s.rows f.frame).gone) n (not_named n ne);
    bytes = λ e. ap (bytes_at (with_flight_landed s f (is_lost f.writes f.outcome (row_at s.rows f.frame).gone)).frames) (own-self s f.frame unsourced)
        ∙ here-landed s f sound is.out.holder is.out.bay unsourced whole size (is_lost f.writes f.outcome (row_at s.rows f.frame).gone);
    values = λ notes note table fits mine performed.
        ends-landed s f sound is.out.holder is.out.bay unsourced whole size notes table note fits mine performed (is_lost f.writes f.outcome (row_at s.rows f.frame).gone)
        (λ e w. (kept_so f.writes f.outcome (row_at s.rows f.frame).gone e).1 (performed.direction ∙ w))
        (λ e g. sym performed.direction ∙ lost_so f.writes f.outcome (row_at s.rows f.frame).gone e g);
    clean = λ notes note table later fits mine performed g e here place.
        clean-ended s (with_flight_landed s f (is_lost f.writes f.outcome (row_at s.rows f.frame).gone)) notes table later f note (own_frame s f.frame) fits mine performed e
        (disk-landed s f sound is.out.holder is.out.bay unsourced whole size (is_lost f.writes f.outcome (row_at s.rows f.frame).gone)) here place;
  }

-- a snapshot comes back: first it parts from its page
module _ (s : StoreSeen) (f : FlightSeen) (own : ℕ) (sound : IsSoundStore s) (is : IsFlightOf s f) (started : f.outcome ≢ fresh)
    (whole : HasBlocks f.disk.content f.disk.size) (size : length f.bytes ≡ 4096) (source : (row_at s.rows f.frame).source ≡ Some own) where
  abbrev bit : Bool
  bit = is_dirty f.outcome || (row_at s.rows own).rewritten

  abbrev mid : StoreSeen
  mid = with_pair_parted s own f.frame (is_dirty f.outcome || (row_at s.rows own).rewritten)

  mid_sound : IsSoundStore mid
  mid_sound = sound-parted s own f.frame bit sound source

  mid_row : row_at mid.rows f.frame ≡ record (row_at s.rows f.frame) { source = None; gone = true }
  mid_row = parted-copy-row s own f.frame bit sound source

  mid_source : (row_at mid.rows f.frame).source ≡ None
  mid_source = ap (λ (r : Row). r.source) mid_row

  mid_gone : (row_at mid.rows f.frame).gone ≡ true
  mid_gone = ap (λ (r : Row). r.gone) mid_row

  mid_holder : (row_at mid.rows f.frame).holder ≡ Some f.seat
  mid_holder = ap (λ (r : Row). r.holder) mid_row ∙ is.out.holder

  apart : own ≢ f.frame
  apart = copy-apart s sound own f.frame source

  own_is : own_frame s f.frame ≡ own
  own_is = own-other s f.frame own source

  own_name : (row_at s.rows f.frame).gone ≡ false → name_at s.names own ≡ Some f.name
  own_name g = ap (name_at s.names) (sym own_is) ∙ is.out.page g

  unnamed : name_at s.names f.frame ≡ None
  unnamed = (copy-held s sound own f.frame source).1

  one_mid : OneFrame mid (with_flight_landed mid f true) f.frame
  one_mid = one-landed mid f mid_sound mid_holder is.out.bay mid_source whole size true

  distinct_mid : AreDistinct (with_flight_landed mid f true).names
  distinct_mid = distinct-landed mid f mid_sound mid_holder is.out.bay mid_source whole size true

  own_home : IsSome (bytes_at s.frames own)
  own_home = sound.paired.home own f.frame (sound.paired.snapshot own f.frame source)

  comes : (modified : Bool) → (is_dirty f.outcome || (row_at s.rows own).rewritten) ≡ modified → (row_at s.rows f.frame).gone ≡ false → ComesHome s (with_flight_landed mid f true) f modified
  comes modified e g = record {
    home = residence-home (with_flight_landed mid f true) f.name own distinct_mid (one_mid.names own apart ∙ own_name g)
        (subst (λ (b : Option (List ℕ)). IsSome b) (sym (one_mid.bytes own apart)) own_home) ∙ ap (λ (k : ℕ). Home k) (sym own_is);
    bit = ap (λ (k : ℕ). (row_at (with_flight_landed mid f true).rows k).modified) own_is ∙ ap (λ (r : Row). r.modified) (one_mid.rows own apart ∙ parted-own-row s own f.frame bit sound source) ∙ e;
    unlisted = λ l.
        let l_own : IsListedFrame (with_flight_landed mid f true) own = subst (λ (k : ℕ). IsListedFrame (with_flight_landed mid f true) k) own_is l in
        sound.paired.unlisted own f.frame (sound.paired.snapshot own f.frame source) (elim l_own [
          | inl a ↦ elim (Contains-push_cases s.free f.frame own a) [ inl b ↦ inl b | inr q ↦ absurd (apart (sym q)) ]
          | inr b ↦ inr b
        ]);
  }

  same_mid : (n : PageName) → residence mid n ≡ residence s n
  same_mid = residence-rows s mid.rows s.free s.cached s.clock (same-parted s own f.frame bit sound source)

  not_named_mid : (n : PageName) → name_at s.names f.frame ≡ Some n → ⊥
  not_named_mid n h = let z : None ≡ Some n = sym unnamed ∙ h in cc

  -- the page is home before, under its name
  home_before : (row_at s.rows f.frame).gone ≡ false → residence s f.name ≡ Home own
  home_before g = residence-home s f.name own sound.distinct (own_name g) own_home

  ends_values : (notes : Notes) (note : Note) (table : PlaceTable) → StoreFits s notes table → notes f.seat ≡ Some note → IsPerformed note f
      → EndsValues s notes (with_flight_landed mid f true) (with_note notes f.seat None) table note
  ends_values notes note table fits mine performed =
      let first = values-rows s mid.rows s.free s.cached s.clock (same-parted s own f.frame bit sound source) notes table fits fits.each_cached in
      let calm = calm-rows s mid.rows s.free s.cached s.clock (same-parted s own f.frame bit sound source) in
      let second = ends-landed mid f mid_sound mid_holder is.out.bay mid_source whole size notes table note first.fits mine performed true
      (λ e. let z : true ≡ false = e in absurd (cc)) (λ e g. let z : true ≡ false = sym mid_gone ∙ g in absurd (cc)) in
      record {
        fits = second.fits;
        alike = λ number. second.alike number ∙ first.alike number;
        stored = λ n far. second.stored n far ∙ backing_value-calm s mid notes table calm (table n);
        values = λ n reads writes.
            second.values n (λ r. first.alike (table n).disk ∙ reads r)
            (λ w e. inr (elim (writes w e) [
              | inl g ↦
                  let ungone : (row_at s.rows f.frame).gone ≡ false = ap (λ (k : ℕ). (row_at s.rows k).gone) performed.frame ∙ g in
                  (own, same_mid n ∙ ap (residence s) (e ∙ sym performed.name) ∙ home_before ungone)
              | inr b ↦ (b.0, same_mid n ∙ b.1)
            ]))
            ∙ value-rows s mid.rows s.free s.cached s.clock (same-parted s own f.frame bit sound source) (find s.names n) notes (table n);
      }

  not_reads : f.writes ≡ false → ⊥
  not_reads w = let z : None ≡ Some own = sym (is.out.read w) ∙ source in cc

  ends_copy : EndsTransfer s (with_flight_landed mid f true) f
  ends_copy = record {
    sound = sound-landed mid f mid_sound mid_holder is.out.bay mid_source whole size true (λ e. let z : true ≡ false = e in absurd (cc));
    disk = disk-landed mid f mid_sound mid_holder is.out.bay mid_source whole size true;
    disks = disks-landed mid f mid_sound mid_holder is.out.bay mid_source whole size true;
    touches = touches s (with_flight_landed mid f true) (family s f.frame) distinct_mid
        (elsewhere-then s mid (with_flight_landed mid f true) (either own f.frame) (is_only (Some f.frame)) (family s f.frame)
        (λ k h. (or-both (k == own) (k == f.frame) (eq-far k own (family-source s own f.frame k source h)) (eq-far k f.frame (family-own s f.frame k h)), eq-far k f.frame (family-own s f.frame k h)))
        (elsewhere-parted s own f.frame bit sound source) (one-elsewhere mid (with_flight_landed mid f true) f.frame one_mid));
    success = λ g e. comes (was_rewritten s f.frame) (ap (λ (b : Bool). b || (row_at s.rows own).rewritten) (ap is_dirty e) ∙ sym (ap (λ (o : Option ℕ). is_rewritten_in o s) source)) g;
    failed_write = λ g e w. comes true (ap (λ (b : Bool). b || (row_at s.rows own).rewritten) (ap is_dirty e)) g;
    failed_read = λ g e w. absurd (not_reads w);
    free = λ h. free-landed mid f mid_sound mid_holder is.out.bay mid_source whole size;
    stay = λ n ne. stay-landed mid f mid_sound mid_holder is.out.bay mid_source whole size true n (not_named_mid n) ∙ same_mid n;
    bytes = λ e. absurd (let z : None ≡ Some own = sym e ∙ source in cc);
    values = ends_values;
    clean = λ notes note table later fits mine performed g e here place.
        clean-ended s (with_flight_landed mid f true) notes table later f note (own_frame s f.frame) fits mine performed e
        (disk-landed mid f mid_sound mid_holder is.out.bay mid_source whole size true) here place;
  }

  pub ends-copy : EndsTransfer s (with_flight_landed mid f (is_lost f.writes f.outcome (row_at mid.rows f.frame).gone)) f
  ends-copy = subst (λ (b : Bool). EndsTransfer s (with_flight_landed mid f b) f) (sym (ap (is_lost f.writes f.outcome) mid_gone)) ends_copy

-- a flight comes back, as a snapshot or not
ends_by : (s : StoreSeen) (f : FlightSeen) (o : Option ℕ) → IsSoundStore s → IsFlightOf s f → f.outcome ≢ fresh → HasBlocks f.disk.content f.disk.size
    → length f.bytes ≡ 4096 → (row_at s.rows f.frame).source ≡ o
    → EndsTransfer s (with_flight_landed (record s { rows = rows_settled o s.rows f.frame (is_dirty f.outcome) }) f
    (is_lost f.writes f.outcome (row_at (rows_settled o s.rows f.frame (is_dirty f.outcome)) f.frame).gone)) f
ends_by s f None sound is started whole size e = ends-own s f sound is started whole size e
ends_by s f (Some own) sound is started whole size e = ends-copy s f own sound is started whole size e

pub ends-flight : (s : StoreSeen) (f : FlightSeen) → IsSoundStore s → IsFlightOf s f → f.outcome ≢ fresh → HasBlocks f.disk.content f.disk.size
    → length f.bytes ≡ 4096 → EndsTransfer s (after_end s f) f
ends-flight s f sound is started whole size = ends_by s f (row_at s.rows f.frame).source sound is started whole size refl

-- what the parts make of the store
landed_is : (s : StoreSeen) (f : FlightSeen) (lost : Bool) →
    (record s {
      frames = set s.frames f.frame (Some f.bytes);
      names = cond lost (set s.names f.frame None) s.names;
      rows = set s.rows f.frame (cond lost clear_row (landed_row (row_at s.rows f.frame) (is_dirty f.outcome)));
      free = cond lost (s.free ++ f.frame ∷ []) s.free;
      bays = set s.bays f.number (home f.disk);
    }) ≡ with_flight_landed s f lost
landed_is s f true = refl
landed_is s f false = refl

pub ended-parts : (s : StoreSeen) (f : FlightSeen) (rows : List Row) (at : ℕ) (lost dirty : Bool) → at ≡ f.frame
    → rows ≡ rows_settled (row_at s.rows f.frame).source s.rows f.frame (is_dirty f.outcome) → dirty ≡ is_dirty f.outcome
    → lost ≡ is_lost f.writes f.outcome (row_at rows f.frame).gone →
    (record s {
      frames = set s.frames f.frame (Some f.bytes);
      names = cond lost (set s.names at None) s.names;
      rows = set rows at (cond lost clear_row (landed_row (row_at rows at) dirty));
      free = cond lost (s.free ++ at ∷ []) s.free;
      bays = set s.bays f.number (home f.disk);
    }) ≡ after_end s f
ended-parts s f rows at lost dirty a m d l = rw (a, l, d, m) (landed_is
    (record s { rows = rows_settled (row_at s.rows f.frame).source s.rows f.frame (is_dirty f.outcome) }) f
    (is_lost f.writes f.outcome (row_at (rows_settled (row_at s.rows f.frame).source s.rows f.frame (is_dirty f.outcome)) f.frame).gone))

-- the rows once a snapshot parted from its page: as many, and the frame is still held
settled_length : (rows : List Row) (frame : ℕ) (dirty : Bool) (o : Option ℕ) → length (rows_settled o rows frame dirty) ≡ length rows
settled_length rows frame dirty None = refl
settled_length rows frame dirty (Some own) = length-set (set rows frame (record (row_at rows frame) { source = None; gone = true })) own
    (record (row_at rows own) { snapshot = None; modified = dirty || (row_at rows own).rewritten })
    ∙ length-set rows frame (record (row_at rows frame) { source = None; gone = true })

settled_holder : (s : StoreSeen) (frame : ℕ) (dirty : Bool) (o : Option ℕ) → IsSoundStore s → (row_at s.rows frame).source ≡ o
    → (row_at (rows_settled o s.rows frame dirty) frame).holder ≡ (row_at s.rows frame).holder
settled_holder s frame dirty None sound e = refl
settled_holder s frame dirty (Some own) sound e = ap (λ (r : Row). r.holder) (parted-copy-row s own frame (dirty || (row_at s.rows own).rewritten) sound e)

-- what the code knows as a frame comes back
pub record Back (s : StoreSeen) (frame : ℕ) (dirty : Bool) : Type 0 where
  pub named : frame < length s.names
  pub within : frame < length s.rows
  pub framed : frame < length s.frames
  pub unlisted : IsListedFrame s frame → ⊥
  pub own : (own : ℕ) → (row_at s.rows frame).source ≡ Some own → (own < length s.rows) × (own ≢ frame)
  pub length : length (rows_settled (row_at s.rows frame).source s.rows frame dirty) ≡ length s.rows
  pub holder : (row_at (rows_settled (row_at s.rows frame).source s.rows frame dirty) frame).holder ≡ (row_at s.rows frame).holder

pub back-at : (s : StoreSeen) (frame seat : ℕ) (dirty : Bool) → IsSoundStore s → (row_at s.rows frame).holder ≡ Some seat → Back s frame dirty
back-at s frame seat dirty sound held =
    let in_rows = held-within s.rows frame seat held in
    let a = sound.rows in
    let n = sound.names in
    let in_frames : frame < length s.frames = omega arith in
    let away = held-away (bytes_at s.frames frame) (name_at s.names frame) (row_at s.rows frame) (sound.each frame in_frames) seat held in
    record {
      named = omega arith;
      within = in_rows;
      framed = in_frames;
      unlisted = λ l. some-not (bytes_at s.frames frame) (sound.listed frame l) away;
      own = λ own e. (snapshot-within s.rows own frame (sound.paired.snapshot own frame e), copy-apart s sound own frame e);
      length = settled_length s.rows frame dirty (row_at s.rows frame).source;
      holder = settled_holder s frame dirty (row_at s.rows frame).source sound refl;
    }
