-- A frame and a disk go out.
use Rattle.std.proofs.Common.{unwrap_or, ◌≡◌, ◌≢◌, ℕ, ◌<◌, Bool, true, false, cond, ◌⊎◌, inl, inr, List, [], ◌∷◌, Option, Some, None, IsTrue, IsSome, refl, sym}
use Rattle.std.proofs.Common.{◌∙◌, ap, subst, arith, length, set, is_some}
use Rattle.std.specs.Option.{option_or}
use Rattle.std.specs.Prelude.{◌&&◌, ◌||◌, ◌==◌, is_none, Contains}
use Rattle.std.proofs.lemmas.Bool.{cases_eq, cases_Bool, or_from as or-both}
use Rattle.std.proofs.lemmas.List.{get_or-set_same, get_or-set_other}
use Rattle.std.proofs.Math.ListN.{length-set}
use Rattle.block_device.specs.DiskSeen.{DiskSeen, HasBlocks}
use Rattle.core_arena.specs.Bytes.{bytes_at}
use Rattle.core_arena.specs.Seen.{CoreSeen}
use Rattle.page_clock.specs.Seen.{ClockSeen}
use Rattle.page_hash.specs.Names.{find, name_at, is_name, AreDistinct}
use Rattle.page_hash.specs.declared.PageName.{PageName}
use Rattle.page_hash.proofs.NameLaws.{find-at, find-none, find-some, find-entered, entered-distinct, emptied-distinct, find-emptied_other, find-same}
use Rattle.page_lists.specs.ListsSeen.{ListsSeen, AreApart, first_listed}
use Rattle.page_lock.specs.Rows.{row_at, clear_row}
use Rattle.page_lock.specs.declared.Row.{Row}
use Rattle.page_store.specs.Bays.{BaySeen, missing, home, out, bay_at}
use Rattle.page_store.specs.Bytes.{clip}
use Rattle.page_store.specs.StoreFits.{StoreFits, NoteAgrees}
use Rattle.page_store.specs.Flight.{FlightSeen, note_of}
use Rattle.page_store.specs.Moves.{TakesFrame, Touches, after_taking, is_only, family, family_of}
use Rattle.page_store.specs.Notes.{Note, Notes, with_note}
use Rattle.page_store.specs.Out.{HasOut, IsFlightOf}
use Rattle.page_store.specs.Seen.{StoreSeen, IsSoundStore, FrameAgrees, ArePaired, IsListedFrame, store_of, own_frame, residence, residence_in}
use Rattle.page_store.specs.Parts.{rows_paired, rows_forsaken, rows_pushed, names_taken}
use Rattle.page_store.specs.Steps.{with_read_begun, with_page_sent, with_snapshot_sent, with_push_begun, without_snapshot, held_row, next_frame, next_name, name_in, rest_free, rest_cached}
use Rattle.page_store.specs.Table.{PlaceTable}
use Rattle.page_store.specs.Transfers.{BeginsTransfer, LivesAt, is_rewritten_in, is_touched_by, residence_begun}
use Rattle.page_store.specs.Value.{value, value_in, backing_value, tells}
use Rattle.page_store.specs.declared.place.Place.{Place}
use Rattle.page_store.specs.declared.plan.Plan.{Plan}
use Rattle.page_store.specs.declared.plan.Plan.TheVariants.{Read, Push}
use Rattle.page_store.specs.declared.residence.Residence.{Residence}
use Rattle.page_store.specs.declared.residence.Residence.TheVariants.{Home, Moving, Absent}
use Rattle.page_store.proofs.Agree.{Leaves, SameOut, same-row, own-self, own-other, backing_value-left, alike-left, notes-left, fits-left}
use Rattle.page_store.proofs.AbortLemmas.{Forsakes, forsakes}
use Rattle.page_store.proofs.Elsewhere.{Elsewhere, OneFrame, SoundAt, one-elsewhere, one-within, of-touches, elsewhere-then, same-elsewhere, only-none}
use Rattle.page_store.proofs.Elsewhere.{sound-one, sound-elsewhere, touches, touches-one, paired-one, value-elsewhere}
use Rattle.page_store.proofs.FillLemmas.{taken-home, taken-within, taken-name, taken-row, taken-snapshot, taken-source, taken-free, taken-cached, taken-lost}
use Rattle.page_store.proofs.FillLemmas.{taken-value, next-is, next-own, next-other}
use Rattle.page_store.proofs.FrameLaws.{some-not, eq-far, false-left, false-right, named-ungone, named-unsourced}
use Rattle.page_store.proofs.Links.{either, cases-either, either-is, either-not, family-own, family-of-own, two-own, two-copy, two-else, two-length}
use Rattle.page_store.proofs.QueryLemmas.{bytes-within}
use Rattle.page_store.proofs.RowSteps.{residence-rows}
use Rattle.page_store.proofs.TakeLemmas.{first-listed, rest-free, rest-cached, rest-apart}
use Rattle.page_store.proofs.TransferLemmas.{with_note-same, home-within, order-set, is-or-not, holds-or-not}

-- the disks that are home are whole where one of them went out
pub whole-out : (bays : List BaySeen) (number seat : ℕ) → number < length bays → ((k : ℕ) (d : DiskSeen) → bay_at bays k ≡ home d → HasBlocks d.content d.size)
    → (k : ℕ) (d : DiskSeen) → bay_at (set bays number (out seat)) k ≡ home d → HasBlocks d.content d.size
whole-out bays number seat lt was k d h = elim (cases_eq k number) [
  | inl e ↦ absurd (let z : out seat ≡ home d = sym (get_or-set_same bays number (out seat) missing lt) ∙ ap (bay_at (set bays number (out seat))) (sym e) ∙ h in cc)
  | inr ne ↦ was k d (sym (get_or-set_other bays number k (out seat) missing ne) ∙ h)
]

-- a value that no frame cuts
pub uncut : (b : Bool) (place : Place) (x : List ℕ) → b ≡ false → x ≡ cond b (clip place.valid x) x
uncut false place x h = refl
uncut true place x h = let z : true ≡ false = h in absurd (cc)

-- the next frame is taken for a page that has none, and goes out with a disk that is home
module _ (s : StoreSeen) (f : FlightSeen) (sound : IsSoundStore s) (next : next_frame s ≡ Some f.frame) (absent : find s.names f.name ≡ None) (there : bay_at s.bays f.number ≡ home f.disk)
    (reads : f.writes ≡ false) (origin : f.origin ≡ s.origin) (bytes : bytes_at s.frames f.frame ≡ Some f.bytes) where
  bay_within : f.number < length s.bays
  bay_within = home-within s.bays f.number f.disk there

  away_now : bytes_at (set s.frames f.frame None) f.frame ≡ None
  away_now = get_or-set_same s.frames f.frame None None (taken-within s f.frame sound next)

  row_now : row_at (set s.rows f.frame (held_row clear_row f.seat)) f.frame ≡ held_row clear_row f.seat
  row_now = get_or-set_same s.rows f.frame (held_row clear_row f.seat) clear_row (taken-row s f.frame sound next)

  name_now : name_at (set s.names f.frame (Some f.name)) f.frame ≡ Some f.name
  name_now = get_or-set_same s.names f.frame (Some f.name) None (taken-name s f.frame sound next)

  distinct_now : AreDistinct (set s.names f.frame (Some f.name))
  distinct_now = entered-distinct s.names f.name f.frame (taken-name s f.frame sound next) sound.distinct absent

  found_now : find (set s.names f.frame (Some f.name)) f.name ≡ Some f.frame
  found_now = find-entered s.names f.name f.frame (taken-name s f.frame sound next) sound.distinct absent

  bay_now : bay_at (set s.bays f.number (out f.seat)) f.number ≡ out f.seat
  bay_now = get_or-set_same s.bays f.number (out f.seat) missing bay_within

  one_fetched : OneFrame s (with_read_begun s f.frame f.name f.seat f.number) f.frame
  one_fetched = record {
    frames = length-set s.frames f.frame None;
    bytes = λ k ne. get_or-set_other s.frames f.frame k None None ne;
    names = λ k ne. get_or-set_other s.names f.frame k (Some f.name) None ne;
    rows = λ k ne. get_or-set_other s.rows f.frame k (held_row clear_row f.seat) clear_row ne;
    free = rest-free s.free s.cached f.frame next;
    cached = rest-cached s.free s.cached f.frame next;
  }

  agrees_fetched : FrameAgrees None (Some f.name) (held_row clear_row f.seat)
  agrees_fetched = record { size = λ b e. absurd (cc); away = refl; unnamed = refl; torn = λ g. refl }

  sound_fetched : IsSoundStore (with_read_begun s f.frame f.name f.seat f.number)
  sound_fetched = sound-one s (with_read_begun s f.frame f.name f.seat f.number) f.frame one_fetched sound
      (record {
        names = length-set s.names f.frame (Some f.name);
        rows = length-set s.rows f.frame (held_row clear_row f.seat);
        clock = refl;
        bays = length-set s.bays f.number (out f.seat);
        order = order-set s.bays s.order f.number (out f.seat) bay_within (λ q. let z : home f.disk ≡ missing = sym there ∙ q in cc) (λ q. cc) sound.order;
        distinct = distinct_now;
        lists = subst (λ (n : ℕ). AreApart (record { frames = n; free = rest_free s.free; cached = rest_cached s.free s.cached }))
            (sym (length-set s.frames f.frame None)) (rest-apart (length s.frames) s.free s.cached sound.lists);
        paired = paired-one s (with_read_begun s f.frame f.name f.seat f.number) f.frame one_fetched sound.paired (taken-snapshot s f.frame sound next)
            (taken-source s f.frame sound next) (ap (λ (r : Row). r.snapshot) row_now) (ap (λ (r : Row). r.source) row_now);
        whole = whole-out s.bays f.number f.seat bay_within sound.whole;
      })
      (record {
        agrees = subst (λ (b : Option (List ℕ)). FrameAgrees b (name_at (set s.names f.frame (Some f.name)) f.frame) (row_at (set s.rows f.frame (held_row clear_row f.seat)) f.frame)) (sym away_now)
            (subst (λ (n : Option PageName). FrameAgrees None n (row_at (set s.rows f.frame (held_row clear_row f.seat)) f.frame)) (sym name_now)
            (subst (λ (r : Row). FrameAgrees None (Some f.name) r) (sym row_now) agrees_fetched));
        listed = λ l. elim l [ inl a ↦ absurd (taken-free s f.frame sound next a) | inr b ↦ absurd (taken-cached s f.frame sound next b) ];
        unnamed = λ h. absurd (taken-free s f.frame sound next h);
        spare = λ t n. absurd (some-not (bytes_at (set s.frames f.frame None) f.frame) t away_now);
      })

  source_now : (row_at (set s.rows f.frame (held_row clear_row f.seat)) f.frame).source ≡ None
  source_now = ap (λ (r : Row). r.source) row_now

  out_fetched : HasOut (with_read_begun s f.frame f.name f.seat f.number) f.seat f.number f.frame f.writes f.name
  out_fetched = record {
    bay = bay_now;
    holder = ap (λ (r : Row). r.holder) row_now;
    page = λ g. ap (name_at (set s.names f.frame (Some f.name))) (own-self (with_read_begun s f.frame f.name f.seat f.number) f.frame source_now) ∙ name_now;
    read = λ w. source_now;
  }

  whole_f : HasBlocks f.disk.content f.disk.size
  whole_f = sound.whole f.number f.disk there

  size_f : length f.bytes ≡ 4096
  size_f = (sound.each f.frame (taken-within s f.frame sound next)).size f.bytes bytes

  before_far : (n : PageName) → name_at s.names f.frame ≡ Some n → n ≢ f.name
  before_far n h q = find-none s.names f.name f.frame absent (h ∙ ap (λ (m : PageName). Some m) q)

  after_far : (n : PageName) → n ≢ f.name → name_at (set s.names f.frame (Some f.name)) f.frame ≡ Some n → ⊥
  after_far n ne h = let z : Some f.name ≡ Some n = sym name_now ∙ h in ne (let w : f.name ≡ n = cc in sym w)

  lost_fetched : (n : PageName) → name_at s.names f.frame ≡ Some n → find (set s.names f.frame (Some f.name)) n ≡ None
  lost_fetched n h = taken-lost s f.frame sound next (Some f.name) n (λ q. let z : Some f.name ≡ Some n = q in before_far n h (let w : f.name ≡ n = cc in sym w)) h

  module _ (notes : Notes) (table : PlaceTable) (fits : StoreFits s notes table) (idle : notes f.seat ≡ None)
      (lives : table f.name ≡ record { disk = f.number; block = f.block; valid = f.valid; blank = false }) where
    leaves_fetched : Leaves s (with_read_begun s f.frame f.name f.seat f.number) notes table f.seat (note_of f)
    leaves_fetched = record {
      sound = sound;
      fits = fits;
      idle = idle;
      origin = refl;
      bay = there;
      left = bay_now;
      bays = λ k ne. get_or-set_other s.bays f.number k (out f.seat) missing ne;
      was_home = taken-home s f.frame sound next;
      bytes = one_fetched.bytes;
      holder = ap (λ (r : Row). r.holder) row_now;
      rows = λ k ne. same-row (row_at s.rows k) (row_at (set s.rows f.frame (held_row clear_row f.seat)) k) (one_fetched.rows k ne);
      names = one_fetched.names;
      single = taken-snapshot s f.frame sound next;
      mine = record {
        mine = refl;
        origin = origin;
        out = out_fetched;
        away = away_now;
        disk = ap (λ (p : Place). p.disk) lives;
        block = ap (λ (p : Place). p.block) lives;
        read = λ w g. (ap (λ (p : Place). p.valid) lives, ap (λ (p : Place). p.blank) lives);
        whole = whole_f;
        bytes = size_f;
      };
      cached = λ k h. let far : k ≢ f.frame = λ (q : k ≡ f.frame). taken-cached s f.frame sound next
          (subst (λ (j : ℕ). Contains (rest_cached s.free s.cached) j) q h) in ((one_fetched.cached k far).0 h, far);
      unwritten = λ w. absurd (let z : true ≡ false = sym w ∙ reads in cc);
    }

    stored_now : (place : Place) → backing_value (with_read_begun s f.frame f.name f.seat f.number) (with_note notes f.seat (Some (note_of f))) place ≡ backing_value s notes place
    stored_now = backing_value-left s (with_read_begun s f.frame f.name f.seat f.number) notes table f.seat (note_of f) leaves_fetched

    value_own : (place : Place) → value_in (Some f.frame) (with_read_begun s f.frame f.name f.seat f.number) (with_note notes f.seat (Some (note_of f))) place ≡ backing_value s notes place
    value_own place = rw (away_now, row_now, with_note-same notes f.seat (Some (note_of f)))
        (ap (λ (b : Bool). cond b f.bytes (backing_value (with_read_begun s f.frame f.name f.seat f.number) (with_note notes f.seat (Some (note_of f))) place)) reads ∙ stored_now place)

    own_before : value s notes table f.name ≡ backing_value s notes (table f.name)
    own_before = ap (λ (o : Option ℕ). value_in o s notes (table f.name)) absent

    value_fetched : (n : PageName) → IsTrue (tells s notes (table n).disk)
        → value (with_read_begun s f.frame f.name f.seat f.number) (with_note notes f.seat (Some (note_of f))) table n ≡ after_taking (next_name s) n (table n) (value s notes table n)
    value_fetched n t = elim (is-or-not n f.name) [
      | inl e ↦ subst (λ (m : PageName). value (with_read_begun s f.frame f.name f.seat f.number)
          (with_note notes f.seat (Some (note_of f))) table m ≡ after_taking (next_name s) m (table m) (value s notes table m)) (sym e)
          (ap (λ (o : Option ℕ). value_in o (with_read_begun s f.frame f.name f.seat f.number) (with_note notes f.seat (Some (note_of f)))
          (table f.name)) found_now ∙ value_own (table f.name) ∙ sym own_before
          ∙ uncut (is_name (next_name s) f.name) (table f.name) (value s notes table f.name) (next-other s f.frame sound next f.name (find-none s.names f.name f.frame absent)))
      | inr ne ↦ elim (holds-or-not (name_at s.names f.frame) n) [
        | inl h ↦ rw (lost_fetched n h, next-own s f.frame sound next n h) (stored_now (table n) ∙ taken-value s f.frame sound next notes table n fits h t)
        | inr before ↦
            value-elsewhere s (with_read_begun s f.frame f.name f.seat f.number) (is_only (Some f.frame)) distinct_now
            (one-elsewhere s (with_read_begun s f.frame f.name f.seat f.number) f.frame one_fetched) notes (with_note notes f.seat (Some (note_of f))) table n
            (only-none s.names f.frame n before) (only-none (set s.names f.frame (Some f.name)) f.frame n (after_far n ne)) (stored_now (table n))
            (λ g u far h. notes-left s (with_read_begun s f.frame f.name f.seat f.number) notes table f.seat (note_of f) leaves_fetched g u h)
            ∙ uncut (is_name (next_name s) n) (table n) (value s notes table n) (next-other s f.frame sound next n before)
      ]
    ]

    takes_fetched : TakesFrame s notes (with_read_begun s f.frame f.name f.seat f.number) (with_note notes f.seat (Some (note_of f))) table
    takes_fetched = record {
      fits = fits-left s (with_read_begun s f.frame f.name f.seat f.number) notes table f.seat (note_of f) leaves_fetched;
      alike = alike-left s (with_read_begun s f.frame f.name f.seat f.number) notes table f.seat (note_of f) leaves_fetched;
      values = value_fetched;
    }

  pub begins-read : BeginsTransfer s (with_read_begun s f.frame f.name f.seat f.number) (Read f.name) f.name f
  begins-read = record {
    sound = sound_fetched;
    out = record { origin = origin; out = out_fetched };
    disks = λ k ne. get_or-set_other s.bays f.number k (out f.seat) missing ne;
    touches = subst (λ (o : Option ℕ). Touches s (with_read_begun s f.frame f.name f.seat f.number) (is_only o)) (sym next)
        (touches-one s (with_read_begun s f.frame f.name f.seat f.number) f.frame distinct_now one_fetched);
    page = rw (found_now, away_now, row_now) refl;
    modified = λ own e. absurd (let z : None ≡ Some own = sym absent ∙ e in cc);
    ungone = ap (λ (r : Row). r.gone) row_now;
    unwritten = ap (λ (o : Option ℕ). is_rewritten_in o (with_read_begun s f.frame f.name f.seat f.number)) source_now;
    own = λ own e. absurd (let z : None ≡ Some own = sym absent ∙ e in cc);
    unlisted = λ l. elim l [ inl a ↦ taken-free s f.frame sound next a | inr b ↦ taken-cached s f.frame sound next b ];
    lost = λ n h. ap (λ (o : Option ℕ). residence_in o (with_read_begun s f.frame f.name f.seat f.number)) (lost_fetched n (sym (next-is s f.frame sound next) ∙ h));
    stay = λ n ne other. (touches-one s (with_read_begun s f.frame f.name f.seat f.number) f.frame distinct_now one_fetched).residence n
        (only-none s.names f.frame n (λ h. other (next-is s f.frame sound next ∙ h))) (only-none (set s.names f.frame (Some f.name)) f.frame n (after_far n ne));
    whole = whole_f;
    size = size_f;
    values = takes_fetched;
  }

-- a page whose frame goes out itself
module _ (s : StoreSeen) (f : FlightSeen) (sound : IsSoundStore s) (next : next_frame s ≡ None) (found : find s.names f.name ≡ Some f.frame)
    (unlisted : IsListedFrame s f.frame → ⊥) (single : (row_at s.rows f.frame).snapshot ≡ None)
    (there : bay_at s.bays f.number ≡ home f.disk) (writes : f.writes ≡ true) (origin : f.origin ≡ s.origin) (bytes : bytes_at s.frames f.frame ≡ Some f.bytes) where
  frame_within : f.frame < length s.frames
  frame_within = bytes-within s.frames f.frame f.bytes bytes

  row_within : f.frame < length s.rows
  row_within = let a = frame_within in let b = sound.rows in omega arith

  bay_in : f.number < length s.bays
  bay_in = home-within s.bays f.number f.disk there

  held_name : name_at s.names f.frame ≡ Some f.name
  held_name = find-at s.names f.name f.frame found

  own_source : (row_at s.rows f.frame).source ≡ None
  own_source = named-unsourced (bytes_at s.frames f.frame) (name_at s.names f.frame) (row_at s.rows f.frame) (sound.each f.frame frame_within) f.name held_name

  own_gone : (row_at s.rows f.frame).gone ≡ false
  own_gone = named-ungone (bytes_at s.frames f.frame) (name_at s.names f.frame) (row_at s.rows f.frame) (sound.each f.frame frame_within) f.name held_name

  gone_away : bytes_at (set s.frames f.frame None) f.frame ≡ None
  gone_away = get_or-set_same s.frames f.frame None None frame_within

  row_sent : row_at (set s.rows f.frame (held_row (row_at s.rows f.frame) f.seat)) f.frame ≡ held_row (row_at s.rows f.frame) f.seat
  row_sent = get_or-set_same s.rows f.frame (held_row (row_at s.rows f.frame) f.seat) clear_row row_within

  bay_sent : bay_at (set s.bays f.number (out f.seat)) f.number ≡ out f.seat
  bay_sent = get_or-set_same s.bays f.number (out f.seat) missing bay_in

  one_sent : OneFrame s (with_page_sent s f.frame f.seat f.number) f.frame
  one_sent = record {
    frames = length-set s.frames f.frame None;
    bytes = λ k ne. get_or-set_other s.frames f.frame k None None ne;
    names = λ k ne. refl;
    rows = λ k ne. get_or-set_other s.rows f.frame k (held_row (row_at s.rows f.frame) f.seat) clear_row ne;
    free = λ k ne. (λ h. h, λ h. h);
    cached = λ k ne. (λ h. h, λ h. h);
  }

  agrees_sent : FrameAgrees None (name_at s.names f.frame) (held_row (row_at s.rows f.frame) f.seat)
  agrees_sent = record {
    size = λ b e. absurd (cc);
    away = refl;
    unnamed = ap (λ (n : Option PageName). is_none n) held_name ∙ sym (ap (λ (g : Bool). g || is_some (row_at s.rows f.frame).source) own_gone ∙ ap (λ (o : Option ℕ). is_some o) own_source);
    torn = λ g. own_source;
  }

  sound_sent : IsSoundStore (with_page_sent s f.frame f.seat f.number)
  sound_sent = sound-one s (with_page_sent s f.frame f.seat f.number) f.frame one_sent sound
      (record {
        names = refl;
        rows = length-set s.rows f.frame (held_row (row_at s.rows f.frame) f.seat);
        clock = refl;
        bays = length-set s.bays f.number (out f.seat);
        order = order-set s.bays s.order f.number (out f.seat) bay_in (λ q. let z : home f.disk ≡ missing = sym there ∙ q in cc) (λ q. cc) sound.order;
        distinct = sound.distinct;
        lists = subst (λ (n : ℕ). AreApart (record { frames = n; free = s.free; cached = s.cached })) (sym (length-set s.frames f.frame None)) sound.lists;
        paired = paired-one s (with_page_sent s f.frame f.seat f.number) f.frame one_sent sound.paired single own_source
            (ap (λ (r : Row). r.snapshot) row_sent ∙ single) (ap (λ (r : Row). r.source) row_sent ∙ own_source);
        whole = whole-out s.bays f.number f.seat bay_in sound.whole;
      })
      (record {
        agrees = subst (λ (b : Option (List ℕ)). FrameAgrees b (name_at s.names f.frame) (row_at (set s.rows f.frame (held_row (row_at s.rows f.frame) f.seat)) f.frame)) (sym gone_away)
            (subst (λ (r : Row). FrameAgrees None (name_at s.names f.frame) r) (sym row_sent) agrees_sent);
        listed = λ l. absurd (unlisted l);
        unnamed = λ h. absurd (unlisted (inl h));
        spare = λ t n. absurd (some-not (bytes_at (set s.frames f.frame None) f.frame) t gone_away);
      })

  source_sent : (row_at (set s.rows f.frame (held_row (row_at s.rows f.frame) f.seat)) f.frame).source ≡ None
  source_sent = ap (λ (r : Row). r.source) row_sent ∙ own_source

  out_sent : HasOut (with_page_sent s f.frame f.seat f.number) f.seat f.number f.frame f.writes f.name
  out_sent = record {
    bay = bay_sent;
    holder = ap (λ (r : Row). r.holder) row_sent;
    page = λ g. ap (name_at s.names) (own-self (with_page_sent s f.frame f.seat f.number) f.frame source_sent) ∙ held_name;
    read = λ w. source_sent;
  }

  leaves_sent : (notes : Notes) (table : PlaceTable) → StoreFits s notes table → notes f.seat ≡ None → LivesAt (Push f.name) table f.number f.block f.valid
      → Leaves s (with_page_sent s f.frame f.seat f.number) notes table f.seat (note_of f)
  leaves_sent notes table fits idle lives = record {
    sound = sound;
    fits = fits;
    idle = idle;
    origin = refl;
    bay = there;
    left = bay_sent;
    bays = λ k ne. get_or-set_other s.bays f.number k (out f.seat) missing ne;
    was_home = subst (λ (b : Option (List ℕ)). IsSome b) (sym bytes) refl;
    bytes = one_sent.bytes;
    holder = ap (λ (r : Row). r.holder) row_sent;
    rows = λ k ne. same-row (row_at s.rows k) (row_at (set s.rows f.frame (held_row (row_at s.rows f.frame) f.seat)) k) (one_sent.rows k ne);
    names = one_sent.names;
    single = single;
    mine = record {
      mine = refl;
      origin = origin;
      out = out_sent;
      away = gone_away;
      disk = lives.0;
      block = lives.1;
      read = λ w g. absurd (let z : true ≡ false = sym writes ∙ w in cc);
      whole = sound.whole f.number f.disk there;
      bytes = (sound.each f.frame frame_within).size f.bytes bytes;
    };
    cached = λ k h. (h, λ q. unlisted (inr (subst (λ (j : ℕ). Contains s.cached j) q h)));
    unwritten = λ w k h e. unlisted (inr (subst (λ (j : ℕ). Contains s.cached j) (sound.distinct k f.frame f.name e held_name) h));
  }

  value_sent : (notes : Notes) (table : PlaceTable) (fits : StoreFits s notes table) (idle : notes f.seat ≡ None) (lives : LivesAt (Push f.name) table f.number f.block f.valid) (n : PageName)
      → value (with_page_sent s f.frame f.seat f.number) (with_note notes f.seat (Some (note_of f))) table n ≡ value s notes table n
  value_sent notes table fits idle lives n = elim (holds-or-not (name_at s.names f.frame) n) [
    | inl h ↦
        let found_n : find s.names n ≡ Some f.frame = find-some s.names n f.frame sound.distinct h in
        rw (found_n, gone_away, row_sent, with_note-same notes f.seat (Some (note_of f)), bytes)
        (ap (λ (b : Bool). cond b f.bytes (backing_value (with_page_sent s f.frame f.seat f.number) (with_note notes f.seat (Some (note_of f))) (table n))) writes)
    | inr before ↦ value-elsewhere s (with_page_sent s f.frame f.seat f.number) (is_only (Some f.frame)) sound.distinct
        (one-elsewhere s (with_page_sent s f.frame f.seat f.number) f.frame one_sent) notes (with_note notes f.seat (Some (note_of f))) table n
        (only-none s.names f.frame n before) (only-none s.names f.frame n before)
        (backing_value-left s (with_page_sent s f.frame f.seat f.number) notes table f.seat (note_of f) (leaves_sent notes table fits idle lives) (table n))
        (λ g u far h. notes-left s (with_page_sent s f.frame f.seat f.number) notes table f.seat (note_of f) (leaves_sent notes table fits idle lives) g u h)
  ]

  none_next : next_name s ≡ None
  none_next = ap (name_in s.names) next

  far_name : (n : PageName) → n ≢ f.name → name_at s.names f.frame ≡ Some n → ⊥
  far_name n ne h = let z : Some f.name ≡ Some n = sym held_name ∙ h in ne (let w : f.name ≡ n = cc in sym w)

  pub begins-sent : BeginsTransfer s (with_page_sent s f.frame f.seat f.number) (Push f.name) f.name f
  begins-sent = record {
    sound = sound_sent;
    out = record { origin = origin; out = out_sent };
    disks = λ k ne. get_or-set_other s.bays f.number k (out f.seat) missing ne;
    touches = touches s (with_page_sent s f.frame f.seat f.number) (is_touched_by (Push f.name) s) sound.distinct
        (one-within s (with_page_sent s f.frame f.seat f.number) f.frame (is_touched_by (Push f.name) s) one_sent
        (λ k h. family-own s f.frame k (family-of-own s (find s.names f.name) f.frame k found (false-right (is_only (next_frame s) k) (family_of s (find s.names f.name) k) h))));
    page = rw (next, found, gone_away, row_sent) refl;
    modified = λ own e.
        let q : f.frame ≡ own = let z : Some f.frame ≡ Some own = sym found ∙ e in cc in
        subst (λ (j : ℕ). (row_at (set s.rows f.frame (held_row (row_at s.rows f.frame) f.seat)) j).modified ≡ (row_at s.rows j).modified) q (ap (λ (r : Row). r.modified) row_sent);
    ungone = ap (λ (r : Row). r.gone) row_sent ∙ own_gone;
    unwritten = ap (λ (o : Option ℕ). is_rewritten_in o (with_page_sent s f.frame f.seat f.number)) source_sent;
    own = λ own e. own-self (with_page_sent s f.frame f.seat f.number) f.frame source_sent ∙ (let z : Some f.frame ≡ Some own = sym found ∙ e in cc);
    unlisted = unlisted;
    lost = λ n h. absurd (let z : None ≡ Some n = sym none_next ∙ h in cc);
    stay = λ n ne other. (touches-one s (with_page_sent s f.frame f.seat f.number) f.frame sound.distinct one_sent).residence n
        (only-none s.names f.frame n (far_name n ne)) (only-none s.names f.frame n (far_name n ne));
    whole = sound.whole f.number f.disk there;
    size = (sound.each f.frame frame_within).size f.bytes bytes;
    values = λ notes table fits idle lives. record {
      fits = fits-left s (with_page_sent s f.frame f.seat f.number) notes table f.seat (note_of f) (leaves_sent notes table fits idle lives);
      alike = alike-left s (with_page_sent s f.frame f.seat f.number) notes table f.seat (note_of f) (leaves_sent notes table fits idle lives);
      values = λ n t. value_sent notes table fits idle lives n ∙ uncut (is_name (next_name s) n) (table n) (value s notes table n) (ap (λ (o : Option PageName). is_name o n) none_next);
    };
  }

-- a frame is taken as a snapshot of a page, which stays where it is
module _ (s : StoreSeen) (f : FlightSeen) (own : ℕ) (sound : IsSoundStore s) (next : next_frame s ≡ Some f.frame) (found : find s.names f.name ≡ Some own)
    (unlisted : IsListedFrame s own → ⊥) (single : (row_at s.rows own).snapshot ≡ None)
    (there : bay_at s.bays f.number ≡ home f.disk) (writes : f.writes ≡ true) (origin : f.origin ≡ s.origin) (bytes : bytes_at s.frames own ≡ Some f.bytes) where
  copy_apart : own ≢ f.frame
  copy_apart q = unlisted (subst (λ (k : ℕ). IsListedFrame s k) (sym q) (first-listed s.free s.cached f.frame next))

  own_in : own < length s.frames
  own_in = bytes-within s.frames own f.bytes bytes

  own_row_in : own < length s.rows
  own_row_in = let a = own_in in let b = sound.rows in omega arith

  bay_in_copied : f.number < length s.bays
  bay_in_copied = home-within s.bays f.number f.disk there

  own_name : name_at s.names own ≡ Some f.name
  own_name = find-at s.names f.name own found

  at_own : row_at (rows_paired s.rows own f.frame f.seat) own ≡ record (row_at s.rows own) { snapshot = Some f.frame; rewritten = false }
  at_own = two-own s.rows own f.frame (record (row_at s.rows own) { snapshot = Some f.frame; rewritten = false })
      (record clear_row { holder = Some f.seat; source = Some own }) copy_apart own_row_in (taken-row s f.frame sound next)

  at_copy : row_at (rows_paired s.rows own f.frame f.seat) f.frame ≡ record clear_row { holder = Some f.seat; source = Some own }
  at_copy = two-copy s.rows own f.frame (record (row_at s.rows own) { snapshot = Some f.frame; rewritten = false })
      (record clear_row { holder = Some f.seat; source = Some own }) copy_apart own_row_in (taken-row s f.frame sound next)

  at_else : (k : ℕ) → k ≢ own → k ≢ f.frame → row_at (rows_paired s.rows own f.frame f.seat) k ≡ row_at s.rows k
  at_else k ne far = two-else s.rows own f.frame (record (row_at s.rows own) { snapshot = Some f.frame; rewritten = false })
      (record clear_row { holder = Some f.seat; source = Some own }) copy_apart own_row_in (taken-row s f.frame sound next) k ne far

  away_copied : bytes_at (set s.frames f.frame None) f.frame ≡ None
  away_copied = get_or-set_same s.frames f.frame None None (taken-within s f.frame sound next)

  bytes_copied : (k : ℕ) → k ≢ f.frame → bytes_at (set s.frames f.frame None) k ≡ bytes_at s.frames k
  bytes_copied k ne = get_or-set_other s.frames f.frame k None None ne

  name_copied : name_at (set s.names f.frame None) f.frame ≡ None
  name_copied = get_or-set_same s.names f.frame None None (taken-name s f.frame sound next)

  names_copied : (k : ℕ) → k ≢ f.frame → name_at (set s.names f.frame None) k ≡ name_at s.names k
  names_copied k ne = get_or-set_other s.names f.frame k None None ne

  own_bytes : bytes_at (set s.frames f.frame None) own ≡ Some f.bytes
  own_bytes = bytes_copied own copy_apart ∙ bytes

  own_named : name_at (set s.names f.frame None) own ≡ Some f.name
  own_named = names_copied own copy_apart ∙ own_name

  bay_copied : bay_at (set s.bays f.number (out f.seat)) f.number ≡ out f.seat
  bay_copied = get_or-set_same s.bays f.number (out f.seat) missing bay_in_copied

  distinct_copied : AreDistinct (set s.names f.frame None)
  distinct_copied = emptied-distinct s.names f.frame (taken-name s f.frame sound next) sound.distinct

  found_copied : find (set s.names f.frame None) f.name ≡ Some own
  found_copied = find-some (set s.names f.frame None) f.name own distinct_copied own_named

  own_source_copied : (row_at s.rows own).source ≡ None
  own_source_copied = named-unsourced (bytes_at s.frames own) (name_at s.names own) (row_at s.rows own) (sound.each own own_in) f.name own_name

  elsewhere_copied : Elsewhere s (with_snapshot_sent s own f.frame f.seat f.number) (either own f.frame)
  elsewhere_copied = record {
    frames = length-set s.frames f.frame None;
    bytes = λ k h. bytes_copied k (either-not own f.frame k h).1;
    names = λ k h. names_copied k (either-not own f.frame k h).1;
    rows = λ k h. at_else k (either-not own f.frame k h).0 (either-not own f.frame k h).1;
    free = λ k h. rest-free s.free s.cached f.frame next k (either-not own f.frame k h).1;
    cached = λ k h. rest-cached s.free s.cached f.frame next k (either-not own f.frame k h).1;
  }

  own_unlisted : IsListedFrame (with_snapshot_sent s own f.frame f.seat f.number) own → ⊥
  own_unlisted l = unlisted (elim l [
    | inl a ↦ inl ((rest-free s.free s.cached f.frame next own copy_apart).0 a)
    | inr b ↦ inr ((rest-cached s.free s.cached f.frame next own copy_apart).0 b)
  ])

  copy_unlisted : IsListedFrame (with_snapshot_sent s own f.frame f.seat f.number) f.frame → ⊥
  copy_unlisted l = elim l [ inl a ↦ taken-free s f.frame sound next a | inr b ↦ taken-cached s f.frame sound next b ]

  -- a frame with a snapshot is the page's own one, or had it before
  snapshot_before : (k x : ℕ) → (row_at (rows_paired s.rows own f.frame f.seat) k).snapshot ≡ Some x → ((k ≡ own) × (x ≡ f.frame)) ⊎ ((k ≢ own) × (k ≢ f.frame) × ((row_at s.rows k).snapshot ≡ Some x))
  snapshot_before k x h = elim (cases-either k own f.frame) [
    | inl e ↦
        let z : Some f.frame ≡ Some x = sym (ap (λ (r : Row). r.snapshot) at_own) ∙ ap (λ (j : ℕ). (row_at (rows_paired s.rows own f.frame f.seat) j).snapshot) (sym e) ∙ h in
        inl (e, (let w : f.frame ≡ x = cc in sym w))
    | inr r ↦ elim r [
      | inl e ↦ absurd (let z : None ≡ Some x = sym (ap (λ (r : Row). r.snapshot) at_copy) ∙ ap (λ (j : ℕ). (row_at (rows_paired s.rows own f.frame f.seat) j).snapshot) (sym e) ∙ h in cc)
      | inr far ↦ inr (far.0, far.1, ap (λ (r : Row). r.snapshot) (sym (at_else k far.0 far.1)) ∙ h)
    ]
  ]

  source_before : (k x : ℕ) → (row_at (rows_paired s.rows own f.frame f.seat) k).source ≡ Some x → ((k ≡ f.frame) × (x ≡ own)) ⊎ ((k ≢ own) × (k ≢ f.frame) × ((row_at s.rows k).source ≡ Some x))
  source_before k x h = elim (cases-either k own f.frame) [
    | inl e ↦ absurd (let z : None ≡ Some x = sym (ap (λ (r : Row). r.source) at_own ∙ own_source_copied) ∙ ap (λ (j : ℕ). (row_at (rows_paired s.rows own f.frame f.seat) j).source) (sym e) ∙ h in cc)
    | inr r ↦ elim r [
      | inl e ↦
          let z : Some own ≡ Some x = sym (ap (λ (r : Row). r.source) at_copy) ∙ ap (λ (j : ℕ). (row_at (rows_paired s.rows own f.frame f.seat) j).source) (sym e) ∙ h in
          inl (e, (let w : own ≡ x = cc in sym w))
      | inr far ↦ inr (far.0, far.1, ap (λ (r : Row). r.source) (sym (at_else k far.0 far.1)) ∙ h)
    ]
  ]

  snapshot_copied : (row_at (rows_paired s.rows own f.frame f.seat) own).snapshot ≡ Some f.frame
  snapshot_copied = ap (λ (r : Row). r.snapshot) at_own

  source_copied : (row_at (rows_paired s.rows own f.frame f.seat) f.frame).source ≡ Some own
  source_copied = ap (λ (r : Row). r.source) at_copy

  paired_copied : ArePaired (with_snapshot_sent s own f.frame f.seat f.number)
  paired_copied = record {
    source = λ k x h. elim (snapshot_before k x h) [
      | inl a ↦ ap (λ (j : ℕ). (row_at (rows_paired s.rows own f.frame f.seat) j).source) a.1 ∙ source_copied ∙ ap (λ (j : ℕ). Some j) (sym a.0)
      | inr b ↦
          let src : (row_at s.rows x).source ≡ Some k = sound.paired.source k x b.2 in
          let far_own : x ≢ own = λ (q : x ≡ own). let z : None ≡ Some k = sym own_source_copied ∙ ap (λ (j : ℕ). (row_at s.rows j).source) (sym q) ∙ src in cc in
          let far_copy : x ≢ f.frame = λ (q : x ≡ f.frame). let z : None ≡ Some k = sym (taken-source s f.frame sound next) ∙ ap (λ (j : ℕ). (row_at s.rows j).source) (sym q) ∙ src in cc in
          ap (λ (r : Row). r.source) (at_else x far_own far_copy) ∙ src
    ];
    snapshot = λ k x h. elim (source_before x k h) [
      | inl a ↦ ap (λ (j : ℕ). (row_at (rows_paired s.rows own f.frame f.seat) j).snapshot) a.1 ∙ snapshot_copied ∙ ap (λ (j : ℕ). Some j) (sym a.0)
      | inr b ↦
          let snap : (row_at s.rows k).snapshot ≡ Some x = sound.paired.snapshot k x b.2 in
          let far_own : k ≢ own = λ (q : k ≡ own). let z : None ≡ Some x = sym single ∙ ap (λ (j : ℕ). (row_at s.rows j).snapshot) (sym q) ∙ snap in cc in
          let far_copy : k ≢ f.frame = λ (q : k ≡ f.frame). let z : None ≡ Some x = sym (taken-snapshot s f.frame sound next) ∙ ap (λ (j : ℕ). (row_at s.rows j).snapshot) (sym q) ∙ snap in cc in
          ap (λ (r : Row). r.snapshot) (at_else k far_own far_copy) ∙ snap
    ];
    home = λ k x h. elim (snapshot_before k x h) [
      | inl a ↦ subst (λ (j : ℕ). IsSome (bytes_at (set s.frames f.frame None) j)) (sym a.0) (subst (λ (b : Option (List ℕ)). IsSome b) (sym own_bytes) refl)
      | inr b ↦ subst (λ (o : Option (List ℕ)). IsSome o) (sym (bytes_copied k b.1)) (sound.paired.home k x b.2)
    ];
    named = λ k x h. elim (snapshot_before k x h) [
      | inl a ↦ subst (λ (j : ℕ). IsSome (name_at (set s.names f.frame None) j)) (sym a.0) (subst (λ (n : Option PageName). IsSome n) (sym own_named) refl)
      | inr b ↦ subst (λ (o : Option PageName). IsSome o) (sym (names_copied k b.1)) (sound.paired.named k x b.2)
    ];
    unlisted = λ k x h. elim (snapshot_before k x h) [
      | inl a ↦ subst (λ (j : ℕ). ¬ IsListedFrame (with_snapshot_sent s own f.frame f.seat f.number) j) (sym a.0) own_unlisted
      | inr b ↦ λ l. sound.paired.unlisted k x b.2 (elim l [
        | inl y ↦ inl ((rest-free s.free s.cached f.frame next k b.1).0 y)
        | inr y ↦ inr ((rest-cached s.free s.cached f.frame next k b.1).0 y)
      ])
    ];
  }

  agrees_own : FrameAgrees (Some f.bytes) (Some f.name) (record (row_at s.rows own) { snapshot = Some f.frame; rewritten = false })
  agrees_own =
      let was : FrameAgrees (Some f.bytes) (Some f.name) (row_at s.rows own) = subst
      (λ (b : Option (List ℕ)). FrameAgrees b (Some f.name) (row_at s.rows own)) bytes
      (subst (λ (n : Option PageName). FrameAgrees (bytes_at s.frames own) n (row_at s.rows own)) own_name (sound.each own own_in)) in
      record { size = was.size; away = was.away; unnamed = was.unnamed; torn = was.torn }

  agrees_copy : FrameAgrees None None (record clear_row { holder = Some f.seat; source = Some own })
  agrees_copy = record { size = λ b e. absurd (cc); away = refl; unnamed = refl; torn = λ g. let z : false ≡ true = g in absurd (cc) }

  sound_copied : IsSoundStore (with_snapshot_sent s own f.frame f.seat f.number)
  sound_copied = sound-elsewhere s (with_snapshot_sent s own f.frame f.seat f.number) (either own f.frame) elsewhere_copied sound
      (record {
        names = length-set s.names f.frame None;
        rows = two-length s.rows own f.frame (record (row_at s.rows own) { snapshot = Some f.frame; rewritten = false })
            (record clear_row { holder = Some f.seat; source = Some own }) copy_apart own_row_in (taken-row s f.frame sound next);
        clock = refl;
        bays = length-set s.bays f.number (out f.seat);
        order = order-set s.bays s.order f.number (out f.seat) bay_in_copied (λ q. let z : home f.disk ≡ missing = sym there ∙ q in cc) (λ q. cc) sound.order;
        distinct = distinct_copied;
        lists = subst (λ (n : ℕ). AreApart (record { frames = n; free = rest_free s.free; cached = rest_cached s.free s.cached }))
            (sym (length-set s.frames f.frame None)) (rest-apart (length s.frames) s.free s.cached sound.lists);
        paired = paired_copied;
        whole = whole-out s.bays f.number f.seat bay_in_copied sound.whole;
      })
      (λ k t. elim (either-is own f.frame k t) [
        | inl e ↦ subst (λ (j : ℕ). SoundAt (with_snapshot_sent s own f.frame f.seat f.number) j) (sym e) (record {
          agrees = subst (λ (b : Option (List ℕ)). FrameAgrees b (name_at (set s.names f.frame None) own) (row_at (rows_paired s.rows own f.frame f.seat) own)) (sym own_bytes)
              (subst (λ (n : Option PageName). FrameAgrees (Some f.bytes) n (row_at (rows_paired s.rows own f.frame f.seat) own)) (sym own_named)
              (subst (λ (r : Row). FrameAgrees (Some f.bytes) (Some f.name) r) (sym at_own) agrees_own));
          listed = λ l. absurd (own_unlisted l);
          unnamed = λ h. absurd (own_unlisted (inl h));
          spare = λ b n. absurd (let z : None ≡ Some f.name = sym n ∙ own_named in cc);
        })
        | inr e ↦ subst (λ (j : ℕ). SoundAt (with_snapshot_sent s own f.frame f.seat f.number) j) (sym e) (record {
          agrees = subst (λ (b : Option (List ℕ)). FrameAgrees b (name_at (set s.names f.frame None) f.frame) (row_at (rows_paired s.rows own f.frame f.seat) f.frame)) (sym away_copied)
              (subst (λ (n : Option PageName). FrameAgrees None n (row_at (rows_paired s.rows own f.frame f.seat) f.frame)) (sym name_copied)
              (subst (λ (r : Row). FrameAgrees None None r) (sym at_copy) agrees_copy));
          listed = λ l. absurd (copy_unlisted l);
          unnamed = λ h. absurd (copy_unlisted (inl h));
          spare = λ b n. absurd (some-not (bytes_at (set s.frames f.frame None) f.frame) b away_copied);
        })
      ])

  out_copied : HasOut (with_snapshot_sent s own f.frame f.seat f.number) f.seat f.number f.frame f.writes f.name
  out_copied = record {
    bay = bay_copied;
    holder = ap (λ (r : Row). r.holder) at_copy;
    page = λ g. ap (name_at (set s.names f.frame None)) (own-other (with_snapshot_sent s own f.frame f.seat f.number) f.frame own source_copied) ∙ own_named;
    read = λ w. absurd (let z : true ≡ false = sym writes ∙ w in cc);
  }

  leaves_copied : (notes : Notes) (table : PlaceTable) → StoreFits s notes table → notes f.seat ≡ None → LivesAt (Push f.name) table f.number f.block f.valid
      → Leaves s (with_snapshot_sent s own f.frame f.seat f.number) notes table f.seat (note_of f)
  leaves_copied notes table fits idle lives = record {
    sound = sound;
    fits = fits;
    idle = idle;
    origin = refl;
    bay = there;
    left = bay_copied;
    bays = λ k ne. get_or-set_other s.bays f.number k (out f.seat) missing ne;
    was_home = taken-home s f.frame sound next;
    bytes = bytes_copied;
    holder = ap (λ (r : Row). r.holder) at_copy;
    rows = λ k ne. elim (cases_eq k own) [
      | inl e ↦ subst (λ (j : ℕ). SameOut (row_at s.rows j) (row_at (rows_paired s.rows own f.frame f.seat) j)) (sym e)
          (subst (λ (r : Row). SameOut (row_at s.rows own) r) (sym at_own) (record { holder = refl; page = inl (refl, refl) }))
      | inr far ↦ same-row (row_at s.rows k) (row_at (rows_paired s.rows own f.frame f.seat) k) (at_else k far ne)
    ];
    names = names_copied;
    single = taken-snapshot s f.frame sound next;
    mine = record {
      mine = refl;
      origin = origin;
      out = out_copied;
      away = away_copied;
      disk = lives.0;
      block = lives.1;
      read = λ w g. absurd (let z : true ≡ false = sym writes ∙ w in cc);
      whole = sound.whole f.number f.disk there;
      bytes = (sound.each own own_in).size f.bytes bytes;
    };
    cached = λ k h. let far : k ≢ f.frame = λ (q : k ≡ f.frame). taken-cached s f.frame sound next
        (subst (λ (j : ℕ). Contains (rest_cached s.free s.cached) j) q h) in ((rest-cached s.free s.cached f.frame next k far).0 h, far);
    unwritten = λ w k h e. own_unlisted (inr (subst (λ (j : ℕ). Contains (rest_cached s.free s.cached) j) (distinct_copied k own f.name e own_named) h));
  }

  far_name_own : (n : PageName) → n ≢ f.name → name_at s.names own ≡ Some n → ⊥
  far_name_own n ne h = let z : Some f.name ≡ Some n = sym own_name ∙ h in ne (let w : f.name ≡ n = cc in sym w)

  neither_before : (n : PageName) → n ≢ f.name → (name_at s.names f.frame ≡ Some n → ⊥) → (j : ℕ) → either own f.frame j ≡ true → name_at s.names j ≡ Some n → ⊥
  neither_before n ne before j t h = elim (either-is own f.frame j t) [
    | inl e ↦ far_name_own n ne (ap (name_at s.names) (sym e) ∙ h)
    | inr e ↦ before (ap (name_at s.names) (sym e) ∙ h)
  ]

  neither_after : (n : PageName) → n ≢ f.name → (j : ℕ) → either own f.frame j ≡ true → name_at (set s.names f.frame None) j ≡ Some n → ⊥
  neither_after n ne j t h = elim (either-is own f.frame j t) [
    | inl e ↦ let z : Some f.name ≡ Some n = sym own_named ∙ ap (name_at (set s.names f.frame None)) (sym e) ∙ h in ne (let w : f.name ≡ n = cc in sym w)
    | inr e ↦ let z : None ≡ Some n = sym name_copied ∙ ap (name_at (set s.names f.frame None)) (sym e) ∙ h in cc
  ]

  value_copied : (notes : Notes) (table : PlaceTable) (fits : StoreFits s notes table) (idle : notes f.seat ≡ None)
      (lives : LivesAt (Push f.name) table f.number f.block f.valid) (n : PageName) → IsTrue (tells s notes (table n).disk)
      → value (with_snapshot_sent s own f.frame f.seat f.number) (with_note notes f.seat (Some (note_of f))) table n ≡ after_taking (next_name s) n (table n) (value s notes table n)
  value_copied notes table fits idle lives n t =
      let same = backing_value-left s (with_snapshot_sent s own f.frame f.seat f.number) notes table f.seat (note_of f) (leaves_copied notes table fits idle lives) (table n) in
      elim (holds-or-not (name_at s.names f.frame) n) [
        | inl h ↦ rw (taken-lost s f.frame sound next None n (λ q. cc) h, next-own s f.frame sound next n h) (same ∙ taken-value s f.frame sound next notes table n fits h t)
        | inr before ↦ elim (is-or-not n f.name) [
          | inl e ↦
              let now : value (with_snapshot_sent s own f.frame f.seat f.number) (with_note notes f.seat (Some (note_of f))) table f.name ≡ f.bytes = rw (found_copied, own_bytes) refl in
              let was : value s notes table f.name ≡ f.bytes = rw (found, bytes) refl in
              ap (λ (m : PageName). value (with_snapshot_sent s own f.frame f.seat f.number) (with_note notes f.seat (Some (note_of f))) table m) e ∙ now
              ∙ sym was ∙ sym (ap (λ (m : PageName). value s notes table m) e)
          | inr ne ↦ value-elsewhere s (with_snapshot_sent s own f.frame f.seat f.number) (either own f.frame) distinct_copied elsewhere_copied notes
              (with_note notes f.seat (Some (note_of f))) table n
              (neither_before n ne before) (neither_after n ne) same (λ g u far h. notes-left s
              (with_snapshot_sent s own f.frame f.seat f.number) notes table f.seat (note_of f) (leaves_copied notes table fits idle lives) g u h)
        ] ∙ uncut (is_name (next_name s) n) (table n) (value s notes table n) (next-other s f.frame sound next n before)
      ]

  in_both : (k : ℕ) → is_touched_by (Push f.name) s k ≡ false → either own f.frame k ≡ false
  in_both k h = or-both (k == own) (k == f.frame)
      (eq-far k own (family-own s own k (family-of-own s (find s.names f.name) own k found (false-right (is_only (next_frame s) k) (family_of s (find s.names f.name) k) h))))
      (ap (λ (o : Option ℕ). is_only o k) (sym next) ∙ false-left (is_only (next_frame s) k) (family_of s (find s.names f.name) k) h)

  pub begins-copied : BeginsTransfer s (with_snapshot_sent s own f.frame f.seat f.number) (Push f.name) f.name f
  begins-copied = record {
    sound = sound_copied;
    out = record { origin = origin; out = out_copied };
    disks = λ k ne. get_or-set_other s.bays f.number k (out f.seat) missing ne;
    touches = touches s (with_snapshot_sent s own f.frame f.seat f.number) (is_touched_by (Push f.name) s) distinct_copied
        (elsewhere-then s (with_snapshot_sent s own f.frame f.seat f.number) (with_snapshot_sent s own f.frame f.seat f.number) (either own f.frame)
        (either own f.frame) (is_touched_by (Push f.name) s) (λ k h. (in_both k h, in_both k h)) elsewhere_copied
        (same-elsewhere (with_snapshot_sent s own f.frame f.seat f.number) (either own f.frame)));
    page =
        let now : residence (with_snapshot_sent s own f.frame f.seat f.number) f.name ≡ Home own = rw (found_copied, own_bytes) refl in
        let was : residence s f.name ≡ Home own = rw (found, bytes) refl in
        now ∙ sym was ∙ sym (ap (λ (o : Option ℕ). cond (is_some o) (residence s f.name) (Moving f.seat)) next);
    modified = λ k e.
        let q : own ≡ k = let z : Some own ≡ Some k = sym found ∙ e in cc in
        subst (λ (j : ℕ). (row_at (rows_paired s.rows own f.frame f.seat) j).modified ≡ (row_at s.rows j).modified) q (ap (λ (r : Row). r.modified) at_own);
    ungone = ap (λ (r : Row). r.gone) at_copy;
    unwritten = ap (λ (o : Option ℕ). is_rewritten_in o (with_snapshot_sent s own f.frame f.seat f.number)) source_copied ∙ ap (λ (r : Row). r.rewritten) at_own;
    own = λ k e. ap (λ (o : Option ℕ). unwrap_or o f.frame) source_copied ∙ (let z : Some own ≡ Some k = sym found ∙ e in cc);
    unlisted = copy_unlisted;
    lost = λ n h. ap (λ (o : Option ℕ). residence_in o (with_snapshot_sent s own f.frame f.seat f.number)) (taken-lost s f.frame sound next None n (λ q. cc) (sym (next-is s f.frame sound next) ∙ h));
    stay = λ n ne other. (touches s (with_snapshot_sent s own f.frame f.seat f.number) (either own f.frame) distinct_copied elsewhere_copied).residence n
        (neither_before n ne (λ h. other (next-is s f.frame sound next ∙ h))) (neither_after n ne);
    whole = sound.whole f.number f.disk there;
    size = (sound.each own own_in).size f.bytes bytes;
    values = λ notes table fits idle lives. record {
      fits = fits-left s (with_snapshot_sent s own f.frame f.seat f.number) notes table f.seat (note_of f) (leaves_copied notes table fits idle lives);
      alike = alike-left s (with_snapshot_sent s own f.frame f.seat f.number) notes table f.seat (note_of f) (leaves_copied notes table fits idle lives);
      values = value_copied notes table fits idle lives;
    };
  }

-- first an older snapshot of the page is gone, then the page is pushed
module _ (s : StoreSeen) (f : FlightSeen) (own : ℕ) (sound : IsSoundStore s) (found : find s.names f.name ≡ Some own) (unlisted : IsListedFrame s own → ⊥)
    (there : bay_at s.bays f.number ≡ home f.disk) (writes : f.writes ≡ true) (origin : f.origin ≡ s.origin) (bytes : bytes_at s.frames own ≡ Some f.bytes) where
  mid_source : (row_at (without_snapshot s own).rows own).source ≡ None
  mid_source = named-unsourced (bytes_at s.frames own) (name_at s.names own) (row_at (without_snapshot s own).rows own)
      ((forsakes s own sound).sound.each own (bytes-within s.frames own f.bytes bytes)) f.name (find-at s.names f.name own found)

  mid_family : (k : ℕ) → k ≢ own → family (without_snapshot s own) own k ≡ false
  mid_family k ne = or-both (k == own) (is_only (row_at (without_snapshot s own).rows own).snapshot k || is_only (row_at (without_snapshot s own).rows own).source k) (eq-far k own ne)
      (or-both (is_only (row_at (without_snapshot s own).rows own).snapshot k) (is_only (row_at (without_snapshot s own).rows own).source k)
      (ap (λ (o : Option ℕ). is_only o k) (forsakes s own sound).single) (ap (λ (o : Option ℕ). is_only o k) mid_source))

  family_push : (k : ℕ) → is_touched_by (Push f.name) s k ≡ false → family s own k ≡ false
  family_push k h = family-of-own s (find s.names f.name) own k found (false-right (is_only (next_frame s) k) (family_of s (find s.names f.name) k) h)

  touched_mid : (k : ℕ) → is_touched_by (Push f.name) s k ≡ false → is_touched_by (Push f.name) (without_snapshot s own) k ≡ false
  touched_mid k h = or-both (is_only (next_frame s) k) (family_of (without_snapshot s own) (find s.names f.name) k)
      (false-left (is_only (next_frame s) k) (family_of s (find s.names f.name) k) h)
      (subst (λ (o : Option ℕ). family_of (without_snapshot s own) o k ≡ false) (sym found) (mid_family k (family-own s own k (family_push k h))))

  after_forsaken : (new : StoreSeen) → BeginsTransfer (without_snapshot s own) new (Push f.name) f.name f → BeginsTransfer s new (Push f.name) f.name f
  after_forsaken new b =
      let mid = forsakes s own sound in
      let same = residence-rows s (without_snapshot s own).rows s.free s.cached s.clock mid.rows in
      record {
        sound = b.sound;
        out = b.out;
        disks = b.disks;
        touches = touches s new (is_touched_by (Push f.name) s) b.sound.distinct
            (elsewhere-then s (without_snapshot s own) new (family s own) (is_touched_by (Push f.name) (without_snapshot s own))
            (is_touched_by (Push f.name) s) (λ k h. (family_push k h, touched_mid k h))
            mid.elsewhere (of-touches (without_snapshot s own) new (is_touched_by (Push f.name) (without_snapshot s own)) b.touches));
        page = b.page ∙ ap (λ (r : Residence). cond (is_some (next_frame s)) r (Moving f.seat)) (same f.name);
        modified = λ k e.
            let q : own ≡ k = let z : Some own ≡ Some k = sym found ∙ e in cc in
            b.modified k e ∙ subst (λ (j : ℕ). (row_at (without_snapshot s own).rows j).modified ≡ (row_at s.rows j).modified) q mid.modified;
        ungone = b.ungone;
        unwritten = b.unwritten;
        own = b.own;
        unlisted = b.unlisted;
        lost = b.lost;
        stay = λ n ne other. b.stay n ne other ∙ same n;
        whole = b.whole;
        size = b.size;
        values = λ notes table fits idle lives.
            let first = mid.values notes table fits in
            let second = b.values notes table first.fits idle lives in
            record {
              fits = second.fits;
              alike = λ number. second.alike number ∙ first.alike number;
              values = λ n t. second.values n (first.alike (table n).disk ∙ t) ∙ ap (λ (v : List ℕ). after_taking (next_name s) n (table n) v) (first.values n t);
            };
      }

  pub begins-push : (next : Option ℕ) → next_frame s ≡ next → option_or next (Some own) ≡ Some f.frame
      → BeginsTransfer s (with_push_begun (without_snapshot s own) own next f.seat f.number) (Push f.name) f.name f
  begins-push None e q =
      let mid = forsakes s own sound in
      let same : own ≡ f.frame = let z : Some own ≡ Some f.frame = q in cc in
      after_forsaken (with_page_sent (without_snapshot s own) own f.seat f.number)
      (subst (λ (k : ℕ). BeginsTransfer (without_snapshot s own) (with_page_sent (without_snapshot s own) k f.seat f.number) (Push f.name) f.name f) (sym same)
      (begins-sent (without_snapshot s own) f mid.sound e (found ∙ ap (λ (k : ℕ). Some k) same) (λ l. unlisted (subst (λ (k : ℕ). IsListedFrame s k) (sym same) l))
      (ap (λ (k : ℕ). (row_at (without_snapshot s own).rows k).snapshot) (sym same) ∙ mid.single) there writes origin (ap (bytes_at s.frames) (sym same) ∙ bytes)))
  begins-push (Some frame) e q =
      let mid = forsakes s own sound in
      let same : frame ≡ f.frame = let z : Some frame ≡ Some f.frame = q in cc in
      after_forsaken (with_snapshot_sent (without_snapshot s own) own frame f.seat f.number)
      (subst (λ (k : ℕ). BeginsTransfer (without_snapshot s own) (with_snapshot_sent (without_snapshot s own) own k f.seat f.number) (Push f.name) f.name f) (sym same)
      (begins-copied (without_snapshot s own) f own mid.sound (e ∙ ap (λ (k : ℕ). Some k) same) found unlisted mid.single there writes origin bytes))

-- what the parts make of the store
rest_none : (free cached : List ℕ) → first_listed free cached ≡ None → (rest_free free ≡ free) × (rest_cached free cached ≡ cached)
rest_none [] [] h = (refl, refl)
rest_none [] (x ∷ xs) h = absurd (cc)
rest_none (x ∷ xs) cached h = absurd (cc)

pushed_so : (core : CoreSeen) (names : List (Option PageName)) (lists : ListsSeen) (rows : List Row) (clock : ClockSeen) (bays : List BaySeen) (order : List ℕ)
    (own frame seat number : ℕ) (next : Option ℕ)
    → first_listed lists.free lists.cached ≡ next → option_or next (Some own) ≡ Some frame
    → store_of (record core { frames = set core.frames frame None }) (names_taken next names)
    (record lists { free = rest_free lists.free; cached = rest_cached lists.free lists.cached }) (rows_pushed next rows own seat) clock (set bays number (out seat)) order
    ≡ with_push_begun (store_of core names lists rows clock bays order) own next seat number
pushed_so core names lists rows clock bays order own frame seat number None e q =
    let same : own ≡ frame = let z : Some own ≡ Some frame = q in cc in
    let r = rest_none lists.free lists.cached e in
    ap (λ (l : List ℕ). store_of (record core { frames = set core.frames frame None }) names
    (record lists { free = l; cached = rest_cached lists.free lists.cached }) (set rows own (record (row_at rows own) { holder = Some seat })) clock (set bays number (out seat)) order) r.0
    ∙ ap (λ (l : List ℕ). store_of (record core { frames = set core.frames frame None }) names (record lists { cached = l })
    (set rows own (record (row_at rows own) { holder = Some seat })) clock (set bays number (out seat)) order) r.1
    ∙ ap (λ (k : ℕ). store_of (record core { frames = set core.frames k None }) names lists
    (set rows own (record (row_at rows own) { holder = Some seat })) clock (set bays number (out seat)) order) (sym same)
pushed_so core names lists rows clock bays order own frame seat number (Some taken) e q =
    let same : taken ≡ frame = let z : Some taken ≡ Some frame = q in cc in
    ap (λ (k : ℕ). store_of (record core { frames = set core.frames k None }) (set names taken None)
    (record lists { free = rest_free lists.free; cached = rest_cached lists.free lists.cached }) (rows_paired rows own taken seat) clock (set bays number (out seat)) order) (sym same)

pub pushed-parts : (core core' : CoreSeen) (names names' : List (Option PageName)) (lists lists' : ListsSeen) (rows mid rows' : List Row) (clock : ClockSeen)
    (bays bays' : List BaySeen) (order : List ℕ) (own frame seat number : ℕ)
    → option_or (first_listed lists.free lists.cached) (Some own) ≡ Some frame
    → mid ≡ rows_forsaken rows own
    → core' ≡ record core { frames = set core.frames frame None } → names' ≡ names_taken (first_listed lists.free lists.cached) names
    → lists' ≡ record lists { free = rest_free lists.free; cached = rest_cached lists.free lists.cached }
    → rows' ≡ rows_pushed (first_listed lists.free lists.cached) mid own seat → bays' ≡ set bays number (out seat)
    → store_of core' names' lists' rows' clock bays' order ≡ with_push_begun (without_snapshot (store_of core names lists rows clock bays order) own) own
    (first_listed lists.free lists.cached) seat number
pushed-parts core core' names names' lists lists' rows mid rows' clock bays bays' order own frame seat number q m a b c d e =
    rw (a, b, c, d, e, m) (pushed_so core names lists (rows_forsaken rows own) clock bays order own frame seat number (first_listed lists.free lists.cached) refl q)

-- the frame that is taken next is another one than that of a page on no list, and both are there
pub taken-others : (s : StoreSeen) (own at : ℕ) → IsSoundStore s → (IsListedFrame s own → ⊥) → next_frame s ≡ Some at
    → (IsSome (bytes_at s.frames at)) × (own ≢ at) × (at < length s.names) × (at < length s.rows)
taken-others s own at sound unlisted next =
    (taken-home s at sound next, (λ q. unlisted (subst (λ (k : ℕ). IsListedFrame s k) (sym q) (first-listed s.free s.cached at next))), taken-name s at sound next, taken-row s at sound next)

-- the frame that goes out is one of the frames
pub out-within : (s : StoreSeen) (own frame : ℕ) (next : Option ℕ) → IsSoundStore s → next_frame s ≡ next → option_or next (Some own) ≡ Some frame → own < length s.frames → frame < length s.frames
out-within s own frame None sound e q lt = let same : own ≡ frame = let z : Some own ≡ Some frame = q in cc in subst (λ (k : ℕ). k < length s.frames) same lt
out-within s own frame (Some taken) sound e q lt = let same : taken ≡ frame = let z : Some taken ≡ Some frame = q in cc in subst (λ (k : ℕ). k < length s.frames) same (taken-within s taken sound e)
