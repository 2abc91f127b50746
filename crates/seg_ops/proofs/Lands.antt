-- WHAT COMES BACK with a flight, of a read and of a push alike: a frame and a disk.
use Rattle.std.proofs.Common.{◌≡◌, ◌≢◌, ℕ, ◌<◌, ◌==◌, Bool, true, false, List, length, Option, Some, None, refl, sym, ap, ◌∙◌, ◌⊎◌, inl, inr, subst, arith, slice_set, get_or-set_same}
use Rattle.std.specs.Prelude.{IsSome, ◌||◌}
use Rattle.std.proofs.lemmas.Bool.{cases_eq, cases_Bool, or_from as or-both}
use Rattle.page_store.specs.block_device.DiskSeen.{HasBlocks}
use Rattle.page_store.specs.core_arena.Bytes.{bytes_at}
use Rattle.page_store.specs.page_hash.Names.{name_at}
use Rattle.page_store.specs.page_hash.declared.PageName.{PageName}
use Rattle.page_store.proofs.page_hash.NameLaws.{find-at}
use Rattle.page_store.specs.page_lock.Rows.{row_at, clear_row}
use Rattle.page_store.specs.page_lock.declared.Row.{Row}
use Rattle.page_store.specs.Bays.{home, out, bay_at}
use Rattle.page_store.specs.Flight.{FlightSeen}
use Rattle.page_store.specs.Out.{IsFlightOf}
use Rattle.page_store.specs.Parts.{rows_parted, rows_settled}
use Rattle.page_store.specs.Seen.{StoreSeen, IsSoundStore, IsListedFrame, own_frame, residence}
use Rattle.page_store.specs.Steps.{with_flight_landed, with_pair_parted, after_end, landed_row, is_lost, is_dirty}
use Rattle.page_store.specs.Transfers.{EndsTransfer}
use Rattle.page_store.specs.declared.residence.Residence.TheVariants.{Home}
use Rattle.page_store.proofs.Agree.{own-other, own-self}
use Rattle.page_store.proofs.Elsewhere.{OneFrame}
use Rattle.page_store.proofs.EndLemmas.{landed-within, landed-unlisted, one-landed}
use Rattle.page_store.proofs.FrameLaws.{agrees-at, away-snapshot, eq-far, gone-unnamed, held-away, named-unsourced}
use Rattle.page_store.proofs.Links.{parted-own-row, parted-copy-row, elsewhere-parted, sound-parted}
use Rattle.page_store.proofs.QueryLemmas.{held-within, home-is, residence-home, home-some as home-filled}
use Rattle.seg_ops.proofs.StillSteps.{KeepsRow, same-row}

-- A frame that isn't the flight's keeps its bytes, its name and its row, but that the page of a snapshot has no snapshot then, and another modified bit.
pub record KeepsAside (old new : StoreSeen) (f : FlightSeen) (k : ℕ) : Type 0 where
  pub bytes : bytes_at new.frames k ≡ bytes_at old.frames k
  pub name : name_at new.names k ≡ name_at old.names k
  pub row : KeepsRow (row_at old.rows k) (row_at new.rows k)
  pub modified : k ≢ own_frame old f.frame → (row_at new.rows k).modified ≡ (row_at old.rows k).modified
  pub listed : IsListedFrame new k → IsListedFrame old k

-- The core and the order of the disks stay, and the flight's disk is home. Its frame has its name again, or none; where it is listed it isn't modified.
pub record FrameLands (old new : StoreSeen) (f : FlightSeen) : Type 0 where
  pub origin : new.origin ≡ old.origin
  pub order : new.order ≡ old.order
  pub bays : new.bays ≡ slice_set old.bays f.number (home f.disk)
  pub keeps : (row_at old.rows f.frame).keeps ≡ 0 → (row_at new.rows f.frame).keeps ≡ 0
  pub unmodified : IsListedFrame new f.frame → (row_at new.rows f.frame).modified ≡ false
  pub named : (n : PageName) → name_at new.names f.frame ≡ Some n → name_at old.names f.frame ≡ Some n

-- A flight comes back: its frame and its disk were out, and are home.
pub record Lands (old new : StoreSeen) (f : FlightSeen) : Type 0 where
  pub sound : IsSoundStore old
  pub out : IsFlightOf old f
  pub laws : EndsTransfer old new f
  pub away : bytes_at old.frames f.frame ≡ None
  pub single : (row_at old.rows f.frame).snapshot ≡ None
  pub frame : FrameLands old new f
  pub aside : (k : ℕ) → k ≢ f.frame → KeepsAside old new f k

-- a frame that a seat holds without a source, whatever becomes of its page
module _ (s : StoreSeen) (f : FlightSeen) (sound : IsSoundStore s) (held : (row_at s.rows f.frame).holder ≡ Some f.seat) (bay : bay_at s.bays f.number ≡ out f.seat) (unsourced : (row_at s.rows f.frame).source ≡ None)
    (whole : HasBlocks f.disk.content f.disk.size) (size : length f.bytes ≡ 4096) where
  row_in : f.frame < length s.rows
  row_in = held-within s.rows f.frame f.seat held

  name_in : f.frame < length s.names
  name_in = let a = landed-within s f sound held bay unsourced whole size in let b = sound.names in omega (arith, a, b)

  frame-lands : (lost : Bool) → FrameLands s (with_flight_landed s f lost) f
  frame-lands false = record {
    origin = refl;
    order = refl;
    bays = refl;
    keeps = λ e. ap (λ (r : Row). r.keeps) (get_or-set_same s.rows f.frame (landed_row (row_at s.rows f.frame) (is_dirty f.outcome)) clear_row row_in) ∙ e;
    unmodified = λ l. absurd (landed-unlisted s f sound held bay unsourced whole size l);
    named = λ n h. h;
  }
  frame-lands true = record {
    origin = refl;
    order = refl;
    bays = refl;
    keeps = λ e. ap (λ (r : Row). r.keeps) (get_or-set_same s.rows f.frame clear_row clear_row row_in);
    unmodified = λ l. ap (λ (r : Row). r.modified) (get_or-set_same s.rows f.frame clear_row clear_row row_in);
    named = λ n h. absurd (let z : None ≡ Some n = sym (get_or-set_same s.names f.frame None None name_in) ∙ h in cc);
  }

  one-lands : (lost : Bool) → OneFrame s (with_flight_landed s f lost) f.frame
  one-lands lost = one-landed s f sound held bay unsourced whole size lost

listed-one : (old new : StoreSeen) (frame k : ℕ) → OneFrame old new frame → k ≢ frame → IsListedFrame new k → IsListedFrame old k
listed-one old new frame k one ne l = elim l [ inl h ↦ inl ((one.free k ne).0 h) | inr h ↦ inr ((one.cached k ne).0 h) ]

-- the flight's frame is away, under its seat
away-is : (s : StoreSeen) (f : FlightSeen) → IsSoundStore s → IsFlightOf s f → bytes_at s.frames f.frame ≡ None
away-is s f sound is = held-away (bytes_at s.frames f.frame) (name_at s.names f.frame) (row_at s.rows f.frame) (agrees-at s sound f.frame (held-within s.rows f.frame f.seat is.out.holder)) f.seat is.out.holder

-- the page's own frame comes back
lands-own : (s : StoreSeen) (f : FlightSeen) (lost : Bool) → IsSoundStore s → IsFlightOf s f → HasBlocks f.disk.content f.disk.size → length f.bytes ≡ 4096 → (row_at s.rows f.frame).source ≡ None
    → EndsTransfer s (with_flight_landed s f lost) f → Lands s (with_flight_landed s f lost) f
lands-own s f lost sound is whole size unsourced laws =
    let one = one-lands s f sound is.out.holder is.out.bay unsourced whole size lost in
    record {
      sound = sound;
      out = is;
      laws = laws;
      away = away-is s f sound is;
      single = away-snapshot s sound f.frame (away-is s f sound is);
      frame = frame-lands s f sound is.out.holder is.out.bay unsourced whole size lost;
      aside = λ k ne. record {
        bytes = one.bytes k ne;
        name = one.names k ne;
        row = same-row (row_at s.rows k) (row_at (with_flight_landed s f lost).rows k) (one.rows k ne);
        modified = λ far. ap (λ (r : Row). r.modified) (one.rows k ne);
        listed = listed-one s (with_flight_landed s f lost) f.frame k one ne;
      };
    }

-- a snapshot comes back: first it parts from its page
module _ (s : StoreSeen) (own copy : ℕ) (bit : Bool) (sound : IsSoundStore s) (source : (row_at s.rows copy).source ≡ Some own) where
  row_else : (k : ℕ) → k ≢ own → k ≢ copy → row_at (rows_parted s.rows own copy bit) k ≡ row_at s.rows k
  row_else k ne far = (elsewhere-parted s own copy bit sound source).rows k (or-both (k == own) (k == copy) (eq-far k own ne) (eq-far k copy far))

  row_keeps : (k : ℕ) → k ≢ copy → KeepsRow (row_at s.rows k) (row_at (rows_parted s.rows own copy bit) k)
  row_keeps k far = elim (cases_eq k own) [
    | inl e ↦ subst (λ (j : ℕ). KeepsRow (row_at s.rows j) (row_at (rows_parted s.rows own copy bit) j)) (sym e)
        (subst (λ (r : Row). KeepsRow (row_at s.rows own) r) (sym (parted-own-row s own copy bit sound source)) (record { keeps = refl; gone = refl; source = refl; rewritten = λ h. h }))
    | inr ne ↦ same-row (row_at s.rows k) (row_at (rows_parted s.rows own copy bit) k) (row_else k ne far)
  ]

lands-copy : (s : StoreSeen) (f : FlightSeen) (lost bit : Bool) (own : ℕ) → IsSoundStore s → IsFlightOf s f → HasBlocks f.disk.content f.disk.size → length f.bytes ≡ 4096 → (row_at s.rows f.frame).source ≡ Some own
    → EndsTransfer s (with_flight_landed (with_pair_parted s own f.frame bit) f lost) f → Lands s (with_flight_landed (with_pair_parted s own f.frame bit) f lost) f
lands-copy s f lost bit own sound is whole size source laws =
    let mid : StoreSeen = with_pair_parted s own f.frame bit in
    let row : row_at mid.rows f.frame ≡ record (row_at s.rows f.frame) { source = None; gone = true } = parted-copy-row s own f.frame bit sound source in
    let parted = sound-parted s own f.frame bit sound source in
    let holder : (row_at mid.rows f.frame).holder ≡ Some f.seat = ap (λ (r : Row). r.holder) row ∙ is.out.holder in
    let unsourced : (row_at mid.rows f.frame).source ≡ None = ap (λ (r : Row). r.source) row in
    let one = one-lands mid f parted holder is.out.bay unsourced whole size lost in
    let frame = frame-lands mid f parted holder is.out.bay unsourced whole size lost in
    record {
      sound = sound;
      out = is;
      laws = laws;
      away = away-is s f sound is;
      single = away-snapshot s sound f.frame (away-is s f sound is);
      frame = record {
        origin = frame.origin;
        order = frame.order;
        bays = frame.bays;
        keeps = λ e. frame.keeps (ap (λ (r : Row). r.keeps) row ∙ e);
        unmodified = frame.unmodified;
        named = frame.named;
      };
      aside = λ k ne. record {
        bytes = one.bytes k ne;
        name = one.names k ne;
        row = subst (λ (r : Row). KeepsRow (row_at s.rows k) r) (sym (one.rows k ne)) (row_keeps s own f.frame bit sound source k ne);
        modified = λ far. ap (λ (r : Row). r.modified) (one.rows k ne ∙ row_else s own f.frame bit sound source k (λ e. far (e ∙ sym (own-other s f.frame own source))) ne);
        listed = λ l. listed-one mid (with_flight_landed mid f lost) f.frame k one ne l;
      };
    }

lands-by : (s : StoreSeen) (f : FlightSeen) (o : Option ℕ) → IsSoundStore s → IsFlightOf s f → HasBlocks f.disk.content f.disk.size → length f.bytes ≡ 4096 → (row_at s.rows f.frame).source ≡ o
    → EndsTransfer s (with_flight_landed (record s { rows = rows_settled o s.rows f.frame (is_dirty f.outcome) }) f (is_lost f.writes f.outcome (row_at (rows_settled o s.rows f.frame (is_dirty f.outcome)) f.frame).gone)) f
    → Lands s (with_flight_landed (record s { rows = rows_settled o s.rows f.frame (is_dirty f.outcome) }) f (is_lost f.writes f.outcome (row_at (rows_settled o s.rows f.frame (is_dirty f.outcome)) f.frame).gone)) f
lands-by s f None sound is whole size e laws = lands-own s f (is_lost f.writes f.outcome (row_at s.rows f.frame).gone) sound is whole size e laws
lands-by s f (Some own) sound is whole size e laws =
    let bit : Bool = is_dirty f.outcome || (row_at s.rows own).rewritten in
    lands-copy s f (is_lost f.writes f.outcome (row_at (rows_parted s.rows own f.frame bit) f.frame).gone) bit own sound is whole size e laws

-- BY THE STORE'S CALL.
pub lands : (s new : StoreSeen) (f : FlightSeen) → IsSoundStore s → IsFlightOf s f → HasBlocks f.disk.content f.disk.size → length f.bytes ≡ 4096 → new ≡ after_end s f → EndsTransfer s new f → Lands s new f
lands s new f sound is whole size step laws =
    subst (λ (x : StoreSeen). Lands s x f) (sym step) (lands-by s f (row_at s.rows f.frame).source sound is whole size refl (subst (λ (x : StoreSeen). EndsTransfer s x f) step laws))

-- WHERE NAMES ARE THEN: a frame holds no name that it didn't hold.
pub was-named : (old new : StoreSeen) (f : FlightSeen) (j : ℕ) (n : PageName) → Lands old new f → name_at new.names j ≡ Some n → name_at old.names j ≡ Some n
was-named old new f j n c h = elim (cases_eq j f.frame) [
  | inl e ↦ ap (name_at old.names) e ∙ c.frame.named n (ap (name_at new.names) (sym e) ∙ h)
  | inr ne ↦ sym (c.aside j ne).name ∙ h
]

-- a page that is home is so in another frame than the flight's, and stays there
pub home-aside : (old new : StoreSeen) (f : FlightSeen) (g : ℕ) → Lands old new f → IsSome (bytes_at old.frames g) → g ≢ f.frame
home-aside old new f g c there e = by_bytes (bytes_at old.frames g) (ap (bytes_at old.frames) e ∙ c.away) there
  where
    by_bytes : (b : Option (List ℕ)) → b ≡ None → IsSome b → ⊥
    by_bytes None e h = let z : false ≡ true = h in cc
    by_bytes (Some x) e h = absurd (cc)

pub home-stays : (old new : StoreSeen) (f : FlightSeen) (n : PageName) (g : ℕ) → Lands old new f → residence old n ≡ Home g → residence new n ≡ Home g
home-stays old new f n g c at =
    let there = home-filled old n g at in
    let k = c.aside g (home-aside old new f g c there) in
    residence-home new n g c.laws.sound.distinct (k.name ∙ find-at old.names n g (home-is old n g at).found) (subst (λ (b : Option (List ℕ)). IsSome b) (sym k.bytes) there)

-- a frame that is named then is the own frame of the flight's page, which isn't gone, or none of the flight's
pub own-or-aside : (old new : StoreSeen) (f : FlightSeen) (j : ℕ) (n : PageName) → Lands old new f → name_at new.names j ≡ Some n
    → ((j ≡ own_frame old f.frame) × ((row_at old.rows f.frame).gone ≡ false)) ⊎ ((j ≢ f.frame) × (j ≢ own_frame old f.frame))
own-or-aside old new f j n c h =
    let was = was-named old new f j n c h in
    let agrees = agrees-at old c.sound f.frame (held-within old.rows f.frame f.seat c.out.out.holder) in
    let own : (row_at old.rows f.frame).source ≡ None → own_frame old f.frame ≡ f.frame = own-self old f.frame in
    elim (cases_eq j (own_frame old f.frame)) [
      | inl e ↦ elim (cases_Bool (row_at old.rows f.frame).gone) [
        | inr live ↦ inl (e, live)
        | inl gone ↦
            let at : name_at old.names f.frame ≡ Some n = ap (name_at old.names) (sym (e ∙ own (agrees.torn gone))) ∙ was in
            absurd (let z : None ≡ Some n = sym (gone-unnamed (bytes_at old.frames f.frame) (name_at old.names f.frame) (row_at old.rows f.frame) agrees gone).1 ∙ at in cc)
      ]
      | inr far ↦ inr (
        λ e.
            let at : name_at old.names f.frame ≡ Some n = ap (name_at old.names) (sym e) ∙ was in
            far (e ∙ sym (own (named-unsourced (bytes_at old.frames f.frame) (name_at old.names f.frame) (row_at old.rows f.frame) agrees n at))),
        far,
      )
    ]
