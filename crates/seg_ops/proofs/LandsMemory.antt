-- A FLIGHT COMES BACK: memory fits then, by what its note says.
use Rattle.page_store.proofs.QueryLemmas.{home-some as home-filled}
use Rattle.std.proofs.Common.{◌≡◌, ◌≢◌, ℕ, true, false, List, length, Option, Some, None, refl, sym, ap, ◌∙◌, inl, inr, subst}
use Rattle.std.specs.Prelude.{IsSome, not, unwrap_or}
use Rattle.std.specs.Ordering.{nat_cmp}
use Rattle.std.specs.FinMap as finite
use Rattle.std.proofs.lemmas.Bool.{cases_eq, cases_Bool}
use Rattle.page_store.specs.block_device.DiskSeen.{DiskSeen}
use Rattle.page_store.specs.page_hash.Names.{name_at}
use Rattle.page_store.specs.page_hash.declared.PageName.{PageName}
use Rattle.page_store.specs.page_lock.Rows.{row_at}
use Rattle.page_store.specs.Bays.{BaySeen, missing, home, out, bay_at}
use Rattle.page_store.specs.Flight.{FlightSeen, IsPerformed}
use Rattle.page_store.specs.Notes.{Note, Notes}
use Rattle.page_store.specs.Seen.{StoreSeen, IsListedFrame, own_frame}
use Rattle.vm_world.specs.hat_layer.declared.translation.Translation.{Translation}
use Rattle.vm_world.specs.FramesFit.{DisksFit, HasSize}
use Rattle.vm_world.specs.MemoryFits.{MemoryFits}
use Rattle.vm_world.specs.NotesFit.{NotesFit}
use Rattle.vm_world.specs.Segments.{Spaces}
use Rattle.vm_world.specs.TranslationsFit.{IsModified}
use Rattle.vm_world.specs.World.{World, world_table, slot_name}
use Rattle.vm_world.proofs.FrameRule.{exists-page}
use Rattle.seg_ops.proofs.Fills.{blank-is}
use Rattle.seg_ops.proofs.Lands.{Lands, was-named, home-aside, home-stays, own-or-aside}
use Rattle.seg_ops.proofs.Places.{index-set}
use Rattle.seg_ops.proofs.StillSteps.{with_tables, memory_of}

-- What is known of a flight: it was performed for the note of its seat.
pub record Noted (w : World) (f : FlightSeen) (notes : Notes) (note : Note) : Type 0 where
  pub fit : NotesFit w notes
  pub mine : notes f.seat ≡ Some note
  pub performed : IsPerformed note f

-- the page of a flight, where it isn't gone, is the note's, and counts as pushed
pub ungone-note : (w : World) (f : FlightSeen) (notes : Notes) (note : Note) → Noted w f notes note → (row_at w.store.rows f.frame).gone ≡ false → (row_at w.store.rows note.frame).gone ≡ false
ungone-note w f notes note k live = ap (λ (i : ℕ). (row_at w.store.rows i).gone) (sym k.performed.frame) ∙ live

pub page-pushed : (w : World) (f : FlightSeen) (notes : Notes) (note : Note) → Noted w f notes note → (row_at w.store.rows f.frame).gone ≡ false → (world_table w note.name).blank ≡ false
page-pushed w f notes note k live =
    let at = ungone-note w f notes note k live in
    elim (cases_Bool note.writes) [
      | inl writes ↦ (k.fit.pushes f.seat note k.mine writes (λ gone. let z : true ≡ false = sym gone ∙ at in cc)).pushed
      | inr reads ↦ ((k.fit.stored.each_note f.seat note k.mine).read reads at).1
    ]

pub page-named : (w : World) (new : StoreSeen) (f : FlightSeen) (notes : Notes) (note : Note) (n : PageName) → Lands w.store new f → Noted w f notes note → (row_at w.store.rows f.frame).gone ≡ false
    → name_at w.store.names (own_frame w.store f.frame) ≡ Some n → n ≡ note.name
page-named w new f notes note n c k live h = (let z : Some n ≡ Some f.name = sym h ∙ c.out.out.page live in cc) ∙ k.performed.name

pub modified-aside : (old new : StoreSeen) (f : FlightSeen) (places : List (Option Translation)) (j : ℕ) → Lands old new f → j ≢ f.frame → j ≢ own_frame old f.frame → IsModified old places j → IsModified new places j
modified-aside old new f places j c far apart m = elim m [ inl r ↦ inl ((c.aside j far).modified apart ∙ r) | inr x ↦ inr x ]

-- a listed frame is none whose page has a snapshot
listed-apart : (old new : StoreSeen) (f : FlightSeen) (j : ℕ) → Lands old new f → j ≢ f.frame → IsListedFrame old j → j ≢ own_frame old f.frame
listed-apart old new f j c far l e = by_source (row_at old.rows f.frame).source refl e
  where
    by_source : (o : Option ℕ) → (row_at old.rows f.frame).source ≡ o → j ≡ unwrap_or o f.frame → ⊥
    by_source None is same = far same
    by_source (Some own) is same = c.sound.paired.unlisted own f.frame (c.sound.paired.snapshot own f.frame is) (subst (λ (i : ℕ). IsListedFrame old i) same l)

disks-land : (old new : StoreSeen) (f : FlightSeen) (disks : finite.FinMap nat_cmp ℕ) (slots : ℕ) → Lands old new f → HasSize disks slots f.number f.disk.size → DisksFit old.bays disks slots → DisksFit new.bays disks slots
disks-land old new f disks slots c size fit = subst (λ (b : List BaySeen). DisksFit b disks slots) (sym c.frame.bays) (record {
  numbers = fit.numbers;
  there = λ number blocks is. elim (index-set old.bays f.number (home f.disk) number missing) [
    | inl same ↦ λ e. fit.there number blocks is (sym same ∙ e)
    | inr at ↦ λ e. let z : home f.disk ≡ missing = sym at.1 ∙ e in cc
  ];
  set = λ number low there. fit.set number low (λ e. elim (index-set old.bays f.number (home f.disk) number missing) [
    | inl same ↦ there (same ∙ e)
    | inr at ↦ let z : out f.seat ≡ missing = sym c.out.out.bay ∙ ap (bay_at old.bays) (sym at.0) ∙ e in cc
  ]);
  swap = λ some. elim (index-set old.bays f.number (home f.disk) 8 missing) [
    | inl same ↦ λ e. fit.swap some (sym same ∙ e)
    | inr at ↦ λ e. let z : home f.disk ≡ missing = sym at.1 ∙ e in cc
  ];
  unused = λ none. elim (index-set old.bays f.number (home f.disk) 8 missing) [
    | inl same ↦ same ∙ fit.unused none
    | inr at ↦ absurd (let z : out f.seat ≡ missing = sym c.out.out.bay ∙ ap (bay_at old.bays) (sym at.0) ∙ fit.unused none in cc)
  ];
  sizes = λ number d is. elim (index-set old.bays f.number (home f.disk) number missing) [
    | inl same ↦ fit.sizes number d (sym same ∙ is)
    | inr at ↦
        let e : f.disk ≡ d = let z : home f.disk ≡ home d = sym at.1 ∙ is in cc in
        subst (λ (x : DiskSeen). HasSize disks slots number x.size) e (subst (λ (n : ℕ). HasSize disks slots n f.disk.size) (sym at.0) size)
  ];
})

-- the note's disk has its size, and so has the flight's
size-noted : (w : World) (f : FlightSeen) (notes : Notes) (note : Note) → Noted w f notes note → HasSize w.files.disks (length w.anon.counts) f.number f.disk.size
size-noted w f notes note k =
    subst (λ (n : ℕ). HasSize w.files.disks (length w.anon.counts) n f.disk.size) (sym k.performed.number)
    (subst (λ (n : ℕ). HasSize w.files.disks (length w.anon.counts) note.number n) (sym k.performed.size) (k.fit.sizes f.seat note k.mine))

-- MEMORY.
pub lands-memory : (w : World) (spaces : Spaces) (new : StoreSeen) (f : FlightSeen) (notes : Notes) (note : Note) → MemoryFits (memory_of w spaces) → Lands w.store new f → Noted w f notes note → MemoryFits (memory_of (with_tables w new w.hat) spaces)
lands-memory w spaces new f notes note fits c k = record {
  frames = record {
    sound = c.laws.sound;
    unkept = λ j. elim (cases_eq j f.frame) [
      | inl e ↦ ap (λ (i : ℕ). (row_at new.rows i).keeps) e ∙ c.frame.keeps (fits.frames.unkept f.frame)
      | inr ne ↦ (c.aside j ne).row.keeps ∙ fits.frames.unkept j
    ];
    unmodified = λ j listed. elim (cases_eq j f.frame) [
      | inl e ↦ ap (λ (i : ℕ). (row_at new.rows i).modified) e ∙ c.frame.unmodified (subst (λ (i : ℕ). IsListedFrame new i) e listed)
      | inr ne ↦
          let was = (c.aside j ne).listed listed in
          (c.aside j ne).modified (listed-apart w.store new f j c ne was) ∙ fits.frames.unmodified j was
    ];
    exist = λ j n h. fits.frames.exist j n (was-named w.store new f j n c h);
  };
  files = fits.files;
  disks = disks-land w.store new f w.files.disks (length w.anon.counts) c (size-noted w f notes note k) fits.disks;
  pool = record { leads = fits.pool.leads ∙ sym c.laws.touches.frames; single = fits.pool.single };
  translations = λ i t is.
      let l = fits.translations i t is in
      let far = home-aside w.store new f t.frame c (home-filled w.store l.name t.frame l.home) in
      record {
        spot = l.spot;
        here = l.here;
        name = l.name;
        shows = l.shows;
        home = home-stays w.store new f l.name t.frame c l.home;
        unlisted = λ h. l.unlisted ((c.aside t.frame far).listed h);
        allowed = l.allowed;
        writable = l.writable;
      };
  unpushed = λ j slot h unpushed there.
      let was = was-named w.store new f j (slot_name slot) c h in
      elim (own-or-aside w.store new f j (slot_name slot) c h) [
        | inl own ↦ absurd (
            let name = page-named w new f notes note (slot_name slot) c k own.1 (ap (name_at w.store.names) (sym own.0) ∙ was) in
            let real = exists-page w (slot_name slot) fits.files (fits.frames.exist j (slot_name slot) was) in
            let z : false ≡ true = sym (ap (λ (n : PageName). (world_table w n).blank) name ∙ page-pushed w f notes note k own.1) ∙ blank-is w (slot_name slot) fits.files real ∙ ap not unpushed in cc)
        | inr far ↦ modified-aside w.store new f w.hat.places j c far.0 far.1 (fits.unpushed j slot was unpushed (subst (λ (b : Option (List ℕ)). IsSome b) (c.aside j far.0).bytes there))
      ];
  counts = fits.counts;
  segments = fits.segments;
}
