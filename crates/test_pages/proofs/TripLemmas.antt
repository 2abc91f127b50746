-- Whole transfers, as callers make them from the public words alone.
use Rattle.std.proofs.Common.{◌≡◌, ◌≢◌, ℕ, ◌<◌, Bool, true, false, cond, inl, inr, List, [], ◌∷◌, Option, Some, None, zero, suc, IsSome, refl, sym, ◌∙◌, ap, subst, arith, length}
use Rattle.std.specs.Prelude.{slice_index}
use Rattle.std.proofs.Math.Path.{fun_ext}
use Rattle.std.proofs.lemmas.Bool.{cases_eq, cases_Bool}
use Rattle.block_device.specs.DiskSeen.{DiskSeen}
use Rattle.page_store.specs.page_hash.Names.{find, name_at, is_name}
use Rattle.page_store.specs.page_hash.declared.PageName.{PageName}
use Rattle.page_store.proofs.page_hash.NameLaws.{is_name-true}
use Rattle.page_store.specs.page_lock.Rows.{row_at}
use Rattle.page_store.specs.Bays.{BaySeen, missing, home, out, bay_at, IsStill}
use Rattle.page_store.specs.Bytes.{clip}
use Rattle.page_store.specs.StoreFits.{StoreFits}
use Rattle.page_store.specs.Flight.{FlightSeen, IsPerformed, note_of}
use Rattle.page_store.specs.Moves.{TakesFrame, KeepsButTails, SameOrCut}
use Rattle.page_store.specs.New.{IsNew}
use Rattle.page_store.specs.Notes.{Note, Notes, with_note}
use Rattle.page_store.specs.Seen.{StoreSeen, residence}
use Rattle.page_store.specs.Steps.{next_name}
use Rattle.page_store.specs.Table.{PlaceTable}
use Rattle.page_store.specs.Transfers.{BeginsTransfer, EndsValues, LivesAt}
use Rattle.test_pages.specs.Trips.{HasDisk, StayThere, AreReady}
use Rattle.page_store.specs.Value.{value}
use Rattle.page_store.specs.declared.place.Place.{Place}
use Rattle.page_store.specs.declared.plan.Plan.{Plan}
use Rattle.page_store.specs.declared.residence.Residence.TheVariants.{Moving, Absent}
use Rattle.page_store.proofs.TransferLemmas.{with_note-same, with_note-other}

back_at : (notes : Notes) (seat : ℕ) (x : Option Note) → notes seat ≡ None → (t : ℕ) → with_note (with_note notes seat x) seat None t ≡ notes t
back_at notes seat x idle t = elim (cases_eq t seat) [
  | inl e ↦ subst (λ (k : ℕ). with_note (with_note notes seat x) seat None k ≡ notes k) (sym e) (with_note-same (with_note notes seat x) seat None ∙ sym idle)
  | inr ne ↦ with_note-other (with_note notes seat x) seat t None ne ∙ with_note-other notes seat t x ne
]

with_note-back : (notes : Notes) (seat : ℕ) (x : Option Note) → notes seat ≡ None → with_note (with_note notes seat x) seat None ≡ notes
with_note-back notes seat x idle = fun_ext (back_at notes seat x idle)

-- the table has a plan's page where the flight has it
pub lives-there : (plan : Plan) (table : PlaceTable) (f : FlightSeen) (disk block valid : ℕ) → f.number ≡ disk → f.block ≡ block → f.valid ≡ valid
    → LivesAt plan table disk block valid → LivesAt plan table f.number f.block f.valid
lives-there plan table f disk block valid a b c h = rw (a, b, c) h

-- a transfer that a seat begins, performs and ends leaves the seat's note empty, and every value but a tail
pub trip-takes : (a b c : StoreSeen) (notes : Notes) (table : PlaceTable) (f g : FlightSeen) → notes f.seat ≡ None → IsPerformed (note_of f) g → (row_at b.rows f.frame).gone ≡ false
    → TakesFrame a notes b (with_note notes f.seat (Some (note_of f))) table
    → ((notes' : Notes) (note : Note) (table' : PlaceTable) → StoreFits b notes' table' → notes' g.seat ≡ Some note → IsPerformed note g
    → EndsValues b notes' c (with_note notes' g.seat None) table' note)
    → TakesFrame a notes c notes table
trip-takes a b c notes table f g idle performed ungone forth back =
    let mid : Notes = with_note notes f.seat (Some (note_of f)) in
    let has : mid g.seat ≡ Some (note_of f) = ap mid performed.seat ∙ with_note-same notes f.seat (Some (note_of f)) in
    let e : EndsValues b mid c (with_note mid g.seat None) table (note_of f) = back mid (note_of f) table forth.fits has performed in
    let same : with_note mid g.seat None ≡ notes = ap (λ (k : ℕ). with_note mid k None) performed.seat ∙ with_note-back notes f.seat (Some (note_of f)) idle in
    subst (λ (x : Notes). TakesFrame a notes c x table) same (record {
      fits = e.fits;
      alike = λ k. e.alike k ∙ forth.alike k;
      values = λ n t. e.values n (λ r. forth.alike (table n).disk ∙ t) (λ w q. inl ungone) ∙ forth.values n t;
    })

-- the frame that a read takes doesn't hold the read's page
pub takes-another : (old new : StoreSeen) (plan : Plan) (name : PageName) (f : FlightSeen) (seat : ℕ) → BeginsTransfer old new plan name f
    → residence new name ≡ Moving seat → is_name (next_name old) name ≡ false
takes-another old new plan name f seat laws bytes_moving = elim (cases_Bool (is_name (next_name old) name)) [
  | inl t ↦ absurd (let z : Absent ≡ Moving seat = sym (laws.lost name (is_name-true (next_name old) name t)) ∙ bytes_moving in cc)
  | inr w ↦ w
]

cut_or_same : (b : Bool) (place : Place) (old new : List ℕ) → new ≡ cond b (clip place.valid old) old → SameOrCut place old new
cut_or_same true place old new h = inr h
cut_or_same false place old new h = inl h

-- a frame that was taken keeps the values, or cuts one
pub takes-keeps : (a c : StoreSeen) (before after : Notes) (table : PlaceTable) → TakesFrame a before c after table → KeepsButTails a before c after table
takes-keeps a c before after table t = record {
  fits = t.fits;
  alike = t.alike;
  values = λ n h. cut_or_same (is_name (next_name a) n) (table n) (value a before table n) (value c after table n) (t.values n h);
}

there_again : (was now : BaySeen) (before after : DiskSeen) (block : ℕ) → was ≡ home before → now ≡ home after → after.size ≡ before.size → HasDisk was block → HasDisk now block
there_again was now before after block a b e is = record {
  there = λ q. let z : home after ≡ missing = sym b ∙ q in cc;
  within = λ d q.
      let z : after ≡ d = let y : home after ≡ home d = sym b ∙ q in cc in
      subst (λ (n : ℕ). block < n) (sym e ∙ ap (λ (x : DiskSeen). x.size) z) (is.within before a);
}

-- once a disk that went out is home again, every disk is where it was
pub trip-there : (a b c : List BaySeen) (disk : ℕ) (before after : DiskSeen) → bay_at a disk ≡ home before → ((k : ℕ) → k ≢ disk → bay_at b k ≡ bay_at a k)
    → bay_at c disk ≡ home after → ((k : ℕ) → k ≢ disk → bay_at c k ≡ bay_at b k) → after.size ≡ before.size → StayThere a c
trip-there a b c disk before after was forth now back e = record {
  there = λ number block is. elim (cases_eq number disk) [
    | inl q ↦ there_again (bay_at a number) (bay_at c number) before after block (ap (bay_at a) q ∙ was) (ap (bay_at c) q ∙ now) e is
    | inr ne ↦ subst (λ (x : BaySeen). HasDisk x block) (sym (back number ne ∙ forth number ne)) is
  ];
  away = λ number seat gone. elim (cases_eq number disk) [
    | inl q ↦ absurd (let z : home after ≡ out seat = sym now ∙ sym (ap (bay_at c) q) ∙ gone in cc)
    | inr ne ↦ sym (back number ne ∙ forth number ne) ∙ gone
  ];
}

pub same-there : (a : List BaySeen) → StayThere a a
same-there a = record { there = λ number block is. is; away = λ number seat gone. gone }

pub ready_again : (a c : List BaySeen) → StayThere a c → AreReady a → AreReady c
ready_again a c stay ready = record {
  there = λ number block n b. stay.there number block (ready.there number block n b);
  still = λ number seat gone. ready.still number seat (stay.away number seat gone);
}

still_at : (bay : BaySeen) → ((seat : ℕ) → bay ≡ out seat → ⊥) → IsStill bay
still_at missing h = tt
still_at (home d) h = tt
still_at (out seat) h = h seat refl

pub ready_still : (bays : List BaySeen) → AreReady bays → (number : ℕ) → IsStill (bay_at bays number)
ready_still bays ready number = still_at (bay_at bays number) (ready.still number)

there_home : (bay : BaySeen) (d : DiskSeen) (block size : ℕ) → bay ≡ home d → d.size ≡ size → block < size → HasDisk bay block
there_home bay d block size e n lt = record {
  there = λ q. let z : home d ≡ missing = sym e ∙ q in cc;
  within = λ x q.
      let z : d ≡ x = let y : home d ≡ home x = sym e ∙ q in cc in
      subst (λ (k : ℕ). block < k) (sym n ∙ ap (λ (y : DiskSeen). y.size) z) lt;
}

-- a new store over two disks of four blocks is ready
module _ (s : StoreSeen) (count : ℕ) (first second : DiskSeen) (new : IsNew s count ((0, first) ∷ (1, second) ∷ []) None) (four : first.size ≡ 4) (more : second.size ≡ 4) where
  at_first : bay_at s.bays 0 ≡ home first
  at_first = new.bays.each 0 (0, first) (omega arith)

  at_second : bay_at s.bays 1 ≡ home second
  at_second = new.bays.each 1 (0, first) (omega arith)

  ready_there : (number block : ℕ) → number < 2 → block < 4 → HasDisk (bay_at s.bays number) block
  ready_there zero block n b = there_home (bay_at s.bays 0) first block 4 at_first four b
  ready_there (suc zero) block n b = there_home (bay_at s.bays 1) second block 4 at_second more b
  ready_there (suc (suc k)) block n b = absurd (omega (arith, n))

  not_listed : (k i : ℕ) → i < 2 → slice_index (0 ∷ 1 ∷ []) i ≢ suc (suc k)
  not_listed k zero lt q = omega (arith, q)
  not_listed k (suc zero) lt q = omega (arith, q)
  not_listed k (suc (suc i)) lt q = omega (arith, lt)

  not_out : (b : BaySeen) (number seat : ℕ) → b ≢ out seat → bay_at s.bays number ≡ b → bay_at s.bays number ≡ out seat → ⊥
  not_out b number seat ne e gone = ne (sym e ∙ gone)

  still_now : (number seat : ℕ) → bay_at s.bays number ≡ out seat → ⊥
  still_now zero seat = not_out (home first) 0 seat (λ q. cc) at_first
  still_now (suc zero) seat = not_out (home second) 1 seat (λ q. cc) at_second
  still_now (suc (suc k)) seat = elim (cases_eq (suc (suc k)) 8) [
    | inl q ↦ not_out missing (suc (suc k)) seat (λ z. cc) (ap (bay_at s.bays) q ∙ new.bays.swap)
    | inr ne ↦ not_out missing (suc (suc k)) seat (λ z. cc) (new.bays.others (suc (suc k)) ne (λ i lt. not_listed k i lt))
  ]

  pub ready-new : AreReady s.bays
  ready-new = record { there = ready_there; still = still_now }
