-- At most one frame is away for each disk that is out.
use Rattle.std.proofs.Common.{◌≡◌, ℕ, zero, suc, ◌+◌, ◌<◌, ◌≤◌, Bool, true, false, List, [], ◌∷◌, length, Option, Some, None, refl, sym, ◌∙◌, ap, arith, subst, slice_set}
use Rattle.std.specs.Prelude.{◌≢◌, filter, is_none, is_some}
use Rattle.core_arena.specs.Bytes.{bytes_at}
use Rattle.page_lock.specs.Rows.{row_at}
use Rattle.page_store.specs.Away.{is_disk_out, is_disk, AwayLaw}
use Rattle.page_store.specs.Bays.{BaySeen, missing, home, out, bay_at}
use Rattle.page_store.specs.StoreFits.{StoreFits, NoteAgrees}
use Rattle.page_store.specs.Notes.{Note, Notes}
use Rattle.page_store.specs.Seen.{StoreSeen, IsSoundStore}
use Rattle.page_store.specs.Table.{PlaceTable}

-- one disk less is out
one_less : (bays : List BaySeen) (m : ℕ) → is_disk_out (bay_at bays m) ≡ true → suc (length (filter is_disk_out (slice_set bays m missing))) ≡ length (filter is_disk_out bays)
one_less [] m h = let z : false ≡ true = h in cc
one_less (out seat ∷ bays) zero h = refl
one_less (home disk ∷ bays) zero h = let z : false ≡ true = h in cc
one_less (missing ∷ bays) zero h = let z : false ≡ true = h in cc
one_less (out seat ∷ bays) (suc m) h = ap (λ (k : ℕ). suc k) (one_less bays m h)
one_less (home disk ∷ bays) (suc m) h = one_less bays m h
one_less (missing ∷ bays) (suc m) h = one_less bays m h

-- the other disks are where they were
others_out : (bays : List BaySeen) (m n : ℕ) → n ≢ m → is_disk_out (bay_at bays n) ≡ true → is_disk_out (bay_at (slice_set bays m missing) n) ≡ true
others_out [] m n apart h = h
others_out (b ∷ bays) zero zero apart h = absurd (apart refl)
others_out (b ∷ bays) zero (suc n) apart h = h
others_out (b ∷ bays) (suc m) zero apart h = h
others_out (b ∷ bays) (suc m) (suc n) apart h = others_out bays m n (λ q. apart (ap (λ (k : ℕ). suc k) q)) h

-- a frame is away
record IsAway (frames : List (Option (List ℕ))) (i : ℕ) : Type 0 where
  low : i < length frames
  gone : bytes_at frames i ≡ None

further : (b : Option (List ℕ)) (frames : List (Option (List ℕ))) (i : ℕ) → IsAway frames i → IsAway (b ∷ frames) (suc i)
further b frames i a = record { low = let r = a.low in omega arith; gone = a.gone }

-- Frames that are away, each with a disk of its own that is out, are no more than the disks that are out.
no_more : (frames : List (Option (List ℕ))) (bays : List BaySeen) (disk : ℕ → ℕ) → ((i : ℕ) → IsAway frames i → is_disk_out (bay_at bays (disk i)) ≡ true)
    → ((i j : ℕ) → IsAway frames i → IsAway frames j → disk i ≡ disk j → i ≡ j) → length (filter is_none frames) ≤ length (filter is_disk_out bays)
no_more [] bays disk there apart = omega arith
no_more (Some b ∷ frames) bays disk there apart =
    no_more frames bays (λ i. disk (suc i)) (λ i a. there (suc i) (further (Some b) frames i a))
    (λ i j a b' e. let r = apart (suc i) (suc j) (further (Some b) frames i a) (further (Some b) frames j b') e in omega (arith, r))
no_more (None ∷ frames) bays disk there apart =
    let first : IsAway (None ∷ frames) 0 = record { low = omega arith; gone = refl } in
    let less = one_less bays (disk 0) (there 0 first) in
    let rest = no_more frames (slice_set bays (disk 0) missing) (λ i. disk (suc i))
    (λ i a. others_out bays (disk 0) (disk (suc i)) (λ q. absurd (let r = apart (suc i) 0 (further None frames i a) first q in omega (arith, r))) (there (suc i) (further None frames i a)))
    (λ i j a b' e. let r = apart (suc i) (suc j) (further None frames i a) (further None frames j b') e in omega (arith, r)) in
    omega (arith, less, rest)

-- the disk of the note of the seat that has a frame
number_of_note : Option Note → ℕ
number_of_note None = 0
number_of_note (Some note) = note.number

number_with : Notes → Option ℕ → ℕ
number_with notes None = 0
number_with notes (Some seat) = number_of_note (notes seat)

number_of_frame : StoreSeen → Notes → ℕ → ℕ
number_of_frame s notes i = number_with notes (row_at s.rows i).holder

-- the note of a frame that is away
record HasNote (s : StoreSeen) (notes : Notes) (table : PlaceTable) (i : ℕ) : Type 0 where
  seat : ℕ
  note : Note
  is : notes seat ≡ Some note
  frame : note.frame ≡ i
  agrees : NoteAgrees s table seat note
  number : number_of_frame s notes i ≡ note.number

held_by : (holder : Option ℕ) → true ≡ is_some holder → (seat : ℕ) × (holder ≡ Some seat)
held_by None h = absurd (let z : true ≡ false = h in cc)
held_by (Some seat) h = (seat, refl)

note_at : (s : StoreSeen) (notes : Notes) (table : PlaceTable) → IsSoundStore s → StoreFits s notes table → (i : ℕ) → IsAway s.frames i → HasNote s notes table i
unfolding number_of_frame number_with number_of_note
note_at s notes table sound fits i a =
    let holder = held_by (row_at s.rows i).holder (ap is_none (sym a.gone) ∙ (sound.each i a.low).away) in
    let found = fits.each_frame i holder.0 holder.1 in
    record {
      seat = holder.0;
      note = found.0;
      is = found.1;
      frame = found.2;
      agrees = fits.each_note holder.0 found.0 found.1;
      number = ap (number_with notes) holder.1 ∙ ap number_of_note found.1;
    }

pub away-out : (s : StoreSeen) (notes : Notes) (table : PlaceTable) → IsSoundStore s → StoreFits s notes table → length (filter is_none s.frames) ≤ length (filter is_disk_out s.bays)
away-out s notes table sound fits = no_more s.frames s.bays (number_of_frame s notes)
    (λ i a. let h = note_at s notes table sound fits i a in ap is_disk_out (ap (bay_at s.bays) h.number ∙ h.agrees.out.bay))
    (λ i j a b e.
    let h = note_at s notes table sound fits i a in
    let k = note_at s notes table sound fits j b in
    let one : h.note.number ≡ k.note.number = sym h.number ∙ e ∙ k.number in
    let seats : out h.seat ≡ out k.seat = sym h.agrees.out.bay ∙ ap (bay_at s.bays) one ∙ k.agrees.out.bay in
    let seat : h.seat ≡ k.seat = cc in
    let notes_are : Some h.note ≡ Some k.note = sym h.is ∙ ap notes seat ∙ k.is in
    let same : h.note ≡ k.note = cc in
    sym h.frame ∙ ap (λ (n : Note). n.frame) same ∙ k.frame)

out-disks : (bays : List BaySeen) → length (filter is_disk_out bays) ≤ length (filter is_disk bays)
out-disks [] = omega arith
out-disks (missing ∷ bays) = out-disks bays
out-disks (home disk ∷ bays) = let r = out-disks bays in omega (arith, r)
out-disks (out seat ∷ bays) = let r = out-disks bays in omega (arith, r)

pub away_law : AwayLaw
away_law = record {
  out = away-out;
  disks = λ s notes table sound fits. let a = away-out s notes table sound fits in let b = out-disks s.bays in omega (arith, a, b);
}
