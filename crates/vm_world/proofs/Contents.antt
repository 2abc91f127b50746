-- What the disks have, wherever they are, as one leaves or comes back.
use Rattle.std.proofs.Common.{◌≡◌, ◌≢◌, ℕ, ◌<◌, Bool, true, false, List, length, Some, None, refl, sym, ap, ◌∙◌, inl, inr, subst}
use Rattle.std.specs.Prelude.{slice_set, IsSome, is_some}
use Rattle.std.proofs.lemmas.Bool.{cases_eq}
use Rattle.std.proofs.lemmas.List.{get_or-set_same, get_or-set_other}
use Rattle.page_store.specs.block_device.DiskSeen.{DiskSeen}
use Rattle.page_store.specs.Bays.{BaySeen, missing, home, out, bay_at}
use Rattle.page_store.specs.Notes.{Note, Notes, with_note}
use Rattle.page_store.specs.Value.{content_in_note, content_in_bay}
use Rattle.page_store.proofs.TransferLemmas.{with_note-same, with_note-other}

-- the disk of a number as it leaves: its note has it
module _ (bays new : List BaySeen) (notes : Notes) (seat : ℕ) (note : Note) (idle : notes seat ≡ None) (noted : (k t : ℕ) → bay_at bays k ≡ out t → IsSome (notes t))
    (was : bay_at bays note.number ≡ home note.disk) (set : new ≡ slice_set bays note.number (out seat)) (within : note.number < length bays) where
  elsewhere : (k : ℕ) (b : BaySeen) → bay_at bays k ≡ b → content_in_bay b (with_note notes seat (Some note)) ≡ content_in_bay b notes
  elsewhere k missing e = refl
  elsewhere k (home d) e = refl
  elsewhere k (out t) e = ap content_in_note (with_note-other notes seat t (Some note) (λ same. absurd (let z : IsSome (notes t) = noted k t e in let y : ◌≡◌ {A = Bool} false true = sym (ap is_some (ap notes same ∙ idle)) ∙ z in cc)))

  pub content-leaves : (k : ℕ) → content_in_bay (bay_at new k) (with_note notes seat (Some note)) ≡ content_in_bay (bay_at bays k) notes
  content-leaves k = ap (λ (b : List BaySeen). content_in_bay (bay_at b k) (with_note notes seat (Some note))) set ∙ elim (cases_eq k note.number) [
    | inl e ↦
        subst (λ (j : ℕ). content_in_bay (bay_at (slice_set bays note.number (out seat)) j) (with_note notes seat (Some note)) ≡ content_in_bay (bay_at bays j) notes) (sym e)
        (ap (λ (b : BaySeen). content_in_bay b (with_note notes seat (Some note))) (get_or-set_same bays note.number (out seat) missing within) ∙ ap content_in_note (with_note-same notes seat (Some note)) ∙ sym (ap (λ (b : BaySeen). content_in_bay b notes) was))
    | inr ne ↦ ap (λ (b : BaySeen). content_in_bay b (with_note notes seat (Some note))) (get_or-set_other bays note.number k (out seat) missing ne) ∙ elsewhere k (bay_at bays k) refl
  ]

-- .. and as it comes back
module _ (bays new : List BaySeen) (notes : Notes) (seat : ℕ) (note : Note) (d : DiskSeen) (noted : notes seat ≡ Some note) (one : (k : ℕ) → bay_at bays k ≡ out seat → k ≡ note.number)
    (was : bay_at bays note.number ≡ out seat) (set : new ≡ slice_set bays note.number (home d)) where
  pub content-noted : content_in_bay (bay_at bays note.number) notes ≡ note.disk.content
  content-noted = ap (λ (b : BaySeen). content_in_bay b notes) was ∙ ap content_in_note noted

  beside : (k : ℕ) (b : BaySeen) → k ≢ note.number → bay_at bays k ≡ b → content_in_bay b (with_note notes seat None) ≡ content_in_bay b notes
  beside k missing ne e = refl
  beside k (home x) ne e = refl
  beside k (out t) ne e = ap content_in_note (with_note-other notes seat t None (λ same. ne (one k (e ∙ ap out same))))

  pub content-apart : (k : ℕ) → k ≢ note.number → content_in_bay (bay_at new k) (with_note notes seat None) ≡ content_in_bay (bay_at bays k) notes
  content-apart k ne = ap (λ (b : List BaySeen). content_in_bay (bay_at b k) (with_note notes seat None)) set
      ∙ ap (λ (b : BaySeen). content_in_bay b (with_note notes seat None)) (get_or-set_other bays note.number k (home d) missing ne) ∙ beside k (bay_at bays k) ne refl
