-- Bits that are gathered into a page.
use Rattle.std.proofs.lemmas.Bool.{or_left as or-left, or_right as or-right}
use Rattle.std.proofs.Common.{◌≡◌, ℕ, ◌<◌, Bool, true, List, length, Option, Some, refl, sym, ap, ◌∙◌, ◌⊎◌, inl, inr, subst, arith, get_or-set_same}
use Rattle.std.specs.Prelude.{◌||◌}
use Rattle.page_store.specs.page_lock.Rows.{row_at, clear_row, with_bits_added}
use Rattle.page_store.specs.page_lock.declared.Row.{Row}
use Rattle.page_store.specs.Laws.{StaysInPlace}
use Rattle.page_store.specs.Moves.{is_only}
use Rattle.page_store.specs.Seen.{StoreSeen, IsListedFrame}
use Rattle.vm_world.specs.hat_layer.declared.translation.Translation.{Translation}
use Rattle.vm_world.specs.anon_slots.Slots.{AnonSlotsSeen}
use Rattle.vm_world.specs.vnode_files.Files.{FilesSeen}
use Rattle.vm_world.specs.FramesFit.{FramesFit}
use Rattle.vm_world.specs.TranslationsFit.{HasWritten}
use Rattle.seg_ops.specs.Steps.{with_bits_gathered}
use Rattle.seg_ops.proofs.Places.{index-set}
use Rattle.seg_ops.proofs.StillSteps.{KeepsRow, KeepsFrames, same-row}

-- the row of a frame with bits added
abbrev pub added : Row → Bool × Bool → Row
added row told = with_bits_added row told.0 told.1

-- each row after the bits of one frame were gathered
pub row-gathered : (s : StoreSeen) (frame : ℕ) (told : Bool × Bool) (k : ℕ) → (row_at (with_bits_gathered s frame told).rows k ≡ row_at s.rows k) ⊎ ((k ≡ frame) × (row_at (with_bits_gathered s frame told).rows k ≡ added (row_at s.rows k) told))
row-gathered s frame told k = elim (index-set s.rows frame (added (row_at s.rows frame) told) k clear_row) [
  | inl e ↦ inl e
  | inr e ↦ inr (e.0, e.1 ∙ ap (λ (i : ℕ). added (row_at s.rows i) told) (sym e.0))
]

keeps-added : (row : Row) (told : Bool × Bool) → KeepsRow row (added row told)
keeps-added row told = record { keeps = refl; gone = refl; source = refl; rewritten = λ h. or-left row.rewritten told.1 h }

pub row-keeps : (s : StoreSeen) (frame : ℕ) (told : Bool × Bool) (k : ℕ) → KeepsRow (row_at s.rows k) (row_at (with_bits_gathered s frame told).rows k)
row-keeps s frame told k = elim (row-gathered s frame told k) [
  | inl e ↦ same-row (row_at s.rows k) (row_at (with_bits_gathered s frame told).rows k) e
  | inr e ↦ subst (KeepsRow (row_at s.rows k)) (sym e.1) (keeps-added (row_at s.rows k) told)
]

-- what the row said stays
pub row-modified : (s : StoreSeen) (frame : ℕ) (told : Bool × Bool) (k : ℕ) → (row_at s.rows k).modified ≡ true → (row_at (with_bits_gathered s frame told).rows k).modified ≡ true
row-modified s frame told k h = elim (row-gathered s frame told k) [
  | inl e ↦ ap (λ (r : Row). r.modified) e ∙ h
  | inr e ↦ ap (λ (r : Row). r.modified) e.1 ∙ or-left (row_at s.rows k).modified told.1 h
]

-- what was told, the row says
pub row-told : (s : StoreSeen) (frame : ℕ) (told : Bool × Bool) → frame < length s.rows → told.1 ≡ true
    → ((row_at (with_bits_gathered s frame told).rows frame).modified ≡ true) × ((row_at (with_bits_gathered s frame told).rows frame).rewritten ≡ true)
row-told s frame told lt h =
    let is : row_at (with_bits_gathered s frame told).rows frame ≡ added (row_at s.rows frame) told = get_or-set_same s.rows frame (added (row_at s.rows frame) told) clear_row lt in
    (ap (λ (r : Row). r.modified) is ∙ or-right (row_at s.rows frame).modified told.1 h, ap (λ (r : Row). r.rewritten) is ∙ or-right (row_at s.rows frame).rewritten told.1 h)

-- BITS OF A FRAME ON NO LIST are gathered, and what the translations no longer say was told.
pub keeps-gathered : (s : StoreSeen) (files : FilesSeen) (anon : AnonSlotsSeen) (before after : List (Option Translation)) (frame : ℕ) (told : Bool × Bool) → FramesFit s files anon → frame < length s.frames → ¬ IsListedFrame s frame
    → StaysInPlace s (with_bits_gathered s frame told) (is_only (Some frame))
    → ((k : ℕ) → HasWritten before k → ((frame ≡ k) × (told.1 ≡ true)) ⊎ HasWritten after k)
    → KeepsFrames s (with_bits_gathered s frame told) before after
keeps-gathered s files anon before after frame told f lt unlisted laws kept =
    let few : frame < length s.rows = let a = f.sound.rows in omega (arith, a, lt) in
    record {
      sound = laws.sound;
      core = refl;
      frames = refl;
      names = refl;
      bays = refl;
      rows = row-keeps s frame told;
      unmodified = λ k l. elim (row-gathered s frame told k) [
        | inl e ↦ ap (λ (r : Row). r.modified) e ∙ f.unmodified k l
        | inr e ↦ absurd (unlisted (subst (λ (i : ℕ). IsListedFrame s i) e.0 l))
      ];
      residence = laws.residence;
      modified = λ k m. elim m [
        | inl r ↦ inl (row-modified s frame told k r)
        | inr w ↦ elim (kept k w) [
          | inl e ↦ inl (subst (λ (i : ℕ). (row_at (with_bits_gathered s frame told).rows i).modified ≡ true) e.0 (row-told s frame told few e.1).0)
          | inr x ↦ inr x
        ]
      ];
      written = λ k w. elim (kept k w) [
        | inl e ↦ inl (subst (λ (i : ℕ). (row_at (with_bits_gathered s frame told).rows i).rewritten ≡ true) e.0 (row-told s frame told few e.1).1)
        | inr x ↦ inr x
      ];
      bytes = λ k. inl refl;
    }
