-- TAILS THAT ARE PENDING, as bits of the files' numbers, and names that lose their frame.
use Rattle.std.proofs.Common.{◌≡◌, ℕ, zero, suc, ◌*◌, ◌/◌, ◌%◌, ◌<◌, ◌==◌, Bool, List, Option, Some, None, refl, sym, ap, ◌∙◌, inl, inr, subst, w64}
use Rattle.std.specs.Prelude.{◌^◌, ◌||◌, IfSome, IsTrue}
use Rattle.std.specs.Int.{bit_at}
use Rattle.std.specs.Int.Bits.{bit_or}
use Rattle.std.proofs.Math.Bool.{or-false, or-true}
use Rattle.std.proofs.lemmas.Bool.Decides.{eqb_tells}
use Rattle.std.proofs.lemmas.Nat.{one_shl, or_lt, pow_below}
use Rattle.std.proofs.lemmas.Nat.Bits.{bit_at_lowest, bit_at-suc, bit_at_set_same, bit_at_set_other}
use Rattle.vm_world.specs.flat_model.Step.{is_bit_set}
use Rattle.page_store.specs.page_hash.Names.{is_name}
use Rattle.page_store.specs.page_hash.Names.{name_at}
use Rattle.page_store.specs.page_hash.declared.PageName.{PageName}
use Rattle.page_store.proofs.page_hash.NameLaws.{find-none}
use Rattle.page_store.specs.Seen.{IsSoundStore, residence}
use Rattle.page_store.specs.Steps.{next_frame, next_name, name_in}
use Rattle.page_store.specs.declared.residence.Residence.TheVariants.{Absent}
use Rattle.page_store.proofs.QueryLemmas.{absent-is}
use Rattle.vm_world.specs.StateSteps.{PendsTails}
use Rattle.vm_world.specs.MemoryFits.{MemoryFits}
use Rattle.vm_world.specs.Segments.{Spaces}
use Rattle.vm_world.specs.Serving.{LosesFrame}
use Rattle.vm_world.specs.World.{World, page_exists}
use Rattle.seg_ops.proofs.StillSteps.{memory_of}

-- a bit, by either way to it
pub bit-is : (n f : ℕ) → is_bit_set n f ≡ (bit_at n f == 1)
bit-is n zero = ap (λ (k : ℕ). k == 1) (sym (bit_at_lowest n))
bit-is n (suc f) = bit-is (n / 2) f ∙ ap (λ (k : ℕ). k == 1) (sym (bit_at-suc n f))

-- one bit is set, and the others stay
pub bit-with : (word file f : ℕ) → file < 64 → is_bit_set (bit_or word (1 * 2 ^ file % 2 ^ 64)) f ≡ (is_bit_set word f || (f == file))
bit-with word file f lt = elim (eqb_tells f file) [
  | inl same ↦
      bit-is (bit_or word (1 * 2 ^ file % 2 ^ 64)) f ∙ ap (λ (k : ℕ). bit_at (bit_or word (1 * 2 ^ file % 2 ^ 64)) k == 1) same.1
      ∙ ap (λ (k : ℕ). k == 1) (bit_at_set_same w64 word file lt) ∙ sym (ap (λ (b : Bool). is_bit_set word f || b) same.0 ∙ or-true (is_bit_set word f))
  | inr other ↦
      bit-is (bit_or word (1 * 2 ^ file % 2 ^ 64)) f ∙ ap (λ (k : ℕ). k == 1) (bit_at_set_other w64 word file lt f other.1)
      ∙ sym (bit-is word f) ∙ sym (ap (λ (b : Bool). is_bit_set word f || b) other.0 ∙ or-false (is_bit_set word f))
]

-- no bit is set from a number on, past which the new one isn't
pub below-with : (word file n : ℕ) → file < 64 → file < n → word < 2 ^ n → bit_or word (1 * 2 ^ file % 2 ^ 64) < 2 ^ n
below-with word file n few lt below = subst (λ (m : ℕ). bit_or word m < 2 ^ n) (sym (one_shl file 64 few)) (or_lt n word (2 ^ file) below (pow_below file n lt))

-- The name that the next frame holds is that of a page which exists.
pub next-there : (w : World) (spaces : Spaces) (lost : Option PageName) → MemoryFits (memory_of w spaces) → lost ≡ next_name w.store → IfSome lost (λ name. IsTrue (page_exists w.files w.anon name))
next-there w spaces lost fits is = subst (λ (o : Option PageName). IfSome o (λ name. IsTrue (page_exists w.files w.anon name))) (sym is) (by_frame (next_frame w.store))
  where
    by_name : (frame : ℕ) (o : Option PageName) → name_at w.store.names frame ≡ o → IfSome o (λ name. IsTrue (page_exists w.files w.anon name))
    by_name frame None e = tt
    by_name frame (Some name) e = fits.frames.exist frame name e

    by_frame : (o : Option ℕ) → IfSome (name_in w.store.names o) (λ name. IsTrue (page_exists w.files w.anon name))
    by_frame None = tt
    by_frame (Some frame) = by_name frame (name_at w.store.names frame) refl

-- THE NAME THAT THE NEXT FRAME HELD loses it, where no frame holds the name afterwards.
pub loses : (old new : World) → IsSoundStore new.store → ((name : PageName) → next_name old.store ≡ Some name → residence new.store name ≡ Absent) → IfSome (next_name old.store) (λ name. LosesFrame old new name)
loses old new sound lost = by_frame (next_frame old.store) refl
  where
    by_name : (frame : ℕ) (o : Option PageName) → next_frame old.store ≡ Some frame → name_at old.store.names frame ≡ o → IfSome o (λ name. LosesFrame old new name)
    by_name frame None next held = tt
    by_name frame (Some name) next held = record {
      frame = frame;
      held = held;
      taken = find-none new.store.names name frame (absent-is new.store name sound (lost name (ap (name_in old.store.names) next ∙ held)));
    }

    by_frame : (o : Option ℕ) → next_frame old.store ≡ o → IfSome (name_in old.store.names o) (λ name. LosesFrame old new name)
    by_frame None next = tt
    by_frame (Some frame) next = by_name frame (name_at old.store.names frame) next refl

-- it lost it also as a step before that kept the names saw it
pub lost-before : (o : Option PageName) (u v new : World) → v.store.names ≡ u.store.names → IfSome o (λ name. LosesFrame v new name) → IfSome o (λ name. LosesFrame u new name)
lost-before None u v new names l = tt
lost-before (Some name) u v new names l = record { frame = l.frame; held = ap (λ (ns : List (Option PageName)). name_at ns l.frame) (sym names) ∙ l.held; taken = l.taken }

-- the tails that are pending, of the page that held the next frame
pub pends-next : (w : World) (pending more : ℕ) (lost : Option PageName) → lost ≡ next_name w.store → PendsTails w (is_name lost) pending more → PendsTails w (is_name (next_name w.store)) pending more
pends-next w pending more lost is t = subst (λ (o : Option PageName). PendsTails w (is_name o) pending more) is t
