-- Notes, bays and names once one seat, one disk or one frame changed.
use Rattle.std.proofs.Common.{◌≡◌, ◌≢◌, ℕ, ◌<◌, Bool, true, false, inl, inr, ◌⊎◌, List, [], ◌∷◌, Option, Some, None, zero, suc, refl, sym, ◌∙◌, ap, subst, arith, length, set}
use Rattle.std.specs.Prelude.{slice_index}
use Rattle.std.proofs.lemmas.List.{get_or-set_same, get_or-set_other}
use Rattle.std.proofs.lemmas.Bool.{cases_eq, cases_Bool}
use Rattle.std.proofs.lemmas.Bool.Decides.{nat_tests}
use Rattle.block_device.specs.DiskSeen.{DiskSeen}
use Rattle.page_hash.specs.Names.{find, name_at, is_name, AreDistinct}
use Rattle.page_hash.specs.declared.PageName.{PageName}
use Rattle.page_hash.proofs.NameLaws.{find-same, is_name-true, is_name-same}
use Rattle.page_store.specs.Bays.{BaySeen, missing, home, out, bay_at}
use Rattle.page_store.specs.Notes.{Note, Notes, with_note}
use Rattle.page_store.specs.Seen.{IsOrder}

-- the note of one seat, and those of the others
pub with_note-same : (notes : Notes) (seat : ℕ) (x : Option Note) → with_note notes seat x seat ≡ x
with_note-same notes seat x = grind (arith, nat_tests)

pub with_note-other : (notes : Notes) (seat t : ℕ) (x : Option Note) → t ≢ seat → with_note notes seat x t ≡ notes t
with_note-other notes seat t x ne = grind (arith, nat_tests)

-- a disk stands within the bays
pub home-within : (bays : List BaySeen) (k : ℕ) (d : DiskSeen) → bay_at bays k ≡ home d → k < length bays
home-within [] k d h = cc
home-within (b ∷ more) zero d h = omega arith
home-within (b ∷ more) (suc k) d h = let r = home-within more k d h in omega arith

pub out-within : (bays : List BaySeen) (k t : ℕ) → bay_at bays k ≡ out t → k < length bays
out-within [] k t h = cc
out-within (b ∷ more) zero t h = omega arith
out-within (b ∷ more) (suc k) t h = let r = out-within more k t h in omega arith

-- the disks in order are still there once a bay that was there is another that is there
pub order-set : (bays : List BaySeen) (order : List ℕ) (k : ℕ) (b : BaySeen) → k < length bays → bay_at bays k ≢ missing → b ≢ missing → IsOrder bays order → IsOrder (set bays k b) order
order-set bays order k b lt here there was = record {
  numbers = was.numbers;
  all = λ number low is. elim (cases_eq number k) [
    | inl q ↦ was.all number low (λ gone. here (ap (bay_at bays) (sym q) ∙ gone))
    | inr ne ↦ was.all number low (λ gone. is (get_or-set_other bays k number b missing ne ∙ gone))
  ];
  there = λ i within e. elim (cases_eq (slice_index order i) k) [
    | inl q ↦ there (sym (get_or-set_same bays k b missing lt) ∙ subst (λ (j : ℕ). bay_at (set bays k b) j ≡ missing) q e)
    | inr ne ↦ was.there i within (sym (get_or-set_other bays k (slice_index order i) b missing ne) ∙ e)
  ];
}

-- a name is this one or another
pub is-or-not : (m n : PageName) → (m ≡ n) ⊎ (m ≢ n)
is-or-not m n = elim (cases_Bool (is_name (Some m) n)) [
  | inl t ↦ inl (let z = is_name-true (Some m) n t in cc)
  | inr f ↦ inr (λ q. let z : true ≡ false = sym (is_name-same n) ∙ ap (λ (x : PageName). is_name (Some x) n) (sym q) ∙ f in cc)
]

pub holds-or-not : (o : Option PageName) (n : PageName) → (o ≡ Some n) ⊎ (o ≡ Some n → ⊥)
holds-or-not o n = elim (cases_Bool (is_name o n)) [
  | inl t ↦ inl (is_name-true o n t)
  | inr f ↦ inr (λ q. let z : true ≡ false = sym (is_name-same n) ∙ ap (λ (x : Option PageName). is_name x n) (sym q) ∙ f in cc)
]
