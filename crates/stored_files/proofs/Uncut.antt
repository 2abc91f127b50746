-- Where neither the sink nor a disk failed, no count rose.
use Rattle.std.proofs.Common.{◌≡◌, ℕ, zero, suc, List, [], ◌∷◌, map, get_or, set, refl, ap, sym, ◌∙◌, Some}
use Rattle.std.specs.Prelude.{Result, Ok, Err, slice_get, slice_set}
use Rattle.std.proofs.lemmas.Option.{same_Some}
use Rattle.block_device.specs.DiskSeen.{DiskSeen, failures_told}
use Rattle.stored_files.specs.declared.showing.ShowStop.{ShowStop}
use Rattle.stored_files.specs.declared.showing.ShowStop.TheVariants as show
use Rattle.stored_files.specs.Uncut.{UnlessCut, counts_of}

pub unless-cut : {T F P Q : Type 0} (r : Result T (ShowStop F)) → (P → Q) → UnlessCut r P → UnlessCut r Q
unless-cut (Ok done) f p = f p
unless-cut (Err show.Memory) f p = f p
unless-cut (Err show.Sink) f p = tt
unless-cut (Err (show.Fault x)) f p = tt

-- one disk was replaced by one with its count
pub counts-set : {X : Type 0} (f : X → ℕ × DiskSeen) (xs : List X) (i : ℕ) (z x : X) → failures_told (f x).1 ≡ failures_told (f (get_or xs i z)).1
    → counts_of (map f (set xs i x)) ≡ counts_of (map f xs)
counts-set f [] zero z x same = refl
counts-set f [] (suc i) z x same = refl
counts-set f (y ∷ ys) zero z x same = ap (λ (n : ℕ). n ∷ counts_of (map f ys)) same
counts-set f (y ∷ ys) (suc i) z x same = ap (λ (l : List ℕ). failures_told (f y).1 ∷ l) (counts-set f ys i z x same)

-- one disk of a list has its count still
pub counts-put : (disks : List (ℕ × DiskSeen)) (place : ℕ) (d e : ℕ × DiskSeen) → slice_get disks place ≡ Some d → failures_told e.1 ≡ failures_told d.1
    → counts_of (slice_set disks place e) ≡ counts_of disks
counts-put [] place d e at same = refl
counts-put (x ∷ disks) zero d e at same = ap (λ (n : ℕ). n ∷ counts_of disks) (same ∙ ap (λ (y : ℕ × DiskSeen). failures_told y.1) (sym (same_Some x d at)))
counts-put (x ∷ disks) (suc i) d e at same = ap (λ (l : List ℕ). failures_told x.1 ∷ l) (counts-put disks i d e at same)
