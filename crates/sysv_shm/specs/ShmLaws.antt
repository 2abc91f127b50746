-- The two laws of the lock. Inside: no public clause cites this.
use Rattle.std.proofs.Common.{◌∙◌, arith, sym, subst, zero, suc}
use Rattle.std.proofs.lemmas.List.{length-set}
use Rattle.std.proofs.lemmas.List.Elements.{All-append}
use Rattle.std.specs.Prelude.{ℕ, ◌≡◌, ◌<◌, ◌++◌, List, [], ◌∷◌, length, All, Option, slice_set}
use Rattle.std.specs.Prelude.{slice_index_or}
use mathlib.Core.Option.{some, some-ne-none}
use lib.ListN.{get_elem?}
use Rattle.shm_model.specs.flat_model.Flat.{Flat}
use Rattle.shm_model.specs.declared.acts.ShmEntry.{ShmEntry}
use Rattle.sysv_shm.specs.Makers.{MakerSeen, same-then}
use Rattle.sysv_shm.specs.Shm.{ShmSeen, FitsShm, MovesShm, shm_seat}

-- a seat that has a note is one of the seats
noted-seat : {A : Type 0} (notes : List A) (k : ℕ) (n : A) → get_elem? notes k ≡ some n
    → k < length notes
noted-seat [] k n at = absurd (some-ne-none n (sym at))
noted-seat (x ∷ notes) zero n at = omega arith
noted-seat (x ∷ notes) (suc k) n at = let below = noted-seat notes k n at in omega (arith, below)

module _ {M K U : Type 0} (look : M → MakerSeen) (starts : M → Flat → Type 0)
    (is_on : M → K → Type 0) (may_attach : M → U → Type 0) (opening s t : ShmSeen M)
    (notes : List (Option (Unit {0}))) (k : ℕ) (n m : Option (Unit {0}))
    (fits : FitsShm look starts is_on may_attach opening s notes) (at : get_elem? notes k ≡ some n)
    (moved : MovesShm look starts is_on may_attach k s n t m) where
  -- What one seat does keeps what the lock keeps.
  pub shm_keeps : FitsShm look starts is_on may_attach opening t (slice_set notes k m)
  shm_keeps = record {
    keeps = record {
      maker = same-then look starts is_on may_attach opening.maker s.maker t.maker
          fits.keeps.maker moved.keeps.maker;
      lines = moved.keeps.lines ∙ fits.keeps.lines;
    };
    seated =
        let seats = length-set notes k m in
        let low = noted-seat notes k n at in
        let old : All (λ (e : ShmEntry). shm_seat e < length (slice_set notes k m)) s.entries =
        λ i d lt. subst (λ c. shm_seat (slice_index_or s.entries i d) < c) (sym seats)
        (fits.seated i d lt) in
        let new : All (λ (e : ShmEntry). shm_seat e < length (slice_set notes k m)) moved.added =
        λ i d lt. let by = moved.by i d lt in omega (arith, by, low, seats) in
        subst (All (λ (e : ShmEntry). shm_seat e < length (slice_set notes k m)))
        (sym moved.longer)
        (All-append (λ (e : ShmEntry). shm_seat e < length (slice_set notes k m)) s.entries
        moved.added old new);
  }

  -- What one seat does adds answers of its own process.
  pub shm_grows : (added : List ShmEntry) × (t.entries ≡ s.entries ++ added)
      × All (λ (e : ShmEntry). shm_seat e ≡ k) added
  shm_grows = (moved.added, moved.longer, moved.by)
