-- What a disk holds once a run ended, from what the rack gave: files were placed on it, the kernel ran and was closed, and its table was written.
use Rattle.std.proofs.Common.{◌≡◌, ◌≢◌, ◌⊎◌, ℕ, ◌<◌, ◌≤◌, List, [], ◌∷◌, Some, refl, sym, ◌∙◌, inl, inr, subst, arith}
use Rattle.std.specs.Prelude.{slice_index_or}
use Rattle.vm_core.specs.page_hash.declared.PageName.{PageName}
use Rattle.volume_files.specs.vm_types.declared.call.Entry.{Entry}
use Rattle.volume_files.specs.flat_model.Flat.{Flat}
use Rattle.volume_files.specs.flat_model.History.{replay}
use Rattle.vm_core.specs.vm_world.mark_laws.HeldBlocks.{HoldsFront, HoldsHistory}
use Rattle.vm_core.specs.vm_world.mark_laws.Pages.{ArePageOf, after_first, bytes_there, disk_place, page_there}

none-first : (F : Flat) (H : List Entry) → after_first F H 0 ≡ F
none-first F [] = refl
none-first F (e ∷ H) = refl

-- a page as it was at the opening is one of the history
pub opening-page : (F : Flat) (H : List Entry) (name : PageName) (bytes : List ℕ) → 0 < bytes_there F name → bytes ≡ page_there F name → ArePageOf F H name bytes
opening-page F H name bytes inside same = record {
  entries = 0;
  made = omega arith;
  inside = subst (λ (G : Flat). 0 < bytes_there G name) (sym (none-first F H)) inside;
  same = subst (λ (G : Flat). bytes ≡ page_there G name) (sym (none-first F H)) same;
}

-- a block has a page that a file keeps there
abbrev pub HasKeptPage : Flat → List Entry → ℕ → List (List ℕ) → ℕ → Type 0
HasKeptPage F H number blocks block = (name : PageName) × (disk_place (replay F H) name ≡ Some (number, block)) × ArePageOf F H name (slice_index_or blocks block [])

module _ (F : Flat) (H : List Entry) (number low high : ℕ) (given placed closed now : List (List ℕ)) where
  pub held-through : HoldsHistory F H number low placed closed
      → ((block : ℕ) → (slice_index_or placed block [] ≡ slice_index_or given block []) ⊎ HasKeptPage F H number placed block)
      → ((block : ℕ) → block ≢ 0 → slice_index_or now block [] ≡ slice_index_or closed block [])
      → ((name : PageName) (block : ℕ) → disk_place (replay F H) name ≡ Some (number, block) → 1 ≤ block) → low ≤ high → HoldsHistory F H number high given now
  held-through h first last past le = record {
    failed = h.failed;
    few = let few = h.few in omega (arith, few, le);
    kept = h.kept;
    each = λ block ne none. elim (h.each block ne none) [
      | inr page ↦ inr (page.0, page.1, subst (λ (bytes : List ℕ). ArePageOf F H page.0 bytes) (sym (last block ne)) page.2)
      | inl same ↦ elim (first block) [
        | inl old ↦ inl (last block ne ∙ same ∙ old)
        | inr page ↦ inr (page.0, page.1, subst (λ (bytes : List ℕ). ArePageOf F H page.0 bytes) (sym (last block ne ∙ same)) page.2)
      ]
    ];
    fronts = λ name block at none. subst (HoldsFront F H name) (sym (last block (λ zero. let high = past name block at in omega (arith, high, zero)))) (h.fronts name block at none);
  }
