-- The pages that disks have.
use Rattle.std.proofs.Common.{◌≡◌, ℕ, ◌-◌, ◌≤◌, Bool, true, cond, List, [], length, take, replicate, Option, Some, None, refl, sym, ap, inl, inr, subst, arith}
use Rattle.std.specs.Prelude.{slice_index_or, IsTrue, is_some}
use Rattle.std.proofs.lemmas.Bool.{cases_Bool}
use Rattle.std.proofs.lemmas.List.Elements.{All-append, All-replicate, All-take, All-from_get_or}
use Rattle.page_store.specs.block_device.DiskSeen.{IsBlock}
use Rattle.page_store.specs.core_arena.Bytes.{zeros}
use Rattle.page_store.specs.Bays.{block_of}
use Rattle.page_store.specs.Bytes.{clip}
use Rattle.page_store.specs.Notes.{Notes}
use Rattle.page_store.specs.Seen.{StoreSeen}
use Rattle.page_store.specs.Value.{content_of, tells, backing_value}
use Rattle.page_store.specs.declared.place.Place.{Place}
use Rattle.page_store.proofs.Clips.{length-clip}
use Rattle.flat_model.specs.Words.{IsPage, IsByte, zero_page}
use Rattle.flat_model.proofs.WellFormed.{IsPage-zero_page}

pub zeros-are : zeros ≡ zero_page
unfolding zero_page
zeros-are = refl

pub IsPage-zeros : IsPage zeros
IsPage-zeros = subst IsPage (sym zeros-are) IsPage-zero_page

-- the valid bytes of a block, with zeros behind them
pub IsPage-clip : (valid : ℕ) (bytes : List ℕ) → valid ≤ 4096 → IsBlock bytes → IsPage (clip valid bytes)
IsPage-clip valid bytes low block = record {
  whole = length-clip valid bytes low block.0;
  bytes = All-append IsByte (take valid bytes) (replicate (4096 - valid) 0)
      (All-take IsByte valid bytes (All-from_get_or IsByte bytes 0 (λ i lt. block.1 i)))
      (All-replicate IsByte (4096 - valid) 0 (omega arith));
}

-- A PLACE OF A DISK THAT TELLS has a page, where the disk, home or in a note, has the block.
pub IsPage-stored : (s : StoreSeen) (notes : Notes) (place : Place) → place.valid ≤ 4096 → IsTrue (tells s notes place.disk)
    → ((blocks : List (List ℕ)) → content_of s notes place.disk ≡ Some blocks → IsBlock (slice_index_or blocks place.block [])) → IsPage (backing_value s notes place)
IsPage-stored s notes place low tell block = elim (cases_Bool place.blank) [
  | inl blank ↦ subst IsPage (ap (λ (b : Bool). cond b zeros (clip place.valid (block_of (content_of s notes place.disk) place.block))) (sym blank)) IsPage-zeros
  | inr pushed ↦ subst IsPage (ap (λ (b : Bool). cond b zeros (clip place.valid (block_of (content_of s notes place.disk) place.block))) (sym pushed)) (by_content (content_of s notes place.disk) refl tell)
]
  where
    by_content : (o : Option (List (List ℕ))) → content_of s notes place.disk ≡ o → is_some o ≡ true → IsPage (clip place.valid (block_of (content_of s notes place.disk) place.block))
    by_content None e is = absurd (cc)
    by_content (Some blocks) e is = subst (λ (o : Option (List (List ℕ))). IsPage (clip place.valid (block_of o place.block))) (sym e) (IsPage-clip place.valid (slice_index_or blocks place.block []) low (block blocks e))
