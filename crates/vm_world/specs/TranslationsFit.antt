-- Translations, and which pages are modified. Public clauses cite this.
use Rattle.std.specs.Prelude.{◌≡◌, ℕ, ◌||◌, ◌⊎◌, true, false, List, Option, Some, None, IsSome, IsTrue, slice_index_or}
use Rattle.page_store.specs.core_arena.Bytes.{bytes_at}
use Rattle.flat_model.specs.vm_types.declared.call.Kind.TheVariants.{Private}
use Rattle.flat_model.specs.vm_types.Prot.{can_read, can_write}
use Rattle.page_store.specs.page_hash.Names.{name_at}
use Rattle.page_store.specs.page_hash.declared.PageName.{PageName}
use Rattle.page_store.specs.page_lock.Rows.{row_at}
use Rattle.page_store.specs.Seen.{StoreSeen, IsListedFrame, residence}
use Rattle.page_store.specs.declared.residence.Residence.TheVariants.{Home}
use Rattle.anon_slots.specs.Slots.{AnonSlotsSeen, count_at}
use Rattle.anon_map.specs.Maps.{Map}
use Rattle.hat_layer.specs.Pool.{HatSeen, IsSingleValued}
use Rattle.hat_layer.specs.declared.translation.Translation.{Translation}
use Rattle.vm_world.specs.Segments.{Spot, Spaces, spot_at, own_slot, shown_name}
use Rattle.vm_world.specs.World.{slot_name}

-- A page may be written where it is: its protection lets it, and a private page has a slot of its own that no other place holds.
pub record MayWriteInPlace (anon : AnonSlotsSeen) (maps : List (Option Map)) (x : Spot) : Type 0 where
  pub prot : IsTrue (can_write x.0.prot)
  pub alone : x.0.kind ≡ Private → (slot : ℕ) × (own_slot maps x ≡ Some slot) × (count_at anon slot ≡ 1)

-- A translation leads to the home frame of the page that its place shows, on neither list. It stands for a page that may be read or written, and is
-- writable only where the page may be written where it is.
pub record TranslationFits (store : StoreSeen) (anon : AnonSlotsSeen) (maps : List (Option Map)) (spaces : Spaces) (t : Translation) : Type 0 where
  pub spot : Spot
  pub here : spot_at spaces t.space t.page ≡ Some spot
  pub name : PageName
  pub shows : shown_name maps spot ≡ Some name
  pub home : residence store name ≡ Home t.frame
  pub unlisted : ¬ IsListedFrame store t.frame
  pub allowed : IsTrue (can_read spot.0.prot || can_write spot.0.prot)
  pub writable : t.writable ≡ true → MayWriteInPlace anon maps spot

-- Each translation of the pool fits.
abbrev pub TranslationsFit : StoreSeen → AnonSlotsSeen → List (Option Map) → Spaces → List (Option Translation) → Type 0
TranslationsFit store anon maps spaces places =
    (place : ℕ) (t : Translation) → slice_index_or places place None ≡ Some t → TranslationFits store anon maps spaces t

-- The pool is one of so many frames, and no page has two translations.
pub record PoolFits (frames : ℕ) (hat : HatSeen) : Type 0 where
  pub leads : hat.frames ≡ frames
  pub single : IsSingleValued hat.places

-- A translation leads to the frame and says that it was written.
pub record HasWritten (places : List (Option Translation)) (frame : ℕ) : Type 0 where
  pub place : ℕ
  pub translation : Translation
  pub there : slice_index_or places place None ≡ Some translation
  pub leads : translation.frame ≡ frame
  pub modified : translation.modified ≡ true

-- The page in a frame is modified: its row says so, or one of its translations.
abbrev pub IsModified : StoreSeen → List (Option Translation) → ℕ → Type 0
IsModified store places frame = ((row_at store.rows frame).modified ≡ true) ⊎ HasWritten places frame

-- The page in a frame counts as rewritten since a snapshot of it went out: its row says so, or one of its translations.
abbrev pub IsRewritten : StoreSeen → List (Option Translation) → ℕ → Type 0
IsRewritten store places frame = ((row_at store.rows frame).rewritten ≡ true) ⊎ HasWritten places frame

-- The page of a slot that was never pushed is modified where it is home.
abbrev pub UnpushedFit : StoreSeen → AnonSlotsSeen → List (Option Translation) → Type 0
UnpushedFit store anon places =
    (frame slot : ℕ) → name_at store.names frame ≡ Some (slot_name slot) → slice_index_or anon.swapped slot false ≡ false
    → IsSome (bytes_at store.frames frame) → IsModified store places frame
