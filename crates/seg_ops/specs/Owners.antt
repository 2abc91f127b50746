-- Words on the place that a private page owns alone. Public clauses cite this.
use Rattle.std.specs.Prelude.{◌≡◌, ◌<◌, ◌-◌, ℕ, List, Option, None, slice_set}
use Rattle.vm_world.specs.anon_map.Maps.{Map, places_of, with_places}
use Rattle.vm_world.specs.anon_slots.Slots.{AnonSlotsSeen, count_at, with_count}
use Rattle.page_store.specs.page_hash.declared.PageName.{PageName}
use Rattle.page_store.specs.Seen.{residence}
use Rattle.vm_world.specs.hat_layer.Pool.{translation_at}
use Rattle.vm_world.specs.flat_model.Flat.{Flat}
use Rattle.vm_world.specs.CallSteps.{ChangesMemory}
use Rattle.vm_world.specs.Segments.{Spaces, Spot}
use Rattle.vm_world.specs.Words.{memory, Fits}
use Rattle.vm_world.specs.World.{world_seen}
use Rattle.vm_world.specs.declared.world.World as rust
use Rattle.seg_ops.specs.Empties.{EmptiesPlace}
use Rattle.seg_ops.specs.OwnPages.{without_own_page}
use Rattle.seg_ops.specs.Slots.{MakesHome, OwnsAlone}

-- A page owns the place alone, and has no translation.
abbrev pub IsOwned : {D : Type 0} → rust.World D → ℕ → ℕ → Type 0
IsOwned w map place = (spaces : Spaces) × (p : ℕ) × (q : ℕ) × (x : Spot) × Fits w spaces × OwnsAlone spaces p q map place x × (translation_at w.hat.places p q ≡ None)

-- Whatever page owns the place alone and has no translation, flat memory becomes this function of
-- what it was.
abbrev pub OwnerBecomes : {D : Type 0} → rust.World D → rust.World D → ℕ → ℕ → (ℕ → ℕ → Flat → Flat) → Type 0
OwnerBecomes old new map place f = (spaces : Spaces) (p q : ℕ) (x : Spot) → Fits old spaces → OwnsAlone spaces p q map place x → translation_at old.hat.places p q ≡ None
    → ChangesMemory p (memory old spaces) (memory new spaces) (λ F. f p q F)

-- Whatever page owns the place alone and has no translation, its cell loses its own page.
abbrev pub OwnerLoses : {D : Type 0} → rust.World D → rust.World D → ℕ → ℕ → Type 0
OwnerLoses old new map place = OwnerBecomes old new map place (λ p q F. without_own_page F p q)

-- Whatever page owns the place alone and has no translation, the place is emptied, which held this
-- slot.
abbrev pub OwnerLeaves : {D : Type 0} → rust.World D → rust.World D → ℕ → ℕ → ℕ → Type 0
OwnerLeaves old new map place slot = (spaces : Spaces) (p q : ℕ) (x : Spot) → Fits old spaces → OwnsAlone spaces p q map place x → translation_at old.hat.places p q ≡ None
    → EmptiesPlace (world_seen old) (world_seen new) spaces map place slot

-- The slots with one counted once less.
abbrev pub with_one_less : AnonSlotsSeen → ℕ → AnonSlotsSeen
with_one_less anon slot = with_count anon slot (count_at anon slot - 1)

-- The anon maps with one place of a map set.
abbrev pub with_place : List (Option Map) → ℕ → ℕ → Option ℕ → List (Option Map)
with_place maps map place slot = with_places maps map (slice_set (places_of maps map) place slot)

-- Each page of a file, and that of each slot that is still held, is where it was.
abbrev pub KeepsHeldPages : {D : Type 0} → rust.World D → rust.World D → Type 0
KeepsHeldPages old new = (name : PageName) → (name.object ≡ 64 → 0 < count_at new.anon name.page) → residence new.store name ≡ residence old.store name

-- A slot is made, with its page.
abbrev pub PageMade : {D : Type 0} → rust.World D → rust.World D → ℕ → Type 0
PageMade old new slot = MakesHome (world_seen old) (world_seen new) old.pending new.pending slot
