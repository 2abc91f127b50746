use Rattle.std.proofs.Common.{◌≡◌, ◌<◌, ◌≤◌, ◌-◌, ℕ}
use Rattle.page_store.specs.page_hash.declared.PageName.{PageName}
use Rattle.page_store.specs.Seen.{residence}
use Rattle.vm_world.specs.anon_map.Maps.{places_of, with_places}
use Rattle.vm_world.specs.anon_slots.Slots.{count_at}
use Rattle.vm_world.specs.CallSteps.{ChangesMemory}
use Rattle.vm_world.specs.MemoryFits.{MemoryFits}
use Rattle.vm_world.specs.Segments.{Spaces}
use Rattle.vm_world.specs.Serving.{ModifiesNone}
use Rattle.vm_world.specs.World.{world_seen}
use Rattle.seg_ops.specs.Empties.{OwnsPlaces, places_emptied}
use Rattle.seg_ops.specs.OwnPages.{without_own_pages}
use Rattle.seg_ops.proofs.StillSteps.{memory_of}
use Rattle.seg_ops.proofs.ranges.drop_places.Given as goal

abbrev pub invariant-loop-place : goal.invariant-loop-place
invariant-loop-place g l = record {
  maps : l.world.maps ≡ with_places l.fn.world.maps l.fn.map (places_emptied (places_of l.fn.world.maps l.fn.map) l.fn.from (l.place - l.fn.from));
  reserved : l.world.anon.reserved ≡ l.fn.world.anon.reserved;
  fall : (slot : ℕ) → count_at l.world.anon slot ≤ count_at l.fn.world.anon slot;
  stay : (name : PageName) → (name.object ≡ 64 → 0 < count_at l.world.anon name.page) → residence l.world.store name ≡ residence l.fn.world.store name;
  modified : ModifiesNone (world_seen l.fn.world) (world_seen l.world);
  rest : l.world ≡ record l.fn.world { store = l.world.store; anon = l.world.anon; maps = l.world.maps };
  changes : (spaces : Spaces) (p first : ℕ) → MemoryFits (memory_of (world_seen l.fn.world) spaces) → OwnsPlaces l.fn.world.hat.places spaces p first l.fn.map l.fn.from (l.fn.end - l.fn.from)
      → ChangesMemory p (memory_of (world_seen l.fn.world) spaces) (memory_of (world_seen l.world) spaces) (λ F. without_own_pages F p first (l.place - l.fn.from));
}
