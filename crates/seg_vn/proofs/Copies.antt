-- A private cell gets a page of its own, with what it shows.
use Rattle.std.proofs.Common.{◌≡◌, ℕ, Some, None, refl, sym, ap, ◌∙◌}
use Rattle.std.specs.Prelude.{option_and_then}
use Rattle.seg_ops.specs.page_hash.Names.{is_name}
use Rattle.seg_ops.specs.page_store.Steps.{next_name}
use Rattle.seg_ops.specs.flat_model.Flat.{Flat}
use Rattle.seg_ops.specs.flat_model.Shapes.{without_bytes}
use Rattle.seg_ops.specs.flat_model.Step.{tails_cleared}
use Rattle.seg_ops.specs.flat_model.Words.{Page}
use Rattle.seg_ops.specs.vm_world.CallSteps.{ChangesMemory}
use Rattle.seg_ops.specs.vm_world.FlatMemory.{flat_memory}
use Rattle.seg_ops.specs.vm_world.MemoryFits.{MemoryFits}
use Rattle.seg_ops.specs.vm_world.Segments.{Spot, Spaces}
use Rattle.seg_ops.specs.vm_world.World.{World, slot_in}
use Rattle.seg_ops.specs.vm_world.WorldSteps.{tails_lost}
use Rattle.seg_ops.specs.OwnPages.{with_own_shown}
use Rattle.seg_ops.specs.Slots.{OwnsAlone, with_own_page}
use Rattle.seg_ops.proofs.flat_model.ShapeSteps.{tails-same}
use Rattle.seg_ops.proofs.SlotOwners.{owner-private}
use Rattle.seg_ops.proofs.SlotShapes.{own-alike}
use Rattle.seg_ops.proofs.StillSteps.{memory_of}
use Rattle.seg_vn.specs.FaultPlaces.{CellShows}
use Rattle.seg_vn.proofs.ServedFaults.{changes-as, lost-none}
use Rattle.seg_vn.proofs.FaultPlaces.{gets-page, kept-own}

module _ (old new : World) (spaces : Spaces) (p q m i : ℕ) (x : Spot) (fits : MemoryFits (memory_of old spaces)) (owns : OwnsAlone spaces p q m i x) (free : next_name old.store ≡ None) where
  -- from nothing
  pub changes-got : (bytes : Page) → CellShows old spaces x None bytes → ChangesMemory p (memory_of old spaces) (memory_of new spaces) (λ F. tails_cleared (with_own_page F p q bytes) (tails_lost old (is_name (next_name old.store))))
      → ChangesMemory p (memory_of old spaces) (memory_of new spaces) (λ F. with_own_shown F p q)
  changes-got bytes shows c = record {
    machine = c.machine;
    others = c.others;
    memory = c.memory;
    notes = c.notes;
    tells = c.tells;
    flat = λ born notes nf tell whole.
        let y = shows refl born notes in
        c.flat born notes nf tell whole ∙ lost-none (with_own_page (flat_memory (memory_of old spaces) born notes) p q bytes) old free
        ∙ gets-page old spaces p q x fits owns.here born notes bytes (owner-private (memory_of old spaces) p q m i x fits owns) (y.1 ∙ ap (λ (b : Page). Some b) (y.2 nf tell));
    shaped = λ born notes.
        let F : Flat = flat_memory (memory_of old spaces) born notes in
        let y = shows refl born notes in
        c.shaped born notes ∙ tails-same (with_own_page F p q bytes) (tails_lost old (is_name (next_name old.store))) ∙ own-alike F p q bytes y.0
        ∙ ap without_bytes (gets-page old spaces p q x fits owns.here born notes y.0 (owner-private (memory_of old spaces) p q m i x fits owns) y.1);
  }

  -- from a slot that its place held
  pub changes-held : (s : ℕ) → slot_in old.maps m i ≡ Some s → ChangesMemory p (memory_of old spaces) (memory_of new spaces) (λ F. tails_cleared F (tails_lost old (is_name (next_name old.store))))
      → ChangesMemory p (memory_of old spaces) (memory_of new spaces) (λ F. with_own_shown F p q)
  changes-held s holds = changes-as p (memory_of old spaces) (memory_of new spaces) (λ F. tails_cleared F (tails_lost old (is_name (next_name old.store)))) (λ F. with_own_shown F p q)
      (λ born notes. lost-none (flat_memory (memory_of old spaces) born notes) old free
      ∙ sym (kept-own old spaces p q x fits owns.here born notes s (ap (option_and_then (λ number. slot_in old.maps number x.1)) owns.own ∙ ap (λ (k : ℕ). slot_in old.maps m k) owns.place ∙ holds)))
