-- A PLACE GETS A COPY of the page of its slot, which other places hold too: flat memory stays as it was.
use Rattle.std.proofs.Common.{◌≡◌, ℕ, ◌<◌, Bool, Option, Some, length, sym, ap, ◌∙◌}
use Rattle.std.specs.Prelude.{IsTrue, option_map, option_and_then}
use Rattle.std.specs.Option.{option_or}
use Rattle.page_store.specs.core_arena.Bytes.{zeros}
use Rattle.page_store.specs.Notes.{Notes}
use Rattle.page_store.specs.Seen.{residence}
use Rattle.page_store.specs.declared.residence.Residence.TheVariants.{Absent}
use Rattle.page_store.specs.Value.{value}
use Rattle.page_store.proofs.QueryLemmas.{absent-is}
use Rattle.vm_world.specs.flat_model.Flat.{Flat}
use Rattle.vm_world.specs.flat_model.Shapes.{without_bytes}
use Rattle.vm_world.specs.flat_model.Step.{tails_cleared}
use Rattle.vm_world.specs.flat_model.Words.{Page}
use Rattle.vm_world.specs.CallSteps.{ChangesMemory}
use Rattle.vm_world.specs.FlatMemory.{cell_of, own_without_slot, flat_memory}
use Rattle.vm_world.specs.MemoryFits.{MemoryFits}
use Rattle.vm_world.specs.NotesFit.{NotesFit}
use Rattle.vm_world.specs.Pages.{page_value, contents_of}
use Rattle.vm_world.specs.Segments.{Spot, Spaces, spot_at}
use Rattle.vm_world.specs.World.{World, slot_in, slot_name, world_table, is_unpushed, AllTell}
use Rattle.vm_world.proofs.CallSteps.{call_rule}
use Rattle.vm_world.proofs.Counts.{held-used, used-below}
use Rattle.vm_world.proofs.Maps.{cell-at}
use Rattle.vm_world.proofs.PageNames.{slot-page}
use Rattle.seg_ops.specs.Copies.{HasBytes}
use Rattle.seg_ops.specs.OwnPages.{without_own_page}
use Rattle.seg_ops.specs.Slots.{OwnsAlone, with_own_page}
use Rattle.seg_ops.proofs.Fills.{blank-is}
use Rattle.seg_ops.proofs.FillSteps.{absent-zeros}
use Rattle.seg_ops.proofs.OwnPages.{flat-unheld, own-back}
use Rattle.vm_world.proofs.flat_model.ShapeSteps.{tails-same}
use Rattle.seg_ops.proofs.SlotShapes.{cleared-respects, own-alike, own-respects}
use Rattle.seg_ops.proofs.StillSteps.{memory_of, value-is}
use Rattle.std.specs.FinSet as set
use Rattle.std.specs.Ordering.{nat_cmp}

module _ (w : World) (spaces : Spaces) (p q : ℕ) (x : Spot) (bytes : Page) (here : spot_at spaces p q ≡ Some x) (own : (notes : Notes) → NotesFit w notes → AllTell w notes → (cell_of (contents_of w notes).place x).own ≡ Some bytes)
    (held : (notes : Notes) → (y : Page) × ((cell_of (contents_of w notes).place x).own ≡ Some y)) where
  back : (notes : Notes) (born : set.FinSet nat_cmp) (y : Page) → (cell_of (contents_of w notes).place x).own ≡ Some y → with_own_page (without_own_page (flat_memory (memory_of w spaces) born notes) p q) p q y ≡ flat_memory (memory_of w spaces) born notes
  back notes born y is =
      own-back (flat_memory (memory_of w spaces) born notes) p q (cell_of (contents_of w notes).place x) y
      (cell-at (contents_of w notes).place spaces p q ∙ ap (option_map (cell_of (contents_of w notes).place)) here) is

  copied-back : (notes : Notes) (born : set.FinSet nat_cmp) → NotesFit w notes → AllTell w notes → with_own_page (without_own_page (flat_memory (memory_of w spaces) born notes) p q) p q bytes ≡ flat_memory (memory_of w spaces) born notes
  copied-back notes born nf tell = back notes born bytes (own notes nf tell)

  -- THE PLACE IS EMPTIED, and then gets the bytes that it had.
  pub changes-again : (mid new : World) (lost : ℕ → Bool) → ChangesMemory p (memory_of w spaces) (memory_of mid spaces) (λ F. without_own_page F p q)
      → ChangesMemory p (memory_of mid spaces) (memory_of new spaces) (λ F. tails_cleared (with_own_page F p q bytes) lost)
      → ChangesMemory p (memory_of w spaces) (memory_of new spaces) (λ F. tails_cleared F lost)
  changes-again mid new lost a b =
      let j = call_rule.joined p (memory_of w spaces) (memory_of mid spaces) (memory_of new spaces) (λ F. without_own_page F p q) (λ F. tails_cleared (with_own_page F p q bytes) lost) (λ born notes nf tell is. flat-unheld (flat_memory (memory_of w spaces) born notes) p q is) (cleared-respects (λ F. with_own_page F p q bytes) lost (own-respects p q bytes)) a b in
      record {
        machine = j.machine;
        others = j.others;
        memory = j.memory;
        notes = j.notes;
        tells = j.tells;
        flat = λ born notes nf tell is. j.flat born notes nf tell is ∙ ap (λ (G : Flat). tails_cleared G lost) (copied-back notes born nf tell);
        shaped = λ born notes.
            let F : Flat = flat_memory (memory_of w spaces) born notes in
            let y : Page = (held notes).0 in
            j.shaped born notes ∙ tails-same (with_own_page (without_own_page F p q) p q bytes) lost ∙ own-alike (without_own_page F p q) p q bytes y
            ∙ ap without_bytes (back notes born y (held notes).1) ∙ sym (tails-same F lost);
      }

module _ (w : World) (spaces : Spaces) (p q m i s : ℕ) (x : Spot) (f : MemoryFits (memory_of w spaces)) (holds : slot_in w.maps m i ≡ Some s) (owns : OwnsAlone spaces p q m i x) where
  slot-there : s < length w.anon.counts
  slot-there = used-below w.anon.counts s (held-used w.anon w.maps m i s f.counts holds)

  -- the cell has the value of the slot's page
  own-value : (notes : Notes) → (cell_of (contents_of w notes).place x).own ≡ Some (value w.store notes (world_table w) (slot_name s))
  own-value notes =
      let held : ℕ → ℕ → Option Page = (contents_of w notes).place in
      ap (option_and_then (λ number. option_or (held number x.1) (own_without_slot x.0.object))) owns.own
      ∙ ap (λ (j : ℕ). option_or (held m j) (own_without_slot x.0.object)) owns.place
      ∙ ap (λ (o : Option ℕ). option_or (option_map (λ t. page_value w notes (slot_name t)) o) (own_without_slot x.0.object)) holds
      ∙ ap (λ (b : Page). Some b) (value-is w notes (slot_name s) (slot-page w.files w.anon s slot-there))

  -- so it has some, whatever disks tell
  pub own-held : (notes : Notes) → (y : Page) × ((cell_of (contents_of w notes).place x).own ≡ Some y)
  own-held notes = (value w.store notes (world_table w) (slot_name s), own-value notes)

  -- which are the bytes that it is known to have, or zeros where no frame holds it and it was never pushed
  pub own-bytes : (bytes : Page) → HasBytes w (slot_name s) bytes → (notes : Notes) → NotesFit w notes → AllTell w notes → (cell_of (contents_of w notes).place x).own ≡ Some bytes
  own-bytes bytes has notes nf tell = own-value notes ∙ ap (λ (b : Page). Some b) (sym (value-is w notes (slot_name s) (slot-page w.files w.anon s slot-there)) ∙ has notes nf tell)

  pub own-blank : residence w.store (slot_name s) ≡ Absent → IsTrue (is_unpushed w.files w.anon (slot_name s)) → (notes : Notes) → NotesFit w notes → AllTell w notes → (cell_of (contents_of w notes).place x).own ≡ Some zeros
  own-blank absent unpushed notes nf tell =
      own-value notes
      ∙ ap (λ (b : Page). Some b) (absent-zeros w.store notes (world_table w) (slot_name s) (absent-is w.store (slot_name s) f.frames.sound absent) (blank-is w (slot_name s) f.files (slot-page w.files w.anon s slot-there) ∙ unpushed))
