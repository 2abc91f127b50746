-- THE PAGE OF A SLOT IS MADE: what the world is then.
use Rattle.std.proofs.Common.{◌≡◌, ℕ, Bool, true, List, Option, Some, None, refl, sym, ap, ◌∙◌, arith}
use Rattle.std.specs.Prelude.{IfSome}
use Rattle.page_store.specs.page_hash.Names.{is_name}
use Rattle.page_store.specs.page_lock.Rows.{row_at}
use Rattle.page_store.specs.Laws.{FillsPage}
use Rattle.page_store.specs.Moves.{FillsFrame, after_taking}
use Rattle.page_store.specs.Notes.{Notes}
use Rattle.page_store.specs.Seen.{StoreSeen, IsListedFrame, residence}
use Rattle.page_store.specs.Steps.{next_frame, next_name}
use Rattle.page_store.specs.StoreFits.{StoreFits}
use Rattle.page_store.specs.Table.{PlaceTable}
use Rattle.page_store.specs.Value.{value, tells}
use Rattle.page_store.specs.declared.place.Place.{Place}
use Rattle.page_store.specs.declared.residence.Residence.TheVariants.{Home}
use Rattle.page_store.proofs.TableLemmas.{table_law}
use Rattle.vm_world.specs.anon_map.Maps.{Map}
use Rattle.vm_world.specs.anon_slots.Slots.{AnonSlotsSeen, count_at}
use Rattle.vm_world.specs.flat_model.Words.{Page}
use Rattle.vm_world.specs.MemoryFits.{MemoryFits}
use Rattle.vm_world.specs.NotesFit.{NotesFit}
use Rattle.vm_world.specs.Segments.{Spaces}
use Rattle.vm_world.specs.StateSteps.{PendsTails}
use Rattle.vm_world.specs.World.{World, slot_name, page_table, world_table}
use Rattle.vm_world.proofs.FrameRule.{exists-page}
use Rattle.vm_world.proofs.PageNames.{slot-page}
use Rattle.seg_ops.specs.Slots.{MakesSlot, MakesHome, MakesPage}
use Rattle.seg_ops.proofs.Fills.{TakesFor}
use Rattle.seg_ops.proofs.FillSteps.{next-whole}
use Rattle.seg_ops.proofs.NewlyModified.{fill-modifies}
use Rattle.seg_ops.proofs.Pending.{loses, lost-before}
use Rattle.seg_ops.proofs.SlotMemory.{with_slot, AreShown, free-unnamed, exists-apart, made-memory}
use Rattle.seg_ops.proofs.SlotNotes.{made-notes}
use Rattle.seg_ops.proofs.SlotTables.{table-else, table-spot, page-name-made, fits-made}
use Rattle.seg_ops.proofs.StillSteps.{memory_of, value-is}

pub made-page : (w : World) (spaces : Spaces) (new : StoreSeen) (anon : AnonSlotsSeen) (put : List (Option Map)) (m i s frame : ℕ) (bytes : Page) → MemoryFits (memory_of w spaces) → MakesSlot w.anon anon w.maps put m i s → TakesFor w.store new (slot_name s) frame → (row_at new.rows frame).modified ≡ true → AreShown w spaces put
    → ((notes : Notes) (table : PlaceTable) → StoreFits w.store notes table → FillsFrame w.store notes new notes table (slot_name s) bytes) → MakesPage w (with_slot w new anon put) spaces (is_name (next_name w.store)) m i s bytes
made-page w spaces new anon put m i s frame bytes f k t dirty shown fills =
    let unnamed = free-unnamed w s f.frames k.free in
    let filled : (notes : Notes) → NotesFit w notes → FillsFrame w.store notes new notes (page_table w.files anon) (slot_name s) bytes =
    λ notes nf. fills notes (page_table w.files anon) (fits-made w anon put m i s notes f.files k unnamed nf.stored) in
    record {
      slot = k;
      files = refl;
      hat = refl;
      core = t.core;
      frames = t.laws.touches.frames;
      bays = t.laws.outside.bays;
      memory = made-memory w spaces new anon put m i s frame f k t dirty shown;
      notes = λ notes nf. made-notes w spaces new anon put m i s frame notes f k t dirty (filled notes nf).fits nf;
      tells = λ notes nf. (
        (λ tell n real. ap (tells new notes) (table-spot w anon put m i s n f.files k).disk ∙ (filled notes nf).alike (world_table w n).disk ∙ tell n (sym (page-name-made w anon put m i s n k) ∙ real)),
        (λ tell n real. sym ((filled notes nf).alike (world_table w n).disk) ∙ sym (ap (tells new notes) (table-spot w anon put m i s n f.files k).disk) ∙ tell n (page-name-made w anon put m i s n k ∙ real)),
      );
      whole = λ notes n nf tell exists cut. next-whole w spaces notes n f cut;
      page = λ notes nf. value-is (with_slot w new anon put) notes (slot_name s) (slot-page w.files anon s (let lt = k.there in let e = k.slots in omega (arith, lt, e))) ∙ (filled notes nf).filled;
      pages = λ notes n nf tell exists.
          let is = exists-page w n f.files exists in
          let ne = exists-apart w.files w.anon anon w.maps put m i s n k exists in
          let place : page_table w.files anon n ≡ world_table w n = table-else w anon put m i s n k ne in
          value-is (with_slot w new anon put) notes n (page-name-made w anon put m i s n k ∙ is)
          ∙ (filled notes nf).others n ne (ap (λ (p : Place). tells w.store notes p.disk) place ∙ tell n is)
          ∙ ap (λ (p : Place). after_taking (next_name w.store) n p (value w.store notes (page_table w.files anon) n)) place
          ∙ ap (after_taking (next_name w.store) n (world_table w n)) (table_law.same w.store notes (world_table w) (page_table w.files anon) n place ∙ sym (value-is w notes n is));
    }

-- The slot is held, and its page home.
pub made-home : (old new : World) (pending more slot : ℕ) (modified : Bool) (bytes : Notes → PlaceTable → List ℕ) → FillsPage old.store new.store (slot_name slot) modified bytes → count_at old.anon slot ≡ 0 → count_at new.anon slot ≡ 1
    → PendsTails old (is_name (next_name old.store)) pending more → new.hat.places ≡ old.hat.places → MakesHome old new pending more slot
made-home old new pending more slot modified bytes fills free once pends places = record {
  free = free;
  once = once;
  home = both (next_frame old.store) fills.home fills.unlisted;
  took = loses old new fills.sound fills.lost;
  pends = pends;
  modified = fill-modifies old new (slot_name slot) modified bytes fills places;
}
  where
    both : (o : Option ℕ) → IfSome o (λ frame. residence new.store (slot_name slot) ≡ Home frame) → IfSome o (λ frame. ¬ IsListedFrame new.store frame)
        → IfSome o (λ frame. (residence new.store (slot_name slot) ≡ Home frame) × (¬ IsListedFrame new.store frame))
    both None home unlisted = tt
    both (Some frame) home unlisted = (home, unlisted)

-- The same, where another slot was counted once less before.
pub home-again : (old new : World) (anon : AnonSlotsSeen) (maps : List (Option Map)) (pending more slot : ℕ) → count_at old.anon slot ≡ 0 → MakesHome (record old { anon = anon; maps = maps }) new pending more slot → MakesHome old new pending more slot
home-again old new anon maps pending more slot free made = record {
  free = free;
  once = made.once;
  home = made.home;
  took = lost-before (next_name old.store) old (record old { anon = anon; maps = maps }) new refl made.took;
  pends = record { bits = made.pends.bits; below = made.pends.below };
  modified = record { modified = made.modified.modified; rewritten = made.modified.rewritten };
}
