use Rattle.seg_ops.proofs.Shows.{of-frame as of-next}
use Rattle.std.proofs.Common.{◌≡◌, true, List, Option, Some, refl, sym, ap, subst, slice_set}
use Rattle.page_store.specs.page_hash.Names.{is_name}
use Rattle.page_store.specs.page_hash.declared.PageName.{PageName}
use Rattle.page_store.specs.page_lock.Rows.{row_at}
use Rattle.page_store.specs.page_lock.declared.Row.{Row}
use Rattle.page_store.specs.Steps.{next_frame, next_name, fresh_row}
use Rattle.vm_world.specs.anon_map.Maps.{Map, places_of, with_places}
use Rattle.vm_world.specs.anon_slots.Slots.{AnonSlotsSeen, IsSoundAnonSlots}
use Rattle.vm_world.specs.StateSteps.{PendsTails}
use Rattle.vm_world.specs.World.{World, world_seen, slot_name}
use Rattle.vm_world.proofs.Counting.{room}
use Rattle.seg_ops.specs.Copies.{copied_bytes}
use Rattle.seg_ops.specs.Slots.{MakesSlot, MakesHome, MakesPage}
use Rattle.seg_ops.proofs.FillSteps.{some-of, takes-page}
use Rattle.seg_ops.proofs.SlotCounts.{made-slot, least-there}
use Rattle.seg_ops.proofs.SlotFlat.{changes-owned}
use Rattle.seg_ops.proofs.SlotMemory.{AreShown, free-absent, copy-shown, next-exists}
use Rattle.seg_ops.proofs.SlotSteps.{made-page, made-home}
use Rattle.seg_ops.proofs.anon.make_copy.Given.{Over}
use Rattle.seg_ops.proofs.anon.make_copy.Goals.{After-set}
use Rattle.seg_ops.proofs.anon.make_copy.Goals as goal

pub make-slot-requires : goal.make-slot-requires
make-slot-requires g c = let fit = c.requires.fits.1 in room c.args.world.now.anon c.args.world.now.maps c.args.map c.args.place fit.counts c.requires.within c.requires.empty

pub fill_from-requires-clause-absent : goal.fill_from-requires-clause-absent
fill_from-requires-clause-absent g c = free-absent (world_seen c.args.world.now) c.make-slot.result c.requires.fits.1.frames c.make-slot.ensures.free

-- the slot that was made
slot : (g : Over) (c : After-set g) → MakesSlot c.args.world.now.anon c.make-slot.new.self c.args.world.now.maps c.set.new.self c.args.map c.args.place c.make-slot.result
slot g c =
    let w = world_seen c.args.world.now in
    let s = c.make-slot.result in
    let sound = subst IsSoundAnonSlots c.make-slot.ensures.new c.make-slot.ensures.sound in
    subst (λ (ps : List (Option Map)). MakesSlot w.anon c.make-slot.new.self w.maps ps c.args.map c.args.place s) (sym c.set.ensures)
    (subst (λ (a : AnonSlotsSeen). MakesSlot w.anon a w.maps (with_places w.maps c.args.map (slice_set (places_of w.maps c.args.map) c.args.place (Some s))) c.args.map c.args.place s) (sym c.make-slot.ensures.new)
    (made-slot w.anon w.maps c.args.map c.args.place s c.requires.fits.1.counts c.make-slot.ensures.free (least-there w.anon.counts s c.make-slot.ensures.least) sound c.requires.within c.requires.empty))

pub pend_tail-requires-clause-exists : goal.pend_tail-requires-clause-exists
pend_tail-requires-clause-exists g c =
    let w = world_seen c.args.world.now in
    next-exists w c.requires.fits.0 c.make-slot.new.self c.set.new.self c.args.map c.args.place c.make-slot.result c.next_name-lost.result c.requires.fits.1 (slot g (goal.at.pend_tail-requires-clause-exists g c).After-set) c.next_name-lost.ensures

pub returns-clause-made : goal.returns-clause-made
returns-clause-made g c =
    let w = world_seen c.args.world.now in
    let s = c.make-slot.result in
    let k = slot g (goal.at.returns-clause-made g c).After-set in
    let pends = subst (λ (o : Option PageName). PendsTails w (is_name o) c.args.world.now.pending c.pend_tail.new.world.pending) c.next_name-lost.ensures
    (record { bits = c.pend_tail.ensures.pends.bits; below = c.pend_tail.ensures.pends.below }) in
    subst (λ (v : World). MakesHome w v c.args.world.now.pending c.pend_tail.new.world.pending s) (sym (ap world_seen c.pend_tail.ensures.rest))
    (made-home w (record w { store = c.fill_from.new.self; anon = c.make-slot.new.self; maps = c.set.new.self }) c.args.world.now.pending c.pend_tail.new.world.pending s true (λ notes table. copied_bytes c.args.world.now.store c.args.front) c.fill_from.ensures.laws c.make-slot.ensures.free k.alone pends refl)

pub returns-clause-makes : goal.returns-clause-makes
returns-clause-makes g c = λ spaces p q x fits owns unloaded.
    let w = world_seen c.args.world.now in
    let s = c.make-slot.result in
    let k = slot g (goal.at.returns-clause-makes g c).After-set in
    let next = some-of (next_frame w.store) c.requires.available in
    let bytes = copied_bytes c.args.world.now.store c.args.front in
    let store = c.fill_from.new.self in
    let takes = takes-page w spaces store (slot_name s) next.0 bytes true (λ notes table. bytes) fits next.1 (free-absent w s fits.frames k.free) c.fill_from.ensures.new c.fill_from.ensures.laws in
    let shown = subst (λ (ps : List (Option Map)). AreShown w spaces ps) (sym k.set) (copy-shown w spaces p q c.args.map c.args.place s x c.requires.within c.requires.empty owns unloaded) in
    subst (λ (v : World). MakesPage w v spaces (is_name (next_name w.store)) c.args.map c.args.place s bytes) (sym (ap world_seen c.pend_tail.ensures.rest))
    (made-page w spaces store c.make-slot.new.self c.set.new.self c.args.map c.args.place s next.0 bytes fits k takes
    (ap (λ (r : Row). r.modified) (of-next (next_frame w.store) next.0 (λ frame. row_at store.rows frame ≡ fresh_row true) next.1 c.fill_from.ensures.laws.row)) shown c.fill_from.ensures.laws.values)

pub returns-clause-changes : goal.returns-clause-changes
returns-clause-changes g c = λ spaces p q x fits owns unloaded.
    changes-owned p q x (world_seen c.args.world.now) (world_seen c.pend_tail.new.world) spaces (is_name (next_name c.args.world.now.store)) c.args.map c.args.place c.make-slot.result (copied_bytes c.args.world.now.store c.args.front) fits
    (returns-clause-makes g c spaces p q x fits owns unloaded) owns
