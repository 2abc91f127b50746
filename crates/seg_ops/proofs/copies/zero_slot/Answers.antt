use Rattle.std.proofs.Common.{◌≡◌, None, Some, sym, ap, ◌∙◌, subst, slice_set}
use Rattle.vm_world.specs.hat_layer.Pool.{translation_at}
use Rattle.page_store.specs.core_arena.Bytes.{zeros}
use Rattle.page_store.specs.page_hash.Names.{is_name}
use Rattle.page_store.specs.Steps.{next_name}
use Rattle.vm_world.specs.anon_map.Maps.{places_of, with_places}
use Rattle.vm_world.specs.flat_model.Step.{tails_cleared}
use Rattle.vm_world.specs.CallSteps.{ChangesMemory}
use Rattle.vm_world.specs.World.{World, slot_in, world_seen}
use Rattle.vm_world.specs.declared.world.World as rust
use Rattle.vm_world.specs.WorldSteps.{tails_lost}
use Rattle.seg_ops.specs.Slots.{MakesHome, with_own_page}
use Rattle.seg_ops.proofs.SlotCopies.{changes-again, own-blank, own-held}
use Rattle.vm_world.specs.anon_slots.Slots.{AnonSlotsSeen, count_at}
use Rattle.seg_ops.proofs.SlotCounts.{left-free}
use Rattle.seg_ops.proofs.SlotPlaces.{place-twice, slot-here}
use Rattle.seg_ops.proofs.SlotSteps.{home-again}
use Rattle.seg_ops.proofs.StillSteps.{memory_of}
use Rattle.seg_ops.proofs.copies.zero_slot.Goals as goal

pub make_zero-requires-clause-empty : goal.make_zero-requires-clause-empty
make_zero-requires-clause-empty g c =
    let maps = c.args.world.now.maps in
    let m = c.args.map in
    let i = c.args.place in
    ap (λ ps. slot_in ps m i) c.leave_slot.ensures.maps ∙ slot-here maps m i None c.requires.within

pub make_zero-requires-clause-fits : goal.make_zero-requires-clause-fits
make_zero-requires-clause-fits g c =
    let o = c.requires.owned in
    (o.0, (c.leave_slot.ensures.empties o.0 o.1 o.2 o.3 o.4 o.5 o.6).memory)

pub returns-clause-maps : goal.returns-clause-maps
returns-clause-maps g c =
    let maps = c.args.world.now.maps in
    let m = c.args.map in
    let i = c.args.place in
    c.make_zero.ensures.maps
    ∙ ap (λ ps. with_places ps m (slice_set (places_of ps m) i (Some c.make_zero.result))) c.leave_slot.ensures.maps
    ∙ place-twice maps m i None (Some c.make_zero.result) c.requires.within

pub returns-clause-changes : goal.returns-clause-changes
returns-clause-changes g c = λ spaces p q x fits owns unloaded.
    let w = world_seen c.args.world.now in
    let mid = world_seen c.leave_slot.new.world in
    let new = world_seen c.make_zero.new.world in
    let left = c.leave_slot.ensures.empties spaces p q x fits owns unloaded in
    let none = ap (λ hat. translation_at hat.places p q) left.hat ∙ unloaded in
    let made = c.make_zero.ensures.owned spaces p q x left.memory owns none in
    changes-again w spaces p q x zeros owns.here (own-blank w spaces p q c.args.map c.args.place c.args.slot x fits c.requires.holds owns c.requires.absent c.requires.blank)
    (own-held w spaces p q c.args.map c.args.place c.args.slot x fits c.requires.holds owns) mid new (tails_lost w (is_name (next_name w.store)))
    (c.leave_slot.ensures.changes spaces p q x fits owns unloaded)
    (subst (λ (v : World). ChangesMemory p (memory_of mid spaces) (memory_of new spaces) (λ F. tails_cleared (with_own_page F p q zeros) (tails_lost v (is_name (next_name v.store))))) (ap world_seen c.leave_slot.ensures.rest) made)

pub returns-clause-made : goal.returns-clause-made
returns-clause-made g c =
    let w = world_seen c.args.world.now in
    let v = c.leave_slot.new.world in
    let new = c.make_zero.new.world in
    let s = c.make_zero.result in
    home-again w (world_seen new) v.anon v.maps c.args.world.now.pending new.pending s
    (left-free w.anon c.args.slot s c.requires.shared (sym (ap (λ (a : AnonSlotsSeen). count_at a s) c.leave_slot.ensures.anon) ∙ c.make_zero.ensures.made.free))
    (subst (λ (u : rust.World g.row.D.Denot). MakesHome (world_seen u) (world_seen new) u.pending new.pending s) c.leave_slot.ensures.rest c.make_zero.ensures.made)
