use Rattle.std.proofs.Common.{refl, sym, ap, ◌∙◌, subst}
use Rattle.page_store.specs.Laws.{Aborts}
use Rattle.page_store.specs.Seen.{StoreSeen}
use Rattle.page_store.specs.Steps.{after_abort}
use Rattle.vm_world.specs.MemoryFits.{MemoryFits}
use Rattle.vm_world.specs.Segments.{Spaces}
use Rattle.vm_world.specs.Serving.{ModifiesNone}
use Rattle.vm_world.specs.World.{World, world_seen, slot_name}
use Rattle.seg_ops.specs.Empties.{EmptiesPlace}
use Rattle.seg_ops.proofs.GivenUp.{GivesUp, gives-up}
use Rattle.seg_ops.proofs.NewlyModified.{given-modifies}
use Rattle.seg_ops.proofs.SlotDrops.{dropped-place}
use Rattle.seg_ops.proofs.SlotLeaves.{IsUnloadedPlace, owned-unloaded, zero-unloaded}
use Rattle.seg_ops.proofs.SlotUnheld.{changes-left}
use Rattle.seg_ops.proofs.StillSteps.{memory_of}
use Rattle.seg_ops.proofs.empties.drop_slot.Given.{Over}
use Rattle.seg_ops.proofs.empties.drop_slot.Goals.{After-abort}
use Rattle.seg_ops.proofs.empties.drop_slot.Goals as goal

-- the page of the slot is given up
up : (g : Over) (c : After-abort g) → GivesUp c.args.world.now.store c.abort.new.self (slot_name c.args.slot)
up g c =
    let n = slot_name c.args.slot in
    let same = ap (λ a. a.store) c.take_out.ensures.rest in
    gives-up c.args.world.now.store c.abort.new.self n c.requires.fits.1.frames.sound (c.abort.ensures.new ∙ ap (λ (s : StoreSeen). after_abort s n) same) (subst (λ (s : StoreSeen). Aborts s c.abort.new.self n) same c.abort.ensures.laws)

pub returns-clause-modified : goal.returns-clause-modified
returns-clause-modified g c =
    let w = world_seen c.args.world.now in
    subst (λ (u : World). ModifiesNone w u) (sym (ap (λ a. record (world_seen a) { store = c.abort.new.self }) c.take_out.ensures.rest))
    (given-modifies w (record w { store = c.abort.new.self; anon = c.take_out.new.world.anon; maps = c.take_out.new.world.maps }) (slot_name c.args.slot) (up g (goal.at.returns-clause-modified g c).After-abort) refl)

-- the place is emptied, which no page shows that has a translation
empties : (g : Over) (c : After-abort g) (spaces : Spaces) → MemoryFits (memory_of (world_seen c.args.world.now) spaces) → IsUnloadedPlace c.args.world.now.hat.places spaces c.args.map c.args.place
    → EmptiesPlace (world_seen c.args.world.now) (record (world_seen c.take_out.new.world) { store = c.abort.new.self }) spaces c.args.map c.args.place c.args.slot
empties g c spaces fits far =
    let w = world_seen c.args.world.now in
    let v = c.take_out.new.world in
    subst (λ (u : World). EmptiesPlace w u spaces c.args.map c.args.place c.args.slot) (sym (ap (λ a. record (world_seen a) { store = c.abort.new.self }) c.take_out.ensures.rest))
    (dropped-place w spaces c.abort.new.self v.anon v.maps c.args.map c.args.place c.args.slot fits c.take_out.ensures.leaves c.requires.alone (up g c) far)

pub returns-clause-empties : goal.returns-clause-empties
returns-clause-empties g c = λ spaces p q x fits owns unloaded.
    empties g (goal.at.returns-clause-empties g c).After-abort spaces fits (owned-unloaded (world_seen c.args.world.now) spaces p q c.args.map c.args.place x fits owns unloaded)

pub returns-clause-zeros : goal.returns-clause-zeros
returns-clause-zeros g c = λ spaces z fits zero.
    empties g (goal.at.returns-clause-zeros g c).After-abort spaces fits (zero-unloaded (world_seen c.args.world.now) spaces z c.args.map c.args.place fits zero)

pub returns-clause-changes : goal.returns-clause-changes
returns-clause-changes g c = λ spaces p q x fits owns unloaded.
    let w = world_seen c.args.world.now in
    let new = record (world_seen c.take_out.new.world) { store = c.abort.new.self } in
    changes-left p q x w new spaces c.args.map c.args.place c.args.slot fits (returns-clause-empties g c spaces p q x fits owns unloaded) owns
