use Rattle.std.proofs.Common.{◌≡◌, ℕ, ◌<◌, ◌+◌, Bool, true, false, cond, Option, Some, None, refl, sym, ap, ◌∙◌, subst, arith}
use Rattle.std.specs.Prelude.{◌||◌, is_some, option_and_then}
use Rattle.std.proofs.lemmas.Bool.{not-true, not-false}
use Rattle.seg_ops.specs.anon_slots.Slots.{count_at}
use Rattle.seg_ops.specs.vm_types.Prot.{can_read, can_write}
use Rattle.seg_ops.specs.vm_world.Segments.{Spot}
use Rattle.seg_ops.specs.vm_world.Wants.{object_has}
use Rattle.seg_ops.specs.vm_world.World.{world_seen, slot_in}
use Rattle.seg_ops.proofs.vm_world.Counts.{held-used, used-below}
use Rattle.seg_ops.proofs.vm_world.FlatWhole.{some-inj}
use Rattle.seg_ops.proofs.SlotMemory.{lt-used}
use Rattle.seg_ops.proofs.StillSteps.{memory_of}
use Rattle.seg_ops.specs.Faults.{ServesFault}
use Rattle.seg_vn.proofs.FaultPlaces.{own-private, own-there}
use Rattle.seg_vn.proofs.FaultSteps.{own-shown}
use Rattle.seg_vn.proofs.FilePlaces.{either-allowed, write-allowed}
use Rattle.seg_vn.proofs.segment.VnSeg.fault_slot.Given.{Over}
use Rattle.seg_vn.proofs.segment.VnSeg.fault_slot.Goals.{In-Some}
use Rattle.seg_vn.proofs.segment.VnSeg.fault_slot.Goals as goal

-- the place holds the slot, which is in use
held : (g : Over) (c : In-Some g) → slot_in c.args.world.now.maps c.in-Some.map c.args.fault.place ≡ Some c.args.slot
held g c = sym (ap (option_and_then (λ (n : ℕ). slot_in c.args.world.now.maps n c.args.fault.place)) (sym c.own.ensures ∙ c.in-Some.is)) ∙ c.requires.own

used : (g : Over) (c : In-Some g) → 0 < count_at c.args.world.now.anon c.args.slot
used g c = held-used c.args.world.now.anon c.args.world.now.maps c.in-Some.map c.args.fault.place c.args.slot c.requires.fits.1.counts (held g c)

pub count-requires : goal.count-requires
count-requires g c = used-below c.args.world.now.anon.counts c.args.slot (used g (goal.at.count-requires g c).In-Some)

pub fault_page-requires-clause-home : goal.fault_page-requires-clause-home
fault_page-requires-clause-home g c = let h = c.requires.home 0 in (h.0, h.2)

pub fault_page-requires-then-not-fault-clause-exists : goal.fault_page-requires-then-not-fault-clause-exists
fault_page-requires-then-not-fault-clause-exists g c = lt-used (count_at c.args.world.now.anon c.args.slot) (used g (goal.at.fault_page-requires-then-not-fault-clause-exists g c).In-Some)

pub fault_page-requires-then-not-fault-clause-home : goal.fault_page-requires-then-not-fault-clause-home
fault_page-requires-then-not-fault-clause-home g c = let h = c.requires.home 0 in (h.0, h.2)

pub fault_copy-requires-clause-own : goal.fault_copy-requires-clause-own
fault_copy-requires-clause-own g c =
    let o = c.requires.fits in
    let is = own-there (world_seen c.args.world.now) o.0 c.args.fault.process c.args.fault.page (c.args.self.now, c.args.fault.place) o.1 o.2 c.in-Some.map (sym c.own.ensures ∙ c.in-Some.is) in
    record { there = is.0; within = is.1; holds = held g (goal.at.fault_copy-requires-clause-own g c).In-Some }

pub fault_copy-requires-clause-exists : goal.fault_copy-requires-clause-exists
fault_copy-requires-clause-exists g c = lt-used (count_at c.args.world.now.anon c.args.slot) (used g (goal.at.fault_copy-requires-clause-exists g c).In-Some)

pub fault_copy-requires-clause-shared : goal.fault_copy-requires-clause-shared
fault_copy-requires-clause-shared g c =
    let some = used g (goal.at.fault_copy-requires-clause-shared g c).In-Some in
    let ne = c.if-count-eq1.false in
    let is = c.count.ensures in
    (omega (arith, some, ne, is), refl)

pub fault_copy-requires-clause-fits : goal.fault_copy-requires-clause-fits
fault_copy-requires-clause-fits g c =
    let o = c.requires.fits in
    (o.0, (c.args.self.now, c.args.fault.place), o.1, record { here = o.2; own = sym c.own.ensures ∙ c.in-Some.is; place = refl })

-- a slot of its own alone
pub returns-then-count-eq1-clause-serves : goal.returns-then-count-eq1-clause-serves
returns-then-count-eq1-clause-serves g c = λ spaces fits here.
    let w = world_seen c.args.world.now in
    let x : Spot = (c.args.self.now, c.args.fault.place) in
    let s = c.args.slot in
    let writable : c.can_write.result ≡ can_write x.0.prot = c.can_write.ensures ∙ ap can_write c.prot.ensures in
    c.fault_page.ensures.serves spaces x c.args.fault.write fits (record {
      here = here;
      shows = own-shown w.maps x s c.requires.own;
      some = ap (λ (o : Option ℕ). is_some o || object_has w x.0.shown (x.0.index + x.1) x.0.object) c.requires.own;
      allowed = either-allowed c.args.fault.write (can_read x.0.prot) (can_write x.0.prot) c.requires.allowed;
      in_place = λ writes. record { prot = sym writable ∙ writes; alone = λ private. (s, c.requires.own, sym c.count.ensures ∙ c.if-count-eq1.true) };
      opens = λ may. writable ∙ may.prot;
      lets = λ write. writable ∙ write-allowed c.args.fault.write (can_read x.0.prot) (can_write x.0.prot) c.requires.allowed write;
    })

-- a load of one that other places hold too
pub returns-then-not-fault-clause-serves : goal.returns-then-not-fault-clause-serves
returns-then-not-fault-clause-serves g c = λ spaces fits here.
    let w = world_seen c.args.world.now in
    let x : Spot = (c.args.self.now, c.args.fault.place) in
    let s = c.args.slot in
    let read : c.args.fault.write ≡ false = not-true c.args.fault.write c.if-not-fault.true in
    c.fault_page-then-not-fault.ensures.serves spaces x c.args.fault.write fits (record {
      here = here;
      shows = own-shown w.maps x s c.requires.own;
      some = ap (λ (o : Option ℕ). is_some o || object_has w x.0.shown (x.0.index + x.1) x.0.object) c.requires.own;
      allowed = either-allowed c.args.fault.write (can_read x.0.prot) (can_write x.0.prot) c.requires.allowed;
      in_place = λ writes. absurd (let z : false ≡ true = writes in cc);
      opens = λ may. absurd (
          let a = may.alone (own-private w spaces c.args.fault.process c.args.fault.page x fits here c.in-Some.map (sym c.own.ensures ∙ c.in-Some.is)) in
          let same : s ≡ a.0 = some-inj s a.0 (sym c.requires.own ∙ a.1) in
          c.if-count-eq1.false (c.count.ensures ∙ ap (count_at w.anon) same ∙ a.2));
      lets = λ write. absurd (let z : false ≡ true = sym read ∙ write in cc);
    })

pub returns-clause-serves : goal.returns-clause-serves
returns-clause-serves g c = λ spaces fits here.
    let w = world_seen c.args.world.now in
    let x : Spot = (c.args.self.now, c.args.fault.place) in
    let s = c.args.slot in
    let at = (goal.at.returns-clause-serves g c).In-Some in
    let write : c.args.fault.write ≡ true = not-false c.args.fault.write c.if-not-fault.false in
    let some = used g at in
    let ne = c.if-count-eq1.false in
    let is = c.count.ensures in
    subst (λ (b : Bool). ServesFault (memory_of w spaces) (memory_of (world_seen c.fault_copy.new.world) spaces) c.args.world.now.pending c.fault_copy.new.world.pending c.args.fault.process c.args.fault.page x b c.fault_copy.result) (sym write)
    (c.fault_copy.ensures.serves spaces x fits (record {
      here = here;
      own = sym c.own.ensures ∙ c.in-Some.is;
      place = refl;
      holds = held g at;
      shared = λ k e. subst (λ (j : ℕ). 1 < count_at w.anon j) (some-inj s k e) (omega (arith, some, ne, is));
      bare = λ none. absurd (let z : Some s ≡ None = none in cc);
      shows = own-shown w.maps x s c.requires.own;
      some = ap (λ (o : Option ℕ). is_some o || object_has w x.0.shown (x.0.index + x.1) x.0.object) c.requires.own;
      allowed = sym (ap (λ (b : Bool). cond b (can_write x.0.prot) (can_read x.0.prot)) write) ∙ c.requires.allowed;
    }))
