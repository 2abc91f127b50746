use Rattle.std.proofs.Common.{◌≡◌, ℕ, Bool, true, false, cond, Some, None, length, refl, sym, ap, ◌∙◌, inl, inr, subst}
use Rattle.std.specs.Prelude.{option_and_then}
use Rattle.std.proofs.lemmas.Bool.{not-true, not-false}
use Rattle.seg_ops.specs.vm_types.Prot.{can_read, can_write}
use Rattle.seg_ops.specs.vm_types.declared.call.Object.{Object}
use Rattle.seg_ops.specs.vm_world.CountsFit.{ObjectFits}
use Rattle.seg_ops.specs.vm_world.FlatMemory.{own_without_slot}
use Rattle.seg_ops.specs.vm_world.Segments.{Spot}
use Rattle.seg_ops.specs.vm_world.World.{world_seen, slot_in}
use Rattle.seg_ops.proofs.StillSteps.{memory_of}
use Rattle.seg_ops.specs.Faults.{ServesFault}
use Rattle.seg_vn.proofs.FaultPlaces.{own-private, own-there, private-has, object-fits}
use Rattle.seg_vn.proofs.FaultSteps.{shown-bare, shows-object}
use Rattle.seg_vn.proofs.FilePlaces.{either-allowed, write-allowed}
use Rattle.seg_vn.proofs.segment.VnSeg.fault_empty.Goals as goal

pub fault_zeros-requires-clause-home : goal.fault_zeros-requires-clause-home
fault_zeros-requires-clause-home g c = let h = c.requires.home 0 in (h.0, h.2)

pub fault_zeros-requires-in_default-shown-clause-home : goal.fault_zeros-requires-in_default-shown-clause-home
fault_zeros-requires-in_default-shown-clause-home g c = let h = c.requires.home 0 in (h.0, h.2)

pub fault_zeros-requires-then-not-fault-clause-home : goal.fault_zeros-requires-then-not-fault-clause-home
fault_zeros-requires-then-not-fault-clause-home g c = let h = c.requires.home 0 in (h.0, h.2)

pub own_zeros-requires-clause-home : goal.own_zeros-requires-clause-home
own_zeros-requires-clause-home g c = let h = c.requires.home 0 in (h.0, h.2)

pub own_zeros-requires-clause-own : goal.own_zeros-requires-clause-own
own_zeros-requires-clause-own g c =
    let o = c.requires.fits in
    let w = world_seen c.args.world.now in
    let own = sym c.own.ensures ∙ c.in-Some.is in
    let is = own-there w o.0 c.args.fault.process c.args.fault.page (c.args.self.now, c.args.fault.place) o.1 o.2 c.in-Some.own own in
    record { there = is.0; within = is.1; holds = sym (ap (option_and_then (λ (n : ℕ). slot_in w.maps n c.args.fault.place)) own) ∙ c.requires.bare }

pub own_zeros-requires-clause-fits : goal.own_zeros-requires-clause-fits
own_zeros-requires-clause-fits g c =
    let o = c.requires.fits in
    (o.0, (c.args.self.now, c.args.fault.place), o.1, record { here = o.2; own = sym c.own.ensures ∙ c.in-Some.is; place = refl })

pub returns-in_default-clause-serves : goal.returns-in_default-clause-serves
returns-in_default-clause-serves g c = λ spaces fits here zeros.
    let w = world_seen c.args.world.now in
    let x : Spot = (c.args.self.now, c.args.fault.place) in
    let writable : c.can_write-writable.result ≡ can_write x.0.prot = c.can_write-writable.ensures ∙ ap can_write c.prot.ensures in
    let none : x.0.own ≡ None = sym c.own.ensures ∙ c.in_default.is in
    c.fault_zeros.ensures.serves spaces x c.args.fault.write fits (record {
      here = here;
      bare = c.requires.bare;
      zeros = zeros;
      allowed = either-allowed c.args.fault.write (can_read x.0.prot) (can_write x.0.prot) c.requires.allowed;
      in_place = λ writes. (
        sym writable ∙ writes,
        λ private. let o = private-has w spaces c.args.fault.process c.args.fault.page x fits here private in absurd (let z : None ≡ Some o.0 = sym none ∙ o.1 in cc),
      );
      opens = λ may. writable ∙ may.0;
      lets = λ write. writable ∙ write-allowed c.args.fault.write (can_read x.0.prot) (can_write x.0.prot) c.requires.allowed write;
    })

-- new zero memory of a private mapping
pub returns-in_default-shown-clause-serves : goal.returns-in_default-shown-clause-serves
returns-in_default-shown-clause-serves g c = λ spaces fits here zeros.
    let w = world_seen c.args.world.now in
    let x : Spot = (c.args.self.now, c.args.fault.place) in
    let writable : c.can_write-writable.result ≡ can_write x.0.prot = c.can_write-writable.ensures ∙ ap can_write c.prot.ensures in
    let none : x.0.shown ≡ None = sym c.shown.ensures ∙ c.in_default-shown.is in
    c.fault_zeros-in_default-shown.ensures.serves spaces x c.args.fault.write fits (record {
      here = here;
      bare = c.requires.bare;
      zeros = zeros;
      allowed = either-allowed c.args.fault.write (can_read x.0.prot) (can_write x.0.prot) c.requires.allowed;
      in_place = λ writes. (
        sym writable ∙ writes,
        λ private. elim zeros.new [ inl new ↦ new.0 | inr zero ↦ absurd (let z : None ≡ Some c.args.map = sym none ∙ zero.0 in cc) ],
      );
      opens = λ may. writable ∙ may.0;
      lets = λ write. writable ∙ write-allowed c.args.fault.write (can_read x.0.prot) (can_write x.0.prot) c.requires.allowed write;
    })

-- a load of a zero object's page that a private place shows, which isn't its own
pub returns-then-not-fault-clause-serves : goal.returns-then-not-fault-clause-serves
returns-then-not-fault-clause-serves g c = λ spaces fits here zeros.
    let w = world_seen c.args.world.now in
    let x : Spot = (c.args.self.now, c.args.fault.place) in
    let read : c.args.fault.write ≡ false = not-true c.args.fault.write c.if-not-fault.true in
    let shown : x.0.shown ≡ Some c.in-Some-shown._shown = sym c.shown.ensures ∙ c.in-Some-shown.is in
    c.fault_zeros-then-not-fault.ensures.serves spaces x c.args.fault.write fits (record {
      here = here;
      bare = c.requires.bare;
      zeros = zeros;
      allowed = either-allowed c.args.fault.write (can_read x.0.prot) (can_write x.0.prot) c.requires.allowed;
      in_place = λ writes. absurd (let z : false ≡ true = writes in cc);
      opens = λ may. absurd (
          let new = may.1 (own-private w spaces c.args.fault.process c.args.fault.page x fits here c.in-Some.own (sym c.own.ensures ∙ c.in-Some.is)) in
          let fit = subst (λ (ob : Object). ObjectFits (length w.files.files) w.maps x.0 ob) new (object-fits w spaces c.args.fault.process c.args.fault.page x fits here) in
          let z : None ≡ Some c.in-Some-shown._shown = sym fit.1 ∙ shown in cc);
      lets = λ write. absurd (let z : false ≡ true = sym read ∙ write in cc);
    })

pub returns-clause-serves : goal.returns-clause-serves
returns-clause-serves g c = λ spaces fits here zeros.
    let w = world_seen c.args.world.now in
    let x : Spot = (c.args.self.now, c.args.fault.place) in
    let write : c.args.fault.write ≡ true = not-false c.args.fault.write c.if-not-fault.false in
    let own : x.0.own ≡ Some c.in-Some.own = sym c.own.ensures ∙ c.in-Some.is in
    let shown : x.0.shown ≡ Some c.in-Some-shown._shown = sym c.shown.ensures ∙ c.in-Some-shown.is in
    let bare : own_without_slot x.0.object ≡ None = elim zeros.new [
      | inl new ↦ absurd (
          let fit = subst (λ (ob : Object). ObjectFits (length w.files.files) w.maps x.0 ob) new.0 (object-fits w spaces c.args.fault.process c.args.fault.page x fits here) in
          let z : None ≡ Some c.in-Some-shown._shown = sym fit.1 ∙ shown in cc)
      | inr zero ↦ ap own_without_slot zero.3
    ] in
    subst (λ (b : Bool). ServesFault (memory_of w spaces) (memory_of (world_seen c.own_zeros.new.world) spaces) c.args.world.now.pending c.own_zeros.new.world.pending c.args.fault.process c.args.fault.page x b c.own_zeros.result) (sym write)
    (c.own_zeros.ensures.serves None tt spaces x fits (record {
      here = here;
      own = own;
      place = refl;
      holds = sym (ap (option_and_then (λ (n : ℕ). slot_in w.maps n x.1)) own) ∙ c.requires.bare;
      shared = λ k e. absurd (let z : None ≡ Some k = e in cc);
      bare = λ none. bare;
      shows = shown-bare w.maps x c.requires.bare zeros.none;
      some = shows-object w x zeros.has;
      allowed = sym (ap (λ (b : Bool). cond b (can_write x.0.prot) (can_read x.0.prot)) write) ∙ c.requires.allowed;
    }))
