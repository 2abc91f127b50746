use Rattle.std.proofs.Common.{◌≡◌, ℕ, ◌+◌, Bool, true, false, cond, Option, Some, None, refl, sym, ap, ◌∙◌, subst}
use Rattle.std.specs.Prelude.{option_and_then, option_map}
use Rattle.std.specs.Option.{option_or}
use Rattle.std.proofs.lemmas.Bool.{not-true, not-false}
use Rattle.seg_ops.specs.vm_types.Prot.{can_read, can_write}
use Rattle.seg_ops.specs.vm_world.Segments.{Spot, object_name}
use Rattle.seg_ops.specs.vm_world.World.{world_seen, slot_in, slot_name}
use Rattle.seg_ops.proofs.StillSteps.{memory_of}
use Rattle.seg_ops.specs.Faults.{ServesFault}
use Rattle.seg_vn.proofs.FaultPlaces.{place-in, own-private, own-there, not-new}
use Rattle.seg_vn.proofs.FaultSteps.{object-place, shared-in-place, past-serves, shows-object}
use Rattle.seg_vn.proofs.FilePlaces.{write-allowed}
use Rattle.seg_vn.proofs.segment.VnSeg.fault_object.Goals as goal

pub object_page-requires-clause-within : goal.object_page-requires-clause-within
object_page-requires-clause-within g c = let o = c.requires.fits in place-in (world_seen c.args.world.now) o.0 c.args.fault.process c.args.fault.page (c.args.self.now, c.args.fault.place) o.1 o.2

pub fault_page-requires-clause-home : goal.fault_page-requires-clause-home
fault_page-requires-clause-home g c = let h = c.requires.home 0 in (h.0, h.2)

pub fault_page-requires-then-not-fault-clause-home : goal.fault_page-requires-then-not-fault-clause-home
fault_page-requires-then-not-fault-clause-home g c = let h = c.requires.home 0 in (h.0, h.2)

pub fault_copy-requires-clause-own : goal.fault_copy-requires-clause-own
fault_copy-requires-clause-own g c =
    let o = c.requires.fits in
    let w = world_seen c.args.world.now in
    let own = sym c.own.ensures ∙ c.in-Some.is in
    let is = own-there w o.0 c.args.fault.process c.args.fault.page (c.args.self.now, c.args.fault.place) o.1 o.2 c.in-Some.map own in
    record { there = is.0; within = is.1; holds = sym (ap (option_and_then (λ (n : ℕ). slot_in w.maps n c.args.fault.place)) own) ∙ c.requires.bare }

pub fault_copy-requires-clause-fits : goal.fault_copy-requires-clause-fits
fault_copy-requires-clause-fits g c =
    let o = c.requires.fits in
    (o.0, (c.args.self.now, c.args.fault.place), o.1, record { here = o.2; own = sym c.own.ensures ∙ c.in-Some.is; place = refl })

pub returns-in-Past-clause-serves : goal.returns-in-Past-clause-serves
returns-in-Past-clause-serves g c = λ spaces fits here.
    past-serves (world_seen c.args.world.now) spaces c.args.fault.process c.args.fault.page (c.args.self.now, c.args.fault.place) c.args.fault.write c.args.world.now.pending fits c.requires.bare (c.in-Past.ensures.shows spaces c.args.fault.process c.args.fault.page fits here)

pub returns-in-None-clause-serves : goal.returns-in-None-clause-serves
returns-in-None-clause-serves g c = λ spaces fits here.
    let w = world_seen c.args.world.now in
    let x : Spot = (c.args.self.now, c.args.fault.place) in
    let shows = c.in-Page.ensures.shows spaces c.args.fault.process c.args.fault.page fits here in
    let writable : c.can_write-writable.result ≡ can_write x.0.prot = c.can_write-writable.ensures ∙ ap can_write c.prot.ensures in
    c.fault_page.ensures.serves spaces x c.args.fault.write fits
    (object-place w spaces c.args.fault.process c.args.fault.page x c.in-Page.name c.args.fault.write c.can_write-writable.result here c.requires.bare shows.0 shows.2 c.requires.allowed
    (λ writes. shared-in-place w spaces c.args.fault.process c.args.fault.page x fits here (sym c.own.ensures ∙ c.in-None.is) (sym writable ∙ writes))
    (λ may. writable ∙ may.prot)
    (λ write. writable ∙ write-allowed c.args.fault.write (can_read x.0.prot) (can_write x.0.prot) c.requires.allowed write))

-- a load of the object's page, which a private place has not alone
pub returns-then-not-fault-clause-serves : goal.returns-then-not-fault-clause-serves
returns-then-not-fault-clause-serves g c = λ spaces fits here.
    let w = world_seen c.args.world.now in
    let x : Spot = (c.args.self.now, c.args.fault.place) in
    let shows = c.in-Page.ensures.shows spaces c.args.fault.process c.args.fault.page fits here in
    let read : c.args.fault.write ≡ false = not-true c.args.fault.write c.if-not-fault.true in
    c.fault_page-then-not-fault.ensures.serves spaces x c.args.fault.write fits
    (object-place w spaces c.args.fault.process c.args.fault.page x c.in-Page.name c.args.fault.write false here c.requires.bare shows.0 shows.2 c.requires.allowed
    (λ writes. absurd (let z : false ≡ true = writes in cc))
    (λ may. absurd (
    let a = may.alone (own-private w spaces c.args.fault.process c.args.fault.page x fits here c.in-Some.map (sym c.own.ensures ∙ c.in-Some.is)) in
    let z : None ≡ Some a.0 = sym c.requires.bare ∙ a.1 in cc))
    (λ write. absurd (let z : false ≡ true = sym read ∙ write in cc)))

pub returns-else-not-fault-clause-serves : goal.returns-else-not-fault-clause-serves
returns-else-not-fault-clause-serves g c = λ spaces fits here.
    let w = world_seen c.args.world.now in
    let x : Spot = (c.args.self.now, c.args.fault.place) in
    let shows = c.in-Page.ensures.shows spaces c.args.fault.process c.args.fault.page fits here in
    let write : c.args.fault.write ≡ true = not-false c.args.fault.write c.if-not-fault.false in
    let own : x.0.own ≡ Some c.in-Some.map = sym c.own.ensures ∙ c.in-Some.is in
    subst (λ (b : Bool). ServesFault (memory_of w spaces) (memory_of (world_seen c.fault_copy.new.world) spaces) c.args.world.now.pending c.fault_copy.new.world.pending c.args.fault.process c.args.fault.page x b c.fault_copy.result) (sym write)
    (c.fault_copy.ensures.serves spaces x fits (record {
      here = here;
      own = own;
      place = refl;
      holds = sym (ap (option_and_then (λ (n : ℕ). slot_in w.maps n x.1)) own) ∙ c.requires.bare;
      shared = λ k e. absurd (let z : None ≡ Some k = e in cc);
      bare = λ none. not-new w.maps x c.in-Page.name shows.0;
      shows = ap (λ (o : Option ℕ). option_or (option_map slot_name o) (object_name w.maps x.0.shown (x.0.index + x.1) x.0.object)) c.requires.bare ∙ shows.0;
      some = shows-object w x shows.2;
      allowed = sym (ap (λ (b : Bool). cond b (can_write x.0.prot) (can_read x.0.prot)) write) ∙ c.requires.allowed;
    }))

pub returns-in-Zeros-clause-serves : goal.returns-in-Zeros-clause-serves
returns-in-Zeros-clause-serves g c = λ spaces fits here.
    c.fault_empty.ensures.serves spaces fits here (c.in-Zeros.ensures.shows spaces c.args.fault.process c.args.fault.page fits here)
