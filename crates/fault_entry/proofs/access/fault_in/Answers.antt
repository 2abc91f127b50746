use Rattle.std.proofs.Common.{◌≡◌, ℕ, ◌-◌, Ok, Err, sym, ap, ◌∙◌, subst}
use Rattle.seg_vn.specs.flat_model.Words.{page}
use Rattle.seg_vn.specs.vm_types.declared.call.Signal.TheVariants as signal
use Rattle.seg_vn.specs.vm_world.Segments.{Spot}
use Rattle.seg_vn.specs.vm_world.World.{world_seen}
use Rattle.seg_vn.specs.seg_ops.Faults.{ServesFault}
use Rattle.seg_vn.specs.seg_ops.declared.plans.Fault.{Fault}
use Rattle.seg_vn.proofs.seg_ops.StillSteps.{memory_of}
use Rattle.fault_entry.specs.Reaching.{ServesAccess}
use Rattle.fault_entry.specs.declared.access.AccessStep.{AccessStep}
use Rattle.fault_entry.specs.declared.access.AccessStep.TheVariants as access
use Rattle.fault_entry.proofs.Reached.{loaded-access, past-access, wants-access}
use Rattle.fault_entry.proofs.access.fault_in.Goals as goal

-- the page that was loaded has a translation that lets the access
pub noted-requires : goal.noted-requires
noted-requires g c =
    let old = world_seen c.args.world.now in
    let mid = world_seen c.fault.new.world in
    let x : Spot = (c.args.segment.now, page c.args.addr - c.args.first) in
    let o = c.requires.fits in
    record { lets = (subst (λ (a : Fault). ServesFault (memory_of old o.0) (memory_of mid o.0) c.args.world.now.pending c.fault.new.world.pending c.args.process (page c.args.addr) x c.args.write (Ok a)) c.in-Ok-Loaded.field-0-is (c.in-Ok-Loaded.ensures.serves o.0 o.1 o.2)).means.lets }

pub returns-in-Ok-Loaded-clause-serves : goal.returns-in-Ok-Loaded-clause-serves
returns-in-Ok-Loaded-clause-serves g c = λ spaces n fits here even.
    let old = world_seen c.args.world.now in
    let mid = world_seen c.fault.new.world in
    let new = world_seen c.noted.new.world in
    let x : Spot = (c.args.segment.now, page c.args.addr - c.args.first) in
    let s = subst (λ (a : Fault). ServesFault (memory_of old spaces) (memory_of mid spaces) c.args.world.now.pending c.fault.new.world.pending c.args.process (page c.args.addr) x c.args.write (Ok a)) c.in-Ok-Loaded.field-0-is (c.in-Ok-Loaded.ensures.serves spaces fits here) in
    subst (λ (k : ℕ). ServesAccess (memory_of old spaces) (memory_of new spaces) c.args.world.now.pending k c.args.process c.args.addr n c.args.write (access.Reached c.noted.result)) (sym (ap (λ v. v.pending) c.noted.ensures.rest))
    (loaded-access old new spaces c.args.world.now.pending c.fault.new.world.pending c.args.process c.args.addr n c.args.write x even here c.requires.allowed fits
    mid c.noted.result s (c.noted.ensures.keeps spaces s.acts.memory) (ap (λ v. v.anon) c.noted.ensures.rest) (ap (λ v. v.maps) c.noted.ensures.rest) (ap (λ v. v.store) c.noted.ensures.rest) c.noted.ensures.modified c.requires.missed c.noted.ensures.noted c.noted.ensures.translation)

pub returns-in-Ok-Past-clause-serves : goal.returns-in-Ok-Past-clause-serves
returns-in-Ok-Past-clause-serves g c = λ spaces n fits here even.
    let old = world_seen c.args.world.now in
    let new = world_seen c.fault.new.world in
    let x : Spot = (c.args.segment.now, page c.args.addr - c.args.first) in
    past-access old new spaces c.args.world.now.pending c.fault.new.world.pending c.args.process c.args.addr n c.args.write x even here c.requires.allowed fits
    (subst (λ (a : Fault). ServesFault (memory_of old spaces) (memory_of new spaces) c.args.world.now.pending c.fault.new.world.pending c.args.process (page c.args.addr) x c.args.write (Ok a)) c.in-Ok-Past.field-0-is (c.in-Ok-Past.ensures.serves spaces fits here))

pub returns-in-Err-clause-serves : goal.returns-in-Err-clause-serves
returns-in-Err-clause-serves g c = λ spaces n fits here even.
    let old = world_seen c.args.world.now in
    let new = world_seen c.fault.new.world in
    let x : Spot = (c.args.segment.now, page c.args.addr - c.args.first) in
    subst (λ (a : AccessStep). ServesAccess (memory_of old spaces) (memory_of new spaces) c.args.world.now.pending c.fault.new.world.pending c.args.process c.args.addr n c.args.write a) (sym c.wanting.ensures)
    (wants-access old new spaces c.args.world.now.pending c.fault.new.world.pending c.args.process c.args.addr n c.args.write x even here c.requires.allowed fits c.in-Err.wants (c.in-Err.ensures.serves spaces fits here))
