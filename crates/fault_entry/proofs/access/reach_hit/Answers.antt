use Rattle.std.proofs.Common.{◌≡◌, ℕ, ◌-◌, sym, ap, ◌∙◌, subst}
use Rattle.seg_vn.specs.flat_model.Words.{page}
use Rattle.seg_vn.specs.vm_world.Segments.{Spot}
use Rattle.seg_vn.specs.vm_world.World.{world_seen}
use Rattle.seg_vn.proofs.seg_ops.StillSteps.{memory_of}
use Rattle.fault_entry.specs.Reaching.{may_access, ServesAccess}
use Rattle.fault_entry.specs.declared.access.AccessStep.TheVariants as access
use Rattle.fault_entry.proofs.Found.{spot-found}
use Rattle.fault_entry.proofs.Reached.{hit-access}
use Rattle.fault_entry.proofs.access.reach_hit.Goals as goal

pub returns-in-Some-frame_for-clause-serves : goal.returns-in-Some-frame_for-clause-serves
returns-in-Some-frame_for-clause-serves g c = λ spaces fits get.
    let old = world_seen c.args.world.now in
    let new = world_seen c.frame_for.new.world in
    let spot : Spot = (c.in-Some.segment.now, page c.args.addr - c.in-Some._first) in
    let even = c.is_aligned.ensures.0 c.if-not-is_aligned.false in
    let here = spot-found spaces c.args.process (page c.args.addr) c.in-Some._first c.in-Some._pages c.in-Some.segment.now c.args.space.now.parts get c.in-Some.ensures.found in
    let allowed : c.may_access-allowed.result ≡ may_access c.args.write c.in-Some.segment.now.prot = c.may_access-allowed.ensures ∙ ap (may_access c.args.write) c.prot.ensures in
    let pending : c.frame_for.new.world.pending ≡ c.args.world.now.pending = ap (λ v. v.pending) c.frame_for.ensures.rest in
    subst (λ (k : ℕ). ServesAccess (memory_of old spaces) (memory_of new spaces) c.args.world.now.pending k c.args.process c.args.addr c.args.size c.args.write (access.Reached c.in-Some-frame_for.frame)) (sym pending)
    (hit-access old spaces c.args.world.now.pending c.args.process c.args.addr c.args.size c.args.write fits new spot c.in-Some-frame_for.frame even
    here (sym allowed ∙ c.if-not-allowed.false) (c.frame_for.ensures.keeps spaces fits) (ap world_seen c.frame_for.ensures.rest) c.in-Some-frame_for.ensures.places c.in-Some-frame_for.ensures.noted c.in-Some-frame_for.ensures.modified (sym c.frame_for.ensures.frame ∙ c.in-Some-frame_for.is))
