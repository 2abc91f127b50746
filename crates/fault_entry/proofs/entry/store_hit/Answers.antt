use Rattle.std.proofs.Common.{ℕ, sym, ap, subst}
use Rattle.seg_vn.specs.flat_model.Words.{page}
use Rattle.seg_vn.specs.vm_types.declared.call.Call.TheVariants as call
use Rattle.seg_vn.specs.vm_types.declared.call.Reply.TheVariants as reply
use Rattle.seg_vn.specs.vm_world.World.{world_seen}
use Rattle.seg_vn.proofs.seg_ops.StillSteps.{memory_of}
use Rattle.seg_vn.specs.declared.attempt.Attempt.TheVariants as attempt
use Rattle.fault_entry.specs.Accesses.{ServesWord}
use Rattle.fault_entry.proofs.Served.{store-reached}
use Rattle.fault_entry.proofs.entry.store_hit.Goals as goal

pub write-requires-clause-fits : goal.write-requires-clause-fits
write-requires-clause-fits g c = (c.requires.fits.0, (c.in-Some.ensures.serves c.requires.fits.0 c.requires.fits.1 c.requires.fits.2).acts.memory)

pub returns-clause-serves : goal.returns-clause-serves
returns-clause-serves g c = λ _. λ spaces fits get.
    let old = world_seen c.args.world.now in
    let mid = world_seen c.reach_hit.new.world in
    let new = world_seen c.write.new.world in
    let s = c.in-Some.ensures.serves spaces fits get in
    subst (λ (k : ℕ). ServesWord (memory_of old spaces) (memory_of new spaces) c.args.world.now.pending k c.args.process (page c.args.addr) (call.Store c.args.addr c.args.size c.args.value) (attempt.Done reply.Done)) (sym (ap (λ v. v.pending) c.write.ensures.rest))
    (store-reached old mid new spaces c.args.world.now.pending c.reach_hit.new.world.pending c.args.process c.args.addr c.args.size c.in-Some.frame c.args.value s
    (c.write.ensures.writes spaces c.args.process s.acts.memory s.means.noted) (ap (λ v. v.hat) c.write.ensures.rest) (ap (λ v. v.anon) c.write.ensures.rest) (ap (λ v. v.maps) c.write.ensures.rest) c.write.ensures.store c.write.ensures.modified (ap world_seen c.write.ensures.rest))
