use Rattle.std.proofs.Common.{None, ℕ, true, refl, sym, ap, ◌∙◌, subst}
use Rattle.seg_vn.specs.flat_model.Words.{page}
use Rattle.seg_vn.specs.vm_types.declared.call.Call.TheVariants as call
use Rattle.seg_vn.specs.vm_types.declared.call.Reply.TheVariants as reply
use Rattle.seg_vn.specs.vm_world.World.{world_seen}
use Rattle.seg_vn.proofs.seg_ops.StillSteps.{memory_of}
use Rattle.seg_vn.specs.declared.attempt.Attempt.TheVariants as attempt
use Rattle.fault_entry.specs.Accesses.{ServesWord}
use Rattle.fault_entry.proofs.Served.{store-reached, store-refused, access-needs, access-busy, store-refusal}
use Rattle.fault_entry.proofs.entry.store.Goals as goal

pub write-requires-clause-noted : goal.write-requires-clause-noted
write-requires-clause-noted g c = (c.args.process, (c.in-Reached.ensures.serves c.requires.fits.0 c.requires.fits.1 c.requires.fits.2).means.noted)

pub write-requires-clause-fits : goal.write-requires-clause-fits
write-requires-clause-fits g c = (c.requires.fits.0, (c.in-Reached.ensures.serves c.requires.fits.0 c.requires.fits.1 c.requires.fits.2).acts.memory)

pub returns-in-Reached : goal.returns-in-Reached
returns-in-Reached g c = record {
  serves = λ spaces fits get.
      let old = world_seen c.args.world.now in
      let mid = world_seen c.reach.new.world in
      let new = world_seen c.write.new.world in
      let s = c.in-Reached.ensures.serves spaces fits get in
      subst (λ (k : ℕ). ServesWord (memory_of old spaces) (memory_of new spaces) c.args.world.now.pending k c.args.process (page c.args.addr) (call.Store c.args.addr c.args.size c.args.value) (attempt.Done reply.Done)) (sym (ap (λ v. v.pending) c.write.ensures.rest))
      (store-reached old mid new spaces c.args.world.now.pending c.reach.new.world.pending c.args.process c.args.addr c.args.size c.in-Reached.frame c.args.value s
      (c.write.ensures.writes spaces c.args.process s.acts.memory s.means.noted) (ap (λ v. v.hat) c.write.ensures.rest) (ap (λ v. v.anon) c.write.ensures.rest) (ap (λ v. v.maps) c.write.ensures.rest) c.write.ensures.store c.write.ensures.modified (ap world_seen c.write.ensures.rest));
  zeros = ap (λ v. v.zeros) c.write.ensures.rest ∙ ap (λ w. w.zeros) c.in-Reached.ensures.rest;
}

pub returns-in-Refused : goal.returns-in-Refused
returns-in-Refused g c = record {
  serves = λ spaces fits get.
      store-refused (world_seen c.args.world.now) (world_seen c.reach.new.world) spaces c.args.world.now.pending c.reach.new.world.pending c.args.process c.args.addr c.args.size c.args.value c.in-Refused.signal (c.in-Refused.ensures.serves spaces fits get);
  zeros = ap (λ w. w.zeros) c.in-Refused.ensures.rest;
}

pub returns-in-Need : goal.returns-in-Need
returns-in-Need g c = record {
  serves = λ spaces fits get.
      let s = c.in-Need.ensures.serves spaces fits get in
      access-needs (world_seen c.args.world.now) (world_seen c.reach.new.world) spaces c.args.world.now.pending c.reach.new.world.pending c.args.process c.args.addr c.args.size true (call.Store c.args.addr c.args.size c.args.value) c.in-Need.plan refl (store-refusal (memory_of (world_seen c.args.world.now) spaces) c.args.process c.args.addr c.args.size c.args.value None) s s.means.1;
  zeros = ap (λ w. w.zeros) c.in-Need.ensures.rest;
}

pub returns-in-Busy : goal.returns-in-Busy
returns-in-Busy g c = record {
  serves = λ spaces fits get.
      let s = c.in-Busy.ensures.serves spaces fits get in
      access-busy (world_seen c.args.world.now) (world_seen c.reach.new.world) spaces c.args.world.now.pending c.reach.new.world.pending c.args.process c.args.addr c.args.size true (call.Store c.args.addr c.args.size c.args.value) c.in-Busy.hold refl (store-refusal (memory_of (world_seen c.args.world.now) spaces) c.args.process c.args.addr c.args.size c.args.value None) s s.means.1;
  zeros = ap (λ w. w.zeros) c.in-Busy.ensures.rest;
}
