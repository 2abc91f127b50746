use Rattle.std.proofs.Common.{None, false, refl, sym, ap, subst}
use Rattle.seg_vn.specs.flat_model.Words.{page}
use Rattle.seg_vn.specs.vm_types.declared.call.Call.TheVariants as call
use Rattle.seg_vn.specs.vm_world.World.{world_seen}
use Rattle.seg_vn.proofs.seg_ops.StillSteps.{memory_of}
use Rattle.fault_entry.specs.Accesses.{ServesWord}
use Rattle.fault_entry.proofs.Served.{load-reached, load-refused, access-needs, access-busy, load-refusal}
use Rattle.fault_entry.proofs.entry.load.Goals as goal

pub read-requires-clause-noted : goal.read-requires-clause-noted
read-requires-clause-noted g c = (c.args.process, (c.in-Reached.ensures.serves c.requires.fits.0 c.requires.fits.1 c.requires.fits.2).means.noted)

pub read-requires-clause-fits : goal.read-requires-clause-fits
read-requires-clause-fits g c = (c.requires.fits.0, (c.in-Reached.ensures.serves c.requires.fits.0 c.requires.fits.1 c.requires.fits.2).acts.memory)

pub returns-in-Reached : goal.returns-in-Reached
returns-in-Reached g c = record {
  serves = λ spaces fits get.
      let s = c.in-Reached.ensures.serves spaces fits get in
      load-reached (world_seen c.args.world.now) (world_seen c.reach.new.world) spaces c.args.world.now.pending c.reach.new.world.pending c.args.process c.args.addr c.args.size c.in-Reached.frame c.read.result s
      (c.read.ensures spaces c.args.process s.acts.memory s.means.noted);
  zeros = ap (λ w. w.zeros) c.in-Reached.ensures.rest;
}

pub returns-in-Refused : goal.returns-in-Refused
returns-in-Refused g c = record {
  serves = λ spaces fits get.
      load-refused (world_seen c.args.world.now) (world_seen c.reach.new.world) spaces c.args.world.now.pending c.reach.new.world.pending c.args.process c.args.addr c.args.size c.in-Refused.signal (c.in-Refused.ensures.serves spaces fits get);
  zeros = ap (λ w. w.zeros) c.in-Refused.ensures.rest;
}

pub returns-in-Need : goal.returns-in-Need
returns-in-Need g c = record {
  serves = λ spaces fits get.
      let s = c.in-Need.ensures.serves spaces fits get in
      access-needs (world_seen c.args.world.now) (world_seen c.reach.new.world) spaces c.args.world.now.pending c.reach.new.world.pending c.args.process c.args.addr c.args.size false (call.Load c.args.addr c.args.size) c.in-Need.plan refl (load-refusal (memory_of (world_seen c.args.world.now) spaces) c.args.process c.args.addr c.args.size None) s s.means.1;
  zeros = ap (λ w. w.zeros) c.in-Need.ensures.rest;
}

pub returns-in-Busy : goal.returns-in-Busy
returns-in-Busy g c = record {
  serves = λ spaces fits get.
      let s = c.in-Busy.ensures.serves spaces fits get in
      access-busy (world_seen c.args.world.now) (world_seen c.reach.new.world) spaces c.args.world.now.pending c.reach.new.world.pending c.args.process c.args.addr c.args.size false (call.Load c.args.addr c.args.size) c.in-Busy.hold refl (load-refusal (memory_of (world_seen c.args.world.now) spaces) c.args.process c.args.addr c.args.size None) s s.means.1;
  zeros = ap (λ w. w.zeros) c.in-Busy.ensures.rest;
}
