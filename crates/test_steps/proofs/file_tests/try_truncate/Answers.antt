use Rattle.std.proofs.Common.{Ok, Err, sym, subst}
use Rattle.vm_types.specs.declared.call.Call.TheVariants.{Truncate}
use Rattle.vm_types.specs.declared.call.Reply.TheVariants.{Done}
use Rattle.seg_ops.specs.vm_world.World.{world_seen}
use Rattle.test_steps.specs.PageTrials.{IsTrial, trial_spaces}
use Rattle.test_steps.proofs.PageTrialLemmas.{trial-served}
use Rattle.test_steps.proofs.file_tests.try_truncate.Goals as goal

pub truncate-requires-clause-fits : goal.truncate-requires-clause-fits
truncate-requires-clause-fits c = (trial_spaces, (subst (λ w. IsTrial (world_seen w)) (sym c.has_room.ensures.same) c.requires.fits).memory)

pub returns-in-Ok : goal.returns-in-Ok
returns-in-Ok c =
    let still : IsTrial (world_seen c.has_room.new.world) = subst (λ w. IsTrial (world_seen w)) (sym c.has_room.ensures.same) c.requires.fits in
    record {
      fits = trial-served (world_seen c.has_room.new.world) (world_seen c.truncate.new.world) c.has_room.new.world.pending c.truncate.new.world.pending 1 (Truncate 0 c.args.end) Done (Ok tt) still
          (c.in-Ok.ensures.serves trial_spaces 1 still.memory);
    }

pub returns-in-Err : goal.returns-in-Err
returns-in-Err c =
    let still : IsTrial (world_seen c.has_room.new.world) = subst (λ w. IsTrial (world_seen w)) (sym c.has_room.ensures.same) c.requires.fits in
    record {
      fits = trial-served (world_seen c.has_room.new.world) (world_seen c.truncate.new.world) c.has_room.new.world.pending c.truncate.new.world.pending 1 (Truncate 0 c.args.end) Done (Err c.in-Err.want) still
          (c.in-Err.ensures.serves trial_spaces 1 still.memory);
    }
