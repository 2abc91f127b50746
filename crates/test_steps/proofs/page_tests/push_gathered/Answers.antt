use Rattle.seg_ops.specs.page_hash.Names.{is_name}
use Rattle.seg_ops.specs.page_store.Notes.{no_notes}
use Rattle.seg_ops.specs.page_store.Steps.{next_name}
use Rattle.seg_ops.specs.page_store.declared.plan.Plan.TheVariants as plan
use Rattle.seg_ops.specs.vm_world.World.{world_seen}
use Rattle.test_steps.specs.PageTrials.{trial_spaces}
use Rattle.test_steps.proofs.PageTrialLemmas.{trial-out}
use Rattle.test_steps.proofs.page_tests.push_gathered.Goals as goal

pub fly-requires : goal.fly-requires
fly-requires c = record {
  out = trial-out (world_seen c.args.world.now) (world_seen c.begin_push-flight.new.world) 1 (plan.Push c.page_of_file-name.result) c.begin_push-flight.result (is_name (next_name c.args.world.now.store)) c.requires.fits
      c.begin_push-flight.ensures.flight c.begin_push-flight.ensures.begins.out (c.begin_push-flight.ensures.pages trial_spaces no_notes c.requires.fits.memory c.requires.fits.notes);
}
