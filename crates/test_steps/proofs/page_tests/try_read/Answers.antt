use Rattle.std.proofs.Common.{refl, sym, ap, ◌∙◌, subst}
use Rattle.std.specs.Prelude.{IsTrue}
use Rattle.seg_ops.specs.page_hash.Names.{is_name}
use Rattle.seg_ops.specs.page_hash.declared.PageName.{PageName}
use Rattle.seg_ops.specs.page_store.Notes.{no_notes}
use Rattle.seg_ops.specs.page_store.Steps.{next_name}
use Rattle.seg_ops.specs.page_store.declared.plan.Plan.TheVariants as plan
use Rattle.seg_ops.proofs.page_store.QueryLemmas.{absent-is}
use Rattle.seg_ops.specs.vm_world.World.{world_seen, is_unpushed, page_exists}
use Rattle.test_steps.specs.PageTrials.{trial_spaces}
use Rattle.test_steps.proofs.PageTrialLemmas.{trial-out}
use Rattle.test_steps.proofs.page_tests.try_read.Goals as goal

pub begin_read-flight-requires-clause-missing : goal.begin_read-flight-requires-clause-missing
begin_read-flight-requires-clause-missing c =
    let w = world_seen c.args.world.now in
    record {
      exists = subst (λ (n : PageName). IsTrue (page_exists w.files w.anon n)) (sym c.page_of_file-name.ensures) (c.if-not-has_page.ensures refl).exists;
      absent = absent-is w.store c.page_of_file-name.result c.requires.fits.memory.frames.sound (sym c.in-Absent.ensures.residence);
      pushed = ap (is_unpushed w.files w.anon) c.page_of_file-name.ensures ∙ sym c.if-blank.ensures;
    }

pub fly-requires : goal.fly-requires
fly-requires c = record {
  out = trial-out (world_seen c.args.world.now) (world_seen c.begin_read-flight.new.world) 1 (plan.Read c.page_of_file-name.result) c.begin_read-flight.result (is_name (next_name c.args.world.now.store)) c.requires.fits
      c.begin_read-flight.ensures.flight c.begin_read-flight.ensures.begins.out (c.begin_read-flight.ensures.pages trial_spaces no_notes c.requires.fits.memory c.requires.fits.notes);
}
