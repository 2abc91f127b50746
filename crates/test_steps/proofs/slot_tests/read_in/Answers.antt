use Rattle.std.proofs.Common.{sym, ap, ◌∙◌, subst}
use Rattle.std.specs.Prelude.{IsTrue, not}
use Rattle.seg_ops.specs.page_hash.Names.{is_name}
use Rattle.seg_ops.specs.page_hash.declared.PageName.{PageName}
use Rattle.seg_ops.specs.page_store.Notes.{no_notes}
use Rattle.seg_ops.specs.page_store.Steps.{next_name}
use Rattle.seg_ops.specs.page_store.declared.plan.Plan.TheVariants as plan
use Rattle.seg_ops.proofs.page_store.QueryLemmas.{absent-is}
use Rattle.anon_slots.specs.Slots.{count_at}
use Rattle.seg_ops.specs.vm_world.World.{world_seen, is_unpushed, page_exists}
use Rattle.test_steps.specs.SlotTrials.{holding_spaces}
use Rattle.seg_ops.proofs.SlotMemory.{lt-used}
use Rattle.test_steps.proofs.PageTrialLemmas.{trial-leaves}
use Rattle.test_steps.proofs.slot_tests.read_in.Goals as goal

pub begin_read-flight-requires-clause-missing : goal.begin_read-flight-requires-clause-missing
begin_read-flight-requires-clause-missing c =
    let w = world_seen c.args.world.now in
    record {
      exists = subst (λ (n : PageName). IsTrue (page_exists w.files w.anon n)) (sym c.page_of_slot-name.ensures) (lt-used (count_at w.anon c.args.slot) c.requires.used);
      absent = absent-is w.store c.page_of_slot-name.result c.requires.fits.memory.frames.sound (sym c.in-Absent.ensures.residence);
      pushed = ap (is_unpushed w.files w.anon) c.page_of_slot-name.ensures ∙ ap not c.requires.swapped;
    }

pub fly-requires : goal.fly-requires
fly-requires c = record {
  out = trial-leaves holding_spaces (world_seen c.args.world.now) (world_seen c.begin_read-flight.new.world) 1 (plan.Read c.page_of_slot-name.result) c.begin_read-flight.result (is_name (next_name c.args.world.now.store)) c.requires.fits
      c.begin_read-flight.ensures.flight c.begin_read-flight.ensures.begins.out (c.begin_read-flight.ensures.pages holding_spaces no_notes c.requires.fits.memory c.requires.fits.notes);
}
