use Rattle.std.proofs.Common.{ℕ, Option, refl, sym, ap, ◌∙◌, subst}
use Rattle.std.specs.Prelude.{IsTrue}
use Rattle.page_store.specs.page_hash.declared.PageName.{PageName}
use Rattle.page_store.specs.Waits.{Waits, plan_page}
use Rattle.page_store.specs.declared.plan.Hold.{Hold}
use Rattle.vm_world.specs.World.{world_seen, world_table, page_exists}
use Rattle.seg_ops.proofs.plans.ask_unlocked.Given.{Over}
use Rattle.seg_ops.proofs.plans.ask_unlocked.Goals.{After-disk_ready}
use Rattle.seg_ops.proofs.plans.ask_unlocked.Goals as goal

pub disk_of-disk-requires-clause-exists : goal.disk_of-disk-requires-clause-exists
disk_of-disk-requires-clause-exists g c = subst (λ (n : PageName). IsTrue (page_exists c.args.world.now.files c.args.world.now.anon n)) (sym c.plan_page.ensures) c.requires.exists

-- what the disk of the plan's page says
waits : (g : Over) (c : After-disk_ready g) → Waits c.args.world.now.store (plan_page c.args.plan) (world_table (world_seen c.args.world.now) (plan_page c.args.plan)).disk c.disk_ready.result
waits g c = subst (λ (n : ℕ). Waits c.args.world.now.store (plan_page c.args.plan) n c.disk_ready.result)
    (c.disk_of-disk.ensures.disk ∙ ap (λ (n : PageName). (world_table (world_seen c.args.world.now) n).disk) c.plan_page.ensures) (c.disk_ready.ensures (plan_page c.args.plan) c.requires.unlocked)

pub returns-in-Some : goal.returns-in-Some
returns-in-Some g c =
    subst (λ (o : Option Hold). Waits c.args.world.now.store (plan_page c.args.plan) (world_table (world_seen c.args.world.now) (plan_page c.args.plan)).disk o) c.in-Some.is
    (waits g (goal.at.returns-in-Some g c).After-disk_ready)

pub returns : goal.returns
returns g c = (
  refl,
  subst (λ (o : Option Hold). Waits c.args.world.now.store (plan_page c.args.plan) (world_table (world_seen c.args.world.now) (plan_page c.args.plan)).disk o) c.in_default.is
      (waits g (goal.at.returns g c).After-disk_ready),
)
