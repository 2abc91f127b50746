-- How a plan that grows is kept. Inside: no public clause cites this.
use Rattle.std.specs.Prelude.{◌≡◌}
use Rattle.vm_script.specs.declared.open_plan.Growing.TheInside.{Inside}
use Rattle.vm_script.specs.Plans.{OpenPlan, has_setup, gives_frames, gives_swap, gives_translations}

-- The plan so far, as it is kept.
abbrev pub open_plan_of : Inside → OpenPlan
open_plan_of g = record { setup = g.setup.items; lines = g.lines.items; parents = g.parents.items; inside = g.inside }

-- The flags say which set-up lines have come.
pub record HasFlags (g : Inside) : Type 0 where
  pub frames : g.frames ≡ has_setup gives_frames g.setup.items
  pub swap : g.swap ≡ has_setup gives_swap g.setup.items
  pub translations : g.translations ≡ has_setup gives_translations g.setup.items
