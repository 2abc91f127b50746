use Rattle.std.proofs.Common.{ℕ, Option, refl, option_map, Bor}
use Rattle.volume_files.specs.vm_types.declared.call.Call.{Call}
use Rattle.vm_core.specs.Flights.{IsBack}
use Rattle.vm_core.specs.vm_world.State.{Caller}
use Rattle.vm_core.specs.SeatSteps.{sent_along}
use Rattle.plan_runs.proofs.making.bring_home.Given.{Over}
use Rattle.plan_runs.proofs.making.bring_home.Goals as goal
use Rattle.plan_runs.proofs.making.bring_home.Goals.{After-perform}

-- the process and call that the flight is for
abbrev caller : (g : Over) (c : After-perform g) → Option Caller
caller g c = option_map (λ (c' : ℕ × Bor Call). (c'.0, c'.1.now)) c.args.of

is-back : (g : Over) (c : After-perform g) → IsBack (sent_along c.args.flight (caller g c)) c.perform.new.self (caller g c)
is-back g c = record { performed = c.perform.ensures.performed; same = refl }

pub end-requires : goal.end-requires
end-requires g c =
    let at = (goal.at.end-requires g c).After-perform in
    record { back = (sent_along c.args.flight (caller g at), c.requires.out, is-back g at) }

pub returns-clause-event : goal.returns-clause-event
returns-clause-event g c =
    let at = (goal.at.returns-clause-event g c).After-perform in
    c.end.ensures.event (sent_along c.args.flight (caller g at)) (is-back g at)

pub returns-clause-lands : goal.returns-clause-lands
returns-clause-lands g c = record {
  comes = record {
    back = c.perform.new.self;
    performed = c.perform.ensures.performed;
    disk = c.end.ensures.disk;
    ends = c.end.ensures.ends;
    world = c.end.ensures.tables;
    spaces = c.end.ensures.spaces;
  };
  tells = c.end.ensures.answer;
  entry = c.end.ensures.entry;
  marks = c.end.ensures.marks;
  plan = c.end.ensures.plan;
}
