use Rattle.std.proofs.Common.{sym, subst}
use Rattle.std.specs.Prelude.{IfOk}
use Rattle.seg_vn.specs.vm_types.WellFormed.{IsPlace}
use Rattle.seg_vn.specs.vm_types.declared.call.Place.{Place}
use Rattle.mmap_calls.specs.Answers.{IsAnswered}
use Rattle.mmap_calls.specs.Refusals.{placed_call}
use Rattle.mmap_calls.proofs.calls.map_placed.Goals as goal

pub map-requires-clause-request : goal.map-requires-clause-request
map-requires-clause-request g c = record { addr = subst IsPlace c.in-At.is c.requires.place; length = c.requires.request.length; offset = c.requires.request.offset }

pub returns-in-At-clause-done : goal.returns-in-At-clause-done
returns-in-At-clause-done g c =
    subst (λ (place : Place). IfOk c.map.result (IsAnswered c.args.world.now c.map.new.world c.args.process c.args.space.now.parts c.map.new.space.parts (placed_call place c.args.wanted.now))) (sym c.in-At.is) c.map.ensures.done

pub returns-in-Any-clause-done : goal.returns-in-Any-clause-done
returns-in-Any-clause-done g c =
    subst (λ (place : Place). IfOk c.map_any.result (IsAnswered c.args.world.now c.map_any.new.world c.args.process c.args.space.now.parts c.map_any.new.space.parts (placed_call place c.args.wanted.now))) (sym c.in-Any.is) c.map_any.ensures.done
