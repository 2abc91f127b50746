use Rattle.std.proofs.Common.{sym, subst, arith}
use Rattle.std.specs.Prelude.{IfOk}
use Rattle.seg_vn.specs.vm_types.declared.call.Call.{Call}
use Rattle.seg_vn.specs.vm_types.WellFormed.{IsWellFormed}
use Rattle.mmap_calls.specs.Answers.{IsAnswered}
use Rattle.mmap_calls.proofs.calls.answer.Goals as goal

pub map_placed-requires-clause-place : goal.map_placed-requires-clause-place
map_placed-requires-clause-place g c = (subst IsWellFormed c.in-Map.is c.requires.formed).0

pub map_placed-requires-clause-request : goal.map_placed-requires-clause-request
map_placed-requires-clause-request g c = let formed = subst IsWellFormed c.in-Map.is c.requires.formed in record { addr = omega arith; length = formed.1; offset = formed.4 }

pub returns-in-Map-clause-done : goal.returns-in-Map-clause-done
returns-in-Map-clause-done g c =
    subst (λ (x : Call). IfOk c.map_placed.result (IsAnswered c.args.world.now c.map_placed.new.world c.args.process c.args.space.now.parts c.map_placed.new.space.parts x)) (sym c.in-Map.is) c.map_placed.ensures.done

pub returns-in-Unmap-clause-done : goal.returns-in-Unmap-clause-done
returns-in-Unmap-clause-done g c =
    subst (λ (x : Call). IfOk c.unmap.result (IsAnswered c.args.world.now c.unmap.new.world c.args.process c.args.space.now.parts c.unmap.new.space.parts x)) (sym c.in-Unmap.is) c.unmap.ensures.done

pub returns-in-Protect-clause-done : goal.returns-in-Protect-clause-done
returns-in-Protect-clause-done g c =
    subst (λ (x : Call). IfOk c.protect.result (IsAnswered c.args.world.now c.protect.new.world c.args.process c.args.space.now.parts c.protect.new.space.parts x)) (sym c.in-Protect.is) c.protect.ensures.done
