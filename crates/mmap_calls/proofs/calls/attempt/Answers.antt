use Rattle.std.proofs.Common.{ℕ, List, Option, ap, sym, subst, arith}
use Rattle.seg_vn.specs.anon_slots.Slots.{count_at}
use Rattle.seg_vn.specs.vm_types.declared.call.Call.{Call}
use Rattle.seg_vn.specs.vm_world.Words.{memory}
use Rattle.seg_vn.specs.vm_world.ZeroObjects.{KnowsZeros}
use Rattle.seg_vn.specs.vm_world.declared.world.World.{World}
use Rattle.seg_vn.specs.Serves.{Serves}
use Rattle.mmap_calls.specs.Calls.{IsMappingAnswer}
use Rattle.mmap_calls.proofs.SyncAnswers.{at-once-answer, no-sync}
use Rattle.mmap_calls.proofs.calls.attempt.Goals as goal

-- A Sync.
pub returns-in-Sync-clause-done : goal.returns-in-Sync-clause-done
returns-in-Sync-clause-done g c = λ calls.
    subst (λ (x : Call). Serves (memory c.args.world.now c.args.spaces.now.spaces) (memory c.sync.new.world c.args.spaces.now.spaces) c.args.world.now.pending c.sync.new.world.pending calls c.args.process x c.sync.result) (sym c.in-Sync.is) (c.sync.ensures.serves calls)

pub returns-in-Sync-clause-answer : goal.returns-in-Sync-clause-answer
returns-in-Sync-clause-answer g c = subst (λ (x : Call). IsMappingAnswer x c.args.from c.sync.result) (sym c.in-Sync.is) c.sync.ensures.answer

pub returns-in-Sync-clause-fall : goal.returns-in-Sync-clause-fall
returns-in-Sync-clause-fall g c = λ slot.
    let same = ap (λ (w : World g.row.D.Denot). count_at w.anon slot) c.sync.ensures.makes.rest in
    omega (arith, same)

pub returns-in-Sync-clause-zeros : goal.returns-in-Sync-clause-zeros
returns-in-Sync-clause-zeros g c = subst (λ (zeros : List (Option ℕ)). KnowsZeros zeros c.args.spaces.now.spaces) (sym (ap (λ (w : World g.row.D.Denot). w.zeros) c.sync.ensures.makes.rest)) c.requires.zeros

-- Else it changes mappings, and is done at once.
pub change-requires-clause-served : goal.change-requires-clause-served
change-requires-clause-served g c = no-sync c.args.call.now c.requires.served c.in_default.not-Sync

pub returns-in_default-clause-answer : goal.returns-in_default-clause-answer
returns-in_default-clause-answer g c = at-once-answer c.args.call.now c.args.from c.change.result c.in_default.not-Sync c.change.ensures.answer
