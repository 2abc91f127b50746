use Rattle.std.proofs.Common.{◌*◌, Option, Some, sym, subst, arith}
use Rattle.std.specs.FinMap as finite
use Rattle.seg_vn.specs.vm_types.declared.call.Errno.{Errno}
use Rattle.seg_vn.specs.vm_types.declared.call.Reply.TheVariants.{Mapped}
use Rattle.seg_vn.specs.vm_world.FlatMemory.{Memory}
use Rattle.seg_vn.specs.vm_world.Words.{memory}
use Rattle.seg_vn.specs.vm_world.World.{world_seen}
use Rattle.mmap_calls.specs.declared.refusals.MapRequest.{MapRequest}
use Rattle.mmap_calls.specs.Answers.{IsAnswered}
use Rattle.mmap_calls.specs.Refusals.{IsMapRefusal, IsMapRequest, map_call}
use Rattle.mmap_calls.proofs.CutPlaces.{same-space}
use Rattle.mmap_calls.proofs.Replaced.{refused-answers, done-answers}
use Rattle.mmap_calls.proofs.maps.map.Goals as goal

pub returns-in-Err-clause-done : goal.returns-in-Err-clause-done
returns-in-Err-clause-done g c = λ spaces fits. (
  refused-answers (memory c.args.world.now spaces) c.args.process c.args.space.now.parts c.args.world.now.zeros c.args.request.now c.in-Err.errno fits (c.in-Err.ensures.refused c.args.space.now.parts spaces c.args.process fits),
  (same-space (world_seen c.args.world.now) c.args.world.now.zeros spaces c.args.process c.args.space.now.parts fits).known,
)

pub returns-in-Some-clause-done : goal.returns-in-Some-clause-done
returns-in-Some-clause-done g c = λ spaces fits.
    let m : Memory = memory c.args.world.now spaces in
    let due = subst (λ (r : Option Errno). IsMapRefusal m c.args.process c.in-Ok.wanted.request r) c.in-Some.is (c.in_ok-errno.ensures spaces c.args.process fits) in
    let asked = subst (λ (q : MapRequest). IsMapRefusal m c.args.process q (Some c.in-Some.errno)) c.in-Ok.ensures.request due in
    (refused-answers m c.args.process c.args.space.now.parts c.args.world.now.zeros c.args.request.now c.in-Some.errno fits asked, (same-space m.world c.args.world.now.zeros spaces c.args.process c.args.space.now.parts fits).known)

pub replace-requires-clause-request : goal.replace-requires-clause-request
replace-requires-clause-request g c = subst IsMapRequest (sym c.in-Ok.ensures.request) c.requires.request

pub replace-requires-clause-due : goal.replace-requires-clause-due
replace-requires-clause-due g c = λ spaces p fits. subst (λ (r : Option Errno). IsMapRefusal (memory c.args.world.now spaces) p c.in-Ok.wanted.request r) c.in_default.is (c.in_ok-errno.ensures spaces p fits)

pub returns-clause-done : goal.returns-clause-done
returns-clause-done g c =
    subst (λ (q : MapRequest). IsAnswered c.args.world.now c.replace.new.world c.args.process c.args.space.now.parts c.replace.new.space.parts (map_call q) (Mapped (c.in-Ok.wanted.first * 4096))) c.in-Ok.ensures.request (λ spaces fits.
    let m : Memory = memory c.args.world.now spaces in
    let new : Memory = memory c.replace.new.world (finite.insert spaces c.args.process c.replace.new.space.parts) in
    let due = subst (λ (r : Option Errno). IsMapRefusal m c.args.process c.in-Ok.wanted.request r) c.in_default.is (c.in_ok-errno.ensures spaces c.args.process fits) in
    let first = c.in-Ok.ensures.mapping.first in
    let done = c.in_ok-replace.ensures.done spaces fits in
    (done-answers m new c.args.process c.in-Ok.wanted.request c.replace.new.world.zeros (c.in-Ok.wanted.first * 4096) due (omega (arith, first)) done c.in_ok-replace.ensures.modified, done.known))
