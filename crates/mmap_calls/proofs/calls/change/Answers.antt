use Rattle.std.proofs.Common.{◌≡◌, ℕ, List, Some, sym, ap, ◌∙◌, subst}
use Rattle.std.specs.Prelude.{is_some}
use Rattle.std.specs.FinMap as finite
use Rattle.seg_vn.specs.addr_space.Space.{Part}
use Rattle.seg_vn.proofs.flat_model.Maps.{on_err_any}
use Rattle.seg_vn.proofs.flat_model.Ranges.{insert_same, get-insert_here}
use Rattle.seg_vn.specs.vm_world.Segments.{Spaces}
use Rattle.seg_vn.specs.vm_world.World.{world_seen}
use Rattle.seg_vn.specs.vm_world.ZeroObjects.{KnowsZeros}
use Rattle.seg_vn.specs.vm_world.declared.segment.Segment.{Segment}
use Rattle.seg_vn.specs.vm_world.declared.world.World.{World}
use Rattle.seg_vn.proofs.vm_world.KnownZeros.{known-other}
use Rattle.mmap_calls.proofs.AtOnce.{at-once-serves}
use Rattle.mmap_calls.proofs.calls.change.Goals as goal

pub answer-requires-clause-fits : goal.answer-requires-clause-fits
answer-requires-clause-fits g c = (c.args.spaces.now.spaces, record { here = sym c.in-Some.ensures.found; memory = c.requires.fits; known = c.requires.zeros })

same-spaces : (spaces : Spaces) (p : ℕ) (parts new : List (Part Segment)) → finite.get spaces p ≡ Some parts → new ≡ parts → finite.insert spaces p new ≡ spaces
same-spaces spaces p parts new here same = ap (finite.insert spaces p) same ∙ insert_same spaces p parts here

pub returns-in_err-reply-clause-zeros : goal.returns-in_err-reply-clause-zeros
returns-in_err-reply-clause-zeros g c =
    subst (KnowsZeros c.answer.new.world.zeros) (sym (same-spaces c.args.spaces.now.spaces c.args.process c.in-Some.space.now.parts c.answer.new.space.parts (sym c.in-Some.ensures.found) c.in_err-reply.ensures.err.2))
    (known-other c.args.world.now.zeros c.answer.new.world.zeros c.args.spaces.now.spaces c.in_err-reply.ensures.err.0 c.requires.zeros)

pub returns-in_err-reply-clause-err : goal.returns-in_err-reply-clause-err
returns-in_err-reply-clause-err g c =
    on_err_any c.from_residual.result ((c.answer.new.world ≡ record c.args.world.now { zeros = c.answer.new.world.zeros }) × (finite.insert c.args.spaces.now.spaces c.args.process c.answer.new.space.parts ≡ c.args.spaces.now.spaces))
    (c.in_err-reply.ensures.err.1, same-spaces c.args.spaces.now.spaces c.args.process c.in-Some.space.now.parts c.answer.new.space.parts (sym c.in-Some.ensures.found) c.in_err-reply.ensures.err.2)

pub returns-clause-done : goal.returns-clause-done
returns-clause-done g c = λ calls.
    at-once-serves (record { world = world_seen c.args.world.now; spaces = c.args.spaces.now.spaces }) (record { world = world_seen c.answer.new.world; spaces = finite.insert c.args.spaces.now.spaces c.args.process c.answer.new.space.parts })
    c.args.world.now.pending c.answer.new.world.pending c.args.process c.args.call.now c.in_ok-reply.reply (ap (λ (w : World g.row.D.Denot). w.pending) c.answer.ensures.rest) c.requires.fits
    (c.in_ok-reply.ensures.done c.args.spaces.now.spaces (record { here = sym c.in-Some.ensures.found; memory = c.requires.fits; known = c.requires.zeros })).0

pub returns-clause-zeros : goal.returns-clause-zeros
returns-clause-zeros g c = (c.in_ok-reply.ensures.done c.args.spaces.now.spaces (record { here = sym c.in-Some.ensures.found; memory = c.requires.fits; known = c.requires.zeros })).1

pub returns-clause-answer : goal.returns-clause-answer
returns-clause-answer g c = (c.in_ok-reply.ensures.done c.args.spaces.now.spaces (record { here = sym c.in-Some.ensures.found; memory = c.requires.fits; known = c.requires.zeros })).0.plain

pub returns-clause-alive : goal.returns-clause-alive
returns-clause-alive g c = ap is_some (get-insert_here c.args.spaces.now.spaces c.args.process c.answer.new.space.parts)

pub returns-in_err-reply-clause-alive : goal.returns-in_err-reply-clause-alive
returns-in_err-reply-clause-alive g c = ap is_some (get-insert_here c.args.spaces.now.spaces c.args.process c.answer.new.space.parts)
