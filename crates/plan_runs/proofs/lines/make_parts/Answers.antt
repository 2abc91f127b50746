use Rattle.std.proofs.Common.{◌≡◌, ℕ, Some, drop, sym, ap, ◌∙◌, subst}
use Rattle.volume_files.specs.vm_types.Parts.{next_part}
use Rattle.vm_core.specs.Calls.{TakesMemory}
use Rattle.block_runs.proofs.KernelCalls.{on_err}
use Rattle.plan_runs.specs.Lines.{AreOfOne}
use Rattle.plan_runs.proofs.Alone.{alone-end, alone-lacked, alone-may, alone-next, alone-start, of-one-more}
use Rattle.plan_runs.proofs.GoingOn.{stays-still}
use Rattle.plan_runs.proofs.Rounds.{frames-still}
use Rattle.plan_runs.proofs.Trips.{then-too}
use Rattle.plan_runs.proofs.lines.make_parts.Goals as goal

pub loop-reply-init : goal.loop-reply-init
loop-reply-init g c = alone-start c.args.state.now c.args.call.now c.args.bytes.now c.requires.alone c.requires.may

pub make_call-requires-clause-frames : goal.make_call-requires-clause-frames
make_call-requires-clause-frames g c = frames-still c.args.state.now c.loop-reply.state c.args.frames c.loop-reply.invariant.event c.requires.frames

pub make_call-requires-clause-still : goal.make_call-requires-clause-still
make_call-requires-clause-still g c = stays-still c.args.state.now c.loop-reply.state c.loop-reply.invariant.event c.requires.still

pub make_call-requires-clause-may : goal.make_call-requires-clause-may
make_call-requires-clause-may g c = alone-may c.args.state.now c.loop-reply.state c.args.call.now c.args.bytes.now c.loop-reply.call c.loop-reply.left.now c.loop-reply.invariant

pub loop-reply-preserved : goal.loop-reply-preserved
loop-reply-preserved g c =
    let next = c.in-Some in
    let is : next_part c.loop-reply.call c.in_ok-reply.reply c.loop-reply.left.now ≡ Some next.next = sym c.next_part.ensures.exact ∙ next.is in
    let left = c.split_at.ensures.back ∙ ap (λ (n : ℕ). drop n c.loop-reply.left.now) c.bytes_in.ensures in
    alone-next c.args.state.now c.loop-reply.state c.make_call.new.state c.args.call.now c.args.bytes.now c.loop-reply.call c.loop-reply.left.now c.loop-reply.invariant c.make_call.ensures.event
    c.in_ok-reply.reply next.next c.split_at.result.1.now c.in_ok-reply.ensures.made is left next.ensures.well_formed next.ensures.still_to_come

pub returns-in_default-clause-event : goal.returns-in_default-clause-event
returns-in_default-clause-event g c = then-too c.args.state.now c.loop-reply.state c.make_call.new.state c.loop-reply.invariant.event c.make_call.ensures.event

pub returns-in_default-clause-alone : goal.returns-in_default-clause-alone
returns-in_default-clause-alone g c = of-one-more c.loop-reply.state c.make_call.new.state c.loop-reply.call c.in_ok-reply.reply c.loop-reply.invariant.alone c.in_ok-reply.ensures.made

pub returns-in_default-clause-made : goal.returns-in_default-clause-made
returns-in_default-clause-made g c =
    alone-end c.args.state.now c.loop-reply.state c.make_call.new.state c.args.call.now c.args.bytes.now c.loop-reply.call c.loop-reply.left.now c.loop-reply.invariant c.make_call.ensures.event
    c.in_ok-reply.reply c.in_ok-reply.ensures.made (sym c.next_part.ensures.exact ∙ c.in_default.is)

pub returns-in_err-reply-clause-event : goal.returns-in_err-reply-clause-event
returns-in_err-reply-clause-event g c = then-too c.args.state.now c.loop-reply.state c.make_call.new.state c.loop-reply.invariant.event c.make_call.ensures.event

pub returns-in_err-reply-clause-alone : goal.returns-in_err-reply-clause-alone
returns-in_err-reply-clause-alone g c = subst AreOfOne (sym c.in_err-reply.ensures.err) c.loop-reply.invariant.alone

pub returns-in_err-reply-clause-takes : goal.returns-in_err-reply-clause-takes
returns-in_err-reply-clause-takes g c = on_err c.from_residual.result (TakesMemory c.args.call.now) (c.loop-reply.invariant.parts.takes c.in_err-reply.ensures.takes)

pub returns-in_err-reply-clause-err : goal.returns-in_err-reply-clause-err
returns-in_err-reply-clause-err g c =
    on_err c.from_residual.result (c.make_call.new.state.history ≡ c.args.state.now.history)
    (alone-lacked c.args.state.now c.loop-reply.state c.make_call.new.state c.args.call.now c.args.bytes.now c.loop-reply.call c.loop-reply.left.now c.loop-reply.invariant c.make_call.ensures.event c.requires.alone
    c.in_err-reply.ensures.err c.in_err-reply.ensures.takes)
