use Rattle.std.proofs.Common.{◌≡◌, ℕ, List, [], length, Some, None, sym, ap, ◌∙◌, subst}
use Rattle.std.specs.Prelude.{drop}
use Rattle.vm_script.specs.vm_types.Parts.{next_part, part_bytes}
use Rattle.vm_core.specs.Calls.{TakesMemory}
use Rattle.block_runs.specs.Callers.{SeesMore}
use Rattle.block_runs.proofs.KernelCalls.{call_made, call_lacked, on_err}
use Rattle.block_runs.proofs.Parting.{PartsMade, part_may, parts_start, parts_next, parts_end, parts_err}
use Rattle.block_runs.proofs.parts.make_parts.Goals as goal

pub loop-init : goal.loop-init
loop-init g c = parts_start (g.K.Calls.kernel c.args.kernel.now) c.args.caller.now c.args.call.now c.args.bytes.now c.requires.caller c.requires.may

pub call-requires-clause-may : goal.call-requires-clause-may
call-requires-clause-may g c = part_may (g.K.Calls.kernel c.args.kernel.now) c.args.caller.now c.loop.caller c.args.call.now c.args.bytes.now c.loop.call c.loop.left.now c.loop.invariant

pub loop-preserved : goal.loop-preserved
loop-preserved g c =
    let e = c.in_ok-reply.ensures in
    let one = call_made (g.K.Calls.kernel c.args.kernel.now) c.loop.caller c.call.new.caller c.loop.call c.in_ok-reply.reply c.loop.invariant.caller e.caller e.goes e.done in
    let next = c.in-Some-next_part in
    let is : next_part c.loop.call c.in_ok-reply.reply c.loop.left.now ≡ Some next.next = sym c.next_part.ensures.exact ∙ next.is in
    let left : c.split_at.result.1.now ≡ drop (length (part_bytes next.next)) c.loop.left.now = c.split_at.ensures.back ∙ ap (λ (n : ℕ). drop n c.loop.left.now) c.bytes_in.ensures in
    subst (PartsMade (g.K.Calls.kernel c.args.kernel.now) c.args.caller.now c.call.new.caller c.args.call.now c.args.bytes.now next.next) (sym left)
    (parts_next (g.K.Calls.kernel c.args.kernel.now) c.args.caller.now c.loop.caller c.call.new.caller c.args.call.now c.args.bytes.now c.loop.call c.loop.left.now c.in_ok-reply.reply next.next c.loop.invariant one.0 is one.1
    next.ensures.well_formed next.ensures.still_to_come)

pub returns-in_err-reply-clause-caller : goal.returns-in_err-reply-clause-caller
returns-in_err-reply-clause-caller g c =
    let e = c.in_err-reply.ensures in
    (call_lacked (g.K.Calls.kernel c.args.kernel.now) c.loop.caller c.call.new.caller c.loop.call c.loop.invariant.caller e.caller e.goes e.err).1

pub returns-in_err-reply-clause-takes : goal.returns-in_err-reply-clause-takes
returns-in_err-reply-clause-takes g c = on_err c.from_residual.result (TakesMemory c.args.call.now) (c.loop.invariant.takes c.in_err-reply.ensures.err.takes)

pub returns-in_err-reply-clause-err : goal.returns-in_err-reply-clause-err
returns-in_err-reply-clause-err g c =
    let e = c.in_err-reply.ensures in
    let none = (call_lacked (g.K.Calls.kernel c.args.kernel.now) c.loop.caller c.call.new.caller c.loop.call c.loop.invariant.caller e.caller e.goes e.err).0 in
    on_err c.from_residual.result (SeesMore c.args.caller.now c.call.new.caller [])
    (parts_err (g.K.Calls.kernel c.args.kernel.now) c.args.caller.now c.loop.caller c.call.new.caller c.args.call.now c.args.bytes.now c.loop.call c.loop.left.now c.loop.invariant none e.err.takes)

pub returns-in_default-clause-caller : goal.returns-in_default-clause-caller
returns-in_default-clause-caller g c =
    let e = c.in_ok-reply.ensures in
    (call_made (g.K.Calls.kernel c.args.kernel.now) c.loop.caller c.call.new.caller c.loop.call c.in_ok-reply.reply c.loop.invariant.caller e.caller e.goes e.done).1

pub returns-in_default-clause-made : goal.returns-in_default-clause-made
returns-in_default-clause-made g c =
    let e = c.in_ok-reply.ensures in
    let one = (call_made (g.K.Calls.kernel c.args.kernel.now) c.loop.caller c.call.new.caller c.loop.call c.in_ok-reply.reply c.loop.invariant.caller e.caller e.goes e.done).0 in
    parts_end (g.K.Calls.kernel c.args.kernel.now) c.args.caller.now c.loop.caller c.call.new.caller c.args.call.now c.args.bytes.now c.loop.call c.loop.left.now c.in_ok-reply.reply c.loop.invariant one (sym c.next_part.ensures.exact ∙ c.in_default.is)
