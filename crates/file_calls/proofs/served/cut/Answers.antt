use Rattle.std.proofs.Common.{sym, ap, Ok, Err, refl, ◌∙◌, subst}
use Rattle.std.proofs.lemmas.Result.{err_from_is_err_and}
use Rattle.seg_vn.specs.vm_types.declared.call.Call.TheVariants.{Truncate}
use Rattle.seg_vn.specs.vm_types.declared.call.Reply.TheVariants as reply
use Rattle.seg_vn.specs.vm_world.FileCalls.{room_refusal}
use Rattle.seg_vn.specs.vm_world.Words.{memory, Fits, OneIsHome}
use Rattle.seg_vn.specs.vm_world.World.{world_seen}
use Rattle.file_calls.specs.Calls.{ServesCall}
use Rattle.file_calls.proofs.Refusals.{refused}
use Rattle.file_calls.proofs.served.cut.Goals as goal

-- Each clause is about the world after the test of the room, which is the one before it: `c.room_refusal.ensures.same`.
pub truncate-requires-clause-served : goal.truncate-requires-clause-served
truncate-requires-clause-served g c = ap (λ w. room_refusal w.files c.args.file c.args.length) c.room_refusal.ensures.same ∙ sym c.in_default.ensures.due

pub truncate-requires-clause-home : goal.truncate-requires-clause-home
truncate-requires-clause-home g c = subst (λ w. OneIsHome w.store) (sym c.room_refusal.ensures.same) (let h = c.requires.home 0 in (h.0, h.2))

pub truncate-requires-clause-fits : goal.truncate-requires-clause-fits
truncate-requires-clause-fits g c = let f = c.requires.fits in (f.0, subst (λ w. Fits w f.0) (sym c.room_refusal.ensures.same) f.1)

pub returns-in-Some-clause-serves : goal.returns-in-Some-clause-serves
returns-in-Some-clause-serves g c = λ spaces p fits.
    subst (λ w. ServesCall (memory c.args.world.now spaces) (memory w spaces) c.args.world.now.pending w.pending p (Truncate c.args.file c.args.length) (Ok (reply.Refused c.in-Some.errno))) (sym c.room_refusal.ensures.same)
    (refused (world_seen c.args.world.now) spaces c.args.world.now.pending p c.args.file (Truncate c.args.file c.args.length) c.in-Some.errno fits refl
    (sym c.in-Some.ensures.due))

pub returns-in_err-truncate-clause-serves : goal.returns-in_err-truncate-clause-serves
returns-in_err-truncate-clause-serves g c = λ spaces p fits.
    let is = err_from_is_err_and c.from_residual.result c.from_residual.ensures.1 in
    rw (is.1, is.2)
    (subst (λ w. ServesCall (memory w spaces) (memory c.truncate.new.world spaces) w.pending c.truncate.new.world.pending p (Truncate c.args.file c.args.length) (Err c.in_err-truncate.field-0.0)) c.room_refusal.ensures.same
    (c.in_err-truncate.ensures.serves spaces p (subst (λ w. Fits w spaces) (sym c.room_refusal.ensures.same) fits)))

pub returns-clause-serves : goal.returns-clause-serves
returns-clause-serves g c = λ spaces p fits.
    subst (λ w. ServesCall (memory w spaces) (memory c.truncate.new.world spaces) w.pending c.truncate.new.world.pending p (Truncate c.args.file c.args.length) (Ok reply.Done)) c.room_refusal.ensures.same
    (c.in_ok-truncate.ensures.serves spaces p (subst (λ w. Fits w spaces) (sym c.room_refusal.ensures.same) fits))
