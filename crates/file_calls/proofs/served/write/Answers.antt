use Rattle.std.proofs.Common.{◌+◌, ℕ, length, sym, ap, Ok, Err, refl, ◌∙◌, subst}
use Rattle.std.proofs.lemmas.Result.{err_from_is_err_and}
use Rattle.seg_vn.specs.vm_types.declared.call.Call.TheVariants.{Write}
use Rattle.seg_vn.specs.vm_types.declared.call.Reply.TheVariants as reply
use Rattle.seg_vn.specs.vm_world.FileCalls.{room_refusal}
use Rattle.seg_vn.specs.vm_world.Words.{memory, Fits, TwoAreHome}
use Rattle.seg_vn.specs.vm_world.World.{world_seen}
use Rattle.file_calls.specs.Calls.{ServesCall}
use Rattle.file_calls.proofs.Refusals.{refused}
use Rattle.file_calls.proofs.served.write.Goals as goal

-- Each clause is about the world after the test of the room, which is the one before it: `c.room_refusal.ensures.same`.
pub write_line-requires-clause-served : goal.write_line-requires-clause-served
write_line-requires-clause-served g c =
    ap (λ w. room_refusal w.files c.args.file (c.args.offset + length c.args.bytes.now)) c.room_refusal.ensures.same
    ∙ sym (ap (λ (n : ℕ). room_refusal c.args.world.now.files c.args.file (c.args.offset + n)) c.len.ensures.len)
    ∙ sym c.in_default.ensures.due

pub write_line-requires-clause-home : goal.write_line-requires-clause-home
write_line-requires-clause-home g c = subst (λ w. TwoAreHome w.store) (sym c.room_refusal.ensures.same) c.requires.home

pub write_line-requires-clause-fits : goal.write_line-requires-clause-fits
write_line-requires-clause-fits g c = let f = c.requires.fits in (f.0, subst (λ w. Fits w f.0) (sym c.room_refusal.ensures.same) f.1)

pub returns-in-Some-clause-serves : goal.returns-in-Some-clause-serves
returns-in-Some-clause-serves g c = λ spaces p rest fits.
    subst (λ w. ServesCall (memory c.args.world.now spaces) (memory w spaces) c.args.world.now.pending w.pending p (Write c.args.file c.args.offset c.args.bytes.now rest) (Ok (reply.Refused c.in-Some.errno))) (sym c.room_refusal.ensures.same)
    (refused (world_seen c.args.world.now) spaces c.args.world.now.pending p c.args.file (Write c.args.file c.args.offset c.args.bytes.now rest) c.in-Some.errno fits refl
    (ap (λ (n : ℕ). room_refusal c.args.world.now.files c.args.file (c.args.offset + n)) (sym c.len.ensures.len) ∙ sym c.in-Some.ensures.due))

pub returns-in_err-write_line-clause-serves : goal.returns-in_err-write_line-clause-serves
returns-in_err-write_line-clause-serves g c = λ spaces p rest fits.
    let is = err_from_is_err_and c.from_residual.result c.from_residual.ensures.1 in
    rw (is.1, is.2)
    (subst (λ w. ServesCall (memory w spaces) (memory c.write_line.new.world spaces) w.pending c.write_line.new.world.pending p (Write c.args.file c.args.offset c.args.bytes.now rest) (Err c.in_err-write_line.field-0.0)) c.room_refusal.ensures.same
    (c.in_err-write_line.ensures.serves spaces p rest (subst (λ w. Fits w spaces) (sym c.room_refusal.ensures.same) fits)))

pub returns-clause-serves : goal.returns-clause-serves
returns-clause-serves g c = λ spaces p rest fits.
    subst (λ w. ServesCall (memory w spaces) (memory c.write_line.new.world spaces) w.pending c.write_line.new.world.pending p (Write c.args.file c.args.offset c.args.bytes.now rest) (Ok reply.Done)) c.room_refusal.ensures.same
    (c.in_ok-write_line.ensures.serves spaces p rest (subst (λ w. Fits w spaces) (sym c.room_refusal.ensures.same) fits))
