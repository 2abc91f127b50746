use Rattle.std.proofs.Common.{sym, subst}
use Rattle.seg_vn.specs.vm_types.declared.call.Call.{Call}
use Rattle.seg_vn.specs.vm_world.Words.{memory}
use Rattle.seg_vn.specs.Serves.{Serves}
use Rattle.seg_vn.specs.declared.attempt.Attempt.TheVariants as attempt
use Rattle.seg_vn.specs.vm_types.declared.call.Reply.TheVariants as reply
use Rattle.fault_entry.proofs.entry.answer_hit.Goals as goal

pub load_hit-requires-clause-fits : goal.load_hit-requires-clause-fits
load_hit-requires-clause-fits g c = (c.args.spaces.now.spaces, c.requires.fits, sym c.in-Some.ensures)

pub store_hit-requires-clause-fits : goal.store_hit-requires-clause-fits
store_hit-requires-clause-fits g c = (c.args.spaces.now.spaces, c.requires.fits, sym c.in-Some.ensures)

pub returns-in-Some-load_hit-clause-serves : goal.returns-in-Some-load_hit-clause-serves
returns-in-Some-load_hit-clause-serves g c = λ calls.
    let spaces = c.args.spaces.now.spaces in
    subst (λ (x : Call). Serves (memory c.args.world.now spaces) (memory c.load_hit.new.world spaces) c.args.world.now.pending c.load_hit.new.world.pending calls c.args.process x (attempt.Done (reply.Word c.in-Some-load_hit.word))) (sym c.in-Load.is)
    ((c.in-Some-load_hit.ensures.serves spaces c.requires.fits (sym c.in-Some.ensures)).serves calls)

pub returns-then-store_hit-clause-serves : goal.returns-then-store_hit-clause-serves
returns-then-store_hit-clause-serves g c = λ calls.
    let spaces = c.args.spaces.now.spaces in
    subst (λ (x : Call). Serves (memory c.args.world.now spaces) (memory c.store_hit.new.world spaces) c.args.world.now.pending c.store_hit.new.world.pending calls c.args.process x (attempt.Done reply.Done)) (sym c.in-Store.is)
    ((c.store_hit.ensures.serves c.if-store_hit.true spaces c.requires.fits (sym c.in-Some.ensures)).serves calls)
