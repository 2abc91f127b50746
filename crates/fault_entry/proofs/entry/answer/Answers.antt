use Rattle.std.proofs.Common.{sym, subst}
use Rattle.seg_vn.specs.vm_types.declared.call.Call.{Call}
use Rattle.seg_vn.specs.vm_world.Words.{memory}
use Rattle.seg_vn.specs.Serves.{Serves}
use Rattle.fault_entry.specs.Answers.{attempt_of}
use Rattle.fault_entry.proofs.entry.answer.Goals as goal

pub load-requires-clause-fits : goal.load-requires-clause-fits
load-requires-clause-fits g c = (c.args.spaces.now.spaces, c.requires.fits, sym c.in-Some.ensures)

pub store-requires-clause-fits : goal.store-requires-clause-fits
store-requires-clause-fits g c = (c.args.spaces.now.spaces, c.requires.fits, sym c.in-Some.ensures)

pub returns-in-Load-clause-serves : goal.returns-in-Load-clause-serves
returns-in-Load-clause-serves g c = λ calls.
    let spaces = c.args.spaces.now.spaces in
    subst (λ (x : Call). Serves (memory c.args.world.now spaces) (memory c.load.new.world spaces) c.args.world.now.pending c.load.new.world.pending calls c.args.process x (attempt_of c.load.result)) (sym c.in-Load.is)
    ((c.load.ensures.serves spaces c.requires.fits (sym c.in-Some.ensures)).serves calls)

pub returns-in-Store-clause-serves : goal.returns-in-Store-clause-serves
returns-in-Store-clause-serves g c = λ calls.
    let spaces = c.args.spaces.now.spaces in
    subst (λ (x : Call). Serves (memory c.args.world.now spaces) (memory c.store.new.world spaces) c.args.world.now.pending c.store.new.world.pending calls c.args.process x (attempt_of c.store.result)) (sym c.in-Store.is)
    ((c.store.ensures.serves spaces c.requires.fits (sym c.in-Some.ensures)).serves calls)
