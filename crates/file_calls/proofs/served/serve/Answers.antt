use Rattle.std.proofs.Common.{sym, subst}
use Rattle.seg_vn.specs.vm_types.declared.call.Call.{Call}
use Rattle.seg_vn.specs.vm_world.Words.{memory}
use Rattle.file_calls.specs.Calls.{ServesCall}
use Rattle.file_calls.proofs.FileKinds.{of-no-file}
use Rattle.file_calls.proofs.served.serve.Goals as goal

pub returns-in-Read-clause-serves : goal.returns-in-Read-clause-serves
returns-in-Read-clause-serves g c = λ spaces p fits.
    subst (λ (x : Call). ServesCall (memory c.args.world.now spaces) (memory c.read.new.world spaces) c.args.world.now.pending c.read.new.world.pending p x c.read.result) (sym c.in-Read.is) (c.read.ensures.serves spaces p fits)

pub returns-in-Write-clause-serves : goal.returns-in-Write-clause-serves
returns-in-Write-clause-serves g c = λ spaces p fits.
    subst (λ (x : Call). ServesCall (memory c.args.world.now spaces) (memory c.write.new.world spaces) c.args.world.now.pending c.write.new.world.pending p x c.write.result) (sym c.in-Write.is) (c.write.ensures.serves spaces p c.in-Write.rest fits)

pub returns-in-Truncate-clause-serves : goal.returns-in-Truncate-clause-serves
returns-in-Truncate-clause-serves g c = λ spaces p fits.
    subst (λ (x : Call). ServesCall (memory c.args.world.now spaces) (memory c.cut.new.world spaces) c.args.world.now.pending c.cut.new.world.pending p x c.cut.result) (sym c.in-Truncate.is) (c.cut.ensures.serves spaces p fits)

-- no other call is of a file
pub unreachable-requires : goal.unreachable-requires
unreachable-requires g c = of-no-file c.args.call.now c.requires.file c.in_default.not-Read c.in_default.not-Write c.in_default.not-Truncate
