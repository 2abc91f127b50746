use Rattle.std.proofs.Common.{sym, refl}
use Rattle.std.proofs.lemmas.Result.{err_from_is_err_and}
use Rattle.seg_vn.specs.vm_types.declared.call.Call.TheVariants.{Read}
use Rattle.seg_vn.specs.vm_world.World.{world_seen}
use Rattle.file_calls.proofs.Refusals.{refused}
use Rattle.file_calls.proofs.served.read.Goals as goal

pub read_line-requires-clause-served : goal.read_line-requires-clause-served
read_line-requires-clause-served g c = sym (c.in_default.ensures c.args.offset c.args.asked)

pub read_line-requires-clause-home : goal.read_line-requires-clause-home
read_line-requires-clause-home g c = let h = c.requires.home 0 in (h.0, h.2)

pub returns-in-Some-clause-serves : goal.returns-in-Some-clause-serves
returns-in-Some-clause-serves g c = λ spaces p fits.
    refused (world_seen c.args.world.now) spaces c.args.world.now.pending p c.args.file (Read c.args.file c.args.offset c.args.asked) c.in-Some.errno fits refl (sym (c.in-Some.ensures c.args.offset c.args.asked))

pub returns-in_err-line-clause-serves : goal.returns-in_err-line-clause-serves
returns-in_err-line-clause-serves g c = λ spaces p fits.
    let is = err_from_is_err_and c.from_residual.result c.from_residual.ensures.1 in
    rw (is.1, is.2) (c.in_err-line.ensures.serves spaces p fits)

pub returns-clause-serves : goal.returns-clause-serves
returns-clause-serves g c = λ spaces p fits. c.in_ok-line.ensures.serves spaces p fits
