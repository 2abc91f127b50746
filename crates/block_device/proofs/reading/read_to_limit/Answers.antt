use Rattle.std.proofs.Common.{rules, ◌-◌, vec_len, arith}
use Rattle.block_device.proofs.StreamLemmas.{on_err, took_some}
use Rattle.block_device.proofs.reading.read_to_limit.Goals as goal

pub returns-in_err-extend_from_slice-clause-taken : goal.returns-in_err-extend_from_slice-clause-taken
returns-in_err-extend_from_slice-clause-taken g c =
    on_err c.from_residual-in_err-extend_from_slice.result _
    (took_some _ _ _ c.loop-piece.all.items c.read_piece.new.into c.in_ok-count.count
    (c.args.limit - vec_len c.loop-piece.all) c.args.limit c.loop-piece.invariant.came c.in_ok-count.ensures.reads.bytes.came
    (omega (arith, c.in_ok-count.ensures.most, c.len-in-loop-piece.ensures)) (search rules))
