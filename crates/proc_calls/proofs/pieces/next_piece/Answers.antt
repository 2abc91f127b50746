use Rattle.std.proofs.Common.{sym}
use Rattle.seg_vn.specs.addr_space.Space.{part}
use Rattle.seg_vn.proofs.vm_world.Spots.{begun-there}
use Rattle.proc_calls.proofs.PiecesFrom.{is-next, match-none, none-from}
use Rattle.proc_calls.proofs.pieces.next_piece.Goals as goal

pub unreachable-requires : goal.unreachable-requires
unreachable-requires c = begun-there c.args.space.now.parts c.in_ok-next.next c.in_default.ensures.ordered c.in_ok-next.ensures.least.1 c.in_default.ensures.found

pub returns : goal.returns
returns c = is-next c.args.page c.in_ok-next.next c.args.space.now.parts (part c.in-Some.first c.in-Some.pages c.in-Some.segment.now) c.in-Some.ensures.ordered (sym c.in_ok-next.ensures.first) c.in_ok-next.ensures.least.0 c.in-Some.ensures.found

pub returns-in_err-next : goal.returns-in_err-next
returns-in_err-next c = match-none c.from_residual.result _ _ c.from_residual.ensures (none-from c.args.page c.args.space.now.parts (sym c.in_err-next.ensures.first))
