use Rattle.std.proofs.Common.{arith}
use Rattle.addr_space.proofs.SpanLemmas.{holds-near}
use Rattle.addr_space.proofs.ranges.place_near.Goals as goal

pub returns-then-has_page : goal.returns-then-has_page
returns-then-has_page c = grind (arith, holds-near 1 c.args.spans.now.items c.args.page c.args.near c.index.result.now c.requires)
