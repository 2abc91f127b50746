use Rattle.addr_space.proofs.PageLaws.{get-pages_of_parts}
use Rattle.addr_space.proofs.Totals.{len-pages_of_parts}
use Rattle.addr_space.proofs.laws.pages_law.Goals as goal

pub returns : goal.returns
returns c =
    let parts = c.args.ranges.now.parts in
    record { shows = get-pages_of_parts parts; count = len-pages_of_parts 1 parts }
