use Rattle.page_store.proofs.FrameLemmas.{row-landed}
use Rattle.page_store.proofs.landing.land.Goals as goal

pub returns-else-lost-clause-locks : goal.returns-else-lost-clause-locks
returns-else-lost-clause-locks c = rw c.if-lost.false
    (row-landed c.args.locks.now c.unlock.new.self c.set_bits.new.self c.args.frame c.bits-referenced.result.0 c.args.dirty c.requires.within
    c.unlock.ensures.new c.bits-referenced.ensures.referenced c.set_bits.ensures)
