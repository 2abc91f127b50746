use Rattle.std.proofs.Common.{sym}
use Rattle.page_store.specs.Seen.{store_of}
use Rattle.page_store.proofs.QueryLemmas.{found-within, found-row}
use Rattle.page_store.proofs.store.Store.resident.Goals as goal

pub is_home-requires : goal.is_home-requires
is_home-requires g c = found-within
    (store_of c.self.inside.core c.self.inside.names c.self.inside.lists c.self.inside.locks c.self.inside.clock c.self.inside.bays c.self.inside.order) _
    c.in-Some.frame c.self.invariant.sound (sym c.in-Some.ensures.first)

pub holder-requires : goal.holder-requires
holder-requires g c = found-row
    (store_of c.self.inside.core c.self.inside.names c.self.inside.lists c.self.inside.locks c.self.inside.clock c.self.inside.bays c.self.inside.order) _
    c.in-Some.frame c.self.invariant.sound (sym c.in-Some.ensures.first)
