use Rattle.std.proofs.Common.{◌∙◌, IsSome, sym, subst, ap}
use Rattle.core_arena.specs.Bytes.{bytes_at}
use Rattle.page_store.specs.Seen.{StoreSeen}
use Rattle.page_store.proofs.QueryLemmas.{home-some, value-home}
use Rattle.page_store.proofs.store.Store.frame_bytes.Goals as goal

pub bytes-requires : goal.bytes-requires
bytes-requires g c = subst (λ (x : StoreSeen). IsSome (bytes_at x.frames c.args.frame)) (sym c.self.view_is) (home-some c.args.self.now c.requires.home.0 c.args.frame c.requires.home.1)

pub returns-clause-value : goal.returns-clause-value
returns-clause-value g c = λ name home notes table.
    value-home c.args.self.now notes table name c.args.frame c.bytes.result.now home (sym (ap (λ (x : StoreSeen). bytes_at x.frames c.args.frame) c.self.view_is) ∙ c.bytes.ensures.value)
