use Rattle.std.proofs.Common.{subst}
use Rattle.page_store.specs.Seen.{IsSoundStore}
use Rattle.page_store.proofs.AbortLemmas.{aborts-frame}
use Rattle.page_store.proofs.BeginLemmas.{begins-push}
use Rattle.page_store.proofs.EndLemmas.{ends-flight}
use Rattle.page_store.proofs.RowSteps.{stays-row}
use Rattle.page_store.proofs.PokeLemmas.{pokes-frame}
use Rattle.page_store.proofs.FillLemmas.{fills-frame}
use Rattle.page_store.proofs.store.Store.sound.Goals as goal

pub returns : goal.returns
returns g c = subst IsSoundStore c.self.view_is c.self.invariant.sound
