-- What pushes send, while the history grows.
use Rattle.std.proofs.Common.{◌≡◌, ℕ, ◌<◌, ◌++◌, List, ap, sym, subst, arith}
use Rattle.std.proofs.lemmas.List.{take-append-le, length-append}
use Rattle.flat_model.specs.vm_types.declared.call.Entry.{Entry}
use Rattle.flat_model.specs.Flat.{Flat}
use Rattle.flat_model.specs.History.{replay}
use Rattle.page_store.specs.page_hash.declared.PageName.{PageName}
use Rattle.mark_laws.specs.Pages.{ArePageOf, after_first, bytes_there, page_there}

-- what a shorter history left, a longer one did
pub page-on : (F : Flat) (H K : List Entry) (name : PageName) (bytes : List ℕ) → ArePageOf F H name bytes → ArePageOf F (H ++ K) name bytes
page-on F H K name bytes p =
    let early = p.made in
    let same : after_first F (H ++ K) p.entries ≡ after_first F H p.entries = ap (replay F) (take-append-le p.entries H K early) in
    let long = length-append H K in
    record {
      entries = p.entries;
      made = omega (arith, early, long);
      inside = subst (λ (G : Flat). 0 < bytes_there G name) (sym same) p.inside;
      same = subst (λ (G : Flat). bytes ≡ page_there G name) (sym same) p.same;
    }
