use Rattle.std.proofs.Common.{ℕ, Err, sym, ap, ◌∙◌, subst}
use Rattle.seg_ops.specs.vm_world.World.{world_seen}
use Rattle.seg_ops.proofs.StillSteps.{memory_of}
use Rattle.home_pages.specs.Brings.{BringsPage}
use Rattle.home_pages.proofs.Brings.{fetch-brings, home-brings, moving-brings}
use Rattle.home_pages.proofs.brought.bring_page.Goals as goal

pub returns-in-Home-clause-brings : goal.returns-in-Home-clause-brings
returns-in-Home-clause-brings g c =
    let home = sym c.resident.ensures.residence ∙ c.in-Home.is in
    ((λ spaces fits. home-brings (world_seen c.args.world.now) spaces c.args.world.now.pending c.args.name c.in-Home.frame fits home), home)

pub returns-in-Moving-clause-brings : goal.returns-in-Moving-clause-brings
returns-in-Moving-clause-brings g c = λ spaces fits.
    moving-brings (world_seen c.args.world.now) spaces c.args.world.now.pending c.args.name c.in-Moving.seat fits (sym c.resident.ensures.residence ∙ c.in-Moving.is)

pub returns-else-is_unpushed-clause-brings : goal.returns-else-is_unpushed-clause-brings
returns-else-is_unpushed-clause-brings g c = λ spaces fits.
    let old = world_seen c.args.world.now in
    let new = world_seen c.fetch.new.world in
    let name = c.args.name in
    let makes = c.fetch.ensures.makes in
    subst (λ (k : ℕ). BringsPage (memory_of old spaces) (memory_of new spaces) c.args.world.now.pending k name (Err c.fetch.result)) (sym (ap (λ v. v.pending) makes.rest))
    (fetch-brings old new spaces c.args.world.now.pending name c.fetch.result (makes.keeps spaces fits) (sym c.resident.ensures.residence ∙ c.in-Absent.is) makes.modified (c.fetch.ensures.fetches spaces fits))
