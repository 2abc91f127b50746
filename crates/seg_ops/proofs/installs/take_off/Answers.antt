use Rattle.std.proofs.Common.{◌≡◌, ℕ, true, false, Some, sym, ◌∙◌}
use Rattle.page_store.specs.page_hash.Names.{find}
use Rattle.page_store.specs.page_hash.declared.PageName.{PageName}
use Rattle.page_store.specs.Seen.{StoreSeen, IsListedFrame, residence}
use Rattle.page_store.specs.declared.residence.Residence.TheVariants.{Home}
use Rattle.page_store.proofs.QueryLemmas.{home-is, found-within}
use Rattle.seg_ops.proofs.Shows.{of-frame, reclaim-still, still-stays}
use Rattle.seg_ops.proofs.installs.take_off.Goals as goal

found : (s : StoreSeen) (name : PageName) (frame : ℕ) → residence s name ≡ Home frame → find s.names name ≡ Some frame
found s name frame home = (home-is s name frame home).found

pub listed-requires : goal.listed-requires
listed-requires g c = found-within c.args.store.now c.args.name c.args.frame c.sound.ensures (found c.args.store.now c.args.name c.args.frame c.requires.home)

pub returns-then-not-listed-clause-new : goal.returns-then-not-listed-clause-new
returns-then-not-listed-clause-new g c = sym (reclaim-still c.args.store.now c.args.name c.args.frame (found c.args.store.now c.args.name c.args.frame c.requires.home)
    (λ l. let z : false ≡ true = sym c.if-not-listed.true ∙ c.listed.ensures.1 l in cc))

pub returns-then-not-listed-clause-unlisted : goal.returns-then-not-listed-clause-unlisted
returns-then-not-listed-clause-unlisted g c = λ l. let z : false ≡ true = sym c.if-not-listed.true ∙ c.listed.ensures.1 l in cc

pub returns-then-not-listed-clause-laws : goal.returns-then-not-listed-clause-laws
returns-then-not-listed-clause-laws g c = still-stays c.args.store.now c.args.name c.args.frame c.sound.ensures (found c.args.store.now c.args.name c.args.frame c.requires.home)
    (λ l. let z : false ≡ true = sym c.if-not-listed.true ∙ c.listed.ensures.1 l in cc)

pub returns-clause-unlisted : goal.returns-clause-unlisted
returns-clause-unlisted g c = of-frame (find c.args.store.now.names c.args.name) c.args.frame (λ (f : ℕ). ¬ IsListedFrame c.reclaim.new.self f) (found c.args.store.now c.args.name c.args.frame c.requires.home) c.reclaim.ensures.unlisted
