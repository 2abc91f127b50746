use Rattle.std.proofs.Common.{◌≡◌, false, inl, inr}
use Rattle.seg_ops.specs.page_hash.declared.PageName.{PageName}
use Rattle.seg_ops.specs.vm_world.World.{world_seen}
use Rattle.kernel_close.specs.Closing.{no_page}
use Rattle.kernel_close.proofs.Records.{page-kept}
use Rattle.kernel_close.proofs.Fills.{err-then}
use Rattle.kernel_close.proofs.Pushes.{records-of, pushes-then, stores-then, goes-then, fails-later, ok-more}
use Rattle.kernel_close.proofs.closing.push_if_modified.Goals as goal

pub push_page-requires-clause-page : goal.push_page-requires-clause-page
push_page-requires-clause-page g c = page-kept c.args.world.now.files c.is_modified.new.world.files (records-of (world_seen c.args.world.now) (world_seen c.is_modified.new.world) (c.is_modified.ensures.pushes c.requires.fits.0 c.requires.fits.1).tables) c.args.name c.requires.page

pub push_page-requires-clause-fits : goal.push_page-requires-clause-fits
push_page-requires-clause-fits g c = (c.requires.fits.0, (c.is_modified.ensures.pushes c.requires.fits.0 c.requires.fits.1).memory)

pub push_page-requires-clause-noted : goal.push_page-requires-clause-noted
push_page-requires-clause-noted g c = (c.is_modified.ensures.pushes c.requires.fits.0 c.requires.fits.1).notes

pub returns-then-is_modified-clause-stored : goal.returns-then-is_modified-clause-stored
returns-then-is_modified-clause-stored g c =
    ok-more c.push_page.result _ _
    (λ second. stores-then (world_seen c.args.world.now) (world_seen c.is_modified.new.world) (world_seen c.push_page.new.world) c.requires.fits.0
    (λ (n : PageName). (n ≡ c.args.name) × (c.is_modified.result ≡ false)) (λ (n : PageName). n ≡ c.args.name) (λ (n : PageName). n ≡ c.args.name)
    (c.is_modified.ensures.pushes c.requires.fits.0 c.requires.fits.1) c.is_modified.ensures.stored second (λ n page same. inr same))
    c.push_page.ensures.stored

pub returns-then-is_modified-clause-goes : goal.returns-then-is_modified-clause-goes
returns-then-is_modified-clause-goes g c =
    ok-more c.push_page.result _ _
    (λ second. goes-then (world_seen c.args.world.now) (world_seen c.is_modified.new.world) (world_seen c.push_page.new.world) c.requires.fits.0 no_page no_page
    (c.is_modified.ensures.pushes c.requires.fits.0 c.requires.fits.1) c.is_modified.ensures.goes second (λ n none. none))
    c.push_page.ensures.goes

pub returns-then-is_modified-clause-fault : goal.returns-then-is_modified-clause-fault
returns-then-is_modified-clause-fault g c =
    err-then c.push_page.result _ _
    (λ fault f. fails-later (world_seen c.args.world.now) (world_seen c.is_modified.new.world) (world_seen c.push_page.new.world) c.requires.fits.0 fault (c.is_modified.ensures.pushes c.requires.fits.0 c.requires.fits.1) c.is_modified.ensures.goes f)
    c.push_page.ensures.fault

pub returns-then-is_modified-clause-pushes : goal.returns-then-is_modified-clause-pushes
returns-then-is_modified-clause-pushes g c = λ spaces fits.
    let first = c.is_modified.ensures.pushes spaces fits in
    pushes-then (world_seen c.args.world.now) (world_seen c.is_modified.new.world) (world_seen c.push_page.new.world) spaces first (c.push_page.ensures.pushes spaces first.memory)

pub returns-else-is_modified-clause-stored : goal.returns-else-is_modified-clause-stored
returns-else-is_modified-clause-stored g c = λ tell name page or.
    c.is_modified.ensures.stored tell name page (elim or [ inl was ↦ inl was | inr same ↦ inr (same, c.if-is_modified.false) ])
