use Rattle.std.proofs.Common.{sym, ap, subst}
use Rattle.vm_world.specs.vnode_files.Files.{FilesSeen}
use Rattle.vm_world.specs.anon_slots.Slots.{AnonSlotsSeen}
use Rattle.vm_world.specs.Segments.{Spaces}
use Rattle.vm_world.specs.MemoryFits.{MemoryFits}
use Rattle.vm_world.specs.World.{World, world_seen}
use Rattle.seg_ops.specs.Marks.{files_pushed}
use Rattle.vm_world.specs.Words.{KeepsPages}
use Rattle.seg_ops.proofs.Disks.{dirty-exists}
use Rattle.seg_ops.proofs.Marks.{Marks, marks-step, home-modified}
use Rattle.seg_ops.proofs.Pushed.{marks-pushed}
use Rattle.seg_ops.proofs.StillSteps.{memory_of}
use Rattle.seg_ops.proofs.flights.mark_pushed.Given.{Over}
use Rattle.seg_ops.proofs.flights.mark_pushed.Goals.{After-set_pushed}
use Rattle.seg_ops.proofs.flights.mark_pushed.Goals as goal

pub set_pushed-requires-clause-exists : goal.set_pushed-requires-clause-exists
set_pushed-requires-clause-exists g c = dirty-exists (world_seen c.args.world.now) c.requires.fits.0 c.args.name c.requires.fits.1 c.requires.dirty

-- what was marked
marks : (g : Over) (c : After-set_pushed g) (spaces : Spaces) → MemoryFits (memory_of (world_seen c.args.world.now) spaces) → Marks (world_seen c.args.world.now) c.set_pushed.new.world.files c.set_pushed.new.world.anon c.args.name
marks g c spaces fits =
    let w = world_seen c.args.world.now in
    subst (λ (fs : FilesSeen). Marks w fs c.set_pushed.new.world.anon c.args.name) (sym c.set_pushed.ensures.files)
    (subst (λ (a : AnonSlotsSeen). Marks w (files_pushed w.files c.args.name) a c.args.name) (sym c.set_pushed.ensures.anon)
    (marks-pushed w spaces c.args.name fits (dirty-exists w spaces c.args.name fits c.requires.dirty)))

pub returns-clause-pushed : goal.returns-clause-pushed
returns-clause-pushed g c = (marks g (goal.at.returns-clause-pushed g c).After-set_pushed c.requires.fits.0 c.requires.fits.1).marked

pub returns-clause-keeps : goal.returns-clause-keeps
returns-clause-keeps g c = λ spaces fits.
    let w = world_seen c.args.world.now in
    let is = marks g (goal.at.returns-clause-keeps g c).After-set_pushed spaces fits in
    subst (λ (v : World). KeepsPages w v spaces) (sym (ap world_seen c.set_pushed.ensures.rest))
    (marks-step w c.set_pushed.new.world.files c.set_pushed.new.world.anon c.args.name c.requires.dirty.frame spaces fits is (home-modified w spaces c.args.name c.requires.dirty fits))
