use Rattle.std.proofs.Common.{◌≡◌, ◌≢◌, ℕ, refl, sym, ap, ◌∙◌}
use Rattle.vm_world.specs.vnode_files.declared.vnode.FileInfo.{FileInfo}
use Rattle.vm_world.specs.World.{world_seen}
use Rattle.seg_ops.proofs.Disks.{lives-on}
use Rattle.seg_ops.proofs.plans.disk_of.Goals as goal

pub returns-then-name-eq-SWAP_OBJECT-clause-disk : goal.returns-then-name-eq-SWAP_OBJECT-clause-disk
returns-then-name-eq-SWAP_OBJECT-clause-disk g c = sym ((lives-on (world_seen c.args.world.now) c.requires.fits.0 c.args.name c.requires.fits.1 c.requires.exists).swap c.if-name-eq-SWAP_OBJECT.true)

pub returns-clause-disk : goal.returns-clause-disk
returns-clause-disk g c =
    ap (λ (i : FileInfo). i.disk) c.info.ensures.info ∙ sym ((lives-on (world_seen c.args.world.now) c.requires.fits.0 c.args.name c.requires.fits.1 c.requires.exists).file c.if-name-eq-SWAP_OBJECT.false).1
