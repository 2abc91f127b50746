use Rattle.std.proofs.Common.{◌≡◌, ◌++◌, ℕ, List, None, length, take, drop, sym, ap, ◌∙◌, subst, take_at, slice_index_or, arith}
use Rattle.std.specs.Prelude.{MatchOption}
use Rattle.seg_ops.specs.page_store.Bays.{BaySeen, missing, home, pairs_seen}
use Rattle.seg_ops.specs.vm_world.World.{world_seen}
use Rattle.kernel_close.specs.Closing.{AreDisksOf}
use Rattle.kernel_close.proofs.Fills.{whole-seen}
use Rattle.kernel_close.proofs.Finishes.{still, are-disks, IsFinished, finishes}
use Rattle.kernel_close.proofs.finish.finish_world.Given.{Over}
use Rattle.kernel_close.proofs.finish.finish_world.Goals as goal
use Rattle.kernel_close.proofs.finish.finish_world.Goals.{After-fill_if_pushed-fault}

-- the disks as they are at the end
out : (g : Over) (c : After-fill_if_pushed-fault g)
    → take c.into_disks-disks.result.0.len (c.fill_if_pushed-fault.new.disks ++ drop (length c.fill_if_pushed-fault.new.disks) c.into_disks-disks.result.0.items) ≡ c.fill_if_pushed-fault.new.disks
out g c = take_at c.fill_if_pushed-fault.new.disks _ c.into_disks-disks.result.0.len
    (let a = c.into_disks-disks.result.0.ok.0 in let b = c.fill_if_pushed-fault.auto.disks in let e = ap (λ l. length l) c.as_mut_slice.ensures.value in omega (arith, a, b, e))

is : (g : Over) (c : After-fill_if_pushed-fault g)
    → IsFinished (world_seen c.args.world) c.fill_if_pushed-fault.new.files
    (pairs_seen g.D.Disk.seen (take c.into_disks-disks.result.0.len (c.fill_if_pushed-fault.new.disks ++ drop (length c.fill_if_pushed-fault.new.disks) c.into_disks-disks.result.0.items))) c.fill_if_pushed-fault.result
is g c =
    subst (λ (ys : List (ℕ × _)). IsFinished (world_seen c.args.world) c.fill_if_pushed-fault.new.files (pairs_seen g.D.Disk.seen ys) c.fill_if_pushed-fault.result) (sym (out g c))
    (finishes (pairs_seen g.D.Disk.seen) (world_seen c.args.world) (world_seen c.push_files-pushed.new.world) c.requires.fits.0 c.push_files-pushed.result c.fill_if_pushed-fault.new.files
    c.as_mut_slice.result.now c.fill_if_pushed-fault.new.disks c.fill_if_pushed-fault.result (whole-seen g.D.Disk.seen g.met.D.Disk.has_blocks c.fill_if_pushed-fault.new.disks)
    c.requires.fits.1 (c.push_files-pushed.ensures.pushes c.requires.fits.0 c.requires.fits.1) (ap (pairs_seen g.D.Disk.seen) c.as_mut_slice.ensures.value ∙ c.into_disks-disks.ensures.disks)
    c.push_files-pushed.ensures.stored c.push_files-pushed.ensures.goes c.push_files-pushed.ensures.fault c.fill_if_pushed-fault.ensures.writes c.fill_if_pushed-fault.ensures.fills c.fill_if_pushed-fault.ensures.goes c.fill_if_pushed-fault.ensures.fault)

pub into_disks-disks-requires : goal.into_disks-disks-requires
into_disks-disks-requires g c = still (world_seen c.push_files-pushed.new.world) (c.push_files-pushed.ensures.pushes c.requires.fits.0 c.requires.fits.1).notes

pub fill_if_pushed-fault-requires : goal.fill_if_pushed-fault-requires
fill_if_pushed-fault-requires g c =
    let p = c.push_files-pushed.ensures.pushes c.requires.fits.0 c.requires.fits.1 in
    subst (AreDisksOf c.push_files-pushed.new.world.files) (sym (ap (pairs_seen g.D.Disk.seen) c.as_mut_slice.ensures.value ∙ c.into_disks-disks.ensures.disks)) (are-disks (world_seen c.push_files-pushed.new.world) c.requires.fits.0 p.memory p.notes)

pub returns-clause-counts : goal.returns-clause-counts
returns-clause-counts g c = λ disk. ap (λ (l : List _). slice_index_or l disk None) c.of.ensures.faults ∙ c.fault_counts-faults.ensures disk

pub returns-clause-closed : goal.returns-clause-closed
returns-clause-closed g c = (is g (goal.at.returns-clause-closed g c).After-fill_if_pushed-fault).closed

pub returns-clause-filled : goal.returns-clause-filled
returns-clause-filled g c = (is g (goal.at.returns-clause-filled g c).After-fill_if_pushed-fault).filled

pub returns-clause-fault : goal.returns-clause-fault
returns-clause-fault g c = (is g (goal.at.returns-clause-fault g c).After-fill_if_pushed-fault).last

pub returns-clause-left : goal.returns-clause-left
returns-clause-left g c = (is g (goal.at.returns-clause-left g c).After-fill_if_pushed-fault).left

pub returns-clause-written : goal.returns-clause-written
returns-clause-written g c = (is g (goal.at.returns-clause-written g c).After-fill_if_pushed-fault).written

pub returns-clause-disks : goal.returns-clause-disks
returns-clause-disks g c = (is g (goal.at.returns-clause-disks g c).After-fill_if_pushed-fault).disks

pub returns-clause-files : goal.returns-clause-files
returns-clause-files g c = (is g (goal.at.returns-clause-files g c).After-fill_if_pushed-fault).files

pub returns-clause-swap : goal.returns-clause-swap
returns-clause-swap g c =
    subst (λ (b : BaySeen). MatchOption c.into_disks-disks.result.1 (b ≡ missing) (λ disk. b ≡ home (g.D.Disk.seen disk))) (c.push_files-pushed.ensures.pushes c.requires.fits.0 c.requires.fits.1).swap c.into_disks-disks.ensures.swap
