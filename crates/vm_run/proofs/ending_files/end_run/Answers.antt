use Rattle.std.proofs.Common.{◌∙◌, ap, arith, map}
use Rattle.std.specs.Prelude.{option_map}
use Rattle.vm_core.specs.page_store.Bays.{pairs_seen}
use Rattle.volume_files.proofs.DiskLists.{seen-bare_disks}
use Rattle.volume_files.specs.Handed.{members_of, swap_members}
use Rattle.volume_files.proofs.DiskCounts.{members-kinds}
use Rattle.run_report.proofs.Endings.{close-kinds}
use Rattle.vm_run.proofs.ending_files.end_run.Goals as goal

pub returns-clause-ends : goal.returns-clause-ends
returns-clause-ends g c =
    let new = c.close-ending.new.finished.disks.items in (
      pairs_seen g.D.Disk.seen new,
      ap (map g.D.Disk.seen) c.without_numbers.ensures ∙ seen-bare_disks g.D.Disk.seen new,
      c.close-ending.ensures.ends,
    )

pub returns-clause-count : goal.returns-clause-count
returns-clause-count g c =
    let seen = g.D.Disk.seen in
    let old = c.args.played.finished.disks.items in
    let new = c.close-ending.new.finished.disks.items in
    let back = ap members_of (ap (map seen) c.without_numbers.ensures ∙ seen-bare_disks seen new) in
    let disks = members-kinds (pairs_seen seen new) (pairs_seen seen old) (close-kinds _ _ _ _ _ _ _ _ (pairs_seen seen old) (pairs_seen seen new) _ c.close-ending.ensures.ends) in
    let swap = ap (λ w. swap_members (option_map seen w)) c.close-ending.ensures.swap in
    omega (arith, back, disks, swap)
