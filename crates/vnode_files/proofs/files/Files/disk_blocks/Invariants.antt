use Rattle.std.specs.Prelude.{◌≡◌, drop}
use Rattle.std.specs.Ordering.{nat_cmp}
use Rattle.std.specs.FinMap as finmap
use Rattle.vnode_files.proofs.files.Files.disk_blocks.Given as goal

-- the disk is looked for among those that are left
abbrev pub invariant-loop-number : goal.invariant-loop-number
invariant-loop-number l = finmap.find nat_cmp l.disk (drop l.number-index l.number-items) ≡ finmap.get l.self.disks l.disk
