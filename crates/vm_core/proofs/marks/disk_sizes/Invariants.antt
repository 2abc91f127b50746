use Rattle.std.proofs.Common.{◌≡◌, ℕ, ◌<◌, length}
use Rattle.std.specs.Prelude.{slice_index}
use Rattle.fault_entry.specs.vnode_files.Files.{block_count}
use Rattle.vm_core.proofs.marks.disk_sizes.Given as goal

abbrev pub invariant-loop-disk : goal.invariant-loop-disk
invariant-loop-disk l = record {
  long : length l.sizes ≡ 8;
  told : (k : ℕ) → k < l.disk → slice_index l.sizes k ≡ block_count l.files.disks k;
}
