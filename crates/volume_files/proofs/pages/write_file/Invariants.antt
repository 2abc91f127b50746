use Rattle.std.specs.Prelude.{◌≡◌, ◌<◌, ◌≤◌, ℕ, length, map, slice_index_or}
use Rattle.block_device.specs.declared.numbered.NumberedDisk.{NumberedDisk}
use Rattle.stored_files.specs.Written.{numbered_seen}
use Rattle.stored_files.specs.Uncut.{counts_of}
use Rattle.volume_files.specs.Placing.{RemainThere, with_file}
use Rattle.volume_files.proofs.pages.write_file.Given as goal

-- the disks so far have the file's pages, and the others are as they were
abbrev pub invariant-loop-i : goal.invariant-loop-i
invariant-loop-i g l = record {
  stay : RemainThere g.D.Disk.seen l.fn.disks l.disks;
  done : (j : ℕ) (d : NumberedDisk _) → j < l.i → j < length l.fn.disks
      → (g.D.Disk.seen (slice_index_or l.disks j d).disk).content
      ≡ with_file (slice_index_or l.fn.disks j d).number (g.D.Disk.seen (slice_index_or l.fn.disks j d).disk).content l.info l.bytes;
  rest : (j : ℕ) (d : NumberedDisk _) → l.i ≤ j → slice_index_or l.disks j d ≡ slice_index_or l.fn.disks j d;
  failures : counts_of (map (numbered_seen g.D.Disk.seen) l.disks) ≡ counts_of (map (numbered_seen g.D.Disk.seen) l.fn.disks);
}
