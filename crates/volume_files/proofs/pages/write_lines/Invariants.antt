use Rattle.std.specs.Prelude.{◌≡◌, ◌<◌, ◌≤◌, ◌+◌, ℕ, length, map, slice_index_or, drop}
use Rattle.block_device.specs.declared.numbered.NumberedDisk.{NumberedDisk}
use Rattle.stored_files.specs.Written.{numbered_seen}
use Rattle.stored_files.specs.Uncut.{counts_of}
use Rattle.volume_files.specs.Handed.{SpareBlock}
use Rattle.volume_files.specs.Placing.{RemainThere, with_file_pages, line_files, HavePlaces}
use Rattle.volume_files.proofs.pages.write_lines.Given as goal

-- what the disks have with the files that are left is what they have with all
abbrev pub invariant-loop-line : goal.invariant-loop-line
invariant-loop-line g l = record {
  stay : RemainThere g.D.Disk.seen l.fn.disks l.disks;
  count : l.file + length (line_files l.files l.file (drop l.line-index l.setup)) ≤ length l.files.files;
  places : HavePlaces g.D.Disk.seen l.disks (line_files l.files l.file (drop l.line-index l.setup));
  rest : (j : ℕ) (d : NumberedDisk _) → j < length l.fn.disks
      → with_file_pages (slice_index_or l.disks j d).number (g.D.Disk.seen (slice_index_or l.disks j d).disk).content (line_files l.files l.file (drop l.line-index l.setup))
      ≡ with_file_pages (slice_index_or l.fn.disks j d).number (g.D.Disk.seen (slice_index_or l.fn.disks j d).disk).content (line_files l.files l.first l.setup);
  spare : (number block : ℕ) → SpareBlock (line_files l.files l.first l.setup) number block → SpareBlock (line_files l.files l.file (drop l.line-index l.setup)) number block;
  failures : counts_of (map (numbered_seen g.D.Disk.seen) l.disks) ≡ counts_of (map (numbered_seen g.D.Disk.seen) l.fn.disks);
}
