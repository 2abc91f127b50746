use Rattle.std.specs.Prelude.{◌≡◌, List, Ok, drop}
use Rattle.volume_format.specs.vnode_files.Files.{block_count}
use Rattle.volume_files.specs.Opened.{OpenedFile, with_line_files}
use Rattle.volume_files.specs.Placing.{HasOpened, LieRight}
use Rattle.volume_files.proofs.file_lines.add_lines.Given as goal

-- the files so far, with those of the lines that are left, are the files with those of all lines
abbrev pub invariant-loop-line : goal.invariant-loop-line
invariant-loop-line l = record {
  disks : l.files.disks ≡ l.fn.files.disks;
  lie : LieRight l.files;
  placed : (before : List OpenedFile) → HasOpened l.fn.files before → (now : List OpenedFile) × HasOpened l.files now
      × (with_line_files (block_count l.fn.files.disks) (Ok before) l.setup ≡ with_line_files (block_count l.fn.files.disks) (Ok now) (drop l.line-index l.setup));
}
