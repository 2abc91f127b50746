use Rattle.std.proofs.Common.{◌≡◌, length, take}
use Rattle.volume_format.specs.Table.{all_extents}
use Rattle.volume_format.specs.Writing.{extents_bytes, with_block_bytes}
use Rattle.volume_format.proofs.writing.put_extents.Given as goal

abbrev pub invariant-loop-file : goal.invariant-loop-file
invariant-loop-file l = record {
  place : l.place ≡ length (all_extents (take l.file-index l.entries));
  into : l.into ≡ with_block_bytes l.initial.into 2080 (extents_bytes (take l.file-index l.entries));
}
