-- What contracts see of a mirror. Public clauses cite this.
use Rattle.block_device.specs.DiskSeen.{HasBlocks}
use Rattle.block_device.specs.declared.disk.Disk.{Ghosts}
use Rattle.disk_mirror.specs.MirrorBlocks.{mirror_has_blocks}
use Rattle.disk_mirror.specs.MirrorSeen.{MirrorSeen, mirror_seen}
use Rattle.disk_mirror.specs.declared.mirror.Mirror.{Mirror}

-- a mirror as its two disks and its marks
abbrev pub mirror_look : {D : Type 0} {disk : _} → Mirror D disk → MirrorSeen D
mirror_look m = record { a = m.a; b = m.b; fresh_a = m.fresh_a; fresh_b = m.fresh_b }

-- What a mirror tells is blocks, where what its disks tell is.
pub blocks_of_mirror : {D : Type 0} {disk : Ghosts D} → ((d : D) → HasBlocks (disk.seen d).content (disk.seen d).size) → (m : Mirror D disk)
    → HasBlocks (mirror_seen disk.seen (mirror_look m)).content (mirror_seen disk.seen (mirror_look m)).size
blocks_of_mirror {disk = disk} law m =
    mirror_has_blocks m.fresh_a (disk.seen m.a).content (disk.seen m.b).content (disk.seen m.a).size (disk.seen m.b).size (law m.a) (law m.b) m.equal m.marks_a
