use Rattle.std.specs.Prelude.{◌≡◌, take}
use Rattle.volume_format.specs.vnode_files.Files.{extents_on}
use Rattle.volume_files.proofs.free_places.extents_of.Given as goal

-- those of the files so far
abbrev pub invariant-loop-file : goal.invariant-loop-file
invariant-loop-file l = l.extents.items ≡ extents_on l.disk (take l.file l.files.files)
