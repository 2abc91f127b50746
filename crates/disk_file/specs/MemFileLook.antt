-- What contracts see of a memory file. Public clauses cite this.
use Rattle.std.specs.Prelude.{ℕ, List}
use Rattle.disk_file.specs.FileBytes.{AreOctets}
use Rattle.disk_file.specs.declared.mem_file.MemFile.{MemFile}

-- the bytes of a memory file
abbrev pub mem_file_bytes : MemFile → List ℕ
mem_file_bytes file = file.bytes.items

-- The bytes of a memory file are numbers below 256.
pub mem_file_are_bytes : (file : MemFile) → AreOctets (mem_file_bytes file)
mem_file_are_bytes file = file.are_bytes
