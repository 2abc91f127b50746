-- What contracts see of a memory file that can be flushed. Public clauses cite this.
use Rattle.std.specs.Prelude.{ℕ, List, Bool}
use Rattle.disk_file.specs.FileBytes.{AreOctets}
use Rattle.disk_file.specs.MemFileLook.{mem_file_bytes, mem_file_are_bytes}
use Rattle.durable_file.specs.declared.mem_flushed.MemFlushed.{MemFlushed}

-- the bytes of a memory file that can be flushed
abbrev pub mem_flushed_bytes : MemFlushed → List ℕ
mem_flushed_bytes file = mem_file_bytes file.file

-- Was the memory file flushed since it was last written?
abbrev pub is_mem_flushed : MemFlushed → Bool
is_mem_flushed file = file.is_flushed

-- The bytes of a memory file that can be flushed are numbers below 256.
pub mem_flushed_are_bytes : (file : MemFlushed) → AreOctets (mem_flushed_bytes file)
mem_flushed_are_bytes file = mem_file_are_bytes file.file
