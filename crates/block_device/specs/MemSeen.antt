-- What contracts see of the memory forms, and what their calls do to them. Public clauses cite this.
use Rattle.std.specs.Prelude.{ℕ, ◌+◌, ◌-◌, ◌^◌, min, max, Bool, ◌||◌, ◌&&◌, nat_eq, nat_lt, nat_le, List, [], ◌++◌, length, take, drop, replicate, slice_set, slice_index_or, Some, if◌then◌else◌}
use Rattle.std.specs.List.{list_any}
use Rattle.block_device.specs.DiskSeen.{DiskSeen, one_disk}
use Rattle.block_device.specs.StreamSeen.{SourceSeen, SinkSeen}

-- The numbers of the calls that are to fail, how many calls there were, and how many of them failed.
pub record CallsSeen : Type 0 where
  pub fail_at : List ℕ
  pub calls : ℕ
  pub faults : ℕ

-- one more, or the same at 2^64 - 1
abbrev pub one_more : ℕ → ℕ
one_more n = max n (min (n + 1) (2 ^ 64 - 1))

-- no call yet
abbrev pub no_calls : List ℕ → CallsSeen
no_calls fail_at = record { fail_at = fail_at; calls = 0; faults = 0 }

-- Is the next call one of those that are to fail? Calls are numbered from 1.
abbrev pub is_next_listed : CallsSeen → Bool
is_next_listed c = list_any (λ number. nat_eq number (one_more c.calls)) c.fail_at

-- One more call was made, and one more failed if this one did.
abbrev pub after_call : CallsSeen → Bool → CallsSeen
after_call c failed = record {
  fail_at = c.fail_at;
  calls = one_more c.calls;
  faults = if failed then one_more c.faults else c.faults;
}

-- a disk in memory: its blocks, its calls, and how many of them were reads and writes
pub record MemDiskSeen : Type 0 where
  pub blocks : List (List ℕ)
  pub calls : CallsSeen
  pub reads : ℕ
  pub writes : ℕ

-- A memory disk tells its content.
abbrev pub disk_of : MemDiskSeen → DiskSeen
disk_of d = record { content = Some d.blocks; size = length d.blocks; kind = one_disk; faults = d.calls.faults; calls = d.calls.calls }

-- a disk with these blocks, of which no call was made yet
abbrev pub fresh_disk : List (List ℕ) → List ℕ → MemDiskSeen
fresh_disk blocks fail_at = record { blocks = blocks; calls = no_calls fail_at; reads = 0; writes = 0 }

-- so many blocks of zeros
abbrev pub blank_blocks : ℕ → List (List ℕ)
blank_blocks blocks = replicate blocks (replicate 4096 0)

-- A write that fails is torn: the first half of the block is new, and the second as it was.
abbrev pub torn_block : List ℕ → List ℕ → List ℕ
torn_block old new = take 2048 new ++ drop 2048 old

-- A read was counted, as failed or not.
abbrev pub after_read : MemDiskSeen → Bool → MemDiskSeen
after_read d failed = record {
  blocks = d.blocks;
  calls = after_call d.calls failed;
  reads = one_more d.reads;
  writes = d.writes;
}

-- A write was counted, and the block is `from`, or torn where the write failed.
abbrev pub after_write : MemDiskSeen → Bool → ℕ → List ℕ → MemDiskSeen
after_write d failed block from = record {
  blocks = slice_set d.blocks block (if failed then torn_block (slice_index_or d.blocks block []) from else from);
  calls = after_call d.calls failed;
  reads = d.reads;
  writes = one_more d.writes;
}

-- a source in memory: what is still to come, how many bytes it gives at a time at most, and its calls
pub record MemSourceSeen : Type 0 where
  pub rest : List ℕ
  pub most : ℕ
  pub calls : CallsSeen

-- a source of these bytes, of which no call was made yet
abbrev pub fresh_source : List ℕ → ℕ → List ℕ → MemSourceSeen
fresh_source bytes most fail_at = record { rest = bytes; most = most; calls = no_calls fail_at }

-- A memory source tells what is still to come.
abbrev pub source_of : MemSourceSeen → SourceSeen
source_of s = record { rest = Some s.rest; faults = s.calls.faults }

-- how many bytes a read into so many gives
abbrev pub given_count : MemSourceSeen → ℕ → ℕ
given_count s room = min (length s.rest) (min room s.most)

-- A read into so many bytes was counted; one that failed took nothing.
abbrev pub after_give : MemSourceSeen → Bool → ℕ → MemSourceSeen
after_give s failed room = record {
  rest = if failed then s.rest else drop (given_count s room) s.rest;
  most = s.most;
  calls = after_call s.calls failed;
}

-- a sink in memory: what it took, how many bytes it has room for, how many it takes at a time at most, and
-- its calls
pub record MemSinkSeen : Type 0 where
  pub written : List ℕ
  pub room : ℕ
  pub most : ℕ
  pub calls : CallsSeen

-- an empty sink, of which no call was made yet
abbrev pub empty_sink : ℕ → ℕ → List ℕ → MemSinkSeen
empty_sink room most fail_at = record { written = []; room = room; most = most; calls = no_calls fail_at }

-- A memory sink tells what it took.
abbrev pub sink_of : MemSinkSeen → SinkSeen
sink_of s = record { written = Some s.written; faults = s.calls.faults }

-- how many bytes of a piece of so many it takes
abbrev pub taken_count : MemSinkSeen → ℕ → ℕ
taken_count s size = min size (min s.most (s.room - length s.written))

-- Does the next write of so many bytes fail? It is listed, or no room is left for a byte.
abbrev pub is_next_refused : MemSinkSeen → ℕ → Bool
is_next_refused s size = is_next_listed s.calls || nat_lt 0 size && nat_le s.room (length s.written)

-- A write was counted; one that failed took nothing.
abbrev pub after_take : MemSinkSeen → Bool → List ℕ → MemSinkSeen
after_take s failed from = record {
  written = if failed then s.written else s.written ++ take (taken_count s (length from)) from;
  room = s.room;
  most = s.most;
  calls = after_call s.calls failed;
}
