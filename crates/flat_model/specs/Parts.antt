-- Parts of reads and writes, Truncate, how files grow, and a file's tail. Public clauses cite this.
use Rattle.std.specs.Prelude.{ℕ, zero, suc, ◌+◌, ◌-◌, ◌*◌, ◌==◌, min, max, List, [], ◌∷◌, ◌++◌, length, take, drop, replicate, filter, remove, Bool, Option, Result, Ok, ok_or, unwrap_or, slice_get, slice_set, nat_lt, if◌then◌else◌}
use Rattle.std.specs.List.{concat, flat_map}
use Rattle.std.specs.FinMap as map
use Rattle.vm_types.specs.declared.call.Errno.{Errno}
use Rattle.vm_types.specs.declared.call.Errno.TheVariants as errno
use Rattle.vm_types.specs.declared.call.Reply.TheVariants as reply
use Rattle.vm_types.specs.Pages.{line_rest}
use Rattle.vnode_files.specs.declared.extent.Extent.{Extent}
use Rattle.vnode_files.specs.Grow.{growth}
use Rattle.flat_model.specs.Words.{Page, zero_page, pages_in, page_size, with_bytes}
use Rattle.flat_model.specs.Flat.{File, Flat}
use Rattle.flat_model.specs.Refusals.{◌>>=◌, ◌>>◌, check, Effect, or_refused, done_effect}

-- The n pages that bytes fill.
abbrev pub pages_of_bytes : ℕ → List ℕ → List Page
pages_of_bytes zero bytes = []
pages_of_bytes (suc n) bytes = take page_size bytes ∷ pages_of_bytes n (drop page_size bytes)

-- The pages with these bytes from a place on, counted from the first byte of the first page.
unfoldable pub pages_with_bytes : List Page → ℕ → List ℕ → List Page
pages_with_bytes pages at bytes = pages_of_bytes (length pages) (with_bytes (concat pages) at bytes)

-- The bytes of a file: as many of its pages' as its length says.
abbrev pub file_bytes : File → List ℕ
file_bytes file = take file.len (concat file.pages)

-- A file whose tail is zeros.
abbrev pub without_tail : File → File
without_tail file = record file { pages = pages_with_bytes file.pages file.len (replicate (page_size * length file.pages - file.len) 0) }

-- A file that has these bytes as it is opened, and zeros from there to the end of its last page.
abbrev pub file_at_opening : ℕ → ℕ → List Extent → Bool → List ℕ → File
file_at_opening len disk extents writable bytes = record {
  len = len;
  disk = disk;
  extents = extents;
  writable = writable;
  pages = pages_of_bytes (pages_in len) (bytes ++ replicate (page_size * pages_in len - len) 0);
}

-- The file that a part reads or writes.
abbrev pub existing_file : Flat → ℕ → Result File Errno
existing_file F f = ok_or (slice_get F.files f) errno.NoObject

-- The bytes of a part of a read: as many as asked for, but none past the line of 64 bytes, and none past the file's end.
abbrev pub read_line : File → ℕ → ℕ → List ℕ
read_line file offset len = take (min len (line_rest offset)) (drop offset (file_bytes file))

-- A read part is refused NoObject where there is no file. Else it answers the file's bytes from the offset.
abbrev pub read_part : Flat → ℕ → ℕ → ℕ → Effect
read_part F f offset len = or_refused F (λ file. record { reply = reply.Bytes (read_line file offset len); after = F }) (existing_file F f)

-- The file that a part or a Truncate may change, or the first refusal that is due: NoObject, then ReadOnly.
unfoldable pub writable_file : Flat → ℕ → Result File Errno
writable_file F f = do
  file ← existing_file F f
  check file.writable errno.ReadOnly
  Ok file

-- The extents on a disk of all files but one.
abbrev pub extents_beside : List File → ℕ → ℕ → List Extent
extents_beside files f disk = flat_map (λ file. file.extents) (filter (λ file. file.disk == disk) (remove files f))

-- The extents of a file that is to keep so many pages; none where its disk has no block for one of them.
abbrev pub growth_in : Flat → ℕ → File → ℕ → Option (List Extent)
growth_in F f file pages = growth (unwrap_or (map.get F.disks file.disk) 0) (extents_beside F.files f file.disk) file.extents pages

-- A file that keeps these extents.
abbrev pub with_extents_of : List Extent → File → File
with_extents_of extents file = record file { extents = extents }

-- The file with extents for so many bytes, or the first refusal that is due: NoObject, then ReadOnly, then TooBig where it can't grow so far.
unfoldable pub room_for : Flat → ℕ → ℕ → Result File Errno
room_for F f end = do
  file ← writable_file F f
  extents ← ok_or (growth_in F f file (pages_in end)) errno.TooBig
  Ok (with_extents_of extents file)

-- A file that has at least n bytes: new pages of zeros as far as n needs them, and zeros from the old end to n.
unfoldable pub longer_file : ℕ → File → File
longer_file n file =
    let pages = file.pages ++ replicate (pages_in n - length file.pages) zero_page in
    record file { len = max file.len n; pages = pages_with_bytes pages file.len (replicate (n - file.len) 0) }

-- A file that has n bytes, fewer than it had: the pages past them are gone, and the new tail is zeros.
abbrev pub shorter_file : ℕ → File → File
shorter_file n file = without_tail (record file { len = n; pages = take (pages_in n) file.pages })

-- A file that has n bytes. Where it had as many it is as it was, its tail too.
abbrev pub file_of_length : ℕ → File → File
file_of_length n file = if nat_lt n file.len then shorter_file n file else if nat_lt file.len n then longer_file n file else file

-- A file with a written part: as long as the part's end needs it, and the bytes at the offset.
unfoldable pub with_part : ℕ → List ℕ → File → File
with_part offset line file =
    let long = longer_file (offset + length line) file in
    record long { pages = pages_with_bytes long.pages offset line }

-- Flat memory with another file under a number.
abbrev pub with_file_at : Flat → ℕ → File → Flat
with_file_at F f file = record F { files = slice_set F.files f file }

-- A write part is refused where there is no room for its end. Else the file grows as far as that needs, and the part is written.
abbrev pub write_part : Flat → ℕ → ℕ → List ℕ → Effect
write_part F f offset line = or_refused F (λ file. done_effect (with_file_at F f (with_part offset line file))) (room_for F f (offset + length line))

-- A Truncate is refused where there is no room for its length. Else the file grows as far as that needs, and it has that length.
abbrev pub truncate : Flat → ℕ → ℕ → Effect
truncate F f len = or_refused F (λ file. done_effect (with_file_at F f (file_of_length len file))) (room_for F f len)
