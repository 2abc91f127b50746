-- The pages of a file that gets longer or shorter, and of one with a written part. Public clauses cite this.
use Rattle.std.specs.Prelude.{ℕ, ◌≡◌, ◌≤◌, ◌+◌, ◌-◌, ◌*◌, ◌%◌, ◌++◌, ◌==◌, max, List, length, take, drop, replicate, Some, None, option_map, slice_get, nat_lt, if◌then◌else◌}
use Rattle.vm_types.specs.Pages.{bytes_before}
use Rattle.flat_model.specs.Words.{Page, zero_page, page, page_size, pages_in, with_bytes}
use Rattle.flat_model.specs.Flat.{File, IsFile}
use Rattle.flat_model.specs.Parts.{longer_file, shorter_file, with_part}
use Rattle.flat_model.specs.LineLaws.{page_front}

-- The page with zeros from one place to another.
abbrev pub zeros_between : ℕ → ℕ → Page → Page
zeros_between from to bytes = take from bytes ++ replicate (to - from) 0 ++ drop (max from to) bytes

-- A file that gets longer has zeros from its old end to the new one; behind that its old last page keeps its tail, and each page more is zeros. A file that gets shorter has the pages that its length takes, with zeros behind its end. A part that lies in one page, as each does, changes that page of the file as long as its end needs it.
pub record GrownPages : Type 0 where
  pub longer : (file : File) (n i : ℕ) → IsFile file → slice_get (longer_file n file).pages i ≡ (if nat_lt i (length file.pages) then option_map (zeros_between (bytes_before file.len i) (bytes_before n i)) (slice_get file.pages i) else if nat_lt i (pages_in n) then Some zero_page else None)
  pub shorter : (file : File) (n i : ℕ) → IsFile file → slice_get (shorter_file n file).pages i ≡ (if nat_lt i (pages_in n) then option_map (page_front (n - page_size * i)) (slice_get file.pages i) else None)
  pub written : (file : File) (offset i : ℕ) (line : List ℕ) → IsFile file → offset % page_size + length line ≤ page_size → slice_get (with_part offset line file).pages i ≡ (if i == page offset then option_map (λ old. with_bytes old (offset % page_size) line) (slice_get (longer_file (offset + length line) file).pages i) else slice_get (longer_file (offset + length line) file).pages i)
