-- Laws of files: what bytes a written part and a Truncate leave, and that a tail is none of a file's bytes. Public clauses cite this.
use Rattle.std.specs.Prelude.{ℕ, ◌≡◌, ◌≤◌, ◌+◌, ◌-◌, ◌++◌, max, List, length, take, replicate}
use Rattle.flat_model.specs.Words.{pages_in, with_bytes}
use Rattle.flat_model.specs.Flat.{File, IsFile}
use Rattle.flat_model.specs.Parts.{file_bytes, with_part, without_tail, file_of_length}

-- A written part leaves the file's bytes, then zeros as far as the offset where it lies past the old end, with the part's bytes over them from the
-- offset on. The length is the old one or the part's end, whichever is more. A Truncate leaves the first bytes of the file, or its bytes and zeros
-- behind them; of a file that had that length it leaves all as it was. When a tail becomes zeros, the file keeps its bytes. Each leaves as many
-- pages as the length takes.
pub record FileBytes : Type 0 where
  pub part_bytes : (file : File) (offset : ℕ) (line : List ℕ) → IsFile file → file_bytes (with_part offset line file) ≡ with_bytes (file_bytes file ++ replicate (offset - file.len) 0) offset line
  pub part_length : (file : File) (offset : ℕ) (line : List ℕ) → (with_part offset line file).len ≡ max file.len (offset + length line)
  pub part_pages : (file : File) (offset : ℕ) (line : List ℕ) → IsFile file → length (with_part offset line file).pages ≡ pages_in (with_part offset line file).len
  pub shorter_bytes : (file : File) (n : ℕ) → IsFile file → n ≤ file.len → file_bytes (file_of_length n file) ≡ take n (file_bytes file)
  pub longer_bytes : (file : File) (n : ℕ) → IsFile file → file.len ≤ n → file_bytes (file_of_length n file) ≡ file_bytes file ++ replicate (n - file.len) 0
  pub new_length : (file : File) (n : ℕ) → (file_of_length n file).len ≡ n
  pub same_length : (file : File) → file_of_length file.len file ≡ file
  pub new_pages : (file : File) (n : ℕ) → IsFile file → length (file_of_length n file).pages ≡ pages_in n
  pub tail_bytes : (file : File) → IsFile file → file_bytes (without_tail file) ≡ file_bytes file
  pub tail_length : (file : File) → (without_tail file).len ≡ file.len
  pub tail_pages : (file : File) → IsFile file → length (without_tail file).pages ≡ pages_in file.len
