-- Memory is the one cache of files: parts and loads see the same bytes. Public clauses cite this.
use Rattle.std.specs.Prelude.{ℕ, ◌≡◌, ◌≤◌, ◌+◌, ◌*◌, ◌%◌, List, length, take, drop, Some, None, IsSomeAnd, IsTrue, slice_get}
use Rattle.vm_types.specs.declared.call.Kind.TheVariants.{Shared}
use Rattle.vm_types.specs.declared.call.Object.TheVariants as object
use Rattle.vm_types.specs.declared.call.Reply.TheVariants.{Word, Done, Bytes}
use Rattle.vm_types.specs.Prot.{can_read}
use Rattle.flat_model.specs.Words.{page, page_size, with_bytes, word_bytes, word_value, IsWordSize}
use Rattle.flat_model.specs.Flat.{Cell, File, Flat, IsFile, IsFlat, cell_at}
use Rattle.flat_model.specs.Access.{load, store}
use Rattle.flat_model.specs.Parts.{file_bytes, read_part}

-- The cell shows the file: it stands for a page of it, and has no page of its own.
pub record ShowsFile (c : Cell) (f : ℕ) : Type 0 where
  pub object : c.object ≡ object.File f
  pub alone : c.own ≡ None

-- The offset in its object of an address in the cell's page.
abbrev pub offset_of : Cell → ℕ → ℕ
offset_of c a = page_size * c.index + a % page_size

-- The new file has the old one's length, and its bytes with these put over them from an offset on, as far as the length goes.
pub record HasStored (old : File) (offset : ℕ) (bytes : List ℕ) (new : File) : Type 0 where
  pub len : new.len ≡ old.len
  pub stored : file_bytes new ≡ take old.len (with_bytes (file_bytes old) offset bytes)

-- A read part answers what loads through each cell that shows the file give: a load of a word that the part has the bytes of answers them. A store that is done through a shared cell puts its word over the file's bytes, as far as they go, and then a part that has the bytes of the word reads them. A store behind the file's end changes none of its bytes.
pub record OneCache : Type 0 where
  pub read_as_loaded : (F : Flat) (q b n f offset len k : ℕ) (line : List ℕ) (c : Cell) → IsFlat F → IsWordSize n → b % n ≡ 0 → (read_part F f offset len).reply ≡ Bytes line → k + n ≤ length line → cell_at F q (page b) ≡ Some c → ShowsFile c f → offset_of c b ≡ offset + k → IsTrue (can_read c.prot) → (load F q b n).reply ≡ Word (word_value (take n (drop k line)))
  pub stored : (F : Flat) (p a n v f : ℕ) (c : Cell) (file : File) → IsFlat F → IsWordSize n → (store F p a n v).reply ≡ Done → cell_at F p (page a) ≡ Some c → c.kind ≡ Shared → ShowsFile c f → slice_get F.files f ≡ Some file → IsSomeAnd (slice_get (store F p a n v).after.files f) (HasStored file (offset_of c a) (word_bytes n v))
  pub stored_then_read : (F : Flat) (p a n v f offset len k : ℕ) (line : List ℕ) (c : Cell) → IsFlat F → IsWordSize n → (store F p a n v).reply ≡ Done → cell_at F p (page a) ≡ Some c → c.kind ≡ Shared → ShowsFile c f → (read_part (store F p a n v).after f offset len).reply ≡ Bytes line → offset_of c a ≡ offset + k → k + n ≤ length line → take n (drop k line) ≡ word_bytes n v
  pub stored_behind : (old : File) (offset : ℕ) (bytes : List ℕ) (new : File) → IsFile old → HasStored old offset bytes new → old.len ≤ offset → file_bytes new ≡ file_bytes old
