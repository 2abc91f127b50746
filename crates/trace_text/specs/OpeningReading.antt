-- What the words of the opening part's lines say, read loosely. Inside: no public clause cites this.
use Rattle.std.specs.Prelude.{ℕ, ◌==◌, Bool, true, false, List, [], ◌∷◌, length, codes, nat_eq, Option, Some, None, if◌then◌else◌}
use Rattle.std.specs.List.{slice_split}
use Rattle.vm_report.specs.vm_script.Fields.{is_word}
use Rattle.trace_text.specs.EntryReading.{◌>>=◌, long_number_in, number_in, offset_in, bytes_in}
use Rattle.trace_text.specs.TraceLines.{TraceLine, Slots, Disk, Root, File, Piece, Entries}

-- Whether a byte is a comma.
abbrev pub is_comma : ℕ → Bool
is_comma b = b == 44

-- Whether a byte is a plus sign.
abbrev pub is_plus : ℕ → Bool
is_plus b = b == 43

-- The first block and the number of blocks that two words say; none for another number of words.
unfoldable pub extent_parts : List (List ℕ) → Option (ℕ × ℕ)
extent_parts (a ∷ b ∷ []) = do
  start ← number_in a
  pages ← number_in b
  Some (start, pages)
extent_parts ws = None

-- The extent that a word of two numbers with a plus sign between them says.
unfoldable pub extent_in : List ℕ → Option (ℕ × ℕ)
extent_in w = extent_parts (slice_split is_plus w)

-- The extents that words say, if each word says one.
unfoldable pub extents_of_parts : List (List ℕ) → Option (List (ℕ × ℕ))
extents_of_parts [] = Some []
extents_of_parts (w ∷ ws) = do
  x ← extent_in w
  xs ← extents_of_parts ws
  Some (x ∷ xs)

-- The extents that a word says, joined by commas; no extents for the empty word.
unfoldable pub extents_in : List ℕ → Option (List (ℕ × ℕ))
extents_in [] = Some []
extents_in (b ∷ w) = extents_of_parts (slice_split is_comma (b ∷ w))

-- Whether a file may be written: true for `rw`, false for `ro`, none for another word.
unfoldable pub mode_of_word : List ℕ → Option Bool
mode_of_word w = if is_word w (codes "rw") then Some true else if is_word w (codes "ro") then Some false else None

-- The line of a file whose number, name, mode, disk, length and extents the six words say.
unfoldable pub head_in : List ℕ → List ℕ → List ℕ → List ℕ → List ℕ → List ℕ → Option TraceLine
head_in f name m d l e = do
  file ← number_in f
  writable ← mode_of_word m
  disk ← number_in d
  len ← number_in l
  extents ← extents_in e
  Some (File (record { file = file; name = name; writable = writable; disk = disk; len = len; extents = extents }))

-- The line of bytes of a file, whose offset and bytes the two words say.
unfoldable pub piece_in : List ℕ → List ℕ → Option TraceLine
piece_in w x = do
  offset ← offset_in w
  bytes ← bytes_in x
  Some (Piece offset bytes)

-- The line of a top process whose number the word says.
unfoldable pub root_in : List ℕ → Option TraceLine
root_in x = number_in x >>= λ p. Some (Root p)

-- The line of the number of entries that the word says.
unfoldable pub count_in : List ℕ → Option TraceLine
count_in x = long_number_in x >>= λ n. Some (Entries n)

-- The line that two words say: bytes of a file where the first has eight digits, otherwise a top
-- process for `root`, otherwise the number of entries.
unfoldable pub pair_in : List ℕ → List ℕ → Option TraceLine
pair_in w x =
    if nat_eq (length w) 8 then piece_in w x
    else if is_word w (codes "root") then root_in x
    else count_in x

-- The line of a disk whose number and number of blocks the two words say.
unfoldable pub disk_line_in : List ℕ → List ℕ → Option TraceLine
disk_line_in x y = do
  d ← number_in x
  n ← number_in y
  Some (Disk (d, n))

-- The line of the swap slots that the word says.
unfoldable pub slots_in : List ℕ → Option TraceLine
slots_in y = number_in y >>= λ n. Some (Slots n)

-- The line that three words say: the slots where the first is `trace`, otherwise a disk.
unfoldable pub triple_in : List ℕ → List ℕ → List ℕ → Option TraceLine
triple_in w x y = if is_word w (codes "trace") then slots_in y else disk_line_in x y

-- The line of the opening part, or of the number of entries, that words tell.
unfoldable pub opening_in : List (List ℕ) → Option TraceLine
opening_in (w ∷ x ∷ []) = pair_in w x
opening_in (w ∷ x ∷ y ∷ []) = triple_in w x y
opening_in (w ∷ f ∷ name ∷ m ∷ d ∷ l ∷ e ∷ []) = head_in f name m d l e
opening_in ws = None
