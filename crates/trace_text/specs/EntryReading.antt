-- What words say, read loosely: a line that isn't spelled as a trace spells it differs from what was read, printed again. Inside: no public clause
-- cites this.
use Rattle.std.specs.Prelude.{ℕ, ◌^◌, ◌&&◌, List, [], ◌∷◌, length, drop, codes, nat_le, nat_lt, Option, Some, None, if◌then◌else◌}
use Rattle.std.specs.List.{list_all}
use Rattle.vm_report.specs.vm_types.declared.prot.Prot.{Prot}
use Rattle.vm_report.specs.vm_types.declared.call.Kind.{Kind}
use Rattle.vm_report.specs.vm_types.declared.call.Kind.TheVariants as kinds
use Rattle.vm_report.specs.vm_types.declared.call.Call.{Call}
use Rattle.vm_report.specs.vm_types.declared.call.Call.TheVariants as call
use Rattle.vm_report.specs.vm_types.declared.call.Reply.{Reply}
use Rattle.vm_report.specs.vm_types.declared.call.Reply.TheVariants as reply
use Rattle.vm_report.specs.vm_types.declared.call.Entry.{Entry}
use Rattle.vm_report.specs.vm_types.declared.call.Errno.{Errno}
use Rattle.vm_report.specs.vm_types.declared.call.Errno.TheVariants as errno
use Rattle.vm_report.specs.vm_types.declared.call.Object.{Object}
use Rattle.vm_report.specs.vm_types.declared.call.Object.TheVariants as object
use Rattle.vm_report.specs.vm_types.declared.call.Place.{Place}
use Rattle.vm_report.specs.vm_types.declared.call.Place.TheVariants.{At, Any}
use Rattle.vm_report.specs.vm_types.declared.call.Signal.TheVariants as signal
use Rattle.vm_report.specs.vm_script.Fields.{is_word, has_front, is_digit, is_hex_digit, digit_value, value_of_digits, hex_bytes}

-- The answer of a step on what was read, or none where nothing was read.
infixl 10 ◌>>=◌
abbrev pub ◌>>=◌ : {A B : Type 0} → Option A → (A → Option B) → Option B
None >>= f = None
(Some x) >>= f = f x

-- The number below 2^64 that a word of 1 to 20 decimal digits says, leading zeros allowed; none for
-- another word.
unfoldable pub long_number_in : List ℕ → Option ℕ
long_number_in w =
    if nat_le 1 (length w) && nat_le (length w) 20 && list_all is_digit w && nat_lt (value_of_digits 10 w) (2 ^ 64) then Some (value_of_digits 10 w) else None

-- The number, if it is below 2^32.
abbrev pub below_32_bits : ℕ → Option ℕ
below_32_bits n = if nat_lt n (2 ^ 32) then Some n else None

-- The number below 2^32 that a word of 1 to 20 decimal digits says; none for another word.
unfoldable pub number_in : List ℕ → Option ℕ
number_in w = long_number_in w >>= below_32_bits

-- The value of a byte that is a hexadecimal digit; none for another byte.
abbrev pub digit_in : ℕ → Option ℕ
digit_in b = if is_hex_digit b then Some (digit_value b) else None

-- The number that a word of 1 to 16 hexadecimal digits says; none for another word.
unfoldable pub mask_in : List ℕ → Option ℕ
mask_in w = if nat_le 1 (length w) && nat_le (length w) 16 && list_all is_hex_digit w then Some (value_of_digits 16 w) else None

-- The number below 2^32 that a word of 1 to 16 hexadecimal digits says; none for another word.
unfoldable pub offset_in : List ℕ → Option ℕ
offset_in w = mask_in w >>= below_32_bits

-- The number below 2^32 that the hexadecimal digits behind `0x` say; none for another word.
unfoldable pub word_in : List ℕ → Option ℕ
word_in w = if has_front (codes "0x") w then offset_in (drop 2 w) else None

-- The bytes, 64 at most, that a word of hexadecimal digits says, two digits for each; none for
-- another word.
unfoldable pub bytes_in : List ℕ → Option (List ℕ)
bytes_in w = if nat_le (length w) 128 && list_all is_hex_digit w then Some (hex_bytes w) else None

-- The protection that `none`, `r`, `w` or `rw` says; none for another word.
unfoldable pub prot_in : List ℕ → Option Prot
prot_in w =
    if is_word w (codes "none") then Some (record { 0 = 0 })
    else if is_word w (codes "r") then Some (record { 0 = 1 })
    else if is_word w (codes "w") then Some (record { 0 = 2 })
    else if is_word w (codes "rw") then Some (record { 0 = 3 })
    else None

-- The kind of mapping that `shared` or `private` says; none for another word.
unfoldable pub kind_in : List ℕ → Option Kind
kind_in w = if is_word w (codes "shared") then Some kinds.Shared else if is_word w (codes "private") then Some kinds.Private else None

-- The place of a map: any one for the word `any`, or the address that the word says.
unfoldable pub place_in : List ℕ → Option Place
place_in w = if is_word w (codes "any") then Some Any else (word_in w >>= λ a. Some (At a))

-- The file (where the first word is `file`) or the zero object whose number the second word says,
-- with the offset behind it and the words left over.
unfoldable pub numbered_object : List ℕ → List ℕ → List (List ℕ) → Option (Object × ℕ × List (List ℕ))
numbered_object w x (y ∷ ws) = do
  n ← number_in x
  o ← number_in y
  if is_word w (codes "file") then Some (object.File n, o, ws) else Some (object.Zero n, o, ws)
numbered_object w x [] = None

-- The object that the first words say, with the offset behind it and the words left over.
unfoldable pub object_in : List (List ℕ) → Option (Object × ℕ × List (List ℕ))
object_in (w ∷ x ∷ ws) = if is_word w (codes "newzero") then (number_in x >>= λ o. Some (object.NewZero, o, ws)) else numbered_object w x ws
object_in ws = None

-- The load whose address and size the first two words say, and the words behind them.
unfoldable pub load_in : List (List ℕ) → Option (Call × List (List ℕ))
load_in (a ∷ n ∷ ws) = do
  addr ← word_in a
  size ← number_in n
  Some (call.Load addr size, ws)
load_in ws = None

-- The store whose address, size and value the first three words say, and the words behind them.
unfoldable pub store_in : List (List ℕ) → Option (Call × List (List ℕ))
store_in (a ∷ n ∷ v ∷ ws) = do
  addr ← word_in a
  size ← number_in n
  value ← word_in v
  Some (call.Store addr size value, ws)
store_in ws = None

-- The map whose place, length, protection, kind, object and offset the first words say, and the
-- words behind them.
unfoldable pub map_in : List (List ℕ) → Option (Call × List (List ℕ))
map_in (a ∷ l ∷ p ∷ k ∷ ws) = do
  place ← place_in a
  len ← number_in l
  prot ← prot_in p
  kind ← kind_in k
  o ← object_in ws
  Some (call.Map place len prot kind o.0 o.1, o.2)
map_in ws = None

-- The unmap whose address and length the first two words say, and the words behind them.
unfoldable pub unmap_in : List (List ℕ) → Option (Call × List (List ℕ))
unmap_in (a ∷ l ∷ ws) = do
  addr ← word_in a
  len ← number_in l
  Some (call.Unmap addr len, ws)
unmap_in ws = None

-- The sync whose address and length the first two words say, and the words behind them.
unfoldable pub sync_in : List (List ℕ) → Option (Call × List (List ℕ))
sync_in (a ∷ l ∷ ws) = do
  addr ← word_in a
  len ← number_in l
  Some (call.Sync addr len, ws)
sync_in ws = None

-- The protect whose address, length and protection the first three words say, and the words behind
-- them.
unfoldable pub protect_in : List (List ℕ) → Option (Call × List (List ℕ))
protect_in (a ∷ l ∷ p ∷ ws) = do
  addr ← word_in a
  len ← number_in l
  prot ← prot_in p
  Some (call.Protect addr len prot, ws)
protect_in ws = None

-- The read whose file, offset and length the first three words say, and the words behind them.
unfoldable pub read_in : List (List ℕ) → Option (Call × List (List ℕ))
read_in (f ∷ o ∷ l ∷ ws) = do
  file ← number_in f
  offset ← number_in o
  len ← number_in l
  Some (call.Read file offset len, ws)
read_in ws = None

-- The write whose file, offset, bytes and number of further bytes the first four words say, and the
-- words behind them.
unfoldable pub write_in : List (List ℕ) → Option (Call × List (List ℕ))
write_in (f ∷ o ∷ b ∷ r ∷ ws) = do
  file ← number_in f
  offset ← number_in o
  bytes ← bytes_in b
  rest ← number_in r
  Some (call.Write file offset bytes rest, ws)
write_in ws = None

-- The truncate whose file and length the first two words say, and the words behind them.
unfoldable pub truncate_in : List (List ℕ) → Option (Call × List (List ℕ))
truncate_in (f ∷ l ∷ ws) = do
  file ← number_in f
  len ← number_in l
  Some (call.Truncate file len, ws)
truncate_in ws = None

-- The fork whose child the first word says, and the words behind it.
unfoldable pub fork_in : List (List ℕ) → Option (Call × List (List ℕ))
fork_in (c ∷ ws) = number_in c >>= λ child. Some (call.Fork child, ws)
fork_in ws = None

-- A protect, sync, truncate, fork or exit by its word and the words behind it, with the words left
-- over; none for another word.
unfoldable pub later_call_in : List ℕ → List (List ℕ) → Option (Call × List (List ℕ))
later_call_in w ws =
    if is_word w (codes "protect") then protect_in ws
    else if is_word w (codes "sync") then sync_in ws
    else if is_word w (codes "truncate") then truncate_in ws
    else if is_word w (codes "fork") then fork_in ws
    else if is_word w (codes "exit") then Some (call.Exit, ws)
    else None

-- The call that its own word and the words behind it say, with the words left over.
unfoldable pub call_in : List ℕ → List (List ℕ) → Option (Call × List (List ℕ))
call_in w ws =
    if is_word w (codes "load") then load_in ws
    else if is_word w (codes "store") then store_in ws
    else if is_word w (codes "map") then map_in ws
    else if is_word w (codes "unmap") then unmap_in ws
    else if is_word w (codes "read") then read_in ws
    else if is_word w (codes "write") then write_in ws
    else later_call_in w ws

-- The reply of one word in `0x` form: the word of a load, or for another call the address of a
-- mapping.
unfoldable pub value_of_word : Call → List ℕ → Option Reply
value_of_word (call.Load a n) w = word_in w >>= λ v. Some (reply.Word v)
value_of_word c w = word_in w >>= λ a. Some (reply.Mapped a)

-- The reply to a call that one word says: done for `ok`, otherwise a word or an address.
unfoldable pub one_word_reply : Call → List ℕ → Option Reply
one_word_reply c w = if is_word w (codes "ok") then Some reply.Done else value_of_word c w

-- The signal that `nomap`, `prot`, `align` or `past` says; none for another word.
unfoldable pub signal_of_word : List ℕ → Option Reply
signal_of_word x =
    if is_word x (codes "nomap") then Some (reply.Signal signal.NoMap)
    else if is_word x (codes "prot") then Some (reply.Signal signal.Prot)
    else if is_word x (codes "align") then Some (reply.Signal signal.Align)
    else if is_word x (codes "past") then Some (reply.Signal signal.Past)
    else None

-- The reply that two words say: synced from a point of history behind `ok`, no bytes behind
-- `bytes`, otherwise the signal of the second word.
unfoldable pub two_word_reply : List ℕ → List ℕ → Option Reply
two_word_reply w x =
    if is_word w (codes "ok") then (long_number_in x >>= λ from. Some (reply.Synced from))
    else if is_word w (codes "bytes") then Some (reply.Bytes [])
    else signal_of_word x

-- The errno whose name the word is; none for another word.
unfoldable pub errno_in : List ℕ → Option Errno
errno_in y =
    if is_word y (codes "Invalid") then Some errno.Invalid
    else if is_word y (codes "Access") then Some errno.Access
    else if is_word y (codes "NoSwap") then Some errno.NoSwap
    else if is_word y (codes "NoRoom") then Some errno.NoRoom
    else if is_word y (codes "TooLarge") then Some errno.TooLarge
    else if is_word y (codes "NotMapped") then Some errno.NotMapped
    else if is_word y (codes "ReadOnly") then Some errno.ReadOnly
    else if is_word y (codes "TooBig") then Some errno.TooBig
    else if is_word y (codes "NoObject") then Some errno.NoObject
    else None

-- The reply that the first and the last of three words say: the bytes where the first is `bytes`,
-- otherwise the errno refused with.
unfoldable pub three_word_reply : List ℕ → List ℕ → Option Reply
three_word_reply w y = if is_word w (codes "bytes") then (bytes_in y >>= λ bytes. Some (reply.Bytes bytes)) else (errno_in y >>= λ e. Some (reply.Refused e))

-- The reply of a failed transfer whose disk and two counts the three words say.
unfoldable pub io_in : List ℕ → List ℕ → List ℕ → Option Reply
io_in d b a = do
  disk ← number_in d
  before ← long_number_in b
  after ← long_number_in a
  Some (reply.Io disk before after)

-- The reply to a call that one, two, three or five words say; none for another number of words.
unfoldable pub reply_in : Call → List (List ℕ) → Option Reply
reply_in c (w ∷ []) = one_word_reply c w
reply_in c (w ∷ x ∷ []) = two_word_reply w x
reply_in c (w ∷ x ∷ y ∷ []) = three_word_reply w y
reply_in c (w ∷ x ∷ d ∷ b ∷ a ∷ []) = io_in d b a
reply_in c ws = None

-- The reply to a call that the words behind the first one, a sign of equality, say.
unfoldable pub reply_behind : Call → List (List ℕ) → Option Reply
reply_behind c (sign ∷ ws) = reply_in c ws
reply_behind c [] = None

-- The entry that a line's words tell.
unfoldable pub entry_in : List (List ℕ) → Option Entry
entry_in (p ∷ m ∷ w ∷ ws) = do
  process ← number_in p
  cleared ← mask_in m
  call ← call_in w ws
  reply ← reply_behind call.0 call.1
  Some (record { process = process; call = call.0; reply = reply; cleared = cleared })
entry_in ws = None
