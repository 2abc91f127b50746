-- The results of calls, as a report and a trace print them. Public clauses cite this.
use Rattle.std.specs.Prelude.{ℕ, ◌==◌, Bool, true, false, List, [], ◌∷◌, ◌++◌, length, codes, decimal, sum_by, if◌then◌else◌}
use Rattle.std.specs.List.{flat_map}
use Rattle.vm_script.specs.vm_types.declared.call.Call.{Call}
use Rattle.vm_script.specs.vm_types.declared.call.Call.TheVariants as call
use Rattle.vm_script.specs.vm_types.declared.call.Reply.{Reply}
use Rattle.vm_script.specs.vm_types.declared.call.Reply.TheVariants as reply
use Rattle.vm_script.specs.vm_types.declared.call.Entry.{Entry}
use Rattle.vm_script.specs.vm_types.declared.call.Errno.{Errno}
use Rattle.vm_script.specs.vm_types.Names.{errno_number, errno_name, signal_text}
use Rattle.vm_script.specs.Texts.{hex_text}
use Rattle.vm_report.specs.Texts.{word_text, counts_text}

-- How many bytes a loaded word has; 4 stands for calls that load none.
abbrev pub word_size : Call → ℕ
word_size (call.Load a n) = n
word_size c = 4

-- A device error of a load or a store is a bus error, and of any other call an error.
abbrev pub io_word : Call → List ℕ
io_word (call.Load a n) = codes "BUS io "
io_word (call.Store a n v) = codes "BUS io "
io_word c = codes "error io "

-- What a call that did its work and has nothing to tell prints: a fork its child's number, every other call `ok`.
abbrev pub done_text : Call → List ℕ
done_text (call.Fork child) = decimal child
done_text c = codes "ok"

-- The bytes of a part of a read: their number, and where there are some their digits.
abbrev pub bytes_text : List ℕ → List ℕ
bytes_text bytes = decimal (length bytes) ++ (if length bytes == 0 then [] else 32 ∷ hex_text bytes)

-- A refusal: the number and the name of its error.
abbrev pub refusal_text : Errno → List ℕ
refusal_text e = codes "error " ++ decimal (errno_number e) ++ 32 ∷ errno_name e

-- The result of a call, by its reply.
abbrev pub result_text : Call → Reply → List ℕ
result_text c reply.Done = done_text c
result_text c (reply.Synced from) = codes "ok"
result_text c (reply.Word v) = word_text (word_size c) v
result_text c (reply.Mapped a) = word_text 4 a
result_text c (reply.Bytes bytes) = bytes_text bytes
result_text c (reply.Signal s) = signal_text s
result_text c (reply.Refused e) = refusal_text e
result_text c (reply.Io disk before after) = io_word c ++ counts_text disk before after

-- A refusal or a device error.
abbrev pub is_failure : Reply → Bool
is_failure (reply.Refused e) = true
is_failure (reply.Io disk before after) = true
is_failure r = false

-- Where the entry was refused or met a device error: a space and that result.
abbrev pub failure_of : Entry → List ℕ
failure_of e = if is_failure e.reply then 32 ∷ result_text e.call e.reply else []

-- Where the last part was refused or met a device error: a space and that result.
abbrev pub failure_text : List Entry → List ℕ
failure_text [] = []
failure_text (e ∷ []) = failure_of e
failure_text (e ∷ next ∷ es) = failure_text (next ∷ es)

-- The bytes that a part of a read got.
abbrev pub reply_bytes : Reply → List ℕ
reply_bytes (reply.Bytes bytes) = bytes
reply_bytes r = []

-- The bytes that the parts of a read got.
abbrev pub bytes_read : List Entry → List ℕ
bytes_read es = flat_map (λ e. reply_bytes e.reply) es

-- How many bytes a part of a write wrote.
abbrev pub bytes_done : Call → Reply → ℕ
bytes_done (call.Write file offset line rest) reply.Done = length line
bytes_done c r = 0

-- The number of bytes that the parts of a write wrote.
abbrev pub bytes_written : List Entry → ℕ
bytes_written es = sum_by (λ e. bytes_done e.call e.reply) es

-- The result of a read, by the entries of its parts: the bytes, and its failure.
abbrev pub read_result : List Entry → List ℕ
read_result es = bytes_text (bytes_read es) ++ failure_text es

-- The result of a write, by the entries of its parts: the number of bytes, and its failure.
abbrev pub write_result : List Entry → List ℕ
write_result es = decimal (bytes_written es) ++ failure_text es

-- The result of a line that began with this call and reply, by the entries that it made: those of a read or a write
-- are its parts, and every other line made one.
abbrev pub call_result : Call → Reply → List Entry → List ℕ
call_result (call.Read file offset len) r es = read_result es
call_result (call.Write file offset line rest) r es = write_result es
call_result c r es = result_text c r

-- The result of a line, by the entries that it made; nothing where it made none.
abbrev pub line_result : List Entry → List ℕ
line_result [] = []
line_result (e ∷ es) = call_result e.call e.reply (e ∷ es)
