-- The words of an entry's line, which stand one space apart. Inside: no public clause cites this.
use Rattle.std.specs.Prelude.{ℕ, ◌==◌, List, [], ◌∷◌, ◌++◌, length, codes, decimal, if◌then◌else◌}
use Rattle.vm_report.specs.vm_types.declared.call.Call.{Call}
use Rattle.vm_report.specs.vm_types.declared.call.Call.TheVariants as call
use Rattle.vm_report.specs.vm_types.declared.call.Reply.{Reply}
use Rattle.vm_report.specs.vm_types.declared.call.Reply.TheVariants as reply
use Rattle.vm_report.specs.vm_types.declared.call.Entry.{Entry}
use Rattle.vm_report.specs.vm_types.declared.call.Object.{Object}
use Rattle.vm_report.specs.vm_types.declared.call.Object.TheVariants as object
use Rattle.vm_report.specs.vm_types.declared.call.Signal.{Signal}
use Rattle.vm_report.specs.vm_types.declared.call.Signal.TheVariants as signal
use Rattle.vm_report.specs.vm_types.Names.{errno_number, errno_name}
use Rattle.vm_report.specs.vm_types.Words.{word_bytes}
use Rattle.vm_report.specs.vm_script.Texts.{hex_text, prot_text, kind_text}
use Rattle.vm_report.specs.Texts.{word_text, call_word}
use Rattle.vm_report.specs.Results.{word_size}
use Rattle.vm_report.specs.Trace.{place_word}

-- The words of a mapped object: what it is, and its number unless it is new.
abbrev pub object_parts : Object → List (List ℕ)
object_parts (object.File file) = codes "file" ∷ decimal file ∷ []
object_parts object.NewZero = codes "newzero" ∷ []
object_parts (object.Zero z) = codes "zero" ∷ decimal z ∷ []

-- The words of a call's arguments, in their order.
abbrev pub argument_words : Call → List (List ℕ)
argument_words (call.Load a n) = word_text 4 a ∷ decimal n ∷ []
argument_words (call.Store a n v) = word_text 4 a ∷ decimal n ∷ word_text n v ∷ []
argument_words (call.Map place len prot kind object offset) = place_word place ∷ decimal len ∷ prot_text prot ∷ kind_text kind ∷ (object_parts object ++ decimal offset ∷ [])
argument_words (call.Unmap a len) = word_text 4 a ∷ decimal len ∷ []
argument_words (call.Protect a len prot) = word_text 4 a ∷ decimal len ∷ prot_text prot ∷ []
argument_words (call.Sync a len) = word_text 4 a ∷ decimal len ∷ []
argument_words (call.Read file offset len) = decimal file ∷ decimal offset ∷ decimal len ∷ []
argument_words (call.Write file offset line rest) = decimal file ∷ decimal offset ∷ hex_text line ∷ decimal rest ∷ []
argument_words (call.Truncate file len) = decimal file ∷ decimal len ∷ []
argument_words (call.Fork child) = decimal child ∷ []
argument_words call.Exit = []

-- The words of bytes that were read: `bytes`, how many, and their digits unless there are none.
abbrev pub bytes_words : List ℕ → List (List ℕ)
bytes_words bytes = codes "bytes" ∷ decimal (length bytes) ∷ (if length bytes == 0 then [] else hex_text bytes ∷ [])

-- The two words of a signal: `SEGV` or `BUS`, and its cause.
abbrev pub signal_words : Signal → List (List ℕ)
signal_words signal.NoMap = codes "SEGV" ∷ codes "nomap" ∷ []
signal_words signal.Prot = codes "SEGV" ∷ codes "prot" ∷ []
signal_words signal.Align = codes "BUS" ∷ codes "align" ∷ []
signal_words signal.Past = codes "BUS" ∷ codes "past" ∷ []

-- The first word of a failed transfer's reply: `BUS` for a load or a store, `error` for another
-- call.
abbrev pub io_source : Call → List ℕ
io_source (call.Load a n) = codes "BUS"
io_source (call.Store a n v) = codes "BUS"
io_source c = codes "error"

-- The words of a reply to a call.
abbrev pub reply_words : Call → Reply → List (List ℕ)
reply_words c reply.Done = codes "ok" ∷ []
reply_words c (reply.Word v) = word_text (word_size c) v ∷ []
reply_words c (reply.Mapped a) = word_text 4 a ∷ []
reply_words c (reply.Bytes bytes) = bytes_words bytes
reply_words c (reply.Synced from) = codes "ok" ∷ decimal from ∷ []
reply_words c (reply.Signal s) = signal_words s
reply_words c (reply.Refused e) = codes "error" ∷ decimal (errno_number e) ∷ errno_name e ∷ []
reply_words c (reply.Io disk before after) = io_source c ∷ codes "io" ∷ decimal disk ∷ decimal before ∷ decimal after ∷ []

-- The words of a call: its own word, and those of its arguments.
abbrev pub call_words : Call → List (List ℕ)
call_words c = call_word c ∷ argument_words c

-- The words of an entry's line: process, mask of cleared marks, call, `=` and reply.
abbrev pub entry_words : Entry → List (List ℕ)
entry_words e = decimal e.process ∷ hex_text (word_bytes 8 e.cleared) ∷ (call_words e.call ++ codes "=" ∷ reply_words e.call e.reply)
