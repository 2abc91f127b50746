-- Words, numbers and bytes as text. Public clauses cite this.
use Rattle.std.specs.Prelude.{ℕ, List, ◌∷◌, ◌++◌, codes, decimal}
use Rattle.vm_script.specs.vm_types.declared.call.Call.{Call}
use Rattle.vm_script.specs.vm_types.declared.call.Call.TheVariants as call
use Rattle.vm_script.specs.vm_types.Words.{word_bytes}
use Rattle.vm_script.specs.Texts.{hex_text}

-- A word of n bytes: `0x` and two digits for each byte, the highest first.
abbrev pub word_text : ℕ → ℕ → List ℕ
word_text n v = codes "0x" ++ hex_text (word_bytes n v)

-- The word of a call.
abbrev pub call_word : Call → List ℕ
call_word (call.Load a n) = codes "load"
call_word (call.Store a n v) = codes "store"
call_word (call.Map place len prot kind object offset) = codes "map"
call_word (call.Unmap a len) = codes "unmap"
call_word (call.Protect a len prot) = codes "protect"
call_word (call.Sync a len) = codes "sync"
call_word (call.Read file offset len) = codes "read"
call_word (call.Write file offset line rest) = codes "write"
call_word (call.Truncate file len) = codes "truncate"
call_word (call.Fork child) = codes "fork"
call_word call.Exit = codes "exit"

-- A disk and its counts of faults before and after a transfer.
abbrev pub counts_text : ℕ → ℕ → ℕ → List ℕ
counts_text disk before after = decimal disk ++ 32 ∷ decimal before ++ 32 ∷ decimal after
