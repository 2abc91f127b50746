-- The summary of a generated script's history. Public clauses cite this.
use Rattle.std.specs.Prelude.{ℕ, ◌%◌, ◌^◌, Bool, true, false, List, ◌∷◌, [], ◌++◌, length, codes, decimal, count_by, sum_by}
use Rattle.vm_script.specs.vm_types.declared.call.Reply.{Reply}
use Rattle.vm_script.specs.vm_types.declared.call.Reply.TheVariants as reply
use Rattle.vm_script.specs.vm_types.declared.call.Entry.{Entry}

-- A signal, or a device error.
abbrev pub is_signal : Reply → Bool
is_signal (reply.Signal s) = true
is_signal (reply.Io disk before after) = true
is_signal r = false

-- A refusal.
abbrev pub is_refusal : Reply → Bool
is_refusal (reply.Refused e) = true
is_refusal r = false

-- The word that was loaded, or 0.
abbrev pub word_of : Reply → ℕ
word_of (reply.Word v) = v
word_of r = 0

-- The number of the script, of the entries, of the signals and of the refusals, and the sum of all words modulo 2^32.
abbrev pub summary : ℕ → List Entry → List ℕ
summary number H =
    codes "make " ++ decimal number ++ codes " entries " ++ decimal (length H)
    ++ codes " signals " ++ decimal (count_by (λ e. is_signal e.reply) H)
    ++ codes " refusals " ++ decimal (count_by (λ e. is_refusal e.reply) H)
    ++ codes " sum " ++ decimal (sum_by (λ e. word_of e.reply) H % 2 ^ 32) ++ 10 ∷ []
