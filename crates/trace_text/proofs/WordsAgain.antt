-- Calls, replies and entries that were printed word by word are read again.
use Rattle.std.proofs.Common.{◌≡◌, ℕ, zero, suc, ◌<◌, ◌==◌, Bool, true, false, List, [], ◌∷◌, ◌++◌, length, Some, refl, sym, arith, rules, tests}
use Rattle.std.specs.Prelude.{codes, decimal, if◌then◌else◌}
use Rattle.std.proofs.lemmas.Bool.{false≢true}
use Rattle.std.proofs.lemmas.Bool.Decides.{nat_tests}
use Rattle.vm_report.specs.vm_types.declared.prot.Prot.{Prot}
use Rattle.vm_report.specs.vm_types.declared.call.Kind.{Kind}
use Rattle.vm_report.specs.vm_types.declared.call.Kind.TheVariants as kinds
use Rattle.vm_report.specs.vm_types.declared.call.Call.{Call}
use Rattle.vm_report.specs.vm_types.declared.call.Call.TheVariants as call
use Rattle.vm_report.specs.vm_types.declared.call.Reply.{Reply}
use Rattle.vm_report.specs.vm_types.declared.call.Reply.TheVariants as reply
use Rattle.vm_report.specs.vm_types.declared.call.Entry.{Entry}
use Rattle.vm_report.specs.vm_types.declared.call.Errno.{Errno}
use Rattle.vm_report.specs.vm_types.declared.call.Errno.TheVariants as errno
use Rattle.vm_report.specs.vm_types.declared.call.Object.{Object}
use Rattle.vm_report.specs.vm_types.declared.call.Object.TheVariants as object
use Rattle.vm_report.specs.vm_types.declared.call.Place.{Place}
use Rattle.vm_report.specs.vm_types.declared.call.Place.TheVariants.{At, Any}
use Rattle.vm_report.specs.vm_types.declared.call.Signal.{Signal}
use Rattle.vm_report.specs.vm_types.declared.call.Signal.TheVariants as signal
use Rattle.vm_report.specs.vm_types.Prot.{IsProt}
use Rattle.vm_report.specs.vm_types.WellFormed.{IsNumber, IsPlace, IsObject, IsWellFormed}
use Rattle.vm_report.specs.vm_script.Texts.{hex_text, prot_text, kind_text}
use Rattle.vm_report.proofs.vm_script.Scripts.{size_number}
use Rattle.vm_report.specs.Texts.{call_word}
use Rattle.vm_report.specs.Trace.{place_word}
use Rattle.trace_text.specs.EntryForm.{IsReplyTo, IsTracedEntry}
use Rattle.trace_text.specs.EntryWords.{object_parts, argument_words, reply_words, entry_words}
use Rattle.trace_text.specs.EntryReading.{prot_in, kind_in, place_in, numbered_object, object_in, load_in, store_in, map_in, unmap_in, sync_in, protect_in, read_in, write_in, truncate_in, fork_in, later_call_in, call_in, value_of_word, one_word_reply, signal_of_word, two_word_reply, errno_in, three_word_reply, io_in, reply_in, reply_behind, entry_in}
use Rattle.trace_text.proofs.NumbersAgain.{long_number_again, number_again, mask_again, address_again, word_again, bytes_again}

prot_of : (n : ℕ) → n < 4 → prot_in (prot_text (record { 0 = n })) ≡ Some (record { 0 = n })
unfolding prot_in
prot_of zero h = refl
prot_of (suc zero) h = refl
prot_of (suc (suc zero)) h = refl
prot_of (suc (suc (suc zero))) h = refl
prot_of (suc (suc (suc (suc n)))) h = absurd (omega (arith, h))

prot_again : (p : Prot) → IsProt p → prot_in (prot_text p) ≡ Some p
prot_again p h = prot_of p.0 h

kind_again : (k : Kind) → kind_in (kind_text k) ≡ Some k
unfolding kind_in
kind_again kinds.Shared = refl
kind_again kinds.Private = refl

place_again : (p : Place) → IsPlace p → place_in (place_word p) ≡ Some p
unfolding place_in
place_again (At a) h = rw (address_again a h) refl
place_again Any h = refl

object_again : (o : Object) (offset : ℕ) (ws : List (List ℕ)) → IsObject o → IsNumber offset → object_in (object_parts o ++ decimal offset ∷ ws) ≡ Some (o, offset, ws)
unfolding object_in numbered_object
object_again (object.File f) offset ws h small = rw (number_again f h, number_again offset small) refl
object_again object.NewZero offset ws h small = rw (number_again offset small) refl
object_again (object.Zero z) offset ws h small = rw (number_again z h, number_again offset small) refl

joined_object : (o : Object) (offset : ℕ) (ws : List (List ℕ)) → (object_parts o ++ decimal offset ∷ []) ++ ws ≡ object_parts o ++ decimal offset ∷ ws
joined_object (object.File f) offset ws = refl
joined_object object.NewZero offset ws = refl
joined_object (object.Zero z) offset ws = refl

pub call_again : (c : Call) (ws : List (List ℕ)) → IsWellFormed c → call_in (call_word c) (argument_words c ++ ws) ≡ Some (c, ws)
unfolding call_in later_call_in load_in store_in map_in unmap_in sync_in protect_in read_in write_in truncate_in fork_in
call_again (call.Load a n) ws h = rw (address_again a h.0, number_again n (size_number n h.1)) refl
call_again (call.Store a n v) ws h = rw (address_again a h.0, number_again n (size_number n h.1), word_again n v h.1 h.2) refl
call_again (call.Map place len prot kind o offset) ws h =
    rw (joined_object o offset ws, place_again place h.0, number_again len h.1, prot_again prot h.2, kind_again kind, object_again o offset ws h.3 h.4) refl
call_again (call.Unmap a len) ws h = rw (address_again a h.0, number_again len h.1) refl
call_again (call.Protect a len prot) ws h = rw (address_again a h.0, number_again len h.1, prot_again prot h.2) refl
call_again (call.Sync a len) ws h = rw (address_again a h.0, number_again len h.1) refl
call_again (call.Read f offset len) ws h = rw (number_again f h.0, number_again offset h.1, number_again len h.2) refl
call_again (call.Write f offset line rest) ws h =
    let few : length line < 65 = omega (arith, h.2.inside) in
    rw (number_again f h.0, number_again offset h.1, bytes_again line h.2.each (omega (arith, few)), number_again rest h.3) refl
call_again (call.Truncate f len) ws h = rw (number_again f h.0, number_again len h.1) refl
call_again (call.Fork child) ws h = rw (number_again child h) refl
call_again call.Exit ws h = refl

signal_again : (c : Call) (s : Signal) → reply_in c (reply_words c (reply.Signal s)) ≡ Some (reply.Signal s)
unfolding reply_in two_word_reply signal_of_word
signal_again c signal.NoMap = refl
signal_again c signal.Prot = refl
signal_again c signal.Align = refl
signal_again c signal.Past = refl

errno_again : (c : Call) (e : Errno) → reply_in c (reply_words c (reply.Refused e)) ≡ Some (reply.Refused e)
unfolding reply_in three_word_reply errno_in
errno_again c errno.Invalid = refl
errno_again c errno.Access = refl
errno_again c errno.NoSwap = refl
errno_again c errno.NoRoom = refl
errno_again c errno.TooLarge = refl
errno_again c errno.NotMapped = refl
errno_again c errno.ReadOnly = refl
errno_again c errno.TooBig = refl
errno_again c errno.NoObject = refl

word_reply_again : (c : Call) (v : ℕ) → IsWellFormed c → IsReplyTo c (reply.Word v) → reply_in c (reply_words c (reply.Word v)) ≡ Some (reply.Word v)
unfolding reply_in one_word_reply value_of_word
word_reply_again (call.Load a n) v form h = rw (word_again n v form.1 h) refl
word_reply_again c v form h = absurd h

mapped_again : (c : Call) (a : ℕ) → IsReplyTo c (reply.Mapped a) → reply_in c (reply_words c (reply.Mapped a)) ≡ Some (reply.Mapped a)
unfolding reply_in one_word_reply value_of_word
mapped_again (call.Map place len prot kind o offset) a h = rw (address_again a h) refl
mapped_again c a h = absurd h

pub not_zero : (n : ℕ) → (suc n == 0) ≡ false
not_zero n = grind (rules, tests, arith, nat_tests)

some_bytes_again : (c : Call) (bytes d : List ℕ) (t : Bool) → t ≡ false → IsReplyTo c (reply.Bytes bytes)
    → reply_in c (codes "bytes" ∷ d ∷ (if t then [] else hex_text bytes ∷ [])) ≡ Some (reply.Bytes bytes)
unfolding reply_in three_word_reply
some_bytes_again c bytes d true e h = absurd (false≢true (sym e))
some_bytes_again c bytes d false e h = rw (bytes_again bytes h.1 h.0) refl

bytes_reply_again : (c : Call) (bytes : List ℕ) → IsReplyTo c (reply.Bytes bytes) → reply_in c (reply_words c (reply.Bytes bytes)) ≡ Some (reply.Bytes bytes)
unfolding reply_in two_word_reply
bytes_reply_again c [] h = refl
bytes_reply_again c (b ∷ bytes) h = some_bytes_again c (b ∷ bytes) (decimal (length (b ∷ bytes))) (length (b ∷ bytes) == 0) (not_zero (length bytes)) h

pub reply_again : (c : Call) (r : Reply) → IsWellFormed c → IsReplyTo c r → reply_in c (reply_words c r) ≡ Some r
unfolding reply_in one_word_reply two_word_reply io_in
reply_again c reply.Done form h = refl
reply_again c (reply.Word v) form h = word_reply_again c v form h
reply_again c (reply.Mapped a) form h = mapped_again c a h
reply_again c (reply.Bytes bytes) form h = bytes_reply_again c bytes h
reply_again c (reply.Synced from) form h = rw (long_number_again from h) refl
reply_again c (reply.Signal s) form h = signal_again c s
reply_again c (reply.Refused e) form h = errno_again c e
reply_again c (reply.Io disk before after) form h = rw (number_again disk h.0, long_number_again before h.1, long_number_again after h.2) refl

pub entry_again : (e : Entry) → IsTracedEntry e → entry_in (entry_words e) ≡ Some e
unfolding entry_in reply_behind
entry_again e h =
    rw (number_again e.process h.process, mask_again e.cleared h.cleared, call_again e.call (codes "=" ∷ reply_words e.call e.reply) h.call, reply_again e.call e.reply h.call h.reply) refl
