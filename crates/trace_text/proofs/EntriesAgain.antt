-- The line of an entry is its words, one space apart, and tells that entry alone.
use Rattle.std.proofs.Common.{◌≡◌, ℕ, zero, suc, ◌<◌, Bool, true, false, List, [], ◌∷◌, ◌++◌, length, Option, Some, refl, sym, ap, ◌∙◌, append_assoc, append-nil, arith, rules, tests, ◌==◌}
use Rattle.std.specs.Prelude.{All, codes, decimal, if◌then◌else◌}
use Rattle.std.specs.List.{list_all, slice_split}
use Rattle.std.proofs.lemmas.Bool.{false≢true}
use Rattle.std.proofs.lemmas.Bool.Decides.{nat_tests}
use Rattle.std.proofs.lemmas.List.{append_cancel_right}
use Rattle.vm_report.specs.vm_types.declared.prot.Prot.{Prot}
use Rattle.vm_report.specs.vm_types.declared.call.Kind.{Kind}
use Rattle.vm_report.specs.vm_types.declared.call.Kind.TheVariants as kinds
use Rattle.vm_report.specs.vm_types.declared.call.Call.{Call}
use Rattle.vm_report.specs.vm_types.declared.call.Call.TheVariants as call
use Rattle.vm_report.specs.vm_types.declared.call.Reply.{Reply}
use Rattle.vm_report.specs.vm_types.declared.call.Reply.TheVariants as reply
use Rattle.vm_report.specs.vm_types.declared.call.Entry.{Entry}
use Rattle.vm_report.specs.vm_types.declared.call.Errno.{Errno}
use Rattle.vm_report.specs.vm_types.declared.call.Errno.TheVariants as errno
use Rattle.vm_report.specs.vm_types.declared.call.Object.{Object}
use Rattle.vm_report.specs.vm_types.declared.call.Object.TheVariants as object
use Rattle.vm_report.specs.vm_types.declared.call.Place.{Place}
use Rattle.vm_report.specs.vm_types.declared.call.Place.TheVariants.{At, Any}
use Rattle.vm_report.specs.vm_types.declared.call.Signal.{Signal}
use Rattle.vm_report.specs.vm_types.declared.call.Signal.TheVariants as signal
use Rattle.vm_report.specs.vm_types.WellFormed.{IsObject, IsWellFormed}
use Rattle.vm_report.specs.vm_types.Words.{IsByte, word_bytes}
use Rattle.vm_report.specs.vm_script.Fields.{is_digit}
use Rattle.vm_report.specs.vm_script.Lines.{is_graphic, is_space}
use Rattle.vm_report.specs.vm_script.Printed.{line_of_fields}
use Rattle.vm_report.specs.vm_script.Texts.{hex_text, prot_text, kind_text}
use Rattle.vm_report.proofs.vm_script.Printing.{all_implies, digits_of_decimal, graphic_decimal, graphic_hex, split_word, split_last}
use Rattle.vm_report.proofs.vm_script.Scripts.{size_number}
use Rattle.vm_report.specs.Texts.{word_text, call_word}
use Rattle.vm_report.specs.Results.{word_size}
use Rattle.vm_report.specs.Trace.{place_word, call_text, reply_text, entry_text}
use Rattle.trace_text.specs.EntryForm.{IsLongNumber, IsReplyTo, IsTracedEntry}
use Rattle.trace_text.specs.EntryWords.{object_parts, argument_words, call_words, reply_words, entry_words}
use Rattle.trace_text.specs.EntryReading.{entry_in}
use Rattle.trace_text.proofs.NumbersAgain.{are_bytes}
use Rattle.trace_text.proofs.WordsAgain.{not_zero, entry_again}

-- each word's bytes may stand in a word
abbrev pub AreGraphic : List (List ℕ) → Type 0
AreGraphic [] = Unit {0}
AreGraphic (w ∷ ws) = (list_all is_graphic w ≡ true) × AreGraphic ws

pub split_joined : (w : List ℕ) (ws : List (List ℕ)) → AreGraphic (w ∷ ws) → slice_split is_space (line_of_fields (w ∷ ws)) ≡ w ∷ ws
split_joined w [] h = split_last w h.0
split_joined w (v ∷ ws) h = split_word w (line_of_fields (v ∷ ws)) h.0 ∙ ap (λ xs. w ∷ xs) (split_joined v ws h.1)

-- words of calls and replies
pub graphic_number : (n : ℕ) → IsLongNumber n → list_all is_graphic (decimal n) ≡ true
graphic_number n small = all_implies is_digit is_graphic (λ b is. grind (rules, tests, arith, nat_tests, is)) (decimal n) (digits_of_decimal n small)

graphic_word : (n v : ℕ) → list_all is_graphic (word_text n v) ≡ true
graphic_word n v = graphic_hex (word_bytes n v) (are_bytes n v)

graphic_prot : (n : ℕ) → n < 4 → list_all is_graphic (prot_text (record { 0 = n })) ≡ true
graphic_prot zero h = refl
graphic_prot (suc zero) h = refl
graphic_prot (suc (suc zero)) h = refl
graphic_prot (suc (suc (suc zero))) h = refl
graphic_prot (suc (suc (suc (suc n)))) h = absurd (omega (arith, h))

graphic_kind : (k : Kind) → list_all is_graphic (kind_text k) ≡ true
graphic_kind kinds.Shared = refl
graphic_kind kinds.Private = refl

graphic_place : (p : Place) → list_all is_graphic (place_word p) ≡ true
graphic_place (At a) = graphic_word 4 a
graphic_place Any = refl

graphic_object : (o : Object) (ws : List (List ℕ)) → IsObject o → AreGraphic ws → AreGraphic (object_parts o ++ ws)
graphic_object (object.File f) ws h more = (refl, (graphic_decimal f h, more))
graphic_object object.NewZero ws h more = (refl, more)
graphic_object (object.Zero z) ws h more = (refl, (graphic_decimal z h, more))

assoc_object : (o : Object) (offset : ℕ) (ws : List (List ℕ)) → AreGraphic (object_parts o ++ decimal offset ∷ ws) → AreGraphic ((object_parts o ++ decimal offset ∷ []) ++ ws)
assoc_object (object.File f) offset ws h = h
assoc_object object.NewZero offset ws h = h
assoc_object (object.Zero z) offset ws h = h

graphic_arguments : (c : Call) (ws : List (List ℕ)) → IsWellFormed c → AreGraphic ws → AreGraphic (argument_words c ++ ws)
graphic_arguments (call.Load a n) ws h more = (graphic_word 4 a, (graphic_decimal n (size_number n h.1), more))
graphic_arguments (call.Store a n v) ws h more = (graphic_word 4 a, (graphic_decimal n (size_number n h.1), (graphic_word n v, more)))
graphic_arguments (call.Map place len prot kind o offset) ws h more =
    (graphic_place place, (graphic_decimal len h.1, (graphic_prot prot.0 h.2, (graphic_kind kind, assoc_object o offset ws (graphic_object o (decimal offset ∷ ws) h.3 (graphic_decimal offset h.4, more))))))
graphic_arguments (call.Unmap a len) ws h more = (graphic_word 4 a, (graphic_decimal len h.1, more))
graphic_arguments (call.Protect a len prot) ws h more = (graphic_word 4 a, (graphic_decimal len h.1, (graphic_prot prot.0 h.2, more)))
graphic_arguments (call.Sync a len) ws h more = (graphic_word 4 a, (graphic_decimal len h.1, more))
graphic_arguments (call.Read f offset len) ws h more = (graphic_decimal f h.0, (graphic_decimal offset h.1, (graphic_decimal len h.2, more)))
graphic_arguments (call.Write f offset line rest) ws h more = (graphic_decimal f h.0, (graphic_decimal offset h.1, (graphic_hex line h.2.each, (graphic_decimal rest h.3, more))))
graphic_arguments (call.Truncate f len) ws h more = (graphic_decimal f h.0, (graphic_decimal len h.1, more))
graphic_arguments (call.Fork child) ws h more = (graphic_decimal child h, more)
graphic_arguments call.Exit ws h more = more

graphic_call : (c : Call) → list_all is_graphic (call_word c) ≡ true
graphic_call (call.Load a n) = refl
graphic_call (call.Store a n v) = refl
graphic_call (call.Map place len prot kind o offset) = refl
graphic_call (call.Unmap a len) = refl
graphic_call (call.Protect a len prot) = refl
graphic_call (call.Sync a len) = refl
graphic_call (call.Read f offset len) = refl
graphic_call (call.Write f offset line rest) = refl
graphic_call (call.Truncate f len) = refl
graphic_call (call.Fork child) = refl
graphic_call call.Exit = refl

graphic_refusal : (c : Call) (e : Errno) → AreGraphic (reply_words c (reply.Refused e))
graphic_refusal c errno.Invalid = (refl, (graphic_decimal 1 (omega arith), (refl, tt)))
graphic_refusal c errno.Access = (refl, (graphic_decimal 2 (omega arith), (refl, tt)))
graphic_refusal c errno.NoSwap = (refl, (graphic_decimal 3 (omega arith), (refl, tt)))
graphic_refusal c errno.NoRoom = (refl, (graphic_decimal 4 (omega arith), (refl, tt)))
graphic_refusal c errno.TooLarge = (refl, (graphic_decimal 5 (omega arith), (refl, tt)))
graphic_refusal c errno.NotMapped = (refl, (graphic_decimal 6 (omega arith), (refl, tt)))
graphic_refusal c errno.ReadOnly = (refl, (graphic_decimal 7 (omega arith), (refl, tt)))
graphic_refusal c errno.TooBig = (refl, (graphic_decimal 8 (omega arith), (refl, tt)))
graphic_refusal c errno.NoObject = (refl, (graphic_decimal 9 (omega arith), (refl, tt)))

graphic_signal : (c : Call) (s : Signal) → AreGraphic (reply_words c (reply.Signal s))
graphic_signal c signal.NoMap = (refl, (refl, tt))
graphic_signal c signal.Prot = (refl, (refl, tt))
graphic_signal c signal.Align = (refl, (refl, tt))
graphic_signal c signal.Past = (refl, (refl, tt))

graphic_some : (bytes d : List ℕ) (t : Bool) → t ≡ false → list_all is_graphic d ≡ true → All IsByte bytes
    → AreGraphic (codes "bytes" ∷ d ∷ (if t then [] else hex_text bytes ∷ []))
graphic_some bytes d true e g h = absurd (false≢true (sym e))
graphic_some bytes d false e g h = (refl, (g, (graphic_hex bytes h, tt)))

graphic_bytes : (c : Call) (bytes : List ℕ) → IsReplyTo c (reply.Bytes bytes) → AreGraphic (reply_words c (reply.Bytes bytes))
graphic_bytes c [] h = (refl, (graphic_decimal 0 (omega arith), tt))
graphic_bytes c (b ∷ bytes) h =
    graphic_some (b ∷ bytes) (decimal (length (b ∷ bytes))) (length (b ∷ bytes) == 0) (not_zero (length bytes)) (graphic_number (length (b ∷ bytes)) (omega (arith, h.0))) h.1

graphic_source : (c : Call) (ws : List (List ℕ)) → AreGraphic ws → AreGraphic (Rattle.trace_text.specs.EntryWords.io_source c ∷ ws)
graphic_source (call.Load a n) ws more = (refl, more)
graphic_source (call.Store a n v) ws more = (refl, more)
graphic_source c ws more = (refl, more)

graphic_reply : (c : Call) (r : Reply) → IsReplyTo c r → AreGraphic (reply_words c r)
graphic_reply c reply.Done h = (refl, tt)
graphic_reply c (reply.Word v) h = (graphic_word (word_size c) v, tt)
graphic_reply c (reply.Mapped a) h = (graphic_word 4 a, tt)
graphic_reply c (reply.Bytes bytes) h = graphic_bytes c bytes h
graphic_reply c (reply.Synced from) h = (refl, (graphic_number from h, tt))
graphic_reply c (reply.Signal s) h = graphic_signal c s
graphic_reply c (reply.Refused e) h = graphic_refusal c e
graphic_reply c (reply.Io disk before after) h =
    graphic_source c (codes "io" ∷ decimal disk ∷ decimal before ∷ decimal after ∷ []) (refl, (graphic_decimal disk h.0, (graphic_number before h.1, (graphic_number after h.2, tt))))

pub graphic_entry : (e : Entry) → IsTracedEntry e → AreGraphic (entry_words e)
graphic_entry e h = (
  graphic_decimal e.process h.process,
  (
    graphic_hex (word_bytes 8 e.cleared) (are_bytes 8 e.cleared),
    (graphic_call e.call, graphic_arguments e.call (codes "=" ∷ reply_words e.call e.reply) h.call (refl, graphic_reply e.call e.reply h.reply)),
  ),
)

-- pieces of text, grouped from the left and from the right
join2 : (w a b g : List ℕ) → (w ++ (a ++ b)) ++ g ≡ w ++ (a ++ (b ++ g))
join2 w a b g = simp append_assoc

join3 : (w a b c g : List ℕ) → (w ++ ((a ++ b) ++ c)) ++ g ≡ w ++ (a ++ (b ++ (c ++ g)))
join3 w a b c g = simp append_assoc

join4 : (w a b c d g : List ℕ) → (w ++ (((a ++ b) ++ c) ++ d)) ++ g ≡ w ++ (a ++ (b ++ (c ++ (d ++ g))))
join4 w a b c d g = simp append_assoc

join6 : (w a b c d e f g : List ℕ) → (w ++ (((((a ++ b) ++ c) ++ d) ++ e) ++ f)) ++ g ≡ w ++ (a ++ (b ++ (c ++ (d ++ (e ++ (f ++ g))))))
join6 w a b c d e f g = simp append_assoc

map_joined : (place : Place) (len : ℕ) (prot : Prot) (kind : Kind) (o : List ℕ) (offset : ℕ) (g : List ℕ)
    → (codes "map" ++ (32 ∷ place_word place ++ 32 ∷ decimal len ++ 32 ∷ prot_text prot ++ 32 ∷ kind_text kind ++ 32 ∷ o ++ 32 ∷ decimal offset)) ++ 32 ∷ g
    ≡ codes "map" ++ 32 ∷ (place_word place ++ 32 ∷ (decimal len ++ 32 ∷ (prot_text prot ++ 32 ∷ (kind_text kind ++ 32 ∷ (o ++ 32 ∷ (decimal offset ++ 32 ∷ g))))))
map_joined place len prot kind o offset g = join6 (codes "map") (32 ∷ place_word place) (32 ∷ decimal len) (32 ∷ prot_text prot) (32 ∷ kind_text kind) (32 ∷ o) (32 ∷ decimal offset) (32 ∷ g)

-- a call and what follows it
call_joined : (c : Call) (w : List ℕ) (ws : List (List ℕ)) → call_text c ++ 32 ∷ line_of_fields (w ∷ ws) ≡ line_of_fields (call_words c ++ w ∷ ws)
call_joined (call.Load a n) w ws = join2 (codes "load") (32 ∷ word_text 4 a) (32 ∷ decimal n) (32 ∷ line_of_fields (w ∷ ws))
call_joined (call.Store a n v) w ws = join3 (codes "store") (32 ∷ word_text 4 a) (32 ∷ decimal n) (32 ∷ word_text n v) (32 ∷ line_of_fields (w ∷ ws))
call_joined (call.Map place len prot kind (object.File f) offset) w ws = map_joined place len prot kind (codes "file " ++ decimal f) offset (line_of_fields (w ∷ ws))
call_joined (call.Map place len prot kind object.NewZero offset) w ws = map_joined place len prot kind (codes "newzero") offset (line_of_fields (w ∷ ws))
call_joined (call.Map place len prot kind (object.Zero z) offset) w ws = map_joined place len prot kind (codes "zero " ++ decimal z) offset (line_of_fields (w ∷ ws))
call_joined (call.Unmap a len) w ws = join2 (codes "unmap") (32 ∷ word_text 4 a) (32 ∷ decimal len) (32 ∷ line_of_fields (w ∷ ws))
call_joined (call.Protect a len prot) w ws = join3 (codes "protect") (32 ∷ word_text 4 a) (32 ∷ decimal len) (32 ∷ prot_text prot) (32 ∷ line_of_fields (w ∷ ws))
call_joined (call.Sync a len) w ws = join2 (codes "sync") (32 ∷ word_text 4 a) (32 ∷ decimal len) (32 ∷ line_of_fields (w ∷ ws))
call_joined (call.Read f offset len) w ws = join3 (codes "read") (32 ∷ decimal f) (32 ∷ decimal offset) (32 ∷ decimal len) (32 ∷ line_of_fields (w ∷ ws))
call_joined (call.Write f offset line rest) w ws = join4 (codes "write") (32 ∷ decimal f) (32 ∷ decimal offset) (32 ∷ hex_text line) (32 ∷ decimal rest) (32 ∷ line_of_fields (w ∷ ws))
call_joined (call.Truncate f len) w ws = join2 (codes "truncate") (32 ∷ decimal f) (32 ∷ decimal len) (32 ∷ line_of_fields (w ∷ ws))
call_joined (call.Fork child) w ws = append_assoc (codes "fork") (32 ∷ decimal child) (32 ∷ line_of_fields (w ∷ ws))
call_joined call.Exit w ws = refl

io_joined : (c : Call) (disk before after : ℕ) → line_of_fields (codes "=" ∷ reply_words c (reply.Io disk before after)) ≡ codes "= " ++ reply_text c (reply.Io disk before after)
io_joined (call.Load a n) disk before after = simp append_assoc
io_joined (call.Store a n v) disk before after = simp append_assoc
io_joined c disk before after = simp append_assoc

some_joined : (t : Bool) (d h : List ℕ) → t ≡ false
    → line_of_fields (codes "=" ∷ codes "bytes" ∷ d ∷ (if t then [] else h ∷ [])) ≡ codes "= " ++ (codes "bytes " ++ (d ++ (if t then [] else 32 ∷ h)))
some_joined true d h e = absurd (false≢true (sym e))
some_joined false d h e = refl

bytes_joined : (c : Call) (bytes : List ℕ) → line_of_fields (codes "=" ∷ reply_words c (reply.Bytes bytes)) ≡ codes "= " ++ reply_text c (reply.Bytes bytes)
bytes_joined c [] = simp append-nil
bytes_joined c (b ∷ bytes) = some_joined (length (b ∷ bytes) == 0) (decimal (length (b ∷ bytes))) (hex_text (b ∷ bytes)) (not_zero (length bytes))

signal_joined : (c : Call) (s : Signal) → line_of_fields (codes "=" ∷ reply_words c (reply.Signal s)) ≡ codes "= " ++ reply_text c (reply.Signal s)
signal_joined c signal.NoMap = refl
signal_joined c signal.Prot = refl
signal_joined c signal.Align = refl
signal_joined c signal.Past = refl

pub reply_joined : (c : Call) (r : Reply) → line_of_fields (codes "=" ∷ reply_words c r) ≡ codes "= " ++ reply_text c r
reply_joined c reply.Done = refl
reply_joined c (reply.Word v) = refl
reply_joined c (reply.Mapped a) = refl
reply_joined c (reply.Bytes bytes) = bytes_joined c bytes
reply_joined c (reply.Synced from) = refl
reply_joined c (reply.Signal s) = signal_joined c s
reply_joined c (reply.Refused e) = simp append_assoc
reply_joined c (reply.Io disk before after) = io_joined c disk before after

from_left : (p a b c r e : List ℕ) → ((((p ++ a) ++ b) ++ c) ++ r) ++ e ≡ p ++ (a ++ (b ++ (c ++ (r ++ e))))
from_left p a b c r e = simp append_assoc

from_right : (p a b c r e : List ℕ) → (p ++ (a ++ (b ++ (c ++ r)))) ++ e ≡ p ++ (a ++ (b ++ (c ++ (r ++ e))))
from_right p a b c r e = simp append_assoc

regrouped : (p h c r : List ℕ) → p ++ 32 ∷ h ++ 32 ∷ c ++ codes " = " ++ r ++ 10 ∷ [] ≡ (p ++ 32 ∷ (h ++ 32 ∷ (c ++ 32 ∷ (codes "= " ++ r)))) ++ 10 ∷ []
regrouped p h c r = from_left p (32 ∷ h) (32 ∷ c) (codes " = ") r (10 ∷ []) ∙ sym (from_right p (32 ∷ h) (32 ∷ c) (codes " = ") r (10 ∷ []))

pub entry_joined : (e : Entry) → entry_text e ≡ line_of_fields (entry_words e) ++ 10 ∷ []
entry_joined e =
    let ws = reply_words e.call e.reply in
    let hex = hex_text (word_bytes 8 e.cleared) in
    let behind : line_of_fields (call_words e.call ++ codes "=" ∷ ws) ≡ call_text e.call ++ 32 ∷ (codes "= " ++ reply_text e.call e.reply) =
    sym (call_joined e.call (codes "=") ws) ∙ ap (λ t. call_text e.call ++ 32 ∷ t) (reply_joined e.call e.reply) in
    regrouped (decimal e.process) hex (call_text e.call) (reply_text e.call e.reply)
    ∙ sym (ap (λ t. (decimal e.process ++ 32 ∷ (hex ++ 32 ∷ t)) ++ 10 ∷ []) behind)

-- what stands before the line feed of an entry's line tells the entry
pub entry_told : (e : Entry) (body : List ℕ) → IsTracedEntry e → body ++ 10 ∷ [] ≡ entry_text e → entry_in (slice_split is_space body) ≡ Some e
entry_told e body h is =
    let same : body ≡ line_of_fields (entry_words e) = append_cancel_right body (line_of_fields (entry_words e)) (10 ∷ []) (is ∙ entry_joined e) in
    ap (λ t. entry_in (slice_split is_space t)) same
    ∙ (ap entry_in (split_joined (decimal e.process) (hex_text (word_bytes 8 e.cleared) ∷ (call_words e.call ++ codes "=" ∷ reply_words e.call e.reply)) (graphic_entry e h))
    ∙ entry_again e h)

pub line_told : (line body : List ℕ) (r : Option Entry) → line ≡ body ++ 10 ∷ [] → r ≡ entry_in (slice_split is_space body) → (e : Entry) → IsTracedEntry e
    → line ≡ entry_text e → r ≡ Some e
line_told line body r fed read e h is = read ∙ entry_told e body h (sym fed ∙ is)

-- a line tells one entry alone
pub one_entry : (d e : Entry) → IsTracedEntry d → IsTracedEntry e → entry_text d ≡ entry_text e → d ≡ e
one_entry d e g h same =
    let body = line_of_fields (entry_words d) in
    let first = entry_told d body g (sym (entry_joined d)) in
    let second = entry_told e body h (sym (entry_joined d) ∙ same) in
    let both : Some d ≡ Some e = sym first ∙ second in
    cc
