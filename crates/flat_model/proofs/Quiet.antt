-- A signal, a refusal and a failed transfer change nothing but tails.
use Rattle.std.proofs.Common.{◌≡◌, ℕ, ◌+◌, ◌*◌, ◌%◌, length, Result, Ok, Err, refl, sym, subst}
use Rattle.std.specs.Prelude.{nat_le}
use Rattle.vm_types.specs.declared.call.Call.{Call}
use Rattle.vm_types.specs.declared.call.Call.TheVariants.{Load, Store, Map, Unmap, Protect, Sync, Read, Write, Truncate, Fork, Exit}
use Rattle.vm_types.specs.declared.call.Errno.{Errno}
use Rattle.vm_types.specs.declared.call.Errno.TheVariants as errno
use Rattle.vm_types.specs.declared.call.Entry.{Entry}
use Rattle.vm_types.specs.declared.call.Reply.{Reply}
use Rattle.vm_types.specs.declared.call.Reply.TheVariants as reply
use Rattle.vm_types.specs.declared.call.Signal.{Signal}
use Rattle.vm_types.specs.Prot.{can_read, can_write}
use Rattle.flat_model.specs.Words.{page, pages_in, word_at, with_bytes, word_bytes}
use Rattle.flat_model.specs.Flat.{Flat, reserved, private_cells}
use Rattle.flat_model.specs.Access.{access_target, with_page_stored, with_space}
use Rattle.flat_model.specs.Space.{with_prots}
use Rattle.flat_model.specs.Mapping.{map_result, without_pages, is_range, valid_range, may_have, cells_of}
use Rattle.flat_model.specs.Parts.{existing_file, read_line, room_for, with_file_at, with_part, file_of_length}
use Rattle.flat_model.specs.Processes.{with_child}
use Rattle.flat_model.specs.Refusals.{◌>>◌, check, Effect, or_signal, or_refused, done_effect}
use Rattle.flat_model.specs.Step.{effect, after_act, step, is_bit_set, tails_cleared, IsStep, IsDue}
use Rattle.flat_model.specs.HistoryLaws.{IsNoAction, Quiet}

-- what acts never answers so
abbrev Acts : {A : Type 0} → (A → Effect) → Type 0
Acts {A} acts = (x : A) → IsNoAction (acts x).reply → ⊥

quiet_signal : {A : Type 0} (F : Flat) (acts : A → Effect) (r : Result A Signal) → Acts acts → IsNoAction (or_signal F acts r).reply → (or_signal F acts r).after ≡ F
quiet_signal F acts (Ok x) never is = absurd (never x is)
quiet_signal F acts (Err s) never is = refl

quiet_refused : {A : Type 0} (F : Flat) (acts : A → Effect) (r : Result A Errno) → Acts acts → IsNoAction (or_refused F acts r).reply → (or_refused F acts r).after ≡ F
quiet_refused F acts (Ok x) never is = absurd (never x is)
quiet_refused F acts (Err e) never is = refl

-- a call whose reply is a signal or a refusal changes nothing
pub effect-quiet : (F : Flat) (p : ℕ) (call : Call) → IsNoAction (effect F p call).reply → (effect F p call).after ≡ F
effect-quiet F p (Load a n) is = quiet_signal F (λ m. record { reply = reply.Word (word_at m.1 a n); after = F }) (access_target F p can_read a n) (λ x h. h) is
effect-quiet F p (Store a n v) is = quiet_signal F (λ m. done_effect (with_page_stored F p (page a) m.0 (with_bytes m.1 (a % 4096) (word_bytes n v)))) (access_target F p can_write a n) (λ x h. h) is
effect-quiet F p (Map place len prot kind object offset) is = quiet_refused F (λ m. record { reply = reply.Mapped (4096 * m.0); after = m.1 }) (map_result F p (record { place = place; len = len; prot = prot; kind = kind; object = object; offset = offset })) (λ x h. h) is
effect-quiet F p (Unmap a len) is = quiet_refused F (λ x. done_effect (without_pages F p (page a) (pages_in len))) (check (is_range a len) errno.Invalid) (λ x h. h) is
effect-quiet F p (Protect a len prot) is = quiet_refused F (λ x. done_effect (with_space F p (with_prots (cells_of F p) (page a) (pages_in len) prot))) (valid_range F p a len >> check (may_have (cells_of F p) (page a) (pages_in len) prot) errno.Access) (λ x h. h) is
effect-quiet F p (Sync a len) is = quiet_refused F (λ x. record { reply = reply.Synced 0; after = F }) (valid_range F p a len) (λ x h. h) is
effect-quiet F p (Read file offset len) is = quiet_refused F (λ x. record { reply = reply.Bytes (read_line x offset len); after = F }) (existing_file F file) (λ x h. h) is
effect-quiet F p (Write file offset line rest) is = quiet_refused F (λ x. done_effect (with_file_at F file (with_part offset line x))) (room_for F file (offset + length line)) (λ x h. h) is
effect-quiet F p (Truncate file len) is = quiet_refused F (λ x. done_effect (with_file_at F file (file_of_length len x))) (room_for F file len) (λ x h. h) is
effect-quiet F p (Fork child) is = quiet_refused F (λ x. done_effect (with_child F p child)) (check (nat_le (reserved F + private_cells (cells_of F p)) F.slots) errno.NoSwap) (λ x h. h) is
effect-quiet F p Exit is = absurd is

-- an entry that only says that its call wasn't done
quiet_acted : (F : Flat) (p : ℕ) (call : Call) (cleared : ℕ) (r : Reply) → IsDue F (record { process = p; call = call; reply = r; cleared = cleared }) → IsNoAction r → after_act F (record { process = p; call = call; reply = r; cleared = cleared }) ≡ F
quiet_acted F p call cleared (reply.Io disk before after) due none = refl
quiet_acted F p call cleared (reply.Signal s) due none = effect-quiet F p call (subst IsNoAction (sym due) tt)
quiet_acted F p call cleared (reply.Refused e) due none = effect-quiet F p call (subst IsNoAction (sym due) tt)
quiet_acted F p call cleared r due none = absurd none

pub step-quiet : (F : Flat) (e : Entry) → IsStep F e → IsNoAction e.reply → step F e ≡ tails_cleared F (is_bit_set e.cleared)
step-quiet F e is none = quiet_acted (tails_cleared F (is_bit_set e.cleared)) e.process e.call e.cleared e.reply is.due none

pub quiet_law : Quiet
quiet_law = record { unchanged = step-quiet }
