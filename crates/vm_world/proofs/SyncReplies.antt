-- What a Sync answers, and that no other call answers so.
use Rattle.std.proofs.Common.{◌≡◌, ◌≢◌, ℕ, ◌+◌, ◌*◌, length, Result, Ok, Err, refl, sym, ap, ◌∙◌, subst}
use Rattle.std.specs.Prelude.{nat_le}
use Rattle.flat_model.specs.vm_types.declared.call.Call.{Call}
use Rattle.flat_model.specs.vm_types.declared.call.Call.TheVariants.{Load, Store, Map, Unmap, Protect, Sync, Read, Write, Truncate, Fork, Exit}
use Rattle.flat_model.specs.vm_types.declared.call.Entry.{Entry}
use Rattle.flat_model.specs.vm_types.declared.call.Errno.{Errno}
use Rattle.flat_model.specs.vm_types.declared.call.Errno.TheVariants as errno
use Rattle.flat_model.specs.vm_types.declared.call.Reply.{Reply}
use Rattle.flat_model.specs.vm_types.declared.call.Reply.TheVariants as reply
use Rattle.flat_model.specs.vm_types.declared.call.Reply.TheVariants.{Synced}
use Rattle.flat_model.specs.vm_types.declared.call.Signal.{Signal}
use Rattle.flat_model.specs.vm_types.Prot.{can_read, can_write}
use Rattle.flat_model.specs.Words.{page, pages_in, page_size, word_at, word_put}
use Rattle.flat_model.specs.Flat.{Flat, reserved, private_cells}
use Rattle.flat_model.specs.Access.{access_target, with_page_stored, with_space}
use Rattle.flat_model.specs.Space.{with_prots}
use Rattle.flat_model.specs.Mapping.{map_result, without_pages, is_range, valid_range, may_have, cells_of}
use Rattle.flat_model.specs.Parts.{existing_file, read_line, room_for, with_file_at, with_part, file_of_length}
use Rattle.flat_model.specs.Processes.{with_child}
use Rattle.flat_model.specs.Refusals.{◌>>◌, check, Effect, or_signal, or_refused, done_effect}
use Rattle.flat_model.specs.Step.{effect, after_act, IsDue}

-- a Sync that is done leaves flat memory
pub sync-acts : (F : Flat) (e : Entry) (addr len b : ℕ) → e.call ≡ Sync addr len → e.reply ≡ Synced b → after_act F e ≡ F
sync-acts F e addr len b c_is r_is =
    ap (λ (c : Call). after_act F (record e { call = c })) c_is ∙ ap (λ (r : Reply). after_act F (record e { call = Sync addr len; reply = r })) r_is ∙ by_range (valid_range F e.process addr len)
  where
    by_range : (r : Result (Unit {0}) Errno) → (or_refused F (λ _. record { reply = Synced 0; after = F }) r).after ≡ F
    by_range (Ok x) = refl
    by_range (Err x) = refl

-- a call that is no Sync
abbrev pub IsNoSync : Call → Type 0
IsNoSync (Sync addr len) = ⊥
IsNoSync call = Unit {0}

answers-signal : {A : Type 0} (F : Flat) (acts : A → Effect) (r : Result A Signal) → ((x : A) → (acts x).reply ≢ Synced 0) → (or_signal F acts r).reply ≢ Synced 0
answers-signal F acts (Ok x) never = never x
answers-signal F acts (Err x) never = λ is. let z : reply.Signal x ≡ Synced 0 = is in cc

answers-refused : {A : Type 0} (F : Flat) (acts : A → Effect) (r : Result A Errno) → ((x : A) → (acts x).reply ≢ Synced 0) → (or_refused F acts r).reply ≢ Synced 0
answers-refused F acts (Ok x) never = never x
answers-refused F acts (Err x) never = λ is. let z : reply.Refused x ≡ Synced 0 = is in cc

done-answers : (is : reply.Done ≡ Synced 0) → ⊥
done-answers is = cc

never-synced : (F : Flat) (p : ℕ) (call : Call) → IsNoSync call → (effect F p call).reply ≢ Synced 0
never-synced F p (Load a n) no_sync = answers-signal F (λ m. record { reply = reply.Word (word_at m.1 a n); after = F }) (access_target F p can_read a n) (λ x is. let z : reply.Word (word_at x.1 a n) ≡ Synced 0 = is in cc)
never-synced F p (Store a n v) no_sync = answers-signal F (λ m. done_effect (with_page_stored F p (page a) m.0 (word_put m.1 a n v))) (access_target F p can_write a n) (λ x. done-answers)
never-synced F p (Map place len prot kind object offset) no_sync =
    answers-refused F (λ m. record { reply = reply.Mapped (page_size * m.0); after = m.1 }) (map_result F p (record { place = place; len = len; prot = prot; kind = kind; object = object; offset = offset })) (λ x is. let z : reply.Mapped (page_size * x.0) ≡ Synced 0 = is in cc)
never-synced F p (Unmap a len) no_sync = answers-refused F (λ x. done_effect (without_pages F p (page a) (pages_in len))) (check (is_range a len) errno.Invalid) (λ x. done-answers)
never-synced F p (Protect a len prot) no_sync =
    answers-refused F (λ x. done_effect (with_space F p (with_prots (cells_of F p) (page a) (pages_in len) prot))) (valid_range F p a len >> check (may_have (cells_of F p) (page a) (pages_in len) prot) errno.Access) (λ x. done-answers)
never-synced F p (Sync a len) no_sync = absurd no_sync
never-synced F p (Read file offset len) no_sync =
    answers-refused F (λ x. record { reply = reply.Bytes (read_line x offset len); after = F }) (existing_file F file) (λ x is. let z : reply.Bytes (read_line x offset len) ≡ Synced 0 = is in cc)
never-synced F p (Write file offset line rest) no_sync = answers-refused F (λ x. done_effect (with_file_at F file (with_part offset line x))) (room_for F file (offset + length line)) (λ x. done-answers)
never-synced F p (Truncate file len) no_sync = answers-refused F (λ x. done_effect (with_file_at F file (file_of_length len x))) (room_for F file len) (λ x. done-answers)
never-synced F p (Fork child) no_sync = answers-refused F (λ x. done_effect (with_child F p child)) (check (nat_le (reserved F + private_cells (cells_of F p)) F.slots) errno.NoSwap) (λ x. done-answers)
never-synced F p Exit no_sync = done-answers

-- isn't answered so
pub no-sync : (F : Flat) (e : Entry) (call : Call) (b : ℕ) → e.call ≡ call → IsNoSync call → e.reply ≡ Synced b → IsDue F e → ⊥
no-sync F e call b c_is no_sync r_is due =
    never-synced F e.process call no_sync (ap (λ (c : Call). (effect F e.process c).reply) (sym c_is) ∙ subst (λ (r : Reply). IsDue F (record e { reply = r })) r_is due)
