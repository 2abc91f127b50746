-- What a judge's tests say, and a judge that takes an entry more.
use Rattle.std.proofs.Common.{◌≡◌, ℕ, ◌≤◌, ◌+◌, ◌==◌, Bool, true, false, List, [], ◌∷◌, ◌++◌, length, Option, Some, None, refl, sym, subst, ap, ◌∙◌, arith}
use Rattle.std.specs.Prelude.{IsTrue, unwrap_or, is_some, MatchOption, if◌then◌else◌, ◌↔◌}
use Rattle.std.specs.BTreeMap.{get}
use Rattle.std.specs.Ordering.{nat_cmp}
use Rattle.std.proofs.lemmas.Bool.{false≢true}
use Rattle.flat_model.specs.vm_types.declared.call.Call.{Call}
use Rattle.flat_model.specs.vm_types.declared.call.Call.TheVariants as call
use Rattle.flat_model.specs.vm_types.declared.call.Reply.{Reply}
use Rattle.flat_model.specs.vm_types.declared.call.Reply.TheVariants as reply
use Rattle.flat_model.specs.vm_types.declared.call.Entry.{Entry}
use Rattle.flat_model.specs.vm_types.Parts.{file_of_call, part_file}
use Rattle.flat_model.specs.Births.{is_birth, is_done, is_fork_of}
use Rattle.flat_model.specs.Flat.{Flat}
use Rattle.flat_model.specs.History.{IsStart, IsSyncStart}
use Rattle.flat_model.proofs.Starts.{sync_starts_law}
use Rattle.flat_model.specs.HistoryLaws.{IsNext, IsNextPart, open_after}
use Rattle.flat_model.specs.Step.{IsStep, step}
use Rattle.flat_model.specs.SyncLaws.{is_in_life}
use Rattle.trace_check.specs.declared.judge.Judge.{Judge}
use Rattle.trace_check.specs.Judging.{HasTaken, HasJudged}
use Rattle.trace_check.specs.Verdicts.{IsFirstIllegal}
use Rattle.trace_check.proofs.Seen.{first_found, seen_more}

-- a call that is no Truncate is of the file of which it is a part
pub file_of_part : (c : Call) → ((file len : ℕ) → c ≡ call.Truncate file len → ⊥) → part_file c ≡ file_of_call c
file_of_part (call.Read file offset len) not = refl
file_of_part (call.Write file offset line rest) not = refl
file_of_part (call.Truncate file len) not = absurd (not file len refl)
file_of_part (call.Load addr size) not = refl
file_of_part (call.Store addr size value) not = refl
file_of_part (call.Map place len prot kind object offset) not = refl
file_of_part (call.Unmap addr len) not = refl
file_of_part (call.Protect addr len prot) not = refl
file_of_part (call.Sync addr len) not = refl
file_of_part (call.Fork child) not = refl
file_of_part call.Exit not = refl

-- whose birth an entry is
no_fork : (p : ℕ) (c : Call) → ((child : ℕ) → c ≡ call.Fork child → ⊥) → is_fork_of p c ≡ false
no_fork p (call.Fork child) not = absurd (not child refl)
no_fork p (call.Read file offset len) not = refl
no_fork p (call.Write file offset line rest) not = refl
no_fork p (call.Truncate file len) not = refl
no_fork p (call.Load addr size) not = refl
no_fork p (call.Store addr size value) not = refl
no_fork p (call.Map place len prot kind object offset) not = refl
no_fork p (call.Unmap addr len) not = refl
no_fork p (call.Protect addr len prot) not = refl
no_fork p (call.Sync addr len) not = refl
no_fork p call.Exit not = refl

either_way : (b t : Bool) → t ≡ false → (if b then t else false) ≡ false
either_way true t is = is
either_way false t is = refl

pub no_birth_by_call : (p : ℕ) (e : Entry) → ((child : ℕ) → e.call ≡ call.Fork child → ⊥) → is_birth p e ≡ false
no_birth_by_call p e not = either_way (is_done e.reply) (is_fork_of p e.call) (no_fork p e.call not)

not_done : (r : Reply) → (r ≡ reply.Done → ⊥) → is_done r ≡ false
not_done reply.Done not = absurd (not refl)
not_done (reply.Word v) not = refl
not_done (reply.Mapped a) not = refl
not_done (reply.Bytes line) not = refl
not_done (reply.Synced from) not = refl
not_done (reply.Signal s) not = refl
not_done (reply.Refused e) not = refl
not_done (reply.Io disk before after) not = refl

pub no_birth_by_reply : (p : ℕ) (e : Entry) → (e.reply ≡ reply.Done → ⊥) → is_birth p e ≡ false
no_birth_by_reply p e not = ap (λ b. if b then is_fork_of p e.call else false) (not_done e.reply not)

pub birth_of : (p child : ℕ) (e : Entry) → e.call ≡ call.Fork child → e.reply ≡ reply.Done → is_birth p e ≡ (child == p)
birth_of p child e is done = ap (λ (r : Reply). if is_done r then is_fork_of p e.call else false) done ∙ ap (λ (c : Call). is_fork_of p c) is

-- where a Sync may begin
abbrev StartsBy : List Entry → ℕ → ℕ → Reply → Type 0
StartsBy H k p (reply.Synced b) = IsStart H k p b
StartsBy H k p r = Unit {0}

starts_by : (H : List Entry) (k p : ℕ) (r : Reply) → ((b : ℕ) → r ≡ reply.Synced b → ⊥) → StartsBy H k p r
starts_by H k p (reply.Synced b) not = absurd (not b refl)
starts_by H k p reply.Done not = tt
starts_by H k p (reply.Word v) not = tt
starts_by H k p (reply.Mapped a) not = tt
starts_by H k p (reply.Bytes line) not = tt
starts_by H k p (reply.Signal s) not = tt
starts_by H k p (reply.Refused e) not = tt
starts_by H k p (reply.Io disk before after) not = tt

pub no_sync_start : (H : List Entry) (e : Entry) → ((b : ℕ) → e.reply ≡ reply.Synced b → ⊥) → IsSyncStart H (length H) e
no_sync_start H e not = starts_by H (length H) e.process e.reply not

pub sync_start : (F : Flat) (H : List Entry) (e : Entry) (judge : Judge) (from first : ℕ) (b : Bool) → HasTaken F H judge → e.reply ≡ reply.Synced from
    → first ≡ unwrap_or (get nat_cmp judge.starts e.process) 0 → IsTrue b ↔ ((first ≤ from) × (from ≤ judge.count)) → IsTrue b ↔ IsSyncStart H (length H) e
sync_start F H e judge from first b h is at tests =
    let law = sync_starts_law.between H e.process from in
    let least = at ∙ h.starts e.process in
    let size = h.count in
    let begins : IsTrue b ↔ IsStart H (length H) e.process from = (
      λ yes. (let both = tests.0 yes in let low = both.0 in let high = both.1 in law.1 (omega (arith, low, least), omega (arith, high, size))),
      λ start. (let both = law.0 start in let low = both.0 in let high = both.1 in tests.1 (omega (arith, low, least), omega (arith, high, size))),
    ) in
    subst (λ (r : Reply). IsTrue b ↔ StartsBy H (length H) e.process r) (sym is) begins

-- whether an entry may come
pub next_is : (F : Flat) (H : List Entry) (e : Entry) (judge : Judge) (b : Bool) → HasTaken F H judge → IsSyncStart H (length H) e → IsNextPart H e
    → IsTrue b ↔ IsStep judge.flat e → IsTrue b ↔ IsNext F H e
next_is F H e judge b h sync part tests = (
  λ yes. record { step = subst (λ (G : Flat). IsStep G e) h.flat (tests.0 yes); sync = sync; part = part },
  λ next. tests.1 (subst (λ (G : Flat). IsStep G e) (sym h.flat) next.step),
)

-- the verdict so far
taken_at : (o : Option ℕ) (P : Type 0) (Q : ℕ → Type 0) → is_some o ≡ false → MatchOption o P Q → P
taken_at None P Q none h = h
taken_at (Some k) P Q none h = absurd (false≢true (sym none))

pub has_taken : (F : Flat) (H : List Entry) (judge : Judge) → is_some judge.first ≡ false → HasJudged F H judge → HasTaken F H judge
has_taken F H judge none h = taken_at judge.first (HasTaken F H judge) (IsFirstIllegal F H) none h

judged_at : (o : Option ℕ) (P : Type 0) (Q : ℕ → Type 0) → is_some o ≡ false → P → MatchOption o P Q
judged_at None P Q none h = h
judged_at (Some k) P Q none h = absurd (false≢true (sym none))

pub judged_more : (F : Flat) (H : List Entry) (e : Entry) (old new : Judge) → HasTaken F H old → IsNext F H e → is_some new.first ≡ false
    → new.flat ≡ step old.flat e → new.count ≡ old.count + 1
    → ((f : ℕ) → get nat_cmp new.holders f ≡ open_after f (get nat_cmp old.holders f) e)
    → ((p : ℕ) → unwrap_or (get nat_cmp new.starts p) 0 ≡ (if is_in_life p e then old.count + 1 else unwrap_or (get nat_cmp old.starts p) 0))
    → HasJudged F (H ++ e ∷ []) new
judged_more F H e old new h next none flat count holders starts =
    judged_at new.first (HasTaken F (H ++ e ∷ []) new) (IsFirstIllegal F (H ++ e ∷ [])) none (seen_more F H e old new h next flat count holders starts)

pub found_at : (F : Flat) (H : List Entry) (e : Entry) (judge : Judge) (k : ℕ) (b : Bool) → HasTaken F H judge → IsTrue b ↔ IsNext F H e → b ≡ false → k ≡ judge.count
    → IsFirstIllegal F (H ++ e ∷ []) k
found_at F H e judge k b h tests is here =
    let illegal = first_found F H e h.legal (λ next. false≢true (sym is ∙ tests.1 next)) in
    subst (λ (n : ℕ). IsFirstIllegal F (H ++ e ∷ []) n) (sym (here ∙ h.count)) illegal
