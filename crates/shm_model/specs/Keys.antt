-- Which answer each question by a key has. Public clauses cite this.
use Rattle.std.specs.Prelude.{ℕ, ◌≡◌, ◌↔◌, ◌++◌, ◌*◌, ◌==◌, ◌||◌, nat_lt, List, [], ◌∷◌, Option}
use Rattle.std.specs.Prelude.{Some, None, MatchOption, if◌then◌else◌}
use Rattle.flat_model.specs.vm_types.Pages.{page_size, pages_in}
use Rattle.shm_model.specs.declared.acts.How.{How}
use Rattle.shm_model.specs.declared.acts.How.TheVariants.{Find, New}
use Rattle.shm_model.specs.declared.acts.ShmAct.{ShmAct}
use Rattle.shm_model.specs.declared.acts.ShmAct.TheVariants as act
use Rattle.shm_model.specs.declared.acts.ShmAnswer.{ShmAnswer}
use Rattle.shm_model.specs.declared.acts.ShmAnswer.TheVariants as answer
use Rattle.shm_model.specs.declared.acts.ShmEntry.{ShmEntry}
use Rattle.shm_model.specs.declared.acts.ShmFault.{ShmFault}
use Rattle.shm_model.specs.declared.acts.ShmFault.TheVariants as fault

-- A segment: its zero object, and its length in bytes.
pub record ShmSegment : Type 0 where
  pub object : ℕ
  pub len : ℕ

-- Which segment each key has.
abbrev pub Keys : Type 0
Keys = ℕ → Option ShmSegment

-- No key has a segment.
abbrev pub no_keys : Keys
no_keys key = None

-- One key has this now.
abbrev pub with_key : Keys → ℕ → Option ShmSegment → Keys
with_key T key now k = if k == key then now else T k

-- The bytes of as many whole pages as a length has.
abbrev pub whole_pages : ℕ → ℕ
whole_pages len = page_size * pages_in len

-- The most bytes of a segment: as many pages as a process may map.
abbrev pub most_bytes : ℕ
most_bytes = 0x10000000

-- The answer to a Get of a key that has a segment.
abbrev pub found : ShmSegment → ℕ → How → ShmAnswer
found seg len New = answer.Refused fault.Exists
found seg len how =
    if nat_lt seg.len len then answer.Refused fault.BadLength else answer.Segment seg.object seg.len

-- Why no segment is made for a Get of a key that has none; none where the kernel is asked for one.
abbrev pub refused_new : ℕ → How → Option ShmFault
refused_new len Find = Some fault.NoKey
refused_new len how = if (len == 0) || nat_lt most_bytes len then Some fault.BadLength else None

-- What comes of asking the kernel: a segment of that length, or the kernel's refusal.
abbrev pub IsMade : ℕ → ShmAnswer → Type 0
IsMade len (answer.Segment object length) = length ≡ whole_pages len
IsMade len (answer.Refused (fault.Kernel errno)) = Unit {0}
IsMade len a = ⊥

-- An Attach of a key that has this segment is answered with its object, and the reply of its Map.
abbrev pub AnswersAttach : ShmSegment → ShmAnswer → Type 0
AnswersAttach seg (answer.Attached object reply) = object ≡ seg.object
AnswersAttach seg a = ⊥

-- THE ANSWER, by which segment each key has.
abbrev pub IsShmAnswer : Keys → ShmAct → ShmAnswer → Type 0
IsShmAnswer T (act.Get key len how) a =
    MatchOption (T key)
    (MatchOption (refused_new len how) (IsMade len a) (λ why. a ≡ answer.Refused why))
    (λ seg. a ≡ found seg len how)
IsShmAnswer T (act.Attach key place prot) a =
    MatchOption (T key) (a ≡ answer.Refused fault.NoKey) (λ seg. AnswersAttach seg a)
IsShmAnswer T (act.Remove key) a =
    MatchOption (T key) (a ≡ answer.Refused fault.NoKey) (λ seg. a ≡ answer.Removed)

-- Which segment each key has after it: a Get that gives one leaves its key with that one, and a
-- Remove that is done leaves its key with none.
abbrev pub keys_after_act : Keys → ShmAct → ShmAnswer → Keys
keys_after_act T (act.Get key len how) (answer.Segment object length) =
    with_key T key (Some record { object = object; len = length })
keys_after_act T (act.Remove key) answer.Removed = with_key T key None
keys_after_act T a r = T

-- Which segment each key has after an entry.
abbrev pub keys_after_entry : Keys → ShmEntry → Keys
keys_after_entry T e = keys_after_act T e.act e.answer

-- Which segment each key has after these entries, by which it had before.
abbrev pub keys_from : Keys → List ShmEntry → Keys
keys_from T [] = T
keys_from T (e ∷ S) = keys_from (keys_after_entry T e) S

-- Which segment each key has after these entries, where no key had one.
abbrev pub keys_after : List ShmEntry → Keys
keys_after S = keys_from no_keys S

-- Each of these entries has the answer that is due at its point, by which segment each key had
-- before.
abbrev pub AreAnswered : Keys → List ShmEntry → Type 0
AreAnswered T [] = Unit {0}
AreAnswered T (e ∷ S) = IsShmAnswer T e.act e.answer × AreAnswered (keys_after_entry T e) S

-- MAP BY KEY: each answer is the one that is due at its point, from no segment on.
abbrev pub IsShmLegal : List ShmEntry → Type 0
IsShmLegal S = AreAnswered no_keys S

-- One entry more is answered exactly where it is by what the entries before left, and it leaves
-- what it leaves of that.
pub record KeyLaws : Type 0 where
  pub left : (S : List ShmEntry) (e : ShmEntry)
      → keys_after (S ++ e ∷ []) ≡ keys_after_entry (keys_after S) e
  pub more : (S : List ShmEntry) (e : ShmEntry)
      → IsShmLegal (S ++ e ∷ []) ↔ (IsShmLegal S × IsShmAnswer (keys_after S) e.act e.answer)
