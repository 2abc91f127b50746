-- How the answers by key and the kernel's history belong together. Public clauses cite this.
use Rattle.std.specs.Prelude.{ℕ, ◌≡◌, ◌+◌, ◌<◌, ◌==◌, ◌++◌, Bool, true, false, List, [], ◌∷◌}
use Rattle.std.specs.Prelude.{Option, Some, None, option_map, IsSomeAnd, if◌then◌else◌}
use Rattle.flat_model.specs.vm_types.declared.call.Call.{Call}
use Rattle.flat_model.specs.vm_types.declared.call.Call.TheVariants.{Map, Unmap}
use Rattle.flat_model.specs.vm_types.declared.call.Entry.{Entry}
use Rattle.flat_model.specs.vm_types.declared.call.Kind.TheVariants.{Shared}
use Rattle.flat_model.specs.vm_types.declared.call.Object.TheVariants as object
use Rattle.flat_model.specs.vm_types.declared.call.Place.{Place}
use Rattle.flat_model.specs.vm_types.declared.call.Place.TheVariants.{Any}
use Rattle.flat_model.specs.vm_types.declared.call.Reply.{Reply}
use Rattle.flat_model.specs.vm_types.declared.call.Reply.TheVariants as reply
use Rattle.flat_model.specs.vm_types.declared.prot.Prot.{Prot}
use Rattle.flat_model.specs.vm_types.Pages.{page, pages_in}
use Rattle.flat_model.specs.Flat.{Flat, cell_at}
use Rattle.flat_model.specs.History.{replay}
use Rattle.flat_model.specs.Step.{step}
use Rattle.shm_model.specs.declared.acts.ShmAct.{ShmAct}
use Rattle.shm_model.specs.declared.acts.ShmAct.TheVariants as act
use Rattle.shm_model.specs.declared.acts.ShmAnswer.{ShmAnswer}
use Rattle.shm_model.specs.declared.acts.ShmAnswer.TheVariants as answer
use Rattle.shm_model.specs.declared.acts.ShmEntry.{ShmEntry}
use Rattle.shm_model.specs.declared.acts.ShmFault.TheVariants as fault
use Rattle.shm_model.specs.Keys.{ShmSegment, Keys, keys_after}

-- Neither loads nor stores.
abbrev pub no_access : Prot
no_access = record { 0 = 0 }

-- The call by which the keeper makes a segment: new zeros at the lowest gap, which it may not
-- touch.
abbrev pub make_call : ℕ → Call
make_call len = Map Any len no_access Shared object.NewZero 0

-- The call that attaches a segment: all of it.
abbrev pub attach_call : Place → Prot → ShmSegment → Call
attach_call place prot seg = Map place seg.len prot Shared (object.Zero seg.object) 0

-- Where the keeper maps each key's segment.
abbrev pub Places : Type 0
Places = ℕ → ℕ

-- The answer came from the kernel.
abbrev pub is_from_kernel : ShmAnswer → Bool
is_from_kernel (answer.Segment object length) = true
is_from_kernel (answer.Refused (fault.Kernel errno)) = true
is_from_kernel a = false

-- A process and the call that it makes.
pub record ProcessCall : Type 0 where
  pub process : ℕ
  pub call : Call

-- The call of a Get: the keeper makes a segment where the key has none, and the answer came from
-- the kernel.
abbrev pub asked_anew : ℕ → Option ShmSegment → ℕ → ShmAnswer → Option ProcessCall
asked_anew keeper None len a =
    if is_from_kernel a then Some record { process = keeper; call = make_call len } else None
asked_anew keeper (Some seg) len a = None

-- The call that a question by a key makes, and who makes it; none where the key alone answers: the
-- keeper maps each new segment, and unmaps it as its key goes; an Attach is its process's own.
abbrev pub asked_by : ℕ → Keys → Places → ℕ → ShmAct → ShmAnswer → Option ProcessCall
asked_by keeper T at p (act.Get key len how) a = asked_anew keeper (T key) len a
asked_by keeper T at p (act.Attach key place prot) a =
    option_map (λ seg. record { process = p; call = attach_call place prot seg }) (T key)
asked_by keeper T at p (act.Remove key) a =
    option_map (λ seg. record { process = keeper; call = Unmap (at key) seg.len }) (T key)

-- Each of n pages of a process from one on has a cell that names the zero object.
abbrev pub NameObject : Flat → ℕ → ℕ → ℕ → ℕ → Type 0
NameObject G p first n z = (i : ℕ) → i < n
    → IsSomeAnd (cell_at G p (first + i)) (λ c. c.object ≡ object.Zero z)

-- The answer says of the call's entry what its reply is, and of a new segment that the keeper's
-- cells name its object then, where flat memory was F.
abbrev pub Answers : Flat → ℕ → Entry → ShmAnswer → Type 0
Answers F keeper x (answer.Segment object length) = (a : ℕ) × (x.reply ≡ reply.Mapped a)
    × NameObject (step F x) keeper (page a) (pages_in length) object
Answers F keeper x (answer.Refused (fault.Kernel errno)) = x.reply ≡ reply.Refused errno
Answers F keeper x (answer.Refused why) = ⊥
Answers F keeper x (answer.Attached object own) = x.reply ≡ own
Answers F keeper x answer.Removed = Unit {0}

-- Where the keeper maps each key's segment after a call.
abbrev pub places_after : Places → ShmAct → Reply → Places
places_after at (act.Get key len how) (reply.Mapped a) k = if k == key then a else at k
places_after at act r k = at k

-- TIED: the answers S and the history H were made side by side from flat memory F on. An entry that
-- isn't the keeper's stands in H by itself, but that of an Attach, and an answer that the keys
-- alone give stands in S by itself. Each other answer stands beside its call's entry in H: so the
-- keeper's entries are those of S, in their order, and an Attach stands between its segment's Map
-- and Unmap.
pub data Tied (keeper : ℕ) (F : Flat) : List ShmEntry → List Entry → Places → Type 0 where
  opened : (at : Places) → Tied keeper F [] [] at
  beside : (S : List ShmEntry) (H : List Entry) (at : Places) (x : Entry)
      → Tied keeper F S H at → (x.process ≡ keeper → ⊥) → Tied keeper F S (H ++ x ∷ []) at
  answered : (S : List ShmEntry) (H : List Entry) (at : Places) (e : ShmEntry)
      → Tied keeper F S H at → asked_by keeper (keys_after S) at e.process e.act e.answer ≡ None
      → Tied keeper F (S ++ e ∷ []) H at
  asked : (S : List ShmEntry) (H : List Entry) (at : Places) (e : ShmEntry) (x : Entry)
      → Tied keeper F S H at → (e.process ≡ keeper → ⊥)
      → asked_by keeper (keys_after S) at e.process e.act e.answer
      ≡ Some record { process = x.process; call = x.call }
      → Answers (replay F H) keeper x e.answer
      → Tied keeper F (S ++ e ∷ []) (H ++ x ∷ []) (places_after at e.act x.reply)

-- Answers and history are tied, wherever the keeper maps each segment.
abbrev pub AreTied : ℕ → Flat → List ShmEntry → List Entry → Type 0
AreTied keeper F S H = (at : Places) × Tied keeper F S H at
