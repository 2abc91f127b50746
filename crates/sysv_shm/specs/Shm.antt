-- Segments under keys, by a maker. Public clauses cite this.
use Rattle.std.specs.Prelude.{ℕ, zero, suc, ◌≡◌, ◌+◌, ◌-◌, ◌<◌, ◌≤◌, ◌^◌, ◌==◌, ◌&&◌, ◌++◌, Bool}
use Rattle.std.specs.Prelude.{true, false, List, [], ◌∷◌, length, filter, All, Option, Some, None}
use Rattle.std.specs.Prelude.{option_map, MatchOption, Result, Ok, Err, slice_index_or, slice_set}
use Rattle.std.proofs.Common.{◌∙◌}
use mathlib.Core.Option.{some}
use lib.ListN.{get_elem?}
use Rattle.shm_model.specs.flat_model.vm_types.declared.call.Entry.{Entry}
use Rattle.shm_model.specs.flat_model.vm_types.declared.call.Place.{Place}
use Rattle.shm_model.specs.flat_model.vm_types.declared.call.Reply.{Reply}
use Rattle.shm_model.specs.flat_model.vm_types.declared.prot.Prot.{Prot}
use Rattle.shm_model.specs.flat_model.Flat.{Flat}
use Rattle.shm_model.specs.declared.acts.How.{How}
use Rattle.shm_model.specs.declared.acts.ShmAct.{ShmAct}
use Rattle.shm_model.specs.declared.acts.ShmAct.TheVariants as act
use Rattle.shm_model.specs.declared.acts.ShmAnswer.{ShmAnswer}
use Rattle.shm_model.specs.declared.acts.ShmAnswer.TheVariants as answer
use Rattle.shm_model.specs.declared.acts.ShmEntry.{ShmEntry}
use Rattle.shm_model.specs.declared.acts.ShmFault.{ShmFault}
use Rattle.shm_model.specs.declared.acts.ShmFault.TheVariants as fault
use Rattle.shm_model.specs.Keys.{ShmSegment, keys_after, IsShmLegal, IsShmAnswer, found}
use Rattle.shm_model.specs.Keys.{refused_new}
use Rattle.shm_model.specs.Tied.{Places, Tied, attach_call}
use Rattle.sysv_shm.specs.declared.maker.Made.{Made}
use Rattle.sysv_shm.specs.declared.shm.FoundSegment.{FoundSegment}
use Rattle.sysv_shm.specs.Makers.{IsSameMaker, same-then, MakerSeen, UserSeen, MakesSegment}
use Rattle.sysv_shm.specs.Makers.{UnmakesSegment, AttachesSegment, segment_of}
use Rattle.sysv_shm.specs.Slots.{SlotsSeen, kept_at, with_slot}

-- What contracts see of segments under keys: the maker, what is kept for each key, the questions
-- that were answered, and at place p - 1 the most Gets and Removes that process p may ask.
pub record ShmSeen (M : Type 0) : Type 0 where
  pub maker : M
  pub slots : SlotsSeen
  pub entries : List ShmEntry
  pub lines : List ℕ

-- Nothing was asked yet: no key has a segment.
pub record IsUnasked {M : Type 0} (maker : M) (lines : List ℕ) (s : ShmSeen M) : Type 0 where
  pub maker_is : s.maker ≡ maker
  pub none : s.slots ≡ []
  pub entries : s.entries ≡ []
  pub lines_are : s.lines ≡ lines

-- A Get or a Remove, for which the keeper may have to make an entry.
abbrev pub is_spent : ShmAct → Bool
is_spent (act.Get key len how) = true
is_spent (act.Remove key) = true
is_spent (act.Attach key place prot) = false

-- How many Gets and Removes a process asked.
abbrev pub spent_by : ℕ → List ShmEntry → ℕ
spent_by p S = length (filter (λ e. (e.process == p) && is_spent e.act) S)

-- The most that a process may ask.
abbrev pub line_room : List ℕ → ℕ → ℕ
line_room lines zero = 0
line_room lines (suc p) = slice_index_or lines p 0

-- How many more the processes from p on may ask.
abbrev pub questions_left_from : ℕ → List ℕ → List ShmEntry → ℕ
questions_left_from p [] S = 0
questions_left_from p (most ∷ lines) S = (most - spent_by p S) + questions_left_from (suc p) lines S

-- How many more all processes may ask.
abbrev pub questions_left : List ℕ → List ShmEntry → ℕ
questions_left lines S = questions_left_from 1 lines S

-- The seat that asks for a process.
abbrev pub shm_seat : ShmEntry → ℕ
shm_seat e = elim e.process [ zero ↦ 2 ^ 32 | suc p ↦ p ]

-- The keeper maps each segment where its slot says.
abbrev pub AreAt : SlotsSeen → Places → Type 0
AreAt slots at = (key : ℕ) (made : Made) → kept_at slots key ≡ Some made → at key ≡ made.addr

-- One question more was answered as is due.
pub record AddsAnswer {M : Type 0} (s t : ShmSeen M) (p : ℕ) (a : ShmAct) (r : ShmAnswer) : Type 0
  where
    pub entries : t.entries ≡ s.entries ++ record { process = p; act = a; answer = r } ∷ []
    pub due : IsShmAnswer (keys_after s.entries) a r

-- What a Get answers by what it found.
abbrev pub found_answer : Result FoundSegment ShmFault → ShmAnswer
found_answer (Ok f) = answer.Segment f.object f.length
found_answer (Err why) = answer.Refused why

-- What a Get answers, where this is told of it.
abbrev pub length_answer : ℕ → Result ℕ ShmFault → ShmAnswer
length_answer object (Ok length) = answer.Segment object length
length_answer object (Err why) = answer.Refused why

-- One Get more was answered as is due, and what it told.
abbrev pub AnswersGet : {M : Type 0} → ShmSeen M → ShmSeen M → ℕ → ℕ → ℕ → How → Result ℕ ShmFault
    → Type 0
AnswersGet s t p key len how r = (object : ℕ)
    × AddsAnswer s t p (act.Get key len how) (length_answer object r)

-- What a Remove answers, where this is told of it.
abbrev pub removed_answer : Result (Unit {0}) ShmFault → ShmAnswer
removed_answer (Ok done) = answer.Removed
removed_answer (Err why) = answer.Refused why

-- What an Attach told of its user, by the key's segment: it made one entry, which maps all of the
-- segment, with this reply; or none, where the key has none.
abbrev pub AttachTold : Option ShmSegment → Place → Prot → UserSeen → UserSeen
    → Result Reply ShmFault → Type 0
AttachTold T place prot user later (Ok reply) =
    (seg : ShmSegment) × (T ≡ Some seg)
    × (x : Entry) × (x.process ≡ user.process) × (x.call ≡ attach_call place prot seg)
    × (x.reply ≡ reply)
    × (later.process ≡ user.process) × (later.own ≡ user.own ++ x ∷ [])
    × (later.room + 1 ≡ user.room)
AttachTold T place prot user later (Err why) = later ≡ user

-- What an Attach answers, where this is told of it.
abbrev pub attach_answer : ℕ → Result Reply ShmFault → ShmAnswer
attach_answer object (Ok reply) = answer.Attached object reply
attach_answer object (Err why) = answer.Refused why

-- One Attach more was answered as is due.
pub record AnswersAttachment {M : Type 0} (s t : ShmSeen M) (user later : UserSeen) (p key : ℕ)
    (place : Place) (prot : Prot) (r : Result Reply ShmFault) : Type 0 where
  pub object : ℕ
  pub asks : AddsAnswer s t p (act.Attach key place prot) (attach_answer object r)
  pub told : AttachTold (keys_after s.entries key) place prot user later r

module _ {M : Type 0} (look : M → MakerSeen) (starts : M → Flat → Type 0) where
  -- WHAT ALWAYS HOLDS: the answers are those of their points, each slot has its key's segment,
  -- answers and history are tied from whichever flat memory it began, the keeper may make an entry
  -- for each question that is left, and it is none of those who ask.
  pub record IsShm (maker : M) (slots : SlotsSeen) (entries : List ShmEntry) (lines : List ℕ) : Type
      0 where
    pub legal : IsShmLegal entries
    pub table : (key : ℕ) → option_map segment_of (kept_at slots key) ≡ keys_after entries key
    pub tied : (F : Flat) → starts maker F → (at : Places)
        × Tied (look maker).keeper F entries (look maker).seen at × AreAt slots at
    pub room : questions_left lines entries ≤ (look maker).room
    pub apart : length lines < (look maker).keeper

  -- Nothing was asked of the kernel.
  pub record Unasked (old new : M) (slots then : SlotsSeen) : Type 0 where
    pub maker : new ≡ old
    pub slots_same : then ≡ slots

  -- A new segment was asked for: it is made and kept, or the kernel refused it.
  abbrev pub AskedNew : M → M → SlotsSeen → SlotsSeen → ℕ → ℕ → ShmAnswer → Type 0
  AskedNew old new slots then key len (answer.Segment z l) =
      (made : Made) × MakesSegment (starts old) (look old) (look new) len (Ok made)
      × (z ≡ made.object) × (l ≡ made.length)
      × ((k : ℕ) → kept_at then k ≡ with_slot slots key (Some made) k)
  AskedNew old new slots then key len (answer.Refused (fault.Kernel errno)) =
      MakesSegment (starts old) (look old) (look new) len (Err errno) × (then ≡ slots)
  AskedNew old new slots then key len a = ⊥

  -- What a Get is answered, and what it leaves.
  abbrev pub Gets : M → M → SlotsSeen → SlotsSeen → ℕ → ℕ → How → ShmAnswer → Type 0
  Gets old new slots then key len how a =
      MatchOption (kept_at slots key)
      (MatchOption (refused_new len how) (AskedNew old new slots then key len a)
      (λ why. (a ≡ answer.Refused why) × Unasked old new slots then))
      (λ made. (a ≡ found (segment_of made) len how) × Unasked old new slots then)

  -- What a Remove is answered, and what it leaves.
  abbrev pub Removes : M → M → SlotsSeen → SlotsSeen → ℕ → ShmAnswer → Type 0
  Removes old new slots then key a =
      MatchOption (kept_at slots key)
      ((a ≡ answer.Refused fault.NoKey) × Unasked old new slots then)
      (λ made. (a ≡ answer.Removed) × UnmakesSegment (look old) (look new) made
      × ((k : ℕ) → kept_at then k ≡ with_slot slots key None k))

  -- What an Attach of a user is answered.
  abbrev pub AttachesKey : M → M → UserSeen → UserSeen → SlotsSeen → ℕ → Place → Prot → ShmAnswer
      → Type 0
  AttachesKey old new user then slots key place prot a =
      MatchOption (kept_at slots key)
      ((a ≡ answer.Refused fault.NoKey) × (new ≡ old) × (then ≡ user))
      (λ made. (r : Reply) × (a ≡ answer.Attached made.object r)
      × AttachesSegment (look old) (look new) user then made place prot r)

module _ {M K U : Type 0} (look : M → MakerSeen) (starts : M → Flat → Type 0)
    (is_on : M → K → Type 0) (may_attach : M → U → Type 0) where
  -- What questions leave as it was.
  pub record KeepsShm (s t : ShmSeen M) : Type 0 where
    pub maker : IsSameMaker look starts is_on may_attach s.maker t.maker
    pub lines : t.lines ≡ s.lines

  -- What the lock keeps: what questions leave as it was, from the opening on; and each answer is
  -- that of a seat.
  pub record FitsShm (opening s : ShmSeen M) (notes : List (Option (Unit {0}))) : Type 0 where
    pub keeps : KeepsShm opening s
    pub seated : All (λ (e : ShmEntry). shm_seat e < length notes) s.entries

  -- What one seat may do between entering and leaving: it adds answers of its own process.
  pub record MovesShm (k : ℕ) (s : ShmSeen M) (n : Option (Unit {0})) (t : ShmSeen M)
      (m : Option (Unit {0})) : Type 0 where
    pub keeps : KeepsShm s t
    pub added : List ShmEntry
    pub longer : t.entries ≡ s.entries ++ added
    pub by : All (λ (e : ShmEntry). shm_seat e ≡ k) added
