-- What contracts see of who maps the segments, and what its calls come to. Public clauses cite
-- this.
use Rattle.std.proofs.Common.{◌∙◌}
use Rattle.std.specs.Prelude.{ℕ, ◌≡◌, ◌↔◌, ◌+◌, ◌++◌, List, [], ◌∷◌, Result, Ok, Err}
use Rattle.shm_model.specs.flat_model.vm_types.declared.call.Call.TheVariants.{Unmap}
use Rattle.shm_model.specs.flat_model.vm_types.declared.call.Entry.{Entry}
use Rattle.shm_model.specs.flat_model.vm_types.declared.call.Errno.{Errno}
use Rattle.shm_model.specs.flat_model.vm_types.declared.call.Place.{Place}
use Rattle.shm_model.specs.flat_model.vm_types.declared.call.Reply.{Reply}
use Rattle.shm_model.specs.flat_model.vm_types.declared.call.Reply.TheVariants as reply
use Rattle.shm_model.specs.flat_model.vm_types.declared.prot.Prot.{Prot}
use Rattle.shm_model.specs.flat_model.vm_types.Pages.{page, pages_in}
use Rattle.shm_model.specs.flat_model.Flat.{Flat}
use Rattle.shm_model.specs.flat_model.History.{replay}
use Rattle.shm_model.specs.flat_model.Step.{step}
use Rattle.shm_model.specs.flat_model.Told.{entries_of}
use Rattle.shm_model.specs.Keys.{ShmSegment, whole_pages}
use Rattle.shm_model.specs.Tied.{NameObject, make_call, attach_call}
use Rattle.sysv_shm.specs.declared.maker.Made.{Made}

-- The keeper's process, the history that was seen, and how many entries the keeper may still make.
pub record MakerSeen : Type 0 where
  pub keeper : ℕ
  pub seen : List Entry
  pub room : ℕ

-- Two histories began from the same flat memories.
abbrev pub SameStarts : (Flat → Type 0) → (Flat → Type 0) → Type 0
SameStarts one two = (F : Flat) → one F ↔ two F

-- A user: its process, the entries that it made, and how many more it may make.
pub record UserSeen : Type 0 where
  pub process : ℕ
  pub own : List Entry
  pub room : ℕ

-- The segment that is mapped so.
abbrev pub segment_of : Made → ShmSegment
segment_of made = record { object = made.object; len = made.length }

-- Entries of others were seen.
pub record SeesOthers (old new : MakerSeen) : Type 0 where
  pub keeper : new.keeper ≡ old.keeper
  pub room : new.room ≡ old.room
  pub more : List Entry
  pub none : entries_of more old.keeper ≡ []
  pub seen : new.seen ≡ old.seen ++ more

-- One entry was seen with entries of others before and behind it. The keeper may make so many
-- entries fewer.
pub record SeesEntry (old new : MakerSeen) (spent : ℕ) (x : Entry) : Type 0 where
  pub keeper : new.keeper ≡ old.keeper
  pub room : new.room + spent ≡ old.room
  pub before : List Entry
  pub after : List Entry
  pub none_before : entries_of before old.keeper ≡ []
  pub none_after : entries_of after old.keeper ≡ []
  pub seen : new.seen ≡ ((old.seen ++ before) ++ x ∷ []) ++ after

-- What the keeper's Map behind a history comes to: the refusal; or the segment, whose cells name
-- its object then, from whichever flat memory the history began.
abbrev pub AnswersMake : (Flat → Type 0) → ℕ → List Entry → ℕ → Entry → Result Made Errno → Type 0
AnswersMake starts keeper H len x (Ok made) =
    (x.reply ≡ reply.Mapped made.addr) × (made.length ≡ whole_pages len)
    × ((F : Flat) → starts F
    → NameObject (step (replay F H) x) keeper (page made.addr) (pages_in made.length)
    made.object)
AnswersMake starts keeper H len x (Err errno) = x.reply ≡ reply.Refused errno

-- The keeper made one entry more, which maps new zeros of this length.
pub record MakesSegment (starts : Flat → Type 0) (old new : MakerSeen) (len : ℕ)
    (result : Result Made Errno) : Type 0 where
  pub x : Entry
  pub one : SeesEntry old new 1 x
  pub process : x.process ≡ old.keeper
  pub call : x.call ≡ make_call len
  pub answers : AnswersMake starts old.keeper (old.seen ++ one.before) len x result

-- The keeper made one entry more, which unmaps the segment.
pub record UnmakesSegment (old new : MakerSeen) (made : Made) : Type 0 where
  pub x : Entry
  pub one : SeesEntry old new 1 x
  pub process : x.process ≡ old.keeper
  pub call : x.call ≡ Unmap made.addr made.length

-- The user made one entry more, which maps all of the segment; no entry of the keeper stands
-- between it and those that the keeper had made.
pub record AttachesSegment (old new : MakerSeen) (user then : UserSeen) (made : Made)
    (place : Place) (prot : Prot) (r : Reply) : Type 0 where
  pub x : Entry
  pub one : SeesEntry old new 0 x
  pub process : x.process ≡ user.process
  pub call : x.call ≡ attach_call place prot (segment_of made)
  pub is_reply : x.reply ≡ r
  pub same : then.process ≡ user.process
  pub own : then.own ≡ user.own ++ x ∷ []
  pub room : then.room + 1 ≡ user.room

-- The maker is of the same keeper, on the same kernel, for the same users, and the history began
-- where it did.
pub record IsSameMaker {M K U : Type 0} (look : M → MakerSeen) (starts : M → Flat → Type 0)
    (is_on : M → K → Type 0) (may_attach : M → U → Type 0) (old new : M) : Type 0 where
  pub keeper : (look new).keeper ≡ (look old).keeper
  pub starts_same : SameStarts (starts old) (starts new)
  pub on : (k : K) → is_on old k → is_on new k
  pub may : (u : U) → may_attach old u → may_attach new u

-- The maker is the same two calls on.
pub same-then : {M K U : Type 0} (look : M → MakerSeen) (starts : M → Flat → Type 0)
    (is_on : M → K → Type 0) (may_attach : M → U → Type 0) (a b c : M)
    → IsSameMaker look starts is_on may_attach a b → IsSameMaker look starts is_on may_attach b c
    → IsSameMaker look starts is_on may_attach a c
same-then look starts is_on may_attach a b c one two = record {
  keeper = two.keeper ∙ one.keeper;
  starts_same = λ F. (
    λ start. (two.starts_same F).0 ((one.starts_same F).0 start),
    λ start.
        (one.starts_same F).1 ((two.starts_same F).1 start),
  );
  on = λ k is. two.on k (one.on k is);
  may = λ u is. two.may u (one.may u is);
}
