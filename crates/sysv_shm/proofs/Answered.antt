-- What a question comes to, and what of it is told.
use Rattle.std.proofs.Common.{◌≡◌, ℕ, List, [], ◌∷◌, ◌++◌, Result, Ok, Err}
use Rattle.shm_model.specs.flat_model.Flat.{Flat}
use Rattle.shm_model.specs.declared.acts.How.{How}
use Rattle.shm_model.specs.declared.acts.ShmAct.{ShmAct}
use Rattle.shm_model.specs.declared.acts.ShmAct.TheVariants as act
use Rattle.shm_model.specs.declared.acts.ShmAnswer.{ShmAnswer}
use Rattle.shm_model.specs.declared.acts.ShmEntry.{ShmEntry}
use Rattle.shm_model.specs.declared.acts.ShmFault.{ShmFault}
use Rattle.shm_model.specs.Keys.{keys_after, IsShmAnswer}
use Rattle.sysv_shm.specs.declared.shm.FoundSegment.{FoundSegment}
use Rattle.sysv_shm.specs.Makers.{MakerSeen}
use Rattle.sysv_shm.specs.Slots.{SlotsSeen}
use Rattle.sysv_shm.specs.Shm.{AddsAnswer, AnswersGet, IsShm, ShmSeen, found_answer}

-- A question was answered as is due, and what always holds holds still.
pub record Keeps {M : Type 0} (look : M → MakerSeen) (starts : M → Flat → Type 0) (maker : M)
    (slots : SlotsSeen) (S : List ShmEntry) (lines : List ℕ) (p : ℕ) (a : ShmAct) (r : ShmAnswer)
    (then : List ShmEntry) : Type 0 where
  pub entries : then ≡ S ++ record { process = p; act = a; answer = r } ∷ []
  pub due : IsShmAnswer (keys_after S) a r
  pub always : IsShm look starts maker slots then lines

-- what is told of a segment that was found
abbrev pub length_told : Result FoundSegment ShmFault → Result ℕ ShmFault
length_told (Ok f) = Ok f.length
length_told (Err why) = Err why

-- what was found is told
pub got-told : {M : Type 0} (s t : ShmSeen M) (p key len : ℕ) (h : How)
    (got : Result FoundSegment ShmFault)
    → AddsAnswer s t p (act.Get key len h) (found_answer got)
    → AnswersGet s t p key len h (length_told got)
got-told s t p key len h (Ok f) adds = (f.object, adds)
got-told s t p key len h (Err why) adds = (0, adds)
