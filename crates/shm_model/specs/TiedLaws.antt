-- What follows where answers and history are tied. Public clauses cite this.
use Rattle.std.specs.Prelude.{ℕ, ◌≡◌, ◌≤◌, ◌++◌, List, [], Some, IsSome, IsTrue}
use Rattle.std.specs.FinMap as map
use Rattle.std.specs.FinSet as set
use Rattle.std.specs.List.{AllByRecursion}
use Rattle.flat_model.specs.vm_types.declared.call.Entry.{Entry}
use Rattle.flat_model.specs.vm_types.declared.call.Errno.TheVariants.{NoObject}
use Rattle.flat_model.specs.vm_types.declared.call.Reply.TheVariants as reply
use Rattle.flat_model.specs.vm_types.Pages.{page, pages_in}
use Rattle.flat_model.specs.Flat.{Flat}
use Rattle.flat_model.specs.History.{replay, Steps}
use Rattle.flat_model.specs.ReachedLaws.{IsReached}
use Rattle.flat_model.specs.Told.{entries_of}
use Rattle.shm_model.specs.declared.acts.ShmAnswer.{ShmAnswer}
use Rattle.shm_model.specs.declared.acts.ShmAnswer.TheVariants as answer
use Rattle.shm_model.specs.declared.acts.ShmEntry.{ShmEntry}
use Rattle.shm_model.specs.Keys.{ShmSegment, Keys, keys_after, IsShmLegal}
use Rattle.shm_model.specs.Tied.{Places, NameObject, Tied}

-- The keeper's cells name the segment's object at each page of it, and the object is there.
pub record IsKeptSegment (keeper : ℕ) (G : Flat) (at : ℕ) (seg : ShmSegment) : Type 0 where
  pub named : NameObject G keeper (page at) (pages_in seg.len) seg.object
  pub some : 1 ≤ pages_in seg.len
  pub there : IsSome (map.get G.zeros seg.object)

-- THE SEGMENTS LIVE: of each key that has a segment the keeper's cells name its object, and no two
-- keys have one object.
pub record SegmentsLive (keeper : ℕ) (G : Flat) (T : Keys) (at : Places) : Type 0 where
  pub kept : (key : ℕ) (seg : ShmSegment) → T key ≡ Some seg → IsKeptSegment keeper G (at key) seg
  pub apart : (k l : ℕ) (s t : ShmSegment) → T k ≡ Some s → T l ≡ Some t → s.object ≡ t.object → k
      ≡ l

-- The kernel found no such object for an Attach.
abbrev pub IsNoObject : ShmAnswer → Type 0
IsNoObject (answer.Attached object r) = r ≡ reply.Refused NoObject
IsNoObject a = ⊥

-- A start: the keeper was born, and no object is missing.
pub record MayKeep (keeper : ℕ) (F : Flat) : Type 0 where
  pub reached : IsReached F
  pub born : IsTrue (set.contains F.born keeper)

-- Entries that aren't the keeper's may stand behind. Where the history's entries are steps and the
-- answers are those of their points, all segments live, and no Attach of one is answered that there
-- is no such object.
pub record TiedLaws : Type 0 where
  pub longer : (keeper : ℕ) (F : Flat) (S : List ShmEntry) (H K : List Entry) (at : Places)
      → Tied keeper F S H at → entries_of K keeper ≡ [] → Tied keeper F S (H ++ K) at
  pub live : (keeper : ℕ) (F : Flat) (S : List ShmEntry) (H : List Entry) (at : Places)
      → MayKeep keeper F → Tied keeper F S H at → IsShmLegal S → Steps F H
      → SegmentsLive keeper (replay F H) (keys_after S) at
  pub found : (keeper : ℕ) (F : Flat) (S : List ShmEntry) (H : List Entry) (at : Places)
      → MayKeep keeper F → Tied keeper F S H at → IsShmLegal S → Steps F H
      → AllByRecursion (λ (e : ShmEntry). IsNoObject e.answer → ⊥) S
