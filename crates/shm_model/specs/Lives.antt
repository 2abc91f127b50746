-- How long the memory of a segment lives, and what it reserves. Public clauses cite this.
use Rattle.std.specs.Prelude.{ℕ, ◌≡◌, List, length, Some, None, Ok, IsSome, IsSomeAnd, IsTrue}
use Rattle.std.specs.FinMap as map
use Rattle.std.specs.List.{AllByRecursion}
use Rattle.flat_model.specs.vm_types.declared.call.Call.TheVariants.{Fork, Exit}
use Rattle.flat_model.specs.vm_types.declared.call.Entry.{Entry}
use Rattle.flat_model.specs.vm_types.declared.call.Kind.TheVariants.{Shared}
use Rattle.flat_model.specs.vm_types.declared.call.Object.TheVariants as object
use Rattle.flat_model.specs.vm_types.declared.call.Place.{Place}
use Rattle.flat_model.specs.vm_types.declared.call.Reply.TheVariants.{Done}
use Rattle.flat_model.specs.vm_types.declared.prot.Prot.{Prot}
use Rattle.flat_model.specs.vm_types.Pages.{pages_in}
use Rattle.flat_model.specs.Words.{Page}
use Rattle.flat_model.specs.Flat.{Cell, Flat, space_of, cell_at, zero_of, is_named, reserved}
use Rattle.flat_model.specs.Births.{AreBorn}
use Rattle.flat_model.specs.FrameLaws.{LeavesCell}
use Rattle.flat_model.specs.History.{replay, Steps}
use Rattle.flat_model.specs.Mapping.{Request, map_result, without_pages}
use Rattle.flat_model.specs.ReachedLaws.{IsReached}
use Rattle.flat_model.specs.Step.{IsStep, step}
use Rattle.shm_model.specs.Keys.{ShmSegment}

-- What an Attach asks for.
abbrev pub attach_request : Place → Prot → ShmSegment → Request
attach_request place prot seg = record {
  place = place;
  len = seg.len;
  prot = prot;
  kind = Shared;
  object = object.Zero seg.object;
  offset = 0;
}

-- A segment that a process attached lives on with its length, whoever else goes and whether or not
-- its key is there, as long as no entry takes that cell. A child has what its parent attached.
-- Where an Exit takes the last cell that names the object, the object is gone. And a segment that
-- some other cell names is reserved once: to attach it reserves nothing.
pub record SegmentLives : Type 0 where
  pub outlives : (F : Flat) (H : List Entry) (p q z : ℕ) (c : Cell) (pages : List Page) → AreBorn F
      → Steps F H → cell_at F p q ≡ Some c → zero_of c ≡ Some z → map.get F.zeros z ≡ Some pages
      → AllByRecursion (λ (e : Entry). LeavesCell e p q) H
      → IsSomeAnd (cell_at (replay F H) p q) (λ d. d.object ≡ c.object)
      × IsSomeAnd (map.get (replay F H).zeros z) (λ new. length new ≡ length pages)
  pub forked : (F : Flat) (e : Entry) (child q : ℕ) → IsStep F e → e.call ≡ Fork child
      → e.reply ≡ Done → cell_at (step F e) child q ≡ cell_at F e.process q
  pub gone : (F : Flat) (e : Entry) (z : ℕ) → IsReached F → IsStep F e → e.call ≡ Exit
      → ((p q : ℕ) (c : Cell) → (p ≡ e.process → ⊥) → cell_at F p q ≡ Some c
      → zero_of c ≡ Some z → ⊥)
      → map.get (step F e).zeros z ≡ None
  pub once : (F G : Flat) (p first : ℕ) (place : Place) (prot : Prot) (seg : ShmSegment)
      → IsSome (space_of F p) → map_result F p (attach_request place prot seg) ≡ Ok (first, G)
      → IsTrue (is_named (without_pages F p first (pages_in seg.len)) seg.object)
      → reserved G ≡ reserved (without_pages F p first (pages_in seg.len))
