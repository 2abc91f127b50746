-- What the reply to a call that is done at once says of flat memory, and words on what stays. Public clauses cite this.
use Rattle.std.specs.Prelude.{ℕ, List, ◌≡◌, ◌≤◌}
use Rattle.std.specs.FinMap as finite
use Rattle.std.specs.FinSet as set
use Rattle.std.specs.Ordering.{nat_cmp}
use Rattle.seg_vn.specs.addr_space.Space.{Part}
use Rattle.seg_vn.specs.anon_slots.Slots.{count_at}
use Rattle.seg_vn.specs.page_store.Notes.{Notes}
use Rattle.seg_vn.specs.vm_types.declared.call.Call.{Call}
use Rattle.seg_vn.specs.vm_types.declared.call.Reply.{Reply}
use Rattle.seg_vn.specs.flat_model.Step.{effect}
use Rattle.seg_vn.specs.vm_world.FlatMemory.{Memory, flat_memory}
use Rattle.seg_vn.specs.vm_world.SegmentSteps.{ChangesSegments}
use Rattle.seg_vn.specs.vm_world.Segments.{Spaces}
use Rattle.seg_vn.specs.vm_world.Serving.{ModifiesNone}
use Rattle.seg_vn.specs.vm_world.Words.{memory}
use Rattle.seg_vn.specs.vm_world.World.{world_seen}
use Rattle.seg_vn.specs.vm_world.ZeroObjects.{AreSameZeros, KnowsZeros}
use Rattle.seg_vn.specs.vm_world.declared.segment.Segment.{Segment}
use Rattle.seg_vn.specs.vm_world.declared.world.World as rust
use Rattle.seg_vn.specs.Clears.{SpaceFits}
use Rattle.seg_vn.specs.Serves.{IsPlainReply}

-- A call is done with this plain reply: what it does is due in flat memory, and no page becomes modified.
pub record AnswersAtOnce (p : ℕ) (old new : Memory) (call : Call) (r : Reply) : Type 0 where
  pub changes : ChangesSegments p old new (λ F. (effect F p call).after)
  pub plain : IsPlainReply r
  pub due : (born : set.FinSet nat_cmp) (notes : Notes) → (effect (flat_memory old born notes) p call).reply ≡ r
  pub modified : ModifiesNone old.world new.world

-- Whatever the spaces in which the process is alive with these parts, the call is done with this
-- plain reply; the process is alive with the new ones then, and the list of zero objects is right.
abbrev pub IsAnswered : {D : Type 0} → rust.World D → rust.World D → ℕ → List (Part Segment) → List (Part Segment) → Call → Reply → Type 0
IsAnswered old new p parts after call r =
    (spaces : Spaces) → SpaceFits (world_seen old) old.zeros spaces p parts → AnswersAtOnce p (memory old spaces) (memory new (finite.insert spaces p after)) call r × KnowsZeros new.zeros (finite.insert spaces p after)

-- No slot is counted more often.
abbrev pub CountsFall : {D : Type 0} → rust.World D → rust.World D → Type 0
CountsFall old new = (slot : ℕ) → count_at new.anon slot ≤ count_at old.anon slot

-- No page becomes modified.
abbrev pub NoneModified : {D : Type 0} → rust.World D → rust.World D → Type 0
NoneModified old new = ModifiesNone (world_seen old) (world_seen new)

-- NOTHING CHANGES, neither the world nor the parts.
abbrev pub IsUnchanged : {D : Type 0} → rust.World D → rust.World D → List (Part Segment) → List (Part Segment) → Type 0
IsUnchanged old new parts after = (new ≡ old) × (after ≡ parts)

-- Nothing changes but the length of the list of zero objects, by free numbers at its end.
abbrev pub OnlyNumbers : {D : Type 0} → rust.World D → rust.World D → List (Part Segment) → List (Part Segment) → Type 0
OnlyNumbers old new parts after = AreSameZeros old.zeros new.zeros × (new ≡ record old { zeros = new.zeros }) × (after ≡ parts)
