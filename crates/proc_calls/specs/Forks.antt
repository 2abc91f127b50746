-- What a Fork is answered, and what it leaves. Public clauses cite this.
use Rattle.std.specs.Prelude.{◌≡◌, ◌+◌, ℕ, List, length, slice_index}
use Rattle.std.specs.FinSet as set
use Rattle.std.specs.Ordering.{nat_cmp}
use Rattle.seg_vn.specs.page_store.Notes.{Notes}
use Rattle.seg_vn.specs.vm_types.declared.call.Call.TheVariants.{Fork}
use Rattle.seg_vn.specs.vm_types.declared.call.Entry.{Entry}
use Rattle.seg_vn.specs.vm_types.declared.call.Errno.TheVariants.{NoSwap}
use Rattle.seg_vn.specs.vm_types.declared.call.Reply.{Reply}
use Rattle.seg_vn.specs.vm_types.declared.call.Reply.TheVariants.{Done, Refused}
use Rattle.seg_vn.specs.flat_model.Step.{IsDue, after_act, effect}
use Rattle.seg_vn.specs.vm_world.FlatMemory.{Memory, flat_memory}
use Rattle.seg_vn.specs.vm_world.ForkSteps.{BringsProcess, times_owned}

-- The entry of a Fork with this reply, which takes these tails.
abbrev pub fork_entry : ℕ → ℕ → Reply → ℕ → Entry
fork_entry p child reply cleared = record { process = p; call = Fork child; reply = reply; cleared = cleared }

-- A Fork that is done bears its child: whatever tails its entry takes, it is due, and flat memory is then what it makes of it.
abbrev pub BearsChild : Memory → Memory → ℕ → ℕ → Type 0
BearsChild old new p child = (cleared : ℕ)
    → BringsProcess child old new (λ F. after_act F (fork_entry p child Done cleared)) (λ F G. IsDue F (fork_entry p child Done cleared) × (G ≡ after_act F (fork_entry p child Done cleared)))

-- A Fork is done: its child is born, and no refusal was due, whatever is outside.
pub record DoesFork (old new : Memory) (p child : ℕ) : Type 0 where
  pub bears : BearsChild old new p child
  pub due : (born : set.FinSet nat_cmp) (notes : Notes) → (effect (flat_memory old born notes) p (Fork child)).reply ≡ Done

-- A Fork that is refused changes nothing, and the refusal is due, whatever is outside.
pub record RefusesFork (old new : Memory) (p child : ℕ) : Type 0 where
  pub same : new ≡ old
  pub due : (born : set.FinSet nat_cmp) (notes : Notes) → (effect (flat_memory old born notes) p (Fork child)).reply ≡ Refused NoSwap

-- WHAT THE REPLY TO A FORK SAYS: it is done, or refused for want of swap.
abbrev pub IsForked : Memory → Memory → ℕ → ℕ → Reply → Type 0
IsForked old new p child Done = DoesFork old new p child
IsForked old new p child (Refused NoSwap) = RefusesFork old new p child
IsForked old new p child reply = ⊥

-- Each slot is counted once more for each place of the process's own maps that holds it: no slot is made, and none goes.
pub record CountsForked (old : Memory) (now : List ℕ) (p : ℕ) : Type 0 where
  pub slots : length now ≡ length old.world.anon.counts
  pub counts : (slot : ℕ) → slice_index now slot ≡ slice_index old.world.anon.counts slot + times_owned old p slot

-- The slots of the process are counted once more where its Fork is done; else no count changes.
abbrev pub IsCountedFork : Memory → List ℕ → ℕ → Reply → Type 0
IsCountedFork old counts p Done = CountsForked old counts p
IsCountedFork old counts p reply = counts ≡ old.world.anon.counts
