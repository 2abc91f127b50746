-- Counts of faults, entry by entry. Public clauses cite this.
use Rattle.std.specs.Prelude.{ℕ, ◌≡◌, ◌≤◌, ◌==◌, ◌↔◌, ◌++◌, List, [], ◌∷◌, fold, Some, slice_get, if◌then◌else◌}
use Rattle.vm_types.specs.declared.call.Reply.TheVariants as reply
use Rattle.vm_types.specs.declared.call.Entry.{Entry}
use Rattle.flat_model.specs.Counted.{IsCountedRise, Counted}

-- The disk's count of faults that the entry names, if it is a device error of that disk; else the one that was named before.
abbrev pub count_after : ℕ → ℕ → Entry → ℕ
count_after disk last e = elim e.reply [ reply.Io d before after ↦ (if d == disk then after else last) | r ↦ last ]

-- The disk's count that the last of its device errors names after its transfer; 0 where there is none.
abbrev pub last_count : ℕ → List Entry → ℕ
last_count disk H = fold (count_after disk) 0 H

-- The entry may come behind the history: if it is a device error, then its disk's count rose, from no less than the last one named.
abbrev pub IsNextCount : List Entry → Entry → Type 0
IsNextCount H e = elim e.reply [ reply.Io disk before after ↦ IsCountedRise before after × (last_count disk H ≤ before) | r ↦ Unit {0} ]

-- A history with an entry more is counted exactly where the history is and the entry's count comes behind the last one of its disk; a front of a counted history is counted; and no device error of a disk names more than the last one.
pub record CountedHistories : Type 0 where
  pub one_more : (H : List Entry) (e : Entry) → Counted (H ++ e ∷ []) ↔ (Counted H × IsNextCount H e)
  pub front : (H K : List Entry) → Counted (H ++ K) → Counted H
  pub pushed : (H : List Entry) (e : Entry) (disk : ℕ) → last_count disk (H ++ e ∷ []) ≡ count_after disk (last_count disk H) e
  pub above : (H : List Entry) (k : ℕ) (e : Entry) (disk before after : ℕ) → Counted H → slice_get H k ≡ Some e → e.reply ≡ reply.Io disk before after → after ≤ last_count disk H
