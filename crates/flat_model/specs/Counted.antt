-- Device errors name faults that their disks counted. Public clauses cite this.
use Rattle.std.specs.Prelude.{ℕ, ◌≡◌, ◌≤◌, ◌<◌, ◌-◌, ◌^◌, ◌⊎◌, List, Some, slice_get}
use Rattle.vm_types.specs.declared.call.Reply.TheVariants.{Io}
use Rattle.vm_types.specs.declared.call.Entry.{Entry}

-- A disk's count of faults ends here, and stands still then.
abbrev pub top_count : ℕ
top_count = 2 ^ 64 - 1

-- The count rose, or it had come to its end.
abbrev pub IsCountedRise : ℕ → ℕ → Type 0
IsCountedRise before after = (before < after) ⊎ ((before ≡ top_count) × (after ≡ top_count))

-- Each device error names two counts of its disk, of which the second is greater, or both are a count's end; and of two errors of one disk the earlier one's second count isn't above the later one's first.
pub record Counted (H : List Entry) : Type 0 where
  pub risen : (k : ℕ) (e : Entry) (disk before after : ℕ) → slice_get H k ≡ Some e → e.reply ≡ Io disk before after → IsCountedRise before after
  pub ordered : (j k : ℕ) (d e : Entry) (disk b after before a : ℕ) → j < k → slice_get H j ≡ Some d → slice_get H k ≡ Some e → d.reply ≡ Io disk b after → e.reply ≡ Io disk before a → after ≤ before
