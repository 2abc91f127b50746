-- How far a Sync reached. Public clauses cite this.
use Rattle.std.specs.Prelude.{◌≡◌, ◌<◌, ◌≤◌, ℕ, true, List, Some, IsSome, option_and_then, slice_get}
use Rattle.flat_model.specs.vm_types.Pages.{page, pages_in}
use Rattle.flat_model.specs.vm_types.declared.call.Call.TheVariants.{Sync}
use Rattle.flat_model.specs.vm_types.declared.call.Entry.{Entry}
use Rattle.flat_model.specs.vm_types.declared.call.Kind.TheVariants.{Shared}
use Rattle.flat_model.specs.vm_types.declared.call.Object.TheVariants as object
use Rattle.flat_model.specs.vm_types.declared.call.Reply.TheVariants.{Synced}
use Rattle.flat_model.specs.Flat.{Flat, Cell, cell_at}
use Rattle.flat_model.specs.Space.{is_in_range}
use Rattle.page_store.specs.page_hash.declared.PageName.{PageName}
use Rattle.disk_marks.specs.declared.marks.Mark.{Mark}
use Rattle.disk_marks.specs.declared.marks.Mark.TheVariants.{Held, Blank, Unsure}
use Rattle.mark_laws.specs.Pages.{after_first}

-- The number of entries that a mark names.
abbrev pub entries_in : Mark → ℕ
entries_in (Held j) = j
entries_in (Blank j) = j
entries_in (Unsure j before after) = j

-- The entry at position k is a Sync that answers that it began at b, and in its range a shared cell showed the page of a file.
pub record HasSynced (opening : Flat) (H : List Entry) (k b : ℕ) (name : PageName) : Type 0 where
  pub entry : Entry
  pub addr : ℕ
  pub len : ℕ
  pub q : ℕ
  pub cell : Cell
  pub at : slice_get H k ≡ Some entry
  pub call : entry.call ≡ Sync addr len
  pub reply : entry.reply ≡ Synced b
  pub within : is_in_range (page addr) (pages_in len) q ≡ true
  pub here : cell_at (after_first opening H k) entry.process q ≡ Some cell
  pub shared : cell.kind ≡ Shared
  pub file : cell.object ≡ object.File name.object
  pub index : cell.index ≡ name.page
  pub shows : IsSome (option_and_then (λ file. slice_get file.pages name.page) (slice_get (after_first opening H k).files name.object))

-- The mark is no older than the Sync's begin, and a failure that it names came after the Sync.
pub record ReachesDisk (k b : ℕ) (mark : Mark) : Type 0 where
  pub since : b ≤ entries_in mark
  pub later : (j before after : ℕ) → mark ≡ Unsure j before after → k < j
