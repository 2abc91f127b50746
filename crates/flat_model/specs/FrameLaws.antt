-- What a step leaves as it was. Public clauses cite this.
use Rattle.std.specs.Prelude.{ℕ, ◌≡◌, ◌||◌, Bool, true, false, List, length, Some, IsSomeAnd, IsFalse, slice_get}
use Rattle.std.specs.FinMap as map
use Rattle.std.specs.FinSet as set
use Rattle.vm_types.specs.declared.call.Call.{Call}
use Rattle.vm_types.specs.declared.call.Call.TheVariants.{Map, Unmap, Exit}
use Rattle.vm_types.specs.declared.call.Place.TheVariants.{At}
use Rattle.vm_types.specs.declared.call.Entry.{Entry}
use Rattle.flat_model.specs.Words.{Page, page, pages_in}
use Rattle.flat_model.specs.Flat.{Cell, File, Flat, space_of, cell_at, zero_of}
use Rattle.flat_model.specs.Space.{is_in_range}
use Rattle.flat_model.specs.Step.{IsStep, step}
use Rattle.flat_model.specs.Births.{is_birth, AreBorn}

-- The call takes its process's cell at a page away, if it is done: a Map at an address and an Unmap those of their range, an Exit all.
abbrev pub takes : Call → ℕ → Bool
takes (Map (At a) len prot kind object offset) q = is_in_range (page a) (pages_in len) q
takes (Unmap a len) q = is_in_range (page a) (pages_in len) q
takes Exit q = true
takes call q = false

-- The entry leaves the cell of a process at a page where it is: it is another process's entry, or its call doesn't take the cell away.
abbrev pub LeavesCell : Entry → ℕ → ℕ → Type 0
LeavesCell e p q = p ≡ e.process → IsFalse (takes e.call q)

-- The new cell maps what the old one did: a Protect may have given it another protection, and a store a page of its own.
pub record MapsSame (old new : Cell) : Type 0 where
  pub max : new.max ≡ old.max
  pub kind : new.kind ≡ old.kind
  pub object : new.object ≡ old.object
  pub index : new.index ≡ old.index

-- The file is on its disk, and may be written, as before.
pub record KeepsMode (old new : File) : Type 0 where
  pub disk : new.disk ≡ old.disk
  pub writable : new.writable ≡ old.writable

-- Flat memory G is what the entry leaves of F, as far as it leaves it. Slots and disks, and the number of files, with the disk and mode of each, stay. But for the entry's process, and a child that it makes, each space stays; and who is born is told by births. Each cell that the entry leaves maps what it did, and the zero object that it names stays with its length.
pub record StepFrame (F : Flat) (e : Entry) (G : Flat) : Type 0 where
  pub slots : G.slots ≡ F.slots
  pub disks : G.disks ≡ F.disks
  pub files : length G.files ≡ length F.files
  pub modes : (f : ℕ) (file : File) → slice_get F.files f ≡ Some file → IsSomeAnd (slice_get G.files f) (KeepsMode file)
  pub spaces : (p : ℕ) → (p ≡ e.process → ⊥) → IsFalse (is_birth p e) → space_of G p ≡ space_of F p
  pub born : (p : ℕ) → set.contains G.born p ≡ (set.contains F.born p || is_birth p e)
  pub cells : (p q : ℕ) (c : Cell) → cell_at F p q ≡ Some c → LeavesCell e p q → IsSomeAnd (cell_at G p q) (MapsSame c)
  pub zeros : (p q z : ℕ) (c : Cell) (pages : List Page) → cell_at F p q ≡ Some c → LeavesCell e p q → zero_of c ≡ Some z → map.get F.zeros z ≡ Some pages → IsSomeAnd (map.get G.zeros z) (λ new. length new ≡ length pages)

-- A step where all who are alive were born leaves this.
pub record StepsKeep : Type 0 where
  pub frame : (F : Flat) (e : Entry) → AreBorn F → IsStep F e → StepFrame F e (step F e)
