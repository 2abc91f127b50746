-- What is seen of a disk, wherever it is. Public clauses cite this.
use Rattle.std.specs.Prelude.{◌≡◌, ◌≤◌, ℕ, Bool, List, Option, Some, None, is_some}
use Rattle.page_store.specs.block_device.DiskSeen.{DiskKind, DiskSeen}
use Rattle.page_store.specs.Bays.{BaySeen, missing, home, out, bay_at}
use Rattle.page_store.specs.Notes.{Note, Notes}

-- What is seen of the disk that a note has.
abbrev pub seen_of_note : {X : Type 0} → (DiskSeen → X) → Option Note → Option X
seen_of_note seen None = None
seen_of_note seen (Some note) = Some (seen note.disk)

-- What is seen of a disk, at home or in a note.
abbrev pub seen_in : {X : Type 0} → (DiskSeen → X) → BaySeen → Notes → Option X
seen_in seen missing notes = None
seen_in seen (home disk) notes = Some (seen disk)
seen_in seen (out seat) notes = seen_of_note seen (notes seat)

-- The count of faults of a disk, at home or in a note; none where the bay is empty.
abbrev pub faults_in : BaySeen → Notes → Option ℕ
faults_in bay notes = seen_in (λ disk. disk.faults) bay notes

-- The disk of a number is there, and counted so many faults at least.
pub record HasCounted (bays : List BaySeen) (notes : Notes) (number least : ℕ) : Type 0 where
  pub count : ℕ
  pub there : faults_in (bay_at bays number) notes ≡ Some count
  pub enough : least ≤ count

-- What never changes of a disk: how many blocks it has, its kind, and whether it tells them.
pub record FixedOfDisk : Type 0 where
  pub size : ℕ
  pub kind : DiskKind
  pub tells : Bool

-- What never changes of this disk.
abbrev pub disk_fixed : DiskSeen → FixedOfDisk
disk_fixed disk = record { size = disk.size; kind = disk.kind; tells = is_some disk.content }

-- The same disks are there, at home or in notes, each with what never changes of it.
abbrev pub SameDisks : List BaySeen → Notes → List BaySeen → Notes → Type 0
SameDisks old before new after =
    (number : ℕ) → seen_in disk_fixed (bay_at new number) after ≡ seen_in disk_fixed (bay_at old number) before
