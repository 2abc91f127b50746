-- Words on the world as a contract sees it: that it fits, that frames are there, and what stays. Public clauses cite this.
use Rattle.std.specs.Prelude.{◌≡◌, ◌≢◌, ℕ, Bool, false, IsSome}
use Rattle.page_store.specs.core_arena.Bytes.{bytes_at}
use Rattle.page_store.specs.Notes.{Notes}
use Rattle.page_store.specs.Seen.{StoreSeen}
use Rattle.vm_world.specs.FlatMemory.{Memory}
use Rattle.vm_world.specs.MemoryFits.{MemoryFits}
use Rattle.vm_world.specs.NotesFit.{NotesFit}
use Rattle.vm_world.specs.Segments.{Spaces}
use Rattle.vm_world.specs.World.{World, world_seen}
use Rattle.vm_world.specs.WorldSteps.{WorldStep, stays}
use Rattle.vm_world.specs.declared.world.World as rust

-- The world with the segments of the processes.
abbrev pub memory : {D : Type 0} → rust.World D → Spaces → Memory
memory w spaces = record { world = world_seen w; spaces = spaces }

-- The world fits the segments of these processes.
abbrev pub Fits : {D : Type 0} → rust.World D → Spaces → Type 0
Fits w spaces = MemoryFits (memory w spaces)

-- The world fits the segments of some processes.
abbrev pub IsFit : {D : Type 0} → rust.World D → Type 0
IsFit w = (spaces : Spaces) × Fits w spaces

-- What is known of disks and flights fits.
abbrev pub IsKnown : {D : Type 0} → rust.World D → Type 0
IsKnown w = (notes : Notes) × NotesFit (world_seen w) notes

-- A frame at least holds bytes.
abbrev pub OneIsHome : StoreSeen → Type 0
OneIsHome s = (frame : ℕ) × IsSome (bytes_at s.frames frame)

-- A frame at least holds bytes beside this one.
abbrev pub OneIsHomeBeside : StoreSeen → ℕ → Type 0
OneIsHomeBeside s beside = (frame : ℕ) × (frame ≢ beside) × IsSome (bytes_at s.frames frame)

-- Two frames at least hold bytes.
abbrev pub TwoAreHome : StoreSeen → Type 0
TwoAreHome s = (beside : ℕ) → OneIsHomeBeside s beside

-- A step that changes no page.
abbrev pub KeepsPages : World → World → Spaces → Type 0
KeepsPages old new spaces = WorldStep old new spaces stays (λ name. false)

-- No page changes, and the world fits as it did, whatever the segments.
abbrev pub KeepsEveryPage : {D : Type 0} → rust.World D → rust.World D → Type 0
KeepsEveryPage old new = (spaces : Spaces) → Fits old spaces → KeepsPages (world_seen old) (world_seen new) spaces

-- WHAT STAYS: all but what is named.

-- All but the page store stays.
abbrev pub OnlyStore : {D : Type 0} → rust.World D → rust.World D → Type 0
OnlyStore old new = new ≡ record old { store = new.store }

-- All but the translations stays.
abbrev pub OnlyHat : {D : Type 0} → rust.World D → rust.World D → Type 0
OnlyHat old new = new ≡ record old { hat = new.hat }

-- All but the anon maps stays.
abbrev pub OnlyMaps : {D : Type 0} → rust.World D → rust.World D → Type 0
OnlyMaps old new = new ≡ record old { maps = new.maps }

-- All but the page store and the translations stays.
abbrev pub OnlyStoreAndHat : {D : Type 0} → rust.World D → rust.World D → Type 0
OnlyStoreAndHat old new = new ≡ record old { store = new.store; hat = new.hat }

-- All but the page store and the pending tails stays.
abbrev pub OnlyStoreAndTails : {D : Type 0} → rust.World D → rust.World D → Type 0
OnlyStoreAndTails old new = new ≡ record old { store = new.store; pending = new.pending }

-- All but the slots and the anon maps stays.
abbrev pub OnlySlotsAndMaps : {D : Type 0} → rust.World D → rust.World D → Type 0
OnlySlotsAndMaps old new = new ≡ record old { anon = new.anon; maps = new.maps }

-- All but the slots and the files stays.
abbrev pub OnlySlotsAndFiles : {D : Type 0} → rust.World D → rust.World D → Type 0
OnlySlotsAndFiles old new = new ≡ record old { anon = new.anon; files = new.files }

-- Slots, anon maps, files and zero objects stay.
abbrev pub OnlyFrames : {D : Type 0} → rust.World D → rust.World D → Type 0
OnlyFrames old new = new ≡ record old { store = new.store; hat = new.hat; pending = new.pending }

-- Translations, files, zero objects and pending tails stay.
abbrev pub OnlyAnonymous : {D : Type 0} → rust.World D → rust.World D → Type 0
OnlyAnonymous old new = new ≡ record old { store = new.store; anon = new.anon; maps = new.maps }

-- Files and zero objects stay.
abbrev pub SameFiles : {D : Type 0} → rust.World D → rust.World D → Type 0
SameFiles old new = new ≡ record old { store = new.store; anon = new.anon; maps = new.maps; hat = new.hat; pending = new.pending }

-- Files and zero objects stay, and the translations.
abbrev pub SameFilesAndHat : {D : Type 0} → rust.World D → rust.World D → Type 0
SameFilesAndHat old new = new ≡ record old { store = new.store; anon = new.anon; maps = new.maps; pending = new.pending }

-- Files stay, and the pending tails.
abbrev pub SameFilesAndTails : {D : Type 0} → rust.World D → rust.World D → Type 0
SameFilesAndTails old new = new ≡ record old { store = new.store; anon = new.anon; maps = new.maps; hat = new.hat; zeros = new.zeros }

-- Anon maps and zero objects stay.
abbrev pub SameMaps : {D : Type 0} → rust.World D → rust.World D → Type 0
SameMaps old new = new ≡ record old { store = new.store; anon = new.anon; hat = new.hat; files = new.files; pending = new.pending }

-- Anon maps and zero objects stay, and the pending tails.
abbrev pub SameMapsAndTails : {D : Type 0} → rust.World D → rust.World D → Type 0
SameMapsAndTails old new = new ≡ record old { store = new.store; anon = new.anon; hat = new.hat; files = new.files }

-- Files and translations stay, with the pending tails.
abbrev pub SameFilesHatAndTails : {D : Type 0} → rust.World D → rust.World D → Type 0
SameFilesHatAndTails old new = new ≡ record old { store = new.store; anon = new.anon; maps = new.maps; zeros = new.zeros }
