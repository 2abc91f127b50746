-- Disks that are attached one after another, the table of each read before the next one is attached. Inside: no clause of `run` cites this.
use Rattle.std.specs.Prelude.{ℕ, ◌≡◌, ◌≢◌, ◌<◌, ◌≤◌, ◌⊎◌, List, [], ◌∷◌, ◌++◌, filter_map, map, Bool, option_and_then, Option, Some, None, IfSome, MatchOption, Result, Ok, Err}
use Rattle.std.specs.List.{range_with_len}
use Rattle.block_device.specs.Counts.{HasRisen}
use Rattle.block_device.specs.DiskSeen.{DiskSeen, HasBlocks}
use Rattle.block_device.specs.RackSeen.{spec_number}
use Rattle.block_device.specs.declared.rack.Spec.{Spec}
use Rattle.volume_format.specs.declared.rules.BadVolume.{BadVolume}
use Rattle.volume_format.specs.Table.{TableSeen}
use Rattle.volume_format.specs.Volume.{IsVolumeTable}
use Rattle.vm_report.specs.vm_script.declared.plan.SetupLine.{SetupLine}
use Rattle.volume_files.specs.declared.stops.OpenStop.{OpenStop}
use Rattle.volume_files.specs.declared.stops.OpenStop.TheVariants as halt
use Rattle.volume_files.specs.declared.stops.Refusal.TheVariants as refusal
use Rattle.block_device.specs.declared.numbered.NumberedDisk.{NumberedDisk}
use Rattle.joined_disk.specs.JoinedSeen.{joined_seen}
use Rattle.joined_disk.specs.declared.joined.JoinedDisk.{JoinedDisk}
use Rattle.volume_disks.specs.declared.stops.VolumeStop.{VolumeStop}
use Rattle.volume_disks.specs.declared.stops.VolumeStop.TheVariants as stop
use Rattle.std.specs.Option.{ForSome}
use Rattle.volume_files.specs.Attached.{IsMounted, AreMounted}
use Rattle.stored_files.specs.Written.{numbered_seen}
use Rattle.volume_files.specs.Handed.{HasBadTable}
use Rattle.volume_disks.specs.Volumes.{second_spec, size_fault}
use Rattle.volume_disks.specs.declared.volume_spec.VolumeSpec.{VolumeSpec}
use Rattle.volume_disks.specs.declared.volume_spec.VolumeSpec.TheVariants.{Plain, Joined}
use Rattle.volume_files.specs.Opened.{IsVolumeAttached, size_refusal, table_on, table_read, volume_number, volume_numbered}
use Rattle.stored_files.specs.Written.{HasLastFault, open_fault_counts}

-- What a rack holds for each spec, where it tells that.
abbrev pub Holds : Type 0
Holds = Spec → Option (List (List ℕ))

-- The volumes of lower numbers.
abbrev pub specs_below : List SetupLine → ℕ → List VolumeSpec
specs_below setup number = filter_map (volume_numbered setup) (range_with_len 0 number)

-- Two racks tell the same of each disk of files, which is numbered below 8.
abbrev pub HoldSame : Holds → Holds → Type 0
HoldSame holds others = (s : Spec) → spec_number s < 8 → holds s ≡ others s

-- A volume was attached by its spec.
pub record IsGiven (holds : Holds) (s : VolumeSpec) (d : ℕ × DiskSeen) : Type 0 where
  pub number : d.0 ≡ volume_number s
  pub attached : IsVolumeAttached holds s d.1

-- The disk has 2 to 16,384 blocks, and where it tells, block 0 says this table.
pub record SaysTableRead (d : DiskSeen) (t : TableSeen) : Type 0 where
  pub some : 2 ≤ d.size
  pub few : d.size ≤ 16384
  pub blocks : t.blocks ≡ d.size
  pub volume : IsVolumeTable t
  pub read : IfSome d.content (λ blocks. table_on blocks ≡ Ok t)

-- Why a disk's table wasn't read: its size or block 0 breaks a rule, its size serves and the
-- transfer's fault was counted, or memory lacked.
abbrev pub UnreadCause : ℕ × DiskSeen → OpenStop → Type 0
UnreadCause d (halt.Refused (refusal.Volume number rule)) = (number ≡ d.0) × IfSome d.1.content (λ blocks. table_on blocks ≡ Err rule) × HasBadTable d.1.size rule
UnreadCause d (halt.Failed f) = HasLastFault 0 d (open_fault_counts f) × (2 ≤ d.1.size) × (d.1.size ≤ 16384)
UnreadCause d halt.Memory = Unit {0}
UnreadCause d how = ⊥

-- Why block 0 says no table: it breaks a rule of volumes, or memory lacked.
abbrev pub BadTableCause : ℕ → Result TableSeen BadVolume → OpenStop → Type 0
BadTableCause number told (halt.Refused (refusal.Volume n rule)) = (n ≡ number) × (table_read told ≡ Err rule)
BadTableCause number told halt.Memory = Unit {0}
BadTableCause number told how = ⊥

-- Why no disk was attached: the rack counted a fault, or memory lacked.
abbrev pub UngivenCause : ℕ → ℕ → ℕ → OpenStop → Type 0
UngivenCause number old new (halt.Failed f) = (f.disk ≡ number) × (f.counts ≡ None) × HasRisen old new
UngivenCause number old new halt.Memory = Unit {0}
UngivenCause number old new how = ⊥

-- One more volume is attached, and its table read.
pub record MountsOne (holds : Holds) (s : VolumeSpec) (old new : List (ℕ × DiskSeen)) (tables_old tables_new : List TableSeen) : Type 0 where
  pub disk : ℕ × DiskSeen
  pub table : TableSeen
  pub mounted : IsMounted holds s disk table
  pub disks : new ≡ old ++ disk ∷ []
  pub tables : tables_new ≡ tables_old ++ table ∷ []

-- The first disk of a volume wasn't attached: the disks are as they were.
pub record HaltsBare (number old new : ℕ) (front disks : List (ℕ × DiskSeen)) (how : OpenStop) : Type 0 where
  pub same : disks ≡ front
  pub cause : UngivenCause number old new how

-- The volume was attached, and its table wasn't read.
pub record HaltsUnread (holds : Holds) (s : VolumeSpec) (front disks : List (ℕ × DiskSeen)) (how : OpenStop) : Type 0 where
  pub disk : ℕ × DiskSeen
  pub given : IsGiven holds s disk
  pub behind : disks ≡ front ++ disk ∷ []
  pub cause : UnreadCause disk how

-- The first disk of a volume of two was attached, and the second wasn't.
pub record HaltsFirst (holds : Holds) (s : VolumeSpec) (old new : ℕ) (front disks : List (ℕ × DiskSeen)) (how : OpenStop) : Type 0 where
  pub first : Spec
  pub second : Spec
  pub mirror : Bool
  pub joined : s ≡ Joined first second mirror
  pub disk : ℕ × DiskSeen
  pub given : IsGiven holds (Plain first) disk
  pub behind : disks ≡ front ++ disk ∷ []
  pub cause : UngivenCause (spec_number second) old new how

-- Why two attached disks weren't joined: their sizes don't serve, or they do and memory lacked.
abbrev pub UnfitCause : ℕ × DiskSeen → ℕ × DiskSeen → OpenStop → Type 0
UnfitCause a b (halt.Refused r) = option_and_then size_refusal (size_fault (a.0, a.1.size) (b.0, b.1.size)) ≡ Some r
UnfitCause a b (halt.Failed f) = ⊥
UnfitCause a b halt.Memory = size_fault (a.0, a.1.size) (b.0, b.1.size) ≡ None

-- Both disks of a volume of two were attached and weren't joined; they stand behind the disks
-- before them.
pub record HaltsUnfit (holds : Holds) (s : VolumeSpec) (front disks : List (ℕ × DiskSeen)) (how : OpenStop) : Type 0 where
  pub first : Spec
  pub second : Spec
  pub mirror : Bool
  pub joined : s ≡ Joined first second mirror
  pub a : ℕ × DiskSeen
  pub b : ℕ × DiskSeen
  pub one : IsGiven holds (Plain first) a
  pub two : IsGiven holds (Plain second) b
  pub one_whole : HasBlocks a.1.content a.1.size
  pub two_whole : HasBlocks b.1.content b.1.size
  pub behind : disks ≡ front ++ a ∷ b ∷ []
  pub cause : UnfitCause a b how

-- The attaching of a volume stopped: bare, unread, after its first disk, or with two disks that
-- don't fit.
abbrev pub HaltsSpec : Holds → VolumeSpec → ℕ → ℕ → List (ℕ × DiskSeen) → List (ℕ × DiskSeen) → OpenStop → Type 0
HaltsSpec holds s old new front disks how =
    HaltsBare (volume_number s) old new front disks how ⊎ HaltsUnread holds s front disks how ⊎ HaltsFirst holds s old new front disks how ⊎ HaltsUnfit holds s front disks how

-- The volume of a number is attached, and its table read, where set-up lines give one.
abbrev pub MountsNumber : List SetupLine → ℕ → Holds → List (ℕ × DiskSeen) → List (ℕ × DiskSeen) → List TableSeen → List TableSeen → Type 0
MountsNumber setup number holds old new tables_old tables_new =
    MatchOption (volume_numbered setup number) ((new ≡ old) × (tables_new ≡ tables_old)) (λ s. MountsOne holds s old new tables_old tables_new)

-- Memory lacked before the rack was asked for a disk: the disks are as they were.
pub record HaltsUnasked (front disks : List (ℕ × DiskSeen)) (how : OpenStop) : Type 0 where
  pub same : disks ≡ front
  pub memory : how ≡ halt.Memory

-- The attaching of the volume of a number stopped: for want of memory before the rack was asked for
-- a disk, or at its spec.
abbrev pub HaltsNumber : List SetupLine → ℕ → Holds → ℕ → ℕ → List (ℕ × DiskSeen) → List (ℕ × DiskSeen) → OpenStop → Type 0
HaltsNumber setup number holds old new front disks how =
    HaltsUnasked front disks how ⊎ ((s : VolumeSpec) × (volume_numbered setup number ≡ Some s) × HaltsSpec holds s old new front disks how)

-- The attaching of the volumes of set-up lines stopped at that of a number: those of lower numbers are attached, and their tables read.
pub record Halts (setup : List SetupLine) (holds : Holds) (old new : ℕ) (disks : List (ℕ × DiskSeen)) (how : OpenStop) : Type 0 where
  pub number : ℕ
  pub below : number < 8
  pub front : List (ℕ × DiskSeen)
  pub tables : List TableSeen
  pub mounted : AreMounted holds (specs_below setup number) front tables
  pub cause : HaltsNumber setup number holds old new front disks how

-- Volumes with their numbers, as they are seen.
abbrev pub volumes_seen : {D : Type 0} {disk : _} → (D → DiskSeen) → List (NumberedDisk (JoinedDisk D disk)) → List (ℕ × DiskSeen)
volumes_seen seen volumes = map (numbered_seen (joined_seen seen)) volumes

-- Why a volume that wasn't attached has no table.
abbrev pub unmounted_as : VolumeStop → OpenStop
unmounted_as stop.Memory = halt.Memory
unmounted_as (stop.Failed f) = halt.Failed f
unmounted_as (stop.Size disk) = halt.Refused (refusal.Volume disk 0)
unmounted_as stop.Unequal = halt.Refused (refusal.Rule 15)

-- A spec of another disk than those of the volume of a number.
abbrev pub IsOtherDisk : List SetupLine → ℕ → Spec → Type 0
IsOtherDisk setup number s = ForSome (volume_numbered setup number) (λ v. (spec_number s ≢ volume_number v) × ForSome (second_spec v) (λ t. spec_number s ≢ spec_number t))
