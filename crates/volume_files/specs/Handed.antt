-- The disks that are handed back, by number, and why setting up ended. Public clauses cite this.
use Rattle.std.specs.Prelude.{ℕ, ◌≡◌, ◌≤◌, ◌<◌, ◌==◌, ◌++◌, ◌∷◌, ◌⊎◌, Bool, nat_le, nat_lt, count_by, List, [], length, map, take, Option, Some, None, Err, IfSome, IsOk, IsSome, option_and_then}
use Rattle.std.specs.Prelude.{IsSomeAnd, MatchOption, All, zip, slice_get, slice_index_or, option_map, if◌then◌else◌, ◌+◌}
use Rattle.std.specs.List.{Contains, sum_by}
use Rattle.std.specs.Map.{lookup}
use Rattle.std.specs.Option.{option_map_or}
use Rattle.block_device.specs.Counts.{HasRisen}
use Rattle.block_device.specs.DiskSeen.{DiskKind, DiskSeen, failures_told}
use Rattle.block_device.specs.OpenSeen.{OpenFaultSeen}
use Rattle.block_device.specs.RackSeen.{IsAttached, spec_number}
use Rattle.block_device.specs.declared.rack.Spec.{Spec}
use Rattle.block_device.specs.declared.rack.Spec.TheVariants as spec
use Rattle.vm_report.specs.flat_model.Words.{pages_in}
use Rattle.volume_format.specs.vnode_files.declared.vnode.FileInfo.{FileInfo}
use Rattle.volume_format.specs.Table.{front_block}
use Rattle.vm_report.specs.vm_script.PlanSeen.{PlanSeen}
use Rattle.vm_report.specs.vm_script.Rules.{amounts_of}
use Rattle.volume_files.specs.declared.stops.Refusal.{Refusal}
use Rattle.volume_files.specs.declared.stops.Refusal.TheVariants as refusal
use Rattle.volume_disks.specs.declared.volume_spec.VolumeSpec.{VolumeSpec}
use Rattle.volume_disks.specs.declared.volume_spec.VolumeSpec.TheVariants.{Plain, Joined}
use Rattle.volume_files.specs.Opened.{ComesTo, IsVolumeAttached, OpenedFile, disk_kind, joined_size, mounted_files, volume_number, volume_specs, opened_files, spec_kind, table_of_read, size_refusal}
use Rattle.volume_disks.specs.Volumes.{second_spec, size_fault}

-- Each disk that came back tells its blocks.
pub record HaveTold (disks : List DiskSeen) (swap : Option DiskSeen) : Type 0 where
  pub each : All (λ (d : DiskSeen). IsSome d.content) disks
  pub last : IfSome swap (λ d. IsSome d.content)

-- The numbers of a plan's volumes, in rising order; and the volumes with their numbers, by the disks that came back.
abbrev pub volume_numbers : PlanSeen → List ℕ
volume_numbers plan = map volume_number (volume_specs plan)

abbrev pub volumes_of : PlanSeen → List DiskSeen → List (ℕ × DiskSeen)
volumes_of plan disks = zip (volume_numbers plan) disks

-- The volume of a number, or the disk of the swap slots, which has number 8.
abbrev pub disk_handed : PlanSeen → List DiskSeen → Option DiskSeen → ℕ → Option DiskSeen
disk_handed plan disks swap number = if number == 8 then swap else lookup (λ n. n == number) (volumes_of plan disks)

-- How many blocks each volume has, by number.
abbrev pub sizes_of : PlanSeen → List DiskSeen → List (ℕ × ℕ)
sizes_of plan disks = map (λ (d : ℕ × DiskSeen). (d.0, d.1.size)) (volumes_of plan disks)

-- A blank disk has as many blocks as its spec says, and so does a volume of blank disks.
abbrev pub HasSpecSize : VolumeSpec → DiskSeen → Type 0
HasSpecSize (Plain (spec.Blank number blocks)) disk = disk.size ≡ blocks
HasSpecSize (Joined (spec.Blank number blocks) second mirror) disk = disk.size ≡ joined_size mirror blocks
HasSpecSize v disk = Unit {0}

abbrev pub HaveSpecSizes : List VolumeSpec → List DiskSeen → Type 0
HaveSpecSizes specs disks = (length disks ≡ length specs) × ((i : ℕ) (s : VolumeSpec) (d : DiskSeen) → slice_get specs i ≡ Some s → slice_get disks i ≡ Some d → HasSpecSize s d)

-- What is handed back where attaching stopped: so many of the volumes, and behind them so many of the disks of the next one, each by itself.
abbrev pub disks_apart : Option VolumeSpec → List VolumeSpec
disks_apart (Some (Joined first second mirror)) = Plain first ∷ Plain second ∷ []
disks_apart v = []

abbrev pub handed_specs : PlanSeen → ℕ → ℕ → List VolumeSpec
handed_specs plan whole apart = take whole (volume_specs plan) ++ take apart (disks_apart (slice_get (volume_specs plan) whole))

-- What kinds of disks these are.
abbrev pub kinds_of : List (ℕ × DiskSeen) → List DiskKind
kinds_of disks = map (λ (d : ℕ × DiskSeen). d.1.kind) disks

-- How many disks these are: of a disk that stands for several, each counts.
abbrev pub members_of : List DiskSeen → ℕ
members_of disks = sum_by (λ (d : DiskSeen). d.kind.members) disks

abbrev pub swap_members : Option DiskSeen → ℕ
swap_members swap = option_map_or (λ (d : DiskSeen). d.kind.members) swap 0

-- How many disks these are, and the swap disk.
abbrev pub member_count : List DiskSeen → Option DiskSeen → ℕ
member_count disks swap = members_of disks + swap_members swap

-- There is a swap disk exactly where there are slots: one disk, with one block for each.
abbrev pub IsSwapFor : ℕ → Option DiskSeen → Type 0
IsSwapFor slots swap = MatchOption swap (slots ≡ 0) (λ d. (0 < slots) × (d.size ≡ slots) × (d.kind.members ≡ 1))

-- Each of these disks is as the rack gave it, and so is the swap disk: nothing was written. A blank disk has its blocks, zeros where it tells, and one by
-- path has what the rack holds for it.
abbrev pub AreAsGiven : (Spec → Option (List (List ℕ))) → List VolumeSpec → List DiskSeen → Type 0
AreAsGiven holds specs disks = (i : ℕ) (s : VolumeSpec) (d : DiskSeen) → slice_get specs i ≡ Some s → slice_get disks i ≡ Some d → IsVolumeAttached holds s d

abbrev pub IsSwapAsGiven : ℕ → Option DiskSeen → Type 0
IsSwapAsGiven slots swap = IfSome swap (λ d. IsAttached (spec.Blank 8 slots) None d)

-- So many of the plan's volumes are handed back, in rising number, and so many of the disks of the next one; and nothing was written.
pub record AreUntouched (plan : PlanSeen) (holds : Spec → Option (List (List ℕ))) (whole apart : ℕ) (disks : List DiskSeen) (swap : Option DiskSeen) : Type 0 where
  pub count : length disks ≡ length (handed_specs plan whole apart)
  pub each : AreAsGiven holds (handed_specs plan whole apart) disks
  pub last : IsSwapAsGiven (amounts_of plan.setup).slots swap

-- Memory lacked: a front of the plan's volumes is handed back, and disks of the next one, and the swap disk or none; with a disk the swap disk too, where
-- there are slots. Nothing was written.
pub record HandsFront (plan : PlanSeen) (holds : Spec → Option (List (List ℕ))) (disks : List DiskSeen) (swap : Option DiskSeen) : Type 0 where
  pub whole : ℕ
  pub apart : ℕ
  pub same : AreUntouched plan holds whole apart disks swap
  pub first : IfSome swap (λ d. (0 < (amounts_of plan.setup).slots) × (d.size ≡ (amounts_of plan.setup).slots) × (d.kind.members ≡ 1))
  pub before : 0 < length disks → IsSwapFor (amounts_of plan.setup).slots swap

-- All of the plan's volumes are handed back, in rising number, each as many disks as its spec says, mirrored where it says so; and the swap disk where there are slots.
pub record HandsAll (plan : PlanSeen) (disks : List DiskSeen) (swap : Option DiskSeen) : Type 0 where
  pub each : HaveSpecSizes (volume_specs plan) disks
  pub kinds : map disk_kind disks ≡ map spec_kind (volume_specs plan)
  pub first : IsSwapFor (amounts_of plan.setup).slots swap

-- The swap disk where there are slots, the volumes whose numbers pass a test, which are a front of the plan's, and so many disks of the next one; and nothing
-- was written.
pub record HandsBelow (plan : PlanSeen) (holds : Spec → Option (List (List ℕ))) (passes : ℕ → Bool) (apart : ℕ) (disks : List DiskSeen) (swap : Option DiskSeen) : Type 0 where
  pub same : AreUntouched plan holds (count_by passes (volume_numbers plan)) apart disks swap
  pub first : IsSwapFor (amounts_of plan.setup).slots swap

-- So many of the disks of a volume of two are handed back, each by itself, and the volumes of lower numbers.
pub record HandsApart (plan : PlanSeen) (holds : Spec → Option (List (List ℕ))) (first second : Spec) (apart : ℕ) (disks : List DiskSeen) (swap : Option DiskSeen) : Type 0 where
  pub mirror : Bool
  pub there : Contains (volume_specs plan) (Joined first second mirror)
  pub handed : HandsBelow plan holds (λ n. nat_lt n (spec_number first)) apart disks swap

-- Nothing was attached.
pub record HandsNone (disks : List DiskSeen) (swap : Option DiskSeen) : Type 0 where
  pub no_disk : disks ≡ []
  pub no_swap : swap ≡ None

-- What is handed back where the rack fails, or a volume's block 0 isn't read. The rack attaches the swap disk, number 8, first, where there are slots, and
-- then the plan's volumes in rising number, each of which is read before the next one is attached; of two disks the second right after the first.
abbrev pub HandsUnracked : PlanSeen → (Spec → Option (List (List ℕ))) → List DiskSeen → Option DiskSeen → ℕ → Type 0
HandsUnracked plan holds disks swap number =
    ((number ≡ 8) × (0 < (amounts_of plan.setup).slots) × HandsNone disks swap)
    ⊎ (Contains (volume_numbers plan) number × HandsBelow plan holds (λ n. nat_lt n number) 0 disks swap)
    ⊎ ((first : Spec) × (second : Spec) × (spec_number second ≡ number) × HandsApart plan holds first second 1 disks swap)

abbrev pub HandsUnread : PlanSeen → (Spec → Option (List (List ℕ))) → List DiskSeen → Option DiskSeen → OpenFaultSeen → Type 0
HandsUnread plan holds disks swap fault =
    MatchOption fault.counts (HandsUnracked plan holds disks swap fault.disk) (λ counts. HandsBelow plan holds (λ n. nat_le n fault.disk) 0 disks swap)

-- None of these disks tells a failure: each whose count is exact has counted none.
pub record AreUncounted (disks : List DiskSeen) (swap : Option DiskSeen) : Type 0 where
  pub each : All (λ (d : DiskSeen). failures_told d ≡ 0) disks
  pub last : IfSome swap (λ d. failures_told d ≡ 0)

-- What a disk has in a block, where it tells.
abbrev pub block_told : Option (List (List ℕ)) → ℕ → Option (List ℕ)
block_told content block = option_map (λ blocks. slice_index_or blocks block []) content

-- The pages that a file's bytes fill don't have this block of the disk of a number.
abbrev pub LiesBeside : ℕ → ℕ → ℕ → Type 0
LiesBeside start count block = (block < start) ⊎ (start + count ≤ block)

abbrev pub SparesBlock : FileInfo → List ℕ → ℕ → ℕ → Type 0
SparesBlock info bytes number block = info.disk ≡ number → LiesBeside (front_block info.extents) (pages_in (length bytes)) block

abbrev pub SpareBlock : List OpenedFile → ℕ → ℕ → Type 0
SpareBlock files number block = All (λ f. SparesBlock f.info f.bytes number block) files

-- The blocks of which this is so, by the volume's number, are as the rack gave them.
abbrev pub AreGivenWhere : PlanSeen → (Spec → Option (List (List ℕ))) → List DiskSeen → (ℕ → ℕ → Type 0) → Type 0
AreGivenWhere plan holds disks P =
    (i : ℕ) (s : VolumeSpec) (d : DiskSeen) → slice_get (volume_specs plan) i ≡ Some s → slice_get disks i ≡ Some d
    → (was : DiskSeen) × IsVolumeAttached holds s was × ((block : ℕ) → P (volume_number s) block → block_told d.content block ≡ block_told was.content block)

-- The disks were written at most where the bytes of these files lie: each other block is as the rack gave it, and so is the swap disk.
pub record AreWrittenAt (plan : PlanSeen) (holds : Spec → Option (List (List ℕ))) (files : List OpenedFile) (disks : List DiskSeen) (swap : Option DiskSeen) : Type 0 where
  pub each : AreGivenWhere plan holds disks (SpareBlock files)
  pub last : IsSwapAsGiven (amounts_of plan.setup).slots swap

-- The volume has the disk of this number.
abbrev pub HasDiskNumbered : ℕ → VolumeSpec → Type 0
HasDiskNumbered number v = (volume_number v ≡ number) ⊎ IsSomeAnd (second_spec v) (λ s. spec_number s ≡ number)

-- No volume that was read before the disk of this number breaks a rule: those before its own have files. The swap disk, number 8, is attached before all.
abbrev pub NoneBreaksBefore : PlanSeen → (Spec → Option (List (List ℕ))) → ℕ → Type 0
NoneBreaksBefore plan holds disk =
    (disk ≡ 8) ⊎ ((before : ℕ) × IsSomeAnd (slice_get (volume_specs plan) before) (HasDiskNumbered disk) × IsOk (mounted_files holds (take before (volume_specs plan))))

-- Some block 0 of a disk of so many blocks breaks this rule of volumes.
abbrev pub HasBadTable : ℕ → ℕ → Type 0
HasBadTable size rule = (block : List ℕ) × (length block ≡ 4096) × (table_of_read block size ≡ Err rule)

-- A volume breaks a rule of volumes, by its size or by a block 0 that was read: it is handed back, last, behind those of lower numbers.
pub record BreaksVolume (plan : PlanSeen) (holds : Spec → Option (List (List ℕ))) (disks : List DiskSeen) (swap : Option DiskSeen) (number rule : ℕ) : Type 0 where
  pub there : Contains (volume_numbers plan) number
  pub handed : HandsBelow plan holds (λ n. nat_le n number) 0 disks swap
  pub front : List DiskSeen
  pub volume : DiskSeen
  pub last : disks ≡ front ++ volume ∷ []
  pub breaks : HasBadTable volume.size rule

-- Two disks of a volume don't serve as one: they are handed back, last, behind the volumes of lower numbers, and the rule is the first that their sizes break.
pub record BreaksSizes (plan : PlanSeen) (holds : Spec → Option (List (List ℕ))) (disks : List DiskSeen) (swap : Option DiskSeen) (r : Refusal) : Type 0 where
  pub first : Spec
  pub second : Spec
  pub handed : HandsApart plan holds first second 2 disks swap
  pub front : List DiskSeen
  pub a : DiskSeen
  pub b : DiskSeen
  pub last : disks ≡ front ++ a ∷ b ∷ []
  pub breaks : option_and_then size_refusal (size_fault (spec_number first, a.size) (spec_number second, b.size)) ≡ Some r

-- Lines of files break a rule over the tables that were read, and the volumes are all handed back.
pub record BreaksLines (plan : PlanSeen) (holds : Spec → Option (List (List ℕ))) (disks : List DiskSeen) (swap : Option DiskSeen) (rule : ℕ) : Type 0 where
  pub handed : HandsAll plan disks swap
  pub same : AreUntouched plan holds (length (volume_specs plan)) 0 disks swap
  pub comes : ComesTo plan holds (sizes_of plan disks) (Err (refusal.Rule rule))

-- What breaks a rule that the disks or the lines of files break, and what is handed back then.
abbrev pub BreaksSo : PlanSeen → (Spec → Option (List (List ℕ))) → List DiskSeen → Option DiskSeen → Refusal → Type 0
BreaksSo plan holds disks swap (refusal.Volume number rule) = BreaksVolume plan holds disks swap number rule ⊎ BreaksSizes plan holds disks swap (refusal.Volume number rule)
BreaksSo plan holds disks swap (refusal.Rule n) = BreaksLines plan holds disks swap n ⊎ BreaksSizes plan holds disks swap (refusal.Rule n)

-- Why a rule that the disks or the lines of files break is told: where each disk that came back tells, it is the first that is broken. Over any disks that
-- of a line is, or the volume that is named breaks the rule of volumes, or the sizes of two disks that are joined do. Nothing was written.
pub record HasRefusalCause (plan : PlanSeen) (holds : Spec → Option (List (List ℕ))) (disks : List DiskSeen) (swap : Option DiskSeen) (r : Refusal) : Type 0 where
  pub told : HaveTold disks swap → opened_files plan holds ≡ Err r
  pub breaks : BreaksSo plan holds disks swap r

-- The rack failed, or block 0 of a disk wasn't read, whose size serves: nothing was written, and where each disk that came back tells, none that was read before breaks a rule.
pub record StopsAttaching (plan : PlanSeen) (holds : Spec → Option (List (List ℕ))) (disks : List DiskSeen) (swap : Option DiskSeen) (fault : OpenFaultSeen) : Type 0 where
  pub handed : HandsUnread plan holds disks swap fault
  pub sized : IfSome fault.counts (λ counts. IfSome (disk_handed plan disks swap fault.disk) (λ d. (2 ≤ d.size) × (d.size ≤ 16384)))
  pub first : HaveTold disks swap → NoneBreaksBefore plan holds fault.disk

-- The counts are those of the disk of this number before and after its last transfer: its count rose in it, and the disk comes back with the later one.
pub record IsCountedBy (plan : PlanSeen) (disks : List DiskSeen) (swap : Option DiskSeen) (number before after : ℕ) : Type 0 where
  pub risen : HasRisen before after
  pub disk : DiskSeen
  pub back : disk_handed plan disks swap number ≡ Some disk
  pub last : after ≡ disk.faults

-- The cause of a fault before the processes ran: the rack counted it in this call, or the disk.
abbrev pub HasOpeningCause : PlanSeen → List DiskSeen → Option DiskSeen → ℕ → ℕ → OpenFaultSeen → Type 0
HasOpeningCause plan disks swap old new fault = MatchOption fault.counts (HasRisen old new) (λ counts. IsCountedBy plan disks swap fault.disk counts.0 counts.1)

-- The cause of a fault once the files had their places: the disk counted it.
abbrev pub HasDiskCause : PlanSeen → List DiskSeen → Option DiskSeen → OpenFaultSeen → Type 0
HasDiskCause plan disks swap fault = MatchOption fault.counts ⊥ (λ counts. IsCountedBy plan disks swap fault.disk counts.0 counts.1)
