-- Disks that are attached, and files that are placed on them, before the processes run. Inside: no clause of `run` cites this.
use Rattle.std.specs.Prelude.{ℕ, ◌≡◌, ◌<◌, ◌≤◌, ◌⊎◌, ◌+◌, List, [], ◌∷◌, length, map, All, Ok, Some, IfSome, IsSome, Option, is_some, option_map, slice_get, slice_index_or, vec_capacity}
use Rattle.std.specs.FinMap as finite
use Rattle.block_device.specs.DiskSeen.{DiskSeen}
use Rattle.block_device.specs.OpenSeen.{OpenFaultSeen}
use Rattle.volume_disks.specs.declared.volume_spec.VolumeSpec.{VolumeSpec}
use Rattle.block_device.specs.declared.numbered.NumberedDisk.{NumberedDisk}
use Rattle.block_device.specs.declared.rack.Spec.{Spec}
use Rattle.volume_format.specs.vnode_files.declared.vnode.FileInfo.{FileInfo}
use Rattle.volume_format.specs.vnode_files.Files.{FilesSeen}
use Rattle.volume_format.specs.vnode_files.Grow.{page_count}
use Rattle.volume_format.specs.vnode_files.Vnode.{fresh_vnode}
use Rattle.vm_report.specs.flat_model.Words.{pages_in}
use Rattle.volume_format.specs.Table.{TableSeen, front_block}
use Rattle.volume_format.specs.Volume.{IsVolumeTable}
use Rattle.vm_report.specs.vm_script.PlanSeen.{PlanSeen}
use Rattle.vm_report.specs.vm_script.Rules.{amounts_of}
use Rattle.volume_files.specs.declared.attaching.Attached.{Attached}
use Rattle.volume_files.specs.declared.stops.OpenStop.{OpenStop}
use Rattle.volume_files.specs.declared.stops.OpenStop.TheVariants as halt
use Rattle.volume_files.specs.declared.stops.HandedBack.{HandedBack}
use Rattle.stored_files.specs.Closed.{StoreFiles, info_at}
use Rattle.volume_files.specs.Handed.{AreWrittenAt, HaveTold, HandsFront, HandsAll, HasDiskCause, HasOpeningCause, block_told}
use Rattle.volume_files.specs.Placing.{filled_pages}
use Rattle.volume_files.specs.Handed.{HasRefusalCause, IsSwapAsGiven, IsSwapFor, StopsAttaching, volume_numbers, sizes_of}
use Rattle.stored_files.specs.Written.{HaveDisks, HaveFirstBlocks, HaveVolumeNames, LieWell, numbered_seen}
use Rattle.volume_files.specs.Opened.{ComesTo, IsVolumeAttached, OpenedFile, volume_number, line_files_of, opened_files, infos_of, opened_bytes_at, table_on, volume_specs}

-- The disks with their numbers, in rising number; the table of each; and the swap disk.
pub record AttachedSeen : Type 0 where
  pub disks : List (ℕ × DiskSeen)
  pub tables : List TableSeen
  pub swap : Option DiskSeen

-- The disks, tables and swap disk of what was attached, as they are seen.
abbrev pub attached_seen : {D : Type 0} → (D → DiskSeen) → Attached D → AttachedSeen
attached_seen seen a = record {
  disks = map (numbered_seen seen) a.disks.items;
  tables = a.tables.items;
  swap = option_map (λ (d : NumberedDisk _). seen d.disk) a.swap;
}

-- The disks without their numbers.
abbrev pub bare_disks : List (ℕ × DiskSeen) → List DiskSeen
bare_disks disks = map (λ (d : ℕ × DiskSeen). d.1) disks

-- There is room for the disks to be started with and to be handed back.
pub record HasRooms {D : Type 0} (a : Attached D) : Type 0 where
  pub no_numbered : a.numbered.items ≡ []
  pub numbered : length a.disks.items ≤ vec_capacity a.numbered
  pub none_back : a.back.items ≡ []
  pub back : length a.disks.items ≤ vec_capacity a.back

-- A volume was attached; it has 2 to 16,384 blocks; and where it tells, block 0 says this table.
pub record IsMounted (holds : Spec → Option (List (List ℕ))) (s : VolumeSpec) (d : ℕ × DiskSeen) (t : TableSeen) : Type 0 where
  pub number : d.0 ≡ volume_number s
  pub attached : IsVolumeAttached holds s d.1
  pub some : 2 ≤ d.1.size
  pub few : d.1.size ≤ 16384
  pub blocks : t.blocks ≡ d.1.size
  pub volume : IsVolumeTable t
  pub read : IfSome d.1.content (λ blocks. table_on blocks ≡ Ok t)

-- The volume of each of these specs was attached, in their order, and each table is the one that
-- its block 0 says, where that tells.
abbrev pub AreMounted : (Spec → Option (List (List ℕ))) → List VolumeSpec → List (ℕ × DiskSeen) → List TableSeen → Type 0
AreMounted holds [] [] [] = Unit {0}
AreMounted holds (s ∷ specs) (d ∷ disks) (t ∷ tables) = IsMounted holds s d t × AreMounted holds specs disks tables
AreMounted holds specs disks tables = ⊥

-- ALL DISKS OF A PLAN ARE ATTACHED, the swap disk too where there are slots.
pub record AreAttached (plan : PlanSeen) (holds : Spec → Option (List (List ℕ))) (a : AttachedSeen) : Type 0 where
  pub mounted : AreMounted holds (volume_specs plan) a.disks a.tables
  pub swap : IsSwapFor (amounts_of plan.setup).slots a.swap
  pub blank : IsSwapAsGiven (amounts_of plan.setup).slots a.swap

-- A disk failed as pages of files were written: no rule is broken, and nothing else was written.
pub record StopsWriting (plan : PlanSeen) (holds : Spec → Option (List (List ℕ))) (disks : List DiskSeen) (swap : Option DiskSeen) (fault : OpenFaultSeen) : Type 0 where
  pub cause : HasDiskCause plan disks swap fault
  pub files : List OpenedFile
  pub handed : HandsAll plan disks swap
  pub given : ComesTo plan holds (sizes_of plan disks) (Ok files)
  pub written : AreWrittenAt plan holds (line_files_of given.found files) disks swap
  pub opened : HaveTold disks swap → opened_files plan holds ≡ Ok files

-- Why the files weren't opened: a rule is broken, a disk or the rack failed, or memory lacked; the
-- disks so far are handed back.
abbrev pub StopCause : PlanSeen → (Spec → Option (List (List ℕ))) → ℕ → ℕ → List DiskSeen → Option DiskSeen → OpenStop → Type 0
StopCause plan holds rack_old rack_new disks swap (halt.Refused r) = HasRefusalCause plan holds disks swap r
StopCause plan holds rack_old rack_new disks swap (halt.Failed f) =
    (HasOpeningCause plan disks swap rack_old rack_new f × StopsAttaching plan holds disks swap f) ⊎ StopsWriting plan holds disks swap f
StopCause plan holds rack_old rack_new disks swap halt.Memory = HandsFront plan holds disks swap

-- What is handed back where the files weren't opened, as it is seen, agrees with why they weren't.
abbrev pub StopsEarly : {D : Type 0} → PlanSeen → (Spec → Option (List (List ℕ))) → ℕ → ℕ → (D → DiskSeen) → HandedBack D → Type 0
StopsEarly plan holds rack_old rack_new seen s = StopCause plan holds rack_old rack_new (map seen s.disks.items) (option_map seen s.swap) s.why

-- A file's bytes are bytes, as many as its record says.
pub record HasItsBytes (f : OpenedFile) : Type 0 where
  pub count : length f.bytes ≡ f.info.length
  pub bytes : All (λ b. b < 256) f.bytes

-- Each disk on which a file lies tells.
abbrev pub FileDisksTell : List FileInfo → List (ℕ × DiskSeen) → Type 0
FileDisksTell infos disks = (i k : ℕ) (disk : ℕ × DiskSeen) → slice_get disks i ≡ Some disk → k < length infos → (info_at infos k).disk ≡ disk.0 → IsSome disk.1.content

-- A block of the disk of this number has a page that one of these files' bytes fill: the last page
-- with zeros behind them.
pub record HasFilledPage (files : List OpenedFile) (number : ℕ) (content : Option (List (List ℕ))) (block : ℕ) : Type 0 where
  pub k : ℕ
  pub file : OpenedFile
  pub there : slice_get files k ≡ Some file
  pub on_disk : file.info.disk ≡ number
  pub page : ℕ
  pub within : page < pages_in (length file.bytes)
  pub in_block : block ≡ front_block file.info.extents + page
  pub has : block_told content block ≡ Some (slice_index_or (filled_pages file.bytes) page [])

-- A disk tells where it told, and each of its blocks is as it was or has a page of one of these
-- files.
pub record IsFilledBy (files : List OpenedFile) (number : ℕ) (was now : DiskSeen) : Type 0 where
  pub tells : is_some now.content ≡ is_some was.content
  pub each : (block : ℕ) → (block_told now.content block ≡ block_told was.content block) ⊎ HasFilledPage files number now.content block

-- Each of these disks tells where it was told when attached, and its blocks are as then, or have
-- pages of these files.
abbrev pub AreFilledBy : PlanSeen → (Spec → Option (List (List ℕ))) → List OpenedFile → List DiskSeen → Type 0
AreFilledBy plan holds files disks =
    (i : ℕ) (s : VolumeSpec) (d : DiskSeen) → slice_get (volume_specs plan) i ≡ Some s → slice_get disks i ≡ Some d
    → (was : DiskSeen) × IsVolumeAttached holds s was × IsFilledBy files (volume_number s) was d

-- ALL FILES ARE PLACED: their records, on disks that are there; where the disks tell, as the set-up rules say; and each disk that tells has their bytes.
pub record ArePlaced (plan : PlanSeen) (holds : Spec → Option (List (List ℕ))) (files : List OpenedFile) (a : AttachedSeen) (made : FilesSeen) : Type 0 where
  pub numbers : map (λ (d : ℕ × DiskSeen). d.0) a.disks ≡ volume_numbers plan
  pub handed : HandsAll plan (bare_disks a.disks) a.swap
  pub sizes : made.disks ≡ finite.from_entries (map (λ (d : ℕ × DiskSeen). (d.0, d.1.size)) a.disks)
  pub fresh : made.files ≡ map fresh_vnode (infos_of files)
  pub well : LieWell made
  pub have : HaveDisks made a.disks
  pub some : HaveFirstBlocks a.disks
  pub names : HaveVolumeNames (infos_of files)
  pub own : All HasItsBytes files
  pub kept : All (λ f. 1 ≤ page_count f.info.extents) files
  pub given : ComesTo plan holds (map (λ (d : ℕ × DiskSeen). (d.0, d.1.size)) a.disks) (Ok files)
  pub written : AreWrittenAt plan holds (line_files_of given.found files) (bare_disks a.disks) a.swap
  pub filled : AreFilledBy plan holds (line_files_of given.found files) (bare_disks a.disks)
  pub told : All (λ (d : DiskSeen). IsSome d.content) (bare_disks a.disks) → opened_files plan holds ≡ Ok files
  pub stored : StoreFiles a.disks (infos_of files) (opened_bytes_at files)
