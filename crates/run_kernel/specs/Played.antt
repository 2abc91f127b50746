-- A kernel that is started, and what it leaves once its processes ran. Inside: no clause of `run` cites this.
use Rattle.std.specs.Prelude.{ℕ, suc, [], ◌∷◌, ◌≡◌, ◌<◌, ◌≤◌, ◌^◌, ◌⊎◌, ◌+◌, List, Bool, IsTrue, length, map, sum_by, All, Some, None, IfNone, IfSome, Option, option_map, slice_get, slice_index_or, IsSome}
use Rattle.volume_files.specs.vm_types.declared.call.Entry.{Entry}
use Rattle.volume_files.specs.vm_types.declared.call.Reply.TheVariants.{Io}
use Rattle.volume_files.specs.vm_types.WellFormed.{IsWellFormed}
use Rattle.volume_files.specs.block_device.DiskSeen.{DiskSeen}
use Rattle.volume_files.specs.block_device.declared.disk_fault.DiskFault.{DiskFault}
use Rattle.volume_files.specs.flat_model.Counted.{Counted}
use Rattle.volume_files.specs.flat_model.Flat.{Flat}
use Rattle.volume_files.specs.flat_model.History.{Legal, replay}
use Rattle.vm_core.specs.page_hash.declared.PageName.{PageName}
use Rattle.vm_core.specs.page_store.Bays.{BaySeen, bay_at, bay_of, pairs_seen}
use Rattle.volume_files.specs.vnode_files.Files.{FilesSeen}
use Rattle.volume_files.specs.vnode_files.Vnode.{VnodeSeen}
use Rattle.vm_core.specs.kernel_close.declared.finish.Finished.{Finished}
use Rattle.vm_core.specs.kernel_close.Finish.{HistorySeen, disks_of}
use Rattle.volume_files.specs.vm_script.Counts.{entry_count}
use Rattle.volume_files.specs.vm_script.PlanSeen.{PlanSeen}
use Rattle.volume_files.specs.vm_script.Processes.{kernel_parents}
use Rattle.volume_files.specs.vm_script.Told.{Told, ToldFront, own_lines}
use Rattle.volume_files.specs.flat_model.Shapes.{RefusesAsDue}
use Rattle.vm_core.specs.vm_world.DiskPlaces.{disk_fixed, seen_in}
use Rattle.vm_core.specs.vm_world.Events.{FollowsHistory, IsSince}
use Rattle.vm_core.specs.vm_world.Opening.{IsOpening, no_seats}
use Rattle.vm_core.specs.vm_world.State.{KernelState, room_of, mode_of}
use Rattle.vm_core.specs.vm_world.StateFits.{StateFits}
use Rattle.vm_kernel.specs.declared.starting.Room.{Room}
use Rattle.vm_core.specs.vm_world.mark_laws.HeldBlocks.{HoldsHistory}
use Rattle.vm_core.specs.vm_world.mark_laws.Pages.{disk_place}
use Rattle.volume_files.specs.Attached.{bare_disks}
use Rattle.volume_files.specs.stored_files.Closed.{StoreFiles, infos_in_flat, flat_bytes}
use Rattle.volume_files.specs.Handed.{HaveTold}
use Rattle.volume_files.specs.stored_files.Written.{infos_made, LieWell, HaveDisks, HaveExtents, HasLastFault, disk_fault_counts}
use Rattle.vm_core.specs.page_store.Notes.{no_notes}
use Rattle.volume_files.specs.vm_script.Rules.{amounts_of}

-- Each process may make as many entries as its lines need, and all together not many.
pub record HasRoomForPlan (plan : PlanSeen) (entries : List ℕ) : Type 0 where
  pub each : (p : ℕ) → entry_count (own_lines plan p) ≤ room_of entries p
  pub all : sum_by (λ n. n) entries ≤ 1048576

-- Whom a kernel's callers are for: the processes from the k-th on, with the most entries of each, and behind them the clock, which makes none.
abbrev pub rooms_from : ℕ → List ℕ → List Room
rooms_from k [] = record { process = 0; entries = 0 } ∷ []
rooms_from k (most ∷ entries) = record { process = suc k; entries = most } ∷ rooms_from (suc k) entries

-- A KERNEL AT THE START: nothing happened yet; it fits this flat memory, and follows its history from there whatever disks tell; it has the plan's processes, frames, translations and slots, these disks, the
-- swap disk and the files.
pub record IsStarted (plan : PlanSeen) (F : Flat) (disks : List (ℕ × DiskSeen)) (swap : Option DiskSeen) (files : FilesSeen) (s : KernelState) : Type 0 where
  pub opening : IsOpening s
  pub fits : StateFits F s no_seats
  pub follows : FollowsHistory F s
  pub parents : s.parents ≡ kernel_parents plan
  pub rooms : HasRoomForPlan plan s.entries
  pub blocks : length (kernel_parents plan) ≤ 64
  pub count : length s.entries ≡ length (kernel_parents plan)
  pub seats : length s.syncs ≡ length (kernel_parents plan) + 1
  pub racked : disks_of s.memory.world ≡ disks
  pub swapped : bay_at s.memory.world.store.bays 8 ≡ bay_of swap
  pub placed : s.memory.world.files ≡ files
  pub frames : length s.memory.world.store.frames ≡ (amounts_of plan.setup).frames
  pub translations : length s.memory.world.hat.places ≡ (amounts_of plan.setup).translations
  pub slots : length s.memory.world.anon.counts ≡ (amounts_of plan.setup).slots
  pub well : LieWell files
  pub have : HaveDisks files disks

-- THE PROCESSES PLAYED THEIR PARTS from one state to another, in which no seat has anything outside: the other follows from the first by events alone, and
-- its history tells a front of each block's lines, and where `whole`, all of them.
pub record HasPlayed (plan : PlanSeen) (s t : KernelState) (whole : Bool) : Type 0 where
  pub since : IsSince s t no_seats
  pub told : IsTrue whole → Told plan t.history
  pub front : ToldFront plan t.history
  pub formed : All (λ (e : Entry). IsWellFormed e.call) t.history
  pub few : length t.history < 2 ^ 32

-- What a kernel left.
pub record LeftSeen : Type 0 where
  pub history : HistorySeen
  pub files : FilesSeen
  pub disks : List (ℕ × DiskSeen)
  pub swap : Option DiskSeen
  pub fault : Option DiskFault

-- What a closed kernel left as it is seen, by what is seen of its disks.
abbrev pub left_seen : {D : Type 0} → (D → DiskSeen) → Finished D → LeftSeen
left_seen seen f = record { history = f.history; files = f.files; disks = pairs_seen seen f.disks.items; swap = option_map seen f.swap; fault = f.fault }

-- The disk of a number, among those of files and that of the swap slots, which has number 8.
abbrev pub IsDiskOf : List (ℕ × DiskSeen) → Option DiskSeen → ℕ → DiskSeen → Type 0
IsDiskOf disks swap number d = ((i : ℕ) × (slice_get disks i ≡ Some (number, d))) ⊎ ((number ≡ 8) × (swap ≡ Some d))

-- Disks came back that went: with their numbers, in their order, their sizes and their kinds; and one that tells told before.
pub record DisksCameBack (old new : List (ℕ × DiskSeen)) : Type 0 where
  pub count : length new ≡ length old
  pub numbers : map (λ (d : ℕ × DiskSeen). d.0) new ≡ map (λ (d : ℕ × DiskSeen). d.0) old
  pub sizes : map (λ (d : ℕ × DiskSeen). d.1.size) new ≡ map (λ (d : ℕ × DiskSeen). d.1.size) old
  pub kinds : map (λ (d : ℕ × DiskSeen). d.1.kind) new ≡ map (λ (d : ℕ × DiskSeen). d.1.kind) old
  pub told : (i : ℕ) (d e : ℕ × DiskSeen) → slice_get old i ≡ Some d → slice_get new i ≡ Some e → IsSome e.1.content → IsSome d.1.content

-- The swap disk came back with its size and its kind, where there was one, and tells where it told.
abbrev pub SwapCameBack : BaySeen → Option DiskSeen → Type 0
SwapCameBack old new = option_map disk_fixed new ≡ seen_in disk_fixed old no_notes

-- Each disk holds the history, where it told and tells.
abbrev pub HoldTheHistory : Flat → List Entry → List (ℕ × DiskSeen) → List (ℕ × DiskSeen) → Type 0
HoldTheHistory F H old new =
    (i : ℕ) (d e : ℕ × DiskSeen) (given now : List (List ℕ)) → slice_get old i ≡ Some d → slice_get new i ≡ Some e
    → d.1.content ≡ Some given → e.1.content ≡ Some now → HoldsHistory F H e.0 e.1.faults given now

-- Each disk has the block 0 that it had.
abbrev pub KeepFirstBlocks : List (ℕ × DiskSeen) → List (ℕ × DiskSeen) → Type 0
KeepFirstBlocks old new =
    (i : ℕ) (d e : ℕ × DiskSeen) (given now : List (List ℕ)) → slice_get old i ≡ Some d → slice_get new i ≡ Some e
    → d.1.content ≡ Some given → e.1.content ≡ Some now → slice_index_or now 0 [] ≡ slice_index_or given 0 []

-- A fault that ended the closing: that of the last transfer of a disk, which had counted no fewer faults than the history tells.
pub record IsClosingFault (l : LeftSeen) (f : DiskFault) : Type 0 where
  pub disk : ℕ × DiskSeen
  pub there : (i : ℕ) × (slice_get l.disks i ≡ Some disk)
  pub count : ℕ
  pub told : slice_index_or l.history.faults f.disk None ≡ Some count
  pub fault : HasLastFault count disk (disk_fault_counts f)

-- WHAT A KERNEL LEAVES that was started with flat memory F: a history that is legal, and has what was due, the files as the history leaves them, and the disks.
pub record KernelLeaves (F : Flat) (s : KernelState) (l : LeftSeen) : Type 0 where
  pub legal : HaveTold (bare_disks l.disks) l.swap → Legal F l.history.entries
  pub refusals : RefusesAsDue F l.history.entries
  pub formed : All (λ (e : Entry). IsWellFormed e.call) l.history.entries
  pub few : length l.history.entries < 2 ^ 32
  pub counted : Counted l.history.entries
  pub reached : (k : ℕ) (e : Entry) (number before after : ℕ) → slice_get l.history.entries k ≡ Some e → e.reply ≡ Io number before after
      → (count : ℕ) × (slice_index_or l.history.faults number None ≡ Some count) × (after ≤ count) × ((d : DiskSeen) × IsDiskOf l.disks l.swap number d × (count ≤ d.faults))
  pub modes : map mode_of l.files.files ≡ map mode_of s.memory.world.files.files
  pub lie : LieWell l.files
  pub have : HaveDisks l.files l.disks
  pub extents : HaveExtents (infos_made l.files)
  pub infos : infos_made l.files ≡ infos_in_flat (map (λ (v : VnodeSeen). v.info.name) l.files.files) (replay F l.history.entries).files
  pub stored : IfNone l.fault (HaveTold (bare_disks l.disks) l.swap → StoreFiles l.disks (infos_made l.files) (flat_bytes (replay F l.history.entries).files))
  pub first : HaveTold (bare_disks l.disks) l.swap → KeepFirstBlocks (disks_of s.memory.world) l.disks
  pub held : HaveTold (bare_disks l.disks) l.swap → HoldTheHistory F l.history.entries (disks_of s.memory.world) l.disks
  pub places : HaveTold (bare_disks l.disks) l.swap → (name : PageName) (disk block : ℕ) → disk_place (replay F l.history.entries) name ≡ Some (disk, block) → 1 ≤ block
  pub fault : IfSome l.fault (IsClosingFault l)
  pub counts : (i : ℕ) (d : ℕ × DiskSeen) → slice_get l.disks i ≡ Some d → (count : ℕ) × (slice_index_or l.history.faults d.0 None ≡ Some count) × (count ≤ d.1.faults)
  pub swapped : slice_index_or l.history.faults 8 None ≡ option_map (λ (d : DiskSeen). d.faults) l.swap
  pub disks : DisksCameBack (disks_of s.memory.world) l.disks
  pub swap : SwapCameBack (bay_at s.memory.world.store.bays 8) l.swap
