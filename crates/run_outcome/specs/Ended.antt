-- How a run ended, as its caller sees it: its history and its disks. Public clauses cite this.
use Rattle.std.specs.Prelude.{ℕ, ◌≡◌, ◌≤◌, List, map, Option, Some, None, IsSomeAnd, slice_get, slice_index_or, option_map}
use Rattle.volume_files.specs.vm_types.declared.call.Entry.{Entry}
use Rattle.volume_files.specs.vm_types.declared.call.Reply.TheVariants.{Io}
use Rattle.volume_files.specs.block_device.DiskSeen.{DiskSeen}
use Rattle.volume_files.specs.block_device.declared.disk_fault.DiskFault.{DiskFault}
use Rattle.vm_core.specs.kernel_close.Finish.{HistorySeen}
use Rattle.volume_files.specs.vm_script.PlanSeen.{PlanSeen}
use Rattle.volume_files.specs.Handed.{IsCountedBy, disk_handed, volumes_of}
use Rattle.run_outcome.specs.declared.stop.Stop.{Stop}
use Rattle.run_endings.specs.declared.fault.RunFault.{RunFault}
use Rattle.run_outcome.specs.declared.outcome.Outcome.{Outcome}

-- A run that ended: its status and fault, the history, the disks in rising number, and the swap disk.
pub record End : Type 0 where
  pub status : ℕ
  pub fault : Option RunFault
  pub history : HistorySeen
  pub disks : List DiskSeen
  pub swap : Option DiskSeen

-- An outcome as it is seen, by what is seen of its disks.
abbrev pub end_of : {D : Type 0} → (D → DiskSeen) → Outcome D → End
end_of seen o = record { status = o.status; fault = o.fault; history = o.history; disks = map seen o.disks.items; swap = option_map seen o.swap }

-- The cause of a fault after the processes ran: the disk counted it, and not before its count stood as the history tells.
pub record HasLateCause (plan : PlanSeen) (history : HistorySeen) (disks : List DiskSeen) (swap : Option DiskSeen) (fault : DiskFault) : Type 0 where
  pub counted : IsCountedBy plan disks swap fault.disk fault.before fault.after
  pub since : (count : ℕ) × (slice_index_or history.faults fault.disk None ≡ Some count) × (count ≤ fault.before)

-- The disk that a device error of the history names is one that comes back, and it had counted what the error names before the closing began: the history
-- tells as high a count of it at least, and it counted no fewer now.
abbrev pub CountsReach : PlanSeen → HistorySeen → List DiskSeen → Option DiskSeen → Type 0
CountsReach plan history disks swap =
    (k : ℕ) (e : Entry) (number before after : ℕ) → slice_get history.entries k ≡ Some e → e.reply ≡ Io number before after
    → (count : ℕ) × (slice_index_or history.faults number None ≡ Some count) × (after ≤ count) × IsSomeAnd (disk_handed plan disks swap number) (λ d. count ≤ d.faults)

-- THE HISTORY'S COUNTS ARE THOSE OF THE DISKS: of each that comes back it tells one, and the disk counted no fewer now; and of the swap disk, which the closing
-- doesn't touch, just as many as it counted, or none where there is no swap disk.
pub record HasCountsOf (plan : PlanSeen) (history : HistorySeen) (disks : List DiskSeen) (swap : Option DiskSeen) : Type 0 where
  pub each : (i : ℕ) (d : ℕ × DiskSeen) → slice_get (volumes_of plan disks) i ≡ Some d → IsSomeAnd (slice_index_or history.faults d.0 None) (λ count. count ≤ d.1.faults)
  pub last : slice_index_or history.faults 8 None ≡ option_map (λ (d : DiskSeen). d.faults) swap

-- A run that stopped, but for its status and fault.
abbrev pub stop_end : {D : Type 0} → (D → DiskSeen) → Stop D → End
stop_end seen s = record { status = 0; fault = None; history = s.history; disks = map seen s.disks.items; swap = option_map seen s.swap }
