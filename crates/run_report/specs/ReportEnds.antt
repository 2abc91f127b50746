-- How the report of a run ends. Inside: no clause of `run` cites this.
use Rattle.std.specs.Prelude.{ℕ, ◌≡◌, ◌⊎◌, ◌++◌, Bool, false, true, List, [], Option, Some, None, Result, Ok, Err}
use Rattle.volume_files.specs.vm_types.declared.call.Entry.{Entry}
use Rattle.volume_files.specs.block_device.Counts.{HasRisen}
use Rattle.volume_files.specs.block_device.DiskSeen.{DiskSeen}
use Rattle.volume_files.specs.block_device.StreamSeen.{SinkSeen}
use Rattle.volume_files.specs.block_device.declared.disk_fault.DiskFault.{DiskFault}
use Rattle.volume_files.specs.vnode_files.declared.vnode.FileInfo.{FileInfo}
use Rattle.volume_files.specs.vm_report.Faults.{disk_fault_text}
use Rattle.volume_files.specs.vm_script.PlanSeen.{PlanSeen}
use Rattle.run_endings.specs.Ending.{IsQuiet}
use Rattle.run_endings.specs.declared.ending.Ending.{Ending}
use Rattle.run_endings.specs.declared.ending.Ending.TheVariants as ending
use Rattle.command_line.specs.declared.options.Options.{Options}
use Rattle.volume_files.specs.stored_files.declared.showing.Heading.TheVariants.{Report}
use Rattle.volume_files.specs.stored_files.declared.showing.ShowStop.{ShowStop}
use Rattle.volume_files.specs.stored_files.declared.showing.ShowStop.TheVariants as show
use Rattle.volume_files.specs.stored_files.Closed.{SayTables}
use Rattle.volume_files.specs.stored_files.Uncut.{counts_of}
use Rattle.volume_files.specs.stored_files.Texts.{Wrote, WroteFront, WroteOn, WrotePart, IsPageUnread, sections_before}
use Rattle.run_report.specs.AskedTexts.{files_or_none, middle_text}
use Rattle.volume_files.specs.stored_files.Written.{AreFilesBytes, AreOnlyRead, IsCountedSince, WriteTables, WroteTablesAt, WroteTablesTo, disk_fault_counts}

-- This holds where a step was done or lacked memory; not where a sink or a disk failed.
abbrev pub UnlessEnded : {T : Type 0} → Result T Ending → Type 0 → Type 0
UnlessEnded (Ok done) P = P
UnlessEnded (Err ending.Memory) P = P
UnlessEnded (Err how) P = Unit {0}

-- How the report of files ended that were closed: all of it, or a front where memory lacked, or a front that isn't all of it where the sink failed, or all
-- up to a page that wasn't read.
abbrev pub ShowEnds : Options → PlanSeen → List Entry → List FileInfo → SinkSeen → SinkSeen → List (ℕ × DiskSeen) → List (ℕ × DiskSeen) → Ending → Type 0
ShowEnds o plan H infos k0 k1 old new ending.Whole =
    (bytes : ℕ → List ℕ) × AreFilesBytes infos old bytes × Wrote k0 k1 (middle_text o plan H ++ files_or_none o.make infos bytes)
ShowEnds o plan H infos k0 k1 old new ending.Sink =
    HasRisen k0.faults k1.faults
    × ((bytes : ℕ → List ℕ) × AreFilesBytes infos old bytes × WrotePart k0 k1 (middle_text o plan H ++ files_or_none o.make infos bytes))
ShowEnds o plan H infos k0 k1 old new (ending.Showing f) =
    IsCountedSince old new (disk_fault_counts f)
    × ((bytes : ℕ → List ℕ) × (file : ℕ) × (page : ℕ) × AreFilesBytes infos old bytes × IsPageUnread infos file page f.disk
    × (o.make ≡ None) × Wrote k0 k1 (middle_text o plan H ++ sections_before Report infos bytes file page))
ShowEnds o plan H infos k0 k1 old new ending.Memory =
    (bytes : ℕ → List ℕ) × AreFilesBytes infos old bytes × WroteFront k0 k1 (middle_text o plan H ++ files_or_none o.make infos bytes)
ShowEnds o plan H infos k0 k1 old new how = ⊥

-- How a report ends where a transfer failed as the files were closed: its line was written, or
-- memory lacked and nothing was.
abbrev pub CloseFails : Options → PlanSeen → List Entry → DiskFault → SinkSeen → SinkSeen → Ending → Type 0
CloseFails o plan H f k0 k1 (ending.Closing g) = (g ≡ f) × WroteOn k0 k1 [] (middle_text o plan H ++ disk_fault_text f.disk f.before f.after)
CloseFails o plan H f k0 k1 ending.Memory = Wrote k0 k1 []
CloseFails o plan H f k0 k1 how = ⊥

-- The tables of all disks were written, then the files were shown, and the report ended as their
-- showing does. Neither the whole report nor want of memory hides a failure that a disk tells.
pub record ShowsClosed (o : Options) (plan : PlanSeen) (H : List Entry) (infos : List FileInfo) (k0 k1 : SinkSeen) (old new : List (ℕ × DiskSeen)) (how : Ending) : Type 0 where
  pub mid : List (ℕ × DiskSeen)
  pub writes : WriteTables old mid
  pub tables : SayTables mid infos
  pub reads : AreOnlyRead mid new
  pub uncounted : IsQuiet how → counts_of new ≡ counts_of old
  pub ends : ShowEnds o plan H infos k0 k1 mid new how

-- A disk failed as its table was written, and the report ends as a closing that failed.
pub record FailsTable (o : Options) (plan : PlanSeen) (H : List Entry) (infos : List FileInfo) (k0 k1 : SinkSeen) (old new : List (ℕ × DiskSeen)) (how : Ending) : Type 0 where
  pub fault : DiskFault
  pub counted : IsCountedSince old new (disk_fault_counts fault)
  pub writes : WriteTables old new
  pub tables : WroteTablesTo infos counted.i old new
  pub ends : CloseFails o plan H fault k0 k1 how

-- How far tables were written where memory lacked: up to a place and nothing else, or up to that of
-- a disk whose last transfer failed.
abbrev pub TablesLeft : List FileInfo → List (ℕ × DiskSeen) → List (ℕ × DiskSeen) → Type 0
TablesLeft infos old new =
    ((place : ℕ) × WroteTablesAt infos place old new)
    ⊎ ((fault : DiskFault) × (c : IsCountedSince old new (disk_fault_counts fault)) × WroteTablesTo infos c.i old new)

-- Memory lacked for a table: tables were written up to a place, and no text.
pub record LacksTable (infos : List FileInfo) (k0 k1 : SinkSeen) (old new : List (ℕ × DiskSeen)) (how : Ending) : Type 0 where
  pub memory : how ≡ ending.Memory
  pub writes : WriteTables old new
  pub tables : TablesLeft infos old new
  pub wrote : Wrote k0 k1 []

-- How a report ends where all lines were made and no transfer failed: files shown, a table's disk
-- failed, or memory lacked for a table.
abbrev pub TablesEnd : Options → PlanSeen → List Entry → List FileInfo → SinkSeen → SinkSeen → List (ℕ × DiskSeen) → List (ℕ × DiskSeen) → Ending → Type 0
TablesEnd o plan H infos k0 k1 old new how =
    ShowsClosed o plan H infos k0 k1 old new how ⊎ FailsTable o plan H infos k0 k1 old new how ⊎ LacksTable infos k0 k1 old new how

-- How a run ends that was closed, by whether all lines were made and by the transfer that failed, if one did; then no table is written.
abbrev pub CloseEnds : Bool → Option DiskFault → Options → PlanSeen → List Entry → List FileInfo → SinkSeen → SinkSeen → List (ℕ × DiskSeen) → List (ℕ × DiskSeen) → Ending → Type 0
CloseEnds false (Some f) o plan H infos k0 k1 old new how = (new ≡ old) × LacksTable infos k0 k1 old new how
CloseEnds false None o plan H infos k0 k1 old new how = LacksTable infos k0 k1 old new how
CloseEnds true (Some f) o plan H infos k0 k1 old new how = (new ≡ old) × CloseFails o plan H f k0 k1 how
CloseEnds true None o plan H infos k0 k1 old new how = TablesEnd o plan H infos k0 k1 old new how

-- Why the text before the files wasn't written, or not all of it.
abbrev pub MiddleStops : List ℕ → SinkSeen → SinkSeen → Ending → Type 0
MiddleStops text k0 k1 ending.Memory = WroteFront k0 k1 text
MiddleStops text k0 k1 ending.Sink = HasRisen k0.faults k1.faults × WrotePart k0 k1 text
MiddleStops text k0 k1 how = ⊥

-- The text was written, but for a rest that is kept back.
pub record KeptBack (k0 k1 : SinkSeen) (text rest : List ℕ) : Type 0 where
  pub sent : List ℕ
  pub wrote : Wrote k0 k1 sent
  pub whole : sent ++ rest ≡ text

-- The ending of a run that stopped as the files were shown.
abbrev pub showing_stop : ShowStop DiskFault → Ending
showing_stop show.Memory = ending.Memory
showing_stop show.Sink = ending.Sink
showing_stop (show.Fault f) = ending.Showing f
