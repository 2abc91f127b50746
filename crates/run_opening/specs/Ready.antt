-- When the processes can run, and how the opening part of a trace is written. Inside: no clause of `run` cites this.
use Rattle.std.specs.Prelude.{ℕ, ◌≡◌, ◌++◌, true, List, length, Some, None, Result, Ok, Err, slice_get}
use Rattle.volume_files.specs.block_device.Counts.{HasRisen}
use Rattle.volume_files.specs.block_device.DiskSeen.{DiskSeen}
use Rattle.volume_files.specs.block_device.StreamSeen.{SinkSeen}
use Rattle.volume_files.specs.vnode_files.Files.{FilesSeen}
use Rattle.volume_files.specs.vm_script.PlanSeen.{PlanSeen}
use Rattle.volume_files.specs.vm_script.Rules.{broken_rule}
use Rattle.run_endings.specs.declared.ending.Ending.{Ending}
use Rattle.run_endings.specs.declared.ending.Ending.TheVariants as ending
use Rattle.command_line.specs.declared.options.Options.{Options}
use Rattle.volume_files.specs.block_device.OpenSeen.{OpenFaultSeen}
use Rattle.volume_files.specs.stored_files.declared.showing.Heading.TheVariants.{Trace}
use Rattle.volume_files.specs.stored_files.declared.showing.ShowStop.{ShowStop}
use Rattle.volume_files.specs.stored_files.declared.showing.ShowStop.TheVariants as show
use Rattle.run_input.specs.Asked.{Given, Asked, WasAsked}
use Rattle.volume_files.specs.Attached.{AttachedSeen, ArePlaced, FileDisksTell, bare_disks}
use Rattle.volume_files.specs.Opened.{OpenedFile, infos_of, numbered_plan}
use Rattle.run_input.specs.Reading.{IsPlayable}
use Rattle.run_outcome.specs.Run.{opening_part}
use Rattle.volume_files.specs.stored_files.Texts.{Wrote, WroteFront, WrotePart, IsPageUnread, sections_before, trace_front}
use Rattle.run_report.specs.AskedTexts.{trace_opening}
use Rattle.volume_files.specs.stored_files.Written.{IsCountedSince, disk_sizes, open_fault_counts}

-- Bytes of the files, each as long as its record says; where the files' disks tell, those with which the files are opened.
pub record AreReadBytes (files : List OpenedFile) (disks : List (ℕ × DiskSeen)) (bytes : ℕ → List ℕ) : Type 0 where
  pub lengths : (k : ℕ) (f : OpenedFile) → slice_get files k ≡ Some f → length (bytes k) ≡ f.info.length
  pub told : FileDisksTell (infos_of files) disks → (k : ℕ) (f : OpenedFile) → slice_get files k ≡ Some f → bytes k ≡ f.bytes

-- THE PROCESSES CAN RUN: what was asked, the files as they were placed, and the opening part of the trace, which was written where it was asked for.
pub record IsReady (g : Given) (k0 k1 : SinkSeen) (what : Asked) (files : List OpenedFile) (bytes : ℕ → List ℕ) (a : AttachedSeen) (made : FilesSeen) (plan : PlanSeen) : Type 0 where
  pub asked : WasAsked g (Ok what)
  pub placed : ArePlaced what.plan g.holds files a made
  pub numbered : plan ≡ numbered_plan files what.plan
  pub rules : broken_rule plan ≡ None
  pub playable : IsPlayable plan
  pub read : AreReadBytes files a.disks bytes
  pub wrote : Wrote k0 k1 (opening_part what files (bare_disks a.disks) bytes)

-- The ending of a run whose trace stopped in its opening part.
abbrev pub opening_stop : ShowStop OpenFaultSeen → Ending
opening_stop show.Memory = ending.Memory
opening_stop show.Sink = ending.OpeningSink
opening_stop (show.Fault f) = ending.Opening f

-- Why the opening part of a trace wasn't written, and how much of it was; the files' bytes are
-- those that were read.
abbrev pub TraceStops : Options → PlanSeen → List OpenedFile → (ℕ → List ℕ) → SinkSeen → SinkSeen → List (ℕ × DiskSeen) → List (ℕ × DiskSeen) → Ending → Type 0
TraceStops o plan files bytes k0 k1 old new ending.Memory = WroteFront k0 k1 (trace_opening o plan (disk_sizes old) (infos_of files) bytes)
TraceStops o plan files bytes k0 k1 old new ending.OpeningSink =
    HasRisen k0.faults k1.faults × WrotePart k0 k1 (trace_opening o plan (disk_sizes old) (infos_of files) bytes)
TraceStops o plan files bytes k0 k1 old new (ending.Opening f) =
    (o.trace ≡ true) × IsCountedSince old new (open_fault_counts f)
    × ((file : ℕ) × (page : ℕ) × IsPageUnread (infos_of files) file page f.disk × Wrote k0 k1 (trace_front plan (disk_sizes old) ++ sections_before Trace (infos_of files) bytes file page))
TraceStops o plan files bytes k0 k1 old new how = ⊥

-- The opening part of a trace was written, where one was asked for; or why it wasn't, with what
-- was.
abbrev pub Traces : Options → PlanSeen → List OpenedFile → (ℕ → List ℕ) → SinkSeen → SinkSeen → List (ℕ × DiskSeen) → List (ℕ × DiskSeen) → Result (Unit {0}) Ending → Type 0
Traces o plan files bytes k0 k1 old new (Ok done) = Wrote k0 k1 (trace_opening o plan (disk_sizes old) (infos_of files) bytes)
Traces o plan files bytes k0 k1 old new (Err how) = TraceStops o plan files bytes k0 k1 old new how
