-- What a run says to a user, beside its clauses. Public clauses cite this.
use Rattle.std.specs.Prelude.{ℕ, ◌≡◌, ◌+◌, ◌⊎◌, is_some, List, [], length, Option, Some, None, Ok, if◌then◌else◌}
use Rattle.volume_files.specs.block_device.DiskSeen.{DiskSeen}
use Rattle.volume_files.specs.joined_disk.JoinedSeen.{IsBoth}
use Rattle.volume_files.specs.vm_script.Told.{ToldFront}
use Rattle.volume_files.specs.stored_files.Closed.{SayTables, StoreFiles, flat_bytes}
use Rattle.volume_files.specs.Handed.{volumes_of}
use Rattle.volume_files.specs.Opened.{OpenedFile}
use Rattle.volume_files.specs.volume_disks.Singles.{as_single}
use Rattle.volume_files.specs.volume_disks.declared.volume_spec.VolumeSpec.{VolumeSpec}
use Rattle.volume_files.specs.volume_disks.declared.volume_spec.VolumeSpec.TheVariants.{Plain, Joined}
use Rattle.trace_check.specs.declared.verdict.Verdict.TheVariants as verdict
use Rattle.command_line.specs.declared.inquiry.Inquiry.{Inquiry}
use Rattle.run_endings.specs.declared.inquiry_end.InquiryEnd.TheVariants as told
use Rattle.run_endings.specs.declared.ending.TraceAnswer.TheVariants as answer
use Rattle.run_endings.specs.declared.ending.TraceEnd.TheVariants as ends
use Rattle.run_input.specs.Asked.{Asked, Given, WasAsked}
use Rattle.run_outcome.specs.Ended.{End}
use Rattle.run_outcome.specs.Run.{ChecksTrace, Course, EndsWhole, Informs, Outside, flat_closed, plan_opened}

-- How many disks come back, the swap disk among them.
abbrev pub disks_back : End → ℕ
disks_back e = length e.disks + (if is_some e.swap then 1 else 0)

-- A volume is what the plan asks: one disk, or two of as many blocks, mirrored or striped as it
-- says.
abbrev pub IsAsAsked : VolumeSpec → DiskSeen × Option DiskSeen → DiskSeen → Type 0
IsAsAsked (Plain s) disks volume = (disks.1 ≡ None) × (volume ≡ as_single disks.0)
IsAsAsked (Joined s t mirror) disks volume =
    (b : DiskSeen) × (disks.1 ≡ Some b) × (disks.0.size ≡ b.size) × IsBoth mirror (as_single disks.0) (as_single b) volume

-- Neither source nor rack nor sink counted a fault.
pub record NothingFailed (o : Outside) : Type 0 where
  pub source : o.source_new ≡ o.source_old
  pub rack : o.rack_new ≡ o.rack_old
  pub sink : o.sink_new.faults ≡ o.sink_old.faults

-- The whole report was written and nothing failed, or a trace was checked that is legal, or what was
-- asked of the program itself was told.
abbrev pub WroteAll : Given → Outside → End → Type 0
WroteAll g o e =
    (EndsWhole g o e × NothingFailed o)
    ⊎ ((count : ℕ) × ChecksTrace g o e (ends.Told (answer.Verdict (verdict.Legal count))))
    ⊎ ((q : Inquiry) × Informs g o e (told.Told q))

-- The history is empty, or each block of the plan that was asked which was born made a front of its
-- lines.
abbrev pub RanFronts : Given → End → Type 0
RanFronts g e =
    (e.history.entries ≡ [])
    ⊎ ((what : Asked) × (files : List OpenedFile) × WasAsked g (Ok what) × ToldFront (plan_opened what files) e.history.entries)

-- The disks have the files as the history leaves them, each with a table that says where.
pub record KeepFiles (e : End) : Type 0 where
  pub course : Course
  pub tables : SayTables (volumes_of course.what.plan e.disks) course.infos
  pub stored : StoreFiles (volumes_of course.what.plan e.disks) course.infos (flat_bytes (flat_closed course.what course.files e.disks e.history.entries).files)
