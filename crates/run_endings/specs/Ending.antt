-- How a run ends, and what follows for its status, its fault and the line that it prints last. Public clauses cite this.
use Rattle.std.specs.Prelude.{ℕ, List, [], codes, decimal, ◌++◌, ◌∷◌, Option, Some, None}
use Rattle.volume_files.specs.block_device.OpenSeen.{OpenFaultSeen}
use Rattle.volume_files.specs.vm_report.Faults.{usage_text, read_fault_text, script_fault_text, setup_fault_text, volume_fault_text, disk_fault_text, rack_fault_text}
use Rattle.volume_files.specs.declared.stops.OpenStop.{OpenStop}
use Rattle.volume_files.specs.declared.stops.OpenStop.TheVariants as halt
use Rattle.volume_files.specs.declared.stops.Refusal.{Refusal}
use Rattle.volume_files.specs.declared.stops.Refusal.TheVariants as refusal
use Rattle.trace_check.specs.declared.verdict.Verdict.TheVariants as verdict
use Rattle.run_endings.specs.declared.ending.TraceAnswer.{TraceAnswer}
use Rattle.run_endings.specs.declared.ending.TraceAnswer.TheVariants as answer
use Rattle.run_endings.specs.declared.ending.TraceEnd.{TraceEnd}
use Rattle.run_endings.specs.declared.ending.TraceEnd.TheVariants as ends
use Rattle.run_endings.specs.declared.inquiry_end.InquiryEnd.{InquiryEnd}
use Rattle.run_endings.specs.declared.inquiry_end.InquiryEnd.TheVariants as inquired
use Rattle.run_endings.specs.declared.ending.Ending.{Ending}
use Rattle.run_endings.specs.declared.ending.Ending.TheVariants as ending
use Rattle.run_endings.specs.declared.fault.RunFault.{RunFault}
use Rattle.run_endings.specs.declared.fault.RunFault.TheVariants as fault

-- The ending of a run whose files weren't opened.
abbrev pub ending_of : OpenStop → Ending
ending_of halt.Memory = ending.Memory
ending_of (halt.Refused r) = ending.Refused r
ending_of (halt.Failed f) = ending.Opening f

-- A run ends with its whole report, or for want of memory: nothing failed.
abbrev pub IsQuiet : Ending → Type 0
IsQuiet ending.Whole = Unit {0}
IsQuiet ending.Memory = Unit {0}
IsQuiet how = ⊥

-- The status of a check: 0 and 9 tell a verdict, 3 a bad line or a trace that is too long, 6 a sink
-- that failed.
abbrev pub trace_status : TraceEnd → ℕ
trace_status (ends.Told (answer.Verdict (verdict.Legal n))) = 0
trace_status (ends.Told (answer.Verdict (verdict.First k))) = 9
trace_status (ends.Told (answer.Fault f)) = 3
trace_status (ends.Told answer.Long) = 3
trace_status ends.Sink = 6

-- The status with which a run ends.
-- The status of an inquiry about the program itself: 0 where its text was told.
abbrev pub inquiry_status : InquiryEnd → ℕ
inquiry_status (inquired.Told q) = 0
inquiry_status (inquired.Sink q) = 6

abbrev pub status_of : Ending → ℕ
status_of ending.Whole = 0
status_of ending.Usage = 2
status_of (ending.NoScript f) = 3
status_of (ending.Refused r) = 4
status_of ending.NotRead = 5
status_of ending.OpeningSink = 6
status_of ending.Sink = 6
status_of (ending.Opening f) = 7
status_of (ending.Closing f) = 7
status_of (ending.Showing f) = 7
status_of ending.Memory = 8
status_of (ending.Checked t) = trace_status t
status_of (ending.Informed t) = inquiry_status t

-- The fault of a device that ended a run, if one did.
abbrev pub fault_of : Ending → Option RunFault
fault_of (ending.Opening f) = Some (fault.Opening f)
fault_of (ending.Closing f) = Some (fault.Closing f)
fault_of (ending.Showing f) = Some (fault.Showing f)
fault_of how = None

-- The line of an answer to a trace.
abbrev pub answer_text : TraceAnswer → List ℕ
answer_text (answer.Verdict (verdict.Legal n)) = codes "trace: legal " ++ decimal n ++ 10 ∷ []
answer_text (answer.Verdict (verdict.First k)) = codes "trace: entry " ++ decimal k ++ 10 ∷ []
answer_text (answer.Fault f) = codes "trace: line " ++ decimal f.line ++ 10 ∷ []
answer_text answer.Long = codes "trace: long" ++ 10 ∷ []

-- The line of a refusal: of a set-up rule, or of a rule of volumes and the disk.
abbrev pub refusal_line : Refusal → List ℕ
refusal_line (refusal.Rule n) = setup_fault_text n
refusal_line (refusal.Volume disk rule) = volume_fault_text disk rule

-- The line of a fault before the processes ran: the disk's, or the rack's where there are no counts.
abbrev pub opening_fault_line : OpenFaultSeen → List ℕ
opening_fault_line f = elim f.counts [
  | None ↦ rack_fault_text f.disk
  | Some counts ↦ disk_fault_text f.disk counts.0 counts.1
]

-- The line that a run prints last; a report and a checked trace end without one, and so does a run whose sink failed or that lacked memory. That of a fault in
-- closing stands with the process sections.
abbrev pub last_line_of : Ending → List ℕ
last_line_of ending.Usage = usage_text
last_line_of (ending.NoScript f) = script_fault_text f
last_line_of (ending.Refused r) = refusal_line r
last_line_of ending.NotRead = read_fault_text
last_line_of (ending.Opening f) = opening_fault_line f
last_line_of (ending.Showing f) = disk_fault_text f.disk f.before f.after
last_line_of how = []
