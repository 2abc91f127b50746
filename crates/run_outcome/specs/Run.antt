-- HOW A RUN ENDED, case by case. Public clauses cite this.
use Rattle.std.specs.Prelude.{ℕ, ◌≡◌, ◌≢◌, ◌+◌, ◌≤◌, ◌<◌, ◌⊎◌, true, List, [], ◌++◌, length, slice_get, IfSome, IsSome, IsTrue, Option, Some, None, Ok, Err}
use Rattle.volume_files.specs.vm_types.declared.call.Entry.{Entry}
use Rattle.volume_files.specs.block_device.Counts.{HasRisen}
use Rattle.volume_files.specs.block_device.DiskSeen.{DiskSeen}
use Rattle.volume_files.specs.block_device.OpenSeen.{OpenFaultSeen}
use Rattle.volume_files.specs.block_device.RackSeen.{RackSeen}
use Rattle.volume_files.specs.block_device.StreamSeen.{SinkSeen, SourceSeen}
use Rattle.volume_files.specs.block_device.declared.disk_fault.DiskFault.{DiskFault}
use Rattle.volume_files.specs.flat_model.Counted.{Counted}
use Rattle.volume_files.specs.flat_model.Flat.{Flat}
use Rattle.volume_files.specs.flat_model.History.{Legal, replay}
use Rattle.volume_files.specs.flat_model.Shapes.{RefusesAsDue}
use Rattle.volume_files.specs.vnode_files.declared.vnode.FileInfo.{FileInfo}
use Rattle.volume_files.specs.vm_report.Faults.{disk_fault_text}
use Rattle.volume_files.specs.vm_script.PlanSeen.{PlanSeen}
use Rattle.volume_files.specs.vm_script.Told.{Told, ToldFront}
use Rattle.volume_files.specs.declared.stops.Refusal.{Refusal}
use Rattle.run_endings.specs.declared.ending.Ending.{Ending}
use Rattle.run_endings.specs.declared.ending.Ending.TheVariants as ending
use Rattle.trace_check.specs.Checks.{IsTextFor}
use Rattle.trace_check.specs.declared.verdict.Verdict.TheVariants as verdict
use Rattle.printed_traces.specs.Printed.{printed_text}
use Rattle.run_endings.specs.declared.ending.TraceAnswer.{TraceAnswer}
use Rattle.run_endings.specs.declared.ending.TraceAnswer.TheVariants as answer
use Rattle.run_endings.specs.declared.ending.TraceEnd.{TraceEnd}
use Rattle.run_endings.specs.declared.ending.TraceEnd.TheVariants as ends
use Rattle.run_endings.specs.declared.inquiry_end.InquiryEnd.{InquiryEnd}
use Rattle.run_endings.specs.declared.inquiry_end.InquiryEnd.TheVariants as inquired
use Rattle.run_endings.specs.declared.fault.RunFault.{RunFault}
use Rattle.run_endings.specs.declared.fault.RunFault.TheVariants as fault
use Rattle.volume_files.specs.stored_files.declared.showing.Heading.TheVariants.{Report, Trace}
use Rattle.run_input.specs.Asked.{Given, Asked, FailsToRead, WasAsked, run_request}
use Rattle.volume_files.specs.stored_files.Closed.{StoreFiles, SaysItsTable, SayTables, infos_in_flat, flat_bytes, modes_in}
use Rattle.run_endings.specs.Ending.{IsQuiet, status_of, fault_of, last_line_of}
use Rattle.run_outcome.specs.Ended.{End, HasLateCause, CountsReach, HasCountsOf}
use Rattle.run_outcome.specs.OnDisks.{HoldHistory}
use Rattle.volume_files.specs.Handed.{AreGivenWhere, AreUncounted, AreWrittenAt, HaveTold, HandsNone, HandsFront, HandsAll, HasDiskCause, HasOpeningCause, HasRefusalCause, StopsAttaching, volumes_of, sizes_of, member_count}
use Rattle.volume_files.specs.Opened.{line_files_of, ComesTo, OpenedFile, opened_files, infos_of, names_of, numbered_plan, opening_flat}
use Rattle.volume_files.specs.stored_files.Texts.{Wrote, WroteAndFront, WroteAndPart, WroteFront, WroteOn, WrotePart, IsPageUnread, sections_before, trace_front}
use Rattle.run_report.specs.AskedTexts.{files_or_none, middle_text, trace_opening}
use Rattle.run_input.specs.TraceChecks.{AnswersText, WasChecked, WroteAnswer, StopsInAnswer, most_trace_bytes}
use Rattle.run_input.specs.Inquired.{WasInquired, WroteInquiry, StopsInInquiry}
use Rattle.command_line.specs.declared.inquiry.Inquiry.{Inquiry}

-- What the outside has seen of a run: the counts of faults of source and rack before and after it, how many disks the rack had attached, and the sink.
pub record Outside : Type 0 where
  pub source_old : ℕ
  pub source_new : ℕ
  pub rack_old : ℕ
  pub rack_new : ℕ
  pub attached_old : ℕ
  pub attached_new : ℕ
  pub sink_old : SinkSeen
  pub sink_new : SinkSeen

-- What the outside has seen, by what was seen of source, rack and sink before and after a run.
abbrev pub outside_of : SourceSeen → SourceSeen → RackSeen → RackSeen → SinkSeen → SinkSeen → Outside
outside_of s0 s1 r0 r1 k0 k1 = record {
  source_old = s0.faults;
  source_new = s1.faults;
  rack_old = r0.faults;
  rack_new = r1.faults;
  attached_old = r0.attached;
  attached_new = r1.attached;
  sink_old = k0;
  sink_new = k1;
}

-- What is said of how a text and the last line behind it were written.
abbrev pub Writing : Type 1
Writing = List ℕ → List ℕ → Type 0

-- As a run has ended: the text was written, and the line behind it as far as the sink took it.
abbrev pub wrote_all : Outside → Writing
wrote_all o text line = WroteOn o.sink_old o.sink_new text line

-- Before its last line: the text was written.
abbrev pub wrote_before : Outside → Writing
wrote_before o text line = Wrote o.sink_old o.sink_new text

-- Each disk that came back tells its blocks.
abbrev pub DisksTell : End → Type 0
DisksTell e = HaveTold e.disks e.swap

-- The processes never ran: the history is empty.
pub record HasNoHistory (e : End) : Type 0 where
  pub entries : e.history.entries ≡ []
  pub counts : e.history.faults ≡ []

-- Nothing was attached, and the line of the ending was printed, as far as the sink took it.
pub record EndsBare (W : Writing) (how : Ending) (e : End) : Type 0 where
  pub none : HandsNone e.disks e.swap
  pub history : HasNoHistory e
  pub wrote : W [] (last_line_of how)

-- A disk, or the lines of the files, break a set-up rule; no disk was written.
pub record BreaksRule (g : Given) (W : Writing) (r : Refusal) (e : End) : Type 0 where
  pub what : Asked
  pub asked : WasAsked g (Ok what)
  pub history : HasNoHistory e
  pub cause : HasRefusalCause what.plan g.holds e.disks e.swap r
  pub wrote : W [] (last_line_of (ending.Refused r))

-- The bytes of files that were read from the disks, each as long as its record says; where the disks tell, those of the files as they are opened.
pub record AreOpenedBytes (g : Given) (what : Asked) (files : List OpenedFile) (e : End) (bytes : ℕ → List ℕ) : Type 0 where
  pub lengths : (k : ℕ) (f : OpenedFile) → slice_get files k ≡ Some f → length (bytes k) ≡ f.info.length
  pub told : DisksTell e → (k : ℕ) (f : OpenedFile) → slice_get files k ≡ Some f → bytes k ≡ f.bytes

-- What was asked, and how the files were opened. Over any disks they are those of the tables that were read and then those of the script's lines, and no
-- set-up rule is broken; where the disks tell, they are the very files by the set-up rules.
pub record IsOpened (g : Given) (what : Asked) (files : List OpenedFile) (e : End) : Type 0 where
  pub asked : WasAsked g (Ok what)
  pub handed : HandsAll what.plan e.disks e.swap
  pub given : ComesTo what.plan g.holds (sizes_of what.plan e.disks) (Ok files)
  pub opened : DisksTell e → opened_files what.plan g.holds ≡ Ok files

-- No call was made yet: the disks were written at most where the bytes of the files of the script's lines lie.
abbrev pub WroteLines : (g : Given) (what : Asked) (files : List OpenedFile) {sizes : List (ℕ × ℕ)} → ComesTo what.plan g.holds sizes (Ok files) → End → Type 0
WroteLines g what files c e = AreWrittenAt what.plan g.holds (line_files_of c.found files) e.disks e.swap

-- The text is a trace up to the place of a page that wasn't read from this disk.
abbrev pub IsTraceText : Asked → List OpenedFile → List DiskSeen → ℕ → (ℕ → List ℕ) → List ℕ → Type 0
IsTraceText what files disks disk bytes text =
    (file : ℕ) × (page : ℕ) × (what.options.trace ≡ true) × IsPageUnread (infos_of files) file page disk
    × (text ≡ trace_front what.plan (sizes_of what.plan disks) ++ sections_before Trace (infos_of files) bytes file page)

-- What was printed before a fault of this disk that came once the files had their places: nothing, or
-- a trace up to the place of a page that wasn't read from it.
abbrev pub IsOpeningText : Given → Asked → List OpenedFile → End → ℕ → List ℕ → Type 0
IsOpeningText g what files e disk text =
    (text ≡ []) ⊎ ((bytes : ℕ → List ℕ) × AreOpenedBytes g what files e bytes × IsTraceText what files e.disks disk bytes text)

-- The rack failed, or a disk as its table was read; no disk was written.
pub record FailsToAttach (g : Given) (o : Outside) (W : Writing) (fault : OpenFaultSeen) (e : End) : Type 0 where
  pub what : Asked
  pub asked : WasAsked g (Ok what)
  pub history : HasNoHistory e
  pub cause : HasOpeningCause what.plan e.disks e.swap o.rack_old o.rack_new fault
  pub stopped : StopsAttaching what.plan g.holds e.disks e.swap fault
  pub wrote : W [] (last_line_of (ending.Opening fault))

-- A disk failed as pages of files were written to it, or read from it for the trace. No set-up rule is broken.
pub record FailsToPlace (g : Given) (W : Writing) (fault : OpenFaultSeen) (e : End) : Type 0 where
  pub what : Asked
  pub files : List OpenedFile
  pub text : List ℕ
  pub opened : IsOpened g what files e
  pub written : WroteLines g what files opened.given e
  pub history : HasNoHistory e
  pub cause : HasDiskCause what.plan e.disks e.swap fault
  pub before : IsOpeningText g what files e fault.disk text
  pub wrote : W text (last_line_of (ending.Opening fault))

-- A disk or the rack failed before the processes ran.
abbrev pub FailsToOpen : Given → Outside → Writing → OpenFaultSeen → End → Type 0
FailsToOpen g o W fault e = FailsToAttach g o W fault e ⊎ FailsToPlace g W fault e

-- The opening part of the trace.
abbrev pub opening_part : Asked → List OpenedFile → List DiskSeen → (ℕ → List ℕ) → List ℕ
opening_part what files disks bytes = trace_opening what.options what.plan (sizes_of what.plan disks) (infos_of files) bytes

-- The sink failed in the opening part of the trace.
pub record StopsInTrace (g : Given) (o : Outside) (e : End) : Type 0 where
  pub what : Asked
  pub files : List OpenedFile
  pub bytes : ℕ → List ℕ
  pub opened : IsOpened g what files e
  pub written : WroteLines g what files opened.given e
  pub history : HasNoHistory e
  pub read : AreOpenedBytes g what files e bytes
  pub cause : HasRisen o.sink_old.faults o.sink_new.faults
  pub wrote : WrotePart o.sink_old o.sink_new (opening_part what files e.disks bytes)

-- Flat memory as the processes find it.
abbrev pub flat_opened : Asked → List OpenedFile → List DiskSeen → Flat
flat_opened what files disks = opening_flat what.plan (sizes_of what.plan disks) files

-- The plan with its files by their numbers.
abbrev pub plan_opened : Asked → List OpenedFile → PlanSeen
plan_opened what files = numbered_plan files what.plan

-- Flat memory after the history.
abbrev pub flat_closed : Asked → List OpenedFile → List DiskSeen → List Entry → Flat
flat_closed what files disks H = replay (flat_opened what files disks) H

-- What a trace of the run tells: the opening part, and the history.
abbrev pub traced_text : Asked → List OpenedFile → (ℕ → List ℕ) → End → List ℕ
traced_text what files bytes e = printed_text what.plan (sizes_of what.plan e.disks) files bytes e.history.entries

-- THE RUN BEGAN. Where the disks tell, the history is legal for flat memory as the processes find it,
-- and a trace of both is a text that stands for them. Whatever they tell, each of its entries, device
-- errors aside, has the signal or errno that flat memory calls due, or none where none is. Each of its
-- device errors names a fault that its disk had counted before the closing began, by the counts that
-- the history tells, which are the disks'. And where the disks tell, all their blocks but block 0, and
-- but as many of those that files keep as the disk counted faults, are as the rack gave them or have
-- the page that a file keeps there, as it was after a front of the history; and each that a file keeps
-- holds such a front.
pub record Begun (g : Given) (what : Asked) (files : List OpenedFile) (bytes : ℕ → List ℕ) (e : End) : Type 0 where
  pub opened : IsOpened g what files e
  pub read : AreOpenedBytes g what files e bytes
  pub legal : DisksTell e → Legal (flat_opened what files e.disks) e.history.entries
  pub traced : DisksTell e → IsTextFor (traced_text what files bytes e) (flat_opened what files e.disks) e.history.entries
  pub refusals : RefusesAsDue (flat_opened what files e.disks) e.history.entries
  pub counted : Counted e.history.entries
  pub reached : CountsReach what.plan e.history e.disks e.swap
  pub counts : HasCountsOf what.plan e.history e.disks e.swap
  pub held : DisksTell e → HoldHistory what.plan g.holds (flat_opened what files e.disks) e.history.entries e.disks

-- The disks have its files: those with which it began, by name, disk and mode. Their records, lengths among them, are those of flat memory after the history,
-- whatever disks tell; and where these tell, so are the bytes that they have.
pub record LeavesFiles (g : Given) (what : Asked) (files : List OpenedFile) (infos : List FileInfo) (e : End) : Type 0 where
  pub modes : modes_in infos ≡ modes_in (infos_of files)
  pub records : infos ≡ infos_in_flat (names_of files) (flat_closed what files e.disks e.history.entries).files
  pub stored : DisksTell e → StoreFiles (volumes_of what.plan e.disks) infos (flat_bytes (flat_closed what files e.disks e.history.entries).files)

-- ITS FILES WERE CLOSED: the disks have them, and block 0 of each disk says the table of its files.
pub record ClosesFiles (g : Given) (what : Asked) (files : List OpenedFile) (infos : List FileInfo) (e : End) : Type 0 where
  pub left : LeavesFiles g what files infos e
  pub tables : SayTables (volumes_of what.plan e.disks) infos

-- No table was written: where the disks tell, block 0 of each is as the rack gave it.
abbrev pub WroteNoTable : Given → Asked → End → Type 0
WroteNoTable g what e = DisksTell e → AreGivenWhere what.plan g.holds e.disks (λ number block. block ≡ 0)

-- THE TABLES WERE WRITTEN UP TO THE DISK of this number, in rising number, and the disks have the files: each disk of a lower number says the table of its
-- files; and where the disks tell, block 0 of each of a higher one is as the rack gave it.
pub record WroteTablesBelow (g : Given) (what : Asked) (files : List OpenedFile) (infos : List FileInfo) (number : ℕ) (e : End) : Type 0 where
  pub left : LeavesFiles g what files infos e
  pub below : (i : ℕ) (d : ℕ × DiskSeen) → slice_get (volumes_of what.plan e.disks) i ≡ Some d → d.0 < number → SaysItsTable infos d
  pub above : DisksTell e → AreGivenWhere what.plan g.holds e.disks (λ n block. (number < n) × (block ≡ 0))

-- THE TABLES WERE WRITTEN BELOW THIS NUMBER AND NOTHING ELSE: as much; and where the disks tell, block 0 of the disk of the number itself is as the rack gave it, too.
pub record WroteTablesAlone (g : Given) (what : Asked) (files : List OpenedFile) (infos : List FileInfo) (number : ℕ) (e : End) : Type 0 where
  pub written : WroteTablesBelow g what files infos number e
  pub next : DisksTell e → AreGivenWhere what.plan g.holds e.disks (λ n block. (n ≡ number) × (block ≡ 0))

-- The bytes of the files that were read back, each as long as its record says; where the disks tell, those of flat memory after the history.
pub record AreClosedBytes (g : Given) (what : Asked) (files : List OpenedFile) (infos : List FileInfo) (e : End) (bytes : ℕ → List ℕ) : Type 0 where
  pub lengths : (k : ℕ) (i : FileInfo) → slice_get infos k ≡ Some i → length (bytes k) ≡ i.length
  pub told : DisksTell e → (k : ℕ) (i : FileInfo) → slice_get infos k ≡ Some i
      → bytes k ≡ flat_bytes (flat_closed what files e.disks e.history.entries).files k

-- What was asked, how it was opened, and how it was closed and read back.
pub record Course : Type 0 where
  pub what : Asked
  pub files : List OpenedFile
  pub bytes : ℕ → List ℕ
  pub infos : List FileInfo
  pub shown : ℕ → List ℕ

-- The opening part of its text.
abbrev pub opening_of : Course → End → List ℕ
opening_of c e = opening_part c.what c.files e.disks c.bytes

-- What stands between the opening part and the files.
abbrev pub middle_of : Course → End → List ℕ
middle_of c e = middle_text c.what.options (plan_opened c.what c.files) e.history.entries

-- The report: what stands before the files, and the files, where they are asked for.
abbrev pub report_of : Course → End → List ℕ
report_of c e = middle_of c e ++ files_or_none c.what.options.make c.infos c.shown

-- The whole text of a run: the opening part, and the report.
abbrev pub whole_text : Course → End → List ℕ
whole_text c e = opening_of c e ++ report_of c e

-- The run began, and each process did its lines, once and in order.
pub record RunsThrough (g : Given) (c : Course) (e : End) : Type 0 where
  pub begun : Begun g c.what c.files c.bytes e
  pub told : Told (plan_opened c.what c.files) e.history.entries

-- It ran through, its files were closed, and they were read back.
pub record WasShown (g : Given) (c : Course) (e : End) : Type 0 where
  pub runs : RunsThrough g c e
  pub closed : ClosesFiles g c.what c.files c.infos e
  pub shown : AreClosedBytes g c.what c.files c.infos e c.shown

-- The run was shown, and its whole text was written.
pub record EndsWhole (g : Given) (o : Outside) (e : End) : Type 0 where
  pub course : Course
  pub shown : WasShown g course e
  pub wrote : Wrote o.sink_old o.sink_new (whole_text course e)

-- The sink failed in the report. The files were closed before, and the opening part was written whole.
pub record EndsInReport (g : Given) (o : Outside) (e : End) : Type 0 where
  pub course : Course
  pub shown : WasShown g course e
  pub cause : HasRisen o.sink_old.faults o.sink_new.faults
  pub wrote : WroteAndPart o.sink_old o.sink_new (opening_of course e) (report_of course e)

-- A disk failed as the files were closed: as a page was written, and then no table was; or as its table was, once all pages were. The line of the fault
-- stands in place of the files.
pub record FailsToClose (g : Given) (o : Outside) (fault : DiskFault) (e : End) : Type 0 where
  pub course : Course
  pub runs : RunsThrough g course e
  pub cause : HasLateCause course.what.plan e.history e.disks e.swap fault
  pub tables : WroteNoTable g course.what e ⊎ WroteTablesBelow g course.what course.files course.infos fault.disk e
  pub wrote : WroteOn o.sink_old o.sink_new (opening_of course e) (middle_of course e ++ disk_fault_text fault.disk fault.before fault.after)

-- A disk failed as a page of a file was read back.
pub record FailsToShow (g : Given) (W : Writing) (fault : DiskFault) (e : End) : Type 0 where
  pub course : Course
  pub file : ℕ
  pub page : ℕ
  pub shown : WasShown g course e
  pub cause : HasLateCause course.what.plan e.history e.disks e.swap fault
  pub place : IsPageUnread course.infos file page fault.disk
  pub none : course.what.options.make ≡ None
  pub wrote : W (opening_of course e ++ (middle_of course e ++ sections_before Report course.infos course.shown file page)) (last_line_of (ending.Showing fault))

-- Memory lacked before anything was attached, and nothing was written.
pub record LacksBare (o : Outside) (e : End) : Type 0 where
  pub none : HandsNone e.disks e.swap
  pub history : HasNoHistory e
  pub wrote : Wrote o.sink_old o.sink_new []

-- Memory lacked before the processes ran, with a front of the volumes attached, and no disk had
-- failed, as far as their counts tell. Nothing was written.
pub record LacksOpening (g : Given) (o : Outside) (e : End) : Type 0 where
  pub what : Asked
  pub asked : WasAsked g (Ok what)
  pub handed : HandsFront what.plan g.holds e.disks e.swap
  pub counted : AreUncounted e.disks e.swap
  pub history : HasNoHistory e
  pub wrote : Wrote o.sink_old o.sink_new []

-- Memory lacked before the processes ran, once the files had their places, and no disk had failed, as
-- far as their counts tell. A front of the opening part of the trace was written.
pub record LacksInTrace (g : Given) (o : Outside) (e : End) : Type 0 where
  pub what : Asked
  pub files : List OpenedFile
  pub bytes : ℕ → List ℕ
  pub opened : IsOpened g what files e
  pub written : WroteLines g what files opened.given e
  pub counted : AreUncounted e.disks e.swap
  pub history : HasNoHistory e
  pub read : AreOpenedBytes g what files e bytes
  pub wrote : WroteFront o.sink_old o.sink_new (opening_part what files e.disks bytes)

-- Memory lacked as they ran or later: each process did a front of its lines, and the kernel was closed all the same. The disks have the files as the history
-- leaves them, and the tables were written below a number, and nothing else; or a disk failed since: as a page was written, and then no table was, or as its
-- table was, and then those of lower numbers were. The opening part was written whole; behind it a front of the report, but only where each process did all its
-- lines, and the files were closed and read back.
pub record LacksLate (g : Given) (o : Outside) (e : End) : Type 0 where
  pub course : Course
  pub begun : Begun g course.what course.files course.bytes e
  pub told : ToldFront (plan_opened course.what course.files) e.history.entries
  pub left : ((number : ℕ) × WroteTablesAlone g course.what course.files course.infos number e)
      ⊎ ((fault : DiskFault) × HasLateCause course.what.plan e.history e.disks e.swap fault
      × (WroteNoTable g course.what e ⊎ WroteTablesBelow g course.what course.files course.infos fault.disk e))
  pub wrote : Wrote o.sink_old o.sink_new (opening_of course e) ⊎ (WasShown g course e × WroteAndFront o.sink_old o.sink_new (opening_of course e) (report_of course e))

-- Memory lacked, in one of four phases of a run.
abbrev pub Lacks : Given → Outside → End → Type 0
Lacks g o e = LacksBare o e ⊎ LacksOpening g o e ⊎ LacksInTrace g o e ⊎ LacksLate g o e

-- A trace was checked in place of a script: nothing was attached, and of the answer's line this was
-- written.
pub record HasChecked (g : Given) (o : Outside) (a : TraceAnswer) (e : End) (P : SinkSeen → SinkSeen → TraceAnswer → Type 0) : Type 0 where
  pub answer : WasChecked g a
  pub none : HandsNone e.disks e.swap
  pub history : HasNoHistory e
  pub wrote : P o.sink_old o.sink_new a

-- A TRACE WAS CHECKED: the answer's line was written; or the sink failed in a verdict.
abbrev pub ChecksTrace : Given → Outside → End → TraceEnd → Type 0
ChecksTrace g o e (ends.Told a) = HasChecked g o a e WroteAnswer
ChecksTrace g o e ends.Sink = (a : TraceAnswer) × HasChecked g o a e StopsInAnswer

-- THE PROGRAM WAS ASKED ABOUT ITSELF in place of a run: nothing was attached, and the text that was asked for was written; or the sink failed in it.
pub record HasInformed (g : Given) (o : Outside) (q : Inquiry) (e : End) (P : SinkSeen → SinkSeen → Inquiry → Type 0) : Type 0 where
  pub asked : WasInquired g q
  pub none : HandsNone e.disks e.swap
  pub history : HasNoHistory e
  pub wrote : P o.sink_old o.sink_new q

-- How the program told of itself.
abbrev pub Informs : Given → Outside → End → InquiryEnd → Type 0
Informs g o e (inquired.Told q) = HasInformed g o q e WroteInquiry
Informs g o e (inquired.Sink q) = HasInformed g o q e StopsInInquiry

-- WHAT EACH ENDING SAYS of the run, with what is said of how its text was written.
abbrev pub CaseOf : Given → Outside → Writing → End → Ending → Type 0
CaseOf g o W e ending.Whole = EndsWhole g o e
CaseOf g o W e ending.Usage = WasAsked g (Err ending.Usage) × EndsBare W ending.Usage e
CaseOf g o W e (ending.NoScript f) = WasAsked g (Err (ending.NoScript f)) × EndsBare W (ending.NoScript f) e
CaseOf g o W e (ending.Refused r) = (WasAsked g (Err (ending.Refused r)) × EndsBare W (ending.Refused r) e) ⊎ BreaksRule g W r e
CaseOf g o W e ending.NotRead = FailsToRead g o.source_old o.source_new × EndsBare W ending.NotRead e
CaseOf g o W e ending.OpeningSink = StopsInTrace g o e
CaseOf g o W e ending.Sink = EndsInReport g o e
CaseOf g o W e (ending.Opening f) = FailsToOpen g o W f e
CaseOf g o W e (ending.Closing f) = FailsToClose g o f e
CaseOf g o W e (ending.Showing f) = FailsToShow g W f e
CaseOf g o W e ending.Memory = Lacks g o e
CaseOf g o W e (ending.Checked t) = ChecksTrace g o e t
CaseOf g o W e (ending.Informed t) = Informs g o e t

-- What is said unless the rack ended the run: a fault of its opening that has no counts is the rack's.
abbrev pub UnlessRacked : Ending → Type 0 → Type 0
UnlessRacked (ending.Opening f) P = IfSome f.counts (λ counts. P)
UnlessRacked how P = P

-- NO SECOND TRY: the first failure ended the run. The source counted no fault in a run that ended otherwise than by that, nor did the rack; and the sink
-- counted none in one that wrote its whole report, or for which memory lacked. So want of memory hides no failure of these three.
pub record FailsOnce (o : Outside) (how : Ending) : Type 0 where
  pub source : how ≢ ending.NotRead → o.source_new ≡ o.source_old
  pub rack : UnlessRacked how (o.rack_new ≡ o.rack_old)
  pub sink : IsQuiet how → o.sink_new.faults ≡ o.sink_old.faults

-- The run ended so, its first failure ended it, and its last line was printed, as far as the sink took it.
pub record EndsTold (g : Given) (o : Outside) (e : End) (how : Ending) : Type 0 where
  pub case : CaseOf g o (wrote_all o) e how
  pub once : FailsOnce o how

-- Memory lacked for the last line alone: the run stopped in another way, which has a line, by its first failure, and all is as it was then.
pub record LacksLine (g : Given) (o : Outside) (e : End) (how : Ending) : Type 0 where
  pub memory : how ≡ ending.Memory
  pub stopped : Ending
  pub line : last_line_of stopped ≢ []
  pub case : CaseOf g o (wrote_before o) e stopped
  pub once : FailsOnce o stopped

-- THE RUN ENDED in one of these ways, and each disk that the rack attached in it is handed back.
pub record RunEnds (g : Given) (o : Outside) (e : End) : Type 0 where
  pub how : Ending
  pub status : e.status ≡ status_of how
  pub fault : e.fault ≡ fault_of how
  pub back : o.attached_new ≡ o.attached_old + member_count e.disks e.swap
  pub case : EndsTold g o e how ⊎ LacksLine g o e how

-- A fault that a disk counted.
abbrev pub IsDiskCounted : Option RunFault → Type 0
IsDiskCounted None = ⊥
IsDiskCounted (Some (fault.Opening f)) = IsSome f.counts
IsDiskCounted (Some (fault.Closing f)) = Unit {0}
IsDiskCounted (Some (fault.Showing f)) = Unit {0}

-- Set-up rules were broken by the tables that were read and the script's lines, one of them first.
pub record BreaksSetup (g : Given) (what : Asked) (e : End) : Type 0 where
  pub status : e.status ≡ 4
  pub rule : Refusal
  pub cause : HasRefusalCause what.plan g.holds e.disks e.swap rule

-- Words that are taken, a script, and no fault counted by source, sink and rack: the whole report, or want of memory, or a fault that a disk counted, or a
-- set-up rule is broken. Where the disks that came back tell, it is the one that `opened_files` answers: none where that answers files.
abbrev pub IsComplete : Given → Outside → End → Type 0
IsComplete g o e =
    (what : Asked) → run_request g ≡ Some (Ok what)
    → ¬ HasRisen o.source_old o.source_new → ¬ HasRisen o.sink_old.faults o.sink_new.faults → ¬ HasRisen o.rack_old o.rack_new
    → (e.status ≡ 0) ⊎ (e.status ≡ 8) ⊎ IsDiskCounted e.fault ⊎ BreaksSetup g what e

-- A TRACE THAT WAS PRINTED: the text begins with one that stands for flat memory as the processes found it, and for the history; and what a check answers to
-- it, where it isn't too long for one, is that it is legal, with as many entries.
pub record PrintsTrace (g : Given) (o : Outside) (what : Asked) (e : End) : Type 0 where
  pub files : List OpenedFile
  pub opened : IsOpened g what files e
  pub trace : List ℕ
  pub report : List ℕ
  pub wrote : Wrote o.sink_old o.sink_new (trace ++ report)
  pub stands : IsTextFor trace (flat_opened what files e.disks) e.history.entries
  pub answered : length trace ≤ most_trace_bytes → (a : TraceAnswer) → AnswersText trace a → a ≡ answer.Verdict (verdict.Legal (length e.history.entries))

-- With a trace and status 0, over disks that tell, such a trace was printed.
abbrev pub PrintsLegalTrace : Given → Outside → End → Type 0
PrintsLegalTrace g o e =
    (what : Asked) → run_request g ≡ Some (Ok what) → IsTrue what.options.trace → e.status ≡ 0 → DisksTell e → PrintsTrace g o what e
