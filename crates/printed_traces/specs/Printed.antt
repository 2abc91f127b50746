-- What a run prints of a trace, and the trace whose text that is. Public clauses cite this.
use Rattle.std.specs.Prelude.{ℕ, ◌≡◌, ◌<◌, ◌^◌, ◌++◌, List, length, map, All, Option, Some, None, Result, Ok, slice_get}
use Rattle.volume_files.specs.block_device.declared.rack.Spec.{Spec}
use Rattle.volume_files.specs.vm_types.declared.call.Entry.{Entry}
use Rattle.volume_files.specs.vm_types.declared.call.Reply.{Reply}
use Rattle.volume_files.specs.vm_types.declared.call.Reply.TheVariants as reply
use Rattle.volume_files.specs.vm_types.WellFormed.{IsNumber, IsWellFormed}
use Rattle.volume_files.specs.flat_model.History.{Legal}
use Rattle.volume_files.specs.vm_report.Trace.{entries_text}
use Rattle.volume_files.specs.vm_script.PlanSeen.{PlanSeen}
use Rattle.volume_files.specs.vm_script.Processes.{kernel_parents}
use Rattle.volume_files.specs.vm_script.Rules.{amounts_of, broken_rule}
use Rattle.volume_files.specs.vnode_files.Files.{FilesSeen}
use Rattle.volume_files.specs.Attached.{ArePlaced, AttachedSeen}
use Rattle.volume_files.specs.stored_files.declared.showing.Heading.TheVariants.{Trace as traced}
use Rattle.volume_files.specs.Opened.{OpenedFile, infos_of, opening_flat, top_processes}
use Rattle.volume_files.specs.stored_files.Texts.{extent_pairs, file_sections, trace_front}
use Rattle.volume_files.specs.stored_files.Written.{disk_sizes}
use Rattle.trace_text.specs.EntryForm.{IsLongNumber}
use Rattle.trace_text.specs.Traces.{TracedFile, Trace}
use Rattle.trace_check.specs.Checks.{IsChecked, IsTextFor}
use Rattle.trace_check.specs.declared.verdict.TraceFault.{TraceFault}
use Rattle.trace_check.specs.declared.verdict.Verdict.{Verdict}
use Rattle.trace_check.specs.declared.verdict.Verdict.TheVariants as verdict

-- What a run prints with a trace before its report: the opening part, of disks with these numbers and sizes and of files with these bytes, and the
-- entries of its history.
abbrev pub printed_text : PlanSeen → List (ℕ × ℕ) → List OpenedFile → (ℕ → List ℕ) → List Entry → List ℕ
printed_text plan sizes files bytes H = (trace_front plan sizes ++ file_sections traced (infos_of files) bytes) ++ entries_text H

-- The bytes of each file are those with which it was opened, and as many as its record says.
pub record AreBytesOf (files : List OpenedFile) (bytes : ℕ → List ℕ) : Type 0 where
  pub lengths : (k : ℕ) (f : OpenedFile) → slice_get files k ≡ Some f → length (bytes k) ≡ f.info.length
  pub told : (k : ℕ) (f : OpenedFile) → slice_get files k ≡ Some f → bytes k ≡ f.bytes

-- The file of a trace that an opened file is.
abbrev pub told_file : OpenedFile → TracedFile
told_file f = record { name = f.info.name; writable = f.info.writable; disk = f.info.disk; extents = extent_pairs f.info.extents; bytes = f.bytes }

-- The trace that is printed of a plan, disks of these sizes, opened files, and a history.
abbrev pub told_trace : PlanSeen → List (ℕ × ℕ) → List OpenedFile → List Entry → Trace
told_trace plan sizes files H = record {
  slots = (amounts_of plan.setup).slots;
  disks = sizes;
  roots = top_processes 1 (kernel_parents plan);
  files = map told_file files;
  history = H;
}

-- The counts of a reply that no flat memory knows fit their types: where a Sync began, and what a
-- device error names.
abbrev pub HasToldCounts : Reply → Type 0
HasToldCounts (reply.Synced from) = IsLongNumber from
HasToldCounts (reply.Io disk before after) = IsNumber disk × IsLongNumber before × IsLongNumber after
HasToldCounts r = Unit {0}

-- WHAT IS KNOWN OF A RUN whose processes ran, over disks that tell: no set-up rule is broken, its files are placed, and its history is legal for flat
-- memory as they found it, of calls that are well formed, of few entries, and with counts of their types.
pub record IsTracedRun (plan : PlanSeen) (holds : Spec → Option (List (List ℕ))) (files : List OpenedFile) (a : AttachedSeen) (made : FilesSeen) (H : List Entry) : Type 0 where
  pub rules : broken_rule plan ≡ None
  pub placed : ArePlaced plan holds files a made
  pub legal : Legal (opening_flat plan (disk_sizes a.disks) files) H
  pub formed : All (λ e. IsWellFormed e.call) H
  pub few : length H < 2 ^ 32
  pub counts : All (λ e. HasToldCounts e.reply) H

-- What a run that may be traced prints stands for flat memory as its processes found it, and for
-- its history.
abbrev pub PrintedStands : Type 0
PrintedStands =
    (plan : PlanSeen) (holds : Spec → Option (List (List ℕ))) (files : List OpenedFile) (a : AttachedSeen) (made : FilesSeen) (H : List Entry) (bytes : ℕ → List ℕ)
    → IsTracedRun plan holds files a made H → AreBytesOf files bytes
    → IsTextFor (printed_text plan (disk_sizes a.disks) files bytes H) (opening_flat plan (disk_sizes a.disks) files) H

-- The one answer to the trace that a run prints is that it is legal, with as many entries as the
-- history.
abbrev pub PrintedIsLegal : Type 0
PrintedIsLegal =
    (plan : PlanSeen) (holds : Spec → Option (List (List ℕ))) (files : List OpenedFile) (a : AttachedSeen) (made : FilesSeen) (H : List Entry) (bytes : ℕ → List ℕ)
    → IsTracedRun plan holds files a made H → AreBytesOf files bytes → (r : Result Verdict TraceFault)
    → IsChecked (printed_text plan (disk_sizes a.disks) files bytes H) r → r ≡ Ok (verdict.Legal (length H))
