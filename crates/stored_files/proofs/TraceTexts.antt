-- The opening part of a trace, once its files were shown.
use Rattle.std.proofs.Common.{ℕ, ◌≤◌, List, ◌++◌, sym, subst}
use Rattle.std.specs.Prelude.{Result, Ok, Err}
use Rattle.block_device.specs.DiskSeen.{DiskSeen}
use Rattle.block_device.specs.OpenSeen.{OpenFaultSeen}
use Rattle.block_device.specs.StreamSeen.{SinkSeen}
use Rattle.volume_format.specs.vnode_files.declared.vnode.FileInfo.{FileInfo}
use Rattle.vm_report.specs.vm_script.PlanSeen.{PlanSeen}
use Rattle.stored_files.specs.declared.showing.Heading.TheVariants.{Trace}
use Rattle.stored_files.specs.declared.showing.ShowStop.{ShowStop}
use Rattle.stored_files.specs.declared.showing.ShowStop.TheVariants.{Memory, Sink, Fault}
use Rattle.stored_files.specs.Showing.{IsHeadingShown}
use Rattle.stored_files.specs.Texts.{Wrote, WroteFront, file_sections, sections_before, trace_front}
use Rattle.stored_files.specs.Written.{ShowsSections, TraceShows, disk_sizes, open_fault_counts}
use Rattle.stored_files.proofs.WrittenTexts.{wrote_then, front_then, part_then, part_more, nothing_front, risen_since}

pub trace_shown : (plan : PlanSeen) (infos : List FileInfo) (bytes : ℕ → List ℕ) (k0 k1 k2 : SinkSeen) (old new : List (ℕ × DiskSeen))
    → Wrote k0 k1 (trace_front plan (disk_sizes old)) → k0.faults ≤ k1.faults
    → (r : Result (Unit {0}) (ShowStop OpenFaultSeen)) → ShowsSections Trace infos bytes k1 k2 old new open_fault_counts r → TraceShows plan infos bytes k0 k2 old new r
trace_shown plan infos bytes k0 k1 k2 old new wrote later (Ok done) shown = wrote_then k0 k1 k2 (trace_front plan (disk_sizes old)) (file_sections Trace infos bytes) wrote shown
trace_shown plan infos bytes k0 k1 k2 old new wrote later (Err Memory) shown = front_then k0 k1 k2 (trace_front plan (disk_sizes old)) (file_sections Trace infos bytes) wrote shown
trace_shown plan infos bytes k0 k1 k2 old new wrote later (Err Sink) shown =
    (risen_since k0.faults k1.faults k2.faults later shown.0, part_then k0 k1 k2 (trace_front plan (disk_sizes old)) (file_sections Trace infos bytes) wrote shown.1)
trace_shown plan infos bytes k0 k1 k2 old new wrote later (Err (Fault f)) shown = (
  shown.0,
  (shown.1.0, shown.1.1, shown.1.2, wrote_then k0 k1 k2 (trace_front plan (disk_sizes old)) (sections_before Trace infos bytes shown.1.0 shown.1.1) wrote shown.1.3),
)

-- the trace before the files wasn't written
pub front_stop : (plan : PlanSeen) (infos : List FileInfo) (bytes : ℕ → List ℕ) (k0 k1 : SinkSeen) (ds : List (ℕ × DiskSeen)) (stop : ShowStop OpenFaultSeen)
    → IsHeadingShown (trace_front plan (disk_sizes ds)) k0 k1 (Err stop)
    → TraceShows plan infos bytes k0 k1 ds ds (Err stop)
front_stop plan infos bytes k0 k1 ds Memory shown =
    let text = trace_front plan (disk_sizes ds) ++ file_sections Trace infos bytes in
    subst (λ (k : SinkSeen). WroteFront k0 k text) (sym shown) (nothing_front k0 text)
front_stop plan infos bytes k0 k1 ds Sink shown = (shown.0, part_more k0 k1 (trace_front plan (disk_sizes ds)) (file_sections Trace infos bytes) shown.1)
front_stop plan infos bytes k0 k1 ds (Fault f) shown = absurd shown
