-- The text of files, and what was written of a text. Public clauses cite this.
use Rattle.std.specs.Prelude.{ℕ, ◌≡◌, ◌<◌, ◌+◌, ◌*◌, ◌⊎◌, List, [], ◌∷◌, ◌++◌, length, map, take}
use Rattle.block_device.specs.Counts.{HasRisen}
use Rattle.block_device.specs.StreamSeen.{SinkSeen, text_with_more}
use Rattle.vm_report.specs.flat_model.Words.{pages_in}
use Rattle.volume_format.specs.vnode_files.declared.extent.Extent.{Extent}
use Rattle.volume_format.specs.vnode_files.declared.vnode.FileInfo.{FileInfo}
use Rattle.vm_report.specs.Report.{file_heading, file_lines}
use Rattle.vm_report.specs.Trace.{opening_text, file_text}
use Rattle.vm_report.specs.vm_script.PlanSeen.{PlanSeen}
use Rattle.vm_report.specs.vm_script.Processes.{kernel_parents}
use Rattle.vm_report.specs.vm_script.Rules.{amounts_of}
use Rattle.stored_files.specs.declared.showing.Heading.{Heading}
use Rattle.stored_files.specs.declared.showing.Heading.TheVariants.{Report, Trace}
use Rattle.stored_files.specs.Closed.{info_at}

-- The first block and the number of blocks of each extent.
abbrev pub extent_pairs : List Extent → List (ℕ × ℕ)
extent_pairs extents = map (λ e. (e.start, e.pages)) extents

-- The line above the bytes of a file: that of the report, or that of a trace's opening part.
abbrev pub heading_text : Heading → ℕ → FileInfo → List ℕ
heading_text Report k info = file_heading info.name info.length
heading_text Trace k info = file_text k info.name info.writable info.disk info.length (extent_pairs info.extents)

-- A file's heading and the lines of its bytes.
abbrev pub file_section : Heading → ℕ → FileInfo → List ℕ → List ℕ
file_section heading k info bytes = heading_text heading k info ++ file_lines 0 bytes

-- The sections of files from number k on, with the bytes of each.
abbrev pub files_from : Heading → (ℕ → List ℕ) → ℕ → List FileInfo → List ℕ
files_from heading bytes k [] = []
files_from heading bytes k (info ∷ infos) = file_section heading k info (bytes k) ++ files_from heading bytes (k + 1) infos

-- The sections of all files from number 0 on, with the bytes of each.
abbrev pub file_sections : Heading → List FileInfo → (ℕ → List ℕ) → List ℕ
file_sections heading infos bytes = files_from heading bytes 0 infos

-- The sections up to the place of a page of a file.
abbrev pub sections_before : Heading → List FileInfo → (ℕ → List ℕ) → ℕ → ℕ → List ℕ
sections_before heading infos bytes file page =
    file_sections heading (take file infos) bytes ++ file_section heading file (info_at infos file) (take (4096 * page) (bytes file))

-- A page that wasn't read from this disk: it is one of a file that lies there, below the file's length.
pub record IsPageUnread (infos : List FileInfo) (file page disk : ℕ) : Type 0 where
  pub there : file < length infos
  pub below : page < pages_in (info_at infos file).length
  pub lies : (info_at infos file).disk ≡ disk

-- The lines of a trace before its files: slots, disks of these sizes, and top processes.
abbrev pub trace_front : PlanSeen → List (ℕ × ℕ) → List ℕ
trace_front plan sizes = opening_text (amounts_of plan.setup).slots sizes (kernel_parents plan)

-- The whole text was written.
abbrev pub Wrote : SinkSeen → SinkSeen → List ℕ → Type 0
Wrote old new text = new.written ≡ text_with_more old.written text

-- The whole text was written, and a front of the rest behind it.
abbrev pub WroteAndFront : SinkSeen → SinkSeen → List ℕ → List ℕ → Type 0
WroteAndFront old new text rest = (count : ℕ) × Wrote old new (text ++ take count rest)

-- The whole text was written, and a front of the rest behind it that isn't all of it.
abbrev pub WroteAndPart : SinkSeen → SinkSeen → List ℕ → List ℕ → Type 0
WroteAndPart old new text rest = (count : ℕ) × (count < length rest) × Wrote old new (text ++ take count rest)

-- The whole text was written, and the rest behind it as far as the sink took it: all of it, or a front where the sink's count of faults rose.
abbrev pub WroteOn : SinkSeen → SinkSeen → List ℕ → List ℕ → Type 0
WroteOn old new text rest = Wrote old new (text ++ rest) ⊎ (HasRisen old.faults new.faults × WroteAndFront old new text rest)

-- A front of the text was written.
abbrev pub WroteFront : SinkSeen → SinkSeen → List ℕ → Type 0
WroteFront old new text = WroteAndFront old new [] text

-- A front of the text was written, and not all of it.
abbrev pub WrotePart : SinkSeen → SinkSeen → List ℕ → Type 0
WrotePart old new text = WroteAndPart old new [] text
