-- The text that a run prints, by what it was asked. Public clauses cite this.
use Rattle.std.specs.Prelude.{ℕ, List, [], ◌++◌, Option, Some, None, if◌then◌else◌}
use Rattle.volume_files.specs.vm_types.declared.call.Entry.{Entry}
use Rattle.volume_files.specs.vnode_files.declared.vnode.FileInfo.{FileInfo}
use Rattle.volume_files.specs.vm_report.Report.{process_sections}
use Rattle.volume_files.specs.vm_report.Summary.{summary}
use Rattle.volume_files.specs.vm_report.Trace.{entries_text}
use Rattle.volume_files.specs.vm_script.PlanSeen.{PlanSeen}
use Rattle.volume_files.specs.stored_files.declared.showing.Heading.TheVariants.{Report, Trace}
use Rattle.volume_files.specs.stored_files.Texts.{file_sections, trace_front}
use Rattle.command_line.specs.declared.options.Options.{Options}

-- The opening part of a trace, where one is asked for.
abbrev pub trace_opening : Options → PlanSeen → List (ℕ × ℕ) → List FileInfo → (ℕ → List ℕ) → List ℕ
trace_opening o plan sizes infos bytes = if o.trace then trace_front plan sizes ++ file_sections Trace infos bytes else []

-- The entries of a trace, where one is asked for; otherwise nothing.
abbrev pub trace_entries : Options → List Entry → List ℕ
trace_entries o H = if o.trace then entries_text H else []

-- The process sections of a script, or the summary of a generated script with that number.
abbrev pub sections_or_summary : Option ℕ → PlanSeen → List Entry → List ℕ
sections_or_summary None plan H = process_sections plan H
sections_or_summary (Some number) plan H = summary number H

-- What stands between a trace's opening part and the files: the entries, where a trace is asked
-- for, then the sections or summary.
abbrev pub middle_text : Options → PlanSeen → List Entry → List ℕ
middle_text o plan H = trace_entries o H ++ sections_or_summary o.make plan H

-- The files at the end of a report; none for a generated script.
abbrev pub files_or_none : Option ℕ → List FileInfo → (ℕ → List ℕ) → List ℕ
files_or_none None infos bytes = file_sections Report infos bytes
files_or_none (Some number) infos bytes = []

-- The summary of a generated script with that number; none for another script.
abbrev pub summary_or_none : Option ℕ → List Entry → List ℕ
summary_or_none None H = []
summary_or_none (Some number) H = summary number H

-- What stands before the process sections: the entries, where a trace is asked for, and the summary
-- of a generated script.
abbrev pub before_sections : Options → List Entry → List ℕ
before_sections o H = trace_entries o H ++ summary_or_none o.make H
