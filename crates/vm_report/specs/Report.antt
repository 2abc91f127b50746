-- The text of a report. Public clauses cite this.
use Rattle.std.specs.Prelude.{ℕ, zero, suc, ◌+◌, ◌/◌, ◌==◌, Bool, true, false, List, [], ◌∷◌, ◌++◌, length, take, drop, codes, decimal, if◌then◌else◌}
use Rattle.std.specs.List.{list_all}
use Rattle.vm_script.specs.vm_types.declared.call.Entry.{Entry}
use Rattle.vm_script.specs.vm_types.Parts.{ends_call}
use Rattle.vm_script.specs.vm_types.Words.{word_bytes}
use Rattle.vm_script.specs.flat_model.Told.{entries_of}
use Rattle.vm_script.specs.declared.plan.PlanAct.{PlanAct}
use Rattle.vm_script.specs.declared.plan.PlanAct.TheVariants as act
use Rattle.vm_script.specs.declared.plan.PlanLine.{PlanLine}
use Rattle.vm_script.specs.PlanSeen.{PlanSeen}
use Rattle.vm_script.specs.Texts.{hex_text}
use Rattle.vm_script.specs.Told.{own_lines, is_born}
use Rattle.vm_report.specs.Texts.{call_word}
use Rattle.vm_report.specs.Results.{line_result}

-- How many of the entries belong to the call that the first one begins: those up to the first that ends its call.
abbrev pub call_length : List Entry → ℕ
call_length [] = 0
call_length (e ∷ es) = if ends_call e.call e.reply then 1 else suc (call_length es)

-- The word of a line.
abbrev pub act_word : PlanAct → List ℕ
act_word (act.Call c) = call_word c
act_word (act.Named name c) = call_word c
act_word (act.Write name file offset bytes) = codes "write"
act_word act.Wait = codes "wait"

-- A line of the report: the number of the script's line, the word and the result.
abbrev pub line_text : PlanLine → List Entry → List ℕ
line_text l es = decimal l.line ++ 32 ∷ act_word l.act ++ 32 ∷ line_result es ++ 10 ∷ []

-- The line waits.
abbrev pub is_wait : PlanAct → Bool
is_wait act.Wait = true
is_wait a = false

-- How many of the entries of its process, those of earlier lines left out, a line made: the parts of its call, and none
-- for a wait.
abbrev pub entries_made : PlanLine → List Entry → ℕ
entries_made l es = if is_wait l.act then 0 else call_length es

-- What a line prints that made these entries; a wait prints nothing.
abbrev pub own_text : PlanLine → List Entry → List ℕ
own_text l es = if is_wait l.act then [] else line_text l es

-- What the lines of a block print, over the entries of its process: each the result of those that it made.
abbrev pub lines_text : List PlanLine → List Entry → List ℕ
lines_text [] es = []
lines_text (l ∷ lines) es = own_text l (take (entries_made l es) es) ++ lines_text lines (drop (entries_made l es) es)

-- The heading of a process's section, by whether it was born.
abbrev pub section_heading : ℕ → Bool → List ℕ
section_heading p born = codes "process " ++ decimal p ++ (if born then 10 ∷ [] else codes " not born" ++ 10 ∷ [])

-- The section of a process, by whether it was born, its lines and its entries.
abbrev pub section_text : ℕ → Bool → List PlanLine → List Entry → List ℕ
section_text p born lines es =
    codes "process " ++ decimal p ++ (if born then 10 ∷ lines_text lines es else codes " not born" ++ 10 ∷ [])

-- The section of process p.
abbrev pub process_section : PlanSeen → ℕ → List Entry → List ℕ
process_section plan p H = section_text p (is_born plan H p) (own_lines plan p) (entries_of H p)

-- The sections of so many processes from number p on.
abbrev pub sections_from : PlanSeen → List Entry → ℕ → ℕ → List ℕ
sections_from plan H zero p = []
sections_from plan H (suc n) p = process_section plan p H ++ sections_from plan H n (p + 1)

-- The sections of all processes of a plan, in order of number.
abbrev pub process_sections : PlanSeen → List Entry → List ℕ
process_sections plan H = sections_from plan H (length plan.parents) 1

-- The heading of a file's section.
abbrev pub file_heading : List ℕ → ℕ → List ℕ
file_heading name len = codes "file " ++ name ++ 32 ∷ decimal len ++ 10 ∷ []

-- The line of bytes that begin at an offset of a file; none for zeros.
abbrev pub file_line : ℕ → List ℕ → List ℕ
file_line offset bytes =
    if list_all (λ b. b == 0) bytes then []
    else hex_text (word_bytes 4 offset) ++ 32 ∷ hex_text bytes ++ 10 ∷ []

-- The lines of so many pieces of 32 bytes, from an offset of the file on; the last may be shorter.
abbrev pub pieces_text : ℕ → ℕ → List ℕ → List ℕ
pieces_text zero offset bytes = []
pieces_text (suc n) offset bytes = file_line offset (take 32 bytes) ++ pieces_text n (offset + 32) (drop 32 bytes)

-- The lines of bytes that begin at an offset of a file.
abbrev pub file_lines : ℕ → List ℕ → List ℕ
file_lines offset bytes = pieces_text ((length bytes + 31) / 32) offset bytes
