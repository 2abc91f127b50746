-- The texts of what keeps a script from being run, and of faults. Public clauses cite this.
use Rattle.std.specs.Prelude.{ℕ, List, ◌∷◌, [], ◌++◌, codes, decimal}
use Rattle.vm_script.specs.declared.fault.ScriptKind.{ScriptKind}
use Rattle.vm_script.specs.declared.fault.ScriptKind.TheVariants as kind
use Rattle.vm_script.specs.declared.fault.ScriptFault.{ScriptFault}
use Rattle.vm_report.specs.Texts.{counts_text}

-- The word of a fault of a script's line.
abbrev pub kind_word : ScriptKind → List ℕ
kind_word kind.Long = codes "long"
kind_word kind.Byte = codes "byte"
kind_word kind.Word = codes "word"
kind_word kind.Place = codes "place"
kind_word kind.Count = codes "count"
kind_word kind.Number = codes "number"
kind_word kind.Name = codes "name"
kind_word kind.Bytes = codes "bytes"
kind_word kind.Value = codes "value"

-- The command's words aren't accepted.
abbrev pub usage_text : List ℕ
usage_text = codes "usage: sunvm [--trace] [--pageout N] [--make N]" ++ 10 ∷ []

-- The script couldn't be read.
abbrev pub read_fault_text : List ℕ
read_fault_text = codes "script: read fault" ++ 10 ∷ []

-- The script isn't in the grammar.
abbrev pub script_fault_text : ScriptFault → List ℕ
script_fault_text f = codes "script: line " ++ decimal f.line ++ codes ": " ++ kind_word f.kind ++ 10 ∷ []

-- A set-up rule is broken.
abbrev pub setup_fault_text : ℕ → List ℕ
setup_fault_text rule = codes "setup: rule " ++ decimal rule ++ 10 ∷ []

-- A disk's volume is broken, by a rule of volumes: that is set-up rule 9.
abbrev pub volume_fault_text : ℕ → ℕ → List ℕ
volume_fault_text disk rule = codes "setup: rule 9 disk " ++ decimal disk ++ codes " volume " ++ decimal rule ++ 10 ∷ []

-- A disk failed, with its counts of faults before and after.
abbrev pub disk_fault_text : ℕ → ℕ → ℕ → List ℕ
disk_fault_text disk before after = codes "fault: disk " ++ counts_text disk before after ++ 10 ∷ []

-- The rack failed to attach a disk.
abbrev pub rack_fault_text : ℕ → List ℕ
rack_fault_text disk = codes "fault: rack " ++ decimal disk ++ 10 ∷ []
