-- The generated script. Public clauses cite this.
use Rattle.std.specs.Prelude.{ℕ, zero, suc, ◌+◌, ◌*◌, ◌/◌, ◌%◌, List, [], ◌∷◌, ◌++◌, map, codes, true}
use Rattle.std.specs.List.{flat_map}
use Rattle.flat_model.specs.vm_types.declared.call.Call.{Call}
use Rattle.flat_model.specs.vm_types.declared.call.Call.TheVariants as call
use Rattle.flat_model.specs.vm_types.declared.call.Kind.TheVariants as kinds
use Rattle.flat_model.specs.vm_types.declared.call.Object.TheVariants as object
use Rattle.flat_model.specs.vm_types.declared.call.Place.TheVariants.{At}
use Rattle.vm_script.specs.declared.plan.SetupAct.TheVariants as given
use Rattle.vm_script.specs.declared.plan.PlanAct.TheVariants as act
use Rattle.vm_script.specs.declared.statement.Statement.{Statement}
use Rattle.vm_script.specs.declared.statement.Statement.TheVariants as says
use Rattle.vm_script.specs.Statements.{unknown_file}
use Rattle.vm_script.specs.Printed.{script_text}

-- The numbers from 0 up to n, n left out.
unfoldable pub numbers_below : ℕ → List ℕ
numbers_below zero = []
numbers_below (suc n) = numbers_below n ++ n ∷ []

-- A line that makes this call.
abbrev pub call_line : Call → Statement
call_line c = says.Own (act.Call c)

-- The address of word k of script n; the words go through 32 pages.
abbrev pub word_address : ℕ → ℕ → ℕ
word_address n k = 1048576 + 4096 * ((n + 5 * k) % 32) + 4 * (k / 32)

-- The address of the last word of page j.
abbrev pub page_end : ℕ → ℕ
page_end j = 1048576 + 4096 * j + 4092

-- The set-up of the generated script.
abbrev pub generated_setup : List Statement
generated_setup =
    says.Setup (given.Frames 24) ∷ says.Setup (given.Swap 512) ∷ says.Setup (given.Translations 64)
    ∷ says.Setup (given.Blank 0 16) ∷ says.Setup (given.File (codes "f") true 0 8 []) ∷ []

-- The store of block i into word k of script n.
abbrev pub word_store : ℕ → ℕ → ℕ → Statement
word_store n i k = call_line (call.Store (word_address n k) 4 (k + i))

-- The load of word k of script n.
abbrev pub word_load : ℕ → ℕ → Statement
word_load n k = call_line (call.Load (word_address n k) 4)

-- The stores of block i into the first m words of script n.
abbrev pub word_stores : ℕ → ℕ → ℕ → List Statement
word_stores n i m = map (word_store n i) (numbers_below m)

-- The loads of the first m words of script n.
abbrev pub word_loads : ℕ → ℕ → List Statement
word_loads n m = map (word_load n) (numbers_below m)

-- The store into the last word of page j.
abbrev pub end_store : ℕ → Statement
end_store j = call_line (call.Store (page_end j) 4 1)

-- The load of the last word of page j.
abbrev pub end_load : ℕ → Statement
end_load j = call_line (call.Load (page_end j) 4)

-- The stores into the last words of m pages.
abbrev pub end_stores : ℕ → List Statement
end_stores m = map end_store (numbers_below m)

-- The loads of the last words of m pages.
abbrev pub end_loads : ℕ → List Statement
end_loads m = map end_load (numbers_below m)

-- The child stores into the last word of each page and loads it again.
abbrev pub child_block : List Statement
child_block = says.Fork ∷ [] ++ end_stores 32 ++ end_loads 32 ++ says.End ∷ []

-- A block begins with its two mappings.
abbrev pub block_head : List Statement
block_head =
    says.Process
    ∷ call_line (call.Map (At 1048576) 131072 (record { 0 = 3 }) kinds.Private object.NewZero 0)
    ∷ says.Own (act.Named (codes "f") (call.Map (At 4194304) 32768 (record { 0 = 3 }) kinds.Shared (object.File unknown_file) 0)) ∷ []

-- The write of block i to the last byte of its page of the file.
abbrev pub file_write : ℕ → Statement
file_write i = says.Own (act.Write (codes "f") unknown_file (4096 * i + 4095) (0 ∷ []))

-- The store of block i, through the mapping, into the first word of its page of the file.
abbrev pub file_store : ℕ → ℕ → Statement
file_store n i = call_line (call.Store (4194304 + 4096 * i) 4 n)

-- The load of block i, through the mapping, of the first word of its page of the file.
abbrev pub file_load : ℕ → Statement
file_load i = call_line (call.Load (4194304 + 4096 * i) 4)

-- The end of block i: a write to the file, a store and a load through its mapping, and the last line.
abbrev pub block_tail : ℕ → ℕ → List Statement
block_tail n i = file_write i ∷ file_store n i ∷ file_load i ∷ says.End ∷ []

-- Top block i of script n.
abbrev pub generated_block : ℕ → ℕ → List Statement
generated_block n i = block_head ++ word_stores n i 1000 ++ child_block ++ word_loads n 1000 ++ end_loads 32 ++ block_tail n i

-- What the lines of the generated script of number n say.
abbrev pub generated_script : ℕ → List Statement
generated_script n = generated_setup ++ flat_map (generated_block n) (numbers_below 8)

-- The text of the generated script of number n.
abbrev pub generated_text : ℕ → List ℕ
generated_text n = script_text (generated_script n)
