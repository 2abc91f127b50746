-- How a history spells the lines of one block. Public clauses cite this.
use Rattle.std.specs.Prelude.{ℕ, ◌≡◌, ◌==◌, List, [], ◌∷◌, ◌++◌, length, filter, drop, All, MatchOption}
use Rattle.vm_types.specs.declared.call.Call.{Call}
use Rattle.vm_types.specs.declared.call.Entry.{Entry}
use Rattle.vm_types.specs.Parts.{next_part, part_bytes}

-- A line of a block: its call, for a read or a write the first part, and the bytes of a write that follow the first part.
pub record SpelledLine : Type 0 where
  pub call : Call
  pub bytes : List ℕ

-- The entries of a process, in order.
abbrev pub entries_of : List Entry → ℕ → List Entry
entries_of H p = filter (λ e. e.process == p) H

-- The entries are one with this call and then one for each next part, to the end of the call.
abbrev pub Spells : Call → List ℕ → List Entry → Type 0
Spells call bytes [] = ⊥
Spells call bytes (e ∷ es) = (e.call ≡ call) × MatchOption (next_part call e.reply bytes) (es ≡ []) (λ next. Spells next (drop (length (part_bytes next)) bytes) es)

-- The entries are the spellings of the lines, one behind the other.
abbrev pub SpellsAll : List SpelledLine → List Entry → Type 0
SpellsAll [] es = es ≡ []
SpellsAll (line ∷ lines) es = (front : List Entry) × (rest : List Entry) × (es ≡ front ++ rest) × Spells line.call line.bytes front × SpellsAll lines rest

-- The history tells the lines of a plan of one block: the block's process did them all, once and in order, and no other process did anything.
pub record ToldAlone (p : ℕ) (lines : List SpelledLine) (H : List Entry) : Type 0 where
  pub own : SpellsAll lines (entries_of H p)
  pub alone : All (λ e. e.process ≡ p) H
