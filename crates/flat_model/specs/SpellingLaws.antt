-- Laws of spellings: each is found in one way. Public clauses cite this.
use Rattle.std.specs.Prelude.{ℕ, ◌≡◌, ◌↔◌, ◌++◌, List}
use Rattle.vm_types.specs.declared.call.Call.{Call}
use Rattle.vm_types.specs.declared.call.Entry.{Entry}
use Rattle.flat_model.specs.Told.{SpelledLine, Spells, SpellsAll}

-- The entries are the spellings of some lines and then those of others.
pub record SpellsBoth (before after : List SpelledLine) (entries : List Entry) : Type 0 where
  pub front : List Entry
  pub rest : List Entry
  pub joined : entries ≡ front ++ rest
  pub first : SpellsAll before front
  pub second : SpellsAll after rest

-- Where entries begin with the spelling of a line, or with those of some lines, they do so in one way: what spells it ends at one place. And lines behind others are spelled behind these.
pub record Spellings : Type 0 where
  pub unique : (call : Call) (bytes : List ℕ) (front other rest rest' : List Entry) → Spells call bytes front → Spells call bytes other → front ++ rest ≡ other ++ rest' → front ≡ other
  pub all_unique : (lines : List SpelledLine) (front other rest rest' : List Entry) → SpellsAll lines front → SpellsAll lines other → front ++ rest ≡ other ++ rest' → front ≡ other
  pub joined : (before after : List SpelledLine) (entries : List Entry) → SpellsAll (before ++ after) entries ↔ SpellsBoth before after entries
