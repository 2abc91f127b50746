-- What a look at the state tells: what a cell stands for, and who forks nobody. Public clauses cite
-- this.
use Rattle.std.specs.Prelude.{ℕ, ◌≡◌, false, List, Option, option_map}
use Rattle.std.specs.List.{AllByRecursion}
use Rattle.vm_core.specs.vm_types.declared.call.Entry.{Entry}
use Rattle.vm_core.specs.vm_types.declared.call.Object.{Object}
use Rattle.vm_core.specs.flat_model.Births.{is_fork_of}
use Rattle.vm_core.specs.flat_model.Flat.{Cell}

-- The object that a cell shows, and which page of it.
abbrev pub object_told : Option Cell → Option (Object × ℕ)
object_told o = option_map (λ c. (c.object, c.index)) o

-- No entry is a Fork of this process.
abbrev pub NoneForks : ℕ → List Entry → Type 0
NoneForks p H = AllByRecursion (λ (e : Entry). is_fork_of p e.call ≡ false) H
