use Rattle.std.proofs.Common.{◌≡◌, ◌++◌, take}
use Rattle.entry_list.proofs.entries.Entries.push_to.Given as goal

abbrev pub invariant-loop-place : goal.invariant-loop-place
invariant-loop-place l = l.to.items ≡ l.initial.to.items ++ take l.place l.self
