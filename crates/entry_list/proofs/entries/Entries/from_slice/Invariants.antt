use Rattle.std.proofs.Common.{◌≡◌, take}
use Rattle.entry_list.proofs.entries.Entries.from_slice.Given as goal

abbrev pub invariant-loop-entry : goal.invariant-loop-entry
invariant-loop-entry l = l.entries ≡ take l.entry-index l.from
