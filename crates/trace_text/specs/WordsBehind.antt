-- What words tell, and the words behind theirs. Inside: no public clause cites this.
use Rattle.std.specs.Prelude.{ℕ, List, map, Option, option_map}
use Rattle.std.specs.Borrow.{Bor}
use Rattle.vm_report.specs.vm_types.declared.call.Call.{Call}
use Rattle.vm_report.specs.vm_types.declared.call.Object.{Object}

-- A call and the words left over, seen as they are now, if a call was read.
abbrev pub words_behind : Option (Call × Bor (List (Bor (List ℕ)))) → Option (Call × List (List ℕ))
words_behind r = option_map (λ x. (x.0, map (λ w. w.now) x.1.now)) r

-- An object, an offset and the words left over, seen as they are now, if they were read.
abbrev pub object_behind : Option (Object × ℕ × Bor (List (Bor (List ℕ)))) → Option (Object × ℕ × List (List ℕ))
object_behind r = option_map (λ x. (x.0, x.1, map (λ w. w.now) x.2.now)) r
