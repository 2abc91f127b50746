use Rattle.std.proofs.Common.{◌≡◌, List, ℕ, map, length}
use Rattle.fault_help.specs.Fields.{wrong_field}
use Rattle.fault_help.proofs.fields.wrong_field.Given as goal

abbrev pub invariant-loop-wanted : goal.invariant-loop-wanted
invariant-loop-wanted l = wrong_field l.kind l.wanted (map (λ f. f.now) l.left) ≡ wrong_field l.kind l.roles (map (λ f. f.now) l.all)

abbrev pub decreases-loop-wanted : goal.decreases-loop-wanted
decreases-loop-wanted l = length l.wanted
