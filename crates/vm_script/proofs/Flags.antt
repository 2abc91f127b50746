-- A set-up line more, and whether one of the set-up lines gives something.
use Rattle.std.proofs.Common.{◌≡◌, Bool, true, false, ◌||◌, List, [], ◌∷◌, ◌++◌, refl, ap, ◌∙◌}
use Rattle.vm_script.specs.declared.plan.SetupAct.{SetupAct}
use Rattle.vm_script.specs.declared.plan.SetupLine.{SetupLine}
use Rattle.vm_script.specs.Plans.{has_setup}

or_moves : (a b c : Bool) → (a || (b || c)) ≡ ((a || b) || c)
or_moves true b c = refl
or_moves false b c = refl

pub or_false : (a : Bool) → (a || false) ≡ a
or_false true = refl
or_false false = refl

pub has_setup_push : (gives : SetupAct → Bool) (setup : List SetupLine) (l : SetupLine) → has_setup gives (setup ++ l ∷ []) ≡ (has_setup gives setup || gives l.act)
has_setup_push gives [] l = or_false (gives l.act)
has_setup_push gives (x ∷ setup) l = ap (λ b. gives x.act || b) (has_setup_push gives setup l) ∙ or_moves (gives x.act) (has_setup gives setup) (gives l.act)
