-- Where a script's fault stands.
use Rattle.std.proofs.Common.{◌≡◌, ℕ, suc, ◌≤◌, ◌<◌, ◌+◌, ◌==◌, Bool, true, false, List, [], ◌∷◌, length, Result, Ok, Err, refl, subst, arith}
use Rattle.std.specs.Prelude.{nat_lt}
use Rattle.std.specs.List.{list_all}
use Rattle.vm_script.specs.declared.fault.ScriptKind.{ScriptKind}
use Rattle.vm_script.specs.declared.fault.ScriptKind.TheVariants as fault
use Rattle.vm_script.specs.declared.fault.ScriptFault.{ScriptFault}
use Rattle.vm_script.specs.declared.statement.Statement.{Statement}
use Rattle.vm_script.specs.Lines.{is_plain, fields, lines}
use Rattle.vm_script.specs.Statements.{statement}
use Rattle.vm_script.specs.Plans.{OpenPlan, empty_plan, with_statement, spot_of, plan_from, plan_of}
use Rattle.vm_script.proofs.Nesting.{whole_plan, next_plan, short_plan}

-- a fault of the lines behind line n stands in one of them, or behind the last
record StandsWithin (n most : ℕ) (f : ScriptFault) : Type 0 where
  from : n < f.line
  to : f.line ≤ n + most + 1

within : (ls : List (List ℕ)) (n : ℕ) (g : OpenPlan) (f : ScriptFault) → plan_from n g ls ≡ Err f → StandsWithin n (length ls) f
within [] n g f e = at (g.inside == 0) e
  where
    at : (b : Bool) → whole_plan b g n ≡ Err f → StandsWithin n 0 f
    at true e = absurd (cc e)
    at false e =
        let same : record { line = n + 1; kind = fault.Place } ≡ f = cc e in
        subst (StandsWithin n 0) same (record { from = omega arith; to = omega arith })
within (l ∷ ls) n g f e = at (λ s. within ls (n + 1) (with_statement g (n + 1) s) f) (statement (spot_of g) (list_all is_plain l) (fields l)) e
  where
    at : ((s : Statement) → plan_from (n + 1) (with_statement g (n + 1) s) ls ≡ Err f → StandsWithin (n + 1) (length ls) f) → (r : Result Statement ScriptKind)
        → next_plan r g n ls ≡ Err f → StandsWithin n (suc (length ls)) f
    at again (Ok s) e =
        let h = again s e in
        let from = h.from in
        let to = h.to in
        record { from = omega (arith, from); to = omega (arith, to) }
    at again (Err k) e =
        let same : record { line = n + 1; kind = k } ≡ f = cc e in
        subst (StandsWithin n (suc (length ls))) same (record { from = omega arith; to = omega arith })

-- a fault stands in line 0 where the script is too long, and else in a line or behind the last
by_length : (text : List ℕ) (f : ScriptFault) (b : Bool) → short_plan b text ≡ Err f → (f.line ≤ length (lines text) + 1) × (f.line ≡ 0 → f.kind ≡ fault.Long)
by_length text f true e =
    let same : record { line = 0; kind = fault.Long } ≡ f = cc e in
    subst (λ (h : ScriptFault). (h.line ≤ length (lines text) + 1) × (h.line ≡ 0 → h.kind ≡ fault.Long)) same (omega arith, λ none. refl)
by_length text f false e =
    let h = within (lines text) 0 empty_plan f e in
    let from = h.from in
    let to = h.to in
    (omega (arith, to), λ none. absurd (omega (arith, from, none)))

pub fault_line : (text : List ℕ) (f : ScriptFault) → plan_of text ≡ Err f → (f.line ≤ length (lines text) + 1) × (f.line ≡ 0 → f.kind ≡ fault.Long)
fault_line text f e = by_length text f (nat_lt 1048576 (length text)) e
