-- A text is read line by line.
use Rattle.vm_script.proofs.Nesting.{few_more as few_blocks}
use Rattle.std.proofs.Common.{◌≡◌, ℕ, ◌+◌, ◌<◌, ◌≤◌, ◌==◌, Bool, false, List, [], ◌∷◌, length, take, refl, sym, ap, ap₂, ◌∙◌, subst, arith, rules, tests, length-append, Result, Ok, Err}
use Rattle.std.specs.List.{list_all}
use Rattle.vm_script.specs.declared.fault.ScriptKind.{ScriptKind}
use Rattle.vm_script.specs.declared.fault.ReadError.{ReadError}
use Rattle.vm_script.specs.declared.fault.ReadError.TheVariants as errors
use Rattle.vm_script.specs.Reading.{IsReadAs}
use Rattle.std.proofs.lemmas.Bool.{false≢true}
use Rattle.vm_script.specs.declared.statement.Statement.{Statement}
use Rattle.vm_script.specs.declared.statement.Statement.TheVariants as says
use Rattle.vm_script.specs.declared.statement.LineSpot.{LineSpot}
use Rattle.vm_script.specs.Lines.{is_plain, fields, lines}
use Rattle.vm_script.specs.Cursor.{first_line, after_line}
use Rattle.vm_script.specs.Statements.{statement, word_statement, mapping_statement, file_statement, block_statement, setup_statement, disk_statement}
use Rattle.vm_script.specs.Statements.{load_line}
use Rattle.vm_script.specs.Statements.{store_line, map_line, unmap_line, protect_line, sync_line, read_call_line, write_line, truncate_line, disk, join}
use Rattle.vm_script.specs.Statements.{file}
use Rattle.vm_script.specs.Plans.{OpenPlan, with_statement, spot_of, plan_from}
use Rattle.vm_script.specs.ReadLines.{ReadsLine, FailsLine}

pub lines_first : (xs : List ℕ) → 1 ≤ length xs → lines xs ≡ first_line xs ∷ lines (after_line xs)
lines_first [] some = absurd (omega (arith, some))
lines_first (b ∷ []) some = search (rules, tests)
lines_first (b ∷ c ∷ xs) some = let ih = lines_first (c ∷ xs) (omega arith) in grind (rules, tests, arith, ih)

pub line_le : (xs : List ℕ) → length (after_line xs) ≤ length xs
line_le [] = omega arith
line_le (b ∷ xs) = let ih = line_le xs in grind (rules, tests, arith, ih)

pub line_shorter : (xs : List ℕ) → 1 ≤ length xs → length (after_line xs) < length xs
line_shorter [] some = absurd (omega (arith, some))
line_shorter (b ∷ xs) some = let le = line_le xs in grind (rules, tests, arith, le)

-- no line of the grammar has more than seven fields
pub statement_eight : (spot : LineSpot) (plain : Bool) (fs : List (List ℕ)) → statement spot plain (take 8 fs) ≡ statement spot plain fs
unfolding statement word_statement mapping_statement file_statement block_statement setup_statement disk_statement load_line store_line map_line unmap_line
    protect_line sync_line read_call_line write_line truncate_line disk file join
statement_eight spot plain [] = refl
statement_eight spot plain (a ∷ []) = refl
statement_eight spot plain (a ∷ b ∷ []) = refl
statement_eight spot plain (a ∷ b ∷ c ∷ []) = refl
statement_eight spot plain (a ∷ b ∷ c ∷ d ∷ []) = refl
statement_eight spot plain (a ∷ b ∷ c ∷ d ∷ e ∷ []) = refl
statement_eight spot plain (a ∷ b ∷ c ∷ d ∷ e ∷ f ∷ []) = refl
statement_eight spot plain (a ∷ b ∷ c ∷ d ∷ e ∷ f ∷ g ∷ []) = refl
statement_eight spot plain (a ∷ b ∷ c ∷ d ∷ e ∷ f ∷ g ∷ h ∷ rest) = refl

-- what the code asked is what the line says
statement_line : (g : OpenPlan) (xs : List ℕ) (plain : Bool) (fs : List (List ℕ)) (r : Result Statement ScriptKind)
    → plain ≡ list_all is_plain (first_line xs) → fs ≡ take 8 (fields (first_line xs)) → statement (spot_of g) plain fs ≡ r
    → statement (spot_of g) (list_all is_plain (first_line xs)) (fields (first_line xs)) ≡ r
statement_line g xs plain fs r p f is =
    sym (statement_eight (spot_of g) (list_all is_plain (first_line xs)) (fields (first_line xs)))
    ∙ (ap (λ b. statement (spot_of g) b (take 8 (fields (first_line xs)))) (sym p) ∙ (ap (statement (spot_of g) plain) (sym f) ∙ is))

pub plan_ok : (n : ℕ) (g : OpenPlan) (xs : List ℕ) (plain : Bool) (fs : List (List ℕ)) (s : Statement) → 1 ≤ length xs
    → plain ≡ list_all is_plain (first_line xs) → fs ≡ take 8 (fields (first_line xs)) → statement (spot_of g) plain fs ≡ Ok s
    → plan_from n g (lines xs) ≡ plan_from (n + 1) (with_statement g (n + 1) s) (lines (after_line xs))
plan_ok n g xs plain fs s some p f is = ap (plan_from n g) (lines_first xs some) ∙ rw (statement_line g xs plain fs (Ok s) p f is, plan_from) refl

pub plan_err : (n : ℕ) (g : OpenPlan) (xs : List ℕ) (plain : Bool) (fs : List (List ℕ)) (k : ScriptKind) → 1 ≤ length xs
    → plain ≡ list_all is_plain (first_line xs) → fs ≡ take 8 (fields (first_line xs)) → statement (spot_of g) plain fs ≡ Err k
    → plan_from n g (lines xs) ≡ Err (record { line = n + 1; kind = k })
plan_err n g xs plain fs k some p f is = ap (plan_from n g) (lines_first xs some) ∙ rw (statement_line g xs plain fs (Err k) p f is, plan_from) refl

pub some_there : (xs : List ℕ) (b : Bool) → b ≡ false → b ≡ (length xs == 0) → 1 ≤ length xs
some_there [] b no_more is = absurd (false≢true (sym no_more ∙ is))
some_there (x ∷ xs) b no_more is = omega arith

pub gives_ok : (r : Result Statement ReadError) (s : Statement) (read : Result Statement ScriptKind) → IsReadAs (λ s. s) r read → r ≡ Ok s → read ≡ Ok s
gives_ok r s read gives is = subst (λ r. IsReadAs (λ s. s) r read) is gives

pub gives_err : (r : Result Statement ReadError) (e : ReadError) (kind : ScriptKind) (read : Result Statement ScriptKind)
    → IsReadAs (λ s. s) r read → r ≡ Err e → e ≡ errors.Fault kind → read ≡ Err kind
gives_err r e kind read gives is f = subst (λ r. IsReadAs (λ s. s) r read) (is ∙ ap Err f) gives

-- the plan has grown by what the line in front says
pub reads_exact : (n : ℕ) (g h : OpenPlan) (xs rest : List ℕ) (plain : Bool) (fs : List (List ℕ)) (s : Statement) → 1 ≤ length xs
    → plain ≡ list_all is_plain (first_line xs) → fs ≡ take 8 (fields (first_line xs)) → statement (spot_of g) plain fs ≡ Ok s
    → h ≡ with_statement g (n + 1) s → rest ≡ after_line xs → ReadsLine n g h xs rest
reads_exact n g h xs rest plain fs s some p f is grew behind = record {
  plan = plan_ok n g xs plain fs s some p f is ∙ sym (ap₂ (λ (k : OpenPlan) ys. plan_from (n + 1) k (lines ys)) grew behind);
  shorter = omega (arith, ap length behind, line_shorter xs some);
  few = omega (arith, ap (λ (k : OpenPlan). length k.parents) grew, few_blocks g (n + 1) s);
}

pub fails_line : (n : ℕ) (g : OpenPlan) (xs : List ℕ) (plain : Bool) (fs : List (List ℕ)) (e : ReadError) (r : Result Statement ReadError)
    → 1 ≤ length xs → plain ≡ list_all is_plain (first_line xs) → fs ≡ take 8 (fields (first_line xs))
    → IsReadAs (λ s. s) r (statement (spot_of g) plain fs) → r ≡ Err e → FailsLine n g xs e
fails_line n g xs plain fs errors.Memory r some p f gives is = tt
fails_line n g xs plain fs (errors.Fault k) r some p f gives is = plan_err n g xs plain fs k some p f (gives_err r (errors.Fault k) k (statement (spot_of g) plain fs) gives is refl)
