-- Loads and stores whose fields stand one space apart. Inside: no public clause cites this.
use Rattle.std.specs.Prelude.{ℕ, Bool, ◌≡◌, true, List, [], ◌∷◌, ◌++◌, Some, Ok}
use Rattle.std.specs.List.{list_all}
use Rattle.flat_model.specs.vm_types.declared.call.Call.{Call}
use Rattle.vm_script.specs.declared.plan.PlanAct.TheVariants as act
use Rattle.vm_script.specs.declared.statement.Statement.TheVariants as says
use Rattle.vm_script.specs.declared.statement.LineSpot.{LineSpot}
use Rattle.vm_script.specs.Lines.{is_graphic, isnt_empty}
use Rattle.vm_script.specs.Fields.{digits_at, number_of_field}
use Rattle.vm_script.specs.Statements.{statement}
use Rattle.vm_script.specs.Printed.{line_of_fields}

-- Each of these stands in a line as one field.
pub data AreWords : List (List ℕ) → Type 0 where
  none : AreWords []
  more : {f : List ℕ} {fs : List (List ℕ)} → list_all is_graphic f ≡ true → isnt_empty f ≡ true → AreWords fs → AreWords (f ∷ fs)

-- A text begins with 1 to so many digits of a base, whose value is a number, and goes on with the rest.
pub record BeginsWithDigits (base most : ℕ) (is_right : ℕ → Bool) (text : List ℕ) (n : ℕ) (rest : List ℕ) : Type 0 where
  pub digits : List ℕ
  pub is : text ≡ digits ++ rest
  pub right : list_all is_right digits ≡ true
  pub number : digits_at base most is_right digits ≡ Some n

-- A text begins with a number, and goes on with the rest.
pub record BeginsWithNumber (text : List ℕ) (n : ℕ) (rest : List ℕ) : Type 0 where
  pub word : List ℕ
  pub is : text ≡ word ++ rest
  pub graphic : list_all is_graphic word ≡ true
  pub some : isnt_empty word ≡ true
  pub number : number_of_field word ≡ Some n

-- A text begins with a line of a block that makes this call, and goes on with the rest.
pub record BeginsWithCall (text : List ℕ) (c : Call) (rest : List ℕ) : Type 0 where
  pub fs : List (List ℕ)
  pub is : text ≡ line_of_fields fs ++ 10 ∷ rest
  pub words : AreWords fs
  pub makes : (spot : LineSpot) → spot.inside ≡ true → statement spot true fs ≡ Ok (says.Own (act.Call c))
