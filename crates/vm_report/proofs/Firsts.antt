-- What is left of a list's entries, as the first of them is passed.
use Rattle.std.proofs.Common.{◌≡◌, ◌∙◌, ◌<◌, ◌||◌, ◌∷◌, ℕ, Bool, List, length, ap, subst, sym, arith}
use Rattle.std.specs.Prelude.{All}
use Rattle.std.specs.List.{list_any}
use Rattle.std.proofs.lemmas.List.Elements.{All-cons, All-head, All-tail}
use Rattle.vm_script.specs.Told.{is_birth}
use Rattle.vm_script.specs.vm_types.declared.call.Entry.{Entry}
use Rattle.vm_script.specs.vm_types.WellFormed.{IsWellFormed}

pub fewer-left : (left rest : List Entry) (e : Entry) → left ≡ e ∷ rest → length rest < length left
fewer-left left rest e is = let size = ap (λ (es : List Entry). length es) is in omega (arith, size)

-- a birth among them: that of the first, or of another one
pub birth_first : (p : ℕ) (left rest : List Entry) (e : Entry) (b all : Bool) → left ≡ e ∷ rest → is_birth p e ≡ b → list_any (is_birth p) left ≡ all → (b || list_any (is_birth p) rest) ≡ all
birth_first p left rest e b all is first before =
    ap (λ c. c || list_any (is_birth p) rest) (sym first) ∙ (ap (λ (es : List Entry). list_any (is_birth p) es) (sym is) ∙ before)

-- all of them are well formed where the first is, and the others are
module _ (left rest : List Entry) (e : Entry) (is : left ≡ e ∷ rest) where
  pub well-first : All (λ (x : Entry). IsWellFormed x.call) left → IsWellFormed e.call
  well-first all = All-head (λ (x : Entry). IsWellFormed x.call) e rest (subst (All (λ (x : Entry). IsWellFormed x.call)) is all)

  pub well-behind : All (λ (x : Entry). IsWellFormed x.call) left → All (λ (x : Entry). IsWellFormed x.call) rest
  well-behind all = All-tail (λ (x : Entry). IsWellFormed x.call) e rest (subst (All (λ (x : Entry). IsWellFormed x.call)) is all)

  pub well-with : IsWellFormed e.call → All (λ (x : Entry). IsWellFormed x.call) rest → All (λ (x : Entry). IsWellFormed x.call) left
  well-with first all = subst (All (λ (x : Entry). IsWellFormed x.call)) (sym is) (All-cons (λ (x : Entry). IsWellFormed x.call) e rest first all)
