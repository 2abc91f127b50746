-- A line of a script, its fields, and which of them is wrong. Public clauses cite this.
use Rattle.std.specs.Prelude.{ℕ, ◌-◌, ◌==◌, Bool, true, false, not, ◌&&◌, ◌||◌, List, [], ◌∷◌, codes, is_some, Option, Some, None, if◌then◌else◌}
use Rattle.vm_script.specs.Fields.{is_word, number_of_field}
use Rattle.vm_script.specs.declared.fault.ScriptKind.{ScriptKind}
use Rattle.vm_script.specs.declared.fault.ScriptKind.TheVariants as kind
use Rattle.fault_help.specs.declared.line_words.Role.{Role}
use Rattle.fault_help.specs.declared.line_words.Role.TheVariants as role

abbrev pub is_number_field : List ℕ → Bool
is_number_field field = is_some (number_of_field field)

abbrev pub is_size_number : Option ℕ → Bool
is_size_number None = false
is_size_number (Some n) = (n == 1) || (n == 2) || (n == 4)

-- SIZE is 1, 2 or 4.
abbrev pub is_size_field : List ℕ → Bool
is_size_field field = is_size_number (number_of_field field)

-- PROT is `none`, `r`, `w` or `rw`.
unfoldable pub is_prot_field : List ℕ → Bool
is_prot_field field = is_word field (codes "none") || is_word field (codes "r") || is_word field (codes "w") || is_word field (codes "rw")

-- The field, in this role, is no number.
abbrev pub lacks_number : Role → List ℕ → Bool
lacks_number role.Number field = not (is_number_field field)
lacks_number role.Size field = not (is_number_field field)
lacks_number role.Value field = not (is_number_field field)
lacks_number role.Length field = not (is_number_field field)
lacks_number role.Place field = not (is_word field (codes "any")) && not (is_number_field field)
lacks_number role.DiskSource field = not (is_number_field field)
lacks_number other field = false

-- The field, in this role, is outside its choices or its range, where those before it are not.
abbrev pub lacks_value : Role → List ℕ → Bool
lacks_value role.Size field = not (is_size_field field)
lacks_value role.Prot field = not (is_prot_field field)
lacks_value role.DiskForm field = not (is_word field (codes "blank")) && not (is_word field (codes "path"))
lacks_value role.Value field = true
lacks_value role.Kind field = true
lacks_value role.Length field = true
lacks_value role.Mode field = true
lacks_value role.DiskSource field = true
lacks_value role.JoinForm field = true
lacks_value other field = false

abbrev pub is_name_role : Role → Bool
is_name_role role.Name = true
is_name_role other = false

abbrev pub is_bytes_role : Role → Bool
is_bytes_role role.Bytes = true
is_bytes_role other = false

-- The field, in this role, has a fault of this kind, where those before it have none.
abbrev pub is_wrong_field : ScriptKind → Role → List ℕ → Bool
is_wrong_field kind.Number r field = lacks_number r field
is_wrong_field kind.Name r field = is_name_role r
is_wrong_field kind.Bytes r field = is_bytes_role r
is_wrong_field kind.Value r field = lacks_value r field
is_wrong_field other r field = false

-- The first field with a fault of this kind, and what it was to be.
abbrev pub wrong_field : ScriptKind → List Role → List (List ℕ) → Option (Role × List ℕ)
wrong_field k [] fields = None
wrong_field k (r ∷ roles) [] = None
wrong_field k (r ∷ roles) (f ∷ fields) = if is_wrong_field k r f then Some (r, f) else wrong_field k roles fields
