-- Bytes, protections and kinds as text. Public clauses cite this.
use Rattle.std.specs.Prelude.{ℕ, ◌+◌, ◌/◌, ◌%◌, ◌==◌, List, [], ◌∷◌, codes, nat_lt, if◌then◌else◌}
use Rattle.std.specs.List.{flat_map}
use Rattle.flat_model.specs.vm_types.declared.call.Kind.{Kind}
use Rattle.flat_model.specs.vm_types.declared.call.Kind.TheVariants as kinds
use Rattle.flat_model.specs.vm_types.declared.prot.Prot.{Prot}

-- A hexadecimal digit, in lower case.
abbrev pub hex_digit : ℕ → ℕ
hex_digit d = if nat_lt d 10 then 48 + d else 87 + d

-- Two hexadecimal digits for a byte.
abbrev pub byte_text : ℕ → List ℕ
byte_text b = hex_digit (b / 16) ∷ hex_digit (b % 16) ∷ []

-- Two hexadecimal digits for each byte.
abbrev pub hex_text : List ℕ → List ℕ
hex_text bytes = flat_map byte_text bytes

-- PROT, as it is printed.
abbrev pub prot_text : Prot → List ℕ
prot_text p = if p.0 == 0 then codes "none" else if p.0 == 1 then codes "r" else if p.0 == 2 then codes "w" else codes "rw"

-- KIND, as it is printed.
abbrev pub kind_text : Kind → List ℕ
kind_text kinds.Shared = codes "shared"
kind_text kinds.Private = codes "private"
