-- The lines of a script and their fields. Public clauses cite this.
use Rattle.std.specs.Prelude.{ℕ, ◌==◌, Bool, true, false, ◌&&◌, List, [], ◌∷◌, filter, nat_le, if◌then◌else◌}
use Rattle.std.specs.List.{slice_split, onto_first}

-- A line feed.
abbrev pub is_feed : ℕ → Bool
is_feed b = b == 10

-- A space.
abbrev pub is_space : ℕ → Bool
is_space b = b == 32

-- A byte from 0x20 to 0x7e.
abbrev pub is_plain : ℕ → Bool
is_plain b = nat_le 32 b && nat_le b 126

-- A byte from 0x21 to 0x7e, which may stand in a field.
abbrev pub is_graphic : ℕ → Bool
is_graphic b = nat_le 33 b && nat_le b 126

-- The lines of a text: each ends with a line feed, which the last one may lack.
abbrev pub lines : List ℕ → List (List ℕ)
lines [] = []
lines (b ∷ bytes) = if is_feed b then [] ∷ lines bytes else onto_first b (lines bytes)

-- There is a byte.
abbrev pub isnt_empty : List ℕ → Bool
isnt_empty [] = false
isnt_empty (b ∷ bytes) = true

-- The fields of a line are what stands between its spaces, where that isn't empty.
abbrev pub fields : List ℕ → List (List ℕ)
fields line = filter isnt_empty (slice_split is_space line)
