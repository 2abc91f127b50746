-- What a text begins with and goes on with, for a cursor that goes through a script. Inside: no public clause cites this.
use Rattle.std.specs.Prelude.{ℕ, Bool, ◌||◌, List, [], ◌∷◌, if◌then◌else◌}
use Rattle.vm_script.specs.Lines.{is_feed, is_space, is_graphic}

-- A field ends before a space or a line feed.
abbrev pub ends_field : ℕ → Bool
ends_field b = is_space b || is_feed b

-- The first line of a text, without its line feed.
abbrev pub first_line : List ℕ → List ℕ
first_line [] = []
first_line (b ∷ bytes) = if is_feed b then [] else b ∷ first_line bytes

-- What follows the first line and its line feed.
abbrev pub after_line : List ℕ → List ℕ
after_line [] = []
after_line (b ∷ bytes) = if is_feed b then bytes else after_line bytes

-- What follows the spaces in front of a text.
abbrev pub after_spaces : List ℕ → List ℕ
after_spaces [] = []
after_spaces (b ∷ bytes) = if is_space b then after_spaces bytes else b ∷ bytes

-- What follows the bytes of a field in front of a text, from 0x21 to 0x7e.
abbrev pub after_graphic : List ℕ → List ℕ
after_graphic [] = []
after_graphic (b ∷ bytes) = if is_graphic b then after_graphic bytes else b ∷ bytes

-- The field in front of a text that begins with one.
abbrev pub field_of : List ℕ → List ℕ
field_of [] = []
field_of (b ∷ bytes) = if ends_field b then [] else b ∷ field_of bytes

-- What follows the field in front of a text, its space or line feed first.
abbrev pub after_field : List ℕ → List ℕ
after_field [] = []
after_field (b ∷ bytes) = if ends_field b then b ∷ bytes else after_field bytes
