-- What is said of the first fault of a script. Public clauses cite this.
use Rattle.std.specs.Prelude.{ℕ, ◌==◌, ◌-◌, Bool, true, false, List, [], ◌++◌, codes, decimal, length, min, nat_lt, slice_index_or, take, Option, Some, None, if◌then◌else◌}
use Rattle.vm_script.specs.Fields.{number_of_field}
use Rattle.vm_script.specs.declared.fault.ScriptKind.{ScriptKind}
use Rattle.vm_script.specs.declared.fault.ScriptKind.TheVariants as kind
use Rattle.fault_help.specs.LineWords.{form_text}
use Rattle.fault_help.specs.declared.line_words.LineWord.{LineWord}
use Rattle.fault_help.specs.declared.line_words.LineWord.TheVariants as says
use Rattle.fault_help.specs.declared.line_words.Role.{Role}
use Rattle.fault_help.specs.declared.line_words.Role.TheVariants as role

-- What stands behind a field that is quoted.
abbrev pub quote_end : Bool → List ℕ
quote_end true = codes ".."
quote_end false = []

-- A field as it is quoted: its first 40 bytes, and two dots where there are more.
abbrev pub quoted : List ℕ → List ℕ
quoted field = take (min (length field) 40) field ++ quote_end (nat_lt 40 (length field))

-- A byte that no line may have.
abbrev pub byte_text_of : Option ℕ → List ℕ
byte_text_of None = codes "a byte stands here that no line may have"
byte_text_of (Some b) =
    if b == 9 then codes "a tab stands here; spaces separate fields"
    else if b == 13 then codes "a carriage return stands here; a line feed alone ends a line"
    else codes "a byte stands here that is no printable character of ASCII"

-- Where a line of this word may stand.
abbrev pub standing_text : LineWord → List ℕ
standing_text says.Frames = codes " may stand once, before the first process"
standing_text says.Swap = codes " may stand once, before the first process"
standing_text says.Translations = codes " may stand once, before the first process"
standing_text says.Disk = codes " has to stand before the first process"
standing_text says.Join = codes " has to stand before the first process"
standing_text says.File = codes " has to stand before the first process"
standing_text says.Process = codes " may not stand in a block; an end is missing above it"
standing_text other = codes " has to stand in a block, between process and end"

-- How many fields there are.
abbrev pub count_text : ℕ → List ℕ
count_text n = decimal n ++ (if n == 1 then codes " field stands here" else codes " fields stand here")

-- A word of text for a comment behind a line.
abbrev pub comment_text : Bool → List ℕ
comment_text true = codes "; a comment wants a line of its own"
comment_text false = []

-- What is wrong with the value of a word of so many bytes.
abbrev pub size_text : Option ℕ → List ℕ
size_text (Some n) = if n == 1 then codes " is more than a byte holds" else codes " is more than 2 bytes hold"
size_text None = codes " is more than 2 bytes hold"

-- What is wrong with a field in this role, outside its choices or its range; the fields are those behind the line's word.
abbrev pub value_text : Role → List (List ℕ) → List ℕ
value_text role.Size args = codes " is no size: 1, 2 or 4"
value_text role.Value args = size_text (number_of_field (slice_index_or args 1 []))
value_text role.Prot args = codes " is none of none, r, w and rw"
value_text role.Kind args = codes " is neither shared nor private"
value_text role.Length args = codes " is not from 1 to 65536"
value_text role.Mode args = codes " is neither ro nor rw"
value_text role.DiskForm args = codes " is neither blank nor path"
value_text role.DiskSource args = codes " has more than 255 bytes"
value_text role.JoinForm args = codes " is neither stripe nor mirror"
value_text other args = codes " is outside its range"

-- What is wrong with a field in this role.
abbrev pub field_text : ScriptKind → Role → List (List ℕ) → List ℕ
field_text kind.Number r args = codes " is no number"
field_text kind.Name r args = codes " is no name"
field_text kind.Bytes r args = codes " is no bytes in hexadecimal"
field_text other r args = value_text r args

-- The field that is wrong, and how.
abbrev pub wrong_text : ScriptKind → List (List ℕ) → Option (Role × List ℕ) → List ℕ
wrong_text k args None = []
wrong_text k args (Some f) = codes "; " ++ quoted f.1 ++ field_text k f.0 args

-- What a line's word wants.
abbrev pub wants_text : List ℕ → LineWord → List ℕ
wants_text first word = quoted first ++ codes " wants " ++ form_text word
