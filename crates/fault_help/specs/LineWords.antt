-- The words that a script's lines begin with, and the fields that each wants. Public clauses cite this.
use Rattle.std.specs.Prelude.{ℕ, List, [], ◌∷◌, codes, Option, Some, None, if◌then◌else◌}
use Rattle.vm_script.specs.Fields.{is_word}
use Rattle.fault_help.specs.declared.line_words.LineWord.{LineWord}
use Rattle.fault_help.specs.declared.line_words.LineWord.TheVariants as says
use Rattle.fault_help.specs.declared.line_words.Role.{Role}
use Rattle.fault_help.specs.declared.line_words.Role.TheVariants as role

-- A word of a set-up line.
unfoldable pub setup_line_word : List ℕ → Option LineWord
setup_line_word field =
    if is_word field (codes "frames") then Some says.Frames
    else if is_word field (codes "swap") then Some says.Swap
    else if is_word field (codes "translations") then Some says.Translations
    else if is_word field (codes "disk") then Some says.Disk
    else if is_word field (codes "join") then Some says.Join
    else if is_word field (codes "file") then Some says.File
    else None

-- A word that begins a block, ends it or waits for children; else a word of a set-up line.
unfoldable pub block_line_word : List ℕ → Option LineWord
block_line_word field =
    if is_word field (codes "process") then Some says.Process
    else if is_word field (codes "fork") then Some says.Fork
    else if is_word field (codes "end") then Some says.End
    else if is_word field (codes "wait") then Some says.Wait
    else setup_line_word field

-- A word of a call of a file; else another one.
unfoldable pub file_line_word : List ℕ → Option LineWord
file_line_word field =
    if is_word field (codes "read") then Some says.Read
    else if is_word field (codes "write") then Some says.Write
    else if is_word field (codes "truncate") then Some says.Truncate
    else block_line_word field

-- The word that a line's first field is, where it is one.
unfoldable pub line_word : List ℕ → Option LineWord
line_word field =
    if is_word field (codes "map") then Some says.Map
    else if is_word field (codes "unmap") then Some says.Unmap
    else if is_word field (codes "protect") then Some says.Protect
    else if is_word field (codes "sync") then Some says.Sync
    else if is_word field (codes "load") then Some says.Load
    else if is_word field (codes "store") then Some says.Store
    else file_line_word field

-- The fields behind a word, as text.
abbrev pub form_text : LineWord → List ℕ
form_text says.Frames = codes "N"
form_text says.Swap = codes "N"
form_text says.Translations = codes "N"
form_text says.Disk = codes "D blank N or D path P"
form_text says.Join = codes "D stripe E or D mirror E"
form_text says.File = codes "NAME MODE D PAGES BYTES"
form_text says.Process = codes "no field"
form_text says.Fork = codes "no field"
form_text says.End = codes "no field"
form_text says.Wait = codes "no field"
form_text says.Map = codes "PLACE LENGTH PROT KIND OBJECT OFFSET"
form_text says.Unmap = codes "ADDRESS LENGTH"
form_text says.Protect = codes "ADDRESS LENGTH PROT"
form_text says.Sync = codes "ADDRESS LENGTH"
form_text says.Load = codes "ADDRESS SIZE"
form_text says.Store = codes "ADDRESS SIZE VALUE"
form_text says.Read = codes "NAME OFFSET LENGTH"
form_text says.Write = codes "NAME OFFSET BYTES"
form_text says.Truncate = codes "NAME LENGTH"

-- What each field behind a word is to be; `Free` stands where the word wants none.
abbrev pub roles_of : LineWord → List Role
roles_of says.Frames = role.Number ∷ role.Free ∷ role.Free ∷ role.Free ∷ role.Free ∷ role.Free ∷ []
roles_of says.Swap = role.Number ∷ role.Free ∷ role.Free ∷ role.Free ∷ role.Free ∷ role.Free ∷ []
roles_of says.Translations = role.Number ∷ role.Free ∷ role.Free ∷ role.Free ∷ role.Free ∷ role.Free ∷ []
roles_of says.Disk = role.Number ∷ role.DiskForm ∷ role.DiskSource ∷ role.Free ∷ role.Free ∷ role.Free ∷ []
roles_of says.Join = role.Number ∷ role.JoinForm ∷ role.Number ∷ role.Free ∷ role.Free ∷ role.Free ∷ []
roles_of says.File = role.Name ∷ role.Mode ∷ role.Number ∷ role.Number ∷ role.Bytes ∷ role.Free ∷ []
roles_of says.Process = role.Free ∷ role.Free ∷ role.Free ∷ role.Free ∷ role.Free ∷ role.Free ∷ []
roles_of says.Fork = role.Free ∷ role.Free ∷ role.Free ∷ role.Free ∷ role.Free ∷ role.Free ∷ []
roles_of says.End = role.Free ∷ role.Free ∷ role.Free ∷ role.Free ∷ role.Free ∷ role.Free ∷ []
roles_of says.Wait = role.Free ∷ role.Free ∷ role.Free ∷ role.Free ∷ role.Free ∷ role.Free ∷ []
roles_of says.Map = role.Place ∷ role.Number ∷ role.Prot ∷ role.Kind ∷ role.Name ∷ role.Number ∷ []
roles_of says.Unmap = role.Number ∷ role.Number ∷ role.Free ∷ role.Free ∷ role.Free ∷ role.Free ∷ []
roles_of says.Protect = role.Number ∷ role.Number ∷ role.Prot ∷ role.Free ∷ role.Free ∷ role.Free ∷ []
roles_of says.Sync = role.Number ∷ role.Number ∷ role.Free ∷ role.Free ∷ role.Free ∷ role.Free ∷ []
roles_of says.Load = role.Number ∷ role.Size ∷ role.Free ∷ role.Free ∷ role.Free ∷ role.Free ∷ []
roles_of says.Store = role.Number ∷ role.Size ∷ role.Value ∷ role.Free ∷ role.Free ∷ role.Free ∷ []
roles_of says.Read = role.Name ∷ role.Number ∷ role.Length ∷ role.Free ∷ role.Free ∷ role.Free ∷ []
roles_of says.Write = role.Name ∷ role.Number ∷ role.Bytes ∷ role.Free ∷ role.Free ∷ role.Free ∷ []
roles_of says.Truncate = role.Name ∷ role.Number ∷ role.Free ∷ role.Free ∷ role.Free ∷ role.Free ∷ []
