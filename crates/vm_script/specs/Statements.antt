-- What a line of a script says, test by test. Public clauses cite this.
use Rattle.std.specs.Prelude.{ℕ, ◌*◌, ◌^◌, ◌==◌, Bool, true, false, not, ◌&&◌, ◌||◌, List, [], ◌∷◌, length, codes, nat_le, nat_lt, Result, Ok, Err, if◌then◌else◌}
use Rattle.flat_model.specs.vm_types.declared.call.Call.TheVariants as call
use Rattle.flat_model.specs.vm_types.declared.call.Kind.{Kind}
use Rattle.flat_model.specs.vm_types.declared.call.Kind.TheVariants as kinds
use Rattle.flat_model.specs.vm_types.declared.call.Object.TheVariants as object
use Rattle.flat_model.specs.vm_types.declared.call.Place.{Place}
use Rattle.flat_model.specs.vm_types.declared.call.Place.TheVariants.{At, Any}
use Rattle.flat_model.specs.vm_types.declared.prot.Prot.{Prot}
use Rattle.vm_script.specs.declared.fault.ScriptKind.{ScriptKind}
use Rattle.vm_script.specs.declared.fault.ScriptKind.TheVariants as fault
use Rattle.vm_script.specs.declared.plan.SetupAct.{SetupAct}
use Rattle.vm_script.specs.declared.plan.SetupAct.TheVariants as given
use Rattle.vm_script.specs.declared.plan.PlanAct.{PlanAct}
use Rattle.vm_script.specs.declared.plan.PlanAct.TheVariants as act
use Rattle.vm_script.specs.declared.statement.Statement.{Statement}
use Rattle.vm_script.specs.declared.statement.Statement.TheVariants as says
use Rattle.vm_script.specs.declared.statement.LineSpot.{LineSpot}
use Rattle.vm_script.specs.Fields.{is_word, number_of_field, is_file_name, bytes_of_field}
use Rattle.vm_script.specs.Reading.{◌>>=◌, ◌>>◌, or_fault, need}

-- NUMBER, or the fault `number`.
abbrev pub number : List ℕ → Result ℕ ScriptKind
number field = or_fault fault.Number (number_of_field field)

-- NAME, or the fault `name`.
abbrev pub name : List ℕ → Result (List ℕ) ScriptKind
name field = if is_file_name field then Ok field else Err fault.Name

-- BYTES, or the fault `bytes`.
abbrev pub bytes : List ℕ → Result (List ℕ) ScriptKind
bytes field = or_fault fault.Bytes (bytes_of_field field)

-- SIZE is 1, 2 or 4.
unfoldable pub size : List ℕ → Result ℕ ScriptKind
size field = do
  n ← number field
  need fault.Value ((n == 1) || (n == 2) || (n == 4))
  Ok n

-- PROT is `none`, `r`, `w` or `rw`.
unfoldable pub prot : List ℕ → Result Prot ScriptKind
prot field =
    if is_word field (codes "none") then Ok (record { 0 = 0 })
    else if is_word field (codes "r") then Ok (record { 0 = 1 })
    else if is_word field (codes "w") then Ok (record { 0 = 2 })
    else if is_word field (codes "rw") then Ok (record { 0 = 3 })
    else Err fault.Value

-- KIND is `shared` or `private`.
unfoldable pub kind : List ℕ → Result Kind ScriptKind
kind field =
    if is_word field (codes "shared") then Ok kinds.Shared
    else if is_word field (codes "private") then Ok kinds.Private
    else Err fault.Value

-- PLACE is `any` or a number.
unfoldable pub place : List ℕ → Result Place ScriptKind
place field = if is_word field (codes "any") then Ok Any else (number field >>= λ n. Ok (At n))

-- MODE is `ro` or `rw`: whether the file may be written.
unfoldable pub mode : List ℕ → Result Bool ScriptKind
mode field =
    if is_word field (codes "ro") then Ok false
    else if is_word field (codes "rw") then Ok true
    else Err fault.Value

-- The number of a file of which only the name is known.
abbrev pub unknown_file : ℕ
unknown_file = 4294967295

-- `load A SIZE`
unfoldable pub load_line : List (List ℕ) → Result PlanAct ScriptKind
load_line (a ∷ s ∷ []) = do
  addr ← number a
  n ← size s
  Ok (act.Call (call.Load addr n))
load_line args = Err fault.Count

-- `store A SIZE VALUE`, with VALUE below 2^(8 * SIZE)
unfoldable pub store_line : List (List ℕ) → Result PlanAct ScriptKind
store_line (a ∷ s ∷ v ∷ []) = do
  addr ← number a
  n ← size s
  value ← number v
  need fault.Value (nat_lt value (2 ^ (8 * n)))
  Ok (act.Call (call.Store addr n value))
store_line args = Err fault.Count

-- OBJECT is `zero`, new zeros, or the name of a file.
unfoldable pub map_object : Place → ℕ → Prot → Kind → List ℕ → List ℕ → Result PlanAct ScriptKind
map_object at len rights k shown o =
    if is_word shown (codes "zero") then (number o >>= λ offset. Ok (act.Call (call.Map at len rights k object.NewZero offset)))
    else (name shown >>= λ file. number o >>= λ offset. Ok (act.Named file (call.Map at len rights k (object.File unknown_file) offset)))

-- What a map's six fields say.
unfoldable pub map_of : List ℕ → List ℕ → List ℕ → List ℕ → List ℕ → List ℕ → Result PlanAct ScriptKind
map_of a l p k shown o = do
  at ← place a
  len ← number l
  rights ← prot p
  shares ← kind k
  map_object at len rights shares shown o

-- `map PLACE LENGTH PROT KIND OBJECT OFFSET`
unfoldable pub map_line : List (List ℕ) → Result PlanAct ScriptKind
map_line (a ∷ l ∷ p ∷ k ∷ shown ∷ o ∷ []) = map_of a l p k shown o
map_line args = Err fault.Count

-- `unmap A LENGTH`
unfoldable pub unmap_line : List (List ℕ) → Result PlanAct ScriptKind
unmap_line (a ∷ l ∷ []) = do
  addr ← number a
  len ← number l
  Ok (act.Call (call.Unmap addr len))
unmap_line args = Err fault.Count

-- `sync A LENGTH`
unfoldable pub sync_line : List (List ℕ) → Result PlanAct ScriptKind
sync_line (a ∷ l ∷ []) = do
  addr ← number a
  len ← number l
  Ok (act.Call (call.Sync addr len))
sync_line args = Err fault.Count

-- What a protect's three fields say.
unfoldable pub protect_of : List ℕ → List ℕ → List ℕ → Result PlanAct ScriptKind
protect_of a l p = do
  addr ← number a
  len ← number l
  rights ← prot p
  Ok (act.Call (call.Protect addr len rights))

-- `protect A LENGTH PROT`
unfoldable pub protect_line : List (List ℕ) → Result PlanAct ScriptKind
protect_line (a ∷ l ∷ p ∷ []) = protect_of a l p
protect_line args = Err fault.Count

-- What a read's three fields say: LENGTH is from 1 to 65,536.
unfoldable pub read_of : List ℕ → List ℕ → List ℕ → Result PlanAct ScriptKind
read_of n o l = do
  file ← name n
  offset ← number o
  len ← number l
  need fault.Value (nat_le 1 len && nat_le len 65536)
  Ok (act.Named file (call.Read unknown_file offset len))

-- `read NAME OFFSET LENGTH`
unfoldable pub read_call_line : List (List ℕ) → Result PlanAct ScriptKind
read_call_line (n ∷ o ∷ l ∷ []) = read_of n o l
read_call_line args = Err fault.Count

-- What a write's three fields say.
unfoldable pub write_of : List ℕ → List ℕ → List ℕ → Result PlanAct ScriptKind
write_of n o b = do
  file ← name n
  offset ← number o
  text ← bytes b
  Ok (act.Write file unknown_file offset text)

-- `write NAME OFFSET BYTES`
unfoldable pub write_line : List (List ℕ) → Result PlanAct ScriptKind
write_line (n ∷ o ∷ b ∷ []) = write_of n o b
write_line args = Err fault.Count

-- `truncate NAME LENGTH`
unfoldable pub truncate_line : List (List ℕ) → Result PlanAct ScriptKind
truncate_line (n ∷ l ∷ []) = do
  file ← name n
  len ← number l
  Ok (act.Named file (call.Truncate unknown_file len))
truncate_line args = Err fault.Count

-- A line of one word alone.
abbrev pub lone_word : {A : Type 0} → A → List (List ℕ) → Result A ScriptKind
lone_word x [] = Ok x
lone_word x args = Err fault.Count

-- The number of a line of one number, as `frames N`.
abbrev pub amount : List (List ℕ) → Result ℕ ScriptKind
amount (n ∷ []) = number n
amount args = Err fault.Count

-- A path is one field of 1 to 255 bytes.
unfoldable pub path : List ℕ → Result (List ℕ) ScriptKind
path field = need fault.Value (nat_le (length field) 255) >> Ok field

-- What a disk line's three fields say.
unfoldable pub disk_setup : List ℕ → List ℕ → List ℕ → Result SetupAct ScriptKind
disk_setup d form x =
    number d >>= λ disk.
    if is_word form (codes "blank") then (number x >>= λ blocks. Ok (given.Blank disk blocks))
    else if is_word form (codes "path") then (path x >>= λ p. Ok (given.Path disk p))
    else Err fault.Value

-- `disk D blank N` and `disk D path P`
unfoldable pub disk : List (List ℕ) → Result SetupAct ScriptKind
disk (d ∷ form ∷ x ∷ []) = disk_setup d form x
disk args = Err fault.Count

-- How a line joins two disks, `stripe` or `mirror`: whether it mirrors them.
unfoldable pub join_form : List ℕ → Result Bool ScriptKind
join_form field =
    if is_word field (codes "stripe") then Ok false
    else if is_word field (codes "mirror") then Ok true
    else Err fault.Value

-- What a join line's three fields say.
unfoldable pub join_setup : List ℕ → List ℕ → List ℕ → Result SetupAct ScriptKind
join_setup d form e = do
  disk ← number d
  mirror ← join_form form
  other ← number e
  Ok (given.Join disk other mirror)

-- `join D stripe E` and `join D mirror E`
unfoldable pub join : List (List ℕ) → Result SetupAct ScriptKind
join (d ∷ form ∷ e ∷ []) = join_setup d form e
join args = Err fault.Count

-- The bytes that a file begins with: BYTES, or `-` for none.
unfoldable pub content : List ℕ → Result (List ℕ) ScriptKind
content field = if is_word field (codes "-") then Ok [] else bytes field

-- What a file line's five fields say.
unfoldable pub file_setup : List ℕ → List ℕ → List ℕ → List ℕ → List ℕ → Result SetupAct ScriptKind
file_setup n m d p b = do
  named ← name n
  writable ← mode m
  on ← number d
  pages ← number p
  text ← content b
  Ok (given.File named writable on pages text)

-- `file NAME MODE D PAGES BYTES`
unfoldable pub file : List (List ℕ) → Result SetupAct ScriptKind
file (n ∷ m ∷ d ∷ p ∷ b ∷ []) = file_setup n m d p b
file args = Err fault.Count

-- A line of a block says this.
abbrev pub own_statement : Result PlanAct ScriptKind → Result Statement ScriptKind
own_statement r = r >>= λ a. Ok (says.Own a)

-- A set-up line says this.
abbrev pub setup : Result SetupAct ScriptKind → Result Statement ScriptKind
setup r = r >>= λ a. Ok (says.Setup a)

-- What a line of this word says that gives a disk or a file, or joins two disks.
unfoldable pub disk_statement : LineSpot → List ℕ → List (List ℕ) → Result Statement ScriptKind
disk_statement spot word args =
    if is_word word (codes "disk") then (need fault.Place spot.opening >> setup (disk args))
    else if is_word word (codes "join") then (need fault.Place spot.opening >> setup (join args))
    else if is_word word (codes "file") then (need fault.Place spot.opening >> setup (file args))
    else Err fault.Word

-- What a set-up line of this word says: it stands before the first block, and `frames`, `swap` and `translations` come
-- at most once.
unfoldable pub setup_statement : LineSpot → List ℕ → List (List ℕ) → Result Statement ScriptKind
setup_statement spot word args =
    if is_word word (codes "frames") then (need fault.Place (spot.opening && not spot.frames) >> (amount args >>= λ n. Ok (says.Setup (given.Frames n))))
    else if is_word word (codes "swap") then (need fault.Place (spot.opening && not spot.swap) >> (amount args >>= λ n. Ok (says.Setup (given.Swap n))))
    else if is_word word (codes "translations") then (need fault.Place (spot.opening && not spot.translations) >> (amount args >>= λ n. Ok (says.Setup (given.Translations n))))
    else disk_statement spot word args

-- What a line of this word says that begins a block, ends it or waits for children.
unfoldable pub block_statement : LineSpot → List ℕ → List (List ℕ) → Result Statement ScriptKind
block_statement spot word args =
    if is_word word (codes "wait") then (need fault.Place spot.inside >> own_statement (lone_word act.Wait args))
    else if is_word word (codes "process") then (need fault.Place (not spot.inside) >> lone_word says.Process args)
    else if is_word word (codes "fork") then (need fault.Place spot.inside >> lone_word says.Fork args)
    else if is_word word (codes "end") then (need fault.Place spot.inside >> lone_word says.End args)
    else setup_statement spot word args

-- What a line of this word says that reads, writes or cuts a file, or that makes no call.
unfoldable pub file_statement : LineSpot → List ℕ → List (List ℕ) → Result Statement ScriptKind
file_statement spot word args =
    if is_word word (codes "read") then (need fault.Place spot.inside >> own_statement (read_call_line args))
    else if is_word word (codes "write") then (need fault.Place spot.inside >> own_statement (write_line args))
    else if is_word word (codes "truncate") then (need fault.Place spot.inside >> own_statement (truncate_line args))
    else block_statement spot word args

-- What a line of this word says that makes, takes or changes a mapping, or that makes another call or none.
unfoldable pub mapping_statement : LineSpot → List ℕ → List (List ℕ) → Result Statement ScriptKind
mapping_statement spot word args =
    if is_word word (codes "map") then (need fault.Place spot.inside >> own_statement (map_line args))
    else if is_word word (codes "unmap") then (need fault.Place spot.inside >> own_statement (unmap_line args))
    else if is_word word (codes "protect") then (need fault.Place spot.inside >> own_statement (protect_line args))
    else if is_word word (codes "sync") then (need fault.Place spot.inside >> own_statement (sync_line args))
    else file_statement spot word args

-- What a line of this word says: first the word, then the place, then the number of fields, then the fields from the left.
unfoldable pub word_statement : LineSpot → List ℕ → List (List ℕ) → Result Statement ScriptKind
word_statement spot word args =
    if is_word word (codes "load") then (need fault.Place spot.inside >> own_statement (load_line args))
    else if is_word word (codes "store") then (need fault.Place spot.inside >> own_statement (store_line args))
    else mapping_statement spot word args

-- The first field begins with `#`.
abbrev pub is_comment : List ℕ → Bool
is_comment [] = false
is_comment (b ∷ bytes) = b == 35

-- What a line says, by whether its bytes are from 0x20 to 0x7e and by its fields. A line without fields, or whose first
-- field begins with #, says nothing, whatever its bytes are.
unfoldable pub statement : LineSpot → Bool → List (List ℕ) → Result Statement ScriptKind
statement spot plain [] = Ok says.Nothing
statement spot plain (word ∷ args) = if is_comment word then Ok says.Nothing else (need fault.Byte plain >> word_statement spot word args)
