-- The plain printed form of a script: one statement a line, one space between fields, numbers in decimal. Public clauses
-- cite this.
use Rattle.std.specs.Prelude.{ℕ, ◌≡◌, ◌≤◌, ◌+◌, Bool, true, not, ◌&&◌, List, [], ◌∷◌, ◌++◌, length, codes, decimal, if◌then◌else◌, All, IsTrue}
use Rattle.std.specs.List.{flat_map, list_all}
use Rattle.flat_model.specs.vm_types.declared.call.Call.{Call}
use Rattle.flat_model.specs.vm_types.declared.call.Call.TheVariants as call
use Rattle.flat_model.specs.vm_types.declared.call.Object.TheVariants as object
use Rattle.flat_model.specs.vm_types.declared.call.Place.{Place}
use Rattle.flat_model.specs.vm_types.declared.call.Place.TheVariants.{At, Any}
use Rattle.flat_model.specs.vm_types.WellFormed.{IsNumber, IsPlace}
use Rattle.flat_model.specs.vm_types.Prot.{IsProt}
use Rattle.flat_model.specs.vm_types.Words.{IsByte, IsWordSize, FitsWord}
use Rattle.vm_script.specs.Texts.{hex_text, prot_text, kind_text}
use Rattle.vm_script.specs.declared.plan.SetupAct.{SetupAct}
use Rattle.vm_script.specs.declared.plan.SetupAct.TheVariants as given
use Rattle.vm_script.specs.declared.plan.PlanAct.{PlanAct}
use Rattle.vm_script.specs.declared.plan.PlanAct.TheVariants as act
use Rattle.vm_script.specs.declared.statement.Statement.{Statement}
use Rattle.vm_script.specs.declared.statement.Statement.TheVariants as says
use Rattle.vm_script.specs.declared.statement.LineSpot.{LineSpot}
use Rattle.vm_script.specs.Fields.{is_file_name}
use Rattle.vm_script.specs.Lines.{is_graphic}
use Rattle.vm_script.specs.Statements.{unknown_file}
use Rattle.vm_script.specs.Plans.{OpenPlan, with_statement, spot_of}

-- PLACE, as it is printed: `any`, or an address.
abbrev pub place_text : Place → List ℕ
place_text (At a) = decimal a
place_text Any = codes "any"

-- The fields of a call's line; a call that no line of its own makes has none.
abbrev pub call_fields : List ℕ → Call → List (List ℕ)
call_fields name (call.Load a n) = codes "load" ∷ decimal a ∷ decimal n ∷ []
call_fields name (call.Store a n v) = codes "store" ∷ decimal a ∷ decimal n ∷ decimal v ∷ []
call_fields name (call.Map at len prot kind object offset) = codes "map" ∷ place_text at ∷ decimal len ∷ prot_text prot ∷ kind_text kind ∷ name ∷ decimal offset ∷ []
call_fields name (call.Unmap a len) = codes "unmap" ∷ decimal a ∷ decimal len ∷ []
call_fields name (call.Protect a len prot) = codes "protect" ∷ decimal a ∷ decimal len ∷ prot_text prot ∷ []
call_fields name (call.Sync a len) = codes "sync" ∷ decimal a ∷ decimal len ∷ []
call_fields name (call.Read file offset len) = codes "read" ∷ name ∷ decimal offset ∷ decimal len ∷ []
call_fields name (call.Truncate file len) = codes "truncate" ∷ name ∷ decimal len ∷ []
call_fields name c = []

-- The fields of a line of a block.
abbrev pub act_fields : PlanAct → List (List ℕ)
act_fields (act.Call c) = call_fields (codes "zero") c
act_fields (act.Named name c) = call_fields name c
act_fields (act.Write name file offset bytes) = codes "write" ∷ name ∷ decimal offset ∷ hex_text bytes ∷ []
act_fields act.Wait = codes "wait" ∷ []

-- The bytes that a file begins with.
abbrev pub content_text : List ℕ → List ℕ
content_text [] = codes "-"
content_text (b ∷ bytes) = hex_text (b ∷ bytes)

-- The fields of a set-up line.
abbrev pub setup_fields : SetupAct → List (List ℕ)
setup_fields (given.Frames n) = codes "frames" ∷ decimal n ∷ []
setup_fields (given.Swap n) = codes "swap" ∷ decimal n ∷ []
setup_fields (given.Translations n) = codes "translations" ∷ decimal n ∷ []
setup_fields (given.Blank disk blocks) = codes "disk" ∷ decimal disk ∷ codes "blank" ∷ decimal blocks ∷ []
setup_fields (given.Path disk path) = codes "disk" ∷ decimal disk ∷ codes "path" ∷ path ∷ []
setup_fields (given.Join disk other mirror) =
    codes "join" ∷ decimal disk ∷ (if mirror then codes "mirror" else codes "stripe") ∷ decimal other ∷ []
setup_fields (given.File name writable disk pages bytes) =
    codes "file" ∷ name ∷ (if writable then codes "rw" else codes "ro") ∷ decimal disk ∷ decimal pages ∷ content_text bytes ∷ []

-- The fields of a line that says this.
abbrev pub statement_fields : Statement → List (List ℕ)
statement_fields says.Nothing = []
statement_fields (says.Setup a) = setup_fields a
statement_fields says.Process = codes "process" ∷ []
statement_fields says.Fork = codes "fork" ∷ []
statement_fields says.End = codes "end" ∷ []
statement_fields (says.Own a) = act_fields a

-- The line of these fields.
abbrev pub line_of_fields : List (List ℕ) → List ℕ
line_of_fields [] = []
line_of_fields (field ∷ []) = field
line_of_fields (field ∷ next ∷ more) = field ++ 32 ∷ line_of_fields (next ∷ more)

-- The text of a script of these statements, each line with its line feed.
abbrev pub script_text : List Statement → List ℕ
script_text ss = flat_map (λ s. line_of_fields (statement_fields s) ++ 10 ∷ []) ss

-- Each number is a byte.
abbrev pub AreBytes : List ℕ → Type 0
AreBytes bytes = All IsByte bytes

-- Bytes of a line: 1 to 65,536.
abbrev pub IsContent : List ℕ → Type 0
IsContent bytes = (1 ≤ length bytes) × (length bytes ≤ 65536) × AreBytes bytes

-- A call that a line makes which names no file.
abbrev pub IsPlainCall : Call → Type 0
IsPlainCall (call.Load a n) = IsNumber a × IsWordSize n
IsPlainCall (call.Store a n v) = IsNumber a × IsWordSize n × IsNumber v × FitsWord n v
IsPlainCall (call.Map at len prot kind object.NewZero offset) = IsPlace at × IsNumber len × IsProt prot × IsNumber offset
IsPlainCall (call.Unmap a len) = IsNumber a × IsNumber len
IsPlainCall (call.Protect a len prot) = IsNumber a × IsNumber len × IsProt prot
IsPlainCall (call.Sync a len) = IsNumber a × IsNumber len
IsPlainCall c = ⊥

-- A call that a line makes which names a file, its number not known yet.
abbrev pub IsNamedCall : Call → Type 0
IsNamedCall (call.Map at len prot kind (object.File file) offset) = IsPlace at × IsNumber len × IsProt prot × (file ≡ unknown_file) × IsNumber offset
IsNamedCall (call.Read file offset len) = (file ≡ unknown_file) × IsNumber offset × (1 ≤ len) × (len ≤ 65536)
IsNamedCall (call.Truncate file len) = (file ≡ unknown_file) × IsNumber len
IsNamedCall c = ⊥

-- What a line of a block may say, its file's number not known yet.
abbrev pub IsPlanAct : PlanAct → Type 0
IsPlanAct (act.Call c) = IsPlainCall c
IsPlanAct (act.Named name c) = IsTrue (is_file_name name) × IsNamedCall c
IsPlanAct (act.Write name file offset bytes) = IsTrue (is_file_name name) × (file ≡ unknown_file) × IsNumber offset × IsContent bytes
IsPlanAct act.Wait = Unit {0}

-- What a set-up line may say.
abbrev pub IsSetupAct : SetupAct → Type 0
IsSetupAct (given.Frames n) = IsNumber n
IsSetupAct (given.Swap n) = IsNumber n
IsSetupAct (given.Translations n) = IsNumber n
IsSetupAct (given.Blank disk blocks) = IsNumber disk × IsNumber blocks
IsSetupAct (given.Path disk path) = IsNumber disk × (1 ≤ length path) × (length path ≤ 255) × IsTrue (list_all is_graphic path)
IsSetupAct (given.Join disk other mirror) = IsNumber disk × IsNumber other
IsSetupAct (given.File name writable disk pages bytes) = IsTrue (is_file_name name) × IsNumber disk × IsNumber pages × (length bytes ≤ 65536) × AreBytes bytes

-- What a line may say.
abbrev pub IsStatement : Statement → Type 0
IsStatement (says.Setup a) = IsSetupAct a
IsStatement (says.Own a) = IsPlanAct a
IsStatement s = Unit {0}

-- A set-up line may stand before the first block, the first three at most once.
abbrev pub setup_may_stand : LineSpot → SetupAct → Bool
setup_may_stand spot (given.Frames n) = spot.opening && not spot.frames
setup_may_stand spot (given.Swap n) = spot.opening && not spot.swap
setup_may_stand spot (given.Translations n) = spot.opening && not spot.translations
setup_may_stand spot a = spot.opening

-- A line that says this may stand there.
abbrev pub may_stand : LineSpot → Statement → Bool
may_stand spot says.Nothing = true
may_stand spot (says.Setup a) = setup_may_stand spot a
may_stand spot says.Process = not spot.inside
may_stand spot says.Fork = spot.inside
may_stand spot says.End = spot.inside
may_stand spot (says.Own a) = spot.inside

-- What the statements of the lines behind line n make of a plan.
abbrev pub with_statements : OpenPlan → ℕ → List Statement → OpenPlan
with_statements g n [] = g
with_statements g n (s ∷ ss) = with_statements (with_statement g (n + 1) s) (n + 1) ss

-- Each statement may stand where it stands.
abbrev pub StandRight : OpenPlan → ℕ → List Statement → Type 0
StandRight g n [] = Unit {0}
StandRight g n (s ∷ ss) = IsTrue (may_stand (spot_of g) s) × StandRight (with_statement g (n + 1) s) (n + 1) ss

-- These statements are a script: each may be said and stands where it may, no block is open at the end, and the text is
-- short enough.
pub record IsScript (ss : List Statement) (plan : OpenPlan) : Type 0 where
  pub is : All IsStatement ss
  pub stand : StandRight plan 0 ss
  pub whole : (with_statements plan 0 ss).inside ≡ 0
  pub short : length (script_text ss) ≤ 1048576
