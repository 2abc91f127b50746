-- Tests one after another, the first that fails telling the fault. Public clauses cite this.
use Rattle.std.specs.Prelude.{◌≡◌, Bool, Option, Some, None, Result, Ok, Err, if◌then◌else◌}
use Rattle.vm_script.specs.declared.fault.ScriptKind.{ScriptKind}
use Rattle.vm_script.specs.declared.fault.ReadError.{ReadError}
use Rattle.vm_script.specs.declared.fault.ReadError.TheVariants as errors

infixl 10 ◌>>=◌
abbrev pub ◌>>=◌ : {A B : Type 0} → Result A ScriptKind → (A → Result B ScriptKind) → Result B ScriptKind
(Ok x) >>= f = f x
(Err e) >>= f = Err e

infixl 10 ◌>>◌
abbrev pub ◌>>◌ : {A B : Type 0} → Result A ScriptKind → Result B ScriptKind → Result B ScriptKind
r >> s = r >>= λ _. s

-- What there is, or a fault of this kind.
abbrev pub or_fault : {A : Type 0} → ScriptKind → Option A → Result A ScriptKind
or_fault kind None = Err kind
or_fault kind (Some x) = Ok x

-- A test that has to hold, or a fault of this kind.
abbrev pub need : ScriptKind → Bool → Result (Unit {0}) ScriptKind
need kind b = if b then Ok tt else Err kind

-- Reading gives this fault; of want of memory nothing is said.
abbrev pub Fails : {Y : Type 0} → ReadError → Result Y ScriptKind → Type 0
Fails errors.Memory read = Unit {0}
Fails (errors.Fault kind) read = read ≡ Err kind

-- What a function returned, seen by view, is what reading gives, unless memory ran out.
abbrev pub IsReadAs : {X Y : Type 0} → (X → Y) → Result X ReadError → Result Y ScriptKind → Type 0
IsReadAs view (Ok x) read = read ≡ Ok (view x)
IsReadAs view (Err e) read = Fails e read
