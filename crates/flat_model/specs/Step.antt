-- What each call does, and which entries are steps of flat memory. Public clauses cite this.
use Rattle.std.specs.Prelude.{ℕ, zero, suc, ◌/◌, ◌%◌, ◌^◌, ◌<◌, ◌≡◌, ◌==◌, List, [], ◌∷◌, length, Bool, IsSome, IsOk, IsFalse, Result, Ok, Err, if◌then◌else◌}
use Rattle.std.specs.FinSet as set
use Rattle.vm_types.specs.declared.call.Call.{Call}
use Rattle.vm_types.specs.declared.call.Call.TheVariants.{Load, Store, Map, Unmap, Protect, Sync, Read, Write, Truncate, Fork, Exit}
use Rattle.vm_types.specs.declared.call.Entry.{Entry}
use Rattle.vm_types.specs.declared.call.Signal.{Signal}
use Rattle.vm_types.specs.declared.call.Signal.TheVariants as signal
use Rattle.vm_types.specs.declared.call.Reply.{Reply}
use Rattle.vm_types.specs.declared.call.Reply.TheVariants as reply
use Rattle.vm_types.specs.Prot.{can_read, can_write}
use Rattle.flat_model.specs.Flat.{File, Flat, space_of}
use Rattle.flat_model.specs.Refusals.{Effect}
use Rattle.flat_model.specs.Access.{access_target, load, store}
use Rattle.flat_model.specs.Mapping.{map_pages, unmap, valid_range, protect, sync}
use Rattle.flat_model.specs.Parts.{without_tail, existing_file, read_part, writable_file, write_part, truncate}
use Rattle.flat_model.specs.Processes.{fork, exit}

-- What a call of a process does.
abbrev pub effect : Flat → ℕ → Call → Effect
effect F p (Load a n) = load F p a n
effect F p (Store a n v) = store F p a n v
effect F p (Map place len prot kind object offset) = map_pages F p (record { place = place; len = len; prot = prot; kind = kind; object = object; offset = offset })
effect F p (Unmap a len) = unmap F p a len
effect F p (Protect a len prot) = protect F p a len prot
effect F p (Sync a len) = sync F p a len
effect F p (Read file offset len) = read_part F file offset len
effect F p (Write file offset line rest) = write_part F file offset line
effect F p (Truncate file len) = truncate F file len
effect F p (Fork child) = fork F p child
effect F p Exit = exit F p

-- Bit f of a mask. Bit 0 is set where the mask is odd.
abbrev pub is_bit_set : ℕ → ℕ → Bool
is_bit_set mask zero = mask % 2 == 1
is_bit_set mask (suc f) = is_bit_set (mask / 2) f

-- The files, those whose number passes the test with zeros in their tails.
abbrev pub files_cleared : (ℕ → Bool) → List File → List File
files_cleared test [] = []
files_cleared test (file ∷ files) = (if test 0 then without_tail file else file) ∷ files_cleared (λ f. test (suc f)) files

-- Flat memory after the tails of the files whose number passes the test became zeros.
abbrev pub tails_cleared : Flat → (ℕ → Bool) → Flat
tails_cleared F test = record F { files = files_cleared test F.files }

-- No signal but Past is due.
abbrev pub IsPastAtMost : {A : Type 0} → Result A Signal → Type 0
IsPastAtMost (Ok x) = Unit {0}
IsPastAtMost (Err signal.Past) = Unit {0}
IsPastAtMost (Err s) = ⊥

-- A call may answer that a transfer failed: a load or a store to which neither Align, NoMap nor Prot is due, a Sync that isn't refused, and a
-- part or a Truncate to which neither NoObject nor ReadOnly is due. No other call may.
abbrev pub MayFail : Flat → ℕ → Call → Type 0
MayFail F p (Load a n) = IsPastAtMost (access_target F p can_read a n)
MayFail F p (Store a n v) = IsPastAtMost (access_target F p can_write a n)
MayFail F p (Sync a len) = IsOk (valid_range F p a len)
MayFail F p (Read file offset len) = IsOk (existing_file F file)
MayFail F p (Write file offset line rest) = IsOk (writable_file F file)
MayFail F p (Truncate file len) = IsOk (writable_file F file)
MayFail F p (Map place len prot kind object offset) = ⊥
MayFail F p (Unmap a len) = ⊥
MayFail F p (Protect a len prot) = ⊥
MayFail F p (Fork child) = ⊥
MayFail F p Exit = ⊥

-- The reply without the number that says where a Sync began.
abbrev pub without_start : Reply → Reply
without_start (reply.Synced from) = reply.Synced 0
without_start r = r

-- The entry's reply is the one that is due, or says that a transfer failed where one may have. Any number is due to a Sync: histories say which.
abbrev pub IsDue : Flat → Entry → Type 0
IsDue F e = elim e.reply [
  | reply.Io disk before after ↦ MayFail F e.process e.call
  | r ↦ (effect F e.process e.call).reply ≡ without_start r
]

-- What an entry's call does to flat memory: nothing where a transfer failed.
abbrev pub after_act : Flat → Entry → Flat
after_act F e = elim e.reply [ reply.Io disk before after ↦ F | r ↦ (effect F e.process e.call).after ]

-- Flat memory after an entry: first tails become zeros, then the call acts.
abbrev pub step : Flat → Entry → Flat
step F e = after_act (tails_cleared F (is_bit_set e.cleared)) e

-- The child of a Fork was never alive before.
abbrev pub IsUnborn : Flat → Call → Type 0
IsUnborn F (Fork child) = IsFalse (set.contains F.born child)
IsUnborn F call = Unit {0}

-- The entry is a step of flat memory: each bit that is set names a file, the process is alive, a child is new, and the reply is due once the tails are zeros.
pub record IsStep (F : Flat) (e : Entry) : Type 0 where
  pub files : e.cleared < 2 ^ length F.files
  pub alive : IsSome (space_of F e.process)
  pub unborn : IsUnborn F e.call
  pub due : IsDue (tails_cleared F (is_bit_set e.cleared)) e
