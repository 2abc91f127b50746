-- What the plain form stands for. Public clauses cite this.
use Rattle.std.specs.Prelude.{ℕ, ◌≡◌, ◌<◌, ◌-◌, ◌^◌, ◌&&◌, nat_le, Bool, ◌++◌, ◌∷◌, [], length, Result, IsSome, map}
use Rattle.flat_model.specs.vm_types.declared.call.Entry.{Entry}
use Rattle.flat_model.specs.vm_types.declared.prot.Prot.{Prot}
use Rattle.flat_model.specs.vm_types.declared.call.Errno.{Errno}
use Rattle.flat_model.specs.vm_types.declared.call.Errno.TheVariants as errno
use Rattle.flat_model.specs.vm_types.declared.call.Reply.{Reply}
use Rattle.flat_model.specs.vm_types.declared.call.Reply.TheVariants as reply
use Rattle.flat_model.specs.Words.{page, pages_in}
use Rattle.flat_model.specs.Refusals.{◌>>◌, check}
use Rattle.flat_model.specs.Mapping.{cells_of, may_have, valid_range}
use Rattle.flat_model.specs.Step.{is_bit_set, without_start, IsUnborn}
use Rattle.std.specs.FinMap as finite
use Rattle.std.specs.FinSet as set
use Rattle.flat_state.specs.declared.state.FlatParts.TheInside.{Inside}
use Rattle.flat_model.specs.Flat.{File, Flat, Space, space_of}
use Rattle.flat_state.specs.Cells.{flat_file, processes_in}

-- The flat memory that the plain form stands for.
abbrev pub flat_of : Inside → Flat
flat_of s = record {
  slots = s.slots;
  disks = finite.from_entries s.disks.entries;
  files = map flat_file s.files.items;
  zeros = finite.from_entries s.zeros.entries;
  spaces = s.spaces;
  born = processes_in s.born;
}

-- The reply is the one that is due, the number of a Sync aside, or says that a transfer failed where one may have.
abbrev pub IsDueReply : Reply → Type 0 → Reply → Type 0
IsDueReply r may due = elim r [ reply.Io disk before after ↦ may | r ↦ due ≡ without_start r ]

-- Flat memory with a process more, which is born and has these cells.
abbrev pub with_process : Flat → ℕ → Space → Flat
with_process F p space = record F { spaces = finite.insert F.spaces p space; born = set.insert F.born p }

-- Flat memory with a process more that has no cells.
abbrev pub with_root : Flat → ℕ → Flat
with_root F p = with_process F p finite.empty

-- Flat memory with a file more, which has the next number.
abbrev pub with_one_more_file : Flat → File → Flat
with_one_more_file F file = record F { files = F.files ++ file ∷ [] }

-- Flat memory with a disk of so many blocks.
abbrev pub with_blocks : Flat → ℕ → ℕ → Flat
with_blocks F number blocks = record F { disks = finite.insert F.disks number blocks }

-- Bit f - n of a mask, for numbers f from n on.
abbrev pub is_bit_set_from : ℕ → ℕ → ℕ → Bool
is_bit_set_from n mask f = nat_le n f && is_bit_set mask (f - n)

-- The entry is a step if its reply is due once its tails are zeros: each bit that is set names a file, the process is alive, and a child is new.
pub record MayStep (F : Flat) (e : Entry) : Type 0 where
  pub files : e.cleared < 2 ^ length F.files
  pub alive : IsSome (space_of F e.process)
  pub unborn : IsUnborn F e.call

-- A Protect that isn't refused, or the first refusal that is due.
abbrev pub protect_result : Flat → ℕ → ℕ → ℕ → Prot → Result (Unit {0}) Errno
protect_result F p a len prot = valid_range F p a len >> check (may_have (cells_of F p) (page a) (pages_in len) prot) errno.Access
