-- Whose call of a file is between two parts. Public clauses cite this.
use Rattle.std.specs.Prelude.{◌≡◌, ◌≢◌, ◌==◌, ℕ, List, Option, Some, None, if◌then◌else◌, slice_index_or, slice_set}
use Rattle.seg_vn.specs.vm_types.Parts.{file_of_call}
use Rattle.seg_vn.specs.vm_types.declared.call.Call.{Call}
use Rattle.seg_vn.specs.vm_world.FileLocks.{locks_after}
use Rattle.seg_vn.specs.declared.attempt.Attempt.{Attempt}
use Rattle.seg_vn.specs.declared.attempt.Attempt.TheVariants.{Done}

-- Another seat than this one has the call of this call's file between two parts.
pub record IsAnothers (calls : List (Option ℕ)) (seat : ℕ) (call : Call) (t : ℕ) : Type 0 where
  pub file : ℕ
  pub of : file_of_call call ≡ Some file
  pub held : slice_index_or calls file None ≡ Some t
  pub other : t ≢ seat

-- What is answered leaves them so: a call that is done as its reply says, and one that isn't as they were.
abbrev pub locks_answered : ℕ → Call → Attempt → List (Option ℕ) → List (Option ℕ)
locks_answered seat call (Done reply) calls = locks_after seat call reply calls
locks_answered seat call attempt calls = calls

-- A seat that isn't this one.
abbrev pub without_seat : ℕ → Option ℕ → Option ℕ
without_seat seat None = None
without_seat seat (Some other) = if other == seat then None else Some other

-- Whose calls of files are between two parts, once that of this file isn't this seat's.
abbrev pub calls_without : ℕ → Option ℕ → List (Option ℕ) → List (Option ℕ)
calls_without seat None calls = calls
calls_without seat (Some f) calls = slice_set calls f (without_seat seat (slice_index_or calls f None))
