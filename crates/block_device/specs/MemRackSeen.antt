-- What contracts see of a rack in memory, and what attaching does. Public clauses cite this.
use Rattle.std.specs.Prelude.{ℕ, ◌+◌, ◌-◌, ◌^◌, nat_eq, List, [], ◌++◌, ◌∷◌, Option, Some, Bool, ◌||◌, is_none, unwrap_or, slice_index_or, if◌then◌else◌}
use Rattle.std.specs.Map.{lookup}
use Rattle.std.specs.Str.{bytes_eq}
use Rattle.block_device.specs.MemSeen.{CallsSeen, MemDiskSeen, is_next_listed, no_calls, after_call, fresh_disk, blank_blocks}
use Rattle.block_device.specs.RackSeen.{RackSeen, spec_number}
use Rattle.block_device.specs.declared.rack.Spec.{Spec}
use Rattle.block_device.specs.declared.rack.Spec.TheVariants.{Blank, Path}

-- a rack in memory: the paths and the blocks of the disks that it keeps, for each disk number the calls of
-- that disk that are to fail, its own calls, and how many disks it attached
pub record MemRackSeen : Type 0 where
  pub kept : List (List ℕ × List (List ℕ))
  pub disks_fail_at : List (List ℕ)
  pub calls : CallsSeen
  pub attached : ℕ

-- a rack that keeps no disk, and of which no call was made yet
abbrev pub fresh_rack : List ℕ → List (List ℕ) → MemRackSeen
fresh_rack fail_at disks_fail_at = record { kept = []; disks_fail_at = disks_fail_at; calls = no_calls fail_at; attached = 0 }

-- the rack with one more disk, kept under a path
abbrev pub with_kept : MemRackSeen → List ℕ → List (List ℕ) → MemRackSeen
with_kept r path blocks = record r { kept = r.kept ++ (path, blocks) ∷ [] }

-- the blocks of the first disk that is kept under a path
abbrev pub kept_under : MemRackSeen → List ℕ → Option (List (List ℕ))
kept_under r path = lookup (bytes_eq path) r.kept

-- the content of the disk of a spec
abbrev pub content_for : MemRackSeen → Spec → Option (List (List ℕ))
content_for r (Blank number blocks) = Some (blank_blocks blocks)
content_for r (Path number path) = kept_under r path

-- A memory rack tells what it holds.
abbrev pub rack_of : MemRackSeen → RackSeen
rack_of r = record { holds = content_for r; faults = r.calls.faults; attached = r.attached }

-- the calls of the disk of this number that are to fail
abbrev pub disk_fails_at : MemRackSeen → ℕ → List ℕ
disk_fails_at r number = slice_index_or r.disks_fail_at number []

-- Does the next attaching fail? It is listed, or no disk is kept under the path that it asks for, or the
-- count of disks can't rise.
abbrev pub is_spec_refused : MemRackSeen → Spec → Bool
is_spec_refused r spec = is_next_listed r.calls || is_none (content_for r spec) || nat_eq r.attached (2 ^ 64 - 1)

-- An attaching was counted, and a disk if it gave one. The rack keeps what it kept.
abbrev pub after_attach : MemRackSeen → Spec → Bool → MemRackSeen
after_attach r spec given = record r {
  calls = after_call r.calls (is_spec_refused r spec);
  attached = if given then r.attached + 1 else r.attached;
}

-- the disk that a spec asks for
abbrev pub disk_for : MemRackSeen → Spec → MemDiskSeen
disk_for r spec = fresh_disk (unwrap_or (content_for r spec) []) (disk_fails_at r (spec_number spec))
