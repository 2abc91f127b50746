-- What changes of one process's segments are said with. Public clauses cite this.
use Rattle.std.specs.Prelude.{◌≡◌, ◌<◌, ◌≤◌, ◌+◌, ℕ, List, Option, None}
use Rattle.std.specs.FinMap as finite
use Rattle.hat_layer.specs.Pool as pool
use Rattle.hat_layer.specs.declared.translation.Translation.{Translation}
use Rattle.flat_model.specs.Flat.{Flat, IsFlat}
use Rattle.vm_world.specs.FlatMemory.{Memory}
use Rattle.vm_world.specs.Segments.{Segment}

-- The first pages of a segment.
abbrev pub first_pages : ℕ → Segment → Segment
first_pages n s = record s { pages = n }

-- None of so many pages of a process, from the first on, has a translation.
abbrev pub AreUnloaded : List (Option Translation) → ℕ → ℕ → ℕ → Type 0
AreUnloaded places p first n = (q : ℕ) → first ≤ q → q < first + n → pool.translation_at places p q ≡ None

-- Memory without a process.
abbrev pub without_space : Memory → ℕ → Memory
without_space m p = record m { spaces = finite.remove m.spaces p }

-- Flat memory is this function of what it was, and well formed.
abbrev pub Becomes : (Flat → Flat) → Flat → Flat → Type 0
Becomes f F G = (G ≡ f F) × IsFlat G
