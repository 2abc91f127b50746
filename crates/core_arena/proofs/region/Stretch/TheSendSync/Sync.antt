-- What a `&` to a stretch shows names no thread.
use Rattle.std.proofs.Common.{ℕ, ◌+◌, List, [], ◌∷◌}
use base.Fml.{Lft}
use base.Shift.{Keyless}
use denote.Builtin.{u8}
use denote.Param.Send.{IsSync, sendable, struct_sync}
use denote.RawPtr.{block_of, count_of}
use denote.Slice.{elements_shared}
use denote.Struct.Owning.{shape}
use Rattle.core_arena.specs.contracts.region.Stretch as C

u8-sync : IsSync u8
u8-sync = search sendable

elements-keyless : (xs : List ℕ) (b o : ℕ) (κ : Lft) → Keyless (elements_shared u8 xs b o κ)
elements-keyless [] b o κ = tt
elements-keyless (x ∷ xs) b o κ = (u8-sync.shared x b o κ, elements-keyless xs b (o + 1) κ)

pub sync : IsSync C.the_row
sync = record { shared = λ s b o κ. ((struct_sync (shape C.the_type) tt).shared tt b o κ, elements-keyless s.bytes (block_of s.at) (count_of s.at) κ) }
