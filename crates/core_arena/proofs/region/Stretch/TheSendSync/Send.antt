-- What a stretch owns names no thread.
use Rattle.std.proofs.Common.{ℕ, ◌+◌, List, [], ◌∷◌}
use base.Fraction.{full_share}
use base.Shift.{Keyless}
use denote.Builtin.{u8}
use denote.Param.Send.{IsSend, owning_send, part_keyless, sendable}
use denote.RawPtr.{Ptr, block_ptr, null_ptr}
use denote.RawPtr.Bytes.{bytes}
use Rattle.core_arena.specs.Ownership.{stretch_owns}
use Rattle.core_arena.specs.contracts.region.Stretch as C

bytes-keyless : (xs : List ℕ) (b o : ℕ) → Keyless (bytes full_share xs b o)
bytes-keyless [] b o = tt
bytes-keyless (x ∷ xs) b o = (part_keyless u8 (search sendable) full_share x b o, bytes-keyless xs b (o + 1))

owns-keyless : (p : Ptr) (xs : List ℕ) → Keyless (stretch_owns p xs)
owns-keyless (block_ptr b o) xs = bytes-keyless xs b o
owns-keyless null_ptr xs = tt

pub send : IsSend C.the_row
send = owning_send C.the_type tt (λ s. owns-keyless s.at s.bytes) (λ k x w. tt)
