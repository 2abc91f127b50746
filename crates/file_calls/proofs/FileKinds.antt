-- WHICH CALLS ARE OF A FILE.
use Rattle.std.proofs.Common.{◌≡◌, ◌≢◌, ℕ, true, false, List}
use Rattle.std.specs.Prelude.{IsSome}
use Rattle.seg_vn.specs.vm_types.Parts.{file_of_call}
use Rattle.seg_vn.specs.vm_types.declared.call.Call.{Call}
use Rattle.seg_vn.specs.vm_types.declared.call.Call.TheVariants.{Load, Store, Map, Unmap, Protect, Sync, Read, Write, Truncate, Fork, Exit}

-- a call that is none of the three is of no file
pub of-no-file : (call : Call) → IsSome (file_of_call call) → ((file offset len : ℕ) → call ≢ Read file offset len) → ((file offset : ℕ) (line : List ℕ) (rest : ℕ) → call ≢ Write file offset line rest) → ((file len : ℕ) → call ≢ Truncate file len) → ⊥
of-no-file (Read file offset len) is read write cut = read file offset len (λ i. Read file offset len)
of-no-file (Write file offset line rest) is read write cut = write file offset line rest (λ i. Write file offset line rest)
of-no-file (Truncate file len) is read write cut = cut file len (λ i. Truncate file len)
of-no-file (Load a n) is read write cut = let z : false ≡ true = is in cc
of-no-file (Store a n v) is read write cut = let z : false ≡ true = is in cc
of-no-file (Map place len prot kind object offset) is read write cut = let z : false ≡ true = is in cc
of-no-file (Unmap a len) is read write cut = let z : false ≡ true = is in cc
of-no-file (Protect a len prot) is read write cut = let z : false ≡ true = is in cc
of-no-file (Sync a len) is read write cut = let z : false ≡ true = is in cc
of-no-file (Fork child) is read write cut = let z : false ≡ true = is in cc
of-no-file Exit is read write cut = let z : false ≡ true = is in cc
