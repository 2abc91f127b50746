-- The parts of a write, put together, are its bytes.
use Rattle.std.proofs.Common.{ℕ, zero, suc, ◌≡◌, ◌≤◌, ◌<◌, ◌+◌, ◌-◌, ◌^◌, List, ◌++◌, length, take, drop, Some, None, refl, ap, ◌∙◌, arith, lit<}
use Rattle.std.proofs.Math.Nat.{mod-lt}
use Rattle.std.proofs.lemmas.Grind.{common_steps}
use Rattle.std.proofs.lemmas.List.{take-append-drop, length-take, length-drop, drop_min}
use Rattle.std.specs.List.{flat_map}
use Rattle.vm_types.specs.declared.call.Call.TheVariants.{Write}
use Rattle.vm_types.specs.declared.call.Reply.TheVariants.{Done}
use Rattle.vm_types.specs.Pages.{line_rest}
use Rattle.vm_types.specs.Parts.{first_write, next_part, part_bytes}
use Rattle.vm_types.specs.Writes.{write_parts}

-- a write with nothing left has no next part
next_part-last : (file offset : ℕ) (line bytes : List ℕ) → next_part (Write file offset line 0) Done bytes ≡ None
unfolding next_part
next_part-last file offset line bytes = refl

next_part-more : (file offset rest : ℕ) (line bytes : List ℕ) → 1 ≤ rest → offset + length line < 2 ^ 32
    → next_part (Write file offset line rest) Done bytes ≡ Some (first_write file (offset + length line) bytes)
unfolding next_part
next_part-more file offset rest line bytes some below = grind (arith, common_steps)

-- the bytes of a list that a line takes first, and then the others
taken : (end : ℕ) (bytes : List ℕ) → 1 ≤ length bytes → 1 ≤ length (take (line_rest end) bytes)
taken end bytes some = rw (length-take (line_rest end) bytes) (omega (arith, mod-lt end {m = 64} (lit< tt)))

pub write_parts-bytes : (most file offset rest : ℕ) (line bytes : List ℕ) → length bytes ≡ rest → offset + length line + rest ≤ 2 ^ 32 → rest < most
    → flat_map part_bytes (write_parts most (Write file offset line rest) bytes) ≡ line ++ bytes
write_parts-bytes zero file offset rest line bytes same end enough = absurd (omega arith)
write_parts-bytes (suc most) file offset zero line bytes same end enough =
    rw (next_part-last file offset line bytes) (grind (arith, common_steps))
write_parts-bytes (suc most) file offset (suc rest) line bytes same end enough =
    let begin : ℕ = offset + length line in
    let next : List ℕ = take (line_rest begin) bytes in
    let others : List ℕ = drop (length next) bytes in
    let some : 1 ≤ length next = taken begin bytes (omega arith) in
    let short : length next ≤ length bytes = omega (arith, length-take (line_rest begin) bytes) in
    let left : length others ≡ length bytes - length next = omega (arith, length-drop (length next) bytes) in
    let joined : next ++ others ≡ bytes = ap (λ n. next ++ drop n bytes) (length-take (line_rest begin) bytes)
    ∙ ap (λ xs. next ++ xs) (drop_min (line_rest begin) bytes) ∙ take-append-drop (line_rest begin) bytes in
    let later : flat_map part_bytes (write_parts most
    (Write file begin next (length bytes - length next)) others) ≡ next ++ others = write_parts-bytes most file begin (length bytes - length next) next others left (omega arith) (omega arith) in
    rw (next_part-more file offset (suc rest) line bytes (omega arith) (omega arith)) (ap (λ xs. line ++ xs) (later ∙ joined))

pub whole_write : (file offset count : ℕ) (line bytes : List ℕ) → 1 ≤ count → count ≤ length bytes → line ≡ take count bytes → offset + length bytes ≤ 2 ^ 32
    → flat_map part_bytes (write_parts (length bytes) (Write file offset line (length bytes - count)) (drop (length line) bytes)) ≡ bytes
whole_write file offset count line bytes some within is end =
    let size : length line ≡ count = ap length is ∙ omega (arith, length-take count bytes) in
    let others : length (drop (length line) bytes) ≡ length bytes - count = omega (arith, length-drop (length line) bytes) in
    let joined : line ++ drop (length line) bytes ≡ bytes = ap (λ n. line ++ drop n bytes) size ∙ ap (λ xs. xs ++ drop count bytes) is ∙ take-append-drop count bytes in
    write_parts-bytes (length bytes) file offset (length bytes - count) line (drop (length line) bytes) others (omega arith) (omega arith) ∙ joined
