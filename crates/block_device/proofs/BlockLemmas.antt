-- Lists of blocks.
use Rattle.std.proofs.Common.{ℕ, ◌+◌, ◌-◌, ◌≡◌, ◌<◌, inl, inr, List, [], length, length-append, length-drop, take, drop, set, get_or, Some, refl, ap, sym, ◌∙◌, arith}
use Rattle.std.proofs.lemmas.List.{length-take, length-map, length-set, get_or-take, get_or-drop, get_or_append_left, get_or-append_right, map-set, get_or-map}
use Rattle.std.proofs.lemmas.Bool.{cases_lt}
use Rattle.block_device.specs.DiskSeen.{IsBlock, Spoils}
use Rattle.std.specs.Prelude.{Bool, if◌then◌else◌}
use Rattle.block_device.specs.MemSeen.{CallsSeen, MemDiskSeen, torn_block, one_more, after_call, after_write}
use Rattle.block_device.specs.MemDiskLook.{blocks_seen}
use Rattle.block_device.specs.declared.block.Block.{Block}

-- the first half of a block
pub half_length : (bytes : List ℕ) → length bytes ≡ 4096 → length (take 2048 bytes) ≡ 2048
half_length bytes size = omega (arith, size, length-take 2048 bytes)

-- A torn block has bytes of both.
pub torn_fits : (old new : List ℕ) → IsBlock old → IsBlock new → (at : ℕ) → get_or (torn_block old new) at 0 < 256
torn_fits old new o n at =
    elim (cases_lt at 2048) [
      | inl below ↦
          let inside : at < length (take 2048 new) = omega (arith, below, half_length new n.0) in
          let same : get_or (torn_block old new) at 0 ≡ get_or new at 0 = get_or_append_left (take 2048 new) (drop 2048 old) 0 at inside ∙ get_or-take 2048 new at 0 below in
          omega (arith, same, n.1 at)
      | inr above ↦
          let same : get_or (torn_block old new) at 0 ≡ get_or old (2048 + (at - 2048)) 0 = get_or-append_right (take 2048 new) (drop 2048 old) 2048 at 0
          (half_length new n.0) above ∙ get_or-drop 2048 old (at - 2048) 0 in
          omega (arith, same, o.1 (2048 + (at - 2048)))
    ]

pub torn_is_block : (old new : List ℕ) → IsBlock old → IsBlock new → IsBlock (torn_block old new)
torn_is_block old new o n =
    (omega (arith, length-append (take 2048 new) (drop 2048 old), length-drop 2048 old, half_length new n.0, o.0), torn_fits old new o n)

-- One block was replaced.
pub blocks_seen-set : (blocks : List Block) (at : ℕ) (block : Block) (bytes : List ℕ) → block.bytes ≡ bytes → blocks_seen (set blocks at block) ≡ set (blocks_seen blocks) at bytes
blocks_seen-set blocks at block bytes is = map-set (λ b. b.bytes) blocks at block ∙ ap (set (blocks_seen blocks) at) is

-- One block was replaced by some other one.
pub spoils : (blocks : List Block) (at : ℕ) (block : Block) → Spoils (Some (blocks_seen blocks)) (Some (blocks_seen (set blocks at block))) at
spoils blocks at block = (block.bytes, block.full, ap (λ (all : List (List ℕ)). Some all) (blocks_seen-set blocks at block block.bytes refl))

-- As many blocks are there.
pub size_kept : (blocks : List Block) (at : ℕ) (block : Block) → length (blocks_seen (set blocks at block)) ≡ length (blocks_seen blocks)
size_kept blocks at block = length-map (set blocks at block) (λ (b : Block). b.bytes) ∙ length-set blocks at block ∙ sym (length-map blocks (λ (b : Block). b.bytes))

-- the bytes of the block there
pub bytes_at : (blocks : List Block) (at : ℕ) (block : Block) → at < length (blocks_seen blocks) → block ≡ get_or blocks at block → block.bytes ≡ get_or (blocks_seen blocks) at []
bytes_at blocks at block inside is =
    let within : at < length blocks = omega (arith, inside, length-map blocks (λ (b : Block). b.bytes)) in
    ap (λ (b : Block). b.bytes) is ∙ sym (get_or-map (λ (b : Block). b.bytes) blocks at block [] within)

-- a memory disk of these parts
abbrev pub disk_with : List (List ℕ) → CallsSeen → ℕ → ℕ → MemDiskSeen
disk_with blocks calls reads writes = record { blocks = blocks; calls = calls; reads = reads; writes = writes }

-- What was written and counted is what `after_write` says.
pub written_as : (d : MemDiskSeen) (failed fails : Bool) (at : ℕ) (from put : List ℕ) (blocks : List (List ℕ)) (calls : CallsSeen) (writes : ℕ)
    → blocks ≡ set d.blocks at put → put ≡ (if failed then torn_block (get_or d.blocks at []) from else from) → calls ≡ after_call d.calls fails
    → fails ≡ failed → writes ≡ one_more d.writes → disk_with blocks calls d.reads writes ≡ after_write d failed at from
written_as d failed fails at from put blocks calls writes b p c f w =
    ap (λ (all : List (List ℕ)). disk_with all calls d.reads writes) (b ∙ ap (set d.blocks at) p)
    ∙ ap (λ (c : CallsSeen). disk_with (set d.blocks at (if failed then torn_block (get_or d.blocks at []) from else from)) c d.reads writes) (c ∙ ap (after_call d.calls) f)
    ∙ ap (disk_with (set d.blocks at (if failed then torn_block (get_or d.blocks at []) from else from)) (after_call d.calls failed) d.reads) w
