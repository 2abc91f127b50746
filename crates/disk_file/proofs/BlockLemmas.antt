-- The blocks of a file where a piece was written within one of them.
use Rattle.std.proofs.Common.{ℕ, ◌*◌, ◌≡◌, ◌≢◌, ◌<◌, ◌≤◌, ◌∙◌, ap, sym, inl, inr, arith, List, [], length, take, drop, get_or, set}
use Rattle.std.proofs.lemmas.Bool.{cases_eq, cases_lt}
use Rattle.std.proofs.lemmas.List.{ext_get_or, length-set, get_or-set_same, get_or-set_other}
use Rattle.disk_file.specs.FileBytes.{overlaid}
use Rattle.disk_file.specs.FileBlocks.{block_of_file, blocks_of_file, length-blocks_of_file, get_or-blocks_of_file}
use Rattle.disk_file.proofs.PieceLemmas.{overlaid_below, overlaid_here, overlaid_behind}

-- a block that is another one
block_of_file-other : (i block offset : ℕ) (piece bytes : List ℕ) → i ≢ block → offset ≡ 4096 * block → length piece ≤ 4096 → offset ≤ length bytes → block_of_file (overlaid offset piece bytes) i ≡ block_of_file bytes i
block_of_file-other i block offset piece bytes differ is short inside =
    elim (cases_lt i block) [
      | inl below ↦ overlaid_below 4096 (4096 * i) offset piece bytes (omega (arith, below, is)) inside
      | inr above ↦ ap (take 4096) (overlaid_behind (4096 * i) offset piece bytes (omega (arith, above, is, short, differ)) inside)
    ]

blocks_of_file-at : (i block offset size : ℕ) (piece bytes : List ℕ) → i < size → block < size → offset ≡ 4096 * block → length piece ≤ 4096 → offset ≤ length bytes
    → get_or (set (blocks_of_file size bytes) block (block_of_file (overlaid offset piece bytes) block)) i [] ≡ block_of_file (overlaid offset piece bytes) i
blocks_of_file-at i block offset size piece bytes within inside is short long =
    elim (cases_eq i block) [
      | inl same ↦
          ap (λ (k : ℕ). get_or (set (blocks_of_file size bytes) block (block_of_file (overlaid offset piece bytes) block)) k []) same
          ∙ get_or-set_same (blocks_of_file size bytes) block (block_of_file (overlaid offset piece bytes) block) [] (omega (arith, inside, length-blocks_of_file size bytes))
          ∙ ap (block_of_file (overlaid offset piece bytes)) (sym same)
      | inr differ ↦
          get_or-set_other (blocks_of_file size bytes) block i (block_of_file (overlaid offset piece bytes) block) [] differ
          ∙ get_or-blocks_of_file size bytes i within
          ∙ sym (block_of_file-other i block offset piece bytes differ is short long)
    ]

-- One block is another; all others are as they were.
pub blocks_of_file-overlaid : (block offset size : ℕ) (piece bytes : List ℕ) → block < size → offset ≡ 4096 * block → length piece ≤ 4096 → offset ≤ length bytes
    → blocks_of_file size (overlaid offset piece bytes) ≡ set (blocks_of_file size bytes) block (block_of_file (overlaid offset piece bytes) block)
blocks_of_file-overlaid block offset size piece bytes inside is short long =
    let new = overlaid offset piece bytes in
    let sizes : length (blocks_of_file size new) ≡ length (set (blocks_of_file size bytes) block (block_of_file new block)) =
    omega (arith, length-blocks_of_file size new, length-blocks_of_file size bytes, length-set (blocks_of_file size bytes) block (block_of_file new block)) in
    ext_get_or [] (blocks_of_file size new) (set (blocks_of_file size bytes) block (block_of_file new block)) sizes
    (λ i within.
    let below : i < size = omega (arith, within, length-blocks_of_file size new) in
    get_or-blocks_of_file size new i below ∙ sym (blocks_of_file-at i block offset size piece bytes below inside is short long))

-- The block is the piece, where that is a whole one.
pub block_of_file-here : (block offset : ℕ) (piece bytes : List ℕ) → offset ≡ 4096 * block → length piece ≡ 4096 → offset ≤ length bytes → block_of_file (overlaid offset piece bytes) block ≡ piece
block_of_file-here block offset piece bytes is full long =
    ap (λ (o : ℕ). take 4096 (drop o (overlaid offset piece bytes))) (sym is) ∙ overlaid_here 4096 offset piece bytes full long
