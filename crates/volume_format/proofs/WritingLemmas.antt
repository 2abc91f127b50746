-- Bytes written into a block one part after another.
use Rattle.std.proofs.Common.{ℕ, ◌≡◌, ◌≤◌, ◌+◌, ◌-◌, ◌*◌, List, [], ◌∷◌, ◌++◌, length, take, drop, replicate, refl, ap, sym, ◌∙◌, arith, append_assoc, length-append}
use Rattle.std.proofs.lemmas.List.{take_at, drop_at, drop-drop, take-append-drop, length-take-le, length-replicate, drop-replicate, replicate-append-replicate}
use Rattle.std.specs.Prelude.{codes}
use Rattle.std.specs.List.{flat_map}
use Rattle.vnode_files.specs.declared.extent.Extent.{Extent}
use Rattle.volume_format.specs.Table.{TableSeen, all_extents}
use Rattle.volume_format.specs.Writing.{padded_field, number_bytes, extent_bytes, header_bytes, with_block_bytes}

-- Bytes written behind a front of that length.
pub with_block_bytes-front : (front rest bytes : List ℕ) (at : ℕ) → length front ≡ at → with_block_bytes (front ++ rest) at bytes ≡ front ++ (bytes ++ drop (length bytes) rest)
unfolding with_block_bytes
with_block_bytes-front front rest bytes at e =
    let past : drop (at + length bytes) (front ++ rest) ≡ drop (length bytes) rest =
    sym (drop-drop (length bytes) at (front ++ rest)) ∙ ap (drop (length bytes)) (drop_at front rest at e) in
    ap (λ (xs : List ℕ). xs ++ (bytes ++ drop (at + length bytes) (front ++ rest))) (take_at front rest at e)
    ∙ ap (λ (xs : List ℕ). front ++ (bytes ++ xs)) past

-- A block as what stands before the written bytes, these, and what stands behind them.
pub with_block_bytes-parts : (block bytes : List ℕ) (at next : ℕ) → at + length bytes ≡ next → with_block_bytes block at bytes ≡ (take at block ++ bytes) ++ drop next block
unfolding with_block_bytes
with_block_bytes-parts block bytes at next e =
    ap (λ (n : ℕ). take at block ++ (bytes ++ drop n block)) e ∙ sym (append_assoc (take at block) bytes (drop next block))

-- Bytes written right behind bytes are written with these.
pub with_block_bytes-then : (block front bytes : List ℕ) (at next : ℕ) → at + length front ≡ next → at ≤ length block
    → with_block_bytes (with_block_bytes block at front) next bytes ≡ with_block_bytes block at (front ++ bytes)
with_block_bytes-then block front bytes at next e within =
    let head : length (take at block ++ front) ≡ next = length-append (take at block) front ∙ ap (λ (n : ℕ). n + length front) (length-take-le at block within) ∙ e in
    let end : at + length (front ++ bytes) ≡ next + length bytes = omega (arith, length-append front bytes) in
    ap (λ (b : List ℕ). with_block_bytes b next bytes) (with_block_bytes-parts block front at next e)
    ∙ with_block_bytes-front (take at block ++ front) (drop next block) bytes next head
    ∙ ap (λ (xs : List ℕ). (take at block ++ front) ++ (bytes ++ xs)) (drop-drop (length bytes) next block)
    ∙ sym (append_assoc (take at block ++ front) bytes (drop (next + length bytes) block))
    ∙ ap (λ (xs : List ℕ). xs ++ drop (next + length bytes) block) (append_assoc (take at block) front bytes)
    ∙ sym (with_block_bytes-parts block (front ++ bytes) at (next + length bytes) end)

-- The same, along what two calls wrote.
pub written-then : (block one two front bytes : List ℕ) (at next : ℕ) → one ≡ with_block_bytes block at front → two ≡ with_block_bytes one next bytes
    → at + length front ≡ next → at ≤ length block → two ≡ with_block_bytes block at (front ++ bytes)
written-then block one two front bytes at next first second e within =
    second ∙ ap (λ (b : List ℕ). with_block_bytes b next bytes) first ∙ with_block_bytes-then block front bytes at next e within

-- No bytes written.
pub with_block_bytes-none : (block : List ℕ) (at : ℕ) → with_block_bytes block at [] ≡ block
unfolding with_block_bytes
with_block_bytes-none block at = ap (λ (n : ℕ). take at block ++ drop n block) (omega arith) ∙ take-append-drop at block

-- How long the parts are.
pub length-number_bytes : (n : ℕ) → length (number_bytes n) ≡ 4
unfolding number_bytes
length-number_bytes n = refl

pub length-zero_filled : (size : ℕ) (bytes : List ℕ) → length bytes ≤ size → length (padded_field size bytes) ≡ size
length-zero_filled size bytes within = omega (arith, length-append bytes (replicate (size - length bytes) 0), length-replicate {A = ℕ} (size - length bytes) 0)

pub length-extent_bytes : (e : Extent) → length (extent_bytes e) ≡ 8
unfolding extent_bytes
length-extent_bytes e = omega (arith, length-append (number_bytes e.start) (number_bytes e.pages), length-number_bytes e.start, length-number_bytes e.pages)

pub length-flat_map-same : {X : Type 0} (f : X → List ℕ) (size : ℕ) → ((x : X) → length (f x) ≡ size) → (xs : List X) → length (flat_map f xs) ≡ size * length xs
length-flat_map-same f size each [] = omega arith
length-flat_map-same f size each (x ∷ xs) =
    let rest = length-flat_map-same f size each xs in
    let here = each x in
    omega (arith, length-append (f x) (flat_map f xs))

-- A header, entries behind it, and extents in their part, written over zeros.
pub written-whole : (header entries extents : List ℕ) → length header ≡ 32 → length entries ≤ 2048 → length extents ≤ 2016
    → with_block_bytes (with_block_bytes (with_block_bytes (replicate 4096 0) 0 header) 32 entries) 2080 extents ≡ header ++ (padded_field 2048 entries ++ padded_field 2016 extents)
written-whole header entries extents head short few =
    let zeros : List ℕ = replicate 4096 0 in
    let none = length-replicate {A = ℕ} 4096 0 in
    let size : length (header ++ entries) ≡ 32 + length entries = omega (arith, length-append header entries) in
    let rest : drop (32 + length entries) zeros ≡ replicate (2048 - length entries) 0 ++ replicate 2016 0 =
    drop-replicate (32 + length entries) 4096 0 ∙ ap (λ (n : ℕ). replicate n 0) (omega arith) ∙ sym (replicate-append-replicate (2048 - length entries) 2016 0) in
    let front = header ++ padded_field 2048 entries in
    let front-size : length front ≡ 2080 = omega (arith, length-append header (padded_field 2048 entries), length-zero_filled 2048 entries short) in
    let upper : with_block_bytes (with_block_bytes zeros 0 header) 32 entries ≡ front ++ replicate 2016 0 =
    with_block_bytes-then zeros header entries 0 32 (omega arith) (omega arith)
    ∙ with_block_bytes-parts zeros (header ++ entries) 0 (32 + length entries) (omega arith)
    ∙ ap (λ (xs : List ℕ). (header ++ entries) ++ xs) rest
    ∙ sym (append_assoc (header ++ entries) (replicate (2048 - length entries) 0) (replicate 2016 0))
    ∙ ap (λ (xs : List ℕ). xs ++ replicate 2016 0) (append_assoc header entries (replicate (2048 - length entries) 0)) in
    ap (λ (b : List ℕ). with_block_bytes b 2080 extents) upper
    ∙ with_block_bytes-front front (replicate 2016 0) extents 2080 front-size
    ∙ ap (λ (xs : List ℕ). front ++ (extents ++ xs)) (drop-replicate (length extents) 2016 0)
    ∙ append_assoc header (padded_field 2048 entries) (padded_field 2016 extents)

pub length-header_bytes : (t : TableSeen) → length (header_bytes t) ≡ 32
unfolding header_bytes
length-header_bytes t =
    let magic : List ℕ = codes "SUNVMVOL" in
    let front : length magic ≡ 8 = refl in
    let version = number_bytes 2 in
    let blocks = number_bytes t.blocks in
    let files = number_bytes (length t.entries) in
    let extents = number_bytes (length (all_extents t.entries)) in
    omega (
      arith,
      front,
      length-number_bytes 2,
      length-number_bytes t.blocks,
      length-number_bytes (length t.entries),
      length-number_bytes (length (all_extents t.entries)),
      length-append magic version,
      length-append (magic ++ version) blocks,
      length-append (magic ++ version ++ blocks) files,
      length-append (magic ++ version ++ blocks ++ files) extents,
      length-append (magic ++ version ++ blocks ++ files ++ extents) (replicate 8 0),
      length-replicate {A = ℕ} 8 0,
    )
