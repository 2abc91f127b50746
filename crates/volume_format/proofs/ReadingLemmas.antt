-- What reading a block comes to: its zeros, or its tests.
use Rattle.std.proofs.Common.{◌≡◌, ℕ, List, true, false, Option, Ok, ap, ◌∙◌, length, take, drop, replicate, arith}
use Rattle.std.specs.Int.{w32, from_be_bytes}
use Rattle.std.proofs.lemmas.List.{drop-replicate, take-replicate}
use Rattle.std.proofs.lemmas.Bool.{cond-true, cond-false}
use Rattle.volume_format.specs.Table.{empty_table}
use Rattle.volume_format.specs.Layout.{are_zeros, number_at, version}
use Rattle.volume_format.specs.Rules.{first_failed, tests, table_or_rule, reading}
use Rattle.volume_format.proofs.SliceLemmas.{zeros-are}

pub reading-zeros : (block : List ℕ) (blocks : ℕ) → are_zeros block ≡ true → reading block blocks ≡ Ok (empty_table blocks)
unfolding reading
reading-zeros block blocks h = cond-true (are_zeros block) (Ok (empty_table blocks)) (table_or_rule block blocks (first_failed (tests block blocks))) h

pub reading-told : (block : List ℕ) (blocks : ℕ) (told : Option ℕ) → are_zeros block ≡ false → first_failed (tests block blocks) ≡ told → reading block blocks ≡ table_or_rule block blocks told
unfolding reading
reading-told block blocks told h e =
    cond-false (are_zeros block) (Ok (empty_table blocks)) (table_or_rule block blocks (first_failed (tests block blocks))) h
    ∙ ap (table_or_rule block blocks) e

-- A block of zeros has no version.
pub zeros-version : (block : List ℕ) → length block ≡ 4096 → are_zeros block ≡ true → version block ≡ 0
unfolding number_at
zeros-version block size zeros =
    let all : block ≡ replicate 4096 0 = zeros-are block zeros ∙ ap (λ (n : ℕ). replicate n 0) size in
    ap (λ (b : List ℕ). from_be_bytes w32 (take 4 (drop 8 b))) all
    ∙ ap (λ (b : List ℕ). from_be_bytes w32 (take 4 b)) (drop-replicate 8 4096 0)
    ∙ ap (from_be_bytes w32) (take-replicate 4 4088 0 (omega arith))
