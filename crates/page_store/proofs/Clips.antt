-- Pages of which the first bytes are kept.
use Rattle.std.proofs.Common.{◌≡◌, ℕ, ◌-◌, ◌≤◌, List, length, take, replicate, ◌∙◌, arith}
use Rattle.std.proofs.lemmas.List.{take_all, length-take, length-replicate, length-append, append-nil}
use Rattle.page_store.specs.Bytes.{clip}

-- the page is whole
pub length-clip : (valid : ℕ) (bytes : List ℕ) → valid ≤ 4096 → length bytes ≡ 4096 → length (clip valid bytes) ≡ 4096
length-clip valid bytes low whole =
    let a = length-append (take valid bytes) (replicate (4096 - valid) 0) in
    let b = length-take valid bytes in
    let c = length-replicate {A = ℕ} (4096 - valid) 0 in
    omega (arith, a, b, c, low, whole)

-- a page all of whose bytes are kept stays
pub clip-whole : (bytes : List ℕ) → length bytes ≡ 4096 → clip 4096 bytes ≡ bytes
clip-whole bytes whole = let le : length bytes ≤ 4096 = omega (arith, whole) in append-nil (take 4096 bytes) ∙ take_all 4096 bytes le
