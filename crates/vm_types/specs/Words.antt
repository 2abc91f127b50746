-- Words: their sizes, and their bytes in big-endian order. Public clauses cite this.
use Rattle.std.specs.Prelude.{ℕ, zero, suc, ◌≡◌, ◌<◌, ◌+◌, ◌*◌, ◌/◌, ◌%◌, ◌^◌, ◌⊎◌, List, [], ◌∷◌, fold}

-- A byte is below 256.
abbrev pub IsByte : ℕ → Type 0
IsByte b = b < 256

-- A word has 1, 2 or 4 bytes.
abbrev pub IsWordSize : ℕ → Type 0
IsWordSize n = (n ≡ 1) ⊎ ((n ≡ 2) ⊎ (n ≡ 4))

-- A value fits a word of n bytes where it is below 2 to the power 8 * n.
abbrev pub FitsWord : ℕ → ℕ → Type 0
FitsWord n v = v < 2 ^ (8 * n)

-- The number of a word is read from its bytes, the first the highest.
abbrev pub word_value : List ℕ → ℕ
word_value bytes = fold (λ n b. 256 * n + b) 0 bytes

-- The n bytes of a word that has this number, the first the highest.
abbrev pub word_bytes : ℕ → ℕ → List ℕ
word_bytes zero v = []
word_bytes (suc n) v = v / 256 ^ n % 256 ∷ word_bytes n v
