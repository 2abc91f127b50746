-- What stretches of memory own and lend. Inside: no public clause cites this.
use Rattle.std.specs.Prelude.{refl, ℕ, List, length}
use Rattle.std.specs.Coded.{Coded, code_by, coded×, coded_ℕ}
use base.Fraction.{full_share}
use base.Fml.{Lft, Fml, ffalse}
use denote.Builtin.{u8}
use denote.Array.{Array}
use denote.RawPtr.{Ptr, block_ptr, null_ptr, coded_ptr, lies_at, block_of, count_of}
use denote.RawPtr.Bytes.{bytes}
use denote.Slice.{elements_shared}

-- where a vector's bytes begin, and how many there are
pub record VecBytes : Type 0 where
  pub at : Ptr
  pub len : ℕ

-- it is stored as the pair of its fields
abbrev pub vec_bytes_code : Coded VecBytes
vec_bytes_code = code_by (Ptr × ℕ) (coded× coded_ptr coded_ℕ) (λ e. (e.at, e.len)) (λ p. record { at = p.0; len = p.1 }) (λ _. refl)

-- the bytes xs lie at p, as a vector has them
abbrev pub vec_owns_bytes : Ptr → List ℕ → Fml
vec_owns_bytes p xs = lies_at (Array u8 (length xs)) full_share p xs

-- the bytes xs lie at p, one by one
abbrev pub stretch_owns : Ptr → List ℕ → Fml
stretch_owns (block_ptr b o) xs = bytes full_share xs b o
stretch_owns null_ptr xs = ffalse

-- the bytes xs at p may be read while the lifetime lasts
abbrev pub stretch_lent : Ptr → List ℕ → Lft → Fml
stretch_lent p xs = elements_shared u8 xs (block_of p) (count_of p)
