-- The pages of an object, by those that were stored into. Inside: no public clause cites this.
use Rattle.std.specs.Prelude.{ℕ, zero, suc, List, [], ◌∷◌, unwrap_or}
use Rattle.std.specs.Map.{lookup}
use Rattle.std.specs.BTreeMap.{is_at}
use Rattle.std.specs.Ordering.{nat_cmp}
use Rattle.flat_model.specs.Words.{Page, zero_page}

-- The page of a number: the one that was stored, or else zeros.
abbrev pub page_in : List (ℕ × Page) → ℕ → Page
page_in stored i = unwrap_or (lookup (is_at (nat_cmp i)) stored) zero_page

-- The n pages from number k on.
abbrev pub pages_by : (ℕ → Page) → ℕ → ℕ → List Page
pages_by page k zero = []
pages_by page k (suc n) = page k ∷ pages_by page (suc k) n
