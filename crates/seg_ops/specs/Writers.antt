-- Translations that may write. Public clauses cite this.
use Rattle.std.specs.Prelude.{◌≡◌, ℕ, true, false, List, Option, Some, None, slice_index_or}
use Rattle.vm_world.specs.hat_layer.declared.translation.Translation.{Translation}

-- No place of the pool has a translation of the page that may write.
abbrev pub HasNoWriter : List (Option Translation) → ℕ → ℕ → Type 0
HasNoWriter places space page = (place : ℕ) (t : Translation) → slice_index_or places place None ≡ Some t → t.space ≡ space → t.page ≡ page → t.writable ≡ false

-- A translation that may write could write before, at the same page.
pub record WasWriter (places : List (Option Translation)) (t : Translation) : Type 0 where
  pub place : ℕ
  pub was : Translation
  pub there : slice_index_or places place None ≡ Some was
  pub space : was.space ≡ t.space
  pub page : was.page ≡ t.page
  pub writable : was.writable ≡ t.writable

-- Each translation that may write now could write before.
abbrev pub WritersStay : List (Option Translation) → List (Option Translation) → Type 0
WritersStay old new = (place : ℕ) (t : Translation) → slice_index_or new place None ≡ Some t → t.writable ≡ true → WasWriter old t
