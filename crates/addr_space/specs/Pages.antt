-- A space as a finite map from its pages to piece and place. Public clauses cite this.
use Rattle.std.specs.Prelude.{ℕ, ◌+◌, zero, suc, List, [], ◌∷◌}
use Rattle.std.specs.Ordering.{nat_cmp}
use Rattle.std.specs.FinMap as map
use Rattle.addr_space.specs.Space.{Part}

module _ {T : Type 0} where
  -- the map with the first so many pages of a part put in
  abbrev pub with_pages : map.FinMap nat_cmp (T × ℕ) → Part T → ℕ → map.FinMap nat_cmp (T × ℕ)
  with_pages m p zero = m
  with_pages m p (suc n) = map.insert (with_pages m p n) (p.first + n) (p.piece, n)

  -- the map from page to piece and place
  abbrev pub pages_of_parts : List (Part T) → map.FinMap nat_cmp (T × ℕ)
  pages_of_parts [] = map.empty
  pages_of_parts (p ∷ ps) = with_pages (pages_of_parts ps) p p.pages
