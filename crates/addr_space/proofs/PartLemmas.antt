-- What each change of the parts leaves at a page.
use Rattle.std.proofs.Common.{◌≡◌, ℕ, ◌+◌, ◌-◌, ◌<◌, ◌≤◌, true, false, cond, Some, None, List, [], ◌∷◌, refl, arith}
use Rattle.std.proofs.lemmas.Bool.Decides.{nat_tests}
use Rattle.addr_space.specs.Space.{Part, has, piece_at, part_at, begins, with_new_part, cut_at, without_part, upper_part, IsInOrder, LiesFrom}

module _ {T : Type 0} where
  pub has-in : (p : Part T) (q : ℕ) → p.first ≤ q → q < p.first + p.pages → has p q ≡ true
  has-in p q a b = grind (arith, nat_tests)

  pub has-before : (p : Part T) (q : ℕ) → q < p.first → has p q ≡ false
  has-before p q a = grind (arith, nat_tests)

  pub has-past : (p : Part T) (q : ℕ) → p.first + p.pages ≤ q → has p q ≡ false
  has-past p q a = grind (arith, nat_tests)

  pub record Within (p : Part T) (q : ℕ) : Type 0 where
    pub from : p.first ≤ q
    pub below : q < p.first + p.pages

  pub has-within : (p : Part T) (q : ℕ) → has p q ≡ true → Within p q
  has-within p q h = grind (arith, nat_tests)

  pub at-here : (p : Part T) (ps : List (Part T)) (q : ℕ) → has p q ≡ true → part_at (p ∷ ps) q ≡ Some p
  at-here p ps q h = grind arith

  pub at-next : (p : Part T) (ps : List (Part T)) (q : ℕ) → has p q ≡ false
      → part_at (p ∷ ps) q ≡ part_at ps q
  at-next p ps q h = grind arith

  pub none-below : (low : ℕ) (ps : List (Part T)) (q : ℕ) → IsInOrder low ps → q < low → part_at ps q ≡ None
  none-below low [] q o lt = refl
  none-below low (p ∷ ps) q o lt = grind (arith, nat_tests, none-below (p.first + p.pages) ps q o.1)

  -- a page that no part has is in no part behind the first
  pub free-tail : (p : Part T) (ps : List (Part T)) (q : ℕ) → part_at (p ∷ ps) q ≡ None → part_at ps q ≡ None
  free-tail p ps q h = grind arith

  part_at-put : (x : Part T) (ps : List (Part T)) (q : ℕ)
      → ((r : ℕ) → x.first ≤ r → r < x.first + x.pages → part_at ps r ≡ None)
      → part_at (with_new_part x ps) q ≡ cond (has x q) (Some x) (part_at ps q)
  part_at-put x [] q free = refl
  part_at-put x (p ∷ ps) q free =
      grind (arith, nat_tests, part_at-put x ps q (λ r a b. free-tail p ps r (free r a b)), free q)

  pub at-put : (x : Part T) (ps : List (Part T))
      → ((r : ℕ) → x.first ≤ r → r < x.first + x.pages → part_at ps r ≡ None)
      → (q : ℕ) → piece_at (with_new_part x ps) q ≡ cond (has x q) (Some (x.piece, q - x.first)) (piece_at ps q)
  at-put x ps free q = grind (arith, part_at-put x ps q free)

  pub ordered-put : (low : ℕ) (x : Part T) (ps : List (Part T)) → IsInOrder low ps → LiesFrom low x
      → ((r : ℕ) → x.first ≤ r → r < x.first + x.pages → part_at ps r ≡ None) → IsInOrder low (with_new_part x ps)
  ordered-put low x [] o placed free = (placed, tt)
  ordered-put low x (p ∷ ps) o placed free =
      let more = ordered-put (p.first + p.pages) x ps o.1 in
      grind (arith, nat_tests, more, free x.first, free p.first, free-tail p ps)

  pub record Found (low : ℕ) (p : Part T) (q : ℕ) : Type 0 where
    pub behind : low ≤ p.first
    pub some : 0 < p.pages
    pub within : p.first + p.pages ≤ 0x80000
    pub here : has p q ≡ true

  pub found-in : (low : ℕ) (ps : List (Part T)) (q : ℕ) (p : Part T) → IsInOrder low ps
      → part_at ps q ≡ Some p → Found low p q
  found-in low [] q p o e = grind arith
  found-in low (r ∷ rs) q p o e = grind (arith, nat_tests, found-in (r.first + r.pages) rs q p o.1)

  -- the pages at and behind the cut show the upper piece, and all others what they showed
  pub at-cut : (low page : ℕ) (u : T) (ps : List (Part T)) (p : Part T) → IsInOrder low ps
      → part_at ps page ≡ Some p → p.first < page
      → (q : ℕ)
      → piece_at (cut_at page u ps) q ≡ cond (has (upper_part page u p) q) (Some (u, q - page)) (piece_at ps q)
  at-cut low page u [] p o e lt q = grind arith
  at-cut low page u (r ∷ rs) p o e lt q =
      let end = r.first + r.pages in
      grind (arith, nat_tests, at-cut end page u rs p o.1, found-in end rs page p o.1)

  pub ordered-cut : (low page : ℕ) (u : T) (ps : List (Part T)) (p : Part T) → IsInOrder low ps
      → part_at ps page ≡ Some p → p.first < page
      → IsInOrder low (cut_at page u ps)
  ordered-cut low page u [] p o e lt = tt
  ordered-cut low page u (r ∷ rs) p o e lt =
      grind (arith, nat_tests, ordered-cut (r.first + r.pages) page u rs p o.1)

  begins-in : (low : ℕ) (ps : List (Part T)) (page : ℕ) (p : Part T) → IsInOrder low ps
      → begins ps page ≡ Some p → low ≤ p.first
  begins-in low [] page p o e = grind arith
  begins-in low (r ∷ rs) page p o e = grind (arith, nat_tests, begins-in (r.first + r.pages) rs page p o.1)

  -- the pages of the part that goes are free, and all others show what they showed
  pub at-without_part : (low page : ℕ) (ps : List (Part T)) (p : Part T) → IsInOrder low ps
      → begins ps page ≡ Some p
      → (q : ℕ) → piece_at (without_part page ps) q ≡ cond (has p q) None (piece_at ps q)
  at-without_part low page [] p o e q = grind arith
  at-without_part low page (r ∷ rs) p o e q =
      let low = r.first + r.pages in
      let more = at-without_part low page rs p o.1 in
      grind (arith, nat_tests, more, begins-in low rs page p o.1, none-below low rs q o.1)

  -- a part of the order is behind each lower bound
  lower-order : (low low' : ℕ) (ps : List (Part T)) → low' ≤ low → IsInOrder low ps → IsInOrder low' ps
  lower-order low low' [] le o = tt
  lower-order low low' (p ∷ ps) le o = grind arith

  pub ordered-without_part : (low page : ℕ) (ps : List (Part T)) → IsInOrder low ps
      → IsInOrder low (without_part page ps)
  ordered-without_part low page [] o = tt
  ordered-without_part low page (r ∷ rs) o =
      let end = r.first + r.pages in
      grind (arith, nat_tests, ordered-without_part end page rs o.1, lower-order end low rs)
