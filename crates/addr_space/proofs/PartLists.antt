-- What holds of each part stays so, once a part goes, comes or is cut; and where a part is found.
use Rattle.std.proofs.Common.{◌≡◌, ℕ, ◌+◌, ◌-◌, ◌<◌, ◌≤◌, true, cond, Some, None, List, [], ◌∷◌, arith}
use Rattle.std.specs.Prelude.{nat_lt, nat_le, ◌&&◌, All}
use Rattle.std.proofs.lemmas.Bool.Decides.{nat_tests}
use Rattle.std.proofs.lemmas.List.Elements.{All-cons, All-head, All-tail}
use Rattle.addr_space.specs.Space.{Part, part, has, piece_at, part_at, begins, with_new_part, cut_at, without_part, with_new_piece, upper_part, IsInOrder, FindsLast}
use Rattle.addr_space.proofs.PartLemmas.{at-without_part, found-in, at-cut}
use Rattle.addr_space.proofs.PageLaws.{at-with_new_piece, ordered-written}

module _ {T : Type 0} where
  pub all-put : (P : Part T → Type 0) (x : Part T) (ps : List (Part T)) → P x → All P ps → All P (with_new_part x ps)
  all-put P x [] new each = All-cons P x [] new each
  all-put P x (p ∷ ps) new each =
      grind (arith, All-cons P, All-head P p ps each, All-tail P p ps each, all-put P x ps)

  pub all-without_part : (P : Part T → Type 0) (page : ℕ) (ps : List (Part T)) → All P ps
      → All P (without_part page ps)
  all-without_part P page [] each = each
  all-without_part P page (p ∷ ps) each =
      grind (arith, All-cons P, All-head P p ps each, All-tail P p ps each, all-without_part P page ps)

  -- a part that is found is one of them
  pub all-found : (P : Part T → Type 0) (ps : List (Part T)) (q : ℕ) (p : Part T) → All P ps
      → part_at ps q ≡ Some p → P p
  all-found P [] q p each e = grind arith
  all-found P (r ∷ rs) q p each e =
      grind (arith, All-head P r rs each, All-tail P r rs each, all-found P rs q p)

  pub all-begins : (P : Part T → Type 0) (ps : List (Part T)) (page : ℕ) (p : Part T) → All P ps
      → begins ps page ≡ Some p → P p
  all-begins P [] page p each e = grind arith
  all-begins P (r ∷ rs) page p each e =
      grind (arith, All-head P r rs each, All-tail P r rs each, all-begins P rs page p)

  pub begins-first : (ps : List (Part T)) (page : ℕ) (p : Part T) → begins ps page ≡ Some p → p.first ≡ page
  begins-first [] page p e = grind arith
  begins-first (r ∷ rs) page p e = grind (arith, nat_tests, begins-first rs page p)

  -- the part that has a page is found at each of its pages
  pub found-has : (low : ℕ) (ps : List (Part T)) (page q : ℕ) (p : Part T) → IsInOrder low ps
      → part_at ps page ≡ Some p → has p q ≡ true → part_at ps q ≡ Some p
  found-has low [] page q p o e h = grind arith
  found-has low (r ∷ rs) page q p o e h =
      let low = r.first + r.pages in
      grind (arith, nat_tests, found-has low rs page q p o.1, found-in low rs page p o.1)

  -- the part that has a page, with another piece
  pub found-with_new_piece : (ps : List (Part T)) (page : ℕ) (w : T) (p : Part T)
      → part_at ps page ≡ Some p → part_at (with_new_piece page w ps) page ≡ Some (part p.first p.pages w)
  found-with_new_piece [] page w p e = grind arith
  found-with_new_piece (r ∷ rs) page w p e = grind (arith, found-with_new_piece rs page w p)

  -- WHAT A CUT WITH ANOTHER PIECE BELOW IT shows at each page
  pub at-cut_both : (page : ℕ) (w u : T) (ps : List (Part T)) (p : Part T) → IsInOrder 1 ps
      → part_at ps page ≡ Some p → p.first < page → (q : ℕ)
      → piece_at (cut_at page u (with_new_piece page w ps)) q
      ≡ cond (has (upper_part page u p) q) (Some (u, q - page)) (cond (has p q) (Some (w, q - p.first)) (piece_at ps q))
  at-cut_both page w u ps p o e lt q =
      let cut = at-cut 1 page u (with_new_piece page w ps) (part p.first p.pages w) (ordered-written ps page o w) in
      grind (arith, cut, found-with_new_piece ps page w p e, at-with_new_piece 1 page w ps p o e q)

  pub at-found : (low : ℕ) (ps : List (Part T)) (page q : ℕ) (p : Part T) → IsInOrder low ps
      → part_at ps page ≡ Some p → has p q ≡ true → piece_at ps q ≡ Some (p.piece, q - p.first)
  at-found low ps page q p o e h = grind (arith, found-has low ps page q p o e h)

  -- a part that begins with a page has it, and a part that is found begins with its first page
  pub begins-found : (low : ℕ) (ps : List (Part T)) (page : ℕ) (p : Part T) → IsInOrder low ps
      → begins ps page ≡ Some p → part_at ps page ≡ Some p
  begins-found low [] page p o e = grind arith
  begins-found low (r ∷ rs) page p o e =
      let low = r.first + r.pages in let found = begins-found low rs page p o.1 in
      grind (arith, nat_tests, found, found-in low rs page p o.1)

  pub found-begins : (low : ℕ) (ps : List (Part T)) (q : ℕ) (p : Part T) → IsInOrder low ps
      → part_at ps q ≡ Some p → begins ps p.first ≡ Some p
  found-begins low [] q p o e = grind arith
  found-begins low (r ∷ rs) q p o e =
      let low = r.first + r.pages in
      grind (arith, nat_tests, found-begins low rs q p o.1, found-in low rs q p o.1)

  -- what is known of a part that has a page
  record Holds (ps : List (Part T)) (q : ℕ) (p : Part T) : Type 0 where
    from : p.first ≤ q
    below : q < p.first + p.pages
    begins : begins ps p.first ≡ Some p
    all : (r : ℕ) → p.first ≤ r → r < p.first + p.pages → part_at ps r ≡ Some p

  holds : (ps : List (Part T)) (q : ℕ) (p : Part T) → IsInOrder 1 ps → part_at ps q ≡ Some p → Holds ps q p
  holds ps q p o e =
      let all = λ (r : ℕ). found-has 1 ps q r p o e in
      grind (arith, nat_tests, found-in 1 ps q p o e, found-begins 1 ps q p o e, all)

  none-at : (ps : List (Part T)) (q : ℕ) → ((p : Part T) → part_at ps q ≡ Some p → ⊥) → piece_at ps q ≡ None
  none-at ps q none = grind (arith, none)

  -- behind the last part below a bound nothing is
  last-free : (ps : List (Part T)) (end k : ℕ) (x : Part T) → IsInOrder 1 ps → FindsLast ps end (Some k)
      → begins ps k ≡ Some x → (q : ℕ) → x.first + x.pages ≤ q → q < end → piece_at ps q ≡ None
  last-free ps end k x o last is q past below = none-at ps q (λ y found.
      let h = holds ps q y o found in
      grind (arith, begins-first ps k x is, begins-found 1 ps k x o is, last.2 y.first, h.all k))

  -- a page that has a part is the part's first
  abbrev pub StartsAt : List (Part T) → ℕ → Type 0
  StartsAt ps q = (x : T × ℕ) → piece_at ps q ≡ Some x → x.1 ≡ 0

  -- no part begins in a range, nor goes into it: so it is free
  none-begin : (ps : List (Part T)) (from end : ℕ) → IsInOrder 1 ps
      → ((first : ℕ) → from ≤ first → first < end → begins ps first ≡ None)
      → StartsAt ps from → (q : ℕ) → from ≤ q → q < end → piece_at ps q ≡ None
  none-begin ps from end o none edge q low high = none-at ps q (λ y found.
      let h = holds ps q y o found in grind (arith, none y.first, edge (y.piece, from - y.first), h.all from))

  -- THE LAST PART OF A RANGE goes, behind which the range is free already
  pub pages-step : (old now : List (Part T)) (end top k : ℕ) (x : Part T) → IsInOrder 1 now → end ≤ top
      → k < end
      → ((q : ℕ) → piece_at now q ≡ cond (nat_le end q && nat_lt q (end + (top - end))) None (piece_at old q))
      → StartsAt old top → FindsLast now end (Some k) → begins now k ≡ Some x → (q : ℕ)
      → piece_at (without_part k now) q ≡ cond (nat_le k q && nat_lt q (k + (top - k))) None (piece_at old q)
  pages-step old now end top k x o le lt pages edge last is q =
      let h = holds now k x o (begins-found 1 now k x o is) in
      let gone = at-without_part 1 k now x o is q in
      let free = last-free now end k x o last is q in
      let first = begins-first now k x is in
      grind (arith, nat_tests, gone, free, first, h.all end, pages q, pages end, edge (x.piece, top - k))

  -- and where no part is left in it, the whole range is
  pub pages-end : (old now : List (Part T)) (from end top : ℕ) → IsInOrder 1 now → from ≤ end → end ≤ top
      → ((q : ℕ) → piece_at now q ≡ cond (nat_le end q && nat_lt q (end + (top - end))) None (piece_at old q))
      → StartsAt old from → ((first : ℕ) → from ≤ first → first < end → begins now first ≡ None) → (q : ℕ)
      → piece_at now q ≡ cond (nat_le from q && nat_lt q (from + (top - from))) None (piece_at old q)
  pages-end old now from end top o low high pages edge none q =
      grind (arith, nat_tests, pages q, pages from, none-begin now from end o none)
