-- How many pages the parts have: after each change, and as the keys of the finite map.
use Rattle.std.proofs.Common.{◌≡◌, ℕ, zero, suc, ◌+◌, ◌-◌, ◌<◌, ◌≤◌, false, Some, None, List, [], ◌∷◌, refl, ap, arith}
use Rattle.std.specs.Prelude.{is_some}
use Rattle.std.specs.Ordering.{nat_cmp}
use Rattle.std.specs.FinMap as map
use Rattle.std.specs.Cmp.{nat_cmp_total}
use Rattle.std.proofs.lemmas.Bool.Decides.{nat_tests}
use Rattle.std.proofs.lemmas.List.Sums.{sum_by-cons}
use Rattle.addr_space.specs.Space.{Part, begins, with_new_part, cut_at, without_part, with_new_piece, page_total, IsInOrder}
use Rattle.addr_space.specs.Pages.{with_pages, pages_of_parts}
use Rattle.addr_space.proofs.PartLemmas.{none-below}
use Rattle.addr_space.proofs.PageLaws.{get-with_pages, get-pages_of_parts}

module _ {T : Type 0} where
  total-cons : (p : Part T) (ps : List (Part T)) → page_total (p ∷ ps) ≡ p.pages + page_total ps
  total-cons p ps = sum_by-cons (λ (p : Part T). p.pages) p ps

  pub total-put : (x : Part T) (ps : List (Part T)) → page_total (with_new_part x ps) ≡ x.pages + page_total ps
  total-put x [] = total-cons x []
  total-put x (p ∷ ps) =
      grind (arith, total-cons p (with_new_part x ps), total-cons p ps, total-cons x (p ∷ ps), total-put x ps)

  pub total-cut : (page : ℕ) (u : T) (ps : List (Part T)) → page_total (cut_at page u ps) ≡ page_total ps
  total-cut page u [] = refl
  total-cut page u (p ∷ ps) = grind (arith, nat_tests, total-cons, total-cut page u ps)

  pub total-without_part : (page : ℕ) (ps : List (Part T)) (p : Part T) → begins ps page ≡ Some p
      → page_total (without_part page ps) + p.pages ≡ page_total ps
  total-without_part page [] p e = grind arith
  total-without_part page (r ∷ rs) p e = grind (arith, total-cons, total-without_part page rs p)

  -- another piece has the same pages
  pub total-with_new_piece : (page : ℕ) (w : T) (ps : List (Part T))
      → page_total (with_new_piece page w ps) ≡ page_total ps
  total-with_new_piece page w [] = refl
  total-with_new_piece page w (p ∷ ps) = grind (arith, total-cons, total-with_new_piece page w ps)

  -- parts in order have fewer pages than a space
  pub total-within : (low : ℕ) (ps : List (Part T)) → IsInOrder low ps → page_total ps ≤ 0x80000 - low
  total-within low [] o = omega arith
  total-within low (p ∷ ps) o = grind (arith, total-cons, total-within (p.first + p.pages) ps o.1)

  absent-key : (m : map.FinMap nat_cmp (T × ℕ)) (k : ℕ) → map.get m k ≡ None → map.contains_key m k ≡ false
  absent-key m k e = ap is_some e

  len-with_pages : (m : map.FinMap nat_cmp (T × ℕ)) (p : Part T) (n : ℕ)
      → ((q : ℕ) → p.first ≤ q → q < p.first + n → map.get m q ≡ None)
      → map.len (with_pages m p n) ≡ map.len m + n
  len-with_pages m p zero free = omega arith
  len-with_pages m p (suc n) free =
      let more = len-with_pages m p n (λ q a b. free q a (omega (arith, b))) in
      let one = map.len-insert nat_cmp_total (with_pages m p n) (p.first + n) (p.piece, n) in
      grind (arith, nat_tests, more, one, absent-key, free, get-with_pages m p n (p.first + n))

  -- THE KEYS of the finite map are as many as the pages
  pub len-pages_of_parts : (low : ℕ) (ps : List (Part T)) → IsInOrder low ps
      → map.len (pages_of_parts ps) ≡ page_total ps
  len-pages_of_parts low [] o = map.len-empty nat_cmp (T × ℕ)
  len-pages_of_parts low (p ∷ ps) o =
      let free : (q : ℕ) → p.first ≤ q → q < p.first + p.pages → map.get (pages_of_parts ps) q ≡ None =
      λ q from below. grind (arith, get-pages_of_parts ps q, none-below (p.first + p.pages) ps q o.1) in
      let more = len-with_pages (pages_of_parts ps) p p.pages free in
      grind (arith, total-cons, len-pages_of_parts (p.first + p.pages) ps o.1, more)
