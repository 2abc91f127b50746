-- The map from pages: once a piece was written, and as a finite map.
use Rattle.std.proofs.Common.{◌≡◌, ℕ, ◌+◌, ◌-◌, cond, eqb, Option, Some, List, [], ◌∷◌, arith, zero, suc}
use Rattle.std.specs.Prelude.{option_map, IfSome}
use Rattle.std.specs.Ordering.{nat_cmp}
use Rattle.std.specs.FinMap as map
use Rattle.std.specs.Cmp.{nat_cmp_total, unsigned_tied}
use Rattle.std.proofs.lemmas.Bool.Decides.{nat_tests}
use Rattle.addr_space.specs.Space.{Part, part, has, piece_at, part_at, with_new_piece, IsInOrder}
use Rattle.addr_space.specs.Pages.{with_pages, pages_of_parts}
use Rattle.addr_space.proofs.PartLemmas.{found-in}

insert-at : {X : Type 0} (m : map.FinMap nat_cmp X) (k : ℕ) (v : X) (q : ℕ)
    → map.get (map.insert m k v) q ≡ cond (eqb q k) (Some v) (map.get m q)
insert-at m k v q = grind (arith, map.get-insert nat_cmp_total m k v q, unsigned_tied q k)

module _ {T : Type 0} where
  pub shows : (ps : List (Part T)) (q : ℕ) (o : Option (Part T)) → part_at ps q ≡ o
      → piece_at ps q ≡ option_map (λ (p : Part T). (p.piece, q - p.first)) o
  shows ps q o e = grind arith

  pub at-with_new_piece : (low page : ℕ) (w : T) (ps : List (Part T)) (p : Part T) → IsInOrder low ps
      → part_at ps page ≡ Some p
      → (q : ℕ)
      → piece_at (with_new_piece page w ps) q ≡ cond (has p q) (Some (w, q - p.first)) (piece_at ps q)
  at-with_new_piece low page w [] p o e q = grind arith
  at-with_new_piece low page w (r ∷ rs) p o e q =
      let end = r.first + r.pages in
      grind (arith, nat_tests, at-with_new_piece end page w rs p o.1, found-in end rs page p o.1)

  ordered-with_new_piece : (low page : ℕ) (w : T) (ps : List (Part T)) → IsInOrder low ps
      → IsInOrder low (with_new_piece page w ps)
  ordered-with_new_piece low page w [] o = o
  ordered-with_new_piece low page w (p ∷ ps) o =
      grind (arith, ordered-with_new_piece (p.first + p.pages) page w ps o.1)

  -- what `find_mut` says of the pages
  pub pages-written : (ps : List (Part T)) (page : ℕ) → IsInOrder 1 ps
      → IfSome (part_at ps page) (λ p. (w : T) (q : ℕ)
      → piece_at (with_new_piece page w ps) q ≡ cond (has p q) (Some (w, q - p.first)) (piece_at ps q))
  pages-written ps page o = grind (arith, λ (p : Part T) (w : T). at-with_new_piece 1 page w ps p o)

  pub ordered-written : (ps : List (Part T)) (page : ℕ) → IsInOrder 1 ps → (w : T)
      → IsInOrder 1 (with_new_piece page w ps)
  ordered-written ps page o w = ordered-with_new_piece 1 page w ps o

  pub get-with_pages : (m : map.FinMap nat_cmp (T × ℕ)) (p : Part T) (n q : ℕ)
      → map.get (with_pages m p n) q
      ≡ cond (has (part p.first n p.piece) q) (Some (p.piece, q - p.first)) (map.get m q)
  get-with_pages m p zero q = grind (arith, nat_tests)
  get-with_pages m p (suc n) q =
      let new = insert-at (with_pages m p n) (p.first + n) (p.piece, n) q in
      grind (arith, nat_tests, new, get-with_pages m p n q)

  -- the finite map has at each page what the parts show there
  pub get-pages_of_parts : (ps : List (Part T)) (q : ℕ) → map.get (pages_of_parts ps) q ≡ piece_at ps q
  get-pages_of_parts [] q = map.get-empty nat_cmp q
  get-pages_of_parts (p ∷ ps) q =
      grind (arith, get-with_pages (pages_of_parts ps) p p.pages q, get-pages_of_parts ps q)
