-- What holds of the segment that has a page, from what holds of each part.
use Rattle.flat_model.proofs.Histories.{io_aside as both-left}
use Rattle.std.proofs.Common.{◌≡◌, ℕ, ◌+◌, ◌-◌, ◌<◌, ◌≤◌, Bool, true, false, cond, List, [], ◌∷◌, Option, Some, None, refl, sym, ap, ◌∙◌, inl, inr, arith}
use Rattle.std.specs.Prelude.{option_map, option_and_then, nat_le, nat_lt, ◌&&◌, All, IsSome}
use Rattle.std.specs.FinMap as finite
use Rattle.std.proofs.lemmas.Bool.{cases_Bool, ltb-true, leb-true}
use Rattle.std.proofs.lemmas.List.Elements.{All-head, All-tail}
use Rattle.addr_space.specs.Space.{Part, IsInOrder, begins, has, piece_at, part_at}
use Rattle.addr_space.proofs.PartLists.{begins-found}
use Rattle.vm_world.specs.Segments.{Segment, Spot, Spaces, spot_at}

-- The part that has a page, and the page's place in it.
pub record IsSpotOf (P : Part Segment → Type 0) (q : ℕ) (x : Spot) : Type 0 where
  pub part : Part Segment
  pub piece : part.piece ≡ x.0
  pub low : part.first ≤ q
  pub high : q < part.first + part.pages
  pub place : x.1 ≡ q - part.first
  pub fits : P part
  pub user : (1 ≤ q) × (q < 0x80000)

-- where a part begins, one is found
pub begun-there : (parts : List (Part Segment)) (q : ℕ) → IsInOrder 1 parts → IsSome (begins parts q) → part_at parts q ≡ None → ⊥
begun-there parts q order some none = by_part (begins parts q) refl some
  where
    by_part : (o : Option (Part Segment)) → begins parts q ≡ o → IsSome o → ⊥
    by_part None e s = cc
    by_part (Some x) e s = let d : Some x ≡ None = sym (begins-found 1 parts q x order e) ∙ none in cc

pub both-right : (a b : Bool) → (a && b) ≡ true → b ≡ true
both-right true b e = e
both-right false b e = absurd (cc)

pub spot-in : (P : Part Segment → Type 0) (low : ℕ) (parts : List (Part Segment)) (q : ℕ) (x : Spot) → 1 ≤ low → IsInOrder low parts → All P parts → piece_at parts q ≡ Some x → IsSpotOf P q x
spot-in P low [] q x some order each is = absurd (cc)
spot-in P low (p ∷ ps) q x some order each is = elim (cases_Bool (has p q)) [
  | inl y ↦
      let found : (p.piece, q - p.first) ≡ x = let z : Some (p.piece, q - p.first) ≡ Some x = sym (ap (λ (b : Bool). option_map (λ (r : Part Segment). (r.piece, q - r.first)) (cond b (Some p) (part_at ps q))) y) ∙ is in cc in
      let above : p.first ≤ q = leb-true p.first q (both-left (nat_le p.first q) (nat_lt q (p.first + p.pages)) y) in
      let below : q < p.first + p.pages = ltb-true q (p.first + p.pages) (both-right (nat_le p.first q) (nat_lt q (p.first + p.pages)) y) in
      let behind = order.0.behind in
      let within = order.0.within in
      record {
        part = p;
        piece = ap (λ (y : Spot). y.0) found;
        low = above;
        high = below;
        place = sym (ap (λ (y : Spot). y.1) found);
        fits = All-head P p ps each;
        user = (omega (arith, some, behind, above), omega (arith, within, below));
      }
  | inr no_page ↦
      let more : piece_at ps q ≡ Some x = sym (ap (λ (b : Bool). option_map (λ (r : Part Segment). (r.piece, q - r.first)) (cond b (Some p) (part_at ps q))) no_page) ∙ is in
      let behind = order.0.behind in
      spot-in P (p.first + p.pages) ps q x (omega (arith, some, behind)) order.1 (All-tail P p ps each) more
]

-- A PAGE OF A PROCESS, its segment, its part and its place.
pub spot-part : (P : Part Segment → Type 0) (spaces : Spaces) (p q : ℕ) (x : Spot) → ((p : ℕ) (parts : List (Part Segment)) → finite.get spaces p ≡ Some parts → IsInOrder 1 parts)
    → ((p : ℕ) (parts : List (Part Segment)) → finite.get spaces p ≡ Some parts → All P parts) → spot_at spaces p q ≡ Some x → IsSpotOf P q x
spot-part P spaces p q x ordered each is = by_space (finite.get spaces p) refl is
  where
    by_space : (o : Option (List (Part Segment))) → finite.get spaces p ≡ o → option_and_then (λ (ps : List (Part Segment)). piece_at ps q) o ≡ Some x → IsSpotOf P q x
    by_space None e is = absurd (cc)
    by_space (Some parts) e is = spot-in P 1 parts q x (omega arith) (ordered p parts e) (each p parts e) is
