-- A range whose pages get another protection, part by part.
use Rattle.std.proofs.Common.{◌≡◌, ◌⊎◌, ℕ, ◌+◌, ◌-◌, ◌<◌, ◌≤◌, Bool, true, false, cond, List, [], ◌∷◌, Option, Some, None, refl, sym, ap, ◌∙◌, inl, inr, subst, arith}
use Rattle.std.specs.Prelude.{option_map, is_some, IsSome, unwrap_or}
use Rattle.std.specs.Option.{option_map_or}
use Rattle.std.specs.FinMap as finite
use Rattle.std.specs.FinSet as set
use Rattle.std.specs.Ordering.{nat_cmp}
use Rattle.std.proofs.lemmas.Bool.{cases_Bool}
use Rattle.std.proofs.lemmas.Bool.Decides.{nat_tests}
use Rattle.seg_vn.specs.vm_types.declared.prot.Prot.{Prot}
use Rattle.seg_vn.specs.vm_types.Prot.{is_within}
use Rattle.seg_vn.specs.addr_space.Space.{Part, part, has, begins, part_at, piece_at, with_new_piece, IsInOrder}
use Rattle.seg_vn.proofs.addr_space.PartLemmas.{found-in}
use Rattle.seg_vn.proofs.addr_space.PartLists.{found-begins, found-has}
use Rattle.seg_vn.specs.page_store.Notes.{Notes}
use Rattle.seg_vn.specs.flat_model.Access.{with_space}
use Rattle.seg_vn.specs.flat_model.Flat.{Cell, Flat, Space}
use Rattle.seg_vn.specs.flat_model.Mapping.{are_mapped, cells_of, may_have}
use Rattle.seg_vn.specs.flat_model.Words.{Page}
use Rattle.seg_vn.specs.flat_model.Space.{all_pages, is_in_range, with_prot, with_prots}
use Rattle.seg_vn.proofs.flat_model.Ranges.{same_space, get-insert_here, get-with_prots, all_pages-at, at-all_pages}
use Rattle.seg_vn.proofs.flat_model.Reserve.{put_back}
use Rattle.seg_vn.specs.vm_world.FlatMemory.{Memory, flat_memory, cell_of}
use Rattle.seg_vn.specs.vm_world.Pages.{place_contents, page_value}
use Rattle.seg_vn.specs.vm_world.ProtectSteps.{with_range_prot}
use Rattle.seg_vn.specs.vm_world.Segments.{Spaces, Spot}
use Rattle.seg_vn.specs.vm_world.World.{World}
use Rattle.seg_vn.specs.vm_world.ZeroObjects.{KnowsZeros}
use Rattle.seg_vn.specs.vm_world.declared.segment.Segment.{Segment}
use Rattle.seg_vn.proofs.vm_world.Maps.{insert-twice}
use Rattle.seg_vn.proofs.vm_world.SegmentSteps.{segment_rule}
use Rattle.seg_vn.proofs.vm_world.SweptFlat.{space-is, cell-is}
use Rattle.seg_vn.proofs.vm_world.Shapes.{prots-respects}
use Rattle.seg_vn.specs.Clears.{ChangesSpace, SpaceFits, StartsAt}
use Rattle.seg_vn.specs.Cuts.{IsPartAt}
use Rattle.mmap_calls.specs.Protections.{AreMapped, MayHave, lets, most_at}
use Rattle.mmap_calls.proofs.CutPlaces.{same-space}

-- WHERE A PART ENDS
module _ (ps : List (Part Segment)) (order : IsInOrder 1 ps) (page : ℕ) (x : Part Segment) (found : part_at ps page ≡ Some x) where
  pub record Holds : Type 0 where
    pub from : x.first ≤ page
    pub below : page < x.first + x.pages
    pub within : x.first + x.pages ≤ 0x80000
    pub most : (q : ℕ) → x.first ≤ q → q < x.first + x.pages → most_at ps q ≡ Some x.piece.max

  pub holds : Holds
  holds = grind (arith, nat_tests, found-in 1 ps page x order found, λ (q : ℕ). found-has 1 ps page q x order found)

  -- a page at which pieces start is its first
  pub first-page : StartsAt ps page → x.first ≡ page
  first-page start = let from = holds.from in let e = start (x.piece, page - x.first) (ap (option_map (λ (p : Part Segment). (p.piece, page - p.first))) found) in omega (arith, from, e)

  -- pieces start behind it
  pub starts-behind : StartsAt ps (x.first + x.pages)
  starts-behind y is = by_part (part_at ps (x.first + x.pages)) refl
    where
      by_part : (o : Option (Part Segment)) → part_at ps (x.first + x.pages) ≡ o → y.1 ≡ 0
      by_part None e = absurd (let z : ◌≡◌ {A = Option Spot} None (Some y) = sym (ap (option_map (λ (p : Part Segment). (p.piece, x.first + x.pages - p.first))) e) ∙ is in cc)
      by_part (Some z) e =
          let place : x.first + x.pages - z.first ≡ y.1 = ap (λ (o : Option Spot). option_map_or (λ (s : Spot). s.1) o 0) (sym (ap (option_map (λ (p : Part Segment). (p.piece, x.first + x.pages - p.first))) e) ∙ is) in
          let zero : x.first + x.pages - z.first ≡ 0 = grind (arith, nat_tests, found-in 1 ps page x order found, found-in 1 ps (x.first + x.pages) z order e, found-has 1 ps page (x.first + x.pages - 1) x order found, found-has 1 ps (x.first + x.pages) (x.first + x.pages - 1) z order e) in
          sym place ∙ zero

  -- it doesn't go across a page behind, at which pieces start
  pub ends-by : (end : ℕ) → page < end → StartsAt ps end → x.first + x.pages ≤ end
  ends-by end lt start = elim (split end (x.first + x.pages)) [
    | inr le ↦ le
    | inl across ↦ absurd (let from = holds.from in
        let zero : end - x.first ≡ 0 = start (x.piece, end - x.first) (ap (option_map (λ (p : Part Segment). (p.piece, end - p.first))) (found-has 1 ps page end x order found (grind (arith, nat_tests)))) in
        omega (arith, zero, from, lt))
  ]
    where
      split : (a b : ℕ) → (a < b) ⊎ (b ≤ a)
      split a b = grind arith

  -- what holds of the pages so far, and of this part, holds of the pages up to its end
  pub all-so-far : (test : Option Prot → Bool) (first : ℕ) → ((q : ℕ) → first ≤ q → q < page → test (most_at ps q) ≡ true) → test (Some x.piece.max) ≡ true → (q : ℕ) → first ≤ q → q < x.first + x.pages → test (most_at ps q) ≡ true
  all-so-far test first each this q low high = elim (split q page) [
    | inl lt ↦ each q low lt
    | inr le ↦ let from = holds.from in ap test (holds.most q (omega (arith, from, le)) high) ∙ this
  ]
    where
      split : (a b : ℕ) → (a < b) ⊎ (b ≤ a)
      split a b = grind arith

-- WHAT THE PAGES OF A RANGE HAVE, each by its own test
spot-most : (cell : Spot → Cell) → ((x : Spot) → (cell x).max ≡ x.0.max) → (o : Option Spot) → is_some (option_map cell o) ≡ is_some (option_map (λ (x : Spot). x.0.max) o)
spot-most cell same None = refl
spot-most cell same (Some x) = refl

spot-lets : (held : ℕ → ℕ → Option Page) (prot : Prot) (o : Option Spot) → option_map_or (λ (c : Cell). is_within prot c.max) (option_map (cell_of held) o) true ≡ lets prot (option_map (λ (x : Spot). x.0.max) o)
spot-lets held prot None = refl
spot-lets held prot (Some x) = refl

pages-true : (test other : ℕ → Bool) (first n : ℕ) → ((q : ℕ) → test q ≡ other q) → ((q : ℕ) → first ≤ q → q < first + n → other q ≡ true) → all_pages test first n ≡ true
pages-true test other first n same each = at-all_pages test first n (λ q low high. same q ∙ each q low high)

pages-false : (test other : ℕ → Bool) (first n : ℕ) → ((q : ℕ) → test q ≡ other q) → (((q : ℕ) → first ≤ q → q < first + n → other q ≡ true) → ⊥) → all_pages test first n ≡ false
pages-false test other first n same not = elim (cases_Bool (all_pages test first n)) [
  | inl t ↦ absurd (not (λ q low high. sym (same q) ∙ all_pages-at test first n q t low high))
  | inr f ↦ f
]

module _ (m : Memory) (p : ℕ) (parts : List (Part Segment)) (here : finite.get m.spaces p ≡ Some parts) (born : set.FinSet nat_cmp) (notes : Notes) where
  abbrev C : Space
  C = cells_of (flat_memory m born notes) p

  abbrev cell : Spot → Cell
  cell = cell_of (place_contents (page_value m.world notes) m.world.maps)

  mapped-at : (q : ℕ) → is_some (finite.get C q) ≡ is_some (most_at parts q)
  mapped-at q = ap is_some (cell-is m p parts born notes q here) ∙ spot-most cell (λ x. refl) (piece_at parts q)

  lets-at : (prot : Prot) (q : ℕ) → option_map_or (λ (c : Cell). is_within prot c.max) (finite.get C q) true ≡ lets prot (most_at parts q)
  lets-at prot q = ap (λ (o : Option Cell). option_map_or (λ (c : Cell). is_within prot c.max) o true) (cell-is m p parts born notes q here) ∙ spot-lets (place_contents (page_value m.world notes) m.world.maps) prot (piece_at parts q)

  pub mapped-true : (first n : ℕ) → AreMapped parts first (first + n) → are_mapped C first n ≡ true
  mapped-true first n each = pages-true _ (λ q. is_some (most_at parts q)) first n mapped-at each

  pub mapped-false : (first n : ℕ) → (AreMapped parts first (first + n) → ⊥) → are_mapped C first n ≡ false
  mapped-false first n not = pages-false _ (λ q. is_some (most_at parts q)) first n mapped-at not

  pub lets-true : (first n : ℕ) (prot : Prot) → MayHave parts first (first + n) prot → may_have C first n prot ≡ true
  lets-true first n prot each = pages-true _ (λ q. lets prot (most_at parts q)) first n (lets-at prot) each

  pub lets-false : (first n : ℕ) (prot : Prot) → (MayHave parts first (first + n) prot → ⊥) → may_have C first n prot ≡ false
  lets-false first n prot not = pages-false _ (λ q. lets prot (most_at parts q)) first n (lets-at prot) not

  -- an empty range changes nothing
  pub none-protected : (first : ℕ) (prot : Prot) → flat_memory m born notes ≡ with_range_prot (flat_memory m born notes) p first (first - first) prot
  none-protected first prot =
      let F : Flat = flat_memory m born notes in
      let same : with_prots C first (first - first) prot ≡ C = same_space _ _ (λ q. get-with_prots C first (first - first) prot q ∙ none-in first prot q (finite.get C q)) in
      let back : with_space F p C ≡ F = ap (λ (t : finite.FinMap nat_cmp Space). record F { spaces = t }) (put_back F p (ap is_some (space-is m p parts born notes here))) in
      sym (ap (with_space F p) same ∙ back)
    where
      none-in : (first : ℕ) (prot : Prot) (q : ℕ) (o : Option Cell) → option_map (with_prot first (first - first) prot q) o ≡ o
      none-in first prot q None = refl
      none-in first prot q (Some c) = ap (λ (b : Bool). Some (cond b (record c { prot = prot }) c)) (let f : is_in_range first (first - first) q ≡ false = grind (arith, nat_tests) in f)

-- one range after another, behind it, is both
pub both-protected : (F : Flat) (p first k page n l : ℕ) (prot : Prot) → page ≡ first + k → l ≡ k + n → with_range_prot (with_range_prot F p first k prot) p page n prot ≡ with_range_prot F p first l prot
both-protected F p first k page n l prot at sum =
    let C : Space = cells_of F p in
    let S : Space = with_prots C first k prot in
    let here : cells_of (with_space F p S) p ≡ S = ap (λ (o : Option Space). unwrap_or o finite.empty) (get-insert_here F.spaces p S) in
    let same : with_prots S page n prot ≡ with_prots C first l prot = same_space _ _ (λ q. get-with_prots S page n prot q ∙ ap (option_map (with_prot page n prot q)) (get-with_prots C first k prot q) ∙ both q (finite.get C q) ∙ sym (get-with_prots C first l prot q)) in
    ap (λ (T : Space). with_space (with_space F p S) p (with_prots T page n prot)) here ∙ ap (with_space (with_space F p S) p) same
    ∙ ap (λ (t : finite.FinMap nat_cmp Space). record F { spaces = t }) (insert-twice F.spaces p S (with_prots C first l prot))
  where
    both : (q : ℕ) (o : Option Cell) → option_map (with_prot page n prot q) (option_map (with_prot first k prot q) o) ≡ option_map (with_prot first l prot q) o
    both q None = refl
    both q (Some c) = by_range (is_in_range first k q) (is_in_range page n q) (is_in_range first l q) (grind (arith, nat_tests))
      where
        by_range : (a b d : Bool) → d ≡ cond a true b → Some (cond b (record (cond a (record c { prot = prot }) c) { prot = prot }) (cond a (record c { prot = prot }) c)) ≡ Some (cond d (record c { prot = prot }) c)
        by_range true true d e = ap (λ (b : Bool). Some (cond b (record c { prot = prot }) c)) (sym e)
        by_range true false d e = ap (λ (b : Bool). Some (cond b (record c { prot = prot }) c)) (sym e)
        by_range false true d e = ap (λ (b : Bool). Some (cond b (record c { prot = prot }) c)) (sym e)
        by_range false false d e = ap (λ (b : Bool). Some (cond b (record c { prot = prot }) c)) (sym e)

-- WHERE A PART LIES, and the most that may be done there
abbrev pub bounds : Part Segment → ℕ × (ℕ × Prot)
bounds x = (x.first, (x.pages, x.piece.max))

-- a part that was found with another piece
found-written : (low : ℕ) (ps : List (Part Segment)) (page : ℕ) (w : Segment) (x : Part Segment) → IsInOrder low ps → part_at ps page ≡ Some x → (q : ℕ) → part_at (with_new_piece page w ps) q ≡ cond (has x q) (Some (part x.first x.pages w)) (part_at ps q)
found-written low [] page w x o e q = grind arith
found-written low (r ∷ rs) page w x o e q =
    let end = r.first + r.pages in
    grind (arith, nat_tests, found-written end rs page w x o.1, found-in end rs page x o.1)

pub bounds-written : (ps : List (Part Segment)) (page : ℕ) (w : Segment) (x : Part Segment) → IsInOrder 1 ps → part_at ps page ≡ Some x → w.max ≡ x.piece.max → (q : ℕ) → option_map bounds (part_at (with_new_piece page w ps) q) ≡ option_map bounds (part_at ps q)
bounds-written ps page w x o e same q =
    ap (option_map bounds) (found-written 1 ps page w x o e q) ∙ by_has (has x q) refl
  where
    by_has : (b : Bool) → has x q ≡ b → option_map bounds (cond b (Some (part x.first x.pages w)) (part_at ps q)) ≡ option_map bounds (part_at ps q)
    by_has true h = ap (λ (most : Prot). Some (x.first, (x.pages, most))) same ∙ ap (option_map bounds) (sym (found-has 1 ps page q x o e h))
    by_has false h = refl

-- the part that had the page lay there, too
pub record Lay (ps : List (Part Segment)) (page : ℕ) (x : Part Segment) : Type 0 where
  pub part : Part Segment
  pub found : part_at ps page ≡ Some part
  pub same : bounds part ≡ bounds x

pub lay : (ps now : List (Part Segment)) (page : ℕ) (x : Part Segment) → option_map bounds (part_at now page) ≡ option_map bounds (part_at ps page) → part_at now page ≡ Some x → Lay ps page x
lay ps now page x same found = by_part (part_at ps page) refl (sym same ∙ ap (option_map bounds) found)
  where
    by_part : (o : Option (Part Segment)) → part_at ps page ≡ o → option_map bounds o ≡ Some (bounds x) → Lay ps page x
    by_part None e is = absurd (let z : ◌≡◌ {A = Option (ℕ × (ℕ × Prot))} None (Some (bounds x)) = is in cc)
    by_part (Some y) e is = record { part = y; found = e; same = let z : Some (bounds y) ≡ Some (bounds x) = is in cc }

-- a page that is mapped has a part
pub has-part : (ps : List (Part Segment)) (page : ℕ) → IsSome (most_at ps page) → part_at ps page ≡ None → ⊥
has-part ps page some none = let z : false ≡ true = sym (ap (λ (o : Option (Part Segment)). is_some (option_map (λ (x : Spot). x.0.max) (option_map (λ (p : Part Segment). (p.piece, page - p.first)) o))) none) ∙ some in cc

-- no part lay at a page that has none
pub none-lay : (ps now : List (Part Segment)) (page : ℕ) → option_map bounds (part_at now page) ≡ option_map bounds (part_at ps page) → part_at now page ≡ None → part_at ps page ≡ None
none-lay ps now page same none = by_part (part_at ps page) refl (sym same ∙ ap (option_map bounds) none)
  where
    by_part : (o : Option (Part Segment)) → part_at ps page ≡ o → option_map bounds o ≡ None → part_at ps page ≡ None
    by_part None e is = e
    by_part (Some y) e is = absurd (let z : ◌≡◌ {A = Option (ℕ × (ℕ × Prot))} (Some (bounds y)) None = is in cc)

-- WHAT COMES NEXT: the part that has the page begins there, doesn't go across the end, and may have the protection
pub record Ahead (ps : List (Part Segment)) (page end : ℕ) (prot : Prot) (x : Part Segment) : Type 0 where
  pub first : x.first ≡ page
  pub some : page < x.first + x.pages
  pub ends : x.first + x.pages ≤ end
  pub starts : StartsAt ps (x.first + x.pages)
  pub within : is_within prot x.piece.max ≡ true

pub ahead : (ps now : List (Part Segment)) (page end : ℕ) (prot : Prot) (x : Part Segment) → IsInOrder 1 ps → option_map bounds (part_at now page) ≡ option_map bounds (part_at ps page) → part_at now page ≡ Some x → StartsAt ps page → page < end → StartsAt ps end
    → lets prot (most_at ps page) ≡ true → Ahead ps page end prot x
ahead ps now page end prot x order same found starts lt high may =
    let l = lay ps now page x same found in
    let y : Part Segment = l.part in
    let h = holds ps order page y l.found in
    let f : y.first ≡ x.first = ap (λ (b : ℕ × (ℕ × Prot)). b.0) l.same in
    let n : y.pages ≡ x.pages = ap (λ (b : ℕ × (ℕ × Prot)). b.1.0) l.same in
    let most : y.piece.max ≡ x.piece.max = ap (λ (b : ℕ × (ℕ × Prot)). b.1.1) l.same in
    let top : y.first + y.pages ≡ x.first + x.pages = omega (arith, f, n) in
    let below = h.below in
    let ends = ends-by ps order page y l.found end lt high in
    record {
      first = sym f ∙ first-page ps order page y l.found starts;
      some = omega (arith, below, top);
      ends = omega (arith, ends, top);
      starts = subst (StartsAt ps) top (starts-behind ps order page y l.found);
      within = ap (is_within prot) (sym most) ∙ sym (ap (lets prot) (h.most page h.from h.below)) ∙ may;
    }

-- it is the part of the process that begins there
abbrev pub part-here : (w : World) (zeros : List (Option ℕ)) (spaces : Spaces) (p : ℕ) (now : List (Part Segment)) (page : ℕ) (x : Part Segment) (s : Segment) → SpaceFits w zeros spaces p now → part_at now page ≡ Some x → x.first ≡ page → x.piece ≡ s → IsPartAt w spaces p page s
part-here w zeros spaces p now page x s fits found first same = record {
  parts = now;
  part = x;
  memory = fits.memory;
  here = fits.here;
  starts = subst (λ (k : ℕ). begins now k ≡ Some x) first (found-begins 1 now page x (fits.memory.segments.ordered p now fits.here) found);
  piece = same;
}

-- ONE PART AFTER ANOTHER
pub range-none : (w : World) (zeros : List (Option ℕ)) (spaces : Spaces) (p : ℕ) (parts : List (Part Segment)) (first : ℕ) (prot : Prot) → SpaceFits w zeros spaces p parts
    → ChangesSpace p (record { world = w; spaces = spaces }) (record { world = w; spaces = finite.insert spaces p parts }) zeros (λ F. with_range_prot F p first (first - first) prot)
range-none w zeros spaces p parts first prot fits =
    let m : Memory = record { world = w; spaces = spaces } in
    let n : Memory = record { world = w; spaces = finite.insert spaces p parts } in
    let same = same-space w zeros spaces p parts fits in
    record { changes = segment_rule.same p m n (λ F. F) (λ F. with_range_prot F p first (first - first) prot) (λ born notes. none-protected m p parts fits.here born notes first prot) same.changes; known = same.known }

pub range-next : (p : ℕ) (m : Memory) (u v : World) (zeros then last : List (Option ℕ)) (spaces : Spaces) (now next : List (Part Segment)) (first page n : ℕ) (prot : Prot) → first ≤ page → last ≡ then
    → ChangesSpace p m (record { world = u; spaces = finite.insert spaces p now }) zeros (λ F. with_range_prot F p first (page - first) prot)
    → ChangesSpace p (record { world = u; spaces = finite.insert spaces p now }) (record { world = v; spaces = finite.insert (finite.insert spaces p now) p next }) then (λ F. with_range_prot F p page n prot)
    → ChangesSpace p m (record { world = v; spaces = finite.insert spaces p next }) last (λ F. with_range_prot F p first (page + n - first) prot)
range-next p m u v zeros then last spaces now next first page n prot low alike one two =
    let k : ℕ = page - first in
    let l : ℕ = page + n - first in
    let at : page ≡ first + k = omega (arith, low) in
    let sum : l ≡ k + n = omega (arith, low) in
    let mid : Memory = record { world = u; spaces = finite.insert spaces p now } in
    let after : Memory = record { world = v; spaces = finite.insert (finite.insert spaces p now) p next } in
    subst (λ (s : Spaces). ChangesSpace p m (record { world = v; spaces = s }) last (λ F. with_range_prot F p first l prot)) (insert-twice spaces p now next) (record {
      changes = segment_rule.same p m after (λ F. with_range_prot (with_range_prot F p first k prot) p page n prot) (λ F. with_range_prot F p first l prot) (λ born notes. both-protected (flat_memory m born notes) p first k page n l prot at sum)
          (segment_rule.joined p m mid after (λ F. with_range_prot F p first k prot) (λ F. with_range_prot F p page n prot) (prots-respects p page n prot) one.changes two.changes);
      known = subst (λ (zs : List (Option ℕ)). KnowsZeros zs (finite.insert (finite.insert spaces p now) p next)) (sym alike) two.known;
    })
