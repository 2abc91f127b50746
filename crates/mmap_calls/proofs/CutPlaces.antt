-- A part that goes across the begin of a page is cut there.
use Rattle.std.proofs.Common.{◌≡◌, ℕ, ◌+◌, ◌-◌, ◌<◌, ◌≤◌, ◌^◌, Bool, true, false, cond, List, length, Option, Some, None, refl, sym, ap, ◌∙◌, inl, inr, subst, arith}
use Rattle.std.specs.Prelude.{option_map, slice_index_or, IsSome, IsSomeAnd}
use Rattle.std.specs.Option.{option_map_or}
use Rattle.std.specs.FinMap as finite
use Rattle.std.proofs.lemmas.Bool.{cases_Bool, cases_lt}
use Rattle.seg_vn.specs.addr_space.Space.{Part, has, piece_at, part_at, cut_at, with_new_piece, upper_part, IsInOrder}
use Rattle.seg_vn.proofs.addr_space.PageLaws.{shows}
use Rattle.seg_vn.proofs.addr_space.PartLemmas.{has-in, has-within, found-in}
use Rattle.seg_vn.proofs.addr_space.PartLists.{all-found, at-found, found-with_new_piece, at-cut_both}
use Rattle.seg_vn.specs.anon_map.Maps.{Map, IsMapThere, IsUnused, holders_of}
use Rattle.seg_vn.proofs.flat_model.Ranges.{insert_same}
use Rattle.seg_vn.specs.vm_world.CountsFit.{SegmentFits}
use Rattle.seg_vn.specs.vm_world.Segments.{Spot, Spaces}
use Rattle.seg_vn.specs.vm_world.SegmentSteps.{parts_cut, upper_pages}
use Rattle.seg_vn.specs.vm_world.SpaceSteps.{first_pages}
use Rattle.seg_vn.specs.vm_world.World.{World}
use Rattle.seg_vn.specs.vm_world.ZeroObjects.{KnowsZeros}
use Rattle.seg_vn.specs.vm_world.declared.segment.Segment.{Segment}
use Rattle.seg_vn.proofs.vm_world.ComingParts.{own-is-unshown}
use Rattle.seg_vn.proofs.vm_world.KeptMaps.{own-there, shown-there}
use Rattle.seg_vn.proofs.vm_world.KnownZeros.{known-cut}
use Rattle.seg_vn.proofs.vm_world.SegmentSteps.{segment_rule}
use Rattle.seg_vn.proofs.seg_ops.Composed.{keeps-same}
use Rattle.seg_vn.specs.Clears.{SpaceFits, ChangesSpace, StartsAt}
use Rattle.seg_vn.specs.Cuts.{IsCutPart}
use Rattle.mmap_calls.specs.Looks.{kind_and_object}
use Rattle.mmap_calls.specs.Protections.{most_at}
use Rattle.mmap_calls.specs.Rooms.{HasRoomAt}

-- a page lies within the part that has it
pub record Within (page : ℕ) (x : Part Segment) : Type 0 where
  pub from : x.first ≤ page
  pub below : page < x.first + x.pages
  pub pages : x.pages ≡ x.piece.pages

pub within-part : (w : World) (zeros : List (Option ℕ)) (spaces : Spaces) (p : ℕ) (parts : List (Part Segment)) (page : ℕ) (x : Part Segment) → SpaceFits w zeros spaces p parts → part_at parts page ≡ Some x → Within page x
within-part w zeros spaces p parts page x fits found =
    let within = has-within x page (found-in 1 parts page x (fits.memory.segments.ordered p parts fits.here) found).here in
    record {
      from = within.from;
      below = within.below;
      pages = (all-found (SegmentFits (length w.files.files) w.maps) parts page x (fits.memory.segments.each p parts fits.here) found).pages;
    }

-- the map of the zero object that it shows is there
pub shown-here : (w : World) (zeros : List (Option ℕ)) (spaces : Spaces) (p : ℕ) (parts : List (Part Segment)) (page : ℕ) (x : Part Segment) (n : ℕ) → SpaceFits w zeros spaces p parts → part_at parts page ≡ Some x → x.piece.shown ≡ Some n → IsMapThere w.maps n
shown-here w zeros spaces p parts page x n fits found is =
    (shown-there (length w.files.files) w.maps x.piece x.piece.object n (all-found (SegmentFits (length w.files.files) w.maps) parts page x (fits.memory.segments.each p parts fits.here) found).object is).0

-- and its own one is no zero object's
pub own-apart : (w : World) (zeros : List (Option ℕ)) (spaces : Spaces) (p : ℕ) (parts : List (Part Segment)) (page : ℕ) (x : Part Segment) (z n : ℕ) → SpaceFits w zeros spaces p parts → part_at parts page ≡ Some x → slice_index_or zeros z None ≡ Some n → x.piece.own ≡ Some n → ⊥
own-apart w zeros spaces p parts page x z n fits found is own =
    let fit = all-found (SegmentFits (length w.files.files) w.maps) parts page x (fits.memory.segments.each p parts fits.here) found in
    own-is-unshown (record { world = w; spaces = spaces }) fits.memory p parts fits.here page x found z n own (own-there w.maps x.piece x.piece.kind n fit.own own).1 (fits.known z ∙ is)

-- what is known of a part that goes across the begin of a page
pub record Across (page : ℕ) (x : Part Segment) : Type 0 where
  pub low : x.first < page
  pub high : page < x.first + x.pages
  pub pages : x.pages ≡ x.piece.pages

pub across : (w : World) (zeros : List (Option ℕ)) (spaces : Spaces) (p : ℕ) (parts : List (Part Segment)) (page : ℕ) (x : Part Segment) → SpaceFits w zeros spaces p parts → part_at parts page ≡ Some x → (x.first ≡ page → ⊥) → Across page x
across w zeros spaces p parts page x fits found apart =
    let within = within-part w zeros spaces p parts page x fits found in
    let from = within.from in
    record { low = omega (arith, from, apart); high = within.below; pages = within.pages }

-- the piece that is lent is the part's
pub same-piece : (parts : List (Part Segment)) (page : ℕ) (x : Part Segment) (s : Segment) → part_at parts page ≡ Some x → option_map (λ (p : Part Segment). p.piece) (part_at parts page) ≡ Some s → x.piece ≡ s
same-piece parts page x s found lent = let z : Some x.piece ≡ Some s = sym (ap (option_map (λ (p : Part Segment). p.piece)) found) ∙ lent in cc

abbrev pub cut-part : (w : World) (zeros : List (Option ℕ)) (spaces : Spaces) (p : ℕ) (parts : List (Part Segment)) (page : ℕ) (x : Part Segment) (s : Segment) → SpaceFits w zeros spaces p parts → part_at parts page ≡ Some x → x.first < page → x.piece ≡ s
    → IsCutPart w spaces p page (page - x.first) s
cut-part w zeros spaces p parts page x s fits found low same = record { parts = parts; part = x; memory = fits.memory; here = fits.here; found = found; lies = low; place = refl; piece = same }

module _ (items : List (Option ℕ)) (room more : ℕ) (maps : List (Option Map)) (parts : List (Part Segment)) (page : ℕ) (x : Part Segment) (s : Segment) (has : HasRoomAt items room more maps parts page) (found : part_at parts page ≡ Some x) (same : x.piece ≡ s) where
  pub room-here : IsSome s.own → s.pages - (page - x.first) ≤ room
  room-here = subst (λ (t : Segment). IsSome t.own → t.pages - (page - x.first) ≤ room) same (has.roomy (x.piece, page - x.first) (shows parts page (Some x) found))

  pub few-here : (n : ℕ) → s.shown ≡ Some n → holders_of maps n + more < 2 ^ 32
  few-here n is = has.few (x.piece, page - x.first) n (shows parts page (Some x) found) (ap (λ (t : Segment). t.shown) same ∙ is)

pub cut-is : (new parts : List (Part Segment)) (page number : ℕ) (x : Part Segment) (lower upper s : Segment) → new ≡ cut_at page upper (with_new_piece page lower parts) → lower ≡ first_pages (page - x.first) s → upper ≡ upper_pages (page - x.first) number s → x.piece ≡ s
    → new ≡ parts_cut page number x parts
cut-is new parts page number x lower upper s is low up same =
    is ∙ ap (λ (u : Segment). cut_at page u (with_new_piece page lower parts)) (up ∙ ap (upper_pages (page - x.first) number) (sym same))
    ∙ ap (λ (w : Segment). cut_at page (upper_pages (page - x.first) number x.piece) (with_new_piece page w parts)) (low ∙ ap (first_pages (page - x.first)) (sym same))

pub across-with : (parts : List (Part Segment)) (page : ℕ) (x : Part Segment) (w : Segment) → part_at parts page ≡ Some x → x.first < page → IsSomeAnd (part_at (with_new_piece page w parts) page) (λ p. p.first < page)
across-with parts page x w found low = subst (λ (o : Option (Part Segment)). IsSomeAnd o (λ p. p.first < page)) (sym (found-with_new_piece parts page w x found)) low

module _ (page number : ℕ) (parts : List (Part Segment)) (x : Part Segment) (order : IsInOrder 1 parts) (found : part_at parts page ≡ Some x) (a : Across page x) where
  abbrev lower : Segment
  lower = first_pages (page - x.first) x.piece

  abbrev upper : Segment
  upper = upper_pages (page - x.first) number x.piece

  -- what a page has then: the upper piece, the lower one, or what it had
  shows-cut : (P : Option Spot → Type 0) (q : ℕ) → (page ≤ q → has x q ≡ true → P (Some (upper, q - page))) → (q < page → has x q ≡ true → P (Some (lower, q - x.first))) → (has x q ≡ false → P (piece_at parts q)) → P (piece_at (parts_cut page number x parts) q)
  shows-cut P q high low else = subst P (sym (at-cut_both page lower upper parts x order found a.low q)) (elim (cases_Bool (has (upper_part page upper x) q)) [
    | inl t ↦
        let v = has-within (upper_part page upper x) q t in
        let from = v.from in
        let below = v.below in
        let first = a.low in
        let last = a.high in
        subst (λ (b : Bool). P (cond b (Some (upper, q - page)) (cond (has x q) (Some (lower, q - x.first)) (piece_at parts q)))) (sym t) (high from (has-in x q (omega (arith, from, first)) (omega (arith, below, last))))
    | inr f ↦ subst (λ (b : Bool). P (cond b (Some (upper, q - page)) (cond (has x q) (Some (lower, q - x.first)) (piece_at parts q)))) (sym f) (elim (cases_Bool (has x q)) [
      | inl here ↦ subst (λ (b : Bool). P (cond b (Some (lower, q - x.first)) (piece_at parts q))) (sym here) (low (before q f here) here)
      | inr gone ↦ subst (λ (b : Bool). P (cond b (Some (lower, q - x.first)) (piece_at parts q))) (sym gone) (else gone)
    ])
  ])
    where
      before : (q : ℕ) → has (upper_part page upper x) q ≡ false → has x q ≡ true → q < page
      before q f here = elim (cases_lt q page) [
        | inl lt ↦ lt
        | inr le ↦ absurd (let v = has-within x q here in let below = v.below in let high = a.high in let z : true ≡ false = sym (has-in (upper_part page upper x) q le (omega (arith, below, high))) ∙ f in cc)
      ]

  had : (q : ℕ) → has x q ≡ true → piece_at parts q ≡ Some (x.piece, q - x.first)
  had q here = at-found 1 parts page q x order found here

  pub starts-cut : StartsAt (parts_cut page number x parts) page
  starts-cut = shows-cut (λ o. (y : Spot) → o ≡ Some y → y.1 ≡ 0) page
      (λ le here y is. let e : page - page ≡ y.1 = ap (λ (o : Option Spot). option_map_or (λ (s : Spot). s.1) o 0) is in omega (arith, e))
      (λ lt. absurd (omega (arith, lt)))
      (λ gone. absurd (let low = a.low in let z : true ≡ false = sym (has-in x page (omega (arith, low)) a.high) ∙ gone in cc))

  pub starts-kept : (q : ℕ) → StartsAt parts q → StartsAt (parts_cut page number x parts) q
  starts-kept q start = shows-cut (λ o. (y : Spot) → o ≡ Some y → y.1 ≡ 0) q
      (λ le here. absurd (let zero = start (x.piece, q - x.first) (had q here) in let low = a.low in omega (arith, zero, le, low)))
      (λ lt here y is. let zero = start (x.piece, q - x.first) (had q here) in let e : q - x.first ≡ y.1 = ap (λ (o : Option Spot). option_map_or (λ (s : Spot). s.1) o 0) is in omega (arith, e, zero))
      (λ gone. start)

  pub look-kept : (q : ℕ) → option_map kind_and_object (piece_at (parts_cut page number x parts) q) ≡ option_map kind_and_object (piece_at parts q)
  look-kept q = shows-cut (λ o. option_map kind_and_object o ≡ option_map kind_and_object (piece_at parts q)) q (λ le here. ap (option_map kind_and_object) (sym (had q here))) (λ lt here. ap (option_map kind_and_object) (sym (had q here))) (λ gone. refl)

  pub most-kept : (q : ℕ) → most_at (parts_cut page number x parts) q ≡ most_at parts q
  most-kept q = shows-cut (λ o. option_map (λ (y : Spot). y.0.max) o ≡ most_at parts q) q (λ le here. ap (option_map (λ (y : Spot). y.0.max)) (sym (had q here))) (λ lt here. ap (option_map (λ (y : Spot). y.0.max)) (sym (had q here))) (λ gone. refl)

  -- room at a page that isn't behind the cut is room there then
  pub room-kept : (items : List (Option ℕ)) (room more : ℕ) (maps now : List (Option Map)) (q : ℕ) → q ≤ page → ((n : ℕ) → holders_of now n ≤ holders_of maps n + 1) → HasRoomAt items room (more + 1) maps parts q → HasRoomAt items room more now (parts_cut page number x parts) q
  room-kept items room more maps now q le held r = record {
    empty = r.empty;
    roomy = shows-cut (λ o. (y : Spot) → o ≡ Some y → IsSome y.0.own → y.0.pages - y.1 ≤ room) q
        (λ ge here. roomy-of (upper, q - page) (λ own. let was = r.roomy (x.piece, q - x.first) (had q here) (own-was x.piece.own own) in omega (arith, was, le, ge)))
        (λ lt here. roomy-of (lower, q - x.first) (λ own. let was = r.roomy (x.piece, q - x.first) (had q here) own in let pages = a.pages in let high = a.high in omega (arith, was, pages, high, lt)))
        (λ gone. r.roomy);
    few = λ y n is shown. (let f = fewer y n is shown in let h = held n in omega (arith, f, h));
  }
    where
      own-was : (o : Option ℕ) → IsSome (option_map (λ (own : ℕ). number) o) → IsSome o
      own-was None own = own
      own-was (Some own) is = is

      roomy-of : (s : Spot) → (IsSome s.0.own → s.0.pages - s.1 ≤ room) → (y : Spot) → Some s ≡ Some y → IsSome y.0.own → y.0.pages - y.1 ≤ room
      roomy-of s few y is = let e : s ≡ y = let z = is in cc in subst (λ (y : Spot). IsSome y.0.own → y.0.pages - y.1 ≤ room) e few

      few-of : (s : Spot) → ((n : ℕ) → s.0.shown ≡ Some n → holders_of maps n + (more + 1) < 2 ^ 32) → (y : Spot) (n : ℕ) → Some s ≡ Some y → y.0.shown ≡ Some n → holders_of maps n + (more + 1) < 2 ^ 32
      few-of s few y n is shown = let e : s ≡ y = let z = is in cc in few n (ap (λ (t : Spot). t.0.shown) e ∙ shown)

      fewer : (y : Spot) (n : ℕ) → piece_at (parts_cut page number x parts) q ≡ Some y → y.0.shown ≡ Some n → holders_of maps n + (more + 1) < 2 ^ 32
      fewer = shows-cut (λ o. (y : Spot) (n : ℕ) → o ≡ Some y → y.0.shown ≡ Some n → holders_of maps n + (more + 1) < 2 ^ 32) q
          (λ ge here. few-of (upper, q - page) (λ n shown. r.few (x.piece, q - x.first) n (had q here) shown))
          (λ lt here. few-of (lower, q - x.first) (λ n shown. r.few (x.piece, q - x.first) n (had q here) shown))
          (λ gone. r.few)

-- the list of zero objects is right then
pub cut-known : (w : World) (zeros : List (Option ℕ)) (spaces : Spaces) (p : ℕ) (parts : List (Part Segment)) (page number : ℕ) (x : Part Segment) (upper s : Segment) → SpaceFits w zeros spaces p parts → part_at parts page ≡ Some x → x.first < page → x.piece ≡ s
    → upper ≡ upper_pages (page - x.first) number s → ((n : ℕ) → upper.own ≡ Some n → IsUnused w.maps n) → KnowsZeros zeros (finite.insert spaces p (parts_cut page number x parts))
cut-known w zeros spaces p parts page number x upper s fits found low same is unused =
    known-cut (record { world = w; spaces = spaces }) p page number parts x zeros fits.memory fits.here found low (by_own x.piece.own (ap (λ (t : Segment). t.own) is ∙ sym (ap (λ (t : Segment). option_map (λ (own : ℕ). number) t.own) same))) fits.known
  where
    by_own : (o : Option ℕ) → upper.own ≡ option_map (λ (own : ℕ). number) o → IsSome o → IsUnused w.maps number
    by_own None own some = absurd (let z : false ≡ true = some in cc)
    by_own (Some k) own some = unused number own

-- A process whose parts stay is as it was.
pub same-space : (w : World) (zeros : List (Option ℕ)) (spaces : Spaces) (p : ℕ) (parts : List (Part Segment)) → SpaceFits w zeros spaces p parts
    → ChangesSpace p (record { world = w; spaces = spaces }) (record { world = w; spaces = finite.insert spaces p parts }) zeros (λ F. F)
same-space w zeros spaces p parts fits =
    subst (λ (s : Spaces). ChangesSpace p (record { world = w; spaces = spaces }) (record { world = w; spaces = s }) zeros (λ F. F)) (sym (insert_same spaces p parts fits.here))
    (record { changes = segment_rule.keeps p w w spaces fits.memory (keeps-same w spaces fits.memory); known = fits.known })
