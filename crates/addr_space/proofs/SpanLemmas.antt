-- The two vectors against the parts that they stand for.
use Rattle.std.proofs.Common.{◌≡◌, ℕ, ◌+◌, ◌-◌, ◌<◌, ◌≤◌, true, false, Option, Some, None, List, [], ◌∷◌, length, get_or, set, drop, refl, sym, inl, inr, arith, zero, suc}
use Rattle.std.specs.Prelude.{option_map, nat_lt, insert, remove, slice_get, ◌≢◌}
use Rattle.std.proofs.lemmas.Bool.Decides.{nat_tests}
use Rattle.std.proofs.lemmas.Option.{slice_get_cases, slice_get_read}
use Rattle.addr_space.specs.declared.ranges.Span.{Span}
use Rattle.addr_space.specs.Space.{Part, part, part_at, begins, next_first, with_new_part, cut_at, without_part, with_new_piece, IsInOrder, LiesFrom, IsGap, FindsGap, FindsNext, FindsLast, page_total}
use Rattle.addr_space.specs.Inside.{span_parts, covers, count_below, IsHolder, NoneHolds, SpansRise, gap_in_spans, IsSoundRanges, IsCountedRanges}
use Rattle.addr_space.proofs.PartLemmas.{none-below}

-- a count that a search finds is the count
pub count-is : (bound : ℕ) (ss : List Span) (i : ℕ) → i ≤ length ss
    → ((k : ℕ) (d : Span) → k < i → nat_lt (get_or ss k d).first bound ≡ true)
    → ((d : Span) → i < length ss → nat_lt (get_or ss i d).first bound ≡ false) → i ≡ count_below bound ss
count-is bound [] i le before after = omega arith
count-is bound (s ∷ ss) zero le before after = grind (arith, after s)
count-is bound (s ∷ ss) (suc i) le before after =
    let more =
    count-is bound ss i (omega arith) (λ k d lt. before (suc k) d (omega arith)) (λ d lt. after d (omega arith)) in
    grind (arith, before zero s, more)

first-above : (low : ℕ) (ss : List Span) (k : ℕ) (d : Span) → SpansRise low ss → k < length ss
    → low ≤ (get_or ss k d).first
first-above low [] k d r lt = absurd (omega arith)
first-above low (s ∷ ss) zero d r lt = r.0
first-above low (s ∷ ss) (suc k) d r lt = grind (arith, first-above (s.first + s.pages) ss k d r.3)

-- the spans begin in rising order, as the search asks
pub rises : (low bound : ℕ) (ss : List Span) → SpansRise low ss → (i j : ℕ) (d : Span) → i ≤ j → j < length ss
    → nat_lt (get_or ss j d).first bound ≡ true → nat_lt (get_or ss i d).first bound ≡ true
rises low bound [] r i j d le lt t = absurd (omega arith)
rises low bound (s ∷ ss) r zero zero d le lt t = t
rises low bound (s ∷ ss) r zero (suc j) d le lt t =
    grind (arith, nat_tests, first-above (s.first + s.pages) ss j d r.3)
rises low bound (s ∷ ss) r (suc i) zero d le lt t = absurd (omega arith)
rises low bound (s ∷ ss) r (suc i) (suc j) d le lt t =
    rises (s.first + s.pages) bound ss r.3 i j d (omega arith) (omega arith) t

-- no span begins below the bound
count-none : (low bound : ℕ) (ss : List Span) → SpansRise low ss → bound ≤ low → count_below bound ss ≡ 0
count-none low bound [] r le = refl
count-none low bound (s ∷ ss) r le = grind (arith, nat_tests)

-- no span begins at or below the page, so none has it
pub none-counted : (low : ℕ) (ss : List Span) (q : ℕ) → SpansRise low ss → count_below (q + 1) ss ≡ 0
    → NoneHolds q ss
none-counted low [] q r e = tt
none-counted low (s ∷ ss) q r e =
    let end = s.first + s.pages in
    grind (arith, nat_tests, none-counted end ss q r.3, count-none end (q + 1) ss r.3)

pub count-within : (bound : ℕ) (ss : List Span) → count_below bound ss ≤ length ss
count-within bound [] = omega arith
count-within bound (s ∷ ss) = grind (arith, count-within bound ss)

-- the last span that begins at or below the page: it has the page, or none has
pub record IsLastBelow (low : ℕ) (ss : List Span) (q i : ℕ) (x : Span) : Type 0 where
  pub within : i < length ss
  pub above : low ≤ x.first
  pub below : x.first ≤ q
  pub holds : q < x.first + x.pages → IsHolder q ss i
  pub misses : x.first + x.pages ≤ q → NoneHolds q ss

pub last-below : (low : ℕ) (ss : List Span) (q i : ℕ) (x : Span) → SpansRise low ss
    → count_below (q + 1) ss ≡ suc i
    → x ≡ get_or ss i x → IsLastBelow low ss q i x
last-below low [] q i x r e is = absurd (omega arith)
last-below low (s ∷ ss) q zero x r e is = grind (arith, nat_tests, none-counted (s.first + s.pages) ss q r.3)
last-below low (s ∷ ss) q (suc i) x r e is =
    grind (arith, nat_tests, last-below (s.first + s.pages) ss q i x r.3)

-- a span that has the page is the first that does
pub holds-near : (low : ℕ) (ss : List Span) (q i : ℕ) (x : Span) → SpansRise low ss → i < length ss
    → x ≡ get_or ss i x → covers x q ≡ true → IsHolder q ss i
holds-near low [] q i x r lt is has = absurd (omega arith)
holds-near low (s ∷ ss) q zero x r lt is has = grind (arith, nat_tests)
holds-near low (s ∷ ss) q (suc i) x r lt is has =
    grind (arith, nat_tests, holds-near (s.first + s.pages) ss q i x r.3, first-above (s.first + s.pages) ss i x r.3)

-- a gap that fits before the next span
pub gap-here : (low pages : ℕ) (ss : List Span) (i : ℕ) (d : Span) → i < length ss → SpansRise low (drop i ss)
    → (low ≤ (get_or ss i d).first)
    × (low + pages ≤ (get_or ss i d).first → gap_in_spans low pages (drop i ss) ≡ Some low)
gap-here low pages [] i d lt r = absurd (omega arith)
gap-here low pages (s ∷ ss) zero d lt r = grind (arith, nat_tests)
gap-here low pages (s ∷ ss) (suc i) d lt r = gap-here low pages ss i d (omega arith) r

module _ {T : Type 0} where
  spans-rise : (low : ℕ) (ss : List Span) (xs : List T) → length ss ≡ length xs
      → IsInOrder low (span_parts ss xs) → SpansRise low ss
  spans-rise low [] xs n o = tt
  spans-rise low (s ∷ ss) [] n o = absurd (omega arith)
  spans-rise low (s ∷ ss) (x ∷ xs) n o = grind (arith, spans-rise (s.first + s.pages) ss xs)

  pub none-part : (ss : List Span) (xs : List T) (q : ℕ) → NoneHolds q ss
      → part_at (span_parts ss xs) q ≡ None
  none-part [] xs q h = refl
  none-part (s ∷ ss) [] q h = refl
  none-part (s ∷ ss) (x ∷ xs) q h = grind (arith, none-part ss xs q)

  -- the part of the span that has a page, and what becomes of it
  pub record IsPartOf (ss : List Span) (xs : List T) (q i : ℕ) (s : Span) (x : T) : Type 0 where
    pub from : s.first ≤ q
    pub below : q < s.first + s.pages
    pub piece : (d : T) → get_or xs i d ≡ x
    pub found : part_at (span_parts ss xs) q ≡ Some (part s.first s.pages x)
    pub at : slice_get (span_parts ss xs) i ≡ Some (part s.first s.pages x)
    pub written : (w : T) → span_parts ss (set xs i w) ≡ with_new_piece q w (span_parts ss xs)
    pub cut : (u : T) →
        span_parts (insert (set ss i (record { first = s.first; pages = q - s.first })) (i + 1)
        (record { first = q; pages = s.pages - (q - s.first) })) (insert xs (i + 1) u)
        ≡ cut_at q u (span_parts ss xs)

  holder-part : (ss : List Span) (xs : List T) (q i : ℕ) (s : Span) (x : T) → length ss ≡ length xs
      → IsHolder q ss i
      → s ≡ get_or ss i s → x ≡ get_or xs i x → IsPartOf ss xs q i s x
  holder-part [] xs q i s x n h e f = absurd h
  holder-part (t ∷ ss) [] q i s x n h e f = absurd (omega arith)
  holder-part (t ∷ ss) (y ∷ xs) q zero s x n h e f = grind (arith, nat_tests)
  holder-part (t ∷ ss) (y ∷ xs) q (suc i) s x n h e f = grind (arith, nat_tests, holder-part ss xs q i s x)

  -- a new part goes in behind those that begin below it
  pub put-at : (ss : List Span) (xs : List T) (first pages : ℕ) (x : T) → length ss ≡ length xs →
      span_parts (insert ss (count_below first ss) (record { first = first; pages = pages }))
      (insert xs (count_below first ss) x)
      ≡ with_new_part (part first pages x) (span_parts ss xs)
  put-at [] [] first pages x n = refl
  put-at [] (y ∷ xs) first pages x n = absurd (omega arith)
  put-at (s ∷ ss) [] first pages x n = absurd (omega arith)
  put-at (s ∷ ss) (y ∷ xs) first pages x n = grind (arith, put-at ss xs first pages x)

  -- the part that begins with the page goes, or none begins there
  pub removes : (ss : List Span) (xs : List T) (page i : ℕ) (s : Span) (x : T) → length ss ≡ length xs
      → i ≡ count_below page ss
      → i < length ss → s ≡ get_or ss i s → x ≡ get_or xs i x → s.first ≡ page
      → (begins (span_parts ss xs) page ≡ Some (part s.first s.pages x))
      × (span_parts (remove ss i) (remove xs i) ≡ without_part page (span_parts ss xs))
  removes [] xs page i s x n e lt is it eq = absurd (omega arith)
  removes (t ∷ ss) [] page i s x n e lt is it eq = absurd (omega arith)
  removes (t ∷ ss) (y ∷ xs) page zero s x n e lt is it eq = grind (arith, nat_tests)
  removes (t ∷ ss) (y ∷ xs) page (suc i) s x n e lt is it eq =
      grind (arith, nat_tests, removes ss xs page i s x)

  -- no part begins below the bound of the order
  begins-below : (low : ℕ) (ps : List (Part T)) (page : ℕ) → IsInOrder low ps → page < low
      → begins ps page ≡ None
  begins-below low [] page o lt = refl
  begins-below low (p ∷ ps) page o lt = grind (arith, nat_tests, begins-below (p.first + p.pages) ps page o.1)

  absent-first : (low : ℕ) (ss : List Span) (xs : List T) (page : ℕ) (d : Span) → length ss ≡ length xs
      → IsInOrder low (span_parts ss xs)
      → (count_below page ss < length ss → (get_or ss (count_below page ss) d).first ≢ page)
      → begins (span_parts ss xs) page ≡ None
  absent-first low [] xs page d n o ne = refl
  absent-first low (t ∷ ss) [] page d n o ne = absurd (omega arith)
  absent-first low (t ∷ ss) (y ∷ xs) page d n o ne =
      let end = t.first + t.pages in
      let more = absent-first end ss xs page d (omega arith) o.1 in
      grind (arith, nat_tests, more, begins-below end (span_parts ss xs) page o.1)

  pub without-absent : (ps : List (Part T)) (page : ℕ) → begins ps page ≡ None → without_part page ps ≡ ps
  without-absent [] page e = refl
  without-absent (p ∷ ps) page e = grind (arith, without-absent ps page)

  next-is : (ss : List Span) (xs : List T) (page : ℕ) → length ss ≡ length xs
      → next_first (span_parts ss xs) page ≡ option_map (λ s. s.first) (slice_get ss (count_below page ss))
  next-is [] xs page n = refl
  next-is (s ∷ ss) [] page n = absurd (omega arith)
  next-is (s ∷ ss) (x ∷ xs) page n = grind (arith, nat_tests, next-is ss xs page)

  finds-next : (low : ℕ) (ps : List (Part T)) (page : ℕ) → IsInOrder low ps
      → FindsNext ps page (next_first ps page)
  finds-next low [] page o = λ first le. refl
  finds-next low (p ∷ ps) page o =
      let end = p.first + p.pages in
      grind (arith, nat_tests, finds-next end ps page o.1, λ (q : ℕ). begins-below end ps q o.1)

  pub last-none : (low : ℕ) (ss : List Span) (xs : List T) (page : ℕ) → length ss ≡ length xs
      → IsInOrder low (span_parts ss xs)
      → count_below page ss ≡ 0 → FindsLast (span_parts ss xs) page None
  last-none low [] xs page n o c = λ first lt. refl
  last-none low (s ∷ ss) [] page n o c = absurd (omega arith)
  last-none low (s ∷ ss) (x ∷ xs) page n o c = λ first lt.
      grind (arith, nat_tests, begins-below (s.first + s.pages) (span_parts ss xs) first o.1)

  pub last-some : (low : ℕ) (ss : List Span) (xs : List T) (page i : ℕ) (t : Span) → length ss ≡ length xs
      → IsInOrder low (span_parts ss xs) → count_below page ss ≡ suc i → t ≡ get_or ss i t
      → (low ≤ t.first) × FindsLast (span_parts ss xs) page (Some t.first)
  last-some low [] xs page i t n o c e = absurd (omega arith)
  last-some low (s ∷ ss) [] page i t n o c e = absurd (omega arith)
  last-some low (s ∷ ss) (x ∷ xs) page zero t n o c e =
      grind (arith, nat_tests, last-none (s.first + s.pages) ss xs page (omega arith) o.1)
  last-some low (s ∷ ss) (x ∷ xs) page (suc i) t n o c e =
      grind (arith, nat_tests, last-some (s.first + s.pages) ss xs page i t (omega arith) o.1)

  -- the room that a walk over the spans finds is the least gap
  abbrev FindsFrom : ℕ → List (Part T) → ℕ → Option ℕ → Type 0
  FindsFrom low ps pages None = (first : ℕ) → low ≤ first → ¬ IsGap ps pages first
  FindsFrom low ps pages (Some first) =
      (low ≤ first) × IsGap ps pages first × ((other : ℕ) → low ≤ other → IsGap ps pages other → first ≤ other)

  -- a gap that doesn't fit before a part lies behind it
  gap-behind : (p : Part T) (ps : List (Part T)) (low pages first : ℕ) → LiesFrom low p
      → p.first < low + pages → low ≤ first
      → IsGap (p ∷ ps) pages first → (p.first + p.pages ≤ first) × IsGap ps pages first
  gap-behind p ps low pages first placed small le g =
      grind (arith, nat_tests, g.free, g.free first, g.free p.first)

  found-behind : (p : Part T) (ps : List (Part T)) (low pages : ℕ) (r : Option ℕ) → LiesFrom low p
      → p.first < low + pages
      → FindsFrom (p.first + p.pages) ps pages r → FindsFrom low (p ∷ ps) pages r
  found-behind p ps low pages None placed small h = λ first le g.
      let b = gap-behind p ps low pages first placed small le g in h first b.0 b.1
  found-behind p ps low pages (Some first) placed small h =
      let g : IsGap (p ∷ ps) pages first = grind (arith, nat_tests, h.1) in
      let least = λ (other : ℕ) (le : low ≤ other) (k : IsGap (p ∷ ps) pages other).
      let b = gap-behind p ps low pages other placed small le k in h.2 other b.0 b.1 in (omega arith, g, least)

  finds-from : (low pages : ℕ) (ss : List Span) (xs : List T) → 1 ≤ low → length ss ≡ length xs
      → IsInOrder low (span_parts ss xs) → FindsFrom low (span_parts ss xs) pages (gap_in_spans low pages ss)
  finds-from low pages [] xs pos n o = grind (arith, nat_tests)
  finds-from low pages (s ∷ ss) [] pos n o = absurd (omega arith)
  finds-from low pages (s ∷ ss) (x ∷ xs) pos n o =
      let end = s.first + s.pages in
      let behind =
      found-behind (part s.first s.pages x) (span_parts ss xs) low pages (gap_in_spans end pages ss) o.0 in
      let more = finds-from end pages ss xs (omega arith) (omega arith) o.1 in
      grind (arith, nat_tests, behind, more, λ (q : ℕ). none-below end (span_parts ss xs) q o.1)

-- WHAT THE CALLS say of the parts
module _ {T : Type 0} {ss : List Span} {xs : List T} (h : IsSoundRanges ss xs) where
  abbrev pub parts-of : List (Part T)
  parts-of = span_parts ss xs

  pub rising : SpansRise 1 ss
  rising = spans-rise 1 ss xs h.lengths h.ordered

  pub held-part : (q i : ℕ) (s : Span) → IsHolder q ss i → i < length ss → s ≡ get_or ss i s → (x : T)
      × IsPartOf ss xs q i s x
  held-part q i s holds lt is = elim (slice_get_cases xs i).1 [
    | inl x ↦ (x.0, holder-part ss xs q i s x.0 h.lengths holds is (sym x.3))
    | inr past ↦ let n = h.lengths in absurd (omega arith)
  ]

  pub some-part : (q i : ℕ) → IsHolder q ss i → i < length ss → (s : Span) × (x : T) × IsPartOf ss xs q i s x
  some-part q i holds lt = elim (slice_get_cases ss i).1 [
    | inl s ↦ let p = held-part q i s.0 holds lt (sym s.3) in (s.0, p.0, p.1)
    | inr past ↦ absurd (omega arith)
  ]

  pub none-begins : (page : ℕ)
      → ((d : Span) → count_below page ss < length ss → (get_or ss (count_below page ss) d).first ≢ page)
      → begins (span_parts ss xs) page ≡ None
  none-begins page ne =
      let none : Span = record { first = 0; pages = 0 } in
      absent-first 1 ss xs page none h.lengths h.ordered (ne none)

  pub next-found : (page i : ℕ) (x : Span) → i ≡ count_below page ss → i < length ss → x ≡ get_or ss i x
      → (Some x.first ≡ next_first (span_parts ss xs) page) × FindsNext (span_parts ss xs) page (Some x.first)
  next-found page i x e lt is =
      let read = slice_get_read ss (length ss) i x in
      let n : next_first (span_parts ss xs) page ≡ Some x.first =
      grind (arith, read, next-is ss xs page h.lengths) in
      (sym n, rw n at (finds-next 1 (span_parts ss xs) page h.ordered))

  pub next-none : (page i : ℕ) → i ≡ count_below page ss → length ss ≤ i
      → (None ≡ next_first (span_parts ss xs) page) × FindsNext (span_parts ss xs) page None
  next-none page i e le =
      let past = slice_get_cases ss i in
      let n : next_first (span_parts ss xs) page ≡ None = grind (arith, past, next-is ss xs page h.lengths) in
      (sym n, rw n at (finds-next 1 (span_parts ss xs) page h.ordered))

  pub gap-found : (pages : ℕ) → FindsGap (span_parts ss xs) pages (gap_in_spans 1 pages ss)
  gap-found pages = go (gap_in_spans 1 pages ss) (finds-from 1 pages ss xs (omega arith) h.lengths h.ordered)
    where
      go : (r : Option ℕ) → FindsFrom 1 (span_parts ss xs) pages r → FindsGap (span_parts ss xs) pages r
      go None f = λ first g. f first g.low g
      go (Some first) f = (f.1, λ other g. f.2 other g.low g)

-- the vectors stand for parts in order
pub counted-from : {T : Type 0} {ss : List Span} {xs : List T} {total : ℕ} {ps : List (Part T)}
    → length ss ≡ length xs
    → span_parts ss xs ≡ ps → IsInOrder 1 ps → total ≡ page_total ps → IsCountedRanges ss xs total
counted-from n e o t = record { sound = record { lengths = n; ordered = rw e o }; counted = rw e t }
