-- The spaces of a list: what is found, and what a place that changes does to them.
use Rattle.std.proofs.Common.{◌≡◌, ◌≢◌, ℕ, zero, suc, ◌+◌, ◌-◌, ◌<◌, ◌≤◌, List, [], ◌∷◌, ◌++◌, length, Option, Some, None, refl, sym, ap, ◌∙◌, inl, inr, subst, arith, slice_set, Bor, MutBor}
use Rattle.std.specs.Prelude.{option_map, slice_index_or}
use Rattle.std.specs.Borrow.{GName}
use borrow.Follows.Closed.{read_of}
use mathlib.Core.Option as maybe
use mathlib.Core.Path.{fun_ext}
use Rattle.std.specs.Option.{option_copied, option_copied_mut}
use Rattle.std.specs.Ordering.{nat_cmp}
use Rattle.std.specs.Cmp.{nat_cmp_total}
use Rattle.std.specs.FinMap as finite
use Rattle.std.proofs.lemmas.Bool.{cases_eq}
use Rattle.seg_ops.specs.addr_space.Space.{Part, RangesSeen}
use Rattle.seg_ops.proofs.flat_model.Ranges.{get-insert_here, get-insert_apart, get-remove_here, get-remove_apart}
use Rattle.seg_ops.specs.vm_world.declared.segment.Segment.{Segment}
use Rattle.seg_ops.specs.vm_world.Segments.{Spaces}
use Rattle.seg_vn.specs.Spaces.{SpacesSeen, spaces_from}

abbrev pub Listed : Type 0
Listed = List (Option (RangesSeen Segment))

abbrev pub parts_in : Option (RangesSeen Segment) → Option (List (Part Segment))
parts_in o = option_map (λ (r : RangesSeen Segment). r.parts) o

none-below : (k : ℕ) (os : Listed) (q : ℕ) → q < k → finite.get (spaces_from k os) q ≡ None
none-below k [] q lt = finite.get-empty nat_cmp q
none-below k (None ∷ os) q lt = none-below (suc k) os q (omega (arith, lt))
none-below k (Some r ∷ os) q lt = get-insert_apart (spaces_from (suc k) os) k r.parts q (λ e. omega (arith, lt, e)) ∙ none-below (suc k) os q (omega (arith, lt))

-- WHAT IS FOUND at a place.
found-from : (k : ℕ) (os : Listed) (i q : ℕ) → q ≡ k + i → finite.get (spaces_from k os) q ≡ parts_in (slice_index_or os i None)
found-from k [] zero q is = finite.get-empty nat_cmp q
found-from k [] (suc i) q is = finite.get-empty nat_cmp q
found-from k (None ∷ os) zero q is = none-below (suc k) os q (omega (arith, is))
found-from k (None ∷ os) (suc i) q is = found-from (suc k) os i q (omega (arith, is))
found-from k (Some r ∷ os) zero q is =
    let here : q ≡ k = omega (arith, is) in
    subst (λ (j : ℕ). finite.get (finite.insert (spaces_from (suc k) os) k r.parts) j ≡ Some r.parts) (sym here) (get-insert_here (spaces_from (suc k) os) k r.parts)
found-from k (Some r ∷ os) (suc i) q is = get-insert_apart (spaces_from (suc k) os) k r.parts q (λ e. omega (arith, is, e)) ∙ found-from (suc k) os i q (omega (arith, is))

pub found : (os : Listed) (q : ℕ) → finite.get (spaces_from 0 os) q ≡ parts_in (slice_index_or os q None)
found os q = found-from 0 os q q (omega arith)

-- places past the end are empty
pub past-end : (os : Listed) (q : ℕ) → length os ≤ q → slice_index_or os q None ≡ None
past-end [] zero past = refl
past-end [] (suc q) past = refl
past-end (o ∷ os) zero past = absurd (omega (arith, past))
past-end (o ∷ os) (suc q) past = past-end os q (omega (arith, past))

set-here : (os : Listed) (i : ℕ) (o : Option (RangesSeen Segment)) → i < length os → slice_index_or (slice_set os i o) i None ≡ o
set-here [] i o lt = absurd (omega (arith, lt))
set-here (x ∷ os) zero o lt = refl
set-here (x ∷ os) (suc i) o lt = set-here os i o (omega (arith, lt))

set-apart : (os : Listed) (i : ℕ) (o : Option (RangesSeen Segment)) (q : ℕ) → q ≢ i → slice_index_or (slice_set os i o) q None ≡ slice_index_or os q None
set-apart [] i o q ne = refl
set-apart (x ∷ os) zero o zero ne = absurd (ne refl)
set-apart (x ∷ os) zero o (suc q) ne = refl
set-apart (x ∷ os) (suc i) o zero ne = refl
set-apart (x ∷ os) (suc i) o (suc q) ne = set-apart os i o q (λ e. ne (ap suc e))

same : (m n : Spaces) → ((q : ℕ) → finite.get m q ≡ finite.get n q) → m ≡ n
same m n is = finite.same_map nat_cmp_total finite.nat_cmp-IsAntisymmetric m n is

-- A SPACE IS PUT, and taken out.
pub put-space : (os : Listed) (i : ℕ) (r : RangesSeen Segment) → i < length os → spaces_from 0 (slice_set os i (Some r)) ≡ finite.insert (spaces_from 0 os) i r.parts
put-space os i r lt = same _ _ (λ q. elim (cases_eq q i) [
  | inl e ↦ found (slice_set os i (Some r)) q ∙ ap (λ (j : ℕ). parts_in (slice_index_or (slice_set os i (Some r)) j None)) e ∙ ap parts_in (set-here os i (Some r) lt)
      ∙ sym (get-insert_here (spaces_from 0 os) i r.parts) ∙ ap (finite.get (finite.insert (spaces_from 0 os) i r.parts)) (sym e)
  | inr ne ↦ found (slice_set os i (Some r)) q ∙ ap parts_in (set-apart os i (Some r) q ne) ∙ sym (found os q) ∙ sym (get-insert_apart (spaces_from 0 os) i r.parts q ne)
])

pub take-space : (os : Listed) (i : ℕ) → i < length os → spaces_from 0 (slice_set os i None) ≡ finite.remove (spaces_from 0 os) i
take-space os i lt = same _ _ (λ q. elim (cases_eq q i) [
  | inl e ↦ found (slice_set os i None) q ∙ ap (λ (j : ℕ). parts_in (slice_index_or (slice_set os i None) j None)) e ∙ ap parts_in (set-here os i None lt)
      ∙ sym (get-remove_here (spaces_from 0 os) i) ∙ ap (finite.get (finite.remove (spaces_from 0 os) i)) (sym e)
  | inr ne ↦ found (slice_set os i None) q ∙ ap parts_in (set-apart os i None q ne) ∙ sym (found os q) ∙ sym (get-remove_apart (spaces_from 0 os) i q ne)
])

pub take-none : (os : Listed) (i : ℕ) → length os ≤ i → spaces_from 0 os ≡ finite.remove (spaces_from 0 os) i
take-none os i past = same _ _ (λ q. elim (cases_eq q i) [
  | inl e ↦ found os q ∙ ap parts_in (past-end os q (omega (arith, past, e))) ∙ sym (get-remove_here (spaces_from 0 os) i) ∙ ap (finite.get (finite.remove (spaces_from 0 os) i)) (sym e)
  | inr ne ↦ sym (get-remove_apart (spaces_from 0 os) i q ne)
])

-- an empty place at the end adds nothing
pub none-more : (k : ℕ) (os : Listed) → spaces_from k (os ++ None ∷ []) ≡ spaces_from k os
none-more k [] = refl
none-more k (None ∷ os) = none-more (suc k) os
none-more k (Some r ∷ os) = ap (λ (m : Spaces). finite.insert m k r.parts) (none-more (suc k) os)

-- THE SAME of the spaces as contracts see them.
abbrev pub spaces_of : Listed → SpacesSeen
spaces_of os = record { spaces = spaces_from 0 os; processes = length os - 1 }

pub found-some : (v : SpacesSeen) (os : Listed) (q : ℕ) (o : Option (RangesSeen Segment)) → spaces_of os ≡ v → o ≡ slice_index_or os q None → finite.get v.spaces q ≡ parts_in o
found-some v os q o view is = ap (λ (s : SpacesSeen). finite.get s.spaces q) (sym view) ∙ found os q ∙ ap parts_in (sym is)

pub found-none : (v : SpacesSeen) (os : Listed) (q : ℕ) → spaces_of os ≡ v → length os ≤ q → finite.get v.spaces q ≡ None
found-none v os q view past = ap (λ (s : SpacesSeen). finite.get s.spaces q) (sym view) ∙ found os q ∙ ap parts_in (past-end os q past)

pub place-there : (v : SpacesSeen) (os : Listed) (q : ℕ) → spaces_of os ≡ v → 1 ≤ q → q ≤ v.processes → q < length os
place-there v os q view first last = let n : length os - 1 ≡ v.processes = ap (λ (s : SpacesSeen). s.processes) view in omega (arith, n, first, last)

-- references to spaces, and the spaces
pub copied-parts : (o : Option (Bor (RangesSeen Segment))) → option_map (λ space. space.now.parts) o ≡ parts_in (option_copied o)
copied-parts None = refl
copied-parts (Some space) = refl

pub copied-parts-mut : (o : Option (MutBor (RangesSeen Segment))) → option_map (λ space. space.now.parts) o ≡ parts_in (option_copied_mut o)
copied-parts-mut None = refl
copied-parts-mut (Some space) = refl

-- a place that gets what it has
set-same : (os : Listed) (i : ℕ) (o : Option (RangesSeen Segment)) → i < length os → o ≡ slice_index_or os i None → slice_set os i o ≡ os
set-same [] i o lt is = refl
set-same (x ∷ os) zero o lt is = ap (λ (y : Option (RangesSeen Segment)). y ∷ os) is
set-same (x ∷ os) (suc i) o lt is = ap (λ (ys : Listed). x ∷ ys) (set-same os i o (omega (arith, lt)) is)

set-length : (os : Listed) (i : ℕ) (o : Option (RangesSeen Segment)) → length (slice_set os i o) ≡ length os
set-length [] i o = refl
set-length (x ∷ os) zero o = refl
set-length (x ∷ os) (suc i) o = ap suc (set-length os i o)

-- WHAT IS WRITTEN through a reference to a space.
pub lent-space : (name : maybe.Option GName) (os : Listed) (i : ℕ) (o : Option (RangesSeen Segment)) (now : SpacesSeen) → spaces_of os ≡ now → i < length os → o ≡ slice_index_or os i None →
    read_of {D = SpacesSeen} {E = RangesSeen Segment} name (λ w. spaces_of (slice_set os i (Some w))) (spaces_of (slice_set os i o))
    ≡ read_of {D = SpacesSeen} {E = RangesSeen Segment} name (λ w. record { spaces = finite.insert now.spaces i w.parts; processes = now.processes }) now
lent-space name os i o now view lt is =
    let f : ◌≡◌ {A = RangesSeen Segment → SpacesSeen} (λ w. spaces_of (slice_set os i (Some w))) (λ w. record { spaces = finite.insert now.spaces i w.parts; processes = now.processes })
    = fun_ext (λ (w : RangesSeen Segment). (λ j. let z : SpacesSeen = record { spaces = put-space os i w lt j; processes = set-length os i (Some w) j - 1 } in z)
    ∙ ap (λ (s : SpacesSeen). let z : SpacesSeen = record { spaces = finite.insert s.spaces i w.parts; processes = s.processes } in z) view) in
    ap (λ (g : RangesSeen Segment → SpacesSeen). read_of {D = SpacesSeen} {E = RangesSeen Segment} name g (spaces_of (slice_set os i o))) f
    ∙ ap (λ (z : SpacesSeen). read_of {D = SpacesSeen} {E = RangesSeen Segment} name (λ w. record { spaces = finite.insert now.spaces i w.parts; processes = now.processes }) z) (ap spaces_of (set-same os i o lt is) ∙ view)

-- A SPACE IS TAKEN OUT of what contracts see.
pub taken-space : (v : SpacesSeen) (os : Listed) (i : ℕ) → spaces_of os ≡ v → i < length os → spaces_from 0 (slice_set os i None) ≡ finite.remove v.spaces i
taken-space v os i view lt = take-space os i lt ∙ ap (λ (s : SpacesSeen). finite.remove s.spaces i) view

pub none-taken : (v : SpacesSeen) (os : Listed) (i : ℕ) → spaces_of os ≡ v → length os ≤ i → spaces_from 0 os ≡ finite.remove v.spaces i
none-taken v os i view past = take-none os i past ∙ ap (λ (s : SpacesSeen). finite.remove s.spaces i) view
