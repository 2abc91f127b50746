-- Spaces without segments.
use Rattle.std.proofs.Common.{◌≡◌, ℕ, List, [], ◌∷◌, length, map, Option, Some, None, refl, sym, ap, ◌∙◌, arith}
use Rattle.std.specs.Prelude.{sum_by, filter_map}
use Rattle.std.specs.Ordering.{nat_cmp}
use Rattle.std.specs.Cmp.{nat_cmp_total}
use Rattle.std.specs.FinMap as finite
use Rattle.addr_space.specs.Space.{Part}
use Rattle.anon_map.specs.Maps.{Map, places_of}
use Rattle.vm_world.specs.Segments.{Segment, Spaces, segments_of, zero_map}
use Rattle.vm_world.specs.FlatMemory.{zero_maps}
use Rattle.vm_world.specs.CountsFit.{reserved_pages, slots_for_part}
use Rattle.vm_world.proofs.Lists.{sum-zero, no-lists}
use Rattle.vm_world.proofs.Maps.{all-values}

-- each process that is alive has an empty space
abbrev pub EmptySpaces : Spaces → Type 0
EmptySpaces spaces = (p : ℕ) (parts : List (Part Segment)) → finite.get spaces p ≡ Some parts → parts ≡ []

-- a map is empty where it has nothing at any key
pub map-empty : {X : Type 0} (m : finite.FinMap nat_cmp X) → ((q : ℕ) → finite.get m q ≡ None) → m ≡ finite.empty
map-empty m none = finite.same_map nat_cmp_total finite.nat_cmp-IsAntisymmetric m finite.empty (λ q. none q ∙ sym (finite.get-empty nat_cmp q))

pub entries-empty : {X : Type 0} → finite.entries (finite.empty {X = X} {R = nat_cmp}) ≡ []
entries-empty {X} = no_length (finite.entries finite.empty) (sym (finite.len-entries finite.empty) ∙ finite.len-empty nat_cmp X)
  where
    no_length : {A : Type 0} (es : List A) → length es ≡ 0 → es ≡ []
    no_length [] e = refl
    no_length (x ∷ es) e = absurd (omega (arith, e))

abbrev pieces : List (Part Segment) → List Segment
pieces parts = map (λ (p : Part Segment). p.piece) parts

abbrev shown_zeros : List (Part Segment) → List (ℕ × ℕ)
shown_zeros parts = filter_map (λ (p : Part Segment). zero_map p.piece) parts

abbrev slots_in : List (Part Segment) → ℕ
slots_in parts = sum_by slots_for_part parts

-- there is no segment
pub empty-segments : (spaces : Spaces) → EmptySpaces spaces → segments_of spaces ≡ []
empty-segments spaces empty = no-lists pieces (finite.values spaces) (all-values (λ parts. pieces parts ≡ []) spaces (λ p parts is. ap pieces (empty p parts is)))

pub empty-zeros : (spaces : Spaces) → EmptySpaces spaces → zero_maps spaces ≡ finite.empty
empty-zeros spaces empty = ap (λ (es : List (ℕ × ℕ)). finite.from_entries es) (no-lists shown_zeros (finite.values spaces) (all-values (λ parts. shown_zeros parts ≡ []) spaces (λ p parts is. ap shown_zeros (empty p parts is))))

pub empty-reserved : (maps : List (Option Map)) (spaces : Spaces) → EmptySpaces spaces → reserved_pages maps spaces ≡ 0
empty-reserved maps spaces empty =
    let a = sum-zero slots_in (finite.values spaces) (all-values (λ parts. slots_in parts ≡ 0) spaces (λ p parts is. ap slots_in (empty p parts is))) in
    let b : sum_by (λ number. length (places_of maps number)) (finite.values (zero_maps spaces)) ≡ 0 =
    ap (λ (zs : finite.FinMap nat_cmp ℕ). sum_by (λ number. length (places_of maps number)) (finite.values zs)) (empty-zeros spaces empty)
    ∙ ap (λ (es : List (ℕ × ℕ)). sum_by (λ number. length (places_of maps number)) (map (λ e. e.1) es)) entries-empty in
    omega (arith, a, b)
