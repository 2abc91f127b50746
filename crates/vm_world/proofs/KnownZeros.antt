-- The list of zero objects stays right as segments are cut, go and come. Crates above use these.
use Rattle.std.proofs.Common.{◌≡◌, ℕ, ◌<◌, List, [], length, Option, Some, None, sym, ap, ◌∙◌, inl, inr, get_or-set_same, get_or-set_other}
use Rattle.std.specs.Prelude.{IsSome, is_some, slice_index_or, slice_set}
use Rattle.std.specs.FinMap as finite
use Rattle.std.proofs.lemmas.Bool.{cases_eq, cases_lt}
use Rattle.std.proofs.lemmas.List.{get_or_past}
use Rattle.flat_model.specs.vm_types.declared.call.Object.TheVariants as object
use Rattle.addr_space.specs.Space.{Part, part_at, begins}
use Rattle.anon_map.specs.Maps.{IsUnused, holders_of}
use Rattle.flat_model.proofs.Ranges.{get-insert_here, get-insert_apart, get-remove_here, get-remove_apart}
use Rattle.vm_world.specs.FlatMemory.{Memory, zero_maps}
use Rattle.vm_world.specs.MemoryFits.{MemoryFits}
use Rattle.vm_world.specs.SegmentSteps.{MayLeave, MayCome, MayMakeZero, with_part_cut, with_part_gone, with_part_come, with_zero_part}
use Rattle.vm_world.specs.Segments.{Segment, Spaces}
use Rattle.vm_world.specs.SpaceSteps.{without_space}
use Rattle.vm_world.specs.ZeroObjects.{AreSameZeros, KnowsZeros, free_number}
use Rattle.vm_world.proofs.ComingParts.{zeros-come, zeros-made}
use Rattle.vm_world.proofs.CutParts as cuts
use Rattle.zero_objects.proofs.FreeNumbers.{free-within, free-least}
use Rattle.vm_world.proofs.GoneParts.{part-zero, zeros-same, zeros-but-one}
use Rattle.vm_world.proofs.LeftProcesses as left

-- THE LIST of spaces
pub known-same : (zeros : List (Option ℕ)) (old new : Spaces) → zero_maps new ≡ zero_maps old → KnowsZeros zeros old → KnowsZeros zeros new
known-same zeros old new same knows z = ap (λ (zs : finite.FinMap _ ℕ). finite.get zs z) same ∙ knows z

pub known-other : (zeros same : List (Option ℕ)) (spaces : Spaces) → AreSameZeros zeros same → KnowsZeros zeros spaces → KnowsZeros same spaces
known-other zeros same spaces alike knows z = knows z ∙ sym (alike z)

pub known-within : (zeros : List (Option ℕ)) (spaces : Spaces) (z n : ℕ) → KnowsZeros zeros spaces → finite.get (zero_maps spaces) z ≡ Some n → z < length zeros
known-within zeros spaces z n knows is = elim (cases_lt z (length zeros)) [
  | inl lt ↦ lt
  | inr past ↦ absurd (let e : None ≡ Some n = sym (get_or_past zeros z None past) ∙ sym (knows z) ∙ is in cc)
]

-- the number that is free names none, and each below names one
pub known-unnamed : (zeros : List (Option ℕ)) (spaces : Spaces) (z : ℕ) → KnowsZeros zeros spaces → free_number zeros ≡ Some z → finite.get (zero_maps spaces) z ≡ None
known-unnamed zeros spaces z knows free = knows z ∙ (free-least zeros z free).0

pub known-below : (zeros : List (Option ℕ)) (spaces : Spaces) (z : ℕ) → KnowsZeros zeros spaces → free_number zeros ≡ Some z → (y : ℕ) → y < z → IsSome (finite.get (zero_maps spaces) y)
known-below zeros spaces z knows free y lt = ap is_some (knows y) ∙ (free-least zeros z free).1 y lt

-- A PART IS CUT
pub known-cut : (m : Memory) (p page number : ℕ) (parts : List (Part Segment)) (x : Part Segment) (zeros : List (Option ℕ)) → MemoryFits m → finite.get m.spaces p ≡ Some parts → part_at parts page ≡ Some x → x.first < page
    → (IsSome x.piece.own → IsUnused m.world.maps number) → KnowsZeros zeros m.spaces → KnowsZeros zeros (with_part_cut m p page number parts x).spaces
known-cut m p page number parts x zeros fits is found lt unused knows = known-same zeros m.spaces (with_part_cut m p page number parts x).spaces (cuts.zeros-now m p page number parts x fits is found lt unused) knows

-- A PART GOES that isn't the last to show its object
pub known-gone : (m : Memory) (p : ℕ) (parts : List (Part Segment)) (x : Part Segment) (zeros : List (Option ℕ)) → MemoryFits m → finite.get m.spaces p ≡ Some parts → begins parts x.first ≡ Some x → MayLeave m p x
    → ((n : ℕ) → x.piece.shown ≡ Some n → 1 < holders_of m.world.maps n) → KnowsZeros zeros m.spaces → KnowsZeros zeros (with_part_gone m p parts x).spaces
known-gone m p parts x zeros fits is found may more knows = known-same zeros m.spaces (with_part_gone m p parts x).spaces (zeros-same m p parts x fits is found may (λ z n there its. more n its)) knows

-- or that is
pub known-last : (m : Memory) (p : ℕ) (parts : List (Part Segment)) (x : Part Segment) (zeros : List (Option ℕ)) (z n : ℕ) → MemoryFits m → finite.get m.spaces p ≡ Some parts → begins parts x.first ≡ Some x → MayLeave m p x
    → x.piece.object ≡ object.Zero z → x.piece.shown ≡ Some n → holders_of m.world.maps n ≡ 1 → KnowsZeros zeros m.spaces → KnowsZeros (slice_set zeros z None) (with_part_gone m p parts x).spaces
known-last m p parts x zeros z n fits is found may object shown one knows y =
    let was = part-zero m.spaces p parts x fits.segments.zeros is found z n object shown in
    ap (λ (zs : finite.FinMap _ ℕ). finite.get zs y) (zeros-but-one m p parts x fits is found may z n shown one was) ∙ elim (cases_eq y z) [
      | inl same ↦
          ap (finite.get (finite.remove (zero_maps m.spaces) z)) same ∙ get-remove_here (zero_maps m.spaces) z
          ∙ sym (get_or-set_same zeros z None None (known-within zeros m.spaces z n knows was)) ∙ ap (λ (k : ℕ). slice_index_or (slice_set zeros z None) k None) (sym same)
      | inr ne ↦ get-remove_apart (zero_maps m.spaces) z y ne ∙ knows y ∙ sym (get_or-set_other zeros z y None None ne)
    ]

-- A PART COMES
pub known-come : (m : Memory) (p : ℕ) (parts : List (Part Segment)) (x : Part Segment) (zeros : List (Option ℕ)) → MemoryFits m → finite.get m.spaces p ≡ Some parts → MayCome m parts x → KnowsZeros zeros m.spaces
    → KnowsZeros zeros (with_part_come m p parts x).spaces
known-come m p parts x zeros fits is may knows = known-same zeros m.spaces (with_part_come m p parts x).spaces (zeros-come m p parts x fits is may) knows

-- with a new zero object
pub known-made : (m : Memory) (p : ℕ) (parts : List (Part Segment)) (x : Part Segment) (zeros : List (Option ℕ)) (z n : ℕ) → MemoryFits m → finite.get m.spaces p ≡ Some parts → MayMakeZero m parts x z n → free_number zeros ≡ Some z
    → KnowsZeros zeros m.spaces → KnowsZeros (slice_set zeros z (Some n)) (with_zero_part m p parts x).spaces
known-made m p parts x zeros z n fits is may free knows y =
    ap (λ (zs : finite.FinMap _ ℕ). finite.get zs y) (zeros-made m p parts x z n fits is may) ∙ elim (cases_eq y z) [
      | inl same ↦
          ap (finite.get (finite.insert (zero_maps m.spaces) z n)) same ∙ get-insert_here (zero_maps m.spaces) z n
          ∙ sym (get_or-set_same zeros z (Some n) None (free-within zeros z free)) ∙ ap (λ (k : ℕ). slice_index_or (slice_set zeros z (Some n)) k None) (sym same)
      | inr ne ↦ get-insert_apart (zero_maps m.spaces) z n y ne ∙ knows y ∙ sym (get_or-set_other zeros z y (Some n) None ne)
    ]

-- A PROCESS GOES that has no part
pub known-left : (m : Memory) (p : ℕ) (zeros : List (Option ℕ)) → MemoryFits m → finite.get m.spaces p ≡ Some [] → KnowsZeros zeros m.spaces → KnowsZeros zeros (without_space m p).spaces
known-left m p zeros fits is knows = known-same zeros m.spaces (without_space m p).spaces (left.zeros-now m p fits is) knows
