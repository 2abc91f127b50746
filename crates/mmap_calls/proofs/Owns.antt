-- What a piece of a process is, by the fit: whether it has an own map, its pages, and the zero object that it shows.
use Rattle.std.proofs.Common.{◌≡◌, ℕ, ◌+◌, ◌<◌, ◌≤◌, List, length, Option, Some, None, ap, sym, ◌∙◌, inl, inr}
use Rattle.std.specs.Prelude.{is_some, IsSome, slice_index_or}
use Rattle.std.proofs.lemmas.Bool.{cases_lt}
use Rattle.std.proofs.lemmas.List.{get_or_past}
use Rattle.seg_vn.specs.vm_types.declared.call.Kind.{Kind}
use Rattle.seg_vn.specs.vm_types.declared.call.Kind.TheVariants.{Shared, Private}
use Rattle.seg_vn.specs.anon_map.Maps.{Map}
use Rattle.seg_vn.specs.addr_space.Space.{Part, begins}
use Rattle.seg_vn.proofs.addr_space.PartLemmas.{found-in}
use Rattle.seg_vn.proofs.addr_space.PartLists.{all-begins, begins-found}
use Rattle.seg_vn.specs.vm_world.CountsFit.{OwnFits, SegmentFits, ShowsZero}
use Rattle.seg_vn.specs.vm_world.FlatMemory.{zero_maps}
use Rattle.seg_vn.specs.vm_world.Segments.{Spaces}
use Rattle.seg_vn.specs.vm_world.World.{World}
use Rattle.seg_vn.specs.vm_world.declared.segment.Segment.{Segment}
use Rattle.seg_vn.proofs.vm_world.PartSums.{segments-all}
use Rattle.seg_vn.proofs.vm_world.ShownZeros.{zero_map-of}
use Rattle.seg_vn.specs.Clears.{SpaceFits}
use Rattle.mmap_calls.specs.RangeCounts.{IsOwnPrivate, zero_in}
use Rattle.mmap_calls.proofs.Holders.{zero-of-in, zero-has-map}

-- What is known of a part that is found.
pub record OwnsPages (zeros : List (Option ℕ)) (x : Part Segment) : Type 0 where
  pub some : 0 < x.pages
  pub within : x.first + x.pages ≤ 0x80000
  pub pages : x.pages ≡ x.piece.pages
  pub own : IsOwnPrivate x.piece
  pub listed : (z : ℕ) → zero_in x.piece.object ≡ Some z → z < length zeros

by_kind : (maps : List (Option Map)) (s : Segment) (k : Kind) → OwnFits maps s k → elim k as (λ _. Type 0) [ Private ↦ IsSome s.own | Shared ↦ s.own ≡ None ]
by_kind maps s Shared own = own
by_kind maps s Private own = ap is_some own.1

pub owns : (w : World) (zeros : List (Option ℕ)) (spaces : Spaces) (p : ℕ) (ps : List (Part Segment)) (page : ℕ) (x : Part Segment) → SpaceFits w zeros spaces p ps → begins ps page ≡ Some x → OwnsPages zeros x
owns w zeros spaces p ps page x fits found =
    let order = fits.memory.segments.ordered p ps fits.here in
    let lies = found-in 1 ps page x order (begins-found 1 ps page x order found) in
    let fit = all-begins (SegmentFits (length w.files.files) w.maps) ps page x (fits.memory.segments.each p ps fits.here) found in
    let shows = all-begins (λ (a : Part Segment). ShowsZero (zero_maps spaces) a.piece) ps page x (segments-all (ShowsZero (zero_maps spaces)) spaces p ps fits.memory.segments.zeros fits.here) found in
    record {
      some = lies.some;
      within = lies.within;
      pages = fit.pages;
      own = by_kind w.maps x.piece x.piece.kind fit.own;
      listed = λ z is. (
          let o = zero-of-in x.piece.object z is in
          let n = zero-has-map w.maps (length w.files.files) x.piece x.piece.object z o fit.object in
          let listed : slice_index_or zeros z None ≡ Some n.0 = sym (fits.known z) ∙ shows z n.0 (zero_map-of x.piece z n.0 o n.1) in
          elim (cases_lt z (length zeros)) [ inl lt ↦ lt | inr past ↦ absurd (let k : None ≡ Some n.0 = sym (get_or_past zeros z None past) ∙ listed in cc) ]);
    }
