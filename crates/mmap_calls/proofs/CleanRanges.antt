-- Pages of a range that are clean, piece by piece.
use Rattle.std.proofs.Common.{◌≡◌, ℕ, ◌+◌, ◌-◌, ◌<◌, ◌≤◌, true, List, length, Option, Some, None, sym, ap, ◌∙◌, inl, inr, subst, arith}
use Rattle.std.specs.Prelude.{option_and_then, option_map}
use Rattle.std.specs.FinMap as finite
use Rattle.std.proofs.lemmas.Bool.{cases_lt}
use Rattle.std.proofs.lemmas.Bool.Decides.{nat_tests}
use Rattle.seg_vn.specs.addr_space.Space.{Part, has, part_at, piece_at}
use Rattle.seg_vn.proofs.addr_space.PartLists.{all-found, found-has}
use Rattle.seg_vn.specs.page_hash.declared.PageName.{PageName}
use Rattle.seg_vn.specs.vm_world.CountsFit.{SegmentFits}
use Rattle.seg_vn.specs.vm_world.FlatMemory.{Memory}
use Rattle.seg_vn.specs.vm_world.MemoryFits.{MemoryFits}
use Rattle.seg_vn.specs.vm_world.Segments.{Spaces, Spot, shown_name, spot_at}
use Rattle.seg_vn.specs.vm_world.Words.{memory}
use Rattle.seg_vn.specs.vm_world.World.{World, world_seen}
use Rattle.seg_vn.specs.vm_world.declared.segment.Segment.{Segment}
use Rattle.seg_vn.specs.vm_world.declared.wants.Wants.{Wants}
use Rattle.seg_vn.specs.vm_world.declared.world.World as rust
use Rattle.seg_vn.proofs.vm_world.FlatWhole.{some-inj}
use Rattle.seg_vn.specs.seg_ops.Rooms.{MakesRoom}
use Rattle.seg_vn.proofs.seg_ops.CleanPages.{still-clean}
use Rattle.seg_vn.proofs.seg_ops.StillSteps.{memory_of}
use Rattle.seg_vn.specs.CleanPlaces.{CleansPlaces, SharesFilePage}
use Rattle.seg_vn.proofs.FaultSteps.{shows-same}
use Rattle.mmap_calls.specs.SyncRanges.{AreClean, CleansRange, IsAliveWith}
use Rattle.mmap_calls.proofs.RangeProtections.{Holds, holds}

-- what a place shows of a file stays, where maps and files do
shows-still : (old new : World) (x : Spot) (name : PageName) → new.maps ≡ old.maps → new.files ≡ old.files → SharesFilePage new x name → SharesFilePage old x name
shows-still old new x name maps files s = record {
  shared = s.shared;
  some = sym (shows-same old new x maps files) ∙ s.some;
  is = ap (λ ms. shown_name ms x) (sym maps) ∙ s.is;
  file = s.file;
}

-- PAGES THAT ARE CLEAN stay so, where room is made
pub clean-then : {D : Type 0} (old new : rust.World D) (spaces : Spaces) (p first end : ℕ) → MakesRoom old new → AreClean (memory old spaces) p first end → AreClean (memory new spaces) p first end
clean-then {D} old new spaces p first end makes clean q x name low high here shows =
    still-clean (world_seen old) (world_seen new) name makes.stay makes.modified
    (clean q x name low high here (shows-still (world_seen old) (world_seen new) x name (ap (λ (w : rust.World D). w.maps) makes.rest) (ap (λ (w : rust.World D). w.files) makes.rest) shows))

pub alive-then : {D : Type 0} (old new : rust.World D) (spaces : Spaces) (p : ℕ) (parts : List (Part Segment)) → MakesRoom old new → IsAliveWith old spaces p parts → IsAliveWith new spaces p parts
alive-then old new spaces p parts makes alive = record { memory = (makes.keeps spaces alive.memory).memory; here = alive.here }

-- THE PIECE that has a page of a process
module _ (w : World) (spaces : Spaces) (p : ℕ) (parts : List (Part Segment)) (page : ℕ) (x : Part Segment) (fits : MemoryFits (memory_of w spaces)) (get : finite.get spaces p ≡ Some parts) (found : part_at parts page ≡ Some x) where
  pub lies : Holds parts (fits.segments.ordered p parts get) page x found
  lies = holds parts (fits.segments.ordered p parts get) page x found

  pub size : x.pages ≡ x.piece.pages
  size = (all-found (SegmentFits (length w.files.files) w.maps) parts page x (fits.segments.each p parts get) found).pages

  pub spot-in : (q : ℕ) → x.first ≤ q → q < x.first + x.pages → spot_at spaces p q ≡ Some (x.piece, q - x.first)
  spot-in q low high =
      ap (option_and_then (λ (ps : List (Part Segment)). piece_at ps q)) get
      ∙ ap (option_map (λ (r : Part Segment). (r.piece, q - r.first))) (found-has 1 parts page q x (fits.segments.ordered p parts get) found (let h : has x q ≡ true = grind (arith, nat_tests) in h))

  -- what is clean up to its page, and at its places, is clean up to the end of these
  pub clean-so-far : (first to : ℕ) → to ≤ x.pages → AreClean (memory_of w spaces) p first page → CleansPlaces (memory_of w spaces) x.piece (page - x.first) to None → AreClean (memory_of w spaces) p first (x.first + to)
  clean-so-far first to le before these q y name low high here shows = elim (cases_lt q page) [
    | inl lt ↦ before q y name low lt here shows
    | inr past ↦
        let from = lies.from in
        let same : (x.piece, q - x.first) ≡ y = some-inj (x.piece, q - x.first) y (sym (spot-in q (omega (arith, from, past)) (omega (arith, high, le))) ∙ here) in
        these (q - x.first) name (omega (arith, from, past)) (omega (arith, from, past, high)) (subst (λ (s : Spot). SharesFilePage w s name) (sym same) shows)
  ]

  -- what must come first at its places, told of the process's page
  pub first-at : (first end to at : ℕ) (want : Wants) → to ≤ x.pages → x.first + to ≤ end → first ≤ page → CleansPlaces (memory_of w spaces) x.piece (page - x.first) to (Some (at, want)) → CleansRange (memory_of w spaces) p first end (Some (x.first + at, want))
  first-at first end to at want le high low found_first =
      let from = lies.from in
      let begins = found_first.0 in
      let below = found_first.1 in
      let place : x.first + at - x.first ≡ at = omega arith in (
        omega (arith, from, low, begins),
        omega (arith, high, below),
        record { spot = (x.piece, at); here = spot-in (x.first + at) (omega arith) (omega (arith, below, le)) ∙ ap (λ (k : ℕ). Some (x.piece, k)) place; wants = found_first.2 },
      )

-- BOTH HALVES of a range
pub both-clean : (m : Memory) (p first begin end : ℕ) → AreClean m p first begin → AreClean m p begin end → AreClean m p first end
both-clean m p first begin end one other q x name low high here shows = elim (cases_lt q begin) [
  | inl lt ↦ one q x name low lt here shows
  | inr past ↦ other q x name past high here shows
]

-- THE FIRST HALF, behind the other one that is clean
pub round-cleaned : (m : Memory) (p first begin end : ℕ) (found : Option (ℕ × Wants)) → begin ≤ end → AreClean m p begin end → CleansRange m p first begin found → CleansRange m p first end found
round-cleaned m p first begin end None le other one = both-clean m p first begin end one other
round-cleaned m p first begin end (Some r) le other one = let below = one.1 in (one.0, omega (arith, below, le), one.2)
