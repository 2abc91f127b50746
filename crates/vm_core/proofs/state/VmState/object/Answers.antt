use Rattle.std.proofs.Common.{◌≡◌, ℕ, ◌+◌, ◌-◌, ◌<◌, List, Option, Some, None, refl, sym, ap, ap₂}
use Rattle.std.proofs.Common.{◌∙◌, arith}
use Rattle.std.specs.Prelude.{option_map, option_and_then}
use Rattle.std.specs.FinMap as finite
use Rattle.fault_entry.specs.vm_types.declared.call.Object.{Object}
use Rattle.fault_entry.specs.addr_space.Space.{Part, part, piece_at}
use Rattle.fault_entry.specs.flat_model.Flat.{Cell, cell_at}
use Rattle.fault_entry.specs.page_store.Notes.{Notes}
use Rattle.fault_entry.specs.vm_world.FlatMemory.{flat_memory, cell_of}
use Rattle.fault_entry.specs.vm_world.Pages.{contents_of}
use Rattle.fault_entry.specs.vm_world.Segments.{Spot, Spaces, spot_at}
use Rattle.fault_entry.specs.vm_world.State.{KernelState}
use Rattle.fault_entry.specs.vm_world.declared.segment.Segment.{Segment}
use Rattle.fault_entry.proofs.Found.{spot-found, spot-none, found-low}
use Rattle.fault_entry.proofs.seg_vn.vm_world.Maps.{cell-at}
use Rattle.mmap_calls.proofs.CleanRanges.{size}
use Rattle.mmap_calls.proofs.RangeProtections.{holds}
use Rattle.vm_core.proofs.state.VmState.object.Given.{Over}
use Rattle.vm_core.proofs.state.VmState.object.Goals.{In-Some}
use Rattle.vm_core.proofs.state.VmState.object.Goals as goal

-- what a cell stands for, and a place of a segment
abbrev of_cell : Option Cell → Option (Object × ℕ)
of_cell o = option_map (λ (c : Cell). (c.object, c.index)) o

abbrev of_spot : Option Spot → Option (Object × ℕ)
of_spot o = option_map (λ (x : Spot). (x.0.object, x.0.index + x.1)) o

-- what the place of a page tells of its cell
told : (s : KernelState) (p q : ℕ) (o : Option Spot) → spot_at s.memory.spaces p q ≡ o → (notes : Notes)
    → of_spot o ≡ of_cell (cell_at (flat_memory s.memory s.born notes) p q)
told s p q o is notes =
    let held = (contents_of s.memory.world notes).place in
    by_spot o ∙ sym (ap of_cell (cell-at held s.memory.spaces p q ∙ ap (option_map (cell_of held)) is))
  where
    by_spot : (x : Option Spot)
        → of_spot x ≡ of_cell (option_map (cell_of (contents_of s.memory.world notes).place) x)
    by_spot None = refl
    by_spot (Some y) = refl

-- the process's segments, where it has a space
here : (g : Over) (c : In-Some g)
    → finite.get c.args.self.now.memory.spaces c.args.process ≡ Some c.in-Some.space.now.parts
here g c =
    ap (λ (s : KernelState). finite.get s.memory.spaces c.args.process) (sym c.self.view_is)
    ∙ sym c.get.ensures ∙ ap (option_map _) c.in-Some.is

pub returns-in_default : goal.returns-in_default
returns-in_default g c =
    let none = ap (λ (s : KernelState). finite.get s.memory.spaces c.args.process) (sym c.self.view_is)
    ∙ sym c.get.ensures ∙ ap (option_map _) c.in_default.is in
    told c.args.self.now c.args.process c.args.page None
    (ap (option_and_then (λ (xs : List (Part Segment)). piece_at xs c.args.page)) none)

pub returns-in_default-find : goal.returns-in_default-find
returns-in_default-find g c =
    let at = (goal.at.returns-in_default-find g c).In-Some in
    told c.args.self.now c.args.process c.args.page None
    (spot-none c.args.self.now.memory.spaces c.args.process c.args.page c.in-Some.space.now.parts
    (here g at) c.in_default-find.ensures.found)

pub overflow_sub-page : goal.overflow_sub-page
overflow_sub-page g c =
    let p = c.in-Some-find in
    found-low c.in-Some.space.now.parts c.args.page (part p.first p._pages p.segment.now) p.ensures.found

pub object-requires : goal.object-requires
object-requires g c =
    let at = (goal.at.object-requires g c).In-Some in
    let find = c.in-Some-find in
    let parts = c.in-Some.space.now.parts in
    let p = part find.first find._pages find.segment.now in
    let memory = c.args.self.now.memory in
    let h = holds parts find.ensures.ordered c.args.page p find.ensures.found in
    let pages = size memory.world memory.spaces c.args.process parts c.args.page p
    c.requires.fits.2.memory (here g at) find.ensures.found in
    let from = h.from in
    let below = h.below in
    omega (arith, pages, from, below)

pub returns : goal.returns
returns g c =
    let at = (goal.at.returns g c).In-Some in
    let find = c.in-Some-find in
    let spot = spot-found c.args.self.now.memory.spaces c.args.process c.args.page find.first find._pages
    find.segment.now c.in-Some.space.now.parts (here g at) find.ensures.found in
    λ notes.
    ap₂ (λ (o : Object) (n : ℕ). Some (o, n)) c.object.ensures.object c.object.ensures.index
    ∙ told c.args.self.now c.args.process c.args.page (Some (find.segment.now, c.args.page - find.first))
    spot notes
