-- Which pages faults make modified: the one that is loaded, where it is that of a slot which was never pushed.
use Rattle.seg_ops.proofs.Pushed.{cleared as fresh}
use Rattle.std.proofs.Common.{◌≡◌, ℕ, false, List, Option, Some, sym, ap, ◌∙◌, inl, inr, Ok, slice_index_or}
use Rattle.seg_ops.specs.anon_map.Maps.{Map}
use Rattle.seg_ops.specs.anon_slots.Slots.{AnonSlotsSeen}
use Rattle.seg_ops.specs.page_hash.declared.PageName.{PageName}
use Rattle.seg_ops.specs.vm_world.Segments.{Spot, shown_name}
use Rattle.seg_ops.specs.vm_world.Serving.{ModifiesNone, ModifiesOnly}
use Rattle.seg_ops.specs.vm_world.World.{World, slot_name}
use Rattle.seg_ops.specs.Faults.{FaultModifies}
use Rattle.seg_ops.specs.Slots.{GivesSlot}
use Rattle.seg_ops.specs.declared.plans.Fault.TheVariants as fault
use Rattle.seg_ops.proofs.NewlyModified.{none-then, only-as, then-none}
use Rattle.home_pages.specs.Brings.{BringModifies}

pub given-fresh : (old new : AnonSlotsSeen) (maps put : List (Option Map)) (m i s : ℕ) → GivesSlot old new maps put m i s → slice_index_or new.swapped s false ≡ false
given-fresh old new maps put m i s g = ap (λ (a : AnonSlotsSeen). slice_index_or a.swapped s false) g.counts ∙ fresh _ s

-- A PAGE CAME HOME, and its translation was loaded.
pub loaded-modifies : (old mid new : World) (x : Spot) (name : PageName) → ModifiesOnly (BringModifies mid name (Ok tt)) old mid → ModifiesNone mid new → shown_name new.maps x ≡ Some name → new.anon ≡ mid.anon → ModifiesOnly (FaultModifies new x (Ok fault.Loaded)) old new
loaded-modifies old mid new x name first last shows anon =
    only-as (BringModifies mid name (Ok tt)) (FaultModifies new x (Ok fault.Loaded)) old new
    (λ n is. (shows ∙ ap (λ (o : PageName). Some o) (sym is.0), (is.1.0, is.1.1, ap (λ (a : AnonSlotsSeen). slice_index_or a.swapped is.1.0 false) anon ∙ is.1.2)))
    (then-none (BringModifies mid name (Ok tt)) old mid new first last)

-- THE PAGE OF A SLOT WAS MADE, and its translation loaded.
pub made-modifies : (old freed made new : World) (x : Spot) (s : ℕ) → ModifiesNone old freed → ModifiesOnly (λ n. n ≡ slot_name s) freed made → ModifiesNone made new → shown_name new.maps x ≡ Some (slot_name s)
    → slice_index_or new.anon.swapped s false ≡ false → ModifiesOnly (FaultModifies new x (Ok fault.Loaded)) old new
made-modifies old freed made new x s first makes last shows unpushed =
    only-as (λ n. n ≡ slot_name s) (FaultModifies new x (Ok fault.Loaded)) old new
    (λ n e. (shows ∙ ap (λ (o : PageName). Some o) (sym e), (s, e, unpushed)))
    (none-then (λ n. n ≡ slot_name s) old freed new first (then-none (λ n. n ≡ slot_name s) freed made new makes last))
