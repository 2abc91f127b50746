-- Pages of files that come home.
use Rattle.std.proofs.Common.{◌≡◌, ℕ, true, false, Option, Some, None, sym, ◌∙◌, inl, inr, Ok, Err}
use Rattle.std.specs.Prelude.{IsSome, IfSome}
use Rattle.seg_ops.specs.page_hash.declared.PageName.{PageName}
use Rattle.seg_ops.specs.page_store.Seen.{residence}
use Rattle.seg_ops.specs.page_store.declared.plan.Hold.TheVariants as hold
use Rattle.seg_ops.specs.page_store.declared.residence.Residence.TheVariants.{Home, Moving, Absent}
use Rattle.seg_ops.specs.vm_world.MemoryFits.{MemoryFits}
use Rattle.seg_ops.specs.vm_world.Segments.{Spaces}
use Rattle.seg_ops.specs.vm_world.Serving.{TakesFrames, ModifiesNone, ModifiesOnly, AreReplaced}
use Rattle.seg_ops.specs.vm_world.World.{World}
use Rattle.seg_ops.specs.vm_world.declared.wants.Wants.{Wants}
use Rattle.seg_ops.specs.vm_world.declared.wants.Wants.TheVariants as wants
use Rattle.seg_ops.specs.Plans.{FetchesPage}
use Rattle.seg_ops.specs.vm_world.Words.{KeepsPages}
use Rattle.seg_ops.proofs.Composed.{keeps-same}
use Rattle.seg_ops.proofs.StillSteps.{memory_of}
use Rattle.home_pages.specs.Brings.{BringsPage, BringModifies}
use Rattle.home_pages.proofs.Takes.{takes-none}
use Rattle.seg_ops.proofs.NewlyModified.{only-of, only-same}
use Rattle.home_pages.proofs.Replacements.{none-replaced}

-- THE ANSWERS: it is home, or moving; it is fetched; and a frame was taken for it.
pub home-brings : (w : World) (spaces : Spaces) (pending : ℕ) (name : PageName) (frame : ℕ) → MemoryFits (memory_of w spaces) → residence w.store name ≡ Home frame
    → BringsPage (memory_of w spaces) (memory_of w spaces) pending pending name (Ok tt)
home-brings w spaces pending name frame f home = record { first = takes-none w w spaces pending (keeps-same w spaces f); replaced = none-replaced w w; modified = only-same _ w; means = (frame, home) }

pub moving-brings : (w : World) (spaces : Spaces) (pending : ℕ) (name : PageName) (seat : ℕ) → MemoryFits (memory_of w spaces) → residence w.store name ≡ Moving seat
    → BringsPage (memory_of w spaces) (memory_of w spaces) pending pending name (Err (wants.Seat (hold.Page seat)))
moving-brings w spaces pending name seat f away = record { first = takes-none w w spaces pending (keeps-same w spaces f); replaced = none-replaced w w; modified = only-same _ w; means = (λ calls of wants. (name, inl wants, away), λ frame home. let z : Moving seat ≡ Home frame = sym away ∙ home in cc) }

pub fetch-brings : (old new : World) (spaces : Spaces) (pending : ℕ) (name : PageName) (answer : Wants) → KeepsPages old new spaces → residence old.store name ≡ Absent → ModifiesNone old new → FetchesPage (memory_of new spaces) name answer
    → BringsPage (memory_of old spaces) (memory_of new spaces) pending pending name (Err answer)
fetch-brings old new spaces pending name answer keeps absent modified f =
    record { first = takes-none old new spaces pending keeps; replaced = none-replaced old new; modified = only-of _ old new modified; means = (f, λ frame home. let z : Absent ≡ Home frame = sym absent ∙ home in cc) }

pub some-frame : (o : Option ℕ) (P : ℕ → Type 0) → IsSome o → IfSome o P → (frame : ℕ) × P frame
some-frame None P some is = absurd (let z : false ≡ true = some in cc)
some-frame (Some frame) P some is = (frame, is)

pub fill-brings : (old new : World) (spaces : Spaces) (pending more : ℕ) (name : PageName) (o : Option ℕ) (first : TakesFrames (memory_of old spaces) new pending more) → AreReplaced old new first.cut → ModifiesOnly (BringModifies new name (Ok tt)) old new → IsSome o → IfSome o (λ (frame : ℕ). residence new.store name ≡ Home frame)
    → BringsPage (memory_of old spaces) (memory_of new spaces) pending more name (Ok tt)
fill-brings old new spaces pending more name o first replaced modified some home = record { first = first; replaced = replaced; modified = modified; means = some-frame o (λ (frame : ℕ). residence new.store name ≡ Home frame) some home }
