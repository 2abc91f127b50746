-- How a page comes home. Public clauses cite this.
use Rattle.std.specs.Prelude.{◌≡◌, ◌≢◌, ℕ, Result, Ok, Err}
use Rattle.seg_ops.specs.page_hash.declared.PageName.{PageName}
use Rattle.seg_ops.specs.page_store.Seen.{residence}
use Rattle.seg_ops.specs.page_store.declared.residence.Residence.TheVariants.{Home}
use Rattle.seg_ops.specs.vm_world.FlatMemory.{Memory}
use Rattle.seg_ops.specs.vm_world.Segments.{Spaces}
use Rattle.seg_ops.specs.vm_world.Serving.{AreReplaced, IsUnpushedSlot, ModifiesOnly, TakesFrames}
use Rattle.seg_ops.specs.vm_world.Words.{memory, Fits}
use Rattle.seg_ops.specs.vm_world.World.{World}
use Rattle.seg_ops.specs.vm_world.declared.world.World as rust
use Rattle.seg_ops.specs.Plans.{FetchesPage}
use Rattle.seg_ops.specs.vm_world.declared.wants.Wants.{Wants}

-- The page is home; or it wasn't, and this must come first.
abbrev pub IsBrought : Memory → Memory → PageName → Result Unit Wants → Type 0
IsBrought old new name (Ok done) = (frame : ℕ) × (residence new.world.store name ≡ Home frame)
IsBrought old new name (Err want) = FetchesPage new name want × ((frame : ℕ) → residence old.world.store name ≢ Home frame)

-- Where the page came home, it alone becomes modified, if it is that of a slot which was never
-- pushed.
abbrev pub BringModifies : World → PageName → Result Unit Wants → PageName → Type 0
BringModifies w name (Ok done) other = (other ≡ name) × IsUnpushedSlot w.anon other
BringModifies w name (Err want) other = ⊥

-- The page comes home, or this must come first; frames may be taken for other pages meanwhile, and
-- no page becomes modified but the one that may.
pub record BringsPage (old new : Memory) (pending more : ℕ) (name : PageName) (answer : Result Unit Wants) : Type 0 where
  pub first : TakesFrames old new.world pending more
  pub replaced : AreReplaced old.world new.world first.cut
  pub modified : ModifiesOnly (BringModifies new.world name answer) old.world new.world
  pub means : IsBrought old new name answer

-- How the page came home, or what must come first, by the world before and after, in these spaces.
abbrev pub PageBrought : {D : Type 0} → rust.World D → rust.World D → Spaces → PageName → Result Unit Wants → Type 0
PageBrought old new spaces name answer = BringsPage (memory old spaces) (memory new spaces) old.pending new.pending name answer

-- How the page came home, or what must come first, whatever the spaces that the world fits.
abbrev pub IsPageBrought : {D : Type 0} → rust.World D → rust.World D → PageName → Result Unit Wants → Type 0
IsPageBrought old new name answer = (spaces : Spaces) → Fits old spaces → PageBrought old new spaces name answer

-- The page came home, and this frame holds it; or it wasn't home, and this must come first.
abbrev pub IsFrameBrought : {D : Type 0} → rust.World D → rust.World D → PageName → Result ℕ Wants → Type 0
IsFrameBrought old new name (Ok frame) = IsPageBrought old new name (Ok tt) × (residence new.store name ≡ Home frame)
IsFrameBrought old new name (Err want) = IsPageBrought old new name (Err want)
