-- A file that is made shorter. Public clauses cite this.
use Rattle.std.specs.Prelude.{◌≡◌, ◌≢◌, ◌<◌, ◌%◌, ℕ, Option, Some, None}
use Rattle.seg_ops.specs.page_hash.Names.{name_at}
use Rattle.seg_ops.specs.page_hash.declared.PageName.{PageName}
use Rattle.seg_ops.specs.page_store.Seen.{StoreSeen, residence}
use Rattle.seg_ops.specs.page_store.declared.residence.Residence.TheVariants.{Moving}
use Rattle.seg_ops.specs.flat_model.Flat.{File}
use Rattle.seg_ops.specs.flat_model.Words.{page, page_size, pages_in}
use Rattle.seg_ops.specs.vm_world.FileSteps.{ChangesFile}
use Rattle.seg_ops.specs.vm_world.FlatMemory.{Memory}
use Rattle.seg_ops.specs.vm_world.Wants.{IsCutPage}
use Rattle.seg_ops.specs.vm_world.World.{World, file_name}
use Rattle.seg_map.specs.Cuts.{IsPastEnd}
use Rattle.seg_map.specs.Ends.{MaySetEnd}

-- The new last page of a file that is to get shorter, where it gets a tail, isn't moving.
abbrev pub IsTailStill : World → ℕ → ℕ → Type 0
IsTailStill w f end = (name : PageName) → IsCutPage w f end name → (seat : ℕ) → residence w.store name ≢ Moving seat

-- The new last page of a file that is to get shorter, where it gets a tail, is moving with this
-- seat, or isn't moving.
abbrev pub HoldsTail : World → ℕ → ℕ → Option ℕ → Type 0
HoldsTail w f end (Some seat) = (end % page_size ≢ 0) × (residence w.store (file_name f (page end)) ≡ Moving seat)
HoldsTail w f end None = IsTailStill w f end

-- No frame holds a page of the file past an end.
abbrev pub NoneHeldPast : StoreSeen → ℕ → ℕ → Type 0
NoneHeldPast s f end = (frame : ℕ) (name : PageName) → name_at s.names frame ≡ Some name → name.object ≡ f → name.page < pages_in end

-- The file lost something, all of it past an end.
pub record LosesPast (old new : Memory) (f end : ℕ) : Type 0 where
  pub change : File → File
  pub changes : ChangesFile f old new change
  pub past : IsPastEnd end change

-- The file lost something, all of it past an end, and may get that end then.
pub record MayShorten (old new : Memory) (f end : ℕ) : Type 0 where
  pub loses : LosesPast old new f end
  pub may : MaySetEnd new.world f end
