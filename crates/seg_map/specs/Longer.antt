-- A file that is made longer. Public clauses cite this.
use Rattle.std.specs.Prelude.{◌≡◌, ◌≢◌, ◌⊎◌, ℕ, List, Some, None, Result, Ok, Err, IsTrue}
use Rattle.seg_ops.specs.page_hash.Names.{find}
use Rattle.seg_ops.specs.page_hash.declared.PageName.{PageName}
use Rattle.seg_ops.specs.page_store.Seen.{IsListedFrame, residence}
use Rattle.seg_ops.specs.page_store.declared.residence.Residence.TheVariants.{Home}
use Rattle.seg_ops.specs.vnode_files.declared.extent.Extent.{Extent}
use Rattle.seg_ops.specs.vnode_files.Files.{FilesSeen, growth_of}
use Rattle.seg_ops.specs.flat_model.Flat.{File}
use Rattle.seg_ops.specs.flat_model.Parts.{longer_file, with_extents_of}
use Rattle.seg_ops.specs.flat_model.Words.{page, pages_in}
use Rattle.seg_ops.specs.vm_world.FileSteps.{ChangesFile}
use Rattle.seg_ops.specs.vm_world.FlatMemory.{Memory}
use Rattle.seg_ops.specs.vm_world.Segments.{Spaces}
use Rattle.seg_ops.specs.vm_world.Wants.{GrowthWants, IsGapPage}
use Rattle.seg_ops.specs.vm_world.Words.{memory, Fits}
use Rattle.seg_ops.specs.vm_world.World.{World, world_seen, is_unpushed}
use Rattle.seg_ops.specs.vm_world.declared.wants.Wants.{Wants}
use Rattle.seg_ops.specs.vm_world.declared.world.World as rust
use Rattle.seg_ops.specs.Plans.{FetchesPage}
use Rattle.seg_map.specs.Ends.{SetsEnd, with_file_records}

-- The page is home, in a frame on no list.
abbrev pub IsHomeUnlisted : World → PageName → Type 0
IsHomeUnlisted w name = (frame : ℕ) × (residence w.store name ≡ Home frame) × (¬ IsListedFrame w.store frame)

-- No frame holds the page, and it is blank, so that it is zeros.
abbrev pub IsBlankAbsent : World → PageName → Type 0
IsBlankAbsent w name = (find w.store.names name ≡ None) × IsTrue (is_unpushed w.files w.anon name)

-- The old last page of a file that is to get longer, where it has a tail, is home on no list; or it is blank and no frame holds it.
abbrev pub IsLastReady : World → ℕ → ℕ → Type 0
IsLastReady w f end = (name : PageName) → IsGapPage w f end name → IsHomeUnlisted w name ⊎ IsBlankAbsent w name

-- Once the file's record has this end, the file is longer.
abbrev pub MayLengthen : Memory → Memory → ℕ → ℕ → Type 0
MayLengthen old new f end = (files : FilesSeen) (extents : List Extent) → SetsEnd new.world.files files f end extents
    → ChangesFile f old (with_file_records new files) (λ file. longer_file end (with_extents_of extents file))

-- The file has the extents that it needs for so many bytes, and is this function of what it was.
abbrev pub GrowsInto : Memory → Memory → ℕ → ℕ → (File → File) → Type 0
GrowsInto old new f end g = (extents : List Extent) → growth_of old.world.files f (pages_in end) ≡ Some extents
    → ChangesFile f old new (λ file. g (with_extents_of extents file))

-- The old last page of a file that is to get longer is ready; or it isn't home, and this is
-- answered to a call that wants it home.
abbrev pub FetchesLast : {D : Type 0} → rust.World D → rust.World D → ℕ → ℕ → Result Unit Wants → Type 0
FetchesLast old new f end (Ok done) = IsLastReady (world_seen new) f end
FetchesLast old new f end (Err want) = (name : PageName) × GrowthWants (world_seen old) f end name × ((frame : ℕ) → residence old.store name ≢ Home frame)
    × ((spaces : Spaces) → Fits old spaces → FetchesPage (memory new spaces) name want)
