-- What the seats have outside, as the world and the notes have it. Public clauses cite this.
use Rattle.std.specs.Prelude.{◌≡◌, ℕ, ◌⊎◌, true, List, length, Option, Some, IsSome, IsTrue, IsFalse, ◌≢◌}
use Rattle.page_store.specs.core_arena.Bytes.{bytes_at}
use Rattle.page_store.specs.page_hash.Names.{name_at}
use Rattle.page_store.specs.page_hash.declared.PageName.{PageName}
use Rattle.page_store.specs.Notes.{Note, Notes}
use Rattle.page_store.specs.Seen.{StoreSeen, IsGone, own_frame, residence}
use Rattle.page_store.specs.StoreFits.{StoreFits, IsClean}
use Rattle.page_store.specs.Table.{PlaceTable}
use Rattle.page_store.specs.Transfers.{was_rewritten}
use Rattle.page_store.specs.declared.residence.Residence.TheVariants.{Home}
use Rattle.anon_slots.specs.Slots.{AnonSlotsSeen}
use Rattle.hat_layer.specs.declared.translation.Translation.{Translation}
use Rattle.flat_model.specs.vnode_files.Files.{FilesSeen}
use Rattle.vm_world.specs.FramesFit.{HasSize}
use Rattle.vm_world.specs.TranslationsFit.{HasWritten, IsModified}
use Rattle.vm_world.specs.World.{World, world_table, is_unpushed, page_exists}

-- Each page that is home is modified, or clean: where its disk tells, it has the value that it would have without its frame, and no note writes it.
abbrev pub CleanFit : StoreSeen → List (Option Translation) → PlaceTable → Notes → Type 0
CleanFit store places table notes =
    (frame : ℕ) (name : PageName) → name_at store.names frame ≡ Some name → IsSome (bytes_at store.frames frame)
    → IsModified store places frame ⊎ IsClean store notes table frame name

-- The page was written since its push began: its row says so, or a translation of its frame.
abbrev pub WasRewritten : StoreSeen → List (Option Translation) → ℕ → Type 0
WasRewritten store places frame = IsTrue (was_rewritten store frame) ⊎ HasWritten places (own_frame store frame)

-- The page of a push has as many valid bytes as the note says, and where it is home, as beside a snapshot, the note's bytes.
pub record IsAsSent (store : StoreSeen) (table : PlaceTable) (note : Note) : Type 0 where
  pub valid : (table note.name).valid ≡ note.valid
  pub bytes : (bytes : List ℕ) → bytes_at store.frames (own_frame store note.frame) ≡ Some bytes → bytes ≡ note.bytes

-- A page that is being pushed counts as pushed: a file's page stops being blank, and a slot is marked, as its first push begins (where that fails, the
-- page is home and modified again). And the page was written since, or is as it was sent.
pub record PushFits (store : StoreSeen) (places : List (Option Translation)) (table : PlaceTable) (note : Note) : Type 0 where
  pub pushed : IsFalse (table note.name).blank
  pub same : WasRewritten store places note.frame ⊎ IsAsSent store table note

-- A push of a page that is gone does no harm: the page is a blank one of a file, or doesn't exist, or is home anew.
abbrev pub MayWriteGone : StoreSeen → FilesSeen → AnonSlotsSeen → PageName → Type 0
MayWriteGone store files anon name =
    (IsTrue (is_unpushed files anon name) × (name.object ≢ 64))
    ⊎ (IsFalse (page_exists files anon name) ⊎ ((frame : ℕ) × (residence store name ≡ Home frame)))

-- The notes say what is out; pages that aren't modified are clean; a page that is being pushed isn't blank, and is as it was sent or modified; pushes
-- of pages that are gone do no harm; and the disks that are out have their size.
pub record NotesFit (w : World) (notes : Notes) : Type 0 where
  pub stored : StoreFits w.store notes (world_table w)
  pub clean : CleanFit w.store w.hat.places (world_table w) notes
  pub pushes : (seat : ℕ) (note : Note) → notes seat ≡ Some note → note.writes ≡ true → ¬ IsGone w.store note.frame
      → PushFits w.store w.hat.places (world_table w) note
  pub gone : (seat : ℕ) (note : Note) → notes seat ≡ Some note → note.writes ≡ true → IsGone w.store note.frame
      → MayWriteGone w.store w.files w.anon note.name
  pub sizes : (seat : ℕ) (note : Note) → notes seat ≡ Some note
      → HasSize w.files.disks (length w.anon.counts) note.number note.disk.size
