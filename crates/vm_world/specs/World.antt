-- What lies below the segments, the names of its pages, and where these live on the disks. Public clauses cite this.
use Rattle.std.specs.Prelude.{ℕ, ◌==◌, Bool, false, not, if◌then◌else◌, nat_lt, List, length, map, Option, None, slice_index_or, IsTrue}
use Rattle.page_store.specs.page_hash.declared.PageName.{PageName}
use Rattle.page_store.specs.Layout.{FileBlocks, table_of}
use Rattle.page_store.specs.Notes.{Notes}
use Rattle.page_store.specs.Seen.{StoreSeen}
use Rattle.page_store.specs.Table.{PlaceTable}
use Rattle.page_store.specs.Value.{tells}
use Rattle.anon_slots.specs.Slots.{AnonSlotsSeen, count_at, is_used}
use Rattle.anon_map.specs.Maps.{Map, places_of}
use Rattle.hat_layer.specs.Pool.{HatSeen}
use Rattle.flat_model.specs.vnode_files.Files.{FilesSeen, vnode_at}
use Rattle.flat_model.specs.vnode_files.Grow.{page_count}
use Rattle.flat_model.specs.vnode_files.Vnode.{VnodeSeen, page_blocks, is_blank}
use Rattle.flat_model.specs.Words.{pages_in}
use Rattle.vm_world.specs.declared.world.World as rust

-- The page store, the swap slots, the anon maps, the translations and the files.
pub record World : Type 0 where
  pub store : StoreSeen
  pub anon : AnonSlotsSeen
  pub maps : List (Option Map)
  pub hat : HatSeen
  pub files : FilesSeen

-- The world that specs see of the struct.
abbrev pub world_seen : {D : Type 0} → rust.World D → World
world_seen w = record { store = w.store; anon = w.anon; maps = w.maps; hat = w.hat; files = w.files }

-- What of the store no event changes: the core of its frames, and the order of its disks.
pub record StoreCore : Type 0 where
  pub origin : ℕ
  pub order : List ℕ

-- What of this store no event changes.
abbrev pub core_of : StoreSeen → StoreCore
core_of s = record { origin = s.origin; order = s.order }

-- The name of a page of a file.
abbrev pub file_name : ℕ → ℕ → PageName
file_name file page = record { object = file; page = page }

-- The name of a slot's page: the swap area is object 64.
abbrev pub slot_name : ℕ → PageName
slot_name slot = record { object = 64; page = slot }

-- The slot at a place of an anon map.
abbrev pub slot_in : List (Option Map) → ℕ → ℕ → Option ℕ
slot_in maps number place = slice_index_or (places_of maps number) place None

-- A file as the table of places sees it.
abbrev pub file_blocks : VnodeSeen → FileBlocks
file_blocks v = record { disk = v.info.disk; length = v.info.length; blocks = page_blocks v.info.extents }

-- The page was never pushed: a blank page of a file, or a slot of which no page was pushed. Such a page is zeros, whatever its block holds.
abbrev pub is_unpushed : FilesSeen → AnonSlotsSeen → PageName → Bool
is_unpushed files anon name =
    if name.object == 64 then not (slice_index_or anon.swapped name.page false) else is_blank (vnode_at files name.object) name.page

-- Where each page lives, by the files and the slots.
abbrev pub page_table : FilesSeen → AnonSlotsSeen → PlaceTable
page_table files anon = table_of (map file_blocks files.files) (length anon.counts) (is_unpushed files anon)

-- Where each page of the world lives.
abbrev pub world_table : World → PlaceTable
world_table w = page_table w.files w.anon

-- The name is that of a page which a file keeps, or of a slot.
abbrev pub is_page_name : FilesSeen → AnonSlotsSeen → PageName → Bool
is_page_name files anon name =
    if name.object == 64 then nat_lt name.page (length anon.counts)
    else nat_lt name.page (page_count (vnode_at files name.object).info.extents)

-- The page exists: it lies below its file's length, or some map place holds its slot.
abbrev pub page_exists : FilesSeen → AnonSlotsSeen → PageName → Bool
page_exists files anon name =
    if name.object == 64 then is_used (count_at anon name.page)
    else nat_lt name.page (pages_in (vnode_at files name.object).info.length)

-- Every disk that has a page tells its content.
abbrev pub AllTell : World → Notes → Type 0
AllTell w notes = (name : PageName) → IsTrue (is_page_name w.files w.anon name) → IsTrue (tells w.store notes (world_table w name).disk)
