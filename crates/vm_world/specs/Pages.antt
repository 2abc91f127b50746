-- What flat memory sees of frames, slots and disks: a page for each name. Public clauses cite this.
use Rattle.std.specs.Prelude.{ℕ, ◌==◌, List, [], Option, if◌then◌else◌, option_map}
use Rattle.page_store.specs.page_hash.declared.PageName.{PageName}
use Rattle.page_store.specs.Notes.{Notes}
use Rattle.page_store.specs.Value.{value}
use Rattle.anon_map.specs.Maps.{Map}
use Rattle.flat_model.specs.Words.{Page}
use Rattle.vm_world.specs.World.{World, world_table, is_page_name, file_name, slot_name, slot_in}

-- The page at each index of each file, and the page of the slot that each place of each anon map holds.
pub record Contents : Type 0 where
  pub file : ℕ → ℕ → Page
  pub place : ℕ → ℕ → Option Page

-- The value of a name that is a page's, and nothing for any other.
abbrev pub page_value : World → Notes → PageName → Page
page_value w notes name = if is_page_name w.files w.anon name then value w.store notes (world_table w) name else []

-- The page at an index of a file; none of the number of the swap area, which no file has.
abbrev pub file_contents : (PageName → Page) → ℕ → ℕ → Page
file_contents page file index = if file == 64 then [] else page (file_name file index)

-- The page of the slot that a place of an anon map holds; none where it holds no slot.
abbrev pub place_contents : (PageName → Page) → List (Option Map) → ℕ → ℕ → Option Page
place_contents page maps number place = option_map (λ slot. page (slot_name slot)) (slot_in maps number place)

-- The contents that these pages make up, with these maps.
abbrev pub contents_by : (PageName → Page) → List (Option Map) → Contents
contents_by page maps = record { file = file_contents page; place = place_contents page maps }

-- The contents of the world, with what the seats have outside.
abbrev pub contents_of : World → Notes → Contents
contents_of w notes = contents_by (page_value w notes) w.maps
