-- The first push of a page: from its begin on the page counts as pushed. Public clauses cite this.
use Rattle.std.specs.Prelude.{◌==◌, true, false, if◌then◌else◌, slice_set}
use Rattle.page_store.specs.page_hash.declared.PageName.{PageName}
use Rattle.vm_world.specs.anon_slots.Slots.{AnonSlotsSeen}
use Rattle.vm_world.specs.vnode_files.Files.{FilesSeen, vnode_at, with_vnode}
use Rattle.vm_world.specs.vnode_files.Vnode.{with_blank}

-- The slots, of which one page more was pushed, where the name is a slot's.
abbrev pub slots_pushed : AnonSlotsSeen → PageName → AnonSlotsSeen
slots_pushed anon name = if name.object == 64 then record anon { swapped = slice_set anon.swapped name.page true } else anon

-- The files, of which one page more isn't blank, where the name is that of a file's page.
abbrev pub files_pushed : FilesSeen → PageName → FilesSeen
files_pushed files name = if name.object == 64 then files else with_vnode files name.object (with_blank (vnode_at files name.object) name.page false)
