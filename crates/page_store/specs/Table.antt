-- Where pages live on the disks: the table of a machine, by name. Public clauses cite this.
use Rattle.std.specs.Prelude.{◌≡◌}
use Rattle.page_hash.specs.declared.PageName.{PageName}
use Rattle.page_store.specs.declared.place.Place.{Place}

-- For each name its disk, its block there, how many of the block's bytes are the page's own, and whether the page is
-- blank, that is, zeros whatever the block holds. Callers choose it; every law holds for every table.
abbrev pub PlaceTable : Type 0
PlaceTable = PageName → Place

-- No two names share a block.
abbrev pub IsApart : PlaceTable → Type 0
IsApart table = (m n : PageName) → (table m).disk ≡ (table n).disk → (table m).block ≡ (table n).block → m ≡ n
