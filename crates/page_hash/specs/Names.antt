-- Names by frame: a partial map, one to one. Public clauses cite this.
use Rattle.std.specs.Prelude.{◌≡◌, ℕ, ◌==◌, ◌&&◌, Bool, false, if◌then◌else◌, List, [], ◌∷◌, Option, Some, None, slice_index_or, slice_set, suc}
use Rattle.std.specs.Option.{option_map}
use Rattle.page_hash.specs.declared.PageName.{PageName}

-- the name that a frame holds; none past the last frame
abbrev pub name_at : List (Option PageName) → ℕ → Option PageName
name_at names frame = slice_index_or names frame None

-- what a frame holds is this name
abbrev pub is_name : Option PageName → PageName → Bool
is_name None name = false
is_name (Some held) name = (held.object == name.object) && (held.page == name.page)

-- the first frame that holds a name
abbrev pub find : List (Option PageName) → PageName → Option ℕ
find [] name = None
find (held ∷ more) name = if is_name held name then Some 0 else option_map suc (find more name)

-- no two frames hold one name
abbrev pub AreDistinct : List (Option PageName) → Type 0
AreDistinct names = (i j : ℕ) (name : PageName) → name_at names i ≡ Some name → name_at names j ≡ Some name → i ≡ j

-- the names with one frame emptied, where there is one to empty
abbrev pub without_name : List (Option PageName) → Option ℕ → List (Option PageName)
without_name names None = names
without_name names (Some frame) = slice_set names frame None
