-- Anon maps by number. Public clauses cite this.
use Rattle.std.specs.Prelude.{◌≡◌, ℕ, ◌<◌, ◌≤◌, ◌^◌, List, [], ◌∷◌, ◌++◌, length, Option, Some, None, IsSome, is_none, count_by, slice_index, slice_index_or}
use Rattle.std.specs.Prelude.{slice_set, unwrap_or, nat_lt, if◌then◌else◌}

-- the optional slots of a map, and how many hold it
pub record Map : Type 0 where
  pub places : List (Option ℕ)
  pub holders : ℕ

-- a map with these places and one holder
abbrev pub fresh_map : List (Option ℕ) → Map
fresh_map places = record { places = places; holders = 1 }

-- the map of a number, if it is there
abbrev pub anon_map_at : List (Option Map) → ℕ → Option Map
anon_map_at maps number = slice_index_or maps number None

-- a map has the number
abbrev pub IsMapThere : List (Option Map) → ℕ → Type 0
IsMapThere maps number = IsSome (anon_map_at maps number)

-- the map of a number, or an empty one where there is none
abbrev pub the_map : List (Option Map) → ℕ → Map
the_map maps number = unwrap_or (anon_map_at maps number) (record { places = []; holders = 0 })

-- the places of the map of a number
abbrev pub places_of : List (Option Map) → ℕ → List (Option ℕ)
places_of maps number = (the_map maps number).places

-- how many hold the map of a number
abbrev pub holders_of : List (Option Map) → ℕ → ℕ
holders_of maps number = (the_map maps number).holders

-- no map has the number, which is one that was used or the next
pub record IsUnused (maps : List (Option Map)) (number : ℕ) : Type 0 where
  pub absent : anon_map_at maps number ≡ None
  pub next : number ≤ length maps

-- no map is gone
abbrev pub AllThere : List (Option Map) → Type 0
AllThere maps = (number : ℕ) → number < length maps → IsMapThere maps number

-- no place has a slot
abbrev pub AreEmpty : List (Option ℕ) → Type 0
AreEmpty places = (i : ℕ) → slice_index_or places i None ≡ None

-- how many of the numbers that were used name no map
abbrev pub free_numbers : List (Option Map) → ℕ
free_numbers maps = count_by is_none maps

-- the maps with this one under a number that was used or is the next
abbrev pub with_map : List (Option Map) → ℕ → Map → List (Option Map)
with_map maps number map = if nat_lt number (length maps) then slice_set maps number (Some map) else maps ++ Some map ∷ []

-- the maps with other places of one map
abbrev pub with_places : List (Option Map) → ℕ → List (Option ℕ) → List (Option Map)
with_places maps number places = slice_set maps number (Some (record (the_map maps number) { places = places }))

-- the maps with another number of holders of one map
abbrev pub with_holders : List (Option Map) → ℕ → ℕ → List (Option Map)
with_holders maps number holders = slice_set maps number (Some (record (the_map maps number) { holders = holders }))

-- the numbers given up are those of the maps that are gone, each once, and there is room for all
pub record IsSoundAnonMaps (maps : List (Option Map)) (gone : List ℕ) (room : ℕ) : Type 0 where
  pub within : (i : ℕ) → i < length gone → slice_index gone i < length maps
  pub absent : (i : ℕ) → i < length gone → anon_map_at maps (slice_index gone i) ≡ None
  pub apart : (i j : ℕ) → i < length gone → j < length gone → slice_index gone i ≡ slice_index gone j → i ≡ j
  pub counted : length gone ≡ count_by is_none maps
  pub roomy : length maps ≤ room
  pub few : length maps ≤ 2 ^ 32
