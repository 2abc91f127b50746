-- Anon maps as segments are cut, come and go. Public clauses cite this.
use Rattle.std.specs.Prelude.{ℕ, ◌+◌, ◌-◌, ◌==◌, List, Option, Some, None, length, take, drop, replicate, slice_set, if◌then◌else◌}
use Rattle.anon_map.specs.Maps.{Map, places_of, holders_of, fresh_map, with_map, with_places, with_holders}

-- The maps with one cut in two before a place: it keeps the places below, and a new map has the others.
abbrev pub maps_cut : List (Option Map) → Option ℕ → ℕ → ℕ → List (Option Map)
maps_cut maps None number at = maps
maps_cut maps (Some own) number at = with_places (with_map maps number (fresh_map (drop at (places_of maps own)))) own (take at (places_of maps own))

-- The maps with a new one of so many empty places.
abbrev pub maps_made : List (Option Map) → Option ℕ → ℕ → List (Option Map)
maps_made maps None pages = maps
maps_made maps (Some number) pages = with_map maps number (fresh_map (replicate pages None))

-- The maps of which one has a holder more.
abbrev pub maps_held : List (Option Map) → Option ℕ → List (Option Map)
maps_held maps None = maps
maps_held maps (Some number) = with_holders maps number (holders_of maps number + 1)

-- The maps of which one has a holder less; with its last holder it is gone.
abbrev pub maps_released : List (Option Map) → Option ℕ → List (Option Map)
maps_released maps None = maps
maps_released maps (Some number) = if holders_of maps number == 1 then slice_set maps number None else with_holders maps number (holders_of maps number - 1)

-- How many places go with a map that loses a holder.
abbrev pub places_released : List (Option Map) → Option ℕ → ℕ
places_released maps None = 0
places_released maps (Some number) = if holders_of maps number == 1 then length (places_of maps number) else 0
