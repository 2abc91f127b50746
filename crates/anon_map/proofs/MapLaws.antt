-- What each number names after a change of the maps, for the crates above.
use Rattle.std.proofs.Common.{◌≡◌, ◌≢◌, ℕ, ◌+◌, ◌<◌, List, ◌++◌, length, set, Option, Some, None, arith, replicate, get_or-set_same, get_or-set_other}
use Rattle.std.proofs.lemmas.Bool.Decides.{nat_tests}
use Rattle.std.proofs.lemmas.List.{get_or_push}
use Rattle.std.proofs.lemmas.List.Folds.{sum_by-replicate}
use Rattle.std.proofs.lemmas.List.Sums.{sum_by-set, sum_by-append}
use Rattle.anon_map.specs.Maps.{Map, anon_map_at, the_map, IsMapThere, IsUnused, with_map, with_places, with_holders, free_numbers}
use Rattle.anon_map.proofs.KeptLemmas.{weight, weight_there, pushed_other, there_within}

pub with_map_same : (maps : List (Option Map)) (number : ℕ) (map : Map) → IsUnused maps number
    → anon_map_at (with_map maps number map) number ≡ Some map
with_map_same maps number map unused =
    let set = get_or-set_same maps number (Some map) None in
    grind (arith, nat_tests, set, get_or_push maps (Some map) None number)

pub with_map_other : (maps : List (Option Map)) (number other : ℕ) (map : Map) → IsUnused maps number → other ≢ number
    → anon_map_at (with_map maps number map) other ≡ anon_map_at maps other
with_map_other maps number other map unused ne =
    let set = get_or-set_other maps number other (Some map) None in
    grind (arith, nat_tests, set, pushed_other maps other (Some map))

-- a number that no map has is another than that of a map
pub there_apart : (maps : List (Option Map)) (number unused : ℕ) → IsMapThere maps number → IsUnused maps unused
    → number ≢ unused
there_apart maps number unused there none = grind arith

pub with_places_same : (maps : List (Option Map)) (number : ℕ) (places : List (Option ℕ)) → IsMapThere maps number
    → anon_map_at (with_places maps number places) number ≡ Some (record (the_map maps number) { places = places })
with_places_same maps number places there = get_or-set_same maps number _ None (there_within maps number there)

pub with_places_other : (maps : List (Option Map)) (number other : ℕ) (places : List (Option ℕ)) → other ≢ number
    → anon_map_at (with_places maps number places) other ≡ anon_map_at maps other
with_places_other maps number other places ne = get_or-set_other maps number other _ None ne

pub with_holders_same : (maps : List (Option Map)) (number holders : ℕ) → IsMapThere maps number
    → anon_map_at (with_holders maps number holders) number ≡ Some (record (the_map maps number) { holders = holders })
with_holders_same maps number holders there = get_or-set_same maps number _ None (there_within maps number there)

-- how many numbers are free
set_free : (maps : List (Option Map)) (number : ℕ) (map : Option Map) → number < length maps
    → free_numbers (set maps number map) + weight (anon_map_at maps number) ≡ free_numbers maps + weight map
set_free maps number map inside = omega (arith, sum_by-set weight maps number map None inside)

kept_free : (maps : List (Option Map)) (number : ℕ) (map : Map) → IsMapThere maps number
    → free_numbers (set maps number (Some map)) ≡ free_numbers maps
kept_free maps number map there =
    let was = weight_there (anon_map_at maps number) there in
    omega (arith, was, set_free maps number (Some map) (there_within maps number there))

pub with_places_free : (maps : List (Option Map)) (number : ℕ) (places : List (Option ℕ)) → IsMapThere maps number
    → free_numbers (with_places maps number places) ≡ free_numbers maps
with_places_free maps number places there = kept_free maps number _ there

pub with_holders_free : (maps : List (Option Map)) (number holders : ℕ) → IsMapThere maps number
    → free_numbers (with_holders maps number holders) ≡ free_numbers maps
with_holders_free maps number holders there = kept_free maps number _ there

pub without_free : (maps : List (Option Map)) (number : ℕ) → IsMapThere maps number
    → free_numbers (set maps number None) ≡ free_numbers maps + 1
without_free maps number there =
    let was = weight_there (anon_map_at maps number) there in
    omega (arith, was, set_free maps number None (there_within maps number there))

pub more_free : (maps : List (Option Map)) (more : ℕ) → free_numbers (maps ++ replicate more None) ≡ free_numbers maps + more
more_free maps more =
    let sum = sum_by-append weight maps (replicate more None) in
    omega (arith, sum, sum_by-replicate weight more None)
