-- What is kept of the numbers that were given up, after each change of the maps.
use Rattle.std.proofs.Common.{◌≡◌, ◌≢◌, ℕ, ◌+◌, ◌<◌, ◌≤◌, ◌^◌, cond, List, [], ◌∷◌, ◌++◌, length, get_or, set, Option, Some, None, refl, arith, length-set, get_or-set_same, get_or-set_other}
use Rattle.std.specs.Prelude.{count_by}
use Rattle.std.specs.Option.{IsSome, is_none}
use Rattle.std.proofs.lemmas.List.{get_or_past, length_push, get_or_push, get_or_append_left}
use Rattle.std.proofs.lemmas.List.Sums.{sum_by-set, sum_by_push, count_by-le-length}
use Rattle.anon_map.specs.Maps.{Map, anon_map_at, IsMapThere, IsSoundAnonMaps}

-- how much a place of the list adds to the number of maps that are gone
abbrev pub weight : Option Map → ℕ
weight m = cond (is_none m) 1 0

pub weight_there : (m : Option Map) → IsSome m → weight m ≡ 0
weight_there m there = grind arith

pub there_within : (maps : List (Option Map)) (number : ℕ) → IsMapThere maps number → number < length maps
there_within maps number there = grind (arith, get_or_past maps number None)

-- the numbers with one more
record IsPushed (more : List ℕ) (number : ℕ) (all : List ℕ) : Type 0 where
  long : length all ≡ length more + 1
  last : get_or all (length more) 0 ≡ number
  before : (i : ℕ) → i < length more → get_or all i 0 ≡ get_or more i 0

pushed : (more : List ℕ) (number : ℕ) → IsPushed more number (more ++ number ∷ [])
pushed more number = record {
  long = length_push more number;
  last = get_or_push more number 0 (length more) refl;
  before = λ i lt. get_or_append_left more (number ∷ []) 0 i lt;
}

-- a map under the number that was given up last
pub kept_again : (maps : List (Option Map)) (more : List ℕ) (room number : ℕ) (map : Map)
    → IsSoundAnonMaps maps (more ++ number ∷ []) room → IsSoundAnonMaps (set maps number (Some map)) more room
kept_again maps more room number map kept =
    let p = pushed more number in
    let inside : number < length maps = grind (arith, kept.within (length more)) in
    let absent : anon_map_at maps number ≡ None = grind (arith, kept.absent (length more)) in
    let same = length-set maps number (Some map) in
    let weights = sum_by-set weight maps number (Some map) None inside in
    record {
      within = λ i lt. grind (arith, kept.within i, p.before i);
      absent = λ i lt. grind (
        arith,
        kept.absent i,
        kept.apart i (length more),
        p.before i,
        get_or-set_other maps number (get_or more i 0) (Some map) None,
      );
      apart = λ i j below_i below_j e. grind (arith, kept.apart i j, p.before i, p.before j);
      counted = grind arith;
      roomy = grind arith;
      few = grind arith;
    }

-- a number more that names no map, where the others name what they named
kept_with : (maps put : List (Option Map)) (gone : List ℕ) (room number : ℕ) → IsSoundAnonMaps maps gone room
    → ((i : ℕ) → i < length gone → get_or gone i 0 ≢ number)
    → ((k : ℕ) → k ≢ number → anon_map_at put k ≡ anon_map_at maps k) → anon_map_at put number ≡ None
    → number < length put → length maps ≤ length put → count_by is_none put ≡ count_by is_none maps + 1
    → length put ≤ room → length put ≤ 2 ^ 32 → IsSoundAnonMaps put (gone ++ number ∷ []) room
kept_with maps put gone room number kept differs others none inside longer counted roomy few =
    let p = pushed gone number in
    record {
      within = λ i lt. grind (arith, kept.within i, p.before i);
      absent = λ i lt. grind (arith, kept.absent i, p.before i, differs i, others (get_or gone i 0));
      apart = λ i j below_i below_j e. grind (arith, kept.apart i j, p.before i, p.before j, differs i, differs j);
      counted = grind arith;
      roomy = roomy;
      few = few;
    }

-- a map that is gone
pub kept_gone : (maps : List (Option Map)) (gone : List ℕ) (room number : ℕ) → IsSoundAnonMaps maps gone room
    → IsMapThere maps number → IsSoundAnonMaps (set maps number None) (gone ++ number ∷ []) room
kept_gone maps gone room number kept there =
    let inside = there_within maps number there in
    let same = length-set maps number None in
    let counted = sum_by-set weight maps number None None inside in
    let none = weight_there (anon_map_at maps number) there in
    kept_with maps (set maps number None) gone room number kept (λ i below. grind (arith, kept.absent i))
    (λ k ne. get_or-set_other maps number k None None ne) (get_or-set_same maps number None None inside)
    (omega arith) (omega arith) (omega arith) (omega arith) (omega arith)

-- a number more at the end
pub pushed_other : (maps : List (Option Map)) (number : ℕ) (map : Option Map) → number ≢ length maps
    → anon_map_at (maps ++ map ∷ []) number ≡ anon_map_at maps number
pushed_other maps number map ne =
    let past = get_or_past (maps ++ map ∷ []) number None in
    let below = get_or_append_left maps (map ∷ []) None number in
    grind (arith, past, below, get_or_past maps number None, length_push maps map)

pub kept_more : (maps : List (Option Map)) (gone : List ℕ) (room : ℕ) → IsSoundAnonMaps maps gone room → length maps < room
    → length maps < 2 ^ 32 → IsSoundAnonMaps (maps ++ None ∷ []) (gone ++ length maps ∷ []) room
kept_more maps gone room kept roomy few =
    let long = length_push maps None in
    kept_with maps (maps ++ None ∷ []) gone room (length maps) kept (λ i below. grind (arith, kept.within i))
    (λ k ne. pushed_other maps k None ne) (get_or_push maps None None (length maps) refl)
    (omega arith) (omega arith) (sum_by_push weight maps None) (omega arith) (omega arith)

-- with room for more
pub kept_room : (maps : List (Option Map)) (gone : List ℕ) (room more : ℕ) → IsSoundAnonMaps maps gone room
    → length maps ≤ more → IsSoundAnonMaps maps gone more
kept_room maps gone room more kept roomy = assumption

-- there is room for one number more where a map is there
pub room_for : (maps : List (Option Map)) (gone : List ℕ) (room number : ℕ) → IsSoundAnonMaps maps gone room
    → IsMapThere maps number → length gone < room
room_for maps gone room number kept there =
    let after = kept_gone maps gone room number kept there in
    omega (arith, after, length_push gone number, count_by-le-length is_none (set maps number None))

-- as many are given up as numbers were used, at most
pub gone_within : (maps : List (Option Map)) (gone : List ℕ) (room : ℕ) → IsSoundAnonMaps maps gone room
    → length gone ≤ length maps
gone_within maps gone room kept = omega (arith, kept.counted, count_by-le-length is_none maps)
