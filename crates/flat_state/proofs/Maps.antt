-- The entries of trees, as finite maps.
use Rattle.flat_model.proofs.Ranges.{option_map-cond as map_cond, same_value}
use Rattle.std.proofs.Common.{◌≡◌, ℕ, cond, List, [], ◌∷◌, map, Option, Some, None, refl, sym, ap, ◌∙◌}
use Rattle.std.specs.Prelude.{option_map, option_copied}
use Rattle.std.specs.Borrow.{Bor}
use Rattle.std.specs.Ordering.{nat_cmp, is_eq, eq_by_cmp}
use Rattle.std.specs.Cmp.{nat_cmp_total, eq_by_cmp_equiv, unsigned_tied}
use Rattle.std.proofs.lemmas.Bool.{eqb-true}
use Rattle.std.specs.Map.{lookup}
use Rattle.std.specs.BTreeMap.{is_at}
use Rattle.std.specs.FinMap as map

find_mapped : {X Y : Type 0} (f : X → Y) (es : List (ℕ × X)) (q : ℕ) → map.find nat_cmp q (map (λ e. (e.0, f e.1)) es) ≡ option_map f (lookup (is_at (nat_cmp q)) es)
find_mapped f [] q = refl
find_mapped f (e ∷ es) q = ap (cond (is_eq (nat_cmp q e.0)) (Some (f e.1))) (find_mapped f es q) ∙ map_cond f (is_eq (nat_cmp q e.0)) e.1 (lookup (is_at (nat_cmp q)) es)

-- what the finite map of a map's entries has at a key
pub get_mapped : {X Y : Type 0} (f : X → Y) (es : List (ℕ × X)) (q : ℕ) → map.get (map.from_entries {R = nat_cmp} (map (λ e. (e.0, f e.1)) es)) q ≡ option_map f (lookup (is_at (nat_cmp q)) es)
get_mapped f es q = map.get-from_entries nat_cmp_total (map (λ e. (e.0, f e.1)) es) q ∙ find_mapped f es q

pub mapped_copied : {X Y : Type 0} (f : X → Y) (r : Option (Bor X)) → option_map (λ x. f x.now) r ≡ option_map f (option_copied r)
mapped_copied f None = refl
mapped_copied f (Some x) = refl

-- entries that differ at one key make maps that differ there
pub mapped_insert : {X Y : Type 0} (f : X → Y) (es fs : List (ℕ × X)) (k : ℕ) (v : X) → ((q : ℕ) → lookup (is_at (nat_cmp q)) fs ≡ cond (is_at (nat_cmp k) q) (Some v) (lookup (is_at (nat_cmp q)) es)) → map.from_entries {R = nat_cmp} (map (λ e. (e.0, f e.1)) fs) ≡ map.insert (map.from_entries (map (λ e. (e.0, f e.1)) es)) k (f v)
mapped_insert f es fs k v h = map.same_map nat_cmp_total map.nat_cmp-IsAntisymmetric _ _ (λ q.
    get_mapped f fs q ∙ ap (option_map f) (h q) ∙ sym (map_cond f (is_at (nat_cmp k) q) v (lookup (is_at (nat_cmp q)) es))
    ∙ ap (λ b. cond b (Some (f v)) (option_map f (lookup (is_at (nat_cmp q)) es))) ((eq_by_cmp_equiv nat_cmp_total).symm k q)
    ∙ sym (map.get-insert nat_cmp_total (map.from_entries (map (λ e. (e.0, f e.1)) es)) k (f v) q ∙ ap (cond (eq_by_cmp nat_cmp q k) (Some (f v))) (get_mapped f es q)))

find_at : {X : Type 0} (es : List (ℕ × X)) (q : ℕ) → map.find nat_cmp q es ≡ lookup (is_at (nat_cmp q)) es
find_at [] q = refl
find_at (e ∷ es) q = ap (cond (is_eq (nat_cmp q e.0)) (Some e.1)) (find_at es q)

pub get_at : {X : Type 0} (es : List (ℕ × X)) (q : ℕ) → map.get (map.from_entries {R = nat_cmp} es) q ≡ lookup (is_at (nat_cmp q)) es
get_at es q = map.get-from_entries nat_cmp_total es q ∙ find_at es q

-- the same where the values are seen as they are
pub insert_at : {X : Type 0} (es fs : List (ℕ × X)) (k : ℕ) (v : X) → ((q : ℕ) → lookup (is_at (nat_cmp q)) fs ≡ cond (is_at (nat_cmp k) q) (Some v) (lookup (is_at (nat_cmp q)) es)) → map.from_entries {R = nat_cmp} fs ≡ map.insert (map.from_entries es) k v
insert_at es fs k v h = map.same_map nat_cmp_total map.nat_cmp-IsAntisymmetric _ _ (λ q.
    get_at fs q ∙ h q ∙ ap (λ b. cond b (Some v) (lookup (is_at (nat_cmp q)) es)) ((eq_by_cmp_equiv nat_cmp_total).symm k q)
    ∙ sym (map.get-insert nat_cmp_total (map.from_entries es) k v q ∙ ap (cond (eq_by_cmp nat_cmp q k) (Some v)) (get_at es q)))

-- a value that is put back changes nothing
pub insert_same : {X : Type 0} (m : map.FinMap nat_cmp X) (k : ℕ) (v : X) → map.get m k ≡ Some v → map.insert m k v ≡ m
insert_same m k v is = map.same_map nat_cmp_total map.nat_cmp-IsAntisymmetric _ _ (λ q.
    map.get-insert nat_cmp_total m k v q ∙ same_value (eq_by_cmp nat_cmp q k) (Some v) (map.get m q) (λ tied. ap (map.get m) (eqb-true q k (sym (unsigned_tied q k) ∙ tied)) ∙ is))
