-- The trees of the slow form, as finite maps: their entries in order, a copy, a key that goes, and keys that stay.
use Rattle.std.proofs.Common.{◌≡◌, ℕ, Bool, true, false, cond, ◌&&◌, ◌||◌, T, List, [], ◌∷◌, map, Option, Some, None, refl, sym, ap, subst, ◌∙◌, Less, arith}
use Rattle.std.specs.Prelude.{slice_get, ◌==◌, ◌+◌, sum_by, option_map, filter, is_some, length, slice_set, slice_index_or, ◌<◌, ◌≤◌, zero, suc}
use Rattle.std.specs.FinSet as set
use Rattle.flat_model.specs.vnode_files.declared.extent.Extent.{Extent}
use Rattle.flat_model.specs.Access.{with_change_at}
use Rattle.std.specs.Option.{option_map_or}
use Rattle.std.specs.List.{AllZip, AllByRecursion, list_any}
use Rattle.std.specs.List.Sorted.{IsStrictlySortedBy}
use Rattle.std.specs.Ordering.{nat_cmp, is_lt, eq_by_cmp}
use Rattle.std.specs.Cmp.{nat_cmp_total, eq_by_cmp_equiv, unsigned_tied}
use Rattle.std.specs.Map.{keys_of, values_of, lookup}
use Rattle.std.specs.BTreeMap.{is_at}
use Rattle.std.specs.FinMap as finite
use Rattle.std.specs.FinMap.{is_sorted}
use Rattle.std.specs.FinMap.Entries.{below_all}
use Rattle.std.proofs.lemmas.Bool.{eqb-true}
use Rattle.std.proofs.lemmas.List.Sums.{sum_by-cons}
use Rattle.std.proofs.lemmas.Map.Entries.{lookup-filter-keys}
use Rattle.flat_model.specs.vm_types.declared.call.Object.{Object}
use Rattle.flat_model.specs.vm_types.declared.call.Object.TheVariants as object
use Rattle.flat_model.specs.Words.{Page}
use Rattle.flat_model.specs.Flat.{File, Space, Flat, zero_of}
use Rattle.flat_state.specs.Cells.{is_zero, names}
use Rattle.flat_model.specs.Spaces.{names_zero}
use Rattle.flat_model.proofs.Named.{is_named-spaces, any_alike}
use Rattle.flat_state.proofs.Maps.{get_mapped, get_at}
use Rattle.flat_model.proofs.Ranges.{get-retain_keys}

both : (a b : Bool) → T a → T b → T (a && b)
both true b p q = q
both false b p q = absurd p

less : (x y : ℕ) → nat_cmp x y ≡ Less → T (is_lt (nat_cmp x y))
less x y is = subst (λ r. T (is_lt r)) (sym is) tt

is_below : {X : Type 0} (k : ℕ) (es : List (ℕ × X)) → AllByRecursion (λ y. nat_cmp k y ≡ Less) (keys_of es) → T (below_all nat_cmp k es)
is_below k [] h = tt
is_below k (e ∷ es) h = both _ _ (less k e.0 h.0) (is_below k es h.1)

-- entries whose keys ascend are sorted
pub sorted_entries : {X : Type 0} (es : List (ℕ × X)) → IsStrictlySortedBy nat_cmp (keys_of es) → T (is_sorted nat_cmp es)
unfolding IsStrictlySortedBy
sorted_entries [] h = tt
sorted_entries (e ∷ es) h = both _ _ (is_below e.0 es h.0) (sorted_entries es h.1)

keys_mapped : {X Y : Type 0} (f : X → Y) (es : List (ℕ × X)) → keys_of (map (λ e. (e.0, f e.1)) es) ≡ keys_of es
keys_mapped f [] = refl
keys_mapped f (e ∷ es) = ap (λ ks. e.0 ∷ ks) (keys_mapped f es)

-- a tree's entries are those of its finite map
pub entries_plain : {X : Type 0} (es : List (ℕ × X)) → IsStrictlySortedBy nat_cmp (keys_of es) → finite.entries (finite.from_entries {R = nat_cmp} es) ≡ es
entries_plain es sorted =
    let s = sorted_entries es sorted in
    ap finite.entries (finite.same_map nat_cmp_total finite.nat_cmp-IsAntisymmetric (finite.from_entries es) (finite.from_sorted es) (λ q.
    finite.get-from_entries nat_cmp_total es q ∙ sym (finite.get-from_sorted nat_cmp es q s)))
    ∙ finite.entries-from_sorted nat_cmp es s

pub entries_mapped : {X Y : Type 0} (f : X → Y) (es : List (ℕ × X)) → IsStrictlySortedBy nat_cmp (keys_of es) → finite.entries (finite.from_entries {R = nat_cmp} (map (λ e. (e.0, f e.1)) es)) ≡ map (λ e. (e.0, f e.1)) es
entries_mapped f es sorted = entries_plain (map (λ e. (e.0, f e.1)) es) (subst (IsStrictlySortedBy nat_cmp) (sym (keys_mapped f es)) sorted)

-- the entries with f of each value
abbrev pub each : {X Y : Type 0} → (X → Y) → List (ℕ × X) → List (ℕ × Y)
each f es = map (λ e. (e.0, f e.1)) es

values_in : {X Y : Type 0} (f : X → Y) (es : List (ℕ × X)) → values_of (each f es) ≡ map f (values_of es)
values_in f [] = refl
values_in f (e ∷ es) = ap (λ vs. f e.1 ∷ vs) (values_in f es)

-- and so are its values
pub values_mapped : {X Y : Type 0} (f : X → Y) (es : List (ℕ × X)) → IsStrictlySortedBy nat_cmp (keys_of es) → finite.values (finite.from_entries {R = nat_cmp} (map (λ e. (e.0, f e.1)) es)) ≡ map f (values_of es)
values_mapped f es sorted = ap values_of (entries_mapped f es sorted) ∙ values_in f es

pub values_plain : {X : Type 0} (es : List (ℕ × X)) → IsStrictlySortedBy nat_cmp (keys_of es) → finite.values (finite.from_entries {R = nat_cmp} es) ≡ values_of es
values_plain es sorted = ap values_of (entries_plain es sorted)

-- a copy stands for the same map
pub mapped_clone : {X Y : Type 0} (f : X → Y) (C : ℕ → ℕ → Type 0) (D : X → X → Type 0) → ((x y : ℕ) → C x y → y ≡ x) → ((v w : X) → D v w → f w ≡ f v) → (es fs : List (ℕ × X)) → AllZip (λ p q. C p.0 q.0 × D p.1 q.1) es fs → each f fs ≡ each f es
mapped_clone f C D same alike [] [] h = refl
mapped_clone f C D same alike [] (g ∷ fs) h = absurd h
mapped_clone f C D same alike (e ∷ es) [] h = absurd h
mapped_clone {Y = Y} f C D same alike (e ∷ es) (g ∷ fs) h =
    let key = same e.0 g.0 h.0.0 in
    let value = alike e.1 g.1 h.0.1 in
    let rest = mapped_clone f C D same alike es fs h.1 in
    let first : ◌≡◌ {A = ℕ × Y} (g.0, f g.1) (e.0, f e.1) = λ i. (key i, value i) in
    λ i. first i ∷ rest i

-- a key that goes
pub mapped_remove : {X Y : Type 0} (f : X → Y) (es fs : List (ℕ × X)) (k : ℕ) → ((q : ℕ) → lookup (is_at (nat_cmp q)) fs ≡ cond (is_at (nat_cmp k) q) None (lookup (is_at (nat_cmp q)) es)) → finite.from_entries {R = nat_cmp} (map (λ e. (e.0, f e.1)) fs) ≡ finite.remove (finite.from_entries (map (λ e. (e.0, f e.1)) es)) k
mapped_remove f es fs k h = finite.same_map nat_cmp_total finite.nat_cmp-IsAntisymmetric _ _ (λ q.
    get_mapped f fs q ∙ ap (option_map f) (h q) ∙ gone (is_at (nat_cmp k) q) (lookup (is_at (nat_cmp q)) es)
    ∙ ap (λ b. cond b None (option_map f (lookup (is_at (nat_cmp q)) es))) ((eq_by_cmp_equiv nat_cmp_total).symm k q)
    ∙ sym (finite.get-remove nat_cmp_total (finite.from_entries (map (λ e. (e.0, f e.1)) es)) k q ∙ ap (cond (eq_by_cmp nat_cmp q k) None) (get_mapped f es q)))
  where
    gone : (b : Bool) (r : Option _) → option_map f (cond b None r) ≡ cond b None (option_map f r)
    gone true r = refl
    gone false r = refl

pub plain_remove : {X : Type 0} (es fs : List (ℕ × X)) (k : ℕ) → ((q : ℕ) → lookup (is_at (nat_cmp q)) fs ≡ cond (is_at (nat_cmp k) q) None (lookup (is_at (nat_cmp q)) es)) → finite.from_entries {R = nat_cmp} fs ≡ finite.remove (finite.from_entries es) k
plain_remove es fs k h = finite.same_map nat_cmp_total finite.nat_cmp-IsAntisymmetric _ _ (λ q.
    get_at fs q ∙ h q
    ∙ ap (λ b. cond b None (lookup (is_at (nat_cmp q)) es)) ((eq_by_cmp_equiv nat_cmp_total).symm k q)
    ∙ sym (finite.get-remove nat_cmp_total (finite.from_entries es) k q ∙ ap (cond (eq_by_cmp nat_cmp q k) None) (get_at es q)))

-- the keys that pass a test stay
pub mapped_filter : {X Y : Type 0} (f : X → Y) (p : ℕ → Bool) (es : List (ℕ × X)) → finite.from_entries {R = nat_cmp} (map (λ e. (e.0, f e.1)) (filter (λ e. p e.0) es)) ≡ finite.retain_keys (finite.from_entries (map (λ e. (e.0, f e.1)) es)) p
mapped_filter f p es = finite.same_map nat_cmp_total finite.nat_cmp-IsAntisymmetric _ _ (λ q.
    get_mapped f (filter (λ e. p e.0) es) q
    ∙ ap (option_map f) (lookup-filter-keys (is_at (nat_cmp q)) p (p q) (λ k is. ap p (sym (eqb-true q k (sym (unsigned_tied q k) ∙ is)))) es)
    ∙ kept (p q) (lookup (is_at (nat_cmp q)) es)
    ∙ sym (get-retain_keys (finite.from_entries (map (λ e. (e.0, f e.1)) es)) p q ∙ ap (λ o. cond (p q) o None) (get_mapped f es q)))
  where
    kept : (b : Bool) (r : Option _) → option_map f (cond b r None) ≡ cond b (option_map f r) None
    kept true r = refl
    kept false r = refl

pub plain_filter : {X : Type 0} (p : ℕ → Bool) (es : List (ℕ × X)) → finite.from_entries {R = nat_cmp} (filter (λ e. p e.0) es) ≡ finite.retain_keys (finite.from_entries es) p
plain_filter p es = finite.same_map nat_cmp_total finite.nat_cmp-IsAntisymmetric _ _ (λ q.
    get_at (filter (λ e. p e.0) es) q
    ∙ lookup-filter-keys (is_at (nat_cmp q)) p (p q) (λ k is. ap p (sym (eqb-true q k (sym (unsigned_tied q k) ∙ is)))) es
    ∙ sym (get-retain_keys (finite.from_entries es) p q ∙ ap (λ o. cond (p q) o None) (get_at es q)))

-- a copy has the same entries
pub plain_clone : {X : Type 0} (C : ℕ → ℕ → Type 0) (D : X → X → Type 0) → ((x y : ℕ) → C x y → y ≡ x) → ((v w : X) → D v w → w ≡ v) → (es fs : List (ℕ × X)) → AllZip (λ p q. C p.0 q.0 × D p.1 q.1) es fs → fs ≡ es
plain_clone C D same alike [] [] h = refl
plain_clone C D same alike [] (g ∷ fs) h = absurd h
plain_clone C D same alike (e ∷ es) [] h = absurd h
plain_clone {X} C D same alike (e ∷ es) (g ∷ fs) h =
    let key = same e.0 g.0 h.0.0 in
    let value = alike e.1 g.1 h.0.1 in
    let rest = plain_clone C D same alike es fs h.1 in
    let first : ◌≡◌ {A = ℕ × X} g e = λ i. (key i, value i) in
    λ i. first i ∷ rest i

-- a test of f of each
pub any_map : {X Y : Type 0} (t : Y → Bool) (f : X → Y) (xs : List X) → list_any t (map f xs) ≡ list_any (λ x. t (f x)) xs
any_map t f [] = refl
any_map t f (x ∷ xs) = ap (λ b. t (f x) || b) (any_map t f xs)

names_object : (z : ℕ) (o : Object) → option_map_or (λ y. z == y) (elim o [ object.Zero y ↦ Some y | object.File f ↦ None | object.NewZero ↦ None ]) false ≡ is_zero z o
names_object z (object.Zero y) = refl
names_object z (object.File f) = refl
names_object z object.NewZero = refl

unfoldable pub flat_with : finite.FinMap nat_cmp Space → Flat
flat_with spaces = record { slots = 0; disks = finite.empty; files = []; zeros = finite.empty; spaces = spaces; born = finite.empty }

-- some cell names the zero object, space by space
pub named_in_is : (spaces : finite.FinMap nat_cmp Space) (z : ℕ) → names_zero spaces z ≡ list_any (λ space. list_any (names z) (finite.values space)) (finite.values spaces)
unfolding flat_with
named_in_is spaces z = is_named-spaces (flat_with spaces) z
    ∙ any_alike (λ space. list_any (λ c. option_map_or (λ y. z == y) (zero_of c) false) (finite.values space)) (λ space. list_any (names z) (finite.values space)) (finite.values spaces)
    (λ space. any_alike (λ c. option_map_or (λ y. z == y) (zero_of c) false) (names z) (finite.values space) (λ c. names_object z c.object))

some_of : {X : Type 0} (b : Bool) (x : X) (r : Option X) → is_some (cond b (Some x) r) ≡ (b || is_some r)
some_of true x r = refl
some_of false x r = refl

any_key : {X : Type 0} (es : List (ℕ × X)) (q : ℕ) → list_any (eq_by_cmp nat_cmp q) (keys_of es) ≡ is_some (lookup (is_at (nat_cmp q)) es)
any_key [] q = refl
any_key (e ∷ es) q = ap (λ b. eq_by_cmp nat_cmp q e.0 || b) (any_key es q) ∙ sym (some_of (eq_by_cmp nat_cmp q e.0) e.1 (lookup (is_at (nat_cmp q)) es))

pub has_key : {X : Type 0} (es : List (ℕ × X)) (q : ℕ) → set.contains (set.from_list {R = nat_cmp} (keys_of es)) q ≡ is_some (lookup (is_at (nat_cmp q)) es)
has_key es q = set.contains-from_list nat_cmp_total (keys_of es) q ∙ any_key es q

-- the keys of a tree with one more
pub keys_insert : {X : Type 0} (es fs : List (ℕ × X)) (k : ℕ) (v : X) → ((q : ℕ) → lookup (is_at (nat_cmp q)) fs ≡ cond (is_at (nat_cmp k) q) (Some v) (lookup (is_at (nat_cmp q)) es)) → set.from_list {R = nat_cmp} (keys_of fs) ≡ set.insert (set.from_list (keys_of es)) k
keys_insert es fs k v h = set.same_set nat_cmp_total set.nat_cmp-IsAntisymmetric _ _ (λ q.
    has_key fs q ∙ ap is_some (h q) ∙ some_of (is_at (nat_cmp k) q) v (lookup (is_at (nat_cmp q)) es)
    ∙ ap (λ b. b || is_some (lookup (is_at (nat_cmp q)) es)) ((eq_by_cmp_equiv nat_cmp_total).symm k q)
    ∙ ap (λ b. eq_by_cmp nat_cmp q k || b) (sym (has_key es q))
    ∙ sym (set.contains-insert nat_cmp_total (set.from_list (keys_of es)) k q))

-- the keys of a tree with one more, which then goes again
pub keys_back : {X : Type 0} (es fs gs : List (ℕ × X)) (k : ℕ) (v : X) → set.contains (set.from_list {R = nat_cmp} (keys_of es)) k ≡ false → ((q : ℕ) → lookup (is_at (nat_cmp q)) fs ≡ cond (is_at (nat_cmp k) q) (Some v) (lookup (is_at (nat_cmp q)) es)) → ((q : ℕ) → lookup (is_at (nat_cmp q)) gs ≡ cond (is_at (nat_cmp k) q) None (lookup (is_at (nat_cmp q)) fs)) → set.from_list {R = nat_cmp} (keys_of gs) ≡ set.from_list (keys_of es)
keys_back es fs gs k v new more less = set.same_set nat_cmp_total set.nat_cmp-IsAntisymmetric _ _ (λ q.
    has_key gs q ∙ ap is_some (less q ∙ ap (cond (is_at (nat_cmp k) q) None) (more q)) ∙ back q (is_at (nat_cmp k) q) refl ∙ sym (has_key es q))
  where
    back : (q : ℕ) (b : Bool) → is_at (nat_cmp k) q ≡ b → is_some (cond b None (cond b (Some v) (lookup (is_at (nat_cmp q)) es))) ≡ is_some (lookup (is_at (nat_cmp q)) es)
    back q false is = refl
    back q true is =
        let same : k ≡ q = eqb-true k q (sym (unsigned_tied k q) ∙ is) in
        sym (ap (λ (j : ℕ). is_some (lookup (is_at (nat_cmp j)) es)) (sym same) ∙ sym (has_key es k) ∙ new)

-- a place of f of each
pub map_set : {X Y : Type 0} (f : X → Y) (xs : List X) (i : ℕ) (x : X) → map f (slice_set xs i x) ≡ slice_set (map f xs) i (f x)
map_set f [] i x = refl
map_set f (y ∷ ys) zero x = refl
map_set f (y ∷ ys) (suc i) x = ap (λ zs. f y ∷ zs) (map_set f ys i x)

-- beyond its end nothing of a list is set
pub set_past : {X : Type 0} (xs : List X) (i : ℕ) (x : X) → length xs ≤ i → slice_set xs i x ≡ xs
set_past [] i x h = refl
set_past (y ∷ ys) zero x h = absurd (omega (arith, h))
set_past (y ∷ ys) (suc i) x h = ap (λ zs. y ∷ zs) (set_past ys i x (omega (arith, h)))

-- an element that is changed at its place
pub changed_there : {X Y : Type 0} (f : X → Y) (g : Y → Y) (xs : List X) (i : ℕ) (old new : X) → i < length xs → old ≡ slice_index_or xs i old → f new ≡ g (f old) → map f (slice_set xs i new) ≡ with_change_at g (map f xs) i
changed_there f g [] i old new lt at is = absurd (omega (arith, lt))
changed_there f g (y ∷ ys) zero old new lt at is = ap (λ z. z ∷ map f ys) (is ∙ ap (λ z. g (f z)) at)
changed_there f g (y ∷ ys) (suc i) old new lt at is = ap (λ zs. f y ∷ zs) (changed_there f g ys i old new (omega (arith, lt)) at is)

-- beyond its end nothing of a list is changed
pub changed_past : {X Y : Type 0} (f : X → Y) (g : Y → Y) (xs : List X) (i : ℕ) → length xs ≤ i → with_change_at g (map f xs) i ≡ map f xs
changed_past f g [] i h = refl
changed_past f g (y ∷ ys) zero h = absurd (omega (arith, h))
changed_past f g (y ∷ ys) (suc i) h = ap (λ zs. f y ∷ zs) (changed_past f g ys i (omega (arith, h)))

-- a file by its fields
abbrev pub file_by : ℕ → ℕ → List Extent → Bool → List Page → File
file_by len disk extents writable pages = record { len = len; disk = disk; extents = extents; writable = writable; pages = pages }

-- a sum over f of each
pub sum_map : {X Y : Type 0} (t : Y → ℕ) (f : X → Y) (xs : List X) → sum_by t (map f xs) ≡ sum_by (λ x. t (f x)) xs
sum_map t f [] = refl
sum_map t f (x ∷ xs) = sum_by-cons t (f x) (map f xs) ∙ ap (λ n. t (f x) + n) (sum_map t f xs) ∙ sym (sum_by-cons (λ x. t (f x)) x xs)

pub length_map : {X Y : Type 0} (f : X → Y) (xs : List X) → length (map f xs) ≡ length xs
length_map f [] = refl
length_map f (x ∷ xs) = ap suc (length_map f xs)

-- an element that is set at its place is changed there
pub changed_set : {X : Type 0} (g : X → X) (xs : List X) (i : ℕ) (x : X) → slice_get xs i ≡ Some x → with_change_at g xs i ≡ slice_set xs i (g x)
changed_set g [] i x is = refl
changed_set g (y ∷ ys) zero x is = let same : y ≡ x = let both : Some y ≡ Some x = is in cc in ap (λ z. g z ∷ ys) same
changed_set g (y ∷ ys) (suc i) x is = ap (λ zs. y ∷ zs) (changed_set g ys i x is)

-- beyond its end nothing of a list is changed
pub changed_nowhere : {X : Type 0} (g : X → X) (xs : List X) (i : ℕ) → slice_get xs i ≡ None → with_change_at g xs i ≡ xs
changed_nowhere g [] i is = refl
changed_nowhere g (y ∷ ys) zero is = absurd (let both : Some y ≡ None = is in cc)
changed_nowhere g (y ∷ ys) (suc i) is = ap (λ zs. y ∷ zs) (changed_nowhere g ys i is)
