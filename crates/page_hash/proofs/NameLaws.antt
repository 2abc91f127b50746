-- The laws of names by frame.
use Rattle.std.proofs.Common.{◌≡◌, ◌≢◌, ℕ, ◌<◌, ◌↔◌, Bool, true, false, cond, ◌⊎◌, inl, inr, List, [], ◌∷◌, Option, Some, None, zero, suc, refl, sym, ◌∙◌, ap, subst, arith, length, set}
use Rattle.std.specs.Option.{option_map}
use Rattle.std.specs.Prelude.{IfSome}
use Rattle.std.proofs.lemmas.Grind.{common_steps}
use Rattle.std.proofs.lemmas.List.{get_or-set_same, get_or-set_other}
use Rattle.std.proofs.lemmas.Bool.{cases_eq}
use Rattle.hash_chains.proofs.OwnerLaws.{some-within}
use Rattle.page_hash.specs.declared.PageName.{PageName}
use Rattle.page_hash.specs.Names.{is_name, find, name_at, AreDistinct}
use Rattle.page_hash.specs.Index.{Finds}

chosen : {X : Type 0} (b : Bool) (x y z : X) → cond b x y ≡ z → ((b ≡ true) × (x ≡ z)) ⊎ ((b ≡ false) × (y ≡ z))
chosen true x y z h = inl (refl, h)
chosen false x y z h = inr (refl, h)

pub same_fields : (m n : PageName) → m.object ≡ n.object → m.page ≡ n.page → m ≡ n
same_fields m n a b = ap (λ (x : ℕ). record { object = x; page = m.page }) a ∙ ap (λ (x : ℕ). record { object = n.object; page = x }) b

-- what the test says
pub is_name-true : (m : Option PageName) (n : PageName) → is_name m n ≡ true → m ≡ Some n
is_name-true None n h = cc
is_name-true (Some m) n h =
    let a : m.object ≡ n.object = grind (arith, common_steps) in
    let b : m.page ≡ n.page = grind (arith, common_steps) in
    ap (λ (x : PageName). Some x) (same_fields m n a b)

pub is_name-same : (n : PageName) → is_name (Some n) n ≡ true
is_name-same n = grind (arith, common_steps)

mapped : (o : Option ℕ) (f : ℕ) → option_map suc o ≡ Some f → (g : ℕ) × (o ≡ Some g) × (suc g ≡ f)
mapped None f h = cc
mapped (Some g) f h = (g, refl, (cc))

-- a frame that is found holds the name
pub find-at : (names : List (Option PageName)) (n : PageName) (f : ℕ) → find names n ≡ Some f → name_at names f ≡ Some n
find-at [] n f h = cc
find-at (m ∷ more) n f h =
    elim (chosen (is_name m n) (Some 0) (option_map suc (find more n)) (Some f) h) [
      | inl p ↦ let z : 0 ≡ f = cc in subst (λ (k : ℕ). name_at (m ∷ more) k ≡ Some n) z (is_name-true m n p.0)
      | inr p ↦ let q = mapped (find more n) f p.1 in subst (λ (k : ℕ). name_at (m ∷ more) k ≡ Some n) q.2 (find-at more n q.0 q.1)
    ]

none_mapped : (o : Option ℕ) → option_map suc o ≡ None → o ≡ None
none_mapped None h = refl
none_mapped (Some g) h = cc

-- no frame holds a name that is not found
pub find-none : (names : List (Option PageName)) (n : PageName) (f : ℕ) → find names n ≡ None → name_at names f ≡ Some n → ⊥
find-none [] n f e h = cc
find-none (m ∷ more) n zero e h =
    let t : is_name m n ≡ true = ap (λ (x : Option PageName). is_name x n) h ∙ is_name-same n in
    let w : cond (is_name m n) (Some 0) (option_map suc (find more n)) ≡ Some 0 = ap (λ (b : Bool). cond b (Some 0) (option_map suc (find more n))) t in
    cc
find-none (m ∷ more) n (suc f) e h =
    elim (chosen (is_name m n) (Some 0) (option_map suc (find more n)) None e) [
      | inl p ↦ cc
      | inr p ↦ find-none more n f (none_mapped (find more n) p.1) h
    ]

found_so : (names : List (Option PageName)) (n : PageName) (f : ℕ) → AreDistinct names → name_at names f ≡ Some n → (o : Option ℕ) → find names n ≡ o → find names n ≡ Some f
found_so names n f d h None e = absurd (find-none names n f e h)
found_so names n f d h (Some g) e = e ∙ ap (λ (k : ℕ). Some k) (d g f n (find-at names n g e) h)

-- the frame that holds a name is found
pub find-some : (names : List (Option PageName)) (n : PageName) (f : ℕ) → AreDistinct names → name_at names f ≡ Some n → find names n ≡ Some f
find-some names n f d h = found_so names n f d h (find names n) refl

none_so : (names : List (Option PageName)) (n : PageName) → ((f : ℕ) → name_at names f ≡ Some n → ⊥) → (o : Option ℕ) → find names n ≡ o → find names n ≡ None
none_so names n absent None e = e
none_so names n absent (Some f) e = absurd (absent f (find-at names n f e))

-- a name that no frame holds is not found
pub find-absent : (names : List (Option PageName)) (n : PageName) → ((f : ℕ) → name_at names f ≡ Some n → ⊥) → find names n ≡ None
find-absent names n absent = none_so names n absent (find names n) refl

same_so : (names more : List (Option PageName)) (n : PageName) → AreDistinct more → ((f : ℕ) → name_at names f ≡ Some n → name_at more f ≡ Some n)
    → ((f : ℕ) → name_at more f ≡ Some n → name_at names f ≡ Some n) → (o : Option ℕ) → find names n ≡ o → find more n ≡ o
same_so names more n d forth back None e = find-absent more n (λ f h. find-none names n f e (back f h))
same_so names more n d forth back (Some f) e = find-some more n f d (forth f (find-at names n f e))

-- where the same frames hold a name, the same is found
pub find-same : (names more : List (Option PageName)) (n : PageName) → AreDistinct more → ((f : ℕ) → name_at names f ≡ Some n → name_at more f ≡ Some n)
    → ((f : ℕ) → name_at more f ≡ Some n → name_at names f ≡ Some n) → find more n ≡ find names n
find-same names more n d forth back = same_so names more n d forth back (find names n) refl

-- one frame holds another name, or none
at_changed : (names : List (Option PageName)) (f : ℕ) (x : Option PageName) (k : ℕ) (n : PageName) → f < length names → (x ≡ Some n → ⊥) → name_at (set names f x) k ≡ Some n → name_at names k ≡ Some n
at_changed names f x k n lt ne h = elim (cases_eq k f) [
  | inl q ↦ absurd (ne (sym (get_or-set_same names f x None lt) ∙ subst (λ (y : ℕ). name_at (set names f x) y ≡ Some n) q h))
  | inr differs ↦ sym (get_or-set_other names f k x None differs) ∙ h
]

at_kept : (names : List (Option PageName)) (f : ℕ) (x : Option PageName) (k : ℕ) (n : PageName) → (name_at names f ≡ Some n → ⊥) → name_at names k ≡ Some n → name_at (set names f x) k ≡ Some n
at_kept names f x k n ne h = elim (cases_eq k f) [
  | inl q ↦ absurd (ne (subst (λ (y : ℕ). name_at names y ≡ Some n) q h))
  | inr differs ↦ get_or-set_other names f k x None differs ∙ h
]

new_name : (names : List (Option PageName)) (n m : PageName) (f k : ℕ) → f < length names → k ≡ f → name_at (set names f (Some n)) k ≡ Some m → n ≡ m
new_name names n m f k lt q h =
    let a : name_at (set names f (Some n)) f ≡ Some m = subst (λ (y : ℕ). name_at (set names f (Some n)) y ≡ Some m) q h in
    let z : Some n ≡ Some m = sym (get_or-set_same names f (Some n) None lt) ∙ a in
    cc

old_name : (names : List (Option PageName)) (n m : PageName) (f k : ℕ) → k ≢ f → name_at (set names f (Some n)) k ≡ Some m → name_at names k ≡ Some m
old_name names n m f k ne h = sym (get_or-set_other names f k (Some n) None ne) ∙ h

-- a name that no frame held is entered at a frame that held none
pub entered-distinct : (names : List (Option PageName)) (n : PageName) (f : ℕ) → f < length names → AreDistinct names → find names n ≡ None → AreDistinct (set names f (Some n))
entered-distinct names n f lt d absent i j m a b =
    elim (cases_eq i f) [
      | inl q ↦ elim (cases_eq j f) [
        | inl r ↦ q ∙ sym r
        | inr nf ↦ absurd (let z : n ≡ m = new_name names n m f i lt q a in find-none names n j absent (old_name names n m f j nf b ∙ ap (λ (x : PageName). Some x) (sym z)))
      ]
      | inr ne ↦ elim (cases_eq j f) [
        | inl r ↦ absurd (let z : n ≡ m = new_name names n m f j lt r b in find-none names n i absent (old_name names n m f i ne a ∙ ap (λ (x : PageName). Some x) (sym z)))
        | inr nf ↦ d i j m (old_name names n m f i ne a) (old_name names n m f j nf b)
      ]
    ]

pub find-entered : (names : List (Option PageName)) (n : PageName) (f : ℕ) → f < length names → AreDistinct names → find names n ≡ None → find (set names f (Some n)) n ≡ Some f
find-entered names n f lt d absent = find-some (set names f (Some n)) n f (entered-distinct names n f lt d absent) (get_or-set_same names f (Some n) None lt)

pub find-entered_other : (names : List (Option PageName)) (n : PageName) (f : ℕ) (m : PageName) → f < length names → AreDistinct names → find names n ≡ None
    → name_at names f ≡ None → (m ≡ n → ⊥) → find (set names f (Some n)) m ≡ find names m
find-entered_other names n f m lt d absent empty ne =
    find-same names (set names f (Some n)) m (entered-distinct names n f lt d absent)
    (λ k h. at_kept names f (Some n) k m (λ e. let z : None ≡ Some m = sym empty ∙ e in cc) h)
    (λ k h. at_changed names f (Some n) k m lt (λ e. let z : n ≡ m = cc in ne (sym z)) h)

-- a frame that held a name is emptied
pub emptied-distinct : (names : List (Option PageName)) (f : ℕ) → f < length names → AreDistinct names → AreDistinct (set names f None)
emptied-distinct names f lt d i j m a b = d i j m (at_changed names f None i m lt (λ e. cc) a) (at_changed names f None j m lt (λ e. cc) b)

pub find-emptied : (names : List (Option PageName)) (n : PageName) (f : ℕ) → AreDistinct names → name_at names f ≡ Some n → find (set names f None) n ≡ None
find-emptied names n f d h =
    let lt : f < length names = some-within names f n h in
    find-absent (set names f None) n (λ k a.
    let old : name_at names k ≡ Some n = at_changed names f None k n lt (λ e. cc) a in
    let q : k ≡ f = d k f n old h in
    let x : name_at (set names f None) f ≡ Some n = subst (λ (y : ℕ). name_at (set names f None) y ≡ Some n) q a in
    let z : None ≡ Some n = sym (get_or-set_same names f None None lt) ∙ x in
    cc)

pub find-emptied_other : (names : List (Option PageName)) (n : PageName) (f : ℕ) (m : PageName) → AreDistinct names → name_at names f ≡ Some n → (m ≡ n → ⊥) → find (set names f None) m ≡ find names m
find-emptied_other names n f m d h ne =
    let lt : f < length names = some-within names f n h in
    find-same names (set names f None) m (emptied-distinct names f lt d)
    (λ k e. at_kept names f None k m (λ a. let z : Some n ≡ Some m = sym h ∙ a in let y : n ≡ m = cc in ne (sym y)) e)
    (λ k e. at_changed names f None k m lt (λ a. cc) e)

-- what a search answers is what is found
pub finds-find : (names : List (Option PageName)) (n : PageName) (o : Option ℕ) → AreDistinct names → Finds names n o → o ≡ find names n
finds-find names n None d h = sym (find-absent names n h)
finds-find names n (Some f) d h = sym (find-some names n f d h)

-- a name that was read is found at its frame
pub find-read : (names : List (Option PageName)) (f : ℕ) (o : Option PageName) → AreDistinct names → name_at names f ≡ o → IfSome o (λ (n : PageName). find names n ≡ Some f)
find-read names f None d h = tt
find-read names f (Some n) d h = find-some names n f d h
