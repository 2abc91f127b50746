-- The map from (space, page) once the places were changed one by one.
use Rattle.std.proofs.Common.{◌≡◌, ℕ, inl, inr, ◌⊎◌, ◌↔◌, Bool, true, false, cond, Option, Some, None, List, [], ◌∷◌, refl, sym, ◌∙◌, ap, get_or, arith, zero, suc}
use Rattle.std.specs.Prelude.{map, option_and_then, option_map, find, ◌==◌}
use Rattle.std.specs.List.{list_any}
use Rattle.std.proofs.lemmas.Bool.{cases_Bool, and_parts, and_from, eqb-true, eq-eqb, or_cases, or_right}
use Rattle.std.proofs.lemmas.List.Folds.{list_any_at}
use Rattle.hat_layer.specs.declared.translation.Translation.{Translation}
use Rattle.hat_layer.specs.Pool.{holds, is_of, translation_at, leads, IsSingleValued, change_page, drop_page, change_lead, drop_lead, change_at, drop_at}
use Rattle.hat_layer.specs.Pool.{change_frame, drop_frame, has_bit, lets_access, after_access, IsNoted, SomeHas}
use Rattle.hash_chains.proofs.OwnerLaws.{some-within}
use Rattle.hat_layer.proofs.HatLemmas.{at-held}

Cell : Type 0
Cell = Option Translation

at-here : (o : Option Translation) (os : List (Option Translation)) (s p : ℕ) → holds s p o ≡ true → translation_at (o ∷ os) s p ≡ o
at-here o os s p h = ap (λ (b : Bool). option_and_then (λ (o : Option Translation). o) (cond b (Some o) (find (λ (o : Option Translation). holds s p o) os))) h

at-next : (o : Option Translation) (os : List (Option Translation)) (s p : ℕ) → holds s p o ≡ false → translation_at (o ∷ os) s p ≡ translation_at os s p
at-next o os s p h = ap (λ (b : Bool). option_and_then (λ (o : Option Translation). o) (cond b (Some o) (find (λ (o : Option Translation). holds s p o) os))) h

-- a place keeps its page or is emptied
abbrev pub Stays : (Option Translation → Option Translation) → ℕ → ℕ → Type 0
Stays G s p = (o : Option Translation) → (G o ≡ None) ⊎ (holds s p (G o) ≡ holds s p o)

missed : (G : Option Translation → Option Translation) (s p : ℕ) → Stays G s p → (o : Option Translation) → holds s p o ≡ false → holds s p (G o) ≡ false
missed G s p stays o h = elim (stays o) [ inl none ↦ ap (λ (o : Option Translation). holds s p o) none | inr same ↦ same ∙ h ]

none-mapped : (G : Option Translation → Option Translation) (os : List (Option Translation)) (s p : ℕ) → Stays G s p
    → ((k : ℕ) → holds s p (get_or os k None) ≡ false) → translation_at (map G os) s p ≡ None
none-mapped G [] s p stays h = refl
none-mapped G (o ∷ os) s p stays h = at-next (G o) (map G os) s p (missed G s p stays o (h zero)) ∙ none-mapped G os s p stays (λ k. h (suc k))

-- what each place becomes, the entry of each page becomes
pub at-mapped : (G : Option Translation → Option Translation) (places : List (Option Translation)) (s p : ℕ) → G None ≡ None → Stays G s p
    → IsSingleValued places → translation_at (map G places) s p ≡ G (translation_at places s p)
at-mapped G [] s p none stays d = sym none
at-mapped G (o ∷ os) s p none stays d = elim (cases_Bool (holds s p o)) [
  | inl h ↦
      let others : (k : ℕ) → holds s p (get_or os k None) ≡ false = λ k. elim (cases_Bool (holds s p (get_or os k None))) [
        | inl g ↦ let z : zero ≡ suc k = d zero (suc k) s p h g in absurd (omega arith)
        | inr g ↦ g
      ] in
      let old : G (translation_at (o ∷ os) s p) ≡ G o = ap G (at-here o os s p h) in
      elim (stays o) [
        | inl empty ↦ at-next (G o) (map G os) s p (ap (λ (o : Option Translation). holds s p o) empty) ∙ none-mapped G os s p stays others ∙ sym (old ∙ empty)
        | inr same ↦ at-here (G o) (map G os) s p (same ∙ h) ∙ sym old
      ]
  | inr h ↦ at-next (G o) (map G os) s p (missed G s p stays o h) ∙ at-mapped G os s p none stays
      (λ i j space page a b. let z : suc i ≡ suc j = d (suc i) (suc j) space page a b in omega arith) ∙ sym (ap G (at-next o os s p h))
]

dropped-stays : (test : Option Translation → Bool) (s p : ℕ) → Stays (λ (o : Option Translation). cond (test o) None o) s p
dropped-stays test s p o = elim (test o) as (λ b. (cond b None o ≡ None) ⊎ (holds s p (cond b None o) ≡ holds s p o)) [ true ↦ inl refl | false ↦ inr refl ]

changed-stays : (test : Option Translation → Bool) (change : Translation → Translation) (s p : ℕ) → ((t : Translation) → is_of s p (change t) ≡ is_of s p t)
    → Stays (λ (o : Option Translation). cond (test o) (option_map change o) o) s p
changed-stays test change s p same None = inl (elim (test None) as (λ b. cond b (option_map change None) None ≡ None) [ true ↦ refl | false ↦ refl ])
changed-stays test change s p same (Some t) = inr (elim (test (Some t)) as (λ b. holds s p (cond b (option_map change (Some t)) (Some t)) ≡ holds s p (Some t)) [ true ↦ same t | false ↦ refl ])

pub at-drop_frame : (places : List (Option Translation)) (frame s p : ℕ) → IsSingleValued places → translation_at (drop_frame frame places) s p ≡ drop_lead frame (translation_at places s p)
at-drop_frame places frame s p d = at-mapped (λ (o : Option Translation). drop_lead frame o) places s p refl (dropped-stays (leads frame) s p) d

pub at-drop_at : (places : List (Option Translation)) (space page s p : ℕ) → IsSingleValued places → translation_at (drop_at space page places) s p ≡ drop_page space page (translation_at places s p)
at-drop_at places space page s p d = at-mapped (λ (o : Option Translation). drop_page space page o) places s p refl (dropped-stays (λ (o : Option Translation). holds space page o) s p) d

pub at-change_frame : (change : Translation → Translation) (places : List (Option Translation)) (frame s p : ℕ)
    → ((t : Translation) → is_of s p (change t) ≡ is_of s p t) → IsSingleValued places → translation_at (change_frame frame change places) s p ≡ change_lead frame change (translation_at places s p)
at-change_frame change places frame s p same d = at-mapped (λ (o : Option Translation). change_lead frame change o) places s p refl (changed-stays (leads frame) change s p same) d

pub at-change_at : (change : Translation → Translation) (places : List (Option Translation)) (space page s p : ℕ)
    → ((t : Translation) → is_of s p (change t) ≡ is_of s p t) → IsSingleValued places
    → translation_at (change_at space page change places) s p ≡ change_page space page change (translation_at places s p)
at-change_at change places space page s p same d = at-mapped (λ (o : Option Translation). change_page space page change o) places s p refl
    (changed-stays (λ (o : Option Translation). holds space page o) change s p same) d

-- the entry of the page whose access was noted
pub noted-access : (places after : List (Option Translation)) (space page : ℕ) (write : Bool) (t : Translation) → translation_at places space page ≡ Some t
    → is_of space page t ≡ true → lets_access write t ≡ true
    → translation_at after space page ≡ change_page space page (after_access write) (translation_at places space page) → IsNoted after space page t.frame write
noted-access places after space page write t is own lets changed = record {
  entry = after_access write t;
  there = changed ∙ ap (change_page space page (after_access write)) is ∙ ap (λ (b : Bool). cond b (Some (after_access write t)) (Some t)) own;
  leads_there = refl;
  lets = lets;
  referenced = refl;
  modified = λ w. or_right t.modified write w;
}

-- a bit of a frame, by its pages
found-any : (bit : Translation → Bool) (places : List (Option Translation)) (frame : ℕ) → list_any (has_bit bit frame) places ≡ true → (k : ℕ) × (has_bit bit frame (get_or places k None) ≡ true)
found-any bit [] frame h = let z : false ≡ true = h in cc
found-any bit (o ∷ os) frame h = elim (or_cases (has_bit bit frame o) (list_any (has_bit bit frame) os) h) [
  | inl t ↦ (zero, t)
  | inr t ↦ let r = found-any bit os frame t in (suc r.0, r.1)
]

found-at : (places : List (Option Translation)) (s p : ℕ) (t : Translation) → translation_at places s p ≡ Some t → (k : ℕ) × (get_or places k None ≡ Some t)
found-at [] s p t e = let z : None ≡ Some t = e in cc
found-at (o ∷ os) s p t e = elim (cases_Bool (holds s p o)) [
  | inl h ↦ (zero, sym (at-here o os s p h) ∙ e)
  | inr h ↦ let r = found-at os s p t (sym (at-next o os s p h) ∙ e) in (suc r.0, r.1)
]

some-has : (bit : Translation → Bool) (places : List (Option Translation)) (frame : ℕ) → IsSingleValued places → list_any (has_bit bit frame) places ≡ true → SomeHas bit places frame
some-has bit places frame d h = go (get_or places k None) refl (found-any bit places frame h).1
  where
    k : ℕ
    k = (found-any bit places frame h).0

    go : (o : Option Translation) → get_or places k None ≡ o → has_bit bit frame (get_or places k None) ≡ true → SomeHas bit places frame
    go None e w = let z : false ≡ true = sym (ap (has_bit bit frame) e) ∙ w in cc
    go (Some t) e w =
        let ab = and_parts (t.frame == frame) (bit t) (sym (ap (has_bit bit frame) e) ∙ w) in
        let own : is_of t.space t.page t ≡ true = and_from (t.space == t.space) (t.page == t.page) (eq-eqb t.space t.space refl) (eq-eqb t.page t.page refl) in
        let own_k : holds t.space t.page (get_or places k None) ≡ true = ap (λ (o : Option Translation). holds t.space t.page o) e ∙ own in
        record {
          space = t.space;
          page = t.page;
          entry = t;
          there = at-held places t.space t.page k t e own (λ j g. d j k t.space t.page g own_k);
          leads_there = eqb-true t.frame frame ab.0;
          set = ab.1;
        }

has-some : (bit : Translation → Bool) (places : List (Option Translation)) (frame : ℕ) → SomeHas bit places frame → list_any (has_bit bit frame) places ≡ true
has-some bit places frame h =
    let k = found-at places h.space h.page h.entry h.there in
    list_any_at (has_bit bit frame) places k.0 None (some-within places k.0 h.entry k.1)
    (ap (has_bit bit frame) k.1 ∙ and_from (h.entry.frame == frame) (bit h.entry) (eq-eqb h.entry.frame frame h.leads_there) h.set)

pub bit-tells : (bit : Translation → Bool) (places : List (Option Translation)) (frame : ℕ) (b : Bool) → IsSingleValued places
    → b ≡ list_any (has_bit bit frame) places → (b ≡ true) ↔ SomeHas bit places frame
bit-tells bit places frame b d e = (λ h. some-has bit places frame d (sym e ∙ h), λ h. e ∙ has-some bit places frame h)
