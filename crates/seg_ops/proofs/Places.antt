-- The places of the pool of translations, after one was loaded or touched, and after those of a frame were changed or dropped.
use Rattle.vm_world.proofs.flat_model.Ranges.{both_true as both}
use Rattle.std.proofs.Common.{◌≡◌, ◌≢◌, ℕ, zero, suc, ◌==◌, Bool, true, false, cond, List, [], ◌∷◌, map, Option, Some, None, refl, sym, ap, ◌∙◌, ◌⊎◌, inl, inr, subst, slice_index_or, slice_set}
use Rattle.std.specs.Prelude.{option_map, option_and_then, find, ◌&&◌, ◌||◌}
use Rattle.std.specs.List.{list_any}
use Rattle.std.proofs.lemmas.Bool.{cases_Bool, eqb-true, eq-eqb, or_left as or-left, or_right as or-right}
use Rattle.vm_world.specs.hat_layer.declared.translation.Translation.{Translation}
use Rattle.vm_world.specs.hat_layer.Pool.{IsNoted, translation_at, holds, leads, change_page, change_at, after_access, change_lead, drop_lead, change_frame, drop_frame, with_clear_bits, has_bit}
use Rattle.vm_world.specs.TranslationsFit.{HasWritten}
use Rattle.seg_ops.specs.Steps.{IsUnwritten}

-- Each translation of the pool has this.
abbrev pub Each : (Translation → Type 0) → List (Option Translation) → Type 0
Each P places = (place : ℕ) (t : Translation) → slice_index_or places place None ≡ Some t → P t

-- what the map has at a page stands in a place, and is that page's
pub record StandsAt (places : List (Option Translation)) (space page : ℕ) (t : Translation) : Type 0 where
  pub place : ℕ
  pub there : slice_index_or places place None ≡ Some t
  pub space_is : t.space ≡ space
  pub page_is : t.page ≡ page

held-here : (o : Option Translation) (space page : ℕ) (t : Translation) → holds space page o ≡ true → o ≡ Some t → (t.space ≡ space) × (t.page ≡ page)
held-here None space page t is e = absurd (cc)
held-here (Some u) space page t is e =
    let same : u ≡ t = let z : Some u ≡ Some t = e in cc in
    let tests = both (u.space == space) (u.page == page) is in
    (ap (λ (x : Translation). x.space) (sym same) ∙ eqb-true u.space space tests.0, ap (λ (x : Translation). x.page) (sym same) ∙ eqb-true u.page page tests.1)

stands-in : (o : Option Translation) (os : List (Option Translation)) (space page : ℕ) (t : Translation) (b : Bool) → holds space page o ≡ b → option_and_then (λ (x : Option Translation). x) (cond b (Some o) (find (λ x. holds space page x) os)) ≡ Some t
    → (translation_at os space page ≡ Some t → StandsAt os space page t) → StandsAt (o ∷ os) space page t
stands-in o os space page t true is e more = let r = held-here o space page t is e in record { place = 0; there = e; space_is = r.0; page_is = r.1 }
stands-in o os space page t false is e more = let s = more e in record { place = suc s.place; there = s.there; space_is = s.space_is; page_is = s.page_is }

pub stands-at : (places : List (Option Translation)) (space page : ℕ) (t : Translation) → translation_at places space page ≡ Some t → StandsAt places space page t
stands-at [] space page t h = absurd (cc)
stands-at (o ∷ os) space page t h = stands-in o os space page t (holds space page o) refl h (λ e. stands-at os space page t e)

-- a place of the pool after a change of all places
pub index-map : (g : Option Translation → Option Translation) (places : List (Option Translation)) (k : ℕ) → g None ≡ None → slice_index_or (map g places) k None ≡ g (slice_index_or places k None)
index-map g [] k none = sym none
index-map g (o ∷ os) zero none = refl
index-map g (o ∷ os) (suc k) none = index-map g os k none

-- a place of a list after one place was set
pub index-set : {A : Type 0} (xs : List A) (j : ℕ) (x : A) (k : ℕ) (d : A) → (slice_index_or (slice_set xs j x) k d ≡ slice_index_or xs k d) ⊎ ((k ≡ j) × (slice_index_or (slice_set xs j x) k d ≡ x))
index-set [] j x k d = inl refl
index-set (o ∷ os) zero x zero d = inr (refl, refl)
index-set (o ∷ os) zero x (suc k) d = inl refl
index-set (o ∷ os) (suc j) x zero d = inl refl
index-set (o ∷ os) (suc j) x (suc k) d = elim (index-set os j x k d) [
  | inl e ↦ inl e
  | inr e ↦ inr (ap (λ (n : ℕ). suc n) e.0, e.1)
]

-- what the place of a changed translation had
pub changed-from : (b : Bool) (f : Translation → Translation) (o : Option Translation) (t : Translation) → cond b (option_map f o) o ≡ Some t → (u : Translation) × (o ≡ Some u) × ((t ≡ u) ⊎ (t ≡ f u))
changed-from true f None t h = absurd (cc)
changed-from true f (Some u) t h = (u, refl, inr (let z : Some (f u) ≡ Some t = h in cc))
changed-from false f o t h = (t, h, inl refl)

-- what each translation has, it has after a page's or a frame's were changed so that it keeps it
pub each-change_at : (P : Translation → Type 0) (space page : ℕ) (f : Translation → Translation) (places : List (Option Translation)) → ((t : Translation) → P t → P (f t)) → Each P places → Each P (change_at space page f places)
each-change_at P space page f places turn each k t there =
    let from = changed-from (holds space page (slice_index_or places k None)) f (slice_index_or places k None) t (sym (index-map (change_page space page f) places k refl) ∙ there) in
    let was = each k from.0 from.1 in
    elim from.2 [ inl e ↦ subst P (sym e) was | inr e ↦ subst P (sym e) (turn from.0 was) ]

pub each-change_frame : (P : Translation → Type 0) (frame : ℕ) (f : Translation → Translation) (places : List (Option Translation)) → ((t : Translation) → P t → P (f t)) → Each P places → Each P (change_frame frame f places)
each-change_frame P frame f places turn each k t there =
    let from = changed-from (leads frame (slice_index_or places k None)) f (slice_index_or places k None) t (sym (index-map (change_lead frame f) places k refl) ∙ there) in
    let was = each k from.0 from.1 in
    elim from.2 [ inl e ↦ subst P (sym e) was | inr e ↦ subst P (sym e) (turn from.0 was) ]

-- what each translation has, it has after one that has it was loaded
pub each-set : (P : Translation → Type 0) (places : List (Option Translation)) (j : ℕ) (new : Translation) → P new → Each P places → Each P (slice_set places j (Some new))
each-set P places j new has each k t there = elim (index-set places j (Some new) k None) [
  | inl e ↦ each k t (sym e ∙ there)
  | inr e ↦ let same : new ≡ t = let z : Some new ≡ Some t = sym e.1 ∙ there in cc in subst P same has
]

-- a translation that stays after those of a frame were dropped leads elsewhere
pub was-kept : (frame : ℕ) (o : Option Translation) (t : Translation) (b : Bool) → leads frame o ≡ b → cond b None o ≡ Some t → (o ≡ Some t) × (b ≡ false)
was-kept frame o t true is e = absurd (cc)
was-kept frame o t false is e = (e, refl)

pub each-drop_frame : (P : Translation → Type 0) (frame : ℕ) (places : List (Option Translation)) → Each P places → Each (λ t. P t × (t.frame ≢ frame)) (drop_frame frame places)
each-drop_frame P frame places each k t there =
    let r = was-kept frame (slice_index_or places k None) t (leads frame (slice_index_or places k None)) refl (sym (index-map (drop_lead frame) places k refl) ∙ there) in
    (each k t r.0, λ e. let here : leads frame (Some t) ≡ false = ap (leads frame) (sym r.0) ∙ r.1 in let z : true ≡ false = sym (eq-eqb t.frame frame e) ∙ here in cc)

access-keeps : (b : Bool) (u : Translation) (write : Bool) → (x : Translation) × (cond b (option_map (after_access write) (Some u)) (Some u) ≡ Some x) × (x.frame ≡ u.frame) × (u.modified ≡ true → x.modified ≡ true)
access-keeps true u write = (after_access write u, refl, refl, λ h. or-left u.modified write h)
access-keeps false u write = (u, refl, refl, λ h. h)

-- WHAT IS MODIFIED after an access: what was, and the frame of a store that was noted.
pub written-access : (places : List (Option Translation)) (space page : ℕ) (write : Bool) (frame : ℕ) → HasWritten places frame → HasWritten (change_at space page (after_access write) places) frame
written-access places space page write frame w =
    let r = access-keeps (holds space page (Some w.translation)) w.translation write in
    record {
      place = w.place;
      translation = r.0;
      there = index-map (change_page space page (after_access write)) places w.place refl ∙ ap (change_page space page (after_access write)) w.there ∙ r.1;
      leads = r.2 ∙ w.leads;
      modified = r.3 w.modified;
    }

pub written-store : (places : List (Option Translation)) (space page frame : ℕ) → IsNoted places space page frame true → HasWritten places frame
written-store places space page frame n =
    let s = stands-at places space page n.entry n.there in
    record { place = s.place; translation = n.entry; there = s.there; leads = n.leads_there; modified = n.modified refl }

-- one place that passes the test is some place
pub any-place : (W : Option Translation → Bool) (places : List (Option Translation)) (k : ℕ) (t : Translation) → slice_index_or places k None ≡ Some t → W (Some t) ≡ true → list_any W places ≡ true
any-place W [] k t is passes = absurd (cc)
any-place W (o ∷ os) zero t is passes = or-left (W o) (list_any W os) (ap W is ∙ passes)
any-place W (o ∷ os) (suc k) t is passes = or-right (W o) (list_any W os) (any-place W os k t is passes)

-- THE BITS OF A FRAME that were told: one of its translations that was written says so, where all others stay
written-told : (change : Option Translation → Option Translation) (places : List (Option Translation)) (frame j : ℕ) → change None ≡ None → ((t : Translation) → (t.frame == frame) ≡ false → change (Some t) ≡ Some t) → HasWritten places j
    → ((frame ≡ j) × (list_any (has_bit (λ t. t.modified) frame) places ≡ true)) ⊎ HasWritten (map change places) j
written-told change places frame j none apart w = elim (cases_Bool (w.translation.frame == frame)) [
  | inl is ↦ inl (sym (eqb-true w.translation.frame frame is) ∙ w.leads, any-place (has_bit (λ t. t.modified) frame) places w.place w.translation w.there (rw (is, w.modified) refl))
  | inr other ↦ inr (record {
    place = w.place;
    translation = w.translation;
    there = index-map change places w.place none ∙ ap change w.there ∙ apart w.translation other;
    leads = w.leads;
    modified = w.modified;
  })
]

pub written-clear : (places : List (Option Translation)) (frame j : ℕ) → HasWritten places j → ((frame ≡ j) × (list_any (has_bit (λ t. t.modified) frame) places ≡ true)) ⊎ HasWritten (change_frame frame with_clear_bits places) j
written-clear places frame j w = written-told (change_lead frame with_clear_bits) places frame j refl (λ t other. ap (λ b. cond b (Some (with_clear_bits t)) (Some t)) other) w

pub written-gone : (places : List (Option Translation)) (frame j : ℕ) → HasWritten places j → ((frame ≡ j) × (list_any (has_bit (λ t. t.modified) frame) places ≡ true)) ⊎ HasWritten (drop_frame frame places) j
written-gone places frame j w = written-told (drop_lead frame) places frame j refl (λ t other. ap (λ b. cond b None (Some t)) other) w

pub written-drop : (places : List (Option Translation)) (frame j : ℕ) → IsUnwritten places frame → HasWritten places j → HasWritten (drop_frame frame places) j
written-drop places frame j unwritten w = elim (cases_Bool (w.translation.frame == frame)) [
  | inl is ↦ absurd (let z : true ≡ false = sym w.modified ∙ unwritten w.place w.translation w.there (eqb-true w.translation.frame frame is) in cc)
  | inr apart ↦ record {
    place = w.place;
    translation = w.translation;
    there = index-map (drop_lead frame) places w.place refl ∙ ap (drop_lead frame) w.there ∙ ap (λ b. cond b None (Some w.translation)) apart;
    leads = w.leads;
    modified = w.modified;
  }
]
