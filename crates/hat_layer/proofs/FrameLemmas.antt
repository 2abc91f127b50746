-- The translations of a frame, dropped or cleared one by one.
use Rattle.std.proofs.Common.{◌≡◌, ◌≢◌, ℕ, ◌<◌, inl, inr, Bool, true, false, cond, Option, Some, None, List, [], ◌∷◌, refl, sym, ◌∙◌, ap, subst, length, get_or, set, arith, zero, suc}
use Rattle.std.specs.Prelude.{map, ◌==◌, ◌||◌, ◌&&◌, option_map}
use Rattle.std.specs.List.{list_any, count_by, IsDistinct}
use Rattle.std.proofs.Math.Bool.{or-false, or_assoc}
use Rattle.std.proofs.lemmas.List.{get_or-set_same, get_or-set_other}
use Rattle.std.proofs.lemmas.List.Sums.{sum_by-set}
use Rattle.std.proofs.lemmas.Bool.{cases_eq, and_right, eqb-true, eq-eqb, ne_eqb, cases_Bool, or_from, or_right}
use Rattle.hat_layer.specs.declared.translation.Translation.{Translation}
use Rattle.hash_chains.specs.Order.{is_among, is_owner, chain_at, first_in, after_in, rest_from, HaveOwners}
use Rattle.hash_chains.proofs.WalkLaws.{IsOn, walk-start, rest-first, walk-step}
use Rattle.hash_chains.proofs.OwnerLaws.{owned-on}
use Rattle.hat_layer.specs.Pool.{frame_of, leads, with_clear_bits, has_bit, drop_frame, change_frame}
use Rattle.hat_layer.specs.Table.{LeadsToFrame}
use Rattle.hash_chains.proofs.OwnerLaws.{some-within}
use Rattle.std.proofs.Math.ListN.{get_or-map}

pub map-fixed : (G : Option Translation → Option Translation) (places : List (Option Translation)) → ((k : ℕ) → G (get_or places k None) ≡ get_or places k None) → map G places ≡ places
map-fixed G [] h = refl
map-fixed G (o ∷ os) h = ap (λ (x : Option Translation). x ∷ map G os) (h zero) ∙ ap (λ (l : List (Option Translation)). o ∷ l) (map-fixed G os (λ k. h (suc k)))

pub map-one : (G : Option Translation → Option Translation) (places : List (Option Translation)) (k : ℕ)
    → ((j : ℕ) → j ≢ k → G (get_or places j None) ≡ get_or places j None) → map G places ≡ set places k (G (get_or places k None))
map-one G [] k h = refl
map-one G (o ∷ os) zero h = ap (λ (l : List (Option Translation)). G o ∷ l) (map-fixed G os (λ k. h (suc k) (λ q. omega arith)))
map-one G (o ∷ os) (suc k) h = ap (λ (x : Option Translation). x ∷ map G os) (h zero (λ q. omega arith))
    ∙ ap (λ (l : List (Option Translation)). o ∷ l) (map-one G os k (λ j ne. h (suc j) (λ q. ne (omega arith))))

pub map-step : (G : Option Translation → Option Translation) (places : List (Option Translation)) (k : ℕ) (x : Option Translation)
    → G x ≡ G (get_or places k None) → map G (set places k x) ≡ map G places
map-step G [] k x h = refl
map-step G (o ∷ os) zero x h = ap (λ (y : Option Translation). y ∷ map G os) h
map-step G (o ∷ os) (suc k) x h = ap (λ (l : List (Option Translation)). G o ∷ l) (map-step G os k x h)

pub any-none : (W : Option Translation → Bool) (places : List (Option Translation)) → ((k : ℕ) → W (get_or places k None) ≡ false) → list_any W places ≡ false
any-none W [] h = refl
any-none W (o ∷ os) h = ap (λ (b : Bool). b || list_any W os) (h zero) ∙ any-none W os (λ k. h (suc k))

pub any-step : (W : Option Translation → Bool) (places : List (Option Translation)) (k : ℕ) (x : Option Translation) (acc : Bool) → k < length places
    → W x ≡ false → ((acc || W (get_or places k None)) || list_any W (set places k x)) ≡ (acc || list_any W places)
any-step W [] k x acc lt h = absurd (omega arith)
any-step W (o ∷ os) zero x acc lt h = ap (λ (b : Bool). (acc || W o) || (b || list_any W os)) h ∙ or_assoc acc (W o) (list_any W os)
any-step W (o ∷ os) (suc k) x acc lt h =
    elim (W o) as (λ w. ((acc || W (get_or os k None)) || (w || list_any W (set os k x))) ≡ (acc || (w || list_any W os)))
    [ true ↦ or_right (acc || W (get_or os k None)) true refl ∙ sym (or_right acc true refl) | false ↦ any-step W os k x acc (omega arith) h ]

pub leads-true : (frame : ℕ) (t : Translation) → t.frame ≡ frame → leads frame (Some t) ≡ true
leads-true frame t e = eq-eqb t.frame frame e

leads-false : (o : Option Translation) (frame : ℕ) → (frame_of o ≡ Some frame → ⊥) → leads frame o ≡ false
leads-false None frame h = refl
leads-false (Some t) frame h = ne_eqb t.frame frame (λ q. h (ap (λ (f : ℕ). Some f) q))

no-bit : (bit : Translation → Bool) (o : Option Translation) (frame : ℕ) → leads frame o ≡ false → has_bit bit frame o ≡ false
no-bit bit None frame h = refl
no-bit bit (Some t) frame h = ap (λ (b : Bool). b && bit t) h

pub drop-step : (places : List (Option Translation)) (frame k : ℕ) (t : Translation) → get_or places k None ≡ Some t → t.frame ≡ frame → drop_frame frame (set places k None) ≡ drop_frame frame places
drop-step places frame k t e f = map-step (λ (o : Option Translation). cond (leads frame o) None o) places k None
    (sym (ap (λ (o : Option Translation). cond (leads frame o) None o) e ∙ ap (λ (b : Bool). cond b (let z : Option Translation = None in z) (Some t)) (leads-true frame t f)))

pub clear-step : (places : List (Option Translation)) (frame k : ℕ) (t : Translation) → get_or places k None ≡ Some t → t.frame ≡ frame
    → change_frame frame with_clear_bits (set places k (Some (with_clear_bits t))) ≡ change_frame frame with_clear_bits places
clear-step places frame k t e f = map-step (λ (o : Option Translation). cond (leads frame o) (option_map with_clear_bits o) o) places k (Some (with_clear_bits t))
    (ap (λ (b : Bool). cond b (Some (with_clear_bits t)) (Some (with_clear_bits t))) (leads-true frame t f)
    ∙ sym (ap (λ (o : Option Translation). cond (leads frame o) (option_map with_clear_bits o) o) e ∙ ap (λ (b : Bool). cond b (Some (with_clear_bits t)) (Some t)) (leads-true frame t f)))

-- a bit that is collected on the way: of a place that loses it, and where no place has it any more
pub bit-step : (bit : Translation → Bool) (places : List (Option Translation)) (frame k : ℕ) (t : Translation) (x : Option Translation) (acc : Bool)
    → get_or places k None ≡ Some t → t.frame ≡ frame → has_bit bit frame x ≡ false → ((acc || bit t) || list_any (has_bit bit frame) (set places k x)) ≡ (acc || list_any (has_bit bit frame) places)
bit-step bit places frame k t x acc e f w =
    ap (λ (b : Bool). (acc || b) || list_any (has_bit bit frame) (set places k x)) (sym (ap (has_bit bit frame) e ∙ ap (λ (b : Bool). b && bit t) (leads-true frame t f)))
    ∙ any-step (has_bit bit frame) places k x acc (some-within places k t e) w

pub bit-gone : (bit : Translation → Bool) (places : List (Option Translation)) (frame : ℕ) (acc : Bool)
    → ((k : ℕ) → has_bit bit frame (get_or places k None) ≡ false) → (acc || list_any (has_bit bit frame) places) ≡ acc
bit-gone bit places frame acc h = ap (λ (b : Bool). acc || b) (any-none (has_bit bit frame) places h) ∙ or-false acc

-- where no place leads to the frame any more
pub none-has : (bit : Translation → Bool) (places : List (Option Translation)) (frame : ℕ) → LeadsToFrame places frame None → (k : ℕ) → has_bit bit frame (get_or places k None) ≡ false
none-has bit places frame h k = no-bit bit (get_or places k None) frame (leads-false (get_or places k None) frame (h k))

pub gone-places : (places : List (Option Translation)) (frame : ℕ) → LeadsToFrame places frame None → drop_frame frame places ≡ places
gone-places places frame h = map-fixed (λ (o : Option Translation). cond (leads frame o) None o) places
    (λ k. ap (λ (b : Bool). cond b None (get_or places k None)) (leads-false (get_or places k None) frame (h k)))

-- one translation of the frame less
pub fewer : (places : List (Option Translation)) (frame k : ℕ) (t : Translation) → get_or places k None ≡ Some t → t.frame ≡ frame
    → count_by (leads frame) (set places k None) < count_by (leads frame) places
fewer places frame k t e f =
    let one : ◌≡◌ {A = ℕ} (cond (leads frame (get_or places k None)) 1 0) 1 = ap (λ (o : Option Translation). cond (leads frame o) 1 0) e ∙ ap (λ (b : Bool). cond b 1 0) (leads-true frame t f) in
    omega (arith, one, sum_by-set (λ (o : Option Translation). cond (leads frame o) 1 0) places k None None (some-within places k t e))

-- where all places of the frame have clear bits
module _ (places : List (Option Translation)) (frame : ℕ) (clear : (k : ℕ) → frame_of (get_or places k None) ≡ Some frame
    → get_or places k None ≡ option_map with_clear_bits (get_or places k None)) where
  fixed : (o : Option Translation) → (frame_of o ≡ Some frame → o ≡ option_map with_clear_bits o) → cond (leads frame o) (option_map with_clear_bits o) o ≡ o
  fixed None h = refl
  fixed (Some t) h = elim (cases_Bool (t.frame == frame)) [
    | inl b ↦ ap (λ (b : Bool). cond b (Some (with_clear_bits t)) (Some t)) b ∙ sym (h (ap (λ (f : ℕ). Some f) (eqb-true t.frame frame b)))
    | inr b ↦ ap (λ (b : Bool). cond b (Some (with_clear_bits t)) (Some t)) b
  ]

  unset : (bit : Translation → Bool) → ((t : Translation) → bit (with_clear_bits t) ≡ false) → (o : Option Translation)
      → (frame_of o ≡ Some frame → o ≡ option_map with_clear_bits o) → has_bit bit frame o ≡ false
  unset bit off None h = refl
  unset bit off (Some t) h = elim (cases_Bool (t.frame == frame)) [
    | inl b ↦ ap (has_bit bit frame) (h (ap (λ (f : ℕ). Some f) (eqb-true t.frame frame b))) ∙ and_right (t.frame == frame) (bit (with_clear_bits t)) (off t)
    | inr b ↦ ap (λ (b : Bool). b && bit t) b
  ]

  pub clear-places : change_frame frame with_clear_bits places ≡ places
  clear-places = map-fixed (λ (o : Option Translation). cond (leads frame o) (option_map with_clear_bits o) o) places (λ k. fixed (get_or places k None) (clear k))

  pub clear-has : (bit : Translation → Bool) → ((t : Translation) → bit (with_clear_bits t) ≡ false) → (k : ℕ) → has_bit bit frame (get_or places k None) ≡ false
  clear-has bit off k = unset bit off (get_or places k None) (clear k)

-- a walk over the chain of a frame: what it has passed is clear
pub record Clears (places : List (Option Translation)) (chain : List ℕ) (frame : ℕ) (at : Option ℕ) : Type 0 where
  pub on : IsOn chain at
  pub fits : (k : ℕ) → is_among k chain ≡ is_owner frame (frame_of (get_or places k None))
  pub past : (k : ℕ) → frame_of (get_or places k None) ≡ Some frame → is_among k (rest_from at chain) ≡ false → get_or places k None ≡ option_map with_clear_bits (get_or places k None)

pub clears-start : (places : List (Option Translation)) (order : List (List ℕ)) (frame : ℕ) → HaveOwners order (map frame_of places)
    → Clears places (chain_at order frame) frame (first_in (chain_at order frame))
clears-start places order frame h = record {
  on = walk-start (chain_at order frame);
  fits = λ k. h frame k ∙ ap (is_owner frame) (get_or-map frame_of places k None);
  past = λ k is off. let z : false ≡ true = sym off ∙ ap (is_among k) (rest-first (chain_at order frame))
      ∙ owned-on order (map frame_of places) h frame k (get_or-map frame_of places k None ∙ is) in cc;
}

-- the translation that the walk has reached
pub reached : (places : List (Option Translation)) (chain : List ℕ) (frame place : ℕ) → Clears places chain frame (Some place)
    → (t : Translation) × (get_or places place None ≡ Some t) × (t.frame ≡ frame)
reached places chain frame place c = go (get_or places place None) refl (sym (c.fits place) ∙ c.on)
  where
    go : (o : Option Translation) → get_or places place None ≡ o → is_owner frame (frame_of (get_or places place None)) ≡ true
        → (t : Translation) × (get_or places place None ≡ Some t) × (t.frame ≡ frame)
    go None e h = let z : false ≡ true = sym (ap (λ (o : Option Translation). is_owner frame (frame_of o)) e) ∙ h in cc
    go (Some t) e h = (t, e, eqb-true t.frame frame (sym (ap (λ (o : Option Translation). is_owner frame (frame_of o)) e) ∙ h))

pub clears-step : (places : List (Option Translation)) (chain : List ℕ) (frame place : ℕ) (old : Translation) → Clears places chain frame (Some place)
    → IsDistinct (λ (x y : ℕ). x == y) chain → get_or places place None ≡ Some old → old.frame ≡ frame → Clears (set places place (Some (with_clear_bits old))) chain frame (after_in place chain)
clears-step places chain frame place old c d held of =
    let s = walk-step chain place d c.on in
    record {
      on = s.on;
      fits = λ k. c.fits k ∙ ap (is_owner frame) (elim (cases_eq k place) [
        | inl q ↦ ap frame_of (ap (λ (k : ℕ). get_or places k None) q ∙ held) ∙ sym (ap frame_of (here k q))
        | inr ne ↦ sym (ap frame_of (there k ne))
      ]);
      past = λ k f off. elim (cases_eq k place) [
        | inl q ↦ here k q ∙ sym (ap (option_map with_clear_bits) (here k q))
        | inr ne ↦ there k ne ∙ c.past k (ap frame_of (sym (there k ne)) ∙ f) (ap (is_among k) s.is
            ∙ or_from (k == place) (is_among k (rest_from (after_in place chain) chain)) (ne_eqb k place ne) off) ∙ ap (option_map with_clear_bits) (sym (there k ne))
      ];
    }
  where
    here : (k : ℕ) → k ≡ place → get_or (set places place (Some (with_clear_bits old))) k None ≡ Some (with_clear_bits old)
    here k q = subst (λ (k : ℕ). get_or (set places place (Some (with_clear_bits old))) k None ≡ Some (with_clear_bits old)) (sym q)
        (get_or-set_same places place (Some (with_clear_bits old)) None (some-within places place old held))

    there : (k : ℕ) → k ≢ place → get_or (set places place (Some (with_clear_bits old))) k None ≡ get_or places k None
    there k ne = get_or-set_other places place k (Some (with_clear_bits old)) None ne
