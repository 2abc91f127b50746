-- Numbered disks of which each changed as one may.
use Rattle.std.proofs.Common.{◌≡◌, ◌≢◌, ℕ, zero, suc, List, [], ◌∷◌, length, map, refl, sym, ap, ◌∙◌, subst, arith, inl, inr, get_or}
use Rattle.std.specs.Prelude.{Some, slice_get, slice_set, option_map}
use Rattle.std.proofs.lemmas.Bool.{cases_eq}
use Rattle.std.proofs.lemmas.List.{length-set}
use Rattle.std.proofs.lemmas.Option.{slice_get_within, slice_get-get_or, slice_get-map}
use Rattle.block_device.specs.DiskSeen.{DiskSeen}

-- Each disk has its number, and changed as R says.
pub record Each (R : DiskSeen → DiskSeen → Type 0) (old new : List (ℕ × DiskSeen)) : Type 0 where
  pub count : length new ≡ length old
  pub numbers : map (λ (d : ℕ × DiskSeen). d.0) new ≡ map (λ (d : ℕ × DiskSeen). d.0) old
  pub each : (i : ℕ) (d e : ℕ × DiskSeen) → slice_get old i ≡ Some d → slice_get new i ≡ Some e → R d.1 e.1

number_at : (ds : List (ℕ × DiskSeen)) (i : ℕ) (d : ℕ × DiskSeen) → slice_get ds i ≡ Some d → slice_get (map (λ (x : ℕ × DiskSeen). x.0) ds) i ≡ Some d.0
number_at ds i d at = slice_get-map (λ (x : ℕ × DiskSeen). x.0) ds i ∙ ap (option_map (λ (x : ℕ × DiskSeen). x.0)) at

pub one_at : (ds : List (ℕ × DiskSeen)) (i : ℕ) (d e : ℕ × DiskSeen) → slice_get ds i ≡ Some d → slice_get ds i ≡ Some e → d ≡ e
one_at ds i d e at there = let both : Some d ≡ Some e = sym at ∙ there in cc

-- one disk put in the place of another
pub put_here : (ds : List (ℕ × DiskSeen)) (i : ℕ) (d e : ℕ × DiskSeen) → slice_get ds i ≡ Some d → slice_get (slice_set ds i e) i ≡ Some e
put_here [] i d e at = absurd (cc)
put_here (x ∷ xs) zero d e at = refl
put_here (x ∷ xs) (suc i) d e at = put_here xs i d e at

pub put_other : (ds : List (ℕ × DiskSeen)) (i j : ℕ) (e : ℕ × DiskSeen) → j ≢ i → slice_get (slice_set ds i e) j ≡ slice_get ds j
put_other [] i j e other = refl
put_other (x ∷ xs) zero zero e other = absurd (other refl)
put_other (x ∷ xs) zero (suc j) e other = refl
put_other (x ∷ xs) (suc i) zero e other = refl
put_other (x ∷ xs) (suc i) (suc j) e other = put_other xs i j e (λ same. other (ap suc same))

put_numbers : (ds : List (ℕ × DiskSeen)) (i : ℕ) (d e : ℕ × DiskSeen) → slice_get ds i ≡ Some d → e.0 ≡ d.0 → map (λ (x : ℕ × DiskSeen). x.0) (slice_set ds i e) ≡ map (λ (x : ℕ × DiskSeen). x.0) ds
put_numbers [] i d e at same = refl
put_numbers (z ∷ zs) zero d e at same =
    let first : d ≡ z = cc in
    ap (λ (n : ℕ). n ∷ map (λ (x : ℕ × DiskSeen). x.0) zs) (same ∙ ap (λ (x : ℕ × DiskSeen). x.0) first)
put_numbers (z ∷ zs) (suc i) d e at same = ap (λ (ns : List ℕ). z.0 ∷ ns) (put_numbers zs i d e at same)

module _ (R : DiskSeen → DiskSeen → Type 0) (still : (d : DiskSeen) → R d d) where
  pub each_same : (ds : List (ℕ × DiskSeen)) → Each R ds ds
  each_same ds = record {
    count = refl;
    numbers = refl;
    each = λ i d e was now. subst (λ (x : ℕ × DiskSeen). R d.1 x.1) (one_at ds i d e was now) (still d.1);
  }

  pub each_put : (ds : List (ℕ × DiskSeen)) (i : ℕ) (d e : ℕ × DiskSeen) → slice_get ds i ≡ Some d → e.0 ≡ d.0 → R d.1 e.1 → Each R ds (slice_set ds i e)
  each_put ds i d e at number changed = record {
    count = length-set ds i e;
    numbers = put_numbers ds i d e at number;
    each = λ j x y was now. elim (cases_eq j i) [
      | inl same ↦
          let first : d ≡ x = one_at ds i d x at (ap (slice_get ds) (sym same) ∙ was) in
          let second : e ≡ y = one_at (slice_set ds i e) i e y (put_here ds i d e at) (ap (slice_get (slice_set ds i e)) (sym same) ∙ now) in
          subst (λ (p : ℕ × DiskSeen). R p.1 y.1) first (subst (λ (q : ℕ × DiskSeen). R d.1 q.1) second changed)
      | inr other ↦ subst (λ (q : ℕ × DiskSeen). R x.1 q.1) (one_at ds j x y was (sym (put_other ds i j e other) ∙ now)) (still x.1)
    ];
  }

-- what a disk was before, and what it is after
pub record Was (R : DiskSeen → DiskSeen → Type 0) (old : List (ℕ × DiskSeen)) (i : ℕ) (e : ℕ × DiskSeen) : Type 0 where
  pub was : ℕ × DiskSeen
  pub at : slice_get old i ≡ Some was
  pub number : e.0 ≡ was.0
  pub changed : R was.1 e.1

pub was_before : (R : DiskSeen → DiskSeen → Type 0) (old new : List (ℕ × DiskSeen)) (i : ℕ) (e : ℕ × DiskSeen) → Each R old new → slice_get new i ≡ Some e → Was R old i e
was_before R old new i e all there =
    let d = get_or old i e in
    let at : slice_get old i ≡ Some d = slice_get-get_or old i e (omega (arith, slice_get_within new i e there, all.count)) in
    record {
      was = d;
      at = at;
      number = (let both : Some e.0 ≡ Some d.0 = sym (number_at new i e there) ∙ ap (λ (ns : List ℕ). slice_get ns i) all.numbers ∙ number_at old i d at in cc);
      changed = all.each i d e at there;
    }

pub record Becomes (R : DiskSeen → DiskSeen → Type 0) (d : ℕ × DiskSeen) (new : List (ℕ × DiskSeen)) (i : ℕ) : Type 0 where
  pub is : ℕ × DiskSeen
  pub at : slice_get new i ≡ Some is
  pub number : is.0 ≡ d.0
  pub changed : R d.1 is.1

pub there_after : (R : DiskSeen → DiskSeen → Type 0) (old new : List (ℕ × DiskSeen)) (i : ℕ) (d : ℕ × DiskSeen) → Each R old new → slice_get old i ≡ Some d → Becomes R d new i
there_after R old new i d all at =
    let e = get_or new i d in
    let there : slice_get new i ≡ Some e = slice_get-get_or new i d (omega (arith, slice_get_within old i d at, all.count)) in
    record {
      is = e;
      at = there;
      number = (let both : Some e.0 ≡ Some d.0 = sym (number_at new i e there) ∙ ap (λ (ns : List ℕ). slice_get ns i) all.numbers ∙ number_at old i d at in cc);
      changed = all.each i d e at there;
    }

pub each_then : (R : DiskSeen → DiskSeen → Type 0) → ((a b c : DiskSeen) → R a b → R b c → R a c) → (xs ys zs : List (ℕ × DiskSeen)) → Each R xs ys → Each R ys zs → Each R xs zs
each_then R through xs ys zs first second = record {
  count = second.count ∙ first.count;
  numbers = second.numbers ∙ first.numbers;
  each = λ i d f was now.
      let mid = there_after R xs ys i d first was in
      through d.1 mid.is.1 f.1 mid.changed (second.each i mid.is f mid.at now);
}
