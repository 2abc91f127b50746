-- What a step of one seat keeps, as a test of all values at once.
use Rattle.std.proofs.Common.{◌≡◌, ◌⊎◌, inl, inr, Bool, true, false, not, ◌&&◌, ◌||◌, refl}
use Rattle.std.proofs.lemmas.Bool.{and_from}
use Rattle.wait_model.proofs.Tests.{implies, implied, all_six, six}
use Rattle.wait_model.proofs.Stands.{Stand}
use Rattle.wait_model.proofs.Keeping.{Kept}

-- `Kept` as a test, where the word and the count stay
abbrev pub is_kept : Bool → Bool → Bool → Stand → Stand → Bool
is_kept word other none u v = all_six (implies u.owes v.owes) (implies v.fresh (u.fresh || other)) (implies (word && u.answers) (v.answers || other)) (implies v.deep (u.deep || u.fresh))
    (implies (not word && u.wakes) (v.wakes || none)) (implies (not word && v.sleeps) u.sleeps)

negated : (a : Bool) → a ≡ false → not a ≡ true
negated false h = refl
negated true h = absurd (cc)

module _ (word other none : Bool) (Other None : Type 0) (is_other : other ≡ true → Other) (is_none : none ≡ true → None) (u v : Stand) where
  with_other : (a : Bool) → (a || other) ≡ true → (a ≡ true) ⊎ Other
  with_other true h = inl refl
  with_other false h = inr (is_other h)

  with_none : (a : Bool) → (a || none) ≡ true → (a ≡ true) ⊎ None
  with_none true h = inl refl
  with_none false h = inr (is_none h)

  from_fresh : (a b : Bool) → (a || b) ≡ true → (a ≡ true) ⊎ ((false ≡ false) × (b ≡ true))
  from_fresh true b h = inl refl
  from_fresh false b h = inr (refl, h)

  still_other : (a : Bool) → (a || other) ≡ true → (a ≡ true) ⊎ ((false ≡ false) × Other)
  still_other true h = inl refl
  still_other false h = inr (refl, is_other h)

  pub kept_by : is_kept word other none u v ≡ true → Kept word word false Other None u v
  kept_by kept = let k = six _ _ _ _ _ _ kept in record {
    owes = λ still h. implied u.owes v.owes k.first h;
    fresh = λ still h. with_other u.fresh (implied v.fresh (u.fresh || other) k.second h);
    answers = λ one now h. still_other v.answers (implied (word && u.answers) (v.answers || other) k.third (and_from word u.answers one h));
    deep = λ h. from_fresh u.deep u.fresh (implied v.deep (u.deep || u.fresh) k.fourth h);
    wakes = λ zero h. with_none v.wakes (implied (not word && u.wakes) (v.wakes || none) k.fifth (and_from (not word) u.wakes (negated word zero) h));
    sleeps = λ zero h. implied (not word && v.sleeps) u.sleeps k.sixth (and_from (not word) v.sleeps (negated word zero) h);
  }
