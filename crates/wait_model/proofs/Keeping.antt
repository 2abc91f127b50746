-- What holds of a bell and those who rest there, and which changes of seats keep it.
use Rattle.std.proofs.Common.{◌≡◌, ◌⊎◌, inl, inr, ℕ, Bool, true, false, refl}
use Rattle.wait_model.specs.Bells.{BellName, ByBell}
use Rattle.wait_model.specs.Waiting.{WaitingSeat, Waiting, seat_numbered}
use Rattle.wait_model.proofs.Stands.{Stand, stand}

abbrev pub stand_of : BellName → Waiting → ℕ → Stand
stand_of c w k = stand c w.rings (seat_numbered w k)

-- some seat passes
abbrev pub Some : BellName → Waiting → (Stand → Bool) → Type 0
Some c w test = (k : ℕ) × (test (stand_of c w k) ≡ true)

abbrev pub NobodySleeps : BellName → Waiting → Type 0
NobodySleeps c w = (p : ℕ) → (stand_of c w p).sleeps ≡ true → ⊥

-- Who has seen the count that the bell has still, has somebody who will raise it. Who is past its second look while the word is 1 has somebody who answers for it, and who sleeps while the word is 0 has one who wakes.
pub record BellHolds (c : BellName) (w : Waiting) : Type 0 where
  pub fresh : (p : ℕ) → (stand_of c w p).fresh ≡ true → Some c w (λ u. u.owes)
  pub deep : w.asleep c ≡ true → (p : ℕ) → (stand_of c w p).deep ≡ true → Some c w (λ u. u.answers)
  pub sleeps : w.asleep c ≡ false → (p : ℕ) → (stand_of c w p).sleeps ≡ true → Some c w (λ u. u.wakes)

-- A seat's part in that, where the word and the count change so: `Other` is somebody else who will ring, `None` says that nobody sleeps.
pub record Kept (old new rose : Bool) (Other None : Type 0) (u v : Stand) : Type 0 where
  pub owes : rose ≡ false → u.owes ≡ true → v.owes ≡ true
  pub fresh : rose ≡ false → v.fresh ≡ true → (u.fresh ≡ true) ⊎ Other
  pub answers : old ≡ true → new ≡ true → u.answers ≡ true → (v.answers ≡ true) ⊎ ((rose ≡ false) × Other)
  pub deep : v.deep ≡ true → (u.deep ≡ true) ⊎ ((rose ≡ false) × (u.fresh ≡ true))
  pub wakes : new ≡ false → u.wakes ≡ true → (v.wakes ≡ true) ⊎ None
  pub sleeps : new ≡ false → v.sleeps ≡ true → u.sleeps ≡ true

pub owes_answers : (c : BellName) (rings : ByBell ℕ) (x : WaitingSeat) → (stand c rings x).owes ≡ true → (stand c rings x).answers ≡ true
owes_answers c rings x h = simp h

-- whoever sleeps is being woken
abbrev pub AreWoken : BellName → Waiting → Waiting → Type 0
AreWoken c w t = (p : ℕ) → (stand_of c w p).sleeps ≡ true → Some c t (λ u. u.wakes)

-- From w to t, where `rose` says that the count rose.
module _ (c : BellName) (w t : Waiting) (rose : Bool) (holds : BellHolds c w) (no_more : rose ≡ true → (p : ℕ) → (stand_of c t p).fresh ≡ true → ⊥)
    (kept : (p : ℕ) → Kept (w.asleep c) (t.asleep c) rose (Some c w (λ u. u.owes)) (AreWoken c w t) (stand_of c w p) (stand_of c t p)) where
  pub owing_kept : rose ≡ false → Some c w (λ u. u.owes) → Some c t (λ u. u.owes)
  owing_kept still h = (h.0, (kept h.0).owes still h.1)

  fresh_by : (r : Bool) → rose ≡ r → (p : ℕ) → (stand_of c t p).fresh ≡ true → Some c t (λ u. u.owes)
  fresh_by true e p is = absurd (no_more e p is)
  fresh_by false e p is = by ((kept p).fresh e is)
    where
      by : ((stand_of c w p).fresh ≡ true) ⊎ Some c w (λ u. u.owes) → Some c t (λ u. u.owes)
      by (inl was) = owing_kept e (holds.fresh p was)
      by (inr h) = owing_kept e h

  pub fresh_now : (p : ℕ) → (stand_of c t p).fresh ≡ true → Some c t (λ u. u.owes)
  fresh_now = fresh_by rose refl

  pub answering : Some c t (λ u. u.owes) → Some c t (λ u. u.answers)
  answering h = (h.0, owes_answers c t.rings (seat_numbered t h.0) h.1)

  module _ (up : w.asleep c ≡ false → t.asleep c ≡ true → Some c t (λ u. u.answers)) (down : w.asleep c ≡ true → t.asleep c ≡ false → Some c t (λ u. u.wakes)) where
    deep_by : (a : Bool) → w.asleep c ≡ a → t.asleep c ≡ true → (p : ℕ) → (stand_of c t p).deep ≡ true → Some c t (λ u. u.answers)
    deep_by false e now p is = up e now
    deep_by true e now p is = by ((kept p).deep is)
      where
        at : (k : ℕ) → ((stand_of c t k).answers ≡ true) ⊎ ((rose ≡ false) × Some c w (λ u. u.owes)) → Some c t (λ u. u.answers)
        at k (inl h) = (k, h)
        at k (inr h) = answering (owing_kept h.0 h.1)

        by : ((stand_of c w p).deep ≡ true) ⊎ ((rose ≡ false) × ((stand_of c w p).fresh ≡ true)) → Some c t (λ u. u.answers)
        by (inl was) = let h = holds.deep e p was in at h.0 ((kept h.0).answers e now h.1)
        by (inr was) = answering (owing_kept was.0 (holds.fresh p was.1))

    sleeps_by : (a : Bool) → w.asleep c ≡ a → t.asleep c ≡ false → (p : ℕ) → (stand_of c t p).sleeps ≡ true → Some c t (λ u. u.wakes)
    sleeps_by true e now p is = down e now
    sleeps_by false e now p is = let h = holds.sleeps e p ((kept p).sleeps now is) in at h.0 ((kept h.0).wakes now h.1)
      where
        at : (k : ℕ) → ((stand_of c t k).wakes ≡ true) ⊎ AreWoken c w t → Some c t (λ u. u.wakes)
        at k (inl h) = (k, h)
        at k (inr woken) = woken p ((kept p).sleeps now is)

    pub still_holds : BellHolds c t
    still_holds = record { fresh = fresh_now; deep = deep_by (w.asleep c) refl; sleeps = sleeps_by (w.asleep c) refl }

pub kept_same : (a new : Bool) (Other None : Type 0) (u : Stand) → Kept a new false Other None u u
kept_same a new Other None u = record { owes = λ still h. h; fresh = λ still h. inl h; answers = λ one now h. inl h; deep = λ h. inl h; wakes = λ off h. inl h; sleeps = λ off h. h }

-- where nobody sleeps, whoever sleeps is being woken
pub kept_woken : {old new rose : Bool} {Other : Type 0} {u v : Stand} (c : BellName) (w t : Waiting) → Kept old new rose Other (NobodySleeps c w) u v → Kept old new rose Other (AreWoken c w t) u v
kept_woken {u = u} {v = v} c w t k = record {
  owes = k.owes;
  fresh = k.fresh;
  answers = k.answers;
  deep = k.deep;
  wakes = λ off h. by (k.wakes off h);
  sleeps = k.sleeps;
}
  where
    by : (v.wakes ≡ true) ⊎ NobodySleeps c w → (v.wakes ≡ true) ⊎ AreWoken c w t
    by (inl h) = inl h
    by (inr none) = inr (λ p is. absurd (none p is))
