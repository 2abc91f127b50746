-- What all seats have outside, as one lane of some gets something else.
use Rattle.std.proofs.Common.{◌≡◌, ◌≢◌, ℕ, zero, suc, ◌==◌, Bool, true, false, cond, List, [], ◌∷◌, Option, Some, refl, sym, ap, ◌∙◌, ◌⊎◌, inl, inr, subst, arith}
use Rattle.std.specs.Prelude.{slice_get, slice_set}
use Rattle.std.proofs.lemmas.Bool.Decides.{eqb_tells}
use Rattle.std.proofs.lemmas.Option.{slice_get_within}
use Rattle.fault_entry.specs.vm_world.State.{Seats, with_sent}
use Rattle.fault_entry.proofs.page_store.FrameLaws.{eq-far as is-other, eq-same}
use Rattle.lane_driver.specs.Lanes.{LaneSeen, HaveOwnSeats, lane_sent, with_lanes}

pub no-lane : (n : ℕ) (lane : LaneSeen) → slice_get [] n ≡ Some lane → ⊥
no-lane n lane at = let lt = slice_get_within [] n lane at in omega (arith, lt)

pub same-lane : (a b : LaneSeen) → ◌≡◌ {A = Option LaneSeen} (Some a) (Some b) → a ≡ b
same-lane a b e = cc

-- the lanes behind the first
pub rest-own : (l : LaneSeen) (ls : List LaneSeen) → HaveOwnSeats (l ∷ ls) → HaveOwnSeats ls
rest-own l ls own = λ i j one two a b same. let e = own (suc i) (suc j) one two a b same in omega (arith, e)

first-far : (l lane : LaneSeen) (ls : List LaneSeen) (n : ℕ) → HaveOwnSeats (l ∷ ls) → slice_get ls n ≡ Some lane → l.seat ≢ lane.seat
first-far l lane ls n own at same = let e = own 0 (suc n) l lane refl at same in omega (arith, e)

-- a lane's seat has what the lane has
pub at-lane : (seats : Seats) (lanes : List LaneSeen) (n : ℕ) (lane : LaneSeen) → HaveOwnSeats lanes → slice_get lanes n ≡ Some lane → with_lanes seats lanes lane.seat ≡ lane_sent lane
at-lane seats [] n lane own at = absurd (no-lane n lane at)
at-lane seats (l ∷ ls) zero lane own at =
    subst (λ (x : LaneSeen). with_lanes seats (l ∷ ls) x.seat ≡ lane_sent x) (same-lane l lane at)
    (ap (λ (b : Bool). cond b (lane_sent l) (with_lanes seats ls l.seat)) (eq-same l.seat))
at-lane seats (l ∷ ls) (suc n) lane own at =
    ap (λ (b : Bool). cond b (lane_sent l) (with_lanes seats ls lane.seat)) (is-other lane.seat l.seat (λ e. first-far l lane ls n own at (sym e)))
    ∙ at-lane seats ls n lane (rest-own l ls own) at

-- THE SEATS where one lane has something else are those of the lanes with that one changed.
module _ (seats : Seats) (lane after : LaneSeen) (same : after.seat ≡ lane.seat) where
  by-seat : (lanes : List LaneSeen) (n : ℕ) → HaveOwnSeats lanes → slice_get lanes n ≡ Some lane → (k : ℕ) → cond (k == lane.seat) (lane_sent after) (with_lanes seats lanes k) ≡ with_lanes seats (slice_set lanes n after) k
  by-seat [] n own at k = absurd (no-lane n lane at)
  by-seat (l ∷ ls) zero own at k =
      let now : (k == after.seat) ≡ (k == lane.seat) = ap (λ (s : ℕ). k == s) same in
      let was : (k == l.seat) ≡ (k == lane.seat) = ap (λ (a : LaneSeen). k == a.seat) (same-lane l lane at) in
      ap (λ (b : Bool). cond (k == lane.seat) (lane_sent after) (cond b (lane_sent l) (with_lanes seats ls k))) was
      ∙ twice (k == lane.seat) (lane_sent after) (lane_sent l) (with_lanes seats ls k)
      ∙ sym (ap (λ (b : Bool). cond b (lane_sent after) (with_lanes seats ls k)) now)
    where
      twice : {A : Type 0} → (b : Bool) (x y z : A) → cond b x (cond b y z) ≡ cond b x z
      twice true x y z = refl
      twice false x y z = refl
  by-seat (l ∷ ls) (suc n) own at k = elim (eqb_tells k l.seat) [
    | inl y ↦
        let other : (k == lane.seat) ≡ false = is-other k lane.seat (λ e. first-far l lane ls n own at (sym y.1 ∙ e)) in
        ap (λ (b : Bool). cond b (lane_sent after) (with_lanes seats (l ∷ ls) k)) other
        ∙ ap (λ (b : Bool). cond b (lane_sent l) (with_lanes seats ls k)) y.0
        ∙ sym (ap (λ (b : Bool). cond b (lane_sent l) (with_lanes seats (slice_set ls n after) k)) y.0)
    | inr x ↦
        ap (λ (b : Bool). cond (k == lane.seat) (lane_sent after) (cond b (lane_sent l) (with_lanes seats ls k))) x.0
        ∙ by-seat ls n (rest-own l ls own) at k
        ∙ sym (ap (λ (b : Bool). cond b (lane_sent l) (with_lanes seats (slice_set ls n after) k)) x.0)
  ]

  pub set-lane : (lanes : List LaneSeen) (n : ℕ) → HaveOwnSeats lanes → slice_get lanes n ≡ Some lane → with_sent (with_lanes seats lanes) lane.seat (lane_sent after) ≡ with_lanes seats (slice_set lanes n after)
  set-lane lanes n own at = λ i k. by-seat lanes n own at k i

-- WHICH LANE STANDS WHERE once one was changed.
pub now-at : (lanes : List LaneSeen) (n : ℕ) (lane after : LaneSeen) → slice_get lanes n ≡ Some lane → (k : ℕ) (one : LaneSeen) → slice_get (slice_set lanes n after) k ≡ Some one
    → ((k ≡ n) × (one ≡ after)) ⊎ ((k ≢ n) × (slice_get lanes k ≡ Some one))
now-at [] n lane after at k one now = absurd (no-lane n lane at)
now-at (l ∷ ls) zero lane after at zero one now = inl (refl, sym (same-lane after one now))
now-at (l ∷ ls) zero lane after at (suc k) one now = inr (λ e. omega (arith, e), now)
now-at (l ∷ ls) (suc n) lane after at zero one now = inr (λ e. omega (arith, e), now)
now-at (l ∷ ls) (suc n) lane after at (suc k) one now = elim (now-at ls n lane after at k one now) [
  | inl y ↦ inl (ap suc y.0, y.1)
  | inr x ↦ inr (λ e. x.0 (omega (arith, e)), x.1)
]

pub still-at : (lanes : List LaneSeen) (n : ℕ) (lane after : LaneSeen) → slice_get lanes n ≡ Some lane → (k : ℕ) (one : LaneSeen) → slice_get lanes k ≡ Some one
    → (now : LaneSeen) × (slice_get (slice_set lanes n after) k ≡ Some now) × (((k ≡ n) × (now ≡ after)) ⊎ ((k ≢ n) × (now ≡ one)))
still-at [] n lane after at k one was = absurd (no-lane n lane at)
still-at (l ∷ ls) zero lane after at zero one was = (after, refl, inl (refl, refl))
still-at (l ∷ ls) zero lane after at (suc k) one was = (one, was, inr (λ e. omega (arith, e), refl))
still-at (l ∷ ls) (suc n) lane after at zero one was = (one, was, inr (λ e. omega (arith, e), refl))
still-at (l ∷ ls) (suc n) lane after at (suc k) one was =
    let r = still-at ls n lane after at k one was in
    (r.0, r.1, elim r.2 [ inl y ↦ inl (ap suc y.0, y.1) | inr x ↦ inr (λ e. x.0 (omega (arith, e)), x.1) ])

-- the seats stay apart
pub own-set : (lanes : List LaneSeen) (n : ℕ) (lane after : LaneSeen) → slice_get lanes n ≡ Some lane → after.seat ≡ lane.seat → HaveOwnSeats lanes → HaveOwnSeats (slice_set lanes n after)
own-set lanes n lane after at same own = λ i j one two a b equal.
    let x = was i one a in
    let y = was j two b in
    own i j x.0 y.0 x.1 y.1 (sym x.2 ∙ equal ∙ y.2)
  where
    was : (k : ℕ) (now : LaneSeen) → slice_get (slice_set lanes n after) k ≡ Some now → (old : LaneSeen) × (slice_get lanes k ≡ Some old) × (now.seat ≡ old.seat)
    was k now is = elim (now-at lanes n lane after at k now is) [
      | inl y ↦ (lane, ap (slice_get lanes) y.0 ∙ at, ap (λ (l : LaneSeen). l.seat) y.1 ∙ same)
      | inr x ↦ (now, x.1, refl)
    ]
