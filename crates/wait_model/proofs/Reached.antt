-- It holds at the start, and each step keeps it; so nobody sleeps for good.
use Rattle.std.proofs.Common.{◌≡◌, ℕ, Bool, true, false, ◌||◌, [], ◌∷◌, refl}
use Rattle.std.proofs.Math.Dec.{eqb}
use Rattle.std.proofs.lemmas.Bool.{or_left, or_right}
use Rattle.wait_model.specs.Bells.{BellName, leaves, is_same_bell, ByBell, with_bell, raise, look, swap, wake, swap_for_all, wake_all}
use Rattle.wait_model.specs.Waiting.{RestStage, announcing, comparing_again, waking, Phase, idle, waits, tries, rests, Errand, quick, WaitingSeat, Waiting, seat_at, IsSeat, with_seat}
use Rattle.wait_model.specs.OwnSteps.{three_bells}
use Rattle.wait_model.specs.Steps.{WaitStep, own, child_ends, announces, announces_again, raises, raises_for_all, swaps, swaps_for_all, wakes, wakes_all, with_word, WaitSteps, none, ◌then◌}
use Rattle.wait_model.proofs.Tests.{implies, implied, of_bells, of_bell, with_same_bell}
use Rattle.wait_model.proofs.Stands.{has, is_raise, is_look, is_wake, is_sound_at}
use Rattle.wait_model.proofs.OwnKeeps.{own_keeps, plain, rest_at, at_bell, every, at_every, seen_as, keeps}
use Rattle.wait_model.proofs.Holding.{Holds, own_holds, own_seen, on_holds, off_holds, up_holds, sound_was, seen_was}
use Rattle.wait_model.proofs.Woken.{wakes_all_holds, wakes_holds}

-- whoever sets the word goes on to a try, or has seen the count that the bell has
abbrev settles : RestStage → (BellName → Phase) → Bool
settles stage to = of_bells (λ b. every (λ e h c a q. implies (is_sound_at (rests b stage) e h) ((seen_as b q [] (to b) e h).fresh || (seen_as b q [] (to b) e h).answers)))

settled : (stage : RestStage) (to : BellName → Phase) → settles stage to ≡ true → (b : BellName) (q : Bool) (e : Errand) (h : Bool) → is_sound_at (rests b stage) e h ≡ true →
    ((seen_as b q [] (to b) e h).fresh || (seen_as b q [] (to b) e h).answers) ≡ true
settled stage to table b q e h = implied (is_sound_at (rests b stage) e h) _
    (at_every (λ e h c a q. implies (is_sound_at (rests b stage) e h) ((seen_as b q [] (to b) e h).fresh || (seen_as b q [] (to b) e h).answers))
    (of_bell (λ b. every (λ e h c a q. implies (is_sound_at (rests b stage) e h) ((seen_as b q [] (to b) e h).fresh || (seen_as b q [] (to b) e h).answers))) table b) e h leaves true q)

module _ (w : Waiting) (holds : Holds w) (i : ℕ) (b : BellName) (e : Errand) (h : Bool) (v : ByBell ℕ) (stage : RestStage) (to : BellName → Phase) (is : IsSeat w i (seat_at (rests b stage) e h v))
    (table : of_bells (λ b. every (λ e h c a q. keeps (implies (is_same_bell c b) a) false (rests b stage) e h [] (to b) e h c a q)) ≡ true) (settle : settles stage to ≡ true) where
  abbrev here : WaitingSeat
  here = seat_at (rests b stage) e h v

  set_holds : Holds (with_word b true (with_seat i (seat_at (to b) e h v) w))
  set_holds = on_holds w holds i here is b (seat_at (to b) e h v)
      (λ c. rest_at c w (with_bell b true w.asleep c) v (λ b c a q. implies (is_same_bell c b) a) stage to table b e h
      (at_bell c w (with_bell b true w.asleep) b (with_same_bell b true w.asleep)) (sound_was w holds i here is))
      (seen_was w holds i here is) (settled stage to settle b (eqb (v b) (w.rings b)) e h (sound_was w holds i here is))

of_other : (a b : Bool) → a ≡ false → (a || b) ≡ true → b ≡ true
of_other false b e h = h
of_other true b e h = absurd (cc)

step_holds : (w : Waiting) → Holds w → {t : Waiting} → WaitStep three_bells w t → Holds t
step_holds w holds (own i {x = x} {y = y} is step) = own_holds w holds i x is y (λ c. own_keeps c w step (sound_was w holds i x is)) (own_seen w step (seen_was w holds i x is))
step_holds w holds (child_ends i n {v = v} is ended) = own_holds w holds i (seat_at (waits n) quick false v) is (seat_at idle quick false v)
    (λ c. plain c w v (waits n) quick false [] idle quick false refl refl) (seen_was w holds i (seat_at (waits n) quick false v) is)
step_holds w holds (announces i b {e = e} {h = h} {v = v} is) = set_holds w holds i b e h v announcing (λ b. rests b comparing_again) is refl refl
step_holds w holds (announces_again i b {e = e} {h = h} {v = v} is) = set_holds w holds i b e h v waking (λ b. tries) is refl refl
step_holds w holds (raises i b {ds = ds} x is) = up_holds w holds i b (raise b ∷ look b ∷ ds) (look b ∷ ds) x is (λ c. of_other (is_same_bell c b) (has (is_raise c) ds)) (λ c h. h)
    (λ c. or_left (is_same_bell c b) (has (is_look c) ds)) (λ c h. h)
step_holds w holds (raises_for_all i b {ds = ds} x is) = up_holds w holds i b (raise b ∷ swap_for_all b ∷ ds) (swap_for_all b ∷ ds) x is
    (λ c. of_other (is_same_bell c b) (has (is_raise c) ds)) (λ c h. h) (λ c. or_left (is_same_bell c b) (has (is_look c) ds)) (λ c h. h)
step_holds w holds (swaps i b {ds = ds} x is on) = off_holds w holds i b (swap b ∷ ds) (wake b ∷ ds) x is on (λ c h. h) (λ c. of_other (is_same_bell c b) (has (is_look c) ds))
    (λ c. or_right (is_same_bell c b) (has (is_wake c) ds)) (λ c. or_left (is_same_bell c b) (has (is_wake c) ds))
step_holds w holds (swaps_for_all i b {ds = ds} x is on) = off_holds w holds i b (swap_for_all b ∷ ds) (wake_all b ∷ ds) x is on (λ c h. h)
    (λ c. of_other (is_same_bell c b) (has (is_look c) ds)) (λ c. or_right (is_same_bell c b) (has (is_wake c) ds)) (λ c. or_left (is_same_bell c b) (has (is_wake c) ds))
step_holds w holds (wakes i k b {ds = ds} x {e = e} {h = h} {v = v} is sleeps) = wakes_holds w holds i b ds x k e h v is sleeps
step_holds w holds (wakes_all i b {ds = ds} x is) = wakes_all_holds w holds i b ds x is

pub steps_hold : (w : Waiting) → Holds w → {t : Waiting} → WaitSteps three_bells w t → Holds t
steps_hold w holds none = holds
steps_hold w holds (◌then◌ {t = t} step walk) = steps_hold t (step_holds w holds step) walk
