-- How a seat stands to a bell: what a rest there wants of others, and what it answers for.
use Rattle.std.proofs.Common.{ℕ, Bool, true, false, not, ◌&&◌, ◌||◌, List, [], ◌∷◌}
use Rattle.std.proofs.Math.Dec.{eqb}
use Rattle.wait_model.specs.Bells.{BellName, leaves, changes, files, is_same_bell, ByBell, Duty, raise, look, swap, wake, swap_for_all, wake_all}
use Rattle.wait_model.specs.Waiting.{RestStage, comparing, announcing, comparing_again, parking, sleeping, waking, Phase, tries, inside, out, rests, Errand, quick, file_turns, is_by_turns, is_for_file, is_open, is_inside, sleeps_on, WaitingSeat}

-- what the duties hold for a bell: a count to raise, a look at its word, a wake-up
abbrev pub is_raise : BellName → Duty → Bool
is_raise c (raise b) = is_same_bell c b
is_raise c _ = false

abbrev pub is_look : BellName → Duty → Bool
is_look c (look b) = is_same_bell c b
is_look c (swap b) = is_same_bell c b
is_look c (swap_for_all b) = is_same_bell c b
is_look c _ = false

abbrev pub is_wake : BellName → Duty → Bool
is_wake c (wake b) = is_same_bell c b
is_wake c (wake_all b) = is_same_bell c b
is_wake c _ = false

abbrev pub has : (Duty → Bool) → List Duty → Bool
has test [] = false
has test (d ∷ ds) = test d || has test ds

-- at the lock, or with a transfer
abbrev pub at_lock : Phase → Bool
at_lock tries = true
at_lock inside = true
at_lock out = true
at_lock (rests leaves stage) = true
at_lock _ = false

abbrev pub rests_on : BellName → Phase → Bool
rests_on c (rests b stage) = is_same_bell c b
rests_on c _ = false

abbrev pub is_early : RestStage → Bool
is_early comparing = true
is_early announcing = true
is_early comparing_again = true
is_early _ = false

abbrev pub rests_early : BellName → Phase → Bool
rests_early c (rests b stage) = is_same_bell c b && is_early stage
rests_early c _ = false

abbrev pub is_deep : RestStage → Bool
is_deep parking = true
is_deep sleeping = true
is_deep _ = false

abbrev pub rests_deep : BellName → Phase → Bool
rests_deep c (rests b stage) = is_same_bell c b && is_deep stage
rests_deep c _ = false

abbrev pub is_waking : BellName → Phase → Bool
is_waking c (rests b waking) = is_same_bell c b
is_waking c _ = false

-- it will raise the count
abbrev pub will_ring : BellName → Phase → Errand → Bool → Bool
will_ring leaves phase e h = is_inside phase
will_ring changes phase e h = h
will_ring files phase e h = is_open e

-- it is on its way to what rings, or to another that will
abbrev pub is_on_way : BellName → Phase → Errand → Bool
is_on_way leaves tries e = true
is_on_way leaves _ e = false
is_on_way changes phase e = is_by_turns e && at_lock phase
is_on_way files phase e = is_for_file e && (at_lock phase || rests_on changes phase)

pub record Stand : Type 0 where
  -- it rests with the count that the bell has still; it is past its second look; it sleeps
  pub fresh : Bool
  pub deep : Bool
  pub sleeps : Bool
  -- it will raise the count; it answers for those who rest deep while the word is 1; for those who sleep while it is 0
  pub owes : Bool
  pub answers : Bool
  pub wakes : Bool

abbrev pub stand_by : BellName → Bool → Bool → Bool → Bool → Phase → Errand → Bool → Stand
stand_by c same raising looking waking_one phase e h = record {
  fresh = rests_early c phase && same;
  deep = rests_deep c phase;
  sleeps = sleeps_on c phase;
  owes = raising || will_ring c phase e h;
  answers = (raising || will_ring c phase e h) || (looking || ((is_on_way c phase e || is_waking c phase) || (rests_early c phase && not same)));
  wakes = waking_one || is_waking c phase;
}

abbrev pub stand : BellName → ByBell ℕ → WaitingSeat → Stand
stand c rings x = stand_by c (eqb (x.seen c) (rings c)) (has (is_raise c) x.duties) (has (is_look c) x.duties) (has (is_wake c) x.duties) x.phase x.errand x.in_hand

-- what a seat's errand and transfer have to do with where it is
abbrev pub is_sound_at : Phase → Errand → Bool → Bool
is_sound_at tries e h = true
is_sound_at inside e h = true
is_sound_at out e h = h
is_sound_at (rests leaves stage) e h = true
is_sound_at (rests changes stage) e h = is_by_turns e && not h
is_sound_at (rests files stage) file_turns h = not h
is_sound_at (rests files stage) e h = false
is_sound_at phase quick h = not h
is_sound_at phase e h = false

abbrev pub is_sound : WaitingSeat → Bool
is_sound x = is_sound_at x.phase x.errand x.in_hand
