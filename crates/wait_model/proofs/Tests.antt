-- Tests that are true, and tests of all values of a kind at once.
use Rattle.std.proofs.Common.{◌≡◌, Bool, true, false, ◌&&◌, ◌||◌, refl}
use Rattle.std.proofs.lemmas.Bool.{and_parts, or_left, or_right}
use Rattle.wait_model.specs.Bells.{BellName, leaves, changes, files, is_same_bell, ByBell, with_bell}
use Rattle.wait_model.specs.Waiting.{Errand, quick, turns, file_turns, open_turns}

-- what follows from a test
abbrev pub implies : Bool → Bool → Bool
implies true b = b
implies false b = true

pub implied : (a b : Bool) → implies a b ≡ true → a ≡ true → b ≡ true
implied true b h is = h
implied false b h is = absurd (cc)

pub or_more : (a b c d : Bool) → (a ≡ true → b ≡ true) → (c ≡ true → d ≡ true) → (a || c) ≡ true → (b || d) ≡ true
or_more true b c d f g h = or_left b d (f refl)
or_more false b c d f g h = or_right b d (g h)

-- six tests at once
abbrev pub all_six : Bool → Bool → Bool → Bool → Bool → Bool → Bool
all_six a b c d e f = a && (b && (c && (d && (e && f))))

pub record Six (a b c d e f : Bool) : Type 0 where
  pub first : a ≡ true
  pub second : b ≡ true
  pub third : c ≡ true
  pub fourth : d ≡ true
  pub fifth : e ≡ true
  pub sixth : f ≡ true

pub six : (a b c d e f : Bool) → all_six a b c d e f ≡ true → Six a b c d e f
six true true true true true f h = record { first = refl; second = refl; third = refl; fourth = refl; fifth = refl; sixth = h }
six a b c d e f h = absurd (cc)

-- a test that holds of every value
abbrev pub of_bools : (Bool → Bool) → Bool
of_bools f = f true && f false

pub of_bool : (f : Bool → Bool) → of_bools f ≡ true → (x : Bool) → f x ≡ true
of_bool f h true = (and_parts (f true) (f false) h).0
of_bool f h false = (and_parts (f true) (f false) h).1

abbrev pub of_bells : (BellName → Bool) → Bool
of_bells f = f leaves && (f changes && f files)

pub of_bell : (f : BellName → Bool) → of_bells f ≡ true → (x : BellName) → f x ≡ true
of_bell f h leaves = (and_parts (f leaves) (f changes && f files) h).0
of_bell f h changes = (and_parts (f changes) (f files) ((and_parts (f leaves) (f changes && f files) h).1)).0
of_bell f h files = (and_parts (f changes) (f files) ((and_parts (f leaves) (f changes && f files) h).1)).1

abbrev pub of_errands : (Errand → Bool) → Bool
of_errands f = f quick && (f turns && (f file_turns && f open_turns))

pub of_errand : (f : Errand → Bool) → of_errands f ≡ true → (x : Errand) → f x ≡ true
of_errand f h quick = (and_parts (f quick) (f turns && (f file_turns && f open_turns)) h).0
of_errand f h turns = (and_parts (f turns) (f file_turns && f open_turns) ((and_parts (f quick) (f turns && (f file_turns && f open_turns)) h).1)).0
of_errand f h file_turns = (and_parts (f file_turns) (f open_turns) ((and_parts (f turns) (f file_turns && f open_turns) ((and_parts (f quick) (f turns && (f file_turns && f open_turns)) h).1)).1)).0
of_errand f h open_turns = (and_parts (f file_turns) (f open_turns) ((and_parts (f turns) (f file_turns && f open_turns) ((and_parts (f quick) (f turns && (f file_turns && f open_turns)) h).1)).1)).1

-- the same bell
pub same_bell : (b c : BellName) → is_same_bell b c ≡ true → b ≡ c
same_bell leaves leaves h = refl
same_bell changes changes h = refl
same_bell files files h = refl
same_bell leaves changes h = absurd (cc)
same_bell leaves files h = absurd (cc)
same_bell changes leaves h = absurd (cc)
same_bell changes files h = absurd (cc)
same_bell files leaves h = absurd (cc)
same_bell files changes h = absurd (cc)

pub with_same_bell : {A : Type 0} (b : BellName) (x : A) (f : ByBell A) → with_bell b x f b ≡ x
with_same_bell leaves x f = refl
with_same_bell changes x f = refl
with_same_bell files x f = refl

pub with_other_bell : {A : Type 0} (b c : BellName) (x : A) (f : ByBell A) → is_same_bell c b ≡ false → with_bell b x f c ≡ f c
with_other_bell leaves changes x f h = refl
with_other_bell leaves files x f h = refl
with_other_bell changes leaves x f h = refl
with_other_bell changes files x f h = refl
with_other_bell files leaves x f h = refl
with_other_bell files changes x f h = refl
with_other_bell leaves leaves x f h = absurd (cc)
with_other_bell changes changes x f h = absurd (cc)
with_other_bell files files x f h = absurd (cc)
