-- What the set-up rules say of the amounts and the disks that a kernel is started with.
use Rattle.volume_files.proofs.MountSpecs.{volume_is as numbered-so}
use Rattle.vm_core.proofs.vm_world.ComingParts.{sum-split as sum-both}
use Rattle.volume_files.proofs.flat_model.Gap.{test_none as kept}
use Rattle.std.proofs.Common.{◌≡◌, ℕ, zero, suc, ◌+◌, ◌<◌, ◌≤◌, ◌==◌, Bool, true, false, cond, List, [], ◌∷◌, length, map, Option, Some, None, refl, sym, ap, ◌∙◌, inl, inr, subst, arith, zero-add}
use Rattle.std.specs.Prelude.{not, nat_lt, slice_index, filter_map, option_and_then, option_map, count_by, sum_by, if◌then◌else◌}
use Rattle.std.specs.List.{cons_option, find, list_any, range_with_len}
use Rattle.std.proofs.lemmas.Bool.{cases_eq, eq-eqb, ne_eqb}
use Rattle.std.proofs.lemmas.Bool.Decides.{nat_tests}
use Rattle.std.proofs.lemmas.List.Sums.{sum_by-cons}
use Rattle.volume_files.specs.block_device.declared.rack.Spec.{Spec}
use Rattle.volume_files.specs.volume_disks.declared.volume_spec.VolumeSpec.{VolumeSpec}
use Rattle.vm_core.specs.page_store.Bays.{AreNumbers}
use Rattle.volume_files.specs.vm_script.declared.plan.SetupAct.{SetupAct}
use Rattle.volume_files.specs.vm_script.declared.plan.SetupAct.TheVariants as given
use Rattle.volume_files.specs.vm_script.declared.plan.SetupLine.{SetupLine}
use Rattle.volume_files.specs.vm_script.Counts.{entry_count}
use Rattle.volume_files.specs.vm_script.PlanSeen.{PlanSeen}
use Rattle.volume_files.specs.vm_script.Rules.{amounts_of, gives_a_disk, gives_disk, disk_line_count, is_from_to, has_wrong_frames, has_wrong_disk, lacks_disk, is_wrong_file, broken_rule}
use Rattle.volume_files.specs.Opened.{given_disk, disk_numbered, is_second, second_numbered, setup_volumes, volume_number, volume_numbered, with_second}

within : (low high n : ℕ) → not (is_from_to low high n) ≡ false → (low ≤ n) × (n ≤ high)
within low high n is = (grind (arith, nat_tests), grind (arith, nat_tests))

no-more : (most n : ℕ) → nat_lt most n ≡ false → n ≤ most
no-more most n is = grind (arith, nat_tests)

-- THE AMOUNTS
pub record HasRightAmounts (plan : PlanSeen) : Type 0 where
  pub frames : disk_line_count plan.setup + 4 ≤ (amounts_of plan.setup).frames
  pub translations : 8 ≤ (amounts_of plan.setup).translations
  pub processes : length plan.parents ≤ 64
  pub entries : entry_count plan.lines ≤ 1048576

pub right-amounts : (plan : PlanSeen) → broken_rule plan ≡ None → HasRightAmounts plan
right-amounts plan is =
    let a = kept (has_wrong_frames plan.setup) 1 _ is in
    let b = kept (nat_lt 65536 (amounts_of plan.setup).slots) 2 _ a.1 in
    let c = kept (not (is_from_to 8 65536 (amounts_of plan.setup).translations)) 3 _ b.1 in
    let d = kept (has_wrong_disk plan.setup) 4 _ c.1 in
    let e = kept (list_any (λ (l : SetupLine). lacks_disk plan.setup l.act) plan.setup) 5 _ d.1 in
    let f = kept (list_any (λ (l : SetupLine). is_wrong_file l.act) plan.setup) 6 _ e.1 in
    let g = kept (nat_lt 64 (length plan.parents)) 7 _ f.1 in
    let h = kept (nat_lt 1048576 (entry_count plan.lines)) 8 _ g.1 in
    record {
      frames = (within (disk_line_count plan.setup + 4) 4096 (amounts_of plan.setup).frames a.0).0;
      translations = (within 8 65536 (amounts_of plan.setup).translations c.0).0;
      processes = no-more 64 (length plan.parents) g.0;
      entries = no-more 1048576 (entry_count plan.lines) h.0;
    }

-- HOW MANY DISKS there are: a number for each line that gives one, at most.
abbrev one_of : {X : Type 0} → Option X → ℕ
one_of None = 0
one_of (Some x) = 1

abbrev lines_giving : List SetupLine → ℕ → ℕ
lines_giving setup n = count_by (λ (l : SetupLine). gives_disk n l.act) setup

most-one : {X : Type 0} (o : Option X) → one_of o ≤ 1
most-one None = omega arith
most-one (Some x) = omega arith

given-once : (setup : List SetupLine) (n : ℕ) → one_of (disk_numbered setup n) ≤ lines_giving setup n
given-once [] n = omega arith
given-once (l ∷ setup) n = by_test (gives_disk n l.act) (given-once setup n) (sum_by-cons (λ (k : SetupLine). cond (gives_disk n k.act) 1 0) l setup)
  where
    by_test : (b : Bool) → one_of (disk_numbered setup n) ≤ lines_giving setup n → lines_giving (l ∷ setup) n ≡ cond b 1 0 + lines_giving setup n
        → one_of (option_and_then (λ (k : SetupLine). given_disk k.act) (cond b (Some l) (find (λ (k : SetupLine). gives_disk n k.act) setup))) ≤ lines_giving (l ∷ setup) n
    by_test true rest sum = let a = most-one (given_disk l.act) in omega (arith, a, sum)
    by_test false rest sum = omega (arith, rest, sum)

length-given : {X Y : Type 0} (h : X → Option Y) (count : X → ℕ) → ((x : X) → one_of (h x) ≤ count x) → (xs : List X) → length (filter_map h xs) ≤ sum_by count xs
length-given h count each [] = omega arith
length-given {Y = Y} h count each (x ∷ xs) = by_option (h x) (each x) (length-given h count each xs) (sum_by-cons count x xs)
  where
    by_option : (o : Option Y) → one_of o ≤ count x → length (filter_map h xs) ≤ sum_by count xs → sum_by count (x ∷ xs) ≡ count x + sum_by count xs
        → length (cons_option o (filter_map h xs)) ≤ sum_by count (x ∷ xs)
    by_option None low rest sum = omega (arith, rest, sum)
    by_option (Some y) low rest sum = omega (arith, low, rest, sum)

sum-agree : {X : Type 0} (f g : X → ℕ) → ((x : X) → f x ≡ g x) → (xs : List X) → sum_by f xs ≡ sum_by g xs
sum-agree f g same [] = refl
sum-agree f g same (x ∷ xs) = sum_by-cons f x xs ∙ ap (λ (n : ℕ). n + sum_by f xs) (same x) ∙ ap (λ (n : ℕ). g x + n) (sum-agree f g same xs) ∙ sym (sum_by-cons g x xs)

sum-nothing : {X : Type 0} (xs : List X) → sum_by (λ (x : X). 0) xs ≡ 0
sum-nothing [] = refl
sum-nothing {X} (x ∷ xs) = sum_by-cons (λ (y : X). 0) x xs ∙ zero-add (sum_by (λ (y : X). 0) xs) ∙ sum-nothing xs

-- a number stands in a range once at most
none-below : (d a n : ℕ) → d < a → sum_by (λ (x : ℕ). cond (d == x) 1 0) (range_with_len a n) ≡ 0
none-below d a zero lt = refl
none-below d a (suc n) lt =
    sum_by-cons (λ (x : ℕ). cond (d == x) 1 0) a (range_with_len (a + 1) n)
    ∙ ap (λ (b : Bool). cond b 1 0 + sum_by (λ (x : ℕ). cond (d == x) 1 0) (range_with_len (a + 1) n)) (ne_eqb d a (λ e. absurd (omega (arith, e, lt))))
    ∙ zero-add (sum_by (λ (x : ℕ). cond (d == x) 1 0) (range_with_len (a + 1) n)) ∙ none-below d (a + 1) n (omega (arith, lt))

once-in : (d a n : ℕ) → sum_by (λ (x : ℕ). cond (d == x) 1 0) (range_with_len a n) ≤ 1
once-in d a zero = omega arith
once-in d a (suc n) =
    let sum = sum_by-cons (λ (x : ℕ). cond (d == x) 1 0) a (range_with_len (a + 1) n) in
    elim (cases_eq d a) [
      | inl e ↦ let none = none-below d (a + 1) n (omega (arith, e)) in let head : ◌≡◌ {A = ℕ} (cond (d == a) 1 0) 1 = ap (λ (b : Bool). cond b 1 0) (eq-eqb d a e) in omega (arith, sum, none, head)
      | inr ne ↦ let rest = once-in d (a + 1) n in let head : ◌≡◌ {A = ℕ} (cond (d == a) 1 0) 0 = ap (λ (b : Bool). cond b 1 0) (ne_eqb d a ne) in omega (arith, sum, rest, head)
    ]

by-line : (act : SetupAct) (a n : ℕ) → sum_by (λ (x : ℕ). cond (gives_disk x act) 1 0) (range_with_len a n) ≤ cond (gives_a_disk act) 1 0
by-line (given.Blank disk blocks) a n = once-in disk a n
by-line (given.Path disk path) a n = once-in disk a n
by-line (given.Frames x) a n = let none = sum-nothing (range_with_len a n) in omega (arith, none)
by-line (given.Swap x) a n = let none = sum-nothing (range_with_len a n) in omega (arith, none)
by-line (given.Translations x) a n = let none = sum-nothing (range_with_len a n) in omega (arith, none)
by-line (given.Join disk other mirror) a n = let none = sum-nothing (range_with_len a n) in omega (arith, none)
by-line (given.File name writable disk pages bytes) a n = let none = sum-nothing (range_with_len a n) in omega (arith, none)

given-lines : (setup : List SetupLine) (a n : ℕ) → sum_by (lines_giving setup) (range_with_len a n) ≤ count_by (λ (l : SetupLine). gives_a_disk l.act) setup
given-lines [] a n = let none = sum-nothing (range_with_len a n) in omega (arith, none)
given-lines (l ∷ setup) a n =
    let each = sum-agree (lines_giving (l ∷ setup)) (λ (x : ℕ). cond (gives_disk x l.act) 1 0 + lines_giving setup x)
    (λ x. sum_by-cons (λ (k : SetupLine). cond (gives_disk x k.act) 1 0) l setup) (range_with_len a n) in
    let both = sum-both (λ (x : ℕ). cond (gives_disk x l.act) 1 0) (lines_giving setup) (range_with_len a n) in
    let head = by-line l.act a n in
    let rest = given-lines setup a n in
    let all = sum_by-cons (λ (k : SetupLine). cond (gives_a_disk k.act) 1 0) l setup in
    omega (arith, each, both, head, rest, all)

-- a volume stands for a disk that a line gives
volume-once : (setup : List SetupLine) (n : ℕ) → one_of (volume_numbered setup n) ≤ lines_giving setup n
volume-once setup n =
    let one = given-once setup n in
    let most = at (list_any (λ (l : SetupLine). is_second n l.act) setup) (disk_numbered setup n) in
    omega (arith, one, most)
  where
    at : (b : Bool) (o : Option Spec) → one_of (if b then None else option_map (with_second (second_numbered setup n)) o) ≤ one_of o
    at true o = omega arith
    at false None = omega arith
    at false (Some s) = omega arith

pub few-disks : (setup : List SetupLine) → length (setup_volumes setup) ≤ count_by (λ (l : SetupLine). gives_a_disk l.act) setup
few-disks setup =
    let a = length-given (volume_numbered setup) (lines_giving setup) (volume-once setup) (range_with_len 0 8) in
    let b = given-lines setup 0 8 in
    omega (arith, a, b)

-- numbers that rise, from a least one on
abbrev Rise : ℕ → List ℕ → Type 0
Rise low [] = Unit {0}
Rise low (x ∷ xs) = (low ≤ x) × (x < 8) × Rise (x + 1) xs

rise-less : (low high : ℕ) (xs : List ℕ) → low ≤ high → Rise high xs → Rise low xs
rise-less low high [] le up = tt
rise-less low high (x ∷ xs) le up = let a = up.0 in (omega (arith, le, a), up.1, up.2)

numbers-rise : (setup : List SetupLine) (a n : ℕ) → a + n ≤ 8 → Rise a (map volume_number (filter_map (volume_numbered setup) (range_with_len a n)))
numbers-rise setup a zero low = tt
numbers-rise setup a (suc n) low = by_option (volume_numbered setup a) refl (numbers-rise setup (a + 1) n (omega (arith, low)))
  where
    by_option : (o : Option VolumeSpec) → volume_numbered setup a ≡ o → Rise (a + 1) (map volume_number (filter_map (volume_numbered setup) (range_with_len (a + 1) n)))
        → Rise a (map volume_number (cons_option o (filter_map (volume_numbered setup) (range_with_len (a + 1) n))))
    by_option None e rest = rise-less a (a + 1) (map volume_number (filter_map (volume_numbered setup) (range_with_len (a + 1) n))) (omega arith) rest
    by_option (Some s) e rest =
        let same = numbered-so setup a s e in
        (omega (arith, same), omega (arith, same, low), subst (λ (k : ℕ). Rise (k + 1) (map volume_number (filter_map (volume_numbered setup) (range_with_len (a + 1) n)))) (sym same) rest)

-- what holds at a place of numbers that rise
record IsAbove (low : ℕ) (x : ℕ) : Type 0 where
  least : low ≤ x
  below : x < 8

above : (low : ℕ) (xs : List ℕ) (i : ℕ) → Rise low xs → i < length xs → IsAbove low (slice_index xs i)
above low [] i up lt = absurd (omega (arith, lt))
above low (x ∷ xs) zero up lt = record { least = up.0; below = up.1 }
above low (x ∷ xs) (suc i) up lt =
    let more = above (x + 1) xs i up.2 (omega (arith, lt)) in
    let least = more.least in
    let here = up.0 in
    record { least = omega (arith, least, here); below = more.below }

one-place : (low : ℕ) (xs : List ℕ) (i j : ℕ) → Rise low xs → i < length xs → j < length xs → slice_index xs i ≡ slice_index xs j → i ≡ j
one-place low [] i j up lt gt same = absurd (omega (arith, lt))
one-place low (x ∷ xs) zero zero up lt gt same = refl
one-place low (x ∷ xs) zero (suc j) up lt gt same = absurd (let more = (above (x + 1) xs j up.2 (omega (arith, gt))).least in omega (arith, more, same))
one-place low (x ∷ xs) (suc i) zero up lt gt same = absurd (let more = (above (x + 1) xs i up.2 (omega (arith, lt))).least in omega (arith, more, same))
one-place low (x ∷ xs) (suc i) (suc j) up lt gt same = ap suc (one-place (x + 1) xs i j up.2 (omega (arith, lt)) (omega (arith, gt)) same)

pub disk-numbers : (setup : List SetupLine) → AreNumbers (map volume_number (setup_volumes setup))
disk-numbers setup =
    let up = numbers-rise setup 0 8 (omega arith) in
    record {
      below = λ i lt. (above 0 (map volume_number (setup_volumes setup)) i up lt).below;
      apart = λ i j low high same. one-place 0 (map volume_number (setup_volumes setup)) i j up low high same;
    }
