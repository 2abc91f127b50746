-- The specs of the disks that set-up lines give, in rising number.
use Rattle.std.proofs.Common.{◌≡◌, ℕ, zero, suc, ◌+◌, ◌<◌, ◌≤◌, Bool, true, false, List, [], ◌∷◌, ◌++◌, length, map, Option, Some, None, refl, sym, ap, ◌∙◌, cond, arith}
use Rattle.std.specs.Prelude.{count_by, filter_map, is_some, option_and_then, option_map, if◌then◌else◌}
use Rattle.std.specs.List.{cons_option, find, list_any, range_with_len}
use Rattle.std.proofs.lemmas.Bool.{false≢true, eqb-true}
use Rattle.std.proofs.lemmas.List.{map-append}
use Rattle.std.proofs.lemmas.List.Elements.{filter_map-append}
use Rattle.std.proofs.lemmas.List.Sums.{sum_by-append}
use Rattle.block_device.specs.RackSeen.{spec_number}
use Rattle.block_device.specs.declared.rack.Spec.{Spec}
use Rattle.block_device.specs.declared.rack.Spec.TheVariants as spec
use Rattle.vm_report.specs.vm_script.declared.plan.SetupAct.{SetupAct}
use Rattle.vm_report.specs.vm_script.declared.plan.SetupAct.TheVariants as given
use Rattle.vm_report.specs.vm_script.declared.plan.SetupLine.{SetupLine}
use Rattle.vm_report.specs.vm_script.Rules.{gives_disk}
use Rattle.volume_format.proofs.vnode_files.LayoutLemmas.{count-cons}
use Rattle.volume_files.specs.Mounting.{specs_below}
use Rattle.volume_disks.specs.declared.volume_spec.VolumeSpec.{VolumeSpec}
use Rattle.volume_files.specs.Opened.{given_disk, disk_numbered, is_second, joined_by, joined_to, second_numbered, setup_volumes, volume_number, volume_numbered, with_second}

pub given_number : (number : ℕ) (a : SetupAct) (s : Spec) → gives_disk number a ≡ true → given_disk a ≡ Some s → spec_number s ≡ number
given_number number (given.Blank disk blocks) s g e = let same : spec.Blank disk blocks ≡ s = cc e in sym (ap spec_number same) ∙ eqb-true disk number g
given_number number (given.Path disk path) s g e = let same : spec.Path disk path ≡ s = cc e in sym (ap spec_number same) ∙ eqb-true disk number g
given_number number (given.Frames n) s g e = absurd (false≢true g)
given_number number (given.Swap n) s g e = absurd (false≢true g)
given_number number (given.Translations n) s g e = absurd (false≢true g)
given_number number (given.Join disk other mirror) s g e = absurd (false≢true g)
given_number number (given.File name writable disk pages bytes) s g e = absurd (false≢true g)

-- The disk of a number as a front of the lines tells it.
abbrev found : SetupLine → List SetupLine → ℕ → Bool → Option Spec
found l setup number b = option_and_then (λ (m : SetupLine). given_disk m.act) (cond b (Some l) (find (λ (m : SetupLine). gives_disk number m.act) setup))

pub numbered_is : (setup : List SetupLine) (number : ℕ) (s : Spec) → disk_numbered setup number ≡ Some s → spec_number s ≡ number
numbered_is [] number s e = absurd (cc e)
numbered_is (l ∷ setup) number s e = at (numbered_is setup number s) (gives_disk number l.act) refl e
  where
    at : (disk_numbered setup number ≡ Some s → spec_number s ≡ number) → (b : Bool) → gives_disk number l.act ≡ b → found l setup number b ≡ Some s → spec_number s ≡ number
    at rest true is e = given_number number l.act s is e
    at rest false is e = rest e

pub line_some : (l : SetupLine) (setup : List SetupLine) (number : ℕ) (s : Spec) → cond (gives_disk number l.act) (given_disk l.act) None ≡ Some s
    → disk_numbered (l ∷ setup) number ≡ Some s
line_some l setup number s e = at (gives_disk number l.act) e
  where
    at : (b : Bool) → cond b (given_disk l.act) None ≡ Some s → found l setup number b ≡ Some s
    at true e = e
    at false e = absurd (cc e)

-- The volume of a number has that number.
with_second_is : (o : Option (Spec × Bool)) (s : Spec) (v : VolumeSpec) → with_second o s ≡ v → spec_number s ≡ volume_number v
with_second_is None s v e = ap volume_number e
with_second_is (Some x) s v e = ap volume_number e

pub volume_is : (setup : List SetupLine) (number : ℕ) (v : VolumeSpec) → volume_numbered setup number ≡ Some v → volume_number v ≡ number
volume_is setup number v e = by_second (list_any (λ (l : SetupLine). is_second number l.act) setup) e
  where
    by_first : (o : Option Spec) → disk_numbered setup number ≡ o → option_map (with_second (second_numbered setup number)) o ≡ Some v → volume_number v ≡ number
    by_first None is e = absurd (cc e)
    by_first (Some s) is e =
        let same : with_second (second_numbered setup number) s ≡ v = cc e in
        sym (with_second_is (second_numbered setup number) s v same) ∙ numbered_is setup number s is

    by_second : (b : Bool) → (if b then None else option_map (with_second (second_numbered setup number)) (disk_numbered setup number)) ≡ Some v → volume_number v ≡ number
    by_second true e = absurd (cc e)
    by_second false e = by_first (disk_numbered setup number) refl e

range_split : (a m k j : ℕ) → m + k ≡ j → range_with_len a j ≡ range_with_len a m ++ range_with_len (a + m) k
range_split a zero k j e =
    let start : a + 0 ≡ a = omega arith in
    let count : k ≡ j = omega (arith, e) in
    sym (ap (λ n. range_with_len a n) count) ∙ sym (ap (λ b. range_with_len b k) start)
range_split a (suc m) k zero e = absurd (omega (arith, e))
range_split a (suc m) k (suc j) e =
    let count : m + k ≡ j = omega (arith, e) in
    let start : (a + 1) + m ≡ a + suc m = omega arith in
    ap (λ xs. a ∷ xs) (range_split (a + 1) m k j count ∙ ap (λ b. range_with_len (a + 1) m ++ range_with_len b k) start)

-- The volumes of so many numbers from one on.
abbrev pub specs_from : List SetupLine → ℕ → ℕ → List VolumeSpec
specs_from setup a n = filter_map (volume_numbered setup) (range_with_len a n)

pub specs_split : (setup : List SetupLine) (m k j : ℕ) → m + k ≡ j → specs_below setup j ≡ specs_below setup m ++ specs_from setup m k
specs_split setup m k j e =
    let start : 0 + m ≡ m = omega arith in
    ap (filter_map (volume_numbered setup)) (range_split 0 m k j e ∙ ap (λ b. range_with_len 0 m ++ range_with_len b k) start)
    ∙ filter_map-append (volume_numbered setup) (range_with_len 0 m) (range_with_len m k)

pub specs_more : (setup : List SetupLine) (m : ℕ) (o : Option VolumeSpec) → volume_numbered setup m ≡ o → specs_below setup (m + 1) ≡ specs_below setup m ++ cons_option o []
specs_more setup m o is = specs_split setup m 1 (m + 1) refl ∙ ap (λ (x : Option VolumeSpec). specs_below setup m ++ cons_option x []) is

pub count_all : (p : ℕ → Bool) (setup : List SetupLine) (a n : ℕ) → ((x : ℕ) → a ≤ x → x < a + n → p x ≡ true)
    → count_by p (map volume_number (specs_from setup a n)) ≡ length (specs_from setup a n)
count_all p setup a zero passing = refl
count_all p setup a (suc n) passing =
    at (volume_numbered setup a) refl (count_all p setup (a + 1) n (λ x le lt. passing x (omega (arith, le)) (omega (arith, lt)))) (passing a (omega arith) (omega arith))
  where
    at : (o : Option VolumeSpec) → volume_numbered setup a ≡ o → count_by p (map volume_number (specs_from setup (a + 1) n)) ≡ length (specs_from setup (a + 1) n) → p a ≡ true
        → count_by p (map volume_number (cons_option o (specs_from setup (a + 1) n))) ≡ length (cons_option o (specs_from setup (a + 1) n))
    at None is rest here = rest
    at (Some s) is rest here =
        let passes : p (volume_number s) ≡ true = ap p (volume_is setup a s is) ∙ here in
        let sum : 1 + count_by p (map volume_number (specs_from setup (a + 1) n)) ≡ suc (length (specs_from setup (a + 1) n)) = omega (arith, rest) in
        count-cons p (volume_number s) (map volume_number (specs_from setup (a + 1) n)) ∙ (ap (λ b. cond b 1 0 + count_by p (map volume_number (specs_from setup (a + 1) n))) passes ∙ sum)

pub count_none : (p : ℕ → Bool) (setup : List SetupLine) (a n : ℕ) → ((x : ℕ) → a ≤ x → p x ≡ false) → count_by p (map volume_number (specs_from setup a n)) ≡ 0
count_none p setup a zero failing = refl
count_none p setup a (suc n) failing =
    at (volume_numbered setup a) refl (count_none p setup (a + 1) n (λ x le. failing x (omega (arith, le)))) (failing a (omega arith))
  where
    at : (o : Option VolumeSpec) → volume_numbered setup a ≡ o → count_by p (map volume_number (specs_from setup (a + 1) n)) ≡ 0 → p a ≡ false
        → count_by p (map volume_number (cons_option o (specs_from setup (a + 1) n))) ≡ 0
    at None is rest here = rest
    at (Some s) is rest here =
        let passes : p (volume_number s) ≡ false = ap p (volume_is setup a s is) ∙ here in
        let sum : 0 + count_by p (map volume_number (specs_from setup (a + 1) n)) ≡ 0 = omega (arith, rest) in
        count-cons p (volume_number s) (map volume_number (specs_from setup (a + 1) n)) ∙ (ap (λ b. cond b 1 0 + count_by p (map volume_number (specs_from setup (a + 1) n))) passes ∙ sum)

-- How many of the disks have a number that passes a test: those below a number where these pass alone.
pub count_below : (p : ℕ → Bool) (setup : List SetupLine) (m k : ℕ) → m + k ≡ 8 → ((x : ℕ) → x < m → p x ≡ true) → ((x : ℕ) → m ≤ x → p x ≡ false)
    → count_by p (map volume_number (setup_volumes setup)) ≡ length (specs_below setup m)
count_below p setup m k e passing failing =
    let low = count_all p setup 0 m (λ x le lt. passing x (omega (arith, lt))) in
    let high = count_none p setup m k failing in
    let sum : count_by p (map volume_number (specs_below setup m)) + count_by p (map volume_number (specs_from setup m k)) ≡ length (specs_below setup m) = omega (arith, low, high) in
    ap (λ (xs : List VolumeSpec). count_by p (map volume_number xs)) (specs_split setup m k 8 e)
    ∙ (ap (count_by p) (map-append volume_number (specs_below setup m) (specs_from setup m k))
    ∙ (sum_by-append (λ y. cond (p y) 1 0) (map volume_number (specs_below setup m)) (map volume_number (specs_from setup m k)) ∙ sum))

-- Each number of these specs is below a number.
abbrev pub AreLow : ℕ → List VolumeSpec → Type 0
AreLow number [] = Unit {0}
AreLow number (s ∷ specs) = (volume_number s < number) × AreLow number specs

pub low_specs : (setup : List SetupLine) (number a n : ℕ) → a + n ≤ number → AreLow number (specs_from setup a n)
low_specs setup number a zero le = tt
low_specs setup number a (suc n) le = at (volume_numbered setup a) refl (low_specs setup number (a + 1) n (omega (arith, le)))
  where
    at : (o : Option VolumeSpec) → volume_numbered setup a ≡ o → AreLow number (specs_from setup (a + 1) n) → AreLow number (cons_option o (specs_from setup (a + 1) n))
    at None is rest = rest
    at (Some s) is rest = (let same = volume_is setup a s is in omega (arith, same, le), rest)

-- The first line that joins a disk, where the first of all does.
pub line_joined : (l : SetupLine) (setup : List SetupLine) (number : ℕ) (j : ℕ × Bool) → joined_to number l.act ≡ Some j → joined_by (l ∷ setup) number ≡ Some j
line_joined l setup number j e = at (joined_to number l.act) refl e
  where
    at : (o : Option (ℕ × Bool)) → joined_to number l.act ≡ o → o ≡ Some j
        → option_and_then (λ (m : SetupLine). joined_to number m.act) (cond (is_some o) (Some l) (find (λ (m : SetupLine). is_some (joined_to number m.act)) setup)) ≡ Some j
    at None is e = absurd (let z : ◌≡◌ {A = Option (ℕ × Bool)} None (Some j) = e in cc)
    at (Some x) is e = is ∙ e
