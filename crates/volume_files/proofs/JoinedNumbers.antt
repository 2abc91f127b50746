-- The numbers of the disks of volumes differ.
use Rattle.std.proofs.Common.{◌≡◌, ◌≢◌, ℕ, ◌<◌, ◌≤◌, Bool, true, false, List, [], ◌∷◌, Option, Some, None, refl, sym, ap, ◌∙◌, subst, cond, arith}
use Rattle.std.specs.Prelude.{count_by, is_some, nat_le, not, option_and_then, option_map, ◌==◌, ◌||◌, if◌then◌else◌}
use Rattle.std.specs.List.{find, list_any}
use Rattle.std.proofs.lemmas.Bool.{eqb-true, eq-eqb, false≢true}
use Rattle.std.proofs.lemmas.Bool.Decides.{nat_tests}
use Rattle.block_device.specs.RackSeen.{spec_number}
use Rattle.block_device.specs.declared.rack.Spec.{Spec}
use Rattle.block_device.specs.declared.rack.Spec.TheVariants as spec
use Rattle.vm_report.specs.vm_script.declared.plan.SetupAct.{SetupAct}
use Rattle.vm_report.specs.vm_script.declared.plan.SetupAct.TheVariants as given
use Rattle.vm_report.specs.vm_script.declared.plan.SetupLine.{SetupLine}
use Rattle.vm_report.specs.vm_script.Rules.{broken_join, can_be_joined, gives_again, gives_disk, has_wrong_disk, is_from_to, is_right_disk, is_wrong_first, is_wrong_join, is_wrong_second, joins_disk, lays_file_on}
use Rattle.vm_report.proofs.flat_model.Ranges.{both_true}
use Rattle.vm_report.proofs.vm_script.GivenDisks.{not_false}
use Rattle.volume_format.proofs.vnode_files.LayoutLemmas.{count-cons}
use Rattle.volume_disks.specs.Volumes.{HasTwoNumbers, second_spec}
use Rattle.volume_disks.specs.declared.volume_spec.VolumeSpec.{VolumeSpec}
use Rattle.volume_disks.specs.declared.volume_spec.VolumeSpec.TheVariants.{Plain, Joined}
use Rattle.volume_files.specs.Mounting.{Holds, IsOtherDisk}
use Rattle.volume_files.specs.Opened.{disk_numbered, given_disk, is_second, joined_by, joined_to, second_numbered, volume_numbered, with_second}
use Rattle.volume_files.proofs.MountDisks.{HoldsAs}
use Rattle.volume_files.proofs.MountSpecs.{numbered_is, volume_is}

or_right : (b : Bool) {c : Bool} → c ≡ true → (b || c) ≡ true
or_right true e = refl
or_right false e = e

or_false : (b c : Bool) → (b || c) ≡ false → (b ≡ false) × (c ≡ false)
or_false true c e = absurd (false≢true (sym e))
or_false false c e = (refl, e)

-- ---- a line that joins a disk to another

some_join : (i j : ℕ × Bool) → Some i ≡ Some j → i ≡ j
some_join i j e = cc

-- a line that joins a disk to a second has it as its second, and joins it
line_second : (number other : ℕ) (mirror : Bool) (a : SetupAct) → joined_to number a ≡ Some (other, mirror) → is_second other a ≡ true
line_second number other mirror (given.Join disk second m) e = at (disk == number) e
  where
    at : (b : Bool) → ◌≡◌ {A = Option (ℕ × Bool)} (if b then Some (second, m) else None) (Some (other, mirror)) → (second == other) ≡ true
    at true e = let pair : ◌≡◌ {A = ℕ × Bool} (second, m) (other, mirror) = some_join (second, m) (other, mirror) e in eq-eqb second other (ap (λ (j : ℕ × Bool). j.0) pair)
    at false e = absurd (let z : ◌≡◌ {A = Option (ℕ × Bool)} None (Some (other, mirror)) = e in cc)
line_second number other mirror (given.Blank disk blocks) e = absurd (let z : ◌≡◌ {A = Option (ℕ × Bool)} None (Some (other, mirror)) = e in cc)
line_second number other mirror (given.Path disk path) e = absurd (let z : ◌≡◌ {A = Option (ℕ × Bool)} None (Some (other, mirror)) = e in cc)
line_second number other mirror (given.Frames n) e = absurd (let z : ◌≡◌ {A = Option (ℕ × Bool)} None (Some (other, mirror)) = e in cc)
line_second number other mirror (given.Swap n) e = absurd (let z : ◌≡◌ {A = Option (ℕ × Bool)} None (Some (other, mirror)) = e in cc)
line_second number other mirror (given.Translations n) e = absurd (let z : ◌≡◌ {A = Option (ℕ × Bool)} None (Some (other, mirror)) = e in cc)
line_second number other mirror (given.File name writable disk pages bytes) e = absurd (let z : ◌≡◌ {A = Option (ℕ × Bool)} None (Some (other, mirror)) = e in cc)

second_joins : (other : ℕ) (a : SetupAct) → is_second other a ≡ true → joins_disk other a ≡ true
second_joins other (given.Join disk second m) e = or_right (disk == other) e
second_joins other (given.Blank disk blocks) e = absurd (false≢true e)
second_joins other (given.Path disk path) e = absurd (false≢true e)
second_joins other (given.Frames n) e = absurd (false≢true e)
second_joins other (given.Swap n) e = absurd (false≢true e)
second_joins other (given.Translations n) e = absurd (false≢true e)
second_joins other (given.File name writable disk pages bytes) e = absurd (false≢true e)

-- it joins one disk alone as the first
one_first : (m n : ℕ) (a : SetupAct) → is_some (joined_to m a) ≡ true → is_some (joined_to n a) ≡ true → m ≡ n
one_first m n (given.Join disk second mirror) e f = at (disk == m) (disk == n) refl refl e f
  where
    at : (b c : Bool) → (disk == m) ≡ b → (disk == n) ≡ c → is_some {T = ℕ × Bool} (if b then Some (second, mirror) else None) ≡ true → is_some {T = ℕ × Bool} (if c then Some (second, mirror) else None) ≡ true → m ≡ n
    at true true one two e f = sym (eqb-true disk m one) ∙ eqb-true disk n two
    at false c one two e f = absurd (false≢true e)
    at true false one two e f = absurd (false≢true f)
one_first m n (given.Blank disk blocks) e f = absurd (false≢true e)
one_first m n (given.Path disk path) e f = absurd (false≢true e)
one_first m n (given.Frames k) e f = absurd (false≢true e)
one_first m n (given.Swap k) e f = absurd (false≢true e)
one_first m n (given.Translations k) e f = absurd (false≢true e)
one_first m n (given.File name writable disk pages bytes) e f = absurd (false≢true e)

-- the first line that joins a disk, by whether the first line of all does
abbrev front_joins : SetupLine → List SetupLine → ℕ → Bool → Option (ℕ × Bool)
front_joins l setup number b = option_and_then (λ (m : SetupLine). joined_to number m.act) (cond b (Some l) (find (λ (m : SetupLine). is_some (joined_to number m.act)) setup))

second_in : (setup : List SetupLine) (number other : ℕ) (mirror : Bool) → joined_by setup number ≡ Some (other, mirror) → list_any (λ (l : SetupLine). is_second other l.act) setup ≡ true
second_in [] number other mirror e = absurd (let z : ◌≡◌ {A = Option (ℕ × Bool)} None (Some (other, mirror)) = e in cc)
second_in (l ∷ setup) number other mirror e = at (λ h. second_in setup number other mirror h) (is_some (joined_to number l.act)) e
  where
    at : (joined_by setup number ≡ Some (other, mirror) → list_any (λ (m : SetupLine). is_second other m.act) setup ≡ true) → (b : Bool) → front_joins l setup number b ≡ Some (other, mirror) → (is_second other l.act || list_any (λ (m : SetupLine). is_second other m.act) setup) ≡ true
    at rest true e = ap (λ (b : Bool). b || list_any (λ (m : SetupLine). is_second other m.act) setup) (line_second number other mirror l.act e)
    at rest false e = or_right (is_second other l.act) (rest e)

-- ---- the second disk of a volume

some_pair : (p q : Spec × Bool) → Some p ≡ Some q → p.0 ≡ q.0
some_pair p q e = let same : p ≡ q = cc in ap (λ (x : Spec × Bool). x.0) same

-- A line joins it to the first, and it is the disk of its number.
pub second_joined : (setup : List SetupLine) (number : ℕ) (first second : Spec) (mirror : Bool) → volume_numbered setup number ≡ Some (Joined first second mirror)
    → (a : Bool) × (joined_by setup number ≡ Some (spec_number second, a)) × (disk_numbered setup (spec_number second) ≡ Some second)
second_joined setup number first second mirror e = by_second (list_any (λ (l : SetupLine). is_second number l.act) setup) e
  where
    by_join : (o : Option (ℕ × Bool)) → joined_by setup number ≡ o
        → (x : Spec × Bool) → option_and_then (λ (j : ℕ × Bool). option_map (λ (s : Spec). (s, j.1)) (disk_numbered setup j.0)) o ≡ Some x
        → (a : Bool) × (joined_by setup number ≡ Some (spec_number x.0, a)) × (disk_numbered setup (spec_number x.0) ≡ Some x.0)
    by_join None is x e = absurd (let z : ◌≡◌ {A = Option (Spec × Bool)} None (Some x) = e in cc)
    by_join (Some j) is x e = by_disk (disk_numbered setup j.0) refl e
      where
        by_disk : (o : Option Spec) → disk_numbered setup j.0 ≡ o → option_map (λ (s : Spec). (s, j.1)) o ≡ Some x
            → (a : Bool) × (joined_by setup number ≡ Some (spec_number x.0, a)) × (disk_numbered setup (spec_number x.0) ≡ Some x.0)
        by_disk None here e = absurd (let z : ◌≡◌ {A = Option (Spec × Bool)} None (Some x) = e in cc)
        by_disk (Some s) here e =
            let same : s ≡ x.0 = some_pair (s, j.1) x e in
            let number_of : j.0 ≡ spec_number x.0 = sym (numbered_is setup j.0 s here) ∙ ap spec_number same in (
              j.1,
              is ∙ ap (λ (n : ℕ). Some (n, j.1)) number_of,
              ap (disk_numbered setup) (sym number_of) ∙ (here ∙ ap (λ (t : Spec). Some t) same),
            )

    by_with : (o : Option (Spec × Bool)) → second_numbered setup number ≡ o → (s : Spec) → with_second o s ≡ Joined first second mirror
        → (a : Bool) × (joined_by setup number ≡ Some (spec_number second, a)) × (disk_numbered setup (spec_number second) ≡ Some second)
    by_with None is s e = absurd (let z : Plain s ≡ Joined first second mirror = e in cc)
    by_with (Some x) is s e =
        let z : Joined s x.0 x.1 ≡ Joined first second mirror = e in
        let same : x.0 ≡ second = cc in
        subst (λ (t : Spec). (a : Bool) × (joined_by setup number ≡ Some (spec_number t, a)) × (disk_numbered setup (spec_number t) ≡ Some t)) same (by_join (joined_by setup number) refl x is)

    by_first : (o : Option Spec) → option_map (with_second (second_numbered setup number)) o ≡ Some (Joined first second mirror)
        → (a : Bool) × (joined_by setup number ≡ Some (spec_number second, a)) × (disk_numbered setup (spec_number second) ≡ Some second)
    by_first None e = absurd (let z : ◌≡◌ {A = Option VolumeSpec} None (Some (Joined first second mirror)) = e in cc)
    by_first (Some s) e =
        let z : ◌≡◌ {A = Option VolumeSpec} (Some (with_second (second_numbered setup number) s)) (Some (Joined first second mirror)) = e in
        let same : with_second (second_numbered setup number) s ≡ Joined first second mirror = cc in
        by_with (second_numbered setup number) refl s same

    by_second : (b : Bool) → (if b then None else option_map (with_second (second_numbered setup number)) (disk_numbered setup number)) ≡ Some (Joined first second mirror)
        → (a : Bool) × (joined_by setup number ≡ Some (spec_number second, a)) × (disk_numbered setup (spec_number second) ≡ Some second)
    by_second true e = absurd (let z : ◌≡◌ {A = Option VolumeSpec} None (Some (Joined first second mirror)) = e in cc)
    by_second false e = by_first (disk_numbered setup number) e

-- so it is the second of a line
pub second_of : (setup : List SetupLine) (number : ℕ) (first second : Spec) (mirror : Bool) → volume_numbered setup number ≡ Some (Joined first second mirror)
    → list_any (λ (l : SetupLine). is_second (spec_number second) l.act) setup ≡ true
second_of setup number first second mirror e = let j = second_joined setup number first second mirror e in second_in setup number (spec_number second) j.0 j.1

-- The disk of a volume is the second of none.
first_of : (setup : List SetupLine) (number : ℕ) (v : VolumeSpec) → volume_numbered setup number ≡ Some v → list_any (λ (l : SetupLine). is_second number l.act) setup ≡ false
first_of setup number v e = at (list_any (λ (l : SetupLine). is_second number l.act) setup) refl e
  where
    at : (b : Bool) → list_any (λ (l : SetupLine). is_second number l.act) setup ≡ b → (if b then None else option_map (with_second (second_numbered setup number)) (disk_numbered setup number)) ≡ Some v
        → list_any (λ (l : SetupLine). is_second number l.act) setup ≡ false
    at true is e = absurd (let z : ◌≡◌ {A = Option VolumeSpec} None (Some v) = e in cc)
    at false is e = is

-- So no volume has the number of a second disk.
pub not_second : (setup : List SetupLine) (number other : ℕ) (v : VolumeSpec) → volume_numbered setup number ≡ Some v → list_any (λ (l : SetupLine). is_second other l.act) setup ≡ true → number ≢ other
not_second setup number other v e some same =
    false≢true (sym (first_of setup number v e) ∙ (ap (λ (n : ℕ). list_any (λ (l : SetupLine). is_second n l.act) setup) same ∙ some))

-- The two disks of a volume differ.
pub two_numbers : (setup : List SetupLine) (number : ℕ) (first second : Spec) (mirror : Bool) → volume_numbered setup number ≡ Some (Joined first second mirror) → spec_number first ≢ spec_number second
two_numbers setup number first second mirror e same =
    not_second setup number (spec_number second) (Joined first second mirror) e (second_of setup number first second mirror e) (sym (volume_is setup number (Joined first second mirror) e) ∙ same)

pub has_two_numbers : (setup : List SetupLine) (number : ℕ) (v : VolumeSpec) → volume_numbered setup number ≡ Some v → HasTwoNumbers v
has_two_numbers setup number (Plain s) e = λ t two same. let z : ◌≡◌ {A = Option Spec} None (Some t) = two in cc
has_two_numbers setup number (Joined first second mirror) e = λ t two same.
    let z : ◌≡◌ {A = Option Spec} (Some second) (Some t) = two in
    let is : second ≡ t = cc in
    two_numbers setup number first second mirror e (sym same ∙ ap spec_number (sym is))

-- ---- no disk is the second of two volumes

once : (setup : List SetupLine) (m k : ℕ) (a : Bool) → joined_by setup m ≡ Some (k, a) → 1 ≤ count_by (λ (l : SetupLine). joins_disk k l.act) setup
once [] m k a e = absurd (let z : ◌≡◌ {A = Option (ℕ × Bool)} None (Some (k, a)) = e in cc)
once (l ∷ setup) m k a e = at (λ h. once setup m k a h) (is_some (joined_to m l.act)) e
  where
    at : (joined_by setup m ≡ Some (k, a) → 1 ≤ count_by (λ (x : SetupLine). joins_disk k x.act) setup) → (b : Bool) → front_joins l setup m b ≡ Some (k, a) → 1 ≤ count_by (λ (x : SetupLine). joins_disk k x.act) (l ∷ setup)
    at rest true e =
        let here : ◌≡◌ {A = ℕ} (cond (joins_disk k l.act) 1 0) 1 = ap (λ (b : Bool). cond b 1 0) (second_joins k l.act (line_second m k a l.act e)) in
        let all = count-cons (λ (x : SetupLine). joins_disk k x.act) l setup in
        omega (arith, here, all)
    at rest false e =
        let more = rest e in
        let all = count-cons (λ (x : SetupLine). joins_disk k x.act) l setup in
        omega (arith, more, all)

twice : (setup : List SetupLine) (m n k : ℕ) (a b : Bool) → m ≢ n → joined_by setup m ≡ Some (k, a) → joined_by setup n ≡ Some (k, b) → 2 ≤ count_by (λ (l : SetupLine). joins_disk k l.act) setup
twice [] m n k a b differ e f = absurd (let z : ◌≡◌ {A = Option (ℕ × Bool)} None (Some (k, a)) = e in cc)
twice (l ∷ setup) m n k a b differ e f = at (λ h i. twice setup m n k a b differ h i) (is_some (joined_to m l.act)) (is_some (joined_to n l.act)) refl refl e f
  where
    at : (joined_by setup m ≡ Some (k, a) → joined_by setup n ≡ Some (k, b) → 2 ≤ count_by (λ (z : SetupLine). joins_disk k z.act) setup) → (x y : Bool) → is_some (joined_to m l.act) ≡ x → is_some (joined_to n l.act) ≡ y → front_joins l setup m x ≡ Some (k, a) → front_joins l setup n y ≡ Some (k, b)
        → 2 ≤ count_by (λ (z : SetupLine). joins_disk k z.act) (l ∷ setup)
    at rest true true one two e f = absurd (differ (one_first m n l.act one two))
    at rest true false one two e f =
        let here : ◌≡◌ {A = ℕ} (cond (joins_disk k l.act) 1 0) 1 = ap (λ (c : Bool). cond c 1 0) (second_joins k l.act (line_second m k a l.act e)) in
        let more = once setup n k b f in
        let all = count-cons (λ (z : SetupLine). joins_disk k z.act) l setup in
        omega (arith, here, more, all)
    at rest false true one two e f =
        let here : ◌≡◌ {A = ℕ} (cond (joins_disk k l.act) 1 0) 1 = ap (λ (c : Bool). cond c 1 0) (second_joins k l.act (line_second n k b l.act f)) in
        let more = once setup m k a e in
        let all = count-cons (λ (z : SetupLine). joins_disk k z.act) l setup in
        omega (arith, here, more, all)
    at rest false false one two e f =
        let more = rest e f in
        let all = count-cons (λ (z : SetupLine). joins_disk k z.act) l setup in
        omega (arith, more, all)

-- a second disk whose line breaks no rule can be joined
line_right : (lines : List SetupLine) (k : ℕ) (a : SetupAct) → is_second k a ≡ true → is_wrong_join lines a ≡ false → can_be_joined lines k ≡ true
line_right lines k (given.Join disk second mirror) e right =
    let same : second ≡ k = eqb-true second k e in
    let pair = or_false (is_wrong_first lines disk second) (is_wrong_second lines second) right in
    let two = or_false (not (can_be_joined lines second)) (list_any (λ (l : SetupLine). lays_file_on second l.act) lines) pair.1 in
    ap (can_be_joined lines) (sym same) ∙ not_false (can_be_joined lines second) two.0
line_right lines k (given.Blank disk blocks) e right = absurd (false≢true e)
line_right lines k (given.Path disk path) e right = absurd (false≢true e)
line_right lines k (given.Frames n) e right = absurd (false≢true e)
line_right lines k (given.Swap n) e right = absurd (false≢true e)
line_right lines k (given.Translations n) e right = absurd (false≢true e)
line_right lines k (given.File name writable disk pages bytes) e right = absurd (false≢true e)

second_right : (lines setup : List SetupLine) (k : ℕ) → list_any (λ (l : SetupLine). is_second k l.act) setup ≡ true → list_any (λ (l : SetupLine). is_wrong_join lines l.act) setup ≡ false
    → can_be_joined lines k ≡ true
second_right lines [] k e right = absurd (false≢true e)
second_right lines (l ∷ setup) k e right = at (λ h. second_right lines setup k h (or_false (is_wrong_join lines l.act) (list_any (λ (m : SetupLine). is_wrong_join lines m.act) setup) right).1) (is_second k l.act) refl e
  where
    at : (list_any (λ (m : SetupLine). is_second k m.act) setup ≡ true → can_be_joined lines k ≡ true) → (b : Bool) → is_second k l.act ≡ b → (b || list_any (λ (m : SetupLine). is_second k m.act) setup) ≡ true → can_be_joined lines k ≡ true
    at rest true is e = line_right lines k l.act is (or_false (is_wrong_join lines l.act) (list_any (λ (m : SetupLine). is_wrong_join lines m.act) setup) right).0
    at rest false is e = rest e

none_wrong : (b : Bool) → ◌≡◌ {A = Option ℕ} (if b then Some 14 else None) None → b ≡ false
none_wrong true e = absurd (let z : ◌≡◌ {A = Option ℕ} (Some 14) None = e in cc)
none_wrong false e = refl

-- THE SECOND DISKS of two volumes differ.
pub seconds_differ : (setup : List SetupLine) (m n k : ℕ) (a b : Bool) → broken_join setup ≡ None → m ≢ n → joined_by setup m ≡ Some (k, a) → joined_by setup n ≡ Some (k, b) → ⊥
seconds_differ setup m n k a b right differ e f =
    let can = second_right setup setup k (second_in setup m k a e) (none_wrong (list_any (λ (l : SetupLine). is_wrong_join setup l.act) setup) right) in
    let few = (both_true (list_any (λ (l : SetupLine). gives_disk k l.act) setup) (nat_le (count_by (λ (l : SetupLine). joins_disk k l.act) setup) 1) can).1 in
    let low : count_by (λ (l : SetupLine). joins_disk k l.act) setup ≤ 1 = grind (arith, nat_tests, few) in
    let high = twice setup m n k a b differ e f in
    omega (arith, low, high)

-- ---- the numbers of disks are at most 7

line_low : (number : ℕ) (a : SetupAct) (s : Spec) → is_right_disk a ≡ true → given_disk a ≡ Some s → spec_number s < 8
line_low number (given.Blank disk blocks) s right e =
    let z : ◌≡◌ {A = Option Spec} (Some (spec.Blank disk blocks)) (Some s) = e in
    let same : spec.Blank disk blocks ≡ s = cc in
    let low = (both_true (nat_le disk 7) (is_from_to 2 16384 blocks) right).0 in
    let number_is : disk ≡ spec_number s = ap spec_number same in
    let le : disk ≤ 7 = grind (arith, nat_tests, low) in
    omega (arith, number_is, le)
line_low number (given.Path disk path) s right e =
    let z : ◌≡◌ {A = Option Spec} (Some (spec.Path disk path)) (Some s) = e in
    let same : spec.Path disk path ≡ s = cc in
    let number_is : disk ≡ spec_number s = ap spec_number same in
    let le : disk ≤ 7 = grind (arith, nat_tests, right) in
    omega (arith, number_is, le)
line_low number (given.Frames n) s right e = absurd (let z : ◌≡◌ {A = Option Spec} None (Some s) = e in cc)
line_low number (given.Swap n) s right e = absurd (let z : ◌≡◌ {A = Option Spec} None (Some s) = e in cc)
line_low number (given.Translations n) s right e = absurd (let z : ◌≡◌ {A = Option Spec} None (Some s) = e in cc)
line_low number (given.Join disk other mirror) s right e = absurd (let z : ◌≡◌ {A = Option Spec} None (Some s) = e in cc)
line_low number (given.File name writable disk pages bytes) s right e = absurd (let z : ◌≡◌ {A = Option Spec} None (Some s) = e in cc)

pub disk_low : (setup : List SetupLine) (number : ℕ) (s : Spec) → has_wrong_disk setup ≡ false → disk_numbered setup number ≡ Some s → spec_number s < 8
disk_low [] number s right e = absurd (let z : ◌≡◌ {A = Option Spec} None (Some s) = e in cc)
disk_low (l ∷ setup) number s right e =
    let both = or_false (not (is_right_disk l.act) || gives_again l.act setup) (has_wrong_disk setup) right in
    at (not_false (is_right_disk l.act) (or_false (not (is_right_disk l.act)) (gives_again l.act setup) both.0).0) (λ h. disk_low setup number s both.1 h) (gives_disk number l.act) e
  where
    at : is_right_disk l.act ≡ true → (disk_numbered setup number ≡ Some s → spec_number s < 8) → (b : Bool)
        → option_and_then (λ (m : SetupLine). given_disk m.act) (cond b (Some l) (find (λ (m : SetupLine). gives_disk number m.act) setup)) ≡ Some s → spec_number s < 8
    at own rest true e = line_low number l.act s own e
    at own rest false e = rest e

-- ---- what is held for the disks of the volume of a number

second_is : (w : VolumeSpec) (t : Spec) → second_spec w ≡ Some t → (first : Spec) × (mirror : Bool) × (w ≡ Joined first t mirror)
second_is (Plain s) t e = absurd (let z : ◌≡◌ {A = Option Spec} None (Some t) = e in cc)
second_is (Joined first second mirror) t e =
    let z : ◌≡◌ {A = Option Spec} (Some second) (Some t) = e in
    let same : second ≡ t = cc in
    (first, mirror, ap (λ (x : Spec). Joined first x mirror) same)

-- the second disk of another volume is found so
second_found : (setup : List SetupLine) (m : ℕ) (w : VolumeSpec) (t : Spec) → volume_numbered setup m ≡ Some w → second_spec w ≡ Some t
    → (a : Bool) × (joined_by setup m ≡ Some (spec_number t, a)) × (disk_numbered setup (spec_number t) ≡ Some t)
second_found setup m w t is two =
    let x = second_is w t two in
    second_joined setup m x.0 t x.1 (is ∙ ap (λ (v : VolumeSpec). Some v) x.2)

-- its first disk is none of those of lower numbers
first_other : (setup : List SetupLine) (number m : ℕ) (v : VolumeSpec) (s : Spec) → volume_numbered setup number ≡ Some v → spec_number s ≡ number → m < number → IsOtherDisk setup m s
first_other setup number m v s is same lt = λ w here. (
  (λ e. let at = volume_is setup m w here in absurd (omega (arith, e, at, same, lt))),
  (λ t two e.
      let f = second_found setup m w t here two in
      not_second setup number (spec_number t) v is (second_in setup m (spec_number t) f.0 f.1) (sym same ∙ e)),
)

-- nor is its second
second_other : (setup : List SetupLine) (number m : ℕ) (first second : Spec) (mirror : Bool) → broken_join setup ≡ None → volume_numbered setup number ≡ Some (Joined first second mirror) → m < number
    → IsOtherDisk setup m second
second_other setup number m first second mirror right is lt = λ w here. (
  (λ e. not_second setup m (spec_number second) w here (second_of setup number first second mirror is) (sym (volume_is setup m w here) ∙ sym e)),
  (λ t two e.
      let f = second_found setup m w t here two in
      let j = second_joined setup number first second mirror is in
      seconds_differ setup m number (spec_number second) f.0 j.0 right (λ same. absurd (omega (arith, same, lt))) (f.1 ∙ ap (λ (n : ℕ). Some (n, f.0)) (sym e)) j.1),
)

-- What is held for the disks of a volume is as it was before those of lower numbers were attached.
pub holds_as : (setup : List SetupLine) (number : ℕ) (v : VolumeSpec) (holds others : Holds) → has_wrong_disk setup ≡ false → broken_join setup ≡ None → number < 8 → volume_numbered setup number ≡ Some v
    → ((s : Spec) → ((m : ℕ) → m < number → IsOtherDisk setup m s) → spec_number s < 8 → holds s ≡ others s) → HoldsAs holds others v
holds_as setup number (Plain s) holds others wrong right lt is same =
    let at : spec_number s ≡ number = volume_is setup number (Plain s) is in
    same s (λ m low. first_other setup number m (Plain s) s is at low) (omega (arith, at, lt))
holds_as setup number (Joined first second mirror) holds others wrong right lt is same =
    let at : spec_number first ≡ number = volume_is setup number (Joined first second mirror) is in (
      same first (λ m low. first_other setup number m (Joined first second mirror) first is at low) (omega (arith, at, lt)),
      same second (λ m low. second_other setup number m first second mirror right is low)
          (disk_low setup (spec_number second) second wrong (second_joined setup number first second mirror is).2),
    )
