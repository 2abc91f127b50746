-- The numbers of a plan's disks differ.
use Rattle.std.proofs.Common.{◌≡◌, ◌≢◌, ℕ, zero, suc, ◌+◌, ◌<◌, ◌≤◌, ◌⊎◌, Bool, true, false, List, Option, Some, None, refl, sym, ap, ◌∙◌, subst, arith, inl, inr}
use Rattle.std.specs.Prelude.{◌==◌}
use Rattle.std.specs.List.{AllByRecursion, IsDistinct, cons_option, flat_map, list_any}
use Rattle.std.proofs.lemmas.Bool.{ne_eqb}
use Rattle.block_device.specs.RackSeen.{spec_number}
use Rattle.block_device.specs.declared.rack.Spec.{Spec}
use Rattle.vm_report.specs.vm_script.declared.plan.SetupLine.{SetupLine}
use Rattle.vm_report.specs.vm_script.Rules.{broken_join}
use Rattle.volume_disks.specs.declared.volume_spec.VolumeSpec.{VolumeSpec}
use Rattle.volume_disks.specs.declared.volume_spec.VolumeSpec.TheVariants.{Plain, Joined}
use Rattle.volume_files.specs.Numbers.{both_numbers, disk_numbers}
use Rattle.volume_files.specs.Opened.{is_second, volume_numbered}
use Rattle.volume_files.proofs.JoinedNumbers.{not_second, second_joined, second_of, seconds_differ, two_numbers}
use Rattle.volume_files.proofs.MountSpecs.{specs_from, volume_is}
use Rattle.volume_files.proofs.MountedLaws.{all_then}

-- The number is that of a disk of a volume, of a number from one on.
record IsFrom (setup : List SetupLine) (low x : ℕ) : Type 0 where
  at : ℕ
  after : low ≤ at
  volume : VolumeSpec
  there : volume_numbered setup at ≡ Some volume
  which : (x ≡ at) ⊎ ((first : Spec) × (second : Spec) × (mirror : Bool) × (volume ≡ Joined first second mirror) × (x ≡ spec_number second))

-- it isn't that of a volume before
apart-first : (setup : List SetupLine) (n low x : ℕ) (v : VolumeSpec) → volume_numbered setup n ≡ Some v → n < low → IsFrom setup low x → (n == x) ≡ false
apart-first setup n low x v there lt f = ne_eqb n x (by f.which)
  where
    by : ((x ≡ f.at) ⊎ ((first : Spec) × (second : Spec) × (mirror : Bool) × (f.volume ≡ Joined first second mirror) × (x ≡ spec_number second))) → n ≢ x
    by (inl first) = λ same. let after = f.after in absurd (omega (arith, lt, after, first, same))
    by (inr w) =
        let some = second_of setup f.at w.0 w.1 w.2 (f.there ∙ ap (λ (u : VolumeSpec). Some u) w.3) in
        not_second setup n x v there (subst (λ (k : ℕ). list_any (λ (l : SetupLine). is_second k l.act) setup ≡ true) (sym w.4) some)

-- nor that of the second disk of a volume before
apart-second : (setup : List SetupLine) → broken_join setup ≡ None → (n low x : ℕ) (first second : Spec) (mirror : Bool) → volume_numbered setup n ≡ Some (Joined first second mirror) → n < low
    → IsFrom setup low x → (spec_number second == x) ≡ false
apart-second setup right n low x first second mirror there lt f = ne_eqb (spec_number second) x (by f.which)
  where
    by : ((x ≡ f.at) ⊎ ((first : Spec) × (second : Spec) × (mirror : Bool) × (f.volume ≡ Joined first second mirror) × (x ≡ spec_number second))) → spec_number second ≢ x
    by (inl here) = λ same. not_second setup f.at (spec_number second) f.volume f.there (second_of setup n first second mirror there) (sym (same ∙ here))
    by (inr w) = λ same.
        let a = second_joined setup n first second mirror there in
        let b = second_joined setup f.at w.0 w.1 w.2 (f.there ∙ ap (λ (u : VolumeSpec). Some u) w.3) in
        let other : n ≢ f.at = λ is. let after = f.after in absurd (omega (arith, lt, after, is)) in
        let number : spec_number w.1 ≡ spec_number second = sym (same ∙ w.4) in
        absurd (seconds_differ setup n f.at (spec_number second) a.0 b.0 right other a.1 (b.1 ∙ ap (λ (k : ℕ). Some (k, b.0)) number))

-- the numbers of volumes from a number on
all-from : (setup : List SetupLine) (low a n : ℕ) → low ≤ a → AllByRecursion (IsFrom setup low) (flat_map both_numbers (specs_from setup a n))
all-from setup low a zero le = tt
all-from setup low a (suc n) le = by (all-from setup low (a + 1) n (omega (arith, le))) (volume_numbered setup a) refl
  where
    by : AllByRecursion (IsFrom setup low) (flat_map both_numbers (specs_from setup (a + 1) n)) → (o : Option VolumeSpec) → volume_numbered setup a ≡ o
        → AllByRecursion (IsFrom setup low) (flat_map both_numbers (cons_option o (specs_from setup (a + 1) n)))
    by rest None is = rest
    by rest (Some (Plain s)) is = (record { at = a; after = le; volume = Plain s; there = is; which = inl (volume_is setup a (Plain s) is) }, rest)
    by rest (Some (Joined first second mirror)) is = (
      record { at = a; after = le; volume = Joined first second mirror; there = is; which = inl (volume_is setup a (Joined first second mirror) is) },
      (record { at = a; after = le; volume = Joined first second mirror; there = is; which = inr (first, second, mirror, refl, refl) }, rest),
    )

distinct-from : (setup : List SetupLine) → broken_join setup ≡ None → (a n : ℕ) → IsDistinct (λ (x y : ℕ). x == y) (flat_map both_numbers (specs_from setup a n))
unfolding IsDistinct
distinct-from setup right a zero = tt
distinct-from setup right a (suc n) = by (distinct-from setup right (a + 1) n) (volume_numbered setup a) refl
  where
    more : List ℕ
    more = flat_map both_numbers (specs_from setup (a + 1) n)

    from : AllByRecursion (IsFrom setup (a + 1)) more
    from = all-from setup (a + 1) (a + 1) n (omega arith)

    firsts : (v : VolumeSpec) → volume_numbered setup a ≡ Some v → (k : ℕ) → k ≡ a → AllByRecursion (λ y. (k == y) ≡ false) more
    firsts v is k same = all_then (IsFrom setup (a + 1)) (λ y. (k == y) ≡ false) more (λ y f. ap (λ (m : ℕ). m == y) same ∙ apart-first setup a (a + 1) y v is (omega arith) f) from

    by : IsDistinct (λ (x y : ℕ). x == y) more → (o : Option VolumeSpec) → volume_numbered setup a ≡ o → IsDistinct (λ (x y : ℕ). x == y) (flat_map both_numbers (cons_option o (specs_from setup (a + 1) n)))
    by rest None is = rest
    by rest (Some (Plain s)) is = (firsts (Plain s) is (spec_number s) (volume_is setup a (Plain s) is), rest)
    by rest (Some (Joined first second mirror)) is = (
      (ne_eqb (spec_number first) (spec_number second) (two_numbers setup a first second mirror is), firsts (Joined first second mirror) is (spec_number first) (volume_is setup a (Joined first second mirror) is)),
      (all_then (IsFrom setup (a + 1)) (λ y. (spec_number second == y) ≡ false) more (λ y f. apart-second setup right a (a + 1) y first second mirror is (omega arith) f) from, rest),
    )

-- THE NUMBERS DIFFER, where no rule of joins is broken.
pub numbers-differ : (setup : List SetupLine) → broken_join setup ≡ None → IsDistinct (λ (x y : ℕ). x == y) (disk_numbers setup)
numbers-differ setup right = distinct-from setup right 0 8
