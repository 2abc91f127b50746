-- Lists of disks whose numbers and sizes stay.
use Rattle.stored_files.proofs.TablesWritten.{keeps_same as blocks-refl}
use Rattle.std.proofs.Common.{◌≡◌, ℕ, zero, suc, ◌≤◌, ◌<◌, ◌==◌, true, List, [], ◌∷◌, length, map, refl, sym, ap, ◌∙◌, subst, arith, inl, inr}
use Rattle.std.specs.Prelude.{All, Some, option_map, slice_get, slice_index_or, zip, cond}
use Rattle.std.specs.List.{AllByRecursion}
use Rattle.std.specs.Map.{lookup}
use Rattle.std.proofs.lemmas.Bool.{eq-eqb}
use Rattle.std.proofs.lemmas.Bool.Decides.{eqb_tells}
use Rattle.std.specs.FinMap as finite
use Rattle.std.proofs.lemmas.Option.{none-some, same_Some, slice_get-map, slice_get-get_or}
use Rattle.block_device.specs.DiskSeen.{DiskSeen}
use Rattle.volume_format.specs.vnode_files.Files.{FilesSeen}
use Rattle.vm_report.specs.vm_script.PlanSeen.{PlanSeen}
use Rattle.stored_files.specs.Written.{paired_seen}
use Rattle.volume_files.specs.Attached.{bare_disks}
use Rattle.volume_files.specs.Handed.{volume_numbers}
use Rattle.volume_files.proofs.HandLemmas.{plan-numbers}
use Rattle.stored_files.specs.Written.{HaveDisks, HaveFirstBlocks, KeepsBlocks, WriteTables, AreOnlyRead, disk_sizes}

-- the members of a list and of its image
pub at-map : {A B : Type 0} (f : A → B) (xs : List A) (i : ℕ) (x : A) → slice_get xs i ≡ Some x → slice_get (map f xs) i ≡ Some (f x)
at-map f xs i x e = slice_get-map f xs i ∙ ap (option_map f) e

pub in-map : {A B : Type 0} (f : A → B) (xs : List A) (i : ℕ) (y : B) → slice_get (map f xs) i ≡ Some y → (x : A) × (slice_get xs i ≡ Some x) × (f x ≡ y)
in-map f [] i y e = absurd (none-some y e)
in-map f (x ∷ xs) zero y e = (x, refl, same_Some (f x) y e)
in-map f (x ∷ xs) (suc i) y e = in-map f xs i y e

-- numbers below 8
low-number : (ns : List ℕ) → AllByRecursion (λ m. (0 ≤ m) × (m < 8)) ns → (i n : ℕ) → slice_get ns i ≡ Some n → n < 8
low-number [] all i n at = absurd (none-some n at)
low-number (m ∷ ns) all zero n at = subst (λ (x : ℕ). x < 8) (same_Some m n at) all.0.1
low-number (m ∷ ns) all (suc i) n at = low-number ns all.1 i n at

-- the number of a disk
abbrev pub number : ℕ × DiskSeen → ℕ
number d = d.0

-- the disk at the same place of a list with the same numbers
pub mate : (old new : List (ℕ × DiskSeen)) → map number new ≡ map number old → (i : ℕ) (d : ℕ × DiskSeen) → slice_get old i ≡ Some d
    → (e : ℕ × DiskSeen) × (slice_get new i ≡ Some e) × (e.0 ≡ d.0)
mate old new same i d at = in-map number new i d.0 (ap (λ (l : List ℕ). slice_get l i) same ∙ at-map number old i d at)

-- the disks are there of which files lie on these
pub have-disks : (files : FilesSeen) (old new : List (ℕ × DiskSeen)) → map number new ≡ map number old
    → ((i : ℕ) (d e : ℕ × DiskSeen) → slice_get old i ≡ Some d → slice_get new i ≡ Some e → e.1.size ≡ d.1.size) → HaveDisks files old → HaveDisks files new
have-disks files old new same sizes h = record {
  there = λ k v at. let found = h.there k v at in let m = mate old new same found.0 (v.info.disk, found.1) found.2 in
      (found.0, m.0.1, m.1 ∙ ap (λ (n : ℕ). Some (n, m.0.1)) m.2);
  sizes = λ i e at. let m = mate new old (sym same) i e at in
      ap (finite.get files.disks) (sym m.2) ∙ h.sizes i m.0 m.1 ∙ ap Some (sym (sizes i m.0 e m.1 at));
  numbers = λ i j d e di ej is. let a = mate new old (sym same) i d di in let b = mate new old (sym same) j e ej in
      h.numbers i j a.0 b.0 a.1 b.1 (a.2 ∙ is ∙ sym b.2);
}

pub have-written : (files : FilesSeen) (old new : List (ℕ × DiskSeen)) → WriteTables old new → HaveDisks files old → HaveDisks files new
have-written files old new w h = have-disks files old new w.numbers (λ i d e di ei. (w.each i d e di ei).size) h

pub have-read : (files : FilesSeen) (old new : List (ℕ × DiskSeen)) → AreOnlyRead old new → HaveDisks files old → HaveDisks files new
have-read files old new w h = have-disks files old new w.numbers (λ i d e di ei. (w.each i d e di ei).size) h

-- one member at a place
pub same-member : {A : Type 0} (xs : List A) (i : ℕ) (x y : A) → slice_get xs i ≡ Some x → slice_get xs i ≡ Some y → x ≡ y
same-member xs i x y a b = same_Some x y (sym a ∙ b)

pub writes-refl : (disks : List (ℕ × DiskSeen)) → WriteTables disks disks
writes-refl disks = record {
  count = refl;
  numbers = refl;
  each = λ i d e di ei. subst (λ (x : ℕ × DiskSeen). KeepsBlocks d.1 x.1) (same-member disks i d e di ei) (blocks-refl d.1);
}

-- what holds of all, place by place
pub to-all : {A : Type 0} (P : A → Type 0) (xs : List A) → ((i : ℕ) (x : A) → slice_get xs i ≡ Some x → P x) → All P xs
to-all P xs h k d lt = h k (slice_index_or xs k d) (slice_get-get_or xs k d lt)

-- lists of one length with the same image
pub same-image : {A B : Type 0} (f : A → B) (xs ys : List A) → length ys ≡ length xs
    → ((i : ℕ) (x y : A) → slice_get xs i ≡ Some x → slice_get ys i ≡ Some y → f y ≡ f x) → map f ys ≡ map f xs
same-image f [] [] c h = refl
same-image f [] (y ∷ ys) c h = absurd (omega (arith, c))
same-image f (x ∷ xs) [] c h = absurd (omega (arith, c))
same-image f (x ∷ xs) (y ∷ ys) c h =
    ap (λ z. z ∷ map f ys) (h 0 x y refl refl) ∙ ap (λ l. f x ∷ l) (same-image f xs ys (omega (arith, c)) (λ i a b ai bi. h (suc i) a b ai bi))

-- disks as their numbers and themselves
pub zip-back : (disks : List (ℕ × DiskSeen)) → zip (map number disks) (bare_disks disks) ≡ disks
zip-back [] = refl
zip-back (d ∷ disks) = ap (λ l. d ∷ l) (zip-back disks)

pub sizes-zip : (disks : List (ℕ × DiskSeen)) → disk_sizes disks ≡ zip (map number disks) (map (λ (d : ℕ × DiskSeen). d.1.size) disks)
sizes-zip [] = refl
sizes-zip (d ∷ disks) = ap (λ l. (d.0, d.1.size) ∷ l) (sizes-zip disks)

pub sizes-by : (xs ys : List (ℕ × DiskSeen)) → map number xs ≡ map number ys → map (λ (d : ℕ × DiskSeen). d.1.size) xs ≡ map (λ (d : ℕ × DiskSeen). d.1.size) ys → disk_sizes xs ≡ disk_sizes ys
sizes-by xs ys n s = sizes-zip xs ∙ ap (λ l. zip l (map (λ (d : ℕ × DiskSeen). d.1.size) xs)) n ∙ ap (zip (map number ys)) s ∙ sym (sizes-zip ys)

pub sizes-written : (old new : List (ℕ × DiskSeen)) → WriteTables old new → map (λ (d : ℕ × DiskSeen). d.1.size) new ≡ map (λ (d : ℕ × DiskSeen). d.1.size) old
sizes-written old new w = same-image (λ (d : ℕ × DiskSeen). d.1.size) old new w.count (λ i x y xi yi. (w.each i x y xi yi).size)

same_number : (n : ℕ) → (n == n) ≡ true
same_number n = eq-eqb n n refl

-- the disk of a number
pub lookup-in : (n : ℕ) (disks : List (ℕ × DiskSeen)) (d : DiskSeen) → lookup (λ m. m == n) disks ≡ Some d → (i : ℕ) × (slice_get disks i ≡ Some (n, d))
lookup-in n [] d e = absurd (none-some d e)
lookup-in n (x ∷ disks) d e = elim (eqb_tells x.0 n) [
  | inl here ↦ (0, ap (λ m. Some (m, x.1)) here.1 ∙ ap (option_map (λ y. (n, y))) (sym (ap (λ b. cond b (Some x.1) (lookup (λ m. m == n) disks)) here.0) ∙ e))
  | inr there ↦ let found = lookup-in n disks d (sym (ap (λ b. cond b (Some x.1) (lookup (λ m. m == n) disks)) there.0) ∙ e) in (suc found.0, found.1)
]

pub lookup-at : (n : ℕ) (disks : List (ℕ × DiskSeen)) (i : ℕ) (d : DiskSeen) → ((j k : ℕ) (x y : ℕ × DiskSeen) → slice_get disks j ≡ Some x → slice_get disks k ≡ Some y → x.0 ≡ y.0 → j ≡ k)
    → slice_get disks i ≡ Some (n, d) → lookup (λ m. m == n) disks ≡ Some d
lookup-at n [] i d own e = absurd (none-some (n, d) e)
lookup-at n (x ∷ disks) zero d own e =
    let same = same_Some x (n, d) e in
    ap (λ b. cond b (Some x.1) (lookup (λ m. m == n) disks)) (subst (λ (m : ℕ). (m == n) ≡ true) (sym (ap number same)) (same_number n)) ∙ ap (λ y. Some y.1) same
lookup-at n (x ∷ disks) (suc i) d own e = elim (eqb_tells x.0 n) [
  | inl here ↦ absurd (let bad : 0 ≡ suc i = own 0 (suc i) x (n, d) refl e here.1 in omega (arith, bad))
  | inr there ↦ ap (λ b. cond b (Some x.1) (lookup (λ m. m == n) disks)) there.0
      ∙ lookup-at n disks i d (λ j k y z yj zk is. let q = own (suc j) (suc k) y z yj zk is in omega (arith, q)) e
]

-- a plan's disks have numbers below 8
pub low-disks : (plan : PlanSeen) (disks : List (ℕ × DiskSeen)) → map number disks ≡ volume_numbers plan → (i : ℕ) (d : ℕ × DiskSeen) → slice_get disks i ≡ Some d → d.0 < 8
low-disks plan disks same i d at = low-number (volume_numbers plan) (plan-numbers plan).0 i d.0 (ap (λ (l : List ℕ). slice_get l i) (sym same) ∙ at-map number disks i d at)

-- the disks without their numbers
pub seen-bare_disks : {D : Type 0} (seen : D → DiskSeen) (xs : List (ℕ × D)) → map seen (map (λ (d : ℕ × D). d.1) xs) ≡ bare_disks (paired_seen seen xs)
seen-bare_disks seen [] = refl
seen-bare_disks seen (x ∷ xs) = ap (λ (l : List DiskSeen). seen x.1 ∷ l) (seen-bare_disks seen xs)

-- disks of the same sizes have a first block
pub first-same : (old new : List (ℕ × DiskSeen)) → map number new ≡ map number old → map (λ (d : ℕ × DiskSeen). d.1.size) new ≡ map (λ (d : ℕ × DiskSeen). d.1.size) old
    → HaveFirstBlocks old → HaveFirstBlocks new
first-same old new numbers sizes h i d at =
    let m = mate new old (sym numbers) i d at in
    let a : Some d.1.size ≡ Some m.0.1.size = sym (at-map (λ (x : ℕ × DiskSeen). x.1.size) new i d at) ∙ ap (λ (l : List ℕ). slice_get l i) sizes
    ∙ at-map (λ (x : ℕ × DiskSeen). x.1.size) old i m.0 m.1 in
    subst (λ (n : ℕ). 0 < n) (sym (same_Some d.1.size m.0.1.size a)) (h i m.0 m.1)
