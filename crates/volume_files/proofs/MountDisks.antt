-- The disks that are attached by a front of a plan's specs.
use Rattle.std.proofs.Common.{◌≡◌, ◌≢◌, ℕ, suc, ◌≤◌, ◌==◌, Bool, true, false, List, [], ◌∷◌, ◌++◌, length, map, Option, Some, None, Result, Ok, Err, refl, sym, ap, ◌∙◌, subst, cond, arith, ◌<◌, ◌⊎◌, inl, inr}
use Rattle.std.specs.Prelude.{All, IfOk, IfSome, IsSome, slice_index_or, zip, if◌then◌else◌}
use Rattle.std.specs.Map.{lookup}
use Rattle.std.proofs.lemmas.Bool.{ne_eqb}
use Rattle.std.proofs.lemmas.Bool.Decides.{nat_tests}
use Rattle.std.proofs.lemmas.List.Elements.{All-nil, All-cons, All-head, All-tail}
use Rattle.block_device.specs.DiskSeen.{DiskSeen, HasBlocks, Shows}
use Rattle.block_device.specs.RackSeen.{IsAttached}
use Rattle.volume_disks.specs.declared.volume_spec.VolumeSpec.{VolumeSpec}
use Rattle.volume_disks.specs.declared.volume_spec.VolumeSpec.TheVariants.{Plain, Joined}
use Rattle.block_device.specs.declared.rack.Spec.TheVariants as spec
use Rattle.volume_format.specs.declared.rules.BadVolume.{BadVolume}
use Rattle.volume_format.specs.Rules.{reading, table_or_rule, first_failed, tests}
use Rattle.volume_format.specs.Layout.{are_zeros, table_in}
use Rattle.volume_format.specs.Table.{TableSeen, empty_table}
use Rattle.vm_report.specs.vm_script.Rules.{is_from_to}
use Rattle.volume_files.specs.declared.stops.Refusal.{Refusal}
use Rattle.volume_files.specs.declared.stops.Refusal.TheVariants as refusal
use Rattle.volume_files.specs.Attached.{IsMounted, AreMounted, bare_disks}
use Rattle.volume_files.specs.Handed.{HasSpecSize}
use Rattle.volume_format.specs.Volume.{IsVolumeTable}
use Rattle.volume_files.specs.declared.stops.OpenStop.{OpenStop}
use Rattle.volume_files.specs.Mounting.{Holds, IsGiven, SaysTableRead}
use Rattle.volume_files.specs.Opened.{HasVolumeBlocks, IsVolumeAttached, OpenedFile, joined_size, mounted_file, sizes_refused, table_read, table_of_read, table_on, told_table, unless_refused}
use Rattle.volume_files.specs.Opened.{volume_blocks, volume_number, with_mounted, mounted_files}
use Rattle.volume_files.proofs.HeldVolumes.{told_volume}
use Rattle.stored_files.specs.Written.{OnlyReads}
use Rattle.volume_files.proofs.MountSpecs.{AreLow}

-- Each disk was attached by the spec at its place.
abbrev pub AreGiven : Holds → List VolumeSpec → List (ℕ × DiskSeen) → Type 0
AreGiven holds [] [] = Unit {0}
AreGiven holds (s ∷ specs) (d ∷ disks) = IsGiven holds s d × AreGiven holds specs disks
AreGiven holds specs disks = ⊥

pub given_of_mounted : (holds : Holds) (specs : List VolumeSpec) (disks : List (ℕ × DiskSeen)) (tables : List TableSeen) → AreMounted holds specs disks tables → AreGiven holds specs disks
given_of_mounted holds [] [] [] h = tt
given_of_mounted holds (s ∷ specs) (d ∷ disks) (t ∷ tables) h = (record { number = h.0.number; attached = h.0.attached }, given_of_mounted holds specs disks tables h.1)
given_of_mounted holds [] [] (t ∷ tables) h = absurd h
given_of_mounted holds [] (d ∷ disks) [] h = absurd h
given_of_mounted holds [] (d ∷ disks) (t ∷ tables) h = absurd h
given_of_mounted holds (s ∷ specs) [] [] h = absurd h
given_of_mounted holds (s ∷ specs) [] (t ∷ tables) h = absurd h
given_of_mounted holds (s ∷ specs) (d ∷ disks) [] h = absurd h

pub given_push : (holds : Holds) (specs : List VolumeSpec) (disks : List (ℕ × DiskSeen)) (s : VolumeSpec) (d : ℕ × DiskSeen) → AreGiven holds specs disks → IsGiven holds s d
    → AreGiven holds (specs ++ s ∷ []) (disks ++ d ∷ [])
given_push holds [] [] s d h is = (is, tt)
given_push holds (x ∷ specs) (y ∷ disks) s d h is = (h.0, given_push holds specs disks s d h.1 is)
given_push holds [] (y ∷ disks) s d h is = absurd h
given_push holds (x ∷ specs) [] s d h is = absurd h

pub mounted_push : (holds : Holds) (specs : List VolumeSpec) (disks : List (ℕ × DiskSeen)) (tables : List TableSeen) (s : VolumeSpec) (d : ℕ × DiskSeen) (t : TableSeen)
    → AreMounted holds specs disks tables → IsMounted holds s d t → AreMounted holds (specs ++ s ∷ []) (disks ++ d ∷ []) (tables ++ t ∷ [])
mounted_push holds [] [] [] s d t h is = (is, tt)
mounted_push holds (x ∷ specs) (y ∷ disks) (z ∷ tables) s d t h is = (h.0, mounted_push holds specs disks tables s d t h.1 is)
mounted_push holds [] [] (z ∷ tables) s d t h is = absurd h
mounted_push holds [] (y ∷ disks) [] s d t h is = absurd h
mounted_push holds [] (y ∷ disks) (z ∷ tables) s d t h is = absurd h
mounted_push holds (x ∷ specs) [] [] s d t h is = absurd h
mounted_push holds (x ∷ specs) [] (z ∷ tables) s d t h is = absurd h
mounted_push holds (x ∷ specs) (y ∷ disks) [] s d t h is = absurd h

-- What is held for the disks of a volume is all that counts for it.
abbrev pub HoldsAs : Holds → Holds → VolumeSpec → Type 0
HoldsAs holds others (Plain s) = holds s ≡ others s
HoldsAs holds others (Joined first second mirror) = (holds first ≡ others first) × (holds second ≡ others second)

blocks_held_so : (holds others : Holds) (s : VolumeSpec) (d : DiskSeen) → HoldsAs holds others s → HasVolumeBlocks holds s d → HasVolumeBlocks others s d
blocks_held_so holds others (Plain s) d e g = subst (λ h. IsAttached s h d) e g
blocks_held_so holds others (Joined first second mirror) d e g = record {
  a = g.a;
  b = g.b;
  one = subst (λ h. IsAttached first h g.a) e.0 g.one;
  two = subst (λ h. IsAttached second h g.b) e.1 g.two;
  one_whole = g.one_whole;
  two_whole = g.two_whole;
  fit = g.fit;
  size = g.size;
  content = g.content;
}

pub attached_held : (holds others : Holds) (s : VolumeSpec) (d : DiskSeen) → HoldsAs holds others s → IsVolumeAttached holds s d → IsVolumeAttached others s d
attached_held holds others s d e g = (blocks_held_so holds others s d e g.0, g.1)

pub given_held : (holds others : Holds) (s : VolumeSpec) (d : ℕ × DiskSeen) → HoldsAs holds others s → IsGiven holds s d → IsGiven others s d
given_held holds others s d e g = record { number = g.number; attached = attached_held holds others s d.1 e g.attached }

pub mounted_held : (holds others : Holds) (s : VolumeSpec) (d : ℕ × DiskSeen) (t : TableSeen) → HoldsAs holds others s → IsMounted holds s d t → IsMounted others s d t
mounted_held holds others s d t e m = record {
  number = m.number;
  attached = attached_held holds others s d.1 e m.attached;
  some = m.some;
  few = m.few;
  blocks = m.blocks;
  volume = m.volume;
  read = m.read;
}

-- the size of a volume of blank disks
joined-blank : (mirror : Bool) (n size : ℕ) → size ≡ n → joined_size mirror size ≡ joined_size mirror n
joined-blank mirror n size e = ap (joined_size mirror) e

pub spec_size : (s : VolumeSpec) (holds : Holds) (d : DiskSeen) → IsVolumeAttached holds s d → HasSpecSize s d
spec_size (Plain (spec.Blank number blocks)) holds d a = a.0.0
spec_size (Plain (spec.Path number path)) holds d a = tt
spec_size (Joined (spec.Blank number blocks) second mirror) holds d a = let j = a.0 in j.size ∙ joined-blank mirror blocks j.a.size j.one.0
spec_size (Joined (spec.Path number path) second mirror) holds d a = tt

pub given_length : (holds : Holds) (specs : List VolumeSpec) (disks : List (ℕ × DiskSeen)) → AreGiven holds specs disks → length (bare_disks disks) ≡ length specs
given_length holds [] [] h = refl
given_length holds (s ∷ specs) (d ∷ disks) h = ap suc (given_length holds specs disks h.1)
given_length holds [] (d ∷ disks) h = absurd h
given_length holds (s ∷ specs) [] h = absurd h

-- None of these volumes has this number.
abbrev pub AreOther : ℕ → List VolumeSpec → Type 0
AreOther number [] = Unit {0}
AreOther number (s ∷ specs) = (volume_number s ≢ number) × AreOther number specs

pub low_other : (number : ℕ) (specs : List VolumeSpec) → AreLow number specs → AreOther number specs
low_other number [] low = tt
low_other number (s ∷ specs) low = ((λ e. let lt = low.0 in absurd (omega (arith, e, lt))), low_other number specs low.1)

pub lookup_given : (holds : Holds) (specs : List VolumeSpec) (disks : List (ℕ × DiskSeen)) (number : ℕ) (d : DiskSeen) (more : List ℕ) (behind : List DiskSeen) → AreGiven holds specs disks → AreOther number specs
    → lookup (λ n. n == number) (zip (map volume_number specs ++ number ∷ more) (bare_disks disks ++ d ∷ behind)) ≡ Some d
lookup_given holds [] [] number d more behind h other =
    let here : (number == number) ≡ true = grind (arith, nat_tests) in
    ap (λ b. cond b (Some d) (lookup (λ n. n == number) (zip more behind))) here
lookup_given holds (s ∷ specs) (x ∷ disks) number d more behind h other =
    ap (λ b. cond b (Some x.1) (lookup (λ n. n == number) (zip (map volume_number specs ++ number ∷ more) (bare_disks disks ++ d ∷ behind)))) (ne_eqb (volume_number s) number other.0)
    ∙ lookup_given holds specs disks number d more behind h.1 other.1
lookup_given holds [] (x ∷ disks) number d more behind h other = absurd h
lookup_given holds (s ∷ specs) [] number d more behind h other = absurd h

abbrev pub Told : DiskSeen → Type 0
Told d = IsSome d.content

pub mounted_err : (holds : Holds) (specs rest : List VolumeSpec) (disks : List (ℕ × DiskSeen)) (tables : List TableSeen) (r : Refusal) → AreMounted holds specs disks tables
    → All Told (bare_disks disks) → mounted_files holds rest ≡ Err r → mounted_files holds (specs ++ rest) ≡ Err r
mounted_err holds [] rest [] [] r h told e = e
mounted_err holds (s ∷ specs) rest (d ∷ disks) (t ∷ tables) r h told e =
    let ih = mounted_err holds specs rest disks tables r h.1 (All-tail Told d.1 (bare_disks disks) told) e in
    let here = told_volume s holds d.1 (Ok t) h.0.attached (All-head Told d.1 (bare_disks disks) told) h.0.read in
    ap (λ (x : Result TableSeen Refusal). with_mounted (volume_number s, volume_blocks holds s) x (mounted_files holds (specs ++ rest))) here
    ∙ ap (λ (x : Result (List OpenedFile) Refusal). with_mounted (volume_number s, volume_blocks holds s) (Ok t) x) ih
mounted_err holds [] rest [] (t ∷ tables) r h told e = absurd h
mounted_err holds [] rest (d ∷ disks) [] r h told e = absurd h
mounted_err holds [] rest (d ∷ disks) (t ∷ tables) r h told e = absurd h
mounted_err holds (s ∷ specs) rest [] [] r h told e = absurd h
mounted_err holds (s ∷ specs) rest [] (t ∷ tables) r h told e = absurd h
mounted_err holds (s ∷ specs) rest (d ∷ disks) [] r h told e = absurd h

pub mounted_here : (holds : Holds) (s : VolumeSpec) (rest : List VolumeSpec) (d : DiskSeen) (rule : ℕ) → IsVolumeAttached holds s d → IsSome d.content → IfSome d.content (λ blocks. table_on blocks ≡ Err rule)
    → mounted_files holds (s ∷ rest) ≡ Err (refusal.Volume (volume_number s) rule)
mounted_here holds s rest d rule a some h =
    ap (λ (x : Result TableSeen Refusal). with_mounted (volume_number s, volume_blocks holds s) x (mounted_files holds rest)) (told_volume s holds d (Err rule) a some h)

-- and so it is where the sizes of two disks don't serve
pub unfit_here : (holds : Holds) (s : VolumeSpec) (rest : List VolumeSpec) (r : Refusal) → sizes_refused holds s ≡ Some r → mounted_files holds (s ∷ rest) ≡ Err r
unfit_here holds s rest r refused =
    ap (λ (o : Option Refusal). with_mounted (volume_number s, volume_blocks holds s) (unless_refused o (told_table (volume_number s) (table_on (volume_blocks holds s)))) (mounted_files holds rest)) refused

-- Volumes that were mounted and tell have files.
pub mounted_ok : (holds : Holds) (specs : List VolumeSpec) (disks : List (ℕ × DiskSeen)) (tables : List TableSeen) → AreMounted holds specs disks tables
    → All Told (bare_disks disks) → (files : List OpenedFile) × (mounted_files holds specs ≡ Ok files)
mounted_ok holds [] [] [] h told = ([], refl)
mounted_ok holds (s ∷ specs) (d ∷ disks) (t ∷ tables) h told =
    let ih = mounted_ok holds specs disks tables h.1 (All-tail Told d.1 (bare_disks disks) told) in
    let here = told_volume s holds d.1 (Ok t) h.0.attached (All-head Told d.1 (bare_disks disks) told) h.0.read in
    let disk : ℕ × List (List ℕ) = (volume_number s, volume_blocks holds s) in (
      map (mounted_file disk) t.entries ++ ih.0,
      ap (λ (x : Result TableSeen Refusal). with_mounted disk x (mounted_files holds specs)) here ∙ ap (λ (x : Result (List OpenedFile) Refusal). with_mounted disk (Ok t) x) ih.1,
    )
mounted_ok holds [] [] (t ∷ tables) h told = absurd h
mounted_ok holds [] (d ∷ disks) [] h told = absurd h
mounted_ok holds [] (d ∷ disks) (t ∷ tables) h told = absurd h
mounted_ok holds (s ∷ specs) [] [] h told = absurd h
mounted_ok holds (s ∷ specs) [] (t ∷ tables) h told = absurd h
mounted_ok holds (s ∷ specs) (d ∷ disks) [] h told = absurd h

pub all_last : (disks : List DiskSeen) (d : DiskSeen) → All Told (disks ++ d ∷ []) → All Told disks × Told d
all_last [] d h = (All-nil Told, All-head Told d [] h)
all_last (x ∷ disks) d h =
    let rest = all_last disks d (All-tail Told x (disks ++ d ∷ []) h) in
    (All-cons Told x disks (All-head Told x (disks ++ d ∷ []) h) rest.0, rest.1)

-- Block 0 of a disk.
reading_blocks : (block : List ℕ) (size : ℕ) (t : TableSeen) → reading block size ≡ Ok t → t.blocks ≡ size
unfolding reading
reading_blocks block size t e = at (are_zeros block) e
  where
    by_rule : (o : Option ℕ) → table_or_rule block size o ≡ Ok t → t.blocks ≡ size
    by_rule None e = let same : table_in block size ≡ t = cc e in sym (ap (λ (x : TableSeen). x.blocks) same)
    by_rule (Some rule) e = absurd (cc e)

    at : (b : Bool) → (if b then Ok (empty_table size) else table_or_rule block size (first_failed (tests block size))) ≡ Ok t → t.blocks ≡ size
    at true e = let same : empty_table size ≡ t = cc e in sym (ap (λ (x : TableSeen). x.blocks) same)
    at false e = by_rule (first_failed (tests block size)) e

pub table_told : (content : Option (List (List ℕ))) (size : ℕ) (block : List ℕ) (r : Result TableSeen BadVolume) → HasBlocks content size → Shows content 0 block
    → 2 ≤ size → size ≤ 16384 → r ≡ reading block size → IfSome content (λ blocks. table_on blocks ≡ table_read r)
table_told None size block r whole shows low high is = tt
table_told (Some blocks) size block r whole shows low high is =
    let count = whole.0 in
    let right : is_from_to 2 16384 (length blocks) ≡ true = grind (arith, nat_tests, low, high, count) in
    ap (λ b. if b then table_read (reading (slice_index_or blocks 0 []) (length blocks)) else Err 0) right
    ∙ (ap (λ n. table_read (reading (slice_index_or blocks 0 []) n)) count ∙ (ap (λ b. table_read (reading b size)) (sym shows) ∙ ap table_read (sym is)))

-- a size that breaks rule 0 of volumes
pub bad-size : (size : ℕ) → (size < 2) ⊎ (16384 < size) → is_from_to 2 16384 size ≡ false
bad-size size (inl low) = grind (arith, nat_tests, low)
bad-size size (inr high) = grind (arith, nat_tests, high)

pub size-told : (content : Option (List (List ℕ))) (size : ℕ) → HasBlocks content size → is_from_to 2 16384 size ≡ false → IfSome content (λ blocks. table_on blocks ≡ Err 0)
size-told None size whole bad = tt
size-told (Some blocks) size whole bad =
    ap (λ (b : Bool). if b then table_read (reading (slice_index_or blocks 0 []) (length blocks)) else Err 0) (ap (is_from_to 2 16384) whole.0 ∙ bad)

pub size-bad : (block : List ℕ) (size : ℕ) → is_from_to 2 16384 size ≡ false → table_of_read block size ≡ Err 0
size-bad block size bad = ap (λ (b : Bool). if b then table_read (reading block size) else Err 0) bad

table_size : (block : List ℕ) (size : ℕ) (t : TableSeen) → Ok t ≡ reading block size → t.blocks ≡ size
table_size block size t is = reading_blocks block size t (sym is)

-- A disk whose block 0 was read.
module _ (old new : DiskSeen) (block : List ℕ) (size : ℕ) (whole : HasBlocks old.content old.size) (only : OnlyReads old new) (same : size ≡ old.size)
    (shows : Shows old.content 0 block) (low : 2 ≤ size) (high : size ≤ 16384) where
  told_as : (r : Result TableSeen BadVolume) → r ≡ reading block size → IfSome new.content (λ blocks. table_on blocks ≡ table_read r)
  told_as r is =
      let has : HasBlocks old.content size = subst (λ n. HasBlocks old.content n) (sym same) whole in
      subst (λ c. IfSome c (λ blocks. table_on blocks ≡ table_read r)) (sym only.content) (table_told old.content size block r has shows low high is)

  pub says_read : (r : Result TableSeen OpenStop) → IfOk r (λ t. (Ok t ≡ reading block size) × IsVolumeTable t) → IfOk r (SaysTableRead new)
  says_read (Ok t) h =
      let kept : new.size ≡ size = only.size ∙ sym same in
      record { some = omega (arith, kept, low); few = omega (arith, kept, high); blocks = table_size block size t h.0 ∙ sym kept; volume = h.1; read = told_as (Ok t) h.0 }
  says_read (Err how) h = tt
