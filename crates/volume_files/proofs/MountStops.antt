-- What is handed back, and why, where the attaching stopped.
use Rattle.volume_files.proofs.StopLemmas.{front_swap as swap_front}
use Rattle.std.proofs.Common.{◌≡◌, ℕ, suc, ◌+◌, ◌-◌, ◌<◌, ◌≤◌, ◌==◌, Bool, true, false, List, [], ◌∷◌, ◌++◌, length, map, Option, Some, None, Result, Ok, Err}
use Rattle.std.proofs.Common.{refl, sym, ap, ◌∙◌, subst, arith, append-nil, append_assoc, inl, inr}
use Rattle.std.proofs.Math.Seq.{take-append_seam}
use Rattle.std.specs.Prelude.{IsSomeAnd, All, IfErr, IfSome, IsOk, MatchOption, nat_lt, nat_le, option_and_then, slice_get, zip, take, if◌then◌else◌, ⊤}
use Rattle.std.specs.List.{Contains, cons_option}
use Rattle.std.specs.Map.{lookup}
use Rattle.std.proofs.lemmas.Bool.Decides.{nat_tests}
use Rattle.std.proofs.lemmas.List.{map-append}
use Rattle.std.proofs.lemmas.List.Elements.{Contains-append_right}
use Rattle.block_device.specs.Counts.{HasRisen}
use Rattle.block_device.specs.DiskSeen.{DiskSeen, HasBlocks}
use Rattle.block_device.specs.RackSeen.{spec_number}
use Rattle.block_device.specs.OpenSeen.{OpenFaultSeen}
use Rattle.block_device.specs.declared.rack.Spec.{Spec}
use Rattle.volume_disks.specs.Volumes.{second_spec, size_fault}
use Rattle.volume_disks.specs.declared.volume_spec.VolumeSpec.{VolumeSpec}
use Rattle.volume_disks.specs.declared.volume_spec.VolumeSpec.TheVariants.{Plain, Joined}
use Rattle.volume_format.specs.Table.{TableSeen}
use Rattle.vm_report.specs.vm_script.declared.plan.SetupLine.{SetupLine}
use Rattle.vm_report.specs.vm_script.PlanSeen.{PlanSeen}
use Rattle.vm_report.specs.vm_script.Rules.{amounts_of}
use Rattle.volume_files.specs.declared.stops.OpenStop.{OpenStop}
use Rattle.volume_files.specs.declared.stops.OpenStop.TheVariants as halt
use Rattle.volume_files.specs.declared.stops.Refusal.{Refusal}
use Rattle.volume_files.specs.declared.stops.Refusal.TheVariants as refusal
use Rattle.volume_files.specs.Attached.{AreMounted, StopCause, bare_disks}
use Rattle.volume_files.specs.Handed.{HaveTold, IsSwapAsGiven, IsSwapFor, IsCountedBy, AreAsGiven, AreUntouched, HandsFront, BreaksSizes}
use Rattle.volume_files.specs.Handed.{HandsApart, HandsBelow, HandsUnracked, HasDiskNumbered, NoneBreaksBefore, disk_handed, disks_apart, handed_specs, volume_numbers}
use Rattle.volume_files.specs.Mounting.{Holds, specs_below, IsGiven, UnreadCause, UngivenCause, UnfitCause, MountsOne, MountsNumber, HaltsSpec, HaltsNumber, Halts}
use Rattle.volume_files.specs.Opened.{OpenedFile, held_size, mounted_files, opened_files, setup_volumes, size_held, size_refusal, sizes_refused, if_few, with_line_files, table_on}
use Rattle.volume_files.specs.Opened.{volume_number, volume_numbered, volume_specs, volumes_held}
use Rattle.volume_files.proofs.HeldVolumes.{spec_long, spec_tells}
use Rattle.volume_files.proofs.FaultCauses.{if-counted}
use Rattle.volume_files.proofs.GivenFiles.{as-given}
use Rattle.volume_files.proofs.MountSpecs.{volume_is, specs_from, specs_split, specs_more, count_below, low_specs}
use Rattle.volume_files.proofs.MountDisks.{AreGiven, AreOther, HoldsAs, given_of_mounted, given_push, mounted_push, given_held, mounted_held, given_length}
use Rattle.volume_files.proofs.MountDisks.{low_other, lookup_given, mounted_err, mounted_here, mounted_ok, Told, all_last, unfit_here}

-- One more number.
pub mount_step : (setup : List SetupLine) (number : ℕ) (holds others : Holds) (old new : List (ℕ × DiskSeen)) (tables_old tables_new : List TableSeen)
    → ((s : VolumeSpec) → volume_numbered setup number ≡ Some s → HoldsAs holds others s) → AreMounted others (specs_below setup number) old tables_old
    → MountsNumber setup number holds old new tables_old tables_new → AreMounted others (specs_below setup (number + 1)) new tables_new
mount_step setup number holds others old new tables_old tables_new agree before h = at (volume_numbered setup number) refl h
  where
    at : (o : Option VolumeSpec) → volume_numbered setup number ≡ o
        → MatchOption o ((new ≡ old) × (tables_new ≡ tables_old)) (λ s. MountsOne holds s old new tables_old tables_new)
        → AreMounted others (specs_below setup (number + 1)) new tables_new
    at None is h =
        let specs : specs_below setup number ≡ specs_below setup (number + 1) = sym (specs_more setup number None is ∙ append-nil (specs_below setup number)) in
        subst (λ xs. AreMounted others xs new tables_new) specs
        (subst (λ ds. AreMounted others (specs_below setup number) ds tables_new) (sym h.0) (subst (λ ts. AreMounted others (specs_below setup number) old ts) (sym h.1) before))
    at (Some s) is h =
        let same = agree s is in
        let pushed = mounted_push others (specs_below setup number) old tables_old s h.disk h.table before (mounted_held holds others s h.disk h.table same h.mounted) in
        subst (λ xs. AreMounted others xs new tables_new) (sym (specs_more setup number (Some s) is))
        (subst (λ ds. AreMounted others (specs_below setup number ++ s ∷ []) ds tables_new) (sym h.disks)
        (subst (λ ts. AreMounted others (specs_below setup number ++ s ∷ []) (old ++ h.disk ∷ []) ts) (sym h.tables) pushed))

-- The disk of a number wasn't attached, or its table wasn't read.
pub number_halts : (r : Result (Unit {0}) OpenStop) (setup : List SetupLine) (number : ℕ) (holds : Holds) (s : VolumeSpec) (old new : ℕ)
    (front disks : List (ℕ × DiskSeen)) → volume_numbered setup number ≡ Some s
    → IfErr r (HaltsSpec holds s old new front disks) → IfErr r (HaltsNumber setup number holds old new front disks)
number_halts (Ok u) setup number holds s old new front disks is h = tt
number_halts (Err how) setup number holds s old new front disks is h = inr (s, is, h)

pub ungiven_later : (number old mid new : ℕ) (how : OpenStop) → old ≤ mid → UngivenCause number mid new how → UngivenCause number old new how
ungiven_later number old mid new (halt.Failed f) le h = (h.0, h.1, let risen = h.2 in omega (arith, risen, le))
ungiven_later number old mid new halt.Memory le h = tt
ungiven_later number old mid new (halt.Refused r) le h = absurd h

-- what is held for the disks of a volume of two
joined_same : (holds others : Holds) (s : VolumeSpec) (first second : Spec) (mirror : Bool) → s ≡ Joined first second mirror → HoldsAs holds others s → (holds first ≡ others first) × (holds second ≡ others second)
joined_same holds others s first second mirror is same = subst (λ (x : VolumeSpec). HoldsAs holds others x) is same

-- The attaching stopped at a number.
pub halted : (setup : List SetupLine) (number : ℕ) (holds others : Holds) (old mid new : ℕ) (front disks : List (ℕ × DiskSeen)) (tables : List TableSeen) (how : OpenStop)
    → number < 8 → ((s : VolumeSpec) → volume_numbered setup number ≡ Some s → HoldsAs holds others s) → old ≤ mid → AreMounted others (specs_below setup number) front tables
    → HaltsNumber setup number holds mid new front disks how → Halts setup others old new disks how
halted setup number holds others old mid new front disks tables how below agree le before h =
    record { number = number; below = below; front = front; tables = tables; mounted = before; cause = at h }
  where
    at : HaltsNumber setup number holds mid new front disks how → HaltsNumber setup number others old new front disks how
    at (inl m) = inl m
    at (inr h) =
        let s = h.0 in
        let same = agree s h.1 in
        inr (
          s,
          h.1,
          elim h.2 [
            | inl b ↦ inl (record { same = b.same; cause = ungiven_later (volume_number s) old mid new how le b.cause })
            | inr more ↦ elim more [
              | inl u ↦ inr (inl (record { disk = u.disk; given = given_held holds others s u.disk same u.given; behind = u.behind; cause = u.cause }))
              | inr rest ↦ elim rest [
                | inl f ↦
                    let both = joined_same holds others s f.first f.second f.mirror f.joined same in
                    inr (inr (inl (record {
                      first = f.first;
                      second = f.second;
                      mirror = f.mirror;
                      joined = f.joined;
                      disk = f.disk;
                      given = given_held holds others (Plain f.first) f.disk both.0 f.given;
                      behind = f.behind;
                      cause = ungiven_later (spec_number f.second) old mid new how le f.cause;
                    })))
                | inr u ↦
                    let both = joined_same holds others s u.first u.second u.mirror u.joined same in
                    inr (inr (inr (record {
                      first = u.first;
                      second = u.second;
                      mirror = u.mirror;
                      joined = u.joined;
                      a = u.a;
                      b = u.b;
                      one = given_held holds others (Plain u.first) u.a both.0 u.one;
                      two = given_held holds others (Plain u.second) u.b both.1 u.two;
                      one_whole = u.one_whole;
                      two_whole = u.two_whole;
                      behind = u.behind;
                      cause = u.cause;
                    })))
              ]
            ]
          ],
        )

pub opened_err : (plan : PlanSeen) (holds : Holds) (r : Refusal) → mounted_files holds (setup_volumes plan.setup) ≡ Err r → opened_files plan holds ≡ Err r
opened_err plan holds r e =
    ap (λ (m : Result (List OpenedFile) Refusal). with_line_files (size_held (volumes_held holds (setup_volumes plan.setup))) (if_few m) plan.setup) e

all_two : (disks : List DiskSeen) (a b : DiskSeen) → All Told (disks ++ a ∷ b ∷ []) → All Told disks × (Told a × Told b)
all_two disks a b told =
    let last = all_last (disks ++ a ∷ []) b (subst (λ (ds : List DiskSeen). All Told ds) (sym (append_assoc disks (a ∷ []) (b ∷ []))) told) in
    let rest = all_last disks a last.0 in
    (rest.0, (rest.1, last.1))

-- the volumes below a number, and what stands at its place
below_front : (plan : PlanSeen) (m k : ℕ) → m + k ≡ 8 → take (length (specs_below plan.setup m)) (volume_specs plan) ≡ specs_below plan.setup m
below_front plan m k all = ap (take (length (specs_below plan.setup m))) (specs_split plan.setup m k 8 all) ∙ take-append_seam (specs_below plan.setup m) (specs_from plan.setup m k)

below_place : (plan : PlanSeen) (m k : ℕ) → m + suc k ≡ 8 → (s : VolumeSpec) → volume_numbered plan.setup m ≡ Some s → slice_get (volume_specs plan) (length (specs_below plan.setup m)) ≡ Some s
below_place plan m k all s is =
    ap (λ (xs : List VolumeSpec). slice_get xs (length (specs_below plan.setup m)))
    (specs_split plan.setup m (suc k) 8 all ∙ ap (λ (o : Option VolumeSpec). specs_below plan.setup m ++ cons_option o (specs_from plan.setup (m + 1) k)) is)
    ∙ slice_get-append_seam (specs_below plan.setup m) s (specs_from plan.setup (m + 1) k)
  where
    slice_get-append_seam : (xs : List VolumeSpec) (y : VolumeSpec) (ys : List VolumeSpec) → slice_get (xs ++ y ∷ ys) (length xs) ≡ Some y
    slice_get-append_seam [] y ys = refl
    slice_get-append_seam (x ∷ xs) y ys = slice_get-append_seam xs y ys

-- What is handed back: the volumes below a number, and some of the disks of the next one.
module _ (plan : PlanSeen) (holds : Holds) (swap : Option DiskSeen) (swaps : IsSwapFor (amounts_of plan.setup).slots swap) (blank : IsSwapAsGiven (amounts_of plan.setup).slots swap)
    (m k : ℕ) (all : m + k ≡ 8) (apart : ℕ) (specs : List VolumeSpec) (is : handed_specs plan (length (specs_below plan.setup m)) apart ≡ specs)
    (disks : List (ℕ × DiskSeen)) (given : AreGiven holds specs disks) where
  untouched : AreUntouched plan holds (length (specs_below plan.setup m)) apart (bare_disks disks) swap
  untouched = record {
    count = given_length holds specs disks given ∙ ap (λ (xs : List VolumeSpec). length xs) (sym is);
    each = subst (λ (xs : List VolumeSpec). AreAsGiven holds xs (bare_disks disks)) (sym is) (as-given holds specs disks given);
    last = blank;
  }

  pub hands_front : HandsFront plan holds (bare_disks disks) swap
  hands_front = record {
    whole = length (specs_below plan.setup m);
    apart = apart;
    same = untouched;
    first = swap_front (amounts_of plan.setup).slots swap swaps;
    before = λ some. swaps;
  }

  pub hands_below : (p : ℕ → Bool) → ((x : ℕ) → x < m → p x ≡ true) → ((x : ℕ) → m ≤ x → p x ≡ false) → HandsBelow plan holds p apart (bare_disks disks) swap
  hands_below p passing failing = record {
    same = subst (λ (n : ℕ). AreUntouched plan holds n apart (bare_disks disks) swap) (sym (count_below p plan.setup m k all passing failing)) untouched;
    first = swaps;
  }

module _ (plan : PlanSeen) (holds : Holds) (old new : ℕ) (swap : Option DiskSeen) (swaps : IsSwapFor (amounts_of plan.setup).slots swap)
    (blank : IsSwapAsGiven (amounts_of plan.setup).slots swap) (number k : ℕ) (all : number + suc k ≡ 8)
    (front : List (ℕ × DiskSeen)) (tables : List TableSeen) (before : AreMounted holds (specs_below plan.setup number) front tables) where
  abbrev below : List VolumeSpec
  below = specs_below plan.setup number

  given_front : AreGiven holds below front
  given_front = given_of_mounted holds below front tables before

  whole_only : handed_specs plan (length below) 0 ≡ below
  whole_only = append-nil (take (length below) (volume_specs plan)) ∙ below_front plan number (suc k) all

  -- the volumes before have files
  none_breaks : (n : ℕ) (s : VolumeSpec) → volume_numbered plan.setup number ≡ Some s → HasDiskNumbered n s → All Told (bare_disks front) → NoneBreaksBefore plan holds n
  none_breaks n s is has told =
      let ok = mounted_ok holds below front tables before told in
      inr (
        length below,
        subst (λ (o : Option VolumeSpec). IsSomeAnd o (HasDiskNumbered n)) (sym (below_place plan number k all s is)) has,
        subst (λ (r : Result (List OpenedFile) Refusal). IsOk r) (sym (ap (mounted_files holds) (below_front plan number (suc k) all) ∙ ok.1)) refl,
      )

  unasked_stop : StopCause plan holds old new (bare_disks front) swap halt.Memory
  unasked_stop = hands_front plan holds swap swaps blank number (suc k) all 0 below whole_only front given_front

  module _ (s : VolumeSpec) (is : volume_numbered plan.setup number ≡ Some s) where
    specs_now : setup_volumes plan.setup ≡ below ++ (s ∷ specs_from plan.setup (number + 1) k)
    specs_now = specs_split plan.setup number (suc k) 8 all ∙ ap (λ (o : Option VolumeSpec). below ++ cons_option o (specs_from plan.setup (number + 1) k)) is

    numbers_now : volume_numbers plan ≡ map volume_number below ++ number ∷ map volume_number (specs_from plan.setup (number + 1) k)
    numbers_now = ap (map volume_number) specs_now
        ∙ (map-append volume_number below (s ∷ specs_from plan.setup (number + 1) k)
        ∙ ap (λ n. map volume_number below ++ n ∷ map volume_number (specs_from plan.setup (number + 1) k)) (volume_is plan.setup number s is))

    named : Contains (volume_numbers plan) number
    named = subst (λ ns. Contains ns number) (sym numbers_now)
        (Contains-append_right (map volume_number below) (number ∷ map volume_number (specs_from plan.setup (number + 1) k)) number (0, omega arith, refl))

    among : Contains (volume_specs plan) s
    among = subst (λ (xs : List VolumeSpec). Contains xs s) (sym specs_now) (Contains-append_right below (s ∷ specs_from plan.setup (number + 1) k) s (0, omega arith, refl))

    handed_below : HandsBelow plan holds (λ n. nat_lt n number) 0 (bare_disks front) swap
    handed_below =
        hands_below plan holds swap swaps blank number (suc k) all 0 below whole_only front given_front (λ n. nat_lt n number) (λ x lt. grind (arith, nat_tests, lt)) (λ x le. grind (arith, nat_tests, le))

    -- the rack failed at a disk of the volume
    unracked_stop : (disks : List DiskSeen) (n : ℕ) (f : OpenFaultSeen) → f.disk ≡ n → f.counts ≡ None → HasRisen old new → HandsUnracked plan holds disks swap n → HasDiskNumbered n s
        → (HaveTold disks swap → All Told (bare_disks front)) → StopCause plan holds old new disks swap (halt.Failed f)
    unracked_stop disks n f at none risen handed has told = inl (
      subst (λ o. MatchOption o (HasRisen old new) (λ counts. IsCountedBy plan disks swap f.disk counts.0 counts.1)) (sym none) risen,
      record {
        handed = subst (λ o. MatchOption o (HandsUnracked plan holds disks swap f.disk) (λ counts. HandsBelow plan holds (λ n. nat_le n f.disk) 0 disks swap)) (sym none)
            (subst (λ (x : ℕ). HandsUnracked plan holds disks swap x) (sym at) handed);
        sized = subst (λ (o : Option (ℕ × ℕ)). IfSome o (λ counts. IfSome (disk_handed plan disks swap f.disk) (λ d. (2 ≤ d.size) × (d.size ≤ 16384)))) (sym none) tt;
        first = λ tells. subst (NoneBreaksBefore plan holds) (sym at) (none_breaks n s is has (told tells));
      },
    )

    bare_stop : (how : OpenStop) → UngivenCause (volume_number s) old new how → StopCause plan holds old new (bare_disks front) swap how
    bare_stop (halt.Failed f) c =
        unracked_stop (bare_disks front) number f (c.0 ∙ volume_is plan.setup number s is) c.1 c.2 (inr (inl (named, handed_below))) (inl (volume_is plan.setup number s is)) (λ tells. tells.each)
    bare_stop halt.Memory c = unasked_stop
    bare_stop (halt.Refused r) c = absurd c

    module _ (d : ℕ × DiskSeen) (given : IsGiven holds s d) where
      abbrev upto_specs : List VolumeSpec
      upto_specs = specs_below plan.setup (number + 1)

      all_now : (number + 1) + k ≡ 8
      all_now = omega (arith, all)

      given_now : AreGiven holds upto_specs (front ++ d ∷ [])
      given_now = subst (λ xs. AreGiven holds xs (front ++ d ∷ [])) (sym (specs_more plan.setup number (Some s) is)) (given_push holds below front s d given_front given)

      whole_now : handed_specs plan (length upto_specs) 0 ≡ upto_specs
      whole_now = append-nil (take (length upto_specs) (volume_specs plan)) ∙ below_front plan (number + 1) k all_now

      upto : (n : ℕ) → n ≡ number → HandsBelow plan holds (λ x. nat_le x n) 0 (bare_disks (front ++ d ∷ [])) swap
      upto n e = hands_below plan holds swap swaps blank (number + 1) k all_now 0 upto_specs whole_now (front ++ d ∷ []) given_now (λ x. nat_le x n)
          (λ x lt. grind (arith, nat_tests, lt, e)) (λ x le. grind (arith, nat_tests, le, e))

      bare_now : bare_disks (front ++ d ∷ []) ≡ bare_disks front ++ d.1 ∷ []
      bare_now = map-append (λ (x : ℕ × DiskSeen). x.1) front (d ∷ [])

      refused : (n rule : ℕ) → n ≡ number → IfSome d.1.content (λ blocks. table_on blocks ≡ Err rule) → HaveTold (bare_disks (front ++ d ∷ [])) swap
          → opened_files plan holds ≡ Err (refusal.Volume n rule)
      refused n rule e breaks told =
          let each = all_last (bare_disks front) d.1 (subst (λ ds. All Told ds) bare_now told.each) in
          let here = mounted_here holds s (specs_from plan.setup (number + 1) k) d.1 rule given.attached each.1 breaks in
          let later = mounted_err holds below (s ∷ specs_from plan.setup (number + 1) k) front tables (refusal.Volume (volume_number s) rule) before each.0 here in
          let whole : mounted_files holds (setup_volumes plan.setup) ≡ Err (refusal.Volume (volume_number s) rule) = ap (mounted_files holds) specs_now ∙ later in
          let name : volume_number s ≡ n = volume_is plan.setup number s is ∙ sym e in
          opened_err plan holds (refusal.Volume n rule) (whole ∙ ap (λ x. Err (refusal.Volume x rule)) name)

      low_below : AreOther number below
      low_below = let le : 0 + number ≤ number = omega arith in low_other number below (low_specs plan.setup number 0 number le)

      lt_eight : (number == 8) ≡ false
      lt_eight = let lt : number < 8 = omega (arith, all) in grind (arith, nat_tests, lt)

      found_now : disk_handed plan (bare_disks (front ++ d ∷ [])) swap number ≡ Some d.1
      found_now =
          ap (λ b. if b then swap else lookup (λ n. n == number) (zip (volume_numbers plan) (bare_disks (front ++ d ∷ [])))) lt_eight
          ∙ (ap (λ ns. lookup (λ n. n == number) (zip ns (bare_disks (front ++ d ∷ [])))) numbers_now
          ∙ (ap (λ ds. lookup (λ n. n == number) (zip (map volume_number below ++ number ∷ map volume_number (specs_from plan.setup (number + 1) k)) ds)) bare_now
          ∙ lookup_given holds below front number d.1 (map volume_number (specs_from plan.setup (number + 1) k)) [] given_front low_below))

      unread_stop : (how : OpenStop) → UnreadCause d how → StopCause plan holds old new (bare_disks (front ++ d ∷ [])) swap how
      unread_stop (halt.Refused (refusal.Volume n rule)) c =
          let e : n ≡ number = c.0 ∙ (given.number ∙ volume_is plan.setup number s is) in
          record {
            told = λ told. refused n rule e c.1 told;
            breaks = inl (record {
              there = subst (λ (m : ℕ). Contains (volume_numbers plan) m) (sym e) named;
              handed = upto n e;
              front = bare_disks front;
              volume = d.1;
              last = bare_now;
              breaks = c.2;
            });
          }
      unread_stop (halt.Failed f) c =
          let e : f.disk ≡ number = c.0.number ∙ (given.number ∙ volume_is plan.setup number s is) in
          let found : disk_handed plan (bare_disks (front ++ d ∷ [])) swap f.disk ≡ Some d.1 = ap (disk_handed plan (bare_disks (front ++ d ∷ [])) swap) e ∙ found_now in
          inl (
            if-counted (HasRisen old new) (λ counts. IsCountedBy plan (bare_disks (front ++ d ∷ [])) swap f.disk counts.0 counts.1)
                f.counts c.0.risen (record { risen = c.0.risen; disk = d.1; back = found; last = c.0.last }),
            record {
              handed = if-counted (HandsUnracked plan holds (bare_disks (front ++ d ∷ [])) swap f.disk) (λ counts. HandsBelow plan holds (λ n. nat_le n f.disk) 0 (bare_disks (front ++ d ∷ [])) swap)
                  f.counts c.0.risen (upto f.disk e);
              sized = if-counted ⊤ (λ counts. IfSome (disk_handed plan (bare_disks (front ++ d ∷ [])) swap f.disk) (λ x. (2 ≤ x.size) × (x.size ≤ 16384))) f.counts c.0.risen
                  (subst (λ (o : Option DiskSeen). IfSome o (λ x. (2 ≤ x.size) × (x.size ≤ 16384))) (sym found) (c.1, c.2));
              first = λ told.
                  let each = all_last (bare_disks front) d.1 (subst (λ ds. All Told ds) bare_now told.each) in
                  none_breaks f.disk s is (inl (volume_is plan.setup number s is ∙ sym e)) each.0;
            },
          )
      unread_stop halt.Memory c = hands_front plan holds swap swaps blank (number + 1) k all_now 0 upto_specs whole_now (front ++ d ∷ []) given_now
      unread_stop (halt.Refused (refusal.Rule n)) c = absurd c

    -- the volume stands for two disks
    module _ (first second : Spec) (mirror : Bool) (joined : s ≡ Joined first second mirror) where
      some-apart : (n : ℕ) → handed_specs plan (length below) n ≡ below ++ take n (Plain first ∷ Plain second ∷ [])
      some-apart n =
          ap (λ (o : Option VolumeSpec). take (length below) (volume_specs plan) ++ take n (disks_apart o)) (below_place plan number k all s is ∙ ap (λ (x : VolumeSpec). Some x) joined)
          ∙ ap (λ (xs : List VolumeSpec). xs ++ take n (Plain first ∷ Plain second ∷ [])) (below_front plan number (suc k) all)

      first_number : spec_number first ≡ number
      first_number = ap volume_number (sym joined) ∙ volume_is plan.setup number s is

      apart_from : (n : ℕ) (disks : List DiskSeen) → HandsBelow plan holds (λ x. nat_lt x number) n disks swap → HandsApart plan holds first second n disks swap
      apart_from n disks handed = record {
        mirror = mirror;
        there = subst (λ (x : VolumeSpec). Contains (volume_specs plan) x) joined among;
        handed = subst (λ (y : ℕ). HandsBelow plan holds (λ x. nat_lt x y) n disks swap) (sym first_number) handed;
      }

      -- the rack failed at the second disk
      module _ (d : ℕ × DiskSeen) (given : IsGiven holds (Plain first) d) where
        first_given : AreGiven holds (below ++ Plain first ∷ []) (front ++ d ∷ [])
        first_given = given_push holds below front (Plain first) d given_front given

        first_handed : HandsBelow plan holds (λ n. nat_lt n number) 1 (bare_disks (front ++ d ∷ [])) swap
        first_handed = hands_below plan holds swap swaps blank number (suc k) all 1 (below ++ Plain first ∷ []) (some-apart 1) (front ++ d ∷ []) first_given (λ n. nat_lt n number)
            (λ x lt. grind (arith, nat_tests, lt)) (λ x le. grind (arith, nat_tests, le))

        first_stop : (how : OpenStop) → UngivenCause (spec_number second) old new how → StopCause plan holds old new (bare_disks (front ++ d ∷ [])) swap how
        first_stop (halt.Failed f) c =
            unracked_stop (bare_disks (front ++ d ∷ [])) (spec_number second) f c.0 c.1 c.2 (inr (inr (first, second, refl, apart_from 1 (bare_disks (front ++ d ∷ [])) first_handed)))
            (inr (subst (λ (x : VolumeSpec). IsSomeAnd (second_spec x) (λ y. spec_number y ≡ spec_number second)) (sym joined) refl))
            (λ tells. (all_last (bare_disks front) d.1 (subst (λ ds. All Told ds) (map-append (λ (x : ℕ × DiskSeen). x.1) front (d ∷ [])) tells.each)).0)
        first_stop halt.Memory c = hands_front plan holds swap swaps blank number (suc k) all 1 (below ++ Plain first ∷ []) (some-apart 1) (front ++ d ∷ []) first_given
        first_stop (halt.Refused r) c = absurd c

      -- the two weren't joined
      module _ (a b : ℕ × DiskSeen) (one : IsGiven holds (Plain first) a) (two : IsGiven holds (Plain second) b) (one_whole : HasBlocks a.1.content a.1.size) (two_whole : HasBlocks b.1.content b.1.size) where
        abbrev both : List (ℕ × DiskSeen)
        both = front ++ a ∷ b ∷ []

        abbrev both_specs : List VolumeSpec
        both_specs = below ++ Plain first ∷ Plain second ∷ []

        both_given : AreGiven holds both_specs both
        both_given =
            let first_in = given_push holds below front (Plain first) a given_front one in
            let second_in = given_push holds (below ++ Plain first ∷ []) (front ++ a ∷ []) (Plain second) b first_in two in
            subst (λ (ds : List (ℕ × DiskSeen)). AreGiven holds both_specs ds) (append_assoc front (a ∷ []) (b ∷ []))
            (subst (λ (xs : List VolumeSpec). AreGiven holds xs ((front ++ a ∷ []) ++ b ∷ [])) (append_assoc below (Plain first ∷ []) (Plain second ∷ [])) second_in)

        both_handed : HandsApart plan holds first second 2 (bare_disks both) swap
        both_handed = apart_from 2 (bare_disks both) (hands_below plan holds swap swaps blank number (suc k) all 2 both_specs (some-apart 2) both both_given (λ n. nat_lt n number)
            (λ x lt. grind (arith, nat_tests, lt)) (λ x le. grind (arith, nat_tests, le)))

        bare_both : bare_disks both ≡ bare_disks front ++ a.1 ∷ b.1 ∷ []
        bare_both = map-append (λ (x : ℕ × DiskSeen). x.1) front (a ∷ b ∷ [])

        -- the rule that the sizes break, where all tell
        sizes_told : (r : Refusal) → option_and_then size_refusal (size_fault (a.0, a.1.size) (b.0, b.1.size)) ≡ Some r → HaveTold (bare_disks both) swap → opened_files plan holds ≡ Err r
        sizes_told r e told =
            let last = all_two (bare_disks front) a.1 b.1 (subst (λ ds. All Told ds) bare_both told.each) in
            let one_held = spec_long first holds a.1 one.attached.0 (spec_tells first holds a.1 one.attached.0 last.1.0) one_whole in
            let two_held = spec_long second holds b.1 two.attached.0 (spec_tells second holds b.1 two.attached.0 last.1.1) two_whole in
            let refused : sizes_refused holds s ≡ Some r =
            ap (sizes_refused holds) joined
            ∙ ap (option_and_then size_refusal)
            (ap (λ (x : ℕ × ℕ). size_fault x (held_size holds second)) (λ i. (sym one.number i, one_held i)) ∙ ap (size_fault (a.0, a.1.size)) (λ i. (sym two.number i, two_held i))) ∙ e in
            let later = mounted_err holds below (s ∷ specs_from plan.setup (number + 1) k) front tables r before last.0 (unfit_here holds s (specs_from plan.setup (number + 1) k) r refused) in
            opened_err plan holds r (ap (mounted_files holds) specs_now ∙ later)

        unfit : (r : Refusal) → option_and_then size_refusal (size_fault (a.0, a.1.size) (b.0, b.1.size)) ≡ Some r → BreaksSizes plan holds (bare_disks both) swap r
        unfit r c = record {
          first = first;
          second = second;
          handed = both_handed;
          front = bare_disks front;
          a = a.1;
          b = b.1;
          last = bare_both;
          breaks = ap (λ (n : ℕ). option_and_then size_refusal (size_fault (n, a.1.size) (spec_number second, b.1.size))) (sym one.number)
              ∙ (ap (λ (n : ℕ). option_and_then size_refusal (size_fault (a.0, a.1.size) (n, b.1.size))) (sym two.number) ∙ c);
        }

        unfit_stop : (how : OpenStop) → UnfitCause a b how → StopCause plan holds old new (bare_disks both) swap how
        unfit_stop halt.Memory c = hands_front plan holds swap swaps blank number (suc k) all 2 both_specs (some-apart 2) both both_given
        unfit_stop (halt.Failed f) c = absurd c
        unfit_stop (halt.Refused (refusal.Volume n rule)) c = record { told = sizes_told (refusal.Volume n rule) c; breaks = inr (unfit (refusal.Volume n rule) c) }
        unfit_stop (halt.Refused (refusal.Rule n)) c = record { told = sizes_told (refusal.Rule n) c; breaks = inr (unfit (refusal.Rule n) c) }

-- What is handed back, and why.
pub stopped : (plan : PlanSeen) (holds : Holds) (old new : ℕ) (swap : Option DiskSeen) (disks : List (ℕ × DiskSeen)) (how : OpenStop)
    → IsSwapFor (amounts_of plan.setup).slots swap → IsSwapAsGiven (amounts_of plan.setup).slots swap
    → Halts plan.setup holds old new disks how → StopCause plan holds old new (bare_disks disks) swap how
stopped plan holds old new swap disks how swaps blank h = at h.cause
  where
    all : h.number + suc (7 - h.number) ≡ 8
    all = let lt = h.below in omega (arith, lt)

    at : HaltsNumber plan.setup h.number holds old new h.front disks how → StopCause plan holds old new (bare_disks disks) swap how
    at (inl m) =
        subst (λ x. StopCause plan holds old new (bare_disks disks) swap x) (sym m.memory)
        (subst (λ ds. StopCause plan holds old new (bare_disks ds) swap halt.Memory) (sym m.same) (unasked_stop plan holds old new swap swaps blank h.number (7 - h.number) all h.front h.tables h.mounted))
    at (inr x) = elim x.2 [
      | inl b ↦
          subst (λ ds. StopCause plan holds old new (bare_disks ds) swap how) (sym b.same)
          (bare_stop plan holds old new swap swaps blank h.number (7 - h.number) all h.front h.tables h.mounted x.0 x.1 how b.cause)
      | inr more ↦ elim more [
        | inl u ↦
            subst (λ ds. StopCause plan holds old new (bare_disks ds) swap how) (sym u.behind)
            (unread_stop plan holds old new swap swaps blank h.number (7 - h.number) all h.front h.tables h.mounted x.0 x.1 u.disk u.given how u.cause)
        | inr rest ↦ elim rest [
          | inl f ↦
              subst (λ ds. StopCause plan holds old new (bare_disks ds) swap how) (sym f.behind)
              (first_stop plan holds old new swap swaps blank h.number (7 - h.number) all h.front h.tables h.mounted x.0 x.1 f.first f.second f.mirror f.joined f.disk f.given how f.cause)
          | inr u ↦
              subst (λ ds. StopCause plan holds old new (bare_disks ds) swap how) (sym u.behind)
              (unfit_stop plan holds old new swap swaps blank h.number (7 - h.number) all h.front h.tables h.mounted x.0 x.1 u.first u.second u.mirror u.joined u.a u.b u.one u.two u.one_whole u.two_whole how u.cause)
        ]
      ]
    ]
