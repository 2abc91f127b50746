-- A run that stops as its files are placed: what is handed back, and the cause.
use Rattle.std.specs.Prelude.{All, ℕ, zero, suc, ◌≡◌, ◌<◌, ◌≤◌, ◌==◌, Bool, List, [], ◌∷◌, length, drop, map, zip, slice_index_or, Option, Some, None}
use Rattle.std.specs.Prelude.{option_map, IfSome, Ok, Err, Result, if◌then◌else◌}
use Rattle.std.specs.Map.{lookup}
use Rattle.std.proofs.Common.{append-nil, ap, ◌∙◌, sym, subst, refl, arith, inl, inr, take}
use Rattle.std.proofs.lemmas.Bool.{ne_eqb}
use Rattle.std.proofs.Common.{Vec}
use Rattle.std.specs.Vec.{with_items}
use Rattle.std.proofs.lemmas.List.{length-map, take_all, get_or-map, with_items_is}
use Rattle.block_device.specs.DiskSeen.{DiskSeen}
use Rattle.block_device.specs.OpenSeen.{OpenFaultSeen}
use Rattle.block_device.specs.declared.numbered.NumberedDisk.{NumberedDisk}
use Rattle.block_device.specs.declared.rack.Spec.{Spec}
use Rattle.volume_disks.specs.declared.volume_spec.VolumeSpec.{VolumeSpec}
use Rattle.volume_format.specs.Table.{TableSeen}
use Rattle.vm_report.specs.vm_script.PlanSeen.{PlanSeen}
use Rattle.vm_report.specs.vm_script.Rules.{amounts_of}
use Rattle.volume_files.specs.declared.stops.OpenStop.{OpenStop}
use Rattle.volume_files.specs.declared.stops.Refusal.{Refusal}
use Rattle.volume_files.specs.declared.stops.Refusal.TheVariants as refusal
use Rattle.volume_files.specs.declared.stops.HandedBack.{HandedBack}
use Rattle.volume_files.specs.declared.table_files.PlaceStop.{PlaceStop}
use Rattle.volume_files.specs.declared.table_files.PlaceStop.TheVariants as stop
use Rattle.volume_files.specs.Attached.{AreMounted, StopCause, StopsEarly, bare_disks}
use Rattle.stored_files.specs.Written.{numbered_seen}
use Rattle.volume_files.specs.Handed.{SpareBlock, AreAsGiven, AreUntouched, HandsAll, HandsFront, HasDiskCause, IsCountedBy, IsSwapAsGiven, IsSwapFor}
use Rattle.volume_files.specs.Handed.{disk_handed, handed_specs, sizes_of, volume_numbers}
use Rattle.volume_files.specs.Opened.{ComesTo, OpenedFile, setup_volumes, volume_specs}
use Rattle.volume_files.specs.Placing.{IsFaultThere, PlaceStopped, RemainThere, attached_numbers, open_stop_of, found_files, placing_read}
use Rattle.stored_files.specs.Written.{disk_sizes}
use Rattle.volume_files.proofs.AllPlaced.{hands-all}
use Rattle.volume_files.proofs.FoundLemmas.{AllBlocks}
use Rattle.volume_files.proofs.HandLemmas.{SameDisks, lookup-at, mounted-numbers, plan-numbers, same-disks, same-numbers}
use Rattle.volume_files.proofs.PlacedLemmas.{at_index, numbers-seen}
use Rattle.volume_files.proofs.SparedBlocks.{each-written}
use Rattle.volume_files.proofs.ToldDisks.{opened-told, told-before}
use Rattle.volume_files.proofs.GivenFiles.{as-given, comes-sizes, comes-to, sizes-handed}
use Rattle.volume_files.proofs.FaultCauses.{if-counted}
use Rattle.volume_files.proofs.MountDisks.{Told, given_length, given_of_mounted}

-- what was handed back of all disks is a front of them
pub front_swap : (slots : ℕ) (swap : Option DiskSeen) → IsSwapFor slots swap → IfSome swap (λ d. (0 < slots) × (d.size ≡ slots) × (d.kind.members ≡ 1))
front_swap slots None serves = tt
front_swap slots (Some d) serves = serves

-- all volumes are those that are handed back
pub all-handed : (plan : PlanSeen) → handed_specs plan (length (volume_specs plan)) 0 ≡ volume_specs plan
all-handed plan = append-nil (take (length (volume_specs plan)) (volume_specs plan)) ∙ take_all (length (volume_specs plan)) (volume_specs plan) (omega arith)

pub hands-front : (plan : PlanSeen) (holds : Spec → Option (List (List ℕ))) (disks : List DiskSeen) (swap : Option DiskSeen) → HandsAll plan disks swap
    → AreUntouched plan holds (length (volume_specs plan)) 0 disks swap → HandsFront plan holds disks swap
hands-front plan holds disks swap all same = record {
  whole = length (volume_specs plan);
  apart = 0;
  same = same;
  first = front_swap (amounts_of plan.setup).slots swap all.first;
  before = λ some. all.first;
}

-- the disk of a fault
bare_disks-at : {D : Type 0} (seen : D → DiskSeen) (new : List (NumberedDisk D)) (i : ℕ) (x : NumberedDisk D) → i < length new
    → slice_index_or (bare_disks (map (numbered_seen seen) new)) i (seen x.disk) ≡ seen (slice_index_or new i x).disk
bare_disks-at seen [] i x below = absurd (omega (arith, below))
bare_disks-at seen (d ∷ new) zero x below = refl
bare_disks-at seen (d ∷ new) (suc i) x below = bare_disks-at seen new i x (omega (arith, below))

nth : {A : Type 0} (xs : List A) (i : ℕ) → i < length xs → A
nth [] i below = absurd (omega (arith, below))
nth (x ∷ xs) i below = x

fault-cause : {D : Type 0} (seen : D → DiskSeen) (plan : PlanSeen) (new : List (NumberedDisk D)) (swap : Option DiskSeen) (fault : OpenFaultSeen)
    → attached_numbers new ≡ volume_numbers plan → IsFaultThere seen new fault → HasDiskCause plan (bare_disks (map (numbered_seen seen) new)) swap fault
fault-cause seen plan new swap fault numbers there =
    let x = nth new there.i there.inside in
    let one = there.one x in
    let disks = bare_disks (map (numbered_seen seen) new) in
    let d = slice_index_or new there.i x in
    let inside : there.i < length (volume_numbers plan) = omega (arith, there.inside, ap length numbers, length-map new (λ (y : NumberedDisk _). y.number)) in
    let number : slice_index_or (volume_numbers plan) there.i 0 ≡ d.number =
    ap (λ (ns : List ℕ). slice_index_or ns there.i 0) (sym numbers) ∙ get_or-map (λ (y : NumberedDisk _). y.number) new there.i x 0 there.inside in
    let fault_number : fault.disk ≡ slice_index_or (volume_numbers plan) there.i 0 = one.number ∙ sym number in
    let small : slice_index_or (volume_numbers plan) there.i 0 < 8 = (at_index (λ m. (0 ≤ m) × (m < 8)) (volume_numbers plan) there.i 0 (plan-numbers plan).0 inside).1 in
    let long : length disks ≡ length (volume_numbers plan) =
    omega (arith, length-map (map (numbered_seen seen) new) (λ (q : ℕ × DiskSeen). q.1), length-map new (numbered_seen seen), length-map new (λ (y : NumberedDisk _). y.number), ap length numbers) in
    let found : lookup (λ m. m == fault.disk) (zip (volume_numbers plan) disks) ≡ Some (seen d.disk) =
    ap (λ n. lookup (λ m. m == n) (zip (volume_numbers plan) disks)) fault_number
    ∙ lookup-at (volume_numbers plan) disks there.i (seen x.disk) (plan-numbers plan).1 long inside ∙ ap (λ (q : DiskSeen). Some q) (bare_disks-at seen new there.i x there.inside) in
    let back : disk_handed plan disks swap fault.disk ≡ Some (seen d.disk) =
    ap (λ (t : Bool). if t then swap else lookup (λ m. m == fault.disk) (zip (volume_numbers plan) disks)) (ne_eqb fault.disk 8 (λ e. omega (arith, e, fault_number, small))) ∙ found in
    if-counted ⊥ (λ (counts : ℕ × ℕ). IsCountedBy plan disks swap fault.disk counts.0 counts.1) fault.counts one.risen
    (record { risen = one.risen; disk = seen d.disk; back = back; last = one.last })

-- disks that were mounted are as the rack gave them
mounted-given : (plan : PlanSeen) (holds : Spec → Option (List (List ℕ))) (disks : List (ℕ × DiskSeen)) (ts : List TableSeen) (swap : Option DiskSeen)
    → AreMounted holds (setup_volumes plan.setup) disks ts
    → IsSwapAsGiven (amounts_of plan.setup).slots swap → AreUntouched plan holds (length (volume_specs plan)) 0 (bare_disks disks) swap
mounted-given plan holds disks ts swap m blank =
    let given = given_of_mounted holds (setup_volumes plan.setup) disks ts m in
    record {
      count = given_length holds (setup_volumes plan.setup) disks given ∙ ap (λ (xs : List VolumeSpec). length xs) (sym (all-handed plan));
      each = subst (λ (ss : List VolumeSpec). AreAsGiven holds ss (bare_disks disks)) (sym (all-handed plan)) (as-given holds (setup_volumes plan.setup) disks given);
      last = blank;
    }

-- A STOP AS FILES ARE PLACED
module _ {D : Type 0} (seen : D → DiskSeen) (plan : PlanSeen) (holds : Spec → Option (List (List ℕ))) (old new : List (NumberedDisk D)) (ts : List TableSeen) (swap : Option DiskSeen) (count : ℕ)
    (blocks : AllBlocks (map (numbered_seen seen) old)) (m : AreMounted holds (setup_volumes plan.setup) (map (numbered_seen seen) old) ts) (serves : IsSwapFor (amounts_of plan.setup).slots swap)
    (blank : IsSwapAsGiven (amounts_of plan.setup).slots swap) (remain : RemainThere seen old new) where
  same : SameDisks seen old new
  same = same-disks seen old new remain

  numbers : attached_numbers new ≡ volume_numbers plan
  numbers = same-numbers seen old new same ∙ sym (numbers-seen seen old) ∙ mounted-numbers holds (setup_volumes plan.setup) (map (numbered_seen seen) old) ts m

  all : HandsAll plan (bare_disks (map (numbered_seen seen) new)) swap
  all = hands-all seen plan holds old new ts swap m serves remain

  abbrev comes : (r : Result (List OpenedFile) Refusal) → placing_read seen old ts plan.setup ≡ r → ComesTo plan holds (sizes_of plan (bare_disks (map (numbered_seen seen) new))) r
  comes r read =
      let es = map (numbered_seen seen) new in
      comes-sizes plan holds (disk_sizes es) (sizes_of plan (bare_disks es)) r (sizes-handed plan es (numbers-seen seen new ∙ numbers)) (comes-to seen plan holds old new ts r m same read)

  untouched : new ≡ old → AreUntouched plan holds (length (volume_specs plan)) 0 (bare_disks (map (numbered_seen seen) new)) swap
  untouched is =
      subst (λ (ds : List (NumberedDisk D)). AreUntouched plan holds (length (volume_specs plan)) 0 (bare_disks (map (numbered_seen seen) ds)) swap) (sym is) (mounted-given plan holds (map (numbered_seen seen) old) ts swap m blank)

  pub stop-early : (how : PlaceStop) → PlaceStopped seen (length (found_files (map (numbered_seen seen) old) ts)) (placing_read seen old ts plan.setup) old new how
      → StopCause plan holds count count (bare_disks (map (numbered_seen seen) new)) swap (open_stop_of how)
  stop-early stop.Memory stopped = hands-front plan holds (bare_disks (map (numbered_seen seen) new)) swap all (untouched stopped)
  stop-early (stop.Rule n) stopped = record {
    told = λ told. opened-told seen plan holds old ts (Err (refusal.Rule n)) blocks m stopped.0
        (subst (λ (ds : List (NumberedDisk D)). All Told (bare_disks (map (numbered_seen seen) ds))) stopped.1 told.each);
    breaks = inl (record { handed = all; same = untouched stopped.1; comes = comes (Err (refusal.Rule n)) stopped.0 });
  }
  stop-early (stop.Fault f) stopped = inr (record {
    cause = fault-cause seen plan new swap f numbers stopped.0;
    files = stopped.1.0;
    handed = all;
    given = comes (Ok stopped.1.0) stopped.1.1;
    written = record {
      each = each-written seen (SpareBlock (drop (length (found_files (map (numbered_seen seen) old) ts)) stopped.1.0)) holds (setup_volumes plan.setup) old new ts m stopped.1.2;
      last = blank;
    };
    opened = λ told. opened-told seen plan holds old ts (Ok stopped.1.0) blocks m stopped.1.1 (told-before seen old new same told.each);
  })

bare_disks-seen : {D : Type 0} (seen : D → DiskSeen) (ds : List (NumberedDisk D)) → bare_disks (map (numbered_seen seen) ds) ≡ map seen (map (λ (d : NumberedDisk D). d.disk) ds)
bare_disks-seen seen [] = refl
bare_disks-seen seen (d ∷ ds) = λ i. seen d.disk ∷ bare_disks-seen seen ds i

swap-seen : {D : Type 0} (seen : D → DiskSeen) (swap : Option (NumberedDisk D))
    → option_map (λ (d : NumberedDisk D). seen d.disk) swap ≡ option_map seen (option_map (λ (d : NumberedDisk D). d.disk) swap)
swap-seen seen None = refl
swap-seen seen (Some d) = refl

-- the run that stops so
pub stops-early : {D : Type 0} (seen : D → DiskSeen) (plan : PlanSeen) (holds : Spec → Option (List (List ℕ))) (old new : List (NumberedDisk D))
    (ts : List TableSeen) (swap : Option (NumberedDisk D)) (count : ℕ)
    (how : PlaceStop) (s : HandedBack D) → s.why ≡ open_stop_of how
    → s.disks.items ≡ map (λ (d : NumberedDisk D). d.disk) new → s.swap ≡ option_map (λ (d : NumberedDisk D). d.disk) swap
    → AllBlocks (map (numbered_seen seen) old) → AreMounted holds (setup_volumes plan.setup) (map (numbered_seen seen) old) ts
    → IsSwapFor (amounts_of plan.setup).slots (option_map (λ (d : NumberedDisk D). seen d.disk) swap)
    → IsSwapAsGiven (amounts_of plan.setup).slots (option_map (λ (d : NumberedDisk D). seen d.disk) swap)
    → RemainThere seen old new → PlaceStopped seen (length (found_files (map (numbered_seen seen) old) ts)) (placing_read seen old ts plan.setup) old new how → StopsEarly plan holds count count seen s
stops-early {D} seen plan holds old new ts swap count how s ends disks swaps blocks m serves blank remain stopped =
    let r = stop-early seen plan holds old new ts (option_map (λ (d : NumberedDisk D). seen d.disk) swap) count blocks m serves blank remain how stopped in
    let same_disks : bare_disks (map (numbered_seen seen) new) ≡ map seen s.disks.items = bare_disks-seen seen new ∙ ap (map seen) (sym disks) in
    let same_swap : option_map (λ (d : NumberedDisk D). seen d.disk) swap ≡ option_map seen s.swap = swap-seen seen swap ∙ ap (option_map seen) (sym swaps) in
    subst (λ (e : OpenStop). StopCause plan holds count count (map seen s.disks.items) (option_map seen s.swap) e) (sym ends)
    (subst (λ (ds : List DiskSeen). StopCause plan holds count count ds (option_map seen s.swap) (open_stop_of how)) same_disks
    (subst (λ (o : Option DiskSeen). StopCause plan holds count count (bare_disks (map (numbered_seen seen) new)) o (open_stop_of how)) same_swap r))

-- the elements of a vector that was written through
pub items-written : {X Z : Type 0} (v : Vec X Z) (ws : List X) → length ws ≡ length v.items → (with_items v ws).items ≡ ws
items-written v ws count = with_items_is v ws (count ∙ sym v.ok.0)
