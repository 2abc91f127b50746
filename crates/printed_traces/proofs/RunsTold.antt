-- What a run prints of a trace is one that may be told: its slots, its disks and its top processes, its files and its entries.
use Rattle.std.proofs.Common.{◌≡◌, ℕ, zero, suc, ◌+◌, ◌^◌, ◌<◌, ◌≤◌, ◌==◌, ◌||◌, Bool, true, false, cond, List, [], ◌∷◌, length, map, Option, Some, None, refl, sym, ap, subst, ◌∙◌, arith}
use Rattle.std.specs.Prelude.{All, filter_map, nat_lt, not}
use Rattle.std.specs.List.{cons_option, list_any, range_with_len}
use Rattle.std.specs.Ordering.{nat_cmp}
use Rattle.std.specs.FinMap as finite
use Rattle.std.specs.FinSet as set
use Rattle.std.proofs.lemmas.Bool.{eqb-true}
use Rattle.std.proofs.lemmas.Bool.Decides.{nat_tests}
use Rattle.std.proofs.lemmas.List.{length-map}
use Rattle.volume_files.specs.block_device.DiskSeen.{DiskSeen}
use Rattle.volume_files.specs.block_device.declared.rack.Spec.{Spec}
use Rattle.volume_files.specs.volume_disks.declared.volume_spec.VolumeSpec.{VolumeSpec}
use Rattle.volume_files.specs.flat_model.Flat.{File, IsFile, IsFlat}
use Rattle.volume_files.specs.flat_model.Opening.{flat_at_opening}
use Rattle.volume_files.specs.vm_types.declared.call.Entry.{Entry}
use Rattle.volume_files.specs.vm_types.WellFormed.{IsNumber}
use Rattle.volume_files.specs.vnode_files.Files.{FilesSeen}
use Rattle.volume_files.specs.vm_script.declared.plan.SetupLine.{SetupLine}
use Rattle.volume_files.specs.vm_script.PlanSeen.{PlanSeen}
use Rattle.volume_files.specs.vm_script.Processes.{kernel_parents}
use Rattle.volume_files.specs.vm_script.Rules.{amounts_of, broken_rule, has_wrong_disk, has_wrong_frames, is_from_to, is_wrong_file, lacks_disk}
use Rattle.volume_files.specs.Attached.{AttachedSeen}
use Rattle.volume_files.specs.Opened.{OpenedFile, opened_flat_file, opening_flat, top_processes, volume_number, volume_numbered}
use Rattle.volume_files.specs.stored_files.Written.{disk_sizes}
use Rattle.volume_files.proofs.MountSpecs.{volume_is}
use Rattle.volume_files.proofs.flat_model.Gap.{test_none}
use Rattle.volume_files.proofs.flat_model.Opened.{IsFlat-opening}
use Rattle.volume_files.proofs.flat_model.WellFormed.{Each-All, IsFlat-with_files}
use Rattle.flat_state.proofs.Added.{IsFlat-with_root}
use Rattle.trace_text.specs.TraceForm.{IsTrace, RiseFrom}
use Rattle.printed_traces.specs.Printed.{IsTracedRun, PrintedStands, told_file, told_trace}
use Rattle.printed_traces.proofs.EntriesTold.{CanBeTold, entries-told}
use Rattle.printed_traces.proofs.PrintedLines.{printed_stands}
use Rattle.printed_traces.proofs.FilesTold.{blocks-told, few-files, files-told, flat-files}

-- NUMBERS THAT RISE from a higher number on rise from a lower one on
rise-lower : (low high : ℕ) (xs : List ℕ) → low ≤ high → RiseFrom high xs → RiseFrom low xs
rise-lower low high [] le up = tt
rise-lower low high (x ∷ xs) le up = let a = up.0 in (omega (arith, le, a), up.1, up.2)

-- those of a plan's disks
numbers-rise : (setup : List SetupLine) (a n : ℕ) → a + n ≤ 8 → RiseFrom a (map volume_number (filter_map (volume_numbered setup) (range_with_len a n)))
numbers-rise setup a zero low = tt
numbers-rise setup a (suc n) low = by_option (volume_numbered setup a) refl (numbers-rise setup (a + 1) n (omega (arith, low)))
  where
    by_option : (o : Option VolumeSpec) → volume_numbered setup a ≡ o → RiseFrom (a + 1) (map volume_number (filter_map (volume_numbered setup) (range_with_len (a + 1) n)))
        → RiseFrom a (map volume_number (cons_option o (filter_map (volume_numbered setup) (range_with_len (a + 1) n))))
    by_option None e rest = rise-lower a (a + 1) (map volume_number (filter_map (volume_numbered setup) (range_with_len (a + 1) n))) (omega arith) rest
    by_option (Some s) e rest =
        let same = volume_is setup a s e in
        (omega (arith, same), omega (arith, same, low), subst (λ (k : ℕ). RiseFrom (k + 1) (map volume_number (filter_map (volume_numbered setup) (range_with_len (a + 1) n)))) (sym same) rest)

sizes-numbers : (disks : List (ℕ × DiskSeen)) → map (λ (d : ℕ × ℕ). d.0) (disk_sizes disks) ≡ map (λ (d : ℕ × DiskSeen). d.0) disks
sizes-numbers [] = refl
sizes-numbers (d ∷ disks) = ap (λ (l : List ℕ). d.0 ∷ l) (sizes-numbers disks)

-- those of the top processes
tops-rise : (p : ℕ) (parents : List ℕ) → p + length parents < 2 ^ 32 → RiseFrom p (top_processes p parents)
tops-rise p [] low = tt
tops-rise p (parent ∷ parents) low = by_test (parent == 0) (tops-rise (p + 1) parents (omega (arith, low)))
  where
    by_test : (b : Bool) → RiseFrom (p + 1) (top_processes (p + 1) parents) → RiseFrom p (cond b (p ∷ top_processes (p + 1) parents) (top_processes (p + 1) parents))
    by_test true rest = (omega arith, omega (arith, low), rest)
    by_test false rest = rise-lower p (p + 1) (top_processes (p + 1) parents) (omega arith) rest

-- FLAT MEMORY as it is opened
flat-opening : (slots : ℕ) (disks : finite.FinMap nat_cmp ℕ) (files : List File) (roots : List ℕ) → All IsFile files → IsFlat (flat_at_opening slots disks files roots)
flat-opening slots disks files [] each =
    let flat = IsFlat-with_files (flat_at_opening slots finite.empty [] []) files (IsFlat-opening slots) (Each-All IsFile files each) in
    record { pages = flat.pages; cells = flat.cells; files = flat.files; zeros = flat.zeros; born = flat.born }
flat-opening slots disks files (p ∷ roots) each = IsFlat-with_root (flat_at_opening slots disks files roots) p (flat-opening slots disks files roots each)

listed-number : (roots : List ℕ) (p : ℕ) → RiseFrom 0 roots → list_any (λ (y : ℕ). y == p) roots ≡ true → IsNumber p
listed-number [] p rise is = absurd cc
listed-number (y ∷ roots) p rise is = by_test (y == p) refl (listed-number roots p (rise-lower 0 (y + 1) roots (omega arith) rise.2)) is
  where
    by_test : (b : Bool) → (y == p) ≡ b → (list_any (λ (x : ℕ). x == p) roots ≡ true → IsNumber p) → (b || list_any (λ (x : ℕ). x == p) roots) ≡ true → IsNumber p
    by_test true here later h = subst IsNumber (eqb-true y p here) rise.1
    by_test false apart later h = later h

-- THE SET-UP RULES bound the slots and the processes
record HasFewSlots (plan : PlanSeen) : Type 0 where
  slots : (amounts_of plan.setup).slots ≤ 65536
  processes : length plan.parents ≤ 64

few-slots : (plan : PlanSeen) → broken_rule plan ≡ None → HasFewSlots plan
few-slots plan is =
    let a = test_none (has_wrong_frames plan.setup) 1 _ is in
    let b = test_none (nat_lt 65536 (amounts_of plan.setup).slots) 2 _ a.1 in
    let c = test_none (not (is_from_to 8 65536 (amounts_of plan.setup).translations)) 3 _ b.1 in
    let d = test_none (has_wrong_disk plan.setup) 4 _ c.1 in
    let e = test_none (list_any (λ (l : SetupLine). lacks_disk plan.setup l.act) plan.setup) 5 _ d.1 in
    let f = test_none (list_any (λ (l : SetupLine). is_wrong_file l.act) plan.setup) 6 _ e.1 in
    let g = test_none (nat_lt 64 (length plan.parents)) 7 _ f.1 in
    record { slots = grind (arith, nat_tests); processes = grind (arith, nat_tests) }

-- WHAT IS PRINTED of a run whose processes ran
module _ (plan : PlanSeen) (holds : Spec → Option (List (List ℕ))) (files : List OpenedFile) (a : AttachedSeen) (made : FilesSeen) (H : List Entry) (ran : IsTracedRun plan holds files a made H) where
  abbrev sizes : List (ℕ × ℕ)
  sizes = disk_sizes a.disks

  abbrev tops : List ℕ
  tops = top_processes 1 (kernel_parents plan)

  tops-up : RiseFrom 1 tops
  tops-up = let few = (few-slots plan ran.rules).processes in tops-rise 1 (kernel_parents plan) (omega (arith, few))

  starts : CanBeTold (opening_flat plan sizes files)
  starts =
      let few = few-files plan holds files a made ran.placed in
      let count : length (map opened_flat_file files) ≡ length files = length-map files opened_flat_file in
      record {
        flat = flat-opening (amounts_of plan.setup).slots (finite.from_entries sizes) (map opened_flat_file files) tops (flat-files plan holds files a made ran.placed);
        few = omega (arith, few, count);
        born = λ p yes. listed-number tops p (rise-lower 0 1 tops (omega arith) tops-up) (sym (set.contains-from_list_nat tops p) ∙ yes);
      }

  pub trace-told : IsTrace (told_trace plan sizes files H)
  trace-told =
      let slots = (few-slots plan ran.rules).slots in
      let few = few-files plan holds files a made ran.placed in
      let count : length (map told_file files) ≡ length files = length-map files told_file in
      let entries = ran.few in
      record {
        slots = omega (arith, slots);
        rising = subst (RiseFrom 0) (sym (sizes-numbers a.disks ∙ ran.placed.numbers)) (numbers-rise plan.setup 0 8 (omega arith));
        blocks = blocks-told plan holds files a made ran.placed;
        roots = tops-up;
        files = files-told plan holds files a made ran.placed;
        numbered = omega (arith, few, count);
        entries = entries-told (opening_flat plan sizes files) H starts ran.legal.steps ran.formed ran.counts;
        count = omega (arith, entries);
      }

pub run-stands : PrintedStands
run-stands plan holds files a made H bytes ran are = printed_stands plan (disk_sizes a.disks) files bytes H are (trace-told plan holds files a made H ran)
