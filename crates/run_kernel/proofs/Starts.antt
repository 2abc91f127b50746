-- What a kernel may be started with, once the files were placed, and what it is then.
use Rattle.volume_files.proofs.Unfailing.{swap-handed as swap-is}
use Rattle.std.proofs.Common.{◌≡◌, ℕ, suc, ◌+◌, ◌<◌, ◌≤◌, ◌==◌, Bool, cond, List, [], ◌∷◌, length, map, Option, Some, None, refl, sym, ap, ◌∙◌, subst, arith}
use Rattle.std.specs.Prelude.{slice_index_or, option_map, is_some}
use Rattle.std.proofs.lemmas.Bool.{ne_eqb}
use Rattle.std.proofs.lemmas.List.{length-map}
use Rattle.volume_files.specs.block_device.DiskSeen.{DiskSeen}
use Rattle.volume_files.specs.block_device.declared.numbered.NumberedDisk.{NumberedDisk}
use Rattle.volume_files.specs.block_device.declared.rack.Spec.{Spec}
use Rattle.vm_core.specs.page_store.Bays.{BaySeen, home, bay_at, disk_in, disks_in, AreNumbers, numbers_of, pairs_seen}
use Rattle.vm_core.specs.page_store.New.{AreHome}
use Rattle.vm_core.specs.page_store.Notes.{no_notes}
use Rattle.volume_files.specs.vnode_files.Files.{FilesSeen}
use Rattle.vm_core.specs.Setup.{disk_total, SwapServes}
use Rattle.volume_files.specs.vm_script.PlanSeen.{PlanSeen}
use Rattle.volume_files.specs.vm_script.Rules.{amounts_of, broken_rule}
use Rattle.vm_core.specs.vm_world.FlatMemory.{flat_memory}
use Rattle.vm_core.specs.vm_world.Opening.{IsOpening, no_seats}
use Rattle.vm_core.specs.vm_world.State.{KernelState}
use Rattle.vm_core.specs.vm_world.StateFits.{StateFits}
use Rattle.volume_files.specs.declared.attaching.Attached.{Attached}
use Rattle.run_outcome.specs.declared.stop.Stop.{Stop}
use Rattle.volume_files.specs.Attached.{AttachedSeen, ArePlaced, attached_seen, bare_disks}
use Rattle.volume_files.specs.stored_files.Written.{numbered_seen, LieWell, HaveDisks}
use Rattle.volume_files.specs.Handed.{IsSwapFor}
use Rattle.volume_files.specs.Opened.{OpenedFile, opening_flat, setup_volumes, volume_number}
use Rattle.run_kernel.specs.Played.{IsStarted, HasRoomForPlan}
use Rattle.run_kernel.proofs.StartRules.{right-amounts, few-disks, disk-numbers}
use Rattle.run_kernel.proofs.StartedFlat.{IsStartedWith, started-fits, started-follows}

-- disks with their numbers
abbrev pub with_number : {D : Type 0} → NumberedDisk D → ℕ × D
with_number d = (d.number, d.disk)

pub pairs-are : {D : Type 0} (seen : D → DiskSeen) (disks : List (NumberedDisk D)) → pairs_seen seen (map with_number disks) ≡ map (numbered_seen seen) disks
pairs-are seen [] = refl
pairs-are seen (d ∷ disks) = ap (λ (l : List (ℕ × DiskSeen)). numbered_seen seen d ∷ l) (pairs-are seen disks)

pub numbers-are : {D : Type 0} (seen : D → DiskSeen) (disks : List (NumberedDisk D)) → numbers_of (map with_number disks) ≡ map (λ (d : ℕ × DiskSeen). d.0) (map (numbered_seen seen) disks)
numbers-are seen [] = refl
numbers-are seen (d ∷ disks) = ap (λ (l : List ℕ). d.number ∷ l) (numbers-are seen disks)

pub bare_disks-are : {D : Type 0} (seen : D → DiskSeen) (disks : List (NumberedDisk D)) → map seen (map (λ (d : ℕ × D). d.1) (map with_number disks)) ≡ bare_disks (map (numbered_seen seen) disks)
bare_disks-are seen [] = refl
bare_disks-are seen (d ∷ disks) = ap (λ (l : List DiskSeen). seen d.disk ∷ l) (bare_disks-are seen disks)

pub total-is : {D : Type 0} (seen : D → DiskSeen) (disks : List (NumberedDisk D)) (swap : Option (NumberedDisk D))
    → disk_total (map with_number disks) (option_map (λ (d : NumberedDisk D). d.disk) swap)
    ≡ length (map (numbered_seen seen) disks) + cond (is_some (option_map (λ (d : NumberedDisk D). seen d.disk) swap)) 1 0
total-is seen disks None = ap (λ (n : ℕ). n + 0) (length-map disks with_number ∙ sym (length-map disks (numbered_seen seen)))
total-is seen disks (Some d) = ap (λ (n : ℕ). n + 1) (length-map disks with_number ∙ sym (length-map disks (numbered_seen seen)))

-- What a start that lacked memory hands back.
module _ {D : Type 0} (seen : D → DiskSeen) (plan : PlanSeen) (told : Spec → Option (List (List ℕ))) (files : List OpenedFile) (attached : Attached D)
    (made : FilesSeen) (p : ArePlaced plan told files (attached_seen seen attached) made)
    (s : Stop D) (pairs : List (ℕ × D)) (are : pairs ≡ map with_number attached.disks.items) (disks : s.disks.items ≡ map (λ (d : ℕ × D). d.1) pairs)
    (swap : s.swap ≡ option_map (λ (d : NumberedDisk D). d.disk) attached.swap) where
  pub its-disks : map seen s.disks.items ≡ bare_disks (map (numbered_seen seen) attached.disks.items)
  its-disks = ap (map seen) (disks ∙ ap (map (λ (d : ℕ × D). d.1)) are) ∙ bare_disks-are seen attached.disks.items

  pub its-swap : option_map seen s.swap ≡ option_map (λ (d : NumberedDisk D). seen d.disk) attached.swap
  its-swap = ap (option_map seen) swap ∙ swap-is seen attached.swap

-- WHAT A KERNEL MAY BE STARTED WITH
module _ (plan : PlanSeen) (holds : Spec → Option (List (List ℕ))) (files : List OpenedFile) (a : AttachedSeen) (made : FilesSeen) (p : ArePlaced plan holds files a made) where
  pub swap-serves : SwapServes (amounts_of plan.setup).slots a.swap
  swap-serves = by_swap a.swap p.handed.first
    where
      by_swap : (o : Option DiskSeen) → IsSwapFor (amounts_of plan.setup).slots o → SwapServes (amounts_of plan.setup).slots o
      by_swap None none = none
      by_swap (Some d) has = let size = has.1 in (has.0, omega (arith, size))

  pub frames-enough : broken_rule plan ≡ None → length a.disks + cond (is_some a.swap) 1 0 + 4 ≤ (amounts_of plan.setup).frames
  frames-enough rules =
      let right = right-amounts plan rules in
      let enough = right.frames in
      let few = few-disks plan.setup in
      let count : length a.disks ≡ length (setup_volumes plan.setup) = sym (length-map a.disks (λ (d : ℕ × DiskSeen). d.0)) ∙ ap length p.numbers ∙ length-map (setup_volumes plan.setup) volume_number in
      let swap = by_swap a.swap p.handed.first in
      omega (arith, enough, few, count, swap)
    where
      by_swap : (o : Option DiskSeen) → IsSwapFor (amounts_of plan.setup).slots o → cond (is_some o) 1 0 ≤ cond ((amounts_of plan.setup).slots == 0) 0 1
      by_swap None none = omega arith
      by_swap (Some d) has = let one : ◌≡◌ {A = ℕ} 1 (cond ((amounts_of plan.setup).slots == 0) 0 1) = ap (λ (b : Bool). cond b 0 1)
          (sym (ne_eqb (amounts_of plan.setup).slots 0 (λ e. let low = has.0 in absurd (omega (arith, e, low))))) in omega (arith, one)

  pub are-numbers : AreNumbers (map (λ (d : ℕ × DiskSeen). d.0) a.disks)
  are-numbers = subst AreNumbers (sym p.numbers) (disk-numbers plan.setup)

  -- THE KERNEL
  pub started : (s : KernelState) → IsOpening s → StateFits (flat_memory s.memory s.born no_notes) s no_seats → AreHome s.memory.world.store.bays a.disks a.swap
      → s.memory.world.store.order ≡ map (λ (d : ℕ × DiskSeen). d.0) a.disks → s.memory.world.files ≡ made → s.parents ≡ plan.parents
      → HasRoomForPlan plan s.entries → length s.entries ≡ length plan.parents
      → length plan.parents ≤ 64 → length s.syncs ≡ length plan.parents + 1 → length s.memory.world.store.frames ≡ (amounts_of plan.setup).frames
      → length s.memory.world.hat.places ≡ (amounts_of plan.setup).translations → length s.memory.world.anon.counts ≡ (amounts_of plan.setup).slots
      → IsStarted plan (opening_flat plan (map (λ (d : ℕ × DiskSeen). (d.0, d.1.size)) a.disks) files) a.disks a.swap made s
  started s opening fits at_home order is parents rooms count few seats frames translations slots =
      let with' : IsStartedWith files a.disks a.swap s = record {
        opening = opening;
        fresh = ap (λ (f : FilesSeen). f.files) is ∙ p.fresh;
        home = at_home;
        well = subst LieWell (sym is) p.well;
        have = subst (λ (f : FilesSeen). HaveDisks f a.disks) (sym is) p.have;
        stored = p.stored;
      } in
      record {
        opening = opening;
        fits = started-fits files a.disks a.swap s with' plan (map (λ (d : ℕ × DiskSeen). (d.0, d.1.size)) a.disks) parents slots (ap (λ (f : FilesSeen). f.disks) is ∙ p.sizes) fits;
        follows = started-follows files a.disks a.swap s with' plan (map (λ (d : ℕ × DiskSeen). (d.0, d.1.size)) a.disks) parents slots (ap (λ (f : FilesSeen). f.disks) is ∙ p.sizes);
        parents = parents;
        rooms = rooms;
        blocks = few;
        count = count;
        seats = seats;
        racked = ap (disks_in s.memory.world.store.bays) order ∙ racked a.disks at_home.each;
        swapped = at_home.swap;
        placed = is;
        frames = frames;
        translations = translations;
        slots = slots;
        well = p.well;
        have = p.have;
      }
    where
      racked : (ds : List (ℕ × DiskSeen)) → ((i : ℕ) (d : ℕ × DiskSeen) → i < length ds → bay_at s.memory.world.store.bays (slice_index_or ds i d).0 ≡ home (slice_index_or ds i d).1)
          → disks_in s.memory.world.store.bays (map (λ (d : ℕ × DiskSeen). d.0) ds) ≡ ds
      racked [] each = refl
      racked (d ∷ ds) each =
          ap (λ (b : BaySeen). (d.0, disk_in b) ∷ disks_in s.memory.world.store.bays (map (λ (x : ℕ × DiskSeen). x.0) ds)) (each 0 d (omega arith))
          ∙ ap (λ (l : List (ℕ × DiskSeen)). d ∷ l) (racked ds (λ i x lt. each (suc i) x (omega (arith, lt))))
