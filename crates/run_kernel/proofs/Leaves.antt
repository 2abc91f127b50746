-- What is left of a kernel whose processes ran.
use Rattle.std.proofs.Common.{◌≡◌, ℕ, Bool, List, length, Option, Some, None, refl, sym, ap, subst, arith}
use Rattle.std.specs.Prelude.{All, MatchOption, option_map}
use Rattle.volume_files.specs.block_device.DiskSeen.{DiskSeen}
use Rattle.vm_core.specs.page_store.Bays.{BaySeen, missing, home}
use Rattle.volume_files.specs.vm_types.declared.call.Entry.{Entry}
use Rattle.volume_files.specs.vm_types.WellFormed.{IsWellFormed}
use Rattle.volume_files.specs.vnode_files.Files.{FilesSeen}
use Rattle.volume_files.specs.flat_model.Counted.{Counted}
use Rattle.volume_files.specs.flat_model.Flat.{Flat}
use Rattle.volume_files.specs.flat_model.Shapes.{RefusesAsDue}
use Rattle.vm_core.specs.kernel_close.Finish.{FitsStill, disks_of}
use Rattle.volume_files.specs.vm_script.PlanSeen.{PlanSeen}
use Rattle.vm_core.specs.vm_world.Opening.{no_seats}
use Rattle.vm_core.specs.vm_world.State.{KernelState}
use Rattle.vm_core.specs.vm_world.StateFits.{StateFits}
use Rattle.run_kernel.specs.Played.{HasPlayed, IsStarted, KernelLeaves, LeftSeen}
use Rattle.volume_files.specs.stored_files.Written.{HaveDisks}
use Rattle.run_kernel.proofs.FileBytesLeft.{stored-left}
use Rattle.run_kernel.proofs.FileRecords.{extents-left, infos-left, legal-left, lie-left, modes-left}
use Rattle.run_kernel.proofs.HeldLeft.{first-left, held-left, places-left}
use Rattle.run_kernel.proofs.Returned.{Closes, counts-left, disks-left, fault-left, have-left, reached-left, swap-count, swap-left}

pub played-still : (plan : PlanSeen) (F : Flat) (disks : List (ℕ × DiskSeen)) (swap : Option DiskSeen) (files : FilesSeen) (s t : KernelState) (whole : Bool) → IsStarted plan F disks swap files s
    → HasPlayed plan s t whole → FitsStill t
played-still plan F disks swap files s t whole st played = (F, no_seats, played.since.fits F st.fits, λ seat. refl)

-- WHAT IS LEFT.
pub is-left : (plan : PlanSeen) (F : Flat) (disks : List (ℕ × DiskSeen)) (swap : Option DiskSeen) (files : FilesSeen) (s t : KernelState) (whole : Bool) (l : LeftSeen)
    → IsStarted plan F disks swap files s → HasPlayed plan s t whole → Closes t l → KernelLeaves F s l
is-left plan F disks swap files s t whole l st played c =
    let since = played.since in
    let before = st.fits in
    let after : StateFits F t no_seats = since.fits F before in
    let have : HaveDisks files (disks_of s.memory.world) = subst (HaveDisks files) (sym st.racked) st.have in
    record {
      legal = legal-left F s t l since before c;
      refusals = subst (RefusesAsDue F) (sym c.entries) (since.follows F st.follows).refusals;
      formed = subst (All (λ (e : Entry). IsWellFormed e.call)) (sym c.entries) played.formed;
      counted = subst Counted (sym c.entries) after.faults.counted;
      few = let most = played.few in let long = ap (λ (H : List Entry). length H) c.entries in omega (arith, most, long);
      reached = reached-left F s t l since before c;
      modes = modes-left F s t l since before c;
      lie = lie-left F s t l since before c;
      have = have-left F s t l since before c files have st.placed;
      extents = extents-left F s t l since before c;
      infos = infos-left F s t l since before c (since.follows F st.follows);
      stored = stored-left F s t l since before c;
      first = λ told. first-left F s t l since before c told;
      held = λ told. held-left F s t l since before c told st.opening;
      places = places-left F s t l since before c;
      fault = fault-left F s t l since before c;
      counts = counts-left F s t l since before c;
      swapped = swap-count F s t l since before c;
      disks = disks-left F s t l since before c files have st.placed;
      swap = swap-left F s t l since before c;
    }

-- a swap disk that came out, as it is seen
pub swap-seen : {D : Type 0} (seen : D → DiskSeen) (o : Option D) (b : BaySeen) → MatchOption o (b ≡ missing) (λ disk. b ≡ home (seen disk))
    → MatchOption (option_map seen o) (b ≡ missing) (λ disk. b ≡ home disk)
swap-seen seen None b is = is
swap-seen seen (Some d) b is = is
