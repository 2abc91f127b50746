-- How far a run has come, on either side of its processes. Inside: no clause of `run` cites this.
use Rattle.std.specs.Prelude.{ℕ, ◌≡◌, ◌+◌, Bool, List, Ok}
use Rattle.volume_files.specs.block_device.RackSeen.{RackSeen}
use Rattle.volume_files.specs.block_device.StreamSeen.{SinkSeen}
use Rattle.volume_files.specs.vnode_files.Files.{FilesSeen}
use Rattle.volume_files.specs.vm_script.PlanSeen.{PlanSeen}
use Rattle.run_input.specs.Asked.{Given, Asked, WasAsked}
use Rattle.volume_files.specs.Attached.{AttachedSeen, bare_disks}
use Rattle.vm_core.specs.vm_world.State.{KernelState}
use Rattle.volume_files.specs.Handed.{AreUncounted, member_count}
use Rattle.volume_files.specs.Opened.{OpenedFile, numbered_plan, opening_flat}
use Rattle.run_kernel.specs.Played.{HasPlayed, IsStarted}
use Rattle.run_input.specs.Reading.{IsPlayable}
use Rattle.volume_files.specs.stored_files.Written.{disk_sizes}
use Rattle.run_opening.specs.Ready.{IsReady}

-- A RUN BEGAN, over a rack and a sink that were r0 and k0 and then r1 and k1: it is ready, of whatever words and source it came, and its kernel was started; no
-- fault was counted, and each disk that was attached is there.
pub record RunBegan (r0 r1 : RackSeen) (k0 k1 : SinkSeen) (what : Asked) (files : List OpenedFile) (bytes : ℕ → List ℕ) (a : AttachedSeen) (made : FilesSeen) (plan : PlanSeen) (s : KernelState) : Type 0 where
  pub ready : (g : Given) → g.holds ≡ r0.holds → WasAsked g (Ok what) → IsReady g k0 k1 what files bytes a made plan
  pub started : IsStarted plan (opening_flat plan (disk_sizes a.disks) files) a.disks a.swap made s
  pub numbered : plan ≡ numbered_plan files what.plan
  pub playable : IsPlayable plan
  pub uncounted : AreUncounted (bare_disks a.disks) a.swap
  pub attached : r1.attached ≡ r0.attached + member_count (bare_disks a.disks) a.swap
  pub rack : r1.faults ≡ r0.faults
  pub sink : k1.faults ≡ k0.faults

-- A run began, and its processes ran from one state of the kernel to another; whether it ran
-- through is told.
pub record RunPlayed (r0 r1 : RackSeen) (k0 k1 : SinkSeen) (what : Asked) (files : List OpenedFile) (bytes : ℕ → List ℕ) (a : AttachedSeen) (made : FilesSeen) (plan : PlanSeen) (s t : KernelState) (whole : Bool) : Type 0 where
  pub begun : RunBegan r0 r1 k0 k1 what files bytes a made plan s
  pub played : HasPlayed plan s t whole
