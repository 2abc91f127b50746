-- THE DISKS THAT A RUN HANDS BACK: those that its volumes stand for, in rising number. Public clauses cite this.
use Rattle.std.specs.Prelude.{ℕ, ◌≡◌, ◌≤◌, List, ◌∷◌, length, map, slice_get, zip, Option, Some, option_map, IfSome, Ok}
use Rattle.std.specs.List.{flat_map}
use Rattle.std.specs.List.Sorted.{IsPermutation, IsStrictlyIncreasing}
use Rattle.std.specs.Option.{option_to_list}
use Rattle.volume_files.specs.block_device.DiskSeen.{DiskSeen}
use Rattle.volume_files.specs.joined_disk.JoinedSeen.{IsSeenBy}
use Rattle.volume_files.specs.Numbers.{disk_numbers}
use Rattle.volume_files.specs.volume_disks.Singles.{as_single}
use Rattle.run_input.specs.Asked.{Given, Asked, WasAsked}
use Rattle.run_outcome.specs.Ended.{End}
use Rattle.run_outcome.specs.Run.{IsComplete, Outside, PrintsLegalTrace, RunEnds}

-- The disk or the two disks that a volume stands for, as a list.
abbrev pub both_disks : {D : Type 0} → D × Option D → List D
both_disks p = p.0 ∷ option_to_list p.1

-- All that volumes stand for, in the order of the volumes, the second of two right behind the first.
abbrev pub all_disks : {D : Type 0} → List (D × Option D) → List D
all_disks volumes = flat_map both_disks volumes

-- Each volume is seen as the disk that it stands for, or as the two, striped or mirrored. A disk counts as one.
pub record AreSeenBy (disks : List (DiskSeen × Option DiskSeen)) (volumes : List DiskSeen) : Type 0 where
  pub count : length disks ≡ length volumes
  pub each : (i : ℕ) (p : DiskSeen × Option DiskSeen) (v : DiskSeen) → slice_get disks i ≡ Some p → slice_get volumes i ≡ Some v → IsSeenBy (as_single p.0) (option_map as_single p.1) v

-- IN RISING NUMBER: each of the disks has the number at its place, and these are they, in the order in which their numbers rise.
pub record RiseBy (numbers : List ℕ) (disks back : List DiskSeen) : Type 0 where
  pub few : length disks ≤ length numbers
  pub order : List (ℕ × DiskSeen)
  pub same : IsPermutation (zip numbers disks) order
  pub rising : IsStrictlyIncreasing (map (λ (d : ℕ × DiskSeen). d.0) order)
  pub bare : back ≡ map (λ (d : ℕ × DiskSeen). d.1) order

-- THE VOLUMES COME BACK AS THEIR DISKS: the run ended so over its volumes, and its caller gets the disks that they stand for, all of them, in rising number by
-- the plan that was asked for; and the swap disk.
pub record HandsDisks (g : Given) (over back : End) : Type 0 where
  pub status : back.status ≡ over.status
  pub fault : back.fault ≡ over.fault
  pub history : back.history ≡ over.history
  pub disks : List (DiskSeen × Option DiskSeen)
  pub volumes : AreSeenBy disks over.disks
  pub swap : over.swap ≡ option_map as_single back.swap
  pub all : IsPermutation (all_disks disks) back.disks
  pub rising : (what : Asked) → WasAsked g (Ok what) → RiseBy (disk_numbers what.plan.setup) (all_disks disks) back.disks

-- What was given, with the bytes of the source told.
abbrev pub with_text : Given → List ℕ → Given
with_text g text = record g { rest = Some text }

-- A RUN, of some text, which is the source's where that is told: how it ended over its volumes, and how it is handed back.
pub record WasRun (g : Given) (o : Outside) (back : End) : Type 0 where
  pub text : List ℕ
  pub told : IfSome g.rest (λ bytes. bytes ≡ text)
  pub end : End
  -- THE HEADLINE.
  pub ends : RunEnds (with_text g text) o end
  -- Nothing failed: the whole report, or want of memory.
  pub complete : IsComplete (with_text g text) o end
  -- With a trace and status 0, over disks that tell: it is one that a check answers as legal.
  pub traced : PrintsLegalTrace (with_text g text) o end
  -- What comes back: the disks, in rising number.
  pub handed : HandsDisks (with_text g text) end back
