-- A run that stops as its disks are attached.
use Rattle.std.proofs.Common.{◌≡◌, ℕ, ◌<◌, ◌≤◌, arith, inl, List, [], ◌∷◌, map, Option, Some, None, refl, sym, ap, ◌∙◌, subst, inr}
use Rattle.std.specs.Prelude.{IfErr, IfSome, MatchOption, nat_le, option_map, Result, Ok, Err}
use Rattle.block_device.specs.Counts.{HasRisen}
use Rattle.block_device.specs.DiskSeen.{DiskSeen}
use Rattle.block_device.specs.RackSeen.{spec_number}
use Rattle.block_device.specs.declared.numbered.NumberedDisk.{NumberedDisk}
use Rattle.vm_report.specs.vm_script.declared.plan.SetupLine.{SetupLine}
use Rattle.vm_report.specs.vm_script.PlanSeen.{PlanSeen}
use Rattle.vm_report.specs.vm_script.Rules.{amounts_of}
use Rattle.volume_files.specs.declared.stops.OpenStop.{OpenStop}
use Rattle.volume_files.specs.declared.stops.OpenStop.TheVariants as halt
use Rattle.volume_files.specs.declared.stops.HandedBack.{HandedBack}
use Rattle.volume_files.specs.Attached.{StopCause, StopsEarly, bare_disks}
use Rattle.stored_files.specs.Written.{numbered_seen}
use Rattle.volume_files.specs.Handed.{AreUntouched, HandsBelow, HandsUnracked, IsCountedBy, IsSwapAsGiven, IsSwapFor, disk_handed}
use Rattle.volume_files.specs.Mounting.{Holds, HaltsNumber, Halts, UngivenCause}
use Rattle.volume_files.specs.Opened.{volume_number}
use Rattle.volume_files.proofs.MountStops.{ungiven_later, stopped}

halts_later : (setup : List SetupLine) (holds : Holds) (old mid new : ℕ) (disks : List (ℕ × DiskSeen)) (how : OpenStop) → old ≤ mid
    → Halts setup holds mid new disks how → Halts setup holds old new disks how
halts_later setup holds old mid new disks how le h =
    record { number = h.number; below = h.below; front = h.front; tables = h.tables; mounted = h.mounted; cause = at h.cause }
  where
    at : HaltsNumber setup h.number holds mid new h.front disks how → HaltsNumber setup h.number holds old new h.front disks how
    at (inl m) = inl m
    at (inr x) = inr (
      x.0,
      x.1,
      elim x.2 [
        | inl b ↦ inl (record { same = b.same; cause = ungiven_later (volume_number x.0) old mid new how le b.cause })
        | inr more ↦ elim more [
          | inl u ↦ inr (inl u)
          | inr rest ↦ elim rest [
            | inl f ↦ inr (inr (inl (record {
              first = f.first;
              second = f.second;
              mirror = f.mirror;
              joined = f.joined;
              disk = f.disk;
              given = f.given;
              behind = f.behind;
              cause = ungiven_later (spec_number f.second) old mid new how le f.cause;
            })))
            | inr u ↦ inr (inr (inr u))
          ]
        ]
      ],
    )

pub stopped_later : (plan : PlanSeen) (holds : Holds) (old mid new : ℕ) (swap : Option DiskSeen) (disks : List (ℕ × DiskSeen)) (how : OpenStop) → old ≤ mid
    → IsSwapFor (amounts_of plan.setup).slots swap → IsSwapAsGiven (amounts_of plan.setup).slots swap
    → Halts plan.setup holds mid new disks how → StopCause plan holds old new (bare_disks disks) swap how
stopped_later plan holds old mid new swap disks how le swaps blank h = stopped plan holds old new swap disks how swaps blank (halts_later plan.setup holds old mid new disks how le h)

-- Nothing was attached, not even the swap disk.
no_disks : (plan : PlanSeen) (holds : Holds) → AreUntouched plan holds 0 0 [] None
no_disks plan holds = record { count = refl; each = λ i s d si di. absurd (let z : ◌≡◌ {A = Option DiskSeen} None (Some d) = di in cc); last = tt }

pub swap_stopped : (plan : PlanSeen) (holds : Holds) (old new : ℕ) (how : OpenStop) → 0 < (amounts_of plan.setup).slots → UngivenCause 8 old new how → StopCause plan holds old new [] None how
swap_stopped plan holds old new (halt.Failed f) some c = inl (
  subst (λ (o : Option (ℕ × ℕ)). MatchOption o (HasRisen old new) (λ counts. IsCountedBy plan [] None f.disk counts.0 counts.1)) (sym c.1) c.2,
  record {
    handed = subst (λ (o : Option (ℕ × ℕ)). MatchOption o (HandsUnracked plan holds [] None f.disk) (λ counts. HandsBelow plan holds (λ n. nat_le n f.disk) 0 [] None)) (sym c.1)
        (inl (c.0, some, record { no_disk = refl; no_swap = refl }));
    sized = subst (λ (o : Option (ℕ × ℕ)). IfSome o (λ counts. IfSome (disk_handed plan [] None f.disk) (λ d. (2 ≤ d.size) × (d.size ≤ 16384)))) (sym c.1) tt;
    first = λ told. inl c.0;
  },
)
swap_stopped plan holds old new halt.Memory some c = record { whole = 0; apart = 0; same = no_disks plan holds; first = tt; before = λ h. absurd (omega (arith, h)) }
swap_stopped plan holds old new (halt.Refused r) some c = absurd c

pub err_then : {T E : Type 0} (r : Result T E) (P Q : E → Type 0) → ((e : E) → P e → Q e) → IfErr r P → IfErr r Q
err_then (Ok x) P Q f h = tt
err_then (Err e) P Q f h = f e h

module _ {D : Type 0} (seen : D → DiskSeen) where
  same_disks : (disks : List (NumberedDisk D)) → bare_disks (map (numbered_seen seen) disks) ≡ map seen (map (λ (d : NumberedDisk D). d.disk) disks)
  same_disks [] = refl
  same_disks (d ∷ disks) = ap (λ ds. seen d.disk ∷ ds) (same_disks disks)

  same_swap : (swap : Option (NumberedDisk D)) → option_map (λ (d : NumberedDisk D). seen d.disk) swap ≡ option_map seen (option_map (λ (d : NumberedDisk D). d.disk) swap)
  same_swap None = refl
  same_swap (Some d) = refl

  pub early : (plan : PlanSeen) (holds : Holds) (old new : ℕ) (s : HandedBack D) (disks : List (NumberedDisk D)) (swap : Option (NumberedDisk D)) (how : OpenStop)
      → s.why ≡ how → s.disks.items ≡ map (λ (d : NumberedDisk D). d.disk) disks
      → s.swap ≡ option_map (λ (d : NumberedDisk D). d.disk) swap
      → StopCause plan holds old new (bare_disks (map (numbered_seen seen) disks)) (option_map (λ (d : NumberedDisk D). seen d.disk) swap) how → StopsEarly plan holds old new seen s
  early plan holds old new s disks swap how ends back last h =
      let items : bare_disks (map (numbered_seen seen) disks) ≡ map seen s.disks.items = same_disks disks ∙ ap (map seen) (sym back) in
      let other : option_map (λ (d : NumberedDisk D). seen d.disk) swap ≡ option_map seen s.swap = same_swap swap ∙ ap (option_map seen) (sym last) in
      subst (λ (x : OpenStop). StopCause plan holds old new (map seen s.disks.items) (option_map seen s.swap) x) (sym ends)
      (subst (λ (o : Option DiskSeen). StopCause plan holds old new (map seen s.disks.items) o how) other
      (subst (λ (ds : List DiskSeen). StopCause plan holds old new ds (option_map (λ (d : NumberedDisk D). seen d.disk) swap) how) items h))
