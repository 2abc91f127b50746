-- Disks that tell: they told before they were written, and a plan is opened as they say.
use Rattle.std.specs.Prelude.{All, ℕ, ◌≡◌, List, [], ◌∷◌, map, Option, Some, None, IsSome, is_some, Ok, Result}
use Rattle.std.specs.FinMap as finite
use Rattle.std.proofs.Common.{ap, ◌∙◌, sym, refl}
use Rattle.std.proofs.lemmas.Bool.{false≢true}
use Rattle.std.proofs.lemmas.List.Elements.{All-nil, All-cons, All-head, All-tail, recursion_from_All}
use Rattle.block_device.specs.DiskSeen.{DiskSeen}
use Rattle.block_device.specs.declared.numbered.NumberedDisk.{NumberedDisk}
use Rattle.block_device.specs.declared.rack.Spec.{Spec}
use Rattle.volume_format.specs.vnode_files.Files.{block_count}
use Rattle.volume_format.specs.Table.{TableSeen}
use Rattle.vm_report.specs.vm_script.PlanSeen.{PlanSeen}
use Rattle.volume_files.specs.declared.stops.Refusal.{Refusal}
use Rattle.volume_files.specs.Attached.{AreMounted, bare_disks}
use Rattle.stored_files.specs.Written.{numbered_seen}
use Rattle.volume_files.specs.Opened.{OpenedFile, if_few, opened_files, setup_volumes, with_line_files}
use Rattle.volume_files.specs.Placing.{found_files, placing_read}
use Rattle.volume_files.proofs.FoundLemmas.{AllBlocks}
use Rattle.volume_files.proofs.HandLemmas.{SameDisks, opened-is}
use Rattle.volume_files.proofs.MountDisks.{Told}
use Rattle.volume_files.proofs.PlacedLemmas.{sizes-seen}

told-one : (a b : Option (List (List ℕ))) → (a ≡ None → b ≡ None) → IsSome b → IsSome a
told-one None b keeps some = absurd (false≢true (ap is_some (sym (keeps refl)) ∙ some))
told-one (Some x) b keeps some = refl

-- disks that tell told before they were written
pub told-before : {D : Type 0} (seen : D → DiskSeen) (ds es : List (NumberedDisk D)) → SameDisks seen ds es → All Told (bare_disks (map (numbered_seen seen) es))
    → All Told (bare_disks (map (numbered_seen seen) ds))
told-before seen [] [] r told = All-nil Told
told-before seen [] (e ∷ es) r told = absurd r
told-before seen (d ∷ ds) [] r told = absurd r
told-before seen (d ∷ ds) (e ∷ es) r told =
    All-cons Told (seen d.disk) (bare_disks (map (numbered_seen seen) ds))
    (told-one (seen d.disk).content (seen e.disk).content r.0.untold (All-head Told (seen e.disk) (bare_disks (map (numbered_seen seen) es)) told))
    (told-before seen ds es r.1 (All-tail Told (seen e.disk) (bare_disks (map (numbered_seen seen) es)) told))

-- WHERE THE DISKS TELL, what placing comes to is how the plan is opened.
pub opened-told : {D : Type 0} (seen : D → DiskSeen) (plan : PlanSeen) (holds : Spec → Option (List (List ℕ))) (old : List (NumberedDisk D)) (ts : List TableSeen) (r : Result (List OpenedFile) Refusal)
    → AllBlocks (map (numbered_seen seen) old) → AreMounted holds (setup_volumes plan.setup) (map (numbered_seen seen) old) ts → placing_read seen old ts plan.setup ≡ r
    → All Told (bare_disks (map (numbered_seen seen) old)) → opened_files plan holds ≡ r
opened-told seen plan holds old ts r blocks m read told =
    opened-is holds plan (map (numbered_seen seen) old) ts m (recursion_from_All Told (bare_disks (map (numbered_seen seen) old)) told) blocks
    ∙ ap (λ (xs : List (ℕ × ℕ)). with_line_files (block_count (finite.from_entries xs)) (if_few (Ok (found_files (map (numbered_seen seen) old) ts))) plan.setup) (sizes-seen seen old)
    ∙ read
