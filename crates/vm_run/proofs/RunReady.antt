-- A run that is ready, to its end.
use Rattle.volume_files.proofs.stored_files.ShownFiles.{reads_same as reads-refl}
use Rattle.std.proofs.Common.{◌≡◌, ℕ, zero, suc, ◌≤◌, ◌<◌, List, [], ◌∷◌, length, map, refl, sym, ap, ◌∙◌, subst, arith}
use Rattle.std.specs.Prelude.{All, Bool, IsTrue, Option}
use Rattle.std.proofs.lemmas.List.{length-map}
use Rattle.volume_files.specs.block_device.DiskSeen.{DiskSeen}
use Rattle.volume_files.specs.block_device.StreamSeen.{SinkSeen}
use Rattle.volume_files.specs.block_device.declared.rack.Spec.{Spec}
use Rattle.vm_core.specs.kernel_close.Finish.{HistorySeen}
use Rattle.volume_files.specs.vm_script.PlanSeen.{PlanSeen}
use Rattle.volume_files.specs.vm_script.Told.{Told, ToldFront}
use Rattle.volume_files.specs.vm_types.declared.call.Entry.{Entry}
use Rattle.printed_traces.specs.Printed.{HasToldCounts}
use Rattle.vm_core.specs.vm_world.State.{FileMode, KernelState, mode_of}
use Rattle.volume_files.specs.vnode_files.Files.{FilesSeen}
use Rattle.volume_files.specs.vnode_files.Vnode.{VnodeSeen}
use Rattle.volume_files.specs.vnode_files.declared.vnode.FileInfo.{FileInfo}
use Rattle.volume_files.specs.volume_format.Volume.{IsVolumeName}
use Rattle.run_endings.specs.declared.ending.Ending.{Ending}
use Rattle.run_endings.specs.declared.ending.Ending.TheVariants as ending
use Rattle.command_line.specs.declared.options.Options.{Options}
use Rattle.run_endings.specs.declared.fault.RunFault.{RunFault}
use Rattle.run_input.specs.Asked.{Given, Asked}
use Rattle.volume_files.specs.Attached.{ArePlaced, AttachedSeen, bare_disks}
use Rattle.volume_files.specs.stored_files.Written.{HaveVolumeNames, infos_made, HaveFirstBlocks, disk_sizes}
use Rattle.volume_files.specs.stored_files.Closed.{info_at}
use Rattle.volume_files.specs.Handed.{AreUncounted}
use Rattle.run_opening.specs.Ready.{IsReady}
use Rattle.run_report.specs.ReportEnds.{CloseEnds}
use Rattle.run_outcome.specs.Ended.{End}
use Rattle.volume_files.specs.Opened.{OpenedFile, opening_flat}
use Rattle.run_kernel.specs.Played.{IsStarted, KernelLeaves, LeftSeen}
use Rattle.run_outcome.specs.Run.{CaseOf, Outside, opening_part, wrote_before}
use Rattle.volume_files.specs.stored_files.Texts.{Wrote}
use Rattle.vm_run.proofs.Cases.{close-case}
use Rattle.volume_files.proofs.DiskLists.{first-same, low-disks, number}
use Rattle.run_outcome.proofs.LastLines.{end-same}
use Rattle.run_opening.proofs.Traced.{infos-placed, lacks-behind}

module _ (st : ℕ) (ft : Option RunFault) (g : Given) (o : Outside) (what : Asked) (files : List OpenedFile) (bytes : ℕ → List ℕ) (a : AttachedSeen) (made : FilesSeen) (plan : PlanSeen) (k1 : SinkSeen)
    (ready : IsReady g o.sink_old k1 what files bytes a made plan) where
  -- its processes ran
  pub ready-ends : (options : Options) → what.options ≡ options → (s : KernelState) (l : LeftSeen) → IsStarted plan (opening_flat plan (disk_sizes a.disks) files) a.disks a.swap made s
      → KernelLeaves (opening_flat plan (disk_sizes a.disks) files) s l → o.sink_old.faults ≤ k1.faults → All (λ (e : Entry). HasToldCounts e.reply) l.history.entries → (whole : Bool) → (IsTrue whole → Told plan l.history.entries)
      → ToldFront plan l.history.entries → (new : List (ℕ × DiskSeen)) (how : Ending) (k2 : SinkSeen) → o.sink_new ≡ k2
      → CloseEnds whole l.fault options plan l.history.entries (infos_made l.files) k1 k2 l.disks new how
      → (H-new : HistorySeen) (d-new : List DiskSeen) (w-new : Option DiskSeen) → H-new ≡ l.history → d-new ≡ bare_disks new → w-new ≡ l.swap
      → CaseOf g o (wrote_before o) (record { status = st; fault = ft; history = H-new; disks = d-new; swap = w-new }) how
  ready-ends options opt s l started left later counts whole told front new how k2 sink c H-new d-new w-new sameH same-d same-w =
      let low = low-disks what.plan l.disks (left.disks.numbers ∙ ap (map number) started.racked ∙ ready.placed.numbers) in
      let by-options = subst (λ (op : Options). CloseEnds whole l.fault op plan l.history.entries (infos_made l.files) k1 k2 l.disks new how) (sym opt) c in
      let by-sink = subst (λ (k : SinkSeen). CloseEnds whole l.fault what.options plan l.history.entries (infos_made l.files) k1 k l.disks new how) (sym sink) by-options in
      subst (λ (e : End). CaseOf g o (wrote_before o) e how) (end-same st ft l.history H-new (bare_disks new) d-new l.swap w-new sameH same-d same-w)
      (close-case st ft g o what files bytes a made plan k1 ready s l started left low later counts whole told front l.fault refl new how by-sink)

  -- memory lacked for its kernel
  pub start-lacks : o.sink_new ≡ k1 → (AreUncounted (bare_disks a.disks) a.swap) → (H : HistorySeen) (d-new : List DiskSeen) (w-new : Option DiskSeen) (how : Ending) → H.entries ≡ [] → H.faults ≡ [] → how ≡ ending.Memory
      → d-new ≡ bare_disks a.disks → w-new ≡ a.swap → CaseOf g o (wrote_before o) (record { status = st; fault = ft; history = H; disks = d-new; swap = w-new }) how
  start-lacks sink none H d-new w-new how entries counts is same-d same-w =
      let low = low-disks what.plan a.disks ready.placed.numbers in
      let wrote = subst (λ (k : SinkSeen). Wrote o.sink_old k (opening_part what files (bare_disks a.disks) bytes)) (sym sink) ready.wrote in
      subst (λ (x : Ending). CaseOf g o (wrote_before o) (record { status = st; fault = ft; history = H; disks = d-new; swap = w-new }) x) (sym is)
      (subst (λ (e : End). CaseOf g o (wrote_before o) e ending.Memory) (end-same st ft H H (bare_disks a.disks) d-new a.swap w-new refl same-d same-w)
      (lacks-behind st ft g o what files bytes ready.asked a made ready.placed ready.read a.disks (reads-refl a.disks) H entries counts low none wrote))

  -- the disks that a kernel left have a first block
  pub first-left : (s : KernelState) (l : LeftSeen) → IsStarted plan (opening_flat plan (disk_sizes a.disks) files) a.disks a.swap made s
      → KernelLeaves (opening_flat plan (disk_sizes a.disks) files) s l → HaveFirstBlocks l.disks
  first-left s l started left = first-same a.disks l.disks (left.disks.numbers ∙ ap (map number) started.racked)
      (left.disks.sizes ∙ ap (map (λ (d : ℕ × DiskSeen). d.1.size)) started.racked) ready.placed.some

-- ---- the files have the names that they had

same-length : (xs ys : List VnodeSeen) → map mode_of xs ≡ map mode_of ys → length xs ≡ length ys
same-length xs ys e = sym (length-map xs mode_of) ∙ ap length e ∙ length-map ys mode_of

same-modes : (xs ys : List VnodeSeen) → map mode_of xs ≡ map mode_of ys → (k : ℕ) → k < length (map (λ (v : VnodeSeen). v.info) xs)
    → ((info_at (map (λ (v : VnodeSeen). v.info) xs) k).name ≡ (info_at (map (λ (v : VnodeSeen). v.info) ys) k).name)
    × ((info_at (map (λ (v : VnodeSeen). v.info) xs) k).disk ≡ (info_at (map (λ (v : VnodeSeen). v.info) ys) k).disk)
same-modes [] ys e k lt = absurd (omega (arith, lt))
same-modes (x ∷ xs) [] e k lt = absurd (let z : ◌≡◌ {A = List FileMode} (mode_of x ∷ map mode_of xs) [] = e in cc)
same-modes (x ∷ xs) (y ∷ ys) e zero lt =
    let z : ◌≡◌ {A = List FileMode} (mode_of x ∷ map mode_of xs) (mode_of y ∷ map mode_of ys) = e in
    let m : mode_of x ≡ mode_of y = cc in
    (ap (λ (f : FileMode). f.name) m, ap (λ (f : FileMode). f.disk) m)
same-modes (x ∷ xs) (y ∷ ys) e (suc k) lt =
    let z : ◌≡◌ {A = List FileMode} (mode_of x ∷ map mode_of xs) (mode_of y ∷ map mode_of ys) = e in
    let m : map mode_of xs ≡ map mode_of ys = cc in
    same-modes xs ys m k (omega (arith, lt))

names-same : (xs ys : List VnodeSeen) → map mode_of xs ≡ map mode_of ys → HaveVolumeNames (map (λ (v : VnodeSeen). v.info) ys) → HaveVolumeNames (map (λ (v : VnodeSeen). v.info) xs)
names-same xs ys e h =
    let f : VnodeSeen → FileInfo = λ v. v.info in
    let count : length (map f xs) ≡ length (map f ys) = length-map xs f ∙ same-length xs ys e ∙ sym (length-map ys f) in
    record {
      names = λ k lt. subst IsVolumeName (sym (same-modes xs ys e k lt).0) (h.names k (omega (arith, lt, count)));
      differ = λ i k below lt on same.
          let low : k < length (map f xs) = omega (arith, below, lt) in
          let a = same-modes xs ys e i lt in
          let b = same-modes xs ys e k low in
          h.differ i k below (omega (arith, lt, count)) (sym b.1 ∙ on ∙ a.1) (sym b.0 ∙ same ∙ a.0);
    }

-- the names of the files that a kernel left
pub names-left : (plan old : PlanSeen) (holds : Spec → Option (List (List ℕ))) (files : List OpenedFile) (a : AttachedSeen) (made : FilesSeen) → ArePlaced old holds files a made
    → (s : KernelState) (l : LeftSeen) → s.memory.world.files ≡ made → map mode_of l.files.files ≡ map mode_of s.memory.world.files.files → HaveVolumeNames (infos_made l.files)
names-left plan old holds files a made p s l placed modes =
    names-same l.files.files made.files (modes ∙ ap (λ (f : FilesSeen). map mode_of f.files) placed)
    (subst HaveVolumeNames (sym (infos-placed old holds files a made p)) p.names)
