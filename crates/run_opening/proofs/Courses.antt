-- A run that began: what it left, and what that is of what was asked.
use Rattle.vm_core.specs.kernel_close.Finish.{disks_of}
use Rattle.run_kernel.proofs.StartedFlat.{infos-fresh as made-infos}
use Rattle.volume_files.proofs.FileLineLemmas.{names-made as names-fresh}
use Rattle.std.proofs.Common.{◌≡◌, ◌≢◌, ◌⊎◌, ℕ, zero, suc, ◌≤◌, ◌<◌, ◌==◌, Bool, true, false, List, [], ◌∷◌, length, map, refl, sym, ap, ◌∙◌, subst, arith, inl, inr}
use Rattle.std.specs.Prelude.{All, IfNone, IfSome, IsSome, IsSomeAnd, Ok, Option, Some, None, is_some, slice_get, slice_index_or, zip, if◌then◌else◌}
use Rattle.std.specs.Map.{lookup}
use Rattle.std.proofs.lemmas.Bool.{false≢true, ne_eqb}
use Rattle.std.proofs.lemmas.Bool.Decides.{eqb_tells}
use Rattle.std.proofs.lemmas.Option.{none-some, same_Some, slice_get_within}
use Rattle.std.proofs.lemmas.List.{length-map}
use Rattle.volume_files.specs.block_device.DiskSeen.{DiskSeen}
use Rattle.volume_files.specs.block_device.declared.disk_fault.DiskFault.{DiskFault}
use Rattle.volume_files.specs.volume_disks.declared.volume_spec.VolumeSpec.{VolumeSpec}
use Rattle.volume_files.specs.volume_disks.declared.volume_spec.VolumeSpec.TheVariants.{Plain, Joined}
use Rattle.volume_files.specs.block_device.declared.rack.Spec.TheVariants as spec
use Rattle.volume_files.specs.block_device.StreamSeen.{SinkSeen}
use Rattle.volume_files.proofs.flat_model.Bytes.{All-slice_get}
use Rattle.volume_files.specs.flat_model.Flat.{Flat}
use Rattle.volume_files.specs.flat_model.History.{Legal, replay}
use Rattle.volume_files.specs.flat_model.Shapes.{RefusesAsDue}
use Rattle.volume_files.specs.vnode_files.Files.{FilesSeen}
use Rattle.volume_files.specs.vnode_files.Vnode.{VnodeSeen}
use Rattle.volume_files.specs.vnode_files.declared.vnode.FileInfo.{FileInfo}
use Rattle.volume_files.specs.vm_types.declared.call.Entry.{Entry}
use Rattle.volume_files.specs.vm_script.PlanSeen.{PlanSeen}
use Rattle.volume_files.specs.vm_script.Rules.{amounts_of}
use Rattle.trace_check.specs.Checks.{IsTextFor}
use Rattle.printed_traces.specs.Printed.{IsTracedRun, HasToldCounts, printed_text}
use Rattle.printed_traces.proofs.RunsTold.{run-stands}
use Rattle.vm_core.specs.vm_world.State.{KernelState, FileMode, mode_of}
use Rattle.run_endings.specs.declared.fault.RunFault.{RunFault}
use Rattle.run_input.specs.Asked.{Given, Asked}
use Rattle.volume_files.specs.Attached.{AttachedSeen, FileDisksTell, IsFilledBy, bare_disks}
use Rattle.volume_files.specs.stored_files.Closed.{SayTables, StoreFiles, flat_bytes, info_at, infos_in_flat, mode_in, modes_in, stored_bytes}
use Rattle.run_opening.specs.Ready.{IsReady}
use Rattle.run_outcome.specs.Ended.{End, HasLateCause, CountsReach, HasCountsOf}
use Rattle.volume_files.proofs.DiskCounts.{kinds-still, kinds-written}
use Rattle.volume_files.specs.Handed.{kinds_of, HaveTold, HandsAll, HasSpecSize, block_told, volume_numbers, disk_handed, volumes_of, sizes_of}
use Rattle.volume_files.specs.Opened.{IsVolumeAttached, OpenedFile, infos_of, line_files_of, names_of, opening_flat, setup_volumes, volume_number}
use Rattle.vm_core.specs.page_hash.declared.PageName.{PageName}
use Rattle.vm_core.specs.vm_world.mark_laws.HeldBlocks.{HoldsHistory}
use Rattle.vm_core.specs.vm_world.mark_laws.Pages.{bytes_there, disk_place, page_there}
use Rattle.vm_core.proofs.mark_laws.Accounts.{places-on}
use Rattle.run_kernel.specs.Played.{IsStarted, KernelLeaves, LeftSeen, IsDiskOf}
use Rattle.volume_files.specs.stored_files.Written.{infos_made, AreFilesBytes, HaveDisks, KeepsBlocks, WriteTables, WroteTablesAt, WroteTablesTo, disk_sizes}
use Rattle.run_outcome.specs.Run.{AreClosedBytes, AreOpenedBytes, Begun, ClosesFiles, LeavesFiles, DisksTell, IsOpened, WroteNoTable, WroteTablesAlone, WroteTablesBelow, flat_opened, flat_closed}
use Rattle.volume_files.proofs.DiskLists.{at-map, in-map, mate, number, to-all, zip-back, sizes-by, sizes-written, low-disks, lookup-at}
use Rattle.run_input.proofs.AskedRules.{asked-rules}
use Rattle.run_opening.proofs.KeptBytes.{stored-kept}
use Rattle.run_opening.proofs.HeldDisks.{HasKeptPage, held-through, opening-page}
use Rattle.run_opening.proofs.RisingNumbers.{lower-before, same-place}
use Rattle.run_opening.proofs.FilledLines.{line-filled}
use Rattle.run_kernel.proofs.Returned.{swap-serves-still}
use Rattle.volume_files.proofs.GivenFiles.{comes-sizes}

-- nothing stands past the end of a list
past-get : (ns : List ℕ) (i : ℕ) → slice_get ns i ≡ None → length ns ≤ i
past-get [] i none = omega arith
past-get (n ∷ ns) zero none = absurd (none-some n (sym none))
past-get (n ∷ ns) (suc i) none = let le = past-get ns i none in omega (arith, le)

-- a disk that tells did so before
told-before : (old new : DiskSeen) → KeepsBlocks old new → IsSome new.content → IsSome old.content
told-before old new k some = by old.content refl
  where
    by : (content : Option (List (List ℕ))) → old.content ≡ content → IsSome old.content
    by None is = absurd (false≢true (subst IsSome (k.untold is) some))
    by (Some blocks) is = subst IsSome (sym is) refl

-- what a disk that tells has
told-blocks : (content : Option (List (List ℕ))) → IsSome content → (blocks : List (List ℕ)) × (content ≡ Some blocks)
told-blocks None some = absurd (false≢true some)
told-blocks (Some blocks) some = (blocks, refl)

-- where all disks tell, those of files do
pub files-told : (infos : List FileInfo) (disks : List (ℕ × DiskSeen)) → All (λ (d : DiskSeen). IsSome d.content) (bare_disks disks) → FileDisksTell infos disks
files-told infos disks all i k disk at lt own = All-slice_get (λ (d : DiskSeen). IsSome d.content) (bare_disks disks) i disk.1 all (at-map (λ (p : ℕ × DiskSeen). p.1) disks i disk at)

pub spec-size : (s : VolumeSpec) (d e : DiskSeen) → e.size ≡ d.size → HasSpecSize s d → HasSpecSize s e
spec-size (Plain (spec.Blank n blocks)) d e same h = same ∙ h
spec-size (Plain (spec.Path n path)) d e same h = tt
spec-size (Joined (spec.Blank n blocks) second mirror) d e same h = same ∙ h
spec-size (Joined (spec.Path n path) second mirror) d e same h = tt

-- the names of files, by their modes and by their records
names-of-modes : (vs : List VnodeSeen) → map (λ (v : VnodeSeen). v.info.name) vs ≡ map (λ (m : FileMode). m.name) (map mode_of vs)
names-of-modes [] = refl
names-of-modes (v ∷ vs) = ap (λ l. v.info.name ∷ l) (names-of-modes vs)

-- their modes
abbrev mode-from : FileMode → List ℕ × ℕ × Bool
mode-from m = (m.name, m.disk, m.writable)

modes-of : (vs : List VnodeSeen) → modes_in (map (λ (v : VnodeSeen). v.info) vs) ≡ map mode-from (map mode_of vs)
modes-of [] = refl
modes-of (v ∷ vs) = ap (λ l. mode_in v.info ∷ l) (modes-of vs)

-- the size of the disk at a place
size-at : (xs : List (ℕ × DiskSeen)) (i : ℕ) (x : ℕ × DiskSeen) → slice_get xs i ≡ Some x → slice_get (map (λ (d : ℕ × DiskSeen). d.1.size) xs) i ≡ Some x.1.size
size-at xs i x at = at-map (λ (d : ℕ × DiskSeen). d.1.size) xs i x at

module _ (st : ℕ) (ft : Option RunFault) (g : Given) (what : Asked) (files : List OpenedFile) (bytes : ℕ → List ℕ) (a : AttachedSeen) (made : FilesSeen) (plan : PlanSeen) (k0 k1 : SinkSeen)
    (ready : IsReady g k0 k1 what files bytes a made plan) (s : KernelState) (l : LeftSeen)
    (started : IsStarted plan (opening_flat plan (disk_sizes a.disks) files) a.disks a.swap made s)
    (left : KernelLeaves (opening_flat plan (disk_sizes a.disks) files) s l) (new : List (ℕ × DiskSeen)) (w : WriteTables l.disks new) where
  abbrev pub ended : End
  ended = record { status = st; fault = ft; history = l.history; disks = bare_disks new; swap = l.swap }

  numbers-old : map number new ≡ map number a.disks
  numbers-old = w.numbers ∙ left.disks.numbers ∙ ap (map number) started.racked

  sizes-old : map (λ (d : ℕ × DiskSeen). d.1.size) new ≡ map (λ (d : ℕ × DiskSeen). d.1.size) a.disks
  sizes-old = sizes-written l.disks new w ∙ left.disks.sizes ∙ ap (map (λ (d : ℕ × DiskSeen). d.1.size)) started.racked

  pub pairs-new : volumes_of what.plan (bare_disks new) ≡ new
  pairs-new = ap (λ (ns : List ℕ). zip ns (bare_disks new)) (sym ready.placed.numbers ∙ sym numbers-old) ∙ zip-back new

  pairs-old : volumes_of what.plan (bare_disks a.disks) ≡ a.disks
  pairs-old = ap (λ (ns : List ℕ). zip ns (bare_disks a.disks)) (sym ready.placed.numbers) ∙ zip-back a.disks

  pub sizes-new : sizes_of what.plan (bare_disks new) ≡ disk_sizes a.disks
  sizes-new = ap disk_sizes pairs-new ∙ sizes-by new a.disks numbers-old sizes-old

  pub sizes-same : sizes_of what.plan (bare_disks a.disks) ≡ sizes_of what.plan (bare_disks new)
  sizes-same = ap disk_sizes pairs-old ∙ sym sizes-new

  pub flat-same : opening_flat plan (disk_sizes a.disks) files ≡ flat_opened what files (bare_disks new)
  flat-same = ap (λ (p : PlanSeen). opening_flat p (disk_sizes a.disks) files) ready.numbered ∙ ap (λ (z : List (ℕ × ℕ)). opening_flat what.plan z files) (sym sizes-new)

  told-left : HaveTold (bare_disks new) l.swap → HaveTold (bare_disks l.disks) l.swap
  told-left h = record {
    each = to-all (λ (d : DiskSeen). IsSome d.content) (bare_disks l.disks) (λ i d at.
        let x = in-map (λ (p : ℕ × DiskSeen). p.1) l.disks i d at in
        let m = mate l.disks new w.numbers i x.0 x.1 in
        subst (λ (y : DiskSeen). IsSome y.content) x.2 (told-before x.0.1 m.0.1 (w.each i x.0 m.0 x.1 m.1)
        (All-slice_get (λ (d : DiskSeen). IsSome d.content) (bare_disks new) i m.0.1 h.each (at-map (λ (p : ℕ × DiskSeen). p.1) new i m.0 m.1))));
    last = h.last;
  }

  told-start : DisksTell ended → All (λ (d : DiskSeen). IsSome d.content) (bare_disks a.disks)
  told-start t = to-all (λ (d : DiskSeen). IsSome d.content) (bare_disks a.disks) (λ i d at.
      let x = in-map (λ (p : ℕ × DiskSeen). p.1) a.disks i d at in
      let there : slice_get (disks_of s.memory.world) i ≡ Some x.0 = ap (λ (L : List (ℕ × DiskSeen)). slice_get L i) started.racked ∙ x.1 in
      let m = mate (disks_of s.memory.world) l.disks left.disks.numbers i x.0 there in
      subst (λ (y : DiskSeen). IsSome y.content) x.2 (left.disks.told i x.0 m.0 there m.1
      (All-slice_get (λ (e : DiskSeen). IsSome e.content) (bare_disks l.disks) i m.0.1 (told-left t).each (at-map (λ (p : ℕ × DiskSeen). p.1) l.disks i m.0 m.1))))

  disks-told : DisksTell ended → FileDisksTell (infos_of files) a.disks
  disks-told t = files-told (infos_of files) a.disks (told-start t)

  read-bytes : AreOpenedBytes g what files ended bytes
  read-bytes = record { lengths = ready.read.lengths; told = λ t. ready.read.told (disks-told t) }

  count-new : length (bare_disks new) ≡ length (setup_volumes what.plan.setup)
  count-new = length-map new (λ (p : ℕ × DiskSeen). p.1) ∙ sym (length-map new number) ∙ ap length (numbers-old ∙ ready.placed.numbers) ∙ length-map (setup_volumes what.plan.setup) volume_number

  hands-all : HandsAll what.plan (bare_disks new) l.swap
  hands-all = record {
    each = (
      count-new,
      λ i sp d si di.
          let x = in-map (λ (p : ℕ × DiskSeen). p.1) new i d di in
          let y = in-map (λ (p : ℕ × DiskSeen). p.1.size) a.disks i x.0.1.size (ap (λ (z : List ℕ). slice_get z i) (sym sizes-old) ∙ size-at new i x.0 x.1) in
          subst (HasSpecSize sp) x.2 (spec-size sp y.0.1 x.0.1 (sym y.2) (ready.placed.handed.each.1 i sp y.0.1 si (at-map (λ (p : ℕ × DiskSeen). p.1) a.disks i y.0 y.1))),
    );
    kinds = kinds-still new a.disks (kinds-written l.disks new w ∙ left.disks.kinds ∙ ap kinds_of started.racked) ∙ ready.placed.handed.kinds;
    first = swap-serves-still (amounts_of what.plan.setup).slots a.swap (opening_flat plan (disk_sizes a.disks) files) s l started.swapped left ready.placed.handed.first;
  }

  pub is-opened : IsOpened g what files ended
  is-opened = record {
    asked = ready.asked;
    handed = hands-all;
    given = comes-sizes what.plan g.holds (disk_sizes a.disks) (sizes_of what.plan (bare_disks new)) (Ok files) (sym sizes-new) ready.placed.given;
    opened = λ t. ready.placed.told (told-start t);
  }

  -- the disks that come back have numbers of the plan
  pub numbers-new : map number new ≡ volume_numbers what.plan
  numbers-new = numbers-old ∙ ready.placed.numbers

  reached : CountsReach what.plan l.history (bare_disks new) l.swap
  reached k e n before after at io = let x = left.reached k e n before after at io in (x.0, x.1, x.2, by_disk x.0 x.3.0 x.3.1 x.3.2)
    where
      handed : Bool → Option DiskSeen
      handed eight = if◌then◌else◌ eight l.swap (lookup (λ m. m == n) (volumes_of what.plan (bare_disks new)))

      some : (count : ℕ) (o : Option DiskSeen) (d : DiskSeen) → o ≡ Some d → count ≤ d.faults → IsSomeAnd o (λ (x : DiskSeen). count ≤ x.faults)
      some count o d is low = subst (λ (p : Option DiskSeen). IsSomeAnd p (λ (x : DiskSeen). count ≤ x.faults)) (sym is) low

      apart : (j k : ℕ) (x y : ℕ × DiskSeen) → slice_get new j ≡ Some x → slice_get new k ≡ Some y → x.0 ≡ y.0 → j ≡ k
      apart j k x y xj yk is =
          let a = mate new l.disks (sym w.numbers) j x xj in
          let b = mate new l.disks (sym w.numbers) k y yk in
          left.have.numbers j k a.0 b.0 a.1 b.1 (a.2 ∙ is ∙ sym b.2)

      by_disk : (count : ℕ) (d : DiskSeen) → IsDiskOf l.disks l.swap n d → count ≤ d.faults → IsSomeAnd (disk_handed what.plan (bare_disks new) l.swap n) (λ (x : DiskSeen). count ≤ x.faults)
      by_disk count d (inr swapped) low = some count (disk_handed what.plan (bare_disks new) l.swap n) d (ap handed (subst (λ (m : ℕ). (m == 8) ≡ true) (sym swapped.0) refl) ∙ swapped.1) low
      by_disk count d (inl listed) low =
          let m = mate l.disks new w.numbers listed.0 (n, d) listed.1 in
          let up = (w.each listed.0 (n, d) m.0 listed.1 m.1).faults in
          let own : m.0 ≡ (n, m.0.1) = ap (λ (j : ℕ). (j, m.0.1)) m.2 in
          let there : slice_get new listed.0 ≡ Some (n, m.0.1) = m.1 ∙ ap Some own in
          let low-number = low-disks what.plan new numbers-new listed.0 (n, m.0.1) there in
          some count (disk_handed what.plan (bare_disks new) l.swap n) m.0.1
          (ap handed (ne_eqb n 8 (λ eight. omega (arith, eight, low-number))) ∙ ap (lookup (λ m. m == n)) pairs-new ∙ lookup-at n new listed.0 m.0.1 apart there)
          (omega (arith, low, up))

  -- the history's counts are those of the disks
  counts-told : HasCountsOf what.plan l.history (bare_disks new) l.swap
  counts-told = record {
    each = λ i d there.
        let x : slice_get new i ≡ Some d = ap (λ (ds : List (ℕ × DiskSeen)). slice_get ds i) (sym pairs-new) ∙ there in
        let m = mate new l.disks (sym w.numbers) i d x in
        let c = left.counts i m.0 m.1 in
        let low = c.2 in
        let more = (w.each i m.0 d m.1 x).faults in
        subst (λ (o : Option ℕ). IsSomeAnd o (λ count. count ≤ d.1.faults)) (sym (ap (λ (n : ℕ). slice_index_or l.history.faults n None) (sym m.2) ∙ c.1)) (omega (arith, low, more));
    last = left.swapped;
  }

  -- what a trace of it tells
  traced-text : All (λ (e : Entry). HasToldCounts e.reply) l.history.entries → DisksTell ended
      → IsTextFor (printed_text what.plan (sizes_of what.plan (bare_disks new)) files bytes l.history.entries) (flat_opened what files (bare_disks new)) l.history.entries
  traced-text counts t =
      let legal = subst (λ (F : Flat). Legal F l.history.entries) (ap (λ (p : PlanSeen). opening_flat p (disk_sizes a.disks) files) ready.numbered) (left.legal (told-left t)) in
      let ran : IsTracedRun what.plan g.holds files a made l.history.entries =
      record { rules = asked-rules g what ready.asked; placed = ready.placed; legal = legal; formed = left.formed; few = left.few; counts = counts } in
      subst (λ (z : List (ℕ × ℕ)). IsTextFor (printed_text what.plan z files bytes l.history.entries) (opening_flat what.plan z files) l.history.entries) (sym sizes-new)
      (run-stands what.plan g.holds files a made l.history.entries bytes ran (record { lengths = ready.read.lengths; told = ready.read.told (disks-told t) }))

  -- the number of a disk, and that nothing else is in its place
  numbers-of-left : map number l.disks ≡ volume_numbers what.plan
  numbers-of-left = left.disks.numbers ∙ ap (map number) started.racked ∙ ready.placed.numbers

  number-at : (i : ℕ) (s : VolumeSpec) (d : ℕ × DiskSeen) → slice_get (setup_volumes what.plan.setup) i ≡ Some s → slice_get l.disks i ≡ Some d → d.0 ≡ volume_number s
  number-at i sp d si di = same_Some d.0 (volume_number sp) (sym (at-map number l.disks i d di) ∙ ap (λ (ns : List ℕ). slice_get ns i) numbers-of-left ∙ at-map volume_number (setup_volumes what.plan.setup) i sp si)

  low-volume : (i : ℕ) (sp : VolumeSpec) (d : DiskSeen) → slice_get (setup_volumes what.plan.setup) i ≡ Some sp → slice_get (bare_disks new) i ≡ Some d → volume_number sp < 8
  low-volume i sp d si di =
      let x = in-map (λ (p : ℕ × DiskSeen). p.1) new i d di in
      let y = mate new l.disks (sym w.numbers) i x.0 x.1 in
      subst (λ (n : ℕ). n < 8) (number-at i sp y.0 si y.1) (low-disks what.plan l.disks numbers-of-left i y.0 y.1)

  abbrev start-flat : Flat
  start-flat = opening_flat plan (disk_sizes a.disks) files

  -- A DISK as it is handed back, as it was closed, as it was started, and as the rack gave it
  module _ (t : DisksTell ended) (i : ℕ) (sp : VolumeSpec) (d : DiskSeen) (si : slice_get (setup_volumes what.plan.setup) i ≡ Some sp) (di : slice_get (bare_disks new) i ≡ Some d) where
    back : (x : ℕ × DiskSeen) × (slice_get new i ≡ Some x) × (x.1 ≡ d)
    back = in-map (λ (p : ℕ × DiskSeen). p.1) new i d di

    closed : (y : ℕ × DiskSeen) × (slice_get l.disks i ≡ Some y) × (y.0 ≡ back.0.0)
    closed = mate new l.disks (sym w.numbers) i back.0 back.1

    begun-as : (z : ℕ × DiskSeen) × (slice_get a.disks i ≡ Some z) × (z.0 ≡ closed.0.0)
    begun-as = mate l.disks a.disks (sym (left.disks.numbers ∙ ap (map number) started.racked)) i closed.0 closed.1

    racked : slice_get (disks_of s.memory.world) i ≡ Some begun-as.0
    racked = ap (λ (ds : List (ℕ × DiskSeen)). slice_get ds i) started.racked ∙ begun-as.1

    given : (was : DiskSeen) × IsVolumeAttached g.holds sp was × IsFilledBy (line_files_of ready.placed.given.found files) (volume_number sp) was begun-as.0.1
    given = ready.placed.filled i sp begun-as.0.1 si (at-map (λ (p : ℕ × DiskSeen). p.1) a.disks i begun-as.0 begun-as.1)

    now-told : (blocks : List (List ℕ)) × (d.content ≡ Some blocks)
    now-told = told-blocks d.content (All-slice_get (λ (e : DiskSeen). IsSome e.content) (bare_disks new) i d t.each di)

    closed-told : (blocks : List (List ℕ)) × (closed.0.1.content ≡ Some blocks)
    closed-told = told-blocks closed.0.1.content
        (All-slice_get (λ (e : DiskSeen). IsSome e.content) (bare_disks l.disks) i closed.0.1 (told-left t).each (at-map (λ (p : ℕ × DiskSeen). p.1) l.disks i closed.0 closed.1))

    placed-told : (blocks : List (List ℕ)) × (begun-as.0.1.content ≡ Some blocks)
    placed-told = told-blocks begun-as.0.1.content
        (All-slice_get (λ (e : DiskSeen). IsSome e.content) (bare_disks a.disks) i begun-as.0.1 (told-start t) (at-map (λ (p : ℕ × DiskSeen). p.1) a.disks i begun-as.0 begun-as.1))

    given-told : (blocks : List (List ℕ)) × (given.0.content ≡ Some blocks)
    given-told = told-blocks given.0.content (sym given.2.tells ∙ ap (λ (c : Option (List (List ℕ))). is_some c) placed-told.1)

    past : (name : PageName) (block : ℕ) → disk_place (replay start-flat l.history.entries) name ≡ Some (volume_number sp, block) → 1 ≤ block
    past name block at = left.places (told-left t) name (volume_number sp) block at

    -- a block that a line's bytes filled has its page
    filled : (block : ℕ) → (block_told begun-as.0.1.content block ≡ block_told given.0.content block)
        ⊎ ((name : PageName) × (disk_place (replay start-flat l.history.entries) name ≡ Some (volume_number sp, block)) × (0 < bytes_there start-flat name) × (block_told begun-as.0.1.content block ≡ Some (page_there start-flat name)))
    filled block = elim (given.2.each block) [
      | inl same ↦ inl same
      | inr h ↦
          let f = line-filled what.plan g.holds files a made ready.placed plan (disk_sizes a.disks) (volume_number sp) begun-as.0.1.content block h in
          inr (f.0, places-on start-flat l.history.entries f.0 (volume_number sp) block f.1, f.2, f.3)
    ]

    first : (block : ℕ) → (slice_index_or placed-told.0 block [] ≡ slice_index_or given-told.0 block []) ⊎ HasKeptPage start-flat l.history.entries (volume_number sp) placed-told.0 block
    first block = elim (filled block) [
      | inl same ↦ inl (same_Some (slice_index_or placed-told.0 block []) (slice_index_or given-told.0 block []) (sym (ap (λ (c : Option (List (List ℕ))). block_told c block) placed-told.1) ∙ same ∙ ap (λ (c : Option (List (List ℕ))). block_told c block) given-told.1))
      | inr page ↦ inr (
        page.0,
        page.1,
        opening-page start-flat l.history.entries page.0 (slice_index_or placed-told.0 block []) page.2
            (same_Some (slice_index_or placed-told.0 block []) (page_there start-flat page.0) (sym (ap (λ (c : Option (List (List ℕ))). block_told c block) placed-told.1) ∙ page.3)),
      )
    ]

    last : (block : ℕ) → block ≢ 0 → slice_index_or now-told.0 block [] ≡ slice_index_or closed-told.0 block []
    last block far =
        let now = (w.each i closed.0 back.0 closed.1 back.1).told closed-told.0 closed-told.1 in
        let same : now.0 ≡ now-told.0 = same_Some now.0 now-told.0 (sym now.1 ∙ ap (λ (e : DiskSeen). e.content) back.2 ∙ now-told.1) in
        ap (λ (blocks : List (List ℕ)). slice_index_or blocks block []) (sym same) ∙ now.3 block far

    holds-history : HoldsHistory start-flat l.history.entries (volume_number sp) d.faults given-told.0 now-told.0
    holds-history = held-through start-flat l.history.entries (volume_number sp) closed.0.1.faults d.faults given-told.0 placed-told.0 closed-told.0 now-told.0
        (subst (λ (n : ℕ). HoldsHistory start-flat l.history.entries n closed.0.1.faults placed-told.0 closed-told.0) (number-at i sp closed.0 si closed.1)
        (left.held (told-left t) i begun-as.0 closed.0 placed-told.0 closed-told.0 racked closed.1 placed-told.1 closed-told.1))
        first last past (subst (λ (e : DiskSeen). closed.0.1.faults ≤ e.faults) back.2 (w.each i closed.0 back.0 closed.1 back.1).faults)

    -- block 0, which no file keeps, where it is as the kernel left it
    first-placed : block_told begun-as.0.1.content 0 ≡ block_told given.0.content 0
    first-placed = elim (filled 0) [ inl old ↦ old | inr page ↦ absurd (let high = past page.0 0 page.1 in omega (arith, high)) ]

    first-given : ((y : ℕ × DiskSeen) → slice_get l.disks i ≡ Some y → block_told d.content 0 ≡ block_told y.1.content 0) → block_told d.content 0 ≡ block_told given.0.content 0
    first-given same =
        same closed.0 closed.1
        ∙ ap (λ (c : Option (List (List ℕ))). block_told c 0) closed-told.1
        ∙ ap (λ (bytes : List ℕ). Some bytes) (left.first (told-left t) i begun-as.0 closed.0 placed-told.0 closed-told.0 racked closed.1 placed-told.1 closed-told.1)
        ∙ sym (ap (λ (c : Option (List (List ℕ))). block_told c 0) placed-told.1)
        ∙ first-placed

    given-first : (was : DiskSeen) × IsVolumeAttached g.holds sp was
        × (((y : ℕ × DiskSeen) → slice_get l.disks i ≡ Some y → block_told d.content 0 ≡ block_told y.1.content 0) → block_told d.content 0 ≡ block_told was.content 0)
    given-first = (given.0, given.1, first-given)

    disk-held : (was : DiskSeen) × IsVolumeAttached g.holds sp was
        × IfSome d.content (λ now. IsSomeAnd was.content (λ old. HoldsHistory (flat_opened what files (bare_disks new)) l.history.entries (volume_number sp) d.faults old now))
    disk-held = (
      given.0,
      given.1,
      subst (λ (F : Flat). IfSome d.content (λ now. IsSomeAnd given.0.content (λ old. HoldsHistory F l.history.entries (volume_number sp) d.faults old now))) flat-same
          (subst (λ (o : Option (List (List ℕ))). IfSome o (λ now. IsSomeAnd given.0.content (λ old. HoldsHistory start-flat l.history.entries (volume_number sp) d.faults old now))) (sym now-told.1)
          (subst (λ (o : Option (List (List ℕ))). IsSomeAnd o (λ old. HoldsHistory start-flat l.history.entries (volume_number sp) d.faults old now-told.0)) (sym given-told.1) holds-history)),
    )

  -- the tables that were written
  pub no-table : new ≡ l.disks → WroteNoTable g what ended
  no-table same t i sp d si di =
      let given = given-first t i sp d si di in
      let x = in-map (λ (p : ℕ × DiskSeen). p.1) new i d di in (
        given.0,
        given.1,
        λ block first. subst (λ (b : ℕ). block_told d.content b ≡ block_told given.0.content b) (sym first) (given.2
            (λ y at. let one : x.0 ≡ y = same_Some x.0 y (sym x.1 ∙ ap (λ (ds : List (ℕ × DiskSeen)). slice_get ds i) same ∙ at) in
            ap (λ (q : DiskSeen). block_told q.content 0) (sym x.2) ∙ ap (λ (q : ℕ × DiskSeen). block_told q.1.content 0) one)),
      )

  pub begun : All (λ (e : Entry). HasToldCounts e.reply) l.history.entries → Begun g what files bytes ended
  begun counts = record {
    opened = is-opened;
    read = read-bytes;
    traced = traced-text counts;
    legal = λ t. subst (λ (F : Flat). Legal F l.history.entries) flat-same (left.legal (told-left t));
    refusals = subst (λ (F : Flat). RefusesAsDue F l.history.entries) flat-same left.refusals;
    counted = left.counted;
    reached = reached;
    counts = counts-told;
    held = disk-held;
  }

  names-left : map (λ (v : VnodeSeen). v.info.name) l.files.files ≡ names_of files
  names-left = names-of-modes l.files.files ∙ ap (map (λ (m : FileMode). m.name)) (left.modes ∙ ap (λ (f : FilesSeen). map mode_of f.files) started.placed)
      ∙ sym (names-of-modes made.files) ∙ ap (map (λ (v : VnodeSeen). v.info.name)) ready.placed.fresh ∙ names-fresh files

  closed-same : (replay (opening_flat plan (disk_sizes a.disks) files) l.history.entries).files ≡ (flat_closed what files (bare_disks new) l.history.entries).files
  closed-same = ap (λ (F : Flat). (replay F l.history.entries).files) flat-same

  stored : l.fault ≡ None → DisksTell ended → StoreFiles new (infos_made l.files) (flat_bytes (flat_closed what files (bare_disks new) l.history.entries).files)
  stored none t = subst (λ fs. StoreFiles new (infos_made l.files) (flat_bytes fs)) closed-same
      (stored-kept l.files l.disks new left.lie w _ (subst (λ (f : Option DiskFault). IfNone f (HaveTold (bare_disks l.disks) l.swap
      → StoreFiles l.disks (infos_made l.files) (flat_bytes (replay (opening_flat plan (disk_sizes a.disks) files) l.history.entries).files))) none left.stored (told-left t)))

  modes-left : modes_in (infos_made l.files) ≡ modes_in (infos_of files)
  modes-left = modes-of l.files.files ∙ ap (map mode-from) (left.modes ∙ ap (λ (f : FilesSeen). map mode_of f.files) started.placed)
      ∙ sym (modes-of made.files) ∙ ap modes_in (ap (map (λ (v : VnodeSeen). v.info)) ready.placed.fresh ∙ made-infos (infos_of files))

  -- the disks have the files
  pub leaves : l.fault ≡ None → LeavesFiles g what files (infos_made l.files) ended
  leaves none = record {
    modes = modes-left;
    records = left.infos ∙ ap (λ ns. infos_in_flat ns (replay (opening_flat plan (disk_sizes a.disks) files) l.history.entries).files) names-left
        ∙ ap (infos_in_flat (names_of files)) closed-same;
    stored = λ t. subst (λ (d : List (ℕ × DiskSeen)). StoreFiles d (infos_made l.files) (flat_bytes (flat_closed what files (bare_disks new) l.history.entries).files)) (sym pairs-new) (stored none t);
  }

  module _ (none : l.fault ≡ None) where
    -- up to the disk of a number
    pub tables-below : (place number-there : ℕ) → slice_get (volume_numbers what.plan) place ≡ Some number-there → WroteTablesTo (infos_made l.files) place l.disks new
        → WroteTablesBelow g what files (infos_made l.files) number-there ended
    tables-below place number-there at to = record {
      left = leaves none;
      below = λ i d there lower.
          let here : slice_get new i ≡ Some d = ap (λ (ds : List (ℕ × DiskSeen)). slice_get ds i) (sym pairs-new) ∙ there in
          to.before i d (lower-before what.plan i place d.0 number-there (ap (λ (ns : List ℕ). slice_get ns i) (sym numbers-new) ∙ at-map number new i d here) at lower) here;
      above = λ t i sp d si di.
          let given = given-first t i sp d si di in
          let x = in-map (λ (p : ℕ × DiskSeen). p.1) new i d di in (
            given.0,
            given.1,
            λ block first.
                let behind = lower-before what.plan place i number-there (volume_number sp) at (at-map volume_number (setup_volumes what.plan.setup) i sp si) first.0 in
                subst (λ (b : ℕ). block_told d.content b ≡ block_told given.0.content b) (sym first.1) (given.2
                (λ y there. let one : x.0 ≡ y = same_Some x.0 y (sym x.1 ∙ to.behind i behind ∙ there) in
                ap (λ (q : DiskSeen). block_told q.content 0) (sym x.2) ∙ ap (λ (q : ℕ × DiskSeen). block_told q.1.content 0) one)),
          );
    }

    -- up to the last disk
    pub all-tables : SayTables new (infos_made l.files) → WroteTablesAlone g what files (infos_made l.files) 8 ended
    all-tables say = record {
      written = record {
        left = leaves none;
        below = λ i d there lower. say i d (ap (λ (ds : List (ℕ × DiskSeen)). slice_get ds i) (sym pairs-new) ∙ there);
        above = λ t i sp d si di.
            let given = given-first t i sp d si di in
            (given.0, given.1, λ block first. let low = low-volume i sp d si di in let high = first.0 in absurd (omega (arith, low, high)));
      };
      next = λ t i sp d si di.
          let given = given-first t i sp d si di in
          (given.0, given.1, λ block first. let low = low-volume i sp d si di in let eight = first.0 in absurd (omega (arith, low, eight)));
    }

    -- up to a place, and nothing else
    pub some-tables : (place : ℕ) → WroteTablesAt (infos_made l.files) place l.disks new → (n : ℕ) × WroteTablesAlone g what files (infos_made l.files) n ended
    some-tables place to = by_number (slice_get (volume_numbers what.plan) place) refl
      where
        by_number : (o : Option ℕ) → slice_get (volume_numbers what.plan) place ≡ o → (n : ℕ) × WroteTablesAlone g what files (infos_made l.files) n ended
        by_number (Some n) at = (
          n,
          record {
            written = tables-below place n at (record { before = to.before; behind = λ i past. to.behind i (omega (arith, past)) });
            next = λ t i sp d si di.
                let given = given-first t i sp d si di in
                let x = in-map (λ (p : ℕ × DiskSeen). p.1) new i d di in (
                  given.0,
                  given.1,
                  λ block first.
                      let here = same-place what.plan i place (volume_number sp) n (at-map volume_number (setup_volumes what.plan.setup) i sp si) at first.0 in
                      subst (λ (b : ℕ). block_told d.content b ≡ block_told given.0.content b) (sym first.1) (given.2
                      (λ y there. let one : x.0 ≡ y = same_Some x.0 y (sym x.1 ∙ to.behind i (omega (arith, here)) ∙ there) in
                      ap (λ (q : DiskSeen). block_told q.content 0) (sym x.2) ∙ ap (λ (q : ℕ × DiskSeen). block_told q.1.content 0) one)),
                );
          },
        )
        by_number None past = (8, all-tables (λ i d there. to.before i d (before i d there) there))
          where
            before : (i : ℕ) (d : ℕ × DiskSeen) → slice_get new i ≡ Some d → i < place
            before i d there =
                let at : slice_get (volume_numbers what.plan) i ≡ Some d.0 = ap (λ (ns : List ℕ). slice_get ns i) (sym numbers-new) ∙ at-map number new i d there in
                let lt = slice_get_within (volume_numbers what.plan) i d.0 at in
                let le = past-get (volume_numbers what.plan) place past in
                omega (arith, lt, le)

  -- the files were closed
  pub closes : l.fault ≡ None → SayTables new (infos_made l.files) → ClosesFiles g what files (infos_made l.files) ended
  closes none tables = record { left = leaves none; tables = subst (λ (d : List (ℕ × DiskSeen)). SayTables d (infos_made l.files)) (sym pairs-new) tables }

  -- the bytes that were read back
  pub closed-bytes : l.fault ≡ None → HaveDisks l.files new → (shown : ℕ → List ℕ) → AreFilesBytes (infos_made l.files) new shown → AreClosedBytes g what files (infos_made l.files) ended shown
  closed-bytes none have shown are = record {
    lengths = are.lengths;
    told = λ t k info at.
        let v = in-map (λ (v : VnodeSeen). v.info) l.files.files k info at in
        let there = have.there k v.0 v.1 in
        let disk : ℕ × DiskSeen = (v.0.info.disk, there.1) in
        let told = All-slice_get (λ (d : DiskSeen). IsSome d.content) (bare_disks new) there.0 there.1 t.each (at-map (λ (p : ℕ × DiskSeen). p.1) new there.0 disk there.2) in
        let own : info.disk ≡ v.0.info.disk = ap (λ (i : FileInfo). i.disk) (sym v.2) in
        both there.1.content (shown k) _ info told (are.told there.0 k disk info there.2 at own)
        (subst (λ (i : FileInfo). IfSome there.1.content (λ blocks. stored_bytes blocks i ≡ flat_bytes
        (flat_closed what files (bare_disks new) l.history.entries).files k)) (at-place (infos_made l.files) k info at)
        (stored none t there.0 k disk there.2 (within (infos_made l.files) k info at) (ap (λ (i : FileInfo). i.disk) (at-place (infos_made l.files) k info at) ∙ own)));
  }
    where
      at-place : (infos : List FileInfo) (k : ℕ) (info : FileInfo) → slice_get infos k ≡ Some info → info_at infos k ≡ info
      at-place [] k info at = absurd (none-some info at)
      at-place (i ∷ infos) zero info at = same_Some i info at
      at-place (i ∷ infos) (suc k) info at = at-place infos k info at

      within : (infos : List FileInfo) (k : ℕ) (info : FileInfo) → slice_get infos k ≡ Some info → k < length infos
      within [] k info at = absurd (none-some info at)
      within (i ∷ infos) zero info at = omega arith
      within (i ∷ infos) (suc k) info at = let lt = within infos k info at in omega (arith, lt)

      both : (content : Option (List (List ℕ))) (x y : List ℕ) (info : FileInfo) → IsSome content → IfSome content (λ blocks. stored_bytes blocks info ≡ x)
          → IfSome content (λ blocks. stored_bytes blocks info ≡ y) → x ≡ y
      both None x y info some p q = absurd (false≢true some)
      both (Some blocks) x y info some p q = sym p ∙ q

  -- a fault of a disk that came back, counted since the kernel was closed
  pub late-cause : (f : DiskFault) (i : ℕ) (disk : DiskSeen) → f.disk < 8 → HaveDisks l.files new → slice_get new i ≡ Some (f.disk, disk) → f.after ≡ disk.faults
      → ((count : ℕ) × (slice_index_or l.history.faults f.disk None ≡ Some count) × (count ≤ f.before)) → HasLateCause what.plan l.history (bare_disks new) l.swap f
  late-cause f i disk low have at last since = record {
    counted = record {
      risen = f.risen;
      disk = disk;
      back = ap (λ b. if◌then◌else◌ b l.swap (lookup (λ m. m == f.disk) (volumes_of what.plan (bare_disks new)))) (other f.disk low)
          ∙ ap (lookup (λ m. m == f.disk)) pairs-new ∙ lookup-at f.disk new i disk (λ j k x y xj yk is. have.numbers j k x y xj yk is) at;
      last = last;
    };
    since = since;
  }
    where
      other : (n : ℕ) → n < 8 → (n == 8) ≡ false
      other n lt = elim (eqb_tells n 8) [ inl same ↦ absurd (let e = same.1 in omega (arith, lt, e)) | inr differ ↦ differ.0 ]
