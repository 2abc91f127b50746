-- What placing comes to, step by step.
use Rattle.std.specs.Prelude.{ℕ, ◌≡◌, ◌<◌, ◌≤◌, ◌+◌, Bool, List, [], ◌∷◌, ◌++◌, length, drop, map, Option, Result, Ok, Err, All, if◌then◌else◌}
use Rattle.std.specs.Ordering.{nat_cmp}
use Rattle.std.specs.FinMap as finite
use Rattle.std.proofs.Common.{ap, ◌∙◌, sym, subst, refl, arith, length-append}
use Rattle.std.proofs.Math.Seq.{drop-append_seam}
use Rattle.std.proofs.lemmas.Bool.{lt-ltb, le-ltb}
use Rattle.std.proofs.lemmas.List.{length-map, append_cancel_left, append-nil}
use Rattle.block_device.specs.DiskSeen.{DiskSeen}
use Rattle.block_device.specs.OpenSeen.{OpenFaultSeen}
use Rattle.block_device.specs.declared.numbered.NumberedDisk.{NumberedDisk}
use Rattle.block_device.specs.declared.rack.Spec.{Spec}
use Rattle.volume_disks.specs.declared.volume_spec.VolumeSpec.{VolumeSpec}
use Rattle.volume_format.specs.vnode_files.Files.{FilesSeen, block_count}
use Rattle.volume_format.specs.vnode_files.Vnode.{VnodeSeen, fresh_vnode}
use Rattle.volume_format.specs.Table.{TableSeen}
use Rattle.volume_format.specs.Volume.{IsVolumeTable}
use Rattle.vm_report.specs.vm_script.declared.plan.SetupLine.{SetupLine}
use Rattle.volume_files.specs.declared.stops.Refusal.{Refusal}
use Rattle.volume_files.specs.declared.stops.Refusal.TheVariants as refusal
use Rattle.volume_files.specs.declared.table_files.PlaceStop.{PlaceStop}
use Rattle.volume_files.specs.declared.table_files.PlaceStop.TheVariants as stop
use Rattle.volume_files.specs.Attached.{AreMounted}
use Rattle.stored_files.specs.Written.{numbered_seen}
use Rattle.volume_files.specs.Opened.{OpenedFile, infos_of, if_few, new_file, with_line_files, mounted_infos}
use Rattle.volume_files.specs.Handed.{SpareBlock}
use Rattle.volume_files.specs.Placing.{KeepThere, Distinct, Gave, HasOpened, HavePlaces, IsPlaceable, IsFaultThere, IsTooMany, LieRight, Stopped, PlaceStopped}
use Rattle.volume_files.specs.Placing.{attached_numbers, found_files, line_files, sizes_by_number, with_infos}
use Rattle.volume_files.proofs.OpenLemmas.{infos-found}
use Rattle.volume_files.proofs.FileLineLemmas.{length-made}
use Rattle.volume_files.proofs.LawLemmas.{holding-lines}
use Rattle.volume_files.proofs.LineLemmas.{KeptByLines, HoldsItsBytes, lines_keep}
use Rattle.volume_files.proofs.MountedLaws.{all_then}
use Rattle.volume_files.proofs.PlacedLemmas.{CountsAre, PlacedBehind, all_sized, counts-are, have-places, line_files-are, mounted-right, mounted-volumes, numbers-seen, placed_kept, sizes-seen}

-- the files that the tables give are those that are found
pub found-infos : {D : Type 0} (seen : D → DiskSeen) (ds : List (NumberedDisk D)) (ts : List TableSeen)
    → infos_of (found_files (map (numbered_seen seen) ds) ts) ≡ mounted_infos (attached_numbers ds) ts
found-infos seen ds ts = infos-found (map (numbered_seen seen) ds) ts ∙ ap (λ (ns : List ℕ). mounted_infos ns ts) (numbers-seen seen ds)

pub mounted-opened : {D : Type 0} (seen : D → DiskSeen) (ds : List (NumberedDisk D)) (ts : List TableSeen) (start files : FilesSeen) → start.files ≡ []
    → files ≡ with_infos start (mounted_infos (attached_numbers ds) ts) → HasOpened files (found_files (map (numbered_seen seen) ds) ts)
mounted-opened seen ds ts start files none is =
    ap (λ (s : FilesSeen). s.files) is ∙ ap (λ (vs : List VnodeSeen). vs ++ map fresh_vnode (mounted_infos (attached_numbers ds) ts)) none
    ∙ ap (map fresh_vnode) (sym (found-infos seen ds ts))

pub length-found : {D : Type 0} (seen : D → DiskSeen) (ds : List (NumberedDisk D)) (ts : List TableSeen)
    → length (found_files (map (numbered_seen seen) ds) ts) ≡ length (mounted_infos (attached_numbers ds) ts)
length-found seen ds ts = sym (length-map (found_files (map (numbered_seen seen) ds) ts) (λ (f : OpenedFile). f.info)) ∙ ap length (found-infos seen ds ts)

-- few files are taken, and many aren't
pub few-taken : (files : List OpenedFile) → length files ≤ 64 → if_few (Ok files) ≡ Ok files
few-taken files few = ap (λ (t : Bool). if t then Err (refusal.Rule 10) else Ok files) (le-ltb 64 (length files) few)

pub many-refused : (files : List OpenedFile) → 64 < length files → if_few (Ok files) ≡ Err (refusal.Rule 10)
many-refused files many = ap (λ (t : Bool). if t then Err (refusal.Rule 10) else Ok files) (lt-ltb 64 (length files) many)

-- what a stop says: of the tables, of the lines, of the disks
pub stop-mounting : {D : Type 0} (seen : D → DiskSeen) (sizes : ℕ → ℕ) (files : List OpenedFile) (setup : List SetupLine) (ds : List (NumberedDisk D))
    (total : ℕ) (e : PlaceStop) → total ≡ length files
    → IsTooMany total e → PlaceStopped seen (length files) (with_line_files sizes (if_few (Ok files)) setup) ds ds e
stop-mounting seen sizes files setup ds total stop.Memory count h = refl
stop-mounting seen sizes files setup ds total (stop.Rule n) count h = (
  ap (λ (r : Result (List OpenedFile) Refusal). with_line_files sizes r setup) (many-refused files (omega (arith, count, h.1)))
      ∙ ap (λ k. Err (refusal.Rule k)) (sym h.0),
  refl,
)
stop-mounting seen sizes files setup ds total (stop.Fault f) count h = absurd h

pub stop-lines : {D : Type 0} (seen : D → DiskSeen) (sizes : ℕ → ℕ) (files : List OpenedFile) (setup : List SetupLine) (ds : List (NumberedDisk D)) (e : PlaceStop) → length files ≤ 64
    → Stopped (with_line_files sizes (Ok files) setup) e → PlaceStopped seen (length files) (with_line_files sizes (if_few (Ok files)) setup) ds ds e
stop-lines seen sizes files setup ds stop.Memory few h = refl
stop-lines seen sizes files setup ds (stop.Rule n) few h = (ap (λ (r : Result (List OpenedFile) Refusal). with_line_files sizes r setup) (few-taken files few) ∙ h, refl)
stop-lines seen sizes files setup ds (stop.Fault f) few h = absurd h

-- the files of the tables lie well
pub mounted-lies : {D : Type 0} (seen : D → DiskSeen) (holds : Spec → Option (List (List ℕ))) (specs : List VolumeSpec) (old : List (NumberedDisk D)) (ts : List TableSeen)
    → AreMounted holds specs (map (numbered_seen seen) old) ts → Distinct (attached_numbers old)
    → LieRight (record { disks = finite.from_entries (sizes_by_number seen old); files = map fresh_vnode (mounted_infos (attached_numbers old) ts) })
mounted-lies seen holds specs old ts m distinct =
    let ds = map (numbered_seen seen) old in
    let volumes = all_then (λ (t : TableSeen). IsVolumeTable t × (t.blocks ≤ 16384)) IsVolumeTable ts (λ t h. h.0) (mounted-volumes holds specs ds ts m).0 in
    let counts = counts-are holds specs ds ts m (subst Distinct (sym (numbers-seen seen old)) distinct) in
    let numbered : CountsAre (finite.from_entries (map (λ (d : ℕ × DiskSeen). (d.0, d.1.size)) ds)) (attached_numbers old) ts =
    subst (λ (ns : List ℕ). CountsAre (finite.from_entries (map (λ (d : ℕ × DiskSeen). (d.0, d.1.size)) ds)) ns ts) (numbers-seen seen old) counts in
    mounted-right (finite.from_entries (sizes_by_number seen old)) (attached_numbers old) ts
    (subst (λ (xs : List (ℕ × ℕ)). CountsAre (finite.from_entries xs) (attached_numbers old) ts) (sizes-seen seen old) numbered) distinct volumes

-- what the lines give, where they break no rule
pub gave-ok : (new : FilesSeen) (r : Result (List OpenedFile) Refusal) → Gave new r → (after : List OpenedFile) × (r ≡ Ok after) × HasOpened new after
gave-ok new (Ok after) has = (after, refl, has)
gave-ok new (Err e) has = absurd has

pub stop-writing : {D : Type 0} (seen : D → DiskSeen) (sizes : ℕ → ℕ) (files : List OpenedFile) (setup : List SetupLine) (old new : List (NumberedDisk D)) (made : FilesSeen) (f : OpenFaultSeen)
    → length files ≤ 64 → Gave made (with_line_files sizes (Ok files) setup) → IsFaultThere seen new f → KeepThere seen (SpareBlock (line_files made (length files) setup)) old new
    → PlaceStopped seen (length files) (with_line_files sizes (if_few (Ok files)) setup) old new (stop.Fault f)
stop-writing seen sizes files setup old new made f few gave there keep =
    let r = gave-ok made (with_line_files sizes (Ok files) setup) gave in
    let are : r.0 ≡ files ++ line_files made (length files) setup = line_files-are sizes made setup files r.0 (length files) refl r.1 r.2 in
    let behind : drop (length files) r.0 ≡ line_files made (length files) setup = ap (drop (length files)) are ∙ drop-append_seam files (line_files made (length files) setup) in (
      there,
      (
        r.0,
        ap (λ (q : Result (List OpenedFile) Refusal). with_line_files sizes q setup) (few-taken files few) ∙ r.1,
        subst (λ (fs : List OpenedFile). KeepThere seen (SpareBlock fs) old new) (sym behind) keep,
      ),
    )

few_kept : (sizes : ℕ → ℕ) → KeptByLines sizes HoldsItsBytes (λ (files : List OpenedFile). length files ≤ 64)
few_kept sizes files name writable disk pages bytes start law can few =
    omega (arith, can.few, length-append files (new_file name writable disk pages bytes start ∷ []))

pub record LinesGive {D : Type 0} (seen : D → DiskSeen) (old : List (NumberedDisk D)) (ts : List TableSeen) (setup : List SetupLine) (made : FilesSeen) (first : ℕ) : Type 0 where
  pub after : List OpenedFile
  pub read : with_line_files (block_count (finite.from_entries (sizes_by_number seen old))) (Ok (found_files (map (numbered_seen seen) old) ts)) setup ≡ Ok after
  pub has : HasOpened made after
  pub count : first + length (line_files made first setup) ≤ length made.files
  pub few : length made.files ≤ 64
  pub places : HavePlaces seen old (line_files made first setup)

pub lines-give : {D : Type 0} (seen : D → DiskSeen) (holds : Spec → Option (List (List ℕ))) (specs : List VolumeSpec) (old : List (NumberedDisk D))
    (ts : List TableSeen) (setup : List SetupLine) (made : FilesSeen) (first : ℕ)
    → AreMounted holds specs (map (numbered_seen seen) old) ts → Distinct (attached_numbers old) → All (λ (l : SetupLine). IsPlaceable l.act) setup
    → first ≡ length (found_files (map (numbered_seen seen) old) ts) → first ≤ 64
    → Gave made (with_line_files (block_count (finite.from_entries (sizes_by_number seen old))) (Ok (found_files (map (numbered_seen seen) old) ts)) setup)
    → LinesGive seen old ts setup made first
lines-give seen holds specs old ts setup made first m distinct placeable count few gave =
    let found = found_files (map (numbered_seen seen) old) ts in
    let sizes = block_count (finite.from_entries (sizes_by_number seen old)) in
    let lines = line_files made first setup in
    let r = gave-ok made (with_line_files sizes (Ok found) setup) gave in
    let laws = holding-lines setup placeable in
    let are : r.0 ≡ found ++ lines = line_files-are sizes made setup found r.0 first count r.1 r.2 in
    let all : length made.files ≡ length r.0 = length-made made r.0 r.2 in
    let split : length r.0 ≡ length found + length lines = ap length are ∙ length-append found lines in
    let small : length r.0 ≤ 64 = lines_keep sizes HoldsItsBytes (λ (fs : List OpenedFile). length fs ≤ 64) (few_kept sizes) setup found r.0 laws r.1 (omega (arith, count, few)) in
    let behind = lines_keep sizes HoldsItsBytes (PlacedBehind sizes found) (placed_kept sizes found) setup found r.0 laws r.1 (record { new = []; behind = sym (append-nil found); fit = tt }) in
    let same : behind.new ≡ lines = append_cancel_left found behind.new lines (sym behind.behind ∙ are) in
    record {
      after = r.0;
      read = r.1;
      has = r.2;
      count = omega (arith, all, split, count);
      few = omega (arith, all, small);
      places = subst (λ (fs : List OpenedFile). HavePlaces seen old fs) same
          (have-places seen (finite.from_entries (sizes_by_number seen old)) old behind.new (all_sized seen holds specs old ts m distinct) behind.fit);
    }

-- the same, as the code has it
pub lines-given : {D : Type 0} (seen : D → DiskSeen) (holds : Spec → Option (List (List ℕ))) (specs : List VolumeSpec) (old : List (NumberedDisk D))
    (ts : List TableSeen) (setup : List SetupLine) (files made : FilesSeen) (first : ℕ)
    → AreMounted holds specs (map (numbered_seen seen) old) ts → Distinct (attached_numbers old) → All (λ (l : SetupLine). IsPlaceable l.act) setup
    → files ≡ with_infos (record { disks = finite.from_entries (sizes_by_number seen old); files = [] }) (mounted_infos (attached_numbers old) ts)
    → first ≡ length files.files → length files.files ≤ 64
    → Gave made (with_line_files (block_count files.disks) (Ok (found_files (map (numbered_seen seen) old) ts)) setup)
    → LinesGive seen old ts setup made first
lines-given seen holds specs old ts setup files made first m distinct placeable is count few gave =
    let found = found_files (map (numbered_seen seen) old) ts in
    let none : FilesSeen = record { disks = finite.from_entries (sizes_by_number seen old); files = [] } in
    let opened : HasOpened files found = mounted-opened seen old ts none files refl is in
    let disks : files.disks ≡ finite.from_entries (sizes_by_number seen old) = ap (λ (s : FilesSeen). s.disks) is in
    lines-give seen holds specs old ts setup made first m distinct placeable (count ∙ length-made files found opened) (omega (arith, count, few))
    (subst (λ (t : finite.FinMap nat_cmp ℕ). Gave made (with_line_files (block_count t) (Ok found) setup)) disks gave)
