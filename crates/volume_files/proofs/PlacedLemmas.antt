-- What mounted disks say of the files of their tables, and what the files of lines are.
use Rattle.std.specs.Prelude.{ℕ, zero, suc, ◌≡◌, ◌≢◌, ◌<◌, ◌≤◌, ◌+◌, ◌-◌, nat_le, Bool, true, false, List, [], ◌∷◌, ◌++◌, length, map, Option, Some, None}
use Rattle.std.specs.Prelude.{IsSome, is_some, IfOk, Result, Ok, Err, slice_index_or, unwrap_or, if◌then◌else◌}
use Rattle.std.specs.List.{AllByRecursion, list_any}
use Rattle.std.specs.Str.{bytes_eq}
use Rattle.std.specs.Ordering.{nat_cmp}
use Rattle.std.specs.FinMap as finite
use Rattle.std.specs.Cmp.{nat_cmp_total, unsigned_tied}
use Rattle.std.proofs.Common.{ap, ◌∙◌, sym, subst, refl, arith, length-append, cond}
use Rattle.std.proofs.lemmas.Bool.{eq-eqb, ne_eqb}
use Rattle.std.proofs.lemmas.List.{append_assoc, append-nil, length-map, get_or_at, map-append}
use Rattle.std.proofs.lemmas.List.Elements.{All-from_recursion, All-map}
use Rattle.block_device.specs.DiskSeen.{DiskSeen}
use Rattle.block_device.specs.declared.numbered.NumberedDisk.{NumberedDisk}
use Rattle.block_device.specs.declared.rack.Spec.{Spec}
use Rattle.volume_disks.specs.declared.volume_spec.VolumeSpec.{VolumeSpec}
use Rattle.vm_report.specs.flat_model.Words.{pages_in}
use Rattle.volume_format.specs.vnode_files.declared.extent.Extent.{Extent}
use Rattle.volume_format.specs.vnode_files.declared.vnode.FileInfo.{FileInfo}
use Rattle.volume_format.specs.vnode_files.Files.{FilesSeen, block_count, vnode_at}
use Rattle.volume_format.specs.vnode_files.Layout.{LieOnDisk, NoneMeet}
use Rattle.volume_format.specs.vnode_files.Vnode.{VnodeSeen, fresh_vnode, no_vnode}
use Rattle.volume_format.specs.Table.{TableSeen, empty_table, no_entry, front_block}
use Rattle.volume_format.specs.Volume.{IsVolumeTable, IsVolumeFile}
use Rattle.vm_report.specs.vm_script.declared.plan.SetupAct.{SetupAct}
use Rattle.vm_report.specs.vm_script.declared.plan.SetupAct.TheVariants as given
use Rattle.vm_report.specs.vm_script.declared.plan.SetupLine.{SetupLine}
use Rattle.volume_files.specs.declared.stops.Refusal.{Refusal}
use Rattle.volume_files.specs.declared.stops.Refusal.TheVariants as refusal
use Rattle.volume_files.specs.Attached.{AreMounted}
use Rattle.stored_files.specs.Written.{numbered_seen}
use Rattle.volume_files.specs.Opened.{OpenedFile, infos_of, names_of, new_file, extents_of_disk, place_for, with_placed, with_line_file, with_line_files, mounted_infos}
use Rattle.volume_files.specs.Placing.{Distinct, HasOpened, HaveAddable, HasPlaceOn, HasPlaces, HavePlaces, LieRight, attached_numbers, bytes_given, line_files, with_given, sizes_by_number, table_at}
use Rattle.volume_files.proofs.LineLemmas.{KeptByLines, place-run, run-free, same_Ok, err-ok, all_push, HoldsItsBytes}
use Rattle.volume_files.proofs.MountedLaws.{EachTable, all_at, all_then, mounted-each, mounted-extents, tables-apart, tables-few, table-addable, file-lies}
use Rattle.volume_files.proofs.FileLineLemmas.{extents-made}

-- numbers and sizes of attached disks
pub numbers-seen : {D : Type 0} (seen : D → DiskSeen) (ds : List (NumberedDisk D)) → map (λ (d : ℕ × DiskSeen). d.0) (map (numbered_seen seen) ds) ≡ attached_numbers ds
numbers-seen seen [] = refl
numbers-seen seen (d ∷ ds) = λ i. d.number ∷ numbers-seen seen ds i

pub sizes-seen : {D : Type 0} (seen : D → DiskSeen) (ds : List (NumberedDisk D)) → map (λ (d : ℕ × DiskSeen). (d.0, d.1.size)) (map (numbered_seen seen) ds) ≡ sizes_by_number seen ds
sizes-seen seen [] = refl
sizes-seen seen (d ∷ ds) = λ i. (d.number, (seen d.disk).size) ∷ sizes-seen seen ds i

-- Each disk of these numbers has as many blocks as its table says.
abbrev pub CountsAre : finite.FinMap nat_cmp ℕ → List ℕ → List TableSeen → Type 0
CountsAre m [] ts = Unit {0}
CountsAre m (n ∷ ns) [] = Unit {0}
CountsAre m (n ∷ ns) (t ∷ ts) = (finite.get m n ≡ Some t.blocks) × CountsAre m ns ts

counts_beside : (m : finite.FinMap nat_cmp ℕ) (k size : ℕ) (ns : List ℕ) (ts : List TableSeen) → AllByRecursion (λ n. k ≢ n) ns → CountsAre m ns ts → CountsAre (finite.insert m k size) ns ts
counts_beside m k size [] ts other counts = tt
counts_beside m k size (n ∷ ns) [] other counts = tt
counts_beside m k size (n ∷ ns) (t ∷ ts) other counts = (
  finite.get-insert nat_cmp_total m k size n
      ∙ ap (λ b. cond b (Some size) (finite.get m n)) (unsigned_tied n k ∙ ne_eqb n k (λ e. other.0 (sym e))) ∙ counts.0,
  counts_beside m k size ns ts other.1 counts.1,
)

pub counts-are : (holds : Spec → Option (List (List ℕ))) (specs : List VolumeSpec) (ds : List (ℕ × DiskSeen)) (ts : List TableSeen) → AreMounted holds specs ds ts
    → Distinct (map (λ (d : ℕ × DiskSeen). d.0) ds)
    → CountsAre (finite.from_entries (map (λ (d : ℕ × DiskSeen). (d.0, d.1.size)) ds)) (map (λ (d : ℕ × DiskSeen). d.0) ds) ts
counts-are holds specs [] ts m distinct = tt
counts-are holds specs (d ∷ ds) [] m distinct = tt
counts-are holds [] (d ∷ ds) (t ∷ ts) m distinct = absurd m
counts-are holds (s ∷ specs) (d ∷ ds) (t ∷ ts) m distinct =
    let rest : finite.FinMap nat_cmp ℕ = finite.from_entries (map (λ (e : ℕ × DiskSeen). (e.0, e.1.size)) ds) in (
      finite.get-insert nat_cmp_total rest d.0 d.1.size d.0 ∙ ap (λ b. cond b (Some d.1.size) (finite.get rest d.0)) (unsigned_tied d.0 d.0
          ∙ eq-eqb d.0 d.0 refl) ∙ ap (λ (n : ℕ). Some n) (sym m.0.blocks),
      counts_beside rest d.0 d.1.size (map (λ (e : ℕ × DiskSeen). e.0) ds) ts distinct.0 (counts-are holds specs ds ts m.1 distinct.1),
    )

-- what mounted disks say of their tables
pub mounted-volumes : (holds : Spec → Option (List (List ℕ))) (specs : List VolumeSpec) (ds : List (ℕ × DiskSeen)) (ts : List TableSeen) → AreMounted holds specs ds ts
    → AllByRecursion (λ t. IsVolumeTable t × (t.blocks ≤ 16384)) ts × (length ts ≡ length ds)
mounted-volumes holds [] [] [] m = (tt, refl)
mounted-volumes holds [] [] (t ∷ ts) m = absurd m
mounted-volumes holds [] (d ∷ ds) ts m = absurd m
mounted-volumes holds (s ∷ specs) [] ts m = absurd m
mounted-volumes holds (s ∷ specs) (d ∷ ds) [] m = absurd m
mounted-volumes holds (s ∷ specs) (d ∷ ds) (t ∷ ts) m =
    let rest = mounted-volumes holds specs ds ts m.1 in
    let small : t.blocks ≤ 16384 = omega (arith, m.0.blocks, m.0.few) in
    (((m.0.volume, small), rest.0), ap suc rest.1)

pub at_index : {X : Type 0} (P : X → Type 0) (xs : List X) (i : ℕ) (d : X) → AllByRecursion P xs → i < length xs → P (slice_index_or xs i d)
at_index P [] i d all below = absurd (omega (arith, below))
at_index P (x ∷ xs) zero d all below = all.0
at_index P (x ∷ xs) (suc i) d all below = at_index P xs i d all.1 (omega (arith, below))

pub mounted-addable : (ts : List TableSeen) → AllByRecursion (λ t. IsVolumeTable t × (t.blocks ≤ 16384)) ts → HaveAddable ts
mounted-addable ts all i below = let t = at_index (λ t. IsVolumeTable t × (t.blocks ≤ 16384)) ts i (empty_table 0) all below in table-addable (table_at ts i) t.0 t.1

-- the files of tables lie well
each_set : (m : finite.FinMap nat_cmp ℕ) (ns : List ℕ) (ts : List TableSeen) → CountsAre m ns ts → EachTable (λ i. IsSome (finite.get m i.disk)) ns ts
each_set m [] ts counts = tt
each_set m (n ∷ ns) [] counts = tt
each_set m (n ∷ ns) (t ∷ ts) counts =
    let some : IsSome (finite.get m n) = ap is_some counts.0 in
    (all_at (λ (e : FileInfo). IsSome (finite.get m n)) t.entries no_entry (λ i below. some), each_set m ns ts counts.1)

each_lies : (m : finite.FinMap nat_cmp ℕ) (ns : List ℕ) (ts : List TableSeen) → CountsAre m ns ts → AllByRecursion IsVolumeTable ts → EachTable (λ i. LieOnDisk (block_count m i.disk) i.extents) ns ts
each_lies m [] ts counts v = tt
each_lies m (n ∷ ns) [] counts v = tt
each_lies m (n ∷ ns) (t ∷ ts) counts v =
    let size : block_count m n ≡ t.blocks = ap (λ (o : Option ℕ). unwrap_or o 0) counts.0 in (
      all_then (IsVolumeFile t.blocks) (λ (e : FileInfo). LieOnDisk (block_count m n) e.extents) t.entries (λ e is. subst (λ b. LieOnDisk b e.extents) (sym size) (file-lies t.blocks e is))
          (all_at (IsVolumeFile t.blocks) t.entries no_entry v.0.files),
      each_lies m ns ts counts.1 v.1,
    )

pub mounted-right : (m : finite.FinMap nat_cmp ℕ) (ns : List ℕ) (ts : List TableSeen) → CountsAre m ns ts → Distinct ns → AllByRecursion IsVolumeTable ts
    → LieRight (record { disks = m; files = map fresh_vnode (mounted_infos ns ts) })
mounted-right m ns ts counts distinct v =
    let infos = mounted_infos ns ts in
    record {
      set = All-map (λ (w : VnodeSeen). IsSome (finite.get m w.info.disk)) fresh_vnode infos
          (All-from_recursion (λ (i : FileInfo). IsSome (finite.get m i.disk)) infos (mounted-each (λ i. IsSome (finite.get m i.disk)) ns ts (each_set m ns ts counts)));
      on_disks = All-map (λ (w : VnodeSeen). LieOnDisk (block_count m w.info.disk) w.info.extents) fresh_vnode infos
          (All-from_recursion (λ (i : FileInfo). LieOnDisk (block_count m i.disk) i.extents) infos (mounted-each (λ i. LieOnDisk (block_count m i.disk) i.extents) ns ts (each_lies m ns ts counts v)));
      apart = λ d. subst NoneMeet (sym (extents-made d infos)) (mounted-extents NoneMeet d ns ts (λ b. omega arith) distinct (tables-apart ts v));
      few = λ d. subst (λ (es : List Extent). length es ≤ 252) (sym (extents-made d infos)) (mounted-extents (λ es. length es ≤ 252) d ns ts (omega arith) distinct (tables-few ts v));
    }

-- What a line adds to files: nothing, or one file with the bytes that it gives.
abbrev pub AddsGiven : List OpenedFile → Option (List ℕ) → List OpenedFile → Type 0
AddsGiven before None after = after ≡ before
AddsGiven before (Some bytes) after = (f : OpenedFile) × (f.bytes ≡ bytes) × (after ≡ before ++ f ∷ [])

placed_adds : (before : List OpenedFile) (name : List ℕ) (writable : Bool) (disk pages : ℕ) (bytes : List ℕ) (place : Option ℕ)
    → IfOk (with_placed before (new_file name writable disk pages bytes) place) (AddsGiven before (Some bytes))
placed_adds before name writable disk pages bytes None = tt
placed_adds before name writable disk pages bytes (Some start) = (new_file name writable disk pages bytes start, refl, refl)

file_adds : (sizes : ℕ → ℕ) (before : List OpenedFile) (name : List ℕ) (writable : Bool) (disk pages : ℕ) (bytes : List ℕ)
    → IfOk (with_line_file sizes before (given.File name writable disk pages bytes)) (AddsGiven before (Some bytes))
file_adds sizes before name writable disk pages bytes =
    let place = place_for (sizes disk) (extents_of_disk disk (infos_of before)) pages in
    let placed = with_placed before (new_file name writable disk pages bytes) place in
    elim (nat_le 64 (length before)) as (λ (t : Bool). IfOk
    (if t then Err (refusal.Rule 10) else if list_any (bytes_eq name) (names_of before) then Err (refusal.Rule 11) else placed) (AddsGiven before (Some bytes))) [
      | true ↦ tt
      | false ↦ elim (list_any (bytes_eq name) (names_of before)) as (λ (t : Bool). IfOk (if t then Err (refusal.Rule 11) else placed) (AddsGiven before (Some bytes))) [
        | true ↦ tt
        | false ↦ placed_adds before name writable disk pages bytes place
      ]
    ]

act_adds : (sizes : ℕ → ℕ) (before : List OpenedFile) (act : SetupAct) → IfOk (with_line_file sizes before act) (AddsGiven before (bytes_given act))
act_adds sizes before (given.Frames n) = refl
act_adds sizes before (given.Swap n) = refl
act_adds sizes before (given.Translations n) = refl
act_adds sizes before (given.Join disk other mirror) = refl
act_adds sizes before (given.Blank disk blocks) = refl
act_adds sizes before (given.Path disk path) = refl
act_adds sizes before (given.File name writable disk pages bytes) = file_adds sizes before name writable disk pages bytes

-- the record of a file by its place
made-at : (made : FilesSeen) (after before more : List OpenedFile) (f : OpenedFile) → HasOpened made after → after ≡ before ++ f ∷ more → (vnode_at made (length before)).info ≡ f.info
made-at made after before more f has is =
    let split : made.files ≡ map fresh_vnode (infos_of before) ++ fresh_vnode f.info ∷ map fresh_vnode (infos_of more) =
    has ∙ ap (λ (fs : List OpenedFile). map fresh_vnode (infos_of fs)) is
    ∙ ap (map fresh_vnode) (map-append (λ (g : OpenedFile). g.info) before (f ∷ more)) ∙ map-append fresh_vnode (infos_of before) (f.info ∷ infos_of more) in
    let long : length (map fresh_vnode (infos_of before)) ≡ length before = length-map (infos_of before) fresh_vnode ∙ length-map before (λ (g : OpenedFile). g.info) in
    ap (λ (v : VnodeSeen). v.info) (ap (λ (vs : List VnodeSeen). slice_index_or vs (length before) no_vnode) split
    ∙ get_or_at (map fresh_vnode (infos_of before)) (fresh_vnode f.info) (map fresh_vnode (infos_of more)) no_vnode (length before) long)

-- the files of lines stand behind those that were there
pub line_files-are : (sizes : ℕ → ℕ) (made : FilesSeen) (setup : List SetupLine) (before after : List OpenedFile) (k : ℕ) → k ≡ length before
    → with_line_files sizes (Ok before) setup ≡ Ok after → HasOpened made after → after ≡ before ++ line_files made k setup
line_files-are sizes made [] before after k count is has = sym (same_Ok before after is) ∙ sym (append-nil before)
line_files-are sizes made (l ∷ setup) before after k count is has =
    elim (with_line_file sizes before l.act) as (λ (r : Result (List OpenedFile) Refusal). IfOk r (AddsGiven before (bytes_given l.act)) → with_line_files sizes r setup ≡ Ok after
    → after ≡ before ++ line_files made k (l ∷ setup)) [
      | Ok next ↦ λ adds rest. elim (bytes_given l.act) as (λ (o : Option (List ℕ)). AddsGiven before o next
          → after ≡ before ++ with_given o (vnode_at made k).info (line_files made (k + 1) setup) (line_files made k setup)) [
            | None ↦ λ same. line_files-are sizes made setup before after k count (subst (λ (fs : List OpenedFile). with_line_files sizes (Ok fs) setup ≡ Ok after) same rest) has
            | Some bytes ↦ λ add.
                let f = add.0 in
                let more = line_files made (k + 1) setup in
                let long : k + 1 ≡ length next = omega (arith, count, ap length add.2, length-append before (f ∷ [])) in
                let all : after ≡ before ++ f ∷ more =
                line_files-are sizes made setup next after (k + 1) long rest has ∙ ap (λ (fs : List OpenedFile). fs ++ more) add.2 ∙ append_assoc before (f ∷ []) more in
                let info : f.info ≡ (vnode_at made k).info = sym (made-at made after before more f has all) ∙ ap (λ n. (vnode_at made n).info) (sym count) in
                let same : ◌≡◌ {A = OpenedFile} f (record { info = (vnode_at made k).info; bytes = bytes }) = λ i. record { info = info i; bytes = add.1 i } in
                all ∙ ap (λ (g : OpenedFile). before ++ g ∷ more) same
          ] adds
      | Err e ↦ λ adds rest. absurd (err-ok e after rest)
    ] (act_adds sizes before l.act) is

-- The files behind some, whose pages lie on their disks.
pub record PlacedBehind (sizes : ℕ → ℕ) (before files : List OpenedFile) : Type 0 where
  pub new : List OpenedFile
  pub behind : files ≡ before ++ new
  pub fit : AllByRecursion (λ (f : OpenedFile). front_block f.info.extents + pages_in (length f.bytes) ≤ sizes f.info.disk) new

pub placed_kept : (sizes : ℕ → ℕ) (before : List OpenedFile) → KeptByLines sizes HoldsItsBytes (PlacedBehind sizes before)
placed_kept sizes before files name writable disk pages bytes start law can p =
    let f = new_file name writable disk pages bytes start in
    let used = extents_of_disk disk (infos_of files) in
    let last : start + pages - 1 < sizes disk = (run-free (sizes disk) used pages start (place-run (sizes disk) used pages start can.place) (start + pages - 1)
    (omega (arith, law.0)) (omega (arith, law.0))).0 in
    let fits : start + pages_in (length bytes) ≤ sizes disk = omega (arith, last, law.0, law.1) in
    record {
      new = p.new ++ f ∷ [];
      behind = ap (λ (xs : List OpenedFile). xs ++ f ∷ []) p.behind ∙ append_assoc before p.new (f ∷ []);
      fit = all_push (λ (g : OpenedFile). front_block g.info.extents + pages_in (length g.bytes) ≤ sizes g.info.disk) p.new f p.fit fits;
    }

-- A disk was set with its size, which is neither too small nor too large.
abbrev pub IsSized : {D : Type 0} → (D → DiskSeen) → finite.FinMap nat_cmp ℕ → NumberedDisk D → Type 0
IsSized seen m d = (finite.get m d.number ≡ Some (seen d.disk).size) × ((seen d.disk).size ≤ 16384) × (2 ≤ (seen d.disk).size)

sized_beside : {D : Type 0} (seen : D → DiskSeen) (m : finite.FinMap nat_cmp ℕ) (k size : ℕ) (ds : List (NumberedDisk D)) → AllByRecursion (λ n. k ≢ n) (attached_numbers ds)
    → AllByRecursion (IsSized seen m) ds → AllByRecursion (IsSized seen (finite.insert m k size)) ds
sized_beside seen m k size [] other all = tt
sized_beside seen m k size (d ∷ ds) other all = (
  (
    finite.get-insert nat_cmp_total m k size d.number
        ∙ ap (λ b. cond b (Some size) (finite.get m d.number)) (unsigned_tied d.number k ∙ ne_eqb d.number k (λ e. other.0 (sym e))) ∙ all.0.0,
    all.0.1,
    all.0.2,
  ),
  sized_beside seen m k size ds other.1 all.1,
)

pub all_sized : {D : Type 0} (seen : D → DiskSeen) (holds : Spec → Option (List (List ℕ))) (specs : List VolumeSpec) (ds : List (NumberedDisk D)) (ts : List TableSeen)
    → AreMounted holds specs (map (numbered_seen seen) ds) ts → Distinct (attached_numbers ds) → AllByRecursion (IsSized seen (finite.from_entries (sizes_by_number seen ds))) ds
all_sized seen holds specs [] ts m distinct = tt
all_sized seen holds specs (d ∷ ds) [] m distinct = absurd (no_table specs m)
  where
    no_table : (specs : List VolumeSpec) → AreMounted holds specs (numbered_seen seen d ∷ map (numbered_seen seen) ds) [] → ⊥
    no_table [] h = h
    no_table (s ∷ specs) h = h
all_sized seen holds [] (d ∷ ds) (t ∷ ts) m distinct = absurd m
all_sized seen holds (s ∷ specs) (d ∷ ds) (t ∷ ts) m distinct =
    let rest : finite.FinMap nat_cmp ℕ = finite.from_entries (sizes_by_number seen ds) in
    let size = (seen d.disk).size in (
      (
        finite.get-insert nat_cmp_total rest d.number size d.number ∙ ap (λ b. cond b (Some size) (finite.get rest d.number)) (unsigned_tied d.number d.number
            ∙ eq-eqb d.number d.number refl),
        m.0.few,
        m.0.some,
      ),
      sized_beside seen rest d.number size ds distinct.0 (all_sized seen holds specs ds ts m.1 distinct.1),
    )

-- so the pages of the lines' files have places on the disks
pub have-places : {D : Type 0} (seen : D → DiskSeen) (m : finite.FinMap nat_cmp ℕ) (ds : List (NumberedDisk D)) (files : List OpenedFile) → AllByRecursion (IsSized seen m) ds
    → AllByRecursion (λ (f : OpenedFile). front_block f.info.extents + pages_in (length f.bytes) ≤ block_count m f.info.disk) files → HavePlaces seen ds files
have-places seen m ds files sized fit =
    All-from_recursion (λ (f : OpenedFile). HasPlaces seen ds f.info f.bytes) files
    (all_then (λ (f : OpenedFile). front_block f.info.extents + pages_in (length f.bytes) ≤ block_count m f.info.disk) (λ (f : OpenedFile). HasPlaces seen ds f.info f.bytes) files
    (λ f fits. All-from_recursion (HasPlaceOn seen f.info f.bytes) ds (all_then (IsSized seen m) (HasPlaceOn seen f.info f.bytes) ds (λ d size on.
    let count : block_count m f.info.disk ≡ (seen d.disk).size = ap (λ n. block_count m n) on ∙ ap (λ (o : Option ℕ). unwrap_or o 0) size.0 in
    (omega (arith, fits, count), omega (arith, fits, count, size.1))) sized)) fit)
