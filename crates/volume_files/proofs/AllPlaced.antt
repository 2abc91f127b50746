-- The files are placed: all that is promised of them.
use Rattle.vm_report.proofs.vm_script.Places.{some_none as none-or-some}
use Rattle.std.specs.Prelude.{ℕ, zero, suc, ◌≡◌, ◌≢◌, ◌<◌, ◌≤◌, nat_lt, Bool, true, false, List, [], ◌∷◌, ◌++◌, length, drop, map, slice_get, slice_index_or}
use Rattle.std.specs.Prelude.{◌==◌, Option, Some, None, IfSome, IsSome, is_some, unwrap_or, Ok, Err, All, if◌then◌else◌}
use Rattle.std.specs.List.{AllByRecursion}
use Rattle.std.specs.Ordering.{nat_cmp}
use Rattle.std.specs.FinMap as finite
use Rattle.std.specs.Cmp.{nat_cmp_total, unsigned_tied}
use Rattle.std.proofs.Common.{ap, ◌∙◌, sym, subst, refl, arith, inl, inr, cond}
use Rattle.std.proofs.lemmas.Bool.{cases_eq, eq-eqb, ne_eqb, both_ways}
use Rattle.std.proofs.lemmas.List.{length-map, get_or-map, append_cancel_left, append-nil}
use Rattle.std.proofs.lemmas.List.Elements.{All-from_recursion}
use Rattle.block_device.specs.DiskSeen.{DiskSeen, HasBlocks}
use Rattle.block_device.specs.declared.numbered.NumberedDisk.{NumberedDisk}
use Rattle.block_device.specs.declared.rack.Spec.{Spec}
use Rattle.volume_format.specs.vnode_files.declared.vnode.FileInfo.{FileInfo}
use Rattle.volume_format.specs.vnode_files.Grow.{page_count}
use Rattle.volume_format.specs.vnode_files.Files.{FilesSeen, block_count}
use Rattle.volume_format.specs.vnode_files.Vnode.{VnodeSeen, IsSoundVnode, no_vnode}
use Rattle.volume_format.specs.Table.{TableSeen, no_entry}
use Rattle.volume_format.specs.Volume.{IsVolumeTable, IsVolumeName}
use Rattle.vm_report.specs.vm_script.declared.plan.SetupLine.{SetupLine}
use Rattle.vm_report.specs.vm_script.PlanSeen.{PlanSeen}
use Rattle.vm_report.specs.vm_script.Rules.{broken_rule, amounts_of}
use Rattle.vm_report.specs.vm_script.Sound.{IsSoundSetup}
use Rattle.volume_files.specs.declared.stops.Refusal.TheVariants as refusal
use Rattle.volume_files.specs.Attached.{AreFilledBy, AreMounted, ArePlaced, HasItsBytes, IsFilledBy, bare_disks}
use Rattle.stored_files.specs.Written.{numbered_seen}
use Rattle.stored_files.specs.Closed.{StoreFiles, info_at}
use Rattle.volume_files.specs.Handed.{HandsAll, IsSwapAsGiven, IsSwapFor, SpareBlock}
use Rattle.volume_files.specs.Opened.{OpenedFile, infos_of, opened_bytes_at, setup_volumes, if_few, with_line_files}
use Rattle.stored_files.specs.Closed.{stored_bytes}
use Rattle.volume_files.specs.Placing.{KeepThere, Distinct, PlacesFiles, RemainThere, WroteEach, attached_numbers, found_files}
use Rattle.volume_files.specs.Placing.{line_files, sizes_by_number, with_file_pages}
use Rattle.stored_files.specs.Written.{disk_sizes, HaveFirstBlocks}
use Rattle.volume_files.proofs.DiskCounts.{kinds-mounted, kinds-same, kinds-still}
use Rattle.volume_files.proofs.FoundLemmas.{AllBlocks, found-good, found-stored, own-disk}
use Rattle.volume_files.proofs.GivenFiles.{comes-to}
use Rattle.volume_files.proofs.HandLemmas.{SameDisks, same-disks, same-numbers, spec-sizes, plan-numbers, mounted-numbers, same_Some}
use Rattle.volume_files.proofs.LawLemmas.{GoodFiles, LineLaw, good-kept, line-laws, holding-lines, placeable-lines}
use Rattle.volume_files.proofs.LineLemmas.{Stored, StoredBehind, stored_kept, lines_keep, err-ok, HoldsItsBytes}
use Rattle.volume_files.proofs.MountedLaws.{differ-at, all_then, all_of, all_mapped}
use Rattle.std.proofs.Math.Seq.{drop-append_seam}
use Rattle.volume_files.proofs.FilledBlocks.{wrote-filled}
use Rattle.volume_files.proofs.SparedBlocks.{each-mounted, each-written}
use Rattle.volume_files.proofs.ToldDisks.{opened-told, told-before}
use Rattle.volume_files.proofs.PlacedLemmas.{IsSized, all_sized, line_files-are, mounted-volumes, numbers-seen, sizes-seen, at_index}

-- an element by its place
get_at : {A : Type 0} (xs : List A) (i : ℕ) (x d : A) → slice_get xs i ≡ Some x → (i < length xs) × (x ≡ slice_index_or xs i d)
get_at [] i x d is = absurd (none-or-some x is)
get_at (y ∷ ys) zero x d is = (omega arith, sym (same_Some y x is))
get_at (y ∷ ys) (suc i) x d is = let r = get_at ys i x d is in (omega (arith, r.0), r.1)

-- the files that were found are few where all are placed
few-read : (sizes : ℕ → ℕ) (found after : List OpenedFile) (setup : List SetupLine) → with_line_files sizes (if_few (Ok found)) setup ≡ Ok after → with_line_files sizes (Ok found) setup ≡ Ok after
few-read sizes found after setup is =
    elim (nat_lt 64 (length found)) as (λ (t : Bool). with_line_files sizes (if t then Err (refusal.Rule 10) else Ok found) setup ≡ Ok after → with_line_files sizes (Ok found) setup ≡ Ok after) [
      | true ↦ λ many. absurd (err-ok (refusal.Rule 10) after many)
      | false ↦ λ few. few
    ] is

-- a set disk is one of the disks
pub set-disk : (ds : List (ℕ × DiskSeen)) (n blocks : ℕ) → finite.get {R = nat_cmp} (finite.from_entries (disk_sizes ds)) n ≡ Some blocks
    → (i : ℕ) × (d : DiskSeen) × (slice_get ds i ≡ Some (n, d)) × (d.size ≡ blocks)
set-disk [] n blocks is = absurd (none-or-some blocks (sym (finite.get-empty nat_cmp n) ∙ is))
set-disk (d ∷ ds) n blocks is =
    let rest : finite.FinMap nat_cmp ℕ = finite.from_entries (disk_sizes ds) in
    let size = d.1.size in
    let here : finite.get (finite.insert rest d.0 size) n ≡ cond (n == d.0) (Some size) (finite.get rest n) =
    finite.get-insert nat_cmp_total rest d.0 size n ∙ ap (λ b. cond b (Some size) (finite.get rest n)) (unsigned_tied n d.0) in
    elim (cases_eq n d.0) [
      | inl at ↦
          let found : Some size ≡ Some blocks = sym (here ∙ ap (λ b. cond b (Some size) (finite.get rest n)) (eq-eqb n d.0 at)) ∙ is in
          (0, d.1, ap (λ k. Some (k, d.1)) (sym at), same_Some size blocks found)
      | inr other ↦
          let found : finite.get rest n ≡ Some blocks = sym (here ∙ ap (λ b. cond b (Some size) (finite.get rest n)) (ne_eqb n d.0 other)) ∙ is in
          let r = set-disk ds n blocks found in
          (suc r.0, r.1, r.2, r.3)
    ]

-- the size of each disk is the one that was set
sized-there : {D : Type 0} (seen : D → DiskSeen) (m : finite.FinMap nat_cmp ℕ) (ds es : List (NumberedDisk D)) → SameDisks seen ds es → AllByRecursion (IsSized seen m) ds
    → (i : ℕ) (d : ℕ × DiskSeen) → slice_get (map (numbered_seen seen) es) i ≡ Some d → finite.get m d.0 ≡ Some d.1.size
sized-there seen m [] [] same all i d is = absurd (none-or-some d is)
sized-there seen m [] (e ∷ es) same all i d is = absurd same
sized-there seen m (x ∷ ds) [] same all i d is = absurd same
sized-there seen m (x ∷ ds) (e ∷ es) same all zero d is =
    subst (λ (q : ℕ × DiskSeen). finite.get m q.0 ≡ Some q.1.size) (same_Some (numbered_seen seen e) d is)
    (ap (finite.get m) same.0.number ∙ all.0.0 ∙ ap (λ (n : ℕ). Some n) (sym same.0.size))
sized-there seen m (x ∷ ds) (e ∷ es) same all (suc i) d is = sized-there seen m ds es same.1 all.1 i d is

-- each disk has a block
first-there : {D : Type 0} (seen : D → DiskSeen) (m : finite.FinMap nat_cmp ℕ) (ds es : List (NumberedDisk D)) → SameDisks seen ds es
    → AllByRecursion (IsSized seen m) ds → HaveFirstBlocks (map (numbered_seen seen) es)
first-there seen m [] [] same all i d is = absurd (none-or-some d is)
first-there seen m [] (e ∷ es) same all i d is = absurd same
first-there seen m (x ∷ ds) [] same all i d is = absurd same
first-there seen m (x ∷ ds) (e ∷ es) same all zero d is =
    subst (λ (q : ℕ × DiskSeen). 0 < q.1.size) (same_Some (numbered_seen seen e) d is) (omega (arith, same.0.size, all.0.2))
first-there seen m (x ∷ ds) (e ∷ es) same all (suc i) d is = first-there seen m ds es same.1 all.1 i d is

-- numbers that differ are in one place each
one-place : (ds : List (ℕ × DiskSeen)) → Distinct (map (λ (d : ℕ × DiskSeen). d.0) ds) → (i j : ℕ) (d e : ℕ × DiskSeen) → slice_get ds i ≡ Some d → slice_get ds j ≡ Some e → d.0 ≡ e.0 → i ≡ j
one-place [] distinct i j d e is at same = absurd (none-or-some d is)
one-place (x ∷ ds) distinct zero zero d e is at same = refl
one-place (x ∷ ds) distinct zero (suc j) d e is at same =
    absurd (apart ds j distinct.0 at (ap (λ (q : ℕ × DiskSeen). q.0) (same_Some x d is) ∙ same))
  where
    apart : (es : List (ℕ × DiskSeen)) (j : ℕ) → AllByRecursion (λ m. x.0 ≢ m) (map (λ (q : ℕ × DiskSeen). q.0) es) → slice_get es j ≡ Some e → x.0 ≡ e.0 → ⊥
    apart [] j ne at same = none-or-some e at
    apart (y ∷ es) zero ne at same = ne.0 (same ∙ ap (λ (q : ℕ × DiskSeen). q.0) (sym (same_Some y e at)))
    apart (y ∷ es) (suc j) ne at same = apart es j ne.1 at same
one-place (x ∷ ds) distinct (suc i) zero d e is at same =
    absurd (apart ds i distinct.0 is (ap (λ (q : ℕ × DiskSeen). q.0) (same_Some x e at) ∙ sym same))
  where
    apart : (es : List (ℕ × DiskSeen)) (j : ℕ) → AllByRecursion (λ m. x.0 ≢ m) (map (λ (q : ℕ × DiskSeen). q.0) es) → slice_get es j ≡ Some d → x.0 ≡ d.0 → ⊥
    apart [] j ne at same = none-or-some d at
    apart (y ∷ es) zero ne at same = ne.0 (same ∙ ap (λ (q : ℕ × DiskSeen). q.0) (sym (same_Some y d at)))
    apart (y ∷ es) (suc j) ne at same = apart es j ne.1 at same
one-place (x ∷ ds) distinct (suc i) (suc j) d e is at same = ap suc (one-place ds distinct.1 i j d e is at same)

-- by places
all_places : {X : Type 0} (P : X → Type 0) (xs : List X) → ((k : ℕ) (x : X) → k < length xs → x ≡ slice_index_or xs k x → P x) → AllByRecursion P xs
all_places P [] h = tt
all_places P (x ∷ xs) h = (h 0 x (omega arith) refl, all_places P xs (λ k y below is. h (suc k) y (omega (arith, below)) is))

distinct-of : {D : Type 0} (seen : D → DiskSeen) (plan : PlanSeen) (holds : Spec → Option (List (List ℕ))) (old : List (NumberedDisk D)) (ts : List TableSeen)
    → AreMounted holds (setup_volumes plan.setup) (map (numbered_seen seen) old) ts → Distinct (map (λ (d : ℕ × DiskSeen). d.0) (map (numbered_seen seen) old))
distinct-of seen plan holds old ts m =
    subst Distinct (sym (mounted-numbers holds (setup_volumes plan.setup) (map (numbered_seen seen) old) ts m)) (plan-numbers plan).1

pub distinct-attached : {D : Type 0} (seen : D → DiskSeen) (plan : PlanSeen) (holds : Spec → Option (List (List ℕ))) (old : List (NumberedDisk D)) (ts : List TableSeen)
    → AreMounted holds (setup_volumes plan.setup) (map (numbered_seen seen) old) ts → Distinct (attached_numbers old)
distinct-attached seen plan holds old ts m = subst Distinct (numbers-seen seen old) (distinct-of seen plan holds old ts m)

-- all disks are handed back
pub hands-all : {D : Type 0} (seen : D → DiskSeen) (plan : PlanSeen) (holds : Spec → Option (List (List ℕ))) (old new : List (NumberedDisk D)) (ts : List TableSeen) (swap : Option DiskSeen)
    → AreMounted holds (setup_volumes plan.setup) (map (numbered_seen seen) old) ts → IsSwapFor (amounts_of plan.setup).slots swap → RemainThere seen old new
    → HandsAll plan (bare_disks (map (numbered_seen seen) new)) swap
hands-all seen plan holds old new ts swap m serves remain = record {
  each = spec-sizes seen holds (setup_volumes plan.setup) old new ts m (same-disks seen old new remain);
  kinds = kinds-still (map (numbered_seen seen) new) (map (numbered_seen seen) old) (kinds-same seen old new (same-disks seen old new remain))
      ∙ kinds-mounted holds (setup_volumes plan.setup) (map (numbered_seen seen) old) ts m;
  first = serves;
}

-- Each disk has what it had with these files' pages.
abbrev WroteZip : {D : Type 0} → (D → DiskSeen) → List OpenedFile → List (NumberedDisk D) → List (NumberedDisk D) → Type 0
WroteZip seen lines [] es = Unit {0}
WroteZip seen lines (d ∷ ds) [] = Unit {0}
WroteZip seen lines (d ∷ ds) (e ∷ es) = ((seen e.disk).content ≡ with_file_pages d.number (seen d.disk).content lines) × WroteZip seen lines ds es

wrote-zip : {D : Type 0} (seen : D → DiskSeen) (lines : List OpenedFile) (ds es : List (NumberedDisk D)) → WroteEach seen lines ds es → WroteZip seen lines ds es
wrote-zip seen lines [] es wrote = tt
wrote-zip seen lines (d ∷ ds) [] wrote = tt
wrote-zip seen lines (d ∷ ds) (e ∷ es) wrote = (wrote 0 d (omega arith), wrote-zip seen lines ds es (λ i x below. wrote (suc i) x (omega (arith, below))))

zip-stored : {D : Type 0} (seen : D → DiskSeen) (lines after : List OpenedFile) (ds es : List (NumberedDisk D)) → SameDisks seen ds es → WroteZip seen lines ds es
    → AllByRecursion (λ (d : NumberedDisk D). AllByRecursion (Stored d.number (with_file_pages d.number (seen d.disk).content lines)) after) ds
    → AllByRecursion (λ (d : ℕ × DiskSeen). AllByRecursion (Stored d.0 d.1.content) after) (map (numbered_seen seen) es)
zip-stored seen lines after [] [] same wrote all = tt
zip-stored seen lines after [] (e ∷ es) same wrote all = absurd same
zip-stored seen lines after (d ∷ ds) [] same wrote all = absurd same
zip-stored seen lines after (d ∷ ds) (e ∷ es) same wrote all = (
  subst (λ (o : Option (List (List ℕ))). AllByRecursion (Stored e.number o) after) (sym wrote.0)
      (subst (λ n. AllByRecursion (Stored n (with_file_pages d.number (seen d.disk).content lines)) after) (sym same.0.number) all.0),
  zip-stored seen lines after ds es same.1 wrote.1 all.1,
)

long-blocks : (content : Option (List (List ℕ))) (size : ℕ) → HasBlocks content size → IfSome content (λ blocks. length blocks ≡ size)
long-blocks None size has = tt
long-blocks (Some blocks) size has = has.0

-- the files' bytes on one disk, before it is said what was written
disk-stored : (sizes : ℕ → ℕ) (found after lines : List OpenedFile) (setup : List SetupLine) (n size : ℕ) (content : Option (List (List ℕ))) → sizes n ≡ size → HasBlocks content size
    → AllByRecursion (λ (l : SetupLine). HoldsItsBytes l.act) setup → with_line_files sizes (Ok found) setup ≡ Ok after → after ≡ found ++ lines → AllByRecursion (Stored n content) found
    → AllByRecursion (Stored n (with_file_pages n content lines)) after
disk-stored sizes found after lines setup n size content sized has holds read are init =
    let start : StoredBehind n size content found found = record { new = []; behind = sym (append-nil found); long = long-blocks content size has; all = init } in
    let done = lines_keep sizes HoldsItsBytes (StoredBehind n size content found) (stored_kept sizes n size sized content found) setup found after holds read start in
    let same : done.new ≡ lines = append_cancel_left found done.new lines (sym done.behind ∙ are) in
    subst (λ (fs : List OpenedFile). AllByRecursion (Stored n (with_file_pages n content fs)) after) same done.all

pub no_opened : OpenedFile
no_opened = record { info = no_entry; bytes = [] }

-- by places
store-files : (disks : List (ℕ × DiskSeen)) (after : List OpenedFile)
    → AllByRecursion (λ (d : ℕ × DiskSeen). AllByRecursion (Stored d.0 d.1.content) after) disks → StoreFiles disks (infos_of after) (opened_bytes_at after)
store-files disks after all i k disk there inside on =
    let place = get_at disks i disk disk there in
    let own : AllByRecursion (Stored disk.0 disk.1.content) after =
    subst (λ (d : ℕ × DiskSeen). AllByRecursion (Stored d.0 d.1.content) after) (sym place.1)
    (at_index (λ (d : ℕ × DiskSeen). AllByRecursion (Stored d.0 d.1.content) after) disks i disk all place.0) in
    let below : k < length after = omega (arith, inside, length-map after (λ (f : OpenedFile). f.info)) in
    let info : info_at (infos_of after) k ≡ (slice_index_or after k no_opened).info = get_or-map (λ (f : OpenedFile). f.info) after k no_opened no_entry below in
    let bytes : opened_bytes_at after k ≡ (slice_index_or after k no_opened).bytes = get_or-map (λ (f : OpenedFile). f.bytes) after k no_opened [] below in
    let st = at_index (Stored disk.0 disk.1.content) after k no_opened own below (ap (λ (x : FileInfo). x.disk) (sym info) ∙ on) in
    subst (λ (x : FileInfo). IfSome disk.1.content (λ blocks. stored_bytes blocks x ≡ opened_bytes_at after k)) (sym info)
    (subst (λ (b : List ℕ). IfSome disk.1.content (λ blocks. stored_bytes blocks (slice_index_or after k no_opened).info ≡ b)) (sym bytes) st)

-- the disks that tell have the bytes of all files
pub all-stored : {D : Type 0} (seen : D → DiskSeen) (sizes : ℕ → ℕ) (old new : List (NumberedDisk D)) (ts : List TableSeen) (setup : List SetupLine) (lines after : List OpenedFile)
    → Distinct (map (λ (d : ℕ × DiskSeen). d.0) (map (numbered_seen seen) old)) → ((d : NumberedDisk D) → HasBlocks (seen d.disk).content (seen d.disk).size)
    → AllByRecursion (λ (d : NumberedDisk D). sizes d.number ≡ (seen d.disk).size) old
    → AllByRecursion (λ (l : SetupLine). HoldsItsBytes l.act) setup → RemainThere seen old new
    → with_line_files sizes (Ok (found_files (map (numbered_seen seen) old) ts)) setup ≡ Ok after → after ≡ found_files (map (numbered_seen seen) old) ts ++ lines
    → WroteEach seen lines old new → StoreFiles (map (numbered_seen seen) new) (infos_of after) (opened_bytes_at after)
all-stored seen sizes old new ts setup lines after distinct has sized holds remain read are wrote =
    let ds = map (numbered_seen seen) old in
    let found = found_files ds ts in
    store-files (map (numbered_seen seen) new) after
    (zip-stored seen lines after old new (same-disks seen old new remain) (wrote-zip seen lines old new wrote)
    (all_places (λ (d : NumberedDisk _). AllByRecursion (Stored d.number (with_file_pages d.number (seen d.disk).content lines)) after) old (λ k x below is.
    let inside : k < length ds = omega (arith, below, length-map old (numbered_seen seen)) in
    let at : numbered_seen seen x ≡ slice_index_or ds k (numbered_seen seen x) = ap (numbered_seen seen) is ∙ sym (get_or-map (numbered_seen seen) old k x (numbered_seen seen x) below) in
    let size : sizes x.number ≡ (seen x.disk).size =
    subst (λ (y : NumberedDisk _). sizes y.number ≡ (seen y.disk).size) (sym is) (at_index (λ (d : NumberedDisk _). sizes d.number ≡ (seen d.disk).size) old k x sized below) in
    disk-stored sizes found after lines setup x.number (seen x.disk).size (seen x.disk).content size (has x) holds read are
    (found-stored x.number (seen x.disk).content ds ts (own-disk ds k (numbered_seen seen x) distinct inside at)))))

-- the names, by places
name-at : (infos : List FileInfo) (k : ℕ) → AllByRecursion (λ (i : FileInfo). IsVolumeName i.name) infos → k < length infos → IsVolumeName (info_at infos k).name
name-at infos k all below = at_index (λ (i : FileInfo). IsVolumeName i.name) infos k no_entry all below

-- ALL FILES ARE PLACED
pub placed-all : {D : Type 0} (seen : D → DiskSeen) (plan : PlanSeen) (holds : Spec → Option (List (List ℕ))) (old new : List (NumberedDisk D))
    (ts : List TableSeen) (swap : Option DiskSeen) (files : FilesSeen)
    → ((d : NumberedDisk D) → HasBlocks (seen d.disk).content (seen d.disk).size)
    → broken_rule plan ≡ None → IsSoundSetup plan.setup
    → AreMounted holds (setup_volumes plan.setup) (map (numbered_seen seen) old) ts → IsSwapFor (amounts_of plan.setup).slots swap → IsSwapAsGiven (amounts_of plan.setup).slots swap
    → RemainThere seen old new → All IsSoundVnode files.files → length files.files ≤ 64
    → (p : PlacesFiles seen plan.setup old ts new files)
    → ArePlaced plan holds p.opened (record { disks = map (numbered_seen seen) new; tables = ts; swap = swap }) files
placed-all {D} seen plan holds old new ts swap files has kept sound m serves blank remain sound_files few p =
    let specs = setup_volumes plan.setup in
    let ds = map (numbered_seen seen) old in
    let es = map (numbered_seen seen) new in
    let found = found_files ds ts in
    let after = p.opened in
    let table : finite.FinMap nat_cmp ℕ = finite.from_entries (sizes_by_number seen old) in
    let sizes = block_count table in
    let lines = line_files files (length found) plan.setup in
    let same = same-disks seen old new remain in
    let distinct = distinct-of seen plan holds old ts m in
    let own = distinct-attached seen plan holds old ts m in
    let blocks : AllBlocks ds = all_mapped (λ (d : ℕ × DiskSeen). HasBlocks d.1.content d.1.size) (numbered_seen seen) old
    (all_of (λ (d : NumberedDisk D). HasBlocks (seen d.disk).content (seen d.disk).size) old has) in
    let volumes = all_then (λ (t : TableSeen). IsVolumeTable t × (t.blocks ≤ 16384)) IsVolumeTable ts (λ t h. h.0) (mounted-volumes holds specs ds ts m).0 in
    let read : with_line_files sizes (Ok found) plan.setup ≡ Ok after = few-read sizes found after plan.setup p.read in
    let are : after ≡ found ++ lines = line_files-are sizes files plan.setup found after (length found) refl read p.has in
    let good : GoodFiles after = lines_keep sizes LineLaw GoodFiles (good-kept sizes) plan.setup found after (line-laws plan kept sound) read
    (found-good holds specs ds ts m distinct volumes blocks) in
    let sized = all_sized seen holds specs old ts m own in
    let counts = all_then (IsSized seen table) (λ (d : NumberedDisk D). sizes d.number ≡ (seen d.disk).size) old (λ d h. ap (λ (o : Option ℕ). unwrap_or o 0) h.0) sized in
    let numbers : attached_numbers new ≡ attached_numbers old = same-numbers seen old new same in
    let sizes-now : files.disks ≡ finite.from_entries (disk_sizes es) = p.disks ∙ ap finite.from_entries (same-sizes old new same ∙ sym (sizes-seen seen new)) in
    let there : (n b : ℕ) → finite.get files.disks n ≡ Some b → (i : ℕ) × (d : DiskSeen) × (slice_get es i ≡ Some (n, d)) × (d.size ≡ b) =
    λ n b is. set-disk es n b (ap (λ (t : finite.FinMap nat_cmp ℕ). finite.get t n) (sym sizes-now) ∙ is) in
    record {
      numbers = numbers-seen seen new ∙ numbers ∙ sym (numbers-seen seen old) ∙ mounted-numbers holds specs ds ts m;
      handed = hands-all seen plan holds old new ts swap m serves remain;
      sizes = sizes-now;
      fresh = p.has;
      well = record { few_files = few; sound = sound_files; on_disks = p.lie.on_disks; apart = p.lie.apart; few = p.lie.few };
      have = record {
        there = λ k v is.
            let at = get_at files.files k v no_vnode is in
            let some : IsSome (finite.get files.disks v.info.disk) = subst (λ (w : VnodeSeen). IsSome (finite.get files.disks w.info.disk)) (sym at.1) (p.lie.set k no_vnode at.0) in
            some_there (finite.get files.disks v.info.disk) some (λ b is_b. let r = there v.info.disk b is_b in (r.0, r.1, r.2));
        sizes = λ i d is. ap (λ (t : finite.FinMap nat_cmp ℕ). finite.get t d.0) p.disks ∙ sized-there seen table old new same sized i d is;
        numbers = λ i j d e is at same_number. one-place es (subst Distinct (sym (numbers-seen seen new ∙ numbers)) own) i j d e is at same_number;
      };
      some = first-there seen table old new same sized;
      names = record { names = λ k below. name-at (infos_of after) k good.names below; differ = λ i k less below on. differ-at (infos_of after) i k good.differ less below on };
      own = All-from_recursion HasItsBytes after good.own;
      kept = All-from_recursion (λ (f : OpenedFile). 1 ≤ page_count f.info.extents) after good.kept;
      given = comes-to seen plan holds old new ts (Ok after) m same p.read;
      written = record {
        each = each-written seen (SpareBlock (drop (length found) after)) holds specs old new ts m
            (subst (λ (fs : List OpenedFile). KeepThere seen (SpareBlock fs) old new) (sym (ap (drop (length found)) are ∙ drop-append_seam found lines)) p.keep);
        last = blank;
      };
      filled = subst (λ (fs : List OpenedFile). AreFilledBy plan holds fs (bare_disks es)) (sym (ap (drop (length found)) are ∙ drop-append_seam found lines))
          (each-mounted seen (IsFilledBy lines) holds specs old new ts m (wrote-filled seen lines old new p.wrote));
      told = λ told. opened-told seen plan holds old ts (Ok after) blocks m p.read (told-before seen old new same told);
      stored = all-stored seen sizes old new ts plan.setup lines after distinct has counts (holding-lines plan.setup (placeable-lines plan kept sound)) remain read are p.wrote;
    }
  where
    some_there : {P : Type 0} (o : Option ℕ) → is_some o ≡ true → ((b : ℕ) → o ≡ Some b → P) → P
    some_there None some h = absurd (both_ways false refl some)
    some_there (Some b) some h = h b refl

    same-sizes : (xs ys : List (NumberedDisk D)) → SameDisks seen xs ys → sizes_by_number seen xs ≡ sizes_by_number seen ys
    same-sizes [] [] r = refl
    same-sizes [] (y ∷ ys) r = absurd r
    same-sizes (x ∷ xs) [] r = absurd r
    same-sizes (x ∷ xs) (y ∷ ys) r = let rest = same-sizes xs ys r.1 in λ i. (sym r.0.number i, sym r.0.size i) ∷ rest i
