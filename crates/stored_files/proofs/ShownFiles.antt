-- A file that is shown: its heading, its lines, and its disk among others.
use Rattle.std.proofs.Common.{◌≡◌, ℕ, zero, suc, ◌*◌, ◌<◌, ◌≤◌, List, [], ◌∷◌, length, map, take, refl, sym, ap, ◌∙◌, subst, arith, get_or, set}
use Rattle.std.specs.Prelude.{Some, IfSome, Result, Ok, Err, slice_get, slice_set, option_map}
use Rattle.std.specs.FinMap as finite
use Rattle.std.proofs.lemmas.List.{map-set}
use Rattle.std.proofs.lemmas.Option.{slice_get-get_or, slice_get-map}
use Rattle.block_device.specs.DiskSeen.{DiskSeen, HasBlocks}
use Rattle.block_device.specs.StreamSeen.{SinkSeen}
use Rattle.volume_format.specs.vnode_files.declared.vnode.FileInfo.{FileInfo}
use Rattle.volume_format.specs.vnode_files.Files.{FilesSeen, vnode_at}
use Rattle.volume_format.specs.vnode_files.Vnode.{no_vnode}
use Rattle.vm_report.specs.Report.{file_lines}
use Rattle.stored_files.specs.declared.showing.Heading.{Heading}
use Rattle.stored_files.specs.declared.showing.ShowStop.{ShowStop}
use Rattle.stored_files.specs.declared.showing.ShowStop.TheVariants.{Memory, Sink, Fault}
use Rattle.stored_files.specs.Closed.{StoresFile}
use Rattle.stored_files.specs.Closed.{stored_bytes}
use Rattle.stored_files.specs.Texts.{Wrote, WroteFront, heading_text, file_section}
use Rattle.stored_files.specs.Written.{FaultCounts, LieWell, HaveDisks, HasLastFault, OnlyReads, AreOnlyRead}
use Rattle.stored_files.specs.Showing.{LiesOn, LooksAt, shown_info, AreFileBytes, IsFaultAmong, IsHeadingShown, LinesShown, FileShows, FileShown, FileShownAmong}
use Rattle.stored_files.proofs.EachDisk.{Each, each_same, each_put, each_then, one_at, put_here}
use Rattle.stored_files.proofs.FilePieces.{some_bytes}
use Rattle.stored_files.proofs.WrittenTexts.{wrote_then, front_then, part_then, part_more, nothing_front, risen_since}

-- the heading wasn't written
pub heading_stop : (heading : Heading) (files : FilesSeen) (file : ℕ) (k0 k1 : SinkSeen) (d : ℕ × DiskSeen) → LiesOn files file d → HasBlocks d.1.content d.1.size
    → {F : Type 0} (counts : F → FaultCounts) (stop : ShowStop F) → IsHeadingShown (heading_text heading file (shown_info files file)) k0 k1 (Err stop)
    → FileShown heading file (shown_info files file) k0 k1 d d counts (Err stop)
heading_stop heading files file k0 k1 d lies blocks counts Memory shown =
    let some = some_bytes files file d lies blocks in
    record {
      bytes = some.0;
      are = some.1;
      shown = subst (λ (k : SinkSeen). WroteFront k0 k (file_section heading file (shown_info files file) some.0))
          (sym shown) (nothing_front k0 (file_section heading file (shown_info files file) some.0));
    }
heading_stop heading files file k0 k1 d lies blocks counts Sink shown =
    let some = some_bytes files file d lies blocks in
    record { bytes = some.0; are = some.1; shown = (shown.0, part_more k0 k1 (heading_text heading file (shown_info files file)) (file_lines 0 some.0) shown.1) }
heading_stop heading files file k0 k1 d lies blocks counts (Fault f) shown = absurd shown

-- the heading was written, and then the lines
pub file_shown : (heading : Heading) (file : ℕ) (info : FileInfo) (k0 k1 k2 : SinkSeen) (d0 d1 : ℕ × DiskSeen) → Wrote k0 k1 (heading_text heading file info) → k0.faults ≤ k1.faults
    → {F : Type 0} (counts : F → FaultCounts) (r : Result (Unit {0}) (ShowStop F)) → LinesShown info k1 k2 d0 d1 counts r → FileShown heading file info k0 k2 d0 d1 counts r
file_shown heading file info k0 k1 k2 d0 d1 wrote later counts (Ok done) lines =
    record { bytes = lines.bytes; are = lines.are; shown = wrote_then k0 k1 k2 (heading_text heading file info) (file_lines 0 lines.bytes) wrote lines.shown }
file_shown heading file info k0 k1 k2 d0 d1 wrote later counts (Err Memory) lines =
    record { bytes = lines.bytes; are = lines.are; shown = front_then k0 k1 k2 (heading_text heading file info) (file_lines 0 lines.bytes) wrote lines.shown }
file_shown heading file info k0 k1 k2 d0 d1 wrote later counts (Err Sink) lines =
    record {
      bytes = lines.bytes;
      are = lines.are;
      shown =
          (risen_since k0.faults k1.faults k2.faults later lines.shown.0, part_then k0 k1 k2 (heading_text heading file info) (file_lines 0 lines.bytes) wrote lines.shown.1);
    }
file_shown heading file info k0 k1 k2 d0 d1 wrote later counts (Err (Fault f)) lines =
    record {
      bytes = lines.bytes;
      are = lines.are;
      shown = (
        lines.shown.0,
        (
          lines.shown.1.0,
          lines.shown.1.1,
          wrote_then k0 k1 k2 (heading_text heading file info)
              (file_lines 0 (take (4096 * lines.shown.1.0) lines.bytes)) wrote lines.shown.1.2,
        ),
      );
    }

-- an element that was read, and what is seen of it
pub element_seen : {X : Type 0} (f : X → ℕ × DiskSeen) (xs : List X) (i : ℕ) (z : X) (d : ℕ × DiskSeen) → slice_get (map f xs) i ≡ Some d → f (get_or xs i z) ≡ d
element_seen f [] i z d at = absurd (cc)
element_seen f (y ∷ ys) zero z d at = let same : f y ≡ d = cc in same
element_seen f (y ∷ ys) (suc i) z d at = element_seen f ys i z d at

pub element_there : {X : Type 0} (f : X → ℕ × DiskSeen) (xs : List X) (i : ℕ) (x : X) → i < length xs → x ≡ get_or xs i x → slice_get (map f xs) i ≡ Some (f x)
element_there f xs i x low is = slice_get-map f xs i ∙ ap (option_map f) (slice_get-get_or xs i x low ∙ ap (λ y. Some y) (sym is))

pub reads_still : (d : DiskSeen) → OnlyReads d d
reads_still d = record { content = refl; size = refl; kind = refl; faults = omega arith }

reads_through : (a b c : DiskSeen) → OnlyReads a b → OnlyReads b c → OnlyReads a c
reads_through a b c first second = record { content = second.content ∙ first.content; size = second.size ∙ first.size; kind = second.kind ∙ first.kind; faults = omega (arith, first.faults, second.faults) }

reads_from : (old new : List (ℕ × DiskSeen)) → Each OnlyReads old new → AreOnlyRead old new
reads_from old new all = record { count = all.count; numbers = all.numbers; each = all.each }

pub each_read : (old new : List (ℕ × DiskSeen)) → AreOnlyRead old new → Each OnlyReads old new
each_read old new all = record { count = all.count; numbers = all.numbers; each = all.each }

pub reads_same : (ds : List (ℕ × DiskSeen)) → AreOnlyRead ds ds
reads_same ds = reads_from ds ds (each_same OnlyReads reads_still ds)

pub reads_then : (a b c : List (ℕ × DiskSeen)) → AreOnlyRead a b → AreOnlyRead b c → AreOnlyRead a c
reads_then a b c first second = reads_from a c (each_then OnlyReads reads_through a b c (each_read a b first) (each_read b c second))

-- one disk was read
pub reads_one : (ds : List (ℕ × DiskSeen)) (i : ℕ) (d e : ℕ × DiskSeen) → slice_get ds i ≡ Some d → LooksAt d e → AreOnlyRead ds (slice_set ds i e)
reads_one ds i d e at looks = reads_from ds (slice_set ds i e) (each_put OnlyReads reads_still ds i d e at looks.number looks.reads)

-- the file lies on its disk
pub lies_among : (files : FilesSeen) (file i : ℕ) (ds : List (ℕ × DiskSeen)) (d : ℕ × DiskSeen) → LieWell files → file < length files.files
    → HaveDisks files ds → slice_get ds i ≡ Some d → d.0 ≡ (vnode_at files file).info.disk
    → LiesOn files file d
lies_among files file i ds d lie there have at number = record {
  lie = lie;
  there = there;
  number = number;
  size = ap (finite.get files.disks) (sym number) ∙ have.sizes i d at;
}

-- the disk of the file has its bytes, and no other
pub told_among : (files : FilesSeen) (i : ℕ) (ds : List (ℕ × DiskSeen)) (d : ℕ × DiskSeen) (info : FileInfo) (bytes : List ℕ) → HaveDisks files ds
    → slice_get ds i ≡ Some d → d.0 ≡ info.disk → AreFileBytes d.1 info bytes
    → (j : ℕ) (e : ℕ × DiskSeen) → slice_get ds j ≡ Some e → StoresFile e info bytes
told_among files i ds d info bytes have at number are j e there on =
    let place : i ≡ j = have.numbers i j d e at there (number ∙ on) in
    let same : d ≡ e = one_at ds i d e at (ap (slice_get ds) place ∙ there) in
    subst (λ (x : ℕ × DiskSeen). IfSome x.1.content (λ blocks. stored_bytes blocks info ≡ bytes)) same are.told

fault_among : (i : ℕ) (ds : List (ℕ × DiskSeen)) (d e : ℕ × DiskSeen) (n : ℕ) (f : FaultCounts) → slice_get ds i ≡ Some d → e.0 ≡ d.0 → d.0 ≡ n
    → HasLastFault d.1.faults e f → IsFaultAmong ds (slice_set ds i e) n f
fault_among i ds d e n f at same number last = (last.number ∙ same ∙ number, record { i = i; was = d; is = e; there = at; now = put_here ds i d e at; same = same; fault = last })

other_fault : (A B : FaultCounts → Type 0) (heading : Heading) (file : ℕ) (info : FileInfo) (bytes : List ℕ) (k0 k1 : SinkSeen) → ((f : FaultCounts) → A f → B f)
    → {F : Type 0} (counts : F → FaultCounts) (r : Result (Unit {0}) (ShowStop F)) → FileShows heading file info bytes k0 k1 A counts r → FileShows heading file info bytes k0 k1 B counts r
other_fault A B heading file info bytes k0 k1 to counts (Ok done) shown = shown
other_fault A B heading file info bytes k0 k1 to counts (Err Memory) shown = shown
other_fault A B heading file info bytes k0 k1 to counts (Err Sink) shown = shown
other_fault A B heading file info bytes k0 k1 to counts (Err (Fault f)) shown = (to (counts f) shown.0, shown.1)

-- a file was shown that lies on one of the disks
pub shown_among : (heading : Heading) (files : FilesSeen) (file i : ℕ) (k0 k1 : SinkSeen) (ds : List (ℕ × DiskSeen)) (d e : ℕ × DiskSeen) → HaveDisks files ds
    → slice_get ds i ≡ Some d → d.0 ≡ (shown_info files file).disk → e.0 ≡ d.0
    → {F : Type 0} (counts : F → FaultCounts) (r : Result (Unit {0}) (ShowStop F)) → FileShown heading file (shown_info files file) k0 k1 d e counts r
    → FileShownAmong heading file (shown_info files file) k0 k1 ds (slice_set ds i e) counts r
shown_among heading files file i k0 k1 ds d e have at number same counts r shown = record {
  bytes = shown.bytes;
  count = shown.are.count;
  told = told_among files i ds d (shown_info files file) shown.bytes have at number shown.are;
  shown = other_fault (HasLastFault d.1.faults e) (IsFaultAmong ds (slice_set ds i e) (shown_info files file).disk) heading file (shown_info files file) shown.bytes k0 k1
      (λ f last. fault_among i ds d e (shown_info files file).disk f at same number last) counts r shown.shown;
}

-- the same, of disks as they are seen
module _ {X : Type 0} (f : X → ℕ × DiskSeen) (xs : List X) (i : ℕ) (z x : X) (number : ℕ) (d : DiskSeen) (at : slice_get (map f xs) i ≡ Some (number, d))
    (looks : LooksAt (f (get_or xs i z)) (f x)) where
  same : f (get_or xs i z) ≡ (number, d)
  same = element_seen f xs i z (number, d) at

  here : slice_get (map f xs) i ≡ Some (f (get_or xs i z))
  here = at ∙ ap (λ (e : ℕ × DiskSeen). Some e) (sym same)

  pub reads_at : AreOnlyRead (map f xs) (map f (set xs i x))
  reads_at = subst (λ (ds : List (ℕ × DiskSeen)). AreOnlyRead (map f xs) ds) (sym (map-set f xs i x)) (reads_one (map f xs) i (f (get_or xs i z)) (f x) here looks)

  pub shown_at : (heading : Heading) (files : FilesSeen) (file : ℕ) (k0 k1 : SinkSeen) → HaveDisks files (map f xs) → number ≡ (shown_info files file).disk
      → {F : Type 0} (counts : F → FaultCounts) (r : Result (Unit {0}) (ShowStop F)) → FileShown heading file (shown_info files file) k0 k1 (f (get_or xs i z)) (f x) counts r
      → FileShownAmong heading file (shown_info files file) k0 k1 (map f xs) (map f (set xs i x)) counts r
  shown_at heading files file k0 k1 have on counts r shown =
      subst (λ (ds : List (ℕ × DiskSeen)). FileShownAmong heading file (shown_info files file) k0 k1 (map f xs) ds counts r) (sym (map-set f xs i x))
      (shown_among heading files file i k0 k1 (map f xs) (f (get_or xs i z)) (f x) have here (ap (λ (e : ℕ × DiskSeen). e.0) same ∙ on) looks.number counts r shown)

-- the disk of a file is there
pub there_at : (files : FilesSeen) (ds : List (ℕ × DiskSeen)) (file number : ℕ) → HaveDisks files ds → file < length files.files → number ≡ (vnode_at files file).info.disk
    → (i : ℕ) × (d : DiskSeen) × (slice_get ds i ≡ Some (number, d))
there_at files ds file number have low on =
    let place = have.there file (vnode_at files file) (slice_get-get_or files.files file no_vnode low) in
    (place.0, place.1, place.2 ∙ ap (λ (n : ℕ). Some (n, place.1)) (sym on))

-- what is seen of an element inside the list
pub there_or : {X : Type 0} (f : X → ℕ × DiskSeen) (xs : List X) (i : ℕ) (z : X) → i < length xs → slice_get (map f xs) i ≡ Some (f (get_or xs i z))
there_or f xs i z low = slice_get-map f xs i ∙ ap (option_map f) (slice_get-get_or xs i z low)
