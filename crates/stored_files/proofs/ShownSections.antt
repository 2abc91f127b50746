-- Files that are shown one after another.
use Rattle.std.proofs.Common.{◌≡◌, ℕ, zero, suc, ◌+◌, ◌*◌, ◌<◌, ◌≤◌, Bool, cond, eqb, List, [], ◌∷◌, ◌++◌, length, map, take, drop, refl, sym, ap, ◌∙◌, subst, arith, inl, inr, get_or, append_assoc}
use Rattle.std.specs.Prelude.{Option, Some, None, IfSome, Ok, Err, slice_get, option_map, ◌≢◌}
use Rattle.std.specs.FinMap as finite
use Rattle.std.proofs.lemmas.Bool.{cases_eq, eq-eqb, ne_eqb}
use Rattle.std.proofs.lemmas.List.{take_all, take_more, take-append-drop, length-take, append-nil}
use Rattle.std.proofs.lemmas.Option.{get_or_from_slice_get, slice_get_within, slice_get-get_or, slice_get-map}
use Rattle.vm_report.specs.vm_types.Pages.{pages_in}
use Rattle.block_device.specs.DiskSeen.{DiskSeen, HasBlocks}
use Rattle.block_device.specs.StreamSeen.{SinkSeen}
use Rattle.volume_format.specs.vnode_files.declared.vnode.FileInfo.{FileInfo}
use Rattle.volume_format.specs.vnode_files.Files.{FilesSeen, vnode_at}
use Rattle.volume_format.specs.vnode_files.Vnode.{VnodeSeen, no_vnode}
use Rattle.volume_format.specs.Table.{no_entry}
use Rattle.stored_files.specs.declared.showing.Heading.{Heading}
use Rattle.stored_files.specs.declared.showing.ShowStop.{ShowStop}
use Rattle.stored_files.specs.declared.showing.ShowStop.TheVariants.{Memory, Sink, Fault}
use Rattle.stored_files.specs.Closed.{StoresFile, info_at}
use Rattle.stored_files.specs.Closed.{stored_bytes}
use Rattle.stored_files.specs.Written.{infos_made}
use Rattle.stored_files.specs.Texts.{Wrote, WroteFront, WrotePart, file_section, files_from, file_sections}
use Rattle.stored_files.specs.Written.{FaultCounts, LieWell, HaveDisks, OnlyReads, AreOnlyRead, IsCountedSince, AreFilesBytes, ShowsSections}
use Rattle.stored_files.specs.Showing.{shown_info, FileShownAmong, FilesSoFar}
use Rattle.stored_files.proofs.FilePieces.{some_bytes}
use Rattle.stored_files.proofs.EachDisk.{was_before, there_after}
use Rattle.stored_files.proofs.ShownFiles.{lies_among, told_among, each_read, reads_same, reads_then}
use Rattle.stored_files.proofs.WrittenTexts.{wrote_nothing, wrote_then, front_then, part_then, front_more, part_more, risen_since}

-- Each disk's content is whole blocks.
abbrev pub AllHaveBlocks : List (ℕ × DiskSeen) → Type 0
AllHaveBlocks ds = (i : ℕ) (d : ℕ × DiskSeen) → slice_get ds i ≡ Some d → HasBlocks d.1.content d.1.size

pub all_have_blocks : {X : Type 0} (f : X → ℕ × DiskSeen) → ((x : X) → HasBlocks (f x).1.content (f x).1.size) → (xs : List X) → AllHaveBlocks (map f xs)
all_have_blocks f each [] i d at = absurd (cc)
all_have_blocks f each (x ∷ xs) zero d at = subst (λ (e : ℕ × DiskSeen). HasBlocks e.1.content e.1.size) (let same : f x ≡ d = cc in same) (each x)
all_have_blocks f each (x ∷ xs) (suc i) d at = all_have_blocks f each xs i d at

-- bytes of one file
record Own (files : FilesSeen) (ds : List (ℕ × DiskSeen)) (k : ℕ) : Type 0 where
  bytes : List ℕ
  count : (info : FileInfo) → slice_get (infos_made files) k ≡ Some info → length bytes ≡ info.length
  told : (i : ℕ) (disk : ℕ × DiskSeen) (info : FileInfo) → slice_get ds i ≡ Some disk → slice_get (infos_made files) k ≡ Some info → StoresFile disk info bytes

own_bytes : (files : FilesSeen) (ds : List (ℕ × DiskSeen)) → LieWell files → HaveDisks files ds → AllHaveBlocks ds → (k : ℕ) → Own files ds k
own_bytes files ds lie have blocks k = by_file (slice_get files.files k) refl
  where
    info_is : slice_get (infos_made files) k ≡ option_map (λ (v : VnodeSeen). v.info) (slice_get files.files k)
    info_is = slice_get-map (λ (v : VnodeSeen). v.info) files.files k

    by_file : (o : Option VnodeSeen) → slice_get files.files k ≡ o → Own files ds k
    by_file None is =
        let none : slice_get (infos_made files) k ≡ None = info_is ∙ ap (option_map (λ (v : VnodeSeen). v.info)) is in
        record { bytes = []; count = λ info at. absurd (cc); told = λ i disk info there at. absurd (cc) }
    by_file (Some v) is =
        let some : slice_get (infos_made files) k ≡ Some v.info = info_is ∙ ap (option_map (λ (w : VnodeSeen). w.info)) is in
        let place = have.there k v is in
        let here : vnode_at files k ≡ v = get_or_from_slice_get files.files k v no_vnode is in
        let number : v.info.disk ≡ (vnode_at files k).info.disk = ap (λ (w : VnodeSeen). w.info.disk) (sym here) in
        let lies = lies_among files k place.0 ds (v.info.disk, place.1) lie (slice_get_within files.files k v is) have place.2 number in
        let made = some_bytes files k (v.info.disk, place.1) lies (blocks place.0 (v.info.disk, place.1) place.2) in
        let same : (info : FileInfo) → slice_get (infos_made files) k ≡ Some info → shown_info files k ≡ info = λ info at.
        ap (λ (w : VnodeSeen). w.info) here ∙ (let both : Some v.info ≡ Some info = sym some ∙ at in cc) in
        record {
          bytes = made.0;
          count = λ info at. made.1.count ∙ ap (λ (x : FileInfo). x.length) (same info at);
          told = λ i disk info there at. subst (λ (x : FileInfo). StoresFile disk x made.0) (same info at)
              (told_among files place.0 ds (v.info.disk, place.1) (shown_info files k) made.0 have place.2 number made.1 i disk there);
        }

pub files_begin : (heading : Heading) (files : FilesSeen) (ds : List (ℕ × DiskSeen)) (k : SinkSeen) → LieWell files → HaveDisks files ds → AllHaveBlocks ds
    → FilesSoFar heading (infos_made files) 0 k k ds ds
files_begin heading files ds k lie have blocks = record {
  bytes = λ j. (own_bytes files ds lie have blocks j).bytes;
  are = record {
    lengths = λ j. (own_bytes files ds lie have blocks j).count;
    told = λ i j. (own_bytes files ds lie have blocks j).told i;
  };
  wrote = wrote_nothing k;
  reads = reads_same ds;
  later = omega arith;
}

pub have_still : (files : FilesSeen) (old new : List (ℕ × DiskSeen)) → HaveDisks files old → AreOnlyRead old new → HaveDisks files new
have_still files old new have reads = record {
  there = λ k v at.
      let place = have.there k v at in
      let now = there_after OnlyReads old new place.0 (v.info.disk, place.1) (each_read old new reads) place.2 in
      (place.0, now.is.1, now.at ∙ ap (λ (n : ℕ). Some (n, now.is.1)) now.number);
  sizes = λ i e at.
      let was = was_before OnlyReads old new i e (each_read old new reads) at in
      ap (finite.get files.disks) was.number ∙ have.sizes i was.was was.at ∙ ap (λ (n : ℕ). Some n) (sym was.changed.size);
  numbers = λ i j d e at there same.
      let was = was_before OnlyReads old new i d (each_read old new reads) at in
      let too = was_before OnlyReads old new j e (each_read old new reads) there in
      have.numbers i j was.was too.was was.at too.at (sym was.number ∙ same ∙ too.number);
}

-- sections of more files
sections_append : (heading : Heading) (bytes : ℕ → List ℕ) (k : ℕ) (xs ys : List FileInfo)
    → files_from heading bytes k (xs ++ ys) ≡ files_from heading bytes k xs ++ files_from heading bytes (k + length xs) ys
sections_append heading bytes k [] ys = let same : k ≡ k + 0 = omega arith in ap (λ n. files_from heading bytes n ys) same
sections_append heading bytes k (x ∷ xs) ys =
    let first = file_section heading k x (bytes k) in
    let at : k + 1 + length xs ≡ k + suc (length xs) = omega arith in
    ap (λ (t : List ℕ). first ++ t) (sections_append heading bytes (k + 1) xs ys ∙ ap (λ n. files_from heading bytes (k + 1) xs ++ files_from heading bytes n ys) at)
    ∙ sym (append_assoc first (files_from heading bytes (k + 1) xs) (files_from heading bytes (k + suc (length xs)) ys))

sections_same : (heading : Heading) (a b : ℕ → List ℕ) (k : ℕ) (xs : List FileInfo) → ((j : ℕ) → j < k + length xs → a j ≡ b j) → files_from heading a k xs ≡ files_from heading b k xs
sections_same heading a b k [] same = refl
sections_same heading a b k (x ∷ xs) same =
    ap (λ (ys : List ℕ). file_section heading k x ys ++ files_from heading a (k + 1) xs) (same k (omega arith))
    ∙ ap (λ (t : List ℕ). file_section heading k x (b k) ++ t) (sections_same heading a b (k + 1) xs (λ j low. same j (omega (arith, low))))

sections_rest : (heading : Heading) (bytes : ℕ → List ℕ) (infos : List FileInfo) (n : ℕ) → (rest : List ℕ) × (file_sections heading infos bytes ≡ file_sections heading (take n infos) bytes ++ rest)
sections_rest heading bytes infos n = (
  files_from heading bytes (0 + length (take n infos)) (drop n infos),
  ap (files_from heading bytes 0) (sym (take-append-drop n infos)) ∙ sections_append heading bytes 0 (take n infos) (drop n infos),
)

-- the bytes with those of one file
abbrev with_own : (ℕ → List ℕ) → ℕ → List ℕ → ℕ → List ℕ
with_own bytes file own k = cond (eqb k file) own (bytes k)

own_here : (bytes : ℕ → List ℕ) (file : ℕ) (own : List ℕ) → with_own bytes file own file ≡ own
own_here bytes file own = ap (λ (t : Bool). cond t own (bytes file)) (eq-eqb file file refl)

own_other : (bytes : ℕ → List ℕ) (file k : ℕ) (own : List ℕ) → k ≢ file → with_own bytes file own k ≡ bytes k
own_other bytes file k own other = ap (λ (t : Bool). cond t own (bytes k)) (ne_eqb k file other)

module _ (heading : Heading) (infos : List FileInfo) (file : ℕ) (info : FileInfo) (k0 k1 k2 : SinkSeen) (old mid new : List (ℕ × DiskSeen))
    (there : slice_get infos file ≡ Some info) (so : FilesSoFar heading infos file k0 k1 old mid) where
  low : file < length infos
  low = slice_get_within infos file info there

  own_are : (own : List ℕ) → length own ≡ info.length → ((i : ℕ) (disk : ℕ × DiskSeen) → slice_get mid i ≡ Some disk → StoresFile disk info own) → AreFilesBytes infos old (with_own so.bytes file own)
  own_are own count told = record {
    lengths = λ k x at. elim (cases_eq k file) [
      | inl same ↦
          let is : info ≡ x = (let both : Some info ≡ Some x = sym there ∙ ap (slice_get infos) (sym same) ∙ at in cc) in
          ap (λ j. length (with_own so.bytes file own j)) same ∙ ap length (own_here so.bytes file own) ∙ count ∙ ap (λ (y : FileInfo). y.length) is
      | inr other ↦ ap length (own_other so.bytes file k own other) ∙ so.are.lengths k x at
    ];
    told = λ i k disk x was at. elim (cases_eq k file) [
      | inl same ↦
          let is : info ≡ x = (let both : Some info ≡ Some x = sym there ∙ ap (slice_get infos) (sym same) ∙ at in cc) in
          let now = there_after OnlyReads old mid i disk (each_read old mid so.reads) was in
          let bytes_is : own ≡ with_own so.bytes file own k = sym (own_here so.bytes file own) ∙ ap (with_own so.bytes file own) (sym same) in
          λ on. subst (λ (ys : List ℕ). IfSome disk.1.content (λ blocks. stored_bytes blocks x ≡ ys)) bytes_is
          (subst (λ (o : Option (List (List ℕ))). IfSome o (λ blocks. stored_bytes blocks x ≡ own)) now.changed.content
          (subst (λ (y : FileInfo). IfSome now.is.1.content (λ blocks. stored_bytes blocks y ≡ own)) is (told i now.is now.at (ap (λ (y : FileInfo). y.disk) is ∙ on ∙ sym now.number))))
      | inr other ↦ subst (λ (ys : List ℕ). StoresFile disk x ys) (sym (own_other so.bytes file k own other)) (so.are.told i k disk x was at)
    ];
  }

  before : (own : List ℕ) → file_sections heading (take file infos) (with_own so.bytes file own) ≡ file_sections heading (take file infos) so.bytes
  before own = sections_same heading (with_own so.bytes file own) so.bytes 0 (take file infos) (λ j below. own_other so.bytes file j own (omega (arith, below, length-take file infos)))

  wrote_before : (own : List ℕ) → Wrote k0 k1 (file_sections heading (take file infos) (with_own so.bytes file own))
  wrote_before own = subst (λ (t : List ℕ). Wrote k0 k1 t) (sym (before own)) so.wrote

  through : (own : List ℕ) → file_sections heading (take (file + 1) infos) (with_own so.bytes file own) ≡ file_sections heading (take file infos)
      (with_own so.bytes file own) ++ file_section heading file info own
  through own =
      let bytes = with_own so.bytes file own in
      let is : get_or infos file no_entry ≡ info = get_or_from_slice_get infos file info no_entry there in
      let at : 0 + length (take file infos) ≡ file = omega (arith, low, length-take file infos) in
      ap (files_from heading bytes 0) (take_more infos file no_entry low ∙ ap (λ (x : FileInfo). take file infos ++ x ∷ []) is)
      ∙ sections_append heading bytes 0 (take file infos) (info ∷ [])
      ∙ ap (λ (t : List ℕ). files_from heading bytes 0 (take file infos) ++ t)
      (append-nil (file_section heading (0 + length (take file infos)) info (bytes (0 + length (take file infos))))
      ∙ ap (λ n. file_section heading n info (bytes n)) at
      ∙ ap (file_section heading file info) (own_here so.bytes file own))

  pub files_step : {F : Type 0} (counts : F → FaultCounts) → FileShownAmong heading file info k1 k2 mid new counts (Ok tt) → AreOnlyRead mid new
      → k1.faults ≤ k2.faults → FilesSoFar heading infos (file + 1) k0 k2 old new
  files_step counts shown reads later = record {
    bytes = with_own so.bytes file shown.bytes;
    are = own_are shown.bytes shown.count shown.told;
    wrote = subst (λ (t : List ℕ). Wrote k0 k2 t) (sym (through shown.bytes))
        (wrote_then k0 k1 k2 (file_sections heading (take file infos) (with_own so.bytes file shown.bytes)) (file_section heading file info shown.bytes) (wrote_before shown.bytes) shown.shown);
    reads = reads_then old mid new so.reads reads;
    later = omega (arith, so.later, later);
  }

  pub files_read : AreOnlyRead mid new → AreOnlyRead old new
  files_read = reads_then old mid new so.reads

  since_begin : (f : FaultCounts) → IsCountedSince mid new f → IsCountedSince old new f
  since_begin f c =
      let was = was_before OnlyReads old mid c.i c.was (each_read old mid so.reads) c.there in
      record {
        i = c.i;
        was = was.was;
        is = c.is;
        there = was.at;
        now = c.now;
        same = c.same ∙ was.number;
        fault = record {
          number = c.fault.number;
          risen = c.fault.risen;
          since = omega (arith, c.fault.since, was.changed.faults);
          last = c.fault.last;
        };
      }

  pub files_stop : {F : Type 0} (counts : F → FaultCounts) (stop : ShowStop F) → FileShownAmong heading file info k1 k2 mid new counts (Err stop) → AreOnlyRead mid new
      → (bytes : ℕ → List ℕ) × AreFilesBytes infos old bytes × ShowsSections heading infos bytes k0 k2 old new counts (Err stop)
  files_stop counts Memory shown reads =
      let bytes = with_own so.bytes file shown.bytes in
      let all = sections_rest heading bytes infos (file + 1) in (
        bytes,
        own_are shown.bytes shown.count shown.told,
        subst (λ (t : List ℕ). WroteFront k0 k2 t) (sym all.1)
            (front_more k0 k2 (file_sections heading (take (file + 1) infos) bytes) all.0
            (subst (λ (t : List ℕ). WroteFront k0 k2 t) (sym (through shown.bytes))
            (front_then k0 k1 k2 (file_sections heading (take file infos) bytes) (file_section heading file info shown.bytes) (wrote_before shown.bytes) shown.shown))),
      )
  files_stop counts Sink shown reads =
      let bytes = with_own so.bytes file shown.bytes in
      let all = sections_rest heading bytes infos (file + 1) in (
        bytes,
        own_are shown.bytes shown.count shown.told,
        (
          risen_since k0.faults k1.faults k2.faults so.later shown.shown.0,
          subst (λ (t : List ℕ). WrotePart k0 k2 t) (sym all.1)
              (part_more k0 k2 (file_sections heading (take (file + 1) infos) bytes) all.0
              (subst (λ (t : List ℕ). WrotePart k0 k2 t) (sym (through shown.bytes))
              (part_then k0 k1 k2 (file_sections heading (take file infos) bytes) (file_section heading file info shown.bytes) (wrote_before shown.bytes) shown.shown.1))),
        ),
      )
  files_stop counts (Fault f) shown reads =
      let bytes = with_own so.bytes file shown.bytes in
      let page = shown.shown.1.0 in
      let is : info ≡ info_at infos file = sym (get_or_from_slice_get infos file info no_entry there) in
      let text : file_section heading file info (take (4096 * page) shown.bytes) ≡ file_section heading file (info_at infos file) (take (4096 * page) (bytes file)) =
      ap (λ (x : FileInfo). file_section heading file x (take (4096 * page) shown.bytes)) is
      ∙ ap (λ (ys : List ℕ). file_section heading file (info_at infos file) (take (4096 * page) ys)) (sym (own_here so.bytes file shown.bytes)) in (
        bytes,
        own_are shown.bytes shown.count shown.told,
        (
          since_begin (counts f) shown.shown.0.1,
          (
            file,
            page,
            record {
              there = low;
              below = subst (λ (n : ℕ). page < pages_in n) (shown.count ∙ ap (λ (x : FileInfo). x.length) is) shown.shown.1.1;
              lies = ap (λ (x : FileInfo). x.disk) (sym is) ∙ sym shown.shown.0.0;
            },
            subst (λ (t : List ℕ). Wrote k0 k2 (file_sections heading (take file infos) bytes ++ t)) text
                (wrote_then k0 k1 k2 (file_sections heading (take file infos) bytes) (file_section heading file info (take (4096 * page) shown.bytes)) (wrote_before shown.bytes) shown.shown.1.2),
          ),
        ),
      )

pub files_done : (heading : Heading) (infos : List FileInfo) (file : ℕ) (k0 k1 : SinkSeen) (old new : List (ℕ × DiskSeen))
    → FilesSoFar heading infos file k0 k1 old new → length infos ≤ file → {F : Type 0} (counts : F → FaultCounts)
    → (bytes : ℕ → List ℕ) × AreFilesBytes infos old bytes × ShowsSections heading infos bytes k0 k1 old new counts (Ok tt)
files_done heading infos file k0 k1 old new so past counts =
    (so.bytes, so.are, subst (λ (xs : List FileInfo). Wrote k0 k1 (file_sections heading xs so.bytes)) (take_all file infos past) so.wrote)

pub info_there : (files : FilesSeen) (file : ℕ) → file < length files.files → slice_get (infos_made files) file ≡ Some (shown_info files file)
info_there files file low = slice_get-map (λ (v : VnodeSeen). v.info) files.files file ∙ ap (option_map (λ (v : VnodeSeen). v.info)) (slice_get-get_or files.files file no_vnode low)

-- bytes for all files of disks, whatever was read
pub bytes-of-disks : (files : FilesSeen) (disks : List (ℕ × DiskSeen)) → LieWell files → HaveDisks files disks → AllHaveBlocks disks
    → (bytes : ℕ → List ℕ) × AreFilesBytes (infos_made files) disks bytes
bytes-of-disks files disks lie have blocks = (
  λ j. (own_bytes files disks lie have blocks j).bytes,
  record {
    lengths = λ j. (own_bytes files disks lie have blocks j).count;
    told = λ i j. (own_bytes files disks lie have blocks j).told i;
  },
)
