-- What holds of the files that disks have as they are attached.
use Rattle.std.specs.Prelude.{ℕ, zero, suc, ◌≡◌, ◌≢◌, ◌<◌, ◌≤◌, ◌+◌, ◌*◌, List, [], ◌∷◌, length, map, slice_index_or, Option, Some, None, IfSome, All}
use Rattle.std.specs.List.{AllByRecursion, concat, range_with_len}
use Rattle.std.proofs.Common.{ap, ◌∙◌, sym, subst, refl, arith, length-append}
use Rattle.std.proofs.lemmas.List.{length-take-le, length-replicate}
use Rattle.std.proofs.lemmas.List.Elements.{All-from_recursion, recursion_from_All, All-take, All-replicate}
use Rattle.std.proofs.lemmas.List.Sums.{sum_by-cons}
use Rattle.block_device.specs.DiskSeen.{DiskSeen, HasBlocks, AreBlocks, IsBlock}
use Rattle.block_device.specs.declared.numbered.NumberedDisk.{NumberedDisk}
use Rattle.block_device.specs.declared.rack.Spec.{Spec}
use Rattle.volume_disks.specs.declared.volume_spec.VolumeSpec.{VolumeSpec}
use Rattle.volume_format.specs.vnode_files.declared.extent.Extent.{Extent}
use Rattle.volume_format.specs.vnode_files.declared.vnode.FileInfo.{FileInfo}
use Rattle.volume_format.specs.vnode_files.Grow.{extent_end, page_count}
use Rattle.volume_format.specs.vnode_files.Vnode.{page_blocks}
use Rattle.volume_format.proofs.vnode_files.BlockLemmas.{length-page_blocks}
use Rattle.volume_format.specs.Table.{TableSeen, no_entry}
use Rattle.volume_format.specs.Volume.{IsVolumeTable, IsVolumeFile, IsVolumeName}
use Rattle.volume_files.specs.Attached.{AreMounted, HasItsBytes}
use Rattle.stored_files.specs.Written.{numbered_seen}
use Rattle.volume_files.specs.Opened.{OpenedFile}
use Rattle.stored_files.specs.Closed.{stored_bytes}
use Rattle.volume_files.specs.Placing.{Distinct, content_bytes, found_file, found_files}
use Rattle.volume_files.proofs.LawLemmas.{GoodFiles}
use Rattle.volume_files.proofs.LineLemmas.{Stored}
use Rattle.volume_files.proofs.MountedLaws.{EachTable, all_append, all_at, all_then, mounted-each, mounted-differ, file-lies, all_mapped, Differ}
use Rattle.volume_files.proofs.OpenLemmas.{infos-found}

-- the blocks of extents on a disk
all_range : (size a n : ℕ) → a + n ≤ size → AllByRecursion (λ b. b < size) (range_with_len a n)
all_range size a zero fits = tt
all_range size a (suc n) fits = (omega (arith, fits), all_range size (a + 1) n (omega (arith, fits)))

blocks-within : (size : ℕ) (es : List Extent) → AllByRecursion (λ (x : Extent). extent_end x ≤ size) es → AllByRecursion (λ b. b < size) (page_blocks es)
blocks-within size [] all = tt
blocks-within size (e ∷ es) all = all_append (λ b. b < size) (range_with_len e.start e.pages) (page_blocks es) (all_range size e.start e.pages all.0) (blocks-within size es all.1)

-- the bytes of whole blocks
block-bytes : (bytes : List ℕ) → IsBlock bytes → AllByRecursion (λ b. b < 256) bytes
block-bytes bytes is = all_at (λ b. b < 256) bytes 0 (λ i below. is.1 i)

concat-blocks : (blocks : List (List ℕ)) (bs : List ℕ) → AreBlocks blocks → AllByRecursion (λ b. b < length blocks) bs
    → (length (concat (map (λ b. slice_index_or blocks b []) bs)) ≡ length bs * 4096) × AllByRecursion (λ b. b < 256) (concat (map (λ b. slice_index_or blocks b []) bs))
concat-blocks blocks [] are within = (refl, tt)
concat-blocks blocks (b ∷ bs) are within =
    let first = slice_index_or blocks b [] in
    let is : IsBlock first = are b within.0 in
    let rest = concat-blocks blocks bs are within.1 in
    let more = concat (map (λ c. slice_index_or blocks c []) bs) in
    (omega (arith, is.0, rest.0, length-append first more), all_append (λ c. c < 256) first more (block-bytes first is) rest.1)

-- a file's bytes as a disk has them
bytes-law : (content : Option (List (List ℕ))) (size : ℕ) (e : FileInfo) → HasBlocks content size → IsVolumeFile size e
    → (length (content_bytes content e) ≡ e.length) × All (λ b. b < 256) (content_bytes content e)
bytes-law None size e has v = (length-replicate e.length 0, All-replicate (λ b. b < 256) e.length 0 (omega arith))
bytes-law (Some blocks) size e has v =
    let lies = file-lies size e v in
    let ends = all_then (λ (x : Extent). (1 ≤ x.start) × (extent_end x ≤ size)) (λ (x : Extent). extent_end x ≤ length blocks) e.extents (λ x h. let fits = h.1 in omega (arith, fits, has.0))
    (recursion_from_All (λ (x : Extent). (1 ≤ x.start) × (extent_end x ≤ size)) e.extents lies.within) in
    let whole = concat-blocks blocks (page_blocks e.extents) has.1 (blocks-within (length blocks) e.extents ends) in
    let all = concat (map (λ b. slice_index_or blocks b []) (page_blocks e.extents)) in
    let count : length all ≡ page_count e.extents * 4096 = whole.0 ∙ ap (λ n. n * 4096) (length-page_blocks e.extents) in
    (length-take-le e.length all (omega (arith, count, v.within)), All-take (λ b. b < 256) e.length all (All-from_recursion (λ b. b < 256) all whole.1))

-- a file of a volume keeps a page
some-page : (size : ℕ) (e : FileInfo) → IsVolumeFile size e → 1 ≤ page_count e.extents
some-page size e v = first_page e.extents v.some (recursion_from_All (λ (x : Extent). 1 ≤ x.pages) e.extents (file-lies size e v).some)
  where
    first_page : (es : List Extent) → 1 ≤ length es → AllByRecursion (λ (x : Extent). 1 ≤ x.pages) es → 1 ≤ page_count es
    first_page [] some all = absurd (omega (arith, some))
    first_page (x ∷ es) some all = omega (arith, sum_by-cons (λ (y : Extent). y.pages) x es, all.0)

each_name : (ns : List ℕ) (ts : List TableSeen) → AllByRecursion IsVolumeTable ts → EachTable (λ i. IsVolumeName i.name) ns ts
each_name [] ts v = tt
each_name (n ∷ ns) [] v = tt
each_name (n ∷ ns) (t ∷ ts) v = (all_at (λ (e : FileInfo). IsVolumeName e.name) t.entries no_entry (λ i below. (v.0.files i below).name), each_name ns ts v.1)

-- Each disk's content is whole blocks, where it is told.
abbrev pub AllBlocks : List (ℕ × DiskSeen) → Type 0
AllBlocks ds = AllByRecursion (λ (d : ℕ × DiskSeen). HasBlocks d.1.content d.1.size) ds

each_own : (holds : Spec → Option (List (List ℕ))) (specs : List VolumeSpec) (ds : List (ℕ × DiskSeen)) (ts : List TableSeen) → AreMounted holds specs ds ts → AllBlocks ds
    → AllByRecursion HasItsBytes (found_files ds ts) × AllByRecursion (λ (f : OpenedFile). 1 ≤ page_count f.info.extents) (found_files ds ts)
each_own holds specs [] ts m has = (tt, tt)
each_own holds specs (d ∷ ds) [] m has = (tt, tt)
each_own holds [] (d ∷ ds) (t ∷ ts) m has = absurd m
each_own holds (s ∷ specs) (d ∷ ds) (t ∷ ts) m has =
    let rest = each_own holds specs ds ts m.1 has.1 in
    let file : (i : ℕ) → i < length t.entries → IsVolumeFile d.1.size (slice_index_or t.entries i no_entry) = λ i below. subst
    (λ n. IsVolumeFile n (slice_index_or t.entries i no_entry)) m.0.blocks (m.0.volume.files i below) in (
      all_append HasItsBytes (map (found_file d) t.entries) (found_files ds ts)
          (all_mapped HasItsBytes (found_file d) t.entries (all_at (λ (e : FileInfo). HasItsBytes (found_file d e)) t.entries no_entry (λ i below.
          let law = bytes-law d.1.content d.1.size (slice_index_or t.entries i no_entry) has.0 (file i below) in record { count = law.0; bytes = law.1 }))) rest.0,
      all_append (λ (f : OpenedFile). 1 ≤ page_count f.info.extents) (map (found_file d) t.entries) (found_files ds ts)
          (all_mapped (λ (f : OpenedFile). 1 ≤ page_count f.info.extents) (found_file d) t.entries (all_at (λ (e : FileInfo). 1 ≤ page_count e.extents) t.entries no_entry (λ i below.
          some-page d.1.size (slice_index_or t.entries i no_entry) (file i below)))) rest.1,
    )

pub found-good : (holds : Spec → Option (List (List ℕ))) (specs : List VolumeSpec) (ds : List (ℕ × DiskSeen)) (ts : List TableSeen) → AreMounted holds specs ds ts
    → Distinct (map (λ (d : ℕ × DiskSeen). d.0) ds) → AllByRecursion IsVolumeTable ts → AllBlocks ds → GoodFiles (found_files ds ts)
found-good holds specs ds ts m distinct v has =
    let ns = map (λ (d : ℕ × DiskSeen). d.0) ds in
    let is = infos-found ds ts in
    let own = each_own holds specs ds ts m has in
    record {
      names = subst (λ (xs : List FileInfo). AllByRecursion (λ (i : FileInfo). IsVolumeName i.name) xs) (sym is) (mounted-each (λ i. IsVolumeName i.name) ns ts (each_name ns ts v));
      differ = subst Differ (sym is) (mounted-differ ns ts distinct v);
      own = own.0;
      kept = own.1;
    }

-- a disk has the bytes of the files that were found on it
same_stored : (content other : Option (List (List ℕ))) (e : FileInfo) → other ≡ content → IfSome content (λ blocks. stored_bytes blocks e ≡ content_bytes other e)
same_stored None other e is = tt
same_stored (Some blocks) other e is = sym (ap (λ (o : Option (List (List ℕ))). content_bytes o e) is)

pub found-stored : (n : ℕ) (content : Option (List (List ℕ))) (ds : List (ℕ × DiskSeen)) (ts : List TableSeen) → AllByRecursion (λ (d : ℕ × DiskSeen). d.0 ≡ n → d.1.content ≡ content) ds
    → AllByRecursion (Stored n content) (found_files ds ts)
found-stored n content [] ts same = tt
found-stored n content (d ∷ ds) [] same = tt
found-stored n content (d ∷ ds) (t ∷ ts) same =
    all_append (Stored n content) (map (found_file d) t.entries) (found_files ds ts)
    (all_mapped (Stored n content) (found_file d) t.entries (all_at (λ (e : FileInfo). Stored n content (found_file d e)) t.entries no_entry
    (λ i below on. same_stored content d.1.content (slice_index_or t.entries i no_entry) (same.0 on))))
    (found-stored n content ds ts same.1)

-- the disk of a number
pub own-disk : (ds : List (ℕ × DiskSeen)) (i : ℕ) (x : ℕ × DiskSeen) → Distinct (map (λ (d : ℕ × DiskSeen). d.0) ds) → i < length ds → x ≡ slice_index_or ds i x
    → AllByRecursion (λ (d : ℕ × DiskSeen). d.0 ≡ x.0 → d.1.content ≡ x.1.content) ds
own-disk [] i x distinct below is = tt
own-disk (d ∷ ds) zero x distinct below is = (
  λ same. ap (λ (y : ℕ × DiskSeen). y.1.content) (sym is),
  others ds (subst (λ n. AllByRecursion (λ m. n ≢ m) (map (λ (e : ℕ × DiskSeen). e.0) ds)) (ap (λ (y : ℕ × DiskSeen). y.0) (sym is)) distinct.0),
)
  where
    others : (es : List (ℕ × DiskSeen)) → AllByRecursion (λ m. x.0 ≢ m) (map (λ (e : ℕ × DiskSeen). e.0) es) → AllByRecursion (λ (e : ℕ × DiskSeen). e.0 ≡ x.0 → e.1.content ≡ x.1.content) es
    others [] ne = tt
    others (e ∷ es) ne = (λ same. absurd (ne.0 (sym same)), others es ne.1)
own-disk (d ∷ ds) (suc i) x distinct below is =
    (λ same. absurd (apart ds i distinct.0 (omega (arith, below)) is same), own-disk ds i x distinct.1 (omega (arith, below)) is)
  where
    apart : (es : List (ℕ × DiskSeen)) (j : ℕ) → AllByRecursion (λ m. d.0 ≢ m) (map (λ (e : ℕ × DiskSeen). e.0) es) → j < length es → x ≡ slice_index_or es j x → d.0 ≡ x.0 → ⊥
    apart [] j ne less at same = omega (arith, less)
    apart (e ∷ es) zero ne less at same = ne.0 (same ∙ ap (λ (y : ℕ × DiskSeen). y.0) at)
    apart (e ∷ es) (suc j) ne less at same = apart es j ne.1 (omega (arith, less)) at same

pub all-blocks : {D : Type 0} (seen : D → DiskSeen) (ds : List (NumberedDisk D)) → ((d : NumberedDisk D) → HasBlocks (seen d.disk).content (seen d.disk).size) → AllBlocks (map (numbered_seen seen) ds)
all-blocks seen [] has = tt
all-blocks seen (d ∷ ds) has = (has d, all-blocks seen ds has)
