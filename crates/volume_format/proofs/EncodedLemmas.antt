-- What the fields of a table's spelling say.
use Rattle.std.proofs.Common.{ℕ, suc, ◌≡◌, ◌<◌, ◌≤◌, ◌+◌, ◌-◌, ◌*◌, ◌^◌, Bool, true, false, ◌&&◌, ltb, leb, List, [], ◌∷◌, ◌++◌, length, replicate}
use Rattle.std.proofs.Common.{refl, ap, sym, subst, ◌∙◌, inl, inr, arith, append_assoc, length-append}
use Rattle.std.specs.Prelude.{if◌then◌else◌, slice_range, codes}
use Rattle.std.specs.List.{flat_map, range_with_len}
use Rattle.std.proofs.lemmas.Bool.{cases_lt, and_parts, ltb-true, leb-true}
use Rattle.std.proofs.lemmas.List.{take_all, get_or_append_left, get_or-append_right, length-replicate}
use Rattle.std.proofs.lemmas.List.Folds.{flat_map-map, length-flat_map-take}
use Rattle.std.proofs.lemmas.List.FromFn.{fill_by_all}
use Rattle.vnode_files.specs.declared.extent.Extent.{Extent}
use Rattle.vnode_files.specs.declared.vnode.FileInfo.{FileInfo}
use Rattle.vnode_files.specs.Grow.{extent_end}
use Rattle.volume_format.specs.Table.{TableSeen, all_extents, entry_at, no_entry}
use Rattle.volume_format.specs.Layout.{number_at, name_field, length_of_file, mode_of_file, first_extent, extents_number, table_extent, version, file_count, extent_count, entry_start, extent_start}
use Rattle.volume_format.specs.Rules.{is_on_disk}
use Rattle.volume_format.specs.Writing.{padded_field, number_bytes, extent_bytes, entry_bytes, entries_bytes, extents_bytes, extents_up_to, header_bytes, encoding}
use Rattle.volume_format.specs.Volume.{extent_at, IsVolumeTable}
use Rattle.volume_format.proofs.SliceLemmas.{slice-front, slice-last, slice-slice}
use Rattle.volume_format.proofs.WritingLemmas.{length-number_bytes, length-zero_filled, length-extent_bytes, length-flat_map-same, length-header_bytes}
use Rattle.volume_format.proofs.FieldLemmas.{in-front, slice-behind, number-read, EntryParts, entry-parts, length-flat, flat-part}

-- An extent on a disk.
pub record OnDisk (blocks : ℕ) (e : Extent) : Type 0 where
  pub start : 1 ≤ e.start
  pub pages : 1 ≤ e.pages
  pub end : e.start + e.pages ≤ blocks

pub on_disk-from : (blocks : ℕ) (e : Extent) → is_on_disk blocks e ≡ true → OnDisk blocks e
on_disk-from blocks e h =
    let a = and_parts (ltb 0 e.start && ltb 0 e.pages) (leb (extent_end e) blocks) h in
    let b = and_parts (ltb 0 e.start) (ltb 0 e.pages) a.0 in
    record { start = ltb-true 0 e.start b.0; pages = ltb-true 0 e.pages b.1; end = leb-true (extent_end e) blocks a.1 }

-- What holds of each extent of each file holds of each extent of the table.
pub each-of-all : (P : Extent → Type 0) (entries : List FileInfo)
    → ((i : ℕ) → i < length entries → (j : ℕ) → j < length (entry_at entries i).extents → P (extent_at (entry_at entries i).extents j))
    → (j : ℕ) → j < length (all_extents entries) → P (extent_at (all_extents entries) j)
each-of-all P [] each j there = absurd (omega arith)
each-of-all P (e ∷ es) each j there = elim (cases_lt j (length e.extents)) [
  | inl own ↦ subst P (sym (get_or_append_left e.extents (all_extents es) (record { start = 0; pages = 0 }) j own)) (each 0 (omega arith) j own)
  | inr past ↦
      let size = length-append e.extents (all_extents es) in
      let n = length e.extents in
      subst P (sym (get_or-append_right e.extents (all_extents es) n j (record { start = 0; pages = 0 }) refl past))
      (each-of-all P es (λ i within k inside. each (suc i) (omega arith) k inside) (j - n) (omega (arith, size)))
]

-- The sizes of a volume table's parts.
pub record Sizes (t : TableSeen) : Type 0 where
  pub entry : (i : ℕ) → i < length t.entries → EntryParts (entry_at t.entries i) (extents_up_to t.entries i)
  pub entries : length (entries_bytes t.entries) ≡ 32 * length t.entries
  pub extents : length (extents_bytes t.entries) ≡ 8 * length (all_extents t.entries)
  pub files : length t.entries ≤ 64
  pub count : length (all_extents t.entries) ≤ 252

pub sizes : (t : TableSeen) → IsVolumeTable t → Sizes t
sizes t h =
    let parts = λ (i : ℕ) (there : i < length t.entries). entry-parts (entry_at t.entries i) (extents_up_to t.entries i) (h.files i there).name.short in
    record {
      entry = parts;
      entries = length-flat (entry_bytes t.entries) 32 (length t.entries) (λ i there. (parts i there).whole);
      extents = length-flat_map-same extent_bytes 8 length-extent_bytes (all_extents t.entries);
      files = h.room.files;
      count = h.room.extents;
    }

-- Parts of the header, of the entries and of the extents, where they stand in the whole.
pub in-header : (t : TableSeen) (part : List ℕ) (at end : ℕ) → at ≤ end → end ≤ 32 → slice_range (header_bytes t) at end ≡ part → slice_range (encoding t) at end ≡ part
unfolding encoding
in-header t part at end order within e =
    in-front (header_bytes t) (padded_field 2048 (entries_bytes t.entries) ++ padded_field 2016 (extents_bytes t.entries)) part at end order (omega (arith, length-header_bytes t)) e

pub in-entries : (t : TableSeen) → Sizes t → (from to : ℕ) → from ≤ to → to ≤ 2048
    → slice_range (encoding t) (32 + from) (32 + to) ≡ slice_range (padded_field 2048 (entries_bytes t.entries)) from to
unfolding encoding
in-entries t s from to order within =
    let entries = padded_field 2048 (entries_bytes t.entries) in
    let extents = padded_field 2016 (extents_bytes t.entries) in
    let size = length-zero_filled 2048 (entries_bytes t.entries) (omega (arith, s.entries, s.files)) in
    slice-behind (header_bytes t) (entries ++ extents) 32 from to (length-header_bytes t)
    ∙ slice-front entries extents from to order (omega (arith, size))

pub in-extents : (t : TableSeen) → Sizes t → (from to : ℕ) → slice_range (encoding t) (2080 + from) (2080 + to) ≡ slice_range (padded_field 2016 (extents_bytes t.entries)) from to
unfolding encoding
in-extents t s from to =
    let header = header_bytes t in
    let entries = padded_field 2048 (entries_bytes t.entries) in
    let extents = padded_field 2016 (extents_bytes t.entries) in
    let size = length-zero_filled 2048 (entries_bytes t.entries) (omega (arith, s.entries, s.files)) in
    let upper : length (header ++ entries) ≡ 2080 = omega (arith, length-append header entries, length-header_bytes t, size) in
    ap (λ (xs : List ℕ). slice_range xs (2080 + from) (2080 + to)) (sym (append_assoc header entries extents))
    ∙ slice-behind (header ++ entries) extents 2080 from to upper

-- An entry, and a field of it.
entry-at : (t : TableSeen) → Sizes t → (i : ℕ) → i < length t.entries → slice_range (encoding t) (32 + 32 * i) (32 + 32 * i + 32) ≡ entry_bytes t.entries i
entry-at t s i there =
    let f = entry_bytes t.entries in
    let end : 32 + 32 * i + 32 ≡ 32 + (32 * i + 32) = omega arith in
    ap (slice_range (encoding t) (32 + 32 * i)) end
    ∙ in-entries t s (32 * i) (32 * i + 32) (omega arith) (omega (arith, s.files))
    ∙ slice-front (entries_bytes t.entries) (replicate (2048 - length (entries_bytes t.entries)) 0) (32 * i) (32 * i + 32) (omega arith) (omega (arith, s.entries))
    ∙ flat-part f 32 (length t.entries) i (λ k within. (s.entry k within).whole) there

entry-field : (t : TableSeen) → Sizes t → (i : ℕ) → i < length t.entries → (from to : ℕ) (part : List ℕ) → from ≤ to → to ≤ 32
    → slice_range (entry_bytes t.entries i) from to ≡ part → slice_range (encoding t) (32 + 32 * i + from) (32 + 32 * i + to) ≡ part
entry-field t s i there from to part order within e =
    sym (slice-slice (encoding t) (32 + 32 * i) (32 + 32 * i + 32) from to order (omega arith))
    ∙ ap (λ (xs : List ℕ). slice_range xs from to) (entry-at t s i there)
    ∙ e

entry-number : (t : TableSeen) → Sizes t → (i : ℕ) → i < length t.entries → (from n : ℕ) → from + 4 ≤ 32 → n < 2 ^ 32
    → slice_range (entry_bytes t.entries i) from (from + 4) ≡ number_bytes n → number_at (encoding t) (32 + 32 * i + from) ≡ n
entry-number t s i there from n within fits e =
    let end : 32 + 32 * i + from + 4 ≡ 32 + 32 * i + (from + 4) = omega arith in
    number-read (encoding t) (32 + 32 * i + from) n fits
    (ap (slice_range (encoding t) (32 + 32 * i + from)) end ∙ entry-field t s i there from (from + 4) (number_bytes n) (omega arith) within e)

-- The parts of the header.
record HeaderParts (t : TableSeen) : Type 0 where
  magic : slice_range (header_bytes t) 0 8 ≡ codes "SUNVMVOL"
  two : slice_range (header_bytes t) 8 12 ≡ number_bytes 2
  blocks : slice_range (header_bytes t) 12 16 ≡ number_bytes t.blocks
  files : slice_range (header_bytes t) 16 20 ≡ number_bytes (length t.entries)
  extents : slice_range (header_bytes t) 20 24 ≡ number_bytes (length (all_extents t.entries))
  zeros : slice_range (header_bytes t) 24 32 ≡ replicate 8 0

header-parts : (t : TableSeen) → HeaderParts t
unfolding header_bytes
header-parts t =
    let magic : List ℕ = codes "SUNVMVOL" in
    let two = number_bytes 2 in
    let blocks = number_bytes t.blocks in
    let files = number_bytes (length t.entries) in
    let extents = number_bytes (length (all_extents t.entries)) in
    let zeros : List ℕ = replicate 8 0 in
    let l0 : length magic ≡ 8 = refl in
    let n1 : length two ≡ 4 = length-number_bytes 2 in
    let n2 : length blocks ≡ 4 = length-number_bytes t.blocks in
    let n3 : length files ≡ 4 = length-number_bytes (length t.entries) in
    let n4 : length extents ≡ 4 = length-number_bytes (length (all_extents t.entries)) in
    let n5 : length zeros ≡ 8 = length-replicate {A = ℕ} 8 0 in
    let l1 : length (magic ++ two) ≡ 12 = omega (arith, length-append magic two) in
    let l2 : length (magic ++ two ++ blocks) ≡ 16 = omega (arith, length-append (magic ++ two) blocks) in
    let l3 : length (magic ++ two ++ blocks ++ files) ≡ 20 = omega (arith, length-append (magic ++ two ++ blocks) files) in
    let l4 : length (magic ++ two ++ blocks ++ files ++ extents) ≡ 24 = omega (arith, length-append (magic ++ two ++ blocks ++ files) extents) in
    record {
      magic = in-front (magic ++ two ++ blocks ++ files ++ extents) zeros magic 0 8 (omega arith) (omega arith)
          (in-front (magic ++ two ++ blocks ++ files) extents magic 0 8 (omega arith) (omega arith)
          (in-front (magic ++ two ++ blocks) files magic 0 8 (omega arith) (omega arith)
          (in-front (magic ++ two) blocks magic 0 8 (omega arith) (omega arith)
          (in-front magic two magic 0 8 (omega arith) (omega arith) (take_all 8 magic (omega arith))))));
      two = in-front (magic ++ two ++ blocks ++ files ++ extents) zeros two 8 12 (omega arith) (omega arith)
          (in-front (magic ++ two ++ blocks ++ files) extents two 8 12 (omega arith) (omega arith)
          (in-front (magic ++ two ++ blocks) files two 8 12 (omega arith) (omega arith)
          (in-front (magic ++ two) blocks two 8 12 (omega arith) (omega arith) (slice-last magic two 8 12 l0 (omega arith)))));
      blocks = in-front (magic ++ two ++ blocks ++ files ++ extents) zeros blocks 12 16 (omega arith) (omega arith)
          (in-front (magic ++ two ++ blocks ++ files) extents blocks 12 16 (omega arith) (omega arith)
          (in-front (magic ++ two ++ blocks) files blocks 12 16 (omega arith) (omega arith) (slice-last (magic ++ two) blocks 12 16 l1 (omega arith))));
      files = in-front (magic ++ two ++ blocks ++ files ++ extents) zeros files 16 20 (omega arith) (omega arith)
          (in-front (magic ++ two ++ blocks ++ files) extents files 16 20 (omega arith) (omega arith) (slice-last (magic ++ two ++ blocks) files 16 20 l2 (omega arith)));
      extents = in-front (magic ++ two ++ blocks ++ files ++ extents) zeros extents 20 24 (omega arith) (omega arith) (slice-last (magic ++ two ++ blocks ++ files) extents 20 24 l3 (omega arith));
      zeros = slice-last (magic ++ two ++ blocks ++ files ++ extents) zeros 24 32 l4 (omega arith);
    }

-- An extent of the table.
bytes-of-extents : (extents : List Extent) → flat_map extent_bytes extents ≡ flat_map (λ j. extent_bytes (extent_at extents j)) (range_with_len 0 (length extents))
bytes-of-extents extents =
    ap (flat_map extent_bytes) (fill_by_all (extent_at extents) extents (length extents) (record { start = 0; pages = 0 }) refl (λ k within. refl))
    ∙ flat_map-map extent_bytes (extent_at extents) (range_with_len 0 (length extents))

extent-bytes-at : (t : TableSeen) → Sizes t → (j : ℕ) → j < length (all_extents t.entries)
    → slice_range (encoding t) (2080 + 8 * j) (2080 + 8 * j + 8) ≡ extent_bytes (extent_at (all_extents t.entries) j)
extent-bytes-at t s j there =
    let all = all_extents t.entries in
    let bytes = extents_bytes t.entries in
    let end : 2080 + 8 * j + 8 ≡ 2080 + (8 * j + 8) = omega arith in
    ap (slice_range (encoding t) (2080 + 8 * j)) end
    ∙ in-extents t s (8 * j) (8 * j + 8)
    ∙ slice-front bytes (replicate (2016 - length bytes) 0) (8 * j) (8 * j + 8) (omega arith) (omega (arith, s.extents))
    ∙ ap (λ (xs : List ℕ). slice_range xs (8 * j) (8 * j + 8)) (bytes-of-extents all)
    ∙ flat-part (λ j. extent_bytes (extent_at all j)) 8 (length all) j (λ k within. length-extent_bytes (extent_at all k)) there

extent-number : (t : TableSeen) → Sizes t → (j : ℕ) → j < length (all_extents t.entries) → (from n : ℕ) → from + 4 ≤ 8 → n < 2 ^ 32
    → slice_range (extent_bytes (extent_at (all_extents t.entries) j)) from (from + 4) ≡ number_bytes n → number_at (encoding t) (2080 + 8 * j + from) ≡ n
extent-number t s j there from n within fits e =
    let end : 2080 + 8 * j + from + 4 ≡ 2080 + 8 * j + (from + 4) = omega arith in
    number-read (encoding t) (2080 + 8 * j + from) n fits
    (ap (slice_range (encoding t) (2080 + 8 * j + from)) end
    ∙ sym (slice-slice (encoding t) (2080 + 8 * j) (2080 + 8 * j + 8) from (from + 4) (omega arith) (omega arith))
    ∙ ap (λ (xs : List ℕ). slice_range xs from (from + 4)) (extent-bytes-at t s j there)
    ∙ e)

extent-first : (e : Extent) → slice_range (extent_bytes e) 0 4 ≡ number_bytes e.start
unfolding extent_bytes
extent-first e =
    in-front (number_bytes e.start) (number_bytes e.pages) (number_bytes e.start) 0 4 (omega arith)
    (omega (arith, length-number_bytes e.start)) (take_all 4 (number_bytes e.start) (omega (arith, length-number_bytes e.start)))

extent-second : (e : Extent) → slice_range (extent_bytes e) 4 8 ≡ number_bytes e.pages
unfolding extent_bytes
extent-second e = slice-last (number_bytes e.start) (number_bytes e.pages) 4 8 (length-number_bytes e.start) (omega (arith, length-number_bytes e.pages))

-- All fields.
pub record Fields (t : TableSeen) (block : List ℕ) : Type 0 where
  pub magic : slice_range block 0 8 ≡ codes "SUNVMVOL"
  pub two : version block ≡ 2
  pub blocks : number_at block 12 ≡ t.blocks
  pub files : file_count block ≡ length t.entries
  pub extents : extent_count block ≡ length (all_extents t.entries)
  pub zeros : slice_range block 24 32 ≡ replicate 8 0
  pub name : (i : ℕ) → i < length t.entries → name_field block i ≡ padded_field 16 (entry_at t.entries i).name
  pub size : (i : ℕ) → i < length t.entries → length_of_file block i ≡ (entry_at t.entries i).length
  pub first : (i : ℕ) → i < length t.entries → first_extent block i ≡ extents_up_to t.entries i
  pub count : (i : ℕ) → i < length t.entries → extents_number block i ≡ length (entry_at t.entries i).extents
  pub mode : (i : ℕ) → i < length t.entries → mode_of_file block i ≡ (if (entry_at t.entries i).writable then 1 else 0)
  pub extent : (j : ℕ) → j < length (all_extents t.entries) → table_extent block j ≡ extent_at (all_extents t.entries) j
  pub no_entry : slice_range block (entry_start (length t.entries)) 2080 ≡ replicate (2048 - length (entries_bytes t.entries)) 0
  pub no_extent : slice_range block (extent_start (length (all_extents t.entries))) 4096 ≡ replicate (2016 - length (extents_bytes t.entries)) 0

mode-fits : (b : Bool) → (if b then 1 else 0) < 2 ^ 32
mode-fits true = omega arith
mode-fits false = omega arith

-- The extents of the files up to one, and its own, are among those of the table.
pub up-to-within : (entries : List FileInfo) (i : ℕ) → i < length entries → extents_up_to entries i + length (entry_at entries i).extents ≤ length (all_extents entries)
up-to-within entries i there = length-flat_map-take (λ (f : FileInfo). f.extents) entries i no_entry there

pub on-disk-all : (t : TableSeen) → IsVolumeTable t → (j : ℕ) → j < length (all_extents t.entries) → OnDisk t.blocks (extent_at (all_extents t.entries) j)
on-disk-all t h = each-of-all (OnDisk t.blocks) t.entries (λ i there j within. on_disk-from t.blocks (extent_at (entry_at t.entries i).extents j) ((h.files i there).places j within))

field-name : (t : TableSeen) → Sizes t → (i : ℕ) → i < length t.entries → name_field (encoding t) i ≡ padded_field 16 (entry_at t.entries i).name
field-name t s i there =
    let start : 32 + 32 * i ≡ 32 + 32 * i + 0 = omega arith in
    ap (λ (n : ℕ). slice_range (encoding t) n (32 + 32 * i + 16)) start
    ∙ entry-field t s i there 0 16 (padded_field 16 (entry_at t.entries i).name) (omega arith) (omega arith) (s.entry i there).name

field-extent : (t : TableSeen) → Sizes t → IsVolumeTable t → (j : ℕ) → j < length (all_extents t.entries) → table_extent (encoding t) j ≡ extent_at (all_extents t.entries) j
field-extent t s h j there =
    let e = extent_at (all_extents t.entries) j in
    let d = on-disk-all t h j there in
    let zero-more : 2080 + 8 * j + 0 ≡ 2080 + 8 * j = omega arith in
    let start : number_at (encoding t) (2080 + 8 * j) ≡ e.start = ap (number_at (encoding t)) (sym zero-more)
    ∙ extent-number t s j there 0 e.start (omega arith) (omega (arith, d.end, h.number)) (extent-first e) in
    let pages : number_at (encoding t) (2080 + 8 * j + 4) ≡ e.pages = extent-number t s j there 4 e.pages (omega arith) (omega (arith, d.end, h.number)) (extent-second e) in
    λ i. record { start = start i; pages = pages i }

pub fields : (t : TableSeen) → IsVolumeTable t → Fields t (encoding t)
fields t h =
    let s = sizes t h in
    let p = header-parts t in
    let n = length t.entries in
    let entries = entries_bytes t.entries in
    let extents = extents_bytes t.entries in
    record {
      magic = in-header t (codes "SUNVMVOL") 0 8 (omega arith) (omega arith) p.magic;
      two = number-read (encoding t) 8 2 (omega arith) (in-header t (number_bytes 2) 8 12 (omega arith) (omega arith) p.two);
      blocks = number-read (encoding t) 12 t.blocks h.number (in-header t (number_bytes t.blocks) 12 16 (omega arith) (omega arith) p.blocks);
      files = number-read (encoding t) 16 n (omega (arith, s.files)) (in-header t (number_bytes n) 16 20 (omega arith) (omega arith) p.files);
      extents =
          number-read (encoding t) 20 (length (all_extents t.entries)) (omega (arith, s.count))
          (in-header t (number_bytes (length (all_extents t.entries))) 20 24 (omega arith) (omega arith) p.extents);
      zeros = in-header t (replicate 8 0) 24 32 (omega arith) (omega arith) p.zeros;
      name = field-name t s;
      size = λ i there. entry-number t s i there 16 (entry_at t.entries i).length (omega arith) (h.files i there).number (s.entry i there).size;
      first = λ i there. entry-number t s i there 20 (extents_up_to t.entries i) (omega arith) (omega (arith, s.count, up-to-within t.entries i there)) (s.entry i there).place;
      count = λ i there. entry-number t s i there 24 (length (entry_at t.entries i).extents) (omega arith) (omega (arith, s.count, up-to-within t.entries i there)) (s.entry i there).count;
      mode = λ i there. entry-number t s i there 28 (if (entry_at t.entries i).writable then 1 else 0) (omega arith) (mode-fits (entry_at t.entries i).writable) (s.entry i there).mode;
      extent = field-extent t s h;
      no_entry =
          in-entries t s (32 * n) 2048 (omega (arith, s.files)) (omega arith)
          ∙ slice-last entries (replicate (2048 - length entries) 0) (32 * n) 2048 s.entries
          (omega (arith, s.entries, s.files, length-replicate {A = ℕ} (2048 - length entries) 0));
      no_extent =
          in-extents t s (8 * length (all_extents t.entries)) 2016
          ∙ slice-last extents (replicate (2016 - length extents) 0) (8 * length (all_extents t.entries)) 2016 s.extents
          (omega (arith, s.extents, s.count, length-replicate {A = ℕ} (2016 - length extents) 0));
    }

pub length-encoding : (t : TableSeen) → Sizes t → length (encoding t) ≡ 4096
unfolding encoding
length-encoding t s =
    let entries = padded_field 2048 (entries_bytes t.entries) in
    let extents = padded_field 2016 (extents_bytes t.entries) in
    omega (
      arith,
      length-append (header_bytes t) (entries ++ extents),
      length-append entries extents,
      length-header_bytes t,
      length-zero_filled 2048 (entries_bytes t.entries) (omega (arith, s.entries, s.files)),
      length-zero_filled 2016 (extents_bytes t.entries) (omega (arith, s.extents, s.count)),
    )
