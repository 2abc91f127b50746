-- A transfer of a file at a block's offset is one of the disk.
use Rattle.std.proofs.Common.{ℕ, zero, suc, ◌+◌, ◌*◌, ◌≡◌, ◌<◌, ◌≤◌, ◌∙◌, ap, sym, refl, subst, arith, List, length, take, drop, set, replicate, Option, Some, None}
use Rattle.std.specs.Prelude.{option_map, IfSome, Result, Ok, Err, OnOk, is_err, slice_index}
use Rattle.std.proofs.Math.Nat.{le-add_right}
use Rattle.std.proofs.lemmas.List.{length-take, length-replicate, take_all}
use Rattle.block_device.specs.DiskSeen.{Reads, Writes, Shows, Spoils, with_block}
use Rattle.disk_file.specs.FileBytes.{AreOctets, overlaid, PutsPiece, ReadsAt, WritesAt}
use Rattle.disk_file.specs.FileBlocks.{block_of_file, blocks_of_file, get_or-blocks_of_file, block_of_file-IsBlock}
use Rattle.disk_file.specs.FileDiskSeen.{FileDiskSeen, file_disk_as_disk, after_transfer, with_file_bytes}
use Rattle.disk_file.proofs.PieceLemmas.{length-overlaid}
use Rattle.disk_file.proofs.BlockLemmas.{blocks_of_file-overlaid, block_of_file-here}

-- ---- what is told

pub if_told : (P : List ℕ → Type 0) (bytes : Option (List ℕ)) → ((all : List ℕ) → bytes ≡ Some all → P all) → IfSome bytes P
if_told P None fact = tt
if_told P (Some all) fact = fact all refl

pub as_told : (P : List ℕ → Type 0) (bytes : Option (List ℕ)) → IfSome bytes P → (all : List ℕ) → bytes ≡ Some all → P all
as_told P bytes fact all is = subst (λ (b : Option (List ℕ)). IfSome b P) is fact

-- The file has so many bytes, where it tells them.
abbrev pub Reaches : Option (List ℕ) → ℕ → Type 0
Reaches bytes end = (all : List ℕ) → bytes ≡ Some all → end ≤ length all

-- ---- a read

shows : (bytes : Option (List ℕ)) (size block offset : ℕ) (into : List ℕ) → offset ≡ 4096 * block → block < size → length into ≡ 4096
    → IfSome bytes (λ all. take 4096 into ≡ take 4096 (drop offset all)) → Shows (option_map (blocks_of_file size) bytes) block into
shows None size block offset into is inside full same = tt
shows (Some all) size block offset into is inside full same =
    sym (take_all 4096 into (omega (arith, full))) ∙ same ∙ ap (λ (o : ℕ). take 4096 (drop o all)) is ∙ sym (get_or-blocks_of_file size all block inside)

pub read_at_offset : {S : Type 0} (old new : Option (List ℕ)) (offset other : ℕ) (into : List ℕ) (moved : Result ℕ S) → ReadsAt old new offset into moved → offset ≡ other → ReadsAt old new other into moved
read_at_offset {S = S} old new offset other into moved read is = subst (λ (o : ℕ). ReadsAt old new o into moved) is read

reads_counted : {E S : Type 0} (d : FileDiskSeen) (bytes : Option (List ℕ)) (block offset : ℕ) (into : List ℕ) (moved : Result ℕ S) (result : Result (Unit {0}) E)
    → offset ≡ 4096 * block → block < d.size → length into ≡ 4096 → ReadsAt d.bytes bytes offset into moved → OnOk result (moved ≡ Ok 4096)
    → Reads (file_disk_as_disk d) (file_disk_as_disk (after_transfer (with_file_bytes d bytes) (is_err result))) block into result
reads_counted {S = S} d bytes block offset into moved (Ok done) is inside full read whole = record {
  gives = shows d.bytes d.size block offset into is inside full (subst (λ (m : Result ℕ S). ReadsAt d.bytes bytes offset into m) whole read).gives;
  content = ap (option_map (blocks_of_file d.size)) read.kept;
  size = refl;
  kind = refl;
  calls = omega arith;
  cause = record { later = omega arith; failed = tt };
  steady = refl;
}
reads_counted d bytes block offset into moved (Err e) is inside full read whole = record {
  gives = tt;
  content = ap (option_map (blocks_of_file d.size)) read.kept;
  size = refl;
  kind = refl;
  calls = omega arith;
  cause = record { later = omega arith; failed = omega arith };
  steady = tt;
}

-- A read of 4096 bytes at a block's offset, which was counted, reads the block.
pub reads : {E S : Type 0} (d new : FileDiskSeen) (bytes : Option (List ℕ)) (block offset : ℕ) (into : List ℕ) (moved : Result ℕ S) (result : Result (Unit {0}) E)
    → offset ≡ 4096 * block → block < d.size → length into ≡ 4096 → ReadsAt d.bytes bytes offset into moved → OnOk result (moved ≡ Ok 4096)
    → new ≡ after_transfer (with_file_bytes d bytes) (is_err result) → Reads (file_disk_as_disk d) (file_disk_as_disk new) block into result
reads d new bytes block offset into moved result is inside full read whole counted =
    subst (λ (n : FileDiskSeen). Reads (file_disk_as_disk d) (file_disk_as_disk n) block into result) (sym counted) (reads_counted d bytes block offset into moved result is inside full read whole)

pub read_reaches : {S : Type 0} (old new : Option (List ℕ)) (offset end : ℕ) (into : List ℕ) (moved : Result ℕ S) → ReadsAt old new offset into moved → Reaches old end → Reaches new end
read_reaches old new offset end into moved read reaches all is = reaches all (sym read.kept ∙ is)

-- ---- a write

pub write_at_offset : {S : Type 0} (old new : Option (List ℕ)) (offset other : ℕ) (from : List ℕ) (moved : Result ℕ S) → WritesAt old new offset from moved → offset ≡ other → WritesAt old new other from moved
write_at_offset {S = S} old new offset other from moved written is = subst (λ (o : ℕ). WritesAt old new o from moved) is written

pub puts_piece : {S : Type 0} (old new : Option (List ℕ)) (offset : ℕ) (from : List ℕ) (moved : Result ℕ S) → WritesAt old new offset from moved → PutsPiece old new offset (length from)
puts_piece old new offset from (Ok count) written = (take count from, omega (arith, length-take count from), written.put)
puts_piece old new offset from (Err e) written = written.torn

zeros_are_bytes : (count at : ℕ) → slice_index (replicate count 0) at < 256
zeros_are_bytes zero at = le-add_right 1 255
zeros_are_bytes (suc count) zero = le-add_right 1 255
zeros_are_bytes (suc count) (suc at) = zeros_are_bytes count at

spoils_told : (old new : Option (List ℕ)) (size block offset : ℕ) (piece : List ℕ) → offset ≡ 4096 * block → block < size → Reaches old (4096 * size) → IfSome new AreOctets
    → length piece ≤ 4096 → new ≡ option_map (overlaid offset piece) old → Spoils (option_map (blocks_of_file size) old) (option_map (blocks_of_file size) new) block
spoils_told None new size block offset piece is inside reaches are short put =
    (replicate 4096 0, (length-replicate {A = ℕ} 4096 0, zeros_are_bytes 4096), ap (option_map (blocks_of_file size)) put)
spoils_told (Some all) new size block offset piece is inside reaches are short put =
    let after = overlaid offset piece all in
    let long : 4096 * size ≤ length all = reaches all refl in
    let bytes : AreOctets after = subst (λ (b : Option (List ℕ)). IfSome b AreOctets) put are in
    let size_kept : length after ≡ length all = length-overlaid offset piece all (omega (arith, is, inside, long, short)) in (
      block_of_file after block,
      block_of_file-IsBlock after size block bytes (omega (arith, long, size_kept)) inside,
      ap (option_map (blocks_of_file size)) put ∙ ap (λ (blocks : List (List ℕ)). Some blocks) (blocks_of_file-overlaid block offset size piece all inside is short (omega (arith, is, inside, long))),
    )

writes_told : (old new : Option (List ℕ)) (size block offset : ℕ) (from : List ℕ) → offset ≡ 4096 * block → block < size → length from ≡ 4096 → Reaches old (4096 * size)
    → new ≡ option_map (overlaid offset (take 4096 from)) old → option_map (blocks_of_file size) new ≡ with_block (option_map (blocks_of_file size) old) block from
writes_told None new size block offset from is inside full reaches put = ap (option_map (blocks_of_file size)) put
writes_told (Some all) new size block offset from is inside full reaches put =
    let long : offset ≤ length all = let reached = reaches all refl in omega (arith, is, inside, reached) in
    let whole : take 4096 from ≡ from = take_all 4096 from (omega (arith, full)) in
    ap (option_map (blocks_of_file size)) (put ∙ ap (λ (piece : List ℕ). Some (overlaid offset piece all)) whole)
    ∙ ap (λ (blocks : List (List ℕ)). Some blocks) (blocks_of_file-overlaid block offset size from all inside is (omega (arith, full)) long ∙ ap (set (blocks_of_file size all) block) (block_of_file-here block offset from all is full long))

writes_counted : {E S : Type 0} (d : FileDiskSeen) (bytes : Option (List ℕ)) (block offset : ℕ) (from : List ℕ) (moved : Result ℕ S) (result : Result (Unit {0}) E)
    → offset ≡ 4096 * block → block < d.size → length from ≡ 4096 → Reaches d.bytes (4096 * d.size) → IfSome bytes AreOctets → WritesAt d.bytes bytes offset from moved → OnOk result (moved ≡ Ok 4096)
    → Writes (file_disk_as_disk d) (file_disk_as_disk (after_transfer (with_file_bytes d bytes) (is_err result))) block from result
writes_counted {S = S} d bytes block offset from moved (Ok done) is inside full reaches are written whole = record {
  written = writes_told d.bytes bytes d.size block offset from is inside full reaches (subst (λ (m : Result ℕ S). WritesAt d.bytes bytes offset from m) whole written).put;
  spoiled = tt;
  size = refl;
  kind = refl;
  calls = omega arith;
  cause = record { later = omega arith; failed = tt };
  steady = refl;
}
writes_counted d bytes block offset from moved (Err e) is inside full reaches are written whole =
    let put = puts_piece d.bytes bytes offset from moved written in
    record {
      written = tt;
      spoiled = spoils_told d.bytes bytes d.size block offset put.0 is inside reaches are (omega (arith, put.1, full)) put.2;
      size = refl;
      kind = refl;
      calls = omega arith;
      cause = record { later = omega arith; failed = omega arith };
      steady = tt;
    }

-- A write of 4096 bytes at a block's offset, which was counted, writes the block.
pub writes : {E S : Type 0} (d new : FileDiskSeen) (bytes : Option (List ℕ)) (block offset : ℕ) (from : List ℕ) (moved : Result ℕ S) (result : Result (Unit {0}) E)
    → offset ≡ 4096 * block → block < d.size → length from ≡ 4096 → Reaches d.bytes (4096 * d.size) → IfSome bytes AreOctets → WritesAt d.bytes bytes offset from moved → OnOk result (moved ≡ Ok 4096)
    → new ≡ after_transfer (with_file_bytes d bytes) (is_err result) → Writes (file_disk_as_disk d) (file_disk_as_disk new) block from result
writes d new bytes block offset from moved result is inside full reaches are written whole counted =
    subst (λ (n : FileDiskSeen). Writes (file_disk_as_disk d) (file_disk_as_disk n) block from result) (sym counted) (writes_counted d bytes block offset from moved result is inside full reaches are written whole)

put_told : (old new : Option (List ℕ)) (offset end most : ℕ) → PutsPiece old new offset most → offset + most ≤ end → Reaches old end → IfSome new (λ all. end ≤ length all)
put_told None new offset end most put inside reaches = subst (λ (b : Option (List ℕ)). IfSome b (λ all. end ≤ length all)) (sym put.2) tt
put_told (Some old) new offset end most put inside reaches =
    let long : end ≤ length old = reaches old refl in
    let short : length put.0 ≤ most = put.1 in
    let kept : length (overlaid offset put.0 old) ≡ length old = length-overlaid offset put.0 old (omega (arith, short, inside, long)) in
    let after : end ≤ length (overlaid offset put.0 old) = omega (arith, kept, long) in
    subst (λ (b : Option (List ℕ)). IfSome b (λ all. end ≤ length all)) (sym put.2) after

pub write_reaches : {S : Type 0} (old new : Option (List ℕ)) (offset end : ℕ) (from : List ℕ) (moved : Result ℕ S) → WritesAt old new offset from moved → offset + length from ≤ end → Reaches old end → Reaches new end
write_reaches old new offset end from moved written inside reaches = as_told (λ (all : List ℕ). end ≤ length all) new (put_told old new offset end (length from) (puts_piece old new offset from moved written) inside reaches)
