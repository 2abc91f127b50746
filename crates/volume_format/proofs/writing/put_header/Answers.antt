use Rattle.std.proofs.Common.{◌≡◌, ◌≤◌, ◌++◌, ℕ, List, length, replicate, ap, ◌∙◌, arith, refl, length-append}
use Rattle.std.specs.Prelude.{codes}
use Rattle.vnode_files.specs.declared.vnode.FileInfo.{FileInfo}
use Rattle.volume_format.specs.Table.{all_extents}
use Rattle.volume_format.specs.Writing.{number_bytes, header_bytes, with_block_bytes}
use Rattle.volume_format.proofs.WritingLemmas.{written-then, length-number_bytes}
use Rattle.volume_format.proofs.writing.put_header.Goals as goal

pub returns : goal.returns
unfolding header_bytes
returns c =
    let t = c.args.table.now in
    let block = c.args.into.now in
    let magic : List ℕ = codes "SUNVMVOL" in
    let version = number_bytes 2 in
    let blocks = number_bytes t.blocks in
    let files = number_bytes (length t.entries) in
    let extents = number_bytes (length (all_extents t.entries)) in
    let n1 = length-number_bytes 2 in
    let n2 = length-number_bytes t.blocks in
    let n3 = length-number_bytes (length t.entries) in
    let n4 = length-number_bytes (length (all_extents t.entries)) in
    let front : length magic ≡ 8 = refl in
    let within : 0 ≤ length block = omega arith in
    let e1 = written-then block c.put.new.into c.put_number.new.into magic version 0 8 c.put.ensures c.put_number.ensures (omega arith) within in
    let w2 = c.put_number-2.ensures ∙ ap (λ (n : ℕ). with_block_bytes c.put_number.new.into 12 (number_bytes n)) c.blocks-2.ensures in
    let e2 = written-then block c.put_number.new.into c.put_number-2.new.into (magic ++ version) blocks 0 12 e1 w2 (omega (arith, length-append magic version)) within in
    let w3 = c.put_number-3.ensures ∙ ap (λ (es : List FileInfo). with_block_bytes c.put_number-2.new.into 16 (number_bytes (length es))) c.entries.ensures.entries in
    let e3 = written-then block c.put_number-2.new.into c.put_number-3.new.into (magic ++ version ++ blocks) files 0 16 e2 w3
    (omega (arith, length-append magic version, length-append (magic ++ version) blocks)) within in
    let w4 = c.put_number-4.ensures ∙ ap (λ (n : ℕ). with_block_bytes c.put_number-3.new.into 20 (number_bytes n)) c.extents.ensures in
    let e4 = written-then block c.put_number-3.new.into c.put_number-4.new.into (magic ++ version ++ blocks ++ files) extents 0 20 e3 w4
    (omega (arith, length-append magic version, length-append (magic ++ version) blocks, length-append (magic ++ version ++ blocks) files))
    within in
    written-then block c.put_number-4.new.into c.put-2.new.into (magic ++ version ++ blocks ++ files ++ extents) (replicate 8 0) 0 24 e4 c.put-2.ensures
    (omega (
      arith,
      length-append magic version,
      length-append (magic ++ version) blocks,
      length-append (magic ++ version ++ blocks) files,
      length-append (magic ++ version ++ blocks ++ files) extents,
    ))
    within
