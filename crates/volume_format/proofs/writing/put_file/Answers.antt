use Rattle.std.proofs.Common.{◌≡◌, ◌≤◌, ◌+◌, ◌++◌, ℕ, List, length, ap, ◌∙◌, arith, refl, length-append}
use Rattle.std.specs.Prelude.{Bool, true, false, if◌then◌else◌}
use Rattle.vnode_files.specs.declared.extent.Extent.{Extent}
use mir.Val.{bool_byte}
use Rattle.volume_format.specs.Writing.{padded_field, number_bytes, file_entry_bytes, with_block_bytes}
use Rattle.volume_format.proofs.WritingLemmas.{written-then, length-number_bytes, length-zero_filled}
use Rattle.volume_format.proofs.writing.put_file.Goals as goal

mode-is : (b : Bool) → bool_byte b ≡ (if b then 1 else 0)
mode-is true = refl
mode-is false = refl

pub returns-clause-new : goal.returns-clause-new
unfolding file_entry_bytes
returns-clause-new c =
    let f = c.args.file.now in
    let block = c.args.into.now in
    let at = c.args.at in
    let name = padded_field 16 f.name in
    let number = number_bytes f.length in
    let first = number_bytes c.args.first in
    let count = number_bytes (length f.extents) in
    let mode = number_bytes (if f.writable then 1 else 0) in
    let within : at ≤ length block = omega arith in
    let n0 = length-zero_filled 16 f.name c.name_field.ensures.short in
    let n1 = length-number_bytes f.length in
    let n2 = length-number_bytes c.args.first in
    let n3 = length-number_bytes (length f.extents) in
    let e0 : c.put.new.into ≡ with_block_bytes block at name = c.put.ensures ∙ ap (with_block_bytes block at) c.name_field.ensures.field in
    let e1 = written-then block c.put.new.into c.put_number.new.into name number at (at + 16) e0 c.put_number.ensures (omega arith) within in
    let e2 = written-then block c.put_number.new.into c.put_number-2.new.into (name ++ number) first at (at + 20) e1 c.put_number-2.ensures (omega (arith, length-append name number)) within in
    let listed : c.put_number-3.new.into ≡ with_block_bytes c.put_number-2.new.into (at + 24) count = c.put_number-3.ensures
    ∙ ap (λ (es : List Extent). with_block_bytes c.put_number-2.new.into (at + 24) (number_bytes (length es))) c.list.ensures in
    let e3 = written-then block c.put_number-2.new.into c.put_number-3.new.into (name ++ number ++ first) count at (at + 24) e2 listed
    (omega (arith, length-append (name ++ number) first, length-append name number)) within in
    let moded : c.put_number-4.new.into ≡ with_block_bytes c.put_number-3.new.into (at + 28) mode = c.put_number-4.ensures
    ∙ ap (λ (n : ℕ). with_block_bytes c.put_number-3.new.into (at + 28) (number_bytes n)) (mode-is f.writable) in
    written-then block c.put_number-3.new.into c.put_number-4.new.into (name ++ number ++ first ++ count) mode at (at + 28) e3 moded
    (omega (arith, length-append (name ++ number ++ first) count, length-append (name ++ number) first, length-append name number)) within

pub returns-clause-size : goal.returns-clause-size
unfolding file_entry_bytes
returns-clause-size c =
    let f = c.args.file.now in
    let name = padded_field 16 f.name in
    let number = number_bytes f.length in
    let first = number_bytes c.args.first in
    let count = number_bytes (length f.extents) in
    let mode = number_bytes (if f.writable then 1 else 0) in
    omega (
      arith,
      length-zero_filled 16 f.name c.name_field.ensures.short,
      length-append (name ++ number ++ first ++ count) mode,
      length-append (name ++ number ++ first) count,
      length-append (name ++ number) first,
      length-append name number,
      length-number_bytes f.length,
      length-number_bytes c.args.first,
      length-number_bytes (length f.extents),
      length-number_bytes (if f.writable then 1 else 0),
    )
