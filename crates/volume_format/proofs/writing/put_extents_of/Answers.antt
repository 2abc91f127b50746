use Rattle.std.proofs.Common.{◌≡◌, ◌<◌, ◌≤◌, ◌+◌, ◌*◌, ℕ, List, ◌∷◌, ◌++◌, [], length, take, get_or, ap, sym, ◌∙◌, arith, append_assoc, length-append}
use Rattle.std.proofs.lemmas.List.{append-nil, take_more, length-take-le}
use Rattle.std.proofs.lemmas.List.Concat.{flat_map-append}
use Rattle.vnode_files.specs.declared.extent.Extent.{Extent}
use Rattle.std.specs.List.{flat_map}
use Rattle.volume_format.specs.Writing.{number_bytes, extent_bytes, with_block_bytes}
use Rattle.volume_format.proofs.WritingLemmas.{written-then, with_block_bytes-none, length-number_bytes, length-extent_bytes, length-flat_map-same}
use Rattle.volume_format.proofs.writing.put_extents_of.Goals as goal

more-extents : (extents : List Extent) (i : ℕ) → i < length extents
    → flat_map extent_bytes (take i extents) ++ number_bytes (get_or extents i (record { start = 0; pages = 0 })).start
    ++ number_bytes (get_or extents i (record { start = 0; pages = 0 })).pages
    ≡ flat_map extent_bytes (take (i + 1) extents)
unfolding extent_bytes
more-extents extents i h =
    let none : Extent = record { start = 0; pages = 0 } in
    let e = get_or extents i none in
    append_assoc (flat_map extent_bytes (take i extents)) (number_bytes e.start) (number_bytes e.pages)
    ∙ sym (flat_map-append extent_bytes (take i extents) (e ∷ [])
    ∙ ap (λ (xs : List ℕ). flat_map extent_bytes (take i extents) ++ xs) (append-nil (extent_bytes e)))
    ∙ ap (flat_map extent_bytes) (sym (take_more extents i none h))

pub loop-i-init : goal.loop-i-init
loop-i-init c = sym (with_block_bytes-none c.args.into.now c.args.at)

pub loop-i-preserved : goal.loop-i-preserved
loop-i-preserved c =
    let extents = c.args.extents.now in
    let block = c.args.into.now in
    let at = c.args.at in
    let i = c.loop-i.i in
    let e = get_or extents i (record { start = 0; pages = 0 }) in
    let front = flat_map extent_bytes (take i extents) in
    let n = length-flat_map-same extent_bytes 8 length-extent_bytes (take i extents) in
    let short = length-take-le i extents (omega arith) in
    let within : at ≤ length block = omega arith in
    let one = written-then block c.loop-i.into c.put_number.new.into front (number_bytes e.start) at (at + 8 * i) c.loop-i.invariant c.put_number.ensures (omega (arith, n, short)) within in
    let two = written-then block c.put_number.new.into c.put_number-in-loop-i.new.into (front ++ number_bytes e.start) (number_bytes e.pages) at (at + 8 * i + 4) one c.put_number-in-loop-i.ensures
    (omega (arith, n, short, length-append front (number_bytes e.start), length-number_bytes e.start)) within in
    two ∙ ap (with_block_bytes block at) (more-extents extents i c.loop-i-test.true)
