use Rattle.std.proofs.Common.{◌≡◌, ◌+◌, ◌*◌, ◌++◌, List, length, take, ap, sym, ◌∙◌, arith, rules}
use Rattle.std.proofs.lemmas.List.{get_or_read}
use Rattle.std.proofs.lemmas.List.Concat.{flat_map-append}
use Rattle.std.specs.List.{flat_map}
use Rattle.vnode_files.specs.declared.extent.Extent.{Extent}
use Rattle.vnode_files.specs.declared.vnode.FileInfo.{FileInfo}
use Rattle.volume_format.specs.Table.{all_extents, no_entry}
use Rattle.volume_format.specs.Writing.{extent_bytes, with_block_bytes}
use Rattle.volume_format.proofs.TableLemmas.{Counts, counts, extents-more}
use Rattle.volume_format.proofs.WritingLemmas.{written-then, with_block_bytes-none, length-extent_bytes, length-flat_map-same}
use Rattle.volume_format.proofs.writing.put_extents.Goals as goal
use Rattle.volume_format.proofs.writing.put_extents.Goals.{After-list}

-- How many extents the files have up to this one, and with it.
record Turn (c : After-list) : Type 0 where
  counts : Counts c.args.entries.now c.loop-file.file-index c.file-item.result
  listed : length c.list.result.now ≡ length c.file-item.result.extents

turn : (c : After-list) → Turn c
turn c = record {
  counts = counts c.args.entries.now c.loop-file.file-index c.file-item.result c.loop-file-test.true c.file-item.is;
  listed = ap (λ (es : List Extent). length es) c.list.ensures;
}

pub loop-file-init : goal.loop-file-init
loop-file-init c = record { place = search rules; into = sym (with_block_bytes-none c.args.into.now 2080) }

pub overflow_mul-place : goal.overflow_mul-place
overflow_mul-place c =
    let t = turn (goal.at.overflow_mul-place c).After-list in
    omega (arith, t.counts.within, c.loop-file.invariant.place)

pub overflow_add-place : goal.overflow_add-place
overflow_add-place c =
    let t = turn (goal.at.overflow_add-place c).After-list in
    omega (arith, t.counts.within, c.loop-file.invariant.place)

pub put_extents_of-requires : goal.put_extents_of-requires
put_extents_of-requires c =
    let t = turn (goal.at.put_extents_of-requires c).After-list in
    omega (arith, t.counts.within, t.listed, c.loop-file.invariant.place)

pub overflow_add-place-in-loop-file : goal.overflow_add-place-in-loop-file
overflow_add-place-in-loop-file c =
    let t = turn (goal.at.overflow_add-place-in-loop-file c).After-list in
    let again = ap (λ (es : List Extent). length es) c.list-in-loop-file.ensures in
    omega (arith, t.counts.within, again, c.loop-file.invariant.place)

pub loop-file-preserved : goal.loop-file-preserved
loop-file-preserved c =
    let t = turn (goal.at.loop-file-preserved c).After-list in
    let entries = c.args.entries.now in
    let i = c.loop-file.file-index in
    let before = all_extents (take i entries) in
    let own = c.file-item.result.extents in
    let again = ap (λ (es : List Extent). length es) c.list-in-loop-file.ensures in
    let size = length-flat_map-same extent_bytes 8 length-extent_bytes before in
    let written : c.put_extents_of.new.into
    ≡ with_block_bytes c.loop-file.into (2080 + 8 * c.loop-file.place) (flat_map extent_bytes own) = c.put_extents_of.ensures
    ∙ ap (λ (es : List Extent). with_block_bytes c.loop-file.into (2080 + 8 * c.loop-file.place) (flat_map extent_bytes es))
    c.list.ensures in
    let item = ap (λ (f : FileInfo). before ++ f.extents) (get_or_read entries i c.file-item.result c.loop-file-test.true c.file-item.is no_entry) in
    let all : before ++ own ≡ all_extents (take (i + 1) entries) = item ∙ sym (extents-more entries i c.loop-file-test.true) in
    record {
      place = omega (arith, t.counts.more, again, c.loop-file.invariant.place);
      into =
          written-then c.args.into.now c.loop-file.into c.put_extents_of.new.into (flat_map extent_bytes before) (flat_map extent_bytes own) 2080 (2080 + 8 * c.loop-file.place)
          c.loop-file.invariant.into written (omega (arith, size, c.loop-file.invariant.place)) (omega arith)
          ∙ ap (with_block_bytes c.args.into.now 2080) (sym (flat_map-append extent_bytes before own) ∙ ap (flat_map extent_bytes) all);
    }
