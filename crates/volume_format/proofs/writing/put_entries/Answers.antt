use Rattle.volume_format.proofs.FieldLemmas.{flat-one-more as flat-more}
use Rattle.std.proofs.Common.{◌≡◌, ◌+◌, ◌*◌, ◌∷◌, ◌++◌, [], ℕ, List, length, get_or, ap, sym, ◌∙◌, arith, rules, length-append}
use Rattle.std.proofs.lemmas.List.{append-nil, get_or_read}
use Rattle.std.proofs.lemmas.List.Concat.{flat_map-append}
use Rattle.std.specs.List.{flat_map, range_with_len}
use Rattle.vnode_files.specs.declared.extent.Extent.{Extent}
use Rattle.vnode_files.specs.declared.vnode.FileInfo.{FileInfo}
use Rattle.volume_format.specs.Table.{no_entry}
use Rattle.volume_format.specs.Writing.{file_entry_bytes, entry_bytes, with_block_bytes}
use Rattle.volume_format.proofs.RangeLemmas.{range-more}
use Rattle.volume_format.proofs.TableLemmas.{counts}
use Rattle.volume_format.proofs.WritingLemmas.{written-then, with_block_bytes-none}
use Rattle.volume_format.proofs.writing.put_entries.Goals as goal

pub loop-i-init : goal.loop-i-init
loop-i-init c = record { first = search rules; size = search rules; into = sym (with_block_bytes-none c.args.into.now 32) }

pub put_file-requires-clause-few : goal.put_file-requires-clause-few
put_file-requires-clause-few c =
    let n = counts c.args.entries.now c.loop-i.i c.index-entries-i.result c.loop-i-test.true c.index-entries-i.is in
    omega (arith, n.within)

pub overflow_cast-first : goal.overflow_cast-first
overflow_cast-first c =
    let n = counts c.args.entries.now c.loop-i.i c.index-entries-i.result c.loop-i-test.true c.index-entries-i.is in
    let listed = ap (λ (es : List Extent). length es) c.list.ensures in
    omega (arith, n.within, listed)

pub overflow_add-first : goal.overflow_add-first
overflow_add-first c =
    let n = counts c.args.entries.now c.loop-i.i c.index-entries-i.result c.loop-i-test.true c.index-entries-i.is in
    let listed = ap (λ (es : List Extent). length es) c.list.ensures in
    omega (arith, n.within, listed, c.loop-i.invariant.first)

pub loop-i-preserved : goal.loop-i-preserved
loop-i-preserved c =
    let entries = c.args.entries.now in
    let i = c.loop-i.i in
    let f = entry_bytes entries in
    let front = flat_map f (range_with_len 0 i) in
    let n = counts entries i c.index-entries-i.result c.loop-i-test.true c.index-entries-i.is in
    let listed = ap (λ (es : List Extent). length es) c.list.ensures in
    let item = ap (λ (e : FileInfo). file_entry_bytes e c.loop-i.first) (get_or_read entries i c.index-entries-i.result c.loop-i-test.true c.index-entries-i.is no_entry) in
    let own : file_entry_bytes c.index-entries-i.result c.loop-i.first ≡ f i = item ∙ ap (file_entry_bytes (get_or entries i no_entry)) c.loop-i.invariant.first in
    let size : length (f i) ≡ 32 = ap length (sym own) ∙ c.put_file.ensures.size in
    let written : c.put_file.new.into ≡ with_block_bytes c.loop-i.into (32 + 32 * i) (f i) = c.put_file.ensures.new ∙ ap (with_block_bytes c.loop-i.into (32 + 32 * i)) own in
    record {
      first = omega (arith, n.more, listed, c.loop-i.invariant.first);
      size = ap length (flat-more f i) ∙ omega (arith, length-append front (f i), size, c.loop-i.invariant.size);
      into =
          written-then c.args.into.now c.loop-i.into c.put_file.new.into front (f i) 32 (32 + 32 * i) c.loop-i.invariant.into written (omega (arith, c.loop-i.invariant.size)) (omega arith)
          ∙ ap (with_block_bytes c.args.into.now 32) (sym (flat-more f i));
    }
