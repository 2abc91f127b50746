use Rattle.std.specs.Prelude.{ℕ, ◌≡◌, ◌<◌, ◌+◌, length, map, IsSome, All, slice_index_or}
use Rattle.std.specs.Ordering.{nat_cmp}
use Rattle.std.specs.FinMap as finite
use Rattle.std.proofs.Common.{arith, sym, ap, ◌∙◌, subst}
use Rattle.std.proofs.lemmas.List.{length-map, get_or_read}
use Rattle.std.proofs.lemmas.Result.{err_from_is_err_and}
use Rattle.block_device.specs.declared.numbered.NumberedDisk.{NumberedDisk}
use Rattle.volume_format.specs.vnode_files.Files.{FilesSeen}
use Rattle.volume_format.specs.Table.{TableSeen, empty_table}
use Rattle.stored_files.specs.Closed.{info_on}
use Rattle.volume_files.specs.Placing.{IsAddable, IsTooMany, attached_numbers, table_at, with_infos}
use Rattle.volume_files.proofs.MountLemmas.{number-at, mounted-more, mounted-many}
use Rattle.volume_files.proofs.table_files.add_tables.Goals as goal

pub add_table-requires-clause-set : goal.add_table-requires-clause-set
add_table-requires-clause-set g c =
    let number : slice_index_or (attached_numbers c.args.disks.now) c.loop-i.i 0 ≡ c.number.result =
    number-at c.args.disks.now c.loop-i.i c.index-disks-i.result c.loop-i-test.true c.index-disks-i.is ∙ sym c.number.ensures in
    let below : c.loop-i.i < length (attached_numbers c.args.disks.now) = omega (arith, c.loop-i-test.true, length-map c.args.disks.now (λ (d : NumberedDisk _). d.number)) in
    subst (λ n. IsSome (finite.get c.loop-i.files.disks n)) number
    (subst (λ (m : finite.FinMap nat_cmp ℕ). IsSome (finite.get m (slice_index_or (attached_numbers c.args.disks.now) c.loop-i.i 0))) (sym c.loop-i.invariant.disks) (c.requires.set c.loop-i.i below))

pub add_table-requires-clause-addable : goal.add_table-requires-clause-addable
add_table-requires-clause-addable g c =
    let below : c.loop-i.i < length c.args.tables.now = omega (arith, c.loop-i-test.true, c.requires.count) in
    subst (λ (t : TableSeen). All IsAddable t.entries) (sym
    (get_or_read c.args.tables.now c.loop-i.i c.index-tables-i.result below c.index-tables-i.is (empty_table 0))) (c.requires.addable c.loop-i.i below)

pub returns-in_err-add_table-clause-stop : goal.returns-in_err-add_table-clause-stop
returns-in_err-add_table-clause-stop g c =
    let below : c.loop-i.i < length (attached_numbers c.args.disks.now) = omega (arith, c.loop-i-test.true, length-map c.args.disks.now (λ (d : NumberedDisk _). d.number)) in
    let inside : c.loop-i.i < length c.args.tables.now = omega (arith, c.loop-i-test.true, c.requires.count) in
    let own : c.index-tables-i.result ≡ table_at c.args.tables.now c.loop-i.i = get_or_read c.args.tables.now c.loop-i.i c.index-tables-i.result inside c.index-tables-i.is (empty_table 0) in
    let p = err_from_is_err_and c.from_residual.result c.from_residual.ensures.1 in
    rw (p.1, p.2) (mounted-many c.args.files.now c.loop-i.files (attached_numbers c.args.disks.now) c.args.tables.now c.loop-i.i c.in_err-add_table.field-0.0 below inside c.loop-i.invariant.rest
    (subst (λ (t : TableSeen). IsTooMany (length c.loop-i.files.files + length t.entries) c.in_err-add_table.field-0.0) own c.in_err-add_table.ensures.stop))

pub loop-i-preserved : goal.loop-i-preserved
loop-i-preserved g c =
    let ns = attached_numbers c.args.disks.now in
    let ts = c.args.tables.now in
    let i = c.loop-i.i in
    let number : slice_index_or ns i 0 ≡ c.number.result =
    number-at c.args.disks.now i c.index-disks-i.result c.loop-i-test.true c.index-disks-i.is ∙ sym c.number.ensures in
    let below : i < length ns = omega (arith, c.loop-i-test.true, length-map c.args.disks.now (λ (d : NumberedDisk _). d.number)) in
    let inside : i < length ts = omega (arith, c.loop-i-test.true, c.requires.count) in
    let own : c.index-tables-i.result ≡ table_at ts i = get_or_read ts i c.index-tables-i.result inside c.index-tables-i.is (empty_table 0) in
    let added : c.add_table.new.files ≡ with_infos c.loop-i.files (map (info_on (slice_index_or ns i 0)) (table_at ts i).entries) =
    c.in_ok-add_table.ensures.ok ∙ ap (λ n. with_infos c.loop-i.files (map (info_on n) c.index-tables-i.result.entries)) (sym number)
    ∙ ap (λ (t : TableSeen). with_infos c.loop-i.files (map (info_on (slice_index_or ns i 0)) t.entries)) own in
    record {
      disks = ap (λ (s : FilesSeen). s.disks) added ∙ c.loop-i.invariant.disks;
      rest = mounted-more c.args.files.now c.loop-i.files c.add_table.new.files ns ts i below inside c.loop-i.invariant.rest added;
    }
