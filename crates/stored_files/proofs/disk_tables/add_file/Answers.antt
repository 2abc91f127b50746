use Rattle.std.proofs.Common.{◌≡◌, ◌∙◌, ap, sym, subst, arith}
use Rattle.volume_format.specs.vnode_files.declared.vnode.FileInfo.{FileInfo}
use Rattle.volume_format.specs.Table.{with_table_entry}
use Rattle.stored_files.specs.Closed.{info_on}
use Rattle.stored_files.specs.Showing.{shown_info}
use Rattle.stored_files.specs.DiskTables.{IsAddableTo}
use Rattle.stored_files.proofs.TableFiles.{addable, table_more, table_skip}
use Rattle.stored_files.proofs.disk_tables.add_file.Goals as goal
use Rattle.stored_files.proofs.disk_tables.add_file.Goals.{In_ok-entry}

on_disk : (c : In_ok-entry) → (shown_info c.args.files.now c.args.file).disk ≡ c.args.disk
on_disk c = sym (ap (λ (x : FileInfo). x.disk) c.info-info.ensures.info) ∙ c.if-info-disk.false

entry_is : (c : In_ok-entry) → c.in_ok-entry.entry ≡ info_on 0 (shown_info c.args.files.now c.args.file)
entry_is c = c.in_ok-entry.ensures.copy ∙ ap (info_on 0) c.info-info.ensures.info

add : (c : In_ok-entry) → IsAddableTo c.args.table.now c.in_ok-entry.entry
add c =
    let size = ap (λ (x : FileInfo). x.length) (entry_is c) in
    subst (IsAddableTo c.args.table.now) (sym (entry_is c))
    (addable c.args.files.now c.args.disk c.args.file c.args.table.now c.requires.make c.requires.there c.requires.so_far (on_disk c) (omega (arith, size, c.in_ok-entry.ensures.number)))

pub add-requires-clause-free : goal.add-requires-clause-free
add-requires-clause-free c = (add (goal.at.add-requires-clause-free c).In_ok-entry).free

pub add-requires-clause-files : goal.add-requires-clause-files
add-requires-clause-files c = (add (goal.at.add-requires-clause-files c).In_ok-entry).files

pub add-requires-clause-extents : goal.add-requires-clause-extents
add-requires-clause-extents c = (add (goal.at.add-requires-clause-extents c).In_ok-entry).extents

pub returns-then-info-disk : goal.returns-then-info-disk
returns-then-info-disk c =
    table_skip c.args.files.now c.args.disk c.args.file c.args.table.now c.requires.there c.requires.so_far
    (λ on. c.if-info-disk.true (ap (λ (x : FileInfo). x.disk) c.info-info.ensures.info ∙ on))

pub returns : goal.returns
returns c =
    let entry = (goal.at.returns c).In_ok-entry in
    let fits = add entry in
    let t = c.args.table.now in
    table_more c.args.files.now c.args.disk c.args.file t c.add.new.self c.requires.make c.requires.there c.requires.so_far (on_disk entry)
    (c.in_ok-add.ensures.new ∙ ap (λ (e : FileInfo). record t { entries = with_table_entry t.entries e }) (entry_is entry))
    (c.in_ok-add.ensures.volume c.requires.so_far.volume fits.file fits.name fits.apart)
