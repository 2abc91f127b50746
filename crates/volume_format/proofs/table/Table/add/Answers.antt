use Rattle.std.proofs.Common.{◌≡◌, ◌∙◌, ℕ, List, length, ltb, ap, sym, subst, arith}
use Rattle.std.specs.List.{insert, prefix_len}
use Rattle.std.proofs.lemmas.List.Edits.{length-insert}
use Rattle.vnode_files.specs.declared.vnode.FileInfo.{FileInfo}
use Rattle.volume_format.specs.Table.{TableSeen, HasRoom, all_extents, front_block, with_table_entry}
use Rattle.volume_format.specs.Volume.{IsVolumeTable}
use Rattle.volume_format.proofs.TableLemmas.{extents-insert}
use Rattle.volume_format.proofs.KeptLemmas.{kept-add}
use Rattle.volume_format.proofs.table.Table.add.Goals as goal

pub invariant_of-self-2 : goal.invariant_of-self-2
invariant_of-self-2 c =
    let entries = c.self.inside.entries.items in
    let place = c.place_in_order-place.result in
    let files = ap (λ (t : TableSeen). length t.entries) c.self.view_is in
    let extents = ap (λ (t : TableSeen). length (all_extents t.entries)) c.self.view_is in
    let listed = c.deref.ensures.value in
    let count = ap length listed in
    subst HasRoom (sym c.in_ok-insert.ensures.items) (record {
      files = omega (arith, length-insert entries place c.args.entry (omega (arith, c.place_in_order-place.ensures.within, count)), files, c.requires.files);
      extents = omega (arith, extents-insert entries place c.args.entry, extents, c.requires.extents);
    })

pub returns-clause-volume : goal.returns-clause-volume
returns-clause-volume c = λ table file name apart.
    let e = c.args.entry in
    let begins : c.front_block.result ≡ front_block e.extents = c.front_block.ensures ∙ ap front_block c.list.ensures in
    let place : c.place_in_order-place.result ≡ prefix_len (λ f. ltb (front_block f.extents) (front_block e.extents)) c.self.inside.entries.items =
    c.place_in_order-place.ensures.place
    ∙ ap (λ (start : ℕ). prefix_len (λ f. ltb (front_block f.extents) start) c.deref.result.now) begins
    ∙ ap (λ (es : List FileInfo). prefix_len (λ f. ltb (front_block f.extents) (front_block e.extents)) es) c.deref.ensures.value in
    let items : c.insert.new.self.items ≡ with_table_entry c.args.self.now.entries e =
    c.in_ok-insert.ensures.items
    ∙ ap (λ (n : ℕ). insert c.self.inside.entries.items n e) place
    ∙ ap (λ (t : TableSeen). with_table_entry t.entries e) c.self.view_is in
    let blocks : c.self.inside.blocks ≡ c.args.self.now.blocks = ap (λ (t : TableSeen). t.blocks) c.self.view_is in
    subst (λ (b : ℕ). IsVolumeTable (record { blocks = b; entries = c.insert.new.self.items })) (sym blocks)
    (subst (λ (es : List FileInfo). IsVolumeTable (record { blocks = c.args.self.now.blocks; entries = es })) (sym items)
    (kept-add c.args.self.now e table file name apart c.requires.free c.requires.files c.requires.extents))
