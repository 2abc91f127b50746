use Rattle.std.proofs.Common.{◌≡◌, ◌<◌, ◌∙◌, ℕ, List, length, set, refl, ap, sym, subst, arith}
use Rattle.std.specs.List.{remove}
use Rattle.std.proofs.lemmas.List.{length-set, get_or_read}
use Rattle.vnode_files.specs.declared.extent.Extent.{Extent}
use Rattle.vnode_files.specs.declared.vnode.FileInfo.{FileInfo}
use Rattle.volume_format.specs.Table.{TableSeen, all_extents, entry_at, no_entry}
use Rattle.volume_format.specs.Volume.{IsVolumeTable}
use Rattle.volume_format.proofs.TableLemmas.{extents-set}
use Rattle.volume_format.proofs.KeptLemmas.{kept-set}
use Rattle.volume_format.proofs.table.Table.set.Goals as goal

pub invariant_of-self : goal.invariant_of-self
invariant_of-self c =
    let entries = c.self.inside.entries.items in
    let old = c.index_mut-entry.result.now in
    let e : FileInfo = record { name = old.name; disk = old.disk; extents = c.in_ok-copy.copy; length = c.args.bytes; writable = old.writable } in
    let rest = ap (λ (t : TableSeen). length (all_extents (remove t.entries c.args.i))) c.self.view_is in
    let count = ap (λ (t : TableSeen). length t.entries) c.self.view_is in
    let copied = ap (λ (es : List Extent). length es) c.in_ok-copy.ensures in
    let listed = ap (λ (es : List Extent). length es) c.list.ensures in
    record {
      files = omega (arith, length-set entries c.args.i e, c.self.invariant.files);
      extents = omega (arith, extents-set entries c.args.i e (omega (arith, count)), rest, copied, listed, c.requires.room);
    }

pub returns-clause-volume : goal.returns-clause-volume
returns-clause-volume c = λ table file apart.
    let i = c.args.i in
    let inside = c.self.inside.entries.items in
    let old = c.index_mut-entry.result.now in
    let before = entry_at c.args.self.now.entries i in
    let count = ap (λ (t : TableSeen). length t.entries) c.self.view_is in
    let there : i < length inside = omega (arith, count) in
    let was : old ≡ before = get_or_read inside i old there c.index_mut-entry.ensures.value no_entry ∙ ap (λ (t : TableSeen). entry_at t.entries i) c.self.view_is in
    let copied : c.in_ok-copy.copy ≡ c.args.extents.now = c.in_ok-copy.ensures ∙ c.list.ensures in
    let e : FileInfo = record { name = before.name; disk = before.disk; extents = c.args.extents.now; length = c.args.bytes; writable = before.writable } in
    let made : FileInfo = record { name = old.name; disk = old.disk; extents = c.in_ok-copy.copy; length = c.args.bytes; writable = old.writable } in
    let same : made ≡ e =
    ap (λ (f : FileInfo). record { name = f.name; disk = f.disk; extents = c.in_ok-copy.copy; length = c.args.bytes; writable = f.writable }) was
    ∙ ap (λ (es : List Extent). record { name = before.name; disk = before.disk; extents = es; length = c.args.bytes; writable = before.writable }) copied in
    let items : set inside i made ≡ set c.args.self.now.entries i e =
    ap (set inside i) same ∙ ap (λ (t : TableSeen). set t.entries i e) c.self.view_is in
    let blocks : c.self.inside.blocks ≡ c.args.self.now.blocks = ap (λ (t : TableSeen). t.blocks) c.self.view_is in
    subst (λ (b : ℕ). IsVolumeTable (record { blocks = b; entries = set inside i made })) (sym blocks)
    (subst (λ (es : List FileInfo). IsVolumeTable (record { blocks = c.args.self.now.blocks; entries = es })) (sym items)
    (kept-set c.args.self.now i e table c.requires.there file refl c.requires.first apart c.requires.free c.requires.room))
