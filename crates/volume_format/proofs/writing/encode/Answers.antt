use Rattle.std.proofs.Common.{◌≡◌, ℕ, List, length, replicate, ap, ◌∙◌, arith}
use Rattle.vnode_files.specs.declared.vnode.FileInfo.{FileInfo}
use Rattle.volume_format.specs.Table.{all_extents}
use Rattle.volume_format.specs.Writing.{extent_bytes, header_bytes, entries_bytes, extents_bytes, encoding, with_block_bytes}
use Rattle.volume_format.proofs.WritingLemmas.{written-whole, length-header_bytes, length-extent_bytes, length-flat_map-same}
use Rattle.volume_format.specs.Rules.{reading}
use Rattle.volume_format.proofs.ReadBackLemmas.{read-back}
use Rattle.volume_format.proofs.writing.encode.Goals as goal
use Rattle.volume_format.proofs.writing.encode.Goals.{After-put_extents}

written : (c : After-put_extents) → c.put_extents.new.into ≡ encoding c.args.table.now
unfolding encoding
written c =
    let t = c.args.table.now in
    let zeros : c.clear.new.into ≡ replicate 4096 0 = c.clear.ensures ∙ ap (λ (n : ℕ). replicate n 0) c.requires in
    let head : c.put_header.new.into ≡ with_block_bytes (replicate 4096 0) 0 (header_bytes t) = c.put_header.ensures ∙ ap (λ (b : List ℕ). with_block_bytes b 0 (header_bytes t)) zeros in
    let entries : c.put_entries.new.into ≡ with_block_bytes (with_block_bytes (replicate 4096 0) 0 (header_bytes t)) 32 (entries_bytes t.entries) =
    c.put_entries.ensures.new ∙ ap (λ (es : List FileInfo). with_block_bytes c.put_header.new.into 32 (entries_bytes es)) c.entries.ensures.entries
    ∙ ap (λ (b : List ℕ). with_block_bytes b 32 (entries_bytes t.entries)) head in
    let extents = c.put_extents.ensures ∙ ap (λ (es : List FileInfo). with_block_bytes c.put_entries.new.into 2080 (extents_bytes es)) c.entries-2.ensures.entries
    ∙ ap (λ (b : List ℕ). with_block_bytes b 2080 (extents_bytes t.entries)) entries in
    let size = ap (λ (es : List FileInfo). length (entries_bytes es)) c.entries.ensures.entries in
    let count = ap (λ (es : List FileInfo). length es) c.entries.ensures.entries in
    extents ∙ written-whole (header_bytes t) (entries_bytes t.entries) (extents_bytes t.entries) (length-header_bytes t)
    (omega (arith, size, count, c.put_entries.ensures.size, c.entries.ensures.room.files))
    (omega (arith, length-flat_map-same extent_bytes 8 length-extent_bytes (all_extents t.entries), c.entries.ensures.room.extents))

pub returns-clause-new : goal.returns-clause-new
returns-clause-new c = written (goal.at.returns-clause-new c).After-put_extents

pub returns-clause-told : goal.returns-clause-told
returns-clause-told c = λ volume.
    ap (λ (b : List ℕ). reading b c.args.table.now.blocks) (written (goal.at.returns-clause-told c).After-put_extents) ∙ read-back c.args.table.now volume
