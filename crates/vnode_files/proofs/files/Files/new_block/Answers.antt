use Rattle.std.specs.Prelude.{ℕ, ◌≡◌, ◌<◌, List, length, Option}
use Rattle.std.proofs.Common.{ap, ◌∙◌, sym, arith, subst}
use Rattle.std.proofs.lemmas.List.{length-map}
use Rattle.vnode_files.specs.Vnode.{VnodeSeen, no_vnode}
use Rattle.vnode_files.specs.Files.{FilesSeen, vnode_at}
use Rattle.vnode_files.specs.Room.{RoomyVnode}
use Rattle.vnode_files.proofs.SeenLemmas.{seen_of, seen-at}
use Rattle.vnode_files.proofs.FilesLemmas as files
use Rattle.std.specs.Prelude.{unwrap_or, nat_le}
use Rattle.vnode_files.specs.Grow.{least_free}
use Rattle.vnode_files.specs.Files.{extents_on, block_count}
use Rattle.vnode_files.specs.Step.{its_blocks}
use Rattle.vnode_files.proofs.files.Files.new_block.Goals as goal
use Rattle.vnode_files.proofs.files.Files.new_block.Goals.{After-is_full}

within : (c : After-is_full) → c.args.file < length c.self.inside.vnodes.items
within c = omega (arith, subst (λ (s : FilesSeen). c.args.file < length s.files) (sym c.self.view_is) c.requires, length-map c.self.inside.vnodes.items (λ (v : RoomyVnode). v.seen))

at : (c : After-is_full) → vnode_at c.args.self.now c.args.file ≡ c.index.result.now.seen
at c =
    ap (λ (s : FilesSeen). vnode_at s c.args.file) (sym c.self.view_is)
    ∙ seen-at c.self.inside.vnodes.items c.args.file c.index.result.now no_vnode (within c) c.index.ensures

on : (c : After-is_full) → c.info.result.now.disk ≡ (vnode_at c.args.self.now c.args.file).info.disk
on c = ap (λ i. i.disk) c.info.ensures.info ∙ ap (λ (v : VnodeSeen). v.info.disk) (sym (at c))

count : (c : After-is_full) → c.unwrap_or-blocks.result ≡ its_blocks c.args.self.now c.args.file
count c = c.unwrap_or-blocks.ensures ∙ ap (λ (o : Option ℕ). unwrap_or o 0) c.disk_blocks.ensures ∙ ap (block_count c.args.self.now.disks) (on c)

full : (c : After-is_full) → c.is_full.result ≡ nat_le 252 (length (extents_on c.info.result.now.disk c.args.self.now.files))
full c =
    c.is_full.ensures
    ∙ ap (λ (vs : List VnodeSeen). nat_le 252 (length (extents_on c.info.result.now.disk vs))) (ap seen_of c.deref.ensures.value ∙ ap (λ (s : FilesSeen). s.files) c.self.view_is)

pub returns-then-is_full : goal.returns-then-is_full
returns-then-is_full c =
    let d = (goal.at.returns-then-is_full c).After-is_full in
    sym (files.new_block-full c.args.self.now c.args.file c.info.result.now.disk c.unwrap_or-blocks.result c.requires (on d) (count d) c.is_full.result (full d) c.if-is_full.true)

pub returns : goal.returns
returns c =
    let d = (goal.at.returns c).After-is_full in
    files.new_block-least c.args.self.now c.args.file c.info.result.now.disk c.unwrap_or-blocks.result c.requires (on d) (count d) c.is_full.result c.least_free.result (full d) c.if-is_full.false
    (c.least_free.ensures
    ∙ ap (λ (vs : List VnodeSeen). least_free c.unwrap_or-blocks.result (extents_on c.info.result.now.disk vs)) (ap seen_of c.deref-2.ensures.value ∙ ap (λ (s : FilesSeen). s.files) c.self.view_is))
