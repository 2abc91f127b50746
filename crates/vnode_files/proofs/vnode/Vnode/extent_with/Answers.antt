use Rattle.std.specs.List.{find}
use Rattle.std.proofs.Common.{sym, ap, ◌∙◌, arith}
use Rattle.vnode_files.specs.Grow.{has_block}
use Rattle.vnode_files.specs.Room.{RoomyVnode}
use Rattle.vnode_files.proofs.FindLemmas.{find-first, find-none}
use Rattle.vnode_files.proofs.vnode.Vnode.extent_with.Goals as goal

pub returns-then-has_block : goal.returns-then-has_block
returns-then-has_block c =
    sym (find-first (has_block c.args.block) c.list-extent-items.result.now c.loop-extent.extent-index (record { start = 0; pages = 0 })
    c.loop-extent-test.true c.loop-extent.invariant (sym c.has_block.ensures ∙ c.if-has_block.true))
    ∙ ap (λ xs. find (has_block c.args.block) xs) (c.list-extent-items.ensures ∙ ap (λ (v : RoomyVnode). v.seen.info.extents) c.self.view_is)

pub returns : goal.returns
returns c =
    sym (find-none (has_block c.args.block) c.list-extent-items.result.now (record { start = 0; pages = 0 }) (λ k low. c.loop-extent.invariant k (omega arith)))
    ∙ ap (λ xs. find (has_block c.args.block) xs) (c.list-extent-items.ensures ∙ ap (λ (v : RoomyVnode). v.seen.info.extents) c.self.view_is)
