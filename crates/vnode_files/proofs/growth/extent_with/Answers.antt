use Rattle.std.specs.Prelude.{◌≡◌, ◌<◌, List, [], ◌∷◌, length, take, slice_index_or, is_some}
use Rattle.std.specs.List.{find}
use Rattle.std.proofs.Common.{ap, ◌∙◌, sym, arith}
use Rattle.std.proofs.lemmas.List.{length-map, take_all}
use Rattle.vnode_files.specs.Grow.{has_block}
use Rattle.vnode_files.specs.Vnode.{VnodeSeen, no_vnode}
use Rattle.vnode_files.specs.Files.{extents_on}
use Rattle.vnode_files.specs.Room.{RoomyVnode}
use Rattle.vnode_files.proofs.SeenLemmas.{seen_of, seen-at, find_more, find_here, none-from}
use Rattle.vnode_files.proofs.growth.extent_with.Goals as goal
use Rattle.vnode_files.proofs.growth.extent_with.Goals.{After-is_some}

-- what the file of this turn has
here : (c : After-is_some) → find (has_block c.args.block) (extents_on c.args.disk (slice_index_or (seen_of c.args.vnodes.now) c.loop-vnode.vnode-index no_vnode ∷ [])) ≡ c.extent_on-extent.result
here c =
    ap (λ (v : VnodeSeen). find (has_block c.args.block) (extents_on c.args.disk (v ∷ [])))
    (seen-at c.args.vnodes.now c.loop-vnode.vnode-index c.vnode-item.result no_vnode c.loop-vnode-test.true c.vnode-item.is)
    ∙ sym c.extent_on-extent.ensures

within : (c : After-is_some) → c.loop-vnode.vnode-index < length (seen_of c.args.vnodes.now)
within c = omega (arith, c.loop-vnode-test.true, length-map c.args.vnodes.now (λ (v : RoomyVnode). v.seen))

pub loop-vnode-preserved : goal.loop-vnode-preserved
loop-vnode-preserved c =
    let d = (goal.at.loop-vnode-preserved c).After-is_some in
    find_more (has_block c.args.block) c.args.disk (seen_of c.args.vnodes.now) c.loop-vnode.vnode-index no_vnode (within d) c.loop-vnode.invariant
    (here d ∙ none-from c.extent_on-extent.result (sym c.is_some.ensures ∙ c.if-is_some.false))

pub returns-then-is_some : goal.returns-then-is_some
returns-then-is_some c =
    let d = (goal.at.returns-then-is_some c).After-is_some in
    sym (find_here (has_block c.args.block) c.args.disk (seen_of c.args.vnodes.now) c.loop-vnode.vnode-index no_vnode (within d) c.loop-vnode.invariant
    (ap is_some (here d) ∙ sym c.is_some.ensures ∙ c.if-is_some.true) ∙ here d)

pub returns : goal.returns
returns c =
    let all : take c.loop-vnode.vnode-index (seen_of c.args.vnodes.now) ≡ seen_of c.args.vnodes.now =
    take_all c.loop-vnode.vnode-index (seen_of c.args.vnodes.now) (omega (arith, c.loop-vnode-test.false, length-map c.args.vnodes.now (λ (v : RoomyVnode). v.seen))) in
    sym (ap (λ (xs : List VnodeSeen). find (has_block c.args.block) (extents_on c.args.disk xs)) (sym all) ∙ c.loop-vnode.invariant)
