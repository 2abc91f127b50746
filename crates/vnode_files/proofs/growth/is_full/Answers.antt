use Rattle.std.specs.Prelude.{◌≡◌, ◌+◌, List, [], ◌∷◌, length, take, slice_index_or}
use Rattle.std.proofs.Common.{ap, ◌∙◌, sym, arith, length-append}
use Rattle.std.proofs.lemmas.Bool.{le-leb, lt-leb}
use Rattle.std.proofs.lemmas.List.{length-map, take_all}
use Rattle.vnode_files.specs.Vnode.{VnodeSeen, no_vnode}
use Rattle.vnode_files.specs.Files.{extents_on}
use Rattle.vnode_files.specs.Room.{RoomyVnode}
use Rattle.vnode_files.proofs.ListLemmas.{extents_on-more}
use Rattle.vnode_files.proofs.SeenLemmas.{seen_of, seen-at, length-extents-take}
use Rattle.vnode_files.proofs.growth.is_full.Goals as goal
use Rattle.vnode_files.proofs.growth.is_full.Goals.{After-count_on-more}

-- the extents up to the file of this turn
more : (c : After-count_on-more) → c.loop-vnode.count + c.count_on-more.result ≡ length (extents_on c.args.disk (take (c.loop-vnode.vnode-index + 1) (seen_of c.args.vnodes.now)))
more c =
    let xs = seen_of c.args.vnodes.now in
    let i = c.loop-vnode.vnode-index in
    let one : length (extents_on c.args.disk (slice_index_or xs i no_vnode ∷ [])) ≡ c.count_on-more.result =
    ap (λ (v : VnodeSeen). length (extents_on c.args.disk (v ∷ []))) (seen-at c.args.vnodes.now i c.vnode-item.result no_vnode c.loop-vnode-test.true c.vnode-item.is)
    ∙ sym c.count_on-more.ensures in
    let all : length (extents_on c.args.disk (take (i + 1) xs)) ≡ length (extents_on c.args.disk (take i xs)) + length (extents_on c.args.disk (slice_index_or xs i no_vnode ∷ [])) =
    ap length (extents_on-more c.args.disk xs i no_vnode (omega (arith, c.loop-vnode-test.true, length-map c.args.vnodes.now (λ (v : RoomyVnode). v.seen))))
    ∙ length-append (extents_on c.args.disk (take i xs)) (extents_on c.args.disk (slice_index_or xs i no_vnode ∷ [])) in
    omega (arith, c.loop-vnode.invariant.count)

pub loop-vnode-preserved : goal.loop-vnode-preserved
loop-vnode-preserved c = record {
  count = more (goal.at.loop-vnode-preserved c).After-count_on-more;
  few = omega (arith, c.if-more-count.false, c.loop-vnode.invariant.few);
}

pub returns-then-more-count : goal.returns-then-more-count
returns-then-more-count c =
    let xs = seen_of c.args.vnodes.now in
    let count : c.loop-vnode.count + c.count_on-more.result ≡ length (extents_on c.args.disk (take (c.loop-vnode.vnode-index + 1) xs)) = more (goal.at.returns-then-more-count c).After-count_on-more in
    sym (le-leb 252 (length (extents_on c.args.disk xs))
    (omega (arith, c.if-more-count.true, length-extents-take c.args.disk xs (c.loop-vnode.vnode-index + 1), c.loop-vnode.invariant.few)))

pub returns : goal.returns
returns c =
    let xs = seen_of c.args.vnodes.now in
    let all : take c.loop-vnode.vnode-index xs ≡ xs =
    take_all c.loop-vnode.vnode-index xs (omega (arith, c.loop-vnode-test.false, length-map c.args.vnodes.now (λ (v : RoomyVnode). v.seen))) in
    let count : c.loop-vnode.count ≡ length (extents_on c.args.disk xs) = c.loop-vnode.invariant.count ∙ ap (λ (ys : List VnodeSeen). length (extents_on c.args.disk ys)) all in
    sym (lt-leb 252 (length (extents_on c.args.disk xs)) (omega (arith, c.loop-vnode.invariant.few)))
