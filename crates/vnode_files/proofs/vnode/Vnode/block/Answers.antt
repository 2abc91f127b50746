use Rattle.std.specs.Prelude.{ℕ, ◌≡◌, ◌<◌, ◌≤◌, ◌+◌, ◌^◌, length, nat_le, true, false, slice_index_or, List, All, ◌-◌}
use Rattle.std.specs.List.Sorted.{IsPartitionPoint}
use Rattle.std.proofs.Common.{arith, ap, ◌∙◌, sym, rules, subst}
use Rattle.std.proofs.lemmas.List.{get_or_read}
use Rattle.std.proofs.lemmas.List.Sorted.{IsPartitionPoint-from_clause, IsPartitionedBy-leb}
use Rattle.vnode_files.specs.declared.extent.Extent.{Extent}
use Rattle.vnode_files.specs.Grow.{page_count, extent_end}
use Rattle.vnode_files.specs.Vnode.{block_at}
use Rattle.vnode_files.specs.Room.{page_ends, RoomyVnode}
use Rattle.vnode_files.proofs.ExtentLemmas.{length-page_ends}
use Rattle.vnode_files.proofs.PlaceLemmas.{placed_by_search, place-within, page_ends-rise, IsPlaced}
use Rattle.vnode_files.proofs.vnode.Vnode.block.Goals as goal
use Rattle.vnode_files.proofs.vnode.Vnode.block.Goals.{After-partition_point-place, After-list, After-index}

-- the search parts the page ends
point : (c : After-partition_point-place) → IsPartitionPoint (λ y. nat_le y c.args.page ≡ true) (λ y. nat_le y c.args.page ≡ false)
    (page_ends 0 c.self.inside.info.extents) c.partition_point-place.result
point c =
    let e : c.deref.result.now ≡ page_ends 0 c.self.inside.info.extents = c.deref.ensures.value ∙ c.self.invariant.indexed in
    let P : List ℕ → Type 0 = λ xs. IsPartitionPoint (λ y. nat_le y c.args.page ≡ true) (λ y. nat_le y c.args.page ≡ false) xs c.partition_point-place.result in
    subst P e (IsPartitionPoint-from_clause (λ y. nat_le y c.args.page) c.deref.result.now c.partition_point-place.result c.partition_point-place.ensures.partitioned
    (IsPartitionedBy-leb (λ n. n) c.deref.result.now c.args.page (search (rules, page_ends-rise 0 c.self.inside.info.extents, e))) (λ a r q k. search rules))

some : (c : After-list) → c.args.page < page_count c.self.inside.info.extents
some c = subst (λ (v : RoomyVnode). c.args.page < page_count v.seen.info.extents) (sym c.self.view_is) c.requires

bound : (c : After-list) → c.partition_point-place.result ≤ length (page_ends 0 c.self.inside.info.extents)
bound c =
    let e : c.deref.result.now ≡ page_ends 0 c.self.inside.info.extents = c.deref.ensures.value ∙ c.self.invariant.indexed in
    subst (λ (xs : List ℕ). c.partition_point-place.result ≤ length xs) e c.partition_point-place.ensures.bound

within : (c : After-list) → c.partition_point-place.result < length c.list.result.now
within c =
    subst (λ (xs : List Extent). c.partition_point-place.result < length xs) (sym c.list.ensures)
    (place-within c.self.inside.info.extents c.args.page c.partition_point-place.result (some c) (bound c) (point c.before))

place : (c : After-list) → IsPlaced c.list.result.now 0 c.args.page c.args.page c.partition_point-place.result (record { start = 0; pages = 0 })
place c =
    subst (λ (xs : List Extent). IsPlaced xs 0 c.args.page c.args.page c.partition_point-place.result (record { start = 0; pages = 0 })) (sym c.list.ensures)
    (placed_by_search c.self.inside.info.extents c.args.page c.partition_point-place.result (record { start = 0; pages = 0 }) (some c) (bound c) (point c.before))

pub bounds-list-place : goal.bounds-list-place
bounds-list-place c = within c

pub index-requires : goal.index-requires
index-requires c =
    let all : c.partition_point-place.result < length c.list.result.now = within (goal.at.index-requires c).After-list in
    omega (arith, ap length c.list.ensures, ap length c.self.invariant.indexed, length-page_ends 0 c.self.inside.info.extents, c.self.inside.ends.ok.0)

-- the end that is read
end : (c : After-index) → c.partition_point-place.result < length c.list.result.now → c.index.result.now ≡ slice_index_or (page_ends 0 c.list.result.now) c.partition_point-place.result 0
end c within =
    let low : c.partition_point-place.result < length c.self.inside.ends.items = omega
    (arith, ap length c.list.ensures, ap length c.self.invariant.indexed, length-page_ends 0 c.self.inside.info.extents) in
    get_or_read c.self.inside.ends.items c.partition_point-place.result c.index.result.now low c.index.ensures 0
    ∙ ap (λ (ns : List ℕ). slice_index_or ns c.partition_point-place.result 0) (c.self.invariant.indexed ∙ ap (page_ends 0) (sym c.list.ensures))

pub overflow_sub-result : goal.overflow_sub-result
overflow_sub-result c = let p = place (goal.at.overflow_sub-result c).After-list in
    let e = end (goal.at.overflow_sub-result c).After-index (within (goal.at.overflow_sub-result c).After-list) in
    omega (arith, p.pages, e)

pub overflow_sub-result-2 : goal.overflow_sub-result-2
overflow_sub-result-2 c = let p = place (goal.at.overflow_sub-result-2 c).After-list in
    let e = end (goal.at.overflow_sub-result-2 c).After-index (within (goal.at.overflow_sub-result-2 c).After-list) in
    omega (arith, p.low, e)

pub overflow_add-result : goal.overflow_add-result
overflow_add-result c =
    let p = place (goal.at.overflow_add-result c).After-list in
    let e = end (goal.at.overflow_add-result c).After-index (within (goal.at.overflow_add-result c).After-list) in
    let blocks : All (λ e. extent_end e ≤ 2 ^ 32) c.list.result.now = subst (λ (xs : List Extent). All (λ e. extent_end e ≤ 2 ^ 32) xs) (sym c.list.ensures) c.self.invariant.sound.blocks in
    omega (arith, p.pages, p.low, p.high, e, blocks c.partition_point-place.result (record { start = 0; pages = 0 }) (within (goal.at.overflow_add-result c).After-list))

pub returns : goal.returns
returns c =
    let p = place (goal.at.returns c).After-list in
    let e = end (goal.at.returns c).After-index (within (goal.at.returns c).After-list) in
    let extent : Extent = slice_index_or c.list.result.now c.partition_point-place.result (record { start = 0; pages = 0 }) in
    ap (λ (n : ℕ). extent.start + (c.args.page - (n - extent.pages))) e ∙ sym p.block
    ∙ ap (λ (xs : List Extent). block_at xs c.args.page) (c.list.ensures ∙ ap (λ (v : RoomyVnode). v.seen.info.extents) c.self.view_is)
