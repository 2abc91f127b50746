use Rattle.std.specs.Prelude.{ℕ, ◌≡◌, ◌<◌, ◌-◌, ◌+◌, ◌^◌, length, suc, Option, Some, None, List, IsSomeAnd, slice_index_or}
use Rattle.std.specs.List.{last_or}
use Rattle.std.proofs.Common.{arith, ap, ◌∙◌, sym, subst}
use Rattle.std.proofs.lemmas.List.{get_or_read}
use Rattle.vnode_files.specs.declared.extent.Extent.{Extent}
use Rattle.vnode_files.specs.Grow.{extent_end, page_count, with_longer_last}
use Rattle.vnode_files.specs.Vnode.{VnodeSeen}
use Rattle.vnode_files.specs.Room.{RoomyVnode}
use Rattle.vnode_files.proofs.ExtentLemmas.{length-page_ends, page_ends-last, page_count-longer}
use Rattle.vnode_files.proofs.IndexLemmas.{HasPageEnds-longer, some_last, with_extents-page}
use Rattle.vnode_files.proofs.vnode.Vnode.lengthen.Goals as goal
use Rattle.vnode_files.proofs.vnode.Vnode.lengthen.Goals.{After-len-last, After-index_mut}

low_end : (o : Option Extent) (block : ℕ) → IsSomeAnd o (λ e. extent_end e ≡ block) → block < 2 ^ 32 → IsSomeAnd o (λ e. extent_end e < 2 ^ 32)
low_end None block is low = absurd is
low_end (Some e) block is low = omega arith

last : (c : After-len-last) → IsSomeAnd (last_or None c.self.inside.info.extents) (λ e. extent_end e < 2 ^ 32)
last c =
    subst (λ (v : RoomyVnode). IsSomeAnd (last_or None v.seen.info.extents) (λ e. extent_end e < 2 ^ 32)) (sym c.self.view_is)
    (low_end (last_or None c.args.self.now.seen.info.extents) c.args.block c.requires.last c.ranges.block.fits)

count : (c : After-len-last) → c.len-last.result ≡ length c.self.inside.info.extents
count c = c.len-last.ensures ∙ c.self.inside.ends.ok.0 ∙ ap length c.self.invariant.indexed ∙ length-page_ends 0 c.self.inside.info.extents

at : (c : After-len-last) → suc (c.len-last.result - 1) ≡ length c.self.inside.info.extents
at c =
    let some : 0 < length c.self.inside.info.extents = some_last c.self.inside.info.extents (λ e. extent_end e < 2 ^ 32) (last c) in
    let all : c.len-last.result ≡ length c.self.inside.info.extents = count c in
    omega arith

few : (c : After-len-last) → page_count c.self.inside.info.extents + 1 < 2 ^ 32
few c = subst (λ (v : RoomyVnode). page_count v.seen.info.extents + 1 < 2 ^ 32) (sym c.self.view_is) c.requires.pages

pub overflow_sub-last : goal.overflow_sub-last
overflow_sub-last c =
    let some : 0 < length c.self.inside.info.extents = some_last c.self.inside.info.extents (λ e. extent_end e < 2 ^ 32) (last (goal.at.overflow_sub-last c).After-len-last) in
    let all : c.len-last.result ≡ length c.self.inside.info.extents = count (goal.at.overflow_sub-last c).After-len-last in
    omega arith

pub index_mut-requires : goal.index_mut-requires
index_mut-requires c =
    let some : 0 < length c.self.inside.info.extents = some_last c.self.inside.info.extents (λ e. extent_end e < 2 ^ 32) (last (goal.at.index_mut-requires c).After-len-last) in
    let all : c.len-last.result ≡ length c.self.inside.info.extents = count (goal.at.index_mut-requires c).After-len-last in
    omega (arith, c.len-last.ensures)

-- the end that is read
end : (c : After-index_mut) → suc (c.len-last.result - 1) ≡ length c.self.inside.info.extents → c.index_mut.result.now ≡ slice_index_or c.self.inside.ends.items (c.len-last.result - 1) 0
end c k =
    let low : c.len-last.result - 1 < length c.self.inside.ends.items = omega (arith, ap length c.self.invariant.indexed, length-page_ends 0 c.self.inside.info.extents) in
    get_or_read c.self.inside.ends.items (c.len-last.result - 1) c.index_mut.result.now low c.index_mut.ensures.value 0

pub overflow_add-index_mut : goal.overflow_add-index_mut
overflow_add-index_mut c =
    let d = (goal.at.overflow_add-index_mut c).After-len-last in
    let low : page_count c.self.inside.info.extents + 1 < 2 ^ 32 = few d in
    let last : c.index_mut.result.now ≡ 0 + page_count c.self.inside.info.extents =
    end (goal.at.overflow_add-index_mut c).After-index_mut (at d)
    ∙ ap (λ (ns : List ℕ). slice_index_or ns (c.len-last.result - 1) 0) c.self.invariant.indexed ∙ page_ends-last 0 c.self.inside.info.extents (c.len-last.result - 1) (at d) in
    omega arith

pub invariant_of-self : goal.invariant_of-self
invariant_of-self c =
    let d = (goal.at.invariant_of-self c).After-len-last in
    let v : VnodeSeen = record { info = c.self.inside.info; blanks = c.self.inside.blanks.items } in
    let longer = HasPageEnds-longer v c.self.inside.ends.items c.self.inside.ends.cap (c.len-last.result - 1) c.self.invariant (at d) (last d) (few d) in
    rw (c.lengthen_last.ensures, c.push_reserved.ensures.items, end (goal.at.invariant_of-self c).After-index_mut (at d)) longer

pub returns : goal.returns
returns c =
    let d = (goal.at.returns c).After-len-last in
    let k : suc (c.len-last.result - 1) ≡ length c.self.inside.info.extents = at d in
    let v : VnodeSeen = record { info = c.self.inside.info; blanks = c.self.inside.blanks.items } in
    let page = with_extents-page v (with_longer_last c.self.inside.info.extents) (page_count-longer c.self.inside.info.extents (omega arith)) in
    rw (← c.self.view_is) (rw (c.lengthen_last.ensures, c.push_reserved.ensures.items, c.push_reserved.ensures.capacity)
    (ap (λ (w : VnodeSeen). let r : RoomyVnode = record { seen = w; opened = c.self.inside.opened; room = c.self.inside.blanks.cap } in r) (sym page)))
