use Rattle.std.specs.Prelude.{ℕ, ◌≡◌, ◌<◌, ◌≤◌, List, ◌++◌, length, slice_set, None, is_some}
use Rattle.std.specs.Ordering.{nat_cmp}
use Rattle.std.specs.FinMap as finmap
use Rattle.std.proofs.Common.{Some, ap, ◌∙◌, sym, arith, refl, subst}
use Rattle.std.proofs.lemmas.List.{length-map}
use Rattle.vnode_files.specs.Vnode.{VnodeSeen, no_vnode}
use Rattle.vnode_files.specs.Files.{FilesSeen, vnode_at, with_vnode, with_growth}
use Rattle.vnode_files.specs.Room.{RoomyVnode}
use Rattle.vnode_files.proofs.SeenLemmas.{none-from, seen-at, seen-set}
use Rattle.vnode_files.specs.Grow.{page_count}
use Rattle.vnode_files.specs.Vnode.{page_blocks, IsSoundVnode}
use Rattle.vnode_files.specs.Files.{growth_of, block_count}
use Rattle.vnode_files.specs.Step.{own_extents, next_extents}
use Rattle.vnode_files.specs.Room.{savepoint_of, cut_vnode, IsRoomy, IsSoundFiles}
use Rattle.vnode_files.proofs.RoomLemmas.{IsRoomy-front, IsSoundFiles-set}
use Rattle.vnode_files.proofs.GrowLemmas.{growing-first, growing-next, growing-none, growing-some, growing-back, growing-there, IsGrowing, Steps, CanGoBack}
use Rattle.vnode_files.specs.Layout.{KeepsLayout, GrowsFile}
use Rattle.vnode_files.proofs.LayoutLaws.{grows, keeps-growth}
use Rattle.vnode_files.proofs.files.Files.grow.Goals as goal
use Rattle.vnode_files.proofs.files.Files.grow.Goals.{Else-not-take_block, Then-not-take_block, After-index_mut}

pub loop-before-init : goal.loop-before-init
loop-before-init c =
    let within : c.args.file < length c.self.inside.vnodes.items =
    omega (arith, subst (λ (s : FilesSeen). c.args.file < length s.files) (sym c.self.view_is) c.requires, length-map c.self.inside.vnodes.items (λ (v : RoomyVnode). v.seen)) in
    let at : vnode_at c.args.self.now c.args.file ≡ c.index.result.now.seen =
    ap (λ (s : FilesSeen). vnode_at s c.args.file) (sym c.self.view_is) ∙ seen-at c.self.inside.vnodes.items c.args.file c.index.result.now no_vnode within c.index.ensures in
    growing-first c.args.self.now c.args.file c.args.pages c.savepoint_of-before.result c.requires
    (subst IsSoundVnode (sym at) c.savepoint_of-before.ensures.sound) (c.savepoint_of-before.ensures.savepoint ∙ ap savepoint_of (sym at))

-- a turn that took a block
step : (c : Else-not-take_block) → Steps c.args.self.now c.loop-before.self c.take_block.new.self c.args.file c.args.pages c.savepoint_of-before.result
step c =
    growing-next c.args.self.now c.loop-before.self c.take_block.new.self c.args.file c.args.pages c.savepoint_of-before.result c.requires c.loop-before.invariant
    (subst (λ (n : ℕ). n < c.args.pages) c.kept.ensures c.loop-before-test.true) (sym c.take_block.ensures.answer ∙ c.if-not-take_block.false) c.take_block.ensures.new

pub loop-before-preserved : goal.loop-before-preserved
loop-before-preserved c = (step (goal.at.loop-before-preserved c).Else-not-take_block).growing

pub loop-before-smaller : goal.loop-before-smaller
loop-before-smaller c =
    let s = step (goal.at.loop-before-smaller c).Else-not-take_block in
    let more : page_count (own_extents c.loop-before.self c.args.file) < c.args.pages = subst (λ (n : ℕ). n < c.args.pages) c.kept.ensures c.loop-before-test.true in
    omega (arith, s.count)

-- a turn that found no block
nothing : (c : Then-not-take_block) → next_extents c.loop-before.self c.args.file ≡ None
nothing c = none-from (next_extents c.loop-before.self c.args.file) (sym c.take_block.ensures.answer ∙ c.if-not-take_block.true)

stays : (c : Then-not-take_block) → c.take_block.new.self ≡ c.loop-before.self
stays c = c.take_block.ensures.new ∙ ap (with_growth c.loop-before.self c.args.file) (nothing c)

none : (c : Then-not-take_block) → growth_of c.args.self.now c.args.file c.args.pages ≡ None
none c =
    growing-none c.args.self.now c.loop-before.self c.args.file c.args.pages c.savepoint_of-before.result c.requires c.loop-before.invariant
    (subst (λ (n : ℕ). n < c.args.pages) c.kept.ensures c.loop-before-test.true) (sym c.take_block.ensures.answer ∙ c.if-not-take_block.true)

growing : (c : Then-not-take_block) → IsGrowing c.args.self.now c.take_block.new.self c.args.file c.args.pages c.savepoint_of-before.result
growing c = subst (λ (s : FilesSeen). IsGrowing c.args.self.now s c.args.file c.args.pages c.savepoint_of-before.result) (sym (stays c)) c.loop-before.invariant

back : (c : Then-not-take_block) → CanGoBack c.args.self.now c.take_block.new.self c.args.file c.savepoint_of-before.result
back c = growing-back c.args.self.now c.take_block.new.self c.args.file c.args.pages c.savepoint_of-before.result c.requires (growing c)

within : (c : Then-not-take_block) → c.args.file < length c.self-in-loop-before.inside.vnodes.items
within c =
    omega (
      arith,
      subst (λ (s : FilesSeen). c.args.file < length s.files) (sym c.self-in-loop-before.view_is)
          (growing-there c.args.self.now c.take_block.new.self c.args.file c.args.pages c.savepoint_of-before.result c.requires (growing c)),
      length-map c.self-in-loop-before.inside.vnodes.items (λ (v : RoomyVnode). v.seen),
    )

-- the vnode that is brought back
at : (c : After-index_mut) → c.args.file < length c.self-in-loop-before.inside.vnodes.items → vnode_at c.take_block.new.self c.args.file ≡ c.index_mut.result.now.seen
at c low =
    ap (λ (s : FilesSeen). vnode_at s c.args.file) (sym c.self-in-loop-before.view_is)
    ∙ seen-at c.self-in-loop-before.inside.vnodes.items c.args.file c.index_mut.result.now no_vnode low c.index_mut.ensures.value

pub cut_back-requires-clause-extents : goal.cut_back-requires-clause-extents
cut_back-requires-clause-extents c =
    let d = (goal.at.cut_back-requires-clause-extents c).Then-not-take_block in
    subst (λ (v : VnodeSeen). c.savepoint_of-before.result.extents ≤ length v.info.extents) (at (goal.at.cut_back-requires-clause-extents c).After-index_mut (within d)) (back d).extents

pub cut_back-requires-clause-pages : goal.cut_back-requires-clause-pages
cut_back-requires-clause-pages c =
    let d = (goal.at.cut_back-requires-clause-pages c).Then-not-take_block in
    subst (λ (v : VnodeSeen). c.savepoint_of-before.result.pages ≡ page_count (cut_vnode v c.savepoint_of-before.result).info.extents)
    (at (goal.at.cut_back-requires-clause-pages c).After-index_mut (within d)) (back d).pages

pub cut_back-requires-clause-sound : goal.cut_back-requires-clause-sound
cut_back-requires-clause-sound c =
    let d = (goal.at.cut_back-requires-clause-sound c).Then-not-take_block in
    subst (λ (v : VnodeSeen). IsSoundVnode (cut_vnode v c.savepoint_of-before.result)) (at (goal.at.cut_back-requires-clause-sound c).After-index_mut (within d)) (back d).sound

pub invariant_of-self : goal.invariant_of-self
invariant_of-self c =
    let d = (goal.at.invariant_of-self c).Then-not-take_block in
    let x : RoomyVnode = c.index_mut.result.now in
    let vnodes : List RoomyVnode = c.self-in-loop-before.inside.vnodes.items in
    let disks : finmap.FinMap nat_cmp ℕ = finmap.from_entries c.self-in-loop-before.inside.disks.items in
    let there = at (goal.at.invariant_of-self c).After-index_mut (within d) in
    let y : RoomyVnode = record x { seen = cut_vnode x.seen c.savepoint_of-before.result } in
    let cut : cut_vnode x.seen c.savepoint_of-before.result ≡ vnode_at c.args.self.now c.args.file =
    ap (λ (v : VnodeSeen). cut_vnode v c.savepoint_of-before.result) (sym there) ∙ (back d).cut in
    let more : page_blocks x.seen.info.extents ≡ page_blocks y.seen.info.extents ++ (back d).first.0 =
    ap (λ (v : VnodeSeen). page_blocks v.info.extents) (sym there) ∙ (back d).first.1
    ∙ ap (λ (v : VnodeSeen). page_blocks v.info.extents ++ (back d).first.0) (sym cut) in
    let roomy : IsRoomy (block_count disks x.seen.info.disk) x =
    subst (λ (v : RoomyVnode). IsRoomy (block_count disks v.seen.info.disk) v) (sym c.index_mut.ensures.value) (c.self-in-loop-before.invariant.roomy c.args.file x (within d)) in
    subst (λ (w : RoomyVnode). IsSoundFiles disks (slice_set vnodes c.args.file w)) (sym c.cut_back.ensures)
    (IsSoundFiles-set disks vnodes c.args.file x y c.self-in-loop-before.invariant (within d) c.index_mut.ensures.value refl
    (IsRoomy-front (block_count disks x.seen.info.disk) x y (back d).first.0 roomy refl refl more))

pub returns-then-not-take_block-clause-new : goal.returns-then-not-take_block-clause-new
returns-then-not-take_block-clause-new c =
    let d = (goal.at.returns-then-not-take_block-clause-new c).Then-not-take_block in
    let disks : finmap.FinMap nat_cmp ℕ = finmap.from_entries c.self-in-loop-before.inside.disks.items in
    let set = seen-set c.self-in-loop-before.inside.vnodes.items c.args.file c.index_mut.result.now c.cut_back.new.self
    (λ v. cut_vnode v c.savepoint_of-before.result) (within d) c.index_mut.ensures.value
    (ap (λ (v : RoomyVnode). v.seen) c.cut_back.ensures) in
    ap (λ (fs : List VnodeSeen). let s : FilesSeen = record { disks = disks; files = fs } in s) set
    ∙ ap (λ (s : FilesSeen). with_vnode s c.args.file (cut_vnode (vnode_at s c.args.file) c.savepoint_of-before.result)) c.self-in-loop-before.view_is
    ∙ ap (λ (v : VnodeSeen). with_vnode c.take_block.new.self c.args.file v) (back d).cut ∙ (back d).back
    ∙ sym (ap (with_growth c.args.self.now c.args.file) (none d))

pub returns-then-not-take_block-clause-answer : goal.returns-then-not-take_block-clause-answer
returns-then-not-take_block-clause-answer c = sym (ap is_some (none (goal.at.returns-then-not-take_block-clause-answer c).Then-not-take_block))

pub returns-then-not-take_block-clause-layout : goal.returns-then-not-take_block-clause-layout
returns-then-not-take_block-clause-layout c =
    subst (KeepsLayout c.args.self.now) (sym (returns-then-not-take_block-clause-new c))
    (keeps-growth c.args.self.now c.args.file c.args.pages (growth_of c.args.self.now c.args.file c.args.pages) c.requires refl)

pub returns-clause-grows : goal.returns-clause-grows
returns-clause-grows c =
    let enough : c.args.pages ≤ page_count (own_extents c.loop-before.self c.args.file) = subst (λ (n : ℕ). c.args.pages ≤ n) c.kept.ensures c.loop-before-test.false in
    let some = growing-some c.args.self.now c.loop-before.self c.args.file c.args.pages c.savepoint_of-before.result c.requires c.loop-before.invariant enough in
    subst (λ (s : FilesSeen). GrowsFile c.args.self.now s c.args.file c.args.pages) (sym some.2) (grows c.args.self.now c.args.file c.args.pages some.0 c.requires some.1)

pub returns-clause-layout : goal.returns-clause-layout
returns-clause-layout c =
    let enough : c.args.pages ≤ page_count (own_extents c.loop-before.self c.args.file) = subst (λ (n : ℕ). c.args.pages ≤ n) c.kept.ensures c.loop-before-test.false in
    let some = growing-some c.args.self.now c.loop-before.self c.args.file c.args.pages c.savepoint_of-before.result c.requires c.loop-before.invariant enough in
    subst (KeepsLayout c.args.self.now) (sym some.2) (keeps-growth c.args.self.now c.args.file c.args.pages (Some some.0) c.requires some.1)
