use Rattle.std.specs.Prelude.{ℕ, ◌≡◌, ◌<◌, ◌≤◌, List, ◌++◌, length, slice_set}
use Rattle.std.specs.Ordering.{nat_cmp}
use Rattle.std.specs.FinMap as finmap
use Rattle.std.proofs.Common.{ap, ◌∙◌, sym, arith, refl, subst}
use Rattle.std.proofs.lemmas.List.{length-map}
use Rattle.vnode_files.specs.Files.{FilesSeen, vnode_at, with_vnode, block_count}
use Rattle.vnode_files.specs.Grow.{page_count}
use Rattle.vnode_files.specs.Room.{RoomyVnode, IsRoomy, IsSoundFiles, savepoint_of, cut_vnode}
use Rattle.vnode_files.specs.Vnode.{VnodeSeen, IsSoundVnode, no_vnode, page_blocks}
use Rattle.vnode_files.proofs.GrowLemmas.{growing-all, growing-back, growing-there, IsGrowing, CanGoBack}
use Rattle.vnode_files.proofs.RoomLemmas.{IsRoomy-front, IsSoundFiles-set}
use Rattle.vnode_files.proofs.SeenLemmas.{seen-at, seen-set}
use Rattle.vnode_files.proofs.files.Files.can_grow.Goals as goal
use Rattle.vnode_files.proofs.files.Files.can_grow.Goals.{After-grow-grows, After-index_mut}

-- it grew, as far as it can, and can be brought back
growing : (c : After-grow-grows) → IsGrowing c.args.self.now c.grow-grows.new.self c.args.file c.args.pages c.savepoint_of-before.result
growing c =
    let within : c.args.file < length c.self.inside.vnodes.items =
    omega (arith, subst (λ (s : FilesSeen). c.args.file < length s.files) (sym c.self.view_is) c.requires, length-map c.self.inside.vnodes.items (λ (v : RoomyVnode). v.seen)) in
    let at : vnode_at c.args.self.now c.args.file ≡ c.index.result.now.seen =
    ap (λ (s : FilesSeen). vnode_at s c.args.file) (sym c.self.view_is) ∙ seen-at c.self.inside.vnodes.items c.args.file c.index.result.now no_vnode within c.index.ensures in
    subst (λ (s : FilesSeen). IsGrowing c.args.self.now s c.args.file c.args.pages c.savepoint_of-before.result) (sym c.grow-grows.ensures.new)
    (growing-all c.args.self.now c.args.file c.args.pages c.savepoint_of-before.result c.requires (subst IsSoundVnode (sym at) c.savepoint_of-before.ensures.sound) (c.savepoint_of-before.ensures.savepoint ∙ ap savepoint_of (sym at)))

back : (c : After-grow-grows) → CanGoBack c.args.self.now c.grow-grows.new.self c.args.file c.savepoint_of-before.result
back c = growing-back c.args.self.now c.grow-grows.new.self c.args.file c.args.pages c.savepoint_of-before.result c.requires (growing c)

there : (c : After-grow-grows) → c.args.file < length c.grow-grows.new.self.files
there c = growing-there c.args.self.now c.grow-grows.new.self c.args.file c.args.pages c.savepoint_of-before.result c.requires (growing c)

-- the vnode that is brought back
within : (c : After-index_mut) → c.args.file < length c.grow-grows.new.self.files → c.args.file < length c.self-2.inside.vnodes.items
within c low = omega (arith, subst (λ (s : FilesSeen). c.args.file < length s.files) (sym c.self-2.view_is) low, length-map c.self-2.inside.vnodes.items (λ (v : RoomyVnode). v.seen))

at : (c : After-index_mut) → c.args.file < length c.grow-grows.new.self.files → vnode_at c.grow-grows.new.self c.args.file ≡ c.index_mut.result.now.seen
at c low =
    ap (λ (s : FilesSeen). vnode_at s c.args.file) (sym c.self-2.view_is)
    ∙ seen-at c.self-2.inside.vnodes.items c.args.file c.index_mut.result.now no_vnode (within c low) c.index_mut.ensures.value

pub cut_back-requires-clause-extents : goal.cut_back-requires-clause-extents
cut_back-requires-clause-extents c =
    let d = (goal.at.cut_back-requires-clause-extents c).After-grow-grows in
    subst (λ (v : VnodeSeen). c.savepoint_of-before.result.extents ≤ length v.info.extents) (at (goal.at.cut_back-requires-clause-extents c).After-index_mut (there d)) (back d).extents

pub cut_back-requires-clause-pages : goal.cut_back-requires-clause-pages
cut_back-requires-clause-pages c =
    let d = (goal.at.cut_back-requires-clause-pages c).After-grow-grows in
    subst (λ (v : VnodeSeen). c.savepoint_of-before.result.pages ≡ page_count (cut_vnode v c.savepoint_of-before.result).info.extents)
    (at (goal.at.cut_back-requires-clause-pages c).After-index_mut (there d)) (back d).pages

pub cut_back-requires-clause-sound : goal.cut_back-requires-clause-sound
cut_back-requires-clause-sound c =
    let d = (goal.at.cut_back-requires-clause-sound c).After-grow-grows in
    subst (λ (v : VnodeSeen). IsSoundVnode (cut_vnode v c.savepoint_of-before.result)) (at (goal.at.cut_back-requires-clause-sound c).After-index_mut (there d)) (back d).sound

pub invariant_of-self : goal.invariant_of-self
invariant_of-self c =
    let d = (goal.at.invariant_of-self c).After-grow-grows in
    let e = (goal.at.invariant_of-self c).After-index_mut in
    let x : RoomyVnode = c.index_mut.result.now in
    let vnodes : List RoomyVnode = c.self-2.inside.vnodes.items in
    let disks : finmap.FinMap nat_cmp ℕ = finmap.from_entries c.self-2.inside.disks.items in
    let y : RoomyVnode = record x { seen = cut_vnode x.seen c.savepoint_of-before.result } in
    let cut : cut_vnode x.seen c.savepoint_of-before.result ≡ vnode_at c.args.self.now c.args.file =
    ap (λ (v : VnodeSeen). cut_vnode v c.savepoint_of-before.result) (sym (at e (there d))) ∙ (back d).cut in
    let more : page_blocks x.seen.info.extents ≡ page_blocks y.seen.info.extents ++ (back d).first.0 =
    ap (λ (v : VnodeSeen). page_blocks v.info.extents) (sym (at e (there d))) ∙ (back d).first.1
    ∙ ap (λ (v : VnodeSeen). page_blocks v.info.extents ++ (back d).first.0) (sym cut) in
    let roomy : IsRoomy (block_count disks x.seen.info.disk) x =
    subst (λ (v : RoomyVnode). IsRoomy (block_count disks v.seen.info.disk) v) (sym c.index_mut.ensures.value) (c.self-2.invariant.roomy c.args.file x (within e (there d))) in
    subst (λ (w : RoomyVnode). IsSoundFiles disks (slice_set vnodes c.args.file w)) (sym c.cut_back.ensures)
    (IsSoundFiles-set disks vnodes c.args.file x y c.self-2.invariant (within e (there d)) c.index_mut.ensures.value refl
    (IsRoomy-front (block_count disks x.seen.info.disk) x y (back d).first.0 roomy refl refl more))

pub returns-clause-same : goal.returns-clause-same
returns-clause-same c =
    let d = (goal.at.returns-clause-same c).After-grow-grows in
    let e = (goal.at.returns-clause-same c).After-index_mut in
    let disks : finmap.FinMap nat_cmp ℕ = finmap.from_entries c.self-2.inside.disks.items in
    let set = seen-set c.self-2.inside.vnodes.items c.args.file c.index_mut.result.now c.cut_back.new.self
    (λ v. cut_vnode v c.savepoint_of-before.result) (within e (there d)) c.index_mut.ensures.value
    (ap (λ (v : RoomyVnode). v.seen) c.cut_back.ensures) in
    ap (λ (fs : List VnodeSeen). let s : FilesSeen = record { disks = disks; files = fs } in s) set
    ∙ ap (λ (s : FilesSeen). with_vnode s c.args.file (cut_vnode (vnode_at s c.args.file) c.savepoint_of-before.result)) c.self-2.view_is
    ∙ ap (λ (v : VnodeSeen). with_vnode c.grow-grows.new.self c.args.file v) (back d).cut ∙ (back d).back
