use Rattle.std.specs.Prelude.{ℕ, ◌<◌, List, [], ◌∷◌, ◌++◌, length, slice_set}
use Rattle.std.specs.Ordering.{nat_cmp}
use Rattle.std.specs.FinMap as finmap
use Rattle.std.proofs.Common.{ap, ◌∙◌, sym, arith, subst}
use Rattle.std.proofs.lemmas.List.{length-map}
use Rattle.vnode_files.specs.Files.{FilesSeen, with_growth}
use Rattle.vnode_files.specs.Room.{RoomyVnode}
use Rattle.vnode_files.specs.Grow.{with_longer_last}
use Rattle.vnode_files.specs.Vnode.{with_extents}
use Rattle.vnode_files.specs.Step.{end_block, new_block, next_extents}
use Rattle.vnode_files.specs.Room.{IsSoundFiles}
use Rattle.vnode_files.proofs.FilesLemmas.{Taking, files_of, taking-end, taking-new}
use Rattle.vnode_files.proofs.files.Files.take_block.Goals as goal
use Rattle.vnode_files.proofs.files.Files.take_block.Goals.{After-index_mut, After-index_mut-in-Some-new_block}

-- the disks as they are kept
abbrev disks_of : List (ℕ × ℕ) → finmap.FinMap nat_cmp ℕ
disks_of es = finmap.from_entries es

at_end : (c : After-index_mut) → Taking (disks_of c.self.inside.disks.items) c.self.inside.vnodes.items c.args.file c.index_mut.result.now
    (record c.index_mut.result.now { seen = with_extents c.index_mut.result.now.seen (with_longer_last c.index_mut.result.now.seen.info.extents) })
    (next_extents (files_of (disks_of c.self.inside.disks.items) c.self.inside.vnodes.items) c.args.file)
at_end c =
    let within : c.args.file < length c.self.inside.vnodes.items =
    omega (arith, subst (λ (s : FilesSeen). c.args.file < length s.files) (sym c.self.view_is) c.requires.file, length-map c.self.inside.vnodes.items (λ (v : RoomyVnode). v.seen)) in
    taking-end (disks_of c.self.inside.disks.items) c.self.inside.vnodes.items c.args.file c.index_mut.result.now c.self.invariant within c.index_mut.ensures.value c.in-Some.block
    (ap (λ (s : FilesSeen). end_block s c.args.file) c.self.view_is ∙ sym c.end_block.ensures ∙ c.in-Some.is)

at_new : (c : After-index_mut-in-Some-new_block) → Taking (disks_of c.self.inside.disks.items) c.self.inside.vnodes.items c.args.file c.index_mut-in-Some-new_block.result.now
    (record c.index_mut-in-Some-new_block.result.now {
      seen = with_extents c.index_mut-in-Some-new_block.result.now.seen
          (c.index_mut-in-Some-new_block.result.now.seen.info.extents ++ record { start = c.in-Some-new_block.block; pages = 1 } ∷ []);
    })
    (next_extents (files_of (disks_of c.self.inside.disks.items) c.self.inside.vnodes.items) c.args.file)
at_new c =
    let within : c.args.file < length c.self.inside.vnodes.items =
    omega (arith, subst (λ (s : FilesSeen). c.args.file < length s.files) (sym c.self.view_is) c.requires.file, length-map c.self.inside.vnodes.items (λ (v : RoomyVnode). v.seen)) in
    taking-new (disks_of c.self.inside.disks.items) c.self.inside.vnodes.items c.args.file c.index_mut-in-Some-new_block.result.now c.self.invariant within
    c.index_mut-in-Some-new_block.ensures.value c.in-Some-new_block.block
    (ap (λ (s : FilesSeen). end_block s c.args.file) c.self.view_is ∙ sym c.end_block.ensures ∙ c.in_default.is)
    (ap (λ (s : FilesSeen). new_block s c.args.file) c.self.view_is ∙ sym c.new_block.ensures ∙ c.in-Some-new_block.is)

pub lengthen-requires-clause-room : goal.lengthen-requires-clause-room
lengthen-requires-clause-room c = (at_end (goal.at.lengthen-requires-clause-room c).After-index_mut).room

pub invariant_of-self : goal.invariant_of-self
invariant_of-self c =
    subst (λ (y : RoomyVnode). IsSoundFiles (disks_of c.self.inside.disks.items) (slice_set c.self.inside.vnodes.items c.args.file y)) (sym c.lengthen.ensures)
    (at_end (goal.at.invariant_of-self c).After-index_mut).sound

pub returns-in-Some-clause-new : goal.returns-in-Some-clause-new
returns-in-Some-clause-new c =
    ap (λ (y : RoomyVnode). files_of (disks_of c.self.inside.disks.items) (slice_set c.self.inside.vnodes.items c.args.file y)) c.lengthen.ensures
    ∙ (at_end (goal.at.returns-in-Some-clause-new c).After-index_mut).new
    ∙ ap (λ (s : FilesSeen). with_growth s c.args.file (next_extents s c.args.file)) c.self.view_is

pub push_extent-requires-clause-room : goal.push_extent-requires-clause-room
push_extent-requires-clause-room c = (at_new (goal.at.push_extent-requires-clause-room c).After-index_mut-in-Some-new_block).room

pub invariant_of-self-in-Some-new_block : goal.invariant_of-self-in-Some-new_block
invariant_of-self-in-Some-new_block c =
    subst (λ (y : RoomyVnode). IsSoundFiles (disks_of c.self.inside.disks.items) (slice_set c.self.inside.vnodes.items c.args.file y)) (sym c.push_extent.ensures)
    (at_new (goal.at.invariant_of-self-in-Some-new_block c).After-index_mut-in-Some-new_block).sound

pub returns-in-Some-new_block-clause-new : goal.returns-in-Some-new_block-clause-new
returns-in-Some-new_block-clause-new c =
    ap (λ (y : RoomyVnode). files_of (disks_of c.self.inside.disks.items) (slice_set c.self.inside.vnodes.items c.args.file y)) c.push_extent.ensures
    ∙ (at_new (goal.at.returns-in-Some-new_block-clause-new c).After-index_mut-in-Some-new_block).new
    ∙ ap (λ (s : FilesSeen). with_growth s c.args.file (next_extents s c.args.file)) c.self.view_is
