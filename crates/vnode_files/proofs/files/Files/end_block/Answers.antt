use Rattle.std.specs.Prelude.{ℕ, ◌≡◌, ◌<◌, List, length, Option, Some, None, if◌then◌else◌}
use Rattle.std.proofs.Common.{ap, ◌∙◌, sym, arith, subst}
use Rattle.std.proofs.lemmas.List.{length-map}
use Rattle.vnode_files.specs.Vnode.{VnodeSeen, no_vnode}
use Rattle.vnode_files.specs.Files.{FilesSeen, vnode_at}
use Rattle.vnode_files.specs.Room.{RoomyVnode}
use Rattle.vnode_files.proofs.SeenLemmas.{seen_of, seen-at}
use Rattle.vnode_files.proofs.FilesLemmas as files
use Rattle.std.specs.Prelude.{unwrap_or}
use Rattle.std.specs.List.{last_or}
use Rattle.vnode_files.specs.Grow.{is_free, extent_end}
use Rattle.vnode_files.specs.Files.{extents_on, block_count}
use Rattle.vnode_files.specs.Step.{its_blocks}
use Rattle.vnode_files.proofs.files.Files.end_block.Goals as goal
use Rattle.vnode_files.proofs.files.Files.end_block.Goals.{After-last}

within : (c : After-last) → c.args.file < length c.self.inside.vnodes.items
within c = omega (arith, subst (λ (s : FilesSeen). c.args.file < length s.files) (sym c.self.view_is) c.requires, length-map c.self.inside.vnodes.items (λ (v : RoomyVnode). v.seen))

at : (c : After-last) → vnode_at c.args.self.now c.args.file ≡ c.index-vnode.result.now.seen
at c =
    ap (λ (s : FilesSeen). vnode_at s c.args.file) (sym c.self.view_is)
    ∙ seen-at c.self.inside.vnodes.items c.args.file c.index-vnode.result.now no_vnode (within c) c.index-vnode.ensures

on : (c : After-last) → c.info.result.now.disk ≡ (vnode_at c.args.self.now c.args.file).info.disk
on c = ap (λ i. i.disk) c.info.ensures.info ∙ ap (λ (v : VnodeSeen). v.info.disk) (sym (at c))

count : (c : After-last) → c.unwrap_or-blocks.result ≡ its_blocks c.args.self.now c.args.file
count c = c.unwrap_or-blocks.ensures ∙ ap (λ (o : Option ℕ). unwrap_or o 0) c.disk_blocks.ensures ∙ ap (block_count c.args.self.now.disks) (on c)

pub returns-in-Some : goal.returns-in-Some
returns-in-Some c =
    let d = (goal.at.returns-in-Some c).After-last in
    let files_are : seen_of c.deref.result.now ≡ c.args.self.now.files = ap seen_of c.deref.ensures.value ∙ ap (λ (s : FilesSeen). s.files) c.self.view_is in
    files.end_block-some c.args.self.now c.args.file c.info.result.now.disk c.unwrap_or-blocks.result c.requires (on d) (count d) c.in-Some.last c.free_end.result
    (ap (λ (v : VnodeSeen). last_or None v.info.extents) (at d) ∙ sym c.last.ensures ∙ c.in-Some.is)
    (c.free_end.ensures
    ∙ ap (λ (vs : List VnodeSeen). if is_free c.unwrap_or-blocks.result (extents_on c.info.result.now.disk vs) (extent_end c.in-Some.last) then Some (extent_end c.in-Some.last) else None) files_are)
