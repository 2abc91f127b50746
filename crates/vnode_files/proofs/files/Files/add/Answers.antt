use Rattle.std.specs.Prelude.{◌≡◌, ◌<◌, List, length, Some}
use Rattle.std.specs.FinMap as finmap
use Rattle.std.proofs.Common.{ap, ◌∙◌, sym, arith, subst}
use Rattle.std.proofs.lemmas.Grind.{common_steps}
use Rattle.std.proofs.lemmas.List.{length-map}
use Rattle.vnode_files.specs.Vnode.{VnodeSeen}
use Rattle.vnode_files.specs.Files.{FilesSeen}
use Rattle.vnode_files.specs.Room.{RoomyVnode}
use Rattle.vnode_files.proofs.FilesLemmas as files
use Rattle.vnode_files.specs.Room.{IsSoundFiles}
use Rattle.vnode_files.specs.Grow.{page_count}
use Rattle.vnode_files.specs.Layout.{KeepsLayout}
use Rattle.vnode_files.proofs.LayoutLaws.{keeps-self, keeps-next}
use Rattle.vnode_files.proofs.files.Files.add.Goals as goal

pub invariant_of-self-2 : goal.invariant_of-self-2
invariant_of-self-2 c =
    let v = c.in_ok-vnode.vnode in
    let disks = finmap.from_entries c.self.inside.disks.items in
    let few : length c.self.inside.vnodes.items < 64 =
    omega (arith, subst (λ (s : FilesSeen). length s.files < 64) (sym c.self.view_is) c.requires.few, length-map c.self.inside.vnodes.items (λ (v : RoomyVnode). v.seen)) in
    let on : finmap.get disks v.seen.info.disk ≡ Some c.in-Some.blocks =
    ap (λ (w : VnodeSeen). finmap.get disks w.info.disk) c.in_ok-vnode.ensures.seen
    ∙ ap (λ (s : FilesSeen). finmap.get s.disks c.args.info.disk) c.self.view_is ∙ sym c.disk_blocks.ensures ∙ c.in-Some.is in
    let opened : v.opened ≡ page_count v.seen.info.extents =
    c.in_ok-vnode.ensures.opened ∙ ap (λ (w : VnodeSeen). page_count w.info.extents) (sym c.in_ok-vnode.ensures.seen) in
    subst (λ (vs : List RoomyVnode). IsSoundFiles disks vs) (sym c.in_ok-push.ensures.items)
    (files.IsSoundFiles-add disks c.self.inside.vnodes.items v c.in-Some.blocks c.self.invariant few on opened c.in_ok-vnode.ensures.room)

pub returns-clause-new : goal.returns-clause-new
returns-clause-new c = grind (arith, common_steps)

pub returns-clause-layout : goal.returns-clause-layout
returns-clause-layout c = λ place.
    subst (KeepsLayout c.args.self.now) (sym (returns-clause-new c)) (keeps-next c.args.self.now c.args.info place)

pub returns-in_err-push-clause-layout : goal.returns-in_err-push-clause-layout
returns-in_err-push-clause-layout c = λ place. keeps-self _ _ (grind (arith, common_steps))
