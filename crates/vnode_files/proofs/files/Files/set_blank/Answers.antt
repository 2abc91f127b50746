use Rattle.std.specs.Prelude.{◌<◌, List, length}
use Rattle.std.specs.FinMap as finmap
use Rattle.std.proofs.Common.{ap, ◌∙◌, sym, arith, refl, subst}
use Rattle.std.proofs.lemmas.List.{length-map}
use Rattle.vnode_files.specs.Vnode.{VnodeSeen, with_blank}
use Rattle.vnode_files.specs.Files.{FilesSeen, vnode_at, with_vnode}
use Rattle.vnode_files.specs.Room.{RoomyVnode}
use Rattle.vnode_files.proofs.SeenLemmas.{seen-set}
use Rattle.vnode_files.specs.Layout.{KeepsLayout}
use Rattle.vnode_files.proofs.LayoutLaws.{keeps-same}
use Rattle.vnode_files.proofs.files.Files.set_blank.Goals as goal

pub returns-clause-new : goal.returns-clause-new
returns-clause-new c =
    let within : c.args.file < length c.self.inside.vnodes.items =
    omega (arith, subst (λ (s : FilesSeen). c.args.file < length s.files) (sym c.self.view_is) c.requires.file, length-map c.self.inside.vnodes.items (λ (v : RoomyVnode). v.seen)) in
    let set = seen-set c.self.inside.vnodes.items c.args.file c.index_mut.result.now c.set_blank.new.self
    (λ v. with_blank v c.args.page c.args.blank) within c.index_mut.ensures.value (ap (λ (v : RoomyVnode). v.seen) c.set_blank.ensures) in
    ap (λ (fs : List VnodeSeen). let s : FilesSeen = record { disks = finmap.from_entries c.self.inside.disks.items; files = fs } in s) set
    ∙ ap (λ (s : FilesSeen). let v = vnode_at s c.args.file in with_vnode s c.args.file (with_blank v c.args.page c.args.blank)) c.self.view_is

pub returns-clause-layout : goal.returns-clause-layout
returns-clause-layout c =
    let s = c.args.self.now in
    subst (KeepsLayout c.args.self.now) (sym (returns-clause-new c)) (keeps-same s c.args.file (with_blank (vnode_at s c.args.file) c.args.page c.args.blank) c.requires.file refl refl)
