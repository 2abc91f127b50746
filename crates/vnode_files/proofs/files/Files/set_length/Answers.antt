use Rattle.std.specs.Prelude.{◌<◌, List, length}
use Rattle.std.specs.FinMap as finmap
use Rattle.std.proofs.Common.{ap, ◌∙◌, sym, arith, refl, subst}
use Rattle.std.proofs.lemmas.List.{length-map}
use Rattle.vnode_files.specs.Vnode.{VnodeSeen, with_length}
use Rattle.vnode_files.specs.Files.{FilesSeen, vnode_at, with_vnode}
use Rattle.vnode_files.specs.Room.{RoomyVnode}
use Rattle.vnode_files.proofs.SeenLemmas.{seen-set}
use Rattle.vnode_files.specs.Layout.{KeepsLayout}
use Rattle.vnode_files.proofs.LayoutLaws.{keeps-same}
use Rattle.vnode_files.proofs.files.Files.set_length.Goals as goal

pub returns-clause-new : goal.returns-clause-new
returns-clause-new c =
    let within : c.args.file < length c.self.inside.vnodes.items =
    omega (arith, subst (λ (s : FilesSeen). c.args.file < length s.files) (sym c.self.view_is) c.requires.file, length-map c.self.inside.vnodes.items (λ (v : RoomyVnode). v.seen)) in
    let set = seen-set c.self.inside.vnodes.items c.args.file c.index_mut.result.now c.set_length.new.self
    (λ v. with_length v c.args.bytes) within c.index_mut.ensures.value (ap (λ (v : RoomyVnode). v.seen) c.set_length.ensures) in
    ap (λ (fs : List VnodeSeen). let s : FilesSeen = record { disks = finmap.from_entries c.self.inside.disks.items; files = fs } in s) set
    ∙ ap (λ (s : FilesSeen). let v = vnode_at s c.args.file in with_vnode s c.args.file (with_length v c.args.bytes)) c.self.view_is

pub returns-clause-layout : goal.returns-clause-layout
returns-clause-layout c =
    let s = c.args.self.now in
    subst (KeepsLayout c.args.self.now) (sym (returns-clause-new c)) (keeps-same s c.args.file (with_length (vnode_at s c.args.file) c.args.bytes) c.requires.file refl refl)
