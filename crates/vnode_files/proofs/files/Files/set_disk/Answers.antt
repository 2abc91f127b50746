use Rattle.std.specs.Prelude.{ℕ, List}
use Rattle.std.specs.FinMap as finmap
use Rattle.std.proofs.lemmas.Grind.{common_steps}
use Rattle.std.proofs.Common.{arith, sym, subst, rules}
use Rattle.vnode_files.specs.Vnode.{VnodeSeen}
use Rattle.vnode_files.specs.Files.{FilesSeen}
use Rattle.vnode_files.proofs.SeenLemmas.{seen_of}
use Rattle.vnode_files.proofs.FilesLemmas as files
use Rattle.vnode_files.specs.Room.{IsSoundFiles}
use Rattle.std.specs.Prelude.{All, ◌≢◌}
use Rattle.vnode_files.specs.Layout.{KeepsLayout}
use Rattle.vnode_files.proofs.LayoutLaws.{keeps-self, keeps-disk}
use Rattle.vnode_files.proofs.files.Files.set_disk.Goals as goal

pub invariant_of-self-2 : goal.invariant_of-self-2
invariant_of-self-2 c =
    let none : All (λ (v : VnodeSeen). v.info.disk ≢ c.args.disk) (seen_of c.self.inside.vnodes.items) =
    subst (λ (s : FilesSeen). All (λ (v : VnodeSeen). v.info.disk ≢ c.args.disk) s.files) (sym c.self.view_is) c.requires in
    subst (λ (es : List (ℕ × ℕ)). IsSoundFiles (finmap.from_entries es) c.self.inside.vnodes.items) (sym c.in_ok-insert.ensures.items)
    (files.IsSoundFiles-disk (finmap.from_entries c.self.inside.disks.items) c.self.inside.vnodes.items c.args.disk c.args.blocks c.self.invariant none)

pub returns-clause-new : goal.returns-clause-new
returns-clause-new c = search rules

pub returns-clause-layout : goal.returns-clause-layout
returns-clause-layout c =
    subst (KeepsLayout c.args.self.now) (sym (returns-clause-new c)) (keeps-disk c.args.self.now c.args.disk c.args.blocks c.requires)

pub returns-in_err-insert-clause-layout : goal.returns-in_err-insert-clause-layout
returns-in_err-insert-clause-layout c = keeps-self _ _ (grind (arith, common_steps))
