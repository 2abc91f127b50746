use Rattle.std.specs.Ordering.{nat_cmp}
use Rattle.std.specs.FinMap as finmap
use Rattle.std.proofs.Common.{ap, ◌∙◌, sym}
use Rattle.std.proofs.lemmas.Cmp.{nat_cmp_total}
use Rattle.std.proofs.lemmas.List.{drop_all}
use Rattle.vnode_files.specs.Files.{FilesSeen}
use Rattle.vnode_files.proofs.FilesLemmas as files
use Rattle.vnode_files.proofs.files.Files.disk_blocks.Goals as goal

pub loop-number-init : goal.loop-number-init
loop-number-init c =
    ap (finmap.find nat_cmp c.args.disk) c.deref-number-items.ensures.value
    ∙ sym (finmap.get-from_entries nat_cmp_total c.self.inside.disks.items c.args.disk)
    ∙ ap (λ (s : FilesSeen). finmap.get s.disks c.args.disk) c.self.view_is

pub loop-number-preserved : goal.loop-number-preserved
loop-number-preserved c =
    files.find-passed c.args.disk c.deref-number-items.result.now c.loop-number.number-index c.loop-number-test.true c.if-number-disk.false ∙ c.loop-number.invariant

pub returns-then-number-disk : goal.returns-then-number-disk
returns-then-number-disk c =
    sym (files.find-come c.args.disk c.deref-number-items.result.now c.loop-number.number-index c.loop-number-test.true c.if-number-disk.true) ∙ c.loop-number.invariant

pub returns : goal.returns
returns c =
    ap (finmap.find nat_cmp c.args.disk) (sym (drop_all c.loop-number.number-index c.deref-number-items.result.now c.loop-number-test.false)) ∙ c.loop-number.invariant
