use Rattle.std.specs.Prelude.{◌≡◌, Bool, true, false, slice_index_or}
use Rattle.std.proofs.Common.{ap, ◌∙◌, sym, subst}
use Rattle.vnode_files.specs.Vnode.{VnodeSeen, no_vnode}
use Rattle.vnode_files.proofs.SeenLemmas.{seen_of, seen-at}
use Rattle.vnode_files.proofs.FilesLemmas as files
use Rattle.std.specs.Prelude.{IsTrue}
use Rattle.vnode_files.proofs.files.Files.number.Goals as goal

pub loop-number-preserved : goal.loop-number-preserved
loop-number-preserved c =
    let vnodes = c.deref-vnode-items.result.now in
    let at : slice_index_or (seen_of vnodes) c.loop-number.number no_vnode ≡ c.vnode-item.result.seen =
    seen-at vnodes c.loop-number.number c.vnode-item.result no_vnode c.loop-number-test.true c.vnode-item.is in
    files.NoneBefore-next (seen_of vnodes) c.args.name.now c.loop-number.number c.loop-number.invariant
    (λ same. let bad : false ≡ true = subst (λ (b : Bool). IsTrue b) c.if-is_named.false (c.is_named.ensures.1 (ap (λ (v : VnodeSeen). v.info.name) (sym at) ∙ same)) in cc)
