use Rattle.std.specs.Prelude.{None, List}
use Rattle.std.specs.List.{last_or}
use Rattle.std.proofs.Common.{ap, ◌∙◌}
use Rattle.vnode_files.specs.declared.extent.Extent.{Extent}
use Rattle.vnode_files.proofs.FindLemmas.{last-is}
use Rattle.vnode_files.proofs.vnode.Vnode.last.Goals as goal

pub returns : goal.returns
returns c =
    c.copied.ensures ∙ c.last.ensures.value ∙ last-is c.list.result.now
    ∙ ap (λ (xs : List Extent). last_or None xs) (c.list.ensures ∙ ap (λ v. v.seen.info.extents) c.self.view_is)
