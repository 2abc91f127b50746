use Rattle.std.specs.Prelude.{Bool, Some, None, is_some, if◌then◌else◌}
use Rattle.std.proofs.Common.{ap, ◌∙◌, sym}
use Rattle.vnode_files.specs.Grow.{has_block, extent_end}
use Rattle.vnode_files.specs.Files.{extents_on}
use Rattle.vnode_files.proofs.FindLemmas.{any-find}
use Rattle.vnode_files.proofs.ListLemmas.{taken-not_free, free-is, past-not_free}
use Rattle.vnode_files.proofs.SeenLemmas.{seen_of}
use Rattle.vnode_files.proofs.growth.free_end.Goals as goal

pub returns-then-end-blocks : goal.returns-then-end-blocks
returns-then-end-blocks c =
    sym (ap (λ (t : Bool). if t then Some (extent_end c.args.last) else None)
    (past-not_free c.args.blocks (extents_on c.args.disk (seen_of c.args.vnodes.now)) (extent_end c.args.last) c.if-end-blocks.true))

pub returns-in-Some : goal.returns-in-Some
returns-in-Some c =
    let used = extents_on c.args.disk (seen_of c.args.vnodes.now) in
    sym (ap (λ (t : Bool). if t then Some (extent_end c.args.last) else None)
    (taken-not_free c.args.blocks used (extent_end c.args.last) (any-find (has_block (extent_end c.args.last)) used ∙ ap is_some (sym c.extent_with.ensures ∙ c.in-Some.is))))

pub returns-in-None : goal.returns-in-None
returns-in-None c =
    let used = extents_on c.args.disk (seen_of c.args.vnodes.now) in
    sym (ap (λ (t : Bool). if t then Some (extent_end c.args.last) else None)
    (free-is c.args.blocks used (extent_end c.args.last) c.if-end-blocks.false (any-find (has_block (extent_end c.args.last)) used ∙ ap is_some (sym c.extent_with.ensures ∙ c.in-None.is))))
