use Rattle.std.proofs.Common.{◌∙◌, ap, ◌++◌}
use Rattle.flat_model.specs.vnode_files.Grow.{is_free}
use Rattle.flat_state.proofs.Growths.{can-last}
use Rattle.flat_state.proofs.growth.can_lengthen.Goals as goal

pub returns-in-Some-clause-exact : goal.returns-in-Some-clause-exact
returns-in-Some-clause-exact c =
    c.is_free.ensures ∙ ap (is_free c.args.blocks (c.args.others.now ++ c.args.own.now)) c.extent_end.ensures
    ∙ can-last c.args.blocks c.args.others.now c.args.own.now c.in-Some.last.now c.in-Some.ensures.value
